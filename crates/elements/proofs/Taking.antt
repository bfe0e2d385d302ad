-- An element takes something, pours a tuple, or is cut.
use Rattle.std.proofs.Common.{ℕ, ◌&&◌, not, Bool, true, false, List, [], ◌∷◌, ◌++◌, ◌≡◌, drop, length, refl, sym, ap, ◌∙◌, subst, append-nil, append_assoc, None, Some, Option, slice_get}
use Rattle.std.specs.Option.{MatchOption}
use Rattle.std.specs.Prelude.{IfErr, IfOk, Result, Ok, Err}
use Rattle.std.proofs.lemmas.Bool.{cond-true, cond-false}
use Rattle.spl_value.specs.declared.item.Item.{Item}
use Rattle.spl_value.specs.declared.packet.Packet.{Packet}
use Rattle.spl_value.specs.declared.packet.Packet.TheVariants as P
use Rattle.spl_value.specs.declared.types.Named.{Named}
use Rattle.spl_value.specs.declared.types.SplType.{SplType}
use Rattle.spl_value.specs.declared.value.Value.{Value}
use Rattle.spl_value.specs.Numbered.{IsProper, closes, is_cut}
use Rattle.stream_model.specs.Operators.{Operator}
use Rattle.stream_model.specs.Stream.{Event, any_closes, is_closed}
use Rattle.stream_model.specs.declared.outgoing.Outgoing.{Outgoing}
use Rattle.network_model.specs.Adds.{adds}
use Rattle.network_model.specs.Networks.{Part, inputs, outputs, is_sourced}
use Rattle.network_model.specs.Receipts.{Receipt, Popped, WasRead, popped, read_in}
use Rattle.network_model.specs.Sinks.{pours, pours_more}
use Rattle.network_model.specs.States.{At, all_taken, cut_off, cuts_from, drops, keeps, takes, waiting}
use Rattle.network_model.proofs.Adds.{pours_law}
use Rattle.network_model.proofs.ElementRule.{rule-cut, rule-drops, rule-keeps}
use Rattle.network_model.proofs.Receipts.{read_in-append}
use Rattle.element_notes.specs.Noting.{HasNoted}
use Rattle.element_notes.specs.declared.notes.Notes.{Notes}
use Rattle.element_outboxes.specs.declared.outbox.Outbox.{Outbox}
use Rattle.element_works.specs.Tuples.{HasTaken, IsKept, room_of, sink_waits}
use Rattle.element_works.specs.declared.tuples.Tuples.{Tuples}
use Rattle.elements.specs.declared.element.Element.{Element}
use Rattle.elements.specs.declared.input.Input.{Input}
use Rattle.elements.specs.declared.work.Work.{Work}
use Rattle.elements.specs.Inputs.{IsNoted, noted_all, new_input}
use Rattle.elements.specs.Standing.{IsAt, IsSpent, MayRead, MayTake, Poured}
use Rattle.elements.specs.Works.{HasWorked, MayWork, WorkAt}
use Rattle.elements.proofs.Receiving.{behind, closes-last, front-more, inputs_more, not-popped, not-read, proper_more}
use Rattle.elements.proofs.Working.{works_still}

pub err_then : {A E : Type 0} (Q : E → Type 0) (r : Result A E) → ((e : E) → Q e) → IfErr r Q
err_then Q (Ok x) f = tt
err_then Q (Err e) f = f e

-- what two facts of an answer give
pub ok_both : {A E : Type 0} (P K Q : A → Type 0) (r : Result A E) → ((x : A) → P x → K x → Q x) → IfOk r P → IfOk r K → IfOk r Q
ok_both P K Q (Ok x) f p k = f x p k
ok_both P K Q (Err e) f p k = tt

pub not_cutting : (p : Packet) → (p ≡ P.Cut → ⊥) → is_cut p ≡ false
not_cutting (P.Item n x) h = refl
not_cutting (P.Pulse n) h = refl
not_cutting P.Close h = refl
not_cutting P.Cut h = absurd (h refl)

module _ {R : Type 0} (spec : R → Operator) (stands : R → List Event → Type 0) where
  -- the element after something of it has changed
  abbrev pub changed : Element R → Work R → List Input → Bool → Outbox → Tuples → Notes → Bool → Element R
  changed e work ins reads outbox tuples notes cut = record { alloc = e.alloc; work = work; ins = e.ins; inputs = ins; reads = reads; fans = e.fans; outbox = outbox; outputs = e.outputs; was_ended = e.was_ended; was_sent = e.was_sent; tuples = tuples; notes = notes; cut = cut }

  -- ---- taking

  -- it owes for what it takes
  keeps_one : (e : Element R) (work : Work R) (ins : List Input) (reads : Bool) (outbox : Outbox) (tuples : Tuples) (notes : Notes) (r : Receipt) (part : Part) (a : At) (poured : List (List Value)) → a.cut ≡ false
      → IsAt spec stands part e a poured → length ins ≡ inputs part → ((i : ℕ) (x : Input) → slice_get ins i ≡ Some x → x ≡ noted_all new_input (popped i (a.kept ++ r ∷ [])))
      → ((i : ℕ) (s : List (Named SplType)) → slice_get e.ins i ≡ Some s → IsProper s (popped i (a.kept ++ r ∷ [])))
      → reads ≡ (is_sourced part && not (any_closes (read_in (a.kept ++ r ∷ [])))) → any_closes (read_in (a.kept ++ r ∷ [])) ≡ is_closed (read_in (a.kept ++ r ∷ []))
      → IsKept tuples → HasWorked spec stands part a.kept r work e.fans e.tuples tuples e.outbox outbox
      → HasNoted part notes (a.kept ++ r ∷ []) a.pushed poured
      → IsAt spec stands part (changed e work ins reads outbox tuples notes e.cut) (keeps part a r) poured
  keeps_one e work ins reads outbox tuples notes r part a poured uncut at count noted propers read closed kept worked has =
      let all : pours part (a.kept ++ r ∷ []) ≡ pours part a.kept ++ pours_more part a.kept r = pours_law part a.kept r in
      let front = at.spent.front in
      let longer : poured ++ (front.0 ++ pours_more part a.kept r) ≡ pours part (a.kept ++ r ∷ []) = front-more poured front.0 (pours part a.kept) (pours_more part a.kept r) (pours part (a.kept ++ r ∷ [])) front.1 all in
      let was : sink_waits e.tuples ≡ front.0 = at.tuples ∙ cond-false a.cut [] (drop (length poured) (pours part a.kept)) uncut ∙ behind poured front.0 (pours part a.kept) front.1 in
      record {
        spent = record {
          cut = at.spent.cut;
          input_count = count;
          taken = λ i x got. noted i x got ∙ ap (λ T. noted_all new_input (popped i T)) (sym (append-nil (a.kept ++ r ∷ [])) ∙ ap (λ ds. (a.kept ++ r ∷ []) ++ ds) (sym (at.none_dropped uncut)));
          schema_count = at.spent.schema_count;
          proper = λ i x got. subst (λ T. IsProper x (popped i T)) (sym (append-nil (a.kept ++ r ∷ [])) ∙ ap (λ ds. (a.kept ++ r ∷ []) ++ ds) (sym (at.none_dropped uncut))) (propers i x got);
          output_count = at.spent.output_count;
          put = at.spent.put;
          few = at.spent.few;
          rule = rule-keeps part a r uncut at.spent.rule;
          cuts = λ q. let clash : true ≡ false = sym q ∙ uncut in cc;
          closed = closed;
          front = (front.0 ++ pours_more part a.kept r, longer);
          notes = has;
        };
        outbox = λ q. ap (λ z. z ++ adds part a.kept r) (at.outbox q) ∙ sym worked.owes;
        tuples = worked.pours ∙ ap (λ z. z ++ pours_more part a.kept r) was
            ∙ sym (behind poured (front.0 ++ pours_more part a.kept r) (pours part (a.kept ++ r ∷ [])) longer)
            ∙ sym (cond-false a.cut [] (drop (length poured) (pours part (a.kept ++ r ∷ []))) uncut);
        kept = kept;
        none_dropped = at.none_dropped;
        reads = λ q. read;
        work = λ q. worked.works;
      }

  -- what it had taken, where it isn't cut
  pub taken_kept : (a : At) (e : Element R) (poured : List (List Value)) (part : Part) → a.cut ≡ false → IsAt spec stands part e a poured → all_taken a ≡ a.kept
  taken_kept a e poured part uncut at = ap (λ ds. a.kept ++ ds) (at.none_dropped uncut) ∙ append-nil a.kept

  -- it drops what it takes
  pub spent_more : (e : Element R) (work : Work R) (ins : List Input) (outbox : Outbox) (tuples : Tuples) (notes : Notes) (i : ℕ) (p : Packet) (part : Part) (a : At) (poured : List (List Value)) → IsNoted i p e.inputs ins
      → ((s : List (Named SplType)) → slice_get e.ins i ≡ Some s → IsProper s (popped i (all_taken a) ++ p ∷ [])) → IsSpent part e a poured
      → HasNoted part notes a.kept a.pushed poured → IsSpent part (changed e work ins e.reads outbox tuples notes e.cut) (drops a (Popped i p)) poured
  spent_more e work ins outbox tuples notes i p part a poured noted next spent has = record {
    cut = spent.cut;
    input_count = noted.count ∙ spent.input_count;
    taken = inputs_more i p e.inputs ins (all_taken a) (a.kept ++ (a.dropped ++ Popped i p ∷ [])) noted (sym (append_assoc a.kept a.dropped (Popped i p ∷ []))) spent.taken;
    schema_count = spent.schema_count;
    proper = proper_more e.ins (all_taken a) (a.kept ++ (a.dropped ++ Popped i p ∷ [])) i p (sym (append_assoc a.kept a.dropped (Popped i p ∷ []))) spent.proper next;
    output_count = spent.output_count;
    put = spent.put;
    few = spent.few;
    rule = rule-drops part a (Popped i p) spent.rule;
    cuts = spent.cuts;
    closed = spent.closed;
    front = spent.front;
    notes = has;
  }

  -- so it is where there was no memory
  pub take_lacks : {A E : Type 0} (e : Element R) (work : Work R) (ins : List Input) (outbox : Outbox) (tuples : Tuples) (notes : Notes) (i : ℕ) (p : Packet) → IsNoted i p e.inputs ins
      → ((part : Part) (kept : List Receipt) (pushed : List Outgoing) (poured : List (List Value)) → HasNoted part e.notes kept pushed poured → HasNoted part notes kept pushed poured) → (r : Result A E)
      → IfErr r (λ _. (part : Part) (a : At) (poured : List (List Value)) → IsAt spec stands part e a poured → MayTake e.ins part a i p
      → IsSpent part (changed e work ins e.reads outbox tuples notes e.cut) (drops a (Popped i p)) poured)
  take_lacks e work ins outbox tuples notes i p noted same (Ok x) = tt
  take_lacks e work ins outbox tuples notes i p noted same (Err u) =
      λ part a poured at may. spent_more e work ins outbox tuples notes i p part a poured noted may.proper at.spent (same part a.kept a.pushed poured at.spent.notes)

  pub take_cut : (e : Element R) (ins : List Input) (i : ℕ) (p : Packet) → IsNoted i p e.inputs ins → e.cut ≡ true
      → (part : Part) (a : At) (poured : List (List Value)) → IsAt spec stands part e a poured → MayTake e.ins part a i p
      → IsAt spec stands part (changed e e.work ins e.reads e.outbox e.tuples e.notes e.cut) (takes part a (Popped i p)) poured
  take_cut e ins i p noted cut part a poured at may =
      let is : a.cut ≡ true = sym at.spent.cut ∙ cut in
      subst (λ (b : At). IsAt spec stands part (changed e e.work ins e.reads e.outbox e.tuples e.notes e.cut) b poured) (sym (cond-true a.cut (drops a (Popped i p)) _ is))
      (record {
        spent = spent_more e e.work ins e.outbox e.tuples e.notes i p part a poured noted may.proper at.spent at.spent.notes;
        outbox = at.outbox;
        tuples = at.tuples;
        kept = at.kept;
        none_dropped = λ q. let clash : true ≡ false = sym is ∙ q in cc;
        reads = at.reads;
        work = at.work;
      })

  -- `Cut`
  pub take_cutting : (e next : Element R) (ins : List Input) (i : ℕ) (p : Packet) → p ≡ P.Cut → IsNoted i p e.inputs ins → e.cut ≡ false
      → ((part : Part) (b : At) (poured : List (List Value)) → IsSpent part (changed e e.work ins e.reads e.outbox e.tuples e.notes e.cut) b poured → IsAt spec stands part next (cut_off part b) poured)
      → (part : Part) (a : At) (poured : List (List Value)) → IsAt spec stands part e a poured → MayTake e.ins part a i p → IsAt spec stands part next (takes part a (Popped i p)) poured
  take_cutting e next ins i p is noted cut cuts part a poured at may =
      subst (λ (b : At). IsAt spec stands part next b poured)
      (sym (cond-false a.cut (drops a (Popped i p)) _ (sym at.spent.cut ∙ cut) ∙ cond-true (is_cut p) (cut_off part (drops a (Popped i p))) (keeps part a (Popped i p)) (ap is_cut is)))
      (cuts part (drops a (Popped i p)) poured (spent_more e e.work ins e.outbox e.tuples e.notes i p part a poured noted may.proper at.spent at.spent.notes))

  pub take_more : (e : Element R) (work : Work R) (ins : List Input) (outbox : Outbox) (tuples : Tuples) (notes : Notes) (i : ℕ) (p : Packet) → is_cut p ≡ false → IsNoted i p e.inputs ins → e.cut ≡ false → IsKept tuples
      → ((part : Part) (T : List Receipt) → WorkAt spec stands part T e.work e.fans e.tuples → MayWork part T (Popped i p) → HasWorked spec stands part T (Popped i p) work e.fans e.tuples tuples e.outbox outbox)
      → (part : Part) (a : At) (poured : List (List Value)) → IsAt spec stands part e a poured → MayTake e.ins part a i p
      → (a.cut ≡ false → HasNoted part notes (a.kept ++ Popped i p ∷ []) a.pushed poured)
      → IsAt spec stands part (changed e work ins e.reads outbox tuples notes e.cut) (takes part a (Popped i p)) poured
  take_more e work ins outbox tuples notes i p uncutting noted cut kept run part a poured at may has =
      let uncut : a.cut ≡ false = sym at.spent.cut ∙ cut in
      let same : read_in (a.kept ++ Popped i p ∷ []) ≡ read_in a.kept = not-read a.kept i p in
      subst (λ (b : At). IsAt spec stands part (changed e work ins e.reads outbox tuples notes e.cut) b poured)
      (sym (cond-false a.cut (drops a (Popped i p)) _ uncut ∙ cond-false (is_cut p) (cut_off part (drops a (Popped i p))) (keeps part a (Popped i p)) uncutting))
      (keeps_one e work ins e.reads outbox tuples notes (Popped i p) part a poured uncut at (noted.count ∙ at.spent.input_count)
      (inputs_more i p e.inputs ins (all_taken a) (a.kept ++ Popped i p ∷ []) noted (ap (λ T. T ++ Popped i p ∷ []) (sym (taken_kept a e poured part uncut at))) at.spent.taken)
      (proper_more e.ins (all_taken a) (a.kept ++ Popped i p ∷ []) i p (ap (λ T. T ++ Popped i p ∷ []) (sym (taken_kept a e poured part uncut at))) at.spent.proper may.proper)
      (at.reads uncut ∙ ap (λ xs. is_sourced part && not (any_closes xs)) (sym same)) (ap any_closes same ∙ at.spent.closed ∙ ap is_closed (sym same)) kept (run part a.kept (at.work uncut) (may.works uncut)) (has uncut))

  -- ---- reading

  pub read_one : (e : Element R) (work : Work R) (reads : Bool) (outbox : Outbox) (tuples : Tuples) (notes : Notes) (x : Item) → IsKept tuples
      → ((part : Part) (T : List Receipt) → WorkAt spec stands part T e.work e.fans e.tuples → MayWork part T (WasRead x) → HasWorked spec stands part T (WasRead x) work e.fans e.tuples tuples e.outbox outbox)
      → (part : Part) (a : At) (poured : List (List Value)) → IsAt spec stands part e a poured → MayRead part a x → reads ≡ not (closes x)
      → HasNoted part notes (a.kept ++ WasRead x ∷ []) a.pushed poured
      → IsAt spec stands part (changed e work e.inputs reads outbox tuples notes e.cut) (takes part a (WasRead x)) poured
  read_one e work reads outbox tuples notes x kept run part a poured at may on has =
      let uncut : a.cut ≡ false = may.still.whole in
      let all : read_in (a.kept ++ WasRead x ∷ []) ≡ read_in a.kept ++ x ∷ [] = read_in-append a.kept (WasRead x ∷ []) in
      let last = closes-last (read_in a.kept) x may.still.unclosed in
      subst (λ (b : At). IsAt spec stands part (changed e work e.inputs reads outbox tuples notes e.cut) b poured) (sym (cond-false a.cut (drops a (WasRead x)) (keeps part a (WasRead x)) uncut))
      (keeps_one e work e.inputs reads outbox tuples notes (WasRead x) part a poured uncut at at.spent.input_count
      (λ i y got. at.spent.taken i y got ∙ ap (λ T. noted_all new_input (popped i T)) (taken_kept a e poured part uncut at) ∙ ap (noted_all new_input) (sym (not-popped i a.kept x)))
      (λ i s got. subst (IsProper s) (ap (popped i) (taken_kept a e poured part uncut at) ∙ sym (not-popped i a.kept x)) (at.spent.proper i s got))
      (on ∙ ap not (sym last.0 ∙ ap any_closes (sym all)) ∙ ap (λ b. b && not (any_closes (read_in (a.kept ++ WasRead x ∷ [])))) (sym may.still.sourced))
      (ap any_closes all ∙ last.0 ∙ sym last.1 ∙ ap is_closed (sym all)) kept (run part a.kept (at.work uncut) may.works) has)

  -- a source that is still to be read
  pub still_on : (e : Element R) (part : Part) (a : At) (poured : List (List Value)) (x : Item) → IsAt spec stands part e a poured → MayRead part a x → e.reads ≡ true
  still_on e part a poured x at may = at.reads may.still.whole ∙ ap (λ b. b && not (any_closes (read_in a.kept))) may.still.sourced ∙ ap not may.still.unclosed

  pub read_lacks : (e : Element R) (work : Work R) (reads : Bool) (outbox : Outbox) (tuples : Tuples) (x : Item) (part : Part) (a : At) (poured : List (List Value)) → IsAt spec stands part e a poured
      → IsSpent part (changed e work e.inputs reads outbox tuples e.notes e.cut) (drops a (WasRead x)) poured
  read_lacks e work reads outbox tuples x part a poured at = record {
    cut = at.spent.cut;
    input_count = at.spent.input_count;
    taken = λ i y got. at.spent.taken i y got ∙ ap (noted_all new_input) (sym (not-popped i (all_taken a) x) ∙ ap (popped i) (append_assoc a.kept a.dropped (WasRead x ∷ [])));
    schema_count = at.spent.schema_count;
    proper = λ i s got. subst (IsProper s) (sym (not-popped i (all_taken a) x) ∙ ap (popped i) (append_assoc a.kept a.dropped (WasRead x ∷ []))) (at.spent.proper i s got);
    output_count = at.spent.output_count;
    put = at.spent.put;
    few = at.spent.few;
    rule = rule-drops part a (WasRead x) at.spent.rule;
    cuts = at.spent.cuts;
    closed = at.spent.closed;
    front = at.spent.front;
    notes = at.spent.notes;
  }

  -- ---- pouring

  -- the tuples for the sink, of an element that isn't cut
  poured_rest : (e : Element R) (part : Part) (a : At) (poured : List (List Value)) → IsAt spec stands part e a poured → a.cut ≡ false → poured ++ sink_waits e.tuples ≡ pours part a.kept
  poured_rest e part a poured at uncut =
      let f = at.spent.front in
      ap (λ z. poured ++ z) (at.tuples ∙ cond-false a.cut [] (drop (length poured) (pours part a.kept)) uncut ∙ behind poured f.0 (pours part a.kept) f.1) ∙ f.1

  pub pour_one : (e : Element R) (t : Tuples) (notes : Notes) (tuple : List Value) → sink_waits e.tuples ≡ tuple ∷ sink_waits t → IsKept t → room_of t ≡ room_of e.tuples
      → (part : Part) (a : At) (poured : List (List Value)) → IsAt spec stands part e a poured
      → HasNoted part notes a.kept a.pushed (poured ++ tuple ∷ [])
      → Poured part a poured tuple × IsAt spec stands part (changed e e.work e.inputs e.reads e.outbox t notes e.cut) a (poured ++ tuple ∷ [])
  pour_one e t notes tuple next kept room part a poured at has = go a.cut refl
    where
      go : (b : Bool) → a.cut ≡ b → Poured part a poured tuple × IsAt spec stands part (changed e e.work e.inputs e.reads e.outbox t notes e.cut) a (poured ++ tuple ∷ [])
      go true q = let clash : tuple ∷ sink_waits t ≡ [] = sym next ∙ at.tuples ∙ cond-true a.cut [] (drop (length poured) (pours part a.kept)) q in cc
      go false q =
          let whole : (poured ++ tuple ∷ []) ++ sink_waits t ≡ pours part a.kept = append_assoc poured (tuple ∷ []) (sink_waits t) ∙ ap (λ z. poured ++ z) (sym next) ∙ poured_rest e part a poured at q in (
            (sink_waits t, sym at.tuples ∙ next),
            record {
              spent = record {
                cut = at.spent.cut;
                input_count = at.spent.input_count;
                taken = at.spent.taken;
                schema_count = at.spent.schema_count;
                proper = at.spent.proper;
                output_count = at.spent.output_count;
                put = at.spent.put;
                few = at.spent.few;
                rule = at.spent.rule;
                cuts = at.spent.cuts;
                closed = at.spent.closed;
                front = (sink_waits t, whole);
                notes = has;
              };
              outbox = at.outbox;
              tuples = sym (behind (poured ++ tuple ∷ []) (sink_waits t) (pours part a.kept) whole) ∙ sym (cond-false a.cut [] (drop (length (poured ++ tuple ∷ [])) (pours part a.kept)) q);
              kept = kept;
              none_dropped = at.none_dropped;
              reads = at.reads;
              work = λ u. works_still spec stands part a.kept e.work e.fans e.tuples t room (λ none. let clash : tuple ∷ sink_waits t ≡ [] = sym next ∙ none in cc) (at.work u);
            },
          )

  pub pour_none : (e : Element R) (t : Tuples) → sink_waits e.tuples ≡ [] → sink_waits t ≡ [] → IsKept t → room_of t ≡ room_of e.tuples
      → (part : Part) (a : At) (poured : List (List Value)) → IsAt spec stands part e a poured
      → (waiting part a poured ≡ []) × IsAt spec stands part (changed e e.work e.inputs e.reads e.outbox t e.notes e.cut) a poured
  pour_none e t none now kept room part a poured at = (
    sym at.tuples ∙ none,
    record {
      spent = record {
        cut = at.spent.cut;
        input_count = at.spent.input_count;
        taken = at.spent.taken;
        schema_count = at.spent.schema_count;
        proper = at.spent.proper;
        output_count = at.spent.output_count;
        put = at.spent.put;
        few = at.spent.few;
        rule = at.spent.rule;
        cuts = at.spent.cuts;
        closed = at.spent.closed;
        front = at.spent.front;
        notes = at.spent.notes;
      };
      outbox = at.outbox;
      tuples = now ∙ sym none ∙ at.tuples;
      kept = kept;
      none_dropped = at.none_dropped;
      reads = at.reads;
      work = λ u. works_still spec stands part a.kept e.work e.fans e.tuples t room (λ z. now) (at.work u);
    },
  )

  -- ---- cutting

  pub cut_one : (e : Element R) (outbox : Outbox) (t : Tuples) → sink_waits t ≡ [] → IsKept t → (part : Part) (a : At) (poured : List (List Value)) → IsSpent part e a poured
      → IsAt spec stands part (changed e e.work e.inputs e.reads outbox t e.notes true) (cut_off part a) poured
  cut_one e outbox t none kept part a poured spent = go a.cut refl
    where
      go : (b : Bool) → a.cut ≡ b → IsAt spec stands part (changed e e.work e.inputs e.reads outbox t e.notes true) (cut_off part a) poured
      go true q = subst (λ (b : At). IsAt spec stands part (changed e e.work e.inputs e.reads outbox t e.notes true) b poured) (sym (cond-true a.cut a _ q)) (record {
        spent = record {
          cut = sym q;
          input_count = spent.input_count;
          taken = spent.taken;
          schema_count = spent.schema_count;
          proper = spent.proper;
          output_count = spent.output_count;
          put = spent.put;
          few = spent.few;
          rule = spent.rule;
          cuts = spent.cuts;
          closed = spent.closed;
          front = spent.front;
          notes = spent.notes;
        };
        outbox = λ u. let clash : true ≡ false = sym q ∙ u in cc;
        tuples = none ∙ sym (cond-true a.cut [] (drop (length poured) (pours part a.kept)) q);
        kept = kept;
        none_dropped = λ u. let clash : true ≡ false = sym q ∙ u in cc;
        reads = λ u. let clash : true ≡ false = sym q ∙ u in cc;
        work = λ u. absurd (let clash : true ≡ false = sym q ∙ u in cc);
      })
      go false q = subst (λ (b : At). IsAt spec stands part (changed e e.work e.inputs e.reads outbox t e.notes true) b poured)
          (sym (cond-false a.cut a (record { kept = a.kept; dropped = a.dropped; pushed = a.pushed; outbox = cuts_from 0 (outputs part) a.pushed; cut = true }) q)) (record {
            spent = record {
              cut = refl;
              input_count = spent.input_count;
              taken = spent.taken;
              schema_count = spent.schema_count;
              proper = spent.proper;
              output_count = spent.output_count;
              put = spent.put;
              few = spent.few;
              rule = rule-cut part a q spent.rule;
              cuts = λ u. refl;
              closed = spent.closed;
              front = spent.front;
              notes = spent.notes;
            };
            outbox = λ u. let clash : true ≡ false = u in cc;
            tuples = none;
            kept = kept;
            none_dropped = λ u. let clash : true ≡ false = u in cc;
            reads = λ u. let clash : true ≡ false = u in cc;
            work = λ u. absurd (let clash : true ≡ false = u in cc);
          })
