-- How an element and what belongs to it stay together.
use Rattle.std.proofs.Common.{ℕ, ◌≡◌, ◌<◌, ◌≤◌, ◌^◌, ◌||◌, inl, inr, Bool, true, false, cond, List, [], ◌∷◌, ◌++◌}
use Rattle.std.proofs.Common.{length, get_or, set, Option, Some, None, Vec, sym, refl, ap, ◌∙◌, subst, append-nil}
use Rattle.std.proofs.Common.{append_assoc, arith, ⊎_elim}
use Rattle.std.specs.List.{list_any}
use Rattle.std.proofs.lemmas.List.{length-append, length-set}
use Rattle.spl_value.specs.declared.item.Item.{Item}
use Rattle.spl_value.specs.declared.packet.Packet.{Packet}
use Rattle.spl_value.specs.declared.value.Value.{Value}
use Rattle.spl_value.specs.Numbered.{closes}
use Rattle.stream_model.specs.Stream.{any_closes}
use Rattle.stream_model.specs.Sending.{outgoing}
use Rattle.feed_pour.specs.Counts.{Counted, Rose}
use Rattle.network_model.specs.Networks.{Part, outputs, is_sourced}
use Rattle.network_model.specs.Receipts.{Receipt, Popped, WasRead, popped, read_in}
use Rattle.network_model.specs.States.{At, all_taken, cut_off, is_cut_receipt, lacks, new_element, puts, takes}
use Rattle.network_model.proofs.Receipts.{popped-append, read_in-append}
use Rattle.std.specs.declared.alloc.Global.{Global}
use Rattle.ordered_link.specs.declared.ends.Link.{Link}
use Rattle.ordered_link.specs.Ends.{sent, taken}
use Rattle.node_turns.specs.declared.ends.Inlet.{Inlet}
use Rattle.node_turns.specs.declared.ends.Outlet.{Outlet}
use Rattle.node_turns.specs.declared.node.Node.{Node}
use Rattle.node_turns.specs.declared.note.Note.{Note}
use Rattle.node_turns.specs.declared.note.Note.TheVariants as N
use Rattle.node_turns.specs.Calls.{IsFew, StillReads, Tuples}
use Rattle.node_turns.specs.Made.{IsMadeFor, IsReader, IsWriter}
use Rattle.node_turns.specs.Meets.{Meets, NodeMeets, Reads, Runs, Writes}
use Rattle.node_turns.specs.Notes.{is_clean, is_improper, is_stopping, is_unwritten, worse}
use Rattle.node_turns.specs.Placed.{InsPlaced, OutsPlaced, TakenIs}
use Rattle.node_turns.proofs.Changes.{IsTakenBy, after_lacks, after_takes, any_more, cut_of, stops}
use Rattle.node_turns.proofs.LinkEnds.{sent_kept, sent_more, sent_none, taken_kept, taken_more, taken_none}

-- ---- notes

-- what doesn't weigh more than that a packet was improper wasn't it before
pub milder : (note why : Note) → is_improper (worse note why) ≡ false → is_improper note ≡ false
milder N.Nothing why h = refl
milder N.Write why h = refl
milder (N.Worn l) why h = refl
milder N.Memory why h = refl
milder N.Improper N.Nothing h = h
milder N.Improper N.Write h = h
milder N.Improper (N.Worn l) h = h
milder N.Improper N.Memory h = h
milder N.Improper N.Improper h = h

unclean : (note : Note) → is_stopping note ≡ true → is_clean note ≡ false
unclean N.Nothing h = absurd (let clash : false ≡ true = h in cc)
unclean N.Write h = refl
unclean (N.Worn l) h = refl
unclean N.Memory h = refl
unclean N.Improper h = refl

written_else : (note : Note) → is_stopping note ≡ true → is_unwritten note ≡ false
written_else N.Nothing h = refl
written_else N.Write h = absurd (let clash : false ≡ true = h in cc)
written_else (N.Worn l) h = refl
written_else N.Memory h = refl
written_else N.Improper h = refl

-- ---- items

closes_more : (xs : List Item) (x : Item) → any_closes xs ≡ false → any_closes (xs ++ x ∷ []) ≡ closes x
closes_more [] x h = go (closes x)
  where
    go : (b : Bool) → cond b true false ≡ b
    go true = refl
    go false = refl
closes_more (y ∷ xs) x h = go (closes y) h (λ k. closes_more xs x k)
  where
    go : (b : Bool) → cond b true (any_closes xs) ≡ false → (any_closes xs ≡ false
        → any_closes (xs ++ x ∷ []) ≡ closes x)
        → cond b true (any_closes (xs ++ x ∷ [])) ≡ closes x
    go true k ih = absurd (let clash : true ≡ false = k in cc)
    go false k ih = ih k

taken_read : (ins : List Inlet) (x : Item) (a b : At) → all_taken b ≡ all_taken a ++ WasRead x ∷ []
    → TakenIs ins a → TakenIs ins b
taken_read ins x a b all was i d below =
    ap (popped i) all ∙ popped-append i (all_taken a) (WasRead x ∷ []) ∙ append-nil (popped i (all_taken a))
    ∙ was i d below

module _ {E S K : Type 0} (stands : E → Part → At → Tuples → Type 0) (gave : S → Part → List Item → S → Type 0)
    (front : S → List Item → Type 0) (over : S → Bool) (took began : K → Tuples → K → Type 0) (faults : K → ℕ) where
  abbrev pub M : Part → E → List Inlet → List Outlet → Option S → Option S → Option K → Option K → Note → Type 0
  M part e ins outs first source clean sink note =
      Meets stands gave front over took began faults part e ins outs first source clean sink note

  -- ---- the sink

  writes_stopped : (note now : Note) (poured : Tuples) (clean sink : Option K) → is_stopping now ≡ true
      → Writes took began faults note poured clean sink → Writes took began faults now poured clean sink
  writes_stopped note now poured None None stopped w = w
  writes_stopped note now poured None (Some k) stopped w = w
  writes_stopped note now poured (Some f) None stopped w = w
  writes_stopped note now poured (Some f) (Some k) stopped w = record {
    written = w.written;
    is_front = w.is_front;
    all = λ clean. absurd (let clash : true ≡ false = sym clean ∙ unclean now stopped in cc);
    text = w.text;
    rises = w.rises;
    fault = λ unwritten. absurd (let clash : true ≡ false = sym unwritten ∙ written_else now stopped in cc);
  }

  -- no sink
  pub writes_none : (note : Note) (poured : Tuples) (t : List Value) (clean : Option K)
      → Writes took began faults note poured clean None → Writes took began faults note (poured ++ t ∷ []) clean None
  writes_none note poured t None w = w
  writes_none note poured t (Some f) w = w

  -- something went wrong before
  pub writes_passed : (note : Note) (poured : Tuples) (t : List Value) (clean : Option K) (sink : K)
      → is_clean note ≡ false
      → Writes took began faults note poured clean (Some sink) → Writes took began faults note (poured ++ t ∷ [])
      clean (Some sink)
  writes_passed note poured t None sink wrong w = w
  writes_passed note poured t (Some f) sink wrong w = record {
    written = w.written;
    is_front = (
      w.is_front.0 ++ t ∷ [],
      sym (append_assoc w.written w.is_front.0 (t ∷ [])) ∙ ap
          (λ xs. xs ++ t ∷ []) w.is_front.1,
    );
    all = λ clean. absurd (let clash : true ≡ false = sym clean ∙ wrong in cc);
    text = w.text;
    rises = w.rises;
    fault = w.fault;
  }

  -- it was written
  pub writes_one : (note : Note) (poured : Tuples) (t : List Value) (clean : Option K) (sink next : K)
      → is_clean note ≡ true
      → ((first : K) (tuples : Tuples) → took first tuples sink → took first (tuples ++ t ∷ []) next)
      → faults next ≡ faults sink
      → Writes took began faults note poured clean (Some sink) → Writes took began faults note (poured ++ t ∷ [])
      clean (Some next)
  writes_one note poured t None sink next right law same w = w
  writes_one note poured t (Some f) sink next right law same w =
      let so = w.all right in
      let now : took f (poured ++ t ∷ []) next =
      law f poured (subst (λ (ts : Tuples). took f ts sink) so.0 so.1) in
      record {
        written = poured ++ t ∷ [];
        is_front = ([], append-nil (poured ++ t ∷ []));
        all = λ _. (refl, now);
        text = inl now;
        rises = omega (arith, w.rises, same);
        fault = λ unwritten. subst (λ n. Rose (faults f) n) (sym same) (w.fault unwritten);
      }

  -- a front of it was
  pub writes_failed : (note now : Note) (poured : Tuples) (t : List Value) (clean : Option K) (sink next : K) (failed
      : Bool) → is_clean note ≡ true
      → is_clean now ≡ false → (is_unwritten now ≡ true → failed ≡ true)
      → ((first : K) (tuples : Tuples) → took first tuples sink → began first (tuples ++ t ∷ []) next)
      → Counted failed (faults sink) (faults next)
      → Writes took began faults note poured clean (Some sink) → Writes took began faults now (poured ++ t ∷ [])
      clean (Some next)
  writes_failed note now poured t None sink next failed right wrong cause law counted w = w
  writes_failed note now poured t (Some f) sink next failed right wrong cause law counted w =
      let so = w.all right in
      record {
        written = poured ++ t ∷ [];
        is_front = ([], append-nil (poured ++ t ∷ []));
        all = λ clean. absurd (let clash : true ≡ false = sym clean ∙ wrong in cc);
        text = inr (law f poured (subst (λ (ts : Tuples). took f ts sink) so.0 so.1));
        rises = grows failed w.rises counted;
        fault = λ unwritten. rose failed (cause unwritten) w.rises counted;
      }
    where
      grows : (b : Bool) → faults f ≤ faults sink → Counted b (faults sink) (faults next) → faults f ≤ faults next
      grows true r c = omega (arith, r, c.0)
      grows false r c = omega (arith, r, c)

      rose : (b : Bool) → b ≡ true → faults f ≤ faults sink → Counted b (faults sink) (faults next)
          → Rose (faults f) (faults next)
      rose true e r c = omega (arith, r, c.1)
      rose false e r c = absurd (let clash : false ≡ true = e in cc)

  -- ---- the element is cut

  reads_cut : (part : Part) (first source : Option S) (items : List Item) (a b : Bool) → b ≡ true
      → Reads gave front over part first source items a → Reads gave front over part first source items b
  reads_cut part None None items a b e r = r
  reads_cut part None (Some s) items a b e r = r
  reads_cut part (Some f) None items a b e r = r
  reads_cut part (Some f) (Some s) items a b e r = ⊎_elim (λ g. inl g) (λ g. inr (g.0, e)) r

  pub cut_one : (part : Part) (e e2 : E) (ins : List Inlet) (outs : List Outlet) (first source : Option S) (clean
      sink : Option K)
      (note now why : Note) → now ≡ worse note why → is_stopping why ≡ true
      → ((a : At) (poured : Tuples) → stands e part a poured → stands e2 part (cut_off part a) poured)
      → M part e ins outs first source clean sink note → M part e2 ins outs first source clean sink now
  cut_one part e e2 ins outs first source clean sink note now why is stopping cuts m =
      let b = cut_off part m.a in
      let c = cut_of part m.a in
      let stopped : is_stopping now ≡ true = ap is_stopping is ∙ stops note why stopping in
      record {
        a = b;
        poured = m.poured;
        at = cuts m.a m.poured m.at;
        whole = λ uncut. absurd (let clash : true ≡ false = sym c.cut ∙ uncut in cc);
        few = m.few;
        input_count = m.input_count;
        output_count = m.output_count;
        takes = λ proper. taken_kept ins m.a b c.all (m.takes (milder note why (sym (ap is_improper is) ∙ proper)));
        sends = sent_kept outs m.a b c.pushed m.sends;
        cut = c.cut ∙ ap (λ s. s || list_any is_cut_receipt (all_taken b)) (sym stopped);
        reads = reads_cut part first source (read_in (all_taken b)) m.a.cut b.cut c.cut
            (subst (λ T. Reads gave front over part first source (read_in T) m.a.cut) (sym c.all) m.reads);
        writes = writes_stopped note now m.poured clean sink stopped m.writes;
      }

  cut_more : (a b : At) (r : Receipt) (stopping : Bool) → IsTakenBy a b r → a.cut ≡ (stopping || list_any
      is_cut_receipt (all_taken a))
      → b.cut ≡ (stopping || list_any is_cut_receipt (all_taken b))
  cut_more a b r stopping t was =
      t.cut ∙ ap (λ c. c || is_cut_receipt r) was ∙ or_both stopping (list_any is_cut_receipt (all_taken a))
      (is_cut_receipt r)
      ∙ ap (λ c. stopping || c) (sym (ap (list_any is_cut_receipt) t.after.all ∙ any_more (all_taken a) r))
    where
      or_both : (x y z : Bool) → (x || y) || z ≡ x || (y || z)
      or_both true y z = refl
      or_both false y z = refl

  -- ---- putting

  pub sent_one : (part : Part) (e e2 : E) (ins : List Inlet) (outs : List Outlet) (first source : Option S) (clean
      sink : Option K) (note : Note)
      (k : ℕ) (old new : Outlet) (p : Packet) → old ≡ get_or outs k old → sent new.pass ≡ sent old.pass ++ p ∷ []
      → ((a : At) (poured : Tuples) → stands e part a poured → (k < outputs part)
      × stands e2 part (puts a (outgoing k p)) poured)
      → M part e ins outs first source clean sink note → M part e2 ins (set outs k new) first source clean sink note
  sent_one part e e2 ins outs first source clean sink note k old new p is more law m =
      let l = law m.a m.poured m.at in
      let low : k < length outs = omega (arith, l.0, m.output_count) in
      record {
        a = puts m.a (outgoing k p);
        poured = m.poured;
        at = l.1;
        whole = m.whole;
        few = m.few;
        input_count = m.input_count;
        output_count = length-set outs k new ∙ m.output_count;
        takes = m.takes;
        sends = sent_more outs k old new p m.a (puts m.a (outgoing k p)) low is more refl m.sends;
        cut = m.cut;
        reads = m.reads;
        writes = m.writes;
      }

  -- it was handed back
  pub unsent_one : (part : Part) (e e2 : E) (ins : List Inlet) (outs : List Outlet) (first source : Option S) (clean
      sink : Option K) (note : Note)
      (k : ℕ) (old new : Outlet) → old ≡ get_or outs k old → sent new.pass ≡ sent old.pass
      → ((a : At) (poured : Tuples) → stands e part a poured → (k < outputs part) × stands e2 part a poured)
      → M part e ins outs first source clean sink note → M part e2 ins (set outs k new) first source clean sink note
  unsent_one part e e2 ins outs first source clean sink note k old new is same law m =
      let l = law m.a m.poured m.at in
      let low : k < length outs = omega (arith, l.0, m.output_count) in
      record {
        a = m.a;
        poured = m.poured;
        at = l.1;
        whole = m.whole;
        few = m.few;
        input_count = m.input_count;
        output_count = length-set outs k new ∙ m.output_count;
        takes = m.takes;
        sends = sent_none outs k old new m.a low is same m.sends;
        cut = m.cut;
        reads = m.reads;
        writes = m.writes;
      }

  -- ---- taking

  -- none was there
  pub untaken_one : (part : Part) (e : E) (ins : List Inlet) (outs : List Outlet) (first source : Option S) (clean
      sink : Option K) (note : Note)
      (k : ℕ) (old new : Inlet) → k < length ins → old ≡ get_or ins k old → taken new.pass ≡ taken old.pass
      → M part e ins outs first source clean sink note → M part e (set ins k new) outs first source clean sink note
  untaken_one part e ins outs first source clean sink note k old new low is same m = record {
    a = m.a;
    poured = m.poured;
    at = m.at;
    whole = m.whole;
    few = m.few;
    input_count = length-set ins k new ∙ m.input_count;
    output_count = m.output_count;
    takes = λ proper. taken_none ins k old new m.a low is same (m.takes proper);
    sends = m.sends;
    cut = m.cut;
    reads = m.reads;
    writes = m.writes;
  }

  -- it wasn't proper
  pub improper_one : (part : Part) (e e2 : E) (ins : List Inlet) (outs : List Outlet) (first source : Option S)
      (clean sink : Option K)
      (note now : Note) (k : ℕ) (new : Inlet) → now ≡ worse note N.Improper
      → ((a : At) (poured : Tuples) → stands e part a poured → stands e2 part (cut_off part a) poured)
      → M part e ins outs first source clean sink note → M part e2 (set ins k new) outs first source clean sink now
  improper_one part e e2 ins outs first source clean sink note now k new is cuts m =
      let w = cut_one part e e2 ins outs first source clean sink note now N.Improper is refl cuts m in
      record {
        a = w.a;
        poured = w.poured;
        at = w.at;
        whole = w.whole;
        few = w.few;
        input_count = length-set ins k new ∙ w.input_count;
        output_count = w.output_count;
        takes = λ proper. absurd (let clash : true ≡ false = sym (noted note) ∙ sym (ap is_improper is) ∙ proper in cc);
        sends = w.sends;
        cut = w.cut;
        reads = w.reads;
        writes = w.writes;
      }
    where
      noted : (n : Note) → is_improper (worse n N.Improper) ≡ true
      noted N.Nothing = refl
      noted N.Write = refl
      noted (N.Worn l) = refl
      noted N.Memory = refl
      noted N.Improper = refl

  reads_popped : (part : Part) (first source : Option S) (k : ℕ) (p : Packet) (a b : At)
      → all_taken b ≡ all_taken a ++ Popped k p ∷ []
      → (a.cut ≡ true → b.cut ≡ true)
      → Reads gave front over part first source (read_in (all_taken a)) a.cut
      → Reads gave front over part first source (read_in (all_taken b)) b.cut
  reads_popped part first source k p a b all cuts r =
      let same : read_in (all_taken b) ≡ read_in (all_taken a) =
      ap read_in all ∙ read_in-append (all_taken a) (Popped k p ∷ []) ∙ append-nil (read_in (all_taken a)) in
      subst (λ xs. Reads gave front over part first source xs b.cut) (sym same) (go first source r)
    where
      go : (f s : Option S) → Reads gave front over part f s (read_in (all_taken a)) a.cut
          → Reads gave front over part f s (read_in (all_taken a)) b.cut
      go None None r = r
      go None (Some s) r = r
      go (Some f) None r = r
      go (Some f) (Some s) r = ⊎_elim (λ g. inl g) (λ g. inr (g.0, cuts g.1)) r

  pub took_one : (part : Part) (e e2 : E) (ins : List Inlet) (outs : List Outlet) (first source : Option S) (clean
      sink : Option K) (note now : Note)
      (k : ℕ) (old new : Inlet) (p : Packet) → k < length ins → old ≡ get_or ins k old
      → taken new.pass ≡ taken old.pass ++ p ∷ []
      → ((a : At) (poured : Tuples) → stands e part a poured → IsFew a k → stands e2 part (takes part a (Popped k p))
      poured)
      → now ≡ note → (m : M part e ins outs first source clean sink note) → IsFew m.a k
      → M part e2 (set ins k new) outs first source clean sink now
  took_one part e e2 ins outs first source clean sink note now k old new p low is more law same m few =
      let b = takes part m.a (Popped k p) in
      let t = after_takes part m.a (Popped k p) m.whole in
      subst (λ w. M part e2 (set ins k new) outs first source clean sink w) (sym same) (record {
        a = b;
        poured = m.poured;
        at = law m.a m.poured m.at few;
        whole = t.after.whole;
        few = m.few;
        input_count = length-set ins k new ∙ m.input_count;
        output_count = m.output_count;
        takes = λ proper. taken_more ins k old new p m.a b low is more t.after.all (m.takes proper);
        sends = sent_kept outs m.a b t.after.pushed m.sends;
        cut = cut_more m.a b (Popped k p) (is_stopping note) t m.cut;
        reads = reads_popped part first source k p m.a b t.after.all (λ c. t.cut ∙ ap
            (λ x. x || is_cut_receipt (Popped k p)) c) m.reads;
        writes = m.writes;
      })

  -- there was no memory for it
  pub lacked_one : (part : Part) (e e2 : E) (ins : List Inlet) (outs : List Outlet) (first source : Option S) (clean
      sink : Option K)
      (note now : Note) (k : ℕ) (old new : Inlet) (p : Packet) → k < length ins → old ≡ get_or ins k old
      → taken new.pass ≡ taken old.pass ++ p ∷ []
      → now ≡ worse note N.Memory
      → ((a : At) (poured : Tuples) → stands e part a poured → IsFew a k → stands e2 part (lacks part a (Popped k p))
      poured)
      → (m : M part e ins outs first source clean sink note) → IsFew m.a k
      → M part e2 (set ins k new) outs first source clean sink now
  lacked_one part e e2 ins outs first source clean sink note now k old new p low is more worst law m few =
      let b = lacks part m.a (Popped k p) in
      let l = after_lacks part m.a (Popped k p) in
      let stopped : is_stopping now ≡ true = ap is_stopping worst ∙ stops note N.Memory refl in
      record {
        a = b;
        poured = m.poured;
        at = law m.a m.poured m.at few;
        whole = l.0.whole;
        few = m.few;
        input_count = length-set ins k new ∙ m.input_count;
        output_count = m.output_count;
        takes = λ proper. taken_more ins k old new p m.a b low is more l.0.all
            (m.takes (milder note N.Memory (sym (ap is_improper worst) ∙ proper)));
        sends = sent_kept outs m.a b l.0.pushed m.sends;
        cut = l.1 ∙ ap (λ s. s || list_any is_cut_receipt (all_taken b)) (sym stopped);
        reads = reads_popped part first source k p m.a b l.0.all (λ c. l.1) m.reads;
        writes = writes_stopped note now m.poured clean sink stopped m.writes;
      }

  -- ---- reading

  -- it gives an item next
  pub unread : (part : Part) (first : Option S) (s : S) (items : List Item) (cut : Bool) → cut ≡ false
      → Reads gave front over part first (Some s) items cut
      → (f : S) × (first ≡ Some f) × gave f part items s × (over s ≡ any_closes items)
  unread part None s items cut uncut r = absurd r
  unread part (Some f) s items cut uncut r = ⊎_elim (λ g. (f, refl, g.0, g.1))
      (λ g. absurd (let clash : true ≡ false = sym g.1 ∙ uncut in cc)) r

  -- a part with a source has its reader
  pub no_source : (part : Part) (first : Option S) (items : List Item) (cut : Bool) → is_sourced part ≡ true
      → Reads gave front over part first None items cut → ⊥
  no_source part None items cut sourced r = let clash : true ≡ false = sym sourced ∙ r.1 in absurd cc
  no_source part (Some f) items cut sourced r = r

  read_more : (part : Part) (first : Option S) (s s2 : S) (x : Item) (a b : At) → a.cut ≡ false
      → any_closes (read_in (all_taken a)) ≡ false
      → all_taken b ≡ all_taken a ++ WasRead x ∷ [] → over s2 ≡ closes x
      → ((f : S) (items : List Item) → gave f part items s → gave f part (items ++ x ∷ []) s2)
      → Reads gave front over part first (Some s) (read_in (all_taken a)) a.cut
      → Reads gave front over part first (Some s2) (read_in (all_taken b)) b.cut
  read_more part first s s2 x a b uncut unclosed all ends law r =
      let more : read_in (all_taken b) ≡ read_in (all_taken a) ++ x ∷ [] = ap read_in all
      ∙ read_in-append (all_taken a) (WasRead x ∷ []) in
      let g = unread part first s (read_in (all_taken a)) a.cut uncut r in
      subst (λ (o : Option S). Reads gave front over part o (Some s2) (read_in (all_taken b)) b.cut) (sym g.1)
      (inl (
        subst (λ xs. gave g.0 part xs s2) (sym more) (law g.0 (read_in (all_taken a)) g.2),
        ends ∙ sym (closes_more (read_in (all_taken a)) x unclosed) ∙ ap any_closes (sym more),
      ))

  pub read_one : (part : Part) (e e2 : E) (ins : List Inlet) (outs : List Outlet) (first : Option S) (s s2 : S)
      (clean sink : Option K) (note now : Note)
      (x : Item) → over s2 ≡ closes x → ((f : S) (items : List Item) → gave f part items s
      → gave f part (items ++ x ∷ []) s2)
      → now ≡ note → ((a : At) (poured : Tuples) → stands e part a poured → stands e2 part (takes part a (WasRead x))
      poured)
      → (m : M part e ins outs first (Some s) clean sink note) → StillReads part m.a
      → M part e2 ins outs first (Some s2) clean sink now
  read_one part e e2 ins outs first s s2 clean sink note now x ends law same goes m still =
      let b = takes part m.a (WasRead x) in
      let t = after_takes part m.a (WasRead x) m.whole in
      subst (λ w. M part e2 ins outs first (Some s2) clean sink w) (sym same) (record {
        a = b;
        poured = m.poured;
        at = goes m.a m.poured m.at;
        whole = t.after.whole;
        few = m.few;
        input_count = m.input_count;
        output_count = m.output_count;
        takes = λ proper. taken_read ins x m.a b t.after.all (m.takes proper);
        sends = sent_kept outs m.a b t.after.pushed m.sends;
        cut = cut_more m.a b (WasRead x) (is_stopping note) t m.cut;
        reads = read_more part first s s2 x m.a b still.whole still.unclosed t.after.all ends law m.reads;
        writes = m.writes;
      })

  pub read_lacked : (part : Part) (e e2 : E) (ins : List Inlet) (outs : List Outlet) (first : Option S) (s s2 : S)
      (clean sink : Option K) (note now : Note)
      (x : Item) → over s2 ≡ closes x → ((f : S) (items : List Item) → gave f part items s
      → gave f part (items ++ x ∷ []) s2)
      → now ≡ worse note N.Memory
      → ((a : At) (poured : Tuples) → stands e part a poured → stands e2 part (lacks part a (WasRead x)) poured)
      → (m : M part e ins outs first (Some s) clean sink note) → StillReads part m.a
      → M part e2 ins outs first (Some s2) clean sink now
  read_lacked part e e2 ins outs first s s2 clean sink note now x ends law worst goes m still =
      let b = lacks part m.a (WasRead x) in
      let l = after_lacks part m.a (WasRead x) in
      let stopped : is_stopping now ≡ true = ap is_stopping worst ∙ stops note N.Memory refl in
      record {
        a = b;
        poured = m.poured;
        at = goes m.a m.poured m.at;
        whole = l.0.whole;
        few = m.few;
        input_count = m.input_count;
        output_count = m.output_count;
        takes = λ proper. taken_read ins x m.a b l.0.all (m.takes (milder note N.Memory (sym (ap is_improper worst) ∙
            proper)));
        sends = sent_kept outs m.a b l.0.pushed m.sends;
        cut = l.1 ∙ ap (λ c. c || list_any is_cut_receipt (all_taken b)) (sym stopped);
        reads = read_more part first s s2 x m.a b still.whole still.unclosed l.0.all ends law m.reads;
        writes = writes_stopped note now m.poured clean sink stopped m.writes;
      }

  -- what holds of a node with a reader holds of this one
  pub read_from : (part : Part) (e : E) (ins : List Inlet) (outs : List Outlet) (first source : Option S) (s : S)
      (clean sink : Option K) (note : Note)
      (Q : Type 0) → source ≡ Some s → ((m : M part e ins outs first (Some s) clean sink note)
      → StillReads part m.a → Q)
      → (m : M part e ins outs first source clean sink note) → StillReads part m.a → Q
  read_from part e ins outs first source s clean sink note Q is f =
      subst (λ (o : Option S). (m : M part e ins outs first o clean sink note) → StillReads part m.a → Q) (sym is) f

  -- the source found no memory
  pub spent_one : (part : Part) (e e2 : E) (ins : List Inlet) (outs : List Outlet) (first : Option S) (s s2 : S)
      (clean sink : Option K) (note now : Note)
      → ((f : S) (items : List Item) → gave f part items s → front f items) → now ≡ worse note N.Memory
      → ((a : At) (poured : Tuples) → stands e part a poured → stands e2 part (cut_off part a) poured)
      → (m : M part e ins outs first (Some s) clean sink note) → StillReads part m.a
      → M part e2 ins outs first (Some s2) clean sink now
  spent_one part e e2 ins outs first s s2 clean sink note now law worst cuts m still =
      let b = cut_off part m.a in
      let c = cut_of part m.a in
      let stopped : is_stopping now ≡ true = ap is_stopping worst ∙ stops note N.Memory refl in
      let g = unread part first s (read_in (all_taken m.a)) m.a.cut still.whole m.reads in
      record {
        a = b;
        poured = m.poured;
        at = cuts m.a m.poured m.at;
        whole = λ uncut. absurd (let clash : true ≡ false = sym c.cut ∙ uncut in cc);
        few = m.few;
        input_count = m.input_count;
        output_count = m.output_count;
        takes = λ proper. taken_kept ins m.a b c.all (m.takes (milder note N.Memory (sym (ap is_improper worst)
            ∙ proper)));
        sends = sent_kept outs m.a b c.pushed m.sends;
        cut = c.cut ∙ ap (λ t. t || list_any is_cut_receipt (all_taken b)) (sym stopped);
        reads = subst (λ (o : Option S). Reads gave front over part o (Some s2) (read_in (all_taken b)) b.cut) (sym g.1)
            (inr (subst (λ T. front g.0 (read_in T)) (sym c.all) (law g.0 (read_in (all_taken m.a)) g.2), c.cut));
        writes = writes_stopped note now m.poured clean sink stopped m.writes;
      }

  -- ---- pouring

  -- a tuple was poured and written, as far as it was
  pub poured_one : (part : Part) (e e2 : E) (ins : List Inlet) (outs : List Outlet) (first source : Option S) (clean
      sink sink2 : Option K) (note now : Note)
      (t : List Value) → is_stopping now ≡ is_stopping note → is_improper now ≡ is_improper note
      → ((a : At) (poured : Tuples) → stands e part a poured → stands e2 part a (poured ++ t ∷ []))
      → ((poured : Tuples) → Writes took began faults note poured clean sink
      → Writes took began faults now (poured ++ t ∷ []) clean sink2)
      → M part e ins outs first source clean sink note → M part e2 ins outs first source clean sink2 now
  poured_one part e e2 ins outs first source clean sink sink2 note now t stopping improper pours writes m = record {
    a = m.a;
    poured = m.poured ++ t ∷ [];
    at = pours m.a m.poured m.at;
    whole = m.whole;
    few = m.few;
    input_count = m.input_count;
    output_count = m.output_count;
    takes = λ proper. m.takes (sym improper ∙ proper);
    sends = m.sends;
    cut = m.cut ∙ ap (λ s. s || list_any is_cut_receipt (all_taken m.a)) (sym stopping);
    reads = m.reads;
    writes = writes m.poured m.writes;
  }

  -- and the element was cut
  pub poured_last : (part : Part) (e e2 e3 : E) (ins : List Inlet) (outs : List Outlet) (first source : Option S)
      (clean sink sink2 : Option K)
      (note now : Note) (t : List Value) → now ≡ worse note N.Memory
      → ((a : At) (poured : Tuples) → stands e part a poured → stands e2 part a (poured ++ t ∷ []))
      → ((a : At) (poured : Tuples) → stands e2 part a poured → stands e3 part (cut_off part a) poured)
      → ((poured : Tuples) → Writes took began faults note poured clean sink
      → Writes took began faults now (poured ++ t ∷ []) clean sink2)
      → M part e ins outs first source clean sink note → M part e3 ins outs first source clean sink2 now
  poured_last part e e2 e3 ins outs first source clean sink sink2 note now t worst pours cuts writes m =
      let b = cut_off part m.a in
      let c = cut_of part m.a in
      let stopped : is_stopping now ≡ true = ap is_stopping worst ∙ stops note N.Memory refl in
      record {
        a = b;
        poured = m.poured ++ t ∷ [];
        at = cuts m.a (m.poured ++ t ∷ []) (pours m.a m.poured m.at);
        whole = λ uncut. absurd (let clash : true ≡ false = sym c.cut ∙ uncut in cc);
        few = m.few;
        input_count = m.input_count;
        output_count = m.output_count;
        takes = λ proper. taken_kept ins m.a b c.all (m.takes (milder note N.Memory (sym (ap is_improper worst)
            ∙ proper)));
        sends = sent_kept outs m.a b c.pushed m.sends;
        cut = c.cut ∙ ap (λ s. s || list_any is_cut_receipt (all_taken b)) (sym stopped);
        reads = reads_cut part first source (read_in (all_taken b)) m.a.cut b.cut c.cut
            (subst (λ T. Reads gave front over part first source (read_in T) m.a.cut) (sym c.all) m.reads);
        writes = writes m.poured m.writes;
      }

  -- ---- a new node

  reads_new : (part : Part) (source : Option S) → IsReader gave over part source
      → Reads gave front over part source source [] false
  reads_new part None r = (refl, r)
  reads_new part (Some s) r = inl r

  writes_new : (sink : Option K) → IsWriter took sink → Writes took began faults N.Nothing [] sink sink
  writes_new None w = w
  writes_new (Some k) w = record {
    written = [];
    is_front = ([], refl);
    all = λ _. (refl, w);
    text = inl w;
    rises = omega arith;
    fault = λ unwritten. absurd (let clash : false ≡ true = unwritten in cc);
  }

  pub made_meets : (part : Part) (e : E) (ins : List Inlet) (outs : List Outlet) (source first : Option S) (sink
      clean : Option K)
      → first ≡ source → clean ≡ sink → IsMadeFor stands gave over took part e ins outs source sink
      → M part e ins outs first source clean sink N.Nothing
  made_meets part e ins outs source first sink clean same_first same_clean made =
      subst (λ (f : Option S). M part e ins outs f source clean sink N.Nothing) (sym same_first)
      (subst (λ (k : Option K). M part e ins outs source source k sink N.Nothing) (sym same_clean)
      (record {
        a = new_element;
        poured = [];
        at = made.new;
        whole = λ _. refl;
        few = made.few;
        input_count = made.input_count;
        output_count = made.output_count;
        takes = λ _ i d below. sym (made.untaken i d below);
        sends = λ o d below. sym (made.unsent o d below);
        cut = refl;
        reads = reads_new part source made.reader;
        writes = writes_new sink made.writer;
      }))

  -- ---- nodes

  -- its ends are as they were
  pub runs_after : (part : Part) (links : List Link) (n next : Node E S K) → next.ins ≡ n.ins → next.outs ≡ n.outs
      → Runs stands gave front over took began faults part links n → NodeMeets stands gave front over took began
      faults part next
      → Runs stands gave front over took began faults part links next
  runs_after part links n next ins outs r m = record {
    ins = subst (λ (v : Vec Inlet Global). InsPlaced links v.items) (sym ins) r.ins;
    outs = subst (λ (v : Vec Outlet Global). OutsPlaced links v.items) (sym outs) r.outs;
    meets = m;
  }

  -- of an input of one that isn't cut, fewer packets were taken than its link carries
  pub few_one : (part : Part) (e : E) (ins : List Inlet) (outs : List Outlet) (first source : Option S) (clean sink :
      Option K) (note : Note)
      (k : ℕ) (old new : Inlet) (p : Packet) → k < length ins → old ≡ get_or ins k old
      → taken new.pass ≡ taken old.pass ++ p ∷ []
      → length (taken new.pass) ≤ 2 ^ 61 → (m : M part e ins outs first source clean sink note) → IsFew m.a k
  few_one part e ins outs first source clean sink note k old new p low is more within m uncut =
      let proper = unimproper note (list_any is_cut_receipt (all_taken m.a)) (sym m.cut ∙ uncut) in
      let same : popped k (all_taken m.a) ≡ taken old.pass = m.takes proper k old low ∙ ap
      (λ (y : Inlet). taken y.pass) (sym is) in
      let l1 : length (popped k (all_taken m.a)) ≡ length (taken old.pass) = ap length same in
      let l2 : length (taken new.pass) ≡ length (taken old.pass ++ p ∷ []) = ap length more in
      omega (arith, length-append (taken old.pass) (p ∷ []))
    where
      unimproper : (n : Note) (x : Bool) → is_stopping n || x ≡ false → is_improper n ≡ false
      unimproper N.Nothing x h = refl
      unimproper N.Write x h = refl
      unimproper (N.Worn l) x h = refl
      unimproper N.Memory x h = refl
      unimproper N.Improper x h = h
