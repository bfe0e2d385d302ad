-- A new element.
use Rattle.std.proofs.Common.{ℕ, zero, suc, ◌+◌, ◌<◌, ◌≤◌, ◌^◌, ◌&&◌, Bool, true, false, cond, List, [], ◌∷◌, ◌≡◌, length, map, replicate, refl, sym, ap, ◌∙◌, subst, arith, Some, slice_get, is_some}
use Rattle.std.proofs.lemmas.List.{length-replicate}
use Rattle.spl_value.specs.declared.value.Value.{Value}
use Rattle.spl_value.specs.Numbered.{AreApart, ByTurns, ByNumbers, ByPulses, InOrder, Rule}
use Rattle.channel_heads.specs.Held.{Held, new_held}
use Rattle.order_merger.specs.Merging.{Turning, new_turning, Numbering, new_numbering}
use Rattle.stream_model.specs.Chains.{chain_after, passed, stages_passed}
use Rattle.stream_model.specs.Operators.{Operator}
use Rattle.stream_model.specs.Stages.{Stage, start}
use Rattle.stream_model.specs.Stream.{Event}
use Rattle.stream_model.proofs.ChainStages.{stages_after-none}
use Rattle.network_model.specs.Networks.{Part, FromSource, FromLinks, Splitter, Replica, Merger, is_sourced, last_of}
use Rattle.network_model.specs.Sinks.{for_sink, is_sink, pours}
use Rattle.network_model.specs.States.{new_element}
use Rattle.network_model.proofs.ElementRule.{rule-begins}
use Rattle.operator_chains.specs.Standing.{AtChain, places_of}
use Rattle.operator_chains.specs.declared.chain.Chain.{Chain}
use Rattle.element_outboxes.specs.Waiting.{fans_from, outputs_in, waits}
use Rattle.element_outboxes.specs.declared.fan.Fan.{Fan}
use Rattle.element_notes.specs.Noting.{HasNoted}
use Rattle.element_works.specs.Tuples.{IsKept, room_of, sink_waits}
use Rattle.element_works.specs.Works.{ChainAt, HasFans, SplitterAt, stages_at}
use Rattle.element_works.specs.declared.tuples.Tuples.{Tuples}
use Rattle.merger_works.specs.Merging.{TurnsAt, NumbersAt, PulsesAt}
use Rattle.merger_works.proofs.EachKind.{begin_law}
use Rattle.elements.specs.declared.element.Element.{Element}
use Rattle.elements.specs.declared.output.Output.{Output}
use Rattle.elements.specs.declared.part.ElementPart.{ElementPart}
use Rattle.elements.specs.declared.work.Work.{Work}
use Rattle.elements.specs.declared.work.Work.TheVariants as W
use Rattle.elements.specs.Inputs.{new_input}
use Rattle.elements.specs.New.{IsNew, NewWork, new_output, places_for}
use Rattle.elements.specs.Standing.{IsAt}
use Rattle.elements.specs.Works.{WorkAt}

-- ---- lists

each_same : {A : Type 0} (n : ℕ) (x : A) (i : ℕ) (y : A) → slice_get (replicate n x) i ≡ Some y → y ≡ x
each_same zero x i y got = cc
each_same (suc n) x zero y got = let same : Some x ≡ Some y = got in cc
each_same (suc n) x (suc i) y got = each_same n x i y got

nothing_after : (ss : List Stage) → chain_after ss [] ≡ ss
nothing_after [] = refl
nothing_after (s ∷ ss) = ap (λ ts. s ∷ ts) (go ss)
  where
    go : (ss : List Stage) → stages_passed ss [] ≡ ss
    go [] = refl
    go (t ∷ ss) = ap (λ ts. t ∷ ts) (go ss)

nothing_through : (ss : List Stage) → stages_passed ss [] ≡ ss
nothing_through [] = refl
nothing_through (t ∷ ss) = ap (λ ts. t ∷ ts) (nothing_through ss)

fans_length : (first : ℕ) (counts : List ℕ) → length (fans_from first counts) ≡ length counts
fans_length first [] = refl
fans_length first (n ∷ counts) = ap suc (fans_length (first + n) counts)

-- ---- mergers

none_apart : (width : ℕ) → AreApart width (λ c. [])
none_apart width = record { falls = λ c within. tt; apart = λ n c d w v e f. let clash : false ≡ true = e in cc }

none_in_order : (rule : Rule) (width : ℕ) → InOrder rule width (λ c. [])
none_in_order ByTurns width = record { apart = none_apart width; no_pulses = λ c within. refl; turns = λ c k p within got. cc }
none_in_order ByNumbers width = record { apart = none_apart width; no_pulses = λ c within. refl; rises = λ c within. tt }
none_in_order ByPulses width = none_apart width

-- ---- sinks

nothing_given : (ops : List Operator) → passed (map start ops) [] ≡ []
nothing_given [] = refl
nothing_given (op ∷ ops) = nothing_given ops

no_sink : (last : Operator) → for_sink last [] ≡ []
no_sink last = go (is_sink last.clauses)
  where
    go : (b : Bool) → cond {A = List (List Value)} b [] [] ≡ []
    go true = refl
    go false = refl

nothing_poured : (part : Part) → pours part [] ≡ []
nothing_poured (FromSource source ops outs) = ap (for_sink (last_of source ops)) (nothing_given ops) ∙ no_sink (last_of source ops)
nothing_poured (FromLinks op ops outs) = ap (for_sink (last_of op ops)) (nothing_given ops) ∙ no_sink (last_of op ops)
nothing_poured (Splitter region) = refl
nothing_poured (Replica region channel) = refl
nothing_poured (Merger region outs) = refl

module _ {R : Type 0} (spec : R → Operator) (stands : R → List Event → Type 0) where
  chain_begins : (part : Part) (ss : List Stage) (counts : List ℕ) (chain : Chain R) (fans : List Fan) (t : Tuples) → AtChain spec stands chain ss → HasFans part counts → fans ≡ fans_from 0 counts → outputs_in counts < 2 ^ 32
      → room_of t ≡ places_of chain → stages_at part [] ≡ ss → ChainAt spec stands part [] chain fans t
  chain_begins part ss counts chain fans t at has fans_are few room same =
      record { operators = subst (λ (ts : List Stage). AtChain spec stands chain ts) (sym same) at; counts = counts; has_fans = has; fans_are = fans_are; few = few; room = room }

  work_begins : (part : Part) (work : Work R) (counts : List ℕ) (fans : List Fan) (t : Tuples) → NewWork spec stands part work counts → fans ≡ fans_from 0 counts → outputs_in counts < 2 ^ 32
      → room_of t ≡ places_for work → sink_waits t ≡ [] → WorkAt spec stands part [] work fans t
  work_begins (FromSource source ops outs) (W.Chain chain) counts fans t new are few room none =
      chain_begins (FromSource source ops outs) (map start ops) counts chain fans t new.0 new.1 are few room (nothing_through (map start ops))
  work_begins (FromLinks op ops outs) (W.Chain chain) counts fans t new are few room none =
      chain_begins (FromLinks op ops outs) (map start (op ∷ ops)) counts chain fans t new.0 new.1 are few room (nothing_after (map start (op ∷ ops)))
  work_begins (Splitter region) (W.Splitter s) counts fans t new are few room none = (
    subst (λ z. SplitterAt region [] z) (sym new.0) (record { same_routing = refl; same_width = refl; same_pulses = refl; count = refl; earlier = (let e : 0 ≤ 0 = omega arith in e) }),
    ap length are ∙ fans_length 0 counts ∙ new.1,
    new.2,
  )
  work_begins (Replica region channel) (W.Replica chain) counts fans t new are few room none = (
    record { operators = subst (λ (ts : List Stage). AtChain spec stands chain ts) (sym (stages_after-none (map start region.ops))) new; room = room },
    none,
  )
  work_begins (Merger region outs) (W.Turns m) counts fans t new are few room none = record {
    same_rule = new.1;
    counts = counts;
    outs_are = new.2;
    merger = subst (λ (z : Turning). TurnsAt region.width counts [] z fans) (sym new.0) (subst (λ fs. TurnsAt region.width counts [] (new_turning region.width) fs) (sym are) (begin_law region.width counts new.3 few).0);
    order = none_in_order region.rule region.width;
  }
  work_begins (Merger region outs) (W.Numbers m) counts fans t new are few room none = record {
    same_rule = new.1;
    counts = counts;
    outs_are = new.2;
    merger = subst (λ (z : Numbering). NumbersAt region.width counts [] z fans) (sym new.0) (subst (λ fs. NumbersAt region.width counts [] (new_numbering region.width) fs) (sym are) (begin_law region.width counts new.3 few).1);
    order = none_in_order region.rule region.width;
  }
  work_begins (Merger region outs) (W.Pulses m) counts fans t new are few room none = record {
    same_rule = new.1;
    counts = counts;
    outs_are = new.2;
    merger = subst (λ (z : Held). PulsesAt region.width counts [] z fans) (sym new.0) (subst (λ fs. PulsesAt region.width counts [] (new_held region.width) fs) (sym are) (begin_law region.width counts new.3 few).2);
    order = none_in_order region.rule region.width;
  }
  work_begins (FromSource source ops outs) (W.Replica chain) counts fans t new are few room none = absurd new
  work_begins (FromSource source ops outs) (W.Splitter s) counts fans t new are few room none = absurd new
  work_begins (FromSource source ops outs) (W.Turns m) counts fans t new are few room none = absurd new
  work_begins (FromSource source ops outs) (W.Numbers m) counts fans t new are few room none = absurd new
  work_begins (FromSource source ops outs) (W.Pulses m) counts fans t new are few room none = absurd new
  work_begins (FromLinks op ops outs) (W.Replica chain) counts fans t new are few room none = absurd new
  work_begins (FromLinks op ops outs) (W.Splitter s) counts fans t new are few room none = absurd new
  work_begins (FromLinks op ops outs) (W.Turns m) counts fans t new are few room none = absurd new
  work_begins (FromLinks op ops outs) (W.Numbers m) counts fans t new are few room none = absurd new
  work_begins (FromLinks op ops outs) (W.Pulses m) counts fans t new are few room none = absurd new
  work_begins (Splitter region) (W.Chain chain) counts fans t new are few room none = absurd new
  work_begins (Splitter region) (W.Replica chain) counts fans t new are few room none = absurd new
  work_begins (Splitter region) (W.Turns m) counts fans t new are few room none = absurd new
  work_begins (Splitter region) (W.Numbers m) counts fans t new are few room none = absurd new
  work_begins (Splitter region) (W.Pulses m) counts fans t new are few room none = absurd new
  work_begins (Replica region channel) (W.Chain chain) counts fans t new are few room none = absurd new
  work_begins (Replica region channel) (W.Splitter s) counts fans t new are few room none = absurd new
  work_begins (Replica region channel) (W.Turns m) counts fans t new are few room none = absurd new
  work_begins (Replica region channel) (W.Numbers m) counts fans t new are few room none = absurd new
  work_begins (Replica region channel) (W.Pulses m) counts fans t new are few room none = absurd new
  work_begins (Merger region outs) (W.Chain chain) counts fans t new are few room none = absurd new
  work_begins (Merger region outs) (W.Replica chain) counts fans t new are few room none = absurd new
  work_begins (Merger region outs) (W.Splitter s) counts fans t new are few room none = absurd new

  pub begins : (e : Element R) (made : ElementPart R) (part : Part) → IsNew spec stands part made → e.work ≡ made.work → e.ins ≡ made.ins → e.inputs ≡ replicate (length made.ins) new_input → e.outputs ≡ replicate (outputs_in made.fans) new_output
      → e.fans ≡ fans_from 0 made.fans → e.reads ≡ is_some made.source → e.cut ≡ false → waits e.outbox ≡ [] → sink_waits e.tuples ≡ [] → IsKept e.tuples → room_of e.tuples ≡ places_for made.work
      → HasNoted part e.notes [] [] [] → IsAt spec stands part e new_element []
  begins e made part new same schemas ins outs fans reads cut outbox tuples kept room has = record {
    spent = record {
      cut = cut;
      input_count = ap length ins ∙ length-replicate (length made.ins) new_input ∙ new.input_count;
      taken = λ i x got. each_same (length made.ins) new_input i x (ap (λ xs. slice_get xs i) (sym ins) ∙ got);
      schema_count = ap length schemas ∙ new.input_count;
      proper = λ i s got. record { fit = refl; ends = refl; stops = refl; falls = tt };
      output_count = ap length outs ∙ length-replicate (outputs_in made.fans) new_output ∙ new.output_count;
      put = λ o x got. ap (λ (y : Output). y.ended) (each_same (outputs_in made.fans) new_output o x (ap (λ xs. slice_get xs o) (sym outs) ∙ got));
      few = new.few;
      rule = rule-begins part;
      cuts = λ q. let clash : false ≡ true = q in cc;
      closed = refl;
      front = (pours part [], refl);
      notes = has;
    };
    outbox = λ q. sym outbox;
    tuples = tuples ∙ sym (nothing_poured part);
    kept = kept;
    none_dropped = λ q. refl;
    reads = λ q. reads ∙ new.sourced ∙ go (is_sourced part);
    work = λ q. subst (λ (w : Work R). WorkAt spec stands part [] w e.fans e.tuples) (sym same)
        (work_begins part made.work made.fans e.fans e.tuples new.new_work fans (subst (λ n. n < 2 ^ 32) (sym new.output_count) new.few) room tuples);
  }
    where
      go : (b : Bool) → b ≡ (b && true)
      go true = refl
      go false = refl
