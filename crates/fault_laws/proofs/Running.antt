-- What the faults of a run have, where those of its sources' rows have it, and its operators' own faults.
use Rattle.std.proofs.Common.{◌≡◌, ℕ, ◌==◌, Bool, true, List, [], ◌∷◌, refl, sym, ap, subst, ◌∙◌, reverse, slice_get, Option, Some, None, position}
use Rattle.std.specs.List.{AllByRecursion}
use Rattle.std.specs.Option.{option_map_or}
use Rattle.spl_value.specs.declared.item.Fault.{Fault}
use Rattle.spl_value.specs.declared.item.FaultKind.{FaultKind}
use Rattle.language_model.specs.declared.checked.CheckedClauses.{CheckedClauses}
use Rattle.language_model.specs.declared.checked.CheckedClauses.TheVariants as A
use Rattle.language_model.specs.CheckedGraph.{CheckedGraph}
use Rattle.language_model.specs.Keeping.{Keeps}
use Rattle.stream_model.specs.CheckedMeaning.{graph_of}
use Rattle.stream_model.specs.Ends.{end_fault, is_read, run_fault, stream_fault, unread_fault}
use Rattle.stream_model.specs.Fitting.{EventsFit}
use Rattle.stream_model.specs.Meaning.{Graph, Lists, Entries, Meaning, events_of, in_topo, made_by, makes, meaning, streams_of}
use Rattle.stream_model.specs.Operators.{Operator, connections}
use Rattle.stream_model.specs.PathLaws.{fault_by}
use Rattle.stream_model.specs.Stages.{out}
use Rattle.stream_model.specs.Stream.{Event}
use Rattle.stream_model.proofs.Graphs.{events_law}
use Rattle.fault_kinds.specs.Kinds.{is_evaluation_kind}
use Rattle.list_engine.proofs.GraphOperators.{is_numbered}
use Rattle.stream_schemas.specs.Schemas.{SourcesFit}
use Rattle.stream_schemas.proofs.Coming.{events_each}
use Rattle.stream_schemas.proofs.Streams.{IsIn, all_in, clauses_fit, inputs_fit, streams_fit}
use Rattle.fault_laws.proofs.Having.{AllHave, EventHas, came_have, fault_has, out_has, stream_has}
use Rattle.list_engine.proofs.FaultNames.{first_of, unread}

-- ---- the run

-- F is what makes the rows fit. Where it is known, only own faults of evaluation have to have P
module _ (P : Fault → Type 0) (F : Type 0) (c : CheckedGraph) (g : Graph) (keeps : Keeps c) (is : graph_of c ≡ g) (rows : Lists) (entries : Entries)
    (fit : F → SourcesFit g rows)
    (given : (n : ℕ) (op : Operator) (file : List ℕ) (strict : Bool) → slice_get g.ops n ≡ Some op → op.clauses ≡ A.FileSource file strict → AllHave P (rows n))
    (own : (n : ℕ) (op : Operator) (kind : FaultKind) → slice_get g.ops n ≡ Some op → (F → is_evaluation_kind kind ≡ true) → P (fault_by op.number kind)) where
  its_own : (op : Operator) → IsIn g op → (kind : FaultKind) → (F → is_evaluation_kind kind ≡ true) → P (fault_by op.number kind)
  its_own op here kind known = own here.0 op kind here.1 known

  made_has : (op : Operator) → IsIn g op → (p : ℕ) (events : List Event) → (F → EventsFit op events) → AllByRecursion (EventHas P) events
      → AllHave P (made_by op.clauses op p events (rows op.number))
  made_has op here p events h has = go op.clauses refl
    where
      gives : AllHave P (out op p events)
      gives = out_has P F op (λ known. clauses_fit c g keeps is op here) (its_own op here) p events h has

      go : (part : CheckedClauses) → op.clauses ≡ part → AllHave P (made_by part op p events (rows op.number))
      go (A.FileSource file strict) q = subst (λ n. AllHave P (rows n)) (sym (is_numbered c g is here.0 op here.1)) (given here.0 op file strict here.1 q)
      go (A.FileSink file) q = gives
      go (A.Filter condition) q = gives
      go (A.Functor condition made) q = gives
      go (A.Punctor condition position) q = gives
      go (A.Split index) q = gives
      go (A.Union places) q = gives
      go (A.Custom handlers) q = gives
      go (A.Aggregate window partition group collects) q = gives
      go (A.Join left right condition made) q = gives

  -- the events of an operator have it, where the streams that it reads do
  inputs_have : (op : Operator) (streams : Lists) (entries : List ℕ) → ((s : ℕ) → AllHave P (streams s)) → AllByRecursion (EventHas P) (events_of op streams entries)
  inputs_have op streams entries h = events_each (EventHas P) streams (connections op) entries (λ i s at. came_have P i (streams s) (h s))

  streams_have : (ops : List Operator) → AllByRecursion (IsIn g) ops → (s : ℕ) → AllHave P (streams_of ops rows entries s)
  streams_have [] h s = tt
  streams_have (op ∷ earlier) h s = go (position (λ o. o == s) op.outs) (streams_have earlier h.1)
    where
      go : (found : Option ℕ) → ((t : ℕ) → AllHave P (streams_of earlier rows entries t))
          → AllHave P (option_map_or (λ p. makes op p (streams_of earlier rows entries) rows entries) found (streams_of earlier rows entries s))
      go None rest = rest s
      go (Some p) rest =
          made_has op h.0 p (events_of op (streams_of earlier rows entries) (entries op.number))
          (λ known. inputs_fit c g keeps is op h.0 (streams_of earlier rows entries) (entries op.number) (streams_fit c g keeps is rows (fit known) entries earlier h.1))
          (inputs_have op (streams_of earlier rows entries) (entries op.number) rest)

  abbrev pub m : Meaning
  m = meaning g rows entries

  pub each_stream : (s : ℕ) → AllHave P (m.streams s)
  each_stream s = streams_have (reverse (in_topo g)) (all_in g) s

  pub run_has : (f : Fault) → run_fault g m ≡ Some f → P f
  run_has f q =
      let found = first_of (λ (o : Operator). end_fault g m o o.outs) g.ops f q in
      go found.0 found.1 found.2 found.1.outs refl found.3
    where
      go : (n : ℕ) (op : Operator) → slice_get g.ops n ≡ Some op → (outs : List ℕ) → op.outs ≡ outs → end_fault g m op op.outs ≡ Some f → P f
      go n op at [] none q =
          let events : m.events op.number ≡ events_of op m.streams (entries op.number) = events_law g rows entries op n (is_numbered c g is) at in
          fault_has P F op (λ known. clauses_fit c g keeps is op (n, at)) (its_own op (n, at)) (m.events op.number) f
          (λ known. subst (EventsFit op) (sym events)
          (inputs_fit c g keeps is op (n, at) m.streams (entries op.number) (streams_fit c g keeps is rows (fit known) entries (reverse (in_topo g)) (all_in g))))
          (subst (AllByRecursion (EventHas P)) (sym events) (inputs_have op m.streams (entries op.number) each_stream))
          (ap (end_fault g m op) (sym none) ∙ q)
      go n op at (s ∷ outs) some q =
          let one = first_of (unread_fault g m) (s ∷ outs) f (ap (end_fault g m op) (sym some) ∙ q) in
          stream_has P (m.streams one.1) f (each_stream one.1) (unread (is_read g.ops one.1) (stream_fault (m.streams one.1)) f one.3)
