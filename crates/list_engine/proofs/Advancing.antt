-- What a run keeps, from one operator to the next.
use Rattle.std.proofs.Common.{◌≡◌, ℕ, zero, suc, ◌+◌, ◌<◌, ◌==◌, not, true, false, List, [], ◌∷◌, ◌++◌, map, refl, sym, ap, subst, ◌∙◌, length, slice_get, Option, Some, None, inl, inr, arith}
use Rattle.std.specs.Prelude.{◌⊎◌}
use Rattle.std.specs.List.{Contains, cons_option, list_any}
use Rattle.std.specs.Option.{unwrap_or}
use Rattle.std.proofs.lemmas.Bool.{or_left, or_right}
use Rattle.std.proofs.lemmas.List.{length-map}
use Rattle.std.proofs.lemmas.List.Elements.{Contains-append_cases}
use Rattle.std.proofs.lemmas.Option.{slice_get-get_or}
use Rattle.spl_value.specs.declared.item.Fault.{Fault}
use Rattle.spl_value.specs.declared.item.Item.{Item}
use Rattle.language_model.specs.CheckedGraph.{CheckedGraph}
use Rattle.stream_model.specs.CheckedMeaning.{schema_at}
use Rattle.stream_model.specs.Ends.{is_read}
use Rattle.stream_model.specs.Laws.{is_made, reads_stream}
use Rattle.stream_model.specs.Meaning.{Graph, Entries, Meaning}
use Rattle.stream_model.specs.Operators.{Operator, connections, input_attributes, ports}
use Rattle.stream_model.specs.parts.Operators.{port_at}
use Rattle.stream_model.specs.Stream.{is_closed, TuplesFit}
use Rattle.stream_model.proofs.CheckedOperators.{OperatorAt}
use Rattle.spl_value.proofs.Lists.{contains_here, contains_later}
use Rattle.list_engine.specs.declared.operator.Given.{Given}
use Rattle.list_engine.specs.declared.state.State.{State}
use Rattle.list_engine.specs.Runs.{is_source}
use Rattle.stream_model.specs.Runs.{rows_at}
use Rattle.list_engine.specs.steps.Faults.{fault_at}
use Rattle.list_engine.specs.steps.Keeping.{IsKept}
use Rattle.list_engine.specs.steps.Reading.{ops_at}
use Rattle.list_engine.specs.steps.Running.{Means, stays}
use Rattle.list_engine.specs.steps.Table.{StaysFor}
use Rattle.list_engine.specs.steps.Taking.{AreInputs}
use Rattle.list_engine.proofs.Operators.{Here, its_op, in_order}
use Rattle.list_engine.proofs.Orders.{any_from_contains, is_ordered}
use Rattle.list_engine.proofs.Places.{get_set_other, set_length}
use Rattle.list_engine.proofs.Ports.{input_count, input_schema, some_input}

-- ---- numbers

-- the operator stands once in the order
pub not_earlier : (c : CheckedGraph) (g : Graph) (before later : List ℕ) (n : ℕ) (o : Operator) → Here c g before later n o → Contains before n → ⊥
not_earlier c g before later n o h among = h.keeps.graph.ordered.once before later n (ap (λ (x : Graph). x.topo) h.graph ∙ h.order) among

pub apart_from : (c : CheckedGraph) (g : Graph) (before later : List ℕ) (n : ℕ) (o : Operator) → Here c g before later n o → (k : ℕ) → Contains before k → n ≡ k → ⊥
apart_from c g before later n o h k among same = not_earlier c g before later n o h (subst (Contains before) (sym same) among)

-- an earlier operator, or this one
pub earlier_or_this : (before : List ℕ) (n k : ℕ) → Contains (before ++ n ∷ []) k → (Contains before k) ⊎ (n ≡ k)
earlier_or_this before n k among = elim (Contains-append_cases before (n ∷ []) k among) [
  | inl old ↦ inl old
  | inr new ↦ inr (only n k new)
]
  where
    only : (n k : ℕ) → Contains (n ∷ []) k → n ≡ k
    only n k h = go h.0 (slice_get-get_or (n ∷ []) h.0 k h.1 ∙ ap (λ x. Some x) h.2)
      where
        go : (i : ℕ) → slice_get (n ∷ []) i ≡ Some k → n ≡ k
        go zero e = cc
        go (suc i) e = absurd cc

-- ---- the streams that an operator reads

reads_it : (o : Operator) (s : ℕ) → Contains (connections o) s → reads_stream o s ≡ true
reads_it o s among = any_from_contains s (connections o) among

pub input_within : (c : CheckedGraph) (g : Graph) (before later : List ℕ) (n : ℕ) (o : Operator) → Here c g before later n o → (s : ℕ) → Contains (connections o) s → s < length c.graph.streams
input_within c g before later n o h s among =
    let is = its_op c g before later n o h in
    h.keeps.graph.taken n is.op is.there s (subst (λ (x : Operator). Contains (connections x) s) is.same among)

-- are made by the operators before it
input_made : (c : CheckedGraph) (g : Graph) (before later : List ℕ) (n : ℕ) (o : Operator) → Here c g before later n o → (s : ℕ) → Contains (connections o) s
    → is_made (ops_at g (n ∷ later)) s ≡ false
input_made c g before later n o h s among =
    ap (λ found. is_made (cons_option found (ops_at g later)) s) h.at
    ∙ (is_ordered c g h.keeps h.graph).forward (ops_at g before) (ops_at g later) o s (in_order c g before later n o h) (reads_it o s among)

input_stays : (c : CheckedGraph) (g : Graph) (before later : List ℕ) (n : ℕ) (o : Operator) → Here c g before later n o → (s : ℕ) → Contains (connections o) s
    → stays g (n ∷ later) s ≡ true
input_stays c g before later n o h s among =
    or_right (not (is_read g.ops s)) (is_read (ops_at g (n ∷ later)) s)
    (ap (λ found. is_read (cons_option found (ops_at g later)) s) h.at ∙ or_left (reads_stream o s) (is_read (ops_at g later) s) (reads_it o s among))

pub there_is : (streams : List (List Item)) (s : ℕ) (xs : List Item) → slice_get streams s ≡ Some xs → rows_at streams s ≡ xs
there_is streams s xs e = ap (λ o. unwrap_or o []) e

-- and are there
pub inputs_are : (c : CheckedGraph) (g : Graph) (before later : List ℕ) (n : ℕ) (o : Operator) → Here c g before later n o → (m : Meaning) (entries : Entries) (state : State)
    → Means c g m entries before (n ∷ later) state → map (rows_at state.streams) (connections o) ≡ map m.streams (connections o)
inputs_are c g before later n o h m entries state means = go (connections o) (λ s among. there_is state.streams s (m.streams s)
    (means.kept s (input_within c g before later n o h s among) (input_made c g before later n o h s among) (input_stays c g before later n o h s among)))
  where
    go : (ss : List ℕ) → ((s : ℕ) → Contains ss s → rows_at state.streams s ≡ m.streams s) → map (rows_at state.streams) ss ≡ map m.streams ss
    go [] each = refl
    go (s ∷ ss) each =
        let first : rows_at state.streams s ≡ m.streams s = each s (contains_here s ss) in
        let rest : map (rows_at state.streams) ss ≡ map m.streams ss = go ss (λ t among. each t (contains_later s t ss among)) in
        λ i. first i ∷ rest i

stream_of : (f : ℕ → List Item) (ss : List ℕ) (i : ℕ) (xs : List Item) → slice_get (map f ss) i ≡ Some xs → (s : ℕ) × (slice_get ss i ≡ Some s) × (f s ≡ xs)
stream_of f [] i xs e = absurd cc
stream_of f (s ∷ ss) zero xs e = (s, refl, (let same : f s ≡ xs = cc in same))
stream_of f (s ∷ ss) (suc i) xs e = stream_of f ss i xs e

among_at : (ss : List ℕ) (i s : ℕ) → slice_get ss i ≡ Some s → Contains ss s
among_at [] i s e = absurd cc
among_at (x ∷ ss) zero s e = (0, omega arith, (let same : x ≡ s = cc in same))
among_at (x ∷ ss) (suc i) s e = contains_later x s ss (among_at ss i s e)

-- they are closed and fit
pub are_inputs : (c : CheckedGraph) (g : Graph) (before later : List ℕ) (n : ℕ) (o : Operator) → Here c g before later n o → is_source o.clauses ≡ false → (m : Meaning) (entries : Entries)
    (state : State) → Means c g m entries before (n ∷ later) state → AreInputs o (map m.streams (connections o))
are_inputs c g before later n o h other m entries state means = record {
  count = length-map (connections o) m.streams ∙ sym (input_count o);
  some = subst (λ l. 0 < l) (sym (length-map (connections o) m.streams))
      (subst (λ (x : Operator). 0 < length (connections x)) (sym is.same)
      (some_input c n is.op is.part h.keeps is.there is.has (ap (λ (x : Operator). is_source x.clauses) (sym is.same) ∙ other)));
  closed = λ i xs at. (
      let x = stream_of m.streams (connections o) i xs at in
      let among = among_at (connections o) i x.0 x.1 in
      ap is_closed (sym x.2) ∙ means.closed x.0 (input_within c g before later n o h x.0 among) (input_made c g before later n o h x.0 among));
  fit = λ i xs at. (
      let x = stream_of m.streams (connections o) i xs at in
      let among = among_at (connections o) i x.0 x.1 in
      subst (TuplesFit (input_attributes o (port_at (ports o) i))) x.2
      (subst (λ schema. TuplesFit schema (m.streams x.0)) (sym (schema i x.0 x.1))
      (means.fit x.0 (input_within c g before later n o h x.0 among) (input_made c g before later n o h x.0 among))));
}
  where
    is : OperatorAt c 0 c.graph.ops c.parts n o
    is = its_op c g before later n o h

    schema : (i s : ℕ) → slice_get (connections o) i ≡ Some s → input_attributes o (port_at (ports o) i) ≡ schema_at c s
    schema i s at =
        ap (λ (x : Operator). input_attributes x (port_at (ports x) i)) is.same
        ∙ input_schema c (0 + n) n is.op is.part h.keeps is.there is.has i s (ap (λ (x : Operator). slice_get (connections x) i) (sym is.same) ∙ at)

-- ---- one operator more

-- the operator has taken its inputs, and nothing else changed
pub record HasTaken (g : Graph) (later : List ℕ) (o : Operator) (old mid : State) : Type 0 where
  pub streams : StaysFor g later (connections o) old.streams mid.streams
  pub rows : (k : ℕ) → Contains later k → rows_at mid.rows k ≡ rows_at old.rows k
  pub count : length mid.rows ≡ length old.rows
  pub sinks : mid.sinks ≡ old.sinks
  pub faults : mid.faults ≡ old.faults
  pub inputs : mid.inputs ≡ old.inputs

-- a stream of the table after the operator
module _ (outs : List ℕ) (n : ℕ) (given : Given) (fault : Option Fault) (mid new : State) (kept : IsKept outs n given fault mid new) where
  pub table_other : (s : ℕ) → list_any (λ x. x == s) outs ≡ false → slice_get new.streams s ≡ slice_get mid.streams s
  table_other s other = go outs refl
    where
      go : (os : List ℕ) → outs ≡ os → slice_get new.streams s ≡ slice_get mid.streams s
      go [] e = ap (λ t. slice_get t s) (kept.no_streams e)
      go (x ∷ os) e = (kept.streams (λ none. (let clash : x ∷ os ≡ [] = sym e ∙ none in cc))).others s other

  pub table_made : (p s : ℕ) (xs : List Item) → slice_get outs p ≡ Some s → slice_get given.outs p ≡ Some xs → slice_get new.streams s ≡ Some xs
  table_made p s xs at has = go outs refl
    where
      go : (os : List ℕ) → outs ≡ os → slice_get new.streams s ≡ Some xs
      go [] e = absurd (let clash : None ≡ Some s = ap (λ l. slice_get l p) (sym e) ∙ at in cc)
      go (x ∷ os) e = (kept.streams (λ none. (let clash : x ∷ os ≡ [] = sym e ∙ none in cc))).placed p s xs at has

  pub table_count : length new.streams ≡ length mid.streams
  table_count = go outs refl
    where
      go : (os : List ℕ) → outs ≡ os → length new.streams ≡ length mid.streams
      go [] e = ap length (kept.no_streams e)
      go (x ∷ os) e = (kept.streams (λ none. (let clash : x ∷ os ≡ [] = sym e ∙ none in cc))).count

  pub sink_other : (k : ℕ) → (n ≡ k → ⊥) → rows_at new.sinks k ≡ rows_at mid.sinks k
  sink_other k apart = go outs refl
    where
      go : (os : List ℕ) → outs ≡ os → rows_at new.sinks k ≡ rows_at mid.sinks k
      go [] e = ap (λ t. rows_at t k) (kept.sink e) ∙ ap (λ x. unwrap_or x []) (get_set_other mid.sinks n k (rows_at given.outs 0) apart)
      go (x ∷ os) e = ap (λ t. rows_at t k) (kept.no_sink (λ none. (let clash : x ∷ os ≡ [] = sym e ∙ none in cc)))

  pub fault_other : (k : ℕ) → (n ≡ k → ⊥) → fault_at new.faults k ≡ fault_at mid.faults k
  fault_other k apart = go outs refl
    where
      go : (os : List ℕ) → outs ≡ os → fault_at new.faults k ≡ fault_at mid.faults k
      go [] e = ap (λ t. fault_at t k) (kept.end_fault e) ∙ ap (λ x. unwrap_or x None) (get_set_other mid.faults n k fault apart)
      go (x ∷ os) e = ap (λ t. fault_at t k) (kept.no_end_fault (λ none. (let clash : x ∷ os ≡ [] = sym e ∙ none in cc)))

  pub sink_count : length new.sinks ≡ length mid.sinks
  sink_count = go outs refl
    where
      go : (os : List ℕ) → outs ≡ os → length new.sinks ≡ length mid.sinks
      go [] e = ap length (kept.sink e) ∙ set_length mid.sinks n (rows_at given.outs 0)
      go (x ∷ os) e = ap length (kept.no_sink (λ none. (let clash : x ∷ os ≡ [] = sym e ∙ none in cc)))

  pub fault_count : length new.faults ≡ length mid.faults
  fault_count = go outs refl
    where
      go : (os : List ℕ) → outs ≡ os → length new.faults ≡ length mid.faults
      go [] e = ap length (kept.end_fault e) ∙ set_length mid.faults n fault
      go (x ∷ os) e = ap length (kept.no_end_fault (λ none. (let clash : x ∷ os ≡ [] = sym e ∙ none in cc)))
