-- One operator more was run: what is kept is that of the meaning.
use Rattle.std.proofs.Common.{◌≡◌, ℕ, zero, suc, ◌<◌, ◌||◌, not, Bool, true, false, List, [], ◌∷◌, ◌++◌, append_assoc, refl, sym, ap, subst, ◌∙◌, length, slice_get, Option, Some, None, is_some, inl, inr}
use Rattle.std.specs.Prelude.{slice_set, ◌⊎◌}
use Rattle.std.specs.List.{cons_option}
use Rattle.std.specs.Option.{unwrap_or}
use Rattle.std.proofs.lemmas.Bool.{cases_Bool, or_from, or_left, or_right}
use Rattle.spl_value.specs.declared.item.Fault.{Fault}
use Rattle.spl_value.specs.declared.item.Item.{Item}
use Rattle.language_model.specs.CheckedGraph.{CheckedGraph}
use Rattle.stream_model.specs.Arrivals.{has_several}
use Rattle.stream_model.specs.Ends.{is_read}
use Rattle.stream_model.specs.parts.Ends.{operator_fault}
use Rattle.stream_model.specs.Laws.{is_made, makes_stream, reads_stream}
use Rattle.stream_model.specs.Meaning.{Graph, Entries, Meaning, lists_at, meaning}
use Rattle.stream_model.specs.Operators.{Operator, connections}
use Rattle.stream_model.specs.Records.{is_whole}
use Rattle.stream_model.specs.Stages.{out}
use Rattle.list_engine.specs.declared.operator.Given.{Given}
use Rattle.list_engine.specs.declared.run_order.Order.{Order}
use Rattle.list_engine.specs.declared.state.State.{State}
use Rattle.list_engine.specs.RunOrders.{Follows}
use Rattle.stream_model.specs.Runs.{rows_at}
use Rattle.list_engine.specs.steps.Faults.{fault_at}
use Rattle.list_engine.specs.steps.Keeping.{IsKept}
use Rattle.list_engine.specs.steps.Reading.{ops_at}
use Rattle.list_engine.specs.steps.Recording.{recorded_at}
use Rattle.list_engine.specs.steps.Running.{Agrees, Means, LeftToRun}
use Rattle.list_engine.proofs.Advancing.{HasTaken, apart_from, earlier_or_this, fault_count, fault_other, sink_count, sink_other, table_count, table_made, table_other, there_is}
use Rattle.list_engine.proofs.Operators.{Here, IsRight}
use Rattle.list_engine.proofs.Orders.{place_of}
use Rattle.list_engine.proofs.Places.{get_set_other, set_length}
use Rattle.spl_value.proofs.Lists.{contains_here, contains_later, get_set_same}
use Rattle.std.proofs.lemmas.List.Elements.{Contains-append_left, Contains-append_right}

-- a stream that is still wanted was wanted before
wanted_before : (unread own later : Bool) → (unread || later) ≡ true → (unread || (own || later)) ≡ true
wanted_before true own later e = refl
wanted_before false true later e = refl
wanted_before false false later e = e

-- it isn't among those that the operator reads, or a later one reads it
kept_or_other : (all own later : Bool) → (own ≡ true → all ≡ true) → (not all || later) ≡ true → (own ≡ false) ⊎ (later ≡ true)
kept_or_other true own true every e = inr refl
kept_or_other true own false every e = absurd (let clash : false ≡ true = e in cc)
kept_or_other false true later every e = absurd (let clash : false ≡ true = every refl in cc)
kept_or_other false false later every e = inl refl

read_by_all : (ops : List Operator) (n : ℕ) (o : Operator) (s : ℕ) → slice_get ops n ≡ Some o → reads_stream o s ≡ true → is_read ops s ≡ true
read_by_all [] n o s at reads = absurd cc
read_by_all (p ∷ ops) zero o s at reads =
    let same : p ≡ o = cc in or_left (reads_stream p s) (is_read ops s) (ap (λ (x : Operator). reads_stream x s) same ∙ reads)
read_by_all (p ∷ ops) (suc n) o s at reads = or_right (reads_stream p s) (is_read ops s) (read_by_all ops n o s at reads)

module _ (c : CheckedGraph) (order : Order) (g : Graph) (rows : List (List Item)) (later : List ℕ) (n : ℕ) (o : Operator) (given : Given) (fault : Option Fault) (old mid new : State)
    (st : LeftToRun c order g rows (n ∷ later) old) (h : Here c g st.before later n o) (taken : HasTaken g later o old mid) (kept : IsKept o.outs n given fault mid new)
    (within : n < length old.inputs) (room : (o.outs ≡ [] → n < length old.sinks) × (o.outs ≡ [] → n < length old.faults))
    (several : is_some given.inputs ≡ has_several (connections o)) where
  inputs_are_set : new.inputs ≡ slice_set old.inputs n given.inputs
  inputs_are_set = kept.inputs ∙ ap (λ xs. slice_set xs n given.inputs) taken.inputs

  recorded_other : (k : ℕ) → (n ≡ k → ⊥) → recorded_at new.inputs k ≡ recorded_at old.inputs k
  recorded_other k apart = ap (λ xs. recorded_at xs k) inputs_are_set ∙ ap (λ x. unwrap_or x None) (get_set_other old.inputs n k given.inputs apart)

  recorded_here : recorded_at new.inputs n ≡ given.inputs
  recorded_here = ap (λ xs. recorded_at xs n) inputs_are_set ∙ ap (λ x. unwrap_or x None) (get_set_same old.inputs n given.inputs within)

  -- a record that agrees with all that is kept agrees with what was kept before, and with that of the operator
  agreed_before : (entries : Entries) → Agrees g (st.before ++ n ∷ []) new.inputs entries → Agrees g st.before old.inputs entries
  agreed_before entries agrees k p among at many =
      agrees k p (Contains-append_left st.before (n ∷ []) k among) at many
      ∙ ap (λ x. unwrap_or x []) (recorded_other k (apart_from c g st.before later n o h k among))

  agreed_here : (entries : Entries) → Agrees g (st.before ++ n ∷ []) new.inputs entries → has_several (connections o) ≡ true → entries n ≡ unwrap_or given.inputs []
  agreed_here entries agrees many =
      agrees n o (Contains-append_right st.before (n ∷ []) n (contains_here n [])) h.at many ∙ ap (λ x. unwrap_or x []) recorded_here

  same_operator : (k : ℕ) (p : Operator) → n ≡ k → slice_get g.ops k ≡ Some p → o ≡ p
  same_operator k p same at = let both : Some o ≡ Some p = sym h.at ∙ ap (slice_get g.ops) same ∙ at in cc

  means_after : (entries : Entries) → Means c g (meaning g (rows_at rows) entries) entries st.before (n ∷ later) old
      → IsRight c (meaning g (rows_at rows) entries) entries o given fault → Means c g (meaning g (rows_at rows) entries) entries (st.before ++ n ∷ []) later new
  means_after entries means right =
      let m : Meaning = meaning g (rows_at rows) entries in
      record {
        kept = λ s lt fresh wanted. elim (cases_Bool (makes_stream o s)) [
          | inl makes ↦ (let p = place_of s o.outs makes in table_made o.outs n given fault mid new kept p.0 s (m.streams s) p.1 (right.streams p.0 s p.1))
          | inr other ↦
              table_other o.outs n given fault mid new kept s other
              ∙ (elim (kept_or_other (is_read g.ops s) (reads_stream o s) (is_read (ops_at g later) s) (read_by_all g.ops n o s h.at) wanted) [
                | inl unread ↦ taken.streams.others s unread
                | inr later_read ↦ taken.streams.wanted s later_read
              ])
              ∙ means.kept s lt (made_before s other fresh)
              (ap (λ found. not (is_read g.ops s) || is_read (cons_option found (ops_at g later)) s) h.at
              ∙ wanted_before (not (is_read g.ops s)) (reads_stream o s) (is_read (ops_at g later) s) wanted)
        ];
        closed = λ s lt fresh. elim (cases_Bool (makes_stream o s)) [
          | inl makes ↦ (let p = place_of s o.outs makes in right.closed p.0 s p.1)
          | inr other ↦ means.closed s lt (made_before s other fresh)
        ];
        fit = λ s lt fresh. elim (cases_Bool (makes_stream o s)) [
          | inl makes ↦ (let p = place_of s o.outs makes in right.fit p.0 s p.1)
          | inr other ↦ means.fit s lt (made_before s other fresh)
        ];
        sinks = λ k p among at none. elim (earlier_or_this st.before n k among) [
          | inl earlier ↦
              sink_other o.outs n given fault mid new kept k (apart_from c g st.before later n o h k earlier)
              ∙ ap (λ t. rows_at t k) taken.sinks ∙ means.sinks k p earlier at none
          | inr same ↦ (
              let is = same_operator k p same at in
              let nothing : o.outs ≡ [] = ap (λ (x : Operator). x.outs) is ∙ none in
              ap (λ j. rows_at new.sinks j) (sym same)
              ∙ ap (λ t. rows_at t n) (kept.sink nothing)
              ∙ there_is (slice_set mid.sinks n (rows_at given.outs 0)) n (rows_at given.outs 0)
              (get_set_same mid.sinks n (rows_at given.outs 0) (subst (λ t. n < length t) (sym taken.sinks) (room.0 nothing)))
              ∙ right.sink nothing ∙ ap (λ (x : Operator). out x 0 (m.events x.number)) is)
        ];
        faults = λ k p among at none. elim (earlier_or_this st.before n k among) [
          | inl earlier ↦
              fault_other o.outs n given fault mid new kept k (apart_from c g st.before later n o h k earlier)
              ∙ ap (λ t. fault_at t k) taken.faults ∙ means.faults k p earlier at none
          | inr same ↦ (
              let is = same_operator k p same at in
              let nothing : o.outs ≡ [] = ap (λ (x : Operator). x.outs) is ∙ none in
              ap (λ j. fault_at new.faults j) (sym same)
              ∙ ap (λ t. fault_at t n) (kept.end_fault nothing)
              ∙ ap (λ x. unwrap_or x None) (get_set_same mid.faults n fault (subst (λ t. n < length t) (sym taken.faults) (room.1 nothing)))
              ∙ right.end_fault nothing ∙ ap (λ (x : Operator). operator_fault x (m.events x.number)) is)
        ];
        whole = λ k p among at many. elim (earlier_or_this st.before n k among) [
          | inl earlier ↦ means.whole k p earlier at many
          | inr same ↦ (
              let is = same_operator k p same at in
              ap (λ (x : Operator). is_whole x (lists_at m.streams (connections x)) (entries x.number)) (sym is)
              ∙ right.whole (ap (λ (x : Operator). has_several (connections x)) is ∙ many))
        ];
      }
    where
      made_before : (s : ℕ) → makes_stream o s ≡ false → is_made (ops_at g later) s ≡ false → is_made (ops_at g (n ∷ later)) s ≡ false
      made_before s other fresh = ap (λ found. is_made (cons_option found (ops_at g later)) s) h.at ∙ or_from (makes_stream o s) (is_made (ops_at g later) s) other fresh

  pub advances : ((entries : Entries) → Means c g (meaning g (rows_at rows) entries) entries st.before (n ∷ later) old
      → (has_several (connections o) ≡ true → entries n ≡ unwrap_or given.inputs []) → IsRight c (meaning g (rows_at rows) entries) entries o given fault)
      → ((entries : Entries) → Means c g (meaning g (rows_at rows) entries) entries st.before (n ∷ later) old → has_several (connections o) ≡ true
      → entries n ≡ unwrap_or given.inputs [] → Follows order o (lists_at (meaning g (rows_at rows) entries).streams (connections o)) (entries o.number))
      → LeftToRun c order g rows later new
  advances right follows = record {
    before = st.before ++ n ∷ [];
    split = st.split ∙ sym (append_assoc st.before (n ∷ []) later);
    places = record {
      streams = table_count o.outs n given fault mid new kept ∙ taken.streams.count ∙ st.places.streams;
      rows = ap length kept.rows ∙ taken.count ∙ st.places.rows;
      sinks = sink_count o.outs n given fault mid new kept ∙ ap length taken.sinks ∙ st.places.sinks;
      faults = fault_count o.outs n given fault mid new kept ∙ ap length taken.faults ∙ st.places.faults;
      inputs = ap length inputs_are_set ∙ set_length old.inputs n given.inputs ∙ st.places.inputs;
    };
    left = λ k among. ap (λ t. rows_at t k) kept.rows ∙ taken.rows k among ∙ st.left k (contains_later n k later among);
    recorded = λ k p among at. elim (earlier_or_this st.before n k among) [
      | inl earlier ↦ ap is_some (recorded_other k (apart_from c g st.before later n o h k earlier)) ∙ st.recorded k p earlier at
      | inr same ↦
          ap (λ j. is_some (recorded_at new.inputs j)) (sym same) ∙ ap is_some recorded_here ∙ several
          ∙ ap (λ (x : Operator). has_several (connections x)) (same_operator k p same at)
    ];
    means = λ entries agrees.
        let before = st.means entries (agreed_before entries agrees) in
        means_after entries before (right entries before (agreed_here entries agrees));
    ordered = λ entries agrees k p among at many. elim (earlier_or_this st.before n k among) [
      | inl earlier ↦ st.ordered entries (agreed_before entries agrees) k p earlier at many
      | inr same ↦ (
          let is = same_operator k p same at in
          let own : has_several (connections o) ≡ true = ap (λ (x : Operator). has_several (connections x)) is ∙ many in
          subst (λ (x : Operator). Follows order x (lists_at (meaning g (rows_at rows) entries).streams (connections x)) (entries x.number)) is
          (follows entries (st.means entries (agreed_before entries agrees)) own (agreed_here entries agrees own)))
    ];
  }
