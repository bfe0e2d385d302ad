-- A statement more, and an arm more.
use Rattle.std.specs.Prelude.{◌≡◌, ◌<◌, ◌+◌, ◌||◌, ℕ, Bool, true, false, Option, None, Some, List, length, drop}
use Rattle.std.proofs.Common.{refl, sym, ap, ◌∙◌, arith, get_or}
use Rattle.spl_tree.specs.declared.body.Statement.{Statement}
use Rattle.spl_tree.specs.declared.code.Code.{Code}
use Rattle.spl_tree.specs.declared.code.Marker.{Marker}
use Rattle.spl_tree.specs.declared.code.Slot.{Slot}
use Rattle.selectivity_rules.specs.declared.counts.Count.{Count}
use Rattle.selectivity_rules.specs.declared.counts.Count.TheVariants as C
use Rattle.selectivity_rules.specs.declared.counts.Submits.{Submits}
use Rattle.selectivity_rules.specs.steps.Counts.{plus, smaller, larger, both_of, either_of, none, capped, joined}
use Rattle.stream_model.specs.Selectivity.{Interval, chosen, row_interval}
use Rattle.stream_model.specs.parts.Selectivity.{decided}
use Rattle.selectivity_rules.specs.steps.Intervals.{arms_interval, statement_interval}
use Rattle.selectivity_rules.proofs.Capping.{capped_both, capped_either}
use Rattle.spl_value.proofs.Lists.{drop_at}

plus_assoc : (a b c : Count) → plus (plus a b) c ≡ plus a (plus b c)
plus_assoc C.Zero b c = refl
plus_assoc C.One C.Zero c = refl
plus_assoc C.One C.One C.Zero = refl
plus_assoc C.One C.One C.One = refl
plus_assoc C.One C.One C.More = refl
plus_assoc C.One C.More c = refl
plus_assoc C.More b c = refl

plus_none : (a : Count) → plus a C.Zero ≡ a
plus_none C.Zero = refl
plus_none C.One = refl
plus_none C.More = refl

smaller_assoc : (a b c : Count) → smaller (smaller a b) c ≡ smaller a (smaller b c)
smaller_assoc C.Zero b c = refl
smaller_assoc C.One C.Zero c = refl
smaller_assoc C.One C.One C.Zero = refl
smaller_assoc C.One C.One C.One = refl
smaller_assoc C.One C.One C.More = refl
smaller_assoc C.One C.More c = refl
smaller_assoc C.More b c = refl

larger_assoc : (a b c : Count) → larger (larger a b) c ≡ larger a (larger b c)
larger_assoc C.Zero b c = refl
larger_assoc C.One C.Zero c = refl
larger_assoc C.One C.One C.Zero = refl
larger_assoc C.One C.One C.One = refl
larger_assoc C.One C.One C.More = refl
larger_assoc C.One C.More c = refl
larger_assoc C.More b c = refl

or_assoc : (a b c : Bool) → ((a || b) || c) ≡ (a || (b || c))
or_assoc true b c = refl
or_assoc false b c = refl

or_none : (a : Bool) → (a || false) ≡ a
or_none true = refl
or_none false = refl

abbrev made : Count → Count → Bool → Submits
made least most returns = record { least = least; most = most; returns = returns }

both_assoc : (i j k : Submits) → both_of (both_of i j) k ≡ both_of i (both_of j k)
both_assoc i j k = λ t. made (plus_assoc i.least j.least k.least t) (plus_assoc i.most j.most k.most t) (or_assoc i.returns j.returns k.returns t)

either_assoc : (i j k : Submits) → either_of (either_of i j) k ≡ either_of i (either_of j k)
either_assoc i j k = λ t. made (smaller_assoc i.least j.least k.least t) (larger_assoc i.most j.most k.most t) (or_assoc i.returns j.returns k.returns t)

pub both_none : (i : Submits) → both_of i none ≡ i
both_none i = λ t. made (plus_none i.least t) (plus_none i.most t) (or_none i.returns t)

pub row_step : (marker : Option Marker) (row : List Statement) (i : ℕ) (x : Statement) (so_far its : Submits) → i < length row → x ≡ get_or row i x
    → its ≡ capped (statement_interval marker x) → both_of so_far (capped (row_interval marker (drop i row))) ≡ capped (row_interval marker row)
    → both_of (both_of so_far its) (capped (row_interval marker (drop (i + 1) row))) ≡ capped (row_interval marker row)
row_step marker row i x so_far its lt e is h =
    both_assoc so_far its (capped (row_interval marker (drop (i + 1) row)))
    ∙ ap (both_of so_far)
    (ap (λ j. both_of j (capped (row_interval marker (drop (i + 1) row)))) is
    ∙ sym (capped_both (statement_interval marker x) (row_interval marker (drop (i + 1) row)))
    ∙ ap (λ xs. capped (row_interval marker xs)) (sym (drop_at row i x lt e)))
    ∙ h

abbrev Arm : Type 0
Arm = Code Slot × List Statement

joined_either : (so_far : Option Submits) (i j : Submits) → either_of (joined so_far i) j ≡ joined so_far (either_of i j)
joined_either None i j = refl
joined_either (Some k) i j = either_assoc k i j

module _ (marker : Option Marker) (arms : List Arm) (other : List Statement) (i : ℕ) (arm : Arm) (so_far : Option Submits) (lt : i < length arms) (e : arm ≡ get_or arms i arm)
    (h : joined so_far (capped (arms_interval marker (drop i arms) other)) ≡ capped (arms_interval marker arms other)) where
  abbrev rest : Interval
  rest = arms_interval marker (drop (i + 1) arms) other

  here : joined so_far (capped (chosen (decided marker arm.0) (row_interval marker arm.1) rest)) ≡ capped (arms_interval marker arms other)
  here = ap (λ xs. joined so_far (capped (arms_interval marker xs other))) (sym (drop_at arms i arm lt e)) ∙ h

  pub arm_skipped : decided marker arm.0 ≡ Some false → joined so_far (capped rest) ≡ capped (arms_interval marker arms other)
  arm_skipped d = ap (λ d. joined so_far (capped (chosen d (row_interval marker arm.1) rest))) (sym d) ∙ here

  pub arm_taken : decided marker arm.0 ≡ Some true → (its : Submits) → its ≡ capped (row_interval marker arm.1) → joined so_far its ≡ capped (arms_interval marker arms other)
  arm_taken d its is = ap (joined so_far) is ∙ ap (λ d. joined so_far (capped (chosen d (row_interval marker arm.1) rest))) (sym d) ∙ here

  pub arm_joined : decided marker arm.0 ≡ None → (its : Submits) → its ≡ capped (row_interval marker arm.1)
      → joined (Some (joined so_far its)) (capped rest) ≡ capped (arms_interval marker arms other)
  arm_joined d its is =
      joined_either so_far its (capped rest)
      ∙ ap (joined so_far) (ap (λ j. either_of j (capped rest)) is ∙ sym (capped_either (row_interval marker arm.1) rest))
      ∙ ap (λ d. joined so_far (capped (chosen d (row_interval marker arm.1) rest))) (sym d)
      ∙ here
