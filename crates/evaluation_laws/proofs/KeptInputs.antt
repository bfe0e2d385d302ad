-- Statements change neither the tuples at the ports nor the marker.
use Rattle.std.specs.Prelude.{◌≡◌, List, Option, slice_set}
use Rattle.std.proofs.Common.{refl, ap, subst}
use Rattle.spl_value.specs.declared.value.Value.{Value}
use Rattle.spl_tree.specs.declared.code.Marker.{Marker}
use Rattle.spl_tree.specs.declared.code.Slot.{Slot}
use Rattle.language_model.specs.Evaluation.{slot_value}
use Rattle.language_model.specs.Slots.{row_slots}
use Rattle.evaluation_laws.specs.SlotsLaws.{KeepsLaw}
use Rattle.language_model.specs.Statements.{State, Bodies, with_vars, declared, submitted}
use Rattle.language_model.proofs.parts.Statements.{ended}
use Rattle.language_model.specs.parts.Statements.{row_acts}
use Rattle.evaluation_laws.proofs.Extending.{Extends, extends_with_none, at_turns}
use Rattle.evaluation_laws.proofs.LikeStatements.{Likeness, LedAlike, rows_follow}
use Rattle.evaluation_laws.proofs.NamedSlots.{all_of_any}

module _ (bodies : Bodies) (inputs : List (List Value)) (marker : Option Marker) where
  -- the same state, with these inputs and this marker
  abbrev Kept : State → State → Type 0
  Kept s u = (s ≡ u) × (s.env.inputs ≡ inputs) × (s.env.punct ≡ marker)

  abbrev AnySlot : Slot → Type 0
  AnySlot slot = Unit {0}

  likeness : Likeness 0 bodies bodies AnySlot Kept
  likeness = record {
    calls = λ i values turns. extends_with_none (bodies i values) turns;
    slot = λ slot named s u h. ap (λ (s : State). slot_value s.env slot) h.0;
    marker = λ s u h. ap (λ (s : State). s.env.punct) h.0;
    change = λ i named s u h v. (ap (λ (s : State). with_vars s (slice_set s.env.vars i v)) h.0, h.1, h.2);
    declare = λ s u h v. (ap (λ (s : State). declared s v) h.0, h.1, h.2);
    end = λ s u h t w k. (λ i. ended (h.0 i) (k.0 i), k.1, k.2);
    submit = λ s u h port item. (ap (λ (s : State). submitted s port item) h.0, h.1, h.2);
  }

pub keeps_law : KeepsLaw
keeps_law bodies row s turns w left e =
    let Alike = Kept bodies s.env.inputs s.env.punct in
    let named = all_of_any (AnySlot bodies s.env.inputs s.env.punct) (λ slot. tt) (row_slots row) in
    let same = at_turns (LedAlike Alike) (row_acts bodies row s turns) (row_acts bodies row s) turns
    (rows_follow 0 bodies bodies _ _ (likeness bodies s.env.inputs s.env.punct) row named s s (refl, refl, refl) turns) in
    let led = subst (λ o. Extends 0 (LedAlike Alike) o (row_acts bodies row s turns)) e same in
    (led.2.1.1, led.2.1.2)
