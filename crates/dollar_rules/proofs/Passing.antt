-- What passes at a place of a row.
use Rattle.std.specs.Prelude.{◌≡◌, ◌+◌, ℕ, zero, suc, Bool, false, List, [], ◌∷◌, Option, Some, None, slice_get}
use Rattle.std.specs.Borrow.{Bor}
use Rattle.std.specs.Option.{option_copied, option_map, option_map_or}
use Rattle.std.specs.Slice.{IsItemAt}
use Rattle.std.proofs.Common.{refl, ap, ◌∙◌, arith}
use Rattle.spl_tree.specs.declared.unit.CompositeParameter.{CompositeParameter}
use Rattle.dollar_rules.specs.steps.Heads.{passes_at, passes_from}
use Rattle.spl_value.proofs.Lists.{copied_at}

module _ (passes : ℕ → CompositeParameter → Bool) where
  passes_get : (at : ℕ) (ps : List CompositeParameter) (k j : ℕ) → j ≡ at + k → slice_get (passes_from passes at ps) k ≡ option_map (passes j) (slice_get ps k)
  passes_get at [] k j e = refl
  passes_get at (p ∷ ps) zero j e = let here : at ≡ j = omega (arith, e) in ap (λ n. Some (passes n p)) here
  passes_get at (p ∷ ps) (suc k) j e = passes_get (suc at) ps k j (omega (arith, e))

  by_map : (o : Option CompositeParameter) (place : ℕ) (r : Option Bool) → r ≡ option_map (passes place) o → option_map_or (λ b. b) r false ≡ option_map_or (passes place) o false
  by_map None place r e = ap (λ s. option_map_or (λ b. b) s false) e
  by_map (Some p) place r e = ap (λ s. option_map_or (λ b. b) s false) e

  -- what is read of the row
  pub passes_read : (ps : List CompositeParameter) (row : List Bool) (place : ℕ) (r : Option (Bor Bool)) → row ≡ passes_from passes 0 ps → IsItemAt row place r
      → option_map_or (λ b. b) (option_copied r) false ≡ passes_at passes ps place
  passes_read ps row place r e read =
      by_map (slice_get ps place) place (option_copied r)
      (copied_at row place r read ∙ ap (λ row. slice_get row place) e ∙ passes_get 0 ps place place (omega arith))
