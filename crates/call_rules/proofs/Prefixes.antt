-- A row of prefixes is gone through from the innermost on.
use Rattle.std.specs.Prelude.{◌≡◌, ℕ, zero, suc, ◌+◌, ◌<◌, List, [], ◌∷◌, length, drop, None, Ok, Err}
use Rattle.std.proofs.Common.{ap, sym, ◌∙◌, get_or, drop-cons, add-one}
use Rattle.spl_value.specs.declared.types.SplType.{SplType}
use Rattle.spl_value.specs.declared.types.SplType.TheViews.{out-SplType}
use Rattle.spl_tree.specs.declared.code.UnaryCode.{UnaryCode}
use Rattle.spl_tree.specs.declared.expression.Placed.{Placed}
use Rattle.spl_tree.specs.declared.expression.PrefixOperator.{PrefixOperator}
use Rattle.language_model.specs.declared.scope.CheckRefusal.{CheckRefusal}
use Rattle.language_model.specs.Typing.{after, mismatch, level_prefix, prefixes_at, prefixes_typed}
use Rattle.language_model.proofs.parts.Typing.{prefix_typed}

module _ (operand : ℕ) (t : SplType) where
  outer_stops : (ps : List (Placed PrefixOperator)) (i : ℕ) (r : CheckRefusal) → prefixes_typed (drop i ps) operand t ≡ Err r → prefixes_typed ps operand t ≡ Err r
  outer_stops ps zero r e = e
  outer_stops [] (suc i) r e = e
  outer_stops (p ∷ ps) (suc i) r e =
      ap (λ found. after found (λ xs. after (prefix_typed (prefixes_at ps operand) (level_prefix p.what (out-SplType xs.1))) (λ x. Ok (x.0 ∷ xs.0, x.1)))) (outer_stops ps i r e)

  pub prefix_stops : (ps : List (Placed PrefixOperator)) (i j : ℕ) (d : Placed PrefixOperator) (codes : List UnaryCode) (kind : SplType)
      → j ≡ i + 1 → i < length ps → prefixes_typed (drop j ps) operand t ≡ Ok (codes, kind) → level_prefix (get_or ps i d).what (out-SplType kind) ≡ None
      → prefixes_typed ps operand t ≡ mismatch (prefixes_at (drop j ps) operand)
  prefix_stops ps i j d codes kind q h inner none =
      outer_stops ps i _ (
      ap (λ row. prefixes_typed row operand t) (drop-cons ps i d h ∙ ap (λ n. get_or ps i d ∷ drop n ps) (sym (q ∙ add-one i)))
      ∙ ap (λ found. after found (λ xs. after (prefix_typed (prefixes_at (drop j ps) operand) (level_prefix (get_or ps i d).what (out-SplType xs.1))) (λ x. Ok (x.0 ∷ xs.0, x.1)))) inner
      ∙ ap (λ o. after (prefix_typed (prefixes_at (drop j ps) operand) o) (λ x. Ok (x.0 ∷ codes, x.1))) none)
