-- A call asks for the marker that came where it has that name and no arguments.
use Rattle.std.specs.Prelude.{◌≡◌, ◌↔◌, ◌&&◌, IsTrue, ℕ, Bool, true, false, List, [], ◌∷◌, codes}
use Rattle.std.specs.Str.{bytes_eq}
use Rattle.std.proofs.Common.{refl, ◌∙◌}
use Rattle.spl_tree.specs.Trees.{Expr}
use Rattle.spl_tree.specs.declared.expression.ExprKind.TheVariants as V
use Rattle.spl_tree.specs.declared.expression.ExprKind.TheOpen as X
use Rattle.spl_tree.specs.declared.expression.ExprKind.TheFolds.{map-ExprKind}
use Rattle.spl_tree.specs.declared.expression.ExprKind.{ExprKind}
use Rattle.language_model.specs.Readings.{asks_punct, level_asks}
use Rattle.language_model.proofs.ReadingLaws.{fold_at}

call_is : (name : List ℕ) (es : List Expr) → asks_punct (V.Call name es) ≡ level_asks (map-ExprKind ExprKind Bool asks_punct (X.Call name es))
call_is name es = fold_at level_asks (V.Call name es) (X.Call name es) (V.outs-Call name es)

and_true : (a : Bool) → a ≡ (a && true)
and_true true = refl
and_true false = refl

and_false : (a : Bool) → false ≡ (a && false)
and_false true = refl
and_false false = refl

pub call_asks : (name : List ℕ) (es : List Expr) (b : Bool) → (IsTrue b ↔ (es ≡ [])) → asks_punct (V.Call name es) ≡ (bytes_eq name (codes "currentPunct") && b)
call_asks name [] true h = call_is name [] ∙ and_true (bytes_eq name (codes "currentPunct"))
call_asks name [] false h = absurd (let e = h.1 refl in cc)
call_asks name (e ∷ es) true h = absurd (let e = h.0 refl in cc)
call_asks name (e ∷ es) false h = call_is name (e ∷ es) ∙ and_false (bytes_eq name (codes "currentPunct"))
