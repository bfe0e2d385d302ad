-- The last of some statements.
use Rattle.std.specs.Prelude.{◌≡◌, ℕ, Bool, List, [], ◌∷◌, ◌++◌, map}
use Rattle.std.proofs.Common.{refl, ap, ◌∙◌, arith, ◌≤◌, ◌+◌}
use Rattle.std.proofs.lemmas.List.{map-append}
use Rattle.spl_tree.specs.declared.expression.Placed.{Placed}
use Rattle.spl_tree.specs.Trees.{Stmt}
use Rattle.language_model.specs.BodyTyping.{last_returns, returns}
use Rattle.language_model.specs.BodyTypingLaws.{kind_returns}
use Rattle.spl_value.proofs.Lists.{total}

last_of : (xs : List (Placed Bool)) (x : Placed Bool) → last_returns (xs ++ x ∷ []) ≡ x.what
last_of [] x = refl
last_of (y ∷ []) x = refl
last_of (y ∷ z ∷ ys) x = last_of (z ∷ ys) x

abbrev returning : Stmt → Placed Bool
returning s = record { at = s.at; what = kind_returns s.what }

pub returns_last : (ss ys : List Stmt) (s : Stmt) → ss ≡ ys ++ s ∷ [] → returns ss ≡ kind_returns s.what
returns_last ss ys s is = ap returns is ∙ ap last_returns (map-append returning ys (s ∷ [])) ∙ last_of (map returning ys) (returning s)

total_behind : {A : Type 0} (f : A → ℕ) (xs : List A) (x : A) → total f (xs ++ x ∷ []) ≡ total f xs + f x
total_behind f [] x = omega arith
total_behind f (y ∷ ys) x = let h = total_behind f ys x in omega arith

pub last_below : {A : Type 0} (f : A → ℕ) (xs ys : List A) (x : A) → xs ≡ ys ++ x ∷ [] → f x ≤ total f xs
last_below f xs ys x is = let h = ap (total f) is ∙ total_behind f ys x in omega arith
