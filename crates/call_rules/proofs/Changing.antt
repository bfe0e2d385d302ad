-- What is changed may be changed, and then comes what stands after that.
use Rattle.std.specs.Prelude.{◌≡◌, ℕ, Bool, true, false, if◌then◌else◌, List, Option, Some, None, Ok}
use Rattle.std.proofs.Common.{refl}
use Rattle.spl_tree.specs.declared.expression.Placed.{Placed}
use Rattle.language_model.specs.declared.scope.Scope.{Scope}
use Rattle.language_model.specs.declared.scope.CheckError.TheVariants as E
use Rattle.language_model.specs.Typing.{Found, Part, after, if_mutable, is_mutable, refused}

if_named : {A : Type 0} (at : ℕ) (scope : Scope) (e : Placed Part) (found : Found A) (b : Bool)
    → (if b then found else refused E.NotMutable e.at None) ≡ after (if b then Ok (tt {0}) else refused E.NotMutable e.at None) (λ u. found)
if_named at scope e found true = refl
if_named at scope e found false = refl

pub if_changed : {A : Type 0} (at : ℕ) (scope : Scope) (e : Placed Part) (root : Option (List ℕ)) (found : Found A)
    → if_mutable at scope e root found ≡ after (if_mutable at scope e root (Ok (tt {0}))) (λ u. found)
if_changed at scope e None found = refl
if_changed at scope e (Some name) found = if_named at scope e found (is_mutable scope name)
