-- What the types of arguments tell of them, and what calls of them answer.
use Rattle.std.specs.Prelude.{◌≡◌, IsTrue, true, List, [], ◌∷◌, Result}
use Rattle.std.specs.Cmp.{first_so}
use Rattle.std.specs.Cmp.Lexicographic.{pointwise}
use Rattle.std.proofs.Common.{refl, sym, inl, inr, subst}
use Rattle.spl_value.specs.declared.types.SplType.{SplType}
use Rattle.spl_value.specs.declared.types.SplType.TheVariants as S
use Rattle.spl_value.specs.declared.value.Value.{Value}
use Rattle.spl_value.specs.Calls.{CallOutcome, FitsCollection}
use Rattle.spl_value.specs.Values.{fits}
use Rattle.spl_tree.specs.declared.code.BuiltIn.{BuiltIn}
use Rattle.spl_tree.specs.declared.code.BuiltIn.TheVariants as Q
use Rattle.language_model.specs.CodeFits as F
use Rattle.language_model.specs.CodeFits.{BuiltInGives}
use Rattle.value_operations.specs.declared.stop.Stop.{Stop}
use Rattle.value_operations.specs.Answers.{Settles}
use Rattle.value_operations.specs.Fitting.{FitBuiltIn}

-- `size` is called of a list or a map
pub collection_argument : (call : BuiltIn) (v : Value) → call ≡ Q.Size → FitBuiltIn call (v ∷ []) → FitsCollection v
collection_argument call v e (ts, t, gives, fit) = of_types ts t (subst (λ (c : BuiltIn). BuiltInGives c ts t) e gives) fit
  where
    of_types : (ts : List SplType) (t : SplType) → BuiltInGives Q.Size ts t → IsTrue (pointwise fits ts (v ∷ [])) → FitsCollection v
    of_types _ _ (F.list_size t) fit = (S.List t, inl (t, refl), first_so (fits (S.List t) v) true fit)
    of_types _ _ (F.map_size k t) fit = (S.Map k t, inr (k, t, refl), first_so (fits (S.Map k t) v) true fit)

-- a call that gives what another one gives
pub settles_called : (r : Result Value Stop) (called other : CallOutcome) → called ≡ other → Settles other r → Settles called r
settles_called r called other e h = subst (λ o. Settles o r) (sym e) h
