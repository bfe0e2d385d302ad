-- What is found, by what is found on the way to it.
use Rattle.std.specs.Prelude.{◌≡◌, ◌==◌, ℕ, Bool, true, false, IsTrue, List, [], ◌∷◌, length, Some, None, Ok, slice_get, if◌then◌else◌}
use Rattle.std.proofs.Common.{refl, sym, ap, subst, ◌∙◌, arith}
use Rattle.std.proofs.lemmas.Bool.{eqb-true}
use Rattle.spl_value.specs.declared.types.Named.{Named}
use Rattle.spl_value.specs.declared.types.SplType.{SplType}
use Rattle.spl_value.specs.declared.types.SplType.TheVariants as S
use Rattle.spl_value.specs.declared.types.SplType.TheOpen as T
use Rattle.spl_value.specs.declared.types.SplType.TheOpen.{SplType-F}
use Rattle.spl_value.specs.declared.types.SplType.TheViews.{out-SplType}
use Rattle.spl_tree.specs.Trees.{Expr}
use Rattle.language_model.specs.declared.scope.Scope.{Scope}
use Rattle.language_model.specs.declared.scope.Typed.{Typed}
use Rattle.language_model.specs.BodyLaws.{BodyFitLaw}
use Rattle.language_model.specs.CodeFits.{CodeFits}
use Rattle.language_model.specs.FitLaws.{ConstantLaw, DollarsFit, FitLaw, WantedLaw}
use Rattle.language_model.specs.Typing.{Found, same_types, typing}
use Rattle.language_model.proofs.FoundAnswers.{Gives}
use Rattle.language_model.proofs.SameTypes.{equal_from_same}

-- what typing is known to give
pub record TypingGives : Type 0 where
  pub fit : FitLaw
  pub wanted : WantedLaw
  pub constant : ConstantLaw
  pub body : BodyFitLaw

pub gives_if : {A : Type 0} (P : A → Type 0) (b : Bool) (x y : Found A) → (b ≡ true → Gives P x) → (b ≡ false → Gives P y) → Gives P (if b then x else y)
gives_if P true x y h k = h refl
gives_if P false x y h k = k refl

-- ---- codes

-- the code of an expression that is typed, at its type and at the wanted one
pub typed_fits : TypingGives → (scope : Scope) → DollarsFit scope.dollars → (e : Expr) (t : Typed) → typing scope e None ≡ Ok t → CodeFits scope t.code t.kind
typed_fits laws scope fine e t is = laws.fit scope e None t fine is

pub wanted_fits : TypingGives → (scope : Scope) → DollarsFit scope.dollars → (e : Expr) (u : SplType) (t : Typed) → typing scope e (Some u) ≡ Ok t → CodeFits scope t.code u
wanted_fits laws scope fine e u t is = subst (CodeFits scope t.code) (laws.wanted scope e u t is) (laws.fit scope e (Some u) t fine is)

-- ---- types

abbrev schema_in : SplType-F SplType → List (Named SplType)
schema_in (T.Tuple schema) = schema
schema_in _ = []

pub same_schemas : (xs ys : List (Named SplType)) → same_types (S.Tuple xs) (S.Tuple ys) ≡ true → xs ≡ ys
same_schemas xs ys same =
    sym (ap schema_in (S.outs-Tuple xs)) ∙ ap (λ t. schema_in (out-SplType t)) (equal_from_same (S.Tuple xs) (S.Tuple ys) same) ∙ ap schema_in (S.outs-Tuple ys)

-- ---- lists

pub lone : {A : Type 0} (xs : List A) → IsTrue (length xs == 1) → (x : A) × (xs ≡ x ∷ [])
lone [] e = absurd cc
lone (x ∷ []) e = (x, refl)
lone (x ∷ y ∷ xs) e = absurd (omega (arith, eqb-true (length (x ∷ y ∷ xs)) 1 e))

pub none_at : {A : Type 0} (k : ℕ) (x : A) → slice_get {X = A} [] k ≡ Some x → ⊥
none_at k x e = cc
