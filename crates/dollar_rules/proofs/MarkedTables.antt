-- The value of a name in two tables of the parameters of one composite.
use Rattle.std.specs.Prelude.{◌≡◌, ◌+◌, ℕ, suc, Bool, true, false, ◌&&◌, if◌then◌else◌, List, [], ◌∷◌, ◌++◌, Option, Some, None, slice_get}
use Rattle.std.specs.Option.{option_map}
use Rattle.std.specs.Str.{bytes_eq}
use Rattle.std.proofs.Common.{refl, ap, sym, ◌∙◌, arith}
use Rattle.spl_tree.specs.declared.unit.CompositeParameter.{CompositeParameter}
use Rattle.language_model.specs.declared.scope.Dollar.{Dollar}
use Rattle.language_model.specs.declared.scope.Typed.{Typed}
use Rattle.language_model.specs.Parameters.{own_from}
use Rattle.language_model.specs.Scopes.{At, at_place, dollar_of, first_from}
use Rattle.language_model.specs.Typing.{Found}
use Rattle.dollar_rules.proofs.Marks.{entry}

abbrev pub stands_for : List Dollar → List ℕ → Option (Found Typed)
stands_for [] name = None
stands_for (d ∷ ds) name = if bytes_eq d.name name then Some d.found else stands_for ds name

first_is : (name : List ℕ) (i : ℕ) (ds : List Dollar) → option_map (λ d. d.what.found) (first_from (λ d. bytes_eq d.name name) i ds) ≡ stands_for ds name
first_is name i [] = refl
first_is name i (d ∷ ds) =
    elim (bytes_eq d.name name) as (λ b. option_map (λ (a : At Dollar). a.what.found) (if b then Some (at_place i d) else first_from (λ d. bytes_eq d.name name) (suc i) ds)
    ≡ (if b then Some d.found else stands_for ds name)) [ true ↦ refl | false ↦ first_is name (suc i) ds ]

pub dollar_is : (name : List ℕ) (ds : List Dollar) → dollar_of ds name ≡ stands_for ds name
dollar_is name ds = first_is name 0 ds

entry_in : (name : List ℕ) (b : Bool) (d : Dollar) (ds : List Dollar)
    → stands_for ((if b then d ∷ [] else []) ++ ds) name ≡ (if b && bytes_eq d.name name then Some d.found else stands_for ds name)
entry_in name true d ds = refl
entry_in name false d ds = refl

either_way : {A : Type 0} (s t b : Bool) (x y : A) (u v : Option A) → (b ≡ true → (s ≡ t) × (s ≡ true → x ≡ y)) → u ≡ v
    → (if s && b then Some x else u) ≡ (if t && b then Some y else v)
either_way true true true x y u v h e = ap Some ((h refl).1 refl)
either_way true false true x y u v h e = absurd (let q = (h refl).0 in cc)
either_way false true true x y u v h e = absurd (let q = (h refl).0 in cc)
either_way false false true x y u v h e = e
either_way true true false x y u v h e = e
either_way true false false x y u v h e = e
either_way false true false x y u v h e = e
either_way false false false x y u v h e = e

-- a name has the same value where the same parameters of the name pass, and the same is found for them
pub same_found : (name : List ℕ) (s t : ℕ → CompositeParameter → Bool) (f g : CompositeParameter → Found Typed) (place : ℕ) (ps : List CompositeParameter)
    → ((k at : ℕ) (p : CompositeParameter) → at ≡ place + k → slice_get ps k ≡ Some p → bytes_eq p.name.what name ≡ true → (s at p ≡ t at p) × (s at p ≡ true → f p ≡ g p))
    → stands_for (own_from s f place ps) name ≡ stands_for (own_from t g place ps) name
same_found name s t f g place [] same = refl
same_found name s t f g place (p ∷ ps) same =
    entry_in name (s place p) (entry f p) (own_from s f (suc place) ps)
    ∙ either_way (s place p) (t place p) (bytes_eq p.name.what name) (f p) (g p) _ _ (same 0 place p (omega arith) refl)
    (same_found name s t f g (suc place) ps (λ k at q e is. same (suc k) at q (omega arith) is))
    ∙ sym (entry_in name (t place p) (entry g p) (own_from t g (suc place) ps))
