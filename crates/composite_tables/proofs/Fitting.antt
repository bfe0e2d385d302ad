-- Arguments after those that fit and of which none is given twice.
use Rattle.std.specs.Prelude.{◌≡◌, ◌<◌, ℕ, suc, ◌+◌, Bool, true, false, ◌&&◌, ◌||◌, is_some, List, [], ◌∷◌, ◌++◌, if◌then◌else◌, length, map}
use Rattle.std.specs.List.{list_any, list_all}
use Rattle.std.specs.Str.{bytes_eq}
use Rattle.std.proofs.Common.{refl, ap, sym, ◌∙◌, get_or, take, drop, drop-cons, add-one}
use Rattle.std.proofs.lemmas.List.{map-append}
use Rattle.std.proofs.Math.Seq.{take-suc}
use Rattle.spl_tree.specs.declared.unit.Composite.{Composite}
use Rattle.spl_tree.specs.declared.unit.Parameter.{Parameter}
use Rattle.language_model.specs.Composites.{is_empty}
use Rattle.language_model.specs.Declarations.{Name, is_same, repeated_after}
use Rattle.language_model.specs.Invoking.{fit_parameters}
use Rattle.language_model.specs.Names.{is_named}
use Rattle.language_model.specs.parts.Invoking.{is_argument}
use Rattle.language_model.proofs.parts.Invoking.{has_value}
use Rattle.composite_tables.specs.steps.Arguments.{argument_names, fit_once}
use Rattle.spl_value.proofs.Bools.{and_false}

abbrev pub again : List Name → List Parameter → List Name
again before arguments = repeated_after (λ before n. list_any (λ m. is_same m n) before) before (map (λ a. a.name) arguments)

-- the arguments fit after those of these names, the last first
abbrev pub fit_behind : Composite → List Name → List Parameter → Bool
fit_behind c before arguments = list_all (is_argument c) arguments && is_empty (again before arguments)

-- ---- the next argument

module _ (c : Composite) (before : List Name) (a : Parameter) (rest : List Parameter) where
  pub misfit : is_argument c a ≡ false → fit_behind c before (a ∷ rest) ≡ false
  misfit no_argument = ap (λ b. (b && list_all (is_argument c) rest) && is_empty (again before (a ∷ rest))) no_argument

  abbrev behind : Bool → List Name
  behind taken = (if taken then a.name ∷ [] else []) ++ again (a.name ∷ before) rest

  pub twice : list_any (λ m. bytes_eq m.what a.name.what) before ≡ true → fit_behind c before (a ∷ rest) ≡ false
  twice taken = ap (λ t. list_all (is_argument c) (a ∷ rest) && is_empty (behind t)) taken ∙ and_false (list_all (is_argument c) (a ∷ rest))

  pub fitting : is_argument c a ≡ true → list_any (λ m. bytes_eq m.what a.name.what) before ≡ false
      → fit_behind c before (a ∷ rest) ≡ fit_behind c (a.name ∷ before) rest
  fitting argument new = λ i. (argument i && list_all (is_argument c) rest) && is_empty (behind (new i))

-- ---- the names of those that stand before

-- the names are the same
pub record Stand (before : List Name) (names : List (List ℕ)) : Type 0 where
  pub among : (q : List ℕ) → list_any (λ m. bytes_eq m.what q) before ≡ is_named names q

among_last : (q n : List ℕ) (names : List (List ℕ)) → (bytes_eq n q || is_named names q) ≡ is_named (names ++ n ∷ []) q
among_last q n [] = refl
among_last q n (m ∷ names) = swap (bytes_eq n q) (bytes_eq m q) (is_named names q) ∙ ap (λ b. bytes_eq m q || b) (among_last q n names)
  where
    swap : (a b d : Bool) → (a || (b || d)) ≡ (b || (a || d))
    swap true true d = refl
    swap true false d = refl
    swap false b d = refl

module _ (arguments : List Parameter) (i : ℕ) (a : Parameter) (within : i < length arguments) (here : a ≡ get_or arguments i a) where
  pub rest_at : drop i arguments ≡ a ∷ drop (i + 1) arguments
  rest_at = rw add-one (drop-cons arguments i a within ∙ ap (λ x. x ∷ drop (suc i) arguments) (sym here))

  pub names_at : argument_names (take i arguments) ++ a.name.what ∷ [] ≡ argument_names (take (i + 1) arguments)
  names_at =
      rw add-one (sym (ap argument_names (take-suc arguments i a within ∙ ap (λ x. take i arguments ++ x ∷ []) (sym here))
      ∙ map-append (λ a. a.name.what) (take i arguments) (a ∷ [])))

  pub stand_at : (before : List Name) → Stand before (argument_names (take i arguments)) → Stand (a.name ∷ before) (argument_names (take (i + 1) arguments))
  stand_at before stand = record {
    among = λ q.
        ap (λ b. bytes_eq a.name.what q || b) (stand.among q) ∙ among_last q a.name.what (argument_names (take i arguments)) ∙ ap (λ n. is_named n q) names_at;
  }

-- ---- parameters

any_name : (q : List ℕ) (arguments : List Parameter) → is_named (argument_names arguments) q ≡ list_any (λ a. bytes_eq a.name.what q) arguments
any_name q [] = refl
any_name q (a ∷ arguments) = ap (λ b. bytes_eq a.name.what q || b) (any_name q arguments)

-- where the arguments fit, what is left is whether each parameter has a value
pub parameters_left : (c : Composite) (arguments : List Parameter) (valued : Bool)
    → valued ≡ list_all (λ p. is_some p.default || is_named (argument_names arguments) p.name.what) c.parameters
    → fit_once c arguments ≡ true → valued ≡ fit_parameters c arguments
parameters_left c arguments valued e fit =
    e ∙ (λ i. list_all (λ p. is_some p.default || any_name p.name.what arguments i) c.parameters)
    ∙ ap (λ b. b && list_all (has_value arguments) c.parameters) (sym fit)
