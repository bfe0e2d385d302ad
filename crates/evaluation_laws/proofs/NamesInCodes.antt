-- The names in a code are those in its parts.
use Rattle.std.specs.Prelude.{◌≡◌, ℕ, List, [], ◌∷◌, ◌++◌}
use Rattle.std.specs.List.{flat_map}
use Rattle.std.proofs.Common.{refl, ap, ◌∙◌}
use Rattle.std.proofs.lemmas.List.Folds.{flat_map-map}
use Rattle.spl_tree.specs.declared.code.BinaryCode.{BinaryCode}
use Rattle.spl_tree.specs.declared.code.BuiltIn.{BuiltIn}
use Rattle.spl_tree.specs.declared.code.Code.{Code}
use Rattle.spl_tree.specs.declared.code.Code.TheVariants as S
use Rattle.spl_tree.specs.declared.code.Code.TheOpen as C
use Rattle.spl_tree.specs.declared.code.Code.TheOpen.{Code-F}
use Rattle.spl_tree.specs.declared.code.Code.TheViews.{out-Code}
use Rattle.spl_tree.specs.declared.code.Code.TheFolds.{fold_out-Code, map-Code}
use Rattle.spl_tree.specs.declared.code.Selector.{Selector}
use Rattle.spl_tree.specs.declared.code.Selector.TheVariants as K
use Rattle.spl_tree.specs.declared.code.UnaryCode.{UnaryCode}
use Rattle.language_model.specs.Slots.{names_in_taking, level_names, names_of}

module _ {N : Type 0} where
  names_at : (c : Code N) (x : Code-F N (Code N)) → out-Code N c ≡ x → names_of c ≡ level_names (map-Code N (Code N) (List N) names_of x)
  names_at c x p = fold_out-Code N (List N) level_names c ∙ ap (λ y. level_names (map-Code N (Code N) (List N) names_of y)) p

  abbrev pub pair_names : Code N × Code N → List N
  pair_names p = names_of p.0 ++ names_of p.1

  abbrev pub field_names : ℕ × Code N → List N
  field_names f = names_of f.1

  abbrev pub step_names : Selector (Code N) → List N
  step_names = names_in_taking names_of

  abbrev steps_in : {A : Type 0} → Code-F N A → List (Selector A)
  steps_in (C.Select x ss) = ss
  steps_in _ = []

  steps_joined : (x : Code N) (ts : List (Selector (Code N)))
      → flat_map (names_in_taking (λ (xs : List N). xs)) (steps_in (map-Code N (Code N) (List N) names_of (C.Select x ts))) ≡ flat_map step_names ts
  steps_joined x [] = refl
  steps_joined x (K.Member i ∷ ts) = steps_joined x ts
  steps_joined x (K.Element y ∷ ts) = ap (λ ys. names_of y ++ ys) (steps_joined x ts)
  steps_joined x (K.AtKey y ∷ ts) = ap (λ ys. names_of y ++ ys) (steps_joined x ts)

  pub name_names : (n : N) → names_of (S.Name n) ≡ n ∷ []
  name_names n = names_at (S.Name n) (C.Name n) (S.outs-Name n)

  pub list_names : (xs : List (Code N)) → names_of (S.List xs) ≡ flat_map names_of xs
  list_names xs = names_at (S.List xs) (C.List xs) (S.outs-List xs) ∙ flat_map-map (λ ys. ys) names_of xs

  pub map_names : (ps : List (Code N × Code N)) → names_of (S.Map ps) ≡ flat_map pair_names ps
  map_names ps = names_at (S.Map ps) (C.Map ps) (S.outs-Map ps) ∙ flat_map-map (λ p. p.0 ++ p.1) (λ (p : Code N × Code N). (names_of p.0, names_of p.1)) ps

  pub tuple_names : (fs : List (ℕ × Code N)) → names_of (S.Tuple fs) ≡ flat_map field_names fs
  tuple_names fs = names_at (S.Tuple fs) (C.Tuple fs) (S.outs-Tuple fs) ∙ flat_map-map (λ f. f.1) (λ (f : ℕ × Code N). (f.0, names_of f.1)) fs

  pub select_names : (x : Code N) (ts : List (Selector (Code N))) → names_of (S.Select x ts) ≡ names_of x ++ flat_map step_names ts
  select_names x ts = names_at (S.Select x ts) (C.Select x ts) (S.outs-Select x ts) ∙ ap (λ ys. names_of x ++ ys) (steps_joined x ts)

  pub unary_names : (ops : List UnaryCode) (x : Code N) → names_of (S.Unary ops x) ≡ names_of x
  unary_names ops x = names_at (S.Unary ops x) (C.Unary ops x) (S.outs-Unary ops x)

  pub binary_names : (op : BinaryCode) (x y : Code N) → names_of (S.Binary op x y) ≡ names_of x ++ names_of y
  binary_names op x y = names_at (S.Binary op x y) (C.Binary op x y) (S.outs-Binary op x y)

  pub conditional_names : (c x y : Code N) → names_of (S.Conditional c x y) ≡ names_of c ++ names_of x ++ names_of y
  conditional_names c x y = names_at (S.Conditional c x y) (C.Conditional c x y) (S.outs-Conditional c x y)

  pub built_in_names : (call : BuiltIn) (xs : List (Code N)) → names_of (S.BuiltIn call xs) ≡ flat_map names_of xs
  built_in_names call xs = names_at (S.BuiltIn call xs) (C.BuiltIn call xs) (S.outs-BuiltIn call xs) ∙ flat_map-map (λ ys. ys) names_of xs

  pub call_names : (i : ℕ) (xs : List (Code N)) → names_of (S.Call i xs) ≡ flat_map names_of xs
  call_names i xs = names_at (S.Call i xs) (C.Call i xs) (S.outs-Call i xs) ∙ flat_map-map (λ ys. ys) names_of xs
