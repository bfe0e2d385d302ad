-- The value of a code by those of its parts, an equation for each form.
use Rattle.std.specs.Prelude.{◌≡◌, ℕ, Bool, not, if◌then◌else◌, List, [], ◌∷◌, map}
use Rattle.std.proofs.Common.{refl, ap, ◌∙◌}
use Rattle.spl_value.specs.declared.value.Value.{Value}
use Rattle.spl_value.specs.declared.value.Value.TheVariants as V
use Rattle.spl_tree.specs.declared.code.Code.{Code}
use Rattle.spl_tree.specs.declared.code.Code.TheVariants as S
use Rattle.spl_tree.specs.declared.code.Code.TheOpen as C
use Rattle.spl_tree.specs.declared.code.Code.TheOpen.{Code-F}
use Rattle.spl_tree.specs.declared.code.Code.TheViews.{out-Code}
use Rattle.spl_tree.specs.declared.code.Code.TheFolds.{fold_out-Code, map-Code}
use Rattle.spl_tree.specs.declared.code.Selector.{Selector}
use Rattle.spl_tree.specs.declared.code.Selector.TheVariants as K
use Rattle.spl_tree.specs.declared.code.UnaryCode.{UnaryCode}
use Rattle.spl_tree.specs.declared.code.BinaryCode.{BinaryCode}
use Rattle.spl_tree.specs.declared.code.BuiltIn.{BuiltIn}
use Rattle.spl_tree.specs.declared.code.Marker.{Marker}
use Rattle.language_model.specs.Outcomes.{Outcome, Done, followed, need, settled, enter}
use Rattle.language_model.specs.parts.BuiltInCalls.{built_in_of}
use Rattle.language_model.specs.Evaluation.{World, Meaning, Calls, all_of, pairs_of, fields_of, tuple_of, taken_all, unaries_of, truth, binary, same_marker, level_value, code_value}
use Rattle.language_model.specs.parts.Evaluation.{map_of}

module _ {N : Type 0} (calls : Calls) where
  -- ---- rows of codes

  abbrev pub values_of : List (Code N) → World N → ℕ → Outcome (List Value)
  values_of xs = all_of (map (code_value calls) xs)

  abbrev pub pair_meaning : Code N × Code N → Meaning N × Meaning N
  pair_meaning p = (code_value calls p.0, code_value calls p.1)

  abbrev pub pair_values : List (Code N × Code N) → World N → ℕ → Outcome (List (Value × Value))
  pair_values ps = pairs_of (map pair_meaning ps)

  abbrev pub field_meaning : ℕ × Code N → ℕ × Meaning N
  field_meaning f = (f.0, code_value calls f.1)

  abbrev pub field_values : List (ℕ × Code N) → World N → ℕ → Outcome (List (ℕ × Value))
  field_values fs = fields_of (map field_meaning fs)

  abbrev pub taking_meaning : Selector (Code N) → Selector (Meaning N)
  taking_meaning (K.Member i) = K.Member i
  taking_meaning (K.Element x) = K.Element (code_value calls x)
  taking_meaning (K.AtKey x) = K.AtKey (code_value calls x)

  abbrev pub takings_value : List (Selector (Code N)) → Value → World N → ℕ → Outcome Value
  takings_value ts = taken_all (map taking_meaning ts)

  abbrev pub truth_value : Code N → World N → ℕ → Outcome Bool
  truth_value c = truth (code_value calls c)

  -- ---- one equation for each form

  at_level : (c : Code N) (x : Code-F N (Code N)) → out-Code N c ≡ x → code_value calls c ≡ level_value calls (map-Code N (Code N) (Meaning N) (code_value calls) x)
  at_level c x p = fold_out-Code N (Meaning N) (level_value calls) c ∙ ap (λ y. level_value calls (map-Code N (Code N) (Meaning N) (code_value calls) y)) p

  at : (c : Code N) (x : Code-F N (Code N)) → out-Code N c ≡ x → (w : World N) (turns : ℕ)
      → code_value calls c w turns ≡ level_value calls (map-Code N (Code N) (Meaning N) (code_value calls) x) w turns
  at c x p w turns = ap (λ m. m w turns) (at_level c x p)

  abbrev takings_in : {A : Type 0} → Code-F N A → List (Selector A)
  takings_in (C.Select x ts) = ts
  takings_in _ = []

  takings_mapped : (x : Code N) (ts : List (Selector (Code N))) → takings_in (map-Code N (Code N) (Meaning N) (code_value calls) (C.Select x ts)) ≡ map taking_meaning ts
  takings_mapped x [] = refl
  takings_mapped x (K.Member i ∷ ts) = ap (λ us. K.Member i ∷ us) (takings_mapped x ts)
  takings_mapped x (K.Element y ∷ ts) = ap (λ us. K.Element (code_value calls y) ∷ us) (takings_mapped x ts)
  takings_mapped x (K.AtKey y ∷ ts) = ap (λ us. K.AtKey (code_value calls y) ∷ us) (takings_mapped x ts)

  pub literal_is : (v : Value) (w : World N) (turns : ℕ) → code_value calls (S.Literal v) w turns ≡ Done v turns
  literal_is v w turns = at (S.Literal v) (C.Literal v) (S.outs-Literal v) w turns

  pub name_is : (n : N) (w : World N) (turns : ℕ) → code_value calls (S.Name n) w turns ≡ need (w.value_of n) (λ v. Done v turns)
  name_is n w turns = at (S.Name n) (C.Name n) (S.outs-Name n) w turns

  pub list_is : (xs : List (Code N)) (w : World N) (turns : ℕ) → code_value calls (S.List xs) w turns ≡ followed (values_of xs w turns) (λ vs turns. Done (V.List vs) turns)
  list_is xs w turns = at (S.List xs) (C.List xs) (S.outs-List xs) w turns

  pub map_is : (ps : List (Code N × Code N)) (w : World N) (turns : ℕ)
      → code_value calls (S.Map ps) w turns ≡ followed (pair_values ps w turns) (λ qs turns. Done (V.Map (map_of qs)) turns)
  map_is ps w turns = at (S.Map ps) (C.Map ps) (S.outs-Map ps) w turns

  pub tuple_is : (fs : List (ℕ × Code N)) (w : World N) (turns : ℕ)
      → code_value calls (S.Tuple fs) w turns ≡ followed (field_values fs w turns) (λ gs turns. need (tuple_of gs) (λ vs. Done (V.Tuple vs) turns))
  tuple_is fs w turns = at (S.Tuple fs) (C.Tuple fs) (S.outs-Tuple fs) w turns

  pub select_is : (x : Code N) (ts : List (Selector (Code N))) (w : World N) (turns : ℕ)
      → code_value calls (S.Select x ts) w turns ≡ followed (code_value calls x w turns) (λ v turns. takings_value ts v w turns)
  select_is x ts w turns =
      at (S.Select x ts) (C.Select x ts) (S.outs-Select x ts) w turns
      ∙ ap (λ us. followed (code_value calls x w turns) (λ v turns. taken_all us v w turns)) (takings_mapped x ts)

  pub unary_is : (ops : List UnaryCode) (x : Code N) (w : World N) (turns : ℕ)
      → code_value calls (S.Unary ops x) w turns ≡ followed (code_value calls x w turns) (λ v turns. unaries_of ops v turns)
  unary_is ops x w turns = at (S.Unary ops x) (C.Unary ops x) (S.outs-Unary ops x) w turns

  pub binary_is : (op : BinaryCode) (x y : Code N) (w : World N) (turns : ℕ)
      → code_value calls (S.Binary op x y) w turns ≡ binary op (code_value calls x) (code_value calls y) w turns
  binary_is op x y w turns = at (S.Binary op x y) (C.Binary op x y) (S.outs-Binary op x y) w turns

  pub conditional_is : (c x y : Code N) (w : World N) (turns : ℕ)
      → code_value calls (S.Conditional c x y) w turns
      ≡ followed (truth_value c w turns) (λ b turns. if b then code_value calls x w turns else code_value calls y w turns)
  conditional_is c x y w turns = at (S.Conditional c x y) (C.Conditional c x y) (S.outs-Conditional c x y) w turns

  pub built_in_is : (call : BuiltIn) (xs : List (Code N)) (w : World N) (turns : ℕ)
      → code_value calls (S.BuiltIn call xs) w turns ≡ followed (values_of xs w turns) (λ vs turns. settled (built_in_of call vs) turns)
  built_in_is call xs w turns = at (S.BuiltIn call xs) (C.BuiltIn call xs) (S.outs-BuiltIn call xs) w turns

  pub call_is : (i : ℕ) (xs : List (Code N)) (w : World N) (turns : ℕ)
      → code_value calls (S.Call i xs) w turns ≡ followed (values_of xs w turns) (λ vs turns. enter turns (λ turns. calls i vs turns))
  call_is i xs w turns = at (S.Call i xs) (C.Call i xs) (S.outs-Call i xs) w turns

  pub is_marker_is : (m : Marker) (w : World N) (turns : ℕ) → code_value calls (S.IsMarker m) w turns ≡ need w.marker (λ n. Done (V.Bool (same_marker m n)) turns)
  is_marker_is m w turns = at (S.IsMarker m) (C.IsMarker m) (S.outs-IsMarker m) w turns

  pub is_not_marker_is : (m : Marker) (w : World N) (turns : ℕ)
      → code_value calls (S.IsNotMarker m) w turns ≡ need w.marker (λ n. Done (V.Bool (not (same_marker m n))) turns)
  is_not_marker_is m w turns = at (S.IsNotMarker m) (C.IsNotMarker m) (S.outs-IsNotMarker m) w turns

pub ruleset value_laws = (literal_is, name_is, list_is, map_is, tuple_is, select_is, unary_is, binary_is, conditional_is, built_in_is, call_is, is_marker_is, is_not_marker_is)
