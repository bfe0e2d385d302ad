-- What a name takes in a body whose inputs are kept as a row.
use Rattle.std.specs.Prelude.{◌≡◌, ℕ, zero, suc, ◌<◌, List, [], ◌∷◌, length, Option, Some, None, slice_get, MatchOption}
use Rattle.std.specs.Option.{option_map_or}
use Rattle.std.proofs.Common.{refl, sym, ap, subst, ◌∙◌, arith}
use Rattle.std.proofs.lemmas.List.{length-map}
use Rattle.std.proofs.lemmas.Option.{none-some, slice_get_within}
use Rattle.spl_tree.specs.declared.unit.Composite.{Composite}
use Rattle.language_model.specs.Expansion.{Inlined, input_sources, place_of, source, sources_of}
use Rattle.language_model.proofs.parts.Expansion.{own_or_input}
use Rattle.language_model.specs.Invoking.{input_names, stream_names}
use Rattle.composite_tables.specs.declared.made.Input.{Input}
use Rattle.composite_tables.specs.declared.made.Taken.TheVariants as T
use Rattle.composite_tables.specs.Inputs.{AreNested, StandsFor, IsBody}
use Rattle.composite_tables.proofs.Extending.{taken_same}
use Rattle.graph_laws.proofs.Flattening.{place_within}

-- inputs need not be followed more often than there are bodies
pub sources_at : (xs : List Inlined) → AreNested xs → (number : ℕ) (x : Inlined) → slice_get xs number ≡ Some x → (name : List ℕ)
    → sources_of xs number name ≡ own_or_input (sources_of xs) xs number x name (place_of name (stream_names x.composite.what))
sources_at xs nested number x here name =
    let within : number < length xs = slice_get_within xs number x here in
    taken_same (length xs) xs xs (λ m h. refl) nested (length xs) (suc (length xs)) number within within (omega arith) name
    ∙ ap (λ o. option_map_or (λ e. own_or_input (sources_of xs) xs number e name (place_of name (stream_names e.composite.what))) o []) here

module _ (xs : List Inlined) (number : ℕ) (c : Composite) (row : List Input) (is : IsBody xs number c row) (name : List ℕ) where
  by_names : sources_of xs number name
      ≡ own_or_input (sources_of xs) xs number is.body name (place_of name (stream_names c))
  by_names = sources_at xs is.nested number is.body is.here name
      ∙ ap (λ d. own_or_input (sources_of xs) xs number is.body name (place_of name (stream_names d))) is.composite

  by_inputs : place_of name (stream_names c) ≡ None
      → sources_of xs number name ≡ option_map_or (input_sources (sources_of xs) xs is.body.site) (place_of name (input_names c)) []
  by_inputs none = by_names ∙ ap (own_or_input (sources_of xs) xs number is.body name) none
      ∙ ap (λ d. option_map_or (input_sources (sources_of xs) xs is.body.site) (place_of name (input_names d)) []) is.composite

  -- a stream of the graph
  pub own_taken : (k : ℕ) (i : Input) → place_of name (stream_names c) ≡ Some k
      → i ≡ record { count = 1; first = Some (source number k); taken = T.One (source number k) } → StandsFor xs number i (sources_of xs number name)
  own_taken k i some made =
      subst (λ i. StandsFor xs number i (sources_of xs number name)) (sym made)
      (subst (StandsFor xs number (record { count = 1; first = Some (source number k); taken = T.One (source number k) }))
      (sym (by_names ∙ ap (own_or_input (sources_of xs) xs number is.body name) some))
      (record { count = refl; first = refl; taken = refl; before = tt }))

  -- no stream and no input
  pub none_taken : place_of name (stream_names c) ≡ None → place_of name (input_names c) ≡ None → sources_of xs number name ≡ []
  none_taken none nowhere = by_inputs none ∙ ap (λ o. option_map_or (input_sources (sources_of xs) xs is.body.site) o []) nowhere

  -- an input
  pub input_taken : (j : ℕ) (r : Option Input) → place_of name (stream_names c) ≡ None → place_of name (input_names c) ≡ Some j → r ≡ slice_get row j
      → MatchOption r (sources_of xs number name ≡ []) (λ i. StandsFor xs number i (sources_of xs number name))
  input_taken j None none some given =
      let named : j < length (input_names c) = place_within name (input_names c) j some in
      let counted = is.inputs.count ∙ ap (λ d. length d.inputs) is.composite in
      let within : j < length row = omega (arith, length-map c.inputs (λ p. p.name.what)) in
      absurd (here_or_not row j within (sym given))
    where
      here_or_not : (row : List Input) (j : ℕ) → j < length row → slice_get row j ≡ None → ⊥
      here_or_not [] j within none = omega arith
      here_or_not (i ∷ row) zero within none = none-some i (sym none)
      here_or_not (i ∷ row) (suc j) within none = here_or_not row j (omega arith) none
  input_taken j (Some i) none some given =
      subst (StandsFor xs number i) (sym (by_inputs none ∙ ap (λ o. option_map_or (input_sources (sources_of xs) xs is.body.site) o []) some)) (is.inputs.each j i (sym given))
