-- Where the defaults of parameters lead, by their rows.
use Rattle.std.specs.Prelude.{◌≡◌, ◌<◌, ◌+◌, ◌==◌, ℕ, zero, suc, Bool, true, false, not, ◌&&◌, if◌then◌else◌, List, [], ◌∷◌, filter_map, length, map, Option, Some, None, is_some, slice_get, slice_index_or}
use Rattle.std.specs.List.{cons_option}
use Rattle.std.specs.Option.{option_map, option_map_or}
use Rattle.std.specs.Str.{bytes_eq}
use Rattle.std.proofs.Common.{refl, ap, sym, subst, ◌∙◌, arith}
use Rattle.std.proofs.lemmas.Bool.{eq-eqb}
use Rattle.std.proofs.lemmas.Option.{same_Some}
use Rattle.spl_tree.specs.declared.unit.CompositeParameter.{CompositeParameter}
use Rattle.spl_tree.specs.declared.unit.Parameter.{Parameter}
use Rattle.language_model.specs.DollarLaws.{dollars_in}
use Rattle.language_model.specs.Leading.{leads_back}
use Rattle.language_model.specs.Parameters.{has_meaning, parameter_leads, parameter_place}
use Rattle.language_model.specs.parts.Parameters.{default_leads}
use Rattle.language_model.specs.Scopes.{At, at_place, first_from}
use Rattle.language_model.specs.DollarTargets.{value_named}
use Rattle.dollar_rules.specs.steps.Heads.{rows_of}
use Rattle.written_types.specs.Stepping.{LeadsWithin, steps_from}

first_within : {A : Type 0} (p : A → Bool) (i : ℕ) (xs : List A) (k : ℕ) → option_map (λ a. a.place) (first_from p i xs) ≡ Some k → k < i + length xs
first_within p i [] k e = absurd cc
first_within p i (x ∷ xs) k e =
    elim (p x) as (λ b. option_map (λ (a : At _). a.place) (if b then Some (at_place i x) else first_from p (suc i) xs) ≡ Some k → k < i + length (x ∷ xs)) [
      | true ↦ λ here. let at : i ≡ k = same_Some i k here in omega (arith, at)
      | false ↦ λ later. let rest = first_within p (suc i) xs k later in omega (arith, rest)
    ] e

place_within : (ps : List CompositeParameter) (name : List ℕ) (k : ℕ) → parameter_place ps name ≡ Some k → k < length ps
place_within ps name k e = let h = first_within (λ p. bytes_eq p.name.what name) 0 ps k e in omega (arith, h)

filtered_within : (h : List ℕ → Option ℕ) (n : ℕ) → ((name : List ℕ) (k : ℕ) → h name ≡ Some k → k < n)
    → (names : List (List ℕ)) (j d : ℕ) → j < length (filter_map h names) → slice_index_or (filter_map h names) j d < n
filtered_within h n each [] j d = λ below. absurd (omega (arith, below))
filtered_within h n each (name ∷ names) j d =
    elim (h name) as (λ o. h name ≡ o → j < length (cons_option o (filter_map h names)) → slice_index_or (cons_option o (filter_map h names)) j d < n) [
      | None ↦ λ is below. filtered_within h n each names j d below
      | Some k ↦ λ is. elim j as (λ i. i < length (k ∷ filter_map h names) → slice_index_or (k ∷ filter_map h names) i d < n) [
        | zero ↦ λ below. each name k is
        | suc i ↦ λ below. filtered_within h n each names i d (omega (arith, below))
      ]
    ] refl

module _ (ps : List CompositeParameter) (arguments : List Parameter) where
  abbrev Within : List ℕ → Type 0
  Within row = (j d : ℕ) → j < length row → slice_index_or row j d < length ps

  none_within : Within []
  none_within j d below = absurd (omega (arith, below))

  row_within : (p : CompositeParameter) → Within (default_leads ps arguments p)
  row_within p =
      elim (is_some (value_named arguments p.name.what)) as (λ b. Within (if b then [] else option_map_or (λ e. filter_map (parameter_place ps) (dollars_in e)) p.default [])) [
        | true ↦ none_within
        | false ↦ elim p.default as (λ o. Within (option_map_or (λ e. filter_map (parameter_place ps) (dollars_in e)) o [])) [
          | None ↦ none_within
          | Some e ↦ filtered_within (parameter_place ps) (length ps) (place_within ps) (dollars_in e)
        ]
      ]

  rows_of_each : (qs : List CompositeParameter) (k : ℕ) (d : List ℕ) → k < length (map (default_leads ps arguments) qs)
      → Within (slice_index_or (map (default_leads ps arguments) qs) k d)
  rows_of_each [] k d below = absurd (omega (arith, below))
  rows_of_each (q ∷ qs) zero d below = row_within q
  rows_of_each (q ∷ qs) (suc k) d below = rows_of_each qs k d (omega (arith, below))

  as_many : (qs : List CompositeParameter) → length (map (default_leads ps arguments) qs) ≡ length qs
  as_many [] = refl
  as_many (q ∷ qs) = ap suc (as_many qs)

  pub rows_within : LeadsWithin (rows_of ps arguments)
  rows_within k d below j e inside = let h = rows_of_each ps k d below j e inside in subst (λ n. slice_index_or (slice_index_or (rows_of ps arguments) k d) j e < n) (sym (as_many ps)) h

  steps_in : (qs : List CompositeParameter) (k : ℕ) → steps_from (map (default_leads ps arguments) qs) k ≡ option_map_or (default_leads ps arguments) (slice_get qs k) []
  steps_in [] k = refl
  steps_in (q ∷ qs) zero = refl
  steps_in (q ∷ qs) (suc k) = steps_in qs k

  back_same : (place : ℕ) → leads_back (length (rows_of ps arguments)) (steps_from (rows_of ps arguments)) place ≡ leads_back (length ps) (parameter_leads ps arguments) place
  back_same place = λ i. leads_back (as_many ps i) (λ k. steps_in ps k i) place

  -- the first of its name
  pub meaning_of_first : (rows : List (List ℕ)) (place : ℕ) (p : CompositeParameter) (b : Bool) → rows ≡ rows_of ps arguments → parameter_place ps p.name.what ≡ Some place
      → b ≡ leads_back (length rows) (steps_from rows) place → not b ≡ has_meaning ps arguments place p
  meaning_of_first rows place p b are first e =
      let known : leads_back (length rows) (steps_from rows) place ≡ leads_back (length ps) (parameter_leads ps arguments) place =
      ap (λ rs. leads_back (length rs) (steps_from rs) place) are ∙ back_same place in
      ap not (e ∙ known)
      ∙ ap (λ b. b && not (leads_back (length ps) (parameter_leads ps arguments) place)) (sym (ap (λ o. option_map_or (λ first. first == place) o false) first ∙ eq-eqb place place refl))

  pub meaning_of_other : (place : ℕ) (p : CompositeParameter) (o : Option ℕ) → parameter_place ps p.name.what ≡ o → option_map_or (λ first. first == place) o false ≡ false
      → false ≡ has_meaning ps arguments place p
  meaning_of_other place p o e other =
      ap (λ b. b && not (leads_back (length ps) (parameter_leads ps arguments) place)) (sym (ap (λ o. option_map_or (λ first. first == place) o false) e ∙ other))
