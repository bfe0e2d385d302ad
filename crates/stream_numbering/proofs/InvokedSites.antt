-- Tables by sites, to which one more is added.
use Rattle.std.specs.Prelude.{◌≡◌, ◌<◌, ◌≤◌, ℕ, suc, ◌+◌, Bool, true, false, cond, List, length, if◌then◌else◌, Option, Some, None, is_some, slice_get}
use Rattle.std.specs.Option.{option_and_then, option_map_or, option_or}
use Rattle.std.proofs.Common.{refl, ap, sym, ◌∙◌, get_or, drop, add-one}
use Rattle.std.proofs.lemmas.List.{drop_more}
use Rattle.std.proofs.lemmas.Option.{slice_get-get_or, slice_get_past}
use Rattle.spl_tree.specs.declared.graph.Site.{Site}
use Rattle.spl_tree.specs.declared.unit.Composite.{Composite}
use Rattle.language_model.specs.declared.expansion.Operation.{Operation}
use Rattle.language_model.specs.Numbering.{is_site}
use Rattle.composite_tables.specs.declared.made.Body.{Body}
use Rattle.stream_numbering.specs.steps.SiteTable.{Parts, first_at, body_at, composite_of}
use Rattle.stream_numbering.proofs.Numbers.{rest_at}
use Rattle.graph_laws.proofs.Flattening.{same_site}

module _ (f g : Site → Option ℕ) (s : Site) (n : ℕ) where
  pub added : ((q : Site) → g q ≡ cond (is_site s q) (Some n) (f q)) → is_some (f s) ≡ false
      → (q : Site) → g q ≡ option_or (f q) (if is_site s q then Some n else None)
  added updates absent q = updates q ∙ stands (is_site s q) (f q) refl refl
    where
      stands : (b : Bool) (o : Option ℕ) → is_site s q ≡ b → f q ≡ o → cond b (Some n) o ≡ option_or o (if b then Some n else None)
      stands true None e d = refl
      stands true (Some k) e d = let there = sym absent ∙ ap (λ s. is_some (f s)) (same_site s q e) ∙ ap is_some d in cc
      stands false None e d = refl
      stands false (Some k) e d = refl

  pub had : is_some (f s) ≡ true → (q : Site) → f q ≡ option_or (f q) (if is_site s q then Some n else None)
  had there q = stands (is_site s q) (f q) refl refl
    where
      stands : (b : Bool) (o : Option ℕ) → is_site s q ≡ b → f q ≡ o → o ≡ option_or o (if b then Some n else None)
      stands b (Some k) e d = refl
      stands false None e d = refl
      stands true None e d = let absent = sym there ∙ ap (λ s. is_some (f s)) (same_site s q e) ∙ ap is_some d in cc

is_turned : (s q : Site) → is_site s q ≡ true → is_site q s ≡ true
is_turned s q h = let same = same_site s q h in ap (λ t. is_site t s) (sym same) ∙ ap (is_site s) same ∙ h

is_site-swap : (s q : Site) → is_site s q ≡ is_site q s
is_site-swap s q = by (is_site s q) (is_site q s) refl refl
  where
    by : (a b : Bool) → is_site s q ≡ a → is_site q s ≡ b → a ≡ b
    by true true d e = refl
    by false false d e = refl
    by true false d e = let h = sym (is_turned s q d) ∙ e in cc
    by false true d e = let h = sym (is_turned q s e) ∙ d in cc

-- ---- tables of what stands at sites, filled from the front

-- what is found already, and what comes after it
taken_over : (old new rest : Option ℕ) (b : Bool) (n : ℕ) → new ≡ option_or old (if b then Some n else None)
    → option_or new rest ≡ option_or old (if b then Some n else rest)
taken_over (Some k) new rest b n e = ap (λ o. option_or o rest) e
taken_over None new rest true n e = ap (λ o. option_or o rest) e
taken_over None new rest false n e = ap (λ o. option_or o rest) e

pub or_nothing : (o : Option ℕ) → option_or o None ≡ o
or_nothing None = refl
or_nothing (Some n) = refl

module _ (q : Site) (old new : Option ℕ) (number next i : ℕ) where
  pub operation_step : (ops : List Operation) (op : Operation) → i < length ops → op ≡ get_or ops i op → next ≡ number + op.outputs
      → new ≡ option_or old (if is_site op.site q then Some number else None)
      → option_or new (first_at next (drop (i + 1) ops) q) ≡ option_or old (first_at number (drop i ops) q)
  operation_step ops op within here counted added =
      ap (λ n. option_or new (first_at n (drop (i + 1) ops) q)) counted
      ∙ taken_over old new (first_at (number + op.outputs) (drop (i + 1) ops) q) (is_site op.site q) number added
      ∙ ap (λ os. option_or old (first_at number os q)) (sym (rest_at ops i op within here))

  module _ (bodies : List Body) (d : Body) (within : i < length bodies) (counted : next ≡ number + 1) where
    abbrev b : Body
    b = get_or bodies i d

    body_step : new ≡ option_or old (if option_map_or (is_site q) b.site false then Some number else None)
        → option_or new (body_at next (drop (i + 1) bodies) q) ≡ option_or old (body_at number (drop i bodies) q)
    body_step added =
        ap (λ n. option_or new (body_at n (drop (i + 1) bodies) q)) (counted ∙ add-one number)
        ∙ taken_over old new (body_at (suc number) (drop (i + 1) bodies) q) (option_map_or (is_site q) b.site false) number added
        ∙ ap (λ bs. option_or old (body_at number bs q)) (sym (drop_more bodies i d within))

    pub site_step : (s : Site) → b.site ≡ Some s → new ≡ option_or old (if is_site s q then Some number else None)
        → option_or new (body_at next (drop (i + 1) bodies) q) ≡ option_or old (body_at number (drop i bodies) q)
    site_step s at added =
        body_step (
        added ∙ ap (λ b. option_or old (if b then Some number else None)) (is_site-swap s q)
        ∙ ap (λ o. option_or old (if option_map_or (is_site q) o false then Some number else None)) (sym at)
        )

    pub no_site_step : b.site ≡ None → new ≡ old → option_or new (body_at next (drop (i + 1) bodies) q) ≡ option_or old (body_at number (drop i bodies) q)
    no_site_step at same =
        body_step (same ∙ sym (or_nothing old) ∙ ap (λ o. option_or old (if option_map_or (is_site q) o false then Some number else None)) (sym at))

-- ---- the composite of a body

module _ (parts : Parts) (number : ℕ) (bodies : List Body) (same : parts.bodies ≡ bodies) where
  pub composite_there : (composites : List Composite) (b : Body) → parts.composites ≡ composites → number < length bodies → b ≡ get_or bodies number b
      → slice_get composites b.composite ≡ composite_of parts number
  composite_there composites b all within here =
      sym (
      ap (λ bs. option_and_then (λ b. slice_get parts.composites b.composite) (slice_get bs number)) same
      ∙ ap (option_and_then (λ b. slice_get parts.composites b.composite)) (slice_get-get_or bodies number b within ∙ ap Some (sym here))
      ∙ ap (λ cs. slice_get cs b.composite) all
      )

  pub no_composite_there : length bodies ≤ number → None ≡ composite_of parts number
  no_composite_there past =
      sym (
      ap (λ bs. option_and_then (λ b. slice_get parts.composites b.composite) (slice_get bs number)) same
      ∙ ap (option_and_then (λ b. slice_get parts.composites b.composite)) (slice_get_past bodies number past)
      )
