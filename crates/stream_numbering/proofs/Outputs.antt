-- The stream that a name means: outputs are followed into bodies of greater numbers, so that what is followed ends.
use Rattle.std.specs.Prelude.{◌≡◌, ◌<◌, ◌≤◌, ℕ, zero, suc, ◌+◌, true, false, length, Option, Some, None, slice_get}
use Rattle.std.specs.Option.{option_and_then, option_map_or}
use Rattle.std.proofs.Common.{refl, ap, sym, ◌∙◌, subst, arith}
use Rattle.std.proofs.lemmas.List.Quantifiers.{position-Some}
use Rattle.std.proofs.lemmas.Option.{get_or_from_slice_get, slice_get_past}
use Rattle.spl_tree.specs.declared.graph.Site.{Site}
use Rattle.language_model.specs.declared.expansion.Source.{Source}
use Rattle.language_model.specs.Expansion.{Inlined, Made, source}
use Rattle.language_model.specs.Numbering.{is_site, site_at, output_place, operator_or_expansion, stream_of}
use Rattle.language_model.specs.parts.Numbering.{graph_outputs}
use Rattle.language_model.proofs.parts.Numbering.{operator_at, expansion_at}
use Rattle.composite_tables.specs.Inputs.{IsBefore, AreNested}
use Rattle.graph_laws.proofs.Flattening.{same_site}

pub and_then_same : {A B : Type 0} (f g : A → Option B) (o : Option A) → ((a : A) → o ≡ Some a → f a ≡ g a) → option_and_then f o ≡ option_and_then g o
and_then_same f g None h = refl
and_then_same f g (Some a) h = h a refl

-- one step inwards
abbrev pub followed_inputs : (Source → Option ℕ) → Made → Source → Option ℕ
followed_inputs inner made x =
    option_and_then (λ e. option_and_then
    (λ o. operator_or_expansion inner made (site_at x.expansion o) o.output (operator_at made (site_at x.expansion o)))
    (slice_get (graph_outputs e.composite.what) x.place))
    (slice_get made.expansions x.expansion)

module _ (made : Made) (nested : AreNested made.expansions) where
  is_inner : (s : Site) (m : ℕ) (x : Inlined) → expansion_at made s ≡ Some m → slice_get made.expansions m ≡ Some x → s.expansion < m
  is_inner s m x found there = by x.site refl (nested m x there)
    where
      stands : option_map_or (is_site s) x.site false ≡ true
      stands =
          ap (λ e. option_map_or (is_site s) e.site false) (sym (get_or_from_slice_get made.expansions m x x there))
          ∙ (position-Some (λ e. option_map_or (is_site s) e.site false) made.expansions m x found).1

      by : (o : Option Site) → x.site ≡ o → IsBefore m o → s.expansion < m
      by None e before = let h : false ≡ true = ap (λ o. option_map_or (is_site s) o false) (sym e) ∙ stands in cc
      by (Some t) e before =
          let same : s ≡ t = same_site s t (ap (λ o. option_map_or (is_site s) o false) (sym e) ∙ stands) in
          subst (λ (n : ℕ). n < m) (sym (ap (λ s. s.expansion) same)) before

  module _ (f g : Source → Option ℕ) (number : ℕ) (agree : (m place : ℕ) → number < m → f (source m place) ≡ g (source m place)) where
    inner_same : (s : Site) (k : ℕ) (o : Option ℕ) → s.expansion ≡ number → operator_or_expansion f made s k o ≡ operator_or_expansion g made s k o
    inner_same s k (Some n) here = refl
    inner_same s k None here =
        and_then_same _ _ (expansion_at made s) (λ m found.
        and_then_same _ _ (slice_get made.expansions m) (λ x there.
        and_then_same _ _ (output_place x.composite.what k) (λ place is.
        agree m place (subst (λ (n : ℕ). n < m) here (is_inner s m x found there)))))

    pub followed_same : (place : ℕ) → followed_inputs f made (source number place) ≡ followed_inputs g made (source number place)
    followed_same place =
        and_then_same _ _ (slice_get made.expansions number) (λ e there.
        and_then_same _ _ (slice_get (graph_outputs e.composite.what) place) (λ o named.
        inner_same (site_at number o) o.output (operator_at made (site_at number o)) refl))

  -- `count` steps are enough
  enough : (count number place : ℕ) → length made.expansions ≤ count + number → stream_of (suc count) made (source number place) ≡ stream_of count made (source number place)
  enough zero number place h =
      let past : length made.expansions ≤ number = omega arith in
      ap (option_and_then (λ e. option_and_then
      (λ o. operator_or_expansion (stream_of zero made) made (site_at number o) o.output (operator_at made (site_at number o)))
      (slice_get (graph_outputs e.composite.what) place))) (slice_get_past made.expansions number past)
  enough (suc count) number place h =
      followed_same (stream_of (suc count) made) (stream_of count made) number (λ m p lt. enough count m p (omega arith)) place

  pub stream_law : (x : Source) → stream_of (length made.expansions) made x ≡ followed_inputs (stream_of (length made.expansions) made) made x
  stream_law x = sym (enough (length made.expansions) x.expansion x.place (omega arith))
