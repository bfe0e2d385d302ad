-- What is known of streams that a graph has, and of those that it doesn't have.
use Rattle.std.specs.Prelude.{◌≡◌, ℕ, zero, suc, ◌<◌, ◌≤◌, Bool, false, List, [], ◌∷◌, length, ◌⊎◌, Option, None, slice_get}
use Rattle.std.specs.Option.{option_and_then, option_map, option_map_or, option_to_list}
use Rattle.std.proofs.Common.{refl, ap, sym, ◌∙◌, arith, inl, inr}
use Rattle.std.proofs.lemmas.Bool.{cases_lt}
use Rattle.std.proofs.lemmas.Option.{slice_get_past}
use Rattle.spl_tree.specs.declared.graph.Graph.{Graph}
use Rattle.spl_tree.specs.declared.graph.Stream.{Stream}
use Rattle.spl_tree.specs.declared.unit.Definition.{Definition}
use Rattle.language_model.specs.Leading.{leads_back}
use Rattle.language_model.specs.StreamTypes.{named_stream, attributes_within, output_of_op, stream_attributes, stream_leads}
use Rattle.language_model.proofs.parts.StreamTypes.{origin_attributes}
use Rattle.language_model.specs.Typing.{mismatch}
use Rattle.stream_rules.specs.Circles.{TellsBack, flag_at}
use Rattle.stream_rules.specs.steps.Origins.{Steps, lead_at}
use Rattle.stream_rules.proofs.StreamLeads.{ends}

past_end : (flags : List Bool) (k : ℕ) → length flags ≤ k → flag_at flags k ≡ false
past_end [] k h = refl
past_end (b ∷ bs) zero h = absurd (omega (arith, h))
past_end (b ∷ bs) (suc k) h = past_end bs k (omega (arith, h))

no_lead : (next : List (Option ℕ)) (k : ℕ) → length next ≤ k → lead_at next k ≡ None
no_lead next k h = ap (option_and_then (λ (lead : Option ℕ). lead)) (slice_get_past next k h)

pub tells_of : (count : ℕ) (next : List (Option ℕ)) (f : ℕ → List ℕ) (back : List Bool) → Steps count next f → length back ≡ count
    → ((k : ℕ) → k < count → flag_at back k ≡ leads_back count f k) → TellsBack count f back
tells_of count next f back steps size each k = by_cases (cases_lt k count)
  where
    by_cases : (k < count) ⊎ (count ≤ k) → flag_at back k ≡ leads_back count f k
    by_cases (inl h) = each k h
    by_cases (inr h) = past_end back k (omega (arith, size, h)) ∙ sym (ends next f steps.each k count k (no_lead next k (omega (arith, steps.size, h))))

module _ (unit : List Definition) (g : Graph) where
  beyond : (k : ℕ) → length g.streams ≤ k → stream_leads unit g k ≡ []
  beyond k h =
      ap (λ (s : Option Stream).
      option_map_or (λ o. option_to_list (option_map (λ n. n.place) (named_stream unit o.body o.output.shape)))
      (option_and_then (λ stream. option_and_then (output_of_op unit g stream.port) (slice_get g.ops stream.maker)) s) []) (slice_get_past g.streams k h)

  pub beyond_attributes : (k : ℕ) → length g.streams ≤ k → stream_attributes unit g k ≡ mismatch 0
  beyond_attributes k h =
      ap (λ (s : Option Stream).
      origin_attributes (attributes_within (length g.streams) unit g) unit g
      (option_and_then (λ stream. option_and_then (output_of_op unit g stream.port) (slice_get g.ops stream.maker)) s)) (slice_get_past g.streams k h)

  pub steps_of : (next : List (Option ℕ)) → length next ≡ length g.streams → ((k : ℕ) → k < length g.streams → option_to_list (lead_at next k) ≡ stream_leads unit g k)
      → Steps (length g.streams) next (stream_leads unit g)
  steps_of next size each = record { size = size; each = λ k. by_cases k (cases_lt k (length g.streams)) }
    where
      by_cases : (k : ℕ) → (k < length g.streams) ⊎ (length g.streams ≤ k) → option_to_list (lead_at next k) ≡ stream_leads unit g k
      by_cases k (inl h) = each k h
      by_cases k (inr h) = ap option_to_list (no_lead next k (omega (arith, size, h))) ∙ sym (beyond k h)
