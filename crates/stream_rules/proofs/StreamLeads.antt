-- Which streams lead back to themselves, and what a stream is by the one that it leads to.
use Rattle.std.specs.Prelude.{◌≡◌, ℕ, zero, suc, ◌==◌, Bool, true, false, ◌||◌, List, [], ◌∷◌, if◌then◌else◌, length, Option, Some, None}
use Rattle.std.specs.List.{list_any}
use Rattle.std.specs.Option.{option_map, option_map_or, option_to_list}
use Rattle.std.proofs.Common.{refl, ap, sym, ◌∙◌}
use Rattle.std.proofs.lemmas.Bool.{eq-eqb}
use Rattle.spl_tree.specs.declared.graph.Graph.{Graph}
use Rattle.spl_tree.specs.declared.unit.Definition.{Definition}
use Rattle.spl_tree.specs.Trees.{Shape}
use Rattle.language_model.specs.Leading.{leads, leads_back}
use Rattle.language_model.specs.Scopes.{At}
use Rattle.language_model.specs.StreamTypes.{Attributes, Body, Origin, attributes_within, named_stream, origin_of, stream_leads}
use Rattle.language_model.proofs.parts.StreamTypes.{origin_attributes, shape_or_stream}
use Rattle.language_model.specs.Typing.{Found, unknown}
use Rattle.stream_rules.specs.steps.Origins.{lead_at}
use Rattle.spl_value.proofs.Bools.{or_false}

-- ---- back to itself

module _ (next : List (Option ℕ)) (f : ℕ → List ℕ) (each : (p : ℕ) → option_to_list (lead_at next p) ≡ f p) (place : ℕ) where
  led : (at to : ℕ) → lead_at next at ≡ Some to → f at ≡ to ∷ []
  led at to e = sym (each at) ∙ ap option_to_list e

  nowhere : (at : ℕ) → lead_at next at ≡ None → f at ≡ []
  nowhere at e = sym (each at) ∙ ap option_to_list e

  pub ends : (left at : ℕ) → lead_at next at ≡ None → leads left f at place ≡ false
  ends zero at e = refl
  ends (suc left) at e = ap (list_any (λ n. (n == place) || leads left f n place)) (nowhere at e)

  pub arrives : (left at to : ℕ) → lead_at next at ≡ Some to → to ≡ place → leads (suc left) f at place ≡ true
  arrives left at to e here =
      ap (list_any (λ n. (n == place) || leads left f n place)) (led at to e) ∙ (λ i. ((eq-eqb to place here i) || leads left f to place) || false)

  pub goes_on : (left at to : ℕ) → lead_at next at ≡ Some to → (to == place) ≡ false → leads (suc left) f at place ≡ leads left f to place
  goes_on left at to e other =
      ap (list_any (λ n. (n == place) || leads left f n place)) (led at to e)
      ∙ (λ i. (other i || leads left f to place) || false) ∙ or_false (leads left f to place)

-- ---- the one that it leads to

module _ (unit : List Definition) (g : Graph) where
  abbrev circular : ℕ → Bool
  circular place = leads_back (length g.streams) (stream_leads unit g) place

  abbrev place_of_named : Option (At (List ℕ)) → List ℕ
  place_of_named o = option_to_list (option_map (λ n. n.place) o)

  named_on : (streams : ℕ → Found Attributes) (b : Body) (shape : Shape) (o : Option (At (List ℕ))) (to : ℕ) → place_of_named o ≡ to ∷ [] → circular to ≡ false
      → shape_or_stream streams unit g b shape o ≡ streams to
  named_on streams b shape None to e c = absurd cc
  named_on streams b shape (Some n) to e c =
      let same : n.place ≡ to = cc in
      ap (λ p. if circular p then unknown shape.at n.what else streams p) same ∙ ap (λ b. if b then unknown shape.at n.what else streams to) c

  origin_on : (streams : ℕ → Found Attributes) (o : Option Origin) (to : ℕ)
      → option_map_or (λ o. place_of_named (named_stream unit o.body o.output.shape)) o [] ≡ to ∷ [] → circular to ≡ false → origin_attributes streams unit g o ≡ streams to
  origin_on streams None to e c = absurd cc
  origin_on streams (Some o) to e c = named_on streams o.body o.output.shape (named_stream unit o.body o.output.shape) to e c

  pub step_on : (fuel at to : ℕ) → stream_leads unit g at ≡ to ∷ [] → circular to ≡ false → attributes_within (suc fuel) unit g at ≡ attributes_within fuel unit g to
  step_on fuel at to e c = origin_on (attributes_within fuel unit g) (origin_of unit g at) to e c
