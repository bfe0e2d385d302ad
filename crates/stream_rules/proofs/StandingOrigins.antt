-- The attributes of a stream by where it is made.
use Rattle.std.specs.Prelude.{◌≡◌, ℕ, suc, true, List, [], ◌∷◌, if◌then◌else◌, length, Option, Some, None}
use Rattle.std.specs.Option.{option_map, option_map_or, option_to_list}
use Rattle.std.proofs.Common.{ap, ◌∙◌}
use Rattle.spl_value.specs.declared.types.SplType.TheViews.{out-SplType}
use Rattle.spl_tree.specs.declared.graph.Graph.{Graph}
use Rattle.spl_tree.specs.declared.unit.Definition.{Definition}
use Rattle.language_model.specs.Leading.{leads_back}
use Rattle.language_model.specs.Scopes.{At, at_place}
use Rattle.language_model.specs.StreamTypes.{Origin, attributes_within, level_attributes, named_stream, origin_of, stream_leads}
use Rattle.language_model.proofs.parts.StreamTypes.{origin_attributes, shape_or_stream}
use Rattle.language_model.specs.TypeNames.{composite_types, shape_meant}
use Rattle.language_model.specs.Typing.{after, mismatch, unknown}

module _ (unit : List Definition) (g : Graph) (left at : ℕ) where
  pub made_nowhere : origin_of unit g at ≡ None → attributes_within (suc left) unit g at ≡ mismatch 0
  made_nowhere e = ap (origin_attributes (attributes_within left unit g) unit g) e

  module _ (o : Origin) (is : origin_of unit g at ≡ Some o) where
    there : attributes_within (suc left) unit g at ≡ shape_or_stream (attributes_within left unit g) unit g o.body o.output.shape (named_stream unit o.body o.output.shape)
    there = ap (origin_attributes (attributes_within left unit g) unit g) is

    pub own_there : named_stream unit o.body o.output.shape ≡ None
        → attributes_within (suc left) unit g at ≡ after (shape_meant (composite_types unit o.body.composite) o.output.shape) (λ t. level_attributes o.output.shape.at (out-SplType t))
    own_there none = there ∙ ap (shape_or_stream (attributes_within left unit g) unit g o.body o.output.shape) none

    leads_there : (place : ℕ) (name : List ℕ) → named_stream unit o.body o.output.shape ≡ Some (at_place place name) → stream_leads unit g at ≡ place ∷ []
    leads_there place name named =
        ap (λ o. option_map_or (λ o. option_to_list (option_map (λ n. n.place) (named_stream unit o.body o.output.shape))) o []) is
        ∙ ap (λ o. option_to_list (option_map (λ (n : At (List ℕ)). n.place) o)) named

    one_lead : (lead : Option ℕ) (place : ℕ) → option_to_list lead ≡ place ∷ [] → lead ≡ Some place
    one_lead None place e = absurd cc
    one_lead (Some p) place e = let same : p ≡ place = cc in ap Some same

    pub circle_there : (lead : Option ℕ) (place : ℕ) (name : List ℕ) → option_to_list lead ≡ stream_leads unit g at
        → ((to : ℕ) → lead ≡ Some to → leads_back (length g.streams) (stream_leads unit g) to ≡ true)
        → named_stream unit o.body o.output.shape ≡ Some (at_place place name) → attributes_within (suc left) unit g at ≡ unknown o.output.shape.at name
    circle_there lead place name steps end named =
        let back = end place (one_lead lead place (steps ∙ leads_there place name named)) in
        there ∙ ap (shape_or_stream (attributes_within left unit g) unit g o.body o.output.shape) named
        ∙ ap (λ b. if b then unknown o.output.shape.at name else attributes_within left unit g place) back
