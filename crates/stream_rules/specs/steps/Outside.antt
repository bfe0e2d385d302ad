-- What stands outside a name of a body.
use Rattle.std.specs.Prelude.{◌≡◌, ℕ, List, length, Option, Some, None, Result, Ok, Err}
use Rattle.std.specs.Option.{option_map_or}
use Rattle.spl_tree.specs.declared.graph.Graph.{Graph}
use Rattle.spl_tree.specs.declared.unit.Definition.{Definition}
use Rattle.spl_tree.specs.declared.unit.OutputStream.{OutputStream}
use Rattle.language_model.specs.Expansion.{place_of}
use Rattle.language_model.specs.StreamTypes.{Attributes, Body, Passes, output_heads, passed, stream_attributes}
use Rattle.language_model.specs.parts.StreamTypes.{head_output, outer_output, output_names}
use Rattle.language_model.specs.Typing.{Found, after}
use Rattle.language_model.specs.declared.answer.TypeAnswer.{TypeAnswer}
use Rattle.language_model.specs.declared.answer.TypeAnswer.TheVariants.{Refused, Memory}
use Rattle.body_sites.specs.Bodies.{body_seen}
use Rattle.stream_rules.specs.declared.origins.Origin.{Origin}

-- what the head around a name says, and then those around it
abbrev pub heads_of_output : (Body → List ℕ → Passes) → List Definition → Graph → Attributes → Body → List ℕ → Passes
heads_of_output heads unit g schema b name = option_map_or (head_output heads unit g schema b) (place_of name (output_names b.composite)) passed

-- what the heads say is what an output outside says, with the heads around that; or they say nothing; or it is refused already
abbrev pub StandsOutside : List Definition → Graph → Attributes → Body → List ℕ → Result (Option Origin) TypeAnswer → Type 0
StandsOutside unit g schema b name (Ok (Some o)) =
    (heads : Body → List ℕ → Passes) → heads_of_output heads unit g schema b name ≡ outer_output heads unit g schema (body_seen o.body) o.output.now
StandsOutside unit g schema b name (Ok None) = (heads : Body → List ℕ → Passes) → heads_of_output heads unit g schema b name ≡ passed
StandsOutside unit g schema b name (Err (Refused refusal)) = (heads : Body → List ℕ → Passes) → heads_of_output heads unit g schema b name ≡ Err refusal
StandsOutside unit g schema b name (Err Memory) = Unit {0}

-- the attributes of one output, with what the heads say of it
abbrev pub output_found : List Definition → Graph → Body → OutputStream → ℕ → Found Attributes
output_found unit g b o s =
    after (stream_attributes unit g s) (λ schema. after (output_heads (length g.expansions) unit g schema b o.name.what) (λ u. Ok schema))
