-- Words for parts of the rules of the attributes of streams, each of which says what one function gives.
use Rattle.std.specs.Prelude.{ℕ, Bool, ◌||◌, List, map, replicate, if◌then◌else◌, Option, None, is_some, slice_get}
use Rattle.std.specs.Option.{option_and_then, option_map, option_map_or}
use Rattle.spl_tree.specs.declared.graph.Graph.{Graph}
use Rattle.spl_tree.specs.declared.graph.Site.{Site}
use Rattle.spl_tree.specs.declared.unit.Composite.{Composite}
use Rattle.spl_tree.specs.declared.unit.Definition.{Definition}
use Rattle.spl_tree.specs.declared.unit.HeadPort.{HeadPort}
use Rattle.spl_tree.specs.declared.unit.OutputStream.{OutputStream}
use Rattle.language_model.specs.After.{after}
use Rattle.language_model.specs.Expansion.{place_of}
use Rattle.language_model.specs.Invoking.{input_names, stream_names}
use Rattle.language_model.specs.Scopes.{At, at_place}
use Rattle.language_model.specs.StreamTypes.{Attributes, Body, Passes, body_at, each_name, head_port, passed, shape_matches, stream_in}
use Rattle.language_model.specs.TypeNames.{definition_of, type_definitions}

-- ---- names

abbrev pub own_stream : Body → List ℕ → Option ℕ
own_stream b name = option_and_then (slice_get b.expansion.streams) (place_of name (stream_names b.composite))

abbrev pub input_stream : Body → List ℕ → Option ℕ
input_stream b name = option_map (λ i. i.first) (option_and_then (slice_get b.expansion.inputs) (place_of name (input_names b.composite)))

-- a name that means a type in the body
abbrev pub is_type : List Definition → Body → List ℕ → Bool
is_type unit b name = is_some (definition_of b.composite.types name) || is_some (definition_of (type_definitions unit) name)

-- a name that is no type means a stream, by its number
abbrev pub stream_unless_type : List Definition → Body → List ℕ → Option (At (List ℕ))
stream_unless_type unit b name = if is_type unit b name then None else option_map (λ s. at_place s name) (stream_in b name)

-- ---- heads

-- the port of a head, where it has a shape
abbrev pub port_matches : List Definition → Graph → Body → Attributes → Option HeadPort → Passes
port_matches unit g b schema port = option_map_or (λ p. option_map_or (shape_matches unit g b schema) p.shape passed) port passed

abbrev pub output_names : Composite → List (List ℕ)
output_names c = map (λ p. p.name.what) c.outputs

-- what an output of an invocation says, and the heads around it
abbrev pub outer_output : (Body → List ℕ → Passes) → List Definition → Graph → Attributes → Body → OutputStream → Passes
outer_output heads unit g schema b o = after (shape_matches unit g b schema o.shape) (λ u. heads b o.name.what)

abbrev pub head_output : (Body → List ℕ → Passes) → List Definition → Graph → Attributes → Body → ℕ → Passes
head_output heads unit g schema b port =
    head_port (λ o i. option_map_or (outer_output heads unit g schema o) (slice_get i.outputs port) passed) unit g schema b (slice_get b.composite.outputs port)

abbrev pub invoked_input : (Body → List ℕ → Passes) → List Definition → Graph → ℕ → Site → Passes
invoked_input heads unit g port s =
    option_map_or (λ o. option_map_or (λ i. option_map_or (λ q. each_name (heads o) q.streams) (slice_get i.inputs port) passed)
    (slice_get o.composite.graph s.invocation) passed) (body_at unit g s.expansion) passed

-- ---- ports

abbrev pub so_often : ℕ → ℕ → List ℕ
so_often count at = replicate count at
