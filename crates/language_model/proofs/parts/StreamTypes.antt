-- Words for parts of the rules of the attributes of streams.
use Rattle.std.specs.Prelude.{ℕ, List, length, drop, if◌then◌else◌, Option, slice_get}
use Rattle.std.specs.Option.{option_map_or}
use Rattle.spl_value.specs.declared.types.SplType.TheViews.{out-SplType}
use Rattle.spl_tree.specs.declared.graph.Graph.{Graph}
use Rattle.spl_tree.specs.declared.unit.Definition.{Definition}
use Rattle.spl_tree.specs.Trees.{Shape}
use Rattle.language_model.specs.After.{after}
use Rattle.language_model.specs.Expansion.{place_of}
use Rattle.language_model.specs.Invoking.{input_names}
use Rattle.language_model.specs.Leading.{leads_back}
use Rattle.language_model.specs.Scopes.{At}
use Rattle.language_model.specs.StreamTypes.{Attributes, Body, Origin, Passes, each_name, head_port, level_attributes, passed, shape_attributes, stream_leads}
use Rattle.language_model.specs.TypeNames.{composite_types, shape_meant}
use Rattle.language_model.specs.Typing.{Found, mismatch, unknown}

-- a name of a stream whose type leads back to itself means nothing
abbrev pub shape_or_stream : (ℕ → Found Attributes) → List Definition → Graph → Body → Shape → Option (At (List ℕ)) → Found Attributes
shape_or_stream streams unit g b shape named =
    option_map_or (λ n. if leads_back (length g.streams) (stream_leads unit g) n.place then unknown shape.at n.what else streams n.place)
    named (after (shape_meant (composite_types unit b.composite) shape) (λ t. level_attributes shape.at (out-SplType t)))

-- each stream of the graph is made somewhere
abbrev pub origin_attributes : (ℕ → Found Attributes) → List Definition → Graph → Option Origin → Found Attributes
origin_attributes streams unit g origin = option_map_or (λ o. shape_attributes streams unit g o.body o.output.shape) origin (mismatch 0)

abbrev pub head_input : (Body → List ℕ → Passes) → List Definition → Graph → Attributes → Body → ℕ → Passes
head_input heads unit g schema b port =
    head_port (λ o i. option_map_or (λ q. each_name (heads o) q.streams) (slice_get i.inputs port) passed) unit g schema b (slice_get b.composite.inputs port)

-- a stream that the graph makes has no input of the head as its name
abbrev pub own_or_head : (Body → List ℕ → Passes) → List Definition → Graph → Attributes → Body → List ℕ → Option ℕ → Passes
own_or_head heads unit g schema b name own =
    option_map_or (λ place. passed) own (option_map_or (head_input heads unit g schema b) (place_of name (input_names b.composite)) passed)

abbrev pub tail : List ℕ → List ℕ
tail xs = drop 1 xs
