-- The attributes of the streams of a graph, and what composites' heads and their invocations say of them.
use Rattle.std.specs.Prelude.{ℕ, zero, suc, Bool, ◌||◌, List, [], ◌∷◌, map, drop, replicate, zip, flat_map, length, if◌then◌else◌, Option, Some, None, Ok, is_some, slice_get}
use Rattle.std.specs.Option.{option_and_then, option_map, option_map_or, option_or, option_to_list}
use Rattle.spl_value.specs.declared.types.Named.{Named}
use Rattle.spl_value.specs.declared.types.SplType.{SplType}
use Rattle.spl_value.specs.declared.types.SplType.TheOpen as O
use Rattle.spl_value.specs.declared.types.SplType.TheOpen.{SplType-F}
use Rattle.spl_value.specs.declared.types.SplType.TheVariants as S
use Rattle.spl_value.specs.declared.types.SplType.TheViews.{out-SplType}
use Rattle.spl_tree.specs.declared.expression.Placed.{Placed}
use Rattle.spl_tree.specs.declared.graph.Expansion.{Expansion}
use Rattle.spl_tree.specs.declared.graph.Graph.{Graph}
use Rattle.spl_tree.specs.declared.graph.Op.{Op}
use Rattle.spl_tree.specs.declared.shape.ShapeKind.{ShapeKind}
use Rattle.spl_tree.specs.declared.shape.ShapeKind.TheVariants as H
use Rattle.spl_tree.specs.declared.shape.TypeKind.{TypeKind}
use Rattle.spl_tree.specs.declared.shape.TypeKind.TheOpen as Y
use Rattle.spl_tree.specs.declared.shape.TypeKind.TheOpen.{TypeKind-F}
use Rattle.spl_tree.specs.declared.shape.TypeKind.TheViews.{out-TypeKind}
use Rattle.spl_tree.specs.declared.unit.Composite.{Composite}
use Rattle.spl_tree.specs.declared.unit.Definition.{Definition}
use Rattle.spl_tree.specs.declared.unit.HeadPort.{HeadPort}
use Rattle.spl_tree.specs.declared.unit.InputPort.{InputPort}
use Rattle.spl_tree.specs.declared.unit.Invocation.{Invocation}
use Rattle.spl_tree.specs.declared.unit.OutputStream.{OutputStream}
use Rattle.spl_tree.specs.Trees.{Shape}
use Rattle.language_model.specs.After.{after, each}
use Rattle.language_model.specs.Expansion.{place_of}
use Rattle.language_model.specs.Invoking.{input_names, stream_names}
use Rattle.language_model.specs.Leading.{leads_back}
use Rattle.language_model.specs.Scopes.{At, at_place}
use Rattle.language_model.specs.DollarTargets.{composite_of}
use Rattle.language_model.specs.TypeNames.{composite_types, definition_of, shape_meant, type_definitions}
use Rattle.language_model.specs.Typing.{Found, mismatch, same_types, unknown}

abbrev pub Attributes : Type 0
Attributes = List (Named SplType)

-- what is looked at and passes, or else its refusal
abbrev pub Passes : Type 0
Passes = Found (Unit {0})

abbrev pub passed : Passes
passed = Ok tt

abbrev pub same_attributes : Attributes → Attributes → Bool
same_attributes xs ys = same_types (S.Tuple xs) (S.Tuple ys)

-- ---- bodies

-- the body of an expansion, with its number
pub record Body : Type 0 where
  pub number : ℕ
  pub expansion : Expansion
  pub composite : Composite

abbrev pub body_at : List Definition → Graph → ℕ → Option Body
body_at unit g number =
    option_and_then (λ x. option_map (λ c. record { number = number; expansion = x; composite = c })
    (composite_of unit x)) (slice_get g.expansions number)

-- the stream that a name means in a body: one that its graph makes, or the first that an input takes
abbrev pub stream_in : Body → List ℕ → Option ℕ
stream_in b name =
    option_or (option_and_then (slice_get b.expansion.streams) (place_of name (stream_names b.composite)))
    (option_map (λ i. i.first) (option_and_then (slice_get b.expansion.inputs)
    (place_of name (input_names b.composite))))

-- ---- shapes

-- what stands between `stream<` and `>` has to be a tuple
abbrev pub level_attributes : ℕ → SplType-F SplType → Found Attributes
level_attributes at (O.Tuple schema) = Ok schema
level_attributes at _ = mismatch at

-- the name that a shape is, where it is one alone
abbrev pub level_alone : TypeKind-F TypeKind → Option (List ℕ)
level_alone (Y.Name name) = Some name
level_alone _ = None

abbrev pub kind_alone : ShapeKind → Option (List ℕ)
kind_alone (H.Type t) = level_alone (out-TypeKind t.what)
kind_alone (H.Attributes attributes) = None

-- a shape that is one name alone, and no type in the body, means the stream of the name, by its number
abbrev pub named_stream : List Definition → Body → Shape → Option (At (List ℕ))
named_stream unit b shape =
    option_and_then (λ name. if is_some (definition_of b.composite.types name)
    || is_some (definition_of (type_definitions unit) name)
    then None else option_map (λ s. at_place s name) (stream_in b name)) (kind_alone shape.what)

-- ---- streams

-- where a stream is made: a body, and the output there
pub record Origin : Type 0 where
  pub body : Body
  pub output : OutputStream

abbrev pub output_of_op : List Definition → Graph → ℕ → Op → Option Origin
output_of_op unit g port op =
    option_and_then (λ b. option_and_then (λ i. option_map
    (λ o. record { body = b; output = o }) (slice_get i.outputs port))
    (slice_get b.composite.graph op.site.invocation)) (body_at unit g op.site.expansion)

abbrev pub origin_of : List Definition → Graph → ℕ → Option Origin
origin_of unit g s =
    option_and_then (λ stream. option_and_then (output_of_op unit g stream.port) (slice_get g.ops stream.maker))
    (slice_get g.streams s)

-- the stream whose name is the shape of a stream
abbrev pub stream_leads : List Definition → Graph → ℕ → List ℕ
stream_leads unit g s =
    option_map_or (λ o. option_to_list (option_map (λ n. n.place) (named_stream unit o.body o.output.shape)))
    (origin_of unit g s) []

-- what a shape in a body means, by what streams are. A name of a stream whose type leads back to itself means nothing
abbrev pub shape_attributes : (ℕ → Found Attributes) → List Definition → Graph → Body → Shape → Found Attributes
shape_attributes streams unit g b shape =
    option_map_or (λ n. if leads_back (length g.streams) (stream_leads unit g) n.place then unknown shape.at n.what
    else streams n.place)
    (named_stream unit b shape) (after (shape_meant (composite_types unit b.composite) shape) (λ t.
    level_attributes shape.at (out-SplType t)))

-- each stream of the graph is made somewhere. Names of streams are followed at most this number of times
abbrev pub attributes_within : ℕ → List Definition → Graph → ℕ → Found Attributes
attributes_within zero unit g s = mismatch 0
attributes_within (suc count) unit g s =
    option_map_or (λ o. shape_attributes (attributes_within count unit g) unit g o.body o.output.shape)
    (origin_of unit g s) (mismatch 0)

-- the attributes of a stream
abbrev pub stream_attributes : List Definition → Graph → ℕ → Found Attributes
stream_attributes unit g s = attributes_within (suc (length g.streams)) unit g s

-- ---- types that are given again

-- a shape has to mean these attributes
abbrev pub shape_matches : List Definition → Graph → Body → Attributes → Shape → Passes
shape_matches unit g b schema shape =
    after (shape_attributes (stream_attributes unit g) unit g b shape) (λ given.
    if same_attributes given schema then passed else mismatch shape.at)

-- what is looked at for a port of a head: its shape, where it has one, has to mean these attributes, and then what
-- `outside` looks at, at the invocation of the composite in the body around it
abbrev pub head_port : (Body → Invocation → Passes) → List Definition → Graph → Attributes → Body → Option HeadPort
    → Passes
head_port outside unit g schema b port =
    after (option_map_or (λ p. option_map_or (shape_matches unit g b schema) p.shape passed) port passed) (λ u.
    option_map_or
    (λ s. option_map_or (λ o. option_map_or (outside o) (slice_get o.composite.graph s.invocation) passed)
    (body_at unit g s.expansion) passed)
    b.expansion.site passed)

-- ---- outputs of heads

-- where a stream of a body is an output of its head, that says its type, and the invocation of the composite, and so on
-- outwards. At most this number of heads are around it
abbrev pub output_heads : ℕ → List Definition → Graph → Attributes → Body → List ℕ → Passes
output_heads zero unit g schema b name = passed
output_heads (suc count) unit g schema b name =
    option_map_or (λ k. head_port (λ o i. option_map_or
    (λ q. after (shape_matches unit g o schema q.shape) (λ u. output_heads count unit g schema o q.name.what))
    (slice_get i.outputs k) passed)
    unit g schema b (slice_get b.composite.outputs k))
    (place_of name (map (λ p. p.name.what) b.composite.outputs)) passed

-- ---- inputs of heads

-- what the heads say whose inputs these names are, from the inside out
abbrev pub each_name : (List ℕ → Passes) → List (Placed (List ℕ)) → Passes
each_name heads [] = passed
each_name heads (n ∷ ns) = after (heads n.what) (λ u. each_name heads ns)

-- a stream that the graph makes has no input of the head as its name
abbrev pub input_heads : ℕ → List Definition → Graph → Attributes → Body → List ℕ → Passes
input_heads zero unit g schema b name = passed
input_heads (suc count) unit g schema b name =
    option_map_or (λ place. passed) (place_of name (stream_names b.composite)) (option_map_or
    (λ k. head_port (λ o i. option_map_or (λ q. each_name (input_heads count unit g schema o) q.streams)
    (slice_get i.inputs k) passed)
    unit g schema b (slice_get b.composite.inputs k)) (place_of name (input_names b.composite)) passed)

-- ---- ports of operators

-- how many streams a name means: one that the graph makes, or those that the input takes
abbrev pub taken_by : Body → List ℕ → Option ℕ → ℕ
taken_by b name own =
    option_map_or (λ place. 1) own
    (option_map_or (λ i. i.count) (option_and_then (slice_get b.expansion.inputs)
    (place_of name (input_names b.composite))) 0)

-- for each stream of a port the place of the name by which it is taken
abbrev pub name_places : Body → InputPort → List ℕ
name_places b q =
    flat_map (λ n. replicate (taken_by b n.what (place_of n.what (stream_names b.composite))) n.at) q.streams

-- the others have the attributes of the first
abbrev pub are_alike : List Definition → Graph → Attributes → List ℕ → List ℕ → Passes
are_alike unit g schema (at ∷ places) (s ∷ streams) =
    after (stream_attributes unit g s) (λ own. if same_attributes own schema then are_alike unit g schema places streams
    else mismatch at)
are_alike unit g schema places streams = passed

-- the attributes of a port: those of its first stream, which the others have too, and which each typed head on their
-- way has
abbrev pub port_attributes : List Definition → Graph → Body → InputPort → List ℕ → Found Attributes
port_attributes unit g b q [] = mismatch 0
port_attributes unit g b q (s ∷ streams) =
    after (stream_attributes unit g s) (λ schema.
    after (are_alike unit g schema (drop 1 (name_places b q)) streams) (λ u.
    after (each_name (input_heads (length g.expansions) unit g schema b) q.streams) (λ v. Ok schema)))

abbrev pub ports_attributes : List Definition → Graph → Body → List InputPort → List (List ℕ) → Found (List Attributes)
ports_attributes unit g b qs ins = each (λ p. port_attributes unit g b p.0 p.1) (λ schema. schema) (zip qs ins)

-- the attributes of an operator's outputs, with what the heads around it say of each
abbrev pub outputs_attributes : List Definition → Graph → Body → List OutputStream → List ℕ → Found (List Attributes)
outputs_attributes unit g b (o ∷ os) (s ∷ outs) =
    after (stream_attributes unit g s) (λ schema.
    after (output_heads (length g.expansions) unit g schema b o.name.what) (λ u.
    after (outputs_attributes unit g b os outs) (λ rest. Ok (schema ∷ rest))))
outputs_attributes unit g b os outs = Ok []
