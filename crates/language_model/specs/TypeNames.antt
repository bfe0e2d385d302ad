-- What types mean as they are written, or the first refusal in them, in the order of the text. A name means the shape
-- of its definition: one of the composite, or else one of the unit.
use Rattle.std.specs.Prelude.{ℕ, zero, suc, List, [], ◌∷◌, ◌++◌, map, flat_map, filter_map, length, if◌then◌else◌, Option, Some, None, Ok, slice_get}
use Rattle.std.specs.Option.{option_map, option_map_or}
use Rattle.std.specs.Str.{bytes_eq}
use Rattle.spl_value.specs.declared.types.Named.{Named}
use Rattle.spl_value.specs.declared.types.SplType.{SplType}
use Rattle.spl_value.specs.declared.types.SplType.TheVariants as S
use Rattle.spl_tree.specs.declared.expression.Placed.{Placed}
use Rattle.spl_tree.specs.declared.keyword.Keyword.TheVariants as W
use Rattle.spl_tree.specs.declared.shape.Attribute.{Attribute}
use Rattle.spl_tree.specs.declared.shape.ShapeKind.{ShapeKind}
use Rattle.spl_tree.specs.declared.shape.ShapeKind.TheVariants as H
use Rattle.spl_tree.specs.declared.shape.TypeKind.TheOpen as Y
use Rattle.spl_tree.specs.declared.shape.TypeKind.TheOpen.{TypeKind-F}
use Rattle.spl_tree.specs.declared.shape.TypeKind.TheFolds.{fold-TypeKind}
use Rattle.spl_tree.specs.declared.unit.Composite.{Composite}
use Rattle.spl_tree.specs.declared.unit.Definition.{Definition}
use Rattle.spl_tree.specs.declared.unit.Definition.TheVariants as D
use Rattle.spl_tree.specs.declared.unit.TypeDefinition.{TypeDefinition}
use Rattle.spl_tree.specs.Trees.{TypeExpr, Shape}
use Rattle.spl_tree.specs.Words.{keyword_word}
use Rattle.language_model.specs.declared.scope.CheckError.TheVariants as E
use Rattle.language_model.specs.Leading.{leads_back}
use Rattle.language_model.specs.Scopes.{At, first_from}
use Rattle.language_model.specs.Typing.{Found, after, refused, unknown}

-- what a name at a place means, as a type
abbrev pub Types : Type 0
Types = ℕ → List ℕ → Found SplType

-- ---- types as they are written

-- a type at its place
abbrev pub Written : Type 0
Written = ℕ → Types → Found SplType

abbrev pub part_type : Placed Written → Types → Found SplType
part_type t types = t.what t.at types

-- attributes in turn
abbrev pub attributes_type : Types → List (Attribute (Placed Written)) → Found (List (Named SplType))
attributes_type types [] = Ok []
attributes_type types (a ∷ rest) =
    after (part_type a.kind types) (λ t. after (attributes_type types rest) (λ schema.
    Ok (record { name = a.name.what; kind = t } ∷ schema)))

abbrev pub tuple_type : Found (List (Named SplType)) → Found SplType
tuple_type found = after found (λ schema. Ok (S.Tuple schema))

abbrev pub level_type : TypeKind-F Written → Written
level_type Y.Boolean at types = Ok S.Bool
level_type Y.Rstring at types = Ok S.Text
level_type (Y.Int kind) at types = Ok (S.Int kind)
level_type (Y.LeftOut word) at types = refused E.LeftOut at (Some (keyword_word (W.LeftOut word)))
level_type (Y.Name name) at types = types at name
level_type (Y.List t) at types = after (part_type t types) (λ element. Ok (S.List element))
level_type (Y.Map k t) at types =
    after (part_type k types) (λ key. after (part_type t types) (λ value. Ok (S.Map key value)))
level_type (Y.Tuple attributes) at types = tuple_type (attributes_type types attributes)

abbrev pub written : TypeExpr → Placed Written
written t = record { at = t.at; what = fold-TypeKind Written level_type t.what }

-- a type, where names mean these
abbrev pub type_meant : Types → TypeExpr → Found SplType
type_meant types t = part_type (written t) types

abbrev pub written_attributes : List (Attribute TypeExpr) → List (Attribute (Placed Written))
written_attributes attributes = map (λ a. record { kind = written a.kind; name = a.name }) attributes

abbrev pub kind_meant : Types → ShapeKind → Found SplType
kind_meant types (H.Type t) = type_meant types t
kind_meant types (H.Attributes attributes) = tuple_type (attributes_type types (written_attributes attributes))

-- a shape: a type, or the attributes of a tuple
abbrev pub shape_meant : Types → Shape → Found SplType
shape_meant types shape = kind_meant types shape.what

-- ---- names in types

-- the names that stand in a type
abbrev pub level_names : TypeKind-F (List (List ℕ)) → List (List ℕ)
level_names (Y.Name name) = name ∷ []
level_names (Y.List t) = t.what
level_names (Y.Map k t) = k.what ++ t.what
level_names (Y.Tuple attributes) = flat_map (λ a. a.kind.what) attributes
level_names _ = []

abbrev pub type_names : TypeExpr → List (List ℕ)
type_names t = fold-TypeKind (List (List ℕ)) level_names t.what

abbrev pub kind_names : ShapeKind → List (List ℕ)
kind_names (H.Type t) = type_names t
kind_names (H.Attributes attributes) = flat_map (λ a. type_names a.kind) attributes

-- ---- definitions

-- the definition of a name, with its place
abbrev pub definition_of : List TypeDefinition → List ℕ → Option (At TypeDefinition)
definition_of definitions name = first_from (λ d. bytes_eq d.name.what name) 0 definitions

-- the places of the definitions whose names stand in the one at a place
abbrev pub leads_to : List TypeDefinition → ℕ → List ℕ
leads_to definitions place = option_map_or (λ d. filter_map (λ name.
    option_map (λ e. e.place) (definition_of definitions name)) (kind_names d.shape.what))
    (slice_get definitions place) []

-- a name that has no definition here means what it does outside, and one whose definition leads back to itself means
-- nothing. Definitions are followed at most this number of times
abbrev pub types_within : ℕ → List TypeDefinition → Types → Types
types_within zero definitions outside at name = unknown at name
types_within (suc count) definitions outside at name =
    option_map_or (λ d. if leads_back (length definitions) (leads_to definitions) d.place
    then unknown at name else shape_meant (types_within count definitions outside) d.what.shape)
    (definition_of definitions name) (outside at name)

-- what names mean where these are defined. A row of definitions none of which leads back to itself is no longer than
-- there are
abbrev pub types_of : List TypeDefinition → Types → Types
types_of definitions outside = types_within (suc (length definitions)) definitions outside

-- ---- units and composites

abbrev pub as_type : Definition → Option TypeDefinition
as_type (D.Type t) = Some t
as_type d = None

abbrev pub type_definitions : List Definition → List TypeDefinition
type_definitions unit = filter_map as_type unit

-- among the definitions of a unit, in its functions too
abbrev pub unit_types : List Definition → Types
unit_types unit = types_of (type_definitions unit) unknown

-- in a composite
abbrev pub composite_types : List Definition → Composite → Types
composite_types unit c = types_of c.types (unit_types unit)
