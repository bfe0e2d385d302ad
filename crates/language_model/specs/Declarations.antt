-- The names that a unit declares, in sets in each of which a name stands once, and the first that stands there twice.
use Rattle.std.specs.Prelude.{ℕ, nat_lt, Bool, true, false, ◌&&◌, ◌||◌, not, List, [], ◌∷◌, ◌++◌, map, flat_map, filter_map, if◌then◌else◌, Option, Some, None, is_some}
use Rattle.std.specs.List.{list_any}
use Rattle.std.specs.Option.{option_map_or, option_to_list}
use Rattle.std.specs.Str.{bytes_eq}
use Rattle.spl_tree.specs.declared.expression.Placed.{Placed}
use Rattle.spl_tree.specs.declared.shape.Attribute.{Attribute}
use Rattle.spl_tree.specs.declared.shape.ShapeKind.{ShapeKind}
use Rattle.spl_tree.specs.declared.shape.ShapeKind.TheVariants as H
use Rattle.spl_tree.specs.declared.shape.TypeKind.TheOpen as Y
use Rattle.spl_tree.specs.declared.shape.TypeKind.TheOpen.{TypeKind-F}
use Rattle.spl_tree.specs.declared.shape.TypeKind.TheFolds.{fold-TypeKind}
use Rattle.spl_tree.specs.declared.statement.StmtKind.TheOpen as Z
use Rattle.spl_tree.specs.declared.statement.StmtKind.TheOpen.{StmtKind-F}
use Rattle.spl_tree.specs.declared.statement.StmtKind.TheFolds.{fold-StmtKind}
use Rattle.spl_tree.specs.declared.unit.Composite.{Composite}
use Rattle.spl_tree.specs.declared.unit.Definition.{Definition}
use Rattle.spl_tree.specs.declared.unit.Definition.TheVariants as D
use Rattle.spl_tree.specs.declared.unit.HeadPort.{HeadPort}
use Rattle.spl_tree.specs.declared.unit.Invocation.{Invocation}
use Rattle.spl_tree.specs.declared.unit.Logic.{Logic}
use Rattle.spl_tree.specs.Trees.{Stmt, TypeExpr}
use Rattle.language_model.specs.Typing.{call_of}

-- ---- names that stand again

abbrev pub Name : Type 0
Name = Placed (List ℕ)

abbrev pub is_same : Name → Name → Bool
is_same m n = bytes_eq m.what n.what

-- the elements of which the test says so, given those that stand before them, the last first
abbrev pub repeated_after : {A : Type 0} → (List A → A → Bool) → List A → List A → List A
repeated_after taken before [] = []
repeated_after taken before (x ∷ xs) = (if taken before x then x ∷ [] else []) ++ repeated_after taken (x ∷ before) xs

abbrev pub repeated : {A : Type 0} → (List A → A → Bool) → List A → List A
repeated taken xs = repeated_after taken [] xs

-- the names of a set that have an equal one before them
abbrev pub repeated_names : List Name → List Name
repeated_names names = repeated (λ before n. list_any (λ m. is_same m n) before) names

-- ---- the definitions of a unit

abbrev pub definition_name : Definition → Name
definition_name (D.Type t) = t.name
definition_name (D.Function f) = f.name
definition_name (D.Composite c) = c.name

-- a function may not have the name of a call that the language has built in
abbrev pub is_built_in : Definition → Bool
is_built_in (D.Function f) = is_some (call_of f.name.what)
is_built_in d = false

-- ---- the streams, aliases and ports of a composite

-- a name of this set, and what has it
pub data Declared : Type 0 where
  OutputPort : Name → Declared
  InputPort : Name → Declared
  MadeStream : Name → Declared
  Alias : Name → Declared

abbrev pub declared_name : Declared → Name
declared_name (OutputPort n) = n
declared_name (InputPort n) = n
declared_name (MadeStream n) = n
declared_name (Alias n) = n

-- an output of the head may have the name of the stream that it outputs
abbrev pub may_share : Declared → Declared → Bool
may_share (OutputPort m) (MadeStream n) = true
may_share d e = false

-- whether the first of these ports stands before the first of those
abbrev pub stand_before : List HeadPort → List HeadPort → Bool
stand_before (p ∷ ps) (q ∷ qs) = nat_lt p.name.at q.name.at
stand_before ps qs = false

-- the ports of the head, in the order of the text, and then the streams and aliases of the invocations
abbrev pub graph_names : Composite → List Declared
graph_names c =
    let outputs = map (λ p. OutputPort p.name) c.outputs in
    let inputs = map (λ p. InputPort p.name) c.inputs in
    (if stand_before c.inputs c.outputs then inputs ++ outputs else outputs ++ inputs)
    ++ flat_map (λ i. map (λ o. MadeStream o.name) i.outputs ++ map Alias (option_to_list i.alias)) c.graph

-- the repeated ones of a composite's three sets
abbrev pub repeated_in_definition : Definition → List Name
repeated_in_definition (D.Composite c) =
    map declared_name (repeated (λ before d. list_any
    (λ e. is_same (declared_name e) (declared_name d) && not (may_share e d)) before) (graph_names c))
    ++ repeated_names (map (λ t. t.name) c.types)
    ++ repeated_names (map (λ p. p.name) c.parameters)
repeated_in_definition d = []

-- ---- sets of names within types and statements

abbrev pub Sets : Type 0
Sets = List (List Name)

-- the attributes of tuple types
abbrev pub level_type : TypeKind-F Sets → Sets
level_type (Y.List t) = t.what
level_type (Y.Map k v) = k.what ++ v.what
level_type (Y.Tuple attributes) = map (λ a. a.name) attributes ∷ flat_map (λ a. a.kind.what) attributes
level_type _ = []

abbrev pub type_sets : TypeExpr → Sets
type_sets t = fold-TypeKind Sets level_type t.what

-- names that stand together, and the sets of their types
abbrev pub attribute_sets : List (Attribute TypeExpr) → Sets
attribute_sets attributes = map (λ a. a.name) attributes ∷ flat_map (λ a. type_sets a.kind) attributes

abbrev pub kind_sets : ShapeKind → Sets
kind_sets (H.Type t) = type_sets t
kind_sets (H.Attributes attributes) = attribute_sets attributes

-- a statement: the variable that it declares, where it does, and the sets within it
pub record Scoped : Type 0 where
  pub own : Option Name
  pub sets : Sets

abbrev pub scoped : Sets → Scoped
scoped sets = record { own = None; sets = sets }

-- the variables that stand directly in a block, and the sets of its statements
abbrev pub block_of : List Scoped → Sets
block_of ss = filter_map (λ s. s.own) ss ∷ flat_map (λ s. s.sets) ss

abbrev pub level_statement : StmtKind-F Scoped → Scoped
level_statement (Z.Block ss) = scoped (block_of (map (λ s. s.what) ss))
level_statement (Z.Declare d) = record { own = Some d.name; sets = type_sets d.kind }
level_statement (Z.If arms other) =
    scoped (flat_map (λ a. a.1.what.sets) arms ++ option_map_or (λ s. s.what.sets) other [])
level_statement (Z.While c s) = scoped s.what.sets
level_statement (Z.For a e s) = scoped (type_sets a.kind ++ s.what.sets)
level_statement _ = scoped []

abbrev pub block_sets : List Stmt → Sets
block_sets ss = block_of (map (λ s. fold-StmtKind Scoped level_statement s.what) ss)

abbrev pub logic_sets : Logic → Sets
logic_sets l =
    (map (λ d. d.name) l.state ∷ flat_map (λ d. type_sets d.kind) l.state)
    ++ flat_map (λ h. block_sets h.what.body) l.handlers

abbrev pub invocation_sets : Invocation → Sets
invocation_sets i =
    flat_map (λ o. kind_sets o.shape.what) i.outputs ++ option_map_or (λ l. logic_sets l.what) i.clauses.logic []

abbrev pub definition_sets : Definition → Sets
definition_sets (D.Type t) = kind_sets t.shape.what
definition_sets (D.Function f) = option_map_or type_sets f.result [] ++ attribute_sets f.parameters ++ block_sets f.body
definition_sets (D.Composite c) =
    flat_map (λ p. option_map_or (λ h. kind_sets h.what) p.shape []) c.outputs
    ++ flat_map (λ p. option_map_or (λ h. kind_sets h.what) p.shape []) c.inputs
    ++ flat_map (λ p. type_sets p.kind) c.parameters ++ flat_map (λ t. kind_sets t.shape.what) c.types
    ++ flat_map invocation_sets c.graph

-- ---- the first that stands twice

-- the name that stands first in the text
abbrev pub first_in_text : List Name → Option Name
first_in_text [] = None
first_in_text (n ∷ ns) = Some (option_map_or (λ m. if nat_lt m.at n.at then m else n) (first_in_text ns) n)

abbrev pub first_of : {A : Type 0} → List A → Option A
first_of [] = None
first_of (x ∷ xs) = Some x

-- the first name that stands again: of the definitions, then in the sets of each composite, and then in all sets within
-- types and statements
abbrev pub declared_twice : List Definition → Option Name
declared_twice unit =
    first_of (map definition_name (repeated (λ before d. is_built_in d
    || list_any (λ e. is_same (definition_name e) (definition_name d)) before) unit)
    ++ flat_map repeated_in_definition unit
    ++ option_to_list (first_in_text (flat_map repeated_names (flat_map definition_sets unit))))
