-- Words for parts of the rules of names that are declared: definitions, streams and ports that stand again, and the sets of parts.
use Rattle.std.specs.Prelude.{Bool, ◌&&◌, ◌||◌, not, List, ◌∷◌, ◌++◌, map, flat_map, if◌then◌else◌}
use Rattle.std.specs.List.{list_any}
use Rattle.std.specs.Option.{option_to_list}
use Rattle.spl_tree.specs.declared.statement.Declaration.{Declaration}
use Rattle.spl_tree.specs.declared.statement.StmtKind.{StmtKind}
use Rattle.spl_tree.specs.declared.statement.StmtKind.TheFolds.{fold-StmtKind}
use Rattle.spl_tree.specs.declared.unit.Composite.{Composite}
use Rattle.spl_tree.specs.declared.unit.Definition.{Definition}
use Rattle.spl_tree.specs.declared.unit.Invocation.{Invocation}
use Rattle.spl_tree.specs.Trees.{Shape}
use Rattle.language_model.specs.Declarations.{Name, is_same, repeated, repeated_names, definition_name, is_built_in, Declared, OutputPort, InputPort, MadeStream, Alias, declared_name, may_share, stand_before, graph_names, Sets, type_sets, kind_sets, Scoped, level_statement}

-- ---- names that stand again

abbrev pub repeated_definitions : List Definition → List Name
repeated_definitions unit =
    map definition_name (repeated (λ before d. is_built_in d || list_any (λ e. is_same (definition_name e) (definition_name d)) before) unit)

abbrev pub is_declared : List Declared → Declared → Bool
is_declared before d = list_any (λ e. is_same (declared_name e) (declared_name d) && not (may_share e d)) before

-- the ports of a head, in the order of the text
abbrev pub head_names : Composite → List Declared
head_names c =
    let outputs = map (λ p. OutputPort p.name) c.outputs in
    let inputs = map (λ p. InputPort p.name) c.inputs in
    if stand_before c.inputs c.outputs then inputs ++ outputs else outputs ++ inputs

abbrev pub invocation_names : Invocation → List Declared
invocation_names i = map (λ o. MadeStream o.name) i.outputs ++ map Alias (option_to_list i.alias)

-- the repeated ones of its three sets
abbrev pub repeated_in_composite : Composite → List Name
repeated_in_composite c =
    map declared_name (repeated is_declared (graph_names c))
    ++ repeated_names (map (λ t. t.name) c.types)
    ++ repeated_names (map (λ p. p.name) c.parameters)

-- ---- sets of names

abbrev pub shape_sets : Shape → Sets
shape_sets h = kind_sets h.what

abbrev pub statement_scoped : StmtKind → Scoped
statement_scoped s = fold-StmtKind Scoped level_statement s

abbrev pub variable_sets : List Declaration → Sets
variable_sets ds = map (λ d. d.name) ds ∷ flat_map (λ d. type_sets d.kind) ds
