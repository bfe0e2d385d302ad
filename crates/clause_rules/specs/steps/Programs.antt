-- What is found of the operators of a graph, by what a call is given.
use Rattle.std.specs.Prelude.{◌≡◌, ℕ, List, length, Ok, Some, slice_get}
use Rattle.spl_tree.specs.declared.graph.Graph.{Graph}
use Rattle.spl_tree.specs.declared.graph.Op.{Op}
use Rattle.spl_tree.specs.declared.unit.Definition.{Definition}
use Rattle.spl_tree.specs.declared.unit.Invocation.{Invocation}
use Rattle.language_model.specs.declared.checked.CheckedClauses.{CheckedClauses}
use Rattle.language_model.specs.declared.scope.Scope.{Scope}
use Rattle.language_model.specs.Checking.{clauses_checked, port_types}
use Rattle.language_model.specs.parts.Checking.{each_stream, operators_checked, ports_checked, ports_of, surroundings}
use Rattle.language_model.specs.FlatLaws.{IsInvoked}
use Rattle.language_model.specs.DollarTargets.{expression_meant}
use Rattle.language_model.specs.Numbering.{numbers_from}
use Rattle.language_model.specs.Parameters.{dollar_tables}
use Rattle.language_model.specs.StreamTypes.{Body, body_at}
use Rattle.language_model.specs.Typing.{Found, after}
use Rattle.clause_rules.specs.declared.checking.PartsAndSchemas.{PartsAndSchemas}
use Rattle.clause_rules.specs.declared.operators.Program.{Program}

abbrev pub program_unit : Program → List Definition
program_unit program = program.sites.now.unit.now

-- each operator of the graph is that of an invocation of its kind
abbrev pub AreInvoked : List Definition → Graph → Type 0
AreInvoked unit g = (n : ℕ) (op : Op) → slice_get g.ops n ≡ Some op → IsInvoked unit g op

-- the body of an expansion of the graph
abbrev pub IsBody : List Definition → Graph → Body → Type 0
IsBody unit g b = body_at unit g b.number ≡ Some b

-- an operator whose `$` parameters and functions are those of the scope
abbrev pub invocation_in : List Definition → Graph → Scope → Op → Body → Invocation → Found CheckedClauses
invocation_in unit g scope op b i =
    after (ports_checked op i) (λ u. after (port_types unit g b op i) (λ types.
    let own = record scope { ports = ports_of i.inputs types.ins } in
    clauses_checked op (record { scope = own; follow = expression_meant unit g.expansions b.number }) (surroundings unit b i own types.outs) i.clauses))

-- the parts of the operators and the attributes of the streams
abbrev pub found_in : List Definition → Graph → Found PartsAndSchemas
found_in unit g =
    after (operators_checked unit g (dollar_tables unit g.expansions) g.ops) (λ parts.
    after (each_stream unit g (numbers_from 0 (length g.streams))) (λ schemas. Ok (record { parts = parts; schemas = schemas })))
