-- What calls answer that read parts of a line, against parts of its rule.
use Rattle.std.specs.Prelude.{List, [], Option}
use Rattle.spl_tree.specs.declared.expression.Field.{Field}
use Rattle.spl_tree.specs.declared.expression.Placed.{Placed}
use Rattle.spl_tree.specs.declared.keyword.Keyword.TheVariants as K
use Rattle.spl_tree.specs.declared.shape.Attribute.{Attribute}
use Rattle.spl_tree.specs.declared.symbol.Symbol.TheVariants as S
use Rattle.spl_tree.specs.declared.unit.CompositeParameter.{CompositeParameter}
use Rattle.spl_tree.specs.declared.unit.InputPort.{InputPort}
use Rattle.spl_tree.specs.declared.unit.Invocation.{Invocation}
use Rattle.spl_tree.specs.declared.unit.Logic.{Logic}
use Rattle.spl_tree.specs.declared.unit.OutputAssignments.{OutputAssignments}
use Rattle.spl_tree.specs.declared.unit.OutputStream.{OutputStream}
use Rattle.spl_tree.specs.declared.unit.Parameter.{Parameter}
use Rattle.spl_tree.specs.declared.unit.PortWindow.{PortWindow}
use Rattle.spl_tree.specs.declared.unit.TypeDefinition.{TypeDefinition}
use Rattle.spl_tree.specs.declared.unit.WindowPart.{WindowPart}
use Rattle.spl_tree.specs.Trees.{Expr, TypeExpr}
use Rattle.expr_parser.specs.Rules.{done, stop, look, call}
use Rattle.expr_parser.specs.Lines as expressions
use Rattle.statement_parser.specs.Lines.{Name, R, expect, expect_name, expect_word, expression, is_dollar, dollar_at, Alias, Assignments, Expression, InputStreams, PartArguments, Stream, WindowParts, TypeExpression, Inputs, LogicClause, WindowClause, ParameterClause, OutputClause, CompositeParameterClause, Default, TypeClause, GraphClause, FunctionParameters}

-- what is invoked, after a head, and its inputs
abbrev pub operator_and_inputs : R (Name × List InputPort)
operator_and_inputs = expect S.Assign (expect_name (λ n. expect S.LeftParen (call Inputs (λ ps. done (n, ps)))))

-- the clauses `logic` and `window` of an invocation
abbrev pub logic_and_window : R (Option (Placed Logic) × Option (Placed (List PortWindow)))
logic_and_window = call LogicClause (λ l. call WindowClause (λ w. done (l, w)))

-- its clauses `param`, `output` and `config` and the closing brace, and the same without `param`
abbrev pub param_to_config : R (List Parameter × Option (Placed (List OutputAssignments)) × List Parameter)
param_to_config =
    call (ParameterClause K.Param) (λ ps. call OutputClause (λ u. call (ParameterClause K.Config) (λ gs. expect S.RightBrace (done (ps, u, gs)))))

abbrev pub output_and_config : R (Option (Placed (List OutputAssignments)) × List Parameter)
output_and_config = call OutputClause (λ u. call (ParameterClause K.Config) (λ gs. expect S.RightBrace (done (u, gs))))

-- a parameter of a composite, after its first word
abbrev pub composite_parameter : R CompositeParameter
composite_parameter =
    expect S.Less (call TypeExpression (λ k. expect S.Greater (look is_dollar (λ t. call (Default k (dollar_at t)) done) stop)))

-- the clauses of a composite in braces, and their two halves, each with its brace
abbrev pub composite_clauses : R (List CompositeParameter × List TypeDefinition × List Invocation × List Parameter)
composite_clauses =
    expect S.LeftBrace (call CompositeParameterClause (λ ps. call TypeClause (λ ts. call GraphClause (λ xs. call (ParameterClause K.Config) (λ gs.
    expect S.RightBrace (done (ps, ts, xs, gs)))))))

abbrev pub parameters_and_types : R (List CompositeParameter × List TypeDefinition)
parameters_and_types = expect S.LeftBrace (call CompositeParameterClause (λ ps. call TypeClause (λ ts. done (ps, ts))))

abbrev pub graph_and_config : R (List Invocation × List Parameter)
graph_and_config = call GraphClause (λ xs. call (ParameterClause K.Config) (λ gs. expect S.RightBrace (done (xs, gs))))

-- the name of a function and its parameters
abbrev pub signature : R (Name × List (Attribute TypeExpr))
signature = expect_name (λ n. expect S.LeftParen (call FunctionParameters (λ xs. done (n, xs))))

-- one more of a row
abbrev pub port_window : R PortWindow
port_window = expect_name (λ n. expect S.Colon (call (WindowParts []) (λ ps. done (record { port = n; parts = ps }))))

abbrev pub window_part : R WindowPart
window_part = expect_name (λ n. call PartArguments (λ es. done (record { name = n; arguments = es })))

abbrev pub parameter : R Parameter
parameter = expect_name (λ n. expect S.Colon (call (Expression (expressions.Items S.Semicolon [])) (λ es. done (record { name = n; values = es }))))

abbrev pub stream_assignments : R OutputAssignments
stream_assignments = expect_name (λ n. expect S.Colon (call (Assignments []) (λ fs. done (record { stream = n; assignments = fs }))))

abbrev pub assignment : R (Field Expr)
assignment = expect_name (λ n. expect S.Assign (expression (λ e. done (expressions.field n e))))

abbrev pub listed_stream : R OutputStream
listed_stream = expect_word K.Stream (call Stream done)

abbrev pub input_port : R InputPort
input_port = call (InputStreams []) (λ ns. call Alias (λ l. done (record { streams = ns; alias = l })))
