-- The ranks of lines, and what they say of each rule.
use Rattle.std.proofs.Common.{ℕ, zero, suc, Bool, true, false, refl, arith}
use Rattle.spl_tree.specs.declared.expression.ExprKind.{ExprKind}
use Rattle.spl_tree.specs.declared.expression.ExprKind.TheVariants as X
use Rattle.expr_parser.specs.Lines as expressions
use Rattle.statement_parser.specs.Lines.{Line, Value, rule}
use Rattle.statement_parser.specs.Lines as L
use Rattle.unit_parser.proofs.Ranked.{IsRanked}

abbrev expression_rank : expressions.Line → ℕ
expression_rank (expressions.Climb k u) = suc k
expression_rank (expressions.Prefixed ps) = 1
expression_rank expressions.Whole = 2
expression_rank (expressions.Group at) = 3
expression_rank (expressions.Items close es) = 3
expression_rank (expressions.Brace at) = 3
expression_rank (expressions.Entries at es key) = 3
expression_rank (expressions.Fields at fs name) = 3
expression_rank (expressions.Elements close) = 4
expression_rank (expressions.Rest u) = 11
expression_rank _ = 0

-- a line reads lines of lower rank alone until it takes a token
abbrev pub rank : Line → ℕ
rank (L.Expression x) = expression_rank x
rank (L.Attributes close xs) = 1
rank (L.Shaped close) = 1
rank L.Declare = 1
rank (L.Declarations ds) = 2
rank L.Other = 1
rank L.Statement = 2
rank (L.Statements ss) = 3
rank (L.Begun at n) = 1
rank L.StreamHead = 1
rank L.ListHead = 1
rank (L.MoreInputs ps) = 1
rank L.Inputs = 2
rank (L.Ports ps) = 1
rank L.FunctionParameters = 2
rank L.Whole = 1
rank _ = 0

abbrev expression_takes : expressions.Line → Bool
expression_takes (expressions.Prefixed ps) = true
expression_takes expressions.Primary = true
expression_takes _ = false

-- lines that take a token, before others are read
abbrev pub takes : Line → Bool
takes (L.Expression x) = expression_takes x
takes L.TypeExpression = true
takes L.Declare = true
takes L.Other = true
takes L.Statement = true
takes _ = false

expression_ranked : (x : expressions.Line) → IsRanked {Value = Value} rank takes (expression_rank x) (expression_takes x) (rule (L.Expression x))
unfolding rule expressions.rule
expression_ranked expressions.Whole = (omega arith, tt)
expression_ranked (expressions.Rest u) = (omega arith, λ test. refl)
expression_ranked (expressions.Climb zero u) = refl
expression_ranked (expressions.Climb (suc k) u) = (omega arith, λ left. (omega arith, λ v. refl))
expression_ranked (expressions.Chain k left) = refl
expression_ranked (expressions.Prefixed ps) = (omega arith, tt)
expression_ranked expressions.Primary = tt
expression_ranked (expressions.Group at) = (omega arith, λ e. tt)
expression_ranked (expressions.Named at n) = refl
expression_ranked (expressions.Elements close) = (omega arith, λ es. refl)
expression_ranked (expressions.Items close es) = (omega arith, λ e. tt)
expression_ranked (expressions.Brace at) = (omega arith, λ e. field e.at e.what)
  where
    field : (place : ℕ) (e : ExprKind) → IsRanked {Value = Value} rank takes 3 false (L.lifted (expressions.field_rule at place e))
    field place (X.Name n) = tt
    field place _ = tt
expression_ranked (expressions.Entries at es key) = (omega arith, λ e. tt)
expression_ranked (expressions.Fields at fs name) = (omega arith, λ e. tt)
expression_ranked (expressions.Steps e ss) = refl

pub ranked : (x : Line) → IsRanked {Value = Value} rank takes (rank x) (takes x) (rule x)
unfolding rule
ranked (L.Expression x) = expression_ranked x
ranked L.TypeExpression = tt
ranked (L.ListType at) = tt
ranked (L.MapType at) = tt
ranked (L.TupleType at) = tt
ranked (L.Attributes close xs) = (omega arith, tt)
ranked (L.MoreAttributes close xs) = tt
ranked (L.Shaped close) = (omega arith, tt)
ranked L.Declare = (omega arith, tt)
ranked (L.Declared m k) = tt
ranked (L.Valued m k n) = tt
ranked (L.Declarations ds) = (omega arith, tt)
ranked L.Statement = (omega arith, tt)
ranked L.Other = (omega arith, tt)
ranked (L.Begun at n) = (omega arith, λ p. tt)
ranked (L.Arms at arms) = tt
ranked (L.Statements ss) = (omega arith, tt)
ranked L.Block = tt
ranked L.Alias = refl
ranked L.Stream = tt
ranked (L.Streams xs) = tt
ranked L.StreamHead = (omega arith, λ x. (omega arith, λ l. refl))
ranked L.ListHead = (omega arith, λ xs. (omega arith, λ l. refl))
ranked (L.Invoked at xs l) = tt
ranked L.Inputs = (omega arith, λ ps. refl)
ranked (L.MoreInputs ps) = (omega arith, λ ns. (omega arith, λ l. tt))
ranked (L.InputStreams ns) = tt
ranked L.End = tt
ranked L.LogicClause = refl
ranked L.State = refl
ranked (L.Handlers hs) = refl
ranked (L.HandlerOf at event) = tt
ranked L.WindowClause = refl
ranked (L.Windows ws) = refl
ranked (L.WindowParts ps) = tt
ranked L.PartArguments = refl
ranked (L.ParameterClause word) = refl
ranked (L.Parameters ps) = refl
ranked L.OutputClause = refl
ranked (L.Outputs us) = refl
ranked (L.Assignments fs) = tt
ranked L.CompositeOf = tt
ranked L.HeadPorts = refl
ranked (L.Ports ps) = (omega arith, λ p. refl)
ranked L.Port = tt
ranked L.CompositeParameterClause = refl
ranked (L.CompositeParameters ps) = refl
ranked (L.Default k n) = tt
ranked L.TypeClause = refl
ranked (L.Types ts) = refl
ranked L.GraphClause = refl
ranked (L.Graph xs) = refl
ranked L.TypeOf = tt
ranked (L.FunctionOf result) = tt
ranked L.FunctionParameters = (omega arith, λ xs. refl)
ranked (L.Definitions xs) = refl
ranked L.Namespace = tt
ranked L.Whole = (omega arith, λ xs. refl)
