use Rattle.std.proofs.Common.{List, subst, Err, []}
use Rattle.expr_parser.specs.declared.stop.Stop.TheVariants as S
use Rattle.expr_parser.specs.declared.stop.Stop.{Stop}
use Rattle.spl_tree.specs.declared.token.Token.{Token}
use Rattle.spl_tree.specs.declared.unit.Invocation.{Invocation}
use Rattle.expr_parser.specs.Rules.{Took, Reads}
use Rattle.statement_parser.specs.Gives.{Gives}
use Rattle.unit_parser.specs.steps.GivesClauses.{InvocationFound, InvocationsOn}
use Rattle.statement_parser.specs.Lines as lines
use Rattle.statement_parser.proofs.Readings.{says_on}
use Rattle.unit_parser.proofs.invocations.graph.Goals as goal
use Rattle.expr_parser.proofs.Derive.{exit}

-- an invocation is begun and doesn't go on, after others
stops : (ts : List Token) (xs : List Invocation) (e : Stop) → InvocationsOn ts (Err e) → Gives (lines.Graph xs) ts (Err e)
stops ts xs (S.At rest) g = g xs
stops ts xs S.Memory g = tt

pub returns-in_err-found : goal.returns-in_err-found
returns-in_err-found c =
    exit (Gives (lines.Graph []) c.args.ts.now) c.from_residual.result c.in_err-found.field-0.0 c.from_residual.ensures.1
    (says_on {P = Reads lines.rule (lines.Graph c.invocations.all) c.invocations.at.now} {Q = Reads lines.rule (lines.Graph []) c.args.ts.now}
    c.invocations.invariant (Err c.in_err-found.field-0.0)
    (stops c.invocations.at.now c.invocations.all c.in_err-found.field-0.0 c.in_err-found.ensures))

pub returns-in_default : goal.returns-in_default
returns-in_default c =
    let found = subst (λ x. InvocationFound c.invocations.at.now x c.in_ok-found.behind.now) c.in_default.is c.in_ok-found.ensures in
    c.invocations.invariant (Took c.invocations.all c.in_ok-found.behind.now) (found c.invocations.all)

pub invocations-preserved : goal.invocations-preserved
invocations-preserved c =
    λ o r.
    let found = subst (λ x. InvocationFound c.invocations.at.now x c.in_ok-found.behind.now) c.in-Some.is c.in_ok-found.ensures in
    c.invocations.invariant o (found.1 c.invocations.all o (subst (λ xs. Reads lines.rule (lines.Graph xs) c.in_ok-found.behind.now o) c.in_ok-push.ensures.ok r))

pub invocations-smaller : goal.invocations-smaller
invocations-smaller c =
    let found = subst (λ x. InvocationFound c.invocations.at.now x c.in_ok-found.behind.now) c.in-Some.is c.in_ok-found.ensures in
    found.0
