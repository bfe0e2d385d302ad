use Rattle.std.proofs.Common.{ℕ, List, arith, Err, [], ◌∷◌, ◌++◌}
use Rattle.expr_parser.specs.declared.stop.Stop.TheVariants as S
use Rattle.expr_parser.specs.declared.stop.Stop.{Stop}
use Rattle.spl_tree.specs.declared.token.Token.{Token}
use Rattle.spl_tree.specs.declared.unit.Invocation.{Invocation}
use Rattle.spl_tree.specs.declared.unit.OutputStream.{OutputStream}
use Rattle.std.specs.Prelude.{Option}
use Rattle.expr_parser.specs.Rules.{done, call, RuleResult, Refused, Reads, RunsTo}
use Rattle.statement_parser.specs.Gives.{Comes}
use Rattle.unit_parser.specs.steps.GivesClauses.{InvocationsOn}
use Rattle.statement_parser.specs.Lines.{Name, R}
use Rattle.statement_parser.specs.Lines as lines
use Rattle.statement_parser.proofs.Readings.{finished, reads, taken, skipped, line_read, line_fails}
use Rattle.unit_parser.proofs.invocations.invocation.Goals as goal
use Rattle.expr_parser.proofs.Locality.{reads_shrinks, taken_shrinks}
use Rattle.expr_parser.proofs.Derive.{exit}
use Rattle.expr_parser.proofs.RuleLaws.{runs_last}

-- after the head of one more invocation at a place, after others
abbrev head_behind : ℕ → List Invocation → List OutputStream × Option Name → R (List Invocation)
head_behind at xs h = call (lines.Invoked at h.0 h.1) (λ x. call (lines.Graph (xs ++ x ∷ [])) done)

-- an invocation is begun and doesn't go on
stops : (ts mid : List Token) (r : List Invocation → R (List Invocation)) (e : Stop)
    → ((xs : List Invocation) (o : RuleResult (List Invocation)) → RunsTo lines.rule (r xs) mid o → Reads lines.rule (lines.Graph xs) ts o)
    → ((xs : List Invocation) → Comes (r xs) mid (Err e)) → InvocationsOn ts (Err e)
stops ts mid r (S.At rest) on c = λ xs. on xs (Refused rest.now) (c xs)
stops ts mid r S.Memory on c = tt

pub returns-in_err-head : goal.returns-in_err-head
unfolding lines.rule
returns-in_err-head c =
    exit (InvocationsOn c.args.ts.now) c.from_residual.result c.in_err-head.field-0.0 c.from_residual.ensures.1
    (stops c.args.ts.now c.in-Some.behind.now
    (λ xs. call lines.StreamHead (head_behind c.in-Some.word.now.start xs)) c.in_err-head.field-0.0
    (λ xs o q. reads (taken c.in-Some.ensures q))
    (λ xs. line_fails _ lines.StreamHead _ _ c.in_err-head.ensures))

pub returns-in_err-one : goal.returns-in_err-one
unfolding lines.rule
returns-in_err-one c =
    exit (InvocationsOn c.args.ts.now) c.from_residual-in_err-one.result c.in_err-one.field-0.0 c.from_residual-in_err-one.ensures.1
    (stops c.args.ts.now c.in_ok-head.behind.now
    (λ xs. head_behind c.in-Some.word.now.start xs c.in_ok-head.head) c.in_err-one.field-0.0
    (λ xs o q. reads (taken c.in-Some.ensures (line_read c.in_ok-head.ensures q)))
    (λ xs. line_fails _ (lines.Invoked c.in-Some.word.now.start c.in_ok-head.head.0 c.in_ok-head.head.1) _ _ c.in_err-one.ensures))

pub returns-in-Some : goal.returns-in-Some
unfolding lines.rule
returns-in-Some c =
    let taken_first = taken_shrinks c.in-Some.ensures in
    let head_read = reads_shrinks c.in_ok-head.ensures in
    let one_read = reads_shrinks c.in_ok-one.ensures in
    (omega arith, λ xs o r. reads (taken c.in-Some.ensures (line_read c.in_ok-head.ensures (line_read c.in_ok-one.ensures (runs_last r)))))

pub returns-in_err-head-2 : goal.returns-in_err-head-2
unfolding lines.rule
returns-in_err-head-2 c =
    exit (InvocationsOn c.args.ts.now) c.from_residual-in_err-head-2.result c.in_err-head-2.field-0.0 c.from_residual-in_err-head-2.ensures.1
    (stops c.args.ts.now c.in-Some-symbol_first.behind.now
    (λ xs. call lines.ListHead (head_behind c.in-Some-symbol_first.open.now.start xs)) c.in_err-head-2.field-0.0
    (λ xs o q. reads (skipped c.in_default.ensures (taken c.in-Some-symbol_first.ensures q)))
    (λ xs. line_fails _ lines.ListHead _ _ c.in_err-head-2.ensures))

pub returns-in_err-one-2 : goal.returns-in_err-one-2
unfolding lines.rule
returns-in_err-one-2 c =
    exit (InvocationsOn c.args.ts.now) c.from_residual-in_err-one-2.result c.in_err-one-2.field-0.0 c.from_residual-in_err-one-2.ensures.1
    (stops c.args.ts.now c.in_ok-head-2.behind.now
    (λ xs. head_behind c.in-Some-symbol_first.open.now.start xs c.in_ok-head-2.head) c.in_err-one-2.field-0.0
    (λ xs o q. reads (skipped c.in_default.ensures (taken c.in-Some-symbol_first.ensures (line_read c.in_ok-head-2.ensures q))))
    (λ xs. line_fails _ (lines.Invoked c.in-Some-symbol_first.open.now.start c.in_ok-head-2.head.0 c.in_ok-head-2.head.1) _ _ c.in_err-one-2.ensures))

pub returns : goal.returns
unfolding lines.rule
returns c =
    let taken_first = taken_shrinks c.in-Some-symbol_first.ensures in
    let head_read = reads_shrinks c.in_ok-head-2.ensures in
    let one_read = reads_shrinks c.in_ok-one-2.ensures in
    (omega arith, λ xs o r. reads (skipped c.in_default.ensures (taken c.in-Some-symbol_first.ensures (line_read c.in_ok-head-2.ensures (line_read c.in_ok-one-2.ensures (runs_last r))))))

pub returns-in_default-symbol_first : goal.returns-in_default-symbol_first
unfolding lines.rule
returns-in_default-symbol_first c = λ xs. reads (skipped c.in_default.ensures (skipped c.in_default-symbol_first.ensures finished))
