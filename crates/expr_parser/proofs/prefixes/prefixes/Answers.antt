use Rattle.std.proofs.Common.{subst}
use Rattle.expr_parser.specs.Rules.{Reads}
use Rattle.expr_parser.specs.steps.Parts.{Fronts}
use Rattle.expr_parser.specs.Lines.{Prefixed, rule}
use Rattle.expr_parser.proofs.Front.{prefix_on, primary_on, group_on, cast_on, cast_fails}
use Rattle.expr_parser.proofs.Derive.{exit}
use Rattle.expr_parser.proofs.prefixes.prefixes.Goals as goal

pub returns-in_default-symbol_first : goal.returns-in_default-symbol_first
returns-in_default-symbol_first c o r = c.prefixes.invariant o (primary_on c.in_default.ensures c.in_default-symbol_first.ensures o r)

pub returns-in_default-cast_first : goal.returns-in_default-cast_first
returns-in_default-cast_first c o r =
    c.prefixes.invariant o (group_on c.in_default.ensures c.in-Some-symbol_first.ensures c.in_default-cast_first.ensures o r)

pub prefixes-preserved-in-Some : goal.prefixes-preserved-in-Some
prefixes-preserved-in-Some c o r =
    c.prefixes.invariant o (prefix_on c.in-Some.ensures o (subst (λ ps. Reads rule (Prefixed ps) c.in-Some.behind.now o) c.in_ok-push.ensures.ok r))

pub prefixes-preserved : goal.prefixes-preserved
prefixes-preserved c o r =
    c.prefixes.invariant o (cast_on c.in_default.ensures c.in-Some-symbol_first.ensures c.in-Some-cast_first.ensures c.in_ok-at.ensures.0 c.in_ok-at.at.now c.in_ok-at.ensures.1 o
    (subst (λ ps. Reads rule (Prefixed ps) c.in_ok-at.at.now o) c.in_ok-push-2.ensures.ok r))

pub returns-in_err-at : goal.returns-in_err-at
returns-in_err-at c =
    exit (Fronts c.args.ts.now) c.from_residual-in_err-at.result c.in_err-at.field-0.0 c.from_residual-in_err-at.ensures.1
    (cast_fails c.in_default.ensures c.in-Some-symbol_first.ensures c.args.ts.now c.prefixes.invariant c.in-Some-cast_first.ensures c.in_err-at.field-0.0 c.in_err-at.ensures)
