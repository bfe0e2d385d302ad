use Rattle.std.proofs.Common.{[], sym, subst}
use Rattle.spl_tree.specs.declared.keyword.Keyword.TheVariants as K
use Rattle.spl_tree.specs.declared.unit.HeadPort.{HeadPort}
use Rattle.std.specs.Prelude.{List}
use Rattle.expr_parser.specs.Rules.{done, Took, Reads}
use Rattle.statement_parser.proofs.Readings.{finished, reads, taken, skipped, word_passed, fails, word_fails}
use Rattle.statement_parser.proofs.TypeReadings.{goes}
use Rattle.unit_parser.specs.steps.GivesComposites.{both_ports_rule}
use Rattle.statement_parser.specs.Lines as lines
use Rattle.statement_parser.specs.Lines.{R}
use Rattle.unit_parser.proofs.composites.head_ports.Goals as goal
use Rattle.statement_parser.proofs.StatementReadings.{behind, part_read, part_fails}

-- the rule after the inputs and then the outputs
abbrev turned : List HeadPort × List HeadPort → R (List HeadPort × List HeadPort)
turned b = done (b.1, b.0)

pub returns-in_default : goal.returns-in_default
unfolding lines.rule
returns-in_default c =
    let outputs = c.new.ensures in
    let inputs = c.new-in_default.ensures in
    subst (λ ps. Reads lines.rule lines.HeadPorts c.args.ts.now (Took (ps, c.new-in_default.result) c.args.ts.now)) (sym outputs)
    (subst (λ ps. Reads lines.rule lines.HeadPorts c.args.ts.now (Took ([], ps) c.args.ts.now)) (sym inputs) (reads (skipped c.in_default.ensures finished)))

pub returns-in-Some-word_first : goal.returns-in-Some-word_first
unfolding lines.rule
returns-in-Some-word_first c =
    goes lines.HeadPorts c.args.ts.now c.in-Some-word_first.behind.now (both_ports_rule K.Input) c.both_ports.result
    (λ o q. reads (taken c.in-Some.ensures (taken c.in-Some-word_first.ensures q))) c.both_ports.ensures

pub returns-in_err-behind-in-None : goal.returns-in_err-behind-in-None
unfolding lines.rule
returns-in_err-behind-in-None c =
    fails lines.HeadPorts c.args.ts.now c.in-Some.behind.now _ c.from_residual.result c.in_err-behind-in-None.field-0.0 c.from_residual.ensures.1
    (λ o q. reads (taken c.in-Some.ensures (skipped c.in-None.ensures q)))
    (word_fails _ K.Input _ _ c.in_err-behind-in-None.ensures)

pub returns-in_err-inputs-in-None : goal.returns-in_err-inputs-in-None
unfolding lines.rule
returns-in_err-inputs-in-None c =
    fails lines.HeadPorts c.args.ts.now c.in_ok-behind-in-None.behind.now (behind (both_ports_rule K.Output) turned) c.from_residual-in_err-inputs-in-None.result c.in_err-inputs-in-None.field-0.0 c.from_residual-in_err-inputs-in-None.ensures.1
    (λ o q. reads (taken c.in-Some.ensures (skipped c.in-None.ensures (word_passed K.Input c.in_ok-behind-in-None.ensures q))))
    (part_fails (both_ports_rule K.Output) turned _ _ c.in_err-inputs-in-None.ensures)

pub returns-in_ok-inputs-in-None : goal.returns-in_ok-inputs-in-None
unfolding lines.rule
returns-in_ok-inputs-in-None c =
    reads (taken c.in-Some.ensures (skipped c.in-None.ensures (word_passed K.Input c.in_ok-behind-in-None.ensures
    (part_read (both_ports_rule K.Output) turned c.in_ok-inputs-in-None.ensures finished))))
