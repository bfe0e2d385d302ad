use Rattle.std.proofs.Common.{sym, ◌∙◌, arith}
use Rattle.row_reader.proofs.Records.{run_none, run_more}
use Rattle.row_reader.proofs.marked.run_end.Goals as goal

pub run-init : goal.run-init
run-init c = record { within = c.requires; run = run_none c.args.text.now c.args.from }

pub run-preserved : goal.run-preserved
run-preserved c = record {
  within = omega (arith, c.run-test.true);
  run = run_more c.args.text.now c.args.from c.run.at c.run-test.true (sym c.is_stop.ensures ∙ c.if-is_stop.false) c.run.invariant.run;
}

pub returns-then-is_stop-clause-stop : goal.returns-then-is_stop-clause-stop
returns-then-is_stop-clause-stop c = (c.run.invariant.within, λ _. sym c.is_stop.ensures ∙ c.if-is_stop.true)
