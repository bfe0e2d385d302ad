use Rattle.std.proofs.Common.{subst}
use Rattle.list_engine.specs.declared.run_order.RunAnswer.{RunAnswer}
use Rattle.list_engine.specs.RunOrders.{StopsRun}
use Rattle.stream_model.specs.Runs.{rows_at}
use Rattle.spl_driver.proofs.Preparing.{not_whole, ran_for, ran_in, rows_fit}
use Rattle.spl_driver.proofs.prepare.prepare.Goals as goal

pub run_graph-requires : goal.run_graph-requires
run_graph-requires g c = record { rows = rows_fit c.args.checked.now c.in-Rows.rows _ _ _ c.in-Rows.ensures.made }

pub returns-in-Ok-clause-made : goal.returns-in-Ok-clause-made
returns-in-Ok-clause-made g c = (
  ran_for c.engine_law.ensures.ordered c.run_faults_law.ensures.reads c.args.checked.now c.in-Rows.rows c.in-Ok.run' _ _ _ c.kept.ensures c.in-Rows.ensures.made c.in-Ok.ensures.sinks c.in-Ok.ensures.fault c.in-Ok.ensures.lists c.in-Ok.ensures.whole,
  ran_in c.args.order.now c.args.checked.now c.in-Rows.rows c.in-Ok.run' _ _ _ c.requires.order c.in-Rows.ensures.made c.in-Ok.ensures.lists c.in-Ok.ensures.whole c.in-Ok.ensures.ordered,
)

pub returns-in-Err-NotWhole-clause-made : goal.returns-in-Err-NotWhole-clause-made
returns-in-Err-NotWhole-clause-made g c =
    not_whole c.args.order.now c.args.checked.now c.in-Rows.rows c.in-Err-NotWhole.op _ _ _ c.in-Rows.ensures.made
    (λ g e. subst (λ (a : RunAnswer). StopsRun a c.args.order.now g (rows_at c.in-Rows.rows)) c.in-Err-NotWhole.field-0-is (c.in-Err-NotWhole.ensures.stops g e))
