use Rattle.std.proofs.Common.{ap, ◌∙◌, ◌+◌}
use Rattle.stream_numbering.proofs.Numbers.{streams_step}
use Rattle.stream_numbering.proofs.operators.streams_of.Goals as goal

pub loop-operation-preserved : goal.loop-operation-preserved
loop-operation-preserved c = (
  c.in_ok-maker.ensures ∙ ap (λ n. n + 1) c.loop-operation.invariant.0,
  streams_step c.loop-operation.streams _ c.loop-operation.maker _ _ c.args.operations.now c.operation-item.result
      c.loop-operation-test.true c.operation-item.is c.in_ok-maker.ensures c.in_ok-add_streams.ensures ∙ c.loop-operation.invariant.1,
)
