use Rattle.list_engine.proofs.Gathering.{first_and_rest, gathered_next, next_among}
use Rattle.list_engine.proofs.gather.streams_for.Goals as goal

pub stream_for-requires : goal.stream_for-requires
stream_for-requires c = record {
  there = next_among c.args.checked.now c.args.later.now c.args.connections.now c.inputs.rest.now c.args.table.now c.inputs.table c.inputs.lists c.inputs.invariant
      c.in-len1-up.len_at_least c.requires.there;
}

pub inputs-preserved : goal.inputs-preserved
inputs-preserved c =
    gathered_next c.args.checked.now c.args.later.now c.args.connections.now c.inputs.rest.now _ _ c.args.table.now c.inputs.table c.stream_for.new.table c.inputs.lists c.push.new.self
    c.in_ok-stream_for.field-0 c.inputs.invariant (first_and_rest c.inputs.rest.now c.in-len1-up.len_at_least) c.in_ok-stream_for.ensures.items c.in_ok-stream_for.ensures.others
    c.in_ok-push.ensures.ok
