use Rattle.std.proofs.Common.{◌≡◌, Some, ap}
use Rattle.language_model.specs.StreamTypes.{stream_attributes}
use Rattle.stream_rules.proofs.GrownRows.{grown_each, grown_size}
use Rattle.stream_rules.proofs.streams.all_found.Goals as goal

pub loop-stream-preserved : goal.loop-stream-preserved
loop-stream-preserved c =
    let before = c.loop-stream.invariant in
    let grown = c.in_ok-push.ensures.items in
    record {
      size = grown_size _ _ _ _ before.size grown;
      each = grown_each _ _ _ _ before.size grown (λ k o. o ≡ Some (stream_attributes c.args.sites.now.unit.now c.args.graph.now k)) (ap Some c.in_ok-found.ensures) before.each;
    }
