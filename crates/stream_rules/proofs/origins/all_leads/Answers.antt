use Rattle.std.proofs.Common.{◌≡◌, arith}
use Rattle.std.specs.Option.{option_and_then, option_to_list}
use Rattle.language_model.specs.StreamTypes.{stream_leads}
use Rattle.stream_rules.proofs.GrownRows.{grown_each, grown_size}
use Rattle.stream_rules.proofs.OriginRows.{steps_of}
use Rattle.stream_rules.proofs.origins.all_leads.Goals as goal

pub loop-stream-preserved : goal.loop-stream-preserved
loop-stream-preserved c =
    let before = c.loop-stream.invariant in
    let grown = c.in_ok-push.ensures.items in
    record {
      size = grown_size _ _ _ _ before.size grown;
      each = grown_each _ _ _ _ before.size grown (λ k o. option_to_list (option_and_then (λ lead. lead) o) ≡ stream_leads c.args.sites.now.unit.now c.args.graph.now k) c.lead.ensures before.each;
    }

pub returns : goal.returns
returns c =
    steps_of c.args.sites.now.unit.now c.args.graph.now c.loop-stream.next.items (omega arith) (λ k h. c.loop-stream.invariant.each k (omega arith))
