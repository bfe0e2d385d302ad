use Rattle.std.specs.Prelude.{slice_set}
use Rattle.std.proofs.Common.{ap, ◌∙◌}
use Rattle.body_rules.proofs.PutBack.{put_back}
use Rattle.body_rules.proofs.handlers.body_on.Goals as goal

pub returns-in-Tuple-clause-same_ports : goal.returns-in-Tuple-clause-same_ports
returns-in-Tuple-clause-same_ports c =
    ap (slice_set c.args.ports.now c.args.place) c.tuple_body.ensures.same_port
    ∙ put_back c.args.ports.now c.args.place c.item_mut.result.now c.item_mut.ensures.item
