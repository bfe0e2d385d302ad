use Rattle.std.proofs.Common.{refl, sym, ◌∙◌}
use Rattle.language_model.specs.Declarations.{MadeStream}
use Rattle.duplicate_rules.proofs.GraphNames.{added_on, added_past}
use Rattle.duplicate_rules.proofs.declarations.graphs.add_streams.Goals as goal

pub loop-stream-preserved : goal.loop-stream-preserved
loop-stream-preserved c =
    added_on (λ x. MadeStream x.name) c.args.streams.now c.loop-stream.stream-index c.loop-stream.names.items c.push.new.self.items c.stream-item.result _ c.loop-stream-test.true c.stream-item.is c.in_ok-push.ensures.items refl
    ∙ c.loop-stream.invariant

pub returns : goal.returns
returns c = sym (added_past (λ x. MadeStream x.name) c.args.streams.now c.loop-stream.stream-index c.loop-stream.names.items c.loop-stream-test.false) ∙ c.loop-stream.invariant
