use Rattle.std.proofs.Common.{ap, ◌∙◌}
use Rattle.spl_value.specs.Pairs.{are_pairs}
use Rattle.spl_value.proofs.PairsLaws.{remove_at, none_at_gap, same_at_gap, without_are_pairs}
use Rattle.spl_value.proofs.pairs.Items+tuple2+Value+Value.remove_key.Goals as goal

pub returns-in-Ok-clause-others : goal.returns-in-Ok-clause-others
returns-in-Ok-clause-others c = c.remove-value.ensures.rest ∙ remove_at c.args.key.now c.args.self.now c.in-Ok.at c.requires c.in-Ok.ensures

pub returns-in-Ok-clause-sorted : goal.returns-in-Ok-clause-sorted
returns-in-Ok-clause-sorted c =
    let removed = c.remove-value.ensures.rest ∙ remove_at c.args.key.now c.args.self.now c.in-Ok.at c.requires c.in-Ok.ensures in
    ap are_pairs removed ∙ without_are_pairs c.args.self.now c.args.key.now c.requires

pub returns-in-Err-clause-value : goal.returns-in-Err-clause-value
returns-in-Err-clause-value c = none_at_gap c.args.key.now c.args.self.now c.in-Err.field-0 c.in-Err.ensures

pub returns-in-Err-clause-others : goal.returns-in-Err-clause-others
returns-in-Err-clause-others c = same_at_gap c.args.key.now c.args.self.now c.in-Err.field-0 c.in-Err.ensures
