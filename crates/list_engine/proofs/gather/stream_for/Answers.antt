use Rattle.std.proofs.Common.{◌∙◌, sym}
use Rattle.list_engine.proofs.Gathering.{taken_behind}
use Rattle.list_engine.proofs.gather.stream_for.Goals as goal

pub returns-else-is_wanted-clause-others : goal.returns-else-is_wanted-clause-others
returns-else-is_wanted-clause-others c = λ g e.
    taken_behind g c.args.later.now c.args.behind.now c.args.stream c.args.table.now c.take.new.lists (sym (c.is_wanted.ensures g e) ∙ c.if-is_wanted.false) c.take.ensures.others
