use Rattle.std.proofs.Common.{sym, ◌∙◌}
use Rattle.row_reader.proofs.Records.{bare_line, marked_line}
use Rattle.row_reader.proofs.marked.behind_mark.Goals as goal

pub returns-then-begins_marked : goal.returns-then-begins_marked
returns-then-begins_marked c = marked_line c.args.line.now (sym c.begins_marked.ensures ∙ c.if-begins_marked.true)

pub returns-else-begins_marked : goal.returns-else-begins_marked
returns-else-begins_marked c = bare_line c.args.line.now (sym c.begins_marked.ensures ∙ c.if-begins_marked.false)
