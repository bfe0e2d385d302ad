use Rattle.std.proofs.Common.{sym, ◌∙◌}
use Rattle.window_rules.proofs.Windowing.{last_other, last_partitioned}
use Rattle.window_rules.proofs.windows.partitioned_last.Goals as goal

pub returns-then-is_word : goal.returns-then-is_word
returns-then-is_word c =
    last_partitioned c.args.parts.now c.in-Some.rest.now c.in-Some.last.now c.in-Some.ensures.cases.0 (sym c.is_word.ensures ∙ c.if-is_word.true)

pub returns-else-is_word : goal.returns-else-is_word
returns-else-is_word c =
    last_other c.args.parts.now c.in-Some.rest.now c.in-Some.last.now c.in-Some.ensures.cases.0 (sym c.is_word.ensures ∙ c.if-is_word.false)
