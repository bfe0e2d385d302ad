use Rattle.std.proofs.Common.{◌≡◌, ◌++◌, flat_map, take}
use Rattle.program_tables.specs.Mentioned.{mentions_seen}
use Rattle.program_tables.specs.steps.MentionParts.{handler_mentions}
use Rattle.program_tables.proofs.mentions.of_handlers.Given as goal

abbrev pub invariant-loop-handler : goal.invariant-loop-handler
invariant-loop-handler l = mentions_seen l.out.items ≡ mentions_seen l.fn.out.items ++ flat_map handler_mentions (take l.handler-index l.handlers)
