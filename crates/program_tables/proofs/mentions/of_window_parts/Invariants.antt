use Rattle.std.proofs.Common.{◌≡◌, ◌++◌, flat_map, take}
use Rattle.language_model.specs.parts.Mentions.{part_of_window_mentions}
use Rattle.program_tables.specs.Mentioned.{mentions_seen}
use Rattle.program_tables.proofs.mentions.of_window_parts.Given as goal

abbrev pub invariant-loop-part : goal.invariant-loop-part
invariant-loop-part l = mentions_seen l.out.items ≡ mentions_seen l.fn.out.items ++ flat_map part_of_window_mentions (take l.part-index l.parts)
