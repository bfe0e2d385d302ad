use Rattle.std.proofs.Common.{◌≡◌, ◌++◌, flat_map, take}
use Rattle.language_model.specs.parts.Mentions.{assignment_mentions}
use Rattle.program_tables.specs.Mentioned.{mentions_seen}
use Rattle.program_tables.proofs.mentions.of_outputs.Given as goal

abbrev pub invariant-loop-output : goal.invariant-loop-output
invariant-loop-output l = mentions_seen l.out.items ≡ mentions_seen l.fn.out.items ++ flat_map assignment_mentions (take l.output-index l.outputs)
