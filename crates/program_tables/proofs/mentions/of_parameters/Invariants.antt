use Rattle.std.proofs.Common.{◌≡◌, ◌++◌, flat_map, take}
use Rattle.language_model.specs.parts.Mentions.{parameter_mentions}
use Rattle.program_tables.specs.Mentioned.{mentions_seen}
use Rattle.program_tables.proofs.mentions.of_parameters.Given as goal

abbrev pub invariant-loop-parameter : goal.invariant-loop-parameter
invariant-loop-parameter l = mentions_seen l.out.items ≡ mentions_seen l.fn.out.items ++ flat_map parameter_mentions (take l.parameter-index l.parameters)
