use Rattle.std.proofs.Common.{◌≡◌, ◌++◌, flat_map, take}
use Rattle.language_model.specs.parts.Mentions.{declaration_mentions}
use Rattle.program_tables.specs.Mentioned.{mentions_seen}
use Rattle.program_tables.proofs.mentions.of_state.Given as goal

abbrev pub invariant-loop-declaration : goal.invariant-loop-declaration
invariant-loop-declaration l = mentions_seen l.out.items ≡ mentions_seen l.fn.out.items ++ flat_map declaration_mentions (take l.declaration-index l.state)
