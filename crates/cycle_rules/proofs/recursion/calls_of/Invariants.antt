use Rattle.std.proofs.Common.{◌≡◌, map, take}
use Rattle.language_model.specs.Mentions.{calls}
use Rattle.program_tables.specs.Mentioned.{mentions_seen}
use Rattle.cycle_rules.specs.steps.Named.{name_seen}
use Rattle.cycle_rules.proofs.recursion.calls_of.Given as goal

abbrev pub invariant-loop-mention : goal.invariant-loop-mention
invariant-loop-mention l = map name_seen l.called.items ≡ calls (mentions_seen (take l.mention-index l.mentions))
