use Rattle.std.proofs.Common.{◌≡◌, ◌++◌, drop}
use Rattle.language_model.specs.DollarLaws.{dollars_in}
use Rattle.program_tables.specs.Mentioned.{mentions_seen}
use Rattle.dollar_rules.specs.steps.Mentioned.{names_of, names_seen}
use Rattle.dollar_rules.proofs.mentions.dollars_in.Given as goal

abbrev pub invariant-loop-mention : goal.invariant-loop-mention
invariant-loop-mention l = dollars_in l.fn.expr ≡ names_seen l.names.items ++ names_of (mentions_seen (drop l.mention-index l.mention-items))
