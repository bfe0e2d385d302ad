use Rattle.std.proofs.Common.{◌≡◌, drop}
use Rattle.std.specs.List.{list_all}
use Rattle.language_model.specs.parts.LogicTyping.{is_minus_prefix}
use Rattle.logic_rules.proofs.state_values.are_minus_prefixes.Given as goal

abbrev pub invariant-loop-prefix : goal.invariant-loop-prefix
invariant-loop-prefix l = list_all is_minus_prefix l.prefixes ≡ list_all is_minus_prefix (drop l.prefix-index l.prefixes)
