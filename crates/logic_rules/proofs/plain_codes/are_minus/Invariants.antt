use Rattle.std.proofs.Common.{◌≡◌, drop}
use Rattle.std.specs.List.{list_all}
use Rattle.language_model.specs.LogicTyping.{is_minus}
use Rattle.logic_rules.proofs.plain_codes.are_minus.Given as goal

abbrev pub invariant-loop-operator : goal.invariant-loop-operator
invariant-loop-operator l = list_all is_minus l.operators ≡ list_all is_minus (drop l.operator-index l.operators)
