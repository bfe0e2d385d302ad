use Rattle.std.proofs.Common.{◌≡◌, drop}
use Rattle.language_model.specs.Typing.{are_distinct}
use Rattle.language_model.specs.TypingLaws.{field_parts}
use Rattle.name_rules.proofs.wanted.are_distinct.Given as goal

abbrev pub invariant-loop-at : goal.invariant-loop-at
invariant-loop-at l = are_distinct (field_parts l.fields) ≡ are_distinct (field_parts (drop l.at l.fields))
