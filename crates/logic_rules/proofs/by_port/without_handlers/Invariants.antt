use Rattle.std.proofs.Common.{◌≡◌, []}
use Rattle.spl_tree.specs.declared.unit.HandledEvent.TheVariants as H
use Rattle.language_model.specs.LogicTyping.{handlers_on}
use Rattle.logic_rules.proofs.by_port.without_handlers.Given as goal

abbrev pub invariant-loop : goal.invariant-loop
invariant-loop l = l.bodies ≡ handlers_on H.Tuple [] 0 l.counter
