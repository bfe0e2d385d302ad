use Rattle.std.proofs.Common.{◌≡◌, ◌++◌}
use Rattle.spl_value.specs.declared.item.Item.TheVariants as I
use Rattle.stream_model.specs.Bodies.{on_each}
use Rattle.op_kit.proofs.operator.calls.add_ends.Given as goal

abbrev pub invariant-ports : goal.invariant-ports
invariant-ports l = l.outs ≡ l.initial.outs ++ on_each l.port I.Final
