use Rattle.std.proofs.Common.{◌<◌, List, Some, length, sym, ap, subst, ◌∙◌}
use Rattle.spl_value.specs.declared.value.Value.{Value}
use Rattle.spl_value.specs.declared.value.Value.TheVariants as V
use Rattle.value_operations.proofs.Standing.{port_within, port_read}
use Rattle.value_operations.proofs.slots.port_value.Goals as goal

pub unreachable-requires : goal.unreachable-requires
unreachable-requires c = c.in_default.not-Port c.requires.port.0 c.requires.port.1

pub bounds-as_slice-port : goal.bounds-as_slice-port
bounds-as_slice-port c =
    subst (λ (tuples : List (List Value)). c.in-Port.port < length tuples) (sym c.as_slice.ensures)
    (port_within c.args.env.now c.args.slot c.requires.slot c.in-Port.port c.in-Port.is)

pub returns : goal.returns
returns c =
    port_read c.args.env.now c.args.slot c.requires.slot c.as_slice.result.now c.in-Port.port c.index-as_slice-port.result
    c.in-Port.is c.as_slice.ensures c.index-as_slice-port.is
    ∙ ap (λ (ws : List Value). Some (V.Tuple ws)) (sym (c.in_ok-copy_values.ensures ∙ c.as_slice-2.ensures))
