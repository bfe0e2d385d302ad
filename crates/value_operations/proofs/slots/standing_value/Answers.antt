use Rattle.std.proofs.Common.{◌<◌, List, length, sym, subst}
use Rattle.spl_value.specs.declared.value.Value.{Value}
use Rattle.value_operations.proofs.Standing.{variable_read, attribute_within, attribute_read}
use Rattle.value_operations.proofs.slots.standing_value.Goals as goal

pub returns-in-Variable : goal.returns-in-Variable
returns-in-Variable c =
    variable_read c.args.env.now c.args.slot c.requires c.as_slice.result.now c.in-Variable.place c.index-as_slice-place.result
    c.in-Variable.is c.as_slice.ensures c.index-as_slice-place.is

pub bounds-as_slice-attribute : goal.bounds-as_slice-attribute
bounds-as_slice-attribute c =
    subst (λ (vs : List Value). c.in-Attribute.attribute < length vs) (sym c.as_slice-in-Attribute-2.ensures)
    (attribute_within c.args.env.now c.args.slot c.requires c.as_slice-in-Attribute.result.now c.in-Attribute.port c.in-Attribute.attribute
    c.index-as_slice-port.result c.in-Attribute.is c.as_slice-in-Attribute.ensures c.index-as_slice-port.is)

pub returns-in-Attribute : goal.returns-in-Attribute
returns-in-Attribute c =
    attribute_read c.args.env.now c.args.slot c.requires c.as_slice-in-Attribute.result.now c.in-Attribute.port c.in-Attribute.attribute
    c.index-as_slice-port.result c.as_slice-in-Attribute-2.result.now c.index-as_slice-attribute.result
    c.in-Attribute.is c.as_slice-in-Attribute.ensures c.index-as_slice-port.is c.as_slice-in-Attribute-2.ensures c.index-as_slice-attribute.is
