use Rattle.std.proofs.Common.{◌+◌, ◌-◌, ◌++◌, length, Some, sym, ap, ◌∙◌, arith}
use Rattle.std.specs.Option.{option_map}
use Rattle.language_model.specs.Evaluation.{tuple_from}
use Rattle.tuple_groups.specs.Columns.{fields_at}
use Rattle.tuple_groups.specs.Seen.{seen}
use Rattle.tuple_groups.proofs.Attributes.{all_there, fields_of_tuple, next_there, nothing_yet, one_more}
use Rattle.tuple_groups.proofs.rows.group_tuple.Goals as goal

pub loop-attribute-init : goal.loop-attribute-init
loop-attribute-init c vs e =
    let there = fields_of_tuple (seen c.args.tuples.now) c.args.width c.args.output.now vs e in
    (there.0, there.1, nothing_yet there.0 (length c.args.output.now) _ vs c.in_ok-values.ensures there.2)

pub attribute_of-requires-clause-there : goal.attribute_of-requires-clause-there
attribute_of-requires-clause-there c =
    let inv = c.loop-attribute.invariant c.requires.there.0 c.requires.there.1 in
    let next = next_there inv.0 c.loop-attribute.attribute (length c.args.output.now) c.loop-attribute.values c.requires.there.0 inv.2 (omega arith) in
    (inv.0, next.0, (λ i. fields_at c.args.width (c.as_slice.ensures i) (seen c.args.tuples.now)) ∙ inv.1, next.1)

pub loop-attribute-preserved : goal.loop-attribute-preserved
loop-attribute-preserved c vs e =
    let inv = c.loop-attribute.invariant vs e in
    let is = c.in_ok-value.ensures inv.0 ((λ i. fields_at c.args.width (c.as_slice.ensures i) (seen c.args.tuples.now)) ∙ inv.1) in (
      inv.0,
      inv.1,
      (λ i. option_map (λ more. c.in_ok-push.ensures.ok i ++ more) (tuple_from (c.loop-attribute.attribute + 1) (length c.args.output.now - (c.loop-attribute.attribute + 1)) inv.0))
          ∙ one_more inv.0 c.loop-attribute.attribute (length c.args.output.now) c.loop-attribute.values vs inv.2 (omega arith) c.in_ok-value.value is,
    )

pub returns : goal.returns
returns c =
    let t = c.requires.there in
    let inv = c.loop-attribute.invariant t.0 t.1 in
    t.1 ∙ ap Some (sym (all_there inv.0 c.loop-attribute.attribute (length c.args.output.now) c.loop-attribute.values t.0 inv.2 (omega arith)))
