use Rattle.std.proofs.Common.{◌+◌, ◌-◌, ◌++◌, length, Some, sym, ap, ◌∙◌, arith}
use Rattle.std.specs.Option.{option_map}
use Rattle.language_model.specs.Evaluation.{field_at, tuple_from}
use Rattle.tuple_groups.proofs.Attributes.{all_there, next_there, nothing_yet, one_more}
use Rattle.aggregate_op.specs.steps.Summing.{fields_of}
use Rattle.aggregate_op.proofs.sums.answers_tuple.Goals as goal

pub loop-attribute-init : goal.loop-attribute-init
loop-attribute-init c vs e = nothing_yet (fields_of c.args.output.now c.args.answers.now) (length c.args.output.now) _ vs c.in_ok-values.ensures e

pub attribute_of-requires : goal.attribute_of-requires
attribute_of-requires c =
    let inv = c.loop-attribute.invariant c.requires.0 c.requires.1 in
    let next = next_there (fields_of c.args.output.now c.args.answers.now) c.loop-attribute.attribute (length c.args.output.now) c.loop-attribute.values c.requires.0 inv (omega arith) in
    (next.0, (λ i. field_at c.loop-attribute.attribute (fields_of (c.as_slice.ensures i) c.args.answers.now)) ∙ next.1)

pub loop-attribute-preserved : goal.loop-attribute-preserved
loop-attribute-preserved c vs e =
    let fs = fields_of c.args.output.now c.args.answers.now in
    let is = (λ i. field_at c.loop-attribute.attribute (fields_of (sym c.as_slice.ensures i) c.args.answers.now)) ∙ c.in_ok-value.ensures in
    (λ i. option_map (λ more. c.in_ok-push.ensures.ok i ++ more) (tuple_from (c.loop-attribute.attribute + 1) (length c.args.output.now - (c.loop-attribute.attribute + 1)) fs))
    ∙ one_more fs c.loop-attribute.attribute (length c.args.output.now) c.loop-attribute.values vs (c.loop-attribute.invariant vs e) (omega arith) c.in_ok-value.value is

pub returns : goal.returns
returns c =
    let t = c.requires in
    t.1 ∙ ap Some (sym (all_there (fields_of c.args.output.now c.args.answers.now) c.loop-attribute.attribute (length c.args.output.now) c.loop-attribute.values t.0 (c.loop-attribute.invariant t.0 t.1) (omega arith)))
