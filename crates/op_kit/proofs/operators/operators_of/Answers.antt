use Rattle.std.proofs.Common.{rules, arith, ◌≡◌, ◌++◌, ◌∷◌, [], length}
use Rattle.language_model.specs.Keeping.{Keeps}
use Rattle.op_kit.specs.contracts.operator.calls.OperatorReact.TheImpl as kit
use Rattle.op_kit.proofs.Making.{all_made, one_more}
use Rattle.op_kit.proofs.operators.operators_of.Goals as goal

pub operators-preserved : goal.operators-preserved
operators-preserved c =
    let pushed : c.push.new.self ≡ c.operators.operators ++ c.in_ok-operator.operator ∷ [] = search rules in
    one_more kit.spec-value.it kit.stands-value.it c.args.checked.now c.operators.number c.operators.operators c.push.new.self c.in_ok-operator.operator c.operators.invariant c.in_ok-operator.ensures pushed

pub returns : goal.returns
returns c =
    let keeps : Keeps c.args.checked.now = search rules in
    let same : length c.checked.inside.graph.ops ≡ length c.args.checked.now.graph.ops = search rules in
    let size : length c.operators.operators ≡ length c.args.checked.now.graph.ops = (
    let t = c.operators-test.false in let a = c.operators.auto.number-end in let e = c.len-number-end.ensures in let s = c.operators.invariant.size in omega (arith, t, a, e, s, same)
    ) in
    all_made kit.spec-value.it kit.stands-value.it c.args.checked.now c.operators.operators keeps (record { size = size; each = c.operators.invariant.each })
