use Rattle.std.proofs.Common.{◌-◌, take, ap, ◌∙◌, arith}
use Rattle.spl_tree.specs.declared.code.UnaryCode.TheVariants.{Not}
use Rattle.language_model.specs.Evaluation.{unaries_of}
use Rattle.language_model.specs.Outcomes.{followed, settled}
use Rattle.value_operations.specs.Answers.{held}
use Rattle.value_operations.proofs.Unaries.{last_fits, rest_fits, applied}
use Rattle.value_operations.proofs.operators.unaries_of.Goals as goal

pub applied-requires : goal.applied-requires
applied-requires c =
    last_fits c.args.operators.now c.operators.at Not c.operators.invariant.0 c.operators-test.true (held c.operators.value) c.operators.invariant.1

pub operators-preserved : goal.operators-preserved
operators-preserved c =
    let ops = c.args.operators.now in
    let at = c.operators.at in
    let v = held c.operators.value in
    let gives = c.in_ok-value.ensures in (
      omega (arith, c.operators.invariant.0),
      rest_fits ops at Not c.operators.invariant.0 c.operators-test.true v _ c.operators.invariant.1 gives,
      λ turns.
          c.operators.invariant.2 turns ∙ applied ops at Not c.operators.invariant.0 c.operators-test.true v turns
          ∙ ap (λ o. followed (settled o turns) (λ u turns. unaries_of (take (at - 1) ops) u turns)) gives,
    )
