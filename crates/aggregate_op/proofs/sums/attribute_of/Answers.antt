use Rattle.std.proofs.Common.{◌≡◌, ◌==◌, Some, None, false, ap, sym, ◌∙◌, arith}
use Rattle.std.specs.Option.{option_copied}
use Rattle.std.proofs.lemmas.Bool.Decides.{nat_tests}
use Rattle.aggregate_op.proofs.AnswerSteps.{others_get, this_gets}
use Rattle.aggregate_op.proofs.sums.attribute_of.Goals as goal

pub unreachable-requires : goal.unreachable-requires
unreachable-requires c =
    let x = c.index-output-k.result in
    let none = this_gets c.args.attribute c.args.output.now c.args.answers.now c.loop-k.k x c.loop-k-test.true c.index-output-k.is None c.if-assignment-attribute.true
    (sym c.get.ensures.value ∙ ap option_copied c.in_default.is) in
    let no : None ≡ Some c.requires.0 = sym none ∙ c.loop-k.invariant ∙ c.requires.1 in
    absurd cc

pub returns-then-assignment-attribute : goal.returns-then-assignment-attribute
returns-then-assignment-attribute c =
    let x = c.index-output-k.result in
    sym c.loop-k.invariant
    ∙ this_gets c.args.attribute c.args.output.now c.args.answers.now c.loop-k.k x c.loop-k-test.true c.index-output-k.is (Some c.in_ok-copy.copy) c.if-assignment-attribute.true
    (sym c.get.ensures.value ∙ ap option_copied c.in-Some.is ∙ ap Some (sym c.in_ok-copy.ensures))

pub loop-k-preserved : goal.loop-k-preserved
loop-k-preserved c =
    let x = c.index-output-k.result in
    let other : (x.attribute == c.args.attribute) ≡ false = grind (arith, nat_tests, c.if-assignment-attribute.false) in
    others_get c.args.attribute c.args.output.now c.args.answers.now c.loop-k.k x c.loop-k-test.true c.index-output-k.is other ∙ c.loop-k.invariant
