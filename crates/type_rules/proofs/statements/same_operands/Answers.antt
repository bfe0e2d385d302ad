use Rattle.std.proofs.Common.{Some, ap, sym, ◌∙◌}
use Rattle.spl_value.specs.declared.types.SplType.TheViews.{out-SplType}
use Rattle.language_model.specs.Typing.{level_operator, operands_typed, typing}
use Rattle.language_model.specs.TypingLaws.{parted}
use Rattle.type_rules.proofs.statements.same_operands.Goals as goal
use Rattle.language_model.proofs.FoundAnswers.{finds_by}

pub returns : goal.returns
returns c =
    let scope = c.args.scope.now in
    let op = c.args.operator in
    finds_by _ _ _
    (ap (operands_typed scope c.args.first (parted c.args.left.now) (parted c.args.right.now))
    (ap (λ k. level_operator op (out-SplType k)) (sym c.get.ensures) ∙ sym c.operator_on.ensures ∙ c.in-Some.is))
    (c.if_second.ensures _ (finds_by _ _ _ (ap (λ k. typing scope c.args.right.now (Some k)) (sym c.get-2.ensures)) c.type_of-second.ensures))
