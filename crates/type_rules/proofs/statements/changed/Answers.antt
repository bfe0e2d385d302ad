use Rattle.std.proofs.Common.{ap, sym, ◌∙◌}
use Rattle.spl_value.specs.declared.types.SplType.TheViews.{out-SplType}
use Rattle.language_model.specs.Typing.{arguments_typed, level_changed}
use Rattle.language_model.specs.TypingLaws.{parted, parts}
use Rattle.type_rules.proofs.statements.changed.Goals as goal
use Rattle.language_model.proofs.FoundAnswers.{finds_by, goes, no_front}
use Rattle.type_rules.proofs.CallLaws.{changed_law}

pub returns : goal.returns
returns c =
    let scope = c.args.scope.now in
    let es = parts c.args.rest.now in
    finds_by _ _ _ (changed_law c.args.at scope (parted c.args.first.now) es (level_changed c.args.call (out-SplType c.args.kind.now)))
    (goes _ _ c.in_ok-kinds.kinds _ c.in_ok-kinds.ensures
    (finds_by _ _ _ (ap (λ ts. arguments_typed scope ts es) (sym c.as_slice.ensures) ∙ no_front _ _ c.new.ensures) c.arguments.ensures))
