use Rattle.std.proofs.Common.{ap, sym, ◌∙◌}
use Rattle.spl_value.specs.declared.types.SplType.TheVariants as S
use Rattle.spl_value.specs.declared.types.SplType.TheViews.{out-SplType}
use Rattle.language_model.specs.BodyTyping.{level_over}
use Rattle.language_model.specs.Typing.{same_types}
use Rattle.body_rules.proofs.bodies.parts.goes_over.Goals as goal
use Rattle.language_model.proofs.TypingLaws.{same_as}

pub returns-in-List : goal.returns-in-List
returns-in-List c =
    let t = c.args.kind.now in
    same_as c.get.result.now t c.same_type.result c.same_type.ensures
    ∙ ap (λ e. same_types e t) c.get.ensures
    ∙ ap (level_over t) (sym (S.outs-List c.in-List.element))
    ∙ ap (λ v. level_over t (out-SplType v)) (sym c.in-List.is)

pub returns-in-Map : goal.returns-in-Map
returns-in-Map c =
    let t = c.args.kind.now in
    same_as c.get-in-Map.result.now t c.same_type-in-Map.result c.same_type-in-Map.ensures
    ∙ ap (λ k. same_types k t) c.get-in-Map.ensures
    ∙ ap (level_over t) (sym (S.outs-Map c.in-Map.key c.in-Map.field-1))
    ∙ ap (λ v. level_over t (out-SplType v)) (sym c.in-Map.is)
