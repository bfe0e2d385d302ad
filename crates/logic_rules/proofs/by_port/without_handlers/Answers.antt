use Rattle.std.proofs.Common.{ap, arith, sym, ◌∙◌, ◌≡◌, ◌++◌, ◌∷◌, [], None}
use Rattle.spl_tree.specs.declared.unit.HandledEvent.TheVariants as H
use Rattle.language_model.specs.LogicTyping.{handlers_on}
use Rattle.logic_rules.proofs.ByPorts.{none_each, none_more}
use Rattle.logic_rules.proofs.by_port.without_handlers.Goals as goal

pub loop-preserved : goal.loop-preserved
loop-preserved c =
    c.in_ok-push.ensures.ok ∙ ap (λ xs. xs ++ None ∷ []) c.loop.invariant ∙ sym (none_more H.Tuple 0 c.loop.counter)

pub returns : goal.returns
returns c = λ event.
    let past : c.loop.counter ≡ c.args.count = omega arith in
    c.loop.invariant ∙ ap (handlers_on H.Tuple [] 0) past ∙ none_each H.Tuple event 0 c.args.count
