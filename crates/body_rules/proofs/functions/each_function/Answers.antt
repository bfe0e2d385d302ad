use Rattle.std.proofs.Common.{Err, subst, sym, ◌+◌, ◌∙◌, ap}
use Rattle.language_model.specs.Finds.{Finds}
use Rattle.written_types.specs.TypeScopes.{types_in}
use Rattle.body_rules.proofs.Signing.{in_unit, typed_from, typed_on, typed_past, typed_stops}
use Rattle.body_rules.proofs.functions.each_function.Goals.{in-Function+in_ok-next+in_ok-push, in_default}
use Rattle.body_rules.proofs.functions.each_function.Goals as goal
use Rattle.language_model.proofs.FoundAnswers.{fails, finds_by, no_front}

pub loop-definition-init : goal.loop-definition-init
loop-definition-init c =
    record {
      same = no_front c.new-functions.result _ c.new-functions.ensures;
      kept = c.requires.scope;
    }

pub loop-definition-preserved : goal.loop-definition-preserved
loop-definition-preserved c =
    let unit = c.args.unit.now in
    let i = c.loop-definition.definition-index in
    let d = c.definition-item.result in
    elim c.match-definition.branch [
      | in-Function+in_ok-next+in_ok-push w ↦ record {
        same =
            c.loop-definition.invariant.same
            ∙ typed_on unit i d c.loop-definition-test.true c.definition-item.is w.in-Function.function w.in-Function.is c.loop-definition.functions w.in_ok-next.next c.match-definition.functions
            (sym (in_unit unit (types_in c.args.types.now) c.loop-definition.scope w.in-Function.function c.requires.types c.loop-definition.invariant.kept) ∙ w.in_ok-next.ensures.code)
            (w.functions-is ∙ w.in_ok-push.ensures.ok);
        kept = w.scope-is ∙ w.in_ok-next.ensures.same_scope ∙ c.loop-definition.invariant.kept;
      }
      | in_default w ↦ record {
        same =
            c.loop-definition.invariant.same
            ∙ typed_past unit i d c.loop-definition-test.true c.definition-item.is w.in_default.not-Function c.loop-definition.functions
            ∙ ap (λ fs. typed_from unit i d c.loop-definition-test.true c.definition-item.is fs (i + 1)) (sym w.functions-is);
        kept = w.scope-is ∙ c.loop-definition.invariant.kept;
      }
    ]

pub returns-in_err-next : goal.returns-in_err-next
returns-in_err-next c =
    let unit = c.args.unit.now in
    let i = c.loop-definition.definition-index in
    let d = c.definition-item.result in
    let f = c.in-Function.function in
    let e = c.in_err-next.field-0.0 in
    finds_by _ _ _ c.loop-definition.invariant.same
    (fails _ _ e c.from_residual.ensures.1
    (typed_stops unit i d c.loop-definition-test.true c.definition-item.is f c.in-Function.is c.loop-definition.functions e
    (subst (λ o. Finds o (Err e)) (in_unit unit (types_in c.args.types.now) c.loop-definition.scope f c.requires.types c.loop-definition.invariant.kept) c.in_err-next.ensures.code)))
