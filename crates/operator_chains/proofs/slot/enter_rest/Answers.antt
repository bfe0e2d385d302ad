use Rattle.std.proofs.Common.{◌∙◌, ◌++◌, ◌∷◌, [], ap, sym, append_assoc, arith, length, refl, subst}
use Rattle.std.specs.Vec.Iter.{into_iter_items}
use Rattle.stream_model.specs.Operators.{Operator}
use Rattle.stream_model.specs.Replies.{AllFit}
use Rattle.operator_chains.proofs.Entering.{entered_none, entered_ready, entered_more, both_fit}
use Rattle.operator_chains.proofs.slot.enter_rest.Goals as goal

pub loop-output-init : goal.loop-output-init
loop-output-init g c = (
  ([], cc, entered_none g.R.React.spec g.R.React.stands c.args.slot.now c.args.given c.args.rest),
  (let r = c.into_iter-output-iterator.ensures.into_iter_gives in let k = c.into_vec-output-items.result.ok.0 in omega (arith, r.1, k, ap length r.0)),
  c.requires.fits,
  refl,
)

pub enter_output-requires : goal.enter_output-requires
enter_output-requires g c =
    let before = c.loop-output.invariant.0 in
    let may = c.requires.may in
    let step = c.in-Some.ensures.steps in
    let ready = entered_ready g.R.React.spec g.R.React.stands c.args.slot.now c.args.given c.args.rest before.0 (into_iter_items c.next.new.self) c.in-Some.output c.loop-output.slot c.loop-output.given may.0
    (before.1 ∙ ap (λ xs. before.0 ++ xs) step.0) before.2 may.1 may.2 in
    record { may = (_, ready.0, ready.1) }

pub loop-output-preserved : goal.loop-output-preserved
loop-output-preserved g c =
    let before = c.loop-output.invariant.0 in
    let step = c.in-Some.ensures.steps in (
      (
        before.0 ++ c.in-Some.output ∷ [],
        before.1 ∙ ap (λ xs. before.0 ++ xs) step.0 ∙ sym (append_assoc before.0 (c.in-Some.output ∷ []) (into_iter_items c.next.new.self)),
        entered_more g.R.React.spec g.R.React.stands c.args.slot.now c.args.given c.args.rest before.0 (into_iter_items c.next.new.self) c.in-Some.output c.loop-output.slot c.enter_output.new.slot c.loop-output.given _ c.append.new.self
            (before.1 ∙ ap (λ xs. before.0 ++ xs) step.0) before.2 c.in_ok-enter_output.ensures.gives c.in_ok-append.ensures.ok,
      ),
      (let was = c.loop-output.invariant.1 in let one = ap length step.0 in let less = step.1 in omega (arith, was, one, less)),
      subst (AllFit (g.R.React.spec c.args.slot.now.operator)) (sym c.in_ok-append.ensures.ok)
          (both_fit (g.R.React.spec c.args.slot.now.operator) c.loop-output.given c.in_ok-enter_output.field-0 c.loop-output.invariant.2
          (subst (λ (o : Operator). AllFit o c.in_ok-enter_output.field-0) c.loop-output.invariant.3 c.in_ok-enter_output.ensures.fits)),
      c.in_ok-enter_output.ensures.same ∙ c.loop-output.invariant.3,
    )
