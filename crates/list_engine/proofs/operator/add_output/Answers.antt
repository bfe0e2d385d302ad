use Rattle.std.proofs.Common.{subst, ◌∷◌, [], sym, arith}
use Rattle.std.specs.Prelude.{slice_set}
use Rattle.list_engine.specs.steps.Taking.{Adds}
use Rattle.list_engine.proofs.Taking.{adds_one, adds_past}
use Rattle.list_engine.proofs.operator.add_output.Goals as goal

pub returns-in_ok-push : goal.returns-in_ok-push
returns-in_ok-push c =
    subst (λ xs. Adds (c.args.output ∷ []) c.args.outs.now (slice_set c.args.outs.now c.args.output.port xs)) (sym c.in_ok-push.ensures.ok)
    (adds_one c.args.output c.args.outs.now c.item_mut.result.now c.item_mut.ensures.item)

pub returns-else-port-len : goal.returns-else-port-len
returns-else-port-len c =
    let past = c.if-port-len.false in let len = c.len.ensures in adds_past c.args.output c.args.outs.now (omega (arith, past, len))
