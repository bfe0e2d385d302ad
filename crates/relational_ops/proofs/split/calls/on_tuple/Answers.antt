use Rattle.std.proofs.Common.{rules, sym}
use Rattle.relational_ops.proofs.Evaluations.{picked_fault, picked_replies}
use Rattle.relational_ops.proofs.split.calls.on_tuple.Goals as goal

pub returns-in-Index-clause-replies : goal.returns-in-Index-clause-replies
returns-in-Index-clause-replies c =
    let j = c.in-Index.ensures.picked in
    picked_replies _ _ _ c.args.index.now c.args.values _ _ j.0 _ c.given_picked.result j.1 (sym c.integer_of-index.ensures) j.2 (search rules)

pub returns-in-Faulted-clause-replies : goal.returns-in-Faulted-clause-replies
returns-in-Faulted-clause-replies c = picked_fault _ _ _ c.args.index.now c.args.values _ c.faulted.result c.in-Faulted.ensures.picked c.faulted.ensures
