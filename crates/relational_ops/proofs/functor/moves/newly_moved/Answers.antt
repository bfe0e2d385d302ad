use Rattle.relational_ops.proofs.Moves.{newly}
use Rattle.relational_ops.proofs.functor.moves.newly_moved.Goals as goal

pub returns-then-branch : goal.returns-then-branch
returns-then-branch c =
    newly c.args.code.now c.in-Some.attribute c.args.moved.now c.insert.new.self c.in_ok-insert.field-0 c.in-Some.ensures c.in_ok-insert.ensures.added
    (λ q. c.in_ok-insert.ensures.updates.0 q) c.if-branch.true
