use Rattle.std.proofs.Common.{refl, inl, inr, arith}
use Rattle.composite_expand.proofs.Steps.{past_limit, within_limit}
use Rattle.composite_expand.proofs.walk.add.Goals as goal
use Rattle.composite_expand.proofs.walk.add.Goals.{then-len-ge-MOST_OPERATORS-via-then-len-ge-MOST_OPERATORS, then-len-ge-MOST_OPERATORS-via-else-len-ge-MOST_OPERATORS+then-total-ge-TOO_MANY_CONNECTIONS}

pub returns-then-len-ge-MOST_OPERATORS : goal.returns-then-len-ge-MOST_OPERATORS
returns-then-len-ge-MOST_OPERATORS c = λ main is known target.
    past_limit c.args.composites.now.unit.now main c.args.walk.now c.args.top c.args.scope.now.composite.now c.args.invocation.now is c.args.kind known target _ _
    (c.connections_at-count.ensures c.args.composites.now.unit.now main is) c.saturating_add-total.ensures
    (elim c.then-len-ge-MOST_OPERATORS.branch [
      | then-len-ge-MOST_OPERATORS-via-then-len-ge-MOST_OPERATORS w ↦ inl (let h = w.if-len-ge-MOST_OPERATORS.true in let n = c.len.ensures in omega (arith, h, n))
      | then-len-ge-MOST_OPERATORS-via-else-len-ge-MOST_OPERATORS+then-total-ge-TOO_MANY_CONNECTIONS w ↦ inr (let h = w.if-total-ge-TOO_MANY_CONNECTIONS.true in omega (arith, h))
    ])

pub returns : goal.returns
returns c = λ main is known target.
    let first : _ = c.in_ok-push.ensures.ok in
    within_limit c.args.composites.now.unit.now main c.args.walk.now c.args.top c.args.scope.now.composite.now c.args.invocation.now is c.args.kind known target _ c.saturating_add-total.result
    (c.connections_at-count.ensures c.args.composites.now.unit.now main is) c.saturating_add-total.ensures c.in_ok-made.made _ c.in_ok-on.on
    (c.in_ok-made.ensures main c.args.scope.now.composite.now is)
    (let h = c.if-len-ge-MOST_OPERATORS.false in let n = c.len.ensures in omega (arith, h, n)) (let h = c.if-total-ge-TOO_MANY_CONNECTIONS.false in omega (arith, h))
    c.in_ok-on.ensures c.in_ok-push-2.ensures.ok refl refl c.in_ok-push.ensures.ok refl refl refl
