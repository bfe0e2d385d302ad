use Rattle.std.proofs.Common.{◌≡◌, ◌≤◌, ◌<◌, ◌+◌, ◌⊎◌, inl, inr, arith}
use Rattle.channel_heads.specs.Held.{width_of}
use Rattle.channel_heads.proofs.Giving.{front_still}
use Rattle.order_merger.proofs.Standing.{turn_gives, turn_front, turn_nothing}
use Rattle.order_merger.proofs.by_turns.TurnMerger.emit.Goals as goal
use Rattle.order_merger.proofs.by_turns.TurnMerger.emit.Goals.{then-next-width, else-next-width}

pub returns-after-next-width-clause-stands : goal.returns-after-next-width-clause-stands
returns-after-next-width-clause-stands c width taken given s =
    let same : width_of c.give.new.self ≡ width_of c.self.inside.heads = c.in-Some.ensures.width in
    let is : c.width-width.result ≡ width_of c.give.new.self = c.width-width.ensures in
    let next_is : ((c.if-next-width.self ≡ c.self.inside.turn + 1) × (c.self.inside.turn + 1 < width_of c.self.inside.heads))
    ⊎ ((c.if-next-width.self ≡ 0) × (width_of c.self.inside.heads ≤ c.self.inside.turn + 1)) =
    elim c.if-next-width.branch [ then-next-width w ↦ inl (w.self-is, omega arith) | else-next-width w ↦ inr (w.self-is, omega arith) ] in
    turn_gives width _ _ _ _ _ _ _ c.self.view_is c.in-Some.ensures.gives_head.2 c.self.invariant c.in-Some.ensures.gives_head.1 next_is taken given s

pub returns-after-next-width-clause-front : goal.returns-after-next-width-clause-front
returns-after-next-width-clause-front c width taken given s a = turn_front width _ taken _ (returns-after-next-width-clause-stands c width taken given s) a

pub returns-in-None-clause-front : goal.returns-in-None-clause-front
returns-in-None-clause-front c w taken given s a = front_still given given _ (turn_front w _ taken given s a)

pub returns-in-None-clause-whole : goal.returns-in-None-clause-whole
returns-in-None-clause-whole c _ w taken given s a uncut = turn_nothing w _ _ _ c.self.view_is c.self.invariant c.in-None.ensures.gives_head.0 taken given s a uncut
