use Rattle.std.proofs.Common.{◌≡◌, ◌≤◌, ◌+◌, ℕ, vec_capacity}
use Rattle.group_drive.specs.Groups.{AllRun, Parts, weigh}
use Rattle.group_drive.specs.Answers.{AllAmong, OutRun, weigh_out}
use Rattle.group_drive.proofs.groups.collect.Given as goal

abbrev pub invariant-handles : goal.invariant-handles
invariant-handles g l =
    AllAmong l.links.items l.handles.items
    × (weigh g.N.Turns.number (λ _. 1) l.all.items + weigh_out g.N.Turns.number (λ _. 1) l.handles.items
    ≤ vec_capacity l.all)
    × ((h : ℕ → ℕ) → weigh g.N.Turns.number h l.all.items + weigh_out g.N.Turns.number h l.handles.items
    ≡ weigh g.N.Turns.number h l.fn.all.items + weigh_out g.N.Turns.number h l.fn.handles.items)
    × ((parts : Parts) → OutRun g.N.Turns.number g.N.Turns.runs parts l.links.items l.fn.handles.items
    → OutRun g.N.Turns.number g.N.Turns.runs parts l.links.items l.handles.items)
    × ((parts : Parts) → AllRun g.N.Turns.number g.N.Turns.ended parts l.links.items l.fn.all.items
    → OutRun g.N.Turns.number g.N.Turns.runs parts l.links.items l.fn.handles.items
    → AllRun g.N.Turns.number g.N.Turns.ended parts l.links.items l.all.items)

abbrev pub decreases-handles : goal.decreases-handles
decreases-handles g l = goal.left-handles g l
