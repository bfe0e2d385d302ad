use Rattle.std.proofs.Common.{◌≡◌, ◌≤◌, ◌<◌, ◌^◌, ◌+◌, ℕ, vec_capacity, vec_len}
use Rattle.group_drive.specs.Groups.{AllRun, GroupsRun, Parts, weigh, weigh_all}
use Rattle.group_drive.specs.Answers.{AllAmong, OutRun, weigh_out}
use Rattle.group_drive.proofs.groups.launch.Given as goal

abbrev pub invariant-groups : goal.invariant-groups
invariant-groups g l =
    (vec_len l.groups ≤ vec_len l.flags)
    × (vec_len l.groups < 2 ^ 32)
    × AllAmong l.links.items l.handles.items
    × (vec_len l.handles + vec_len l.groups ≤ vec_capacity l.handles)
    × (weigh g.N.Turns.number (λ _. 1) l.left.items + weigh_all g.N.Turns.number (λ _. 1) l.groups.items
    ≤ vec_capacity l.left)
    × ((h : ℕ → ℕ) → weigh_out g.N.Turns.number h l.handles.items + weigh g.N.Turns.number h l.left.items
    + weigh_all g.N.Turns.number h l.groups.items
    ≡ weigh g.N.Turns.number h l.fn.left.items + weigh_all g.N.Turns.number h l.fn.groups.items)
    × ((parts : Parts) → GroupsRun g.N.Turns.number g.N.Turns.runs parts l.links.items l.fn.groups.items
    → AllRun g.N.Turns.number g.N.Turns.runs parts l.links.items l.fn.left.items
    → OutRun g.N.Turns.number g.N.Turns.runs parts l.links.items l.handles.items
    × GroupsRun g.N.Turns.number g.N.Turns.runs parts l.links.items l.groups.items
    × AllRun g.N.Turns.number g.N.Turns.runs parts l.links.items l.left.items)

abbrev pub decreases-groups : goal.decreases-groups
decreases-groups g l = goal.left-groups g l
