use Rattle.std.proofs.Common.{◌≡◌, ◌≤◌, ◌+◌, ℕ, List, vec_len, vec_capacity}
use Rattle.ordered_link.specs.declared.ends.Link.{Link}
use Rattle.group_drive.specs.Groups.{AllRun, GroupsRun, Parts, weigh, weigh_all}
use Rattle.group_drive.proofs.deals.deal.Given as goal

abbrev pub invariant-nodes : goal.invariant-nodes
invariant-nodes g l =
    (vec_len l.groups ≡ vec_len l.fn.groups)
    × (vec_capacity l.left ≡ vec_capacity l.fn.left)
    × (vec_len l.left + vec_len l.nodes ≤ vec_capacity l.left)
    × (vec_len l.groups ≡ l.workers)
    × ((h : ℕ → ℕ) → weigh_all g.N.Turns.number h l.groups.items + weigh g.N.Turns.number h l.left.items
    + weigh g.N.Turns.number h l.nodes.items ≡ weigh g.N.Turns.number h l.fn.nodes.items)
    × ((parts : Parts) (links : List Link) → AllRun g.N.Turns.number g.N.Turns.runs parts links l.fn.nodes.items
    → GroupsRun g.N.Turns.number g.N.Turns.runs parts links l.groups.items
    × AllRun g.N.Turns.number g.N.Turns.runs parts links l.left.items
    × AllRun g.N.Turns.number g.N.Turns.runs parts links l.nodes.items)

abbrev pub decreases-nodes : goal.decreases-nodes
decreases-nodes g l = goal.left-nodes g l
