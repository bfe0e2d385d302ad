use Rattle.std.proofs.Common.{◌≡◌, ◌<◌, ℕ, true, map, length, get_or}
use Rattle.group_drive.specs.Groups.{AllRun, Parts}
use Rattle.group_drive.proofs.rounds.drive.Given as goal

abbrev pub invariant-nodes : goal.invariant-nodes
invariant-nodes g l =
    ((parts : Parts) → AllRun g.N.Turns.number g.N.Turns.runs parts l.links.items l.fn.nodes.items
    → AllRun g.N.Turns.number g.N.Turns.runs parts l.links.items l.nodes.items)
    × (map g.N.Turns.number l.nodes.items ≡ map g.N.Turns.number l.fn.nodes.items)
    × (length l.nodes.items ≡ l.i-end)
    × (l.all_done ≡ true → (parts : Parts) → AllRun g.N.Turns.number g.N.Turns.runs parts l.links.items l.fn.nodes.items
    → (k : ℕ) (d : _) → k < l.i
    → g.N.Turns.ended (get_or l.nodes.items k d) (parts (g.N.Turns.number (get_or l.nodes.items k d))) l.links.items)

abbrev pub invariant-rounds : goal.invariant-rounds
invariant-rounds g l =
    (goal.iterator-rounds g).can_next l.iterator' × (goal.iterator-rounds g).is_finite l.iterator'
    × ((parts : Parts) → AllRun g.N.Turns.number g.N.Turns.runs parts l.links.items l.fn.nodes.items
    → AllRun g.N.Turns.number g.N.Turns.runs parts l.links.items l.nodes.items)
    × (map g.N.Turns.number l.nodes.items ≡ map g.N.Turns.number l.fn.nodes.items)
