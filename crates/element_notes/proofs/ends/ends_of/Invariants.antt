use Rattle.std.proofs.Common.{◌≡◌, ◌++◌, drop}
use Rattle.element_notes.specs.Noting.{ends_from}
use Rattle.element_notes.proofs.ends.ends_of.Given as goal

-- the ends at the ports so far, and at those that are left
abbrev pub invariant-loop-count : goal.invariant-loop-count
invariant-loop-count l = (l.ends ++ ends_from l.fn.op l.port (drop l.count-index l.fans) ≡ ends_from l.fn.op 0 l.fans) × (l.port ≡ l.count-index)
