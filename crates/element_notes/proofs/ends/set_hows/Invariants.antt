use Rattle.std.proofs.Common.{◌≡◌, drop, length, map, take}
use Rattle.element_notes.specs.Noting.{with_how}
use Rattle.element_notes.proofs.ends.set_hows.Given as goal

-- each end so far stands so, and those that are left as before
abbrev pub invariant-loop-end : goal.invariant-loop-end
invariant-loop-end l = (take l.end-index l.ends ≡ map (with_how l.fn.how) (take l.end-index l.initial.ends)) × (drop l.end-index l.ends ≡ drop l.end-index l.initial.ends)
    × (length l.ends ≡ length l.initial.ends)
