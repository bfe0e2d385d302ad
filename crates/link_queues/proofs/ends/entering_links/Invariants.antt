use Rattle.std.proofs.Common.{◌≡◌, length, take}
use Rattle.link_queues.specs.Ends.{Lists, receiver}
use Rattle.link_queues.proofs.ends.entering_links.Given as goal

-- the links so far are listed
abbrev pub invariant-links : goal.invariant-links
invariant-links l = (l.number ≡ l.link-index) × (length l.rows ≡ l.fn.elements) × Lists receiver (take l.link-index l.links) l.rows
