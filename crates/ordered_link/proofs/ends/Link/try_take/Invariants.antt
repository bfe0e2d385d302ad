use Rattle.ordered_link.proofs.ends.Link.try_take.Given as goal

abbrev pub ghosts-pop_seen : goal.ghosts-pop_seen
ghosts-pop_seen g a = record { seen = g.seen }
