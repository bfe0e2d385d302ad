use Rattle.std.proofs.Common.{◌≡◌, ◌++◌, take, flat_map, codes}
use Rattle.arrival_format.specs.ArrivalTexts.{line_text}
use Rattle.arrival_format.proofs.writing.arrivals_text.Given as goal

abbrev pub invariant-loop-list : goal.invariant-loop-list
invariant-loop-list l = l.text.items ≡ codes "arrivals 1\n" ++ flat_map (line_text l.checked) (take l.list-index l.list-items)
