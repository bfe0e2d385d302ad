use Rattle.std.proofs.Common.{◌≡◌, ◌+◌, ◌++◌, List, flat_map}
use Rattle.language_model.specs.Expansion.{Inlined, sources_of}
use Rattle.composite_tables.specs.Inputs.{AreKept}
use Rattle.composite_tables.specs.steps.Reading.{list_left, most_names, size_left}
use Rattle.composite_tables.proofs.sources.sources_at.Given as goal

abbrev pub invariant-loop-reading : goal.invariant-loop-reading
invariant-loop-reading l = (xs : List Inlined) → AreKept l.composites.unit.now l.bodies l.rows xs
    → l.sources ++ list_left xs l.readings.items ≡ flat_map (λ n. sources_of xs l.number n.what) l.names

abbrev pub decreases-loop-reading : goal.decreases-loop-reading
decreases-loop-reading l = size_left (most_names l.composites.unit.now + 2) l.readings.items
