-- The graph of each program, and its checked graph.
use Rattle.std.specs.Prelude.{◌≡◌, [], true, Ok}
use Rattle.std.proofs.Common.{refl}
use Rattle.language_model.specs.Checking.{checked}
use Rattle.language_model.specs.Flat.{IsFlat}
use Rattle.language_model.specs.Recursion.{calls_among, function_callers}
use Rattle.language_model.specs.Scopes.{at_place}
use Rattle.language_model.specs.examples.FlatGraphs.{only_composite}
use Rattle.checked_literals.specs.examples.Composed.{main, composed, composed_graph, composed_checked}
use Rattle.checked_literals.specs.examples.Counted.{counted, counted_graph, counted_checked}
use Rattle.checked_literals.specs.examples.Filtered.{filtered, filtered_graph, filtered_checked}
use Rattle.checked_literals.specs.examples.Joined.{joined, joined_graph, joined_checked}
use Rattle.checked_literals.specs.examples.Parted.{parted, parted_graph, parted_checked}
use Rattle.checked_literals.specs.examples.Summed.{summed, summed_graph, summed_checked}
use Rattle.checked_literals.proofs.Falling.{fall_from, not_recursive}
use Rattle.checked_literals.proofs.Flattened.{flat_as}
use Rattle.checked_literals.proofs.Rules.{computing}
use Rattle.checked_literals.proofs.Texts.{text_laws}

pub filter_is_flat : IsFlat filtered [] (Ok filtered_graph)
filter_is_flat = flat_as filtered (only_composite filtered) filtered_graph (refl, refl) (not_recursive filtered refl refl) (simp computing) (simp computing)

pub filter_is_checked : checked filtered filtered_graph ≡ Ok filtered_checked
filter_is_checked = simp (computing, text_laws)

pub custom_is_flat : IsFlat counted [] (Ok counted_graph)
custom_is_flat = flat_as counted (only_composite counted) counted_graph (refl, refl) (not_recursive counted refl refl) (simp computing) (simp computing)

pub custom_is_checked : checked counted counted_graph ≡ Ok counted_checked
custom_is_checked = simp (computing, text_laws)

pub aggregate_is_flat : IsFlat summed [] (Ok summed_graph)
aggregate_is_flat = flat_as summed (only_composite summed) summed_graph (refl, refl) (not_recursive summed refl refl) (simp computing) (simp computing)

pub aggregate_is_checked : checked summed summed_graph ≡ Ok summed_checked
aggregate_is_checked = simp (computing, text_laws)

pub join_is_flat : IsFlat joined [] (Ok joined_graph)
join_is_flat = flat_as joined (only_composite joined) joined_graph (refl, refl) (not_recursive joined refl refl) (simp computing) (simp computing)

pub join_is_checked : checked joined joined_graph ≡ Ok joined_checked
join_is_checked = simp (computing, text_laws)

functions_fall : fall_from 0 (calls_among (function_callers composed)) ≡ true
functions_fall = simp computing

pub composite_is_flat : IsFlat composed [] (Ok composed_graph)
composite_is_flat = flat_as composed (at_place 1 main) composed_graph (refl, refl) (not_recursive composed functions_fall refl) (simp computing) (simp computing)

pub composite_is_checked : checked composed composed_graph ≡ Ok composed_checked
composite_is_checked = simp (computing, text_laws)

pub ports_are_flat : IsFlat parted [] (Ok parted_graph)
ports_are_flat = flat_as parted (only_composite parted) parted_graph (refl, refl) (not_recursive parted refl refl) (simp computing) (simp computing)

pub ports_are_checked : checked parted parted_graph ≡ Ok parted_checked
ports_are_checked = simp (computing, text_laws)
