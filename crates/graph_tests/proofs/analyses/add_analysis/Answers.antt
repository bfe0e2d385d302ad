use Rattle.std.proofs.Common.{ap, arith, length, subst, ◌<◌}
use Rattle.language_model.specs.CheckedGraph.{CheckedGraph}
use Rattle.language_model.specs.Keeping.{Keeps}
use Rattle.graph_tests.proofs.Numbers.{are_numbers}
use Rattle.graph_tests.proofs.analyses.add_analysis.Goals as goal

pub add_chain-requires : goal.add_chain-requires
add_chain-requires c =
    are_numbers c.args.checked.now (subst Keeps c.checked.view_is c.checked.invariant) c.in-Ok-numbers_below.chain (λ i n at.
    (let below : n < c.in-Ok.count = c.in-Ok-numbers_below.ensures i n at in
    let same = ap (λ (x : CheckedGraph). length x.parts) c.checked.view_is in
    omega arith))
