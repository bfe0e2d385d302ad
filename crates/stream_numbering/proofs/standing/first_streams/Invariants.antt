use Rattle.std.proofs.Common.{◌≡◌, drop}
use Rattle.std.specs.Option.{option_or}
use Rattle.spl_tree.specs.declared.graph.Site.{Site}
use Rattle.stream_numbering.specs.steps.SiteTable.{number_at, first_at}
use Rattle.stream_numbering.proofs.standing.first_streams.Given as goal

abbrev pub invariant-loop-operation : goal.invariant-loop-operation
invariant-loop-operation l =
    (q : Site) → option_or (number_at l.sites q) (first_at l.first (drop l.operation-index l.operations) q) ≡ first_at 0 l.operations q
