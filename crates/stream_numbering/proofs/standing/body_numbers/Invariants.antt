use Rattle.std.proofs.Common.{◌≡◌, drop}
use Rattle.std.specs.Option.{option_or}
use Rattle.spl_tree.specs.declared.graph.Site.{Site}
use Rattle.stream_numbering.specs.steps.SiteTable.{number_at, body_at}
use Rattle.stream_numbering.proofs.standing.body_numbers.Given as goal

abbrev pub invariant-loop-body : goal.invariant-loop-body
invariant-loop-body l =
    (q : Site) → option_or (number_at l.sites q) (body_at l.number (drop l.body-index l.bodies) q) ≡ body_at 0 l.bodies q
