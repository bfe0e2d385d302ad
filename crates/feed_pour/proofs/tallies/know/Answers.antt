use Rattle.std.proofs.Common.{ap, List, ◌∙◌}
use Rattle.feed_pour.specs.declared.table.Entry.{Entry}
use Rattle.feed_pour.specs.declared.tallies.Tallies.{Tallies}
use Rattle.feed_pour.specs.Files.{counts_in}
use Rattle.feed_pour.proofs.Tables.{know_same}
use Rattle.feed_pour.proofs.tallies.know.Goals as goal

pub returns-clause-same : goal.returns-clause-same
returns-clause-same c = know_same c.put.result c.args.table.now.items _ c.args.name.now c.tallies_of-now.result c.put.ensures.ok c.put.ensures.err
    (c.tallies_of-now.ensures ∙ ap (λ (t : List (Entry Tallies)). counts_in t c.args.name.now) c.as_slice.ensures.value)
