use Rattle.std.proofs.Common.{◌∙◌, sym}
use Rattle.stream_numbering.specs.steps.SiteTable.{number_at}
use Rattle.stream_numbering.proofs.InvokedSites.{added}
use Rattle.stream_numbering.proofs.sites.Sites.add.Goals as goal

pub returns-in_ok-insert : goal.returns-in_ok-insert
returns-in_ok-insert c =
    added (number_at c.args.self.now) (number_at (record { numbers = c.insert.new.self })) c.args.site c.args.number
    (λ q. c.in_ok-insert.ensures.updates.0 (q.expansion, q.invocation)) (sym c.contains_key.ensures ∙ c.if-not-contains_key.true)
