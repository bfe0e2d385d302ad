use Rattle.std.proofs.Common.{◌≡◌}
use Rattle.channel_heads.specs.Held.{width_of}
use Rattle.merger_works.proofs.Giving.{Giving, heads_in}
use Rattle.merger_works.proofs.run.run_merger.Given as goal

abbrev pub invariant-items : goal.invariant-items
invariant-items g l = Giving g.M.Merge.held g.M.Merge.stands g.M.Merge.rule l.fn.merger l.fans l.fn.channel l.fn.packet l.merger l.initial.outbox l.outbox l.fn.how l.how
    × (width_of (g.M.Merge.held l.merger) ≡ width_of (g.M.Merge.held l.fn.merger))

abbrev pub decreases-items : goal.decreases-items
decreases-items g l = heads_in (g.M.Merge.held l.merger).heads
