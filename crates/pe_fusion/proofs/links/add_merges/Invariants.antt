use Rattle.std.proofs.Common.{◌≡◌, ◌+◌, ◌++◌, ◌-◌}
use Rattle.pe_fusion.specs.FusedNets.{merger_links}
use Rattle.pe_fusion.proofs.links.add_merges.Given as goal

abbrev pub invariant-loop-channel : goal.invariant-loop-channel
invariant-loop-channel l =
    l.links ++ merger_links (l.first + l.channel) l.channel (l.width - l.channel) ≡ l.fn.links ++ merger_links l.first 0 l.width
