use Rattle.std.proofs.Common.{◌≡◌, ◌++◌, ◌-◌}
use Rattle.pe_fusion.specs.FusedNets.{channel_links}
use Rattle.pe_fusion.proofs.links.add_channels.Given as goal

abbrev pub invariant-loop-channel : goal.invariant-loop-channel
invariant-loop-channel l =
    l.links ++ channel_links l.splitter l.channel (l.width - l.channel) ≡ l.fn.links ++ channel_links l.splitter 0 l.width
