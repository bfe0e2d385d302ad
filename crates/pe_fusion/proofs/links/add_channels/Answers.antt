use Rattle.std.proofs.Common.{◌+◌, ◌-◌, ◌++◌, ◌∷◌, [], ◌∙◌, List, ℕ, ap, append_assoc, sym}
use Rattle.network_model.specs.Networks.{Link}
use Rattle.pe_fusion.specs.FusedNets.{channel_links}
use Rattle.pe_fusion.proofs.Loops.{channels-next}
use Rattle.pe_fusion.proofs.links.add_channels.Goals as goal

pub loop-channel-preserved : goal.loop-channel-preserved
loop-channel-preserved c =
    let n : ℕ = c.loop-channel.channel in
    let rest : List Link = channel_links c.args.splitter (n + 1) (c.args.width - (n + 1)) in
    ap (λ (ls : List Link). ls ++ rest) c.in_ok-push.ensures.ok
    ∙ append_assoc c.loop-channel.links (record { from = c.args.splitter; output = n; to = c.args.splitter + 1 + n; input = 0 } ∷ []) rest
    ∙ ap (λ (ls : List Link). c.loop-channel.links ++ ls) (sym (channels-next c.args.splitter n c.args.width c.loop-channel-test.true))
    ∙ c.loop-channel.invariant
