use Rattle.std.proofs.Common.{◌+◌, ◌-◌, ◌++◌, ◌∷◌, [], ◌∙◌, List, ℕ, ap, append_assoc, sym}
use Rattle.network_model.specs.Networks.{Link}
use Rattle.pe_fusion.specs.FusedNets.{merger_links}
use Rattle.pe_fusion.proofs.Loops.{merges-next}
use Rattle.pe_fusion.proofs.links.add_merges.Goals as goal

pub loop-channel-preserved : goal.loop-channel-preserved
loop-channel-preserved c =
    let n : ℕ = c.loop-channel.channel in
    let rest : List Link = merger_links (c.args.first + (n + 1)) (n + 1) (c.args.width - (n + 1)) in
    ap (λ (ls : List Link). ls ++ rest) c.in_ok-push.ensures.ok
    ∙ append_assoc c.loop-channel.links (record { from = c.args.first + n; output = 0; to = c.args.first + c.args.width; input = n } ∷ []) rest
    ∙ ap (λ (ls : List Link). c.loop-channel.links ++ ls) (sym (merges-next c.args.first n c.args.width c.loop-channel-test.true))
    ∙ c.loop-channel.invariant
