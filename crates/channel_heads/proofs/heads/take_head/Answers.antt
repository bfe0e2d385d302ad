use Rattle.std.proofs.Common.{◌≡◌, length, refl, sym, ap, slice_get, Some, None, ◌∙◌}
use Rattle.std.proofs.lemmas.Option.{slice_get_read}
use Rattle.channel_heads.proofs.HeadLists.{set-same}
use Rattle.channel_heads.proofs.heads.take_head.Goals as goal

pub returns-in-None : goal.returns-in-None
returns-in-None c =
    let read = slice_get_read c.args.heads.now (length c.args.heads.now) c.args.channel c.index-heads-channel.result refl c.requires c.index-heads-channel.is in
    let was : c.index-heads-channel.result ≡ None = cc in
    let here : slice_get c.args.heads.now c.args.channel ≡ Some None = read ∙ ap Some was in
    (here, set-same c.args.heads.now c.args.channel c.take.new.self (here ∙ ap Some (sym c.take.ensures.after)))
