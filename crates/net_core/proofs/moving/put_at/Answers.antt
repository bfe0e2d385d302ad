use Rattle.std.proofs.Common.{◌∙◌, arith}
use Rattle.net_core.proofs.Putting.{put_option}
use Rattle.net_core.proofs.moving.put_at.Goals as goal

pub item_mut-requires : goal.item_mut-requires
item_mut-requires g c = omega (arith, c.requires.at.1.count, c.requires.at.2)

pub put-requires : goal.put-requires
put-requires g c =
    let m = c.requires.at.0 in
    let e = c.args.element in
    record { may = (m.net.part e, m.state e, m.poured e, (c.requires.at.1.each e c.item_mut.result.now c.item_mut.ensures.item).at) }

pub returns : goal.returns
returns g c m k lt =
    let e = c.args.element in
    let x = k.each e c.item_mut.result.now c.item_mut.ensures.item in
    put_option g.R.React.spec g.R.React.stands m c.args.elements.now e c.put.new.self k lt (c.put.ensures.schemas ∙ x.schemas) c.put.result
    (c.put.ensures.puts (m.net.part e) (m.state e) (m.poured e) x.at)
