use Rattle.std.proofs.Common.{◌∙◌, arith}
use Rattle.network_model.specs.Receipts.{WasRead}
use Rattle.network_model.specs.States.{lacks, takes}
use Rattle.net_core.proofs.Putting.{elements_put}
use Rattle.net_core.proofs.moving.read_at.Goals as goal

pub item_mut-reader-requires : goal.item_mut-reader-requires
item_mut-reader-requires g c = omega (arith, c.requires.at.1.count, c.requires.at.2)

pub read-requires : goal.read-requires
read-requires g c =
    let m = c.requires.at.0 in
    let e = c.args.element in
    record { may = (m.net.part e, m.state e, m.poured e, (c.requires.at.1.each e c.item_mut-reader.result.now c.item_mut-reader.ensures.item).at, c.requires.at.3) }

pub returns-in-Ok : goal.returns-in-Ok
returns-in-Ok g c m k lt may =
    let e = c.args.element in
    let x = k.each e c.item_mut-reader.result.now c.item_mut-reader.ensures.item in
    elements_put g.R.React.spec g.R.React.stands m c.args.elements.now e c.read.new.self (takes (m.net.part e) (m.state e) (WasRead c.args.item)) k lt
    (c.in-Ok.ensures.reads (m.net.part e) (m.state e) (m.poured e) x.at may) (c.in-Ok.ensures.schemas ∙ x.schemas)

pub returns-in-Err : goal.returns-in-Err
returns-in-Err g c m k lt may =
    let e = c.args.element in
    let x = k.each e c.item_mut-reader.result.now c.item_mut-reader.ensures.item in
    elements_put g.R.React.spec g.R.React.stands m c.args.elements.now e c.cut.new.self (lacks (m.net.part e) (m.state e) (WasRead c.args.item)) k lt
    (c.cut.ensures.cuts (m.net.part e) _ (m.poured e) (c.in-Err.ensures.lacks (m.net.part e) (m.state e) (m.poured e) x.at))
    (c.cut.ensures.schemas ∙ (c.in-Err.ensures.schemas ∙ x.schemas))
