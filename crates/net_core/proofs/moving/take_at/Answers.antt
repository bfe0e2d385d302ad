use Rattle.std.proofs.Common.{◌∙◌, arith, subst, sym}
use Rattle.network_model.specs.Receipts.{Popped}
use Rattle.network_model.specs.States.{lacks, takes}
use Rattle.elements.specs.Standing.{MayTake}
use Rattle.net_core.proofs.Putting.{elements_put}
use Rattle.net_core.proofs.moving.take_at.Goals as goal

pub item_mut-taker-requires : goal.item_mut-taker-requires
item_mut-taker-requires g c = omega (arith, c.requires.at.1.count, c.requires.at.2)

pub take-requires : goal.take-requires
take-requires g c =
    let m = c.requires.at.0 in
    let e = c.args.element in
    let x = c.requires.at.1.each e c.item_mut-taker.result.now c.item_mut-taker.ensures.item in
    record {
      may = (
        m.net.part e,
        m.state e,
        m.poured e,
        x.at,
        subst (λ s. MayTake s (m.net.part e) (m.state e) c.args.input c.args.packet) (sym x.schemas) c.requires.at.3,
      );
    }

pub returns-in-Ok : goal.returns-in-Ok
returns-in-Ok g c m k lt may =
    let e = c.args.element in
    let x = k.each e c.item_mut-taker.result.now c.item_mut-taker.ensures.item in
    elements_put g.R.React.spec g.R.React.stands m c.args.elements.now e c.take.new.self (takes (m.net.part e) (m.state e) (Popped c.args.input c.args.packet)) k lt
    (c.in-Ok.ensures.takes (m.net.part e) (m.state e) (m.poured e) x.at
    (subst (λ s. MayTake s (m.net.part e) (m.state e) c.args.input c.args.packet) (sym x.schemas) may)) (c.in-Ok.ensures.schemas ∙ x.schemas)

pub returns-in-Err : goal.returns-in-Err
returns-in-Err g c m k lt may =
    let e = c.args.element in
    let x = k.each e c.item_mut-taker.result.now c.item_mut-taker.ensures.item in
    elements_put g.R.React.spec g.R.React.stands m c.args.elements.now e c.cut.new.self (lacks (m.net.part e) (m.state e) (Popped c.args.input c.args.packet)) k lt
    (c.cut.ensures.cuts (m.net.part e) _ (m.poured e) (c.in-Err.ensures.lacks (m.net.part e) (m.state e) (m.poured e) x.at
    (subst (λ s. MayTake s (m.net.part e) (m.state e) c.args.input c.args.packet) (sym x.schemas) may)))
    (c.cut.ensures.schemas ∙ (c.in-Err.ensures.schemas ∙ x.schemas))
