use Rattle.spl_value.specs.declared.item.Item.TheVariants as I
use Rattle.op_kit.proofs.Events.{asks, final_not, may_final, replies_fit, replies_plain, stands_plain}
use Rattle.op_kit.proofs.operator.calls.OperatorReact.on_item.Goals as goal

pub on_port-requires : goal.on_port-requires
on_port-requires c = asks _ _ c.requires.0 c.args.input c.port-port.result c.args.item _ _ _ _ c.ports_law.ensures.ends c.requires.1 c.requires.2 c.port-port.ensures

pub returns-in-Final-clause-fits : goal.returns-in-Final-clause-fits
returns-in-Final-clause-fits c =
    let may = may_final _ c.requires.0 c.args.input c.args.item c.in-Final.is c.requires.2 in
    replies_fit _ _ c.requires.0 c.args.input I.Final _ _ _ _ c.on_final.result c.fits_law.ensures.reacts c.requires.1 may (c.on_final.ensures.replies c.requires.0 c.requires.1 may)

pub returns-in_default-clause-replies : goal.returns-in_default-clause-replies
returns-in_default-clause-replies c h stands may =
    replies_plain _ _ h c.args.input c.port-port.result c.args.item _ _ _ _ c.on_port.result c.ports_law.ensures.ends stands may c.port-port.ensures
    (final_not c.args.item c.in_default.not-Final) c.on_port.ensures.replies

pub returns-in_default-clause-stands : goal.returns-in_default-clause-stands
returns-in_default-clause-stands c h stands may taken =
    stands_plain _ _ _ _ h c.args.input c.port-port.result c.args.item _ _ _ _ c.on_port.result c.ports_law.ensures.ends c.on_port.ensures.same stands may c.port-port.ensures
    (final_not c.args.item c.in_default.not-Final) c.on_port.ensures.stands taken
