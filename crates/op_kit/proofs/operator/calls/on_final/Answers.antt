use Rattle.op_kit.proofs.Events.{asks, asks_connections, few_outs, open_input, replies_end, replies_on, replies_waiting, stands_on, stands_waiting, taken_before}
use Rattle.op_kit.proofs.operator.calls.on_final.Goals as goal

pub close-requires : goal.close-requires
close-requires c = let r = c.requires.stands in asks_connections _ _ r.0 c.args.input _ _ _ _ _ r.1 r.2

pub on_port-requires : goal.on_port-requires
on_port-requires c = let r = c.requires.stands in asks _ _ r.0 c.args.input c.args.port _ _ _ _ _ c.ports_law.ensures.ends r.1 r.2 c.requires.port

pub on_port-reply-requires : goal.on_port-reply-requires
on_port-reply-requires c = let r = c.requires.stands in asks _ _ r.0 c.args.input c.args.port _ _ _ _ _ c.ports_law.ensures.ends r.1 r.2 c.requires.port

pub ended-requires : goal.ended-requires
ended-requires c = let r = c.requires.stands in few_outs _ _ r.0 _ _ _ _ r.1

pub returns-in-Waiting-clause-replies : goal.returns-in-Waiting-clause-replies
returns-in-Waiting-clause-replies c h stands may =
    replies_waiting _ _ h c.args.input _ _ _ _ c.given_none.result c.ports_law.ensures.waiting stands
    (c.in-Waiting.ensures.closes _ h stands.counts may.input (open_input _ h c.args.input _ may)) c.given_none.ensures

pub returns-in-Waiting-clause-stands : goal.returns-in-Waiting-clause-stands
returns-in-Waiting-clause-stands c h stands may taken =
    let was = open_input _ h c.args.input _ may in
    stands_waiting _ _ h c.args.input _ _ _ _ _ _ _ c.ports_law.ensures.waiting stands may (c.in-Waiting.ensures.closes _ h stands.counts may.input was)
    (c.in-Waiting.ensures.counts _ h stands.counts may.input was)

pub returns-in-Port-clause-replies : goal.returns-in-Port-clause-replies
returns-in-Port-clause-replies c h stands may =
    let closes = c.in-Port.ensures.closes _ h stands.counts may.input (open_input _ h c.args.input _ may) in
    replies_on _ _ h c.args.input c.args.port _ _ _ _ _ c.on_port.result c.ports_law.ensures.ends stands may c.requires.port closes.0 closes.1 c.on_port.ensures.replies

pub returns-in-Port-clause-stands : goal.returns-in-Port-clause-stands
returns-in-Port-clause-stands c h stands may taken =
    let was = open_input _ h c.args.input _ may in
    let closes = c.in-Port.ensures.closes _ h stands.counts may.input was in
    stands_on _ _ _ _ h c.args.input c.args.port _ _ _ _ _ _ _ _ c.on_port.result c.ports_law.ensures.ends c.on_port.ensures.same stands may c.requires.port closes.0
    (c.in-Port.ensures.counts _ h stands.counts may.input was) c.on_port.ensures.stands taken

pub returns-in-Operator-clause-replies : goal.returns-in-Operator-clause-replies
returns-in-Operator-clause-replies c h stands may =
    let closes = c.in-Operator.ensures.closes _ h stands.counts may.input (open_input _ h c.args.input _ may) in
    replies_end _ _ h c.args.input c.args.port _ _ _ _ c.on_port-reply.result c.ended.result c.ports_law.ensures.ends stands may c.requires.port closes.0 closes.1
    c.on_port-reply.ensures.replies c.ended.ensures

pub returns-in-Operator-clause-stands : goal.returns-in-Operator-clause-stands
returns-in-Operator-clause-stands c h stands may taken =
    let was = open_input _ h c.args.input _ may in
    let closes = c.in-Operator.ensures.closes _ h stands.counts may.input was in
    stands_on _ _ _ _ h c.args.input c.args.port _ _ _ _ _ _ _ _ c.on_port-reply.result c.ports_law.ensures.ends c.on_port-reply.ensures.same stands may c.requires.port closes.0
    (c.in-Operator.ensures.counts _ h stands.counts may.input was) c.on_port-reply.ensures.stands (taken_before c.args.operator.now.outputs c.on_port-reply.result c.ended.result c.ended.ensures taken)
