use Rattle.join_op.proofs.Joining.{left_fits, left_may, left_replies, left_stands, right_fits, right_may, right_replies, right_stands, second_port}
use Rattle.join_op.proofs.join.calls.JoinOnPort.on_port.Goals as goal

pub on_item-requires-clause-fit : goal.on_item-requires-clause-fit
on_item-requires-clause-fit c =
    let s = c.args.self.now in
    left_may s.clauses s.left s.right s.env c.requires.0 c.args.port c.args.item c.requires.1 c.requires.2 c.if-port-eq0.true

pub on_item-requires-else-port-eq0-clause-fit : goal.on_item-requires-else-port-eq0-clause-fit
on_item-requires-else-port-eq0-clause-fit c =
    let s = c.args.self.now in
    right_may s.clauses s.left s.right s.env c.requires.0 c.args.port c.args.item c.requires.1 c.requires.2
    (second_port s.clauses s.left s.right s.env c.requires.0 c.args.port c.args.item c.requires.1 c.requires.2 c.if-port-eq0.false)

pub returns-then-port-eq0-clause-replies : goal.returns-then-port-eq0-clause-replies
returns-then-port-eq0-clause-replies c h stood may =
    let s = c.args.self.now in
    left_replies s.clauses s.left s.right s.env h c.args.port c.args.item stood may c.on_item.result c.if-port-eq0.true c.on_item.ensures.replies

pub returns-then-port-eq0-clause-stands : goal.returns-then-port-eq0-clause-stands
returns-then-port-eq0-clause-stands c h stood may taken =
    let s = c.args.self.now in
    left_stands s.clauses s.left s.right s.env h c.args.port c.args.item stood may c.on_item.new.own c.on_item.new.env c.on_item.result c.if-port-eq0.true c.on_item.ensures.replies
    taken c.on_item.ensures.stands c.on_item.ensures.ready

pub returns-then-port-eq0-clause-fits : goal.returns-then-port-eq0-clause-fits
returns-then-port-eq0-clause-fits c =
    let s = c.args.self.now in
    left_fits s.clauses s.left s.right s.env c.requires.0 c.args.port c.args.item c.requires.1 c.requires.2 c.fits_law.ensures.makes c.on_item.result c.if-port-eq0.true
    c.on_item.ensures.replies

pub returns-else-port-eq0-clause-replies : goal.returns-else-port-eq0-clause-replies
returns-else-port-eq0-clause-replies c h stood may =
    let s = c.args.self.now in
    right_replies s.clauses s.left s.right s.env h c.args.port c.args.item stood may c.on_item-else-port-eq0.result
    (second_port s.clauses s.left s.right s.env h c.args.port c.args.item stood may c.if-port-eq0.false) c.on_item-else-port-eq0.ensures.replies

pub returns-else-port-eq0-clause-stands : goal.returns-else-port-eq0-clause-stands
returns-else-port-eq0-clause-stands c h stood may taken =
    let s = c.args.self.now in
    right_stands s.clauses s.left s.right s.env h c.args.port c.args.item stood may c.on_item-else-port-eq0.new.own c.on_item-else-port-eq0.new.env c.on_item-else-port-eq0.result
    (second_port s.clauses s.left s.right s.env h c.args.port c.args.item stood may c.if-port-eq0.false) c.on_item-else-port-eq0.ensures.replies taken
    c.on_item-else-port-eq0.ensures.stands c.on_item-else-port-eq0.ensures.ready

pub returns-else-port-eq0-clause-fits : goal.returns-else-port-eq0-clause-fits
returns-else-port-eq0-clause-fits c =
    let s = c.args.self.now in
    right_fits s.clauses s.left s.right s.env c.requires.0 c.args.port c.args.item c.requires.1 c.requires.2 c.fits_law.ensures.makes c.on_item-else-port-eq0.result
    (second_port s.clauses s.left s.right s.env c.requires.0 c.args.port c.args.item c.requires.1 c.requires.2 c.if-port-eq0.false) c.on_item-else-port-eq0.ensures.replies
