use Rattle.aggregate_op.proofs.Aggregating.{fits_there, idle_there, may_there, replies_there, stands_there}
use Rattle.aggregate_op.proofs.aggregate.calls.AggregateOnPort.on_port.Goals as goal

pub on_item-requires-clause-idle : goal.on_item-requires-clause-idle
on_item-requires-clause-idle c =
    let s = c.args.self.now in
    idle_there s.clauses s.kept s.env c.requires.0 c.args.port c.args.item c.fits_law.ensures.makes c.requires.1 c.requires.2

pub on_item-requires-clause-may : goal.on_item-requires-clause-may
on_item-requires-clause-may c =
    let s = c.args.self.now in
    may_there s.clauses s.kept s.env c.requires.0 c.args.port c.args.item c.fits_law.ensures.makes c.requires.1 c.requires.2

pub returns-clause-replies : goal.returns-clause-replies
returns-clause-replies c h stood may =
    let s = c.args.self.now in
    replies_there s.clauses s.kept s.env h c.args.port c.args.item c.fits_law.ensures.makes stood may c.on_item.result c.on_item.ensures.replies

pub returns-clause-stands : goal.returns-clause-stands
returns-clause-stands c h stood may taken =
    let s = c.args.self.now in
    stands_there s.clauses s.kept s.env h c.args.port c.args.item c.fits_law.ensures.makes stood may c.on_item.new.kept c.on_item.new.env c.on_item.result c.on_item.ensures.replies taken
    c.on_item.ensures.stands c.on_item.ensures.idle

pub returns-clause-fits : goal.returns-clause-fits
returns-clause-fits c =
    let s = c.args.self.now in
    fits_there s.clauses s.kept s.env c.requires.0 c.args.port c.args.item c.fits_law.ensures.makes c.requires.1 c.requires.2 c.on_item.result c.on_item.ensures.replies
