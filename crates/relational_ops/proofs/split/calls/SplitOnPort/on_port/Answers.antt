use Rattle.std.proofs.Common.{ap}
use Rattle.stream_model.specs.CheckedMeaning.{operator_with}
use Rattle.stream_model.specs.React.{answer, makes_by}
use Rattle.port_reacts.proofs.Replying.{outs_fit, replies_by}
use Rattle.relational_ops.proofs.Fits.{split_fit, split_outs}
use Rattle.relational_ops.proofs.split.calls.SplitOnPort.on_port.Goals as goal

pub on_item-requires-clause-fit : goal.on_item-requires-clause-fit
on_item-requires-clause-fit c =
    let s = c.args.self.now in
    let may = c.requires.2 in
    split_fit (operator_with s.at.checked.now s.at.number s.at.op.now s.at.part.now) c.args.port c.args.item s.index.now may.fitting c.requires.1.0 may.has

pub on_item-requires-clause-some : goal.on_item-requires-clause-some
on_item-requires-clause-some c =
    let s = c.args.self.now in
    split_outs (operator_with s.at.checked.now s.at.number s.at.op.now s.at.part.now) s.index.now c.requires.2.fitting c.requires.1.0

pub returns-clause-replies : goal.returns-clause-replies
returns-clause-replies c h stands may =
    let s = c.args.self.now in
    let op = operator_with s.at.checked.now s.at.number s.at.op.now s.at.part.now in
    replies_by op h c.args.port c.args.item c.on_item.result _
    (ap (λ part. answer (makes_by part op h c.args.port c.args.item)) stands.0) c.on_item.ensures.replies

pub returns-clause-fits : goal.returns-clause-fits
returns-clause-fits c =
    let s = c.args.self.now in
    outs_fit (operator_with s.at.checked.now s.at.number s.at.op.now s.at.part.now) c.requires.0 c.args.port c.args.item c.on_item.result c.fits_law.ensures.makes c.requires.2
    (returns-clause-replies c c.requires.0 c.requires.1 c.requires.2)
