use Rattle.std.proofs.Common.{ap, subst}
use Rattle.spl_value.specs.declared.item.Item.TheVariants as I
use Rattle.stream_model.specs.Bodies.{punctor_body}
use Rattle.stream_model.specs.CheckedMeaning.{operator_with}
use Rattle.stream_model.specs.Fitting.{HasPort}
use Rattle.stream_model.specs.React.{answer, makes_by}
use Rattle.port_reacts.proofs.Replying.{outs_fit, replies_by, tuple_replies}
use Rattle.relational_ops.proofs.Fits.{punctor_fit}
use Rattle.relational_ops.proofs.punctor.calls.PunctorOnPort.on_port.Goals as goal

pub on_tuple-requires-clause-fit : goal.on_tuple-requires-clause-fit
on_tuple-requires-clause-fit c =
    let s = c.args.self.now in
    let op = operator_with s.at.checked.now s.at.number s.at.op.now s.at.part.now in
    let may = c.requires.2 in
    let vs = c.in-Tuple.values in
    punctor_fit op c.args.port (I.Tuple vs) s.condition.now s.position may.fitting c.requires.1.0 (subst (HasPort op c.args.port) c.in-Tuple.is may.has)

pub returns-in-Tuple-clause-replies : goal.returns-in-Tuple-clause-replies
returns-in-Tuple-clause-replies c h stands may =
    let s = c.args.self.now in
    let op = operator_with s.at.checked.now s.at.number s.at.op.now s.at.part.now in
    let x = I.Tuple c.in-Tuple.values in
    tuple_replies op h c.args.port c.args.item c.in-Tuple.values c.on_tuple.result _ c.in-Tuple.is
    (ap (λ part. answer (makes_by part op h c.args.port x)) stands.0) c.on_tuple.ensures.replies

pub returns-in-Tuple-clause-fits : goal.returns-in-Tuple-clause-fits
returns-in-Tuple-clause-fits c =
    let s = c.args.self.now in
    outs_fit (operator_with s.at.checked.now s.at.number s.at.op.now s.at.part.now) c.requires.0 c.args.port c.args.item c.on_tuple.result c.fits_law.ensures.makes c.requires.2
    (returns-in-Tuple-clause-replies c c.requires.0 c.requires.1 c.requires.2)

pub passed-requires : goal.passed-requires
passed-requires c = c.in_default.not-Tuple

pub returns-in_default-clause-replies : goal.returns-in_default-clause-replies
returns-in_default-clause-replies c h stands may =
    let s = c.args.self.now in
    let op = operator_with s.at.checked.now s.at.number s.at.op.now s.at.part.now in
    let fs = op.functions in
    replies_by op h c.args.port c.args.item c.passed.result _ (ap (λ part. answer (makes_by part op h c.args.port c.args.item)) stands.0)
    (c.passed.ensures (λ vs. punctor_body fs s.condition.now s.position (I.Tuple vs)))

pub returns-in_default-clause-fits : goal.returns-in_default-clause-fits
returns-in_default-clause-fits c =
    let s = c.args.self.now in
    outs_fit (operator_with s.at.checked.now s.at.number s.at.op.now s.at.part.now) c.requires.0 c.args.port c.args.item c.passed.result c.fits_law.ensures.makes c.requires.2
    (returns-in_default-clause-replies c c.requires.0 c.requires.1 c.requires.2)
