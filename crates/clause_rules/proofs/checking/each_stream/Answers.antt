use Rattle.std.proofs.Common.{ap, sym, ◌∙◌}
use Rattle.language_model.specs.parts.Checking.{each_stream}
use Rattle.language_model.specs.Numbering.{numbers_from}
use Rattle.clause_rules.proofs.Streams.{stream_found, stream_stops}
use Rattle.clause_rules.proofs.checking.each_stream.Goals as goal
use Rattle.language_model.proofs.FoundAnswers.{fails}

pub returns-in_err-schema : goal.returns-in_err-schema
returns-in_err-schema c =
    let unit = c.args.sites.now.unit.now in
    let g = c.args.graph.now in
    fails _ _ c.in_err-schema.field-0.0 c.from_residual-in_err-schema.ensures.1
    (stream_stops unit g _ c.loop-stream.schemas c.loop-stream.stream c.in_ok-count.count c.loop-stream-test.true
    (ap (λ n. each_stream unit g (numbers_from 0 n)) (sym (c.in_ok-count.ensures ∙ c.len.ensures)) ∙ c.loop-stream.invariant)
    c.in_err-schema.field-0.0 (c.in_err-schema.ensures unit g c.requires))

pub loop-stream-preserved : goal.loop-stream-preserved
loop-stream-preserved c =
    let unit = c.args.sites.now.unit.now in
    let g = c.args.graph.now in
    stream_found unit g _ c.loop-stream.schemas c.loop-stream.stream c.in_ok-count.count c.loop-stream-test.true c.loop-stream.invariant
    c.in_ok-schema.schema c.push.new.self (c.in_ok-schema.ensures unit g c.requires) c.in_ok-push.ensures.ok
