use Rattle.std.proofs.Common.{◌≡◌, suc, Err, ◌∙◌, arith}
use Rattle.stream_rules.specs.steps.Among.{graph_of, unit_of}
use Rattle.body_sites.specs.Bodies.{body_seen}
use Rattle.stream_rules.proofs.PortHeads.{outwards_end, outwards_fails, outwards_on}
use Rattle.language_model.proofs.FoundAnswers.{fails, finds_by}
use Rattle.stream_rules.proofs.ports.outputs.heads_around.Goals as goal

pub outwards-preserved : goal.outwards-preserved
outwards-preserved c =
    let less : c.outwards.left ≡ suc c.in-Some.fewer = omega (arith, c.in-Some.ensures) in
    c.outwards.invariant
    ∙ outwards_on (unit_of c.args.streams.now) (graph_of c.args.streams.now) c.args.schema.now (body_seen c.outwards.at.body) c.outwards.at.output.now c.outwards.left c.in-Some.fewer
    c.as_slice-name.result.now c.in-Some-2.next c.in_ok-next.field-0 less c.as_slice-name.ensures c.in_ok-shape_matches.ensures c.in-Some-2.is c.in_ok-next.ensures

pub returns-in_err-next : goal.returns-in_err-next
returns-in_err-next c =
    let less : c.outwards.left ≡ suc c.in-Some.fewer = omega (arith, c.in-Some.ensures) in
    fails _ _ _ c.from_residual-in_err-next.ensures.1
    (finds_by _ _ (Err c.in_err-next.field-0.0) c.outwards.invariant
    (outwards_fails (unit_of c.args.streams.now) (graph_of c.args.streams.now) c.args.schema.now (body_seen c.outwards.at.body) c.outwards.at.output.now c.outwards.left c.in-Some.fewer
    c.as_slice-name.result.now _ less c.as_slice-name.ensures c.in_ok-shape_matches.ensures c.in_err-next.ensures))

pub returns-in_default-2 : goal.returns-in_default-2
returns-in_default-2 c =
    let less : c.outwards.left ≡ suc c.in-Some.fewer = omega (arith, c.in-Some.ensures) in
    c.outwards.invariant
    ∙ outwards_end (unit_of c.args.streams.now) (graph_of c.args.streams.now) c.args.schema.now (body_seen c.outwards.at.body) c.outwards.at.output.now c.outwards.left c.in-Some.fewer
    c.as_slice-name.result.now c.in_ok-next.field-0 less c.as_slice-name.ensures c.in_ok-shape_matches.ensures c.in_default-2.is c.in_ok-next.ensures
