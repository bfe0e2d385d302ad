use Rattle.std.proofs.Common.{◌≡◌, suc, length, arith}
use Rattle.stream_rules.specs.steps.Among.{graph_of, unit_of}
use Rattle.body_sites.specs.Bodies.{body_seen}
use Rattle.stream_rules.proofs.PortHeads.{outside_fails, outside_first, outside_none}
use Rattle.stream_rules.proofs.ports.outputs.heads.Goals as goal
use Rattle.language_model.proofs.FoundAnswers.{fails, finds_by}

pub returns-in_err-origin : goal.returns-in_err-origin
returns-in_err-origin c =
    let less : length (graph_of c.args.streams.now).expansions ≡ suc c.in-Some.fewer = omega (arith, c.in-Some.ensures) in
    fails _ _ _ c.from_residual.ensures.1
    (outside_fails (unit_of c.args.streams.now) (graph_of c.args.streams.now) c.args.schema.now (body_seen c.args.body.now) _ c.in-Some.fewer c.args.name.now _ less c.in_err-origin.ensures)

pub returns-in-Some-2 : goal.returns-in-Some-2
returns-in-Some-2 c =
    let less : length (graph_of c.args.streams.now).expansions ≡ suc c.in-Some.fewer = omega (arith, c.in-Some.ensures) in
    finds_by _ _ _
    (outside_first (unit_of c.args.streams.now) (graph_of c.args.streams.now) c.args.schema.now (body_seen c.args.body.now) _ c.in-Some.fewer c.args.name.now c.in-Some-2.origin c.in_ok-origin.field-0
    less c.in-Some-2.is c.in_ok-origin.ensures) c.heads_around.ensures

pub returns-in-None : goal.returns-in-None
returns-in-None c =
    let less : length (graph_of c.args.streams.now).expansions ≡ suc c.in-Some.fewer = omega (arith, c.in-Some.ensures) in
    outside_none (unit_of c.args.streams.now) (graph_of c.args.streams.now) c.args.schema.now (body_seen c.args.body.now) _ c.in-Some.fewer c.args.name.now c.in_ok-origin.field-0
    less c.in-None.is c.in_ok-origin.ensures
