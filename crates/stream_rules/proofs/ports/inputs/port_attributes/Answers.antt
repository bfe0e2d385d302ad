use Rattle.std.proofs.Common.{Err, Ok, length, subst, sym}
use Rattle.language_model.specs.StreamTypes.{Attributes, are_alike, each_name, input_heads, name_places}
use Rattle.language_model.specs.Typing.{Found, after}
use Rattle.language_model.specs.Finds.{Finds}
use Rattle.stream_rules.specs.steps.Among.{graph_of, unit_of}
use Rattle.body_sites.specs.Bodies.{body_seen}
use Rattle.stream_rules.proofs.AlikeStreams.{port_is}
use Rattle.stream_rules.proofs.ports.inputs.port_attributes.Goals as goal
use Rattle.language_model.proofs.FoundAnswers.{fails, finds_by, stops}

pub returns-in_err-are_alike : goal.returns-in_err-are_alike
returns-in_err-are_alike c =
    let unit = unit_of c.args.streams.now in
    let g = graph_of c.args.streams.now in
    let b = body_seen c.args.body.now in
    let P : Attributes → Type 0 = λ schema. Finds (are_alike unit g schema (name_places b c.args.port.now) c.args.row.now) (Err c.in_err-are_alike.field-0.0) in
    let k : Unit {0} → Found Attributes = λ u. after (each_name (input_heads (length g.expansions) unit g c.in_ok-schema.schema b) c.args.port.now.streams) (λ v. Ok c.in_ok-schema.schema) in
    fails _ _ _ c.from_residual-in_err-are_alike.ensures.1
    (finds_by _ (after (are_alike unit g c.in_ok-schema.schema (name_places b c.args.port.now) c.args.row.now) k) (Err c.in_err-are_alike.field-0.0) (port_is unit g c.in_ok-schema.schema b c.args.port.now c.args.row.now c.in-Some.first.now (sym c.in-Some.ensures.value) c.in_ok-schema.ensures)
    (stops (are_alike unit g c.in_ok-schema.schema (name_places b c.args.port.now) c.args.row.now) k c.in_err-are_alike.field-0.0 (subst P c.as_slice.ensures c.in_err-are_alike.ensures)))
