use Rattle.logic_rules.proofs.ByPorts.{marker_reached, tuple_reached}
use Rattle.logic_rules.proofs.by_port.by_ports.Goals as goal

pub handlers-preserved-in-Tuple : goal.handlers-preserved-in-Tuple
handlers-preserved-in-Tuple c =
    tuple_reached c.args.handled c.handlers.handled c.args.count c.handlers.on_tuple c.handlers.on_punct c.handlers.invariant
    c.pop.new.self c.in-Some.field-0 c.in-Some.ensures c.put_body.new.bodies c.in-Tuple.is c.put_body.ensures

pub handlers-preserved : goal.handlers-preserved
handlers-preserved c =
    marker_reached c.args.handled c.handlers.handled c.args.count c.handlers.on_tuple c.handlers.on_punct c.handlers.invariant
    c.pop.new.self c.in-Some.field-0 c.in-Some.ensures c.put_body-in-Punctuation.new.bodies c.in-Punctuation.is c.put_body-in-Punctuation.ensures
