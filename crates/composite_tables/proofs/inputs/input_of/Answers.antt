use Rattle.std.proofs.Common.{arith}
use Rattle.composite_tables.proofs.Counting.{handed_on, of_port}
use Rattle.composite_tables.proofs.inputs.input_of.Goals as goal

pub returns-in-Some : goal.returns-in-Some
returns-in-Some c = λ xs is names.
    handed_on xs c.args.site.expansion c.args.names.now c.name-item.result c.in-Some.input (omega arith) (omega arith) c.name-item.is (c.in-Some.ensures xs is)

pub returns : goal.returns
returns c = λ xs is names. of_port xs c.args.site c.args.port c.args.names.now c.count_of-all.result names (c.count_of-all.ensures xs is)
