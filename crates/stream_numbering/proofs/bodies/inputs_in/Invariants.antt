use Rattle.std.proofs.Common.{◌≡◌, map, take}
use Rattle.stream_numbering.specs.steps.StreamTable.{input_in}
use Rattle.stream_numbering.proofs.bodies.inputs_in.Given as goal

abbrev pub invariant-loop-input : goal.invariant-loop-input
invariant-loop-input l = l.inputs ≡ map (input_in l.table) (take l.input-index l.row)
