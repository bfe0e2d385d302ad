use Rattle.std.proofs.Common.{◌≡◌, ◌++◌, take}
use Rattle.arrival_format.specs.ArrivalTexts.{inputs_text}
use Rattle.arrival_format.proofs.writing.add_inputs.Given as goal

abbrev pub invariant-loop-input : goal.invariant-loop-input
invariant-loop-input l = l.text.items ≡ l.fn.text.items ++ inputs_text (take l.input-index l.inputs)
