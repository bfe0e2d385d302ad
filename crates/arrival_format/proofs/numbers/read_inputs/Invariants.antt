use Rattle.std.specs.List.{AllByRecursion}
use Rattle.std.proofs.Common.{◌≡◌, ◌<◌, ◌++◌, length}
use Rattle.arrival_format.specs.ArrivalTexts.{inputs_text}
use Rattle.arrival_format.specs.steps.Steps.{NoDigitFirst}
use Rattle.arrival_format.proofs.numbers.read_inputs.Given as goal

abbrev pub decreases-inputs : goal.decreases-inputs
decreases-inputs l = length l.rest

abbrev pub invariant-inputs : goal.invariant-inputs
invariant-inputs l = record {
  below : AllByRecursion (λ i. i < l.bound) l.inputs;
  text : l.bytes ≡ inputs_text l.inputs ++ l.rest;
  ended : 0 < length l.inputs → NoDigitFirst l.rest;
}
