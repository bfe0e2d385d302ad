use Rattle.std.proofs.Common.{◌≡◌, false, take}
use Rattle.std.specs.List.{list_any}
use Rattle.language_model.proofs.parts.Operators.{is_equal}
use Rattle.value_operations.proofs.operators.is_in.Given as goal

abbrev pub invariant-elements : goal.invariant-elements
invariant-elements l = list_any (is_equal l.value) (take l.element-index l.element-items) ≡ false
