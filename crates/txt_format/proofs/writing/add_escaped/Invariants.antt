use Rattle.std.proofs.Common.{◌≡◌, ◌++◌, drop}
use Rattle.txt_format.specs.Escapes.{escaped}
use Rattle.txt_format.proofs.writing.add_escaped.Given as goal

abbrev pub invariant-loop-b : goal.invariant-loop-b
invariant-loop-b l = l.text.items ++ escaped (drop l.b-index l.bytes) ≡ l.fn.text.items ++ escaped l.bytes
