use Rattle.std.proofs.Common.{◌≡◌, drop, false}
use Rattle.txt_format.specs.steps.Reading.{read_inside}
use Rattle.txt_format.proofs.texts.add_inside.Given as goal

abbrev pub invariant-bytes : goal.invariant-bytes
invariant-bytes l = read_inside l.slash l.text.items (drop l.i l.line) ≡ read_inside false l.fn.text.items (drop l.at l.line)
