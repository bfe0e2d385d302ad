use Rattle.std.proofs.Common.{◌≡◌, ◌+◌, drop, false}
use Rattle.std.specs.Option.{option_map}
use Rattle.spl_lexer.specs.steps.Scanning.{text_length}
use Rattle.spl_lexer.proofs.lengths.text_length.Given as goal

abbrev pub invariant-loop-i : goal.invariant-loop-i
invariant-loop-i l = option_map (λ n. n + l.i) (text_length l.quote l.escaped (drop l.i l.bytes)) ≡ text_length l.quote false l.bytes
