use Rattle.std.proofs.Common.{◌≡◌, ◌+◌, drop}
use Rattle.std.specs.Option.{option_map}
use Rattle.spl_tree.specs.Tokens.{comment_length}
use Rattle.spl_lexer.proofs.Ends.{close_behind}
use Rattle.spl_lexer.proofs.lengths.comment_length.Given as goal

abbrev pub invariant-loop-i : goal.invariant-loop-i
invariant-loop-i l = option_map (λ n. n + l.i) (close_behind l.star (drop l.i l.bytes)) ≡ comment_length l.bytes
