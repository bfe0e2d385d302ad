use Rattle.std.proofs.Common.{◌≡◌, ◌-◌, ◌≤◌, length, drop}
use Rattle.spl_tree.specs.Tokens.{tokens_from, with_front}
use Rattle.spl_lexer.proofs.tokens.lex.Given as goal

abbrev pub invariant-loop-at : goal.invariant-loop-at
invariant-loop-at l = record {
  value : with_front l.list (tokens_from 0 l.at (drop l.at l.bytes)) ≡ tokens_from 0 0 l.bytes;
  within : l.at ≤ length l.bytes;
}

abbrev pub decreases-loop-at : goal.decreases-loop-at
decreases-loop-at l = length l.bytes - l.at
