use Rattle.std.proofs.Common.{◌≡◌, drop}
use Rattle.spl_tree.specs.Tokens.{unescaped}
use Rattle.spl_lexer.proofs.Escapes.{behind, to_come}
use Rattle.spl_lexer.proofs.texts.unescape.Given as goal

abbrev pub invariant-loop-i : goal.invariant-loop-i
invariant-loop-i l = behind l.text (to_come l.escaped l.i (drop l.i l.bytes)) ≡ unescaped 1 l.bytes
