use Rattle.std.proofs.Common.{◌≡◌, drop}
use Rattle.std.specs.Prelude.{find}
use Rattle.std.specs.Str.{bytes_eq}
use Rattle.spl_tree.specs.Words.{keyword_word}
use Rattle.spl_lexer.proofs.words.find_keyword.Given as goal

abbrev pub invariant-loop-keyword : goal.invariant-loop-keyword
invariant-loop-keyword l =
    find (λ k. bytes_eq (keyword_word k) l.word) (drop l.keyword-index l.keywords) ≡ find (λ k. bytes_eq (keyword_word k) l.word) l.keywords
