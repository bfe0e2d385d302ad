use Rattle.spl_lexer.proofs.Found.{keyword_found}
use Rattle.spl_lexer.proofs.words.word.Goals as goal

pub returns-in-Some : goal.returns-in-Some
returns-in-Some c =
    keyword_found c.args.bytes.now c.word_length-length.result c.in-Some.keyword c.requires c.word_length-length.ensures.value c.in-Some.ensures
