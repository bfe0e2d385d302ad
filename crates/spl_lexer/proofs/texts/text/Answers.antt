use Rattle.std.proofs.Common.{◌∙◌, Ok, Err, sym, ap}
use Rattle.spl_lexer.specs.steps.Scanning.{unescaped_of}
use Rattle.spl_lexer.proofs.Found.{text_found}
use Rattle.spl_lexer.proofs.texts.text.Goals as goal

pub returns-in-Bytes : goal.returns-in-Bytes
returns-in-Bytes c =
    text_found c.args.quote c.args.bytes.now c.in-Some.length (Ok c.in-Bytes.text) c.requires c.in-Some.ensures.value
    (ap unescaped_of (sym c.in-Bytes.is) ∙ c.in_ok-text.ensures)

pub returns-in-BadEscape : goal.returns-in-BadEscape
returns-in-BadEscape c =
    text_found c.args.quote c.args.bytes.now c.in-Some.length (Err c.in-BadEscape.at) c.requires c.in-Some.ensures.value
    (ap unescaped_of (sym c.in-BadEscape.is) ∙ c.in_ok-text.ensures)
