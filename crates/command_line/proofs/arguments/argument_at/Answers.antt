use Rattle.std.proofs.Common.{◌≡◌, ◌∙◌, ◌+◌, ap, sym, drop}
use Rattle.std.specs.String.{string_bytes}
use Rattle.command_line.specs.Arguments.{valued, word_of, onto, texts, arguments}
use Rattle.command_line.specs.declared.arguments.Word.TheVariants.{Whole, Named}
use Rattle.command_line.proofs.Reading.{whole_at, valued_at}
use Rattle.command_line.proofs.arguments.argument_at.Goals as goal

pub returns-in-Whole-clause-value : goal.returns-in-Whole-clause-value
returns-in-Whole-clause-value c =
    let is : Whole c.in-Whole.argument ≡ word_of (string_bytes c.index-words-at.result) = sym c.in-Whole.is ∙ c.in_ok-argument.ensures ∙ ap word_of c.as_bytes.ensures.value in
    whole_at c.args.words.now c.args.at c.index-words-at.result c.in-Whole.argument c.requires c.index-words-at.is is

pub returns-clause-value : goal.returns-clause-value
returns-clause-value c =
    let is : Named c.in-Named.name ≡ word_of (string_bytes c.index-words-at.result) = sym c.in-Named.is ∙ c.in_ok-argument.ensures ∙ ap word_of c.as_bytes.ensures.value in
    let at = c.in-Some.ensures.lookup in
    let value : c.in_ok-valued-in-Some.field-0 ≡ valued c.in-Named.name (string_bytes c.in-Some.value.now) = cc (c.in_ok-valued-in-Some.ensures, c.as_bytes-in-Some.ensures.value, c.as_slice.ensures) in
    ap (λ found. onto found (arguments (drop (c.args.at + 2) (texts c.args.words.now)))) value
    ∙ valued_at c.args.words.now c.args.at c.index-words-at.result c.in-Some.value.now c.in-Named.name at.3.0 c.index-words-at.is at.1 is
