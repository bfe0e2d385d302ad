use Rattle.std.proofs.Common.{◌∙◌, ◌+◌, sym, ap}
use Rattle.std.proofs.lemmas.List.{take_rest}
use Rattle.spl_tree.specs.Bytes.{is_word_byte, begins}
use Rattle.spl_lexer.specs.steps.Scanning.{suffix_ahead}
use Rattle.spl_lexer.proofs.Found.{run_on_found, number_found}
use Rattle.spl_lexer.proofs.numbers.number.Goals as goal

pub returns-then-starts_word_byte : goal.returns-then-starts_word_byte
returns-then-starts_word_byte c =
    let bytes = c.args.bytes.now in
    let n = c.digit_length-digits.result in
    let s = c.suffix-kind.result in
    run_on_found bytes n s c.requires c.digit_length-digits.ensures.value (c.suffix-kind.ensures.value ∙ ap suffix_ahead (take_rest bytes n))
    (ap (begins is_word_byte) (sym (take_rest bytes (n + s.1))) ∙ sym c.starts_word_byte.ensures ∙ c.if-starts_word_byte.true)

pub returns : goal.returns
returns c =
    let bytes = c.args.bytes.now in
    let n = c.digit_length-digits.result in
    let s = c.suffix-kind.result in
    number_found bytes n s _ c.requires c.digit_length-digits.ensures.value (c.suffix-kind.ensures.value ∙ ap suffix_ahead (take_rest bytes n))
    (ap (begins is_word_byte) (sym (take_rest bytes (n + s.1))) ∙ sym c.starts_word_byte.ensures ∙ c.if-starts_word_byte.false) c.of_kind.ensures
