use Rattle.std.proofs.Common.{◌≡◌, ◌∙◌, ◌==◌, ◌&&◌, true, false, not, length, take, drop, ◌-◌, get_or, sym, ap, arith}
use Rattle.std.proofs.lemmas.Bool.{and_left, and_right, ne_eqb}
use Rattle.std.proofs.lemmas.List.{take_rest}
use Rattle.std.specs.List.{prefix_len}
use Rattle.spl_tree.specs.Bytes.{begins}
use Rattle.spl_lexer.proofs.Found.{line_found, symbol_found}
use Rattle.spl_lexer.proofs.front.by_first_byte.Goals as goal
use Rattle.spl_lexer.proofs.front.by_first_byte.Goals.{else-b-eq47-via-then-b-eq47+else-starts_with, else-b-eq47-via-else-b-eq47, else-b-eq47-2-via-then-b-eq47-2+else-starts_with-2, else-b-eq47-2-via-else-b-eq47-2}

pub returns-then-starts_with : goal.returns-then-starts_with
returns-then-starts_with c =
    let bytes = c.args.bytes.now in
    let slash : begins (λ b. b == 47) (drop 1 bytes) ≡ true = ap (begins (λ b. b == 47)) (sym (take_rest bytes 1)) ∙ sym c.starts_with.ensures ∙ c.if-starts_with.true in
    line_found bytes c.line_length.result (omega arith) c.if-b-eq47.true slash
    (c.line_length.ensures.value ∙ ap (prefix_len (λ b. not (b == 10))) (take_rest (take (length bytes - 1) (drop 1 bytes)) 1 ∙ ap (drop 1) (take_rest bytes 1)))

pub returns : goal.returns
returns c =
    let bytes = c.args.bytes.now in
    let line : ((get_or bytes 0 0 == 47) && begins (λ b. b == 47) (drop 1 bytes)) ≡ false = elim c.else-b-eq47.branch [
      | else-b-eq47-via-then-b-eq47+else-starts_with w ↦
          and_right _ _ (ap (begins (λ b. b == 47)) (sym (take_rest bytes 1)) ∙ sym w.starts_with.ensures ∙ w.if-starts_with.false)
      | else-b-eq47-via-else-b-eq47 w ↦ and_left _ _ (ne_eqb _ _ w.if-b-eq47.false)
    ] in
    let block : ((get_or bytes 0 0 == 47) && begins (λ b. b == 42) (drop 1 bytes)) ≡ false = elim c.else-b-eq47-2.branch [
      | else-b-eq47-2-via-then-b-eq47-2+else-starts_with-2 w ↦
          and_right _ _ (ap (begins (λ b. b == 42)) (sym (take_rest bytes 1)) ∙ sym w.starts_with-then-b-eq47-2.ensures ∙ w.if-starts_with-2.false)
      | else-b-eq47-2-via-else-b-eq47-2 w ↦ and_left _ _ (ne_eqb _ _ w.if-b-eq47-2.false)
    ] in
    c.symbol.ensures ∙ symbol_found bytes c.requires
    (sym c.is_blank.ensures ∙ c.if-is_blank.false) (sym c.is_letter.ensures ∙ c.if-is_letter.false) (sym c.is_digit.ensures ∙ c.if-is_digit.false)
    (ne_eqb _ _ c.if-b-eq36.false) (sym c.is_quote.ensures ∙ c.if-is_quote.false) line block
