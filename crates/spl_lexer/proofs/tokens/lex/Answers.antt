use Rattle.std.proofs.Common.{◌≡◌, ◌∙◌, ◌+◌, ◌<◌, length, drop, sym, ap, arith, length-drop}
use Rattle.std.proofs.lemmas.List.{take_rest}
use Rattle.spl_tree.specs.Tokens.{Take, Pass, front, tokens_from, with_front}
use Rattle.spl_tree.proofs.TokenLaws.{take_step, pass_step}
use Rattle.spl_lexer.specs.steps.Scanning.{front_of}
use Rattle.spl_lexer.proofs.tokens.lex.Goals as goal

pub loop-at-preserved-in-Token : goal.loop-at-preserved-in-Token
loop-at-preserved-in-Token c =
    let bytes = c.args.bytes.now in
    let at = c.loop-at.at in
    let n = c.in-Token.length in
    let lt : at < length bytes = c.loop-at-test.true in
    let is : front (drop at bytes) ≡ Take c.in-Token.kind n = ap front (sym (take_rest bytes at)) ∙ sym c.in_ok-kind.ensures.value ∙ ap front_of c.in-Token.is in
    let fits = rw (take_rest bytes at, c.in-Token.is) at c.in_ok-kind.ensures.fits in
    record {
      value = ap (λ list. with_front list (tokens_from 0 (at + n) (drop (at + n) bytes))) c.in_ok-push-in-Token.ensures.ok ∙ take_step bytes c.loop-at.list at lt c.in-Token.kind n is ∙ c.loop-at.invariant.value;
      within = omega (arith, fits.1, length-drop at bytes);
    }

pub loop-at-preserved : goal.loop-at-preserved
loop-at-preserved c =
    let bytes = c.args.bytes.now in
    let at = c.loop-at.at in
    let n = c.in-Gap.length in
    let lt : at < length bytes = c.loop-at-test.true in
    let is : front (drop at bytes) ≡ Pass n = ap front (sym (take_rest bytes at)) ∙ sym c.in_ok-kind.ensures.value ∙ ap front_of c.in-Gap.is in
    let fits = rw (take_rest bytes at, c.in-Gap.is) at c.in_ok-kind.ensures.fits in
    record {
      value = pass_step bytes c.loop-at.list at lt n is ∙ c.loop-at.invariant.value;
      within = omega (arith, fits.1, length-drop at bytes);
    }
