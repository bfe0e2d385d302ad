-- What is answered of the tokens of a program is one thing.
use Rattle.std.proofs.Common.{◌≡◌, ◌∙◌, inl, inr, take, drop, Some, Ok, Err, refl, sym, ap}
use Rattle.expr_parser.specs.declared.answer.SyntaxAnswer.TheVariants as A
use Rattle.expr_parser.proofs.PhraseLaws.{longest_one}
use Rattle.spl_tree.specs.Units.{place_of, SpellsProgram}
use Rattle.unit_parser.specs.Parses.{OneAnswerLaw}
use Rattle.unit_parser.proofs.WholeUnits.{one_unit}
use Rattle.expr_parser.proofs.OneAnswer.{one_place, two_deep}

pub one_answer : OneAnswerLaw
one_answer tokens (Ok u) (Ok v) x y = let same = one_unit u v tokens.list x.spells y.spells in inr (inr (ap (λ w. Ok w) same))
one_answer tokens (Ok u) (Err (A.Unexpected at)) x y = absurd (y.none u x.spells)
one_answer tokens (Ok u) (Err (A.TooDeep at)) x y = absurd (two_deep x.shallow y.first)
one_answer tokens (Err (A.Unexpected at)) (Ok v) x y = absurd (x.none v y.spells)
one_answer tokens (Err (A.Unexpected at)) (Err (A.Unexpected to)) x y =
    let both = longest_one SpellsProgram tokens.list (take x.token tokens.list) (drop x.token tokens.list) (take y.token tokens.list) (drop y.token tokens.list) x.longest y.longest in
    let same = one_place tokens.list x.token y.token x.within y.within both.1 in
    inr (inr (ap (λ n. Err (A.Unexpected n)) (x.place ∙ ap (place_of tokens) same ∙ sym y.place)))
one_answer tokens (Err (A.Unexpected at)) (Err (A.TooDeep to)) x y = absurd (two_deep x.shallow y.first)
one_answer tokens (Err (A.TooDeep at)) (Ok v) x y = absurd (two_deep y.shallow x.first)
one_answer tokens (Err (A.TooDeep at)) (Err (A.Unexpected to)) x y = absurd (two_deep y.shallow x.first)
one_answer tokens (Err (A.TooDeep at)) (Err (A.TooDeep to)) x y =
    let both : Some x.token ≡ Some y.token = sym x.first ∙ y.first in
    let same : x.token ≡ y.token = cc in
    inr (inr (ap (λ n. Err (A.TooDeep n)) (x.place ∙ ap (place_of tokens) same ∙ sym y.place)))
one_answer tokens (Err A.Memory) y here there = inl refl
one_answer tokens x (Err A.Memory) here there = inr (inl refl)
