-- What is answered of the tokens from a place on is one thing.
use Rattle.std.proofs.Common.{◌≡◌, ◌∙◌, inl, inr, ℕ, ◌-◌, ◌≤◌, List, length, drop, Option, Some, None, Ok, Err, refl, sym, ap, arith, length-drop}
use Rattle.spl_tree.specs.declared.token.Token.{Token}
use Rattle.expr_parser.specs.declared.answer.SyntaxAnswer.TheVariants as A
use Rattle.expr_parser.proofs.Expressions.{one_tree}
use Rattle.expr_parser.proofs.PhraseLaws.{phrase_one, not_both, unexpected_one}
use Rattle.spl_tree.specs.Units.{place_of}
use Rattle.expr_parser.specs.Parses.{OneAnswerLaw, SpellsExpr}

-- the rest of a list begins at one place
pub one_place : (ts : List Token) (m n : ℕ) → m ≤ length ts → n ≤ length ts → drop m ts ≡ drop n ts → m ≡ n
one_place ts m n first second same =
    let lengths : length ts - m ≡ length ts - n = sym (length-drop m ts) ∙ ap length same ∙ length-drop n ts in
    omega arith

pub two_deep : {o : Option ℕ} {i : ℕ} → o ≡ None → o ≡ Some i → ⊥
two_deep none some = let clash = sym none ∙ some in cc

pub one_answer : OneAnswerLaw
one_answer tokens from (Ok p) (Ok q) x y =
    let both = phrase_one SpellsExpr (λ v w a s t. one_tree s t) (drop from tokens.list) (drop p.next tokens.list) (drop q.next tokens.list) p.expr q.expr x.phrase y.phrase in
    let expr : p.expr ≡ q.expr = both.0 in
    let next : p.next ≡ q.next = one_place tokens.list p.next q.next x.within y.within both.1 in
    inr (inr (ap (λ e. Ok (record { expr = e; next = p.next })) expr ∙ ap (λ n. Ok (record { expr = q.expr; next = n })) next))
one_answer tokens from (Ok p) (Err (A.Unexpected at)) x y = absurd (not_both SpellsExpr (drop from tokens.list) (drop p.next tokens.list) (drop y.token tokens.list) p.expr x.phrase y.unexpected)
one_answer tokens from (Ok p) (Err (A.TooDeep at)) x y = absurd (two_deep x.shallow y.first)
one_answer tokens from (Err (A.Unexpected at)) (Ok q) x y = absurd (not_both SpellsExpr (drop from tokens.list) (drop q.next tokens.list) (drop x.token tokens.list) q.expr y.phrase x.unexpected)
one_answer tokens from (Err (A.Unexpected at)) (Err (A.Unexpected to)) x y =
    let tokens_same = one_place tokens.list x.token y.token x.within y.within (unexpected_one SpellsExpr (drop from tokens.list) (drop x.token tokens.list) (drop y.token tokens.list) x.unexpected y.unexpected) in
    inr (inr (ap (λ n. Err (A.Unexpected n)) (x.place ∙ ap (place_of tokens) tokens_same ∙ sym y.place)))
one_answer tokens from (Err (A.Unexpected at)) (Err (A.TooDeep to)) x y = absurd (two_deep x.shallow y.first)
one_answer tokens from (Err (A.TooDeep at)) (Ok q) x y = absurd (two_deep y.shallow x.first)
one_answer tokens from (Err (A.TooDeep at)) (Err (A.Unexpected to)) x y = absurd (two_deep y.shallow x.first)
one_answer tokens from (Err (A.TooDeep at)) (Err (A.TooDeep to)) x y =
    let both : Some x.token ≡ Some y.token = sym x.first ∙ y.first in
    let same : x.token ≡ y.token = cc in
    inr (inr (ap (λ n. Err (A.TooDeep n)) (x.place ∙ ap (place_of tokens) same ∙ sym y.place)))
one_answer tokens from (Err A.Memory) y here there = inl refl
one_answer tokens from x (Err A.Memory) here there = inr (inl refl)
