-- The bytes before a refusal are a program of the tokens before it.
use Rattle.std.proofs.Common.{◌≡◌, ◌∙◌, ℕ, ◌+◌, ◌==◌, ◌&&◌, ◌||◌, Bool, true, false, not, List, [], ◌∷◌, ◌++◌, length, take, Ok, refl, sym, ap, arith, append_assoc, length-append}
use Rattle.std.proofs.Math.Seq.{take-append_seam}
use Rattle.std.proofs.lemmas.List.{take-append-le}
use Rattle.spl_value.specs.Decimal.{is_digit}
use Rattle.spl_tree.specs.declared.token.Token.{Token}
use Rattle.spl_tree.specs.declared.token.TokenKind.{TokenKind}
use Rattle.spl_tree.specs.Bytes.{begins, is_word_byte}
use Rattle.spl_tree.specs.Tokens.{is_formed, tokens}
use Rattle.spl_tree.specs.Laws.{Gap, blank, line, block, IsToken, Cut, done, gap, token}
use Rattle.spl_tree.proofs.CutLaws.{one_cut_law}
use Rattle.lexical_laws.specs.Refusals as refusals
use Rattle.lexical_laws.specs.Refusals.{CutTo, here, BeforeLaw}

-- what stands at the front of bytes stands at that of fewer of them, or nothing does
begins-fewer : (p : ℕ → Bool) (a rest : List ℕ) → begins p (a ++ rest) ≡ false → begins p a ≡ false
begins-fewer p [] rest e = refl
begins-fewer p (b ∷ a) rest e = e

-- a gap is one where fewer bytes follow
gap_before : {text after : List ℕ} → Gap text after → (a rest : List ℕ) → after ≡ a ++ rest → Gap text a
gap_before (blank b after e) a rest are = blank b a e
gap_before (line inside after all stops) a rest are = line inside a all (begins-fewer (λ c. not (c == 10)) a rest (ap (begins (λ c. not (c == 10))) (sym are) ∙ stops))
gap_before (block inside after none) a rest are = block inside a none

-- and so is a token
token_before : {kind : TokenKind} {text after : List ℕ} → IsToken kind text after → (a rest : List ℕ) → after ≡ a ++ rest → IsToken kind text a
token_before {kind} {text} {after} t a rest are = record {
  formed = t.formed;
  longest = λ n some le.
      ap (λ cs. is_formed (text ++ cs)) (sym (take-append-le n a rest le) ∙ ap (take n) (sym are))
      ∙ t.longest n some (omega (arith, ap length are, length-append a rest));
  apart = by (begins is_digit text) (ap (λ cs. begins is_digit text && begins is_word_byte cs) (sym are) ∙ t.apart);
  no_comment = λ e. begins-fewer (λ c. (c == 47) || (c == 42)) a rest (ap (begins (λ c. (c == 47) || (c == 42))) (sym are) ∙ t.no_comment e);
  is = t.is;
}
  where
    by : (d : Bool) → (d && begins is_word_byte (a ++ rest)) ≡ false → (d && begins is_word_byte a) ≡ false
    by true e = begins-fewer is_word_byte a rest e
    by false e = refl

-- the bytes that are cut, before the rest
record Before (at : ℕ) (bs : List ℕ) (ts : List Token) (place : ℕ) (rest : List ℕ) : Type 0 where
  front : List ℕ
  are : bs ≡ front ++ rest
  cut : Cut at front ts
  count : place ≡ at + length front

before : {at place : ℕ} {bs rest : List ℕ} {ts : List Token} → CutTo at bs ts place rest → Before at bs ts place rest
before (here at rest) = record { front = []; are = refl; cut = done at; count = omega arith }
before (refusals.gap at place text after rest ts g c) =
    let b = before c in
    record {
      front = text ++ b.front;
      are = ap (λ cs. text ++ cs) b.are ∙ sym (append_assoc text b.front rest);
      cut = gap at text b.front ts (gap_before g b.front rest b.are) b.cut;
      count = omega (arith, b.count, length-append text b.front);
    }
before (refusals.token at place kind text after rest ts t c) =
    let b = before c in
    record {
      front = text ++ b.front;
      are = ap (λ cs. text ++ cs) b.are ∙ sym (append_assoc text b.front rest);
      cut = token at kind text b.front _ (token_before t b.front rest b.are) b.cut;
      count = omega (arith, b.count, length-append text b.front);
    }

-- so they are a program of those tokens
pub before_law : BeforeLaw
before_law bytes ts place rest short c =
    let b = before c in
    let count : length b.front ≡ place = omega (arith, b.count) in
    let all : take place bytes ≡ b.front = ap (λ n. take n bytes) (sym count) ∙ ap (take (length b.front)) b.are ∙ take-append_seam b.front rest in
    ap tokens all ∙ one_cut_law b.front ts (omega (arith, ap length b.are, length-append b.front rest)) b.cut ∙ ap (λ n. Ok (record { list = ts; length = n })) count
