-- What stands at the front, by the byte there.
use Rattle.std.proofs.Common.{ℕ, zero, suc, ◌≡◌, ◌+◌, ◌-◌, ◌<◌, ◌≤◌, ◌==◌, ◌&&◌, not, true, false, List, [], ◌∷◌, length, take, drop, fold, Option, Some, None, option_map, is_some, Result, Ok, refl, ap, ◌∙◌, add-one, arith}
use Rattle.std.specs.Bool.{then_some}
use Rattle.std.specs.List.{list_all, prefix_len}
use Rattle.std.specs.Prelude.{nat_le, if◌then◌else◌}
use Rattle.std.proofs.lemmas.List.{length-drop}
use Rattle.std.proofs.lemmas.List.Sums.{prefix_len-le-length}
use Rattle.std.proofs.lemmas.Bool.{le-leb, lt-leb, eq-eqb}
use Rattle.std.proofs.lemmas.Bool.Decides.{nat_tests}
use Rattle.spl_value.specs.declared.types.IntKind.{IntKind}
use Rattle.spl_value.specs.Decimal.{is_digit, digit_step}
use Rattle.spl_tree.specs.declared.symbol.Symbol.{Symbol}
use Rattle.spl_tree.specs.declared.token.TokenKind.{TokenKind}
use Rattle.spl_tree.specs.declared.token.TokenKind.TheVariants as T
use Rattle.spl_tree.specs.declared.token.LexicalError.TheVariants as E
use Rattle.spl_tree.specs.Bytes.{is_blank, is_letter, is_word_byte, is_quote, begins}
use Rattle.spl_tree.specs.Words.{symbol_of, keyword_of}
use Rattle.spl_tree.specs.Tokens.{Refusal, Take, Pass, Refuse, front, as_front, is_formed, kind_of, longest_front, is_word, word_kind, number_kind, digits, suffix, suffix_kind, ends_text, text_kind, unescaped, between_quotes, comment_length, comment_front}
use Rattle.spl_tree.proofs.FrontLaws.{longest_front-is}
use Rattle.spl_tree.proofs.TokenLaws.{kind_in, form_mapped, form_tested}
use Rattle.spl_lexer.specs.steps.Scanning.{text_length, suffix_ahead, text_ahead, symbol_ahead, single_ahead, double_of}
use Rattle.spl_lexer.proofs.Longest.{IsDense, dense, front_at, front_token, front_none}
use Rattle.spl_lexer.proofs.Reach.{list_all-take, prefix_len-first, word_first, is_word-take, is_word-none, suffix-take, digits-take, IsLongest, suffix_ahead-longest, is_length, text_length_within, ends_text-take, between_quotes-take, symbol_beyond_two, symbol_beyond_one, double_of-some}

-- Kinds of bytes

-- a letter is no blank, no slash and no digit
letter_blank : (b : ℕ) → is_letter b ≡ true → is_blank b ≡ false
letter_blank b h = grind (arith, nat_tests)

letter_slash : (b : ℕ) → is_letter b ≡ true → (b == 47) ≡ false
letter_slash b h = grind (arith, nat_tests)

letter_digit : (b : ℕ) → is_letter b ≡ true → is_digit b ≡ false
letter_digit b h = grind (arith, nat_tests)

-- a digit is no blank, no slash and no letter
digit_blank : (b : ℕ) → is_digit b ≡ true → is_blank b ≡ false
digit_blank b h = grind (arith, nat_tests)

digit_slash : (b : ℕ) → is_digit b ≡ true → (b == 47) ≡ false
digit_slash b h = grind (arith, nat_tests)

pub digit_letter : (b : ℕ) → is_digit b ≡ true → is_letter b ≡ false
digit_letter b h = grind (arith, nat_tests)

-- a quote is no blank, no slash, no letter, no digit and no dollar
quote_blank : (b : ℕ) → is_quote b ≡ true → is_blank b ≡ false
quote_blank b h = grind (arith, nat_tests)

quote_slash : (b : ℕ) → is_quote b ≡ true → (b == 47) ≡ false
quote_slash b h = grind (arith, nat_tests)

quote_letter : (b : ℕ) → is_quote b ≡ true → is_letter b ≡ false
quote_letter b h = grind (arith, nat_tests)

quote_digit : (b : ℕ) → is_quote b ≡ true → is_digit b ≡ false
quote_digit b h = grind (arith, nat_tests)

quote_dollar : (b : ℕ) → is_quote b ≡ true → (b == 36) ≡ false
quote_dollar b h = grind (arith, nat_tests)

-- Gaps

-- a blank
pub blank_front : (b : ℕ) (bs : List ℕ) → is_blank b ≡ true → front (b ∷ bs) ≡ Pass 1
unfolding front
blank_front b bs h = rw h refl

-- a comment up to the end of its line
pub line_front : (bs : List ℕ) → front (47 ∷ 47 ∷ bs) ≡ Pass (prefix_len (λ c. not (c == 10)) bs + 2)
unfolding front
line_front bs = refl

-- a comment up to `*/`
pub comment_is : (bs : List ℕ) → front (47 ∷ 42 ∷ bs) ≡ comment_front (comment_length bs)
unfolding front
comment_is bs = refl

-- Words and dollars

-- the word at the front
pub word_front : (b : ℕ) (bs : List ℕ) → is_letter b ≡ true → let n = prefix_len is_word_byte (b ∷ bs) in
    front (b ∷ bs) ≡ Take (word_kind (take n (b ∷ bs)) (keyword_of (take n (b ∷ bs)))) n
word_front b bs letter =
    rw size (front_token b bs n (dense b bs (letter_blank b letter) (letter_slash b letter)) within (formed n within ∙ le-leb n n (omega arith))
    (λ m more most. formed m most ∙ lt-leb m n more) ∙ rw (letter_digit b letter, letter, words) refl)
  where
    n : ℕ
    n = prefix_len is_word_byte bs

    size : prefix_len is_word_byte (b ∷ bs) ≡ suc n
    size = rw letter (omega arith)

    within : n ≤ length bs
    within = prefix_len-le-length is_word_byte bs

    formed : (m : ℕ) → m ≤ length bs → is_formed (b ∷ take m bs) ≡ nat_le m n
    formed m most = rw letter (form_tested (λ word. Ok (word_kind word (keyword_of word))) (list_all is_word_byte (take m bs)) (b ∷ take m bs) ∙ list_all-take is_word_byte m bs most)

    words : list_all is_word_byte (take n bs) ≡ true
    words = list_all-take is_word_byte n bs within ∙ le-leb n n (omega arith)

-- the parameter that a word is
abbrev parameter : List ℕ → Result TokenKind Refusal
parameter word = Ok (T.Dollar word)

-- the parameter at the front
pub dollar_front : (bs : List ℕ) → begins is_letter bs ≡ true → let n = prefix_len is_word_byte bs in
    front (36 ∷ bs) ≡ Take (T.Dollar (take n bs)) (n + 1)
dollar_front bs letter =
    rw (add-one n) (front_token 36 bs n (dense 36 bs refl refl) within (form_tested parameter (is_word (take n bs)) (take n bs) ∙ words)
    (λ m more most. form_tested parameter (is_word (take m bs)) (take m bs) ∙ is_word-take m bs letter (omega arith) most ∙ lt-leb m n more)
    ∙ ap (λ t. as_front (suc n) (kind_in (option_map parameter (then_some t (take n bs))))) words)
  where
    n : ℕ
    n = prefix_len is_word_byte bs

    some : 0 < n
    some = prefix_len-first is_word_byte bs (word_first bs letter)

    within : n ≤ length bs
    within = prefix_len-le-length is_word_byte bs

    words : is_word (take n bs) ≡ true
    words = is_word-take n bs letter some within ∙ le-leb n n (omega arith)

-- a dollar that no letter follows
pub dollar_none : (bs : List ℕ) → begins is_letter bs ≡ false → front (36 ∷ bs) ≡ Refuse E.BadByte 0
dollar_none bs letter = front_none 36 bs (dense 36 bs refl refl) (λ m most. form_tested parameter (is_word (take m bs)) (take m bs) ∙ is_word-none m bs letter)

-- Numbers

-- a front that a digit begins has the form of a number
number_formed : (m : ℕ) (bs : List ℕ) → begins is_digit bs ≡ true → 0 < m →
    is_formed (take m bs) ≡ is_some (suffix_kind (suffix (take m bs)))
number_formed zero bs h some = absurd (omega arith)
number_formed (suc m) [] h some = absurd (cc)
number_formed (suc m) (b ∷ bs) h some = rw (digit_letter b h, h) (form_mapped _ _)

-- the number of the type, where there is one
abbrev pub number_of : ℕ → Option IntKind → Result TokenKind Refusal
number_of n o = kind_in (option_map (number_kind n) o)

-- and is the number of its digits and its suffix
number_kinded : (m : ℕ) (bs : List ℕ) → begins is_digit bs ≡ true → 0 < m →
    kind_of (take m bs) ≡ number_of (fold digit_step 0 (digits (take m bs))) (suffix_kind (suffix (take m bs)))
number_kinded zero bs h some = absurd (omega arith)
number_kinded (suc m) [] h some = absurd (cc)
number_kinded (suc m) (b ∷ bs) h some = rw (digit_letter b h, h) refl

-- the longest such front is taken, unless more follows it
number_taken : (n : ℕ) (bs : List ℕ) → begins is_digit bs ≡ true → 0 < n → longest_front (length bs) bs ≡ n →
    front bs ≡ (if begins is_word_byte (drop n bs) then Refuse E.BadNumber 0 else as_front n (kind_of (take n bs)))
number_taken n [] h some e = absurd (cc)
number_taken zero (b ∷ bs) h some e = absurd (omega arith)
number_taken (suc n) (b ∷ bs) h some e = front_at b bs (suc n) (dense b bs (digit_blank b h) (digit_slash b h)) e ∙ rw h refl

-- the number at the front
pub number_front : (bs : List ℕ) → begins is_digit bs ≡ true →
    let n = prefix_len is_digit bs in let s = suffix_ahead (drop n bs) in let end = n + s.1 in
    front bs ≡ (if begins is_word_byte (drop end bs) then Refuse E.BadNumber 0 else as_front end (number_kind (fold digit_step 0 (take n bs)) s.0))
number_front bs h = number_taken end bs h some ends ∙ ap (λ k. if begins is_word_byte (drop end bs) then Refuse E.BadNumber 0 else as_front end k) kind
  where
    n : ℕ
    n = prefix_len is_digit bs

    s : IntKind × ℕ
    s = suffix_ahead (drop n bs)

    end : ℕ
    end = n + s.1

    whole : IsLongest suffix_kind (drop n bs) s
    whole = suffix_ahead-longest (drop n bs)

    some : 0 < end
    some = let begins : 0 < n = prefix_len-first is_digit bs h in omega arith

    within : n ≤ length bs
    within = prefix_len-le-length is_digit bs

    here : suffix_kind (suffix (take end bs)) ≡ Some s.0
    here = let rest : end - n ≡ s.1 = omega arith in rw (suffix-take end bs, rest) whole.here

    beyond : (m : ℕ) → end < m → m ≤ length bs → suffix_kind (suffix (take m bs)) ≡ None
    beyond m more most = rw (suffix-take m bs) (whole.beyond (m - n) (omega arith) (omega (arith, within, length-drop n bs)))

    ends : longest_front (length bs) bs ≡ end
    ends = longest_front-is (length bs) end bs (omega (arith, within, whole.within, length-drop n bs)) (number_formed end bs h some ∙ ap (λ k. is_some k) here)
        (λ m more most. number_formed m bs h (omega arith) ∙ ap (λ k. is_some k) (beyond m more most))

    kind : kind_of (take end bs) ≡ number_kind (fold digit_step 0 (take n bs)) s.0
    kind = number_kinded end bs h some ∙ rw (digits-take end bs (omega arith), here) refl

-- Texts

-- the text at the front
pub text_front : (quote : ℕ) (bs : List ℕ) → is_quote quote ≡ true → front (quote ∷ bs) ≡ text_ahead bs (text_length quote false bs)
text_front quote bs h = by (text_length quote false bs) refl
  where
    begins : IsDense quote bs
    begins = dense quote bs (quote_blank quote h) (quote_slash quote h)

    formed : (m : ℕ) → m ≤ length bs → is_formed (quote ∷ take m bs) ≡ is_length m (text_length quote false bs)
    formed m most =
        rw (quote_letter quote h, quote_digit quote h, quote_dollar quote h, h) (form_tested (λ text. text_kind (unescaped 1 (between_quotes text))) (ends_text quote false (take m bs)) (quote ∷ take m bs)
        ∙ ends_text-take quote false m bs most)

    by : (o : Option ℕ) → text_length quote false bs ≡ o → front (quote ∷ bs) ≡ text_ahead bs o
    by None e = front_none quote bs begins (λ m most. formed m most ∙ rw e refl) ∙ rw h refl
    by (Some n) e =
        let within = (text_length_within quote false bs n e).1 in
        let ends : ends_text quote false (take n bs) ≡ true = ends_text-take quote false n bs within ∙ rw e (eq-eqb n n refl) in
        rw (add-one n) (front_token quote bs n begins within (formed n within ∙ rw e (eq-eqb n n refl))
        (λ m more most. formed m most ∙ rw e (grind (arith, nat_tests)))
        ∙ rw (quote_letter quote h, quote_digit quote h, quote_dollar quote h, h, ends, between_quotes-take quote n bs within) refl)

-- Symbols

abbrev symbol : Symbol → Result TokenKind Refusal
symbol s = Ok (T.Symbol s)

-- the symbol at the front, where nothing else can stand there
pub symbol_front : (b : ℕ) (bs : List ℕ) → is_blank b ≡ false → is_letter b ≡ false → is_digit b ≡ false → (b == 36) ≡ false → is_quote b ≡ false
    → ((b == 47) && begins (λ c. c == 47) bs) ≡ false → ((b == 47) && begins (λ c. c == 42) bs) ≡ false
    → front (b ∷ bs) ≡ symbol_ahead (b ∷ bs) (double_of (b ∷ bs))
symbol_front b bs blank letter digit dollar quote line comment = by (double_of (b ∷ bs)) refl
  where
    begins : IsDense b bs
    begins = record { blank = blank; line = line; comment = comment }

    formed : (m : ℕ) (o : Option Symbol) → symbol_of (b ∷ take m bs) ≡ o → is_formed (b ∷ take m bs) ≡ is_some o
    formed m o e = rw (letter, digit, dollar, quote) (form_mapped symbol (symbol_of (b ∷ take m bs)) ∙ ap (λ o. is_some o) e)

    -- the longest front that is a symbol
    found : (n : ℕ) (s : Symbol) → n ≤ length bs → symbol_of (b ∷ take n bs) ≡ Some s
        → ((m : ℕ) → n < m → m ≤ length bs → symbol_of (b ∷ take m bs) ≡ None) → front (b ∷ bs) ≡ Take (T.Symbol s) (suc n)
    found n s within e beyond =
        front_token b bs n begins within (formed n (Some s) e) (λ m more most. formed m None (beyond m more most))
        ∙ rw (letter, digit, dollar, quote) (ap (λ o. as_front (suc n) (kind_in (option_map symbol o))) e)

    single : (o : Option Symbol) → double_of (b ∷ bs) ≡ None → symbol_of (b ∷ []) ≡ o → front (b ∷ bs) ≡ single_ahead o
    single (Some s) double e = found 0 s (omega arith) e (symbol_beyond_one b bs double)
    single None double e = front_none b bs begins none ∙ rw quote refl
      where
        none : (m : ℕ) → m ≤ length bs → is_formed (b ∷ take m bs) ≡ false
        none zero most = formed 0 None e
        none (suc m) most = formed (suc m) None (symbol_beyond_one b bs double (suc m) (omega arith) most)

    by : (o : Option Symbol) → double_of (b ∷ bs) ≡ o → front (b ∷ bs) ≡ symbol_ahead (b ∷ bs) o
    by (Some s) e = let double = double_of-some b bs s e in found 1 s (omega arith) double.1 (symbol_beyond_two b bs)
    by None e = single (symbol_of (b ∷ [])) e refl
