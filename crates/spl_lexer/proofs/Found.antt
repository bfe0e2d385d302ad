-- What the code finds at the front, in the terms of its calls.
use Rattle.std.proofs.Common.{ℕ, ◌≡◌, ◌∙◌, ◌+◌, ◌-◌, fold, Bool, cond, Result, ◌<◌, ◌==◌, ◌&&◌, not, true, false, List, [], ◌∷◌, length, get_or, take, drop, Option, Some, None, sym, ap, subst, arith}
use Rattle.std.proofs.lemmas.Bool.{eqb-true}
use Rattle.std.specs.List.{list_all, prefix_len}
use Rattle.spl_value.specs.declared.types.IntKind.{IntKind}
use Rattle.spl_value.specs.Decimal.{is_digit, digit_step}
use Rattle.spl_tree.specs.Bytes.{is_blank, is_letter, is_word_byte, is_quote, begins}
use Rattle.spl_tree.specs.declared.token.TokenKind.TheVariants as T
use Rattle.spl_tree.specs.declared.keyword.Keyword.{Keyword}
use Rattle.spl_tree.specs.Words.{keyword_of}
use Rattle.spl_tree.specs.Tokens.{Front, Take, Pass, Refuse, front, as_front, word_kind, number_kind, text_kind, unescaped}
use Rattle.spl_tree.specs.declared.token.LexicalError.TheVariants as E
use Rattle.spl_tree.specs.TokenLaws.{Fits}
use Rattle.spl_tree.proofs.TokenLaws.{front_fits}
use Rattle.spl_tree.proofs.GapLaws.{take-prefix_len}
use Rattle.spl_lexer.specs.steps.Scanning.{suffix_ahead, text_length, text_ahead, symbol_ahead, double_of}
use Rattle.spl_lexer.proofs.Fronts.{blank_front, line_front, word_front, number_front, text_front, symbol_front}

-- the word at the front, by the keyword that it may be
word_found : (bs : List ℕ) (n : ℕ) (o : Option Keyword) → begins is_letter bs ≡ true → n ≡ prefix_len is_word_byte bs → o ≡ keyword_of (take n bs)
    → front bs ≡ Take (word_kind (take n bs) o) n
word_found [] n o h e k = absurd (cc)
word_found (b ∷ bs) n o h e k =
    word_front b bs h ∙ ap (λ m. Take (word_kind (take m (b ∷ bs)) (keyword_of (take m (b ∷ bs)))) m) (sym e)
    ∙ ap (λ p. Take (word_kind (take n (b ∷ bs)) p) n) (sym k)

-- the keyword at the front
pub keyword_found : (bs : List ℕ) (n : ℕ) (k : Keyword) → begins is_letter bs ≡ true → n ≡ prefix_len is_word_byte bs → Some k ≡ keyword_of (take n bs)
    → Take (T.Keyword k) n ≡ front bs
keyword_found bs n k h e is = sym (word_found bs n (Some k) h e is)

-- the name at the front
pub name_found : (bs text : List ℕ) (n : ℕ) → begins is_letter bs ≡ true → n ≡ prefix_len is_word_byte bs → None ≡ keyword_of (take n bs)
    → text ≡ take n bs → Take (T.Word text) n ≡ front bs
name_found bs text n h e is same = ap (λ t. Take (T.Word t) n) same ∙ sym (word_found bs n None h e is)

-- a blank at the front
pub blank_found : (bs : List ℕ) → 0 < length bs → is_blank (get_or bs 0 0) ≡ true → front bs ≡ Pass 1
blank_found [] some h = absurd (omega arith)
blank_found (b ∷ bs) some h = blank_front b bs h

-- two bytes at the front
two : (bs : List ℕ) (a b : ℕ) → 0 < length bs → get_or bs 0 0 ≡ a → begins (λ c. c == b) (drop 1 bs) ≡ true → bs ≡ a ∷ b ∷ drop 1 (drop 1 bs)
two [] a b some h k = absurd (omega arith)
two (c ∷ []) a b some h k = absurd (cc)
two (c ∷ d ∷ bs) a b some h k = let e : d ≡ b = eqb-true d b k in ap (λ (x : ℕ). x ∷ d ∷ bs) h ∙ ap (λ (x : ℕ). a ∷ x ∷ bs) e

-- a comment to the end of the line
pub line_found : (bs : List ℕ) (n : ℕ) → 0 < length bs → get_or bs 0 0 ≡ 47 → begins (λ c. c == 47) (drop 1 bs) ≡ true
    → n ≡ prefix_len (λ c. not (c == 10)) (drop 1 (drop 1 bs)) → Pass (n + 2) ≡ front bs
line_found bs n some h k e = ap (λ (m : ℕ). Pass (m + 2)) e ∙ sym (ap front (two bs 47 47 some h k) ∙ line_front (drop 1 (drop 1 bs)))

-- a comment up to its end
pub comment_found : (bs : List ℕ) (f : Front) → 0 < length bs → get_or bs 0 0 ≡ 47 → begins (λ c. c == 42) (drop 1 bs) ≡ true
    → f ≡ front (47 ∷ 42 ∷ drop 1 (drop 1 bs)) → f ≡ front bs
comment_found bs f some h k e = e ∙ sym (ap front (two bs 47 42 some h k))

-- what stands at the front fits in the bytes
pub fits_found : (bs : List ℕ) (f : Front) → 0 < length bs → f ≡ front bs → Fits (length bs) f
fits_found bs f some e = subst (Fits (length bs)) (sym e) (front_fits bs some)

-- a symbol, or nothing
pub symbol_found : (bs : List ℕ) → 0 < length bs → is_blank (get_or bs 0 0) ≡ false → is_letter (get_or bs 0 0) ≡ false → is_digit (get_or bs 0 0) ≡ false
    → (get_or bs 0 0 == 36) ≡ false → is_quote (get_or bs 0 0) ≡ false
    → ((get_or bs 0 0 == 47) && begins (λ c. c == 47) (drop 1 bs)) ≡ false → ((get_or bs 0 0 == 47) && begins (λ c. c == 42) (drop 1 bs)) ≡ false
    → symbol_ahead bs (double_of bs) ≡ front bs
symbol_found [] some blank letter digit dollar quote line block = absurd (omega arith)
symbol_found (b ∷ bs) some blank letter digit dollar quote line block = sym (symbol_front b bs blank letter digit dollar quote line block)

-- the digits at the front
pub digits_found : (bs : List ℕ) (n : ℕ) → n ≡ prefix_len is_digit bs → list_all is_digit (take n bs) ≡ true
digits_found bs n e = ap (λ m. list_all is_digit (take m bs)) e ∙ take-prefix_len is_digit bs

-- what is found once a number's digits and letters are read
abbrev Number : List ℕ → Bool → ℕ → ℕ → IntKind → Front
Number bs run_on n end kind = cond run_on (Refuse E.BadNumber 0) (as_front end (number_kind (fold digit_step 0 (take n bs)) kind))

number_is : (bs : List ℕ) (n : ℕ) (s : IntKind × ℕ) (run_on : Bool) → begins is_digit bs ≡ true → n ≡ prefix_len is_digit bs
    → s ≡ suffix_ahead (drop n bs) → begins is_word_byte (drop (n + s.1) bs) ≡ run_on → Number bs run_on n (n + s.1) s.0 ≡ front bs
number_is bs n s run_on h e is apart =
    ap (λ t. Number bs t n (n + s.1) s.0) (sym apart)
    ∙ ap (λ f. Number bs (begins is_word_byte (drop (n + f.1) bs)) n (n + f.1) f.0) is
    ∙ ap (λ m. Number bs (begins is_word_byte (drop (m + (suffix_ahead (drop m bs)).1) bs)) m (m + (suffix_ahead (drop m bs)).1) (suffix_ahead (drop m bs)).0) e
    ∙ sym (number_front bs h)

pub number_found : (bs : List ℕ) (n : ℕ) (s : IntKind × ℕ) (f : Front) → begins is_digit bs ≡ true → n ≡ prefix_len is_digit bs
    → s ≡ suffix_ahead (drop n bs) → begins is_word_byte (drop (n + s.1) bs) ≡ false
    → f ≡ as_front (n + s.1) (number_kind (fold digit_step 0 (take n bs)) s.0) → f ≡ front bs
number_found bs n s f h e is apart it = it ∙ number_is bs n s false h e is apart

pub run_on_found : (bs : List ℕ) (n : ℕ) (s : IntKind × ℕ) → begins is_digit bs ≡ true → n ≡ prefix_len is_digit bs
    → s ≡ suffix_ahead (drop n bs) → begins is_word_byte (drop (n + s.1) bs) ≡ true → Refuse E.BadNumber 0 ≡ front bs
run_on_found bs n s h e is apart = number_is bs n s true h e is apart

-- the text at the front, open or by what its bytes are
pub open_found : (quote : ℕ) (bs : List ℕ) → is_quote quote ≡ true → None ≡ text_length quote false bs → Refuse E.OpenText 0 ≡ front (quote ∷ bs)
open_found quote bs h e = ap (text_ahead bs) e ∙ sym (text_front quote bs h)

pub text_found : (quote : ℕ) (bs : List ℕ) (n : ℕ) (read : Result (List ℕ) ℕ) → is_quote quote ≡ true → Some n ≡ text_length quote false bs
    → read ≡ unescaped 1 (take (n - 1) bs) → as_front (n + 1) (text_kind read) ≡ front (quote ∷ bs)
text_found quote bs n read h e is = ap (λ r. as_front (n + 1) (text_kind r)) is ∙ ap (text_ahead bs) e ∙ sym (text_front quote bs h)
