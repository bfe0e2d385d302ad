-- How far the longest token reaches, that what stands at the front fits in the bytes, and one step through the tokens.
use Rattle.std.proofs.Common.{◌≡◌, ◌∙◌, ℕ, zero, suc, ◌+◌, ◌-◌, ◌<◌, ◌≤◌, ◌==◌, nat_lt, ◌&&◌, fold, Bool, true, false, cond, not, List, [], ◌∷◌, ◌++◌, length, take, drop, Option, Some, None, option_map, is_some, unwrap_or, IfSome, Result, Ok, Err, IfErr, refl, sym, ap, inl, inr, arith, append_assoc, add-zero, length-drop, length-take, length-take-le}
use Rattle.std.proofs.lemmas.Bool.{cases_order, and_parts}
use Rattle.std.proofs.lemmas.List.{drop-drop}
use Rattle.std.proofs.lemmas.List.Sums.{prefix_len-le-length}
use Rattle.std.specs.Bool.{then_some}
use Rattle.std.specs.List.{prefix_len}
use Rattle.spl_value.specs.declared.types.IntKind.{IntKind}
use Rattle.spl_value.specs.Values.{top}
use Rattle.spl_value.specs.Decimal.{is_digit, digit_step}
use Rattle.spl_tree.specs.declared.token.TokenKind.{TokenKind}
use Rattle.spl_tree.specs.declared.token.Token.{Token}
use Rattle.spl_tree.specs.declared.token.LexicalError.{LexicalError}
use Rattle.spl_tree.specs.declared.token.LexicalError.TheVariants as E
use Rattle.spl_tree.specs.declared.token.TokenKind.TheVariants as T
use Rattle.spl_tree.specs.Bytes.{is_blank, is_letter, is_quote, begins}
use Rattle.spl_tree.specs.Words.{symbol_of, keyword_of}
use Rattle.spl_tree.specs.Tokens.{Refusal, is_word, word_kind, digits, suffix, suffix_kind, ends_text, is_formed, kind_of, number_kind, unescaped, onto, onto_escape, escape, between_quotes, text_kind, longest_front, Front, Take, Pass, Refuse, as_front, is_run_on, token_front, comment_length, comment_front, front, Lexed, with_front, by_front, tokens_from}
use Rattle.spl_tree.specs.TokenLaws.{Fits}

-- The form of a token

-- what bytes of this form are (`kind_of`)
abbrev pub kind_in : Option (Result TokenKind Refusal) → Result TokenKind Refusal
kind_in o = unwrap_or o (Err (E.BadByte, 0))

-- what is made of what has a form has it
pub form_mapped : {A : Type 0} (f : A → Result TokenKind Refusal) (o : Option A) → is_some (option_map f o) ≡ is_some o
form_mapped f None = refl
form_mapped f (Some x) = refl

-- and what passes a test has the form that is tested
pub form_tested : {A : Type 0} (f : A → Result TokenKind Refusal) (t : Bool) (x : A) → is_some (option_map f (then_some t x)) ≡ t
form_tested f true x = refl
form_tested f false x = refl

-- The longest token

-- it is no longer than the most that was asked for
pub longest_front-le : (n : ℕ) (bs : List ℕ) → longest_front n bs ≤ n
longest_front-le zero bs = omega arith
longest_front-le (suc n) bs = by (is_formed (take (suc n) bs)) (longest_front-le n bs)
  where
    by : (t : Bool) → longest_front n bs ≤ n → cond t (suc n) (longest_front n bs) ≤ suc n
    by true le = omega arith
    by false le = omega arith

-- it has the form of a token
pub longest_front-formed : (n : ℕ) (bs : List ℕ) → 0 < longest_front n bs → is_formed (take (longest_front n bs) bs) ≡ true
longest_front-formed zero bs some = absurd (omega arith)
longest_front-formed (suc n) bs some = by (is_formed (take (suc n) bs)) refl (longest_front-formed n bs) some
  where
    by : (t : Bool) → is_formed (take (suc n) bs) ≡ t → (0 < longest_front n bs → is_formed (take (longest_front n bs) bs) ≡ true)
        → 0 < cond t (suc n) (longest_front n bs) → is_formed (take (cond t (suc n) (longest_front n bs)) bs) ≡ true
    by true e below some = e
    by false e below some = below some

-- and no longer front has
pub longest_front-above : (n m : ℕ) (bs : List ℕ) → longest_front n bs < m → m ≤ n → is_formed (take m bs) ≡ false
longest_front-above zero m bs above le = absurd (omega arith)
longest_front-above (suc n) m bs above le = by (is_formed (take (suc n) bs)) refl above (longest_front-above n m bs)
  where
    by : (t : Bool) → is_formed (take (suc n) bs) ≡ t → cond t (suc n) (longest_front n bs) < m
        → (longest_front n bs < m → m ≤ n → is_formed (take m bs) ≡ false) → is_formed (take m bs) ≡ false
    by true e above below = absurd (omega arith)
    by false e above below = elim (cases_order m (suc n)) [
      | inl same ↦ ap (λ k. is_formed (take k bs)) same ∙ e
      | inr (inl less) ↦ below above (omega arith)
      | inr (inr more) ↦ absurd (omega arith)
    ]

-- a token, or a refusal at a place that isn't past `most`
abbrev Within : ℕ → Result TokenKind Refusal → Type 0
Within most r = IfErr r (λ refusal. refusal.1 ≤ most)

-- a test of the first byte passes only where there is one
begins-some : (p : ℕ → Bool) (bs : List ℕ) → begins p bs ≡ true → 0 < length bs
begins-some p [] e = absurd (cc)
begins-some p (b ∷ bs) e = omega arith

-- a comment ends within its bytes
comment_length-le : (bs : List ℕ) → IfSome (comment_length bs) (λ n. n ≤ length bs)
comment_length-le [] = tt
comment_length-le (b ∷ bs) = by (b == 42) (begins (λ c. c == 47) bs) refl (comment_length bs) (comment_length-le bs)
  where
    by : (star slash : Bool) → begins (λ c. c == 47) bs ≡ slash → (o : Option ℕ) → IfSome o (λ n. n ≤ length bs)
        → IfSome (cond (star && slash) (Some 2) (option_map suc o)) (λ n. n ≤ suc (length bs))
    by true true e o le = let some = begins-some (λ c. c == 47) bs e in omega arith
    by true false e None le = tt
    by true false e (Some n) le = omega arith
    by false slash e None le = tt
    by false slash e (Some n) le = omega arith

-- a byte before others keeps the place of a bad escape
onto-place : (most b : ℕ) (r : Result (List ℕ) ℕ) → IfErr r (λ at. at ≤ most) → IfErr (onto b r) (λ at. at ≤ most)
onto-place most b (Ok bs) le = tt
onto-place most b (Err at) le = le

-- a bad escape stands in the bytes
unescaped-place : (at most : ℕ) (bs : List ℕ) → at + length bs ≤ most → IfErr (unescaped at bs) (λ i. i ≤ most)
unescaped-place at most [] le = tt
unescaped-place at most (b ∷ []) le = by (b == 92)
  where
    by : (t : Bool) → IfErr (cond t (Err at) (Ok (b ∷ []))) (λ i. i ≤ most)
    by true = omega arith
    by false = tt
unescaped-place at most (b ∷ c ∷ bs) le =
    by (b == 92) (escape c) (unescaped-place (at + 2) most bs (omega arith)) (unescaped-place (at + 1) most (c ∷ bs) (omega arith))
  where
    by : (t : Bool) (o : Option ℕ) → IfErr (unescaped (at + 2) bs) (λ i. i ≤ most) → IfErr (unescaped (at + 1) (c ∷ bs)) (λ i. i ≤ most)
        → IfErr (cond t (onto_escape at o (unescaped (at + 2) bs)) (onto b (unescaped (at + 1) (c ∷ bs)))) (λ i. i ≤ most)
    by true None behind next = omega arith
    by true (Some e) behind next = onto-place most e (unescaped (at + 2) bs) behind
    by false o behind next = onto-place most b (unescaped (at + 1) (c ∷ bs)) next

-- a number is refused at its start
number_kind-place : (most n : ℕ) (k : IntKind) → Within most (number_kind n k)
number_kind-place most n k = by (nat_lt n (top k))
  where
    by : (t : Bool) → Within most (cond t (Ok (T.Number (record { kind = k; value = n }))) (Err (E.BadNumber, 0)))
    by true = tt
    by false = omega arith

-- a text is refused at its bad escape
text_kind-place : (most : ℕ) (r : Result (List ℕ) ℕ) → IfErr r (λ at. at ≤ most) → Within most (text_kind r)
text_kind-place most (Ok bs) le = tt
text_kind-place most (Err at) le = le

-- what has the form of no token is refused at its start
abbrev FormWithin : ℕ → Option (Result TokenKind Refusal) → Type 0
FormWithin most o = Within most (kind_in o)

mapped-place : {A : Type 0} (most : ℕ) (f : A → Result TokenKind Refusal) (o : Option A) → ((x : A) → Within most (f x)) → FormWithin most (option_map f o)
mapped-place most f None each = omega arith
mapped-place most f (Some x) each = each x

tested-place : {A : Type 0} (most : ℕ) (f : A → Result TokenKind Refusal) (t : Bool) (x : A) → Within most (f x) → FormWithin most (option_map f (then_some t x))
tested-place most f true x within = within
tested-place most f false x within = omega arith

-- bytes that are no token are refused at a place in them
kind_of-place : (bs : List ℕ) → Within (length bs) (kind_of bs)
kind_of-place [] = omega arith
kind_of-place (b ∷ bs) =
    let inside : 1 + length (between_quotes (b ∷ bs)) ≤ suc (length bs) = omega (arith, length-take (suc (length bs) - 2) bs) in
    by (is_letter b) (is_digit b) (b == 36) (is_quote b) _ _ _ _ _
    (tested-place (suc (length bs)) (λ word. Ok (word_kind word (keyword_of word))) (is_word (b ∷ bs)) (b ∷ bs) tt)
    (mapped-place (suc (length bs)) (number_kind (fold digit_step 0 (digits (b ∷ bs)))) (suffix_kind (suffix (b ∷ bs)))
    (number_kind-place (suc (length bs)) (fold digit_step 0 (digits (b ∷ bs)))))
    (tested-place (suc (length bs)) (λ word. Ok (T.Dollar word)) (is_word bs) bs tt)
    (tested-place (suc (length bs)) (λ text. text_kind (unescaped 1 (between_quotes text))) (ends_text b false bs) (b ∷ bs)
    (text_kind-place (suc (length bs)) (unescaped 1 (between_quotes (b ∷ bs))) (unescaped-place 1 (suc (length bs)) (between_quotes (b ∷ bs)) inside)))
    (mapped-place (suc (length bs)) (λ s. Ok (T.Symbol s)) (symbol_of (b ∷ bs)) (λ s. tt))
  where
    by : (letter digit dollar quote : Bool) (word number parameter text symbol : Option (Result TokenKind Refusal))
        → FormWithin (suc (length bs)) word → FormWithin (suc (length bs)) number → FormWithin (suc (length bs)) parameter → FormWithin (suc (length bs)) text
        → FormWithin (suc (length bs)) symbol
        → FormWithin (suc (length bs)) (cond letter word (cond digit number (cond dollar parameter (cond quote text symbol))))
    by true digit dollar quote word number parameter text symbol w n p t s = w
    by false true dollar quote word number parameter text symbol w n p t s = n
    by false false true quote word number parameter text symbol w n p t s = p
    by false false false true word number parameter text symbol w n p t s = t
    by false false false false word number parameter text symbol w n p t s = s

-- a token of n bytes fits, and so does its refusal
as_front-fits : (most n : ℕ) (r : Result TokenKind Refusal) → 0 < n → n ≤ most → Within n r → Fits most (as_front n r)
as_front-fits most n (Ok k) some le within = (some, le)
as_front-fits most n (Err r) some le within = omega arith

-- so does the longest token
token_front-fits : (bs : List ℕ) (n : ℕ) → n ≤ length bs → Fits (length bs) (token_front bs n)
token_front-fits bs zero le = omega arith
token_front-fits bs (suc n) le =
    by (is_run_on bs (suc n)) (as_front-fits (length bs) (suc n) (kind_of (take (suc n) bs)) (omega arith) le
    (let all = length-take-le (suc n) bs le in rw all at (kind_of-place (take (suc n) bs))))
  where
    by : (t : Bool) → Fits (length bs) (as_front (suc n) (kind_of (take (suc n) bs)))
        → Fits (length bs) (cond t (Refuse E.BadNumber 0) (as_front (suc n) (kind_of (take (suc n) bs))))
    by true fits = omega arith
    by false fits = fits

-- and a comment
comment_front-fits : (most : ℕ) (o : Option ℕ) → IfSome o (λ n. n + 2 ≤ most) → Fits most (comment_front o)
comment_front-fits most None le = omega arith
comment_front-fits most (Some n) le = (omega arith, le)

-- what stands at the front fits in the bytes
pub front_fits : (bs : List ℕ) → 0 < length bs → Fits (length bs) (front bs)
unfolding front
front_fits [] some = absurd (omega arith)
front_fits (b ∷ bs) some =
    by (is_blank b) ((b == 47) && begins (λ c. c == 47) bs) ((b == 47) && begins (λ c. c == 42) bs) refl refl
  where
    behind : (p : ℕ → Bool) → ((b == 47) && begins p bs) ≡ true → 0 < length bs
    behind p e = begins-some p bs (and_parts (b == 47) (begins p bs) e).1

    closed : (o : Option ℕ) → 0 < length bs → IfSome o (λ n. n ≤ length (drop 1 bs)) → IfSome o (λ n. n + 2 ≤ suc (length bs))
    closed None some le = tt
    closed (Some n) some le = omega (arith, length-drop 1 bs)

    by : (blank line block : Bool) → ((b == 47) && begins (λ c. c == 47) bs) ≡ line → ((b == 47) && begins (λ c. c == 42) bs) ≡ block
        → Fits (suc (length bs)) (cond blank (Pass 1) (cond line (Pass (prefix_len (λ c. not (c == 10)) (drop 1 bs) + 2))
        (cond block (comment_front (comment_length (drop 1 bs))) (token_front (b ∷ bs) (longest_front (suc (length bs)) (b ∷ bs))))))
    by true line block l c = (omega arith, omega arith)
    by false true block l c =
        let some = behind (λ c. c == 47) l in
        let le = prefix_len-le-length (λ c. not (c == 10)) (drop 1 bs) in
        (omega arith, omega (arith, length-drop 1 bs))
    by false false true l c =
        comment_front-fits (suc (length bs)) (comment_length (drop 1 bs)) (closed (comment_length (drop 1 bs)) (behind (λ c. c == 42) c) (comment_length-le (drop 1 bs)))
    by false false false l c = token_front-fits (b ∷ bs) (longest_front (suc (length bs)) (b ∷ bs)) (longest_front-le (suc (length bs)) (b ∷ bs))

-- One step

-- the tokens after bytes that are taken already
passed-on : (n at : ℕ) (bs : List ℕ) → tokens_from n at bs ≡ tokens_from 0 (at + n) (drop n bs)
passed-on zero at bs = rw add-zero
passed-on (suc n) at [] = refl
passed-on (suc n) at (b ∷ bs) =
    let place : (at + 1) + n ≡ at + suc n = omega arith in passed-on n (at + 1) bs ∙ ap (λ m. tokens_from 0 m (drop n bs)) place

-- the first token is what stands at the front, and the others are the tokens after it
pub tokens_step : (at : ℕ) (bs : List ℕ) → 0 < length bs → tokens_from 0 at bs ≡ by_front (front bs) at (λ n. tokens_from 0 (at + n) (drop n bs))
tokens_step at [] some = absurd (omega arith)
tokens_step at (b ∷ bs) some = by (front (b ∷ bs)) (front_fits (b ∷ bs) some)
  where
    behind : (n : ℕ) → 0 < n → tokens_from (n - 1) (at + 1) bs ≡ tokens_from 0 (at + n) (drop n (b ∷ bs))
    behind zero some = absurd (omega arith)
    behind (suc n) some =
        let before : suc n - 1 ≡ n = omega arith in
        let place : (at + 1) + n ≡ at + suc n = omega arith in
        rw before (passed-on n (at + 1) bs ∙ ap (λ m. tokens_from 0 m (drop n bs)) place)

    by : (f : Front) → Fits (suc (length bs)) f → by_front f at (λ n. tokens_from (n - 1) (at + 1) bs) ≡ by_front f at (λ n. tokens_from 0 (at + n) (drop n (b ∷ bs)))
    by (Take k n) fits = ap (with_front (record { kind = k; start = at; end = at + n } ∷ [])) (behind n fits.0)
    by (Pass n) fits = behind n fits.0
    by (Refuse e i) fits = refl

-- tokens before others, and more before those
pub with_front-append : (a b : List Token) (r : Lexed) → with_front (a ++ b) r ≡ with_front a (with_front b r)
with_front-append a b (Ok ts) = ap Ok (append_assoc a b ts)
with_front-append a b (Err e) = refl

-- One step of a loop that has the tokens of the bytes before a place
module _ (bytes : List ℕ) (out : List Token) (at : ℕ) (inside : at < length bytes) where
  -- the tokens from there on begin with what stands there
  step : tokens_from 0 at (drop at bytes) ≡ by_front (front (drop at bytes)) at (λ n. tokens_from 0 (at + n) (drop n (drop at bytes)))
  step = tokens_step at (drop at bytes) (omega (arith, length-drop at bytes))

  -- a token is added after them
  pub take_step : (k : TokenKind) (n : ℕ) → front (drop at bytes) ≡ Take k n
      → with_front (out ++ record { kind = k; start = at; end = at + n } ∷ []) (tokens_from 0 (at + n) (drop (at + n) bytes))
      ≡ with_front out (tokens_from 0 at (drop at bytes))
  take_step k n e =
      with_front-append out (record { kind = k; start = at; end = at + n } ∷ []) (tokens_from 0 (at + n) (drop (at + n) bytes))
      ∙ ap (with_front out) (sym (step ∙ rw (e, drop-drop n at bytes) refl))

  -- a gap is passed
  pub pass_step : (n : ℕ) → front (drop at bytes) ≡ Pass n
      → with_front out (tokens_from 0 (at + n) (drop (at + n) bytes)) ≡ with_front out (tokens_from 0 at (drop at bytes))
  pass_step n e = ap (with_front out) (sym (step ∙ rw (e, drop-drop n at bytes) refl))

  -- a refusal is the answer
  pub refuse_step : (why : LexicalError) (i : ℕ) → front (drop at bytes) ≡ Refuse why i → with_front out (tokens_from 0 at (drop at bytes)) ≡ Err (why, at + i)
  refuse_step why i e = let refused : tokens_from 0 at (drop at bytes) ≡ Err (why, at + i) = step ∙ rw e in ap (with_front out) refused
