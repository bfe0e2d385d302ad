-- The front says a gap or a token exactly where one stands there.
use Rattle.std.proofs.Common.{◌≡◌, ◌∙◌, ℕ, zero, suc, ◌+◌, ◌-◌, ◌<◌, ◌≤◌, ◌==◌, ◌&&◌, ◌||◌, not, Bool, true, false, cond, List, [], ◌∷◌, ◌++◌, length, take, drop, Option, Some, None, Result, Ok, Err, refl, sym, ap, ap₂, inl, inr, true≢false, arith, length-append, length-drop, take-add, take-append-drop}
use Rattle.std.proofs.Math.Seq.{take-append_seam, drop-append_seam, take-append-add}
use Rattle.std.specs.List.{prefix_len}
use Rattle.std.proofs.lemmas.Bool.{and_parts, or_from, or_parts, cases_order, eqb-true, false_from_ne_true}
use Rattle.spl_value.specs.Decimal.{is_digit}
use Rattle.spl_tree.specs.declared.token.TokenKind.{TokenKind}
use Rattle.spl_tree.specs.declared.token.LexicalError.TheVariants as E
use Rattle.spl_tree.specs.Bytes.{is_blank, is_word_byte, begins}
use Rattle.spl_tree.specs.Tokens.{Refusal, is_formed, kind_of, longest_front, Front, Take, Pass, Refuse, as_front, is_run_on, token_front, comment_length, comment_front, front}
use Rattle.spl_tree.specs.Laws.{Gap, blank, IsToken}
use Rattle.spl_tree.proofs.TokenLaws.{longest_front-le, longest_front-formed, longest_front-above}
use Rattle.spl_tree.proofs.GapLaws.{begins-is, line_gap, block_gap}

-- what the front says of the bytes
abbrev pub Stands : List ℕ → Front → Type 0
Stands bs (Take k n) = IsToken k (take n bs) (drop n bs)
Stands bs (Pass n) = Gap (take n bs) (drop n bs)
Stands bs (Refuse e i) = Unit {0}

-- a front that isn't empty begins as the bytes do
first-take : (p : ℕ → Bool) (n : ℕ) (bs : List ℕ) → begins p (take (suc n) bs) ≡ begins p bs
first-take p n [] = refl
first-take p n (b ∷ bs) = refl

-- a slash that is no more than a slash begins no comment
abbrev NoComment : List ℕ → List ℕ → Type 0
NoComment text rest = text ≡ 47 ∷ [] → begins (λ c. (c == 47) || (c == 42)) rest ≡ false

-- the longest front that has the form of a token
longest_stands : (bs : List ℕ) (n : ℕ) → longest_front (length bs) bs ≡ suc n → is_run_on bs (suc n) ≡ false
    → NoComment (take (suc n) bs) (drop (suc n) bs) → Stands bs (as_front (suc n) (kind_of (take (suc n) bs)))
longest_stands bs n e apart no_comment = by (kind_of (take (suc n) bs)) refl
  where
    more : (m : ℕ) → 0 < m → m ≤ length (drop (suc n) bs) → is_formed (take (suc n) bs ++ take m (drop (suc n) bs)) ≡ false
    more m some le =
        ap is_formed (sym (take-add (suc n) m bs))
        ∙ longest_front-above (length bs) (suc n + m) bs (omega arith) (omega (arith, length-drop (suc n) bs, longest_front-le (length bs) bs))

    by : (r : Result TokenKind Refusal) → kind_of (take (suc n) bs) ≡ r → Stands bs (as_front (suc n) r)
    by (Ok k) is = record {
      formed = rw e at (longest_front-formed (length bs) bs (omega arith));
      longest = more;
      apart = ap (λ digit. digit && begins is_word_byte (drop (suc n) bs)) (first-take is_digit n bs) ∙ apart;
      no_comment = no_comment;
      is = is;
    }
    by (Err refusal) is = tt

-- where no comment begins
token_stands : (bs : List ℕ) → ((n : ℕ) → NoComment (take (suc n) bs) (drop (suc n) bs)) → Stands bs (token_front bs (longest_front (length bs) bs))
token_stands bs no_comment = by (longest_front (length bs) bs) refl
  where
    by : (n : ℕ) → longest_front (length bs) bs ≡ n → Stands bs (token_front bs n)
    by zero e = tt
    by (suc n) e = by_run (is_run_on bs (suc n)) refl
      where
        by_run : (t : Bool) → is_run_on bs (suc n) ≡ t → Stands bs (cond t (Refuse E.BadNumber 0) (as_front (suc n) (kind_of (take (suc n) bs))))
        by_run true run = tt
        by_run false run = longest_stands bs n e run (no_comment n)

-- no slash and no star
neither : (bs : List ℕ) → begins (λ c. c == 47) bs ≡ false → begins (λ c. c == 42) bs ≡ false → begins (λ c. (c == 47) || (c == 42)) bs ≡ false
neither [] slash star = refl
neither (b ∷ bs) slash star = or_from (b == 47) (b == 42) slash star

-- where neither comment begins, a slash that is a token begins none
slash_alone : (b : ℕ) (bs : List ℕ) → ((b == 47) && begins (λ c. c == 47) bs) ≡ false → ((b == 47) && begins (λ c. c == 42) bs) ≡ false
    → (n : ℕ) → NoComment (take (suc n) (b ∷ bs)) (drop (suc n) (b ∷ bs))
slash_alone b bs line block n e =
    let slash : b ≡ 47 = cc in
    let none : take n bs ≡ [] = cc in
    let all : drop n bs ≡ bs = ap (λ cs. cs ++ drop n bs) (sym none) ∙ take-append-drop n bs in
    rw all (neither bs (rw slash at line) (rw slash at block))

-- what stands at the front is what the front says
pub front_stands : (bs : List ℕ) → 0 < length bs → Stands bs (front bs)
unfolding front
front_stands [] some = absurd (omega arith)
front_stands (b ∷ bs) some =
    by (is_blank b) refl ((b == 47) && begins (λ c. c == 47) bs) refl ((b == 47) && begins (λ c. c == 42) bs) refl
  where
    by_block : (o : Option ℕ) → comment_length (drop 1 bs) ≡ o → b ≡ 47 → bs ≡ 42 ∷ drop 1 bs → Stands (b ∷ bs) (comment_front o)
    by_block None e slash star = tt
    by_block (Some n) e slash star = rw (slash, star) (block_gap (drop 1 bs) n e)

    by : (blank : Bool) → is_blank b ≡ blank → (line : Bool) → ((b == 47) && begins (λ c. c == 47) bs) ≡ line → (block : Bool) → ((b == 47) && begins (λ c. c == 42) bs) ≡ block
        → Stands (b ∷ bs) (cond blank (Pass 1) (cond line (Pass (prefix_len (λ c. not (c == 10)) (drop 1 bs) + 2))
        (cond block (comment_front (comment_length (drop 1 bs))) (token_front (b ∷ bs) (longest_front (suc (length bs)) (b ∷ bs))))))
    by true e line l block c = blank b bs e
    by false e true l block c =
        let both = and_parts (b == 47) (begins (λ c. c == 47) bs) l in
        rw (eqb-true b 47 both.0, begins-is 47 bs both.1) (line_gap (drop 1 bs))
    by false e false l true c =
        let both = and_parts (b == 47) (begins (λ c. c == 42) bs) c in
        by_block (comment_length (drop 1 bs)) refl (eqb-true b 47 both.0) (begins-is 42 bs both.1)
    by false e false l false c = token_stands (b ∷ bs) (slash_alone b bs l c)

-- The other way round: a token is what the front says

-- the longest front is the one that has the form of a token and that no longer one has
pub longest_front-is : (n m : ℕ) (bs : List ℕ) → m ≤ n → is_formed (take m bs) ≡ true → ((j : ℕ) → m < j → j ≤ n → is_formed (take j bs) ≡ false)
    → longest_front n bs ≡ m
longest_front-is n m bs le formed more = elim (cases_order (longest_front n bs) m) [
  | inl same ↦ same
  | inr (inl less) ↦ absurd (true≢false (sym formed ∙ longest_front-above n m bs less le))
  | inr (inr longer) ↦ absurd (true≢false (sym (longest_front-formed n bs (omega arith)) ∙ more (longest_front n bs) longer (longest_front-le n bs)))
]

-- the longest token at the front is a text that has the form of one, and has none with more bytes after it
longest_front-append : (text rest : List ℕ) → is_formed text ≡ true → ((n : ℕ) → 0 < n → n ≤ length rest → is_formed (text ++ take n rest) ≡ false)
    → longest_front (length (text ++ rest)) (text ++ rest) ≡ length text
longest_front-append text rest formed more =
    longest_front-is (length (text ++ rest)) (length text) (text ++ rest) (omega (arith, length-append text rest))
    (rw (take-append_seam text rest) formed) (λ j above le.
    let j_is : j ≡ length text + (j - length text) = omega arith in
    ap (λ n. is_formed (take n (text ++ rest))) j_is ∙ ap is_formed (take-append-add text rest (j - length text))
    ∙ more (j - length text) (omega arith) (omega (arith, length-append text rest)))

-- a front that is a token is taken
token_front-take : (kind : TokenKind) (bs : List ℕ) (n : ℕ) → 0 < n → is_run_on bs n ≡ false → kind_of (take n bs) ≡ Ok kind → token_front bs n ≡ Take kind n
token_front-take kind bs zero some run is = absurd (omega arith)
token_front-take kind bs (suc n) some run is = rw (run, is)

-- a byte that no token begins with
apart_from : (n b : ℕ) (bs : List ℕ) → is_formed (n ∷ bs) ≡ false → is_formed (b ∷ bs) ≡ true → (b == n) ≡ false
apart_from n b bs unformed formed = false_from_ne_true (b == n) (λ e.
    let same : b ≡ n = eqb-true b n e in
    true≢false (sym formed ∙ ap (λ c. is_formed (c ∷ bs)) same ∙ unformed))

-- no token begins with a blank
no_blank : (b : ℕ) (bs : List ℕ) → is_formed (b ∷ bs) ≡ true → is_blank b ≡ false
no_blank b bs formed = rw (apart_from 32 b bs refl formed, apart_from 9 b bs refl formed, apart_from 13 b bs refl formed, apart_from 10 b bs refl formed)

-- a slash and a byte that follows it in no token
no_opening : (c b : ℕ) (bs rest : List ℕ) → ((cs : List ℕ) → is_formed (47 ∷ c ∷ cs) ≡ false) → is_formed (b ∷ bs) ≡ true
    → (b ∷ bs ≡ 47 ∷ [] → begins (λ d. d == c) rest ≡ false) → ((b == 47) && begins (λ d. d == c) (bs ++ rest)) ≡ false
no_opening c b bs rest unformed formed alone =
    false_from_ne_true ((b == 47) && begins (λ d. d == c) (bs ++ rest)) (λ e. by bs formed alone (and_parts (b == 47) (begins (λ d. d == c) (bs ++ rest)) e))
  where
    by : (bs : List ℕ) → is_formed (b ∷ bs) ≡ true → (b ∷ bs ≡ 47 ∷ [] → begins (λ d. d == c) rest ≡ false)
        → ((b == 47) ≡ true) × (begins (λ d. d == c) (bs ++ rest) ≡ true) → ⊥
    by [] formed alone both = true≢false (sym both.1 ∙ alone (ap (λ a. a ∷ []) (eqb-true b 47 both.0)))
    by (d ∷ bs) formed alone both =
        true≢false (sym formed ∙ ap₂ (λ a e. is_formed (a ∷ e ∷ bs)) (eqb-true b 47 both.0) (eqb-true d c both.1) ∙ unformed bs)

-- neither is no slash
no_slash : (bs : List ℕ) → begins (λ c. (c == 47) || (c == 42)) bs ≡ false → begins (λ c. c == 47) bs ≡ false
no_slash [] e = refl
no_slash (b ∷ bs) e = (or_parts (b == 47) (b == 42) e).0

-- and no star
no_star : (bs : List ℕ) → begins (λ c. (c == 47) || (c == 42)) bs ≡ false → begins (λ c. c == 42) bs ≡ false
no_star [] e = refl
no_star (b ∷ bs) e = (or_parts (b == 47) (b == 42) e).1

-- where the first three tests fail
last : {A : Type 0} (x y z : Bool) (a b c d : A) → x ≡ false → y ≡ false → z ≡ false → cond x a (cond y b (cond z c d)) ≡ d
last x y z a b c d first second third = rw (first, second, third)

-- the front takes a token
pub token_front-is : (kind : TokenKind) (text rest : List ℕ) → IsToken kind text rest → front (text ++ rest) ≡ Take kind (length text)
unfolding front
token_front-is kind [] rest t = absurd (true≢false (sym t.formed))
token_front-is kind (b ∷ bs) rest t =
    let line = no_opening 47 b bs rest (λ cs. refl) t.formed (λ e. no_slash rest (t.no_comment e)) in
    let block = no_opening 42 b bs rest (λ cs. refl) t.formed (λ e. no_star rest (t.no_comment e)) in
    let run = ap (λ cs. is_digit b && begins is_word_byte cs) (drop-append_seam bs rest) ∙ t.apart in
    let is = ap (λ cs. kind_of (b ∷ cs)) (take-append_seam bs rest) ∙ t.is in
    last (is_blank b) ((b == 47) && begins (λ c. c == 47) (bs ++ rest)) ((b == 47) && begins (λ c. c == 42) (bs ++ rest)) _ _ _ _ (no_blank b bs t.formed) line block
    ∙ ap (token_front (b ∷ (bs ++ rest))) (longest_front-append (b ∷ bs) rest t.formed t.longest)
    ∙ token_front-take kind (b ∷ (bs ++ rest)) (suc (length bs)) (omega arith) run is
