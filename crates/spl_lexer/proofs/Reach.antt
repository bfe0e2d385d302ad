-- How far what stands at the front goes, by the kinds of tokens.
use Rattle.std.proofs.Common.{ℕ, zero, suc, ◌≡◌, ◌+◌, ◌-◌, ◌<◌, ◌≤◌, ◌==◌, ◌&&◌, Bool, true, false, cond, List, [], ◌∷◌, length, take, drop, Option, Some, None, refl, ap, ◌∙◌, inl, inr, add-one, arith}
use Rattle.std.specs.List.{list_all, prefix_len, find}
use Rattle.std.specs.Prelude.{min, nat_le, bytes_eq, option_map}
use Rattle.std.proofs.lemmas.List.{drop-take, take-take, drop_all, length-take, length-take-le}
use Rattle.std.proofs.lemmas.Bool.{cases_lt, cond_both, and_parts, false_from_ne_true, leb-true}
use Rattle.std.proofs.lemmas.Bool.Decides.{nat_tests}
use Rattle.std.proofs.lemmas.Slice.Eq.{bytes_eq-Decides}
use Rattle.spl_value.specs.declared.types.IntKind.{IntKind}
use Rattle.spl_value.specs.declared.types.IntKind.TheVariants.{I8, I16, I32, I64, U8, U16, U32, U64}
use Rattle.spl_value.specs.Decimal.{is_digit}
use Rattle.spl_tree.specs.declared.symbol.Symbol.{Symbol}
use Rattle.spl_tree.specs.Bytes.{is_letter, is_word_byte, begins}
use Rattle.spl_tree.specs.Words.{symbol_of, symbols, symbol_text}
use Rattle.spl_tree.specs.Tokens.{is_word, digits, suffix, suffix_kind, width_kind, signed_kind, unsigned_kind, ends_text, between_quotes}
use Rattle.spl_lexer.specs.steps.Scanning.{text_length, width_ahead, suffix_ahead, one_more, double_of}

-- Fronts that pass a test

-- how much of a front passes
pub prefix_len-take : (p : ℕ → Bool) (m : ℕ) (bs : List ℕ) → prefix_len p (take m bs) ≡ min m (prefix_len p bs)
prefix_len-take p zero bs = omega arith
prefix_len-take p (suc m) [] = omega arith
prefix_len-take p (suc m) (b ∷ bs) = by (p b) (prefix_len-take p m bs)
  where
    by : (t : Bool) → prefix_len p (take m bs) ≡ min m (prefix_len p bs)
        → cond t (1 + prefix_len p (take m bs)) 0 ≡ min (suc m) (cond t (1 + prefix_len p bs) 0)
    by true h = omega arith
    by false h = omega arith

-- whether all of a front passes
pub list_all-take : (p : ℕ → Bool) (m : ℕ) (bs : List ℕ) → m ≤ length bs → list_all p (take m bs) ≡ nat_le m (prefix_len p bs)
list_all-take p zero bs le = grind (arith, nat_tests)
list_all-take p (suc m) [] le = absurd (omega arith)
list_all-take p (suc m) (b ∷ bs) le = by (p b) (list_all-take p m bs (omega arith))
  where
    by : (t : Bool) → list_all p (take m bs) ≡ nat_le m (prefix_len p bs)
        → (t && list_all p (take m bs)) ≡ nat_le (suc m) (cond t (1 + prefix_len p bs) 0)
    by true h = rw h (grind (arith, nat_tests))
    by false h = grind (arith, nat_tests)

-- something passes, where the first byte does
pub prefix_len-first : (p : ℕ → Bool) (bs : List ℕ) → begins p bs ≡ true → 0 < prefix_len p bs
prefix_len-first p [] h = absurd (cc)
prefix_len-first p (b ∷ bs) h = rw h (omega arith)

-- Words

-- a letter belongs to a word
pub word_first : (bs : List ℕ) → begins is_letter bs ≡ true → begins is_word_byte bs ≡ true
word_first [] h = absurd (cc)
word_first (b ∷ bs) h = rw h refl

-- a front is a word up to the first byte that belongs to none
pub is_word-take : (m : ℕ) (bs : List ℕ) → begins is_letter bs ≡ true → 0 < m → m ≤ length bs
    → is_word (take m bs) ≡ nat_le m (prefix_len is_word_byte bs)
is_word-take zero bs h some within = absurd (omega arith)
is_word-take (suc m) [] h some within = absurd (omega arith)
is_word-take (suc m) (b ∷ bs) h some within = rw (list_all-take is_word_byte m bs (omega arith), h) (grind (arith, nat_tests))

-- no front is a word that no letter begins
pub is_word-none : (m : ℕ) (bs : List ℕ) → begins is_letter bs ≡ false → is_word (take m bs) ≡ false
is_word-none zero bs h = refl
is_word-none (suc m) [] h = refl
is_word-none (suc m) (b ∷ bs) h = rw h refl

-- Numbers

-- what comes after the digits of a front
pub suffix-take : (m : ℕ) (bs : List ℕ) → suffix (take m bs) ≡ take (m - prefix_len is_digit bs) (drop (prefix_len is_digit bs) bs)
suffix-take m bs = rw (prefix_len-take is_digit m bs) (by (prefix_len is_digit bs))
  where
    by : (n : ℕ) → drop (min m n) (take m bs) ≡ take (m - n) (drop n bs)
    by n = elim (cases_lt m n) [
      | inl lt ↦ let none : m - n ≡ 0 = omega arith in rw none (drop_all (min m n) (take m bs) (omega (arith, length-take m bs)))
      | inr le ↦ let least : min m n ≡ n = omega arith in let whole : m ≡ n + (m - n) = omega arith in
          rw least (ap (λ k. drop n (take k bs)) whole ∙ drop-take n (m - n) bs)
    ]

-- the digits of a front that has them all
pub digits-take : (m : ℕ) (bs : List ℕ) → prefix_len is_digit bs ≤ m → digits (take m bs) ≡ take (prefix_len is_digit bs) bs
digits-take m bs le = let least : min m (prefix_len is_digit bs) ≡ prefix_len is_digit bs = omega arith in
    rw (prefix_len-take is_digit m bs, least) (take-take (prefix_len is_digit bs) m bs le)

-- the longest front that is of a kind, by that kind and its length
pub record IsLongest (kind : List ℕ → Option IntKind) (bs : List ℕ) (found : IntKind × ℕ) : Type 0 where
  pub within : found.1 ≤ length bs
  pub here : kind (take found.1 bs) ≡ Some found.0
  pub beyond : (m : ℕ) → found.1 < m → m ≤ length bs → kind (take m bs) ≡ None

-- the letter of a width is the longest front that says one
width_ahead-longest : (tiny small middle wide : IntKind) (bs : List ℕ)
    → IsLongest (width_kind tiny small middle wide) bs (width_ahead tiny small middle wide bs)
width_ahead-longest tiny small middle wide [] = record { within = omega arith; here = refl; beyond = λ m more most. absurd (omega arith) }
width_ahead-longest tiny small middle wide (b ∷ bs) =
    cond_both (b == 98) _ _ Found (λ e. one tiny (rw e refl)) (λ e.
    cond_both (b == 104) _ _ Found (λ f. one small (rw (e, f) refl)) (λ f.
    cond_both (b == 119) _ _ Found (λ g. one middle (rw (e, f, g) refl)) (λ g.
    cond_both (b == 108) _ _ Found (λ h. one wide (rw (e, f, g, h) refl)) (λ h. none (rw (e, f, g, h) refl)))))
  where
    kind : List ℕ → Option IntKind
    kind = width_kind tiny small middle wide

    Found : IntKind × ℕ → Type 0
    Found = IsLongest kind (b ∷ bs)

    -- two bytes or more are of no kind
    two : (m : ℕ) (cs : List ℕ) → 0 < m → m ≤ length cs → kind (b ∷ take m cs) ≡ None
    two zero cs more most = absurd (omega arith)
    two (suc m) [] more most = absurd (omega arith)
    two (suc m) (c ∷ cs) more most = refl

    one : (k : IntKind) → kind (b ∷ []) ≡ Some k → Found (k, 1)
    one k e = record { within = omega arith; here = e; beyond = beyond }
      where
        beyond : (m : ℕ) → 1 < m → m ≤ suc (length bs) → kind (take m (b ∷ bs)) ≡ None
        beyond zero more most = absurd (omega arith)
        beyond (suc m) more most = two m bs (omega arith) (omega arith)

    none : kind (b ∷ []) ≡ None → Found (middle, 0)
    none e = record { within = omega arith; here = refl; beyond = beyond }
      where
        beyond : (m : ℕ) → 0 < m → m ≤ suc (length bs) → kind (take m (b ∷ bs)) ≡ None
        beyond zero more most = absurd (omega arith)
        beyond (suc zero) more most = e
        beyond (suc (suc m)) more most = two (suc m) bs (omega arith) (omega arith)

-- the suffix of a number is the longest one
pub suffix_ahead-longest : (bs : List ℕ) → IsLongest suffix_kind bs (suffix_ahead bs)
suffix_ahead-longest [] = record { within = omega arith; here = refl; beyond = λ m more most. absurd (omega arith) }
suffix_ahead-longest (b ∷ bs) =
    cond_both (b == 115) _ _ Found (λ e. behind signed_kind _ (λ cs. rw e refl) (width_ahead-longest I8 I16 I32 I64 bs)) (λ e.
    cond_both (b == 117) _ _ Found (λ f. behind unsigned_kind _ (λ cs. rw (e, f) refl) (width_ahead-longest U8 U16 U32 U64 bs)) (λ f.
    alone _ (λ cs. rw (e, f) refl) (width_ahead-longest I8 I16 I32 I64 (b ∷ bs))))
  where
    Found : IntKind × ℕ → Type 0
    Found = IsLongest suffix_kind (b ∷ bs)

    behind : (kind : List ℕ → Option IntKind) (found : IntKind × ℕ) → ((cs : List ℕ) → suffix_kind (b ∷ cs) ≡ kind cs)
        → IsLongest kind bs found → Found (one_more found)
    behind kind found same h =
        record { within = omega (arith, h.within); here = rw (add-one found.1) (same (take found.1 bs) ∙ h.here); beyond = beyond }
      where
        beyond : (m : ℕ) → found.1 + 1 < m → m ≤ suc (length bs) → suffix_kind (take m (b ∷ bs)) ≡ None
        beyond zero more most = absurd (omega arith)
        beyond (suc m) more most = same (take m bs) ∙ h.beyond m (omega arith) (omega arith)

    alone : (found : IntKind × ℕ) → ((cs : List ℕ) → suffix_kind (b ∷ cs) ≡ signed_kind (b ∷ cs)) → IsLongest signed_kind (b ∷ bs) found → Found found
    alone found same h = record { within = h.within; here = each found.1 ∙ h.here; beyond = λ m more most. each m ∙ h.beyond m more most }
      where
        each : (m : ℕ) → suffix_kind (take m (b ∷ bs)) ≡ signed_kind (take m (b ∷ bs))
        each zero = refl
        each (suc m) = same (take m bs)

-- Texts

-- whether that is the length, where there is one
abbrev pub is_length : ℕ → Option ℕ → Bool
is_length m None = false
is_length m (Some n) = m == n

-- the quote that closes a text is within the bytes
pub text_length_within : (quote : ℕ) (escaped : Bool) (bs : List ℕ) (n : ℕ) → text_length quote escaped bs ≡ Some n → (0 < n) × (n ≤ length bs)
text_length_within quote escaped [] n e = absurd (cc)
text_length_within quote escaped (b ∷ bs) n e = by (b == 10) escaped (b == quote) (λ escaped n. text_length_within quote escaped bs n) e
  where
    more : (o : Option ℕ) → ((k : ℕ) → o ≡ Some k → (0 < k) × (k ≤ length bs)) → option_map suc o ≡ Some n → (0 < n) × (n ≤ suc (length bs))
    more None h e = absurd (cc)
    more (Some k) h e = let same : suc k ≡ n = cc in let here : (0 < k) × (k ≤ length bs) = h k refl in (omega arith, omega arith)

    by : (feed escaped quoted : Bool) → ((escaped : Bool) (k : ℕ) → text_length quote escaped bs ≡ Some k → (0 < k) × (k ≤ length bs))
        → cond feed None (cond escaped (option_map suc (text_length quote false bs))
        (cond quoted (Some 1) (option_map suc (text_length quote (b == 92) bs)))) ≡ Some n
        → (0 < n) × (n ≤ suc (length bs))
    by true escaped quoted h e = absurd (cc)
    by false true quoted h e = more (text_length quote false bs) (h false) e
    by false false true h e = let same : 1 ≡ n = cc in (omega arith, omega arith)
    by false false false h e = more (text_length quote (b == 92) bs) (h (b == 92)) e

-- a front ends with the quote that closes the text where it is as long as the text
pub ends_text-take : (quote : ℕ) (escaped : Bool) (m : ℕ) (bs : List ℕ) → m ≤ length bs
    → ends_text quote escaped (take m bs) ≡ is_length m (text_length quote escaped bs)
ends_text-take quote escaped zero bs within = by (text_length quote escaped bs) refl
  where
    by : (o : Option ℕ) → text_length quote escaped bs ≡ o → false ≡ is_length 0 o
    by None e = refl
    by (Some n) e = let here = text_length_within quote escaped bs n e in grind (arith, nat_tests)
ends_text-take quote escaped (suc m) [] within = absurd (omega arith)
ends_text-take quote escaped (suc m) (b ∷ bs) within = by (b == 10) escaped (b == quote) (λ escaped. ends_text-take quote escaped m bs (omega arith))
  where
    more : (o : Option ℕ) → is_length m o ≡ is_length (suc m) (option_map suc o)
    more None = refl
    more (Some n) = grind (arith, nat_tests)

    by : (feed escaped quoted : Bool) → ((escaped : Bool) → ends_text quote escaped (take m bs) ≡ is_length m (text_length quote escaped bs))
        → cond feed false (cond escaped (ends_text quote false (take m bs)) (cond quoted (length (take m bs) == 0) (ends_text quote (b == 92) (take m bs))))
        ≡ is_length (suc m) (cond feed None (cond escaped (option_map suc (text_length quote false bs))
        (cond quoted (Some 1) (option_map suc (text_length quote (b == 92) bs)))))
    by true escaped quoted h = refl
    by false true quoted h = h false ∙ more (text_length quote false bs)
    by false false true h = rw (length-take-le m bs (omega arith)) (grind (arith, nat_tests))
    by false false false h = h (b == 92) ∙ more (text_length quote (b == 92) bs)

-- what stands between the quotes of a front
pub between_quotes-take : (quote n : ℕ) (bs : List ℕ) → n ≤ length bs → between_quotes (quote ∷ take n bs) ≡ take (n - 1) bs
between_quotes-take quote n bs within = let size : suc (length (take n bs)) - 2 ≡ n - 1 = omega (arith, length-take-le n bs within) in
    rw size (take-take (n - 1) n bs (omega arith))

-- Symbols

-- p finds nothing where each element passes q, and none that passes q passes p
find_none : {X : Type 0} (p q : X → Bool) (xs : List X) → ((x : X) → q x ≡ true → p x ≡ false) → list_all q xs ≡ true → find p xs ≡ None
find_none p q [] apart h = refl
find_none p q (x ∷ xs) apart h = let parts = and_parts (q x) (list_all q xs) h in rw (apart x parts.0) (find_none p q xs apart parts.1)

-- no symbol has three bytes or more
symbol_of-long : (text : List ℕ) → 2 < length text → symbol_of text ≡ None
symbol_of-long text long = find_none (λ s. bytes_eq (symbol_text s) text) (λ s. nat_le (length (symbol_text s)) 2) symbols apart refl
  where
    apart : (s : Symbol) → nat_le (length (symbol_text s)) 2 ≡ true → bytes_eq (symbol_text s) text ≡ false
    apart s h = false_from_ne_true _ (λ e.
        let same : symbol_text s ≡ text = (bytes_eq-Decides _ _).0 e in omega (arith, ap length same, leb-true _ _ h))

-- no front of more than two bytes is a symbol
pub symbol_beyond_two : (b : ℕ) (bs : List ℕ) (m : ℕ) → 1 < m → m ≤ length bs → symbol_of (b ∷ take m bs) ≡ None
symbol_beyond_two b bs m more within = symbol_of-long (b ∷ take m bs) (omega (arith, length-take-le m bs within))

-- where the first two bytes are no symbol, no front of more than one byte is one
pub symbol_beyond_one : (b : ℕ) (bs : List ℕ) → double_of (b ∷ bs) ≡ None → (m : ℕ) → 0 < m → m ≤ length bs → symbol_of (b ∷ take m bs) ≡ None
symbol_beyond_one b bs e zero more within = absurd (omega arith)
symbol_beyond_one b [] e (suc m) more within = absurd (omega arith)
symbol_beyond_one b (c ∷ bs) e (suc zero) more within = e
symbol_beyond_one b (c ∷ bs) e (suc (suc m)) more within = symbol_beyond_two b (c ∷ bs) (suc (suc m)) (omega arith) within

-- the symbol of the first two bytes is that of two bytes
pub double_of-some : (b : ℕ) (bs : List ℕ) (s : Symbol) → double_of (b ∷ bs) ≡ Some s → (0 < length bs) × (symbol_of (b ∷ take 1 bs) ≡ Some s)
double_of-some b [] s e = absurd (cc)
double_of-some b (c ∷ bs) s e = (omega arith, e)
