-- Numbers that exceed their type or run into a word.
use Rattle.std.proofs.Common.{◌≡◌, ◌∙◌, ℕ, zero, suc, ◌+◌, ◌-◌, ◌*◌, ◌<◌, ◌≤◌, ◌==◌, ◌&&◌, nat_lt, Bool, true, false, cond, List, [], ◌∷◌, ◌++◌, length, take, drop, fold, Option, Some, None, is_some, Result, Ok, Err, refl, sym, ap, ap₂, subst, true≢false, arith, append_assoc, append-nil, take-append-drop, lt-ltb, ltb-true}
use Rattle.std.proofs.Math.Seq.{take-append_seam, drop-append_seam}
use Rattle.std.specs.List.{list_all, prefix_len}
use Rattle.std.proofs.lemmas.Bool.{and_parts, and_right, eqb-true, false_from_ne_true}
use Rattle.std.proofs.lemmas.Bool.Decides.{nat_tests}
use Rattle.std.proofs.lemmas.List.Sums.{fold-append}
use Rattle.std.proofs.lemmas.List.Folds.{list_all-append}
use Rattle.spl_value.specs.declared.types.IntKind.{IntKind}
use Rattle.spl_value.specs.declared.types.IntKind.TheVariants.{I8, I16, I32, I64, U8, U16, U32, U64}
use Rattle.spl_value.specs.Values.{top}
use Rattle.spl_value.specs.Decimal.{is_digit, digit_step}
use Rattle.spl_tree.specs.declared.token.TokenKind.{TokenKind}
use Rattle.spl_tree.specs.declared.token.TokenKind.TheVariants as T
use Rattle.spl_tree.specs.declared.token.LexicalError.{LexicalError}
use Rattle.spl_tree.specs.declared.token.LexicalError.TheVariants as E
use Rattle.spl_tree.specs.Bytes.{is_word_byte, begins}
use Rattle.spl_tree.specs.Tokens.{Take, Refuse, Refusal, front, as_front, is_formed, kind_of, number_kind, digits, suffix, width_kind, suffix_kind, signed_kind, unsigned_kind}
use Rattle.spl_tree.specs.Laws.{IsToken}
use Rattle.spl_tree.specs.TokenLaws.{Fits}
use Rattle.spl_tree.proofs.TokenLaws.{front_fits, form_mapped}
use Rattle.spl_tree.proofs.GapLaws.{drop-prefix_len, prefix_len-append, take-prefix_len}
use Rattle.spl_tree.proofs.FrontLaws.{Stands, front_stands, token_front-is}
use Rattle.spl_lexer.specs.steps.Scanning.{suffix_ahead}
use Rattle.spl_lexer.proofs.Reach.{prefix_len-first}
use Rattle.spl_lexer.proofs.Fronts.{digit_letter, number_of, number_front}
use Rattle.lexical_laws.specs.Refusals as refusals
use Rattle.lexical_laws.specs.Refusals.{Decimal, none, digit, Sign, signed, unsigned, Width, int, int8, int16, int32, int64, uint, uint8, uint16, uint32, uint64, IsSuffix, IsNumber, number, Shows, bad_number}

-- ---- bytes at the front that pass a test

-- two fronts of bytes that pass, up to one that doesn't, are one
one_run : (p : ℕ → Bool) (a b rest others : List ℕ) → a ++ rest ≡ b ++ others → list_all p a ≡ true → begins p rest ≡ false → list_all p b ≡ true → begins p others ≡ false
    → a ≡ b
one_run p a b rest others same all stops every ends =
    let count : length a ≡ length b = sym (prefix_len-append p a rest all stops) ∙ ap (prefix_len p) same ∙ prefix_len-append p b others every ends in
    sym (take-append_seam a rest) ∙ ap₂ (λ n bs. take n bs) count same ∙ take-append_seam b others

-- ---- what digits say

-- digits that are read one by one, after others
decimal_from : (n : ℕ) (a ds : List ℕ) → Decimal n a → list_all is_digit ds ≡ true → Decimal (fold digit_step n ds) (a ++ ds)
decimal_from n a [] h all = rw append-nil h
decimal_from n a (d ∷ ds) h all =
    let both = and_parts (is_digit d) (list_all is_digit ds) all in
    let ten : 10 * n + (d - 48) ≡ n * 10 + (d - 48) = omega arith in
    subst (Decimal (fold digit_step (n * 10 + (d - 48)) ds)) (append_assoc a (d ∷ []) ds)
    (decimal_from (n * 10 + (d - 48)) (a ++ d ∷ []) ds (rw ten at (digit n a d h both.0)) both.1)

-- and what is said is read
decimal_read : {n : ℕ} {ds : List ℕ} → Decimal n ds → (fold digit_step 0 ds ≡ n) × (list_all is_digit ds ≡ true)
decimal_read none = (refl, refl)
decimal_read (digit n ds d h is) =
    let before = decimal_read h in
    let ten : n * 10 + (d - 48) ≡ 10 * n + (d - 48) = omega arith in
    (fold-append digit_step 0 ds (d ∷ []) ∙ ap (λ m. m * 10 + (d - 48)) before.0 ∙ ten, list_all-append is_digit ds (d ∷ []) ∙ rw (before.1, is) refl)

-- ---- suffixes

-- the width of a signed number is found, and of an unsigned one
signed_found : {k : IntKind} {b : List ℕ} → Width true k b → signed_kind b ≡ Some k
signed_found int = refl
signed_found int8 = refl
signed_found int16 = refl
signed_found int32 = refl
signed_found int64 = refl

unsigned_found : {k : IntKind} {b : List ℕ} → Width false k b → unsigned_kind b ≡ Some k
unsigned_found uint = refl
unsigned_found uint8 = refl
unsigned_found uint16 = refl
unsigned_found uint32 = refl
unsigned_found uint64 = refl

-- also without a sign
plain_found : {k : IntKind} {b : List ℕ} → Width true k b → suffix_kind b ≡ Some k
plain_found int = refl
plain_found int8 = refl
plain_found int16 = refl
plain_found int32 = refl
plain_found int64 = refl

-- a suffix says its kind
suffix_found : {k : IntKind} {letters : List ℕ} → IsSuffix k letters → suffix_kind letters ≡ Some k
suffix_found (refusals.suffix _ a b refusals.plain w) = plain_found w
suffix_found (refusals.suffix _ a b refusals.signed w) = signed_found w
suffix_found (refusals.suffix _ a b refusals.unsigned w) = unsigned_found w

-- what says a kind is a width
module _ (s : Bool) (tiny small middle wide : IntKind) (e : Width s middle []) (b : Width s tiny (98 ∷ [])) (h : Width s small (104 ∷ []))
    (w : Width s middle (119 ∷ [])) (l : Width s wide (108 ∷ [])) where
  width_is : (k : IntKind) (bs : List ℕ) → width_kind tiny small middle wide bs ≡ Some k → Width s k bs
  width_is k [] is = let same : middle ≡ k = cc in rw (← same) e
  width_is k (c ∷ []) is = by (c == 98) refl (c == 104) refl (c == 119) refl (c == 108) refl is
    where
      by : (p : Bool) → (c == 98) ≡ p → (q : Bool) → (c == 104) ≡ q → (r : Bool) → (c == 119) ≡ r → (t : Bool) → (c == 108) ≡ t
          → cond p (Some tiny) (cond q (Some small) (cond r (Some middle) (cond t (Some wide) None))) ≡ Some k → Width s k (c ∷ [])
      by true i q j r m t n is = let same : tiny ≡ k = cc in rw (eqb-true c 98 i, ← same) b
      by false i true j r m t n is = let same : small ≡ k = cc in rw (eqb-true c 104 j, ← same) h
      by false i false j true m t n is = let same : middle ≡ k = cc in rw (eqb-true c 119 m, ← same) w
      by false i false j false m true n is = let same : wide ≡ k = cc in rw (eqb-true c 108 n, ← same) l
      by false i false j false m false n is = absurd (cc)
  width_is k (c ∷ d ∷ bs) is = absurd (cc)

signed_is : (k : IntKind) (bs : List ℕ) → signed_kind bs ≡ Some k → Width true k bs
signed_is k bs is = width_is true I8 I16 I32 I64 int int8 int16 int32 int64 k bs is

unsigned_is : (k : IntKind) (bs : List ℕ) → unsigned_kind bs ≡ Some k → Width false k bs
unsigned_is k bs is = width_is false U8 U16 U32 U64 uint uint8 uint16 uint32 uint64 k bs is

-- what says a kind is a suffix
suffix_is : (k : IntKind) (letters : List ℕ) → suffix_kind letters ≡ Some k → IsSuffix k letters
suffix_is k [] is = let same : I32 ≡ k = cc in rw (← same) (refusals.suffix true [] [] refusals.plain int)
suffix_is k (b ∷ bs) is = by (b == 115) refl (b == 117) refl is
  where
    by : (p : Bool) → (b == 115) ≡ p → (q : Bool) → (b == 117) ≡ q → cond p (signed_kind bs) (cond q (unsigned_kind bs) (signed_kind (b ∷ bs))) ≡ Some k
        → IsSuffix k (b ∷ bs)
    by true i q j is = rw (eqb-true b 115 i) (refusals.suffix true (115 ∷ []) bs refusals.signed (signed_is k bs is))
    by false i true j is = rw (eqb-true b 117 j) (refusals.suffix false (117 ∷ []) bs refusals.unsigned (unsigned_is k bs is))
    by false i false j is = refusals.suffix true [] (b ∷ bs) refusals.plain (signed_is k (b ∷ bs) is)

-- a width is of letters, and begins with no digit
width_letters : {s : Bool} {k : IntKind} {b : List ℕ} → Width s k b → (list_all is_word_byte b ≡ true) × (begins is_digit b ≡ false)
width_letters int = (refl, refl)
width_letters _ = (refl, refl)

-- so is a suffix
suffix_letters : {k : IntKind} {letters : List ℕ} → IsSuffix k letters → (list_all is_word_byte letters ≡ true) × (begins is_digit letters ≡ false)
suffix_letters (refusals.suffix _ a b refusals.plain w) = width_letters w
suffix_letters (refusals.suffix _ a b refusals.signed w) = ((width_letters w).0, refl)
suffix_letters (refusals.suffix _ a b refusals.unsigned w) = ((width_letters w).0, refl)

-- ---- digits and what follows them

-- the digits at the front are those
digits-are : (ds rest : List ℕ) → list_all is_digit ds ≡ true → begins is_digit rest ≡ false → digits (ds ++ rest) ≡ ds
digits-are ds rest all stops = ap (λ n. take n (ds ++ rest)) (prefix_len-append is_digit ds rest all stops) ∙ take-append_seam ds rest

-- and the suffix is what follows
suffix-is : (ds rest : List ℕ) → list_all is_digit ds ≡ true → begins is_digit rest ≡ false → suffix (ds ++ rest) ≡ rest
suffix-is ds rest all stops = ap (λ n. drop n (ds ++ rest)) (prefix_len-append is_digit ds rest all stops) ∙ drop-append_seam ds rest

-- a digit belongs to a word
digit_word : (d : ℕ) → is_digit d ≡ true → is_word_byte d ≡ true
digit_word d h = grind (arith, nat_tests)

-- and so do digits
digits_words : (ds : List ℕ) → list_all is_digit ds ≡ true → list_all is_word_byte ds ≡ true
digits_words [] all = refl
digits_words (d ∷ ds) all =
    let both = and_parts (is_digit d) (list_all is_digit ds) all in
    let word : is_word_byte d ≡ true = digit_word d both.0 in
    rw word (digits_words ds both.1)

-- what a digit begins has the form of a token where it is a number by its suffix, and is that number
digit_formed : (bs : List ℕ) → begins is_digit bs ≡ true → is_formed bs ≡ is_some (suffix_kind (suffix bs))
digit_formed [] h = absurd (cc)
digit_formed (b ∷ bs) h = rw (digit_letter b h, h) (form_mapped _ _)

digit_kind : (bs : List ℕ) → begins is_digit bs ≡ true → kind_of bs ≡ number_of (fold digit_step 0 (digits bs)) (suffix_kind (suffix bs))
digit_kind [] h = absurd (cc)
digit_kind (b ∷ bs) h = rw (digit_letter b h, h) refl

begins-append : (p : ℕ → Bool) (a b : List ℕ) → begins p a ≡ true → begins p (a ++ b) ≡ true
begins-append p [] b e = absurd (cc)
begins-append p (x ∷ a) b e = e

-- a front that isn't empty begins as the bytes do
begins-take : (p : ℕ → Bool) (n : ℕ) (bs : List ℕ) → 0 < n → begins p (take n bs) ≡ begins p bs
begins-take p zero bs some = absurd (omega arith)
begins-take p (suc n) [] some = refl
begins-take p (suc n) (b ∷ bs) some = refl

-- ---- a number is taken

-- no digits begin with a slash
no_slash : (bs : List ℕ) → begins is_digit bs ≡ true → bs ≡ 47 ∷ [] → ⊥
no_slash bs h e = true≢false (sym h ∙ ap (begins is_digit) e)

-- with a byte more that belongs to no word a number is none
suffix_ends : (letters after : List ℕ) (n : ℕ) → 0 < n → n ≤ length after → begins is_word_byte after ≡ false → suffix_kind (letters ++ take n after) ≡ None
suffix_ends letters after zero some le stops = absurd (omega arith)
suffix_ends letters [] (suc n) some le stops = absurd (omega arith)
suffix_ends letters (x ∷ after) (suc n) some le stops = by (suffix_kind (letters ++ x ∷ take n after)) refl
  where
    by : (o : Option IntKind) → suffix_kind (letters ++ x ∷ take n after) ≡ o → o ≡ None
    by None e = refl
    by (Some k) e =
        let words = (suffix_letters (suffix_is k (letters ++ x ∷ take n after) e)).0 in
        let parts = and_parts (list_all is_word_byte letters) (list_all is_word_byte (x ∷ take n after)) (sym (list_all-append is_word_byte letters (x ∷ take n after)) ∙ words) in
        let word = (and_parts (is_word_byte x) (list_all is_word_byte (take n after)) parts.1).0 in
        absurd (true≢false (sym word ∙ stops))

-- no digit where no word goes on
no_digit : (letters after : List ℕ) → begins is_digit letters ≡ false → begins is_word_byte after ≡ false → begins is_digit (letters ++ after) ≡ false
no_digit [] [] e stops = refl
no_digit [] (x ∷ after) e stops = false_from_ne_true (is_digit x) (λ h. absurd (true≢false (sym (digit_word x h) ∙ stops)))
no_digit (x ∷ letters) after e stops = e

module _ (n : ℕ) (ds letters : List ℕ) (k : IntKind) (h : begins is_digit ds ≡ true) (d : Decimal n ds) (s : IsSuffix k letters) (small : n < top k) where
  -- digits and suffix of a number, with more after it
  number_suffix : (rest : List ℕ) → begins is_digit (letters ++ rest) ≡ false → suffix ((ds ++ letters) ++ rest) ≡ letters ++ rest
  number_suffix rest stops = ap suffix (append_assoc ds letters rest) ∙ suffix-is ds (letters ++ rest) (decimal_read d).1 stops

  number_is : kind_of (ds ++ letters) ≡ Ok (T.Number (record { kind = k; value = n }))
  number_is =
      let stops = (suffix_letters s).1 in
      digit_kind (ds ++ letters) (begins-append is_digit ds letters h)
      ∙ ap₂ (λ (cs : List ℕ) (o : Option IntKind). number_of (fold digit_step 0 cs) o) (digits-are ds letters (decimal_read d).1 stops)
      (ap suffix_kind (suffix-is ds letters (decimal_read d).1 stops) ∙ suffix_found s)
      ∙ ap (λ m. number_kind m k) (decimal_read d).0
      ∙ rw (lt-ltb n (top k) small) refl

  pub number_token : (after : List ℕ) → begins is_word_byte after ≡ false → IsToken (T.Number (record { kind = k; value = n })) (ds ++ letters) after
  number_token after stops = record {
    formed =
        digit_formed (ds ++ letters) (begins-append is_digit ds letters h)
        ∙ ap (λ o. is_some (suffix_kind o)) (suffix-is ds letters (decimal_read d).1 (suffix_letters s).1) ∙ ap (λ o. is_some o) (suffix_found s);
    longest = λ m some le.
        digit_formed ((ds ++ letters) ++ take m after) (begins-append is_digit (ds ++ letters) (take m after) (begins-append is_digit ds letters h))
        ∙ ap (λ o. is_some (suffix_kind o)) (number_suffix (take m after) (no_digit letters (take m after) (suffix_letters s).1 (shorter m after stops)))
        ∙ ap (λ o. is_some o) (suffix_ends letters after m some le stops);
    apart = ap (λ t. begins is_digit (ds ++ letters) && t) stops ∙ and_right (begins is_digit (ds ++ letters)) false refl;
    no_comment = λ e. absurd (no_slash (ds ++ letters) (begins-append is_digit ds letters h) e);
    is = number_is;
  }
    where
      shorter : (m : ℕ) (after : List ℕ) → begins is_word_byte after ≡ false → begins is_word_byte (take m after) ≡ false
      shorter zero after e = refl
      shorter (suc m) [] e = refl
      shorter (suc m) (x ∷ after) e = e

-- so a number that ends where no word goes on isn't refused
number_stands : {run : List ℕ} → IsNumber run → (after : List ℕ) → begins is_word_byte after ≡ false → (e : LexicalError) (i : ℕ) → front (run ++ after) ≡ Refuse e i → ⊥
number_stands (number n ds letters k h d s small) after stops e i r =
    let clash : Take (T.Number (record { kind = k; value = n })) (length (ds ++ letters)) ≡ Refuse e i
    = sym (token_front-is (T.Number (record { kind = k; value = n })) (ds ++ letters) after (number_token n ds letters k h d s small after stops)) ∙ r in
    cc

-- ---- what a digit begins

-- a number is refused at its start, or taken
data Stood (bs : List ℕ) : Type 0 where
  refused : front bs ≡ Refuse E.BadNumber 0 → Stood bs
  stood : (kind : TokenKind) (n : ℕ) → front bs ≡ Take kind n → Stood bs

digit_stands : (bs : List ℕ) → begins is_digit bs ≡ true → Stood bs
digit_stands bs h =
    let n = prefix_len is_digit bs in
    let s = suffix_ahead (drop n bs) in
    by (n + s.1) (fold digit_step 0 (take n bs)) s.0 (begins is_word_byte (drop (n + s.1) bs)) (nat_lt (fold digit_step 0 (take n bs)) (top s.0)) (number_front bs h)
  where
    by : (end v : ℕ) (k : IntKind) (run small : Bool)
        → front bs ≡ cond run (Refuse E.BadNumber 0) (as_front end (cond small (Ok (T.Number (record { kind = k; value = v }))) (Err (E.BadNumber, 0)))) → Stood bs
    by end v k true small is = refused is
    by end v k false true is = stood (T.Number (record { kind = k; value = v })) end is
    by end v k false false is = refused is

-- bytes that are that number: digits and a suffix
pub record Numbered (bs : List ℕ) (kind : TokenKind) : Type 0 where
  pub n : ℕ
  pub ds : List ℕ
  pub letters : List ℕ
  pub k : IntKind
  pub begun : begins is_digit ds ≡ true
  pub says : Decimal n ds
  pub suffix : IsSuffix k letters
  pub small : n < top k
  pub are : ds ++ letters ≡ bs
  pub is : T.Number (record { kind = k; value = n }) ≡ kind

pub numbered : (bs : List ℕ) (kind : TokenKind) → begins is_digit bs ≡ true → kind_of bs ≡ Ok kind → Numbered bs kind
numbered bs kind h is = by (suffix_kind (suffix bs)) refl (sym (digit_kind bs h) ∙ is)
  where
    some : begins is_digit (digits bs) ≡ true
    some = begins-take is_digit (prefix_len is_digit bs) bs (prefix_len-first is_digit bs h) ∙ h

    by : (o : Option IntKind) → suffix_kind (suffix bs) ≡ o → number_of (fold digit_step 0 (digits bs)) o ≡ Ok kind → Numbered bs kind
    by None e is = absurd (cc)
    by (Some k) e is = by_size (nat_lt (fold digit_step 0 (digits bs)) (top k)) refl is
      where
        by_size : (t : Bool) → nat_lt (fold digit_step 0 (digits bs)) (top k) ≡ t
            → cond {A = Result TokenKind Refusal} t (Ok (T.Number (record { kind = k; value = fold digit_step 0 (digits bs) }))) (Err (E.BadNumber, 0)) ≡ Ok kind
            → Numbered bs kind
        by_size false small is = absurd (cc)
        by_size true small is = record {
          n = fold digit_step 0 (digits bs);
          ds = digits bs;
          letters = suffix bs;
          k = k;
          begun = some;
          says = decimal_from 0 [] (digits bs) none (take-prefix_len is_digit bs);
          suffix = suffix_is k (suffix bs) e;
          small = ltb-true (fold digit_step 0 (digits bs)) (top k) small;
          are = take-append-drop (prefix_len is_digit bs) bs;
          is = cc;
        }

-- so they are a number, and belong to words
kind_number : (bs : List ℕ) (kind : TokenKind) → begins is_digit bs ≡ true → kind_of bs ≡ Ok kind → IsNumber bs × (list_all is_word_byte bs ≡ true)
kind_number bs kind h is =
    let d = numbered bs kind h is in
    let words : list_all is_word_byte (d.ds ++ d.letters) ≡ true
    = list_all-append is_word_byte d.ds d.letters ∙ rw (digits_words d.ds (decimal_read d.says).1, (suffix_letters d.suffix).0) refl in
    (subst IsNumber d.are (number d.n d.ds d.letters d.k d.begun d.says d.suffix d.small), subst (λ cs. list_all is_word_byte cs ≡ true) d.are words)

-- ---- what stands at the front

-- a run of letters, digits and `_` that a digit begins, and is no number, is refused
pub number_refused : (run after : List ℕ) → begins is_digit run ≡ true → list_all is_word_byte run ≡ true → begins is_word_byte after ≡ false → (IsNumber run → ⊥)
    → front (run ++ after) ≡ Refuse E.BadNumber 0
number_refused run after h words stops none_is = by (digit_stands (run ++ after) (begins-append is_digit run after h))
  where
    some : (bs : List ℕ) → begins is_digit bs ≡ true → 0 < length bs
    some [] h = absurd (cc)
    some (b ∷ bs) h = omega arith

    token : (kind : TokenKind) (n : ℕ) → 0 < n → IsToken kind (take n (run ++ after)) (drop n (run ++ after)) → ⊥
    token kind n positive t =
        let bs = run ++ after in
        let first : begins is_digit (take n bs) ≡ true = begins-take is_digit n bs positive ∙ begins-append is_digit run after h in
        let both = kind_number (take n bs) kind first t.is in
        let ends : begins is_word_byte (drop n bs) ≡ false = sym (ap (λ t. t && begins is_word_byte (drop n bs)) first) ∙ t.apart in
        let same : run ≡ take n bs = one_run is_word_byte run (take n bs) after (drop n bs) (sym (take-append-drop n bs)) words stops both.1 ends in
        none_is (subst IsNumber (sym same) both.0)

    by : Stood (run ++ after) → front (run ++ after) ≡ Refuse E.BadNumber 0
    by (refused is) = is
    by (stood kind n is) =
        let long : 0 < length (run ++ after) = some (run ++ after) (begins-append is_digit run after h) in
        let fits : Fits (length (run ++ after)) (Take kind n) = subst (Fits (length (run ++ after))) is (front_fits (run ++ after) long) in
        let t : Stands (run ++ after) (Take kind n) = subst (Stands (run ++ after)) is (front_stands (run ++ after) long) in
        absurd (token kind n fits.0 t)

-- and where what a digit begins is refused, it is such a run
pub number_shows : (bs : List ℕ) (e : LexicalError) (i : ℕ) → begins is_digit bs ≡ true → front bs ≡ Refuse e i → Shows bs e i
number_shows bs e i h r = by (digit_stands bs h)
  where
    run : List ℕ
    run = take (prefix_len is_word_byte bs) bs

    after : List ℕ
    after = drop (prefix_len is_word_byte bs) bs

    are : run ++ after ≡ bs
    are = take-append-drop (prefix_len is_word_byte bs) bs

    word : (bs : List ℕ) → begins is_digit bs ≡ true → begins is_word_byte bs ≡ true
    word [] h = absurd (cc)
    word (b ∷ bs) h = digit_word b h

    shows : Shows (run ++ after) E.BadNumber 0
    shows = bad_number run after (begins-take is_digit (prefix_len is_word_byte bs) bs (prefix_len-first is_word_byte bs (word bs h)) ∙ h) (take-prefix_len is_word_byte bs) (drop-prefix_len is_word_byte bs)
        (λ number. number_stands number after (drop-prefix_len is_word_byte bs) e i (ap front are ∙ r))

    by : Stood bs → Shows bs e i
    by (refused is) =
        let same : Refuse E.BadNumber 0 ≡ Refuse e i = sym is ∙ r in
        let why : E.BadNumber ≡ e = cc in
        let place : 0 ≡ i = cc in
        subst (λ cs. Shows cs e i) are (rw (← why, ← place) shows)
    by (stood kind n is) = let same : Take kind n ≡ Refuse e i = sym is ∙ r in absurd (cc)
