-- How the bytes of a key determine its values: the proofs of the laws on keys.
use Rattle.std.specs.Prelude.{◌≡◌, ℕ, zero, suc, ◌+◌, ◌-◌, ◌^◌, ◌<◌, ◌≤◌, ◌==◌, ◌&&◌, ◌||◌, ◌++◌, ℤ, pos, negsuc, Bool, true, false, List, [], ◌∷◌, length, map, filter, unsigned_abs, slice_get, Option, Some, None, if◌then◌else◌}
use Rattle.std.specs.Int.{from_le_bytes, w64, int_rem_euclid}
use Rattle.std.specs.List.{cons_option, enumerate_from}
use Rattle.std.specs.Cmp.Lexicographic.{pointwise}
use Rattle.std.proofs.Common.{refl, sym, ap, ◌∙◌, arith, append_assoc, cond, subst}
use Rattle.std.proofs.lemmas.Bool.{eqb-true}
use Rattle.std.proofs.lemmas.Nat.{from_le_bytes-to_le_bytes_8}
use Rattle.spl_value.specs.declared.types.IntKind.{IntKind}
use Rattle.spl_value.specs.declared.types.IntKind.TheVariants.{I8, I16, I32, I64, U8, U16, U32, U64}
use Rattle.spl_value.specs.declared.types.SplType.{SplType}
use Rattle.spl_value.specs.declared.types.SplType.TheOpen as T
use Rattle.spl_value.specs.declared.types.SplType.TheOpen.{SplType-F}
use Rattle.spl_value.specs.declared.types.SplType.TheViews.{out-SplType}
use Rattle.spl_value.specs.declared.value.Value.{Value}
use Rattle.spl_value.specs.declared.value.Value.TheOpen as O
use Rattle.spl_value.specs.declared.value.Value.TheOpen.{Value-F}
use Rattle.spl_value.specs.declared.value.Value.TheViews.{out-Value, roll-Value, roll-out-Value}
use Rattle.spl_value.specs.Values.{modulus, top, kind_holds, level_fits, fits}
use Rattle.spl_value.proofs.FitsLaws.{fits_is}
use Rattle.spl_value.proofs.WrapLaws.{sizes}
use Rattle.spl_value.specs.Key.{level_is_key, is_key_option, are_key_places, key_of, has_place, enc_integer, level_enc, enc_value, enc_values, level_is_key_type, is_key_type, level_is_short, is_short, key_fits}
use Rattle.spl_value.specs.KeyLaws.{KeyPlacesLaw, KeyTypesLaw, OneKeyLaw, SameBytesLaw, SamePlacesLaw}
use Rattle.spl_value.proofs.Bools.{and_left as first, and_right as second, true_lt}

-- ---- words

cons_head : (x y : ℕ) (xs ys : List ℕ) → x ∷ xs ≡ y ∷ ys → x ≡ y
cons_head x y xs ys e = cc

cons_tail : (x y : ℕ) (xs ys : List ℕ) → x ∷ xs ≡ y ∷ ys → xs ≡ ys
cons_tail x y xs ys e = cc

-- ---- the values at the places

some_more : (o : Option Value) (os : List (Option Value)) (vs : List Value) → is_key_option o ≡ true → map Some vs ≡ os → map Some (cons_option o vs) ≡ o ∷ os
some_more (Some v) os vs h e = ap (λ l. Some v ∷ l) e
some_more None os vs h e = absurd cc

pub key_places : KeyPlacesLaw
key_places tuple [] h = refl
key_places tuple (p ∷ key) h =
    some_more (slice_get tuple p) (map (slice_get tuple) key) (key_of tuple key)
    (first (is_key_option (slice_get tuple p)) (are_key_places tuple key) h)
    (key_places tuple key (second (is_key_option (slice_get tuple p)) (are_key_places tuple key) h))

level_key_types : (t : SplType-F SplType) (v : Value-F Value) → level_is_key_type t ≡ true → level_fits fits t v ≡ true → level_is_key v ≡ true
level_key_types (T.Int k) (O.Int n) h g = refl
level_key_types T.Bool (O.Bool b) h g = refl
level_key_types T.Text (O.Text bytes) h g = refl
level_key_types _ _ h g = absurd cc

pub key_types : KeyTypesLaw
key_types t v h g = level_key_types (out-SplType t) (out-Value v) h (sym (fits_is t v) ∙ g)

pub same_places : SamePlacesLaw
same_places tuple key places e =
    let same : has_place key ≡ has_place places = λ i p. e p i in
    ap (λ (has : ℕ → Bool). enc_values (map (λ (at : ℕ × Value). at.1) (filter (λ (at : ℕ × Value). has at.0) (enumerate_from 0 tuple)))) same

-- the values from a place on whose places the key has
abbrev pub chosen_from : List ℕ → ℕ → List Value → List Value
chosen_from key n vs = map (λ at. at.1) (filter (λ at. has_place key at.0) (enumerate_from n vs))

-- from a place on, what stands at the key's places
abbrev pub SameFrom : List ℕ → ℕ → List Value → List Value → Type 0
SameFrom key n vs ws = (p : ℕ) → has_place key (n + p) ≡ true → slice_get vs p ≡ slice_get ws p

taken : (b : Bool) (n : ℕ) (v : Value) (rest : List (ℕ × Value)) → map (λ (at : ℕ × Value). at.1) (cond b ((n, v) ∷ rest) rest) ≡ cond b (v ∷ map (λ (at : ℕ × Value). at.1) rest) (map (λ (at : ℕ × Value). at.1) rest)
taken true n v rest = refl
taken false n v rest = refl

later : (key : List ℕ) (n : ℕ) (v w : Value) (vs ws : List Value) → SameFrom key n (v ∷ vs) (w ∷ ws) → SameFrom key (n + 1) vs ws
later key n v w vs ws same p h = same (suc p) (ap (has_place key) (omega arith) ∙ h)

same_head : (v w : Value) → Some v ≡ Some w → v ≡ w
same_head v w e = cc

one_chosen : (b : Bool) (v w : Value) (vs ws : List Value) → (b ≡ true → v ≡ w) → vs ≡ ws → cond b (v ∷ vs) vs ≡ cond b (w ∷ ws) ws
one_chosen true v w vs ws same e = λ i. same refl i ∷ e i
one_chosen false v w vs ws same e = e

none : (b : Bool) (w : Value) (ws : List Value) → (b ≡ true → None ≡ Some w) → cond b (w ∷ ws) ws ≡ ws
none true w ws e = let bad : None ≡ Some w = e refl in absurd cc
none false w ws e = refl

nothing : (w : Value) (ws : List Value) (p : ℕ) → slice_get [] (suc p) ≡ slice_get (w ∷ ws) (suc p) → slice_get [] p ≡ slice_get ws p
nothing w ws zero e = e
nothing w ws (suc p) e = e

-- nothing that stands there is at the key's places
none_chosen : (key : List ℕ) (n : ℕ) (ws : List Value) → SameFrom key n [] ws → chosen_from key n ws ≡ []
none_chosen key n [] same = refl
none_chosen key n (w ∷ ws) same =
    taken (has_place key n) n w (filter (λ at. has_place key at.0) (enumerate_from (n + 1) ws))
    ∙ none (has_place key n) w (chosen_from key (n + 1) ws) (λ h. same 0 (ap (has_place key) (omega arith) ∙ h))
    ∙ none_chosen key (n + 1) ws (λ p h. nothing w ws p (same (suc p) (ap (has_place key) (omega arith) ∙ h)))

pub same_chosen : (key : List ℕ) (n : ℕ) (vs ws : List Value) → SameFrom key n vs ws → chosen_from key n vs ≡ chosen_from key n ws
same_chosen key n [] ws same = sym (none_chosen key n ws same)
same_chosen key n (v ∷ vs) [] same = none_chosen key n (v ∷ vs) (λ p h. sym (same p h))
same_chosen key n (v ∷ vs) (w ∷ ws) same =
    taken (has_place key n) n v (filter (λ at. has_place key at.0) (enumerate_from (n + 1) vs))
    ∙ one_chosen (has_place key n) v w (chosen_from key (n + 1) vs) (chosen_from key (n + 1) ws)
    (λ h. same_head v w (same 0 (ap (has_place key) (omega arith) ∙ h)))
    (same_chosen key (n + 1) vs ws (later key n v w vs ws same))
    ∙ sym (taken (has_place key n) n w (filter (λ at. has_place key at.0) (enumerate_from (n + 1) ws)))

-- where two lists have the same values at a key's places, they have the same value at each of them
read_alike : (tuple other : List Value) (key : List ℕ) → map (slice_get tuple) key ≡ map (slice_get other) key → (p : ℕ) → has_place key p ≡ true → slice_get tuple p ≡ slice_get other p
read_alike tuple other [] e p h = absurd cc
read_alike tuple other (q ∷ key) e p h =
    let here : slice_get tuple q ≡ slice_get other q = cc in
    let rest : map (slice_get tuple) key ≡ map (slice_get other) key = cc in
    go (q == p) refl h here (read_alike tuple other key rest p) where
      go : (b : Bool) → (q == p) ≡ b → (b || has_place key p) ≡ true → slice_get tuple q ≡ slice_get other q
          → (has_place key p ≡ true → slice_get tuple p ≡ slice_get other p) → slice_get tuple p ≡ slice_get other p
      go true is h here rest = subst (λ z. slice_get tuple z ≡ slice_get other z) (eqb-true q p is) here
      go false is h here rest = rest h

pub same_bytes : SameBytesLaw
same_bytes tuple other key h g e =
    let alike : map (slice_get tuple) key ≡ map (slice_get other) key = sym (key_places tuple key h) ∙ ap (map Some) e ∙ key_places other key g in
    ap enc_values (same_chosen key 0 tuple other (λ p has. read_alike tuple other key alike p (ap (has_place key) (omega arith) ∙ has)))

-- ---- bytes one after another

-- equal bytes that are cut at the same place have equal parts
split : (xs ys us vs : List ℕ) → length xs ≡ length ys → xs ++ us ≡ ys ++ vs → (xs ≡ ys) × (us ≡ vs)
split [] [] us vs h e = (refl, e)
split [] (y ∷ ys) us vs h e = absurd (omega arith)
split (x ∷ xs) [] us vs h e = absurd (omega arith)
split (x ∷ xs) (y ∷ ys) us vs h e =
    let t = split xs ys us vs (omega arith) (cons_tail x y (xs ++ us) (ys ++ vs) e) in
    (λ i. cons_head x y (xs ++ us) (ys ++ vs) e i ∷ t.0 i, t.1)

-- ---- integers

abbrev residue : ℤ → ℕ
residue n = unsigned_abs (int_rem_euclid n (pos (2 ^ 64)))

residue_small : (n : ℤ) → residue n < 2 ^ 64
residue_small (pos n) = omega arith
residue_small (negsuc n) = omega arith

at_most : (k : IntKind) → modulus k ≤ 2 ^ 64
at_most I8 = omega arith
at_most I16 = omega arith
at_most I32 = omega arith
at_most I64 = omega arith
at_most U8 = omega arith
at_most U16 = omega arith
at_most U32 = omega arith
at_most U64 = omega arith

-- numbers of one kind that are equal modulo 2^64 are equal
same_residue : (k : IntKind) (m n : ℤ) → kind_holds k m ≡ true → kind_holds k n ≡ true → residue m ≡ residue n → m ≡ n
same_residue k (pos m) (pos n) h g e =
    let s = sizes k in let q = at_most k in let a = true_lt m (top k) h in let b = true_lt n (top k) g in ap pos (omega arith)
same_residue k (pos m) (negsuc n) h g e =
    let s = sizes k in let q = at_most k in let a = true_lt m (top k) h in let b = true_lt n (modulus k - top k) g in absurd (omega arith)
same_residue k (negsuc m) (pos n) h g e =
    let s = sizes k in let q = at_most k in let a = true_lt m (modulus k - top k) h in let b = true_lt n (top k) g in absurd (omega arith)
same_residue k (negsuc m) (negsuc n) h g e =
    let s = sizes k in let q = at_most k in let a = true_lt m (modulus k - top k) h in let b = true_lt n (modulus k - top k) g in ap negsuc (omega arith)

same_integer_bytes : (m n : ℤ) → enc_integer m ≡ enc_integer n → residue m ≡ residue n
same_integer_bytes m n e =
    sym (from_le_bytes-to_le_bytes_8 (residue m) (residue_small m))
    ∙ ap (from_le_bytes w64) e
    ∙ from_le_bytes-to_le_bytes_8 (residue n) (residue_small n)

pub integer_apart : (m n : ℤ) (us vs : List ℕ) → enc_integer m ++ us ≡ enc_integer n ++ vs → (residue m ≡ residue n) × (us ≡ vs)
integer_apart m n us vs e = let s = split (enc_integer m) (enc_integer n) us vs refl e in (same_integer_bytes m n s.0, s.1)

-- ---- one value

abbrev level_key_fits : SplType-F SplType → Value-F Value → Bool
level_key_fits t v = level_is_key_type t && level_fits fits t v && level_is_short v

-- whatever bytes follow, those of v and those of w are apart where v and w are
abbrev Apart : (v w : Value-F Value) → Type 0
Apart v w = (us vs : List ℕ) → level_enc v ++ us ≡ level_enc w ++ vs → (v ≡ w) × (us ≡ vs)

int_apart : (k : IntKind) (v w : Value-F Value) → level_key_fits (T.Int k) v ≡ true → level_key_fits (T.Int k) w ≡ true → Apart v w
int_apart k (O.Int m) (O.Int n) h g us vs e =
    let s = integer_apart m n us vs e in (ap O.Int (same_residue k m n (first (kind_holds k m) true h) (first (kind_holds k n) true g) s.0), s.1)
int_apart k (O.Int m) _ h g us vs e = absurd cc
int_apart k _ _ h g us vs e = absurd cc

abbrev byte_of : Bool → ℕ
byte_of b = if b then 1 else 0

bool_byte : (b c : Bool) → byte_of b ≡ byte_of c → b ≡ c
bool_byte true true e = refl
bool_byte true false e = absurd (omega arith)
bool_byte false true e = absurd (omega arith)
bool_byte false false e = refl

bool_apart : (v w : Value-F Value) → level_key_fits T.Bool v ≡ true → level_key_fits T.Bool w ≡ true → Apart v w
bool_apart (O.Bool b) (O.Bool c) h g us vs e =
    (ap O.Bool (bool_byte b c (cons_head (byte_of b) (byte_of c) us vs e)), cons_tail (byte_of b) (byte_of c) us vs e)
bool_apart (O.Bool b) _ h g us vs e = absurd cc
bool_apart _ _ h g us vs e = absurd cc

text_bytes_apart : (s t us vs : List ℕ) → length s < 2 ^ 64 → length t < 2 ^ 64
    → (enc_integer (pos (length s)) ++ s) ++ us ≡ (enc_integer (pos (length t)) ++ t) ++ vs → (s ≡ t) × (us ≡ vs)
text_bytes_apart s t us vs h g e =
    let i = integer_apart (pos (length s)) (pos (length t)) (s ++ us) (t ++ vs)
    (sym (append_assoc (enc_integer (pos (length s))) s us) ∙ e ∙ append_assoc (enc_integer (pos (length t))) t vs) in
    let long : length s ≡ length t = omega (arith, i.0) in
    split s t us vs long i.1

text_apart : (v w : Value-F Value) → level_key_fits T.Text v ≡ true → level_key_fits T.Text w ≡ true → Apart v w
text_apart (O.Text s) (O.Text t) h g us vs e =
    let b = text_bytes_apart s t us vs (true_lt (length s) (2 ^ 64) h) (true_lt (length t) (2 ^ 64) g) e in (ap O.Text b.0, b.1)
text_apart (O.Text s) _ h g us vs e = absurd cc
text_apart _ _ h g us vs e = absurd cc

level_apart : (t : SplType-F SplType) (v w : Value-F Value) → level_key_fits t v ≡ true → level_key_fits t w ≡ true → Apart v w
level_apart (T.Int k) v w h g = int_apart k v w h g
level_apart T.Bool v w h g = bool_apart v w h g
level_apart T.Text v w h g = text_apart v w h g
level_apart _ v w h g = absurd cc

by_level : (t : SplType) (v : Value) → key_fits t v ≡ true → level_key_fits (out-SplType t) (out-Value v) ≡ true
by_level t v h = sym (ap (λ b. is_key_type t && b && is_short v) (fits_is t v)) ∙ h

pub value_apart : (t : SplType) (v w : Value) (us vs : List ℕ) → key_fits t v ≡ true → key_fits t w ≡ true
    → enc_value v ++ us ≡ enc_value w ++ vs → (v ≡ w) × (us ≡ vs)
value_apart t v w us vs h g e =
    let a = level_apart (out-SplType t) (out-Value v) (out-Value w) (by_level t v h) (by_level t w g) us vs e in
    (sym (roll-out-Value v) ∙ ap roll-Value a.0 ∙ roll-out-Value w, a.1)

-- ---- values in a row

pub one_key : OneKeyLaw
one_key [] [] [] h g e = refl
one_key [] [] (w ∷ ws) h g e = absurd cc
one_key [] (v ∷ vs) ws h g e = absurd cc
one_key (t ∷ ts) [] ws h g e = absurd cc
one_key (t ∷ ts) (v ∷ vs) [] h g e = absurd cc
one_key (t ∷ ts) (v ∷ vs) (w ∷ ws) h g e =
    let a = value_apart t v w (enc_values vs) (enc_values ws)
    (first (key_fits t v) (pointwise key_fits ts vs) h) (first (key_fits t w) (pointwise key_fits ts ws) g) e in
    let rest = one_key ts vs ws (second (key_fits t v) (pointwise key_fits ts vs) h) (second (key_fits t w) (pointwise key_fits ts ws) g) a.1 in
    λ i. a.0 i ∷ rest i
