-- Steps of reading.
use Rattle.std.specs.Prelude.{◌≡◌, ◌≢◌, ◌<◌, ◌+◌, ◌-◌, ◌==◌, ◌||◌, not, zero, suc, ℕ, ℤ, Bool, cond, true, false, IsTrue, List, [], ◌∷◌, ◌++◌, length, take, drop, Option, Some, None, option_map}
use Rattle.std.specs.Option.{option_and_then}
use Rattle.std.specs.List.{prefix_len}
use Rattle.std.specs.Int.{w128}
use Rattle.std.proofs.Common.{refl, sym, ap, subst, ◌∙◌, append_assoc, arith, get_or, inl, inr, to_z, of_z}
use Rattle.std.proofs.lemmas.Bool.{cases_Bool, eqb-true}
use Rattle.std.proofs.lemmas.List.{append-nil, drop-drop}
use Rattle.spl_value.proofs.Lists.{drop_at}
use Rattle.spl_value.proofs.Widths.{kept_in_128}
use Rattle.spl_value.specs.declared.types.IntKind.{IntKind}
use Rattle.spl_value.specs.declared.types.Named.{Named}
use Rattle.spl_value.specs.declared.types.SplType.{SplType}
use Rattle.spl_value.specs.declared.types.SplType.TheVariants as S
use Rattle.spl_value.specs.declared.value.Value.{Value}
use Rattle.spl_value.specs.declared.value.Value.TheVariants as V
use Rattle.spl_value.specs.Decimal.{in_kind, integer, integer_of}
use Rattle.spl_value.specs.Values.{kind_holds}
use Rattle.txt_format.specs.declared.reading.TxtRow.TheVariants as R
use Rattle.txt_format.specs.Escapes.{is_plain}
use Rattle.txt_format.specs.steps.Bytes.{is_part, past_blanks, past_byte}
use Rattle.txt_format.specs.steps.Reading.{as_other, begun_row, ended_row, past_separator, push, push_pair, read_inside, read_int, read_fields, read_items, read_map, read_pair_of, read_text, read_value, tuple_row}
use Rattle.txt_format.proofs.ReadingLaws.{read_of_pairs}

-- ---- integers

pub in_kind_holds : (k : IntKind) (m : Option ℤ) (n : ℤ) → in_kind k m ≡ Some n → IsTrue (kind_holds k n)
in_kind_holds k None n e = absurd (cc)
in_kind_holds k (Some m) n e = elim (cases_Bool (kind_holds k m)) [
  | inl holds ↦ let h : Some m ≡ Some n = sym (rw holds refl) ∙ e in let same : m ≡ n = cc h in ap (kind_holds k) (sym same) ∙ holds
  | inr other ↦ absurd (let h : None ≡ Some n = sym (rw other refl) ∙ e in cc h)
]

-- a number of a kind is kept in 128 bits
pub kept : (k : IntKind) (field : List ℕ) (n : ℤ) → integer_of k field ≡ Some n → to_z w128 (of_z w128 n) ≡ n
kept k field n e = kept_in_128 k n (in_kind_holds k (integer field) n e)

front : (at end p : ℕ) → end ≡ at + p → end - at ≡ p
front at end p e = omega (arith, e)

pub int_none : (k : IntKind) (line : List ℕ) (at end : ℕ) (vs : List Value) → end ≡ at + prefix_len is_part (drop at line)
    → integer_of k (take (end - at) (drop at line)) ≡ None → as_other (push vs) (read_int k (drop at line)) ≡ None
int_none k line at end vs e h =
    let p = prefix_len is_part (drop at line) in
    let h2 : integer_of k (take p (drop at line)) ≡ None = ap (λ m. integer_of k (take m (drop at line))) (sym (front at end p e)) ∙ h in
    ap (λ o. as_other (push vs) (option_map (λ n. (V.Int n, drop p (drop at line))) o)) h2

pub int_some : (k : IntKind) (line : List ℕ) (at end : ℕ) (vs new : List Value) (n : ℤ) → end ≡ at + prefix_len is_part (drop at line)
    → integer_of k (take (end - at) (drop at line)) ≡ Some n → new ≡ vs ++ V.Int n ∷ [] → as_other (push vs) (read_int k (drop at line)) ≡ Some (new, drop end line)
int_some k line at end vs new n e h is =
    let p = prefix_len is_part (drop at line) in
    let h2 : integer_of k (take p (drop at line)) ≡ Some n = ap (λ m. integer_of k (take m (drop at line))) (sym (front at end p e)) ∙ h in
    let rest : drop p (drop at line) ≡ drop end line = drop-drop p at line ∙ ap (λ m. drop m line) (sym e) in
    ap (λ o. as_other (push vs) (option_map (λ m. (V.Int m, drop p (drop at line))) o)) h2
    ∙ (λ i. Some (sym is i, rest i))

-- ---- texts

-- the bytes up to the closing quote stand for themselves
pub inside_plain : (bs read rest : List ℕ) → drop (prefix_len is_plain bs) bs ≡ 34 ∷ rest → read_inside false read bs ≡ Some (read ++ take (prefix_len is_plain bs) bs, rest)
inside_plain [] read rest e = absurd (cc)
inside_plain (b ∷ bs) read rest e = by (b == 34) refl (b == 92) refl (b == 10) refl (inside_plain bs (read ++ b ∷ []) rest) e
  where
    one_more : (n : ℕ) → 1 + n ≡ suc n
    one_more n = omega arith

    by : (p : Bool) → (b == 34) ≡ p → (q : Bool) → (b == 92) ≡ q → (r : Bool) → (b == 10) ≡ r
        → (drop (prefix_len is_plain bs) bs ≡ 34 ∷ rest → read_inside false (read ++ b ∷ []) bs ≡ Some ((read ++ b ∷ []) ++ take (prefix_len is_plain bs) bs, rest))
        → drop (cond (not (p || (q || r))) (1 + prefix_len is_plain bs) 0) (b ∷ bs) ≡ 34 ∷ rest
        → cond p (Some (read, bs)) (cond q (read_inside true read bs) (cond r None (read_inside false (read ++ b ∷ []) bs)))
        ≡ Some (read ++ take (cond (not (p || (q || r))) (1 + prefix_len is_plain bs) 0) (b ∷ bs), rest)
    by true i q j r k later h = let s : bs ≡ rest = cc in λ t. Some (sym (append-nil read) t, s t)
    by false i true j r k later h = absurd (let x : b ≡ 34 = cc in let y : b ≡ 92 = eqb-true b 92 j in let z : 34 ≡ 92 = sym x ∙ y in cc)
    by false i false j true k later h = absurd (let x : b ≡ 34 = cc in let y : b ≡ 10 = eqb-true b 10 k in let z : 34 ≡ 10 = sym x ∙ y in cc)
    by false i false j false k later h =
        let n = prefix_len is_plain bs in
        let h2 : drop n bs ≡ 34 ∷ rest = ap (λ m. drop m (b ∷ bs)) (sym (one_more n)) ∙ h in
        later h2
        ∙ (λ t. Some (append_assoc read (b ∷ []) (take n bs) t, rest))
        ∙ ap (λ m. Some (read ++ take m (b ∷ bs), rest)) (sym (one_more n))

pub text_plain : (line : List ℕ) (at end : ℕ) (vs new : List Value) (text : List ℕ) → end ≡ at + prefix_len is_plain (drop at line) → end < length line → get_or line end 0 ≡ 34
    → text ≡ take (end - at) (drop at line) → new ≡ vs ++ V.Text text ∷ []
    → as_other (λ bytes. push vs (V.Text bytes)) (read_inside false [] (drop at line)) ≡ Some (new, drop (end + 1) line)
text_plain line at end vs new text e within quote is last =
    let p = prefix_len is_plain (drop at line) in
    let rest : drop p (drop at line) ≡ drop end line = drop-drop p at line ∙ ap (λ m. drop m line) (sym e) in
    let from : drop p (drop at line) ≡ 34 ∷ drop (end + 1) line = rest ∙ drop_at line end (get_or line end 0) within (sym (get_here line end 0 within)) ∙ ap (λ b. b ∷ drop (end + 1) line) quote in
    let text2 : text ≡ take p (drop at line) = is ∙ ap (λ m. take m (drop at line)) (front at end p e) in
    ap (as_other (λ bytes. push vs (V.Text bytes))) (inside_plain (drop at line) [] (drop (end + 1) line) from)
    ∙ (λ i. Some ((ap (λ t. vs ++ V.Text t ∷ []) (sym text2) ∙ sym last) i, drop (end + 1) line))
  where
    get_here : (xs : List ℕ) (i d : ℕ) → i < length xs → get_or xs i (get_or xs i d) ≡ get_or xs i d
    get_here [] i d h = absurd (omega (arith, h))
    get_here (x ∷ xs) zero d h = refl
    get_here (x ∷ xs) (suc i) d h = get_here xs i d (omega (arith, h))

pub text_behind : (vs : List Value) (bytes behind : List ℕ) → past_byte 34 bytes ≡ Some behind
    → as_other (λ b. push vs (V.Text b)) (read_inside false [] behind) ≡ as_other (push vs) (read_text bytes)
text_behind vs bytes behind e =
    joined (read_inside false [] behind) ∙ sym (ap (λ o. as_other (push vs) (option_and_then (λ from. as_other V.Text (read_inside false [] from)) o)) e)
  where
    joined : (r : Option (List ℕ × List ℕ)) → as_other (λ b. push vs (V.Text b)) r ≡ as_other (push vs) (as_other V.Text r)
    joined None = refl
    joined (Some r) = refl

-- ---- elements

-- what was read, where it was added to something
pub then_other : {A B : Type 0} (f : A → B) (read : Option (A × List ℕ)) (y : B) (rest : List ℕ) → as_other f read ≡ Some (y, rest) → (x : A) × (read ≡ Some (x, rest)) × (f x ≡ y)
then_other f None y rest e = absurd (cc)
then_other {A} {B} f (Some r) y rest e =
    let both : ◌≡◌ {A = B × List ℕ} (f r.0, r.1) (y, rest) = cc in
    (r.0, (λ i. Some (r.0, (both i).1)), (λ i. (both i).0))

module _ {A S : Type 0} (f : List ℕ → Option (A × List ℕ)) (add : S → A → S) (close n : ℕ) (s : S) (bytes : List ℕ) (x : A) (rest : List ℕ) (e : f bytes ≡ Some (x, rest)) where
  pub items_more : (r : List ℕ) → past_separator close (past_blanks rest) ≡ Some (true, r) → read_items f add close (suc n) s bytes ≡ read_items f add close n (add s x) r
  items_more r h = rw (e, h) refl

  pub items_close : (r : List ℕ) → past_separator close (past_blanks rest) ≡ Some (false, r) → read_items f add close (suc n) s bytes ≡ Some (add s x, r)
  items_close r h = rw (e, h) refl

pub left_fuel : (size count : ℕ) → count < size → size - count ≡ suc (size - (count + 1))
left_fuel size count h = omega (arith, h)

module _ {A S : Type 0} (f : List ℕ → Option (A × List ℕ)) (add : S → A → S) (close size count : ℕ) (left : count < size) (s s2 : S) (bytes rest r : List ℕ) where
  pub added_more : as_other (add s) (f bytes) ≡ Some (s2, rest) → past_separator close (past_blanks rest) ≡ Some (true, r)
      → read_items f add close (size - (count + 1)) s2 r ≡ read_items f add close (size - count) s bytes
  added_more e h =
      let was = then_other (add s) (f bytes) s2 rest e in
      sym (ap (λ n. read_items f add close n s bytes) (left_fuel size count left)
      ∙ items_more f add close (size - (count + 1)) s bytes was.0 rest was.1 r h
      ∙ ap (λ z. read_items f add close (size - (count + 1)) z r) was.2)

  pub added_close : as_other (add s) (f bytes) ≡ Some (s2, rest) → past_separator close (past_blanks rest) ≡ Some (false, r)
      → read_items f add close (size - count) s bytes ≡ Some (s2, r)
  added_close e h =
      let was = then_other (add s) (f bytes) s2 rest e in
      ap (λ n. read_items f add close n s bytes) (left_fuel size count left)
      ∙ items_close f add close (size - (count + 1)) s bytes was.0 rest was.1 r h
      ∙ ap (λ z. Some (z, r)) was.2

-- ---- pairs

-- the pair whose key and value were added to an empty list
pub pair_read : (read : Option ((Value × Value) × List ℕ)) (pair new : List Value) (rest : List ℕ) → pair ≡ [] → as_other (push_pair pair) read ≡ Some (new, rest)
    → (p : Value × Value) × (read ≡ Some (p, rest)) × (new ≡ push_pair [] p)
pair_read read pair new rest none e =
    let was = then_other (push_pair pair) read new rest e in
    (was.0, was.1, sym was.2 ∙ ap (λ vs. push_pair vs was.0) none)

pub map_read : (kind k t : SplType) (bytes : List ℕ) → kind ≡ S.Map k t → read_map (read_pair_of kind) bytes ≡ read_value kind bytes
map_read kind k t bytes e = subst (λ z. read_map (read_pair_of z) bytes ≡ read_value z bytes) (sym e) (sym (read_of_pairs k t bytes))

-- ---- lines

past_byte_none : (schema : List (Named SplType)) (bytes : List ℕ) → bytes ≢ [] → past_byte 123 bytes ≡ None → begun_row schema bytes ≡ R.Bad
past_byte_none schema [] some h = absurd (some refl)
past_byte_none schema (b ∷ bytes) some h = rw h refl

not_empty : (line : List ℕ) (at : ℕ) → at < length line → drop at line ≢ []
not_empty [] at h e = absurd (omega (arith, h))
not_empty (b ∷ line) zero h e = cc
not_empty (b ∷ line) (suc at) h e = not_empty line at (omega (arith, h)) e

pub begun_none : (schema : List (Named SplType)) (line bytes : List ℕ) (at : ℕ) → at < length line → drop at line ≡ bytes → past_byte 123 (drop at line) ≡ None
    → R.Bad ≡ begun_row schema bytes
begun_none schema line bytes at within e h = sym (ap (begun_row schema) (sym e) ∙ past_byte_none schema (drop at line) (not_empty line at within) h)

pub begun_some : (schema : List (Named SplType)) (bytes behind : List ℕ) → past_byte 123 bytes ≡ Some behind → begun_row schema bytes ≡ tuple_row (read_fields read_value false schema [] behind)
begun_some schema [] behind h = absurd (cc)
begun_some schema (b ∷ bytes) behind h = rw h refl

ended_more : (r : List Value × List ℕ) (rest : List ℕ) → rest ≢ [] → ended_row (Some r) rest ≡ R.Bad
ended_more r [] some = absurd (some refl)
ended_more r (b ∷ rest) some = refl

pub ended_bad : (schema : List (Named SplType)) (line bytes behind rest : List ℕ) (vs : List Value) (at : ℕ) → past_byte 123 bytes ≡ Some behind
    → read_fields read_value false schema [] behind ≡ Some (vs, rest) → drop at line ≡ past_blanks rest → at < length line → R.Bad ≡ begun_row schema bytes
ended_bad schema line bytes behind rest vs at opened e h within =
    sym (begun_some schema bytes behind opened ∙ ap tuple_row e ∙ ap (ended_row (Some (vs, rest))) (sym h) ∙ ended_more (vs, rest) (drop at line) (not_empty line at within))
