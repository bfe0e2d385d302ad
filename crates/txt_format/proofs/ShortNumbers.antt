-- Integers of a few digits at the front of a text.
use Rattle.std.specs.Prelude.{◌≡◌, ◌≢◌, ◌<◌, ◌≤◌, ◌+◌, ◌-◌, ◌^◌, ◌==◌, ◌||◌, zero, suc, ℕ, ℤ, pos, neg_ℤ, ◌-ℤ◌, Bool, cond, true, false, List, [], ◌∷◌, length, take, drop, fold, Option, Some, None, option_map, Result, Ok, Err, IfOk}
use Rattle.std.specs.List.{list_all, prefix_len}
use Rattle.std.specs.Cmp.{first_so, second_so}
use Rattle.std.proofs.Common.{refl, sym, ap, subst, ◌∙◌, arith, get_or, length-drop, to_z, of_z}
use Rattle.std.proofs.lemmas.Bool.{eqb-true, ne_eqb}
use Rattle.std.proofs.lemmas.List.{drop-drop, take_all}
use Rattle.std.specs.Int.{w128}
use Rattle.std.proofs.lemmas.Int.{ints, to_z-of_z}
use Rattle.spl_value.proofs.Lists.{drop_at}
use Rattle.spl_value.proofs.Widths.{fits_128, turned}
use Rattle.spl_value.specs.declared.memory.NoMemory.{NoMemory}
use Rattle.spl_value.specs.declared.types.IntKind.{IntKind}
use Rattle.spl_value.specs.declared.value.Value.{Value}
use Rattle.spl_value.specs.declared.value.Value.TheVariants as V
use Rattle.spl_value.specs.Decimal.{digit_step, in_kind, integer, integer_of, is_digit, natural}
use Rattle.spl_value.specs.Values.{kind_holds}
use Rattle.txt_format.specs.steps.Bytes.{IsRead, is_part}
use Rattle.txt_format.specs.steps.ShortNumbers.{IsAdded, IsShort}
use Rattle.txt_format.specs.steps.Reading.{as_other, push, read_int}

digits_front : (text : List ℕ) (i : ℕ) → list_all is_digit (take i text) ≡ true → i < length text → is_part (get_or text i 0) ≡ false → prefix_len is_part text ≡ i
digits_front [] i h within stop = absurd (omega (arith, within))
digits_front (b ∷ bs) zero h within stop = ap (λ x. cond x (1 + prefix_len is_part bs) 0) stop
digits_front (b ∷ bs) (suc i) h within stop =
    let later = digits_front bs i (second_so (is_digit b) (list_all is_digit (take i bs)) h) (omega (arith, within)) stop in
    ap (λ x. cond (x || (b == 45)) (1 + prefix_len is_part bs) 0) (first_so (is_digit b) (list_all is_digit (take i bs)) h) ∙ omega (arith, later)

natural_front : (text : List ℕ) (i n : ℕ) → 0 < i → i < length text → n ≡ fold digit_step 0 (take i text) → list_all is_digit (take i text) ≡ true → natural (take i text) ≡ Some n
natural_front [] i n some within e h = absurd (omega (arith, within))
natural_front (b ∷ bs) zero n some within e h = absurd (omega (arith, some))
natural_front (b ∷ bs) (suc i) n some within e h = ap (λ x. cond x (Some (fold digit_step 0 (b ∷ take i bs))) None) h ∙ ap Some (sym e)

pub short_number : (text : List ℕ) (i n : ℕ) → (i ≡ 0 → ⊥) → i < length text → n ≡ fold digit_step 0 (take i text) → list_all is_digit (take i text) ≡ true
    → is_digit (get_or text i 0) ≡ false → get_or text i 0 ≢ 45 → n < 10 ^ 18 → IsShort text (n, i)
short_number text i n some within e h digit minus small =
    let is : (get_or text i 0 == 45) ≡ false = ne_eqb (get_or text i 0) 45 minus in
    record {
      within = within;
      count = digits_front text i h within (λ k. digit k || is k);
      value = natural_front text i n (omega (arith, some)) within e h;
      small = small;
    }

-- a number without a sign
integer_natural : (cs : List ℕ) (n : ℕ) → natural cs ≡ Some n → integer cs ≡ Some (pos n)
integer_natural [] n e = absurd (cc)
integer_natural (b ∷ bs) n e = by (b == 45) refl (list_all is_digit (b ∷ bs)) refl e
  where
    by : (x : Bool) → (b == 45) ≡ x → (y : Bool) → list_all is_digit (b ∷ bs) ≡ y → cond y (Some (fold digit_step 0 (b ∷ bs))) None ≡ Some n
        → cond x (option_map (λ m. neg_ℤ (pos m)) (natural bs)) (option_map pos (natural (b ∷ bs))) ≡ Some (pos n)
    by x i false j h = absurd (cc)
    by true i true j h = absurd (let no : false ≡ true = ap is_digit (sym (eqb-true b 45 i)) ∙ first_so (is_digit b) (list_all is_digit bs) j in cc no)
    by false i true j h = ap (option_map pos) e

read_kind : (k : IntKind) (text : List ℕ) (z : ℤ) (p : ℕ) → prefix_len is_part text ≡ p → integer (take p text) ≡ Some z
    → read_int k text ≡ option_map (λ m. (V.Int m, drop p text)) (cond (kind_holds k z) (Some z) None)
read_kind k text z p e f =
    ap (λ q. option_map (λ m. (V.Int m, drop q text)) (integer_of k (take q text))) e ∙ ap (λ o. option_map (λ m. (V.Int m, drop p text)) (in_kind k o)) f

added_is : (k : IntKind) (line : List ℕ) (at : ℕ) (z : ℤ) (p : ℕ) (vs new : List Value) (r : Result (Option ℕ) NoMemory) → at + p ≤ length line
    → read_int k (drop at line) ≡ option_map (λ m. (V.Int m, drop p (drop at line))) (cond (kind_holds k z) (Some z) None)
    → IfOk r (IsAdded k z (at + p) vs new) → IfOk r (IsRead (as_other (push vs) (read_int k (drop at line))) line new)
added_is k line at z p vs new (Err x) within e h = tt
added_is k line at z p vs new (Ok None) within e h =
    ap (as_other (push vs)) (e ∙ ap (λ b. option_map (λ m. (V.Int m, drop p (drop at line))) (cond b (Some z) None)) h)
added_is k line at z p vs new (Ok (Some end)) within e h =
    let le : end ≤ length line = (let same = h.1 in omega (arith, same, within)) in
    let rest : drop p (drop at line) ≡ drop end line = drop-drop p at line ∙ ap (λ m. drop m line) (sym h.1) in
    (le, ap (as_other (push vs)) (e ∙ ap (λ b. option_map (λ m. (V.Int m, drop p (drop at line))) (cond b (Some z) None)) h.0) ∙ (λ i. Some (sym h.2 i, rest i)))

-- the text from a place on
rest_is : (line : List ℕ) (at : ℕ) → at ≤ length line → take (length line - at) (drop at line) ≡ drop at line
rest_is line at le = let size = length-drop at line in take_all (length line - at) (drop at line) (omega (arith, size))

pub short_positive : (k : IntKind) (line : List ℕ) (at : ℕ) (n count : ℕ) (vs new : List Value) (r : Result (Option ℕ) NoMemory) (z : ℤ) → at ≤ length line
    → IsShort (take (length line - at) (drop at line)) (n, count) → z ≡ pos n
    → IfOk r (IsAdded k z (at + count) vs new) → IfOk r (IsRead (as_other (push vs) (read_int k (drop at line))) line new)
short_positive k line at n count vs new r z le s0 is h0 =
    let s = subst (λ t. IsShort t (n, count)) (rest_is line at le) s0 in
    let h = subst (λ y. IfOk r (IsAdded k y (at + count) vs new)) is h0 in
    let within = s.within in
    let size = length-drop at line in
    added_is k line at (pos n) count vs new r (omega (arith, within, size, le)) (read_kind k (drop at line) (pos n) count s.count (integer_natural (take count (drop at line)) n s.value)) h

pub short_negative : (k : IntKind) (line : List ℕ) (at : ℕ) (n count : ℕ) (vs new : List Value) (r : Result (Option ℕ) NoMemory) (z : ℤ) → at < length line → get_or line at 0 ≡ 45
    → IsShort (take (length line - (at + 1)) (drop (at + 1) line)) (n, count) → z ≡ neg_ℤ (pos n)
    → IfOk r (IsAdded k z (at + 1 + count) vs new) → IfOk r (IsRead (as_other (push vs) (read_int k (drop at line))) line new)
short_negative k line at n count vs new r z lt minus s0 is h0 =
    let s = subst (λ t. IsShort t (n, count)) (rest_is line (at + 1) (omega (arith, lt))) s0 in
    let h = subst (λ y. IfOk r (IsAdded k y (at + 1 + count) vs new)) is h0 in
    let digits = drop (at + 1) line in
    let within = s.within in
    let size = length-drop (at + 1) line in
    let text : drop at line ≡ 45 ∷ digits = drop_at line at (get_or line at 0) lt (sym (get_here line at 0 lt)) ∙ ap (λ b. b ∷ digits) minus in
    let end : at + 1 + count ≡ at + (1 + count) = omega arith in
    let counted : prefix_len is_part (45 ∷ digits) ≡ 1 + count = ap (λ m. 1 + m) s.count in
    let front : take (1 + count) (45 ∷ digits) ≡ 45 ∷ take count digits = ap (λ m. take m (45 ∷ digits)) (one_more count) in
    let value : integer (take (1 + count) (45 ∷ digits)) ≡ Some (neg_ℤ (pos n)) = ap integer front ∙ ap (option_map (λ m. neg_ℤ (pos m))) s.value in
    added_is k line at (neg_ℤ (pos n)) (1 + count) vs new r (omega (arith, within, size, lt))
    (read_kind k (drop at line) (neg_ℤ (pos n)) (1 + count) (ap (prefix_len is_part) text ∙ counted) (ap (λ z. integer (take (1 + count) z)) text ∙ value))
    (subst (λ m. IfOk r (IsAdded k (neg_ℤ (pos n)) m vs new)) end h)
  where
    one_more : (n : ℕ) → 1 + n ≡ suc n
    one_more n = omega arith

    get_here : (xs : List ℕ) (i d : ℕ) → i < length xs → get_or xs i (get_or xs i d) ≡ get_or xs i d
    get_here [] i d h = absurd (omega (arith, h))
    get_here (x ∷ xs) zero d h = refl
    get_here (x ∷ xs) (suc i) d h = get_here xs i d (omega (arith, h))

-- a number that is turned is kept in 128 bits
from_zero : (n : ℕ) → pos 0 -ℤ pos n ≡ neg_ℤ (pos n)
from_zero n = omega (arith, ints)

pub wide : (n : ℕ) (z : ℤ) (text : List ℕ) (count : ℕ) → IsShort text (n, count) → z ≡ pos n → to_z w128 (of_z w128 (pos 0 -ℤ to_z w128 (of_z w128 z))) ≡ neg_ℤ (pos n)
wide n z text count s is =
    let small = s.small in
    let same = turned (pos n) in
    let inner : to_z w128 (of_z w128 z) ≡ pos n = ap (λ y. to_z w128 (of_z w128 y)) is ∙ to_z-of_z w128 (pos n) (fits_128 (pos n) (omega (arith, small))) in
    ap (λ y. to_z w128 (of_z w128 (pos 0 -ℤ y))) inner ∙ ap (λ y. to_z w128 (of_z w128 y)) (from_zero n)
    ∙ to_z-of_z w128 (neg_ℤ (pos n)) (fits_128 (neg_ℤ (pos n)) (omega (arith, small, same)))
