-- Short numbers at the front of a line.
use Rattle.std.specs.Prelude.{nat_lt, not, fold, if◌then◌else◌, option_map, pos}
use Rattle.std.proofs.Common.{◌≡◌, ◌==◌, ◌∷◌, ◌∙◌, ◌≤◌, ◌<◌, [], ℕ, List, true, false, Some, None, refl, sym, ap, take, length, slice_index, length-take, arith}
use Rattle.std.specs.List.{list_all, list_any}
use Rattle.std.proofs.lemmas.Bool.{and_parts, ltb-false, ne_eqb, not-true}
use Rattle.spl_value.specs.Decimal.{digit_step, in_kind, integer, is_digit}
use Rattle.spl_value.specs.Values.{kind_holds}
use Rattle.spl_value.specs.declared.types.IntKind.{IntKind}
use Rattle.row_reader.specs.steps.Plain.{is_stop_or_mark}
use Rattle.row_reader.specs.steps.Short.{IsShort}

-- a digit is at least 48
digit_from : (b : ℕ) → is_digit b ≡ true → 48 ≤ b
digit_from b h = ltb-false b 48 (not-true (nat_lt b 48) (and_parts (not (nat_lt b 48)) (nat_lt b 58) h).0)

no_stop : (b : ℕ) → is_digit b ≡ true → is_stop_or_mark b ≡ false
no_stop b h =
    let from = digit_from b h in
    let comma : (b == 44) ≡ false = ne_eqb b 44 (λ e. omega (arith, from, e)) in
    let quote : (b == 34) ≡ false = ne_eqb b 34 (λ e. omega (arith, from, e)) in
    let return : (b == 13) ≡ false = ne_eqb b 13 (λ e. omega (arith, from, e)) in
    let feed : (b == 10) ≡ false = ne_eqb b 10 (λ e. omega (arith, from, e)) in
    rw (comma, quote, return, feed) refl

digits_free : (xs : List ℕ) → list_all is_digit xs ≡ true → list_any is_stop_or_mark xs ≡ false
digits_free [] h = refl
digits_free (b ∷ xs) h =
    let p = and_parts (is_digit b) (list_all is_digit xs) h in
    rw (no_stop b p.0) (digits_free xs p.1)

no_minus : (b : ℕ) → is_digit b ≡ true → (b == 45) ≡ false
no_minus b h = let from = digit_from b h in ne_eqb b 45 (λ e. omega (arith, from, e))

-- digits without a sign spell what they add up to
spelled : (xs : List ℕ) → list_all is_digit xs ≡ true → 0 < length xs → integer xs ≡ Some (pos (fold digit_step 0 xs))
spelled [] h n = absurd (omega arith)
spelled (b ∷ xs) h n =
    let p = and_parts (is_digit b) (list_all is_digit xs) h in
    rw (no_minus b p.0) (ap (λ z. option_map pos (if z then Some (fold digit_step 0 (b ∷ xs)) else None)) h)

pub short_is : (kind : IntKind) (line : List ℕ) (n end : ℕ) → end ≤ length line → list_all is_digit (take end line) ≡ true → n ≡ fold digit_step 0 (take end line) → (end ≡ 0 → ⊥)
    → (end < length line → slice_index line end ≡ 44) → kind_holds kind (pos n) ≡ true → IsShort kind line n end
short_is kind line n end within digits value some comma holds =
    let size : length (take end line) ≡ end = length-take end line ∙ omega (arith, within) in
    let more : 0 < length (take end line) = omega (arith, size, some) in
    let is : integer (take end line) ≡ Some (pos n) = spelled (take end line) digits more ∙ ap (λ z. Some (pos z)) (sym value) in
    record {
      cut = record { within = within; free = digits_free (take end line) digits; comma = comma };
      value = ap (in_kind kind) is ∙ rw holds refl;
    }
