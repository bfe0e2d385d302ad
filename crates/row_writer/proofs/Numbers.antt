-- Numbers are written without quotes.
use Rattle.std.specs.Prelude.{◌^◌, FitsSigned}
use Rattle.std.specs.Int.{w64}
use Rattle.std.specs.Fmt.{decimal, signed_decimal}
use Rattle.std.specs.List.{list_any}
use Rattle.std.specs.Str.Parse.{AllDigits}
use Rattle.std.proofs.Common.{◌≡◌, ◌==◌, ◌<◌, ◌≤◌, ℕ, suc, ℤ, pos, negsuc, List, [], ◌∷◌, false, refl, arith}
use Rattle.std.proofs.lemmas.Bool.{ne_eqb}
use Rattle.std.proofs.lemmas.Fmt.{decimal_is_IsNumeral_wide}
use Rattle.std.proofs.lemmas.Str.Parse.{digit_at}
use Rattle.csv.specs.Writing.{default_writer, field_text, needs_byte, needs_quotes}

record IsDigit (c : ℕ) : Type 0 where
  low : 48 ≤ c
  high : c ≤ 57

digit_plain : (c : ℕ) → IsDigit c → needs_byte default_writer c ≡ false
digit_plain c d =
    let low = d.low in
    let n44 : (c == 44) ≡ false = ne_eqb c 44 (λ e. omega (arith, low, e)) in
    let n34 : (c == 34) ≡ false = ne_eqb c 34 (λ e. omega (arith, low, e)) in
    let n13 : (c == 13) ≡ false = ne_eqb c 13 (λ e. omega (arith, low, e)) in
    let n10 : (c == 10) ≡ false = ne_eqb c 10 (λ e. omega (arith, low, e)) in
    rw (n44, n34, n13, n10) refl

first_digit : (c : ℕ) (cs : List ℕ) → AllDigits 10 (c ∷ cs) → IsDigit c
first_digit c cs h = let r = digit_at (c ∷ cs) 0 h (omega arith) in record { low = r.0; high = r.1 }

digits_plain : (ds : List ℕ) → AllDigits 10 ds → list_any (needs_byte default_writer) ds ≡ false
digits_plain [] h = refl
digits_plain (c ∷ cs) h = rw (digit_plain c (first_digit c cs h)) (digits_plain cs h.1)

unquoted : (field : List ℕ) → needs_quotes default_writer field ≡ false → field_text default_writer field ≡ field
unquoted field e = rw e refl

number_plain : (n : ℕ) → n < 10 ^ 64 → list_any (needs_byte default_writer) (decimal n) ≡ false
number_plain n h = digits_plain (decimal n) (decimal_is_IsNumeral_wide n h).0.1

abbrev pub size : ℤ → ℕ
size (pos n) = n
size (negsuc n) = suc n

pub number_text : (z : ℤ) → size z < 10 ^ 64 → field_text default_writer (signed_decimal z) ≡ signed_decimal z
number_text (pos n) h = unquoted (decimal n) (number_plain n h)
number_text (negsuc n) h = unquoted (45 ∷ decimal (suc n)) (number_plain (suc n) h)

pub short_size : (z : ℤ) → FitsSigned w64 z → size z < 10 ^ 64
short_size (pos n) f = omega (arith, f.sfits)
short_size (negsuc n) f = omega (arith, f.sfits)
