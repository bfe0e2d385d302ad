-- A number of more than 18 digits is above every limit.
use Rattle.std.proofs.Common.{◌≡◌, ◌<◌, ◌≤◌, ◌*◌, ◌^◌, ◌==◌, ◌||◌, ◌&&◌, ℕ, Bool, true, false, List, [], ◌∷◌, length, fold, nat_le, nat_lt, refl, ap, arith, lit<, Some, None}
use Rattle.std.specs.Prelude.{Option, IfSome, option_and_then, if◌then◌else◌}
use Rattle.std.specs.List.{list_all}
use Rattle.std.proofs.Math.Nat.{pow-succ', pow-le-pow_right, mul-le-mul_right}
use Rattle.std.proofs.lemmas.Bool.Decides.{nat_tests}
use Rattle.spl_value.specs.Decimal.{is_digit, digit_step, natural}
use Rattle.command_line.specs.Options.{spelled_number, number_within}

-- each digit after a number makes it at least ten times as large
fold_digits : (n : ℕ) (bytes : List ℕ) → n * 10 ^ length bytes ≤ fold digit_step n bytes
fold_digits n [] = omega arith
fold_digits n (b ∷ bytes) =
    let places : n * 10 ^ length (b ∷ bytes) ≡ n * (10 * 10 ^ length bytes) = ap (λ k. n * k) (pow-succ' 10 (length bytes)) in
    let more : n * 10 ≤ digit_step n b = omega arith in
    omega (arith, places, mul-le-mul_right (10 ^ length bytes) more, fold_digits (digit_step n b) bytes)

if_some : (test : Bool) (n : ℕ) (P : ℕ → Type 0) → (test ≡ true → P n) → IfSome (if test then Some n else None) P
if_some true n P h = h refl
if_some false n P h = tt

unless : (a b : Bool) (o : Option ℕ) (P : ℕ → Type 0) → (a ≡ false → IfSome o P) → IfSome (if a || b then None else o) P
unless true b o P h = tt
unless false true o P h = tt
unless false false o P h = h refl

one_to_nine : (b : ℕ) (others : Bool) → (is_digit b && others) ≡ true → (b == 48) ≡ false → 1 ≤ digit_step 0 b
one_to_nine b others digit lead = grind (arith, nat_tests)

natural_large : (b : ℕ) (bytes : List ℕ) → 18 ≤ length bytes → (b == 48) ≡ false → IfSome (natural (b ∷ bytes)) (λ n. 10 ^ 18 ≤ n)
natural_large b bytes h lead =
    if_some (list_all is_digit (b ∷ bytes)) (fold digit_step 0 (b ∷ bytes)) (λ n. 10 ^ 18 ≤ n)
    (λ digits.
    let first : 1 ≤ digit_step 0 b = one_to_nine b (list_all is_digit bytes) digits lead in
    omega (arith, pow-le-pow_right {n = 10} (lit< tt) h, mul-le-mul_right (10 ^ length bytes) first, fold_digits (digit_step 0 b) bytes))

number_large : (text : List ℕ) → 18 < length text → IfSome (spelled_number text) (λ n. 10 ^ 18 ≤ n)
number_large [] h = absurd (omega arith)
number_large (b ∷ []) h = absurd (omega arith)
number_large (b ∷ c ∷ bytes) h =
    unless (b == 48) (nat_lt 19 (length (b ∷ c ∷ bytes))) (natural (b ∷ c ∷ bytes)) (λ n. 10 ^ 18 ≤ n) (natural_large b (c ∷ bytes) (omega arith))

within_large : (least most : ℕ) (o : Option ℕ) → most < 10 ^ 18 → IfSome o (λ n. 10 ^ 18 ≤ n)
    → option_and_then (λ n. if nat_le least n && nat_le n most then Some n else None) o ≡ None
within_large least most None h large = refl
within_large least most (Some n) h large = grind (arith, nat_tests)

pub number_within_long : (least most : ℕ) (text : List ℕ) → most < 2 ^ 32 → 18 < length text → number_within least most text ≡ None
number_within_long least most text small long = within_large least most (spelled_number text) (omega arith) (number_large text long)
