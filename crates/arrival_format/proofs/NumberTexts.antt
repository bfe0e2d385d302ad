-- Numbers in front of what no digit begins.
use Rattle.std.specs.Fmt.{decimal}
use Rattle.std.specs.Str.Parse.{AllDigits, digits_value}
use Rattle.std.specs.Char.{digit_value}
use Rattle.std.proofs.Common.{◌≡◌, ◌∙◌, ◌+◌, ◌*◌, ◌-◌, ◌/◌, ◌%◌, ◌^◌, ◌<◌, ◌≤◌, ◌++◌, ◌∷◌, [], ℕ, List, length, take, get_or, refl, sym, ap, subst, arith, append_assoc, eq-zero-or-pos, inl, inr}
use Rattle.std.proofs.lemmas.Fmt.{decimal_digit, decimal_is_IsNumeral, decimal_step, first_decimal}
use Rattle.std.proofs.lemmas.List.{append_cancel_left}
use Rattle.std.proofs.lemmas.Str.Parse.{digit_from_value, digits_value-take-le}
use Rattle.std.proofs.Math.ListN.{get_or-append}
use Rattle.std.proofs.Math.Seq.{take-append_seam}
use Rattle.arrival_format.specs.steps.Steps.{BeginsWithNumber, NoDigitFirst}

-- ---- digits

digit_is_first : (d : ℕ) (xs s : List ℕ) → digit_value d < 10 → s ≡ d ∷ xs → NoDigitFirst s → ⊥
digit_is_first d xs s h e none =
    let k = digit_from_value d h in
    let is : d ≡ 48 + (d - 48) = omega arith in
    none (d - 48) xs (omega arith) (e ∙ ap (λ x. x ∷ xs) is)

-- where no digit follows the later digits, the earlier ones are a front of them
front_digits : (ds es r s : List ℕ) → AllDigits 10 ds → NoDigitFirst s → ds ++ r ≡ es ++ s → (fs : List ℕ) × (es ≡ ds ++ fs) × (r ≡ fs ++ s)
front_digits [] es r s a none e = (es, refl, e)
front_digits (d ∷ ds) [] r s a none e = absurd (digit_is_first d (ds ++ r) s a.0 (sym e) none)
front_digits (d ∷ ds) (g ∷ es) r s a none e =
    let head : d ≡ g = cc in
    let tail : ds ++ r ≡ es ++ s = cc in
    let rest = front_digits ds es r s a.1 none tail in
    (rest.0, (λ i. sym head i ∷ rest.1 i), rest.2)

-- ---- numbers

-- a number of more digits isn't smaller
number_front : (m n : ℕ) (r s : List ℕ) → m < 2 ^ 64 → n < 2 ^ 64 → NoDigitFirst s → decimal m ++ r ≡ decimal n ++ s → m ≤ n
number_front m n r s small large none e =
    let k = decimal_is_IsNumeral m small in
    let l = decimal_is_IsNumeral n large in
    let f = front_digits (decimal m) (decimal n) r s k.0.1 none e in
    let front : take (length (decimal m)) (decimal n) ≡ decimal m = ap (take (length (decimal m))) f.1 ∙ take-append_seam (decimal m) f.0 in
    let most = digits_value-take-le 10 (decimal n) (length (decimal m)) (omega arith) in
    let value : digits_value 10 (take (length (decimal m)) (decimal n)) ≡ m = ap (digits_value 10) front ∙ k.1 in
    let other : digits_value 10 (decimal n) ≡ n = l.1 in
    subst (λ x. x ≤ n) value (subst (λ y. digits_value 10 (take (length (decimal m)) (decimal n)) ≤ y) other most)

pub same_number : (m n : ℕ) (r s : List ℕ) → m < 2 ^ 64 → n < 2 ^ 64 → NoDigitFirst r → NoDigitFirst s → decimal m ++ r ≡ decimal n ++ s → (m ≡ n) × (r ≡ s)
same_number m n r s small large none other e =
    let most = number_front m n r s small large other e in
    let least = number_front n m s r large small none (sym e) in
    let same : m ≡ n = omega (arith, most, least) in
    (same, append_cancel_left (decimal m) r s (e ∙ ap (λ k. decimal k ++ s) (sym same)))

begins_with_digit : (n : ℕ) (s : List ℕ) → n < 2 ^ 64 → NoDigitFirst (decimal n ++ s) → ⊥
begins_with_digit n s small none =
    let k = decimal_is_IsNumeral n small in
    go (decimal n) k.0.0 k.0.1 none
  where
    go : (ds : List ℕ) → 0 < length ds → AllDigits 10 ds → NoDigitFirst (ds ++ s) → ⊥
    go [] some all h = omega (arith, some)
    go (d ∷ ds) some all h = digit_is_first d (ds ++ s) (d ∷ (ds ++ s)) all.0 refl h

-- no number begins with a zero that a digit follows
zero_alone : (n d : ℕ) (r s : List ℕ) → n < 2 ^ 64 → d < 10 → NoDigitFirst s → decimal 0 ++ (48 + d) ∷ r ≡ decimal n ++ s → ⊥
zero_alone n d r s small digit none e = elim (eq-zero-or-pos n) [
  | inl zero ↦ none d r digit (sym (append_cancel_left (decimal 0) ((48 + d) ∷ r) s (e ∙ ap (λ k. decimal k ++ s) zero)))
  | inr more ↦
      (let k = decimal_is_IsNumeral n small in
      let lead = first_decimal n more small in
      let at : get_or (decimal n ++ s) 0 0 ≡ get_or (decimal n) 0 0 = get_or-append (decimal n) s 0 0 k.0.0 in
      let is : get_or (decimal 0 ++ (48 + d) ∷ r) 0 0 ≡ 48 = ap (λ ds. get_or (ds ++ (48 + d) ∷ r) 0 0) (decimal_digit 0 (omega arith)) in
      let same : get_or (decimal 0 ++ (48 + d) ∷ r) 0 0 ≡ get_or (decimal n ++ s) 0 0 = ap (λ xs. get_or xs 0 0) e in
      omega (arith, lead, at, is, same))
]

pub one_digit : (d : ℕ) (bytes r : List ℕ) → d < 10 → bytes ≡ (48 + d) ∷ r → bytes ≡ decimal d ++ r
one_digit d bytes r digit is = is ∙ ap (λ xs. xs ++ r) (sym (decimal_digit d digit))

pub one_more_digit : (n d m : ℕ) (r : List ℕ) → 0 < n → d < 10 → m ≡ n * 10 + d → m < 2 ^ 64 → decimal n ++ (48 + d) ∷ r ≡ decimal m ++ r
one_more_digit n d m r some digit is small =
    let front : m / 10 ≡ n = omega arith in
    let last : m % 10 ≡ d = omega arith in
    sym (append_assoc (decimal n) ((48 + d) ∷ []) r)
    ∙ ap (λ xs. xs ++ r) (sym (decimal_step m (omega arith) small ∙ (λ i. decimal (front i) ++ (48 + last i) ∷ [])))

-- ---- the number that comes first

module _ (bytes : List ℕ) (bound : ℕ) (wide : bound < 2 ^ 32) where
  -- no digit comes first
  pub no_first_digit : NoDigitFirst bytes → (number : ℕ) (rest : List ℕ) → BeginsWithNumber bytes bound number rest → ⊥
  no_first_digit none number rest h =
      let below = h.below in
      begins_with_digit number rest (omega arith) (subst NoDigitFirst h.text none)

  -- what is read so far is too large
  pub too_large : (n : ℕ) (r : List ℕ) → bytes ≡ decimal n ++ r → n < 2 ^ 64 → bound ≤ n → (number : ℕ) (rest : List ℕ) → BeginsWithNumber bytes bound number rest → ⊥
  too_large n r text small large number rest h =
      let below = h.below in
      let most = number_front n number r rest small (omega arith) h.ended (sym text ∙ h.text) in
      omega (arith, most, below, large)

  -- with the next digit, it is too large, or has a zero in front
  pub no_next_digit : (n d : ℕ) (r behind : List ℕ) → n < bound → bytes ≡ decimal n ++ r → d < 10 → r ≡ (48 + d) ∷ behind → (0 < n → bound ≤ n * 10 + d)
      → (number : ℕ) (rest : List ℕ) → BeginsWithNumber bytes bound number rest → ⊥
  no_next_digit n d r behind small text digit is large number rest h =
      let below = h.below in
      let all : bytes ≡ decimal n ++ (48 + d) ∷ behind = text ∙ ap (λ xs. decimal n ++ xs) is in
      elim (eq-zero-or-pos n) [
        | inl zero ↦ zero_alone number d behind rest (omega arith) digit h.ended (ap (λ k. decimal k ++ (48 + d) ∷ behind) (sym zero) ∙ sym all ∙ h.text)
        | inr more ↦ too_large (n * 10 + d) behind (all ∙ one_more_digit n d (n * 10 + d) behind more digit refl (omega arith)) (omega arith) (large more) number rest h
      ]
