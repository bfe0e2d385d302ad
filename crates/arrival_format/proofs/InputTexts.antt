-- Numbers after blanks, up to the end of a line.
use Rattle.std.specs.Fmt.{decimal}
use Rattle.std.specs.List.{AllByRecursion}
use Rattle.std.proofs.Common.{◌≡◌, ◌∙◌, ◌+◌, ◌^◌, ◌<◌, ◌≢◌, ◌++◌, ◌∷◌, [], ℕ, List, length, refl, sym, ap, subst, arith, append_assoc, append-nil}
use Rattle.std.proofs.lemmas.Grind.{flat_map-append}
use Rattle.arrival_format.specs.ArrivalTexts.{inputs_text}
use Rattle.arrival_format.specs.steps.Steps.{BeginsWithNumber, IsLineEnd, NoDigitFirst}
use Rattle.arrival_format.proofs.NumberTexts.{same_number}
use Rattle.spl_value.proofs.Lists.{all_right, all_more}

-- a blank and a line feed are no digits
blank_first : (s : List ℕ) → NoDigitFirst (32 ∷ s)
blank_first s d rest digit e = let same : 32 ≡ 48 + d = cc in omega (arith, same)

feed_first : (s : List ℕ) → NoDigitFirst (10 ∷ s)
feed_first s d rest digit e = let same : 10 ≡ 48 + d = cc in omega (arith, same)

no_digit_behind : (xs r : List ℕ) → NoDigitFirst r → NoDigitFirst (inputs_text xs ++ r)
no_digit_behind [] r none = none
no_digit_behind (x ∷ xs) r none = blank_first ((decimal x ++ inputs_text xs) ++ r)

-- a number in front of others, and what comes after them
pub one_before : (x : ℕ) (xs r : List ℕ) → inputs_text (x ∷ xs) ++ r ≡ 32 ∷ (decimal x ++ (inputs_text xs ++ r))
one_before x xs r = ap (λ s. 32 ∷ s) (append_assoc (decimal x) (inputs_text xs) r)

-- where the numbers that are read are a front of a line, the others are to come
pub front_inputs : (bound : ℕ) → bound < 2 ^ 32 → (xs ys r s : List ℕ) → AllByRecursion (λ i. i < bound) xs → AllByRecursion (λ i. i < bound) ys → (0 < length xs → NoDigitFirst r)
    → inputs_text xs ++ r ≡ inputs_text ys ++ 10 ∷ s → (zs : List ℕ) × (ys ≡ xs ++ zs) × (r ≡ inputs_text zs ++ 10 ∷ s)
front_inputs bound wide [] ys r s below all ended e = (ys, refl, e)
front_inputs bound wide (x ∷ xs) [] r s below all ended e = absurd (let clash : ◌≡◌ {A = ℕ} 32 10 = cc in omega (arith, clash))
front_inputs bound wide (x ∷ xs) (y ∷ ys) r s below all ended e =
    let none : NoDigitFirst r = ended (omega arith) in
    let small = below.0 in
    let large = all.0 in
    let both : 32 ∷ (decimal x ++ (inputs_text xs ++ r)) ≡ 32 ∷ (decimal y ++ (inputs_text ys ++ 10 ∷ s)) = sym (one_before x xs r) ∙ e ∙ one_before y ys (10 ∷ s) in
    let behind : decimal x ++ (inputs_text xs ++ r) ≡ decimal y ++ (inputs_text ys ++ 10 ∷ s) = cc in
    let first = same_number x y (inputs_text xs ++ r) (inputs_text ys ++ 10 ∷ s) (omega arith) (omega arith) (no_digit_behind xs r none) (no_digit_behind ys (10 ∷ s) (feed_first s)) behind in
    let rest = front_inputs bound wide xs ys r s below.1 all.1 (λ some. none) first.1 in
    (rest.0, (λ i. sym first.0 i ∷ rest.1 i), rest.2)

-- a line has one list of numbers
pub same_line_end : (bound : ℕ) → bound < 2 ^ 32 → (xs ys r s : List ℕ) → AllByRecursion (λ i. i < bound) xs → AllByRecursion (λ i. i < bound) ys
    → inputs_text xs ++ 10 ∷ r ≡ inputs_text ys ++ 10 ∷ s → (xs ≡ ys) × (r ≡ s)
same_line_end bound wide xs ys r s below all e = go (front_inputs bound wide xs ys (10 ∷ r) s below all (λ some. feed_first r) e)
  where
    go : (zs : List ℕ) × (ys ≡ xs ++ zs) × (10 ∷ r ≡ inputs_text zs ++ 10 ∷ s) → (xs ≡ ys) × (r ≡ s)
    go ([], is, left) = (sym (append-nil xs) ∙ sym is, cc)
    go (z ∷ zs, is, left) = absurd (let clash : ◌≡◌ {A = ℕ} 10 32 = cc in omega (arith, clash))

-- ---- the numbers that are read

inputs_text-push : (xs : List ℕ) (x : ℕ) → inputs_text (xs ++ x ∷ []) ≡ inputs_text xs ++ 32 ∷ decimal x
inputs_text-push xs x = flat_map-append (λ i. 32 ∷ decimal i) xs (x ∷ []) ∙ ap (λ s. inputs_text xs ++ 32 ∷ s) (append-nil (decimal x))

pub next_input : (bytes xs r digits behind : List ℕ) (bound x : ℕ) → bytes ≡ inputs_text xs ++ r → r ≡ 32 ∷ digits → BeginsWithNumber digits bound x behind
    → bytes ≡ inputs_text (xs ++ x ∷ []) ++ behind
next_input bytes xs r digits behind bound x text blank h =
    text ∙ ap (λ s. inputs_text xs ++ s) (blank ∙ ap (λ s. 32 ∷ s) h.text)
    ∙ sym (append_assoc (inputs_text xs) (32 ∷ decimal x) behind)
    ∙ ap (λ s. s ++ behind) (sym (inputs_text-push xs x))

module _ (bytes xs r : List ℕ) (bound : ℕ) (wide : bound < 2 ^ 32) (text : bytes ≡ inputs_text xs ++ r) (below : AllByRecursion (λ i. i < bound) xs) (ended : 0 < length xs → NoDigitFirst r) where
  left_of : (ys s : List ℕ) → IsLineEnd bytes bound ys s → (zs : List ℕ) × (ys ≡ xs ++ zs) × (r ≡ inputs_text zs ++ 10 ∷ s)
  left_of ys s h = front_inputs bound wide xs ys r s below h.inputs_are.below ended (sym text ∙ h.text)

  -- no number comes after the blank
  pub no_number : (digits : List ℕ) → r ≡ 32 ∷ digits → ((number : ℕ) (rest : List ℕ) → BeginsWithNumber digits bound number rest → ⊥)
      → (ys s : List ℕ) → IsLineEnd bytes bound ys s → ⊥
  no_number digits blank none ys s h = go (left_of ys s h)
    where
      go : (zs : List ℕ) × (ys ≡ xs ++ zs) × (r ≡ inputs_text zs ++ 10 ∷ s) → ⊥
      go ([], is, left) = let clash : ◌≡◌ {A = ℕ} 32 10 = cc in omega (arith, clash)
      go (z ∷ zs, is, left) =
          let all = all_right (λ i. i < bound) xs (z ∷ zs) (subst (AllByRecursion (λ i. i < bound)) is h.inputs_are.below) in
          let both : 32 ∷ digits ≡ 32 ∷ (decimal z ++ (inputs_text zs ++ 10 ∷ s)) = sym blank ∙ left ∙ one_before z zs (10 ∷ s) in
          let own : digits ≡ decimal z ++ (inputs_text zs ++ 10 ∷ s) = cc in
          none z (inputs_text zs ++ 10 ∷ s) (record { below = all.0; text = own; ended = no_digit_behind zs (10 ∷ s) (feed_first s) })

  -- the line ends here, where no blank comes
  at_end : ((digits : List ℕ) → r ≢ 32 ∷ digits) → (ys s : List ℕ) → IsLineEnd bytes bound ys s → (ys ≡ xs) × (r ≡ 10 ∷ s)
  at_end none ys s h = go (left_of ys s h)
    where
      go : (zs : List ℕ) × (ys ≡ xs ++ zs) × (r ≡ inputs_text zs ++ 10 ∷ s) → (ys ≡ xs) × (r ≡ 10 ∷ s)
      go ([], is, left) = (is ∙ append-nil xs, left)
      go (z ∷ zs, is, left) = absurd (none ((decimal z ++ inputs_text zs) ++ 10 ∷ s) left)

  pub no_inputs : ((digits : List ℕ) → r ≢ 32 ∷ digits) → xs ≡ [] → (ys s : List ℕ) → IsLineEnd bytes bound ys s → ⊥
  no_inputs none empty ys s h =
      let own = at_end none ys s h in
      let some = h.inputs_are.some in
      let size : length ys ≡ 0 = ap length (own.0 ∙ empty) in
      omega (arith, some, size)

  pub no_line_feed : ((digits : List ℕ) → r ≢ 32 ∷ digits) → ((rest : List ℕ) → r ≢ 10 ∷ rest) → (ys s : List ℕ) → IsLineEnd bytes bound ys s → ⊥
  no_line_feed none feed ys s h = feed s (at_end none ys s h).1
