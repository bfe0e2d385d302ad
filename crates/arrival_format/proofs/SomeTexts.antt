-- Texts of the record of a Union of two streams.
use Rattle.std.specs.Fmt.{decimal}
use Rattle.std.specs.List.{AllByRecursion, flat_map}
use Rattle.std.proofs.Common.{◌≡◌, ◌∙◌, ◌+◌, ◌<◌, ◌++◌, ◌∷◌, [], ℕ, List, codes, map, refl, ap, sym, subst, arith, append_assoc, append-nil}
use Rattle.std.proofs.lemmas.Fmt.{decimal_digit}
use Rattle.stream_model.specs.declared.record.ArrivalList.{ArrivalList}
use Rattle.stream_model.specs.declared.record.Arrivals.{Arrivals}
use Rattle.stream_model.specs.CheckedMeaning.{graph_of}
use Rattle.arrival_format.specs.ArrivalTexts.{AreInputs, Spells, arrivals_text, connection_count, inputs_text, line_text, name_at}
use Rattle.arrival_format.specs.examples.TwoStreams.{of_union, two_streams}

zero_text : decimal 0 ≡ 48 ∷ []
zero_text = decimal_digit 0 (omega arith)

one_text : decimal 1 ≡ 49 ∷ []
one_text = decimal_digit 1 (omega arith)

pub text_is : arrivals_text two_streams (of_union (0 ∷ 1 ∷ 0 ∷ 0 ∷ 0 ∷ 1 ∷ 1 ∷ [])) ≡ codes "arrivals 1\nU 0 1 0 0 0 1 1\n"
text_is = rw (zero_text, one_text) refl

zero_below : 0 < 2
zero_below = omega arith

one_below : 1 < 2
one_below = omega arith

pub text_spells : Spells two_streams (codes "arrivals 1\nU 0 1 0 0 0 1 1\n") (of_union (0 ∷ 1 ∷ 0 ∷ 0 ∷ 0 ∷ 1 ∷ 1 ∷ []))
text_spells = record {
  made = record {
    lists = refl;
    inputs = (record { some = omega arith; below = (zero_below, (one_below, (zero_below, (zero_below, (zero_below, (one_below, (one_below, tt))))))) }, tt);
  };
  text = sym text_is;
  short = omega arith;
}

-- a text has the line of the Union alone
one_line : (bytes : List ℕ) (arrivals : Arrivals) → Spells two_streams bytes arrivals
    → (inputs : List ℕ) × AreInputs 2 inputs × (bytes ≡ codes "arrivals 1\nU" ++ (inputs_text inputs ++ 10 ∷ []))
one_line bytes arrivals h = go arrivals.lists h.made.lists h.made.inputs h.text
  where
    go : (lists : List ArrivalList) → map (λ (l : ArrivalList). l.op) lists ≡ 2 ∷ [] → AllByRecursion (λ (l : ArrivalList). AreInputs (connection_count (graph_of two_streams) l.op) l.inputs) lists
        → bytes ≡ codes "arrivals 1\n" ++ flat_map (line_text two_streams) lists → (inputs : List ℕ) × AreInputs 2 inputs × (bytes ≡ codes "arrivals 1\nU" ++ (inputs_text inputs ++ 10 ∷ []))
    go [] ops all text = absurd cc
    go (l ∷ m ∷ lists) ops all text = absurd cc
    go (l ∷ []) ops all text =
        let own : l.op ≡ 2 = cc in (
          l.inputs,
          subst (λ n. AreInputs (connection_count (graph_of two_streams) n) l.inputs) own all.0,
          text ∙ ap (λ n. codes "arrivals 1\n" ++ ((name_at two_streams n ++ inputs_text l.inputs ++ codes "\n") ++ [])) own ∙ ap (λ xs. codes "arrivals 1\nU" ++ xs) (append-nil (inputs_text l.inputs ++ 10 ∷ [])),
        )

first_digit_of : (x b : ℕ) (r s : List ℕ) → x < 2 → b ∷ s ≡ decimal x ++ r → (b ≡ 48 + x) × (s ≡ r)
first_digit_of x b r s small e =
    let both : b ∷ s ≡ (48 + x) ∷ r = e ∙ ap (λ ds. ds ++ r) (decimal_digit x (omega arith)) in
    (cc, cc)

pub no_number : (arrivals : Arrivals) → Spells two_streams (codes "arrivals 1\nU\n") arrivals → ⊥
no_number arrivals h = go (one_line (codes "arrivals 1\nU\n") arrivals h)
  where
    go : (inputs : List ℕ) × AreInputs 2 inputs × (codes "arrivals 1\nU\n" ≡ codes "arrivals 1\nU" ++ (inputs_text inputs ++ 10 ∷ [])) → ⊥
    go ([], are, text) = let some = are.some in omega (arith, some)
    go (x ∷ xs, are, text) = let clash : ◌≡◌ {A = ℕ} 10 32 = cc in omega (arith, clash)

behind_name : (a b : List ℕ) → codes "arrivals 1\nU " ++ a ≡ codes "arrivals 1\nU" ++ 32 ∷ b → a ≡ b
behind_name a b e = cc

pub third_input : (arrivals : Arrivals) → Spells two_streams (codes "arrivals 1\nU 2\n") arrivals → ⊥
third_input arrivals h = go (one_line (codes "arrivals 1\nU 2\n") arrivals h)
  where
    go : (inputs : List ℕ) × AreInputs 2 inputs × (codes "arrivals 1\nU 2\n" ≡ codes "arrivals 1\nU" ++ (inputs_text inputs ++ 10 ∷ [])) → ⊥
    go ([], are, text) = let some = are.some in omega (arith, some)
    go (x ∷ xs, are, text) =
        let small = are.below.0 in
        let behind = behind_name (50 ∷ 10 ∷ []) ((decimal x ++ inputs_text xs) ++ 10 ∷ []) text ∙ append_assoc (decimal x) (inputs_text xs) (10 ∷ []) in
        let digit = (first_digit_of x 50 (inputs_text xs ++ 10 ∷ []) (10 ∷ []) small behind).0 in
        omega (arith, small, digit)

pub two_blanks : (arrivals : Arrivals) → Spells two_streams (codes "arrivals 1\nU 0  1\n") arrivals → ⊥
two_blanks arrivals h = go (one_line (codes "arrivals 1\nU 0  1\n") arrivals h)
  where
    next : (ys : List ℕ) → AllByRecursion (λ i. i < 2) ys → codes "  1\n" ≡ inputs_text ys ++ 10 ∷ [] → ⊥
    next [] all e = let clash : ◌≡◌ {A = ℕ} 32 10 = cc in omega (arith, clash)
    next (y ∷ ys) all e =
        let small = all.0 in
        let own : codes " 1\n" ≡ (decimal y ++ inputs_text ys) ++ 10 ∷ [] = cc in
        let digit = (first_digit_of y 32 (inputs_text ys ++ 10 ∷ []) (codes "1\n") small (own ∙ append_assoc (decimal y) (inputs_text ys) (10 ∷ []))).0 in
        omega (arith, small, digit)

    go : (inputs : List ℕ) × AreInputs 2 inputs × (codes "arrivals 1\nU 0  1\n" ≡ codes "arrivals 1\nU" ++ (inputs_text inputs ++ 10 ∷ [])) → ⊥
    go ([], are, text) = let some = are.some in omega (arith, some)
    go (x ∷ xs, are, text) =
        let behind = behind_name (codes "0  1\n") ((decimal x ++ inputs_text xs) ++ 10 ∷ []) text ∙ append_assoc (decimal x) (inputs_text xs) (10 ∷ []) in
        next xs are.below.1 (first_digit_of x 48 (inputs_text xs ++ 10 ∷ []) (codes "  1\n") are.below.0 behind).1
