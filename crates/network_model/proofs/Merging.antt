-- What is merged of fronts of lists that are in order is a front of what is merged of these.
use Rattle.std.proofs.Common.{ℕ, zero, suc, ◌+◌, ◌<◌, ◌≤◌, ◌==◌, nat_le, Bool, true, false, cond, ◌&&◌, ◌||◌, List, [], ◌∷◌, ◌++◌, ◌≡◌, refl, sym, ap, ◌∙◌, append_assoc, append-nil, length, map, arith, inl, inr, subst, filter, take_while}
use Rattle.std.specs.List.{list_all, list_any}
use Rattle.std.proofs.lemmas.Bool.{cond-true, cond-false, cases_lt, cases_eq, eqb-true, ne_eqb, and_parts, and_from, or_parts, or_left, or_right, leb-true, le-leb}
use Rattle.std.proofs.lemmas.List.{map-append}
use Rattle.std.proofs.lemmas.List.Elements.{filter-append, filter_map-append}
use Rattle.std.proofs.lemmas.List.Folds.{list_any-append, list_all-append}
use Rattle.std.proofs.lemmas.List.Sums.{take_while-cons}
use Rattle.spl_value.specs.declared.item.Item.{Item}
use Rattle.spl_value.specs.declared.packet.Packet.{Packet}
use Rattle.spl_value.specs.declared.packet.Packet.TheVariants as P
use Rattle.spl_value.specs.Numbered.{closes, cut, below, top, top_all, of_number, in_turn, item_of, items_of, numbers_of, reaches, channels_from, channels, taken_items, Rule, ByTurns, ByNumbers, ByPulses, has_number, known_by_number, known_by_pulses, known, merged, NeverFalls, Rises, stops_once, AreApart, AreInTurn, InOrder}
use Rattle.stream_model.specs.Stream.{IsPrefix}
use Rattle.channel_heads.specs.FrontLaws.{AreFronts}
use Rattle.channel_heads.proofs.Packets.{in_turn_rises}
use Rattle.network_model.proofs.Packets.{front-trans, front-same, front-left, no_length}

abbrev Tagged : Type 0
Tagged = ℕ × Item

abbrev Tags : Type 0
Tags = List (ℕ × Item)

-- an item of this number is there
abbrev has : ℕ → List (ℕ × Item) → Bool
has n ps = list_any (λ (p : ℕ × Item). p.0 == n) ps

abbrev numbered : ℕ → List (ℕ × Item) → List (ℕ × Item)
numbered n ps = filter (λ (p : ℕ × Item). p.0 == n) ps

-- ---- blocks of a number each

-- each item of a block has its number
abbrev Own : (ℕ → List (ℕ × Item)) → Type 0
Own T = (n : ℕ) → list_all (λ (p : ℕ × Item). p.0 == n) (T n) ≡ true

passes : (k : ℕ → Bool) (n : ℕ) (ps : List (ℕ × Item)) → list_all (λ (p : ℕ × Item). p.0 == n) ps ≡ true → k n ≡ true → list_all (λ (p : ℕ × Item). k p.0) ps ≡ true
passes k n [] own h = refl
passes k n (p ∷ ps) own h =
    let parts = and_parts (p.0 == n) (list_all (λ (q : ℕ × Item). q.0 == n) ps) own in
    and_from (k p.0) (list_all (λ (q : ℕ × Item). k q.0) ps) (ap k (eqb-true p.0 n parts.0) ∙ h) (passes k n ps parts.1 h)

fails : (k : ℕ → Bool) (n : ℕ) (ps : List (ℕ × Item)) → list_all (λ (p : ℕ × Item). p.0 == n) ps ≡ true → k n ≡ false → take_while (λ (p : ℕ × Item). k p.0) ps ≡ []
fails k n [] own h = refl
fails k n (p ∷ ps) own h =
    let parts = and_parts (p.0 == n) (list_all (λ (q : ℕ × Item). q.0 == n) ps) own in
    take_while-cons (λ (q : ℕ × Item). k q.0) p ps ∙ cond-false (k p.0) (p ∷ take_while (λ (q : ℕ × Item). k q.0) ps) [] (ap k (eqb-true p.0 n parts.0) ∙ h)

while-append : {X : Type 0} (test : X → Bool) (xs ys : List X) → take_while test (xs ++ ys) ≡ cond (list_all test xs) (xs ++ take_while test ys) (take_while test xs)
while-append test [] ys = refl
while-append test (x ∷ xs) ys =
    take_while-cons test x (xs ++ ys)
    ∙ ap (λ z. cond (test x) (x ∷ z) []) (while-append test xs ys)
    ∙ go (test x) (list_all test xs)
    ∙ ap (λ z. cond (test x && list_all test xs) (x ∷ (xs ++ take_while test ys)) z) (sym (take_while-cons test x xs))
  where
    go : (b c : Bool) → cond b (x ∷ cond c (xs ++ take_while test ys) (take_while test xs)) [] ≡ cond (b && c) (x ∷ (xs ++ take_while test ys)) (cond b (x ∷ take_while test xs) [])
    go true true = refl
    go true false = refl
    go false c = refl

while-all : {X : Type 0} (test : X → Bool) (xs : List X) → list_all test xs ≡ true → take_while test xs ≡ xs
while-all test [] h = refl
while-all test (x ∷ xs) h =
    let parts = and_parts (test x) (list_all test xs) h in
    take_while-cons test x xs ∙ cond-true (test x) (x ∷ take_while test xs) [] parts.0 ∙ ap (λ z. x ∷ z) (while-all test xs parts.1)

-- how many numbers below n are known, from 0 on
abbrev count : (ℕ → Bool) → ℕ → ℕ
count k zero = 0
count k (suc n) = cond (k n) (suc n) (count k n)

-- what is known of a number is known of the smaller ones
abbrev Down : (ℕ → Bool) → Type 0
Down k = (n : ℕ) → k (suc n) ≡ true → k n ≡ true

down-to : (k : ℕ → Bool) → Down k → (n m : ℕ) → k n ≡ true → m ≤ n → k m ≡ true
down-to k d zero m h le = ap k (let e : m ≡ 0 = omega (arith, le) in e) ∙ h
down-to k d (suc n) m h le = elim (cases_eq m (suc n)) [
  | inl e ↦ ap k e ∙ h
  | inr ne ↦ down-to k d n m (d n h) (omega (arith, le, ne))
]

below-passes : (k : ℕ → Bool) (T : ℕ → List (ℕ × Item)) (n : ℕ) → Own T → ((m : ℕ) → m < n → k m ≡ true) → list_all (λ (p : ℕ × Item). k p.0) (below n T) ≡ true
below-passes k T zero own h = refl
below-passes k T (suc n) own h =
    list_all-append (λ (p : ℕ × Item). k p.0) (below n T) (T n)
    ∙ and_from (list_all (λ (p : ℕ × Item). k p.0) (below n T)) (list_all (λ (p : ℕ × Item). k p.0) (T n))
    (below-passes k T n own (λ m lt. h m (omega (arith, lt)))) (passes k n (T n) (own n) (h n (omega arith)))

-- what is known are the blocks of those numbers
known-blocks : (k : ℕ → Bool) (T : ℕ → List (ℕ × Item)) → Own T → Down k → (n : ℕ) → take_while (λ (p : ℕ × Item). k p.0) (below n T) ≡ below (count k n) T
known-blocks k T own d zero = refl
known-blocks k T own d (suc n) = go (k n) refl (known-blocks k T own d n)
  where
    test : ℕ × Item → Bool
    test p = k p.0

    go : (b : Bool) → k n ≡ b → take_while (λ (p : ℕ × Item). k p.0) (below n T) ≡ below (count k n) T
        → take_while (λ (p : ℕ × Item). k p.0) (below n T ++ T n) ≡ below (cond b (suc n) (count k n)) T
    go true q rest = while-all (λ (p : ℕ × Item). k p.0) (below n T ++ T n) (below-passes k T (suc n) own (λ m lt. down-to k d n m q (omega (arith, lt))))
    go false q rest =
        while-append (λ (p : ℕ × Item). k p.0) (below n T) (T n)
        ∙ ap (λ z. cond (list_all (λ (p : ℕ × Item). k p.0) (below n T)) (below n T ++ z) (take_while (λ (p : ℕ × Item). k p.0) (below n T))) (fails k n (T n) (own n) q)
        ∙ half (list_all (λ (p : ℕ × Item). k p.0) (below n T)) refl ∙ rest
      where
        half : (c : Bool) → list_all (λ (p : ℕ × Item). k p.0) (below n T) ≡ c
            → cond c (below n T ++ []) (take_while (λ (p : ℕ × Item). k p.0) (below n T)) ≡ take_while (λ (p : ℕ × Item). k p.0) (below n T)
        half true e = append-nil (below n T) ∙ sym (while-all (λ (p : ℕ × Item). k p.0) (below n T) e)
        half false e = refl

count-le : (k : ℕ → Bool) (n : ℕ) → count k n ≤ n
count-le k zero = omega arith
count-le k (suc n) = go (k n) (count-le k n)
  where
    go : (b : Bool) → count k n ≤ n → cond b (suc n) (count k n) ≤ suc n
    go true le = omega arith
    go false le = omega (arith, le)

count-known : (k : ℕ → Bool) → Down k → (n m : ℕ) → m < count k n → k m ≡ true
count-known k d zero m lt = absurd (omega (arith, lt))
count-known k d (suc n) m lt = go (k n) refl lt (count-known k d n m)
  where
    go : (b : Bool) → k n ≡ b → m < cond b (suc n) (count k n) → (m < count k n → k m ≡ true) → k m ≡ true
    go true q l rest = down-to k d n m q (omega (arith, l))
    go false q l rest = rest l

count-ge : (k : ℕ → Bool) (a n : ℕ) → a ≤ n → ((m : ℕ) → m < a → k m ≡ true) → a ≤ count k n
count-ge k a zero le h = omega (arith, le)
count-ge k a (suc n) le h = go (k n) refl (count-ge k a n)
  where
    go : (b : Bool) → k n ≡ b → (a ≤ n → ((m : ℕ) → m < a → k m ≡ true) → a ≤ count k n) → a ≤ cond b (suc n) (count k n)
    go true q rest = le
    go false q rest = elim (cases_lt n a) [
      | inl lt ↦ let clash : false ≡ true = sym q ∙ h n lt in absurd (cc)
      | inr ge ↦ rest ge h
    ]

below-front : (T : ℕ → List (ℕ × Item)) (a b : ℕ) → a ≤ b → IsPrefix (below a T) (below b T)
below-front T a zero le = let e : a ≡ 0 = omega (arith, le) in front-same (below a T) [] (ap (λ n. below n T) e)
below-front T a (suc b) le = elim (cases_eq a (suc b)) [
  | inl e ↦ front-same (below a T) (below (suc b) T) (ap (λ n. below n T) e)
  | inr ne ↦ front-trans (below a T) (below b T) (below b T ++ T b) (below-front T a b (omega (arith, le, ne))) (T b, refl)
]

below-same : (T U : ℕ → List (ℕ × Item)) (n : ℕ) → ((m : ℕ) → m < n → T m ≡ U m) → below n T ≡ below n U
below-same T U zero h = refl
below-same T U (suc n) h =
    let here : T n ≡ U n = h n (omega arith) in
    let rest : below n T ≡ below n U = below-same T U n (λ m lt. h m (omega (arith, lt))) in
    λ i. rest i ++ here i

-- fronts of blocks, of which all before the last known one are the same
module _ (T U : ℕ → List (ℕ × Item)) (k j : ℕ → Bool) (own-t : Own T) (own-u : Own U) (down-k : Down k) (down-j : Down j)
    (up : (n : ℕ) → k n ≡ true → j n ≡ true) (same : (n m : ℕ) → k n ≡ true → m < n → T m ≡ U m) (fronts : (n : ℕ) → IsPrefix (T n) (U n)) where
  same-below : (a : ℕ) → ((m : ℕ) → m < a → k m ≡ true) → IsPrefix (below a T) (below a U)
  same-below zero h = ([], refl)
  same-below (suc a) h =
      let before : below a T ≡ below a U = below-same T U a (λ m lt. same a m (h a (omega arith)) lt) in
      let last : IsPrefix (T a) (U a) = fronts a in
      (last.0, append_assoc (below a T) (T a) last.0 ∙ ap (λ z. below a T ++ z) last.1 ∙ ap (λ z. z ++ U a) before)

  pub blocks-front : (n m : ℕ) → n ≤ m → IsPrefix (take_while (λ (p : ℕ × Item). k p.0) (below n T)) (take_while (λ (p : ℕ × Item). j p.0) (below m U))
  blocks-front n m le =
      let a : ℕ = count k n in
      let small : count k n ≤ n = count-le k n in
      let all : (i : ℕ) → i < count k n → k i ≡ true = count-known k down-k n in
      let more : count k n ≤ count j m = count-ge j (count k n) m (omega (arith, small, le)) (λ i lt. up i (all i lt)) in
      front-left (take_while (λ (p : ℕ × Item). k p.0) (below n T)) (below (count k n) T) (take_while (λ (p : ℕ × Item). j p.0) (below m U)) (below (count j m) U)
      (known-blocks k T own-t down-k n) (known-blocks j U own-u down-j m)
      (front-trans (below (count k n) T) (below (count k n) U) (below (count j m) U) (same-below (count k n) all) (below-front U (count k n) (count j m) more))

-- ---- channels

numbered-own : (n : ℕ) (ps : List (ℕ × Item)) → list_all (λ (p : ℕ × Item). p.0 == n) (numbered n ps) ≡ true
numbered-own n [] = refl
numbered-own n (p ∷ ps) = go (p.0 == n) refl (numbered-own n ps)
  where
    go : (b : Bool) → (p.0 == n) ≡ b → list_all (λ (q : ℕ × Item). q.0 == n) (numbered n ps) ≡ true → list_all (λ (q : ℕ × Item). q.0 == n) (cond b (p ∷ numbered n ps) (numbered n ps)) ≡ true
    go true q rest = and_from (p.0 == n) (list_all (λ (r : ℕ × Item). r.0 == n) (numbered n ps)) q rest
    go false q rest = rest

of_number-own : (lists : List (List (ℕ × Item))) → Own (λ n. of_number n lists)
of_number-own [] n = refl
of_number-own (l ∷ lists) n =
    list_all-append (λ (p : ℕ × Item). p.0 == n) (numbered n l) (of_number n lists)
    ∙ and_from (list_all (λ (p : ℕ × Item). p.0 == n) (numbered n l)) (list_all (λ (p : ℕ × Item). p.0 == n) (of_number n lists)) (numbered-own n l) (of_number-own lists n)

none-numbered : (n : ℕ) (ps : List (ℕ × Item)) → has n ps ≡ false → numbered n ps ≡ []
none-numbered n [] h = refl
none-numbered n (p ∷ ps) h =
    let parts = or_parts (p.0 == n) (has n ps) h in cond-false (p.0 == n) (p ∷ numbered n ps) (numbered n ps) parts.0 ∙ none-numbered n ps parts.1

front-numbered : (n : ℕ) (a b : List (ℕ × Item)) → IsPrefix a b → IsPrefix (numbered n a) (numbered n b)
front-numbered n a b p = (numbered n p.0, sym (filter-append (λ (q : ℕ × Item). q.0 == n) a p.0) ∙ ap (numbered n) p.1)

-- what is there in a front is there
any-front : {X : Type 0} (test : X → Bool) (a b : List X) → IsPrefix a b → list_any test a ≡ true → list_any test b ≡ true
any-front test a b p h = ap (list_any test) (sym p.1) ∙ list_any-append test a p.0 ∙ or_left (list_any test a) (list_any test p.0) h

any-none : {X : Type 0} (test : X → Bool) (a b : List X) → IsPrefix a b → list_any test b ≡ false → list_any test a ≡ false
any-none test a b p h = (or_parts (list_any test a) (list_any test p.0) (sym (list_any-append test a p.0) ∙ ap (list_any test) p.1 ∙ h)).0

-- in a range of channels
abbrev In : ℕ → ℕ → ℕ → Type 0
In c w d = (c ≤ d) × (d < c + w)

none-of : (c w n : ℕ) (f : ℕ → List (ℕ × Item)) → ((d : ℕ) → In c w d → has n (f d) ≡ false) → of_number n (channels_from c w f) ≡ []
none-of c zero n f h = refl
none-of c (suc w) n f h =
    ap (λ z. z ++ of_number n (channels_from (suc c) w f)) (none-numbered n (f c) (h c (omega arith, omega arith)))
    ∙ none-of (suc c) w n f (λ d at. let low = at.0 in let high = at.1 in h d (omega (arith, low), omega (arith, high)))

-- no number stands on two channels
abbrev Apart : ℕ → ℕ → (ℕ → List (ℕ × Item)) → Type 0
Apart c w f = (n d e : ℕ) → In c w d → In c w e → has n (f d) ≡ true → has n (f e) ≡ true → d ≡ e

apart-rest : (c w : ℕ) (f : ℕ → List (ℕ × Item)) → Apart c (suc w) f → Apart (suc c) w f
apart-rest c w f a n d e x y h k = let dl = x.0 in let dh = x.1 in let el = y.0 in let eh = y.1 in a n d e (omega (arith, dl), omega (arith, dh)) (omega (arith, el), omega (arith, eh)) h k

abbrev Fronts : ℕ → ℕ → (ℕ → List (ℕ × Item)) → (ℕ → List (ℕ × Item)) → Type 0
Fronts c w f g = (d : ℕ) → In c w d → IsPrefix (f d) (g d)

fronts-rest : (c w : ℕ) (f g : ℕ → List (ℕ × Item)) → Fronts c (suc w) f g → Fronts (suc c) w f g
fronts-rest c w f g h d at = let low = at.0 in let high = at.1 in h d (omega (arith, low), omega (arith, high))

block-front : (c w n : ℕ) (f g : ℕ → List (ℕ × Item)) → Fronts c w f g → Apart c w g → IsPrefix (of_number n (channels_from c w f)) (of_number n (channels_from c w g))
block-front c zero n f g fronts apart = ([], refl)
block-front c (suc w) n f g fronts apart = go (has n (g c)) refl (block-front (suc c) w n f g (fronts-rest c w f g fronts) (apart-rest c w g apart))
  where
    here : IsPrefix (f c) (g c)
    here = fronts c (omega arith, omega arith)

    others : has n (g c) ≡ true → (d : ℕ) → In (suc c) w d → has n (g d) ≡ false
    others q d at = other (has n (g d)) refl
      where
        other : (b : Bool) → has n (g d) ≡ b → b ≡ false
        other true h =
            let low = at.0 in let high = at.1 in
            let same : c ≡ d = apart n c d (omega arith, omega arith) (omega (arith, low), omega (arith, high)) q h in absurd (omega (arith, same, low))
        other false h = refl

    go : (b : Bool) → has n (g c) ≡ b → IsPrefix (of_number n (channels_from (suc c) w f)) (of_number n (channels_from (suc c) w g))
        → IsPrefix (numbered n (f c) ++ of_number n (channels_from (suc c) w f)) (numbered n (g c) ++ of_number n (channels_from (suc c) w g))
    go false q rest =
        front-left (numbered n (f c) ++ of_number n (channels_from (suc c) w f)) (of_number n (channels_from (suc c) w f)) (numbered n (g c) ++ of_number n (channels_from (suc c) w g)) (of_number n (channels_from (suc c) w g))
        (ap (λ z. z ++ of_number n (channels_from (suc c) w f)) (none-numbered n (f c) (any-none (λ (p : ℕ × Item). p.0 == n) (f c) (g c) here q)))
        (ap (λ z. z ++ of_number n (channels_from (suc c) w g)) (none-numbered n (g c) q)) rest
    go true q rest =
        front-left (numbered n (f c) ++ of_number n (channels_from (suc c) w f)) (numbered n (f c)) (numbered n (g c) ++ of_number n (channels_from (suc c) w g)) (numbered n (g c))
        (ap (λ z. numbered n (f c) ++ z) (none-of (suc c) w n f (λ d at. any-none (λ (p : ℕ × Item). p.0 == n) (f d) (g d) (fronts-rest c w f g fronts d at) (others q d at))) ∙ append-nil (numbered n (f c)))
        (ap (λ z. numbered n (g c) ++ z) (none-of (suc c) w n g (others q)) ∙ append-nil (numbered n (g c)))
        (front-numbered n (f c) (g c) here)

block-same : (c w n : ℕ) (f g : ℕ → List (ℕ × Item)) → ((d : ℕ) → In c w d → numbered n (f d) ≡ numbered n (g d)) → of_number n (channels_from c w f) ≡ of_number n (channels_from c w g)
block-same c zero n f g h = refl
block-same c (suc w) n f g h =
    let here : numbered n (f c) ≡ numbered n (g c) = h c (omega arith, omega arith) in
    let rest : of_number n (channels_from (suc c) w f) ≡ of_number n (channels_from (suc c) w g) =
    block-same (suc c) w n f g (λ d at. let low = at.0 in let high = at.1 in h d (omega (arith, low), omega (arith, high))) in
    λ i. here i ++ rest i

top-front : (a r : List (ℕ × Item)) → top a ≤ top (a ++ r)
top-front [] r = omega arith
top-front (p ∷ a) r = let rest : top a ≤ top (a ++ r) = top-front a r in omega (arith, rest)

top_all-front : (c w : ℕ) (f g : ℕ → List (ℕ × Item)) → Fronts c w f g → top_all (channels_from c w f) ≤ top_all (channels_from c w g)
top_all-front c zero f g h = omega arith
top_all-front c (suc w) f g h =
    let p : IsPrefix (f c) (g c) = h c (omega arith, omega arith) in
    let same : top (f c ++ p.0) ≡ top (g c) = ap top p.1 in
    let here : top (f c) ≤ top (f c ++ p.0) = top-front (f c) p.0 in
    let rest : top_all (channels_from (suc c) w f) ≤ top_all (channels_from (suc c) w g) = top_all-front (suc c) w f g (fronts-rest c w f g h) in
    omega (arith, same, here, rest)

-- a channel that passes a test
some-channel : {A : Type 0} (test : A → Bool) (c w : ℕ) (f : ℕ → A) → list_any test (channels_from c w f) ≡ true → (d : ℕ) × In c w d × (test (f d) ≡ true)
some-channel test c zero f h = absurd (cc)
some-channel test c (suc w) f h = go (test (f c)) refl h (λ r. some-channel test (suc c) w f r)
  where
    go : (b : Bool) → test (f c) ≡ b → (b || list_any test (channels_from (suc c) w f)) ≡ true → (list_any test (channels_from (suc c) w f) ≡ true → (d : ℕ) × In (suc c) w d × (test (f d) ≡ true))
        → (d : ℕ) × In c (suc w) d × (test (f d) ≡ true)
    go true q r rest = (c, (omega arith, omega arith), q)
    go false q r rest = let x = rest r in let at = x.1 in let low = at.0 in let high = at.1 in (x.0, (omega (arith, low), omega (arith, high)), x.2)

any-channel : {A : Type 0} (test : A → Bool) (c w d : ℕ) (f : ℕ → A) → In c w d → test (f d) ≡ true → list_any test (channels_from c w f) ≡ true
any-channel test c zero d f at h = let low = at.0 in let high = at.1 in absurd (omega (arith, low, high))
any-channel test c (suc w) d f at h = elim (cases_eq d c) [
  | inl e ↦ or_left (test (f c)) (list_any test (channels_from (suc c) w f)) (ap (λ z. test (f z)) (sym e) ∙ h)
  | inr ne ↦ let low = at.0 in let high = at.1 in
      or_right (test (f c)) (list_any test (channels_from (suc c) w f)) (any-channel test (suc c) w d f (omega (arith, low, ne), omega (arith, high)) h)
]

each-channel : {A : Type 0} (test : A → Bool) (c w : ℕ) (f g : ℕ → A) → ((d : ℕ) → In c w d → test (f d) ≡ true → test (g d) ≡ true)
    → list_all test (channels_from c w f) ≡ true → list_all test (channels_from c w g) ≡ true
each-channel test c zero f g h all = refl
each-channel test c (suc w) f g h all =
    let parts = and_parts (test (f c)) (list_all test (channels_from (suc c) w f)) all in
    and_from (test (g c)) (list_all test (channels_from (suc c) w g)) (h c (omega arith, omega arith) parts.0)
    (each-channel test (suc c) w f g (λ d at. let low = at.0 in let high = at.1 in h d (omega (arith, low), omega (arith, high))) parts.1)

at-channel : {A : Type 0} (test : A → Bool) (c w d : ℕ) (f : ℕ → A) → In c w d → list_all test (channels_from c w f) ≡ true → test (f d) ≡ true
at-channel test c zero d f at all = let low = at.0 in let high = at.1 in absurd (omega (arith, low, high))
at-channel test c (suc w) d f at all =
    let parts = and_parts (test (f c)) (list_all test (channels_from (suc c) w f)) all in
    elim (cases_eq d c) [
      | inl e ↦ ap (λ z. test (f z)) e ∙ parts.0
      | inr ne ↦ let low = at.0 in let high = at.1 in at-channel test (suc c) w d f (omega (arith, low, ne), omega (arith, high)) parts.1
    ]

-- ---- what is known

all-weaker : {A : Type 0} (one other : A → Bool) (xs : List A) → ((x : A) → one x ≡ true → other x ≡ true) → list_all one xs ≡ true → list_all other xs ≡ true
all-weaker one other [] h all = refl
all-weaker one other (x ∷ xs) h all =
    let parts = and_parts (one x) (list_all one xs) all in and_from (other x) (list_all other xs) (h x parts.0) (all-weaker one other xs h parts.1)

any-weaker : {A : Type 0} (one other : A → Bool) (xs : List A) → ((x : A) → one x ≡ true → other x ≡ true) → list_any one xs ≡ true → list_any other xs ≡ true
any-weaker one other [] h some = absurd (cc)
any-weaker one other (x ∷ xs) h some = go (one x) refl some (any-weaker one other xs h)
  where
    go : (b : Bool) → one x ≡ b → (b || list_any one xs) ≡ true → (list_any one xs ≡ true → list_any other xs ≡ true) → (other x || list_any other xs) ≡ true
    go true q s rest = or_left (other x) (list_any other xs) (h x q)
    go false q s rest = or_right (other x) (list_any other xs) (rest s)

reaches-less : (n : ℕ) (p : Packet) → reaches (suc n) p ≡ true → reaches n p ≡ true
reaches-less n (P.Item k x) h = let le : suc n ≤ k = leb-true (suc n) k h in le-leb n k (omega (arith, le))
reaches-less n (P.Pulse k) h = let le : suc n ≤ k = leb-true (suc n) k h in le-leb n k (omega (arith, le))
reaches-less n P.Close h = refl
reaches-less n P.Cut h = absurd (cc)

pulses-down : (w : ℕ) (t : ℕ → List Packet) → Down (known_by_pulses w t)
pulses-down w t zero h = refl
pulses-down w t (suc n) h =
    all-weaker (λ l. list_any (reaches (suc (suc n))) l) (λ l. list_any (reaches (suc n)) l) (channels w t)
    (λ l s. any-weaker (reaches (suc (suc n))) (reaches (suc n)) l (reaches-less (suc n)) s) h

numbers-down : (w : ℕ) (t : ℕ → List Packet) → Down (known_by_number w t)
numbers-down w t n h = (and_parts (known_by_number w t n) (has_number n (taken_items w t)) h).0

front-items_of : (a b : List Packet) → IsPrefix a b → IsPrefix (items_of a) (items_of b)
front-items_of a b p = (items_of p.0, sym (filter_map-append item_of a p.0) ∙ ap items_of p.1)

item-fronts : (w : ℕ) (t u : ℕ → List Packet) → AreFronts w t u → Fronts 0 w (λ c. items_of (t c)) (λ c. items_of (u c))
item-fronts w t u f d at = let high = at.1 in front-items_of (t d) (u d) (f d (omega (arith, high)))

pulses-up : (w : ℕ) (t u : ℕ → List Packet) → AreFronts w t u → (n : ℕ) → known_by_pulses w t n ≡ true → known_by_pulses w u n ≡ true
pulses-up w t u f zero h = refl
pulses-up w t u f (suc n) h =
    each-channel (λ l. list_any (reaches (suc n)) l) 0 w t u (λ d at s. let high = at.1 in any-front (reaches (suc n)) (t d) (u d) (f d (omega (arith, high))) s) h

number-up : (w n : ℕ) (t u : ℕ → List Packet) → AreFronts w t u → has_number n (taken_items w t) ≡ true → has_number n (taken_items w u) ≡ true
number-up w n t u f h =
    let s = some-channel (has n) 0 w (λ c. items_of (t c)) h in
    any-channel (has n) 0 w s.0 (λ c. items_of (u c)) s.1
    (any-front (λ (p : ℕ × Item). p.0 == n) (items_of (t s.0)) (items_of (u s.0)) (item-fronts w t u f s.0 s.1) s.2)

numbers-up : (w : ℕ) (t u : ℕ → List Packet) → AreFronts w t u → (n : ℕ) → known_by_number w t n ≡ true → known_by_number w u n ≡ true
numbers-up w t u f zero h = refl
numbers-up w t u f (suc n) h =
    let parts = and_parts (known_by_number w t n) (has_number n (taken_items w t)) h in
    and_from (known_by_number w u n) (has_number n (taken_items w u)) (numbers-up w t u f n parts.0) (number-up w n t u f parts.1)

numbers-taken : (w : ℕ) (t : ℕ → List Packet) (n m : ℕ) → known_by_number w t n ≡ true → m < n → has_number m (taken_items w t) ≡ true
numbers-taken w t zero m h lt = absurd (omega (arith, lt))
numbers-taken w t (suc n) m h lt =
    let parts = and_parts (known_by_number w t n) (has_number n (taken_items w t)) h in
    elim (cases_eq m n) [
      | inl e ↦ ap (λ k. has_number k (taken_items w t)) e ∙ parts.1
      | inr ne ↦ numbers-taken w t n m parts.0 (omega (arith, lt, ne))
    ]

-- ---- no more of a number comes

empty-front : (a b : List (ℕ × Item)) → IsPrefix a b → b ≡ [] → a ≡ []
empty-front [] b p e = refl
empty-front (x ∷ a) b p e = let clash : x ∷ (a ++ p.0) ≡ [] = p.1 ∙ e in absurd (cc)

above-none : (ps : List Packet) (low m : ℕ) → NeverFalls low (numbers_of ps) → m < low → numbered m (items_of ps) ≡ []
above-none [] low m f lt = refl
above-none (P.Item k x ∷ ps) low m f lt =
    let le = f.0 in
    cond-false (k == m) ((k, x) ∷ numbered m (items_of ps)) (numbered m (items_of ps)) (ne_eqb k m (λ (e : k ≡ m). omega (arith, e, le, lt)))
    ∙ above-none ps k m f.1 (omega (arith, le, lt))
above-none (P.Pulse k ∷ ps) low m f lt = let le = f.0 in above-none ps k m f.1 (omega (arith, le, lt))
above-none (P.Close ∷ ps) low m f lt = above-none ps low m f lt
above-none (P.Cut ∷ ps) low m f lt = above-none ps low m f lt

none-behind : (m : ℕ) (ps r : List Packet) → ps ++ r ≡ [] → numbered m (items_of (ps ++ r)) ≡ numbered m (items_of ps)
none-behind m [] [] e = refl
none-behind m [] (p ∷ r) e = absurd (cc)
none-behind m (p ∷ ps) r e = absurd (cc)

above-same : (ps r : List Packet) (low m : ℕ) → NeverFalls low (numbers_of (ps ++ r)) → m < low → numbered m (items_of (ps ++ r)) ≡ numbered m (items_of ps)
above-same ps r low m f lt =
    let none : numbered m (items_of (ps ++ r)) ≡ [] = above-none (ps ++ r) low m f lt in
    none ∙ sym (empty-front (numbered m (items_of ps)) (numbered m (items_of (ps ++ r))) (front-numbered m (items_of ps) (items_of (ps ++ r)) (front-items_of ps (ps ++ r) (r, refl))) none)

reach-same : (ps r : List Packet) (low n m : ℕ) → m < n → NeverFalls low (numbers_of (ps ++ r)) → stops_once (ps ++ r) ≡ true → list_any (reaches n) ps ≡ true
    → numbered m (items_of (ps ++ r)) ≡ numbered m (items_of ps)
reach-same [] r low n m lt f s h = absurd (cc)
reach-same (P.Item k x ∷ ps) r low n m lt f s h = go (nat_le n k) refl h (reach-same ps r k n m lt f.1 s)
  where
    onto : (b : Bool) → numbered m (items_of (ps ++ r)) ≡ numbered m (items_of ps)
        → cond b ((k, x) ∷ numbered m (items_of (ps ++ r))) (numbered m (items_of (ps ++ r))) ≡ cond b ((k, x) ∷ numbered m (items_of ps)) (numbered m (items_of ps))
    onto true e = ap (λ z. (k, x) ∷ z) e
    onto false e = e

    go : (b : Bool) → nat_le n k ≡ b → (b || list_any (reaches n) ps) ≡ true → (list_any (reaches n) ps ≡ true → numbered m (items_of (ps ++ r)) ≡ numbered m (items_of ps))
        → cond (k == m) ((k, x) ∷ numbered m (items_of (ps ++ r))) (numbered m (items_of (ps ++ r))) ≡ cond (k == m) ((k, x) ∷ numbered m (items_of ps)) (numbered m (items_of ps))
    go true q o rest = let le : n ≤ k = leb-true n k q in onto (k == m) (above-same ps r k m f.1 (omega (arith, le, lt)))
    go false q o rest = onto (k == m) (rest o)
reach-same (P.Pulse k ∷ ps) r low n m lt f s h = go (nat_le n k) refl h (reach-same ps r k n m lt f.1 s)
  where
    go : (b : Bool) → nat_le n k ≡ b → (b || list_any (reaches n) ps) ≡ true → (list_any (reaches n) ps ≡ true → numbered m (items_of (ps ++ r)) ≡ numbered m (items_of ps))
        → numbered m (items_of (ps ++ r)) ≡ numbered m (items_of ps)
    go true q o rest = let le : n ≤ k = leb-true n k q in above-same ps r k m f.1 (omega (arith, le, lt))
    go false q o rest = rest o
reach-same (P.Close ∷ ps) r low n m lt f s h = none-behind m ps r (no_length (ps ++ r) (and_parts (nat_le (length (ps ++ r)) 0) (stops_once (ps ++ r)) s).0)
reach-same (P.Cut ∷ ps) r low n m lt f s h = none-behind m ps r (no_length (ps ++ r) (and_parts (nat_le (length (ps ++ r)) 0) (stops_once (ps ++ r)) s).0)

rises-none : (ps : List (ℕ × Item)) (low m : ℕ) → Rises low (map (λ (p : ℕ × Item). p.0) ps) → m < low → numbered m ps ≡ []
rises-none [] low m f lt = refl
rises-none (p ∷ ps) low m f lt =
    let le = f.0 in
    cond-false (p.0 == m) (p ∷ numbered m ps) (numbered m ps) (ne_eqb p.0 m (λ (e : p.0 ≡ m). omega (arith, e, le, lt))) ∙ rises-none ps (suc p.0) m f.1 (omega (arith, le, lt))

rise-same : (ps r : List (ℕ × Item)) (low m : ℕ) → Rises low (map (λ (p : ℕ × Item). p.0) (ps ++ r)) → has m ps ≡ true → numbered m (ps ++ r) ≡ numbered m ps
rise-same [] r low m f h = absurd (cc)
rise-same (p ∷ ps) r low m f h = go (p.0 == m) refl h (rise-same ps r (suc p.0) m f.1)
  where
    go : (b : Bool) → (p.0 == m) ≡ b → (b || has m ps) ≡ true → (has m ps ≡ true → numbered m (ps ++ r) ≡ numbered m ps)
        → cond b (p ∷ numbered m (ps ++ r)) (numbered m (ps ++ r)) ≡ cond b (p ∷ numbered m ps) (numbered m ps)
    go true q o rest =
        let is : p.0 ≡ m = eqb-true p.0 m q in
        let none : numbered m (ps ++ r) ≡ [] = rises-none (ps ++ r) (suc p.0) m f.1 (omega (arith, is)) in
        ap (λ z. p ∷ z) (none ∙ sym (empty-front (numbered m ps) (numbered m (ps ++ r)) (front-numbered m ps (ps ++ r) (r, refl)) none))
    go false q o rest = rest o

-- ---- lists in order

-- the numbers of items rise, where merging isn't by pulses
rising : (w : ℕ) (u : ℕ → List Packet) → AreInTurn w u → (c : ℕ) → c < w → Rises 0 (map (λ (p : ℕ × Item). p.0) (items_of (u c)))
rising w u turn c lt = (in_turn_rises w u (omega (arith, lt)) turn).rises c lt

apart-items : (w : ℕ) (u : ℕ → List Packet) → AreApart w u → Apart 0 w (λ c. items_of (u c))
apart-items w u a n d e x y h k = let dh = x.1 in let eh = y.1 in a.apart n d e (omega (arith, dh)) (omega (arith, eh)) h k

pulses-same : (w : ℕ) (t u : ℕ → List Packet) → AreFronts w t u → AreApart w u → ((c : ℕ) → c < w → stops_once (u c) ≡ true) → (n m : ℕ) → known_by_pulses w t n ≡ true → m < n
    → of_number m (taken_items w t) ≡ of_number m (taken_items w u)
pulses-same w t u f a s zero m h lt = absurd (omega (arith, lt))
pulses-same w t u f a s (suc n) m h lt = block-same 0 w m (λ c. items_of (t c)) (λ c. items_of (u c)) each
  where
    each : (d : ℕ) → In 0 w d → numbered m (items_of (t d)) ≡ numbered m (items_of (u d))
    each d at =
        let high = at.1 in
        let low : d < w = omega (arith, high) in
        let p : IsPrefix (t d) (u d) = f d low in
        sym (ap (λ z. numbered m (items_of z)) (sym p.1)
        ∙ reach-same (t d) p.0 0 (suc n) m lt (subst-falls (sym p.1) (a.falls d low)) (ap stops_once p.1 ∙ s d low) (at-channel (λ l. list_any (reaches (suc n)) l) 0 w d t at h))
      where
        subst-falls : {ps qs : List Packet} → ps ≡ qs → NeverFalls 0 (numbers_of ps) → NeverFalls 0 (numbers_of qs)
        subst-falls e k = subst (λ z. NeverFalls 0 (numbers_of z)) e k

numbers-same : (w : ℕ) (t u : ℕ → List Packet) → AreFronts w t u → AreApart w u → ((c : ℕ) → c < w → Rises 0 (map (λ (p : ℕ × Item). p.0) (items_of (u c)))) → (n m : ℕ) → known_by_number w t n ≡ true → m < n
    → of_number m (taken_items w t) ≡ of_number m (taken_items w u)
numbers-same w t u f a rise n m h lt = go (some-channel (has m) 0 w (λ c. items_of (t c)) (numbers-taken w t n m h lt))
  where
    go : (d : ℕ) × In 0 w d × (has m (items_of (t d)) ≡ true) → of_number m (taken_items w t) ≡ of_number m (taken_items w u)
    go own = block-same 0 w m (λ c. items_of (t c)) (λ c. items_of (u c)) (λ d at. each d at (has m (items_of (u d))) refl)
      where
        there : has m (items_of (u own.0)) ≡ true
        there = any-front (λ (p : ℕ × Item). p.0 == m) (items_of (t own.0)) (items_of (u own.0)) (item-fronts w t u f own.0 own.1) own.2

        each : (d : ℕ) → In 0 w d → (b : Bool) → has m (items_of (u d)) ≡ b → numbered m (items_of (t d)) ≡ numbered m (items_of (u d))
        each d at false q =
            none-numbered m (items_of (t d)) (any-none (λ (p : ℕ × Item). p.0 == m) (items_of (t d)) (items_of (u d)) (item-fronts w t u f d at) q)
            ∙ sym (none-numbered m (items_of (u d)) q)
        each d at true q =
            let high = at.1 in
            let p : IsPrefix (items_of (t d)) (items_of (u d)) = item-fronts w t u f d at in
            let same : own.0 ≡ d = apart-items w u a m own.0 d own.1 at there q in
            sym (ap (numbered m) (sym p.1)
            ∙ rise-same (items_of (t d)) p.0 0 m (subst (λ z. Rises 0 (map (λ (x : ℕ × Item). x.0) z)) (sym p.1) (rise d (omega (arith, high)))) (subst (λ z. has m (items_of (t z)) ≡ true) same own.2))

-- ---- the law

cut-front : (a r : List Item) → IsPrefix (cut a) (cut (a ++ r))
cut-front [] r = (cut r, refl)
cut-front (x ∷ a) r = go (closes x) (cut-front a r)
  where
    go : (b : Bool) → IsPrefix (cut a) (cut (a ++ r)) → IsPrefix (x ∷ cond b [] (cut a)) (x ∷ cond b [] (cut (a ++ r)))
    go true p = ([], refl)
    go false p = (p.0, ap (λ z. x ∷ z) p.1)

front-merge : (a b : List (ℕ × Item)) → IsPrefix a b → IsPrefix (cut (map (λ (p : ℕ × Item). p.1) a)) (cut (map (λ (p : ℕ × Item). p.1) b))
front-merge a b p =
    let q = cut-front (map (λ (x : ℕ × Item). x.1) a) (map (λ (x : ℕ × Item). x.1) p.0) in
    (q.0, q.1 ∙ ap cut (sym (map-append (λ (x : ℕ × Item). x.1) a p.0)) ∙ ap (λ z. cut (map (λ (x : ℕ × Item). x.1) z)) p.1)

apart-of : (rule : Rule) (w : ℕ) (u : ℕ → List Packet) → InOrder rule w u → AreApart w u
apart-of ByTurns w u o = o.apart
apart-of ByNumbers w u o = o.apart
apart-of ByPulses w u o = o

known-down : (rule : Rule) (w : ℕ) (t : ℕ → List Packet) → Down (known rule w t)
known-down ByTurns w t = numbers-down w t
known-down ByNumbers w t = numbers-down w t
known-down ByPulses w t = pulses-down w t

known-up : (rule : Rule) (w : ℕ) (t u : ℕ → List Packet) → AreFronts w t u → (n : ℕ) → known rule w t n ≡ true → known rule w u n ≡ true
known-up ByTurns w t u f = numbers-up w t u f
known-up ByNumbers w t u f = numbers-up w t u f
known-up ByPulses w t u f = pulses-up w t u f

known-same : (rule : Rule) (w : ℕ) (t u : ℕ → List Packet) → AreFronts w t u → InOrder rule w u → ((c : ℕ) → c < w → stops_once (u c) ≡ true) → (n m : ℕ) → known rule w t n ≡ true → m < n
    → of_number m (taken_items w t) ≡ of_number m (taken_items w u)
known-same ByTurns w t u f o s = numbers-same w t u f o.apart (rising w u o)
known-same ByNumbers w t u f o s = numbers-same w t u f o.apart o.rises
known-same ByPulses w t u f o s = pulses-same w t u f o s

pub merged-front : (rule : Rule) (w : ℕ) (t u : ℕ → List Packet) → AreFronts w t u → InOrder rule w u → ((c : ℕ) → c < w → stops_once (u c) ≡ true) → IsPrefix (merged rule w t) (merged rule w u)
merged-front rule w t u f o s =
    front-merge (take_while (λ (p : ℕ × Item). known rule w t p.0) (in_turn (taken_items w t))) (take_while (λ (p : ℕ × Item). known rule w u p.0) (in_turn (taken_items w u)))
    (blocks-front (λ n. of_number n (taken_items w t)) (λ n. of_number n (taken_items w u)) (known rule w t) (known rule w u)
    (of_number-own (taken_items w t)) (of_number-own (taken_items w u)) (known-down rule w t) (known-down rule w u) (known-up rule w t u f) (known-same rule w t u f o s)
    (λ n. block-front 0 w n (λ c. items_of (t c)) (λ c. items_of (u c)) (item-fronts w t u f) (apart-items w u (apart-of rule w u o)))
    (top_all (taken_items w t)) (top_all (taken_items w u)) (top_all-front 0 w (λ c. items_of (t c)) (λ c. items_of (u c)) (item-fronts w t u f)))
