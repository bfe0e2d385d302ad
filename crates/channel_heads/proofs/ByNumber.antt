-- Numbered items of channels, by number: what is in front, and what is left.
use Rattle.std.proofs.Common.{◌≡◌, ◌≢◌, ◌<◌, ◌≤◌, ◌⊎◌, inl, inr, ℕ, zero, suc, ◌+◌, Bool, true, false, List, [], ◌∷◌, ◌++◌, map, refl, sym, ap, ◌∙◌, arith, cond, subst}
use Rattle.std.specs.Prelude.{◌==◌, ◌||◌, filter}
use Rattle.std.specs.List.{list_any, AllByRecursion}
use Rattle.std.proofs.lemmas.List.{append-nil}
use Rattle.std.proofs.lemmas.Bool.{eqb-true, eqb-false, eq-eqb, ne_eqb, cases_lt}
use Rattle.spl_value.specs.declared.item.Item.{Item}
use Rattle.spl_value.specs.Numbered.{below, top, top_all, of_number, in_turn, channels, channels_from}

abbrev pub Tagged : Type 0
Tagged = ℕ × Item

-- a channel, and an item that it gave
abbrev pub Gift : Type 0
Gift = ℕ × Tagged

abbrev pub is_number : ℕ → Tagged → Bool
is_number n p = p.0 == n

-- ---- lists

pub filter_none : {A : Type 0} (p : A → Bool) (xs : List A) → list_any p xs ≡ false → filter p xs ≡ []
filter_none p [] h = refl
filter_none p (x ∷ xs) h = go (p x) h (filter_none p xs) where
  go : (b : Bool) → (b || list_any p xs) ≡ false → (list_any p xs ≡ false → filter p xs ≡ []) → cond b (x ∷ filter p xs) (filter p xs) ≡ []
  go true h rest = absurd cc
  go false h rest = rest h

abbrev pub AtLeast : ℕ → List Tagged → Type 0
AtLeast lo xs = AllByRecursion (λ p. lo ≤ p.0) xs

pub filter-below : (lo n : ℕ) (xs : List Tagged) → n < lo → AtLeast lo xs → filter (is_number n) xs ≡ []
filter-below lo n [] l h = refl
filter-below lo n (p ∷ xs) l h = let k : lo ≤ p.0 = h.0 in rw (ne_eqb p.0 n (λ e. omega arith)) (filter-below lo n xs l h.1)

pub least-append : (lo : ℕ) (xs ys : List Tagged) → AtLeast lo xs → AtLeast lo ys → AtLeast lo (xs ++ ys)
least-append lo [] ys h g = g
least-append lo (x ∷ xs) ys h g = (h.0, least-append lo xs ys h.1 g)

pub least-weak : (lo hi : ℕ) (xs : List Tagged) → lo ≤ hi → AtLeast hi xs → AtLeast lo xs
least-weak lo hi [] l h = tt
least-weak lo hi (x ∷ xs) l h = (let k : hi ≤ x.0 = h.0 in omega arith, least-weak lo hi xs l h.1)

-- ---- numbers below a bound

pub below-top : {A : Type 0} (n N : ℕ) (f : ℕ → List A) → n ≤ N → ((m : ℕ) → n ≤ m → f m ≡ []) → below N f ≡ below n f
below-top n zero f l h = ap (λ m. below m f) (let e : 0 ≡ n = omega arith in e)
below-top n (suc N) f l h = go (cases_lt N n) (λ k. below-top n N f k h) where
  go : ((N < n) ⊎ (n ≤ N)) → (n ≤ N → below N f ≡ below n f) → below N f ++ f N ≡ below n f
  go (inl k) ih = ap (λ m. below m f) (let e : suc N ≡ n = omega arith in e)
  go (inr k) ih = ap (λ z. z ++ f N) (ih k) ∙ ap (λ z. below n f ++ z) (h N k) ∙ append-nil (below n f)

below-none : {A : Type 0} (n : ℕ) (f : ℕ → List A) → ((m : ℕ) → m < n → f m ≡ []) → below n f ≡ []
below-none zero f h = refl
below-none (suc n) f h = ap (λ z. z ++ f n) (below-none n f (λ m l. h m (omega arith))) ∙ h n (omega arith)

below-insert : {A : Type 0} (N k : ℕ) (x : A) (f g : ℕ → List A) → k < N → g k ≡ x ∷ f k → ((m : ℕ) → m ≢ k → g m ≡ f m) → ((m : ℕ) → m < k → f m ≡ [])
    → below N g ≡ x ∷ below N f
below-insert zero k x f g l e h z = absurd (omega arith)
below-insert (suc N) k x f g l e h z = go (cases_lt k N) (λ q. below-insert N k x f g q e h z) where
  go : ((k < N) ⊎ (N ≤ k)) → (k < N → below N g ≡ x ∷ below N f) → below N g ++ g N ≡ x ∷ (below N f ++ f N)
  go (inl q) ih = let ne : N ≢ k = omega arith in λ i. ih q i ++ h N ne i
  go (inr q) ih =
      let is : k ≡ N = omega arith in
      let a : below N g ≡ [] = below-none N g (λ m l. h m (omega arith) ∙ z m (omega arith)) in
      let b : below N f ≡ [] = below-none N f (λ m l. z m (omega arith)) in
      ap (λ l. l ++ g N) a ∙ subst (λ m. g m ≡ x ∷ f m) is e ∙ ap (λ l. x ∷ (l ++ f N)) (sym b)

-- ---- channels

filter-top : (n : ℕ) (xs : List Tagged) → top xs ≤ n → filter (is_number n) xs ≡ []
filter-top n [] l = refl
filter-top n (p ∷ xs) l = rw (ne_eqb p.0 n (λ e. omega arith)) (filter-top n xs (omega arith))

pub number-top : (n : ℕ) (ls : List (List Tagged)) → top_all ls ≤ n → of_number n ls ≡ []
number-top n [] l = refl
number-top n (xs ∷ ls) l = ap (λ z. z ++ of_number n ls) (filter-top n xs (omega arith)) ∙ number-top n ls (omega arith)

same_channels : (n c w : ℕ) (F G : ℕ → List Tagged) → ((d : ℕ) → d < c + w → filter (is_number n) (F d) ≡ filter (is_number n) (G d))
    → of_number n (channels_from c w F) ≡ of_number n (channels_from c w G)
same_channels n c zero F G h = refl
same_channels n c (suc w) F G h =
    let here = h c (omega arith) in
    let rest = same_channels n (suc c) w F G (λ d l. h d (omega arith)) in
    λ i. here i ++ rest i

pub no_channel : (n c w : ℕ) (F : ℕ → List Tagged) → ((d : ℕ) → c ≤ d → d < c + w → filter (is_number n) (F d) ≡ []) → of_number n (channels_from c w F) ≡ []
no_channel n c zero F h = refl
no_channel n c (suc w) F h =
    ap (λ z. z ++ of_number n (channels_from (suc c) w F)) (h c (omega arith) (omega arith))
    ∙ no_channel n (suc c) w F (λ d l q. h d (omega arith) (omega arith))

pub one_channel : (n c w t : ℕ) (F : ℕ → List Tagged) → c ≤ t → t < c + w → ((d : ℕ) → d < c + w → d ≢ t → filter (is_number n) (F d) ≡ [])
    → of_number n (channels_from c w F) ≡ filter (is_number n) (F t)
one_channel n c zero t F l u h = absurd (omega arith)
one_channel n c (suc w) t F l u h = go (cases_lt c t) (λ q. one_channel n (suc c) w t F q (omega arith) (λ d m. h d (omega arith))) where
  go : ((c < t) ⊎ (t ≤ c)) → (c < t → of_number n (channels_from (suc c) w F) ≡ filter (is_number n) (F t))
      → filter (is_number n) (F c) ++ of_number n (channels_from (suc c) w F) ≡ filter (is_number n) (F t)
  go (inl q) ih = ap (λ z. z ++ of_number n (channels_from (suc c) w F)) (h c (omega arith) (omega arith)) ∙ ih q
  go (inr q) ih =
      let e : c ≡ t = omega arith in
      ap (λ z. filter (is_number n) (F c) ++ z) (no_channel n (suc c) w F (λ d m k. h d (omega arith) (omega arith)))
      ∙ append-nil (filter (is_number n) (F c)) ∙ ap (λ z. filter (is_number n) (F z)) e

-- an item that is in front of its channel, whose number no other channel has, and below which no number is left
pub record IsFirst (w t : ℕ) (p : Tagged) (F G : ℕ → List Tagged) : Type 0 where
  pub within : t < w
  pub here : filter (is_number p.0) (F t) ≡ p ∷ filter (is_number p.0) (G t)
  pub others : (d : ℕ) → d < w → d ≢ t → filter (is_number p.0) (F d) ≡ []
  pub others_left : (d : ℕ) → d < w → d ≢ t → filter (is_number p.0) (G d) ≡ []
  pub same : (m d : ℕ) → m ≢ p.0 → d < w → filter (is_number m) (F d) ≡ filter (is_number m) (G d)
  pub least : (m d : ℕ) → m < p.0 → d < w → filter (is_number m) (G d) ≡ []

pub first_in_turn : (w t : ℕ) (p : Tagged) (F G : ℕ → List Tagged) → IsFirst w t p F G → in_turn (channels w F) ≡ p ∷ in_turn (channels w G)
first_in_turn w t p F G first =
    let N : ℕ = suc p.0 + top_all (channels w F) + top_all (channels w G) in
    sym (below-top (top_all (channels w F)) N (λ n. of_number n (channels w F)) (omega arith) (λ m l. number-top m (channels w F) l))
    ∙ below-insert N p.0 p (λ n. of_number n (channels w G)) (λ n. of_number n (channels w F)) (omega arith)
    (one_channel p.0 0 w t F (omega arith) (let q : t < w = first.within in omega arith) (λ d l ne. first.others d (omega arith) ne) ∙ first.here
    ∙ ap (λ z. p ∷ z) (sym (one_channel p.0 0 w t G (omega arith) (let q : t < w = first.within in omega arith) (λ d l ne. first.others_left d (omega arith) ne))))
    (λ m ne. same_channels m 0 w F G (λ d l. first.same m d ne (omega arith)))
    (λ m l. no_channel m 0 w G (λ d u v. first.least m d l (omega arith)))
    ∙ ap (λ z. p ∷ z) (below-top (top_all (channels w G)) N (λ n. of_number n (channels w G)) (omega arith) (λ m l. number-top m (channels w G) l))

-- ---- gifts

-- the items that a channel gave
abbrev pub front : List Gift → ℕ → List Tagged
front gs c = map (λ g. g.1) (filter (λ g. g.0 == c) gs)

pub front-cons : (g : Gift) (gs : List Gift) (c : ℕ) → front (g ∷ gs) c ≡ cond (g.0 == c) (g.1 ∷ front gs c) (front gs c)
front-cons g gs c = go (g.0 == c) where
  go : (b : Bool) → map (λ (g : Gift). g.1) (cond b (g ∷ filter (λ (g : Gift). g.0 == c) gs) (filter (λ (g : Gift). g.0 == c) gs)) ≡ cond b (g.1 ∷ front gs c) (front gs c)
  go true = refl
  go false = refl

-- the numbers of the gifts never fall, from one bound to another
abbrev pub Climbs : ℕ → List Gift → ℕ → Type 0
Climbs lo [] hi = lo ≤ hi
Climbs lo (g ∷ gs) hi = (lo ≤ g.1.0) × Climbs g.1.0 gs hi

pub climbs-bounds : (lo hi : ℕ) (gs : List Gift) → Climbs lo gs hi → lo ≤ hi
climbs-bounds lo hi [] h = h
climbs-bounds lo hi (g ∷ gs) h = let a : lo ≤ g.1.0 = h.0 in let b : g.1.0 ≤ hi = climbs-bounds g.1.0 hi gs h.1 in omega arith

front-least : (lo hi : ℕ) (gs : List Gift) (c : ℕ) → Climbs lo gs hi → AtLeast lo (front gs c)
front-least lo hi [] c h = tt
front-least lo hi (g ∷ gs) c h =
    let a : lo ≤ g.1.0 = h.0 in
    subst (λ z. AtLeast lo z) (sym (front-cons g gs c)) (go (g.0 == c) a (least-weak lo g.1.0 (front gs c) a (front-least g.1.0 hi gs c h.1))) where
      go : (b : Bool) → lo ≤ g.1.0 → AtLeast lo (front gs c) → AtLeast lo (cond b (g.1 ∷ front gs c) (front gs c))
      go true a r = (a, r)
      go false a r = r

-- no number stands on items of two channels
abbrev pub Apart : ℕ → (ℕ → List Tagged) → Type 0
Apart w F = (n c d : ℕ) → c < w → d < w → list_any (is_number n) (F c) ≡ true → list_any (is_number n) (F d) ≡ true → c ≡ d

abbrev pub WithinWidth : ℕ → List Gift → Type 0
WithinWidth w gs = AllByRecursion (λ g. g.0 < w) gs

-- with a gift in front, and without it
module _ (w hi : ℕ) (g : Gift) (gs : List Gift) (rest : ℕ → List Tagged) where
  abbrev whole : ℕ → List Tagged
  whole c = front (g ∷ gs) c ++ rest c

  abbrev left : ℕ → List Tagged
  left c = front gs c ++ rest c

  whole-here : whole g.0 ≡ g.1 ∷ left g.0
  whole-here = ap (λ z. z ++ rest g.0) (front-cons g gs g.0 ∙ ap (λ b. cond b (g.1 ∷ front gs g.0) (front gs g.0)) (eq-eqb g.0 g.0 refl))

  whole-other : (d : ℕ) → d ≢ g.0 → whole d ≡ left d
  whole-other d ne = ap (λ z. z ++ rest d) (front-cons g gs d ∙ ap (λ b. cond b (g.1 ∷ front gs d) (front gs d)) (ne_eqb g.0 d (λ e. ne (sym e))))

  here-any : list_any (is_number g.1.0) (whole g.0) ≡ true
  here-any = ap (list_any (is_number g.1.0)) whole-here ∙ ap (λ b. b || list_any (is_number g.1.0) (left g.0)) (eq-eqb g.1.0 g.1.0 refl)

  pub left-apart : Apart w whole → Apart w left
  left-apart a n c d lc ld hc hd = a n c d lc ld (more c hc) (more d hd) where
    more : (c : ℕ) → list_any (is_number n) (left c) ≡ true → list_any (is_number n) (whole c) ≡ true
    more c h = ap (λ z. list_any (is_number n) (z ++ rest c)) (front-cons g gs c) ∙ go (g.0 == c) where
      go : (b : Bool) → list_any (is_number n) (cond b (g.1 ∷ front gs c) (front gs c) ++ rest c) ≡ true
      go false = h
      go true = either (g.1.0 == n) where
        either : (b : Bool) → (b || list_any (is_number n) (left c)) ≡ true
        either true = refl
        either false = h

  nothing : Apart w whole → g.0 < w → (d : ℕ) → d < w → d ≢ g.0 → filter (is_number g.1.0) (whole d) ≡ []
  nothing a l d ld ne = filter_none (is_number g.1.0) (whole d) (go (list_any (is_number g.1.0) (whole d)) refl) where
    go : (b : Bool) → list_any (is_number g.1.0) (whole d) ≡ b → b ≡ false
    go true e = absurd (ne (a g.1.0 d g.0 ld l e here-any))
    go false e = refl

  pub is_first : Apart w whole → g.0 < w → Climbs g.1.0 gs hi → ((c : ℕ) → c < w → AtLeast hi (rest c)) → IsFirst w g.0 g.1 whole left
  is_first a l climbs high = record {
    within = l;
    here = ap (filter (is_number g.1.0)) whole-here ∙ ap (λ b. cond b (g.1 ∷ filter (is_number g.1.0) (left g.0)) (filter (is_number g.1.0) (left g.0))) (eq-eqb g.1.0 g.1.0 refl);
    others = nothing a l;
    others_left = λ d ld ne. ap (filter (is_number g.1.0)) (sym (whole-other d ne)) ∙ nothing a l d ld ne;
    same = λ m d ne ld. alike m d ne (cases_eq d);
    least = λ m d lm ld. filter-below g.1.0 m (left d) lm
        (least-append g.1.0 (front gs d) (rest d) (front-least g.1.0 hi gs d climbs) (least-weak g.1.0 hi (rest d) (climbs-bounds g.1.0 hi gs climbs) (high d ld)));
  } where
    cases_eq : (d : ℕ) → (d ≡ g.0) ⊎ (d ≢ g.0)
    cases_eq d = go (d == g.0) refl where
      go : (b : Bool) → (d == g.0) ≡ b → (d ≡ g.0) ⊎ (d ≢ g.0)
      go true e = inl (eqb-true d g.0 e)
      go false e = inr (eqb-false d g.0 e)

    alike : (m d : ℕ) → m ≢ g.1.0 → ((d ≡ g.0) ⊎ (d ≢ g.0)) → filter (is_number m) (whole d) ≡ filter (is_number m) (left d)
    alike m d ne (inl e) =
        ap (λ z. filter (is_number m) (whole z)) e ∙ ap (filter (is_number m)) whole-here
        ∙ ap (λ b. cond b (g.1 ∷ filter (is_number m) (left g.0)) (filter (is_number m) (left g.0))) (ne_eqb g.1.0 m (λ k. ne (sym k)))
        ∙ ap (λ z. filter (is_number m) (left z)) (sym e)
    alike m d ne (inr e) = ap (filter (is_number m)) (whole-other d e)

-- gifts that climb, and then what is left, which is no lower: all of it by number
pub gifts_in_turn : (w lo hi : ℕ) (gs : List Gift) (rest : ℕ → List Tagged) → WithinWidth w gs → Climbs lo gs hi → ((c : ℕ) → c < w → AtLeast hi (rest c))
    → Apart w (λ c. front gs c ++ rest c) → in_turn (channels w (λ c. front gs c ++ rest c)) ≡ map (λ g. g.1) gs ++ in_turn (channels w rest)
gifts_in_turn w lo hi [] rest within climbs high apart = refl
gifts_in_turn w lo hi (g ∷ gs) rest within climbs high apart =
    first_in_turn w g.0 g.1 (whole w hi g gs rest) (left w hi g gs rest) (is_first w hi g gs rest apart within.0 climbs.1 high)
    ∙ ap (λ z. g.1 ∷ z) (gifts_in_turn w g.1.0 hi gs rest within.1 climbs.1 high (left-apart w hi g gs rest apart))
