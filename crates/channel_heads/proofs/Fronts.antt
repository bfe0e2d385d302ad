-- Fronts of channels, merged.
use Rattle.std.proofs.Common.{◌≡◌, ◌≢◌, ◌<◌, ◌≤◌, ◌⊎◌, inl, inr, ℕ, zero, suc, ◌+◌, ◌==◌, ◌&&◌, ◌||◌, Bool, true, false, List, [], ◌∷◌, ◌++◌, map, length, drop, refl, sym, ap, ◌∙◌, append_assoc, append-nil, arith, cond, subst, slice_get}
use Rattle.std.specs.Prelude.{filter, nat_le, take_while}
use Rattle.std.specs.List.{AllByRecursion, list_all, list_any}
use Rattle.std.proofs.lemmas.Bool.{and_parts, eqb-true, leb-true, cases_lt}
use Rattle.std.proofs.lemmas.List.{map-append}
use Rattle.std.proofs.lemmas.List.Elements.{filter-append, filter_map-append}
use Rattle.std.proofs.lemmas.List.Sums.{take_while-cons}
use Rattle.spl_value.specs.declared.item.Item.{Item}
use Rattle.spl_value.specs.declared.packet.Packet.{Packet}
use Rattle.spl_value.specs.declared.packet.Packet.TheVariants as P
use Rattle.spl_value.specs.Numbered.{AreApart, AreRising, ByNumbers, ByPulses, ByTurns, InOrder, IsPrefix, NeverFalls, Rises, Rule, below, by_number, channels, closes, cut, has_number, in_turn, is_pulse, item_of, items_of, known, known_by_number, merged, numbers_of, of_number, reaches, stops_once, taken_items, top_all}
use Rattle.channel_heads.proofs.ByNumber.{Tagged, is_number, filter_none, below-top, number-top, one_channel, no_channel}
use Rattle.channel_heads.proofs.Packets.{any_channel, any_left, any_right, channel_of_all, channel_of_any, channels-same, in_turn_rises, rises_once}
use Rattle.channel_heads.specs.FrontLaws.{FrontLaw, OrderLaw}
use Rattle.spl_value.proofs.Lists.{append_front}

never : {A : Type 0} → false ≡ true → A
never e = absurd cc

-- ---- the first items that pass

module _ (k : ℕ → Bool) where
  abbrev passing : List Tagged → List Tagged
  passing xs = take_while (λ (p : Tagged). k p.0) xs

  abbrev knows : List Tagged → Bool
  knows xs = list_all (λ (p : Tagged). k p.0) xs

  pub passing-known : (xs ys : List Tagged) → knows xs ≡ true → passing (xs ++ ys) ≡ xs ++ passing ys
  passing-known [] ys h = refl
  passing-known (x ∷ xs) ys h =
      let parts = and_parts (k x.0) (knows xs) h in
      take_while-cons (λ (p : Tagged). k p.0) x (xs ++ ys)
      ∙ ap (λ b. cond b (x ∷ passing (xs ++ ys)) []) parts.0
      ∙ ap (λ z. x ∷ z) (passing-known xs ys parts.1)

  pub passing-stops : (xs ys : List Tagged) → knows xs ≡ false → passing (xs ++ ys) ≡ passing xs
  passing-stops [] ys h = never (sym h)
  passing-stops (x ∷ xs) ys h =
      take_while-cons (λ (p : Tagged). k p.0) x (xs ++ ys) ∙ go (k x.0) h (passing-stops xs ys) ∙ sym (take_while-cons (λ (p : Tagged). k p.0) x xs)
    where
      go : (b : Bool) → (b && knows xs) ≡ false → (knows xs ≡ false → passing (xs ++ ys) ≡ passing xs) → cond b (x ∷ passing (xs ++ ys)) [] ≡ cond b (x ∷ passing xs) []
      go true h r = ap (λ z. x ∷ z) (r h)
      go false h r = refl

  pub passing-all : (xs : List Tagged) → knows xs ≡ true → passing xs ≡ xs
  passing-all xs h = ap passing (sym (append-nil xs)) ∙ passing-known xs [] h ∙ append-nil xs

  abbrev AllAre : ℕ → List Tagged → Type 0
  AllAre n xs = AllByRecursion (λ (p : Tagged). p.0 ≡ n) xs

  pub passing-one : (n : ℕ) (xs : List Tagged) → AllAre n xs → passing xs ≡ cond (k n) xs []
  passing-one n [] a = go (k n) where
    go : (b : Bool) → [] ≡ cond {A = List Tagged} b [] []
    go true = refl
    go false = refl
  passing-one n (x ∷ xs) a = take_while-cons (λ (p : Tagged). k p.0) x xs ∙ go (k x.0) (k n) (ap k a.0) (passing-one n xs a.1) where
    go : (b d : Bool) → b ≡ d → passing xs ≡ cond d xs [] → cond b (x ∷ passing xs) [] ≡ cond d (x ∷ xs) []
    go true true e r = ap (λ z. x ∷ z) r
    go false false e r = refl
    go true false e r = never (sym e)
    go false true e r = never e

  -- where each number that passes has all of the numbers below it, what passes is the front
  module _ (f g tail : ℕ → List Tagged) (whole : (n : ℕ) → f n ++ tail n ≡ g n) (are : (n : ℕ) → AllAre n (f n)) (full : (n m : ℕ) → n < m → k m ≡ true → tail n ≡ []) where
    same_below : (n m : ℕ) → n ≤ m → k m ≡ true → below n f ≡ below n g
    same_below zero m l e = refl
    same_below (suc n) m l e =
        let here : f n ≡ g n = sym (append-nil (f n)) ∙ ap (λ z. f n ++ z) (sym (full n m (omega arith) e)) ∙ whole n in
        let rest = same_below n m (omega arith) e in
        λ i. rest i ++ here i

    pub passing_front : (n : ℕ) → IsPrefix (passing (below n f)) (below n g)
    passing_front zero = ([], refl)
    passing_front (suc n) = go (knows (below n f)) refl (k n) refl (passing_front n) where
      longer : (xs : List Tagged) → IsPrefix xs (below n g) → IsPrefix xs (below n g ++ g n)
      longer xs r = (r.0 ++ g n, sym (append_assoc xs r.0 (g n)) ∙ ap (λ z. z ++ g n) r.1)

      go : (b : Bool) → knows (below n f) ≡ b → (d : Bool) → k n ≡ d → IsPrefix (passing (below n f)) (below n g) → IsPrefix (passing (below n f ++ f n)) (below n g ++ g n)
      go false e d kd r = subst (λ z. IsPrefix z (below n g ++ g n)) (sym (passing-stops (below n f) (f n) e)) (longer (passing (below n f)) r)
      go true e true kd r = (
        tail n,
        ap (λ z. z ++ tail n) (passing-known (below n f) (f n) e ∙ ap (λ z. below n f ++ z) (passing-one n (f n) (are n) ∙ ap (λ b. cond b (f n) []) kd))
            ∙ append_assoc (below n f) (f n) (tail n)
            ∙ ap (λ z. below n f ++ z) (whole n)
            ∙ ap (λ z. z ++ g n) (same_below n n (omega arith) kd),
      )
      go true e false kd r =
          subst (λ z. IsPrefix z (below n g ++ g n))
          (passing-all (below n f) e
          ∙ sym (append-nil (below n f)) ∙ ap (λ z. below n f ++ z) (sym (passing-one n (f n) (are n) ∙ ap (λ b. cond b (f n) []) kd))
          ∙ sym (passing-known (below n f) (f n) e))
          (longer (passing (below n f)) r)

-- ---- the items of a number

filter-are : (n : ℕ) (xs : List Tagged) → AllByRecursion (λ (p : Tagged). p.0 ≡ n) (filter (is_number n) xs)
filter-are n [] = tt
filter-are n (x ∷ xs) = go (x.0 == n) refl (filter-are n xs) where
  go : (b : Bool) → (x.0 == n) ≡ b → AllByRecursion (λ (p : Tagged). p.0 ≡ n) (filter (is_number n) xs)
      → AllByRecursion (λ (p : Tagged). p.0 ≡ n) (cond b (x ∷ filter (is_number n) xs) (filter (is_number n) xs))
  go true e r = (eqb-true x.0 n e, r)
  go false e r = r

both-are : (n : ℕ) (xs ys : List Tagged) → AllByRecursion (λ (p : Tagged). p.0 ≡ n) xs → AllByRecursion (λ (p : Tagged). p.0 ≡ n) ys → AllByRecursion (λ (p : Tagged). p.0 ≡ n) (xs ++ ys)
both-are n [] ys a b = b
both-are n (x ∷ xs) ys a b = (a.0, both-are n xs ys a.1 b)

pub number-are : (n : ℕ) (lists : List (List Tagged)) → AllByRecursion (λ (p : Tagged). p.0 ≡ n) (of_number n lists)
number-are n [] = tt
number-are n (xs ∷ lists) = both-are n (filter (is_number n) xs) (of_number n lists) (filter-are n xs) (number-are n lists)

nil_left : {A : Type 0} (xs ys : List A) → xs ++ ys ≡ [] → xs ≡ []
nil_left [] ys e = refl
nil_left (x ∷ xs) ys e = absurd cc

nil_right : {A : Type 0} (xs ys : List A) → xs ++ ys ≡ [] → ys ≡ []
nil_right [] ys e = e
nil_right (x ∷ xs) ys e = absurd cc

-- the items of a number in two parts of the channels, where it stands on one channel alone
module _ (w n : ℕ) (F G : ℕ → List Tagged)
    (apart : (c d : ℕ) → c < w → d < w → list_any (is_number n) (F c ++ G c) ≡ true → list_any (is_number n) (F d ++ G d) ≡ true → c ≡ d) where
  abbrev H : ℕ → List Tagged
  H c = F c ++ G c

  parts-none : (d : ℕ) → filter (is_number n) (H d) ≡ [] → (filter (is_number n) (F d) ≡ []) × (filter (is_number n) (G d) ≡ [])
  parts-none d e =
      let both : filter (is_number n) (F d) ++ filter (is_number n) (G d) ≡ [] = sym (filter-append (is_number n) (F d) (G d)) ∙ e in
      (nil_left (filter (is_number n) (F d)) (filter (is_number n) (G d)) both, nil_right (filter (is_number n) (F d)) (filter (is_number n) (G d)) both)

  pub number-parts : of_number n (channels w F) ++ of_number n (channels w G) ≡ of_number n (channels w H)
  number-parts = go (list_any (list_any (is_number n)) (channels w H)) refl where
    go : (b : Bool) → list_any (list_any (is_number n)) (channels w H) ≡ b → of_number n (channels w F) ++ of_number n (channels w G) ≡ of_number n (channels w H)
    go true e =
        let at = channel_of_any (list_any (is_number n)) 0 w H e in
        let t = at.0 in
        let within : t < w = (let l = at.1 in omega arith) in
        let none : (d : ℕ) → d < w → d ≢ t → filter (is_number n) (H d) ≡ [] = λ d l ne. filter_none (is_number n) (H d) (other t d within l at.2 ne (list_any (is_number n) (H d)) refl) in
        ap (λ z. z ++ of_number n (channels w G)) (one_channel n 0 w t F (omega arith) (omega arith) (λ d l ne. (parts-none d (none d (omega arith) ne)).0))
        ∙ ap (λ z. filter (is_number n) (F t) ++ z) (one_channel n 0 w t G (omega arith) (omega arith) (λ d l ne. (parts-none d (none d (omega arith) ne)).1))
        ∙ sym (filter-append (is_number n) (F t) (G t))
        ∙ sym (one_channel n 0 w t H (omega arith) (omega arith) (λ d l ne. none d (omega arith) ne))
      where
        other : (t d : ℕ) → t < w → d < w → list_any (is_number n) (H t) ≡ true → d ≢ t → (b : Bool) → list_any (is_number n) (H d) ≡ b → b ≡ false
        other t d lt ld h ne true q = absurd (ne (apart d t ld lt q h))
        other t d lt ld h ne false q = refl
    go false e =
        let none : (d : ℕ) → d < w → filter (is_number n) (H d) ≡ [] = λ d l. filter_none (is_number n) (H d) (elsewhere d l (list_any (is_number n) (H d)) refl) in
        ap (λ z. z ++ of_number n (channels w G)) (no_channel n 0 w F (λ d u l. (parts-none d (none d (omega arith))).0))
        ∙ no_channel n 0 w G (λ d u l. (parts-none d (none d (omega arith))).1)
        ∙ sym (no_channel n 0 w H (λ d u l. none d (omega arith)))
      where
        elsewhere : (d : ℕ) → d < w → (b : Bool) → list_any (is_number n) (H d) ≡ b → b ≡ false
        elsewhere d l true q = never (sym e ∙ any_channel (list_any (is_number n)) 0 w d H (omega arith) (omega arith) q)
        elsewhere d l false q = refl

-- ---- what is left holds no smaller number

above : (n low : ℕ) (qs : List Packet) → n < low → NeverFalls low (numbers_of qs) → list_any (is_number n) (items_of qs) ≡ false
above n low [] l f = refl
above n low (P.Item k x ∷ qs) l f =
    let k_low : low ≤ k = f.0 in
    let rest = above n k qs (omega arith) f.1 in
    ap (λ b. b || list_any (is_number n) (items_of qs)) (Rattle.std.proofs.lemmas.Bool.ne_eqb k n (λ e. omega arith)) ∙ rest
above n low (P.Pulse k ∷ qs) l f = let k_low : low ≤ k = f.0 in above n k qs (omega arith) f.1
above n low (P.Close ∷ qs) l f = above n low qs l f
above n low (P.Cut ∷ qs) l f = above n low qs l f

above_behind : (n low : ℕ) (ps qs : List Packet) → n < low → NeverFalls low (numbers_of (ps ++ qs)) → list_any (is_number n) (items_of qs) ≡ false
above_behind n low [] qs l f = above n low qs l f
above_behind n low (P.Item k x ∷ ps) qs l f = let k_low : low ≤ k = f.0 in above_behind n k ps qs (omega arith) f.1
above_behind n low (P.Pulse k ∷ ps) qs l f = let k_low : low ≤ k = f.0 in above_behind n k ps qs (omega arith) f.1
above_behind n low (P.Close ∷ ps) qs l f = above_behind n low ps qs l f
above_behind n low (P.Cut ∷ ps) qs l f = above_behind n low ps qs l f

nothing_left : (ps qs : List Packet) → nat_le (length (ps ++ qs)) 0 ≡ true → qs ≡ []
nothing_left [] [] h = refl
nothing_left [] (q ∷ qs) h = let l = leb-true (length (q ∷ qs)) 0 h in absurd (omega (arith, l))
nothing_left (p ∷ ps) qs h = let l = leb-true (length ((p ∷ ps) ++ qs)) 0 h in absurd (omega (arith, l))

reached : (n m low : ℕ) (ps qs : List Packet) → n < m → list_any (reaches m) ps ≡ true → NeverFalls low (numbers_of (ps ++ qs)) → stops_once (ps ++ qs) ≡ true
    → list_any (is_number n) (items_of qs) ≡ false
reached n m low [] qs l h f s = never h
reached n m low (P.Item k x ∷ ps) qs l h f s = go (nat_le m k) refl h (λ g. reached n m k ps qs l g f.1 (and_parts true (stops_once (ps ++ qs)) s).1) where
  go : (b : Bool) → nat_le m k ≡ b → (b || list_any (reaches m) ps) ≡ true → (list_any (reaches m) ps ≡ true → list_any (is_number n) (items_of qs) ≡ false) → list_any (is_number n) (items_of qs) ≡ false
  go true e h r = let m_k : m ≤ k = leb-true m k e in above_behind n k ps qs (omega arith) f.1
  go false e h r = r h
reached n m low (P.Pulse k ∷ ps) qs l h f s = go (nat_le m k) refl h (λ g. reached n m k ps qs l g f.1 (and_parts true (stops_once (ps ++ qs)) s).1) where
  go : (b : Bool) → nat_le m k ≡ b → (b || list_any (reaches m) ps) ≡ true → (list_any (reaches m) ps ≡ true → list_any (is_number n) (items_of qs) ≡ false) → list_any (is_number n) (items_of qs) ≡ false
  go true e h r = let m_k : m ≤ k = leb-true m k e in above_behind n k ps qs (omega arith) f.1
  go false e h r = r h
reached n m low (P.Close ∷ ps) qs l h f s =
    ap (λ z. list_any (is_number n) (items_of z)) (nothing_left ps qs (and_parts (nat_le (length (ps ++ qs)) 0) (stops_once (ps ++ qs)) s).0)
reached n m low (P.Cut ∷ ps) qs l h f s = reached n m low ps qs l h f (and_parts (nat_le (length (ps ++ qs)) 0) (stops_once (ps ++ qs)) s).1

-- ---- the law

has_below : (width : ℕ) (taken : ℕ → List Packet) (n m : ℕ) → n < m → known_by_number width taken m ≡ true → has_number n (taken_items width taken) ≡ true
has_below width taken n zero l h = absurd (omega arith)
has_below width taken n (suc m) l h =
    let parts = and_parts (known_by_number width taken m) (has_number m (taken_items width taken)) h in
    go (cases_lt n m) parts.1 (λ q. has_below width taken n m q parts.0)
  where
    go : (n < m) ⊎ (m ≤ n) → has_number m (taken_items width taken) ≡ true → (n < m → has_number n (taken_items width taken) ≡ true) → has_number n (taken_items width taken) ≡ true
    go (inl q) here rest = rest q
    go (inr q) here rest = let same : m ≡ n = omega arith in subst (λ z. has_number z (taken_items width taken) ≡ true) same here

cut_front : (xs ys : List Item) → IsPrefix (cut xs) (cut (xs ++ ys))
cut_front [] ys = (cut ys, refl)
cut_front (x ∷ xs) ys = go (closes x) (cut_front xs ys) where
  go : (b : Bool) → IsPrefix (cut xs) (cut (xs ++ ys)) → IsPrefix (x ∷ cond b [] (cut xs)) (x ∷ cond b [] (cut (xs ++ ys)))
  go true r = ([], refl)
  go false r = (r.0, ap (λ z. x ∷ z) r.1)

module _ (rule : Rule) (w : ℕ) (taken left all : ℕ → List Packet) (some : 0 < w) (order : InOrder rule w all) (stops : (c : ℕ) → c < w → stops_once (all c) ≡ true)
    (fronts : (c : ℕ) → c < w → taken c ++ left c ≡ all c) where
  items_parts : (c : ℕ) → c < w → items_of (taken c) ++ items_of (left c) ≡ items_of (all c)
  items_parts c l = sym (filter_map-append item_of (taken c) (left c)) ∙ ap items_of (fronts c l)

  apart_of : (r : Rule) → InOrder r w all → AreApart w all
  apart_of ByTurns o = o.apart
  apart_of ByNumbers o = o.apart
  apart_of ByPulses o = o

  apart : AreApart w all
  apart = apart_of rule order

  none_left : (n : ℕ) → ((c : ℕ) → c < w → list_any (is_number n) (items_of (left c)) ≡ false) → of_number n (channels w (λ c. items_of (left c))) ≡ []
  none_left n h = no_channel n 0 w (λ c. items_of (left c)) (λ d u l. filter_none (is_number n) (items_of (left d)) (h d (omega arith)))

  by_rising : AreRising w all → (n m : ℕ) → n < m → known_by_number w taken m ≡ true → of_number n (channels w (λ c. items_of (left c))) ≡ []
  by_rising rising n m l h = none_left n (λ c lc. go c lc (list_any (is_number n) (items_of (left c))) refl) where
    go : (c : ℕ) → c < w → (b : Bool) → list_any (is_number n) (items_of (left c)) ≡ b → b ≡ false
    go c lc false e = refl
    go c lc true e =
        let at = channel_of_any (list_any (is_number n)) 0 w (λ d. items_of (taken d)) (has_below w taken n m l h) in
        let within : at.0 < w = (let q = at.1 in omega arith) in
        let there : list_any (is_number n) (items_of (all at.0)) ≡ true = ap (list_any (is_number n)) (sym (items_parts at.0 within)) ∙ any_left (is_number n) (items_of (taken at.0)) (items_of (left at.0)) at.2 in
        let here : list_any (is_number n) (items_of (all c)) ≡ true = ap (list_any (is_number n)) (sym (items_parts c lc)) ∙ any_right (is_number n) (items_of (taken c)) (items_of (left c)) e in
        let same : at.0 ≡ c = apart.apart n at.0 c within lc there here in
        absurd (rises_once n 0 (items_of (taken c)) (items_of (left c)) (subst (λ z. Rises 0 (map (λ p. p.0) z)) (sym (items_parts c lc)) (rising.rises c lc))
        (subst (λ d. list_any (is_number n) (items_of (taken d)) ≡ true) same at.2) e)

  full_by : (r : Rule) → InOrder r w all → (n m : ℕ) → n < m → known r w taken m ≡ true → of_number n (channels w (λ c. items_of (left c))) ≡ []
  full_by ByTurns o n m l h = by_rising (in_turn_rises w all some o) n m l h
  full_by ByNumbers o n m l h = by_rising o n m l h
  full_by ByPulses o n zero l h = absurd (omega arith)
  full_by ByPulses o n (suc m) l h =
      none_left n (λ c lc.
      reached n (suc m) 0 (taken c) (left c) l (channel_of_all (list_any (reaches (suc m))) 0 w c taken h (omega arith) (omega arith))
      (subst (λ z. NeverFalls 0 (numbers_of z)) (sym (fronts c lc)) (apart.falls c lc)) (ap stops_once (fronts c lc) ∙ stops c lc))

  abbrev lists : List (List Tagged)
  lists = taken_items w taken

  abbrev wholes : List (List Tagged)
  wholes = taken_items w all

  parts : (n : ℕ) → of_number n lists ++ of_number n (channels w (λ c. items_of (left c))) ≡ of_number n wholes
  parts n =
      number-parts w n (λ c. items_of (taken c)) (λ c. items_of (left c))
      (λ c d lc ld hc hd.
      apart.apart n c d lc ld (ap (list_any (is_number n)) (sym (items_parts c lc)) ∙ hc) (ap (list_any (is_number n)) (sym (items_parts d ld)) ∙ hd))
      ∙ ap (of_number n) (channels-same 0 w (λ c. items_of (taken c) ++ items_of (left c)) (λ c. items_of (all c)) (λ d l. items_parts d (omega arith)))

  pub front_by : IsPrefix (merged rule w taken) (by_number wholes)
  front_by =
      let N : ℕ = top_all lists + top_all wholes in
      let needed : below N (λ n. of_number n lists) ≡ in_turn lists = below-top (top_all lists) N (λ n. of_number n lists) (omega arith) (λ m l. number-top m lists l) in
      let theirs : below N (λ n. of_number n wholes) ≡ in_turn wholes = below-top (top_all wholes) N (λ n. of_number n wholes) (omega arith) (λ m l. number-top m wholes l) in
      let r = passing_front (known rule w taken) (λ n. of_number n lists) (λ n. of_number n wholes) (λ n. of_number n (channels w (λ c. items_of (left c)))) parts (λ n. number-are n lists) (full_by rule order) N in
      let X : List Tagged = take_while (λ (p : Tagged). known rule w taken p.0) (in_turn lists) in
      let whole : X ++ r.0 ≡ in_turn wholes = ap (λ z. take_while (λ (p : Tagged). known rule w taken p.0) z ++ r.0) (sym needed) ∙ r.1 ∙ theirs in
      let s = cut_front (map (λ (p : Tagged). p.1) X) (map (λ (p : Tagged). p.1) r.0) in
      (s.0, s.1 ∙ ap cut (sym (map-append (λ (p : Tagged). p.1) X r.0) ∙ ap (map (λ (p : Tagged). p.1)) whole))

drop_front : (xs ys zs : List Packet) → xs ++ ys ≡ zs → xs ++ drop (length xs) zs ≡ zs
drop_front xs ys zs e = ap (λ z. xs ++ drop (length xs) z) (sym e) ∙ ap (λ z. xs ++ z) (dropped xs) ∙ e where
  dropped : (xs : List Packet) → drop (length xs) (xs ++ ys) ≡ ys
  dropped [] = refl
  dropped (x ∷ xs) = dropped xs

pub front_law : FrontLaw
front_law rule w taken all some order stops fronts =
    front_by rule w taken (λ c. drop (length (taken c)) (all c)) all some order stops (λ c l. drop_front (taken c) (fronts c l).0 (all c) (fronts c l).1)

-- ---- order

falls_front : (low : ℕ) (ps qs : List Packet) → NeverFalls low (numbers_of (ps ++ qs)) → NeverFalls low (numbers_of ps)
falls_front low [] qs f = tt
falls_front low (P.Item n x ∷ ps) qs f = (f.0, falls_front n ps qs f.1)
falls_front low (P.Pulse n ∷ ps) qs f = (f.0, falls_front n ps qs f.1)
falls_front low (P.Close ∷ ps) qs f = falls_front low ps qs f
falls_front low (P.Cut ∷ ps) qs f = falls_front low ps qs f

rises_front : (low : ℕ) (xs ys : List Tagged) → Rises low (map (λ p. p.0) (xs ++ ys)) → Rises low (map (λ p. p.0) xs)
rises_front low [] ys r = tt
rises_front low (x ∷ xs) ys r = (r.0, rises_front (suc x.0) xs ys r.1)

pub order_law : OrderLaw
order_law rule w taken all order fronts = go rule order where
  items_all : (c : ℕ) (l : c < w) → items_of (all c) ≡ items_of (taken c) ++ items_of (fronts c l).0
  items_all c l = ap items_of (sym (fronts c l).1) ∙ filter_map-append item_of (taken c) (fronts c l).0

  in_all : (n c : ℕ) → c < w → list_any (is_number n) (items_of (taken c)) ≡ true → list_any (is_number n) (items_of (all c)) ≡ true
  in_all n c l h = ap (list_any (is_number n)) (items_all c l) ∙ any_left (is_number n) (items_of (taken c)) (items_of (fronts c l).0) h

  no_pulses : (c : ℕ) → c < w → list_any is_pulse (all c) ≡ false → list_any is_pulse (taken c) ≡ false
  no_pulses c l h = by (list_any is_pulse (taken c)) refl where
    by : (b : Bool) → list_any is_pulse (taken c) ≡ b → b ≡ false
    by false e = refl
    by true e = never (sym h ∙ ap (list_any is_pulse) (sym (fronts c l).1) ∙ any_left is_pulse (taken c) (fronts c l).0 e)

  apart_front : AreApart w all → AreApart w taken
  apart_front o = record {
    falls = λ c l. falls_front 0 (taken c) (fronts c l).0 (subst (λ z. NeverFalls 0 (numbers_of z)) (sym (fronts c l).1) (o.falls c l));
    apart = λ n c d lc ld hc hd. o.apart n c d lc ld (in_all n c lc hc) (in_all n d ld hd);
  }

  go : (rule : Rule) → InOrder rule w all → InOrder rule w taken
  go ByPulses o = apart_front o
  go ByNumbers o = record {
    apart = apart_front o.apart;
    no_pulses = λ c l. no_pulses c l (o.no_pulses c l);
    rises = λ c l. rises_front 0 (items_of (taken c)) (items_of (fronts c l).0) (subst (λ z. Rises 0 (map (λ p. p.0) z)) (items_all c l) (o.rises c l));
  }
  go ByTurns o = record {
    apart = apart_front o.apart;
    no_pulses = λ c l. no_pulses c l (o.no_pulses c l);
    turns = λ c k p l at. o.turns c k p l (ap (λ z. slice_get z k) (items_all c l) ∙ append_front (items_of (taken c)) (items_of (fronts c l).0) k p at);
  }
