-- What a merger has given is the front of the merge.
use Rattle.std.proofs.Common.{◌≡◌, ◌≢◌, ◌<◌, ◌≤◌, ◌⊎◌, inl, inr, ℕ, zero, suc, ◌+◌, Bool, true, false, List, [], ◌∷◌, ◌++◌, length, map, refl, sym, ap, ◌∙◌, arith, cond, subst, slice_get, Option, Some, None}
use Rattle.std.specs.Prelude.{◌==◌, ◌||◌, ◌&&◌, nat_lt, not, filter, take_while, is_none}
use Rattle.std.specs.Option.{option_to_list}
use Rattle.std.specs.List.{list_any, AllByRecursion}
use Rattle.std.proofs.lemmas.Bool.{eqb-true, eq-eqb, cases_lt, ltb-true}
use Rattle.std.proofs.lemmas.List.{append-nil, length-map, map-append}
use Rattle.std.proofs.lemmas.List.Sums.{take_while-cons}
use Rattle.spl_value.specs.declared.item.Item.{Item}
use Rattle.spl_value.specs.declared.packet.Packet.{Packet}
use Rattle.spl_value.proofs.Lists.{append_last}
use Rattle.spl_value.specs.Numbered.{cut, below, of_number, in_turn, top_all, items_of, numbers_of, is_last, reaches, channels, channels_from, taken_items, has_number, Rule, ByTurns, ByNumbers, ByPulses, known, known_by_number, known_by_pulses, merged, InOrder, Rises, AreApart, AreRising}
use Rattle.channel_heads.specs.Held.{Held, is_merging, head_at, bound_at, is_done, is_waiting, IsBlocked}
use Rattle.channel_heads.specs.MergeLaws.{PrefixLaw, WholeLaw}
use Rattle.channel_heads.proofs.ByNumber.{Tagged, Gift, is_number, AtLeast, Climbs, WithinWidth, Apart, front, front-cons, gifts_in_turn}
use Rattle.channel_heads.proofs.Packets.{last_or, any_left, any_right, any_parts, any_channel, channel_of_any, channel_of_all, channels-same, reached_last, known_less, rises_once, in_turn_rises, one_division}
use Rattle.channel_heads.proofs.Facts.{CountsUp, TurnFacts, PulseFacts, Facts, facts, no_some}

-- ---- the front of a list

abbrev Knows : (ℕ → Bool) → List Gift → Type 0
Knows k gs = AllByRecursion (λ g. k g.1.0 ≡ true) gs

known_front : (k : ℕ → Bool) (gs : List Gift) (more : List Tagged) → Knows k gs → take_while (λ (p : Tagged). k p.0) (map (λ (g : Gift). g.1) gs ++ more) ≡ map (λ (g : Gift). g.1) gs ++ take_while (λ (p : Tagged). k p.0) more
known_front k [] more h = refl
known_front k (g ∷ gs) more h =
    take_while-cons (λ (p : Tagged). k p.0) g.1 (map (λ (g : Gift). g.1) gs ++ more)
    ∙ ap (λ b. cond b (g.1 ∷ take_while (λ (p : Tagged). k p.0) (map (λ (g : Gift). g.1) gs ++ more)) []) h.0
    ∙ ap (λ z. g.1 ∷ z) (known_front k gs more h.1)

items_of_gifts : (gs : List Gift) → map (λ (p : Tagged). p.1) (map (λ (g : Gift). g.1) gs) ≡ map (λ (g : Gift). g.1.1) gs
items_of_gifts [] = refl
items_of_gifts (g ∷ gs) = ap (λ z. g.1.1 ∷ z) (items_of_gifts gs)

-- what a merge needs of the gifts
pub record Ready (rule : Rule) (w : ℕ) (taken : ℕ → List Packet) (gifts : List Gift) (rest : ℕ → List Tagged) : Type 0 where
  pub high : ℕ
  pub climbs : Climbs 0 gifts high
  pub least : (c : ℕ) → c < w → AtLeast high (rest c)
  pub apart : Apart w (λ c. front gifts c ++ rest c)
  pub knows : Knows (known rule w taken) gifts

merged_is : (rule : Rule) (w : ℕ) (h : Held) (taken : ℕ → List Packet) (given : List Item) (f : Facts rule w h taken given) → Ready rule w taken f.gifts f.rest
    → merged rule w taken ≡ cut (given ++ map (λ (p : Tagged). p.1) (take_while (λ (p : Tagged). known rule w taken p.0) (in_turn (channels w f.rest))))
merged_is rule w h taken given f r =
    let tw = λ (z : List Tagged). take_while (λ (p : Tagged). known rule w taken p.0) z in
    let same : taken_items w taken ≡ channels w (λ c. front f.gifts c ++ f.rest c) = sym (channels-same 0 w (λ c. front f.gifts c ++ f.rest c) (λ c. items_of (taken c)) (λ d l. f.fronts d (omega arith))) in
    ap (λ ls. cut (map (λ (p : Tagged). p.1) (tw (in_turn ls)))) same
    ∙ ap (λ z. cut (map (λ (p : Tagged). p.1) (tw z))) (gifts_in_turn w 0 r.high f.gifts f.rest f.within r.climbs r.least r.apart)
    ∙ ap (λ z. cut (map (λ (p : Tagged). p.1) z)) (known_front (known rule w taken) f.gifts (in_turn (channels w f.rest)) r.knows)
    ∙ ap cut (map-append (λ (p : Tagged). p.1) (map (λ (g : Gift). g.1) f.gifts) (tw (in_turn (channels w f.rest)))
    ∙ ap (λ z. z ++ map (λ (p : Tagged). p.1) (tw (in_turn (channels w f.rest)))) (items_of_gifts f.gifts ∙ f.are_given))

-- ---- gifts that are known

apart_of : (rule : Rule) (w : ℕ) (h : Held) (taken : ℕ → List Packet) (given : List Item) (f : Facts rule w h taken given) → AreApart w taken → Apart w (λ c. front f.gifts c ++ f.rest c)
apart_of rule w h taken given f a n c d lc ld hc hd =
    a.apart n c d lc ld (ap (list_any (is_number n)) (sym (f.fronts c lc)) ∙ hc) (ap (list_any (is_number n)) (sym (f.fronts d ld)) ∙ hd)

counts_climb : (n : ℕ) (gs : List Gift) → CountsUp n gs → Climbs n gs (n + length gs)
counts_climb n [] h = omega arith
counts_climb n (g ∷ gs) h =
    let e : g.1.0 ≡ n = h.0 in
    let s : suc n + length gs ≡ n + suc (length gs) = omega arith in
    (omega arith, weaken g.1.0 (suc n) gs (n + suc (length gs)) (omega arith) (subst (λ k. Climbs (suc n) gs k) s (counts_climb (suc n) gs h.1))) where
      weaken : (lo hi : ℕ) (gs : List Gift) (k : ℕ) → lo ≤ hi → Climbs hi gs k → Climbs lo gs k
      weaken lo hi [] k l c = let m : hi ≤ k = c in omega arith
      weaken lo hi (g ∷ gs) k l c = (let m : hi ≤ g.1.0 = c.0 in omega arith, c.1)

-- each number below their count is one of theirs
counted_at : (w n m : ℕ) (gs : List Gift) → CountsUp n gs → WithinWidth w gs → n ≤ m → m < n + length gs → (d : ℕ) × (d < w) × (list_any (is_number m) (front gs d) ≡ true)
counted_at w n m [] h i l u = absurd (omega arith)
counted_at w n m (g ∷ gs) h i l u = go (cases_lt n m) (λ q. counted_at w (suc n) m gs h.1 i.1 q (omega arith)) where
  go : ((n < m) ⊎ (m ≤ n)) → (n < m → (d : ℕ) × (d < w) × (list_any (is_number m) (front gs d) ≡ true)) → (d : ℕ) × (d < w) × (list_any (is_number m) (front (g ∷ gs) d) ≡ true)
  go (inl q) ih = let r = ih q in (r.0, r.1, ap (list_any (is_number m)) (front-cons g gs r.0) ∙ pick (g.0 == r.0) r.0 r.2) where
    pick : (b : Bool) (d : ℕ) → list_any (is_number m) (front gs d) ≡ true → list_any (is_number m) (cond b (g.1 ∷ front gs d) (front gs d)) ≡ true
    pick true d e = ap (λ b. (g.1.0 == m) || b) e ∙ either (g.1.0 == m) where
      either : (b : Bool) → (b || true) ≡ true
      either true = refl
      either false = refl
    pick false d e = e
  go (inr q) ih =
      let e : g.1.0 ≡ m = (let a : g.1.0 ≡ n = h.0 in omega arith) in
      (g.0, i.0, ap (list_any (is_number m)) (front-cons g gs g.0 ∙ ap (λ b. cond b (g.1 ∷ front gs g.0) (front gs g.0)) (eq-eqb g.0 g.0 refl)) ∙ ap (λ b. b || list_any (is_number m) (front gs g.0)) (eq-eqb g.1.0 m e))

-- and no other
counted_below : (n m c : ℕ) (gs : List Gift) → CountsUp n gs → list_any (is_number m) (front gs c) ≡ true → m < n + length gs
counted_below n m c [] h e = absurd cc
counted_below n m c (g ∷ gs) h e = go (g.0 == c) (sym (ap (list_any (is_number m)) (front-cons g gs c)) ∙ e) (counted_below (suc n) m c gs h.1) where
  go : (b : Bool) → list_any (is_number m) (cond b (g.1 ∷ front gs c) (front gs c)) ≡ true → (list_any (is_number m) (front gs c) ≡ true → m < suc n + length gs) → m < n + suc (length gs)
  go true k ih = pick (g.1.0 == m) refl k where
    pick : (b : Bool) → (g.1.0 == m) ≡ b → (b || list_any (is_number m) (front gs c)) ≡ true → m < n + suc (length gs)
    pick true q k = let a : g.1.0 ≡ n = h.0 in let r : g.1.0 ≡ m = eqb-true g.1.0 m q in omega arith
    pick false q k = let r : m < suc n + length gs = ih k in omega arith
  go false k ih = let r : m < suc n + length gs = ih k in omega arith

not_below : (n : ℕ) (xs : List Tagged) → ((m : ℕ) → m < n → list_any (is_number m) xs ≡ true → ⊥) → AtLeast n xs
not_below n [] h = tt
not_below n (x ∷ xs) h = (go (cases_lt x.0 n), not_below n xs (λ m l e. h m l (ap (λ b. (x.0 == m) || b) e ∙ either (x.0 == m)))) where
  either : (b : Bool) → (b || true) ≡ true
  either true = refl
  either false = refl

  go : ((x.0 < n) ⊎ (n ≤ x.0)) → n ≤ x.0
  go (inl l) = absurd (h x.0 l (ap (λ b. b || list_any (is_number x.0) xs) (eq-eqb x.0 x.0 refl)))
  go (inr l) = l

module _ (rule : Rule) (w : ℕ) (h : Held) (taken : ℕ → List Packet) (given : List Item) (f : Facts rule w h taken given)
    (a : AreRising w taken) (counts : CountsUp 0 f.gifts) where
  counted : length f.gifts ≡ length given
  counted = sym (length-map f.gifts (λ (g : Gift). g.1.1)) ∙ ap length f.are_given

  -- no number that was given is left
  rest_later : (c : ℕ) → c < w → AtLeast (length given) (f.rest c)
  rest_later c l = not_below (length given) (f.rest c) no where
    no : (m : ℕ) → m < length given → list_any (is_number m) (f.rest c) ≡ true → ⊥
    no m lm e =
        let at = counted_at w 0 m f.gifts counts f.within (omega arith) (let k : length f.gifts ≡ length given = counted in omega arith) in
        let same : at.0 ≡ c = apart_of rule w h taken given f a.apart m at.0 c at.1 l (any_left (is_number m) (front f.gifts at.0) (f.rest at.0) at.2) (any_right (is_number m) (front f.gifts c) (f.rest c) e) in
        rises_once m 0 (front f.gifts c) (f.rest c) (subst (λ z. Rises 0 (map (λ p. p.0) z)) (sym (f.fronts c l)) (a.rises c l)) (subst (λ d. list_any (is_number m) (front f.gifts d) ≡ true) same at.2) e

  has : (m : ℕ) → m < length given → has_number m (taken_items w taken) ≡ true
  has m l =
      let at = counted_at w 0 m f.gifts counts f.within (omega arith) (let k : length f.gifts ≡ length given = counted in omega arith) in
      any_channel (λ l. list_any (is_number m) l) 0 w at.0 (λ c. items_of (taken c)) (omega arith) (let q : at.0 < w = at.1 in omega arith)
      (ap (list_any (is_number m)) (sym (f.fronts at.0 at.1)) ∙ any_left (is_number m) (front f.gifts at.0) (f.rest at.0) at.2)

  number_known : (m : ℕ) → m ≤ length given → known_by_number w taken m ≡ true
  number_known zero l = refl
  number_known (suc m) l = λ i. number_known m (let q : m ≤ length given = omega arith in q) i && has m (let q : m < length given = omega arith in q) i

  all_known : (n : ℕ) (gs : List Gift) → CountsUp n gs → n + length gs ≤ length given → Knows (known_by_number w taken) gs
  all_known n [] c l = tt
  all_known n (g ∷ gs) c l = (number_known g.1.0 (let e : g.1.0 ≡ n = c.0 in omega arith), all_known (suc n) gs c.1 (omega arith))

  pub climbs_all : Climbs 0 f.gifts (length given)
  climbs_all = subst (λ k. Climbs 0 f.gifts k) (let k : length f.gifts ≡ length given = counted in omega arith) (counts_climb 0 f.gifts counts)

  pub knows_all : Knows (known_by_number w taken) f.gifts
  knows_all = all_known 0 f.gifts counts (let k : length f.gifts ≡ length given = counted in omega arith)

  pub known_absent : ((d : ℕ) → d < w → list_any (is_number (length given)) (f.rest d) ≡ true → ⊥) → (c : ℕ) → c < w → AllByRecursion (λ p. known_by_number w taken p.0 ≡ false) (f.rest c)
  known_absent absent c l = each (f.rest c) (rest_later c l) (absent c l) where
    not_here : (d : ℕ) → d < w → list_any (is_number (length given)) (items_of (taken d)) ≡ true → ⊥
    not_here d ld e = go (any_parts (is_number (length given)) (front f.gifts d) (f.rest d) (ap (list_any (is_number (length given))) (f.fronts d ld) ∙ e)) where
      go : ((list_any (is_number (length given)) (front f.gifts d) ≡ true) ⊎ (list_any (is_number (length given)) (f.rest d) ≡ true)) → ⊥
      go (inl e) = let k : length given < 0 + length f.gifts = counted_below 0 (length given) d f.gifts counts e in let q : length f.gifts ≡ length given = counted in absurd (omega arith)
      go (inr e) = absent d ld e

    known_has : (m j : ℕ) → known_by_number w taken (suc m) ≡ true → j ≤ m → has_number j (taken_items w taken) ≡ true
    known_has zero j k le = subst (λ z. has_number z (taken_items w taken) ≡ true) (let e : 0 ≡ j = omega arith in e) k
    known_has (suc m) j k le = pick (known_by_number w taken (suc m)) refl k (cases_lt j (suc m)) (λ e q. known_has m j e q) where
      pick : (b : Bool) → known_by_number w taken (suc m) ≡ b → (b && has_number (suc m) (taken_items w taken)) ≡ true → ((j < suc m) ⊎ (suc m ≤ j))
          → (known_by_number w taken (suc m) ≡ true → j ≤ m → has_number j (taken_items w taken) ≡ true) → has_number j (taken_items w taken) ≡ true
      pick true e g (inl q) ih = ih e (omega arith)
      pick true e g (inr q) ih = subst (λ z. has_number z (taken_items w taken) ≡ true) (let k : suc m ≡ j = omega arith in k) g
      pick false e g q ih = absurd cc

    unknown : (n : ℕ) → length given ≤ n → n ≢ length given → known_by_number w taken n ≡ false
    unknown zero le ne = absurd (ne (omega arith))
    unknown (suc m) le ne = pick (known_by_number w taken (suc m)) refl where
      pick : (b : Bool) → known_by_number w taken (suc m) ≡ b → b ≡ false
      pick true e =
          let at = channel_of_any (λ l. list_any (is_number (length given)) l) 0 w (λ c. items_of (taken c)) (known_has m (length given) e (omega arith)) in
          absurd (not_here at.0 (let q : at.0 < 0 + w = at.1 in omega arith) at.2)
      pick false e = refl

    each : (xs : List Tagged) → AtLeast (length given) xs → (list_any (is_number (length given)) xs ≡ true → ⊥) → AllByRecursion (λ p. known_by_number w taken p.0 ≡ false) xs
    each [] h none = tt
    each (x ∷ xs) h none = (
      unknown x.0 h.0 (λ e. none (ap (λ b. b || list_any (is_number (length given)) xs) (eq-eqb x.0 (length given) e))),
      each xs h.1 (λ e. none (ap (λ b. (x.0 == length given) || b) e ∙ either (x.0 == length given))),
    ) where
      either : (b : Bool) → (b || true) ≡ true
      either true = refl
      either false = refl

-- ---- every rule

-- by pulses, what was given is known
pub knows_pulses : (w lo high : ℕ) (taken : ℕ → List Packet) (gs : List Gift) → Climbs lo gs high → known_by_pulses w taken high ≡ true → Knows (known_by_pulses w taken) gs
knows_pulses w lo high taken [] c k = tt
knows_pulses w lo high taken (g ∷ gs) c k = (known_less w taken g.1.0 high (bound g.1.0 gs c.1) k, knows_pulses w g.1.0 high taken gs c.1 k) where
  bound : (lo : ℕ) (gs : List Gift) → Climbs lo gs high → lo ≤ high
  bound lo [] c = c
  bound lo (g ∷ gs) c = let a : lo ≤ g.1.0 = c.0 in let b : g.1.0 ≤ high = bound g.1.0 gs c.1 in omega arith

ready : (rule : Rule) (w : ℕ) (h : Held) (taken : ℕ → List Packet) (given : List Item) (f : Facts rule w h taken given) → InOrder rule w taken → Ready rule w taken f.gifts f.rest
ready ByTurns w h taken given f a =
    let t : TurnFacts w taken f.gifts (length given) = f.by_rule in
    let r = in_turn_rises w taken f.positive a in
    record {
      high = length given;
      climbs = climbs_all ByTurns w h taken given f r (t.counts a);
      least = rest_later ByTurns w h taken given f r (t.counts a);
      apart = apart_of ByTurns w h taken given f a.apart;
      knows = knows_all ByTurns w h taken given f r (t.counts a);
    }
ready ByNumbers w h taken given f a = record {
  high = length given;
  climbs = climbs_all ByNumbers w h taken given f a f.by_rule;
  least = rest_later ByNumbers w h taken given f a f.by_rule;
  apart = apart_of ByNumbers w h taken given f a.apart;
  knows = knows_all ByNumbers w h taken given f a f.by_rule;
}
ready ByPulses w h taken given f a =
    let r : PulseFacts w h taken f.gifts f.rest = f.by_rule in
    record {
      high = r.high;
      climbs = r.climbs a;
      least = r.least a;
      apart = apart_of ByPulses w h taken given f a;
      knows = knows_pulses w 0 r.high taken f.gifts (r.climbs a) r.is_known;
    }

pub prefix : PrefixLaw
prefix rule w h taken given s a = go h.over refl where
  f : Facts rule w h taken given
  f = facts rule w h taken given s

  more : List Item
  more = map (λ (p : Tagged). p.1) (take_while (λ (p : Tagged). known rule w taken p.0) (in_turn (channels w f.rest)))

  is : merged rule w taken ≡ cut (given ++ more)
  is = merged_is rule w h taken given f (ready rule w h taken given f a)

  go : (b : Bool) → h.over ≡ b → (rest : List Item) × (given ++ rest ≡ merged rule w taken)
  go true e = ([], append-nil given ∙ sym (is ∙ f.ended e more))
  go false e = (cut more, sym (is ∙ f.going e more))

-- ---- nothing more is known

all_both : (P : Tagged → Type 0) (xs ys : List Tagged) → AllByRecursion P xs → AllByRecursion P ys → AllByRecursion P (xs ++ ys)
all_both P [] ys h g = g
all_both P (x ∷ xs) ys h g = (h.0, all_both P xs ys h.1 g)

all_filter : (P : Tagged → Type 0) (t : Tagged → Bool) (xs : List Tagged) → AllByRecursion P xs → AllByRecursion P (filter t xs)
all_filter P t [] h = tt
all_filter P t (x ∷ xs) h = go (t x) (all_filter P t xs h.1) where
  go : (b : Bool) → AllByRecursion P (filter t xs) → AllByRecursion P (cond b (x ∷ filter t xs) (filter t xs))
  go true r = (h.0, r)
  go false r = r

all_of_number : (P : Tagged → Type 0) (n c w : ℕ) (F : ℕ → List Tagged) → ((d : ℕ) → d < c + w → AllByRecursion P (F d)) → AllByRecursion P (of_number n (channels_from c w F))
all_of_number P n c zero F h = tt
all_of_number P n c (suc w) F h = all_both P (filter (is_number n) (F c)) (of_number n (channels_from (suc c) w F)) (all_filter P (is_number n) (F c) (h c (omega arith))) (all_of_number P n (suc c) w F (λ d l. h d (omega arith)))

all_below : (P : Tagged → Type 0) (n : ℕ) (g : ℕ → List Tagged) → ((m : ℕ) → AllByRecursion P (g m)) → AllByRecursion P (below n g)
all_below P zero g h = tt
all_below P (suc n) g h = all_both P (below n g) (g n) (all_below P n g h) (h n)

none_known : (k : ℕ → Bool) (xs : List Tagged) → AllByRecursion (λ p. k p.0 ≡ false) xs → take_while (λ (p : Tagged). k p.0) xs ≡ []
none_known k [] h = refl
none_known k (x ∷ xs) h = take_while-cons (λ (p : Tagged). k p.0) x xs ∙ ap (λ b. cond b (x ∷ take_while (λ (p : Tagged). k p.0) xs) []) h.0

-- a number on a head is its number
pub head_any : (o : Option Tagged) (n : ℕ) → list_any (is_number n) (option_to_list o) ≡ true → (x : Item) × (o ≡ Some (n, x))
head_any None n h = absurd cc
head_any (Some p) n h = go (p.0 == n) refl h where
  go : (b : Bool) → (p.0 == n) ≡ b → (b || false) ≡ true → (x : Item) × (Some p ≡ Some (n, x))
  go true e g = (p.1, ap (λ m. Some (m, p.1)) (eqb-true p.0 n e))
  go false e g = absurd cc

-- a channel that is waiting for a number hasn't reached it
waiting_unknown : (w h_bound m d : ℕ) (taken : ℕ → List Packet) → d < w → AreApart w taken → list_any is_last (taken d) ≡ false → h_bound ≡ last_or 0 (numbers_of (taken d)) → h_bound < suc m
    → known_by_pulses w taken (suc m) ≡ false
waiting_unknown w bound m d taken l a open_ is lt = go (known_by_pulses w taken (suc m)) refl where
  go : (b : Bool) → known_by_pulses w taken (suc m) ≡ b → b ≡ false
  go true e =
      let k : suc m ≤ last_or 0 (numbers_of (taken d)) = reached_last (suc m) 0 (taken d) (a.falls d l) open_ (channel_of_all (λ ps. list_any (reaches (suc m)) ps) 0 w d taken e (omega arith) (omega arith)) in
      absurd (omega arith)
  go false e = refl

blocked_unknown : (rule : Rule) (w : ℕ) (h : Held) (taken : ℕ → List Packet) (given : List Item) (f : Facts rule w h taken given) → InOrder rule w taken → is_merging h ≡ true
    → IsBlocked rule w (length given) h → (c : ℕ) → c < w → AllByRecursion (λ p. known rule w taken p.0 ≡ false) (f.rest c)
blocked_unknown ByTurns w h taken given f a live blocked c l =
    let t : TurnFacts w taken f.gifts (length given) = f.by_rule in
    known_absent ByTurns w h taken given f (in_turn_rises w taken f.positive a) (t.counts a) absent c l where
      absent : (d : ℕ) → d < w → list_any (is_number (length given)) (f.rest d) ≡ true → ⊥
      absent d l e =
          let t : TurnFacts w taken f.gifts (length given) = f.by_rule in
          let head = head_any (head_at h d) (length given) (ap (list_any (is_number (length given))) (sym (f.live_rest live d l)) ∙ e) in
          let numbered = a.turns d (length (front f.gifts d)) (length given, head.0) l
          (ap (λ z. slice_get z (length (front f.gifts d))) (sym (ap (λ z. front f.gifts d ++ z) (sym (f.live_rest live d l ∙ ap option_to_list head.1)) ∙ f.fronts d l)) ∙ append_last (front f.gifts d) (length given, head.0)) in
          let mine = one_division w (length (front f.gifts d)) t.rounds d t.turn l t.within (sym numbered ∙ t.is_count) in
          let theirs = one_division w blocked.1 t.rounds blocked.0 t.turn blocked.2 t.within (sym blocked.3 ∙ t.is_count) in
          no_some (head_at h d) (length given, head.0) (ap (head_at h) (mine.1 ∙ sym theirs.1) ∙ blocked.4) head.1
blocked_unknown ByNumbers w h taken given f a live blocked c l = known_absent ByNumbers w h taken given f a f.by_rule
    (λ d l e. let head = head_any (head_at h d) (length given) (ap (list_any (is_number (length given))) (sym (f.live_rest live d l)) ∙ e) in blocked d (length given) head.0 head.1 refl) c l
blocked_unknown ByPulses w h taken given f a live (inl none) c l = subst (λ z. AllByRecursion (λ p. known_by_pulses w taken p.0 ≡ false) z) (sym (f.live_rest live c l ∙ ap option_to_list (none c l))) tt
blocked_unknown ByPulses w h taken given f a live (inr wait) c l =
    subst (λ z. AllByRecursion (λ p. known_by_pulses w taken p.0 ≡ false) z) (sym (f.live_rest live c l)) (one (head_at h c) refl) where
      unknown : (n : ℕ) → is_waiting h n wait.0 ≡ true → known_by_pulses w taken n ≡ false
      unknown n e = go (is_done h wait.0) refl (nat_lt (bound_at h wait.0) n) refl e n refl where
        go : (b : Bool) → is_done h wait.0 ≡ b → (r : Bool) → nat_lt (bound_at h wait.0) n ≡ r → ((not b && is_none (head_at h wait.0)) && r) ≡ true → (k : ℕ) → n ≡ k → known_by_pulses w taken n ≡ false
        go true d r q e k s = absurd cc
        go false d false q e k s = absurd (no_and (is_none (head_at h wait.0)) e) where
          no_and : (b : Bool) → (b && false) ≡ true → ⊥
          no_and true e = absurd cc
          no_and false e = absurd cc
        go false d true q e zero s = let lt : bound_at h wait.0 < n = ltb-true (bound_at h wait.0) n q in absurd (omega arith)
        go false d true q e (suc m) s =
            let r : PulseFacts w h taken f.gifts f.rest = f.by_rule in
            let lt : bound_at h wait.0 < n = ltb-true (bound_at h wait.0) n q in
            ap (known_by_pulses w taken) s ∙ waiting_unknown w (bound_at h wait.0) m wait.0 taken wait.1 a (sym (f.are_done wait.0 wait.1) ∙ d) (r.bounds wait.0 wait.1) (omega arith)

      one : (o : Option Tagged) → head_at h c ≡ o → AllByRecursion (λ p. known_by_pulses w taken p.0 ≡ false) (option_to_list o)
      one None e = tt
      one (Some p) e = (unknown p.0 (wait.2 c p.0 p.1 e), tt)

pub whole : WholeLaw
whole rule w h taken given s a uncut (inl over) = let f = facts rule w h taken given s in
    sym (merged_is rule w h taken given f (ready rule w h taken given f a)
    ∙ f.ended over (map (λ (p : Tagged). p.1) (take_while (λ (p : Tagged). known rule w taken p.0) (in_turn (channels w f.rest)))))
whole rule w h taken given s a uncut (inr blocked) = go h.over refl where
  f : Facts rule w h taken given
  f = facts rule w h taken given s

  more : List Tagged
  more = take_while (λ (p : Tagged). known rule w taken p.0) (in_turn (channels w f.rest))

  is : merged rule w taken ≡ cut (given ++ map (λ (p : Tagged). p.1) more)
  is = merged_is rule w h taken given f (ready rule w h taken given f a)

  go : (b : Bool) → h.over ≡ b → given ≡ merged rule w taken
  go true e = sym (is ∙ f.ended e (map (λ (p : Tagged). p.1) more))
  go false e =
      let live : is_merging h ≡ true = (λ i. not (e i) && not (uncut i)) in
      let nothing : more ≡ [] = none_known (known rule w taken) (in_turn (channels w f.rest))
      (all_below (λ p. known rule w taken p.0 ≡ false) (top_all (channels w f.rest)) (λ n. of_number n (channels w f.rest))
      (λ n. all_of_number (λ p. known rule w taken p.0 ≡ false) n 0 w f.rest (λ d l. blocked_unknown rule w h taken given f a live blocked d (omega arith)))) in
      sym (is ∙ f.going e (map (λ (p : Tagged). p.1) more) ∙ ap (λ z. given ++ cut (map (λ (p : Tagged). p.1) z)) nothing ∙ append-nil given)
