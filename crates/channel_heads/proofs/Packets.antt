-- Packets that are taken one after another.
use Rattle.std.proofs.Common.{◌≡◌, ◌≢◌, ◌<◌, ◌≤◌, ◌⊎◌, inl, inr, ℕ, zero, suc, ◌+◌, ◌*◌, Bool, true, false, List, [], ◌∷◌, ◌++◌, map, refl, sym, ap, ◌∙◌, arith, cond, subst, slice_get, Some}
use Rattle.std.specs.Prelude.{◌==◌, ◌||◌, ◌&&◌, nat_le}
use Rattle.std.specs.List.{list_any, list_all}
use Rattle.std.proofs.Math.Nat.{mul-le-mul_right}
use Rattle.std.proofs.lemmas.Bool.{eqb-true, eqb-false, eq-eqb, le-leb, leb-true, cases_lt}
use Rattle.std.proofs.lemmas.List.Elements.{filter_map-append}
use Rattle.std.proofs.lemmas.List.Folds.{list_any-append}
use Rattle.spl_value.specs.declared.item.Item.{Item}
use Rattle.spl_value.specs.declared.packet.Packet.{Packet}
use Rattle.spl_value.specs.declared.packet.Packet.TheVariants as P
use Rattle.spl_value.specs.Numbered.{channels_from, item_of, items_of, number_of, numbers_of, is_last, is_cut, is_pulse, reaches, known_by_pulses, with_packet, NeverFalls, Rises, AreApart, AreRising, AreInTurn}
use Rattle.channel_heads.proofs.ByNumber.{Tagged, is_number}

-- ---- tests

pub any_left : {A : Type 0} (p : A → Bool) (xs ys : List A) → list_any p xs ≡ true → list_any p (xs ++ ys) ≡ true
any_left p xs ys h = list_any-append p xs ys ∙ ap (λ b. b || list_any p ys) h

pub any_right : {A : Type 0} (p : A → Bool) (xs ys : List A) → list_any p ys ≡ true → list_any p (xs ++ ys) ≡ true
any_right p xs ys h = list_any-append p xs ys ∙ ap (λ b. list_any p xs || b) h ∙ go (list_any p xs) where
  go : (b : Bool) → (b || true) ≡ true
  go true = refl
  go false = refl

pub any_parts : {A : Type 0} (p : A → Bool) (xs ys : List A) → list_any p (xs ++ ys) ≡ true → (list_any p xs ≡ true) ⊎ (list_any p ys ≡ true)
any_parts p xs ys h = go (list_any p xs) refl (sym (list_any-append p xs ys) ∙ h) where
  go : (b : Bool) → list_any p xs ≡ b → (b || list_any p ys) ≡ true → (list_any p xs ≡ true) ⊎ (list_any p ys ≡ true)
  go true e g = inl e
  go false e g = inr g

pub none_right : {A : Type 0} (p : A → Bool) (xs : List A) (x : A) → list_any p xs ≡ false → p x ≡ false → list_any p (xs ++ x ∷ []) ≡ false
none_right p xs x h g = list_any-append p xs (x ∷ []) ∙ ap (λ b. b || (p x || false)) h ∙ ap (λ b. b || false) g

-- ---- channels

pub any_channel : {A : Type 0} (p : A → Bool) (c w d : ℕ) (F : ℕ → A) → c ≤ d → d < c + w → p (F d) ≡ true → list_any p (channels_from c w F) ≡ true
any_channel p c zero d F l u h = absurd (omega arith)
any_channel p c (suc w) d F l u h = go (cases_lt c d) (λ q. any_channel p (suc c) w d F q (omega arith) h) where
  go : ((c < d) ⊎ (d ≤ c)) → (c < d → list_any p (channels_from (suc c) w F) ≡ true) → (p (F c) || list_any p (channels_from (suc c) w F)) ≡ true
  go (inl q) ih = ap (λ b. p (F c) || b) (ih q) ∙ either (p (F c)) where
    either : (b : Bool) → (b || true) ≡ true
    either true = refl
    either false = refl
  go (inr q) ih = ap (λ b. b || list_any p (channels_from (suc c) w F)) (ap (λ z. p (F z)) (let e : c ≡ d = omega arith in e) ∙ h)

pub channel_of_any : {A : Type 0} (p : A → Bool) (c w : ℕ) (F : ℕ → A) → list_any p (channels_from c w F) ≡ true → (d : ℕ) × (d < c + w) × (p (F d) ≡ true)
channel_of_any p c zero F h = absurd cc
channel_of_any p c (suc w) F h = go (p (F c)) refl h (channel_of_any p (suc c) w F) where
  go : (b : Bool) → p (F c) ≡ b → (b || list_any p (channels_from (suc c) w F)) ≡ true
      → (list_any p (channels_from (suc c) w F) ≡ true → (d : ℕ) × (d < suc c + w) × (p (F d) ≡ true)) → (d : ℕ) × (d < c + suc w) × (p (F d) ≡ true)
  go true e g ih = (c, omega arith, e)
  go false e g ih = let r = ih g in (r.0, (let l : r.0 < suc c + w = r.1 in omega arith), r.2)

pub all_channels : {A : Type 0} (p : A → Bool) (c w : ℕ) (F : ℕ → A) → ((d : ℕ) → d < c + w → p (F d) ≡ true) → list_all p (channels_from c w F) ≡ true
all_channels p c zero F h = refl
all_channels p c (suc w) F h = ap (λ b. b && list_all p (channels_from (suc c) w F)) (h c (omega arith)) ∙ all_channels p (suc c) w F (λ d l. h d (omega arith))

pub channel_of_all : {A : Type 0} (p : A → Bool) (c w d : ℕ) (F : ℕ → A) → list_all p (channels_from c w F) ≡ true → c ≤ d → d < c + w → p (F d) ≡ true
channel_of_all p c zero d F h l u = absurd (omega arith)
channel_of_all p c (suc w) d F h l u = go (p (F c)) refl h (cases_lt c d) (λ g q. channel_of_all p (suc c) w d F g q (omega arith)) where
  go : (b : Bool) → p (F c) ≡ b → (b && list_all p (channels_from (suc c) w F)) ≡ true → ((c < d) ⊎ (d ≤ c))
      → (list_all p (channels_from (suc c) w F) ≡ true → c < d → p (F d) ≡ true) → p (F d) ≡ true
  go true e g (inl q) ih = ih g q
  go true e g (inr q) ih = let is : c ≡ d = omega arith in subst (λ z. p (F z) ≡ true) is e
  go false e g q ih = absurd cc

pub channels-same : {A : Type 0} (c w : ℕ) (F G : ℕ → A) → ((d : ℕ) → d < c + w → F d ≡ G d) → channels_from c w F ≡ channels_from c w G
channels-same c zero F G h = refl
channels-same c (suc w) F G h =
    let here = h c (omega arith) in
    let rest = channels-same (suc c) w F G (λ d l. h d (omega arith)) in
    λ i. here i ∷ rest i

-- ---- numbers that never fall

-- the last number, and 0 where there is none
abbrev pub last_or : ℕ → List ℕ → ℕ
last_or d [] = d
last_or d (n ∷ ns) = last_or n ns

pub last_or-append : (d n : ℕ) (ns : List ℕ) → last_or d (ns ++ n ∷ []) ≡ n
last_or-append d n [] = refl
last_or-append d n (m ∷ ns) = last_or-append m n ns

falls_front : (lo : ℕ) (ns ms : List ℕ) → NeverFalls lo (ns ++ ms) → NeverFalls lo ns
falls_front lo [] ms h = tt
falls_front lo (n ∷ ns) ms h = (h.0, falls_front n ns ms h.1)

lo_last : (lo : ℕ) (ns : List ℕ) → NeverFalls lo ns → lo ≤ last_or lo ns
lo_last lo [] h = omega arith
lo_last lo (n ∷ ns) h = let a : lo ≤ n = h.0 in let b : n ≤ last_or n ns = lo_last n ns h.1 in omega arith

-- a packet that reaches a number, and isn't `Close`, has at least that number
pub reached_last : (m lo : ℕ) (ps : List Packet) → NeverFalls lo (numbers_of ps) → list_any is_last ps ≡ false → list_any (reaches m) ps ≡ true → m ≤ last_or lo (numbers_of ps)
reached_last m lo [] f l h = absurd cc
reached_last m lo (P.Item n x ∷ ps) f l h = go (nat_le m n) refl h (reached_last m n ps f.1 l) where
  go : (b : Bool) → nat_le m n ≡ b → (b || list_any (reaches m) ps) ≡ true → (list_any (reaches m) ps ≡ true → m ≤ last_or n (numbers_of ps)) → m ≤ last_or n (numbers_of ps)
  go true e g ih = let a : m ≤ n = leb-true m n e in let b : n ≤ last_or n (numbers_of ps) = lo_last n (numbers_of ps) f.1 in omega arith
  go false e g ih = ih g
reached_last m lo (P.Pulse n ∷ ps) f l h = go (nat_le m n) refl h (reached_last m n ps f.1 l) where
  go : (b : Bool) → nat_le m n ≡ b → (b || list_any (reaches m) ps) ≡ true → (list_any (reaches m) ps ≡ true → m ≤ last_or n (numbers_of ps)) → m ≤ last_or n (numbers_of ps)
  go true e g ih = let a : m ≤ n = leb-true m n e in let b : n ≤ last_or n (numbers_of ps) = lo_last n (numbers_of ps) f.1 in omega arith
  go false e g ih = ih g
reached_last m lo (P.Close ∷ ps) f l h = absurd cc
reached_last m lo (P.Cut ∷ ps) f l h = absurd cc

falls_last : (lo n : ℕ) (ns : List ℕ) → NeverFalls lo (ns ++ n ∷ []) → last_or lo ns ≤ n
falls_last lo n [] h = h.0
falls_last lo n (m ∷ ns) h = falls_last m n ns h.1

-- an item that comes where a number was reached has at least that number
pub reached_next : (m n : ℕ) (x : Item) (ps : List Packet) → NeverFalls 0 (numbers_of (ps ++ P.Item n x ∷ [])) → list_any is_last ps ≡ false → list_any (reaches m) ps ≡ true → m ≤ n
reached_next m n x ps f l h =
    let g : NeverFalls 0 (numbers_of ps ++ n ∷ []) = subst (λ z. NeverFalls 0 z) (filter_map-append number_of ps (P.Item n x ∷ [])) f in
    let a : m ≤ last_or 0 (numbers_of ps) = reached_last m 0 ps (falls_front 0 (numbers_of ps) (n ∷ []) g) l h in
    let b : last_or 0 (numbers_of ps) ≤ n = falls_last 0 n (numbers_of ps) g in
    omega arith

-- the last number is reached, where there is one
pub last_reaches : (m lo : ℕ) (ps : List Packet) → m ≤ last_or lo (numbers_of ps) → (m ≤ lo) ⊎ (list_any (reaches m) ps ≡ true)
last_reaches m lo [] h = inl h
last_reaches m lo (P.Item n x ∷ ps) h = go (nat_le m n) refl (last_reaches m n ps h) where
  go : (b : Bool) → nat_le m n ≡ b → ((m ≤ n) ⊎ (list_any (reaches m) ps ≡ true)) → (m ≤ lo) ⊎ ((nat_le m n || list_any (reaches m) ps) ≡ true)
  go true e k = inr (ap (λ b. b || list_any (reaches m) ps) e)
  go false e (inl k) = inr (ap (λ b. b || list_any (reaches m) ps) (le-leb m n k))
  go false e (inr k) = inr (ap (λ b. b || list_any (reaches m) ps) e ∙ k)
last_reaches m lo (P.Pulse n ∷ ps) h = go (nat_le m n) refl (last_reaches m n ps h) where
  go : (b : Bool) → nat_le m n ≡ b → ((m ≤ n) ⊎ (list_any (reaches m) ps ≡ true)) → (m ≤ lo) ⊎ ((nat_le m n || list_any (reaches m) ps) ≡ true)
  go true e k = inr (ap (λ b. b || list_any (reaches m) ps) e)
  go false e (inl k) = inr (ap (λ b. b || list_any (reaches m) ps) (le-leb m n k))
  go false e (inr k) = inr (ap (λ b. b || list_any (reaches m) ps) e ∙ k)
last_reaches m lo (P.Close ∷ ps) h = inr refl
last_reaches m lo (P.Cut ∷ ps) h = last_reaches m lo ps h

-- an item that was taken reaches its number, and every smaller one
pub item_reaches : (m n : ℕ) (ps : List Packet) → m ≤ n → list_any (is_number n) (items_of ps) ≡ true → list_any (reaches m) ps ≡ true
item_reaches m n [] l h = absurd cc
item_reaches m n (P.Item k x ∷ ps) l h = go (k == n) refl h (item_reaches m n ps l) where
  go : (b : Bool) → (k == n) ≡ b → (b || list_any (is_number n) (items_of ps)) ≡ true → (list_any (is_number n) (items_of ps) ≡ true → list_any (reaches m) ps ≡ true)
      → (nat_le m k || list_any (reaches m) ps) ≡ true
  go true e g ih = ap (λ b. b || list_any (reaches m) ps) (le-leb m k (let q : k ≡ n = eqb-true k n e in omega arith))
  go false e g ih = ap (λ b. nat_le m k || b) (ih g) ∙ either (nat_le m k) where
    either : (b : Bool) → (b || true) ≡ true
    either true = refl
    either false = refl
item_reaches m n (P.Pulse k ∷ ps) l h = ap (λ b. nat_le m k || b) (item_reaches m n ps l h) ∙ either (nat_le m k) where
  either : (b : Bool) → (b || true) ≡ true
  either true = refl
  either false = refl
item_reaches m n (P.Close ∷ ps) l h = refl
item_reaches m n (P.Cut ∷ ps) l h = item_reaches m n ps l h

-- where `Close` was taken every number is reached
pub close_reaches : (m : ℕ) (ps : List Packet) → list_any is_last ps ≡ true → list_any is_cut ps ≡ false → list_any (reaches m) ps ≡ true
close_reaches m [] h g = absurd cc
close_reaches m (P.Item k x ∷ ps) h g = ap (λ b. nat_le m k || b) (close_reaches m ps h g) ∙ either (nat_le m k) where
  either : (b : Bool) → (b || true) ≡ true
  either true = refl
  either false = refl
close_reaches m (P.Pulse k ∷ ps) h g = ap (λ b. nat_le m k || b) (close_reaches m ps h g) ∙ either (nat_le m k) where
  either : (b : Bool) → (b || true) ≡ true
  either true = refl
  either false = refl
close_reaches m (P.Close ∷ ps) h g = refl
close_reaches m (P.Cut ∷ ps) h g = absurd cc

-- ---- one packet more

pub packet_here : (taken : ℕ → List Packet) (c : ℕ) (p : Packet) → with_packet taken c p c ≡ taken c ++ p ∷ []
packet_here taken c p = ap (λ b. cond b (taken c ++ p ∷ []) (taken c)) (eq-eqb c c refl)

-- what passes for a front and for what is one packet longer passes for each channel
pub by_packet : (Q : List Packet → Type 0) (taken : ℕ → List Packet) (c d : ℕ) (p : Packet) → (d ≡ c → Q (taken d ++ p ∷ [])) → (d ≢ c → Q (taken d)) → Q (with_packet taken c p d)
by_packet Q taken c d p here there = go (d == c) refl where
  go : (b : Bool) → (d == c) ≡ b → Q (cond b (taken d ++ p ∷ []) (taken d))
  go true e = here (eqb-true d c e)
  go false e = there (eqb-false d c e)

abbrev pub IsFrontOf : List Packet → List Packet → Type 0
IsFrontOf ps qs = (more : List Packet) × (ps ++ more ≡ qs)

pub front_packet : (taken : ℕ → List Packet) (c d : ℕ) (p : Packet) → IsFrontOf (taken d) (with_packet taken c p d)
front_packet taken c d p = by_packet (λ z. IsFrontOf (taken d) z) taken c d p (λ _. (p ∷ [], refl)) (λ _. ([], append_nil (taken d))) where
  append_nil : (xs : List Packet) → xs ++ [] ≡ xs
  append_nil [] = refl
  append_nil (x ∷ xs) = ap (λ z. x ∷ z) (append_nil xs)

front_items : (n : ℕ) (ps qs : List Packet) → IsFrontOf ps qs → list_any (is_number n) (items_of ps) ≡ true → list_any (is_number n) (items_of qs) ≡ true
front_items n ps qs f h =
    ap (λ z. list_any (is_number n) (items_of z)) (sym f.1) ∙ ap (list_any (is_number n)) (filter_map-append item_of ps f.0) ∙ any_left (is_number n) (items_of ps) (items_of f.0) h

pub apart_before : (w c : ℕ) (p : Packet) (taken : ℕ → List Packet) → AreApart w (with_packet taken c p) → AreApart w taken
apart_before w c p taken a = record {
  falls = λ d l.
      let f = front_packet taken c d p in
      falls_front 0 (numbers_of (taken d)) (numbers_of f.0)
      (subst (λ z. NeverFalls 0 z) (filter_map-append number_of (taken d) f.0) (subst (λ z. NeverFalls 0 (numbers_of z)) (sym f.1) (a.falls d l)));
  apart = λ n d e ld le hd he.
      a.apart n d e ld le (front_items n (taken d) (with_packet taken c p d) (front_packet taken c d p) hd) (front_items n (taken e) (with_packet taken c p e) (front_packet taken c e p) he);
}

get_front : (xs ys : List Tagged) (k : ℕ) (q : Tagged) → slice_get xs k ≡ Some q → slice_get (xs ++ ys) k ≡ Some q
get_front [] ys k q e = cc
get_front (y ∷ xs) ys zero q e = e
get_front (y ∷ xs) ys (suc k) q e = get_front xs ys k q e

pub turns_before : (w c : ℕ) (p : Packet) (taken : ℕ → List Packet) → AreInTurn w (with_packet taken c p) → AreInTurn w taken
turns_before w c p taken a = record {
  apart = apart_before w c p taken a.apart;
  no_pulses = λ d l. none (list_any is_pulse (taken d)) refl
      (λ h. sym (a.no_pulses d l) ∙ (let f = front_packet taken c d p in ap (list_any is_pulse) (sym f.1) ∙ any_left is_pulse (taken d) f.0 h));
  turns = λ d k q l e. let f = front_packet taken c d p in
      a.turns d k q l (ap (λ z. slice_get (items_of z) k) (sym f.1) ∙ ap (λ z. slice_get z k) (filter_map-append item_of (taken d) f.0) ∙ get_front (items_of (taken d)) (items_of f.0) k q e);
} where
  none : (b : Bool) {r : Bool} → r ≡ b → (r ≡ true → false ≡ true) → r ≡ false
  none true e h = let bad : false ≡ true = h e in absurd cc
  none false e h = e

-- what is known stays known
pub known_more : (w c : ℕ) (p : Packet) (taken : ℕ → List Packet) (n : ℕ) → known_by_pulses w taken n ≡ true → known_by_pulses w (with_packet taken c p) n ≡ true
known_more w c p taken zero h = refl
known_more w c p taken (suc n) h = all_channels (λ l. list_any (reaches (suc n)) l) 0 w (with_packet taken c p)
    (λ d l. let f = front_packet taken c d p in
    ap (list_any (reaches (suc n))) (sym f.1)
    ∙ any_left (reaches (suc n)) (taken d) f.0 (channel_of_all (λ l. list_any (reaches (suc n)) l) 0 w d taken h (omega arith) l))

-- and what is less is known too
pub known_less : (w : ℕ) (taken : ℕ → List Packet) (m n : ℕ) → m ≤ n → known_by_pulses w taken n ≡ true → known_by_pulses w taken m ≡ true
known_less w taken zero n l h = refl
known_less w taken (suc m) zero l h = absurd (omega arith)
known_less w taken (suc m) (suc n) l h = all_channels (λ l. list_any (reaches (suc m)) l) 0 w taken
    (λ d q. less (taken d) (channel_of_all (λ l. list_any (reaches (suc n)) l) 0 w d taken h (omega arith) q)) where
      smaller : (k : ℕ) (ps : List Packet) → (nat_le (suc n) k || list_any (reaches (suc n)) ps) ≡ true → (list_any (reaches (suc n)) ps ≡ true → list_any (reaches (suc m)) ps ≡ true)
          → (nat_le (suc m) k || list_any (reaches (suc m)) ps) ≡ true
      smaller k ps h ih = go (nat_le (suc n) k) refl h where
        go : (b : Bool) → nat_le (suc n) k ≡ b → (b || list_any (reaches (suc n)) ps) ≡ true → (nat_le (suc m) k || list_any (reaches (suc m)) ps) ≡ true
        go true e g = ap (λ b. b || list_any (reaches (suc m)) ps) (le-leb (suc m) k (let q : suc n ≤ k = leb-true (suc n) k e in omega arith))
        go false e g = ap (λ b. nat_le (suc m) k || b) (ih g) ∙ either (nat_le (suc m) k) where
          either : (b : Bool) → (b || true) ≡ true
          either true = refl
          either false = refl

      less : (ps : List Packet) → list_any (reaches (suc n)) ps ≡ true → list_any (reaches (suc m)) ps ≡ true
      less [] h = absurd cc
      less (P.Item k x ∷ ps) h = smaller k ps h (less ps)
      less (P.Pulse k ∷ ps) h = smaller k ps h (less ps)
      less (P.Close ∷ ps) h = refl
      less (P.Cut ∷ ps) h = less ps h

-- ---- numbers that rise

rises_weak : (lo hi : ℕ) (ns : List ℕ) → lo ≤ hi → Rises hi ns → Rises lo ns
rises_weak lo hi [] l h = tt
rises_weak lo hi (n ∷ ns) l h = (let a : hi ≤ n = h.0 in omega arith, h.1)

risen : (m lo : ℕ) (ys : List Tagged) → m < lo → Rises lo (map (λ p. p.0) ys) → list_any (is_number m) ys ≡ true → ⊥
risen m lo [] l r h = absurd cc
risen m lo (y ∷ ys) l r h = go (y.0 == m) refl h (risen m (suc y.0) ys (let a : lo ≤ y.0 = r.0 in omega arith) r.1) where
  go : (b : Bool) → (y.0 == m) ≡ b → (b || list_any (is_number m) ys) ≡ true → (list_any (is_number m) ys ≡ true → ⊥) → ⊥
  go true e g ih = let a : lo ≤ y.0 = r.0 in let q : y.0 ≡ m = eqb-true y.0 m e in absurd (omega arith)
  go false e g ih = ih g

-- no number comes twice
pub rises_once : (m lo : ℕ) (xs ys : List Tagged) → Rises lo (map (λ p. p.0) (xs ++ ys)) → list_any (is_number m) xs ≡ true → list_any (is_number m) ys ≡ true → ⊥
rises_once m lo [] ys r h g = absurd cc
rises_once m lo (x ∷ xs) ys r h g = go (x.0 == m) refl h (rises_once m (suc x.0) xs ys r.1) where
  go : (b : Bool) → (x.0 == m) ≡ b → (b || list_any (is_number m) xs) ≡ true → (list_any (is_number m) xs ≡ true → list_any (is_number m) ys ≡ true → ⊥) → ⊥
  go true e k ih = let q : x.0 ≡ m = eqb-true x.0 m e in risen m (suc x.0) (xs ++ ys) (omega arith) r.1 (any_right (is_number m) xs ys g)
  go false e k ih = ih k g

-- numbers in turn rise
turns_rise : (w c i : ℕ) (xs : List Tagged) → 0 < w → ((j : ℕ) (p : Tagged) → slice_get xs j ≡ Some p → p.0 ≡ (i + j) * w + c) → Rises (i * w + c) (map (λ p. p.0) xs)
turns_rise w c i [] l h = tt
turns_rise w c i (x ∷ xs) l h =
    let here : x.0 ≡ (i + 0) * w + c = h 0 x refl in
    let zero_more : (i + 0) * w ≡ i * w = ap (λ z. z * w) (omega arith) in
    let one_more : suc i * w ≡ w + i * w = omega arith in (
      omega arith,
      rises_weak (suc x.0) (suc i * w + c) (map (λ p. p.0) xs) (omega arith)
          (turns_rise w c (suc i) xs l (λ j p e. h (suc j) p e ∙ ap (λ z. z * w + c) (omega arith))),
    )

pub in_turn_rises : (w : ℕ) (taken : ℕ → List Packet) → 0 < w → AreInTurn w taken → AreRising w taken
in_turn_rises w taken l a = record {
  apart = a.apart;
  no_pulses = a.no_pulses;
  rises = λ c lc. rises_weak 0 (0 * w + c) (map (λ p. p.0) (items_of (taken c))) (omega arith) (turns_rise w c 0 (items_of (taken c)) l (λ j p e. a.turns c j p lc e ∙ ap (λ z. z * w + c) (omega arith)));
}

-- one quotient and one remainder
pub one_division : (w a b c d : ℕ) → c < w → d < w → a * w + c ≡ b * w + d → (a ≡ b) × (c ≡ d)
one_division w a b c d lc ld e = go (cases_lt a b) (cases_lt b a) where
  less : (x y u v : ℕ) → x < y → u < w → x * w + u ≡ y * w + v → ⊥
  less x y u v l k e =
      let m : suc x * w ≤ y * w = mul-le-mul_right w (let q : suc x ≤ y = omega arith in q) in
      let s : suc x * w ≡ w + x * w = omega arith in
      absurd (omega arith)

  go : ((a < b) ⊎ (b ≤ a)) → ((b < a) ⊎ (a ≤ b)) → (a ≡ b) × (c ≡ d)
  go (inl l) q = absurd (less a b c d l lc e)
  go (inr l) (inl k) = absurd (less b a d c k ld (sym e))
  go (inr l) (inr k) = let same : a ≡ b = omega arith in (same, (let z : a * w ≡ b * w = ap (λ y. y * w) same in omega arith))
