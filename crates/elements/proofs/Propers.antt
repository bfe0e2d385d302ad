-- Proper packets, and one packet more.
use Rattle.std.proofs.Common.{ℕ, ◌≤◌, ◌||◌, ◌&&◌, nat_le, not, Bool, true, false, cond, List, [], ◌∷◌, ◌++◌, ◌≡◌, map, length, refl, sym, ap, ◌∙◌, subst, append-nil, arith}
use Rattle.spl_value.proofs.Bools.{and_parts}
use Rattle.spl_value.proofs.SegmentLaws.{not_true}
use Rattle.std.proofs.lemmas.Bool.{leb-true, le-leb}
use Rattle.std.proofs.lemmas.List.{map-append}
use Rattle.std.proofs.lemmas.List.Folds.{list_all-append}
use Rattle.std.specs.List.{list_all}
use Rattle.spl_value.specs.declared.item.Item.{Item}
use Rattle.spl_value.specs.declared.packet.Packet.{Packet}
use Rattle.spl_value.specs.declared.packet.Packet.TheVariants as P
use Rattle.spl_value.specs.declared.types.Named.{Named}
use Rattle.spl_value.specs.declared.types.SplType.{SplType}
use Rattle.spl_value.specs.Numbered.{IsProper, NeverFalls, closes, ends_once, is_last, item_fits, items_of, numbers_of, stops_once}
use Rattle.stream_model.specs.Stream.{any_closes}
use Rattle.network_model.specs.Packets.{has_last, items_in}
use Rattle.elements.specs.declared.input.Input.{Input}
use Rattle.elements.specs.Inputs.{follows, noted, noted_all, new_input}
use Rattle.elements.proofs.Receiving.{ended-is}

both_from : (a b : Bool) → a ≡ true → b ≡ true → (a && b) ≡ true
both_from a b p q = ap (λ x. x && b) p ∙ q

never : (b : Bool) → (b && false) ≡ false
never true = refl
never false = refl

longer : {A : Type 0} (xs : List A) (x : A) → nat_le (length (xs ++ x ∷ [])) 0 ≡ false
longer {A = A} xs x = go (nat_le (length (xs ++ x ∷ [])) 0) refl
  where
    some : (ys : List A) → length (ys ++ x ∷ []) ≤ 0 → ⊥
    some [] le = omega (arith, le)
    some (y ∷ ys) le = omega (arith, le)

    go : (b : Bool) → nat_le (length (xs ++ x ∷ [])) 0 ≡ b → b ≡ false
    go true q = absurd (some xs (leb-true (length (xs ++ x ∷ [])) 0 q))
    go false q = refl

-- ---- one packet more

stops-last : (ps : List Packet) (p : Packet) → stops_once (ps ++ p ∷ []) ≡ (stops_once ps && not (has_last ps))
stops-last [] p = go (is_last p)
  where
    go : (b : Bool) → (cond b true true && true) ≡ true
    go true = refl
    go false = refl
stops-last (q ∷ ps) p = go (is_last q) (stops-last ps p)
  where
    go : (b : Bool) → stops_once (ps ++ p ∷ []) ≡ (stops_once ps && not (has_last ps))
        → (cond b (nat_le (length (ps ++ p ∷ [])) 0) true && stops_once (ps ++ p ∷ [])) ≡ ((cond b (nat_le (length ps) 0) true && stops_once ps) && not (b || has_last ps))
    go true ih = ap (λ b. b && stops_once (ps ++ p ∷ [])) (longer ps p) ∙ sym (never (nat_le (length ps) 0 && stops_once ps))
    go false ih = ih

ends-last : (xs : List Item) (x : Item) → ends_once (xs ++ x ∷ []) ≡ (ends_once xs && not (any_closes xs))
ends-last [] x = go (closes x)
  where
    go : (b : Bool) → (cond b true true && true) ≡ true
    go true = refl
    go false = refl
ends-last (y ∷ xs) x = go (closes y) (ends-last xs x)
  where
    go : (b : Bool) → ends_once (xs ++ x ∷ []) ≡ (ends_once xs && not (any_closes xs))
        → (cond b (nat_le (length (xs ++ x ∷ [])) 0) true && ends_once (xs ++ x ∷ [])) ≡ ((cond b (nat_le (length xs) 0) true && ends_once xs) && not (cond b true (any_closes xs)))
    go true ih = ap (λ b. b && ends_once (xs ++ x ∷ [])) (longer xs x) ∙ sym (never (nat_le (length xs) 0 && ends_once xs))
    go false ih = ih

items-last : (ps : List Packet) (p : Packet) → items_of (ps ++ p ∷ []) ≡ items_of ps ++ items_of (p ∷ [])
items-last [] p = refl
items-last (P.Item n x ∷ ps) p = ap (λ z. (n, x) ∷ z) (items-last ps p)
items-last (P.Pulse n ∷ ps) p = items-last ps p
items-last (P.Close ∷ ps) p = items-last ps p
items-last (P.Cut ∷ ps) p = items-last ps p

numbers-last : (ps : List Packet) (p : Packet) → numbers_of (ps ++ p ∷ []) ≡ numbers_of ps ++ numbers_of (p ∷ [])
numbers-last [] p = refl
numbers-last (P.Item n x ∷ ps) p = ap (λ z. n ∷ z) (numbers-last ps p)
numbers-last (P.Pulse n ∷ ps) p = ap (λ z. n ∷ z) (numbers-last ps p)
numbers-last (P.Close ∷ ps) p = numbers-last ps p
numbers-last (P.Cut ∷ ps) p = numbers-last ps p

-- the last number, or this one
abbrev last_or : ℕ → List ℕ → ℕ
last_or low [] = low
last_or low (n ∷ ns) = last_or n ns

falls-more : (low : ℕ) (ns : List ℕ) (n : ℕ) → NeverFalls low ns → last_or low ns ≤ n → NeverFalls low (ns ++ n ∷ [])
falls-more low [] n f le = (le, tt)
falls-more low (m ∷ ns) n f le = (f.0, falls-more m ns n f.1 le)

falls-last : (low : ℕ) (ns : List ℕ) (n : ℕ) → NeverFalls low (ns ++ n ∷ []) → last_or low ns ≤ n
falls-last low [] n f = f.0
falls-last low (m ∷ ns) n f = falls-last m ns n f.1

-- ---- what is noted

low-by : (i : Input) (ps : List Packet) → (noted_all i ps).low ≡ last_or i.low (numbers_of ps)
low-by i [] = refl
low-by i (P.Item n x ∷ ps) = low-by (noted i (P.Item n x)) ps
low-by i (P.Pulse n ∷ ps) = low-by (noted i (P.Pulse n)) ps
low-by i (P.Close ∷ ps) = low-by (noted i P.Close) ps
low-by i (P.Cut ∷ ps) = low-by (noted i P.Cut) ps

abbrev items_at : List Packet → List Item
items_at ps = map (λ p. p.1) (items_of ps)

closed-by : (i : Input) (ps : List Packet) → (noted_all i ps).closed ≡ (i.closed || any_closes (items_at ps))
closed-by i [] = go i.closed
  where
    go : (b : Bool) → b ≡ (b || false)
    go true = refl
    go false = refl
closed-by i (P.Item n x ∷ ps) = closed-by (noted i (P.Item n x)) ps ∙ go i.closed (closes x)
  where
    go : (a b : Bool) → ((a || b) || any_closes (items_at ps)) ≡ (a || cond b true (any_closes (items_at ps)))
    go true b = refl
    go false true = refl
    go false false = refl
closed-by i (P.Pulse n ∷ ps) = closed-by (noted i (P.Pulse n)) ps
closed-by i (P.Close ∷ ps) = closed-by (noted i P.Close) ps
closed-by i (P.Cut ∷ ps) = closed-by (noted i P.Cut) ps

closed-is : (ps : List Packet) → (noted_all new_input ps).closed ≡ any_closes (items_at ps)
closed-is ps = closed-by new_input ps

low-is : (ps : List Packet) → (noted_all new_input ps).low ≡ last_or 0 (numbers_of ps)
low-is ps = low-by new_input ps

-- ---- what may follow

abbrev schema_fits : List (Named SplType) → ℕ × Item → Bool
schema_fits s p = item_fits s p.1

fit-none : (s : List (Named SplType)) (ps : List Packet) (p : Packet) → items_of (p ∷ []) ≡ [] → items_of (ps ++ p ∷ []) ≡ items_of ps
fit-none s ps p none = items-last ps p ∙ ap (λ z. items_of ps ++ z) none ∙ append-nil (items_of ps)

-- another packet than an item
no_item : (s : List (Named SplType)) (ps : List Packet) (p : Packet) → IsProper s ps → items_of (p ∷ []) ≡ [] → has_last ps ≡ false → NeverFalls 0 (numbers_of ps ++ numbers_of (p ∷ [])) → IsProper s (ps ++ p ∷ [])
no_item s ps p h none unended falls = record {
  fit = ap (list_all (schema_fits s)) (fit-none s ps p none) ∙ h.fit;
  ends = ap (λ qs. ends_once (map (λ (q : ℕ × Item). q.1) qs)) (fit-none s ps p none) ∙ h.ends;
  stops = stops-last ps p ∙ both_from (stops_once ps) (not (has_last ps)) h.stops (ap not unended);
  falls = subst (NeverFalls 0) (sym (numbers-last ps p)) falls;
}

unended-by : (ps : List Packet) → not (noted_all new_input ps).ended ≡ true → has_last ps ≡ false
unended-by ps e = sym (ended-is ps) ∙ not_true (noted_all new_input ps).ended e

low-by-last : (ps : List Packet) (n : ℕ) → nat_le (noted_all new_input ps).low n ≡ true → last_or 0 (numbers_of ps) ≤ n
low-by-last ps n e = subst (λ k. k ≤ n) (low-is ps) (leb-true (noted_all new_input ps).low n e)

pub proper_next : (s : List (Named SplType)) (ps : List Packet) (p : Packet) → IsProper s ps → follows s (noted_all new_input ps) p ≡ true → IsProper s (ps ++ p ∷ [])
proper_next s ps (P.Item n x) h e =
    let i : Input = noted_all new_input ps in
    let a = and_parts (not i.ended) (nat_le i.low n && (not i.closed && item_fits s x)) e in
    let b = and_parts (nat_le i.low n) (not i.closed && item_fits s x) a.1 in
    let c = and_parts (not i.closed) (item_fits s x) b.1 in
    record {
      fit = ap (list_all (schema_fits s)) (items-last ps (P.Item n x)) ∙ list_all-append (schema_fits s) (items_of ps) ((n, x) ∷ [])
          ∙ both_from (list_all (schema_fits s) (items_of ps)) (item_fits s x && true) h.fit (both_from (item_fits s x) true c.1 refl);
      ends = ap (λ qs. ends_once (map (λ (q : ℕ × Item). q.1) qs)) (items-last ps (P.Item n x)) ∙ ap ends_once (map-append (λ (q : ℕ × Item). q.1) (items_of ps) ((n, x) ∷ [])) ∙ ends-last (items_at ps) x
          ∙ both_from (ends_once (items_at ps)) (not (any_closes (items_at ps))) h.ends (ap not (sym (closed-is ps) ∙ not_true i.closed c.0));
      stops = stops-last ps (P.Item n x) ∙ both_from (stops_once ps) (not (has_last ps)) h.stops (ap not (unended-by ps a.0));
      falls = subst (NeverFalls 0) (sym (numbers-last ps (P.Item n x))) (falls-more 0 (numbers_of ps) n h.falls (low-by-last ps n b.0));
    }
proper_next s ps (P.Pulse n) h e =
    let i : Input = noted_all new_input ps in
    let a = and_parts (not i.ended) (nat_le i.low n) e in
    no_item s ps (P.Pulse n) h refl (unended-by ps a.0) (falls-more 0 (numbers_of ps) n h.falls (low-by-last ps n a.1))
proper_next s ps P.Close h e = no_item s ps P.Close h refl (unended-by ps e) (subst (NeverFalls 0) (sym (append-nil (numbers_of ps))) h.falls)
proper_next s ps P.Cut h e = no_item s ps P.Cut h refl (unended-by ps e) (subst (NeverFalls 0) (sym (append-nil (numbers_of ps))) h.falls)

-- and what does
unended-last : (s : List (Named SplType)) (ps : List Packet) (p : Packet) → IsProper s (ps ++ p ∷ []) → not (noted_all new_input ps).ended ≡ true
unended-last s ps p h = ap not (ended-is ps) ∙ (and_parts (stops_once ps) (not (has_last ps)) (sym (stops-last ps p) ∙ h.stops)).1

low-last : (s : List (Named SplType)) (ps : List Packet) (p : Packet) (n : ℕ) → IsProper s (ps ++ p ∷ []) → numbers_of (p ∷ []) ≡ n ∷ [] → nat_le (noted_all new_input ps).low n ≡ true
low-last s ps p n h is =
    le-leb (noted_all new_input ps).low n (subst (λ k. k ≤ n) (sym (low-is ps)) (falls-last 0 (numbers_of ps) n (subst (NeverFalls 0) (numbers-last ps p ∙ ap (λ ns. numbers_of ps ++ ns) is) h.falls)))

pub proper_last : (s : List (Named SplType)) (ps : List Packet) (p : Packet) → IsProper s (ps ++ p ∷ []) → follows s (noted_all new_input ps) p ≡ true
proper_last s ps (P.Item n x) h =
    let i : Input = noted_all new_input ps in
    let fits = and_parts (list_all (schema_fits s) (items_of ps)) (item_fits s x && true) (sym (ap (list_all (schema_fits s)) (items-last ps (P.Item n x)) ∙ list_all-append (schema_fits s) (items_of ps) ((n, x) ∷ [])) ∙ h.fit) in
    let ends = and_parts (ends_once (items_at ps)) (not (any_closes (items_at ps)))
    (sym (ap (λ qs. ends_once (map (λ (q : ℕ × Item). q.1) qs)) (items-last ps (P.Item n x)) ∙ ap ends_once (map-append (λ (q : ℕ × Item). q.1) (items_of ps) ((n, x) ∷ [])) ∙ ends-last (items_at ps) x) ∙ h.ends) in
    both_from (not i.ended) (nat_le i.low n && (not i.closed && item_fits s x)) (unended-last s ps (P.Item n x) h)
    (both_from (nat_le i.low n) (not i.closed && item_fits s x) (low-last s ps (P.Item n x) n h refl)
    (both_from (not i.closed) (item_fits s x) (ap not (closed-is ps) ∙ ends.1) (and_parts (item_fits s x) true fits.1).0))
proper_last s ps (P.Pulse n) h =
    let i : Input = noted_all new_input ps in
    both_from (not i.ended) (nat_le i.low n) (unended-last s ps (P.Pulse n) h) (low-last s ps (P.Pulse n) n h refl)
proper_last s ps P.Close h = unended-last s ps P.Close h
proper_last s ps P.Cut h = unended-last s ps P.Cut h

-- ---- what a proper packet says of those before it

pub unended_item : (s : List (Named SplType)) (ps : List Packet) (p : Packet) → IsProper s (ps ++ p ∷ []) → has_last ps ≡ false
unended_item s ps p h = unended-by ps (unended-last s ps p h)

item_parts : (s : List (Named SplType)) (ps : List Packet) (n : ℕ) (x : Item) → IsProper s (ps ++ P.Item n x ∷ []) → (any_closes (items_in ps) ≡ false) × (item_fits s x ≡ true)
item_parts s ps n x h =
    let i : Input = noted_all new_input ps in
    let a = and_parts (not i.ended) (nat_le i.low n && (not i.closed && item_fits s x)) (proper_last s ps (P.Item n x) h) in
    let b = and_parts (nat_le i.low n) (not i.closed && item_fits s x) a.1 in
    let c = and_parts (not i.closed) (item_fits s x) b.1 in
    (sym (closed-is ps) ∙ not_true i.closed c.0, c.1)

pub unclosed_item : (s : List (Named SplType)) (ps : List Packet) (n : ℕ) (x : Item) → IsProper s (ps ++ P.Item n x ∷ []) → any_closes (items_in ps) ≡ false
unclosed_item s ps n x h = (item_parts s ps n x h).0

pub has_item : (s : List (Named SplType)) (ps : List Packet) (n : ℕ) (x : Item) → IsProper s (ps ++ P.Item n x ∷ []) → item_fits s x ≡ true
has_item s ps n x h = (item_parts s ps n x h).1
