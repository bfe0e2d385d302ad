-- Which packets a merger wants that has given all that is merged of what it took.
use Rattle.std.proofs.Common.{ℕ, zero, suc, ◌+◌, ◌*◌, ◌<◌, ◌≤◌, ◌==◌, Bool, true, false, cond, List, [], ◌∷◌, ◌++◌, ◌≡◌, length, length-append, refl, sym, ap, ◌∙◌, subst, Option, Some, None, slice_get, arith}
use Rattle.std.specs.Prelude.{◌&&◌, ◌||◌, not, nat_lt, is_none}
use Rattle.std.specs.Option.{option_to_list, unwrap_or}
use Rattle.std.specs.List.{list_all, list_any, AllByRecursion}
use Rattle.std.proofs.lemmas.Bool.{ltb-true}
use Rattle.std.proofs.lemmas.List.Folds.{list_all-append}
use Rattle.spl_value.specs.declared.item.Item.{Item}
use Rattle.spl_value.specs.declared.item.Item.TheVariants as I
use Rattle.spl_value.specs.declared.packet.Packet.{Packet}
use Rattle.spl_value.proofs.Lists.{append_last}
use Rattle.spl_value.specs.Numbered.{Rule, ByTurns, ByNumbers, ByPulses, InOrder, closes, cut, is_last, items_of, known, known_by_number, known_by_pulses, merged, numbers_of, reaches}
use Rattle.stream_model.specs.Stream.{is_closed, is_empty}
use Rattle.channel_heads.specs.Held.{Held, MergerHolds, MergerHolds.Gave, IsNext, bound_at, gives_head, head_at, is_done, is_merging, is_waiting, least_of, wants}
use Rattle.channel_heads.proofs.ByNumber.{Tagged, Gift, is_number, front, front-cons}
use Rattle.channel_heads.proofs.Facts.{Facts, PulseFacts, TurnFacts, facts}
use Rattle.channel_heads.proofs.Leasts.{least_none, least_some, least_there}
use Rattle.channel_heads.proofs.MergeLawLemmas.{prefix, head_any, knows_all, knows_pulses, known_absent}
use Rattle.channel_heads.proofs.Packets.{channel_of_all, in_turn_rises, known_less, last_or, reached_last}

-- ---- whether the stream is closed

closed-cut : (xs : List Item) → cut (xs ++ I.Window ∷ []) ≡ xs → is_closed xs ≡ true
closed-cut [] e = absurd (let clash : I.Window ∷ [] ≡ [] = e in cc)
closed-cut (x ∷ xs) e = go (closes x) e (closed-cut xs)
  where
    go : (b : Bool) → x ∷ cond b [] (cut (xs ++ I.Window ∷ [])) ≡ x ∷ xs → (cut (xs ++ I.Window ∷ []) ≡ xs → is_closed xs ≡ true) → cond b (is_empty xs) (is_closed xs) ≡ true
    go true e rest = let none : [] ≡ xs = cc in ap is_empty (sym none)
    go false e rest = rest (let same : cut (xs ++ I.Window ∷ []) ≡ xs = cc in same)

open-cut : (xs : List Item) → cut (xs ++ I.Window ∷ []) ≡ xs ++ I.Window ∷ [] → is_closed xs ≡ false
open-cut [] e = refl
open-cut (x ∷ xs) e = go (closes x) e (open-cut xs)
  where
    some : (xs : List Item) → [] ≡ xs ++ I.Window ∷ [] → ⊥
    some [] e = absurd cc
    some (y ∷ xs) e = absurd cc

    go : (b : Bool) → x ∷ cond b [] (cut (xs ++ I.Window ∷ [])) ≡ x ∷ (xs ++ I.Window ∷ []) → (cut (xs ++ I.Window ∷ []) ≡ xs ++ I.Window ∷ [] → is_closed xs ≡ false) → cond b (is_empty xs) (is_closed xs) ≡ false
    go true e rest = absurd (some xs (let none : [] ≡ xs ++ I.Window ∷ [] = cc in none))
    go false e rest = rest (let same : cut (xs ++ I.Window ∷ []) ≡ xs ++ I.Window ∷ [] = cc in same)

-- ---- which items are known

knows : (rule : Rule) (w : ℕ) (h : Held) (taken : ℕ → List Packet) (given : List Item) (f : Facts rule w h taken given) → InOrder rule w taken → AllByRecursion (λ (g : Gift). known rule w taken g.1.0 ≡ true) f.gifts
knows ByTurns w h taken given f order =
    let t : TurnFacts w taken f.gifts (length given) = f.by_rule in
    knows_all ByTurns w h taken given f (in_turn_rises w taken f.positive order) (t.counts order)
knows ByNumbers w h taken given f order = knows_all ByNumbers w h taken given f order f.by_rule
knows ByPulses w h taken given f order =
    let r : PulseFacts w h taken f.gifts f.rest = f.by_rule in knows_pulses w 0 r.high taken f.gifts (r.climbs order) r.is_known

-- so it is on each channel
all_front : (k : ℕ → Bool) (c : ℕ) (gifts : List Gift) → AllByRecursion (λ (g : Gift). k g.1.0 ≡ true) gifts → list_all (λ (p : Tagged). k p.0) (front gifts c) ≡ true
all_front k c [] h = refl
all_front k c (g ∷ gifts) h = ap (list_all (λ (p : Tagged). k p.0)) (front-cons g gifts c) ∙ go (g.0 == c) (all_front k c gifts h.1)
  where
    go : (b : Bool) → list_all (λ (p : Tagged). k p.0) (front gifts c) ≡ true → list_all (λ (p : Tagged). k p.0) (cond b (g.1 ∷ front gifts c) (front gifts c)) ≡ true
    go true rest = λ i. h.0 i && rest i
    go false rest = rest

-- a channel that has reached a number isn't waiting for it
calm : (w n d : ℕ) (h : Held) (taken : ℕ → List Packet) (given : List Item) (f : Facts ByPulses w h taken given) → InOrder ByPulses w taken → d < w → known_by_pulses w taken n ≡ true → is_waiting h n d ≡ false
calm w n d h taken given f order l k = go (wants h d) refl (nat_lt (bound_at h d) n) refl
  where
    reached : (n : ℕ) → known_by_pulses w taken n ≡ true → is_done h d ≡ false → n ≤ bound_at h d
    reached zero k done = omega arith
    reached (suc m) k done =
        let r : PulseFacts w h taken f.gifts f.rest = f.by_rule in
        let bound : bound_at h d ≡ last_or 0 (numbers_of (taken d)) = r.bounds d l in
        let some : suc m ≤ last_or 0 (numbers_of (taken d)) =
        reached_last (suc m) 0 (taken d) (order.falls d l) (sym (f.are_done d l) ∙ done) (channel_of_all (λ ps. list_any (reaches (suc m)) ps) 0 w d taken k (omega arith) (omega (arith, l))) in
        omega (arith, bound, some)

    not_done : (a b : Bool) → (not a && b) ≡ true → a ≡ false
    not_done true b e = absurd cc
    not_done false b e = refl

    go : (a : Bool) → wants h d ≡ a → (b : Bool) → nat_lt (bound_at h d) n ≡ b → (wants h d && nat_lt (bound_at h d) n) ≡ false
    go false p b q = ap (λ a. a && nat_lt (bound_at h d) n) p
    go true p false q = λ i. p i && q i
    go true p true q =
        let less : bound_at h d < n = ltb-true (bound_at h d) n q in
        let least : n ≤ bound_at h d = reached n k (not_done (is_done h d) (is_none (head_at h d)) p) in absurd (omega (arith, less, least))

module _ (rule : Rule) (w : ℕ) (h : Held) (taken : ℕ → List Packet) (given : List Item)
    (s : MergerHolds rule w h taken given) (order : InOrder rule w taken) (all : given ≡ merged rule w taken) where
  -- no head is the next: else it hadn't given all
  not_next : (c n : ℕ) (x : Item) → c < w → head_at h c ≡ Some (n, x) → IsNext rule w (length given) h c n → ⊥
  not_next c n x l e next =
      let more = prefix rule w (gives_head c x h) taken (given ++ x ∷ []) (Gave c n x s l e next) order in
      let same : length ((given ++ x ∷ []) ++ more.0) ≡ length given = ap length (more.1 ∙ sym all) in
      let sum : length ((given ++ x ∷ []) ++ more.0) ≡ length (given ++ x ∷ []) + length more.0 = length-append (given ++ x ∷ []) more.0 in
      let one : length (given ++ x ∷ []) ≡ length given + 1 = length-append given (x ∷ []) in
      absurd (omega (arith, same, sum, one))

-- and none is known
unknown : (rule : Rule) (w : ℕ) (h : Held) (taken : ℕ → List Packet) (given : List Item) (s : MergerHolds rule w h taken given) → InOrder rule w taken → given ≡ merged rule w taken
    → is_merging h ≡ true → (c : ℕ) → c < w → (n : ℕ) (x : Item) → head_at h c ≡ Some (n, x) → known rule w taken n ≡ false
unknown ByTurns w h taken given s order all live c l n x e =
    (subst (λ xs. AllByRecursion (λ (p : Tagged). known_by_number w taken p.0 ≡ false) xs) (f.live_rest live c l ∙ ap option_to_list e)
    (known_absent ByTurns w h taken given f (in_turn_rises w taken f.positive order) (t.counts order) absent c l)).0
  where
    f : Facts ByTurns w h taken given
    f = facts ByTurns w h taken given s

    t : TurnFacts w taken f.gifts (length given)
    t = f.by_rule

    absent : (d : ℕ) → d < w → list_any (is_number (length given)) (f.rest d) ≡ true → ⊥
    absent d l a =
        let head = head_any (head_at h d) (length given) (ap (list_any (is_number (length given))) (sym (f.live_rest live d l)) ∙ a) in
        let are : front f.gifts d ++ (length given, head.0) ∷ [] ≡ items_of (taken d) = ap (λ z. front f.gifts d ++ z) (sym (f.live_rest live d l ∙ ap option_to_list head.1)) ∙ f.fronts d l in
        let turn : length given ≡ length (front f.gifts d) * w + d =
        order.turns d (length (front f.gifts d)) (length given, head.0) l
        (ap (λ z. slice_get z (length (front f.gifts d))) (sym are) ∙ append_last (front f.gifts d) (length given, head.0)) in
        not_next ByTurns w h taken given s order all d (length given) head.0 l head.1 (length (front f.gifts d), turn)
unknown ByNumbers w h taken given s order all live c l n x e =
    (subst (λ xs. AllByRecursion (λ (p : Tagged). known_by_number w taken p.0 ≡ false) xs) (f.live_rest live c l ∙ ap option_to_list e)
    (known_absent ByNumbers w h taken given f order f.by_rule absent c l)).0
  where
    f : Facts ByNumbers w h taken given
    f = facts ByNumbers w h taken given s

    absent : (d : ℕ) → d < w → list_any (is_number (length given)) (f.rest d) ≡ true → ⊥
    absent d l a =
        let head = head_any (head_at h d) (length given) (ap (list_any (is_number (length given))) (sym (f.live_rest live d l)) ∙ a) in
        not_next ByNumbers w h taken given s order all d (length given) head.0 l head.1 refl
unknown ByPulses w h taken given s order all live c l n x e = go (known_by_pulses w taken n) refl
  where
    f : Facts ByPulses w h taken given
    f = facts ByPulses w h taken given s

    within : (heads : List (Option Tagged)) (d : ℕ) (p : Tagged) → unwrap_or (slice_get heads d) None ≡ Some p → d < length heads
    within [] d p e = absurd (cc)
    within (o ∷ heads) zero p e = omega arith
    within (o ∷ heads) (suc d) p e = let r : d < length heads = within heads d p e in omega (arith, r)

    -- the least head would be the next
    least : (o : Option ℕ) → least_of h.heads ≡ o → known_by_pulses w taken n ≡ true → ⊥
    least None q k = let none : head_at h c ≡ None = least_none h.heads q c in absurd (let clash : None ≡ Some (n, x) = sym none ∙ e in cc)
    least (Some m) q k =
        let there = least_there h.heads m q in
        let size : length h.heads ≡ w = f.size_heads in
        let low : m ≤ n = least_some h.heads m q c n x e in
        let inside : there.0 < length h.heads = within h.heads there.0 (m, there.1) there.2 in
        let below : there.0 < w = omega (arith, size, inside) in
        not_next ByPulses w h taken given s order all there.0 m there.1 below there.2
        ((λ d k y is. least_some h.heads m q d k y is), (λ d ld. calm w m d h taken given f order ld (known_less w taken m n low k)))

    go : (b : Bool) → known_by_pulses w taken n ≡ b → b ≡ false
    go true k = absurd (least (least_of h.heads) refl k)
    go false k = refl

-- ---- what is wanted

all_known : (o : Option Tagged) (k : ℕ → Bool) → ((n : ℕ) (x : Item) → o ≡ Some (n, x) → k n ≡ false) → list_all (λ (p : Tagged). k p.0) (option_to_list o) ≡ is_none o
all_known None k h = refl
all_known (Some p) k h = ap (λ b. b && true) (h p.0 p.1 refl)

-- the stream is closed or each item of the channel is known where it holds no head of it
pub known_or_closed : (rule : Rule) (w : ℕ) (h : Held) (taken : ℕ → List Packet) (given : List Item) → MergerHolds rule w h taken given → InOrder rule w taken → given ≡ merged rule w taken
    → h.cut ≡ false → (c : ℕ) → c < w
    → (is_closed (merged rule w taken) || list_all (λ (p : ℕ × Item). known rule w taken p.0) (items_of (taken c))) ≡ is_none (head_at h c)
known_or_closed rule w h taken given s order all uncut c l = ap (λ xs. is_closed xs || here) (sym all) ∙ go h.over refl
  where
    f : Facts rule w h taken given
    f = facts rule w h taken given s

    here : Bool
    here = list_all (λ (p : ℕ × Item). known rule w taken p.0) (items_of (taken c))

    go : (b : Bool) → h.over ≡ b → (is_closed given || here) ≡ is_none (head_at h c)
    go true over =
        let closed : is_closed given ≡ true = closed-cut given (f.ended over (I.Window ∷ [])) in
        let dead : is_merging h ≡ false = λ i. not (over i) && not (uncut i) in
        ap (λ b. b || here) closed ∙ sym (ap is_none (f.dead dead c))
    go false over =
        let opened : is_closed given ≡ false = open-cut given (f.going over (I.Window ∷ [])) in
        let live : is_merging h ≡ true = λ i. not (over i) && not (uncut i) in
        ap (λ b. b || here) opened
        ∙ ap (list_all (λ (p : ℕ × Item). known rule w taken p.0)) (sym (f.fronts c l))
        ∙ list_all-append (λ (p : ℕ × Item). known rule w taken p.0) (front f.gifts c) (f.rest c)
        ∙ (λ i. all_front (known rule w taken) c f.gifts (knows rule w h taken given f order) i && list_all (λ (p : ℕ × Item). known rule w taken p.0) (f.live_rest live c l i))
        ∙ all_known (head_at h c) (known rule w taken) (λ n x e. unknown rule w h taken given s order all live c l n x e)

-- so it wants a packet there where the channel hasn't ended besides
pub wants_is : (rule : Rule) (w : ℕ) (h : Held) (taken : ℕ → List Packet) (given : List Item) → MergerHolds rule w h taken given → InOrder rule w taken → given ≡ merged rule w taken
    → h.cut ≡ false → (c : ℕ) → c < w
    → wants h c ≡ (not (list_any is_last (taken c)) && (is_closed (merged rule w taken) || list_all (λ (p : ℕ × Item). known rule w taken p.0) (items_of (taken c))))
wants_is rule w h taken given s order all uncut c l =
    λ i. not ((facts rule w h taken given s).are_done c l i) && sym (known_or_closed rule w h taken given s order all uncut c l) i
