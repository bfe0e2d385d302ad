-- What holds of a merger after any calls.
use Rattle.std.proofs.Common.{◌≡◌, ◌≢◌, ◌<◌, ◌≤◌, ◌⊎◌, inl, inr, ℕ, zero, suc, ◌+◌, ◌*◌, Bool, true, false, List, [], ◌∷◌, ◌++◌, length, map, replicate, refl, sym, ap, ◌∙◌, append_assoc, length-append, arith, cond, subst, slice_get, slice_set, Option, Some, None}
use Rattle.std.specs.Prelude.{◌==◌, ◌||◌, ◌&&◌, nat_lt, not, filter, is_none, unwrap_or, if◌then◌else◌}
use Rattle.std.specs.Option.{option_to_list}
use Rattle.std.specs.List.{cons_option, list_any}
use Rattle.std.proofs.lemmas.Bool.{eqb-true, eqb-false, eq-eqb, ne_eqb, cases_lt, ltb-true, ltb-false}
use Rattle.std.proofs.lemmas.List.{append-nil, length-map, length-set, map-append, length-replicate}
use Rattle.std.proofs.lemmas.List.Elements.{filter-append, filter_map-append}
use Rattle.spl_value.specs.declared.item.Item.{Item}
use Rattle.spl_value.specs.declared.packet.Packet.{Packet}
use Rattle.spl_value.specs.declared.packet.Packet.TheVariants as P
use Rattle.spl_value.proofs.Lists.{append_last, get_set_same, set_elsewhere}
use Rattle.spl_value.specs.Numbered.{closes, cut, item_of, items_of, number_of, numbers_of, is_last, is_cut, reaches, Rule, ByTurns, ByNumbers, ByPulses, known_by_pulses, with_packet, NeverFalls, AreApart, AreInTurn}
use Rattle.channel_heads.specs.Held.{Held, MergerHolds, MergerHolds.New, MergerHolds.Took, MergerHolds.Gave, new_held, is_merging, head_at, bound_at, is_done, wants, is_waiting, no_heads, takes, gives_head, IsNext, IsLeast}
use Rattle.channel_heads.proofs.ByNumber.{Tagged, Gift, is_number, AtLeast, Climbs, WithinWidth, front, front-cons, least-append}
use Rattle.channel_heads.proofs.Packets.{last_or, last_or-append, none_right, any_right, reached_next, last_reaches, item_reaches, close_reaches, all_channels, channel_of_all, packet_here, by_packet, apart_before, turns_before, known_more, one_division}

-- ---- gifts, one more

-- the numbers are n, n + 1, ..
abbrev pub CountsUp : ℕ → List Gift → Type 0
CountsUp n [] = Unit {0}
CountsUp n (g ∷ gs) = (g.1.0 ≡ n) × CountsUp (suc n) gs

counts_more : (n m : ℕ) (gs : List Gift) (g : Gift) → CountsUp n gs → g.1.0 ≡ m → m ≡ n + length gs → CountsUp n (gs ++ g ∷ [])
counts_more n m [] g h e s = (e ∙ s ∙ (let z : n + 0 ≡ n = omega arith in z), tt)
counts_more n m (x ∷ gs) g h e s = (h.0, counts_more (suc n) m gs g h.1 e (omega arith))

climbs_more : (lo hi : ℕ) (gs : List Gift) (g : Gift) → Climbs lo gs hi → hi ≤ g.1.0 → Climbs lo (gs ++ g ∷ []) g.1.0
climbs_more lo hi [] g h l = (let a : lo ≤ hi = h in omega arith, omega arith)
climbs_more lo hi (x ∷ gs) g h l = (h.0, climbs_more x.1.0 hi gs g h.1 l)

within_more : (w : ℕ) (gs : List Gift) (g : Gift) → WithinWidth w gs → g.0 < w → WithinWidth w (gs ++ g ∷ [])
within_more w [] g h l = (l, tt)
within_more w (x ∷ gs) g h l = (h.0, within_more w gs g h.1 l)

front-more : (gs : List Gift) (g : Gift) (d : ℕ) → front (gs ++ g ∷ []) d ≡ front gs d ++ cond (g.0 == d) (g.1 ∷ []) []
front-more gs g d =
    ap (map (λ (g : Gift). g.1)) (filter-append (λ (g : Gift). g.0 == d) gs (g ∷ []))
    ∙ map-append (λ (g : Gift). g.1) (filter (λ g. g.0 == d) gs) (filter (λ g. g.0 == d) (g ∷ []))
    ∙ ap (λ z. front gs d ++ z) (front-cons g [] d)

-- ---- what is left

abbrev left_more : (ℕ → List Tagged) → ℕ → Packet → ℕ → List Tagged
left_more rest c p d = if d == c then rest d ++ items_of (p ∷ []) else rest d

abbrev left_less : (ℕ → List Tagged) → ℕ → ℕ → List Tagged
left_less rest c d = if d == c then [] else rest d

-- ---- facts of each rule

-- by turns: a number of rounds are over, and the channels before the turn's have given once more
pub record TurnFacts (w : ℕ) (taken : ℕ → List Packet) (gifts : List Gift) (count : ℕ) : Type 0 where
  pub rounds : ℕ
  pub turn : ℕ
  pub is_count : count ≡ rounds * w + turn
  pub within : turn < w
  pub lengths : (c : ℕ) → c < w → length (front gifts c) ≡ (if nat_lt c turn then suc rounds else rounds)
  pub counts : AreInTurn w taken → CountsUp 0 gifts

-- by pulses: no number below this one is still to come
pub record PulseFacts (w : ℕ) (h : Held) (taken : ℕ → List Packet) (gifts : List Gift) (rest : ℕ → List Tagged) : Type 0 where
  pub high : ℕ
  pub is_known : known_by_pulses w taken high ≡ true
  pub climbs : AreApart w taken → Climbs 0 gifts high
  pub least : AreApart w taken → (c : ℕ) → c < w → AtLeast high (rest c)
  pub bounds : (c : ℕ) → c < w → bound_at h c ≡ last_or 0 (numbers_of (taken c))

abbrev pub RuleFacts : Rule → ℕ → Held → (ℕ → List Packet) → List Gift → (ℕ → List Tagged) → ℕ → Type 0
RuleFacts ByTurns w h taken gifts rest count = TurnFacts w taken gifts count
RuleFacts ByNumbers w h taken gifts rest count = CountsUp 0 gifts
RuleFacts ByPulses w h taken gifts rest count = PulseFacts w h taken gifts rest

pub record Facts (rule : Rule) (w : ℕ) (h : Held) (taken : ℕ → List Packet) (given : List Item) : Type 0 where
  pub gifts : List Gift
  pub rest : ℕ → List Tagged
  pub positive : 0 < w
  pub are_given : map (λ g. g.1.1) gifts ≡ given
  pub within : WithinWidth w gifts
  pub fronts : (c : ℕ) → c < w → front gifts c ++ rest c ≡ items_of (taken c)
  pub size_heads : length h.heads ≡ w
  pub size_bounds : length h.bounds ≡ w
  pub size_done : length h.done ≡ w
  pub live_rest : is_merging h ≡ true → (c : ℕ) → c < w → rest c ≡ option_to_list (head_at h c)
  pub dead : is_merging h ≡ false → (c : ℕ) → head_at h c ≡ None
  pub uncut : is_merging h ≡ true → (c : ℕ) → c < w → list_any is_cut (taken c) ≡ false
  pub are_done : (c : ℕ) → c < w → is_done h c ≡ list_any is_last (taken c)
  pub ended : h.over ≡ true → (more : List Item) → cut (given ++ more) ≡ given
  pub going : h.over ≡ false → (more : List Item) → cut (given ++ more) ≡ given ++ cut more
  pub by_rule : RuleFacts rule w h taken gifts rest (length given)

-- ---- a new merger

get_replicate : {A : Type 0} (n c : ℕ) (x : A) → c < n → slice_get (replicate n x) c ≡ Some x
get_replicate zero c x h = absurd (omega arith)
get_replicate (suc n) zero x h = refl
get_replicate (suc n) (suc c) x h = get_replicate n c x (omega arith)

abbrev head_none : List (Option Tagged) → ℕ → Type 0
head_none heads c = unwrap_or (slice_get heads c) None ≡ None

none_replicate : (n c : ℕ) → head_none (replicate n None) c
none_replicate zero c = refl
none_replicate (suc n) zero = refl
none_replicate (suc n) (suc c) = none_replicate n c

zero_replicate : (n c : ℕ) → let z : ℕ = 0 in unwrap_or (slice_get (replicate n z) c) z ≡ z
zero_replicate zero c = refl
zero_replicate (suc n) zero = refl
zero_replicate (suc n) (suc c) = zero_replicate n c

none_before : (c rounds : ℕ) (b : Bool) → nat_lt c 0 ≡ b → cond b (suc rounds) rounds ≡ rounds
none_before c rounds true e = let q : c < 0 = ltb-true c 0 e in absurd (omega arith)
none_before c rounds false e = refl

new_rule : (rule : Rule) (w : ℕ) → 0 < w → RuleFacts rule w (new_held w) (λ c. []) [] (λ c. []) 0
new_rule ByTurns w l = record { rounds = 0; turn = 0; is_count = omega arith; within = l; lengths = λ c lc. sym (none_before c 0 (nat_lt c 0) refl); counts = λ _. tt }
new_rule ByNumbers w l = tt
new_rule ByPulses w l = record { high = 0; is_known = refl; climbs = λ _. omega arith; least = λ _ c lc. tt; bounds = λ c lc. zero_replicate w c }

pub new_facts : (rule : Rule) (w : ℕ) → 0 < w → Facts rule w (new_held w) (λ c. []) []
new_facts rule w l = record {
  gifts = [];
  rest = λ c. [];
  positive = l;
  are_given = refl;
  within = tt;
  fronts = λ c lc. refl;
  size_heads = length-replicate w None;
  size_bounds = length-replicate w 0;
  size_done = length-replicate w false;
  live_rest = λ _ c lc. ap option_to_list (sym (none_replicate w c));
  dead = λ e c. absurd cc;
  uncut = λ _ c lc. refl;
  are_done = λ c lc. ap (λ o. unwrap_or o true) (get_replicate w c false lc);
  ended = λ e. absurd cc;
  going = λ e more. refl;
  by_rule = new_rule rule w l;
}

-- ---- a packet is taken

wants_parts : (h : Held) (c : ℕ) → wants h c ≡ true → (is_done h c ≡ false) × (head_at h c ≡ None)
wants_parts h c e = go (is_done h c) refl e (head_at h c) refl where
  go : (b : Bool) → is_done h c ≡ b → (not b && is_none (head_at h c)) ≡ true → (o : Option Tagged) → head_at h c ≡ o → (is_done h c ≡ false) × (head_at h c ≡ None)
  go true d e o k = absurd cc
  go false d e None k = (d, k)
  go false d e (Some q) k = let bad : is_none (head_at h c) ≡ false = ap is_none k in absurd cc

live_parts : (h : Held) → is_merging h ≡ true → (h.over ≡ false) × (h.cut ≡ false)
live_parts h e = go h.over h.cut refl refl e where
  go : (a b : Bool) → h.over ≡ a → h.cut ≡ b → (not a && not b) ≡ true → (h.over ≡ false) × (h.cut ≡ false)
  go true b x y e = absurd cc
  go false true x y e = absurd cc
  go false false x y e = (x, y)

cut_dead : (a b : Bool) → (not a && not (b || not a)) ≡ false
cut_dead true b = refl
cut_dead false true = refl
cut_dead false false = refl

took_fronts : (taken : ℕ → List Packet) (gifts : List Gift) (rest : ℕ → List Tagged) (c : ℕ) (p : Packet) (d : ℕ) → front gifts d ++ rest d ≡ items_of (taken d)
    → front gifts d ++ left_more rest c p d ≡ items_of (with_packet taken c p d)
took_fronts taken gifts rest c p d h = go (d == c) where
  go : (b : Bool) → front gifts d ++ cond b (rest d ++ items_of (p ∷ [])) (rest d) ≡ items_of (cond b (taken d ++ p ∷ []) (taken d))
  go true = sym (append_assoc (front gifts d) (rest d) (items_of (p ∷ []))) ∙ ap (λ z. z ++ items_of (p ∷ [])) h ∙ sym (filter_map-append item_of (taken d) (p ∷ []))
  go false = h

-- a packet that is no item leaves what is left
left_same : (rest : ℕ → List Tagged) (c : ℕ) (p : Packet) (d : ℕ) → items_of (p ∷ []) ≡ [] → left_more rest c p d ≡ rest d
left_same rest c p d e = go (d == c) where
  go : (b : Bool) → cond b (rest d ++ items_of (p ∷ [])) (rest d) ≡ rest d
  go true = ap (λ z. rest d ++ z) e ∙ append-nil (rest d)
  go false = refl

cases_eq : (d c : ℕ) → (d ≡ c) ⊎ (d ≢ c)
cases_eq d c = go (d == c) refl where
  go : (b : Bool) → (d == c) ≡ b → (d ≡ c) ⊎ (d ≢ c)
  go true e = inl (eqb-true d c e)
  go false e = inr (eqb-false d c e)

left_here : (rest : ℕ → List Tagged) (c : ℕ) (p : Packet) → left_more rest c p c ≡ rest c ++ items_of (p ∷ [])
left_here rest c p = ap (λ b. cond b (rest c ++ items_of (p ∷ [])) (rest c)) (eq-eqb c c refl)

left_there : (rest : ℕ → List Tagged) (c : ℕ) (p : Packet) (d : ℕ) → d ≢ c → left_more rest c p d ≡ rest d
left_there rest c p d ne = ap (λ b. cond b (rest d ++ items_of (p ∷ [])) (rest d)) (ne_eqb d c ne)

none_of_none : (heads : List (Option Tagged)) (d : ℕ) → head_none (no_heads heads) d
none_of_none [] d = refl
none_of_none (x ∷ heads) zero = refl
none_of_none (x ∷ heads) (suc d) = none_of_none heads d

any_same : (q : Packet → Bool) (ps : List Packet) (p : Packet) → q p ≡ false → list_any q (ps ++ p ∷ []) ≡ list_any q ps
any_same q [] p e = ap (λ b. b || false) e
any_same q (x ∷ ps) p e = ap (λ b. q x || b) (any_same q ps p e)

done_same : (taken : ℕ → List Packet) (c d : ℕ) (p : Packet) → is_last p ≡ false → list_any is_last (with_packet taken c p d) ≡ list_any is_last (taken d)
done_same taken c d p e = by_packet (λ z. list_any is_last z ≡ list_any is_last (taken d)) taken c d p (λ _. any_same is_last (taken d) p e) (λ _. refl)

done_set : (taken : ℕ → List Packet) (h : Held) (c d : ℕ) (p : Packet) → is_last p ≡ true → c < length h.done → is_done h d ≡ list_any is_last (taken d)
    → unwrap_or (slice_get (slice_set h.done c true) d) true ≡ list_any is_last (with_packet taken c p d)
done_set taken h c d p e l was = by_packet (λ z. unwrap_or (slice_get (slice_set h.done c true) d) true ≡ list_any is_last z) taken c d p
    (λ is. ap (λ k. unwrap_or (slice_get (slice_set h.done c true) k) true) is ∙ ap (λ o. unwrap_or o true) (get_set_same h.done c true l)
    ∙ sym (any_right is_last (taken d) (p ∷ []) (ap (λ b. b || false) e)))
    (λ ne. ap (λ o. unwrap_or o true) (set_elsewhere h.done c d true (λ k. ne (sym k))) ∙ was)

uncut_more : (taken : ℕ → List Packet) (c d : ℕ) (p : Packet) → is_cut p ≡ false → list_any is_cut (taken d) ≡ false → list_any is_cut (with_packet taken c p d) ≡ false
uncut_more taken c d p e h = by_packet (λ z. list_any is_cut z ≡ false) taken c d p (λ _. none_right is_cut (taken d) p h e) (λ _. h)

-- the head that an item becomes
item_head : (h : Held) (w c n : ℕ) (x : Item) (rest : ℕ → List Tagged) → length h.heads ≡ w → c < w → is_merging h ≡ true → head_at h c ≡ None
    → ((d : ℕ) → d < w → rest d ≡ option_to_list (head_at h d)) → (d : ℕ) → d < w → left_more rest c (P.Item n x) d ≡ option_to_list (head_at (takes c (P.Item n x) h) d)
item_head h w c n x rest size lc live none were d ld =
    go (cases_eq d c) ∙ sym (ap (λ b. option_to_list (unwrap_or (slice_get (cond b (slice_set h.heads c (Some (n, x))) h.heads) d) None)) live) where
      go : ((d ≡ c) ⊎ (d ≢ c)) → left_more rest c (P.Item n x) d ≡ option_to_list (unwrap_or (slice_get (slice_set h.heads c (Some (n, x))) d) None)
      go (inl is) =
          ap (λ k. left_more rest c (P.Item n x) k) is ∙ left_here rest c (P.Item n x) ∙ ap (λ z. z ++ (n, x) ∷ []) (were c lc ∙ ap option_to_list none)
          ∙ sym (ap (λ k. option_to_list (unwrap_or (slice_get (slice_set h.heads c (Some (n, x))) k) None)) is
          ∙ ap (λ o. option_to_list (unwrap_or o None)) (get_set_same h.heads c (Some (n, x)) (omega arith)))
      go (inr ne) = left_there rest c (P.Item n x) d ne ∙ were d ld ∙ sym (ap (λ o. option_to_list (unwrap_or o None)) (set_elsewhere h.heads c d (Some (n, x)) (λ k. ne (sym k))))

dead_item : (h : Held) (c n : ℕ) (x : Item) → is_merging h ≡ false → ((d : ℕ) → head_at h d ≡ None) → (d : ℕ) → head_at (takes c (P.Item n x) h) d ≡ None
dead_item h c n x dead none d = ap (λ b. unwrap_or (slice_get (cond b (slice_set h.heads c (Some (n, x))) h.heads) d) None) dead ∙ none d

size_item : (b : Bool) (heads : List (Option Tagged)) (c w : ℕ) (v : Option Tagged) → length heads ≡ w → length (cond b (slice_set heads c v) heads) ≡ w
size_item true heads c w v e = length-set heads c v ∙ e
size_item false heads c w v e = e

bound_item : (taken : ℕ → List Packet) (h : Held) (c d n : ℕ) (p : Packet) → number_of p ≡ Some n → c < length h.bounds → bound_at h d ≡ last_or 0 (numbers_of (taken d))
    → unwrap_or (slice_get (slice_set h.bounds c n) d) 0 ≡ last_or 0 (numbers_of (with_packet taken c p d))
bound_item taken h c d n p e l was = by_packet (λ z. unwrap_or (slice_get (slice_set h.bounds c n) d) 0 ≡ last_or 0 (numbers_of z)) taken c d p
    (λ is. ap (λ k. unwrap_or (slice_get (slice_set h.bounds c n) k) 0) is ∙ ap (λ o. unwrap_or o 0) (get_set_same h.bounds c n l)
    ∙ sym (last_or-append 0 n (numbers_of (taken d)))
    ∙ sym (ap (last_or 0) (filter_map-append number_of (taken d) (p ∷ []) ∙ ap (λ o. numbers_of (taken d) ++ cons_option o []) e)))
    (λ ne. ap (λ o. unwrap_or o 0) (set_elsewhere h.bounds c d n (λ k. ne (sym k))) ∙ was)

bound_same : (taken : ℕ → List Packet) (h : Held) (c d : ℕ) (p : Packet) → number_of p ≡ None → bound_at h d ≡ last_or 0 (numbers_of (taken d))
    → bound_at h d ≡ last_or 0 (numbers_of (with_packet taken c p d))
bound_same taken h c d p e was = by_packet (λ z. bound_at h d ≡ last_or 0 (numbers_of z)) taken c d p
    (λ is. was ∙ sym (ap (last_or 0) (filter_map-append number_of (taken d) (p ∷ []) ∙ ap (λ o. numbers_of (taken d) ++ cons_option o []) e ∙ append-nil (numbers_of (taken d)))))
    (λ ne. was)

-- an item that is taken isn't below what is known
high_item : (w c n high : ℕ) (x : Item) (taken : ℕ → List Packet) → c < w → list_any is_last (taken c) ≡ false → known_by_pulses w taken high ≡ true
    → AreApart w (with_packet taken c (P.Item n x)) → high ≤ n
high_item w c n zero x taken l open_ k a = omega arith
high_item w c n (suc m) x taken l open_ k a =
    reached_next (suc m) n x (taken c) (subst (λ z. NeverFalls 0 (numbers_of z)) (packet_here taken c (P.Item n x)) (a.falls c l)) open_
    (channel_of_all (λ ps. list_any (reaches (suc m)) ps) 0 w c taken k (omega arith) (omega arith))

least_item : (w c n high : ℕ) (x : Item) (rest : ℕ → List Tagged) (d : ℕ) → AtLeast high (rest d) → high ≤ n → AtLeast high (left_more rest c (P.Item n x) d)
least_item w c n high x rest d h l = go (d == c) where
  go : (b : Bool) → AtLeast high (cond b (rest d ++ (n, x) ∷ []) (rest d))
  go true = least-append high (rest d) ((n, x) ∷ []) h (l, tt)
  go false = h

-- the facts of the rule, where a packet is taken
took_rule : (rule : Rule) (w c : ℕ) (p : Packet) (h : Held) (taken : ℕ → List Packet) (gifts : List Gift) (rest : ℕ → List Tagged) (count : ℕ)
    → ((high : ℕ) → known_by_pulses w taken high ≡ true → AreApart w (with_packet taken c p) → (d : ℕ) → AtLeast high (rest d) → AtLeast high (left_more rest c p d))
    → ((d : ℕ) → d < w → bound_at h d ≡ last_or 0 (numbers_of (taken d)) → bound_at (takes c p h) d ≡ last_or 0 (numbers_of (with_packet taken c p d)))
    → RuleFacts rule w h taken gifts rest count → RuleFacts rule w (takes c p h) (with_packet taken c p) gifts (left_more rest c p) count
took_rule ByTurns w c p h taken gifts rest count least bounds f =
    record { rounds = f.rounds; turn = f.turn; is_count = f.is_count; within = f.within; lengths = f.lengths; counts = λ a. f.counts (turns_before w c p taken a) }
took_rule ByNumbers w c p h taken gifts rest count least bounds f = f
took_rule ByPulses w c p h taken gifts rest count least bounds f = record {
  high = f.high;
  is_known = known_more w c p taken f.high f.is_known;
  climbs = λ a. f.climbs (apart_before w c p taken a);
  least = λ a d ld. least f.high f.is_known a d (f.least (apart_before w c p taken a) d ld);
  bounds = λ d ld. bounds d ld (f.bounds d ld);
}

pub took_facts : (rule : Rule) (w c : ℕ) (p : Packet) (h : Held) (taken : ℕ → List Packet) (given : List Item) → c < w → wants h c ≡ true → Facts rule w h taken given
    → Facts rule w (takes c p h) (with_packet taken c p) given
took_facts rule w c (P.Item n x) h taken given l want f =
    let parts = wants_parts h c want in
    let no_last : list_any is_last (taken c) ≡ false = sym (f.are_done c l) ∙ parts.0 in
    let in_bounds : c < length h.bounds = (let e : length h.bounds ≡ w = f.size_bounds in omega arith) in
    record {
      gifts = f.gifts;
      rest = left_more f.rest c (P.Item n x);
      positive = f.positive;
      are_given = f.are_given;
      within = f.within;
      fronts = λ d ld. took_fronts taken f.gifts f.rest c (P.Item n x) d (f.fronts d ld);
      size_heads = size_item (is_merging h) h.heads c w (Some (n, x)) f.size_heads;
      size_bounds = length-set h.bounds c n ∙ f.size_bounds;
      size_done = f.size_done;
      live_rest = λ e d ld. item_head h w c n x f.rest f.size_heads l e parts.1 (λ d ld. f.live_rest e d ld) d ld;
      dead = λ e d. dead_item h c n x e (f.dead e) d;
      uncut = λ e d ld. uncut_more taken c d (P.Item n x) refl (f.uncut e d ld);
      are_done = λ d ld. f.are_done d ld ∙ sym (done_same taken c d (P.Item n x) refl);
      ended = f.ended;
      going = f.going;
      by_rule = took_rule rule w c (P.Item n x) h taken f.gifts f.rest (length given)
          (λ high k a d g. least_item w c n high x f.rest d g (high_item w c n high x taken l no_last k a))
          (λ d ld was. bound_item taken h c d n (P.Item n x) refl in_bounds was) f.by_rule;
    }
took_facts rule w c (P.Pulse n) h taken given l want f =
    let in_bounds : c < length h.bounds = (let e : length h.bounds ≡ w = f.size_bounds in omega arith) in
    record {
      gifts = f.gifts;
      rest = left_more f.rest c (P.Pulse n);
      positive = f.positive;
      are_given = f.are_given;
      within = f.within;
      fronts = λ d ld. took_fronts taken f.gifts f.rest c (P.Pulse n) d (f.fronts d ld);
      size_heads = f.size_heads;
      size_bounds = length-set h.bounds c n ∙ f.size_bounds;
      size_done = f.size_done;
      live_rest = λ e d ld. left_same f.rest c (P.Pulse n) d refl ∙ f.live_rest e d ld;
      dead = f.dead;
      uncut = λ e d ld. uncut_more taken c d (P.Pulse n) refl (f.uncut e d ld);
      are_done = λ d ld. f.are_done d ld ∙ sym (done_same taken c d (P.Pulse n) refl);
      ended = f.ended;
      going = f.going;
      by_rule = took_rule rule w c (P.Pulse n) h taken f.gifts f.rest (length given)
          (λ high k a d g. subst (λ z. AtLeast high z) (sym (left_same f.rest c (P.Pulse n) d refl)) g)
          (λ d ld was. bound_item taken h c d n (P.Pulse n) refl in_bounds was) f.by_rule;
    }
took_facts rule w c P.Close h taken given l want f =
    let in_done : c < length h.done = (let e : length h.done ≡ w = f.size_done in omega arith) in
    record {
      gifts = f.gifts;
      rest = left_more f.rest c P.Close;
      positive = f.positive;
      are_given = f.are_given;
      within = f.within;
      fronts = λ d ld. took_fronts taken f.gifts f.rest c P.Close d (f.fronts d ld);
      size_heads = f.size_heads;
      size_bounds = f.size_bounds;
      size_done = length-set h.done c true ∙ f.size_done;
      live_rest = λ e d ld. left_same f.rest c P.Close d refl ∙ f.live_rest e d ld;
      dead = f.dead;
      uncut = λ e d ld. uncut_more taken c d P.Close refl (f.uncut e d ld);
      are_done = λ d ld. done_set taken h c d P.Close refl in_done (f.are_done d ld);
      ended = f.ended;
      going = f.going;
      by_rule = took_rule rule w c P.Close h taken f.gifts f.rest (length given)
          (λ high k a d g. subst (λ z. AtLeast high z) (sym (left_same f.rest c P.Close d refl)) g)
          (λ d ld was. bound_same taken h c d P.Close refl was) f.by_rule;
    }
took_facts rule w c P.Cut h taken given l want f =
    let in_done : c < length h.done = (let e : length h.done ≡ w = f.size_done in omega arith) in
    let dies : is_merging (takes c P.Cut h) ≡ false = cut_dead h.over h.cut in
    record {
      gifts = f.gifts;
      rest = left_more f.rest c P.Cut;
      positive = f.positive;
      are_given = f.are_given;
      within = f.within;
      fronts = λ d ld. took_fronts taken f.gifts f.rest c P.Cut d (f.fronts d ld);
      size_heads = length-map h.heads (λ _. None) ∙ f.size_heads;
      size_bounds = f.size_bounds;
      size_done = length-set h.done c true ∙ f.size_done;
      live_rest = λ e d ld. absurd (let bad : true ≡ false = sym e ∙ dies in cc);
      dead = λ e d. none_of_none h.heads d;
      uncut = λ e d ld. absurd (let bad : true ≡ false = sym e ∙ dies in cc);
      are_done = λ d ld. done_set taken h c d P.Cut refl in_done (f.are_done d ld);
      ended = f.ended;
      going = f.going;
      by_rule = took_rule rule w c P.Cut h taken f.gifts f.rest (length given)
          (λ high k a d g. subst (λ z. AtLeast high z) (sym (left_same f.rest c P.Cut d refl)) g)
          (λ d ld was. bound_same taken h c d P.Cut refl was) f.by_rule;
    }

-- ---- a head is given

abbrev gift : ℕ → ℕ → Item → Gift
gift c n x = (c, (n, x))

pub no_some : (o : Option Tagged) (q : Tagged) → o ≡ None → o ≡ Some q → ⊥
no_some None q d e = absurd cc
no_some (Some p) q d e = absurd cc

live_head : (rule : Rule) (w : ℕ) (h : Held) (taken : ℕ → List Packet) (given : List Item) (c n : ℕ) (x : Item) → Facts rule w h taken given → head_at h c ≡ Some (n, x) → is_merging h ≡ true
live_head rule w h taken given c n x f e = go (is_merging h) refl where
  go : (b : Bool) → is_merging h ≡ b → b ≡ true
  go true k = refl
  go false k = absurd (no_some (head_at h c) (n, x) (f.dead k c) e)

gave_fronts : (gifts : List Gift) (rest : ℕ → List Tagged) (c n : ℕ) (x : Item) (d : ℕ) → rest c ≡ (n, x) ∷ []
    → front (gifts ++ gift c n x ∷ []) d ++ left_less rest c d ≡ front gifts d ++ rest d
gave_fronts gifts rest c n x d is =
    ap (λ z. z ++ left_less rest c d) (front-more gifts (gift c n x) d) ∙ append_assoc (front gifts d) (cond (c == d) ((n, x) ∷ []) []) (left_less rest c d)
    ∙ ap (λ z. front gifts d ++ z) (go (cases_eq d c)) where
      go : ((d ≡ c) ⊎ (d ≢ c)) → cond (c == d) ((n, x) ∷ []) [] ++ cond (d == c) [] (rest d) ≡ rest d
      go (inl e) = (λ i. cond (eq-eqb c d (sym e) i) ((n, x) ∷ []) [] ++ cond (eq-eqb d c e i) [] (rest d)) ∙ sym is ∙ ap rest (sym e)
      go (inr ne) = λ i. cond (ne_eqb c d (λ k. ne (sym k)) i) ((n, x) ∷ []) [] ++ cond (ne_eqb d c ne i) [] (rest d)

gave_head : (h : Held) (w c : ℕ) (rest : ℕ → List Tagged) → length h.heads ≡ w → c < w → ((d : ℕ) → d < w → rest d ≡ option_to_list (head_at h d))
    → (d : ℕ) → d < w → left_less rest c d ≡ option_to_list (unwrap_or (slice_get (slice_set h.heads c None) d) None)
gave_head h w c rest size lc were d ld = go (cases_eq d c) where
  go : ((d ≡ c) ⊎ (d ≢ c)) → left_less rest c d ≡ option_to_list (unwrap_or (slice_get (slice_set h.heads c None) d) None)
  go (inl e) = ap (λ b. cond b [] (rest d)) (eq-eqb d c e)
      ∙ sym (ap (λ k. option_to_list (unwrap_or (slice_get (slice_set h.heads c None) k) None)) e ∙ ap (λ o. option_to_list (unwrap_or o None)) (get_set_same h.heads c None (omega arith)))
  go (inr ne) = ap (λ b. cond b [] (rest d)) (ne_eqb d c ne) ∙ were d ld ∙ sym (ap (λ o. option_to_list (unwrap_or o None)) (set_elsewhere h.heads c d None (λ k. ne (sym k))))

size_gave : (b : Bool) (heads : List (Option Tagged)) (c w : ℕ) → length heads ≡ w → length (cond b (no_heads (slice_set heads c None)) (slice_set heads c None)) ≡ w
size_gave true heads c w e = length-map (slice_set heads c None) (λ _. None) ∙ length-set heads c None ∙ e
size_gave false heads c w e = length-set heads c None ∙ e

-- by turns: the channel after this one is the next
turn_lengths : (w rounds turn : ℕ) (gifts : List Gift) (n : ℕ) (x : Item) → ((d : ℕ) → d < w → length (front gifts d) ≡ cond (nat_lt d turn) (suc rounds) rounds)
    → (d : ℕ) → d < w → length (front (gifts ++ gift turn n x ∷ []) d) ≡ cond (nat_lt d (suc turn)) (suc rounds) rounds
turn_lengths w rounds turn gifts n x were d l =
    ap length (front-more gifts (gift turn n x) d) ∙ length-append (front gifts d) (cond (turn == d) ((n, x) ∷ []) []) ∙ ap (λ z. z + length {A = Tagged} (cond (turn == d) ((n, x) ∷ []) [])) (were d l)
    ∙ go (cases_eq turn d) (nat_lt d turn) refl (nat_lt d (suc turn)) refl where
      go : ((turn ≡ d) ⊎ (turn ≢ d)) → (a : Bool) → nat_lt d turn ≡ a → (b : Bool) → nat_lt d (suc turn) ≡ b
          → cond (nat_lt d turn) (suc rounds) rounds + length {A = Tagged} (cond (turn == d) ((n, x) ∷ []) []) ≡ cond (nat_lt d (suc turn)) (suc rounds) rounds
      go (inl e) true p b q = let k : d < turn = ltb-true d turn p in absurd (omega arith)
      go (inl e) false p true q = (λ i. cond (p i) (suc rounds) rounds + length {A = Tagged} (cond (eq-eqb turn d e i) ((n, x) ∷ []) [])) ∙ (let k : rounds + 1 ≡ suc rounds = omega arith in k) ∙ sym (ap (λ b. cond b (suc rounds) rounds) q)
      go (inl e) false p false q = let k : suc turn ≤ d = ltb-false d (suc turn) q in absurd (omega arith)
      go (inr ne) true p true q = (λ i. cond (p i) (suc rounds) rounds + length {A = Tagged} (cond (ne_eqb turn d ne i) ((n, x) ∷ []) [])) ∙ (let k : suc rounds + 0 ≡ suc rounds = omega arith in k) ∙ sym (ap (λ b. cond b (suc rounds) rounds) q)
      go (inr ne) true p false q = let k : d < turn = ltb-true d turn p in let m : suc turn ≤ d = ltb-false d (suc turn) q in absurd (omega arith)
      go (inr ne) false p true q = let k : turn ≤ d = ltb-false d turn p in let m : d < suc turn = ltb-true d (suc turn) q in absurd (ne (omega arith))
      go (inr ne) false p false q = (λ i. cond (p i) (suc rounds) rounds + length {A = Tagged} (cond (ne_eqb turn d ne i) ((n, x) ∷ []) [])) ∙ (let k : rounds + 0 ≡ rounds = omega arith in k) ∙ sym (ap (λ b. cond b (suc rounds) rounds) q)

gave_turn : (w c n count : ℕ) (x : Item) (taken : ℕ → List Packet) (gifts : List Gift) → c < w → front gifts c ++ (n, x) ∷ [] ≡ items_of (taken c)
    → length gifts ≡ count → (rounds : ℕ) → count ≡ rounds * w + c → TurnFacts w taken gifts count → TurnFacts w taken (gifts ++ gift c n x ∷ []) (count + 1)
gave_turn w c n count x taken gifts l fronts counted rounds is f =
    let same = one_division w rounds f.rounds c f.turn l f.within (sym is ∙ f.is_count) in
    let here : length (front gifts c) ≡ rounds = f.lengths c l ∙ ap (λ t. cond (nat_lt c t) (suc f.rounds) f.rounds) (sym same.1) ∙ ap (λ b. cond b (suc f.rounds) f.rounds) (not_below c) ∙ sym same.0 in
    let lengths : ((d : ℕ) → d < w → length (front (gifts ++ gift c n x ∷ []) d) ≡ cond (nat_lt d (suc c)) (suc rounds) rounds) =
    turn_lengths w rounds c gifts n x (λ d ld. f.lengths d ld ∙ λ i. cond (nat_lt d (sym same.1 i)) (suc (sym same.0 i)) (sym same.0 i)) in
    let counts : (AreInTurn w taken → CountsUp 0 (gifts ++ gift c n x ∷ [])) = λ a.
    counts_more 0 count gifts (gift c n x) (f.counts a)
    (a.turns c (length (front gifts c)) (n, x) l (ap (λ z. slice_get z (length (front gifts c))) (sym fronts) ∙ append_last (front gifts c) (n, x)) ∙ ap (λ z. z * w + c) here ∙ sym is)
    (omega arith) in
    go (cases_lt (suc c) w) lengths counts where
      not_below : (c : ℕ) → nat_lt c c ≡ false
      not_below c = pick (nat_lt c c) refl where
        pick : (b : Bool) → nat_lt c c ≡ b → b ≡ false
        pick true e = let k : c < c = ltb-true c c e in absurd (omega arith)
        pick false e = refl

      go : ((suc c < w) ⊎ (w ≤ suc c)) → ((d : ℕ) → d < w → length (front (gifts ++ gift c n x ∷ []) d) ≡ cond (nat_lt d (suc c)) (suc rounds) rounds)
          → (AreInTurn w taken → CountsUp 0 (gifts ++ gift c n x ∷ [])) → TurnFacts w taken (gifts ++ gift c n x ∷ []) (count + 1)
      go (inl q) lengths counts = record { rounds = rounds; turn = suc c; is_count = omega arith; within = q; lengths = lengths; counts = counts }
      go (inr q) lengths counts =
          let e : suc c ≡ w = omega arith in
          let s : suc rounds * w ≡ rounds * w + w = omega arith in
          record {
            rounds = suc rounds;
            turn = 0;
            is_count = omega arith;
            within = omega arith;
            lengths = λ d ld. lengths d ld ∙ ap (λ b. cond b (suc rounds) rounds) (below_all d (let k : d < suc c = omega arith in k)) ∙ sym (none_before d (suc rounds) (nat_lt d 0) refl);
            counts = counts;
          } where
            below_all : (d : ℕ) → d < suc c → nat_lt d (suc c) ≡ true
            below_all d l = pick (nat_lt d (suc c)) refl where
              pick : (b : Bool) → nat_lt d (suc c) ≡ b → b ≡ true
              pick true e = refl
              pick false e = let k : suc c ≤ d = ltb-false d (suc c) e in absurd (omega arith)

-- by pulses: no channel that may still give a smaller number is left
reached_by : (h : Held) (w m d : ℕ) (taken : ℕ → List Packet) (gifts : List Gift) (rest : ℕ → List Tagged) → is_waiting h (suc m) d ≡ false
    → is_done h d ≡ list_any is_last (taken d) → list_any is_cut (taken d) ≡ false → bound_at h d ≡ last_or 0 (numbers_of (taken d))
    → front gifts d ++ rest d ≡ items_of (taken d) → rest d ≡ option_to_list (head_at h d) → ((k : ℕ) (y : Item) → head_at h d ≡ Some (k, y) → suc m ≤ k)
    → list_any (reaches (suc m)) (taken d) ≡ true
reached_by h w m d taken gifts rest calm done uncut bound fronts left least = go (is_done h d) refl (head_at h d) refl where
  one : (k : ℕ) (y : Item) → head_at h d ≡ Some (k, y) → list_any (is_number k) (items_of (taken d)) ≡ true
  one k y e = ap (list_any (is_number k)) (sym fronts) ∙ any_right (is_number k) (front gifts d) (rest d) (ap (list_any (is_number k)) (left ∙ ap option_to_list e) ∙ ap (λ b. b || false) (eq-eqb k k refl))

  go : (b : Bool) → is_done h d ≡ b → (o : Option Tagged) → head_at h d ≡ o → list_any (reaches (suc m)) (taken d) ≡ true
  go true e o k = close_reaches (suc m) (taken d) (sym done ∙ e) uncut
  go false e (Some q) k = item_reaches (suc m) q.0 (taken d) (least q.0 q.1 k) (one q.0 q.1 k)
  go false e None k = pick (nat_lt (bound_at h d) (suc m)) refl where
    pick : (b : Bool) → nat_lt (bound_at h d) (suc m) ≡ b → list_any (reaches (suc m)) (taken d) ≡ true
    pick true t = let bad : is_waiting h (suc m) d ≡ true = (λ i. (not (e i) && is_none (k i)) && t i) in let worse : true ≡ false = sym bad ∙ calm in cc
    pick false t = end (last_reaches (suc m) 0 (taken d) (let q : suc m ≤ bound_at h d = ltb-false (bound_at h d) (suc m) t in omega arith)) where
      end : ((suc m ≤ 0) ⊎ (list_any (reaches (suc m)) (taken d) ≡ true)) → list_any (reaches (suc m)) (taken d) ≡ true
      end (inl q) = absurd (omega arith)
      end (inr q) = q

gave_rule : (rule : Rule) (w c n : ℕ) (x : Item) (h : Held) (taken : ℕ → List Packet) (given : List Item) (f : Facts rule w h taken given) → c < w
    → head_at h c ≡ Some (n, x) → is_merging h ≡ true → IsNext rule w (length given) h c n
    → RuleFacts rule w (gives_head c x h) taken (f.gifts ++ gift c n x ∷ []) (left_less f.rest c) (length given + 1)
gave_rule ByTurns w c n x h taken given f l e live next =
    gave_turn w c n (length given) x taken f.gifts l (ap (λ z. front f.gifts c ++ z) (sym (f.live_rest live c l ∙ ap option_to_list e)) ∙ f.fronts c l)
    (sym (length-map f.gifts (λ (g : Gift). g.1.1)) ∙ ap length f.are_given) next.0 next.1 f.by_rule
gave_rule ByNumbers w c n x h taken given f l e live next =
    let counted : length f.gifts ≡ length given = sym (length-map f.gifts (λ (g : Gift). g.1.1)) ∙ ap length f.are_given in
    counts_more 0 (length given) f.gifts (gift c n x) f.by_rule next (omega arith)
gave_rule ByPulses w c n x h taken given f l e live next =
    let r : PulseFacts w h taken f.gifts f.rest = f.by_rule in
    record {
      high = n;
      is_known = known n next;
      climbs = λ a. climbs_more 0 r.high f.gifts (gift c n x) (r.climbs a) (first (r.least a c l));
      least = λ a d ld. rest_least d ld (cases_eq d c);
      bounds = r.bounds;
    } where
      first : {high : ℕ} → AtLeast high (f.rest c) → high ≤ n
      first {high} a = (subst (λ z. AtLeast high z) (f.live_rest live c l ∙ ap option_to_list e) a).0

      known : (n : ℕ) → IsLeast h n × ((d : ℕ) → d < w → is_waiting h n d ≡ false) → known_by_pulses w taken n ≡ true
      known zero next = refl
      known (suc m) next = all_channels (λ ps. list_any (reaches (suc m)) ps) 0 w taken
          (λ d ld. let k : d < w = omega arith in let r : PulseFacts w h taken f.gifts f.rest = f.by_rule in
          reached_by h w m d taken f.gifts f.rest (next.1 d k) (f.are_done d k) (f.uncut live d k) (r.bounds d k) (f.fronts d k) (f.live_rest live d k) (λ j y is. next.0 d j y is))

      rest_least : (d : ℕ) → d < w → ((d ≡ c) ⊎ (d ≢ c)) → AtLeast n (left_less f.rest c d)
      rest_least d ld (inl q) = subst (λ b. AtLeast n (cond b [] (f.rest d))) (sym (eq-eqb d c q)) tt
      rest_least d ld (inr ne) = subst (λ b. AtLeast n (cond b [] (f.rest d))) (sym (ne_eqb d c ne)) (subst (λ z. AtLeast n z) (sym (f.live_rest live d ld)) (one (head_at h d) refl)) where
        one : (o : Option Tagged) → head_at h d ≡ o → AtLeast n (option_to_list o)
        one None is = tt
        one (Some q) is = (next.0 d q.0 q.1 is, tt)

pub gave_facts : (rule : Rule) (w c n : ℕ) (x : Item) (h : Held) (taken : ℕ → List Packet) (given : List Item) → c < w → head_at h c ≡ Some (n, x)
    → IsNext rule w (length given) h c n → Facts rule w h taken given → Facts rule w (gives_head c x h) taken (given ++ x ∷ [])
gave_facts rule w c n x h taken given l e next f =
    let live : is_merging h ≡ true = live_head rule w h taken given c n x f e in
    let parts = live_parts h live in
    let left : f.rest c ≡ (n, x) ∷ [] = f.live_rest live c l ∙ ap option_to_list e in
    record {
      gifts = f.gifts ++ gift c n x ∷ [];
      rest = left_less f.rest c;
      positive = f.positive;
      are_given = map-append (λ (g : Gift). g.1.1) f.gifts (gift c n x ∷ []) ∙ ap (λ z. z ++ x ∷ []) f.are_given;
      within = within_more w f.gifts (gift c n x) f.within l;
      fronts = λ d ld. gave_fronts f.gifts f.rest c n x d left ∙ f.fronts d ld;
      size_heads = size_gave (closes x) h.heads c w f.size_heads;
      size_bounds = f.size_bounds;
      size_done = f.size_done;
      live_rest = λ alive d ld. gave_head h w c f.rest f.size_heads l (f.live_rest live) d ld
          ∙ sym (ap (λ b. option_to_list (unwrap_or (slice_get (cond b (no_heads (slice_set h.heads c None)) (slice_set h.heads c None)) d) None)) (open_item h x alive));
      dead = λ dies d. ap (λ b. unwrap_or (slice_get (cond b (no_heads (slice_set h.heads c None)) (slice_set h.heads c None)) d) None) (closing h x live dies) ∙ none_of_none (slice_set h.heads c None) d;
      uncut = λ alive d ld. f.uncut live d ld;
      are_done = f.are_done;
      ended = λ over more. ap cut (append_assoc given (x ∷ []) more) ∙ f.going parts.0 (x ∷ more) ∙ ap (λ b. given ++ x ∷ cond b [] (cut more)) (closed h x parts.0 over);
      going = λ goes more. ap cut (append_assoc given (x ∷ []) more) ∙ f.going parts.0 (x ∷ more) ∙ ap (λ b. given ++ x ∷ cond b [] (cut more)) (opened h x goes) ∙ sym (append_assoc given (x ∷ []) (cut more));
      by_rule = subst (λ k. RuleFacts rule w (gives_head c x h) taken (f.gifts ++ gift c n x ∷ []) (left_less f.rest c) k) (sym (length-append given (x ∷ []))) (gave_rule rule w c n x h taken given f l e live next);
    } where
      open_item : (h : Held) (x : Item) → (not (h.over || closes x) && not h.cut) ≡ true → closes x ≡ false
      open_item h x e = go h.over (closes x) refl e where
        go : (a b : Bool) → closes x ≡ b → (not (a || b) && not h.cut) ≡ true → closes x ≡ false
        go true b q e = absurd cc
        go false true q e = absurd cc
        go false false q e = q

      closing : (h : Held) (x : Item) → is_merging h ≡ true → (not (h.over || closes x) && not h.cut) ≡ false → closes x ≡ true
      closing h x live e = go (closes x) refl where
        go : (b : Bool) → closes x ≡ b → closes x ≡ true
        go true q = q
        go false q = let p = live_parts h live in let bad : (not (h.over || closes x) && not h.cut) ≡ true = (λ i. not (p.0 i || q i) && not (p.1 i)) in let worse : true ≡ false = sym bad ∙ e in cc

      closed : (h : Held) (x : Item) → h.over ≡ false → (h.over || closes x) ≡ true → closes x ≡ true
      closed h x o e = ap (λ b. b || closes x) (sym o) ∙ e

      opened : (h : Held) (x : Item) → (h.over || closes x) ≡ false → closes x ≡ false
      opened h x e = go h.over e where
        go : (a : Bool) → (a || closes x) ≡ false → closes x ≡ false
        go true e = absurd cc
        go false e = e

pub facts : (rule : Rule) (w : ℕ) (h : Held) (taken : ℕ → List Packet) (given : List Item) → MergerHolds rule w h taken given → Facts rule w h taken given
facts rule w _ _ _ (New l) = new_facts rule w l
facts rule w _ _ _ (Took {h} {taken} {given} c p s l want) = took_facts rule w c p h taken given l want (facts rule w h taken given s)
facts rule w _ _ _ (Gave {h} {taken} {given} c n x s l e next) = gave_facts rule w c n x h taken given l e next (facts rule w h taken given s)
