-- Where each event causes one item, what comes by number or in turn is all that the chain gives, once all was taken.
use Rattle.std.proofs.Common.{◌≡◌, ◌<◌, ◌≤◌, ◌⊎◌, inl, inr, ℕ, zero, suc, ◌+◌, ◌==◌, ◌&&◌, ◌||◌, Bool, true, false, List, [], ◌∷◌, ◌++◌, length, map, refl, sym, ap, ◌∙◌, append-nil, arith, cond, subst}
use Rattle.std.specs.Prelude.{filter, take_while}
use Rattle.std.specs.List.{AllByRecursion, enumerate_from, list_all, list_any}
use Rattle.std.proofs.lemmas.Bool.{and_from, and_parts, eqb-true, eq-eqb, cases_lt}
use Rattle.spl_value.specs.declared.item.Item.{Item}
use Rattle.spl_value.specs.declared.packet.Packet.{Packet}
use Rattle.spl_value.specs.declared.routing.Routing.{Routing}
use Rattle.spl_value.specs.Numbered.{ByNumbers, ByTurns, Rises, below, by_number, channels, channels_from, closes, cut, has_number, in_turn, items_of, known_by_number, merged, of_number, taken_items, top_all}
use Rattle.spl_value.specs.Route.{part}
use Rattle.stream_model.specs.Meaning.{Graph}
use Rattle.stream_model.specs.Operators.{Operator}
use Rattle.stream_model.specs.Regions.{chain_key}
use Rattle.stream_model.specs.Stages.{chain, start}
use Rattle.stream_model.specs.Stream.{any_closes}
use Rattle.channel_heads.proofs.ByNumber.{Tagged, is_number, no_channel, filter_none}
use Rattle.channel_heads.proofs.Packets.{any_channel, any_right, any_parts}
use Rattle.region_laws.specs.NumberLaws.{item_numbers}
use Rattle.region_laws.specs.OneItemLaws.{GivesOne}
use Rattle.region_laws.specs.RegionFronts.{IsRegionOf, OneWholeLaw}
use Rattle.stream_model.specs.Replicas.{replica}
use Rattle.stream_model.specs.Regions.{routing_by}
use Rattle.stream_model.specs.Sending.{replies}
use Rattle.region_laws.proofs.Channels.{channel_in, part-is}
use Rattle.channel_heads.proofs.Fronts.{number-are, passing-all, passing-known, passing-one, passing-stops}
use Rattle.region_laws.proofs.RegionLaw.{route-within}
use Rattle.region_laws.proofs.Numbers.{replica-numbers}
use Rattle.region_laws.proofs.OneItem.{one_law, rises-channel}
use Rattle.region_laws.proofs.RegionFronts.{by_number_all, items_all}
use Rattle.region_laws.proofs.ReplicaState.{ends-items, ends_behind}
use Rattle.region_laws.proofs.NumberedItems.{any_ends, items, on_channel}

never : {A : Type 0} → false ≡ true → A
never e = absurd cc

-- ---- items that close

ends_first : (xs ys : List Tagged) → any_ends xs ≡ true → any_ends (xs ++ ys) ≡ true
ends_first [] ys h = never h
ends_first (p ∷ xs) ys h = go (closes p.1) h (ends_first xs ys) where
  go : (b : Bool) → cond b true (any_ends xs) ≡ true → (any_ends xs ≡ true → any_ends (xs ++ ys) ≡ true) → cond b true (any_ends (xs ++ ys)) ≡ true
  go true h r = refl
  go false h r = r h

ends_number : (i t c w : ℕ) (F : ℕ → List Tagged) → c ≤ t → t < c + w → any_ends (filter (is_number i) (F t)) ≡ true → any_ends (of_number i (channels_from c w F)) ≡ true
ends_number i t c zero F l u h = absurd (omega arith)
ends_number i t c (suc w) F l u h = go (cases_lt c t) (λ q. ends_number i t (suc c) w F q (omega arith) h) where
  go : (c < t) ⊎ (t ≤ c) → (c < t → any_ends (of_number i (channels_from (suc c) w F)) ≡ true) → any_ends (filter (is_number i) (F c) ++ of_number i (channels_from (suc c) w F)) ≡ true
  go (inl q) r = ends_behind (filter (is_number i) (F c)) (of_number i (channels_from (suc c) w F)) (r q)
  go (inr q) r = ends_first (filter (is_number i) (F c)) (of_number i (channels_from (suc c) w F)) (subst (λ d. any_ends (filter (is_number i) (F d)) ≡ true) (let e : t ≡ c = omega arith in e) h)

ends_below : (i n : ℕ) (f : ℕ → List Tagged) → i < n → any_ends (f i) ≡ true → any_ends (below n f) ≡ true
ends_below i zero f l h = absurd (omega arith)
ends_below i (suc n) f l h = go (cases_lt i n) (λ q. ends_below i n f q h) where
  go : (i < n) ⊎ (n ≤ i) → (i < n → any_ends (below n f) ≡ true) → any_ends (below n f ++ f n) ≡ true
  go (inl q) r = ends_first (below n f) (f n) (r q)
  go (inr q) r = ends_behind (below n f) (f n) (subst (λ d. any_ends (f d) ≡ true) (let e : i ≡ n = omega arith in e) h)

-- the number of one that closes
ends_at : (m : ℕ) (xs : List Tagged) → AllByRecursion (λ (p : Tagged). p.0 < m) xs → any_ends xs ≡ true → (i : ℕ) × (i < m) × (any_ends (filter (is_number i) xs) ≡ true)
ends_at m [] a h = never h
ends_at m (p ∷ xs) a h = go (closes p.1) refl h (ends_at m xs a.1) where
  either : (i : ℕ) (b : Bool) → any_ends (filter (is_number i) xs) ≡ true → any_ends (cond b (p ∷ filter (is_number i) xs) (filter (is_number i) xs)) ≡ true
  either i true e = twice (closes p.1) where
    twice : (d : Bool) → cond d true (any_ends (filter (is_number i) xs)) ≡ true
    twice true = refl
    twice false = e
  either i false e = e

  go : (b : Bool) → closes p.1 ≡ b → cond b true (any_ends xs) ≡ true → (any_ends xs ≡ true → (i : ℕ) × (i < m) × (any_ends (filter (is_number i) xs) ≡ true))
      → (i : ℕ) × (i < m) × (any_ends (filter (is_number i) (p ∷ xs)) ≡ true)
  go true e h r =
      (p.0, a.0, ap (λ b. any_ends (cond b (p ∷ filter (is_number p.0) xs) (filter (is_number p.0) xs))) (eq-eqb p.0 p.0 refl) ∙ ap (λ d. cond d true (any_ends (filter (is_number p.0) xs))) e)
  go false e h r = let f = r h in (f.0, f.1, either f.0 (p.0 == f.0) f.2)

-- what follows one that closes counts for nothing
cut_ended : (xs ys : List Tagged) → any_ends xs ≡ true → cut (items (xs ++ ys)) ≡ cut (items xs)
cut_ended [] ys h = never h
cut_ended (p ∷ xs) ys h = go (closes p.1) h (cut_ended xs ys) where
  go : (b : Bool) → cond b true (any_ends xs) ≡ true → (any_ends xs ≡ true → cut (items (xs ++ ys)) ≡ cut (items xs)) → p.1 ∷ cond b [] (cut (items (xs ++ ys))) ≡ p.1 ∷ cond b [] (cut (items xs))
  go true h r = refl
  go false h r = ap (λ z. p.1 ∷ z) (r h)

-- ---- numbers

-- numbers before one that comes later
before_later : (lo m : ℕ) (ns ms : List ℕ) → Rises lo (ns ++ ms) → list_any (λ i. i == m) ms ≡ true → AllByRecursion (λ i. i < m) ns
before_later lo m [] ms r h = tt
before_later lo m (n ∷ ns) ms r h = (first (suc n) (ns ++ ms) r.1 (any_right (λ i. i == m) ns ms h), before_later (suc n) m ns ms r.1 h) where
  first : (low : ℕ) (ks : List ℕ) → Rises low ks → list_any (λ i. i == m) ks ≡ true → low ≤ m
  first low [] r h = never h
  first low (k ∷ ks) r h = go (k == m) refl h (first (suc k) ks r.1) where
    go : (b : Bool) → (k == m) ≡ b → (b || list_any (λ i. i == m) ks) ≡ true → (list_any (λ i. i == m) ks ≡ true → suc k ≤ m) → low ≤ m
    go true e h f = let a : low ≤ k = r.0 in let b : k ≡ m = eqb-true k m e in omega arith
    go false e h f = let a : low ≤ k = r.0 in let b : suc k ≤ m = f h in omega arith

number_any : (m : ℕ) (ps : List Tagged) → list_any (λ i. i == m) (item_numbers ps) ≡ list_any (is_number m) ps
number_any m [] = refl
number_any m (p ∷ ps) = ap (λ b. (p.0 == m) || b) (number_any m ps)

all_below : (m : ℕ) (ps : List Tagged) → AllByRecursion (λ i. i < m) (item_numbers ps) → AllByRecursion (λ (p : Tagged). p.0 < m) ps
all_below m [] a = tt
all_below m (p ∷ ps) a = (a.0, all_below m ps a.1)

-- the numbers of a stream
numbered_within : (n m : ℕ) (L : List Item) → list_any (is_number m) (enumerate_from n L) ≡ true → m < n + length L
numbered_within n m [] h = never h
numbered_within n m (x ∷ L) h = go (n == m) refl h (numbered_within (n + 1) m L) where
  go : (b : Bool) → (n == m) ≡ b → (b || list_any (is_number m) (enumerate_from (n + 1) L)) ≡ true
      → (list_any (is_number m) (enumerate_from (n + 1) L) ≡ true → m < n + 1 + length L) → m < n + length (x ∷ L)
  go true e h r = let q : n ≡ m = eqb-true n m e in omega arith
  go false e h r = let q : m < n + 1 + length L = r h in omega arith

channel_within : (channel_at : ℕ → ℕ) (c m : ℕ) (ps : List Tagged) → list_any (is_number m) (on_channel channel_at c ps) ≡ true → list_any (is_number m) ps ≡ true
channel_within channel_at c m [] h = h
channel_within channel_at c m (p ∷ ps) h = go (channel_at p.0 == c) (p.0 == m) h (channel_within channel_at c m ps) where
  later : (b : Bool) → list_any (is_number m) ps ≡ true → (b || list_any (is_number m) ps) ≡ true
  later true e = refl
  later false e = e

  go : (b d : Bool) → list_any (is_number m) (cond b (p ∷ on_channel channel_at c ps) (on_channel channel_at c ps)) ≡ true
      → (list_any (is_number m) (on_channel channel_at c ps) ≡ true → list_any (is_number m) ps ≡ true) → ((p.0 == m) || list_any (is_number m) ps) ≡ true
  go true d h r = twice (p.0 == m) h where
    twice : (b : Bool) → (b || list_any (is_number m) (on_channel channel_at c ps)) ≡ true → (b || list_any (is_number m) ps) ≡ true
    twice true h = refl
    twice false h = r h
  go false d h r = later (p.0 == m) (r h)

-- each number of a stream is on its channel
number_there : (channel_at : ℕ → ℕ) (m n : ℕ) (L : List Item) → n ≤ m → m < n + length L → list_any (is_number m) (on_channel channel_at (channel_at m) (enumerate_from n L)) ≡ true
number_there channel_at m n [] l u = absurd (omega arith)
number_there channel_at m n (x ∷ L) l u = go (cases_lt n m) (λ q. number_there channel_at m (n + 1) L q (omega arith)) where
  rest : List Tagged
  rest = on_channel channel_at (channel_at m) (enumerate_from (n + 1) L)

  either : (b : Bool) → list_any (is_number m) (on_channel channel_at (channel_at m) (enumerate_from (n + 1) L)) ≡ true
      → list_any (is_number m) (cond b ((n, x) ∷ on_channel channel_at (channel_at m) (enumerate_from (n + 1) L)) (on_channel channel_at (channel_at m) (enumerate_from (n + 1) L))) ≡ true
  either true e = ap (λ b. (n == m) || b) e ∙ go (n == m) where
    go : (b : Bool) → (b || true) ≡ true
    go true = refl
    go false = refl
  either false e = e

  go : (n < m) ⊎ (m ≤ n) → (n + 1 ≤ m → list_any (is_number m) (on_channel channel_at (channel_at m) (enumerate_from (n + 1) L)) ≡ true)
      → list_any (is_number m) (cond (channel_at n == channel_at m) ((n, x) ∷ on_channel channel_at (channel_at m) (enumerate_from (n + 1) L)) (on_channel channel_at (channel_at m) (enumerate_from (n + 1) L))) ≡ true
  go (inl q) r = either (channel_at n == channel_at m) (r (omega arith))
  go (inr q) r =
      let same : n ≡ m = omega arith in
      ap (λ b. list_any (is_number m) (cond b ((n, x) ∷ on_channel channel_at (channel_at m) (enumerate_from (n + 1) L)) (on_channel channel_at (channel_at m) (enumerate_from (n + 1) L)))) (eq-eqb (channel_at n) (channel_at m) (ap channel_at same))
      ∙ ap (λ b. b || list_any (is_number m) (on_channel channel_at (channel_at m) (enumerate_from (n + 1) L))) (eq-eqb n m same)

unknown : (w : ℕ) (all : ℕ → List Packet) (n : ℕ) → known_by_number w all n ≡ false → (m : ℕ) × (m < n) × (has_number m (taken_items w all) ≡ false)
unknown w all zero h = never (sym h)
unknown w all (suc n) h = go (known_by_number w all n) h (unknown w all n) where
  go : (b : Bool) → (b && has_number n (taken_items w all)) ≡ false → (b ≡ false → (m : ℕ) × (m < n) × (has_number m (taken_items w all) ≡ false))
      → (m : ℕ) × (m < suc n) × (has_number m (taken_items w all) ≡ false)
  go true h r = (n, omega arith, h)
  go false h r = let f = r refl in (f.0, (let l : f.0 < n = f.1 in omega arith), f.2)

-- ---- the law

module _ (g : Graph) (ops : List Operator) (rule : Rattle.spl_value.specs.Numbered.Rule) (w : ℕ) (L : List Item) (sent : ℕ → List Packet) (r : IsRegionOf g ops rule w L sent)
    (ones : AllByRecursion GivesOne ops) where
  abbrev routing : Routing
  routing = routing_by (chain_key ops)

  abbrev all : ℕ → List Packet
  all c = replies (map start ops) (sent c)

  abbrev lists : List (List Tagged)
  lists = taken_items w all

  abbrev f : ℕ → List Tagged
  f n = of_number n lists

  abbrev k : ℕ → Bool
  k n = known_by_number w all n

  channel_at : ℕ → ℕ
  channel_at n = channel_in routing w L n

  -- where a number is missing and a later one is there, a replica ended before
  ended_before : (n : ℕ) → k n ≡ false → (f n ≡ [] → ⊥) → any_ends (below n f) ≡ true
  unfolding channel_at
  ended_before n unk some =
      let miss = unknown w all n unk in
      let m = miss.0 in
      let t = channel_at m in
      let within : t < w = route-within routing w m _ r.wide in
      let there : list_any (is_number m) (part routing w L t) ≡ true =
      ap (list_any (is_number m)) (part-is routing w t L) ∙ number_there channel_at m 0 L (omega arith) (let q : n < length L = in_stream in let l : m < n = miss.1 in omega arith) in
      let law = one_law ops (part routing w L t) ones in
      let absent : list_any (is_number m) (replica ops (part routing w L t)) ≡ false = missing t within m miss.2 in
      let closed : any_closes (items (replica ops (part routing w L t))) ≡ true = shut t m there absent law.1 in
      let left : list_any (λ i. i == m) law.0.0 ≡ true = behind t m law.0.0 law.0.1 there absent in
      let smaller = all_below m (replica ops (part routing w L t)) (before_later 0 m (item_numbers (replica ops (part routing w L t))) law.0.0
      (subst (Rises 0) (sym (law.0.1 ∙ ap item_numbers (part-is routing w t L))) (rises-channel channel_at t 0 L)) left) in
      let at = ends_at m (replica ops (part routing w L t)) smaller (sym (ends-items (replica ops (part routing w L t))) ∙ closed) in
      ends_below at.0 n f (let a : at.0 < m = at.1 in let b : m < n = miss.1 in omega arith)
      (ends_number at.0 t 0 w (λ c. items_of (all c)) (omega arith) (omega arith) (ap (λ z. any_ends (filter (is_number at.0) z)) (items_all g ops rule w L sent r t within) ∙ at.2))
    where
      -- the number is one of the stream's
      in_stream : n < length L
      in_stream = go (cases_lt n (length L)) where
        none : length L ≤ n → (c : ℕ) → c < w → (b : Bool) → list_any (is_number n) (items_of (all c)) ≡ b → b ≡ false
        none l c lc false e = refl
        none l c lc true e =
            let a = replica-numbers ops n (part routing w L c) (ap (list_any (is_number n)) (sym (items_all g ops rule w L sent r c lc)) ∙ e) in
            let q = numbered_within 0 n L (channel_within channel_at c n (enumerate_from 0 L) (ap (list_any (is_number n)) (sym (part-is routing w c L)) ∙ a)) in
            absurd (omega arith)

        go : (n < length L) ⊎ (length L ≤ n) → n < length L
        go (inl q) = q
        go (inr q) =
            absurd (some (no_channel n 0 w (λ c. items_of (all c)) (λ d u l. filter_none (is_number n) (items_of (all d)) (none q d (omega arith) (list_any (is_number n) (items_of (all d))) refl))))

      missing : (t : ℕ) → t < w → (m : ℕ) → has_number m (taken_items w all) ≡ false → list_any (is_number m) (replica ops (part routing w L t)) ≡ false
      missing t l m h = go (list_any (is_number m) (replica ops (part routing w L t))) refl where
        go : (b : Bool) → list_any (is_number m) (replica ops (part routing w L t)) ≡ b → b ≡ false
        go false e = refl
        go true e =
            never (sym h ∙ any_channel (list_any (is_number m)) 0 w t (λ c. items_of (all c)) (omega arith) (omega arith) (ap (list_any (is_number m)) (items_all g ops rule w L sent r t l) ∙ e))

      shut : (t m : ℕ) → list_any (is_number m) (part routing w L t) ≡ true → list_any (is_number m) (replica ops (part routing w L t)) ≡ false
          → (any_closes (items (replica ops (part routing w L t))) ≡ false → item_numbers (replica ops (part routing w L t)) ≡ item_numbers (part routing w L t))
          → any_closes (items (replica ops (part routing w L t))) ≡ true
      shut t m there absent whole = go (any_closes (items (replica ops (part routing w L t)))) refl where
        go : (b : Bool) → any_closes (items (replica ops (part routing w L t))) ≡ b → b ≡ true
        go true e = refl
        go false e =
            never
            (sym absent ∙ sym (number_any m (replica ops (part routing w L t))) ∙ ap (list_any (λ i. i == m)) (whole e) ∙ number_any m (part routing w L t) ∙ there)

      behind : (t m : ℕ) (rest : List ℕ) → item_numbers (replica ops (part routing w L t)) ++ rest ≡ item_numbers (part routing w L t)
          → list_any (is_number m) (part routing w L t) ≡ true → list_any (is_number m) (replica ops (part routing w L t)) ≡ false → list_any (λ i. i == m) rest ≡ true
      behind t m rest e there absent =
          go (any_parts (λ i. i == m) (item_numbers (replica ops (part routing w L t))) rest (ap (list_any (λ i. i == m)) e ∙ number_any m (part routing w L t) ∙ there))
        where
          go : (list_any (λ i. i == m) (item_numbers (replica ops (part routing w L t))) ≡ true) ⊎ (list_any (λ i. i == m) rest ≡ true) → list_any (λ i. i == m) rest ≡ true
          go (inl h) = never (sym absent ∙ sym (number_any m (replica ops (part routing w L t))) ∙ h)
          go (inr h) = h

  abbrev passing : List Tagged → List Tagged
  passing xs = take_while (λ (p : Tagged). k p.0) xs

  abbrev knows : List Tagged → Bool
  knows xs = list_all (λ (p : Tagged). k p.0) xs

  one_number : (n : ℕ) (xs : List Tagged) → AllByRecursion (λ (p : Tagged). p.0 ≡ n) xs → k n ≡ true → knows xs ≡ true
  one_number n [] a e = refl
  one_number n (x ∷ xs) a e = and_from (k x.0) (knows xs) (ap k a.0 ∙ e) (one_number n xs a.1 e)

  all_append : (xs ys : List Tagged) → knows xs ≡ true → knows ys ≡ true → knows (xs ++ ys) ≡ true
  all_append [] ys h q = q
  all_append (x ∷ xs) ys h q = let parts = and_parts (k x.0) (knows xs) h in and_from (k x.0) (knows (xs ++ ys)) parts.0 (all_append xs ys parts.1 q)

  known_before : (n : ℕ) → k n ≡ true → knows (below n f) ≡ true
  known_before zero e = refl
  known_before (suc n) e =
      let parts = and_parts (k n) (has_number n lists) e in
      all_append (below n f) (f n) (known_before n parts.0) (one_number n (f n) (number-are n lists) parts.0)

  whole_below : (n : ℕ) → cut (items (passing (below n f))) ≡ cut (items (below n f))
  whole_below zero = refl
  whole_below (suc n) = go (k n) refl (whole_below n) where
    stays : k n ≡ false → (b : Bool) → knows (below n f) ≡ b → passing (below n f ++ f n) ≡ passing (below n f)
    stays e false q = passing-stops k (below n f) (f n) q
    stays e true q =
        passing-known k (below n f) (f n) q
        ∙ ap (λ z. below n f ++ z) (passing-one k n (f n) (number-are n lists) ∙ ap (λ b. cond b (f n) []) e)
        ∙ append-nil (below n f) ∙ sym (passing-all k (below n f) q)

    nothing_more : (xs : List Tagged) → f n ≡ xs → k n ≡ false → cut (items (below n f)) ≡ cut (items (below n f ++ xs))
    nothing_more [] q e = ap (λ z. cut (items z)) (sym (append-nil (below n f)))
    nothing_more (x ∷ xs) q e = sym (cut_ended (below n f) (x ∷ xs) (ended_before n e (λ none. (let no : [] ≡ x ∷ xs = sym none ∙ q in cc))))

    go : (b : Bool) → k n ≡ b → cut (items (passing (below n f))) ≡ cut (items (below n f)) → cut (items (passing (below n f ++ f n))) ≡ cut (items (below n f ++ f n))
    go true e ih = ap (λ z. cut (items z)) (passing-all k (below n f ++ f n) (all_append (below n f) (f n) (known_before n e) (one_number n (f n) (number-are n lists) e)))
    go false e ih = ap (λ z. cut (items z)) (stays e (knows (below n f)) refl) ∙ ih ∙ nothing_more (f n) refl e

  pub whole_ones : cut (items (passing (in_turn lists))) ≡ chain ops L
  whole_ones = whole_below (top_all lists) ∙ by_number_all g ops rule w L sent r

pub one_whole_law : OneWholeLaw
one_whole_law g ops w L sent = (λ r. whole_ones g ops ByNumbers w L sent r r.suits.0, λ r. whole_ones g ops ByTurns w L sent r r.suits.0)
