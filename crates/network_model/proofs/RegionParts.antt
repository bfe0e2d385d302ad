-- Splitters and replicas are parts.
use Rattle.std.proofs.Common.{ℕ, zero, suc, ◌<◌, ◌≤◌, ◌%◌, ◌==◌, nat_le, nat_lt, Bool, true, false, cond, ◌&&◌, List, [], ◌∷◌, ◌++◌, ◌≡◌, ◌⊎◌, refl, sym, ap, ◌∙◌, append_assoc, length, map, arith, inl, inr, Option, Some, None, slice_get, take_while, ◌||◌}
use Rattle.std.proofs.lemmas.Bool.{cond-true, cond-false, cases_lt, eq-eqb, ne_eqb, and_parts}
use Rattle.spl_value.specs.declared.item.Item.{Item}
use Rattle.spl_value.specs.declared.packet.Packet.{Packet}
use Rattle.spl_value.specs.declared.packet.Packet.TheVariants as P
use Rattle.spl_value.specs.declared.item.Item.TheVariants as I
use Rattle.spl_value.specs.Numbered.{closes, cut, below, top_all, of_number, in_turn, items_of, reaches, channels_from, channels, taken_items, Rule, ByTurns, ByNumbers, ByPulses, has_number, known_by_number, known, merged, stops_once}
use Rattle.spl_value.specs.Route.{route}
use Rattle.stream_model.specs.Stream.{IsPrefix}
use Rattle.stream_model.specs.Stages.{Stage, start, on_port}
use Rattle.stream_model.specs.Bodies.{output}
use Rattle.stream_model.specs.Meaning.{Meaning}
use Rattle.std.specs.List.{list_all, list_any}
use Rattle.std.proofs.Math.Path.{fun_ext}
use Rattle.stream_model.specs.declared.outgoing.Outgoing.{Outgoing}
use Rattle.stream_model.specs.Sending.{outgoing, on_output, to_each, stages_give, stages_after, replies}
use Rattle.network_model.specs.Packets.{without_cut, is_stream}
use Rattle.network_model.specs.Networks.{RegionPart, Splitter, Replica, Merger}
use Rattle.stream_model.specs.Regions.{has_pulses}
use Rattle.network_model.specs.Owed.{replica_owes, Binds, item_lists, send_all, region_splits}
use Rattle.network_model.specs.Flow.{channel_flow}
use Rattle.network_model.specs.Receipts.{Taken}
use Rattle.network_model.specs.PartLaws.{IsLess, IsPart}
use Rattle.network_model.proofs.Sending.{on_output-send_all, on_output-no_output, front-send_all}
use Rattle.channel_heads.proofs.Fronts.{order_law}
use Rattle.network_model.proofs.Merging.{merged-front}
use Rattle.stream_model.proofs.Outputs.{on_output-append}
use Rattle.network_model.proofs.Packets.{front-same, front-left, front-map, no_length, stops-front, stops-packets_of}
use Rattle.network_model.proofs.Chains.{front-lists, on_port-outputs, without_cut-sent}

-- ---- splitters

each-past : (w o : ℕ) (p : Packet) → w ≤ o → on_output o (to_each w p) ≡ []
each-past zero o p le = refl
each-past (suc w) o p le =
    on_output-append o (to_each w p) (outgoing w p ∷ [])
    ∙ ap (λ z. z ++ on_output o (outgoing w p ∷ [])) (each-past w o p (omega (arith, le)))
    ∙ cond-false (w == o) (p ∷ []) [] (ne_eqb w o (λ (e : w ≡ o). omega (arith, e, le)))

pub each-one : (w o : ℕ) (p : Packet) → o < w → on_output o (to_each w p) ≡ p ∷ []
each-one zero o p lt = absurd (omega (arith, lt))
each-one (suc w) o p lt =
    on_output-append o (to_each w p) (outgoing w p ∷ [])
    ∙ go (cases_lt o w) (each-one w o p)
  where
    go : (o < w) ⊎ (w ≤ o) → (o < w → on_output o (to_each w p) ≡ p ∷ []) → on_output o (to_each w p) ++ on_output o (outgoing w p ∷ []) ≡ p ∷ []
    go (inl l) rest = ap (λ z. z ++ on_output o (outgoing w p ∷ [])) (rest l) ∙ ap (λ z. p ∷ z) (cond-false (w == o) (p ∷ []) [] (ne_eqb w o (λ (e : w ≡ o). omega (arith, e, l))))
    go (inr g) rest = ap (λ z. z ++ on_output o (outgoing w p ∷ [])) (each-past w o p g) ∙ cond-true (w == o) (p ∷ []) [] (eq-eqb w o (let e : w ≡ o = omega (arith, lt, g) in e))

-- on each channel it is there once, or not at all
each-cases : (w o : ℕ) (p : Packet) → (on_output o (to_each w p) ≡ p ∷ []) ⊎ (on_output o (to_each w p) ≡ [])
each-cases w o p = elim (cases_lt o w) [ inl lt ↦ inl (each-one w o p lt) | inr ge ↦ inr (each-past w o p ge) ]

split-front : (region : RegionPart) (n : ℕ) (xs ys : List Item) → IsPrefix xs ys → IsPrefix (region_splits region n xs) (region_splits region n ys)
split-front region n [] ys p = (region_splits region n ys, refl)
split-front region n (x ∷ xs) ys p =
    front-left (region_splits region n (x ∷ xs)) (region_splits region n (x ∷ xs)) (region_splits region n ys) (region_splits region n (x ∷ xs ++ p.0)) refl (ap (region_splits region n) (sym p.1))
    (more (closes x) (split-front region (suc n) xs (xs ++ p.0) (p.0, refl)))
  where
    pulses : List Outgoing
    pulses = cond (has_pulses region.rule && (suc n % 16 == 0)) (to_each region.width (P.Pulse (suc n))) []

    own : Outgoing
    own = outgoing (route region.routing region.width n x) (P.Item n x)

    more : (b : Bool) → IsPrefix (region_splits region (suc n) xs) (region_splits region (suc n) (xs ++ p.0))
        → IsPrefix (own ∷ (pulses ++ cond b (to_each region.width P.Close) (region_splits region (suc n) xs))) (own ∷ (pulses ++ cond b (to_each region.width P.Close) (region_splits region (suc n) (xs ++ p.0))))
    more true rest = front-same (own ∷ (pulses ++ to_each region.width P.Close)) (own ∷ (pulses ++ to_each region.width P.Close)) refl
    more false rest = (rest.0, ap (λ z. own ∷ z) (append_assoc pulses (region_splits region (suc n) xs) rest.0 ∙ ap (λ z. pulses ++ z) rest.1))

-- a test of lists of packets that items and pulses in front don't change, and that `Close` alone passes
module _ (test : List Packet → Bool) (none : test [] ≡ true) (close : test (P.Close ∷ []) ≡ true)
    (item : (n : ℕ) (x : Item) (ps : List Packet) → test (P.Item n x ∷ ps) ≡ test ps) (pulse : (n : ℕ) (ps : List Packet) → test (P.Pulse n ∷ ps) ≡ test ps) where
  split-passes : (region : RegionPart) (o n : ℕ) (items : List Item) → test (on_output o (region_splits region n items)) ≡ true
  split-passes region o n [] = none
  split-passes region o n (x ∷ items) =
      first (route region.routing region.width n x == o)
      ∙ ap test (on_output-append o pulses (cond (closes x) (to_each region.width P.Close) (region_splits region (suc n) items)))
      ∙ second (has_pulses region.rule && (suc n % 16 == 0)) (on_output o (cond (closes x) (to_each region.width P.Close) (region_splits region (suc n) items)))
      ∙ third (closes x) (split-passes region o (suc n) items)
    where
      pulses : List Outgoing
      pulses = cond (has_pulses region.rule && (suc n % 16 == 0)) (to_each region.width (P.Pulse (suc n))) []

      rest : List Outgoing
      rest = pulses ++ cond (closes x) (to_each region.width P.Close) (region_splits region (suc n) items)

      first : (b : Bool) → test (cond b (P.Item n x ∷ on_output o rest) (on_output o rest)) ≡ test (on_output o rest)
      first true = item n x (on_output o rest)
      first false = refl

      second : (b : Bool) (ps : List Packet) → test (on_output o (cond b (to_each region.width (P.Pulse (suc n))) []) ++ ps) ≡ test ps
      second true ps = elim (each-cases region.width o (P.Pulse (suc n))) [ inl e ↦ ap (λ z. test (z ++ ps)) e ∙ pulse (suc n) ps | inr e ↦ ap (λ z. test (z ++ ps)) e ]
      second false ps = refl

      third : (b : Bool) → test (on_output o (region_splits region (suc n) items)) ≡ true → test (on_output o (cond b (to_each region.width P.Close) (region_splits region (suc n) items))) ≡ true
      third true r = elim (each-cases region.width o P.Close) [ inl e ↦ ap test e ∙ close | inr e ↦ ap test e ∙ none ]
      third false r = r

-- packets without `Cut`
abbrev pub has_none : List Packet → Bool
has_none [] = true
has_none (P.Item n x ∷ ps) = has_none ps
has_none (P.Pulse n ∷ ps) = has_none ps
has_none (P.Close ∷ ps) = has_none ps
has_none (P.Cut ∷ ps) = false

pub without_cut-none : (ps : List Packet) → has_none ps ≡ true → without_cut ps ≡ ps
without_cut-none [] h = refl
without_cut-none (P.Item n x ∷ ps) h = ap (λ z. P.Item n x ∷ z) (without_cut-none ps h)
without_cut-none (P.Pulse n ∷ ps) h = ap (λ z. P.Pulse n ∷ z) (without_cut-none ps h)
without_cut-none (P.Close ∷ ps) h = ap (λ z. P.Close ∷ z) (without_cut-none ps h)
without_cut-none (P.Cut ∷ ps) h = absurd (cc)

pub split-stops : (region : RegionPart) (o n : ℕ) (items : List Item) → stops_once (on_output o (region_splits region n items)) ≡ true
split-stops region o n items = split-passes stops_once refl refl (λ n x ps. refl) (λ n ps. refl) region o n items

pub split-without_cut : (region : RegionPart) (o n : ℕ) (items : List Item) → without_cut (on_output o (region_splits region n items)) ≡ on_output o (region_splits region n items)
split-without_cut region o n items = without_cut-none (on_output o (region_splits region n items)) (split-passes has_none refl refl (λ n x ps. refl) (λ n ps. refl) region o n items)

pub splitter-part : (region : RegionPart) → IsPart (Splitter region)
splitter-part region = record {
  begins = refl;
  grows = λ t u less b. split-front region 0 (item_lists t 0) (item_lists u 0) (front-lists t u 0 (less.packets 0));
  binds = λ t u less b. tt;
  stops = λ t o b. split-stops region o 0 (item_lists t 0);
  no_cut = λ t o. split-without_cut region o 0 (item_lists t 0);
}

-- ---- replicas

pub on_output-map : (o : ℕ) (ps : List Packet) → on_output o (map (outgoing 0) ps) ≡ cond (0 == o) ps []
on_output-map o [] = none (0 == o)
  where
    none : (b : Bool) → [] ≡ cond {A = List Packet} b [] []
    none true = refl
    none false = refl
on_output-map o (p ∷ ps) = go (0 == o) (on_output-map o ps)
  where
    go : (b : Bool) → on_output o (map (outgoing 0) ps) ≡ cond b ps [] → cond b (p ∷ on_output o (map (outgoing 0) ps)) (on_output o (map (outgoing 0) ps)) ≡ cond b (p ∷ ps) []
    go true rest = ap (λ z. p ∷ z) rest
    go false rest = rest

pub replies-without_cut : (stages : List Stage) (ps : List Packet) → replies stages (without_cut ps) ≡ replies stages ps
replies-without_cut stages [] = refl
replies-without_cut stages (P.Item n x ∷ ps) = ap (λ z. map (P.Item n) (stages_give stages (x ∷ [])) ++ z) (replies-without_cut (stages_after stages (x ∷ [])) ps)
replies-without_cut stages (P.Pulse n ∷ ps) = ap (λ z. P.Pulse n ∷ z) (replies-without_cut stages ps)
replies-without_cut stages (P.Close ∷ ps) = ap (λ z. P.Close ∷ z) (replies-without_cut stages ps)
replies-without_cut stages (P.Cut ∷ ps) = replies-without_cut stages ps

pub replies-front : (stages : List Stage) (a b : List Packet) → IsPrefix a b → IsPrefix (replies stages a) (replies stages b)
replies-front stages a b p = front-left (replies stages a) (replies stages a) (replies stages b) (replies stages (a ++ p.0)) refl (ap (replies stages) (sym p.1)) (more stages a p.0)
  where
    more : (stages : List Stage) (a r : List Packet) → IsPrefix (replies stages a) (replies stages (a ++ r))
    more stages [] r = (replies stages r, refl)
    more stages (P.Item n x ∷ a) r =
        let q = more (stages_after stages (x ∷ [])) a r in
        (q.0, append_assoc (map (P.Item n) (stages_give stages (x ∷ []))) (replies (stages_after stages (x ∷ [])) a) q.0 ∙ ap (λ z. map (P.Item n) (stages_give stages (x ∷ [])) ++ z) q.1)
    more stages (P.Pulse n ∷ a) r = let q = more stages a r in (q.0, ap (λ z. P.Pulse n ∷ z) q.1)
    more stages (P.Close ∷ a) r = let q = more stages a r in (q.0, ap (λ z. P.Close ∷ z) q.1)
    more stages (P.Cut ∷ a) r = more stages a r

items-stop : (n : ℕ) (xs : List Item) (ps : List Packet) → stops_once (map (P.Item n) xs ++ ps) ≡ stops_once ps
items-stop n [] ps = refl
items-stop n (x ∷ xs) ps = items-stop n xs ps

pub replies-stop : (stages : List Stage) (ps : List Packet) → stops_once (without_cut ps) ≡ true → stops_once (replies stages ps) ≡ true
replies-stop stages [] h = refl
replies-stop stages (P.Item n x ∷ ps) h = items-stop n (stages_give stages (x ∷ [])) (replies (stages_after stages (x ∷ [])) ps) ∙ replies-stop (stages_after stages (x ∷ [])) ps h
replies-stop stages (P.Pulse n ∷ ps) h = replies-stop stages ps h
replies-stop stages (P.Close ∷ ps) h =
    let none : without_cut ps ≡ [] = no_length (without_cut ps) (and_parts (nat_le (length (without_cut ps)) 0) (stops_once (without_cut ps)) h).0 in
    ap (λ z. stops_once (P.Close ∷ z)) (sym (replies-without_cut stages ps) ∙ ap (replies stages) none)
replies-stop stages (P.Cut ∷ ps) h = replies-stop stages ps h

items-none : (n : ℕ) (xs : List Item) (ps : List Packet) → has_none (map (P.Item n) xs ++ ps) ≡ has_none ps
items-none n [] ps = refl
items-none n (x ∷ xs) ps = items-none n xs ps

pub replies-none : (stages : List Stage) (ps : List Packet) → has_none (replies stages ps) ≡ true
replies-none stages [] = refl
replies-none stages (P.Item n x ∷ ps) = items-none n (stages_give stages (x ∷ [])) (replies (stages_after stages (x ∷ [])) ps) ∙ replies-none (stages_after stages (x ∷ [])) ps
replies-none stages (P.Pulse n ∷ ps) = replies-none stages ps
replies-none stages (P.Close ∷ ps) = replies-none stages ps
replies-none stages (P.Cut ∷ ps) = replies-none stages ps

front-map-outgoing : (a b : List Packet) → IsPrefix a b → IsPrefix (map (outgoing 0) a) (map (outgoing 0) b)
front-map-outgoing a b p = go a p.0 b p.1
  where
    go : (a r b : List Packet) → a ++ r ≡ b → IsPrefix (map (outgoing 0) a) (map (outgoing 0) b)
    go a r b e = (map (outgoing 0) r, sym (maps a) ∙ ap (map (outgoing 0)) e)
      where
        maps : (c : List Packet) → map (outgoing 0) (c ++ r) ≡ map (outgoing 0) c ++ map (outgoing 0) r
        maps [] = refl
        maps (x ∷ c) = ap (λ z. outgoing 0 x ∷ z) (maps c)

pub replica-part : (region : RegionPart) (channel : ℕ) → IsPart (Replica region channel)
replica-part region channel = record {
  begins = refl;
  grows = λ t u less b. front-map-outgoing (replies (map start region.ops) (t.packets 0)) (replies (map start region.ops) (u.packets 0))
      (front-left (replies (map start region.ops) (t.packets 0)) (replies (map start region.ops) (without_cut (t.packets 0))) (replies (map start region.ops) (u.packets 0)) (replies (map start region.ops) (without_cut (u.packets 0)))
      (sym (replies-without_cut (map start region.ops) (t.packets 0))) (sym (replies-without_cut (map start region.ops) (u.packets 0)))
      (replies-front (map start region.ops) (without_cut (t.packets 0)) (without_cut (u.packets 0)) (less.packets 0)));
  binds = λ t u less b. let p : IsPrefix (without_cut (t.packets 0)) (without_cut (u.packets 0)) = less.packets 0 in stops-front (without_cut (t.packets 0)) p.0 (ap stops_once p.1 ∙ b);
  stops = λ t o b. ap stops_once (on_output-map o (replies (map start region.ops) (t.packets 0))) ∙ go (0 == o) (replies (map start region.ops) (t.packets 0)) (replies-stop (map start region.ops) (t.packets 0) b);
  no_cut = λ t o. let is = on_output-map o (replies (map start region.ops) (t.packets 0)) in
      ap without_cut is ∙ clean (0 == o) (replies (map start region.ops) (t.packets 0)) (without_cut-none (replies (map start region.ops) (t.packets 0)) (replies-none (map start region.ops) (t.packets 0))) ∙ sym is;
}
  where
    go : (b : Bool) (ps : List Packet) → stops_once ps ≡ true → stops_once (cond b ps []) ≡ true
    go true ps h = h
    go false ps h = refl

    clean : (b : Bool) (ps : List Packet) → without_cut ps ≡ ps → without_cut (cond b ps []) ≡ cond b ps []
    clean true ps h = h
    clean false ps h = refl

-- ---- mergers

pub items_of-without_cut : (ps : List Packet) → items_of (without_cut ps) ≡ items_of ps
items_of-without_cut [] = refl
items_of-without_cut (P.Item n x ∷ ps) = ap (λ z. (n, x) ∷ z) (items_of-without_cut ps)
items_of-without_cut (P.Pulse n ∷ ps) = items_of-without_cut ps
items_of-without_cut (P.Close ∷ ps) = items_of-without_cut ps
items_of-without_cut (P.Cut ∷ ps) = items_of-without_cut ps

onto-any : (b : Bool) {x y : Bool} → x ≡ y → (b || x) ≡ (b || y)
onto-any b e = ap (λ z. b || z) e

reaches-without_cut : (n : ℕ) (ps : List Packet) → list_any (reaches n) (without_cut ps) ≡ list_any (reaches n) ps
reaches-without_cut n [] = refl
reaches-without_cut n (P.Item k x ∷ ps) = onto-any (nat_le n k) (reaches-without_cut n ps)
reaches-without_cut n (P.Pulse k ∷ ps) = onto-any (nat_le n k) (reaches-without_cut n ps)
reaches-without_cut n (P.Close ∷ ps) = refl
reaches-without_cut n (P.Cut ∷ ps) = reaches-without_cut n ps

-- the lists of channels without `Cut`
abbrev pub clean : (ℕ → List Packet) → ℕ → List Packet
clean t c = without_cut (t c)

taken-clean : (w : ℕ) (t : ℕ → List Packet) → taken_items w (clean t) ≡ taken_items w t
taken-clean w t = ap (λ (f : ℕ → List (ℕ × Item)). channels w f) (fun_ext (λ c. items_of-without_cut (t c)))

all-clean : (n c w : ℕ) (t : ℕ → List Packet) → list_all (λ l. list_any (reaches n) l) (channels_from c w (clean t)) ≡ list_all (λ l. list_any (reaches n) l) (channels_from c w t)
all-clean n c zero t = refl
all-clean n c (suc w) t =
    let here : list_any (reaches n) (without_cut (t c)) ≡ list_any (reaches n) (t c) = reaches-without_cut n (t c) in
    let rest : list_all (λ l. list_any (reaches n) l) (channels_from (suc c) w (clean t)) ≡ list_all (λ l. list_any (reaches n) l) (channels_from (suc c) w t) = all-clean n (suc c) w t in
    λ i. here i && rest i

number-clean : (w : ℕ) (t : ℕ → List Packet) (n : ℕ) → known_by_number w (clean t) n ≡ known_by_number w t n
number-clean w t zero = refl
number-clean w t (suc n) =
    let before : known_by_number w (clean t) n ≡ known_by_number w t n = number-clean w t n in
    let taken : taken_items w (clean t) ≡ taken_items w t = taken-clean w t in
    λ i. before i && has_number n (taken i)

known-clean : (rule : Rule) (w : ℕ) (t : ℕ → List Packet) (n : ℕ) → known rule w (clean t) n ≡ known rule w t n
known-clean ByTurns w t n = number-clean w t n
known-clean ByNumbers w t n = number-clean w t n
known-clean ByPulses w t zero = refl
known-clean ByPulses w t (suc n) = all-clean (suc n) 0 w t

pub merged-clean : (rule : Rule) (w : ℕ) (t : ℕ → List Packet) → merged rule w (clean t) ≡ merged rule w t
merged-clean rule w t =
    let tests : (λ n. known rule w (clean t) n) ≡ (λ n. known rule w t n) = fun_ext (λ n. known-clean rule w t n) in
    let taken : taken_items w (clean t) ≡ taken_items w t = taken-clean w t in
    λ i. cut (map (λ (p : ℕ × Item). p.1) (take_while (λ (p : ℕ × Item). tests i p.0) (in_turn (taken i))))

top-none : (c w : ℕ) → top_all (channels_from c w (λ d. [])) ≡ 0
top-none c zero = refl
top-none c (suc w) = let rest : top_all (channels_from (suc c) w (λ d. [])) ≡ 0 = top-none (suc c) w in omega (arith, rest)

pub merged-none : (rule : Rule) (w : ℕ) → merged rule w (λ c. []) ≡ []
merged-none rule w =
    ap (λ n. cut (map (λ (p : ℕ × Item). p.1) (take_while (λ (p : ℕ × Item). known rule w (λ c. []) p.0) (below n (λ k. of_number k (taken_items w (λ c. []))))))) (top-none 0 w)

is_stream-cut : (xs : List Item) → is_stream (cut xs) ≡ true
is_stream-cut [] = refl
is_stream-cut (I.Tuple vs ∷ xs) = is_stream-cut xs
is_stream-cut (I.Window ∷ xs) = is_stream-cut xs
is_stream-cut (I.Final ∷ xs) = refl
is_stream-cut (I.Bad f ∷ xs) = refl

stops-merged : (outs : List ℕ) (items : List Item) (o : ℕ) → is_stream items ≡ true → stops_once (on_output o (send_all outs (map (output 0) items))) ≡ true
stops-merged outs items o s = go (slice_get outs o) refl
  where
    ports : (b : Bool) → is_stream (cond b items []) ≡ true
    ports true = s
    ports false = refl

    go : (found : Option ℕ) → slice_get outs o ≡ found → stops_once (on_output o (send_all outs (map (output 0) items))) ≡ true
    go None e = ap stops_once (on_output-no_output outs o (map (output 0) items) e)
    go (Some p) e =
        ap stops_once (on_output-send_all outs o p (map (output 0) items) e)
        ∙ stops-packets_of (on_port p (map (output 0) items)) (ap is_stream (on_port-outputs p items) ∙ ports (0 == p))

-- what is merged of more has what was merged in front
pub merged-more : (region : RegionPart) (outs : List ℕ) (t u : Taken) → IsLess t u → Binds (Merger region outs) u
    → IsPrefix (merged region.rule region.width t.packets) (merged region.rule region.width u.packets)
merged-more region outs t u less b =
    front-left (merged region.rule region.width t.packets) (merged region.rule region.width (clean t.packets)) (merged region.rule region.width u.packets) (merged region.rule region.width (clean u.packets))
    (sym (merged-clean region.rule region.width t.packets)) (sym (merged-clean region.rule region.width u.packets))
    (merged-front region.rule region.width (clean t.packets) (clean u.packets) (λ c lt. less.packets c) b.0 b.1)

pub merger-part : (region : RegionPart) (outs : List ℕ) → IsPart (Merger region outs)
merger-part region outs = record {
  begins = ap (λ items. send_all outs (map (output 0) items)) (merged-none region.rule region.width);
  grows = λ t u less b. front-send_all outs (map (output 0) (merged region.rule region.width t.packets)) (map (output 0) (merged region.rule region.width u.packets))
      (front-map (output 0) (merged region.rule region.width t.packets) (merged region.rule region.width u.packets)
      (merged-more region outs t u less b));
  binds = λ t u less b. (
    order_law region.rule region.width (clean t.packets) (clean u.packets) b.0 (λ c lt. less.packets c),
    λ c lt. let p : IsPrefix (without_cut (t.packets c)) (without_cut (u.packets c)) = less.packets c in stops-front (without_cut (t.packets c)) p.0 (ap stops_once p.1 ∙ b.1 c lt),
  );
  stops = λ t o b. stops-merged outs (merged region.rule region.width t.packets) o
      (is_stream-cut (map (λ (p : ℕ × Item). p.1) (take_while (λ (p : ℕ × Item). known region.rule region.width t.packets p.0) (in_turn (taken_items region.width t.packets)))));
  no_cut = λ t o. without_cut-sent outs (map (output 0) (merged region.rule region.width t.packets)) o;
}

-- ---- the flow of a channel

pub channel-clean : (region : RegionPart) (m : Meaning) (c : ℕ) → without_cut (channel_flow region m c) ≡ channel_flow region m c
channel-clean region m c = go (nat_lt c region.width)
  where
    go : (b : Bool) → without_cut (cond b (replica_owes region (m.streams region.entry) c) []) ≡ cond b (replica_owes region (m.streams region.entry) c) []
    go true = without_cut-none (replica_owes region (m.streams region.entry) c) (replies-none (map start region.ops) (on_output c (region_splits region 0 (m.streams region.entry))))
    go false = refl

pub channel-stops : (region : RegionPart) (m : Meaning) (c : ℕ) → stops_once (channel_flow region m c) ≡ true
channel-stops region m c = go (nat_lt c region.width)
  where
    go : (b : Bool) → stops_once (cond b (replica_owes region (m.streams region.entry) c) []) ≡ true
    go true = replies-stop (map start region.ops) (on_output c (region_splits region 0 (m.streams region.entry)))
        (ap stops_once (split-without_cut region c 0 (m.streams region.entry)) ∙ split-stops region c 0 (m.streams region.entry))
    go false = refl
