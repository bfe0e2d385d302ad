-- Fronts of proper packets are proper, perhaps with `Cut` behind them, and so are the packets of streams.
use Rattle.std.proofs.Common.{ℕ, nat_le, Bool, true, false, cond, ◌&&◌, List, [], ◌∷◌, ◌++◌, ◌≡◌, refl, sym, ap, ◌∙◌, subst, length, arith}
use Rattle.std.specs.List.{list_all}
use Rattle.std.proofs.lemmas.Bool.{leb-true, and_parts, and_from}
use Rattle.std.proofs.lemmas.List.Elements.{filter_map-append}
use Rattle.std.proofs.lemmas.List.Folds.{list_all-append}
use Rattle.spl_value.specs.declared.item.Item.{Item}
use Rattle.spl_value.specs.declared.item.Item.TheVariants as I
use Rattle.spl_value.specs.declared.packet.Packet.{Packet}
use Rattle.spl_value.specs.declared.packet.Packet.TheVariants as P
use Rattle.spl_value.specs.declared.types.Named.{Named}
use Rattle.spl_value.specs.declared.types.SplType.{SplType}
use Rattle.spl_value.specs.Numbered.{item_of, items_of, number_of, numbers_of, item_fits, ends_once, stops_once, NeverFalls, IsProper, closes}
use Rattle.stream_model.specs.Stream.{is_empty, IsPrefix}
use Rattle.network_model.specs.Packets.{items_in, without_cut, is_stream, packets_of}
use Rattle.network_model.proofs.Packets.{front-left, front-items, items_in-append, items_in-without_cut, items_in-packets_of, no_length, stops-front}
use Rattle.network_model.proofs.Chains.{front-stream}
use Rattle.network_model.proofs.RegionParts.{items_of-without_cut}

pub numbers_of-without_cut : (ps : List Packet) → numbers_of (without_cut ps) ≡ numbers_of ps
numbers_of-without_cut [] = refl
numbers_of-without_cut (P.Item n x ∷ ps) = ap (λ z. n ∷ z) (numbers_of-without_cut ps)
numbers_of-without_cut (P.Pulse n ∷ ps) = ap (λ z. n ∷ z) (numbers_of-without_cut ps)
numbers_of-without_cut (P.Close ∷ ps) = numbers_of-without_cut ps
numbers_of-without_cut (P.Cut ∷ ps) = numbers_of-without_cut ps

zeros-fall : (xs : List Item) → NeverFalls 0 (numbers_of (packets_of xs))
zeros-fall [] = tt
zeros-fall (x ∷ xs) = go (closes x) (zeros-fall xs)
  where
    go : (b : Bool) → NeverFalls 0 (numbers_of (packets_of xs)) → NeverFalls 0 (0 ∷ numbers_of (cond b (P.Close ∷ packets_of xs) (packets_of xs)))
    go true rest = (omega arith, rest)
    go false rest = (omega arith, rest)

fit-packets : (schema : List (Named SplType)) (xs : List Item) → list_all (item_fits schema) xs ≡ true → list_all (λ (p : ℕ × Item). item_fits schema p.1) (items_of (packets_of xs)) ≡ true
fit-packets schema [] h = refl
fit-packets schema (x ∷ xs) h =
    let parts = and_parts (item_fits schema x) (list_all (item_fits schema) xs) h in
    go (closes x) parts.0 (fit-packets schema xs parts.1)
  where
    go : (b : Bool) → item_fits schema x ≡ true → list_all (λ (p : ℕ × Item). item_fits schema p.1) (items_of (packets_of xs)) ≡ true
        → (item_fits schema x && list_all (λ (p : ℕ × Item). item_fits schema p.1) (items_of (cond b (P.Close ∷ packets_of xs) (packets_of xs)))) ≡ true
    go true f rest = and_from (item_fits schema x) (list_all (λ (p : ℕ × Item). item_fits schema p.1) (items_of (packets_of xs))) f rest
    go false f rest = and_from (item_fits schema x) (list_all (λ (p : ℕ × Item). item_fits schema p.1) (items_of (packets_of xs))) f rest

pub all-front : {A : Type 0} (test : A → Bool) (a b : List A) → IsPrefix a b → list_all test b ≡ true → list_all test a ≡ true
all-front test a b p h = (and_parts (list_all test a) (list_all test p.0) (sym (list_all-append test a p.0) ∙ ap (list_all test) p.1 ∙ h)).0

empty-length : (xs : List Item) → is_empty xs ≡ true → nat_le (length xs) 0 ≡ true
empty-length [] h = refl
empty-length (x ∷ xs) h = absurd (cc)

stream-ends : (xs : List Item) → is_stream xs ≡ true → ends_once xs ≡ true
stream-ends [] h = refl
stream-ends (I.Tuple vs ∷ xs) h = stream-ends xs h
stream-ends (I.Window ∷ xs) h = stream-ends xs h
stream-ends (I.Final ∷ []) h = refl
stream-ends (I.Final ∷ x ∷ xs) h = absurd (cc)
stream-ends (I.Bad f ∷ []) h = refl
stream-ends (I.Bad f ∷ x ∷ xs) h = absurd (cc)

-- packets that end once are those of a stream
pub stops-stream : (xs : List Item) → stops_once (packets_of xs) ≡ true → is_stream xs ≡ true
stops-stream [] h = refl
stops-stream (x ∷ xs) h = go (closes x) h (stops-stream xs)
  where
    empty : (ys : List Item) → nat_le (length (packets_of ys)) 0 ≡ true → is_empty ys ≡ true
    empty [] q = refl
    empty (y ∷ ys) q = let none : packets_of (y ∷ ys) ≡ [] = no_length (packets_of (y ∷ ys)) q in absurd (cc)

    go : (b : Bool) → stops_once (cond b (P.Close ∷ packets_of xs) (packets_of xs)) ≡ true → (stops_once (packets_of xs) ≡ true → is_stream xs ≡ true) → cond b (is_empty xs) (is_stream xs) ≡ true
    go true q rest = empty xs (and_parts (nat_le (length (packets_of xs)) 0) (stops_once (packets_of xs)) q).0
    go false q rest = rest q

ends-front : (xs ys : List Item) → ends_once (xs ++ ys) ≡ true → ends_once xs ≡ true
ends-front [] ys h = refl
ends-front (x ∷ xs) ys h = go (closes x) h (ends-front xs ys)
  where
    shorter : (xs ys : List Item) → nat_le (length (xs ++ ys)) 0 ≡ true → nat_le (length xs) 0 ≡ true
    shorter [] ys q = refl
    shorter (x ∷ xs) ys q = absurd (let l = leb-true (length ((x ∷ xs) ++ ys)) 0 q in omega (arith, l))

    go : (b : Bool) → (cond b (nat_le (length (xs ++ ys)) 0) true && ends_once (xs ++ ys)) ≡ true → (ends_once (xs ++ ys) ≡ true → ends_once xs ≡ true)
        → (cond b (nat_le (length xs) 0) true && ends_once xs) ≡ true
    go true q rest =
        let parts = and_parts (nat_le (length (xs ++ ys)) 0) (ends_once (xs ++ ys)) q in
        and_from (nat_le (length xs) 0) (ends_once xs) (shorter xs ys parts.0) (rest parts.1)
    go false q rest = rest q

falls-front : (low : ℕ) (a r : List ℕ) → NeverFalls low (a ++ r) → NeverFalls low a
falls-front low [] r f = tt
falls-front low (n ∷ a) r f = (f.0, falls-front n a r f.1)

-- a front of proper packets, perhaps with `Cut` behind it
pub proper-part : (schema : List (Named SplType)) (sent all : List Packet) → IsPrefix (without_cut sent) all → stops_once sent ≡ true → IsProper schema all → IsProper schema sent
proper-part schema sent all p stops h = record {
  fit = ap (list_all (λ (q : ℕ × Item). item_fits schema q.1)) (sym (items_of-without_cut sent))
      ∙ all-front (λ (q : ℕ × Item). item_fits schema q.1) (items_of (without_cut sent)) (items_of all)
      (items_of p.0, sym (filter_map-append item_of (without_cut sent) p.0) ∙ ap items_of p.1) h.fit;
  ends =
      let q : IsPrefix (items_in (without_cut sent)) (items_in all) = front-items (without_cut sent) all p in
      ap ends_once (sym (items_in-without_cut sent)) ∙ ends-front (items_in (without_cut sent)) q.0 (ap ends_once q.1 ∙ h.ends);
  stops = stops;
  falls = subst (NeverFalls 0) (numbers_of-without_cut sent)
      (falls-front 0 (numbers_of (without_cut sent)) (numbers_of p.0) (subst (NeverFalls 0) (ap numbers_of (sym p.1) ∙ filter_map-append number_of (without_cut sent) p.0) h.falls));
}

-- a front of the packets of a stream, perhaps with `Cut` behind it
pub proper-front : (schema : List (Named SplType)) (sent : List Packet) (xs : List Item) → IsPrefix (without_cut sent) (packets_of xs) → stops_once sent ≡ true → is_stream xs ≡ true
    → list_all (item_fits schema) xs ≡ true → IsProper schema sent
proper-front schema sent xs p stops stream fit = record {
  fit = ap (list_all (λ (q : ℕ × Item). item_fits schema q.1)) (sym (items_of-without_cut sent))
      ∙ all-front (λ (q : ℕ × Item). item_fits schema q.1) (items_of (without_cut sent)) (items_of (packets_of xs))
      (items_of p.0, sym (filter_map-append item_of (without_cut sent) p.0) ∙ ap items_of p.1) (fit-packets schema xs fit);
  ends = stream-ends (items_in sent) (front-stream (items_in sent) xs
      (front-left (items_in sent) (items_in (without_cut sent)) xs (items_in (packets_of xs)) (sym (items_in-without_cut sent)) (sym (items_in-packets_of xs)) (front-items (without_cut sent) (packets_of xs) p)) stream);
  stops = stops;
  falls = subst (NeverFalls 0) (numbers_of-without_cut sent)
      (falls-front 0 (numbers_of (without_cut sent)) (numbers_of p.0) (subst (NeverFalls 0) (ap numbers_of (sym p.1) ∙ filter_map-append number_of (without_cut sent) p.0) (zeros-fall xs)));
}

-- a front of proper packets
pub front-proper : (schema : List (Named SplType)) (xs ys : List Packet) → IsProper schema (xs ++ ys) → IsProper schema xs
front-proper schema xs ys h = record {
  fit = all-front (λ (q : ℕ × Item). item_fits schema q.1) (items_of xs) (items_of (xs ++ ys)) (items_of ys, sym (filter_map-append item_of xs ys)) h.fit;
  ends = ends-front (items_in xs) (items_in ys) (ap ends_once (sym (items_in-append xs ys)) ∙ h.ends);
  stops = stops-front xs ys h.stops;
  falls = falls-front 0 (numbers_of xs) (numbers_of ys) (subst (NeverFalls 0) (filter_map-append number_of xs ys) h.falls);
}
