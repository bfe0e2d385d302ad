-- Packets of streams, and fronts of lists.
use Rattle.std.proofs.Common.{ℕ, ◌≤◌, Bool, true, false, cond, not, ◌&&◌, ◌||◌, List, [], ◌∷◌, ◌++◌, ◌≡◌, refl, sym, ap, ◌∙◌, append_assoc, append-nil, length, map, arith}
use Rattle.std.specs.Prelude.{nat_le}
use Rattle.std.proofs.lemmas.Bool.{and_parts, and_from, leb-true}
use Rattle.std.proofs.lemmas.List.{map-append}
use Rattle.std.proofs.lemmas.List.Elements.{filter-append, filter_map-append}
use Rattle.spl_value.specs.declared.item.Item.{Item}
use Rattle.spl_value.specs.declared.item.Item.TheVariants as I
use Rattle.spl_value.specs.declared.packet.Packet.{Packet}
use Rattle.spl_value.specs.declared.packet.Packet.TheVariants as P
use Rattle.spl_value.specs.Numbered.{item_of, items_of, is_last, is_cut, stops_once, closes}
use Rattle.stream_model.specs.Stream.{any_closes, is_closed, is_empty, IsPrefix}
use Rattle.stream_model.specs.declared.outgoing.Outgoing.{Outgoing}
use Rattle.stream_model.specs.Sending.{on_output}
use Rattle.stream_model.proofs.Outputs.{on_output-append}
use Rattle.network_model.specs.Packets.{items_in, has_last, without_cut, is_stream, packets_of}

-- ---- fronts

pub front-trans : {A : Type 0} (a b c : List A) → IsPrefix a b → IsPrefix b c → IsPrefix a c
front-trans a b c p q = (p.0 ++ q.0, sym (append_assoc a p.0 q.0) ∙ ap (λ zs. zs ++ q.0) p.1 ∙ q.1)

pub front-same : {A : Type 0} (a b : List A) → a ≡ b → IsPrefix a b
front-same a b e = ([], append-nil a ∙ e)

pub front-map : {A B : Type 0} (f : A → B) (a b : List A) → IsPrefix a b → IsPrefix (map f a) (map f b)
front-map f a b p = (map f p.0, sym (map-append f a p.0) ∙ ap (map f) p.1)

pub front-left : {A : Type 0} (a a2 b b2 : List A) → a ≡ a2 → b ≡ b2 → IsPrefix a2 b2 → IsPrefix a b
front-left a a2 b b2 e f p = (p.0, ap (λ z. z ++ p.0) e ∙ p.1 ∙ sym f)

-- ---- on_output

pub front-on_output : (i : ℕ) (a b : List Outgoing) → IsPrefix a b → IsPrefix (on_output i a) (on_output i b)
front-on_output i a b p = (on_output i p.0, sym (on_output-append i a p.0) ∙ ap (on_output i) p.1)

-- ---- items

pub items_in-append : (a b : List Packet) → items_in (a ++ b) ≡ items_in a ++ items_in b
items_in-append a b = ap (map (λ p. p.1)) (filter_map-append item_of a b) ∙ map-append (λ p. p.1) (items_of a) (items_of b)

pub front-items : (a b : List Packet) → IsPrefix a b → IsPrefix (items_in a) (items_in b)
front-items a b p = (items_in p.0, sym (items_in-append a p.0) ∙ ap items_in p.1)

pub items_in-without_cut : (packets : List Packet) → items_in (without_cut packets) ≡ items_in packets
items_in-without_cut [] = refl
items_in-without_cut (P.Item n x ∷ packets) = ap (λ z. x ∷ z) (items_in-without_cut packets)
items_in-without_cut (P.Pulse n ∷ packets) = items_in-without_cut packets
items_in-without_cut (P.Close ∷ packets) = items_in-without_cut packets
items_in-without_cut (P.Cut ∷ packets) = items_in-without_cut packets

pub without_cut-append : (a b : List Packet) → without_cut (a ++ b) ≡ without_cut a ++ without_cut b
without_cut-append a b = filter-append (λ p. not (is_cut p)) a b

pub front-without_cut : (a b : List Packet) → IsPrefix a b → IsPrefix (without_cut a) (without_cut b)
front-without_cut a b p = (without_cut p.0, sym (without_cut-append a p.0) ∙ ap without_cut p.1)

-- ---- streams on links

pub items_in-packets_of : (items : List Item) → items_in (packets_of items) ≡ items
items_in-packets_of [] = refl
items_in-packets_of (x ∷ items) = go (closes x) (items_in-packets_of items)
  where
    go : (b : Bool) → items_in (packets_of items) ≡ items → x ∷ items_in (cond b (P.Close ∷ packets_of items) (packets_of items)) ≡ x ∷ items
    go true rest = ap (λ z. x ∷ z) rest
    go false rest = ap (λ z. x ∷ z) rest

pub without_cut-packets_of : (items : List Item) → without_cut (packets_of items) ≡ packets_of items
without_cut-packets_of [] = refl
without_cut-packets_of (x ∷ items) = go (closes x) (without_cut-packets_of items)
  where
    go : (b : Bool) → without_cut (packets_of items) ≡ packets_of items
        → P.Item 0 x ∷ without_cut (cond b (P.Close ∷ packets_of items) (packets_of items)) ≡ P.Item 0 x ∷ cond b (P.Close ∷ packets_of items) (packets_of items)
    go true rest = ap (λ z. P.Item 0 x ∷ P.Close ∷ z) rest
    go false rest = ap (λ z. P.Item 0 x ∷ z) rest

pub empty-nil : {A : Type 0} (xs : List A) → is_empty xs ≡ true → xs ≡ []
empty-nil [] h = refl
empty-nil (x ∷ xs) h = absurd (cc)

pub stops-packets_of : (items : List Item) → is_stream items ≡ true → stops_once (packets_of items) ≡ true
stops-packets_of [] h = refl
stops-packets_of (x ∷ items) h = go (closes x) h (stops-packets_of items)
  where
    go : (b : Bool) → cond b (is_empty items) (is_stream items) ≡ true → (is_stream items ≡ true → stops_once (packets_of items) ≡ true)
        → stops_once (cond b (P.Close ∷ packets_of items) (packets_of items)) ≡ true
    go true e rest = ap (λ (xs : List Item). stops_once (P.Close ∷ packets_of xs)) (empty-nil items e)
    go false e rest = rest e

-- ---- where streams end

pub is_stream-append : (xs ys : List Item) → any_closes xs ≡ false → is_stream (xs ++ ys) ≡ is_stream ys
is_stream-append [] ys h = refl
is_stream-append (I.Tuple vs ∷ xs) ys h = is_stream-append xs ys h
is_stream-append (I.Window ∷ xs) ys h = is_stream-append xs ys h
is_stream-append (I.Final ∷ xs) ys h = cc
is_stream-append (I.Bad f ∷ xs) ys h = cc

pub closed-stream : (xs : List Item) → is_closed xs ≡ true → is_stream xs ≡ true
closed-stream [] h = refl
closed-stream (x ∷ xs) h = go (closes x) h (closed-stream xs)
  where
    go : (b : Bool) → cond b (is_empty xs) (is_closed xs) ≡ true → (is_closed xs ≡ true → is_stream xs ≡ true) → cond b (is_empty xs) (is_stream xs) ≡ true
    go true e rest = e
    go false e rest = rest e

pub no_length : {A : Type 0} (xs : List A) → nat_le (length xs) 0 ≡ true → xs ≡ []
no_length [] h = refl
no_length (x ∷ xs) h = let le : length (x ∷ xs) ≤ 0 = leb-true (length (x ∷ xs)) 0 h in absurd (omega (arith, le))

nothing_left : {A : Type 0} (xs w : List A) → xs ++ w ≡ [] → w ≡ []
nothing_left [] w e = e
nothing_left (x ∷ xs) w e = absurd (cc)

-- nothing follows `Close` or `Cut`
pub stops-end : (xs w : List Packet) → stops_once (xs ++ w) ≡ true → has_last xs ≡ true → w ≡ []
stops-end [] w s h = absurd (cc)
stops-end (x ∷ xs) w s h = go (is_last x) s h (stops-end xs w)
  where
    go : (b : Bool) → (cond b (nat_le (length (xs ++ w)) 0) true && stops_once (xs ++ w)) ≡ true → (b || has_last xs) ≡ true
        → (stops_once (xs ++ w) ≡ true → has_last xs ≡ true → w ≡ []) → w ≡ []
    go true q l rest = nothing_left xs w (no_length (xs ++ w) (and_parts (nat_le (length (xs ++ w)) 0) (stops_once (xs ++ w)) q).0)
    go false q l rest = rest q l

pub stops-front : (xs w : List Packet) → stops_once (xs ++ w) ≡ true → stops_once xs ≡ true
stops-front [] w s = refl
stops-front (x ∷ xs) w s = go (is_last x) s (stops-front xs w)
  where
    go : (b : Bool) → (cond b (nat_le (length (xs ++ w)) 0) true && stops_once (xs ++ w)) ≡ true → (stops_once (xs ++ w) ≡ true → stops_once xs ≡ true)
        → (cond b (nat_le (length xs) 0) true && stops_once xs) ≡ true
    go true q rest =
        let parts = and_parts (nat_le (length (xs ++ w)) 0) (stops_once (xs ++ w)) q in
        and_from (nat_le (length xs) 0) (stops_once xs) (ap (λ (zs : List Packet). nat_le (length zs) 0) (front_nil xs w (no_length (xs ++ w) parts.0))) (rest parts.1)
      where
        front_nil : (ys zs : List Packet) → ys ++ zs ≡ [] → ys ≡ []
        front_nil [] zs e = refl
        front_nil (y ∷ ys) zs e = absurd (cc)
    go false q rest = rest q

-- ---- more of a stream

pub packets_of-append : (a b : List Item) → packets_of (a ++ b) ≡ packets_of a ++ packets_of b
packets_of-append [] b = refl
packets_of-append (x ∷ a) b = go (closes x) (packets_of-append a b)
  where
    go : (c : Bool) → packets_of (a ++ b) ≡ packets_of a ++ packets_of b
        → P.Item 0 x ∷ cond c (P.Close ∷ packets_of (a ++ b)) (packets_of (a ++ b)) ≡ P.Item 0 x ∷ (cond c (P.Close ∷ packets_of a) (packets_of a) ++ packets_of b)
    go true e = ap (λ z. P.Item 0 x ∷ P.Close ∷ z) e
    go false e = ap (λ z. P.Item 0 x ∷ z) e

pub front-packets_of : (a b : List Item) → IsPrefix a b → IsPrefix (packets_of a) (packets_of b)
front-packets_of a b p = (packets_of p.0, sym (packets_of-append a p.0) ∙ ap packets_of p.1)
