-- What a splitter sends.
use Rattle.std.proofs.Common.{◌≡◌, ◌<◌, ℕ, suc, ◌+◌, ◌%◌, ◌==◌, ◌&&◌, Bool, true, false, List, [], ◌∷◌, ◌++◌, refl, sym, ap, ◌∙◌, arith, cond, subst}
use Rattle.std.specs.Prelude.{filter, if◌then◌else◌}
use Rattle.std.specs.List.{enumerate_from, list_any}
use Rattle.spl_value.specs.declared.item.Item.{Item}
use Rattle.spl_value.specs.declared.item.Item.TheVariants as I
use Rattle.spl_value.specs.declared.packet.Packet.{Packet}
use Rattle.spl_value.specs.declared.packet.Packet.TheVariants as P
use Rattle.spl_value.specs.declared.routing.Routing.{Routing}
use Rattle.spl_value.specs.Numbered.{NeverFalls, closes, cut, is_close, is_pulse, items_of, numbers_of, stops_once}
use Rattle.spl_value.specs.Route.{route}
use Rattle.stream_model.specs.Stream.{any_closes}
use Rattle.channel_heads.proofs.ByNumber.{Tagged}
use Rattle.region_laws.proofs.NumberedItems.{falls-weak}
use Rattle.region_laws.specs.RegionFronts.{IsSent, SplitLaw}
use Rattle.stream_model.specs.declared.outgoing.Outgoing.{Outgoing}
use Rattle.stream_model.specs.Sending.{on_output, outgoing, splits, to_each}
use Rattle.stream_model.proofs.Outputs.{on_output-append, on_output-each}

never : {A : Type 0} → false ≡ true → A
never e = absurd cc

-- of the items from number n on, what goes to a channel
abbrev splits_from : Routing → ℕ → Bool → ℕ → ℕ → List Item → List Packet
splits_from routing width pulses c n [] = []
splits_from routing width pulses c n (x ∷ xs) =
    (if route routing width n x == c then P.Item n x ∷ [] else [])
    ++ ((if pulses && ((n + 1) % 16 == 0) then P.Pulse (n + 1) ∷ [] else [])
    ++ (if closes x then P.Close ∷ [] else splits_from routing width pulses c (n + 1) xs))

module _ (routing : Routing) (width : ℕ) (pulses : Bool) (c : ℕ) where
  abbrev sends : ℕ → List Item → List Packet
  sends n xs = splits_from routing width pulses c n xs

  abbrev step : Bool → Bool → Bool → ℕ → Item → List Packet → List Packet
  step here beat last n x rest = cond here (P.Item n x ∷ []) [] ++ (cond beat (P.Pulse (n + 1) ∷ []) [] ++ cond last (P.Close ∷ []) rest)

  abbrev behind : ℕ → List Item → List Tagged
  behind n ys = filter (λ (p : Tagged). route routing width p.0 p.1 == c) (enumerate_from (n + 1) ys)

  own : (n : ℕ) (xs : List Item) → items_of (sends n xs) ≡ filter (λ (p : Tagged). route routing width p.0 p.1 == c) (enumerate_from n (cut xs))
  own n [] = refl
  own n (x ∷ xs) = go (route routing width n x == c) (pulses && ((n + 1) % 16 == 0)) (closes x) (own (n + 1) xs) where
    go : (a b d : Bool) → items_of (sends (n + 1) xs) ≡ behind n (cut xs)
        → items_of (step a b d n x (sends (n + 1) xs)) ≡ cond a ((n, x) ∷ behind n (cond d [] (cut xs))) (behind n (cond d [] (cut xs)))
    go true true true h = refl
    go true true false h = ap (λ z. (n, x) ∷ z) h
    go true false true h = refl
    go true false false h = ap (λ z. (n, x) ∷ z) h
    go false true true h = refl
    go false true false h = h
    go false false true h = refl
    go false false false h = h

  falls : (n : ℕ) (xs : List Item) → NeverFalls n (numbers_of (sends n xs))
  falls n [] = tt
  falls n (x ∷ xs) = go (route routing width n x == c) (pulses && ((n + 1) % 16 == 0)) (closes x) (falls (n + 1) xs) where
    go : (a b d : Bool) → NeverFalls (n + 1) (numbers_of (sends (n + 1) xs)) → NeverFalls n (numbers_of (step a b d n x (sends (n + 1) xs)))
    go true true true h = (omega arith, (omega arith, tt))
    go true true false h = (omega arith, (omega arith, h))
    go true false true h = (omega arith, tt)
    go true false false h = (omega arith, falls-weak n (n + 1) (numbers_of (sends (n + 1) xs)) (omega arith) h)
    go false true true h = (omega arith, tt)
    go false true false h = (omega arith, h)
    go false false true h = tt
    go false false false h = falls-weak n (n + 1) (numbers_of (sends (n + 1) xs)) (omega arith) h

  stops : (n : ℕ) (xs : List Item) → stops_once (sends n xs) ≡ true
  stops n [] = refl
  stops n (x ∷ xs) = go (route routing width n x == c) (pulses && ((n + 1) % 16 == 0)) (closes x) (stops (n + 1) xs) where
    go : (a b d : Bool) → stops_once (sends (n + 1) xs) ≡ true → stops_once (step a b d n x (sends (n + 1) xs)) ≡ true
    go true true true h = refl
    go true true false h = h
    go true false true h = refl
    go true false false h = h
    go false true true h = refl
    go false true false h = h
    go false false true h = refl
    go false false false h = h

  no_pulses : pulses ≡ false → (n : ℕ) (xs : List Item) → list_any is_pulse (sends n xs) ≡ false
  no_pulses e n [] = refl
  no_pulses e n (x ∷ xs) = go (route routing width n x == c) (pulses && ((n + 1) % 16 == 0)) (closes x) (ap (λ b. b && ((n + 1) % 16 == 0)) e) (no_pulses e (n + 1) xs) where
    go : (a b d : Bool) → b ≡ false → list_any is_pulse (sends (n + 1) xs) ≡ false → list_any is_pulse (step a b d n x (sends (n + 1) xs)) ≡ false
    go a true d q h = never (sym q)
    go true false true q h = refl
    go true false false q h = h
    go false false true q h = refl
    go false false false q h = h

  ends : (n : ℕ) (xs : List Item) → any_closes xs ≡ true → list_any is_close (sends n xs) ≡ true
  ends n [] h = never h
  ends n (x ∷ xs) h = go (route routing width n x == c) (pulses && ((n + 1) % 16 == 0)) (closes x) refl (λ q. ends (n + 1) xs (later x q h)) where
    later : (y : Item) → closes y ≡ false → any_closes (y ∷ xs) ≡ true → any_closes xs ≡ true
    later (I.Tuple vs) q h = h
    later I.Window q h = h
    later I.Final q h = never (sym q)
    later (I.Bad f) q h = never (sym q)

    go : (a b d : Bool) → closes x ≡ d → (closes x ≡ false → list_any is_close (sends (n + 1) xs) ≡ true) → list_any is_close (step a b d n x (sends (n + 1) xs)) ≡ true
    go true true true q h = refl
    go true true false q h = h q
    go true false true q h = refl
    go true false false q h = h q
    go false true true q h = refl
    go false true false q h = h q
    go false false true q h = refl
    go false false false q h = h q

-- what follows an item, before the item of number m
abbrev sent_behind : Routing → ℕ → Bool → Item → List Item → ℕ → List Outgoing
sent_behind routing width pulses x xs m =
    (if pulses && (m % 16 == 0) then to_each width (P.Pulse m) else [])
    ++ (if closes x then to_each width P.Close else splits routing width pulses m xs)

-- what a splitter sends on a channel
pub splits-channel : (routing : Routing) (width : ℕ) (pulses : Bool) (c : ℕ) → c < width → (n : ℕ) (xs : List Item)
    → on_output c (splits routing width pulses n xs) ≡ splits_from routing width pulses c n xs
splits-channel routing width pulses c lt n [] = refl
splits-channel routing width pulses c lt n (x ∷ xs) =
    let one : suc n ≡ n + 1 = omega arith in
    ap (λ m. on_output c (outgoing (route routing width n x) (P.Item n x) ∷ sent_behind routing width pulses x xs m)) one
    ∙ go (route routing width n x == c) (pulses && ((n + 1) % 16 == 0)) (closes x) (splits-channel routing width pulses c lt (n + 1) xs)
  where
    go : (a b d : Bool) → on_output c (splits routing width pulses (n + 1) xs) ≡ splits_from routing width pulses c (n + 1) xs
        → cond a (P.Item n x ∷ on_output c (cond b (to_each width (P.Pulse (n + 1))) [] ++ cond d (to_each width P.Close) (splits routing width pulses (n + 1) xs)))
        (on_output c (cond b (to_each width (P.Pulse (n + 1))) [] ++ cond d (to_each width P.Close) (splits routing width pulses (n + 1) xs)))
        ≡ cond a (P.Item n x ∷ []) [] ++ (cond b (P.Pulse (n + 1) ∷ []) [] ++ cond d (P.Close ∷ []) (splits_from routing width pulses c (n + 1) xs))
    go a b d h =
        placed a _ _ (pulsed b (cond d (to_each width P.Close) (splits routing width pulses (n + 1) xs)) (cond d (P.Close ∷ []) (splits_from routing width pulses c (n + 1) xs)) (ended d h))
      where
        ended : (d : Bool) → on_output c (splits routing width pulses (n + 1) xs) ≡ splits_from routing width pulses c (n + 1) xs
            → on_output c (cond d (to_each width P.Close) (splits routing width pulses (n + 1) xs)) ≡ cond d (P.Close ∷ []) (splits_from routing width pulses c (n + 1) xs)
        ended true h = on_output-each c width P.Close lt
        ended false h = h

        pulsed : (b : Bool) (rest : List Outgoing) (behind : List Packet) → on_output c rest ≡ behind
            → on_output c (cond b (to_each width (P.Pulse (n + 1))) [] ++ rest) ≡ cond b (P.Pulse (n + 1) ∷ []) [] ++ behind
        pulsed true rest behind h =
            on_output-append c (to_each width (P.Pulse (n + 1))) rest ∙ (λ i. on_output-each c width (P.Pulse (n + 1)) lt i ++ h i)
        pulsed false rest behind h = h

        placed : (a : Bool) (rest behind : List Packet) → rest ≡ behind → cond a (P.Item n x ∷ rest) rest ≡ cond a (P.Item n x ∷ []) [] ++ behind
        placed true rest behind h = ap (λ z. P.Item n x ∷ z) h
        placed false rest behind h = h

pub split_law : SplitLaw
split_law routing width pulses items c lt =
    subst (λ (packets : List Packet). IsSent routing width (cut items) c packets × (pulses ≡ false → list_any is_pulse packets ≡ false)
    × (any_closes items ≡ true → list_any is_close packets ≡ true))
    (sym (splits-channel routing width pulses c lt 0 items)) (
      record { own = own routing width pulses c 0 items; falls = falls routing width pulses c 0 items; stops = stops routing width pulses c 0 items },
      λ e. no_pulses routing width pulses c e 0 items,
      λ h. ends routing width pulses c 0 items h,
    )
