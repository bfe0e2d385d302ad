-- The packets of a region, and what its merger knows.
use Rattle.std.proofs.Common.{◌≡◌, ◌<◌, ◌≤◌, ℕ, zero, suc, ◌+◌, ◌*◌, ◌&&◌, ◌||◌, Bool, true, false, List, [], ◌∷◌, ◌++◌, map, length, refl, sym, ap, ◌∙◌, append_assoc, arith, subst, slice_get, Some}
use Rattle.std.specs.Prelude.{nat_le}
use Rattle.std.specs.List.{AllByRecursion, list_all, list_any}
use Rattle.std.proofs.lemmas.Bool.{and_parts, leb-true}
use Rattle.spl_value.specs.declared.item.Item.{Item}
use Rattle.spl_value.specs.declared.packet.Packet.{Packet}
use Rattle.spl_value.specs.declared.packet.Packet.TheVariants as P
use Rattle.spl_value.specs.declared.routing.Routing.{Routing}
use Rattle.spl_value.specs.declared.routing.Routing.TheVariants.{Turns}
use Rattle.spl_value.specs.Numbered.{AreApart, ByNumbers, ByPulses, ByTurns, InOrder, NeverFalls, Rises, Rule, by_number, cut, in_turn, is_close, is_pulse, items_of, known_by_pulses, merged, numbers_of, reaches, stops_once, taken_items}
use Rattle.spl_value.specs.Route.{part}
use Rattle.stream_model.specs.Meaning.{Graph}
use Rattle.stream_model.specs.Operators.{Operator}
use Rattle.stream_model.specs.Regions.{chain_key, routing_by}
use Rattle.stream_model.specs.Stages.{Stage, chain, start}
use Rattle.stream_model.specs.Stream.{IsPrefix}
use Rattle.stream_model.proofs.ChainStages.{stages_after-append, stages_after-none}
use Rattle.channel_heads.proofs.ByNumber.{Tagged, is_number}
use Rattle.channel_heads.proofs.Packets.{all_channels, channels-same}
use Rattle.channel_heads.specs.FrontLaws.{AreFronts}
use Rattle.region_laws.specs.OneItemLaws.{GivesOne}
use Rattle.region_laws.specs.RegionFronts.{IsRegionOf, MoreLaw, RegionFrontLaw, RegionWholeLaw, Suits}
use Rattle.stream_model.specs.Replicas.{numbered_gives, replica, under}
use Rattle.stream_model.specs.Sending.{replies, stages_after, stages_give}
use Rattle.channel_heads.proofs.Fronts.{front_law, order_law, passing-all}
use Rattle.region_laws.proofs.RegionLaw.{chain_law}
use Rattle.region_laws.proofs.Numbers.{apart_law}
use Rattle.region_laws.proofs.NumberedItems.{falls-weak, front_trans, items}
use Rattle.region_laws.proofs.OneItem.{rise_law, turn_law}

never : {A : Type 0} → false ≡ true → A
never e = absurd cc

-- ---- what replicas send

-- items under one number, as packets
abbrev packed : ℕ → List Item → List Packet
packed n xs = map (P.Item n) xs

items-packed : (n : ℕ) (xs : List Item) (qs : List Packet) → items_of (packed n xs ++ qs) ≡ under n xs ++ items_of qs
items-packed n [] qs = refl
items-packed n (x ∷ xs) qs = ap (λ z. (n, x) ∷ z) (items-packed n xs qs)

pub items-replies : (ss : List Stage) (ps : List Packet) → items_of (replies ss ps) ≡ numbered_gives ss (items_of ps)
items-replies ss [] = refl
items-replies ss (P.Item n x ∷ ps) =
    items-packed n (stages_give ss (x ∷ [])) (replies (stages_after ss (x ∷ [])) ps)
    ∙ ap (λ z. under n (stages_give ss (x ∷ [])) ++ z) (items-replies (stages_after ss (x ∷ [])) ps)
items-replies ss (P.Pulse n ∷ ps) = items-replies ss ps
items-replies ss (P.Close ∷ ps) = items-replies ss ps
items-replies ss (P.Cut ∷ ps) = items-replies ss ps

-- ---- their order

falls-packed : (lo n : ℕ) (xs : List Item) (qs : List Packet) → lo ≤ n → NeverFalls n (numbers_of qs) → NeverFalls lo (numbers_of (packed n xs ++ qs))
falls-packed lo n [] qs l f = falls-weak lo n (numbers_of qs) l f
falls-packed lo n (x ∷ xs) qs l f = (l, falls-packed n n xs qs (omega arith) f)

pub falls-replies : (ss : List Stage) (lo : ℕ) (ps : List Packet) → NeverFalls lo (numbers_of ps) → NeverFalls lo (numbers_of (replies ss ps))
falls-replies ss lo [] f = tt
falls-replies ss lo (P.Item n x ∷ ps) f =
    falls-packed lo n (stages_give ss (x ∷ [])) (replies (stages_after ss (x ∷ [])) ps) f.0 (falls-replies (stages_after ss (x ∷ [])) n ps f.1)
falls-replies ss lo (P.Pulse n ∷ ps) f = (f.0, falls-replies ss n ps f.1)
falls-replies ss lo (P.Close ∷ ps) f = falls-replies ss lo ps f
falls-replies ss lo (P.Cut ∷ ps) f = falls-replies ss lo ps f

stops-packed : (n : ℕ) (xs : List Item) (qs : List Packet) → stops_once qs ≡ true → stops_once (packed n xs ++ qs) ≡ true
stops-packed n [] qs h = h
stops-packed n (x ∷ xs) qs h = stops-packed n xs qs h

no_packets : (ss : List Stage) (ps : List Packet) → nat_le (length ps) 0 ≡ true → nat_le (length (replies ss ps)) 0 ≡ true
no_packets ss [] h = refl
no_packets ss (p ∷ ps) h = let l = leb-true (length (p ∷ ps)) 0 h in absurd (omega (arith, l))

both : (a b : Bool) → a ≡ true → b ≡ true → (a && b) ≡ true
both true b x y = y
both false b x y = never x

pub stops-replies : (ss : List Stage) (ps : List Packet) → stops_once ps ≡ true → stops_once (replies ss ps) ≡ true
stops-replies ss [] h = refl
stops-replies ss (P.Item n x ∷ ps) h =
    stops-packed n (stages_give ss (x ∷ [])) (replies (stages_after ss (x ∷ [])) ps) (stops-replies (stages_after ss (x ∷ [])) ps h)
stops-replies ss (P.Pulse n ∷ ps) h = stops-replies ss ps h
stops-replies ss (P.Close ∷ ps) h =
    let parts = and_parts (nat_le (length ps) 0) (stops_once ps) h in
    both (nat_le (length (replies ss ps)) 0) (stops_once (replies ss ps)) (no_packets ss ps parts.0) (stops-replies ss ps parts.1)
stops-replies ss (P.Cut ∷ ps) h = stops-replies ss ps (and_parts (nat_le (length ps) 0) (stops_once ps) h).1

pulses-packed : (n : ℕ) (xs : List Item) (qs : List Packet) → list_any is_pulse qs ≡ false → list_any is_pulse (packed n xs ++ qs) ≡ false
pulses-packed n [] qs h = h
pulses-packed n (x ∷ xs) qs h = pulses-packed n xs qs h

pulses-replies : (ss : List Stage) (ps : List Packet) → list_any is_pulse ps ≡ false → list_any is_pulse (replies ss ps) ≡ false
pulses-replies ss [] h = refl
pulses-replies ss (P.Item n x ∷ ps) h =
    pulses-packed n (stages_give ss (x ∷ [])) (replies (stages_after ss (x ∷ [])) ps) (pulses-replies (stages_after ss (x ∷ [])) ps h)
pulses-replies ss (P.Pulse n ∷ ps) h = never (sym h)
pulses-replies ss (P.Close ∷ ps) h = pulses-replies ss ps h
pulses-replies ss (P.Cut ∷ ps) h = pulses-replies ss ps h

close-packed : (n : ℕ) (xs : List Item) (qs : List Packet) → list_any is_close qs ≡ true → list_any is_close (packed n xs ++ qs) ≡ true
close-packed n [] qs h = h
close-packed n (x ∷ xs) qs h = close-packed n xs qs h

close-replies : (ss : List Stage) (ps : List Packet) → list_any is_close ps ≡ true → list_any is_close (replies ss ps) ≡ true
close-replies ss [] h = never h
close-replies ss (P.Item n x ∷ ps) h =
    close-packed n (stages_give ss (x ∷ [])) (replies (stages_after ss (x ∷ [])) ps) (close-replies (stages_after ss (x ∷ [])) ps h)
close-replies ss (P.Pulse n ∷ ps) h = close-replies ss ps h
close-replies ss (P.Close ∷ ps) h = refl
close-replies ss (P.Cut ∷ ps) h = close-replies ss ps h

-- ---- a front gives a front

-- the items of packets
abbrev items_in : List Packet → List Item
items_in ps = items (items_of ps)

pub more_law : MoreLaw
more_law ss [] more = ap (λ stages. replies stages more) (sym (stages_after-none ss))
more_law ss (P.Item n x ∷ ps) more =
    ap (λ z. packed n (stages_give ss (x ∷ [])) ++ z) (more_law (stages_after ss (x ∷ [])) ps more)
    ∙ sym (append_assoc (packed n (stages_give ss (x ∷ []))) (replies (stages_after ss (x ∷ [])) ps) (replies (stages_after (stages_after ss (x ∷ [])) (items_in ps)) more))
    ∙ ap (λ stages. replies ss (P.Item n x ∷ ps) ++ replies stages more) (sym (stages_after-append ss (x ∷ []) (items_in ps)))
more_law ss (P.Pulse n ∷ ps) more = ap (λ z. P.Pulse n ∷ z) (more_law ss ps more)
more_law ss (P.Close ∷ ps) more = ap (λ z. P.Close ∷ z) (more_law ss ps more)
more_law ss (P.Cut ∷ ps) more = more_law ss ps more

replies-front : (ss : List Stage) (ps qs : List Packet) → IsPrefix ps qs → IsPrefix (replies ss ps) (replies ss qs)
replies-front ss ps qs p =
    (replies (stages_after ss (items_in ps)) p.0, sym (more_law ss ps p.0) ∙ ap (replies ss) p.1)

-- ---- regions

module _ (g : Graph) (ops : List Operator) (rule : Rule) (w : ℕ) (L : List Item) (sent : ℕ → List Packet) (r : IsRegionOf g ops rule w L sent) where
  abbrev routing : Routing
  routing = routing_by (chain_key ops)

  abbrev all : ℕ → List Packet
  all c = replies (map start ops) (sent c)

  pub items_all : (c : ℕ) → c < w → items_of (all c) ≡ replica ops (part routing w L c)
  items_all c l = items-replies (map start ops) (sent c) ∙ ap (replica ops) (r.sends c l).own

  are_apart : AreApart w all
  are_apart = record {
    falls = λ c l. falls-replies (map start ops) 0 (sent c) (r.sends c l).falls;
    apart = λ n c d lc ld hc hd. apart_law ops routing w L n c d (ap (list_any (is_number n)) (sym (items_all c lc)) ∙ hc) (ap (list_any (is_number n)) (sym (items_all d ld)) ∙ hd);
  }

  rising : AllByRecursion GivesOne ops → (c : ℕ) → c < w → Rises 0 (map (λ p. p.0) (items_of (all c)))
  rising ones c l = subst (λ z. Rises 0 (map (λ p. p.0) z)) (sym (items_all c l)) (rise_law ops routing w c L ones)

  turning : AllByRecursion GivesOne ops → routing ≡ Turns → (c k : ℕ) (p : Tagged) → c < w → slice_get (items_of (all c)) k ≡ Some p → p.0 ≡ k * w + c
  turning ones turns c k p l at =
      turn_law ops w c L k p ones l (ap (λ z. slice_get (replica ops (part z w L c)) k) (sym turns) ∙ ap (λ z. slice_get z k) (sym (items_all c l)) ∙ at)

  in_order : (rule : Rule) → Suits rule routing w sent ops → InOrder rule w all
  in_order ByPulses s = are_apart
  in_order ByNumbers s = record { apart = are_apart; no_pulses = λ c l. pulses-replies (map start ops) (sent c) (s.1 c l); rises = rising s.0 }
  in_order ByTurns s = record { apart = are_apart; no_pulses = λ c l. pulses-replies (map start ops) (sent c) (s.1 c l); turns = turning s.0 s.2 }

  pub by_number_all : by_number (taken_items w all) ≡ chain ops L
  by_number_all =
      ap by_number (channels-same 0 w (λ c. items_of (all c)) (λ c. replica ops (part routing w L c)) (λ c l. items_all c (omega arith)))
      ∙ chain_law g ops w L r.safe r.connected r.some r.wide

  pub region_front : (came went : ℕ → List Packet) → AreFronts w came sent → AreFronts w went (λ c. replies (map start ops) (came c))
      → InOrder rule w went × IsPrefix (merged rule w went) (chain ops L)
  region_front came went first second =
      let fronts : AreFronts w went all = λ c l. front_trans (went c) (replies (map start ops) (came c)) (all c) (second c l) (replies-front (map start ops) (came c) (sent c) (first c l)) in
      let order : InOrder rule w all = in_order rule r.suits in (
        order_law rule w went all order fronts,
        subst (IsPrefix (merged rule w went)) by_number_all (front_law rule w went all r.wide order (λ c l. stops-replies (map start ops) (sent c) (r.sends c l).stops) fronts),
      )

pub region_front_law : RegionFrontLaw
region_front_law g ops rule w L sent came went r first second = region_front g ops rule w L sent r came went first second

-- ---- all of it

close-reaches : (m : ℕ) (ps : List Packet) → list_any is_close ps ≡ true → list_any (reaches m) ps ≡ true
close-reaches m [] h = never h
close-reaches m (P.Item n x ∷ ps) h = go (nat_le m n) (close-reaches m ps h) where
  go : (b : Bool) → list_any (reaches m) ps ≡ true → (b || list_any (reaches m) ps) ≡ true
  go true e = refl
  go false e = e
close-reaches m (P.Pulse n ∷ ps) h = go (nat_le m n) (close-reaches m ps h) where
  go : (b : Bool) → list_any (reaches m) ps ≡ true → (b || list_any (reaches m) ps) ≡ true
  go true e = refl
  go false e = e
close-reaches m (P.Close ∷ ps) h = refl
close-reaches m (P.Cut ∷ ps) h = close-reaches m ps h

all_pass : (k : ℕ → Bool) (xs : List Tagged) → ((n : ℕ) → k n ≡ true) → list_all (λ (p : Tagged). k p.0) xs ≡ true
all_pass k [] h = refl
all_pass k (x ∷ xs) h = ap (λ b. b && list_all (λ (p : Tagged). k p.0) xs) (h x.0) ∙ all_pass k xs h

pub region_whole_law : RegionWholeLaw
region_whole_law g ops w L sent r closes =
    ap (λ z. cut (map (λ (p : Tagged). p.1) z)) (passing-all (known_by_pulses w whole) (in_turn (taken_items w whole)) (all_pass (known_by_pulses w whole) (in_turn (taken_items w whole)) knows))
    ∙ by_number_all g ops ByPulses w L sent r
  where
    whole : ℕ → List Packet
    whole c = replies (map start ops) (sent c)

    knows : (n : ℕ) → known_by_pulses w whole n ≡ true
    knows zero = refl
    knows (suc n) = all_channels (list_any (reaches (suc n))) 0 w whole (λ c l. close-reaches (suc n) (whole c) (close-replies (map start ops) (sent c) (closes c (omega arith))))
