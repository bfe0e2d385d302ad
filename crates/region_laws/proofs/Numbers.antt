-- The numbers of what replicas give.
use Rattle.std.proofs.Common.{◌≡◌, ◌≤◌, ℕ, zero, suc, ◌+◌, ◌==◌, ◌||◌, Bool, true, false, List, [], ◌∷◌, ◌++◌, map, refl, sym, ap, ◌∙◌, arith, cond}
use Rattle.std.specs.List.{enumerate_from, list_any}
use Rattle.spl_value.specs.declared.item.Item.{Item}
use Rattle.spl_value.specs.Numbered.{NeverFalls}
use Rattle.spl_value.specs.Route.{part}
use Rattle.stream_model.specs.Operators.{Operator}
use Rattle.stream_model.specs.Stages.{Stage, start}
use Rattle.channel_heads.proofs.ByNumber.{Tagged, is_number}
use Rattle.region_laws.specs.NumberLaws.{ApartLaw, FallLaw, item_numbers}
use Rattle.stream_model.specs.Replicas.{numbered_gives, replica, under}
use Rattle.stream_model.specs.Sending.{stages_after, stages_give}
use Rattle.region_laws.proofs.Channels.{channel_in, part-is}
use Rattle.region_laws.proofs.Merges.{all_on, any_on}
use Rattle.region_laws.proofs.NumberedItems.{Rising, on_channel, rising-channel, rising-numbered, rising-under}

numbered-rising : (ss : List Stage) (lo : ℕ) (ps : List Tagged) → Rising lo ps → Rising lo (numbered_gives ss ps)
numbered-rising ss lo [] r = tt
numbered-rising ss lo (p ∷ ps) r =
    rising-under lo p.0 (stages_give ss (p.1 ∷ [])) (numbered_gives (stages_after ss (p.1 ∷ [])) ps) r.0
    (numbered-rising (stages_after ss (p.1 ∷ [])) p.0 ps r.1)

pub replica-rising : (ops : List Operator) (lo : ℕ) (ps : List Tagged) → Rising lo ps → Rising lo (replica ops ps)
replica-rising ops lo ps r = numbered-rising (map start ops) lo ps r

never-falls : (lo : ℕ) (ps : List Tagged) → Rising lo ps → NeverFalls lo (item_numbers ps)
never-falls lo [] r = tt
never-falls lo (p ∷ ps) r = (r.0, never-falls p.0 ps r.1)

pub fall_law : FallLaw
fall_law ops routing width items c =
    never-falls 0 (replica ops (part routing width items c)) (replica-rising ops 0 (part routing width items c) (in_part (part routing width items c) (part-is routing width c items)))
  where
    in_part : (ps : List Tagged) → ps ≡ on_channel (channel_in routing width items) c (enumerate_from 0 items) → Rising 0 ps
    in_part ps e =
        Rattle.std.proofs.Common.subst (Rising 0) (sym e) (rising-channel (channel_in routing width items) c 0 (enumerate_from 0 items) (rising-numbered 0 items))

-- each number is one of an item that was taken
number-under : (n m : ℕ) (xs : List Item) (ps : List Tagged) → list_any (is_number n) (under m xs ++ ps) ≡ true → ((m == n) || list_any (is_number n) ps) ≡ true
number-under n m [] ps h = later (m == n) h where
  later : (b : Bool) → list_any (is_number n) ps ≡ true → (b || list_any (is_number n) ps) ≡ true
  later true e = refl
  later false e = e
number-under n m (x ∷ xs) ps h = go (m == n) refl h (number-under n m xs ps) where
  go : (b : Bool) → (m == n) ≡ b → (b || list_any (is_number n) (under m xs ++ ps)) ≡ true
      → (list_any (is_number n) (under m xs ++ ps) ≡ true → ((m == n) || list_any (is_number n) ps) ≡ true) → (b || list_any (is_number n) ps) ≡ true
  go true e h rest = refl
  go false e h rest = sym (ap (λ b. b || list_any (is_number n) ps) e) ∙ rest h

numbers-given : (ss : List Stage) (n : ℕ) (ps : List Tagged) → list_any (is_number n) (numbered_gives ss ps) ≡ true → list_any (is_number n) ps ≡ true
numbers-given ss n [] h = h
numbers-given ss n (p ∷ ps) h =
    go (p.0 == n) (number-under n p.0 (stages_give ss (p.1 ∷ [])) (numbered_gives (stages_after ss (p.1 ∷ [])) ps) h)
    (numbers-given (stages_after ss (p.1 ∷ [])) n ps)
  where
    go : (b : Bool) → (b || list_any (is_number n) (numbered_gives (stages_after ss (p.1 ∷ [])) ps)) ≡ true
        → (list_any (is_number n) (numbered_gives (stages_after ss (p.1 ∷ [])) ps) ≡ true → list_any (is_number n) ps ≡ true)
        → (b || list_any (is_number n) ps) ≡ true
    go true h rest = refl
    go false h rest = rest h

pub replica-numbers : (ops : List Operator) (n : ℕ) (ps : List Tagged) → list_any (is_number n) (replica ops ps) ≡ true → list_any (is_number n) ps ≡ true
replica-numbers ops n ps h = numbers-given (map start ops) n ps h

pub apart_law : ApartLaw
apart_law ops routing width items n c d ec ed = sym (on c ec) ∙ on d ed where
  on : (c : ℕ) → list_any (is_number n) (replica ops (part routing width items c)) ≡ true → channel_in routing width items n ≡ c
  on c e =
      any_on (channel_in routing width items) n c (on_channel (channel_in routing width items) c (enumerate_from 0 items)) (all_on (channel_in routing width items) c (enumerate_from 0 items))
      (ap (list_any (is_number n)) (sym (part-is routing width c items)) ∙ replica-numbers ops n (part routing width items c) e)
