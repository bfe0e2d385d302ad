-- The channels of a list, each up to its first item that closes, are by number the list up to its first item that closes.
use Rattle.std.proofs.Common.{◌≡◌, ◌<◌, ◌⊎◌, inl, inr, ℕ, zero, suc, Bool, true, false, List, [], ◌∷◌, ◌++◌, map, refl, sym, ap, ◌∙◌, append_assoc, append-nil, arith, cond, subst}
use Rattle.std.specs.Prelude.{◌==◌, ◌||◌}
use Rattle.std.specs.List.{list_any, AllByRecursion}
use Rattle.std.proofs.lemmas.Bool.{eqb-true}
use Rattle.spl_value.specs.Numbered.{closes, cut, by_number, in_turn, channels, channels_from, top_all}
use Rattle.channel_heads.proofs.ByNumber.{Tagged, Gift, is_number, AtLeast, least-weak, front, front-cons, Climbs, WithinWidth, gifts_in_turn}
use Rattle.channel_heads.proofs.Packets.{channels-same}
use Rattle.region_laws.proofs.NumberedItems.{items, cut_tagged, any_ends, items-cut, cut-none, cut-append, Ended, ended_at, on_channel, on_channel-append, Rising, rising-channel, rising-cut, rising-behind}

-- ---- a list as what channels give

gifts : (ℕ → ℕ) → List Tagged → List Gift
gifts channel_at [] = []
gifts channel_at (p ∷ ps) = (channel_at p.0, p) ∷ gifts channel_at ps

module _ (channel_at : ℕ → ℕ) where
  front-gifts : (R : List Tagged) (c : ℕ) → front (gifts channel_at R) c ≡ on_channel channel_at c R
  unfolding gifts
  front-gifts [] c = refl
  front-gifts (p ∷ R) c = front-cons (channel_at p.0, p) (gifts channel_at R) c ∙ ap (λ z. cond (channel_at p.0 == c) (p ∷ z) z) (front-gifts R c)

  items-gifts : (R : List Tagged) → map (λ (g : Gift). g.1) (gifts channel_at R) ≡ R
  unfolding gifts
  items-gifts [] = refl
  items-gifts (p ∷ R) = ap (λ z. p ∷ z) (items-gifts R)

  within-gifts : (w : ℕ) → ((n : ℕ) → channel_at n < w) → (R : List Tagged) → WithinWidth w (gifts channel_at R)
  unfolding gifts
  within-gifts w h [] = tt
  within-gifts w h (p ∷ R) = (h p.0, within-gifts w h R)

  last_number : ℕ → List Tagged → ℕ
  last_number lo [] = lo
  last_number lo (p ∷ R) = last_number p.0 R

  climbs-all : (lo : ℕ) (R : List Tagged) → Rising lo R → Climbs lo (gifts channel_at R) (last_number lo R)
  unfolding gifts last_number
  climbs-all lo [] r = omega arith
  climbs-all lo (p ∷ R) r = (r.0, climbs-all p.0 R r.1)

  climbs-to : (lo : ℕ) (A : List Tagged) (z : Tagged) (B : List Tagged) → Rising lo (A ++ z ∷ B) → Climbs lo (gifts channel_at (A ++ z ∷ [])) z.0
  unfolding gifts
  climbs-to lo [] z B r = (r.0, omega arith)
  climbs-to lo (p ∷ A) z B r = (r.0, climbs-to p.0 A z B r.1)

  -- ---- what stands on a channel

  pub open-channel : (c : ℕ) (xs : List Tagged) → any_ends xs ≡ false → any_ends (on_channel channel_at c xs) ≡ false
  open-channel c [] h = refl
  open-channel c (p ∷ xs) h = go (channel_at p.0 == c) (closes p.1) refl h (open-channel c xs) where
    go : (b d : Bool) → closes p.1 ≡ d → cond d true (any_ends xs) ≡ false → (any_ends xs ≡ false → any_ends (on_channel channel_at c xs) ≡ false)
        → any_ends (cond b (p ∷ on_channel channel_at c xs) (on_channel channel_at c xs)) ≡ false
    go b true e h ih = absurd (let no : true ≡ false = h in cc)
    go true false e h ih = ap (λ d. cond d true (any_ends (on_channel channel_at c xs))) e ∙ ih h
    go false false e h ih = ih h

  abbrev pub AllOn : ℕ → List Tagged → Type 0
  AllOn c xs = AllByRecursion (λ (p : Tagged). channel_at p.0 ≡ c) xs

  pub all_on : (c : ℕ) (R : List Tagged) → AllOn c (on_channel channel_at c R)
  all_on c [] = tt
  all_on c (p ∷ R) = go (channel_at p.0 == c) refl (all_on c R) where
    go : (b : Bool) → (channel_at p.0 == c) ≡ b → AllOn c (on_channel channel_at c R) → AllOn c (cond b (p ∷ on_channel channel_at c R) (on_channel channel_at c R))
    go true e rest = (eqb-true (channel_at p.0) c e, rest)
    go false e rest = rest

  all_cut : (c : ℕ) (xs : List Tagged) → AllOn c xs → AllOn c (cut_tagged xs)
  all_cut c [] h = tt
  all_cut c (p ∷ xs) h = (h.0, go (closes p.1) (all_cut c xs h.1)) where
    go : (b : Bool) → AllOn c (cut_tagged xs) → AllOn c (cond b [] (cut_tagged xs))
    go true r = tt
    go false r = r

  pub any_on : (n c : ℕ) (xs : List Tagged) → AllOn c xs → list_any (is_number n) xs ≡ true → channel_at n ≡ c
  any_on n c [] h e = absurd (let no : false ≡ true = e in cc)
  any_on n c (p ∷ xs) h e = go (p.0 == n) refl e (any_on n c xs h.1) where
    go : (b : Bool) → (p.0 == n) ≡ b → (b || list_any (is_number n) xs) ≡ true → (list_any (is_number n) xs ≡ true → channel_at n ≡ c) → channel_at n ≡ c
    go true d e rest = subst (λ z. channel_at z ≡ c) (eqb-true p.0 n d) h.0
    go false d e rest = rest e

  -- a number stands on its channel alone
  pub on_its_channel : (n c : ℕ) (R : List Tagged) → list_any (is_number n) (cut_tagged (on_channel channel_at c R)) ≡ true → channel_at n ≡ c
  on_its_channel n c R e = any_on n c (cut_tagged (on_channel channel_at c R)) (all_cut c (on_channel channel_at c R) (all_on c R)) e

  rising-least : (lo : ℕ) (xs : List Tagged) → Rising lo xs → AtLeast lo xs
  rising-least lo [] r = tt
  rising-least lo (p ∷ xs) r = (r.0, least-weak lo p.0 xs r.0 (rising-least p.0 xs r.1))

  -- ---- nothing on any channel

  top-none : (c w : ℕ) → top_all (channels_from {A = List Tagged} c w (λ d. [])) ≡ 0
  top-none c zero = refl
  top-none c (suc w) = let rest = top-none (suc c) w in omega (arith, rest)

  turn-none : (w : ℕ) → in_turn (channels {A = List Tagged} w (λ d. [])) ≡ []
  turn-none w = ap (λ t. Rattle.spl_value.specs.Numbered.below t (λ n. Rattle.spl_value.specs.Numbered.of_number n (channels {A = List Tagged} w (λ d. [])))) (top-none 0 w)

  -- ---- the merge

  module _ (w : ℕ) (within : (n : ℕ) → channel_at n < w) (F : ℕ → List Tagged) where
    abbrev whole : List Gift → (ℕ → List Tagged) → ℕ → List Tagged
    whole gs rest c = front gs c ++ rest c

    merge : (R : List Tagged) (gs : List Gift) (rest : ℕ → List Tagged) (hi : ℕ) → ((c : ℕ) → c < w → F c ≡ cut_tagged (on_channel channel_at c R))
        → ((c : ℕ) → cut_tagged (on_channel channel_at c R) ≡ whole gs rest c) → WithinWidth w gs → Climbs 0 gs hi → ((c : ℕ) → c < w → AtLeast hi (rest c))
        → in_turn (channels w F) ≡ map (λ (g : Gift). g.1) gs ++ in_turn (channels w rest)
    merge R gs rest hi is parts inside climbs high =
        ap in_turn (channels-same 0 w F (whole gs rest) (λ d l. is d (omega arith) ∙ parts d))
        ∙ gifts_in_turn w 0 hi gs rest inside climbs high
        (λ n c d lc ld ec ed.
        sym (on_its_channel n c R (ap (list_any (is_number n)) (parts c) ∙ ec)) ∙ on_its_channel n d R (ap (list_any (is_number n)) (parts d) ∙ ed))

    open-merge : (R : List Tagged) → Rising 0 R → any_ends R ≡ false → ((c : ℕ) → c < w → F c ≡ cut_tagged (on_channel channel_at c R)) → in_turn (channels w F) ≡ R
    open-merge R r opens is =
        merge R (gifts channel_at R) (λ c. []) (last_number 0 R) is
        (λ c. cut-none (on_channel channel_at c R) (open-channel c R opens) ∙ sym (front-gifts R c) ∙ sym (append-nil (front (gifts channel_at R) c)))
        (within-gifts w within R) (climbs-all 0 R r) (λ c l. tt)
        ∙ ap (λ z. map (λ (g : Gift). g.1) (gifts channel_at R) ++ z) (turn-none w)
        ∙ append-nil (map (λ (g : Gift). g.1) (gifts channel_at R))
        ∙ items-gifts R

    abbrev left_of : Tagged → List Tagged → ℕ → List Tagged
    left_of z B c = cond (channel_at z.0 == c) [] (cut_tagged (on_channel channel_at c B))

    ended-parts : (A : List Tagged) (z : Tagged) (B : List Tagged) → any_ends A ≡ false → closes z.1 ≡ true → (c : ℕ)
        → cut_tagged (on_channel channel_at c (A ++ z ∷ B)) ≡ whole (gifts channel_at (A ++ z ∷ [])) (left_of z B) c
    ended-parts A z B opens ends c =
        ap cut_tagged (on_channel-append channel_at c A (z ∷ B))
        ∙ cut-append (on_channel channel_at c A) (on_channel channel_at c (z ∷ B)) (open-channel c A opens)
        ∙ go (channel_at z.0 == c)
        ∙ ap (λ t. t ++ left_of z B c) (sym (front-gifts (A ++ z ∷ []) c ∙ on_channel-append channel_at c A (z ∷ [])))
      where
        go : (b : Bool) → on_channel channel_at c A ++ cut_tagged (cond b (z ∷ on_channel channel_at c B) (on_channel channel_at c B))
            ≡ (on_channel channel_at c A ++ cond b (z ∷ []) []) ++ cond b [] (cut_tagged (on_channel channel_at c B))
        go true = ap (λ d. on_channel channel_at c A ++ z ∷ cond d [] (cut_tagged (on_channel channel_at c B))) ends ∙ sym (append-nil (on_channel channel_at c A ++ z ∷ []))
        go false = ap (λ t. t ++ cut_tagged (on_channel channel_at c B)) (sym (append-nil (on_channel channel_at c A)))

    left-least : (A : List Tagged) (z : Tagged) (B : List Tagged) → Rising 0 (A ++ z ∷ B) → (c : ℕ) → AtLeast z.0 (left_of z B c)
    left-least A z B r c = go (channel_at z.0 == c) where
      go : (b : Bool) → AtLeast z.0 (cond b [] (cut_tagged (on_channel channel_at c B)))
      go true = tt
      go false = rising-least z.0 (cut_tagged (on_channel channel_at c B)) (rising-cut z.0 (on_channel channel_at c B) (rising-channel channel_at c z.0 B (rising-behind 0 A z B r)))

    cut-ended : (A : List Tagged) (z : Tagged) (B : List Tagged) → any_ends A ≡ false → closes z.1 ≡ true → cut (items (A ++ z ∷ B)) ≡ items (A ++ z ∷ [])
    cut-ended A z B opens ends =
        sym (items-cut (A ++ z ∷ B))
        ∙ ap items (cut-append A (z ∷ B) opens ∙ ap (λ d. A ++ z ∷ cond d [] (cut_tagged B)) ends)

    ended-merge : (A : List Tagged) (z : Tagged) (B : List Tagged) → any_ends A ≡ false → closes z.1 ≡ true → Rising 0 (A ++ z ∷ B)
        → ((c : ℕ) → c < w → F c ≡ cut_tagged (on_channel channel_at c (A ++ z ∷ B))) → by_number (channels w F) ≡ cut (items (A ++ z ∷ B))
    ended-merge A z B opens ends r is =
        ap (λ t. cut (items t))
        (merge (A ++ z ∷ B) (gifts channel_at (A ++ z ∷ [])) (left_of z B) z.0 is (ended-parts A z B opens ends) (within-gifts w within (A ++ z ∷ []))
        (climbs-to 0 A z B r) (λ c l. left-least A z B r c)
        ∙ ap (λ t. t ++ in_turn (channels w (left_of z B))) (items-gifts (A ++ z ∷ []))
        ∙ append_assoc A (z ∷ []) (in_turn (channels w (left_of z B))))
        ∙ cut-ended A z (in_turn (channels w (left_of z B))) opens ends
        ∙ sym (cut-ended A z B opens ends)

    pub merged-is : (R : List Tagged) → Rising 0 R → ((c : ℕ) → c < w → F c ≡ cut_tagged (on_channel channel_at c R)) → by_number (channels w F) ≡ cut (items R)
    merged-is R r is = go (ended_at R) where
      go : (any_ends R ≡ false) ⊎ Ended R → by_number (channels w F) ≡ cut (items R)
      go (inl opens) = ap (λ t. cut (items t)) (open-merge R r opens is)
      go (inr e) =
          subst (λ t. by_number (channels w F) ≡ cut (items t)) (sym e.parts)
          (ended-merge e.before e.last e.behind e.is_open e.ends (subst (Rising 0) e.parts r) (λ c l. is c l ∙ ap (λ t. cut_tagged (on_channel channel_at c t)) e.parts))
