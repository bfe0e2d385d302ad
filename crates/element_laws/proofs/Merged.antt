-- What a merger has merged are items that it took.
use Rattle.std.proofs.Common.{ℕ, zero, suc, ◌+◌, ◌<◌, ◌≤◌, ◌==◌, Bool, true, false, cond, List, [], ◌∷◌, ◌++◌, ◌≡◌, refl, ◌∙◌, arith, map}
use Rattle.std.specs.Prelude.{filter, take, take_while}
use Rattle.std.specs.List.{list_all, prefix_len}
use Rattle.std.proofs.lemmas.Bool.{and_from, and_parts}
use Rattle.std.proofs.lemmas.List.Folds.{list_all-append}
use Rattle.spl_value.specs.declared.item.Item.{Item}
use Rattle.spl_value.specs.declared.packet.Packet.{Packet}
use Rattle.spl_value.specs.Numbered.{Rule, below, channels_from, closes, cut, in_turn, items_of, known, merged, of_number, taken_items, top_all}

module _ (test : Item → Bool) where
  abbrev pub All : List (ℕ × Item) → Type 0
  All ps = list_all (λ (p : ℕ × Item). test p.1) ps ≡ true

  abbrev AllIn : List (List (ℕ × Item)) → Type 0
  AllIn [] = Unit {0}
  AllIn (l ∷ ls) = All l × AllIn ls

  both : (ps qs : List (ℕ × Item)) → All ps → All qs → All (ps ++ qs)
  both ps qs h k =
      list_all-append (λ (p : ℕ × Item). test p.1) ps qs
      ∙ and_from (list_all (λ (p : ℕ × Item). test p.1) ps) (list_all (λ (p : ℕ × Item). test p.1) qs) h k

  of-test : (f : ℕ × Item → Bool) (ps : List (ℕ × Item)) → All ps → All (filter f ps)
  of-test f [] h = refl
  of-test f (p ∷ ps) h =
      let parts = and_parts (test p.1) (list_all (λ (q : ℕ × Item). test q.1) ps) h in go (f p) parts.0 (of-test f ps parts.1)
    where
      go : (b : Bool) → test p.1 ≡ true → All (filter f ps) → All (cond b (p ∷ filter f ps) (filter f ps))
      go true e rest = and_from (test p.1) (list_all (λ (q : ℕ × Item). test q.1) (filter f ps)) e rest
      go false e rest = rest

  front-of : (n : ℕ) (ps : List (ℕ × Item)) → All ps → All (take n ps)
  front-of zero ps h = refl
  front-of (suc n) [] h = refl
  front-of (suc n) (p ∷ ps) h =
      let parts = and_parts (test p.1) (list_all (λ (q : ℕ × Item). test q.1) ps) h in
      and_from (test p.1) (list_all (λ (q : ℕ × Item). test q.1) (take n ps)) parts.0 (front-of n ps parts.1)

  of-number : (n : ℕ) (lists : List (List (ℕ × Item))) → AllIn lists → All (of_number n lists)
  of-number n [] h = refl
  of-number n (l ∷ ls) h = both (filter (λ (p : ℕ × Item). p.0 == n) l) (of_number n ls) (of-test (λ (p : ℕ × Item). p.0 == n) l h.0) (of-number n ls h.1)

  all-below : (n : ℕ) (lists : List (List (ℕ × Item))) → AllIn lists → All (below n (λ m. of_number m lists))
  all-below zero lists h = refl
  all-below (suc n) lists h = both (below n (λ m. of_number m lists)) (of_number n lists) (all-below n lists h) (of-number n lists h)

  until-cut : (xs : List Item) → list_all test xs ≡ true → list_all test (cut xs) ≡ true
  until-cut [] h = refl
  until-cut (x ∷ xs) h = let parts = and_parts (test x) (list_all test xs) h in go (closes x) parts.0 (until-cut xs parts.1)
    where
      go : (b : Bool) → test x ≡ true → list_all test (cut xs) ≡ true → list_all test (x ∷ cond b [] (cut xs)) ≡ true
      go true e rest = and_from (test x) true e refl
      go false e rest = and_from (test x) (list_all test (cut xs)) e rest

  items : (ps : List (ℕ × Item)) → All ps → list_all test (map (λ (p : ℕ × Item). p.1) ps) ≡ true
  items [] h = refl
  items (p ∷ ps) h =
      let parts = and_parts (test p.1) (list_all (λ (q : ℕ × Item). test q.1) ps) h in
      and_from (test p.1) (list_all test (map (λ (q : ℕ × Item). q.1) ps)) parts.0 (items ps parts.1)

  channels : (c w : ℕ) (t : ℕ → List Packet) → ((d : ℕ) → c ≤ d → d < c + w → All (items_of (t d))) → AllIn (channels_from c w (λ d. items_of (t d)))
  channels c zero t h = tt
  channels c (suc w) t h = (h c (omega arith) (omega arith), channels (suc c) w t (λ d le lt. h d (omega (arith, le)) (omega (arith, lt))))

  pub merged-all : (rule : Rule) (w : ℕ) (t : ℕ → List Packet) → ((d : ℕ) → d < w → All (items_of (t d))) → list_all test (merged rule w t) ≡ true
  merged-all rule w t h =
      until-cut (map (λ (p : ℕ × Item). p.1) (take_while (λ (p : ℕ × Item). known rule w t p.0) (in_turn (taken_items w t))))
      (items (take_while (λ (p : ℕ × Item). known rule w t p.0) (in_turn (taken_items w t)))
      (front-of (prefix_len (λ (p : ℕ × Item). known rule w t p.0) (in_turn (taken_items w t))) (in_turn (taken_items w t))
      (all-below (top_all (taken_items w t)) (taken_items w t) (channels 0 w t (λ d le lt. h d (omega (arith, lt)))))))
