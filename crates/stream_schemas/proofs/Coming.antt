-- What holds of each event that arrives at an operator, where it holds of each item of the streams that it reads.
use Rattle.std.proofs.Common.{◌≡◌, ℕ, zero, suc, ◌==◌, Bool, true, false, cond, if◌then◌else◌, not, nat_lt, List, [], ◌∷◌, map, refl, sym, ap, subst, length, slice_get, Some, None, position, ◌+◌, ◌<◌, arith}
use Rattle.std.specs.List.{AllByRecursion, position_or_len}
use Rattle.std.proofs.lemmas.Bool.{eqb-true, lt-ltb, ltb-true}
use Rattle.spl_value.specs.declared.item.Item.{Item}
use Rattle.stream_model.specs.Stream.{Event, came}
use Rattle.stream_model.specs.Meaning.{Lists, arrive, events_at, lists_at, taking}
use Rattle.stream_model.proofs.parts.Meaning.{with_list}

module _ (P : Event → Type 0) where
  -- it holds of each event with an item of the list on the input
  abbrev pub OfEach : ℕ → List Item → Type 0
  OfEach i items = AllByRecursion P (map (came i) items)

  arrive_each : (entries : List ℕ) (lists : Lists) → ((i : ℕ) → OfEach i (lists i)) → AllByRecursion P (arrive lists entries)
  arrive_each [] lists h = tt
  arrive_each (i ∷ entries) lists h = go (lists i) (h i) (λ xs k. arrive_each entries (with_list lists i xs) k)
    where
      other : (xs : List Item) → OfEach i xs → (j : ℕ) → OfEach j (with_list lists i xs j)
      other xs k j = by (j == i) refl
        where
          by : (b : Bool) → (j == i) ≡ b → OfEach j (if b then xs else lists j)
          by true e = subst (λ n. OfEach n xs) (sym (eqb-true j i e)) k
          by false e = h j

      go : (xs : List Item) → OfEach i xs → ((xs : List Item) → ((j : ℕ) → OfEach j (with_list lists i xs j)) → AllByRecursion P (arrive (with_list lists i xs) entries))
          → AllByRecursion P (taking i xs (λ items. arrive (with_list lists i items) entries))
      go [] k rest = tt
      go (x ∷ xs) k rest = (k.0, rest xs (other xs k.1))

  at_input : (streams : Lists) (ss : List ℕ) (i : ℕ) (Q : List Item → Type 0) → Q [] → ((s : ℕ) → slice_get ss i ≡ Some s → Q (streams s)) → Q (lists_at streams ss i)
  at_input streams [] i Q none h = none
  at_input streams (s ∷ ss) zero Q none h = h s refl
  at_input streams (s ∷ ss) (suc i) Q none h = at_input streams ss i Q none h

  pub events_each : (streams : Lists) (ss entries : List ℕ) → ((i s : ℕ) → slice_get ss i ≡ Some s → OfEach i (streams s)) → AllByRecursion P (events_at streams ss entries)
  events_each streams [] entries h = tt
  events_each streams (s ∷ []) entries h = h 0 s refl
  events_each streams (s ∷ t ∷ ss) entries h =
      arrive_each entries (lists_at streams (s ∷ t ∷ ss)) (λ i. at_input streams (s ∷ t ∷ ss) i (OfEach i) tt (h i))

-- ---- the place of a stream

place_there : (s : ℕ) (xs : List ℕ) → nat_lt (position_or_len (λ o. o == s) xs) (length xs) ≡ true → slice_get xs (position_or_len (λ o. o == s) xs) ≡ Some s
place_there s [] h = absurd (let clash : false ≡ true = h in cc)
place_there s (x ∷ xs) h = go (x == s) refl h (place_there s xs)
  where
    go : (b : Bool) → (x == s) ≡ b → nat_lt (cond (not b) (1 + position_or_len (λ o. o == s) xs) 0) (length (x ∷ xs)) ≡ true
        → (nat_lt (position_or_len (λ o. o == s) xs) (length xs) ≡ true → slice_get xs (position_or_len (λ o. o == s) xs) ≡ Some s)
        → slice_get (x ∷ xs) (cond (not b) (1 + position_or_len (λ o. o == s) xs) 0) ≡ Some s
    go true e h rest = ap (λ n. Some n) (eqb-true x s e)
    go false e h rest =
        let k = position_or_len (λ o. o == s) xs in
        let within : 1 + k < suc (length xs) = ltb-true (1 + k) (suc (length xs)) h in
        let same : 1 + k ≡ suc k = omega arith in
        subst (λ n. slice_get (x ∷ xs) n ≡ Some s) (sym same) (rest (lt-ltb k (length xs) (omega (arith, within))))

pub place_is : (s : ℕ) (xs : List ℕ) (p : ℕ) → position (λ o. o == s) xs ≡ Some p → slice_get xs p ≡ Some s
place_is s xs p q = go (nat_lt (position_or_len (λ o. o == s) xs) (length xs)) refl q
  where
    go : (b : Bool) → nat_lt (position_or_len (λ o. o == s) xs) (length xs) ≡ b → cond b (Some (position_or_len (λ o. o == s) xs)) None ≡ Some p → slice_get xs p ≡ Some s
    go true e q = let same : position_or_len (λ o. o == s) xs ≡ p = cc in subst (λ k. slice_get xs k ≡ Some s) same (place_there s xs e)
    go false e q = absurd cc
