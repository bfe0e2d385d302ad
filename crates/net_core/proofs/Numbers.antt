-- Enabled events by their numbers.
use Rattle.std.proofs.Common.{◌≡◌, ◌<◌, ◌≤◌, ◌+◌, ◌-◌, ◌⊎◌, inl, inr, ℕ, zero, suc, Bool, true, false, cond, List, [], ◌∷◌, ◌++◌, length, map, slice_get, Some, None, refl, sym, ap, subst, ◌∙◌, arith, length-append}
use Rattle.std.proofs.lemmas.List.{length-map}
use Rattle.std.specs.Prelude.{filter}
use Rattle.std.specs.Option.{option_map}
use Rattle.std.proofs.lemmas.Bool.{cases_lt}
use Rattle.std.proofs.lemmas.Option.{slice_get-map, slice_get_within}
use Rattle.language_model.specs.Numbering.{numbers_from}
use Rattle.network_model.specs.Networks.{Net}
use Rattle.network_model.specs.Picking.{Choice, PopAt, PushAt, ReadAt, choices, enabled_choices, may_happen}
use Rattle.network_model.specs.States.{State}
use Rattle.link_queues.proofs.Listing.{get_front}
use Rattle.marked_places.specs.Marked.{marked, marked_from}
use Rattle.enabled_events.specs.Marks.{IsEvent, MarksAt, place_of}

-- ---- lists by their places

by_places : {A : Type 0} (xs ys : List A) → length xs ≡ length ys → ((i : ℕ) → i < length ys → slice_get xs i ≡ slice_get ys i) → xs ≡ ys
by_places [] [] count each = refl
by_places [] (y ∷ ys) count each = absurd (omega arith)
by_places (x ∷ xs) [] count each = absurd (omega arith)
by_places (x ∷ xs) (y ∷ ys) count each =
    let first : Some x ≡ Some y = each 0 (omega arith) in
    let same : x ≡ y = cc in
    let rest = by_places xs ys (omega arith) (λ i h. each (suc i) (omega arith)) in
    ap (λ z. z ∷ xs) same ∙ ap (λ zs. y ∷ zs) rest

get_behind : {A : Type 0} (xs ys : List A) (i : ℕ) → slice_get (xs ++ ys) (length xs + i) ≡ slice_get ys i
get_behind [] ys i = let n : 0 + i ≡ i = omega arith in ap (slice_get ys) n
get_behind (x ∷ xs) ys i = let n : suc (length xs) + i ≡ suc (length xs + i) = omega arith in ap (slice_get (x ∷ (xs ++ ys))) n ∙ get_behind xs ys i

numbers_at : (n k i : ℕ) → i < k → slice_get (numbers_from n k) i ≡ Some (n + i)
numbers_at n zero i h = absurd (omega arith)
numbers_at n (suc k) zero h = let e : n ≡ n + 0 = omega arith in ap Some e
numbers_at n (suc k) (suc i) h = numbers_at (suc n) k i (omega arith) ∙ (let e : suc n + i ≡ n + suc i = omega arith in ap Some e)

numbers_many : (n k : ℕ) → length (numbers_from n k) ≡ k
numbers_many n zero = refl
numbers_many n (suc k) = ap suc (numbers_many (suc n) k)

named_at : {A : Type 0} (f : ℕ → A) (k i : ℕ) → i < k → slice_get (map f (numbers_from 0 k)) i ≡ Some (f i)
named_at f k i h =
    slice_get-map f (numbers_from 0 k) i ∙ ap (option_map f) (numbers_at 0 k i h) ∙ (let e : 0 + i ≡ i = omega arith in ap (λ n. Some (f n)) e)

named_many : {A : Type 0} (f : ℕ → A) (k : ℕ) → length (map f (numbers_from 0 k)) ≡ k
named_many f k = length-map (numbers_from 0 k) f ∙ numbers_many 0 k

-- ---- events by their places

module _ (net : Net) where
  abbrev Reads : List Choice
  Reads = map ReadAt (numbers_from 0 net.size)

  abbrev Pops : List Choice
  Pops = map PopAt (numbers_from 0 net.links)

  abbrev Pushes : List Choice
  Pushes = map PushAt (numbers_from 0 net.links)

  many : length (choices net) ≡ net.size + net.links + net.links
  many =
      let whole = length-append Reads (Pops ++ Pushes) in
      let rest = length-append Pops Pushes in
      let n-reads = named_many ReadAt net.size in
      let n-pops = named_many PopAt net.links in
      let n-pushes = named_many PushAt net.links in
      omega arith

  pub choice_at : (c : Choice) → IsEvent net c → slice_get (choices net) (place_of net c) ≡ Some c
  choice_at (ReadAt e) h = get_front Reads (Pops ++ Pushes) e (ReadAt e) (named_at ReadAt net.size e h)
  choice_at (PopAt l) h =
      ap (λ n. slice_get (choices net) (n + l)) (sym (named_many ReadAt net.size)) ∙ get_behind Reads (Pops ++ Pushes) l
      ∙ get_front Pops Pushes l (PopAt l) (named_at PopAt net.links l h)
  choice_at (PushAt l) h =
      let place : net.size + net.links + l ≡ length Reads + (length Pops + l) =
      (let n-reads = named_many ReadAt net.size in let n-pops = named_many PopAt net.links in omega arith) in
      ap (slice_get (choices net)) place ∙ get_behind Reads (Pops ++ Pushes) (length Pops + l) ∙ get_behind Pops Pushes l ∙ named_at PushAt net.links l h

  covers : (i : ℕ) → i < net.size + net.links + net.links → (c : Choice) × IsEvent net c × (place_of net c ≡ i)
  covers i h = first (cases_lt i net.size)
    where
      second : net.size ≤ i → ((i < net.size + net.links) ⊎ (net.size + net.links ≤ i)) → (c : Choice) × IsEvent net c × (place_of net c ≡ i)
      second past (inl low) = (PopAt (i - net.size), omega arith, omega arith)
      second past (inr high) = (PushAt (i - (net.size + net.links)), omega arith, omega arith)

      first : ((i < net.size) ⊎ (net.size ≤ i)) → (c : Choice) × IsEvent net c × (place_of net c ≡ i)
      first (inl low) = (ReadAt i, low, refl)
      first (inr past) = second past (cases_lt i (net.size + net.links))

  all_marks : (st : State) (marks : List Bool) → MarksAt net st marks → marks ≡ map (may_happen net st) (choices net)
  all_marks st marks k =
      by_places marks (map (may_happen net st) (choices net)) (k.count ∙ sym (length-map (choices net) (may_happen net st) ∙ many))
      (λ i h. each i (covers i (subst (λ n. i < n) (length-map (choices net) (may_happen net st) ∙ many) h)))
    where
      each : (i : ℕ) → ((c : Choice) × IsEvent net c × (place_of net c ≡ i)) → slice_get marks i ≡ slice_get (map (may_happen net st) (choices net)) i
      each i found =
          ap (slice_get marks) (sym found.2) ∙ k.each found.0 found.1
          ∙ ap (option_map (may_happen net st)) (sym (choice_at found.0 found.1)) ∙ sym (slice_get-map (may_happen net st) (choices net) (place_of net found.0))
          ∙ ap (slice_get (map (may_happen net st) (choices net))) found.2

-- ---- marked places and what is left of a list

module _ {A : Type 0} (p : A → Bool) where
  kept-many : (at : ℕ) (xs : List A) → length (marked_from at (map p xs)) ≡ length (filter p xs)
  kept-many at [] = refl
  kept-many at (x ∷ xs) = go (p x) (kept-many (suc at) xs)
    where
      go : (b : Bool) → length (marked_from (suc at) (map p xs)) ≡ length (filter p xs)
          → length (cond b (at ∷ marked_from (suc at) (map p xs)) (marked_from (suc at) (map p xs))) ≡ length (cond b (x ∷ filter p xs) (filter p xs))
      go true e = ap suc e
      go false e = e

  abbrev Kept : ℕ → List A → ℕ → ℕ → Type 0
  Kept at xs n j = (k : ℕ) × (c : A) × (j ≡ at + k) × (slice_get xs k ≡ Some c) × (slice_get (filter p xs) n ≡ Some c)

  kept-at : (at : ℕ) (xs : List A) (n j : ℕ) → slice_get (marked_from at (map p xs)) n ≡ Some j → Kept at xs n j
  kept-at at [] n j e = absurd (let clash : None ≡ Some j = e in cc)
  kept-at at (x ∷ xs) n j e = go (p x) refl n e (λ m f. kept-at (suc at) xs m j f)
    where
      go : (b : Bool) → p x ≡ b → (n : ℕ) → slice_get (cond b (at ∷ marked_from (suc at) (map p xs)) (marked_from (suc at) (map p xs))) n ≡ Some j
          → ((m : ℕ) → slice_get (marked_from (suc at) (map p xs)) m ≡ Some j → Kept (suc at) xs m j) → Kept at (x ∷ xs) n j
      go true q zero e more =
          let first : at ≡ j = cc in
          (0, x, (omega arith), refl, ap (λ b. slice_get (cond b (x ∷ filter p xs) (filter p xs)) 0) q)
      go true q (suc n) e more =
          let k = more n e in
          (suc k.0, k.1, (omega (arith, k.2)), k.3, ap (λ b. slice_get (cond b (x ∷ filter p xs) (filter p xs)) (suc n)) q ∙ k.4)
      go false q n e more =
          let k = more n e in
          (suc k.0, k.1, (omega (arith, k.2)), k.3, ap (λ b. slice_get (cond b (x ∷ filter p xs) (filter p xs)) n) q ∙ k.4)

-- ---- enabled events

pub enabled_many : (net : Net) (st : State) (marks : List Bool) → MarksAt net st marks → length (marked marks) ≡ length (enabled_choices net st)
enabled_many net st marks k = ap (λ ms. length (marked ms)) (all_marks net st marks k) ∙ kept-many (may_happen net st) 0 (choices net)

pub enabled_nth : (net : Net) (st : State) (marks : List Bool) (n place : ℕ) (c : Choice) → MarksAt net st marks → slice_get (marked marks) n ≡ Some place
    → IsEvent net c → place_of net c ≡ place → slice_get (enabled_choices net st) n ≡ Some c
enabled_nth net st marks n place c k got ev at =
    let found = kept-at (may_happen net st) 0 (choices net) n place (ap (λ ms. slice_get (marked ms) n) (sym (all_marks net st marks k)) ∙ got) in
    let same : place_of net c ≡ found.0 = omega (arith, found.2, at) in
    let both : Some c ≡ Some found.1 = sym (choice_at net c ev) ∙ ap (slice_get (choices net)) same ∙ found.3 in
    let is : c ≡ found.1 = cc in
    found.4 ∙ ap Some (sym is)

pub nth_below : (net : Net) (st : State) (marks : List Bool) (n place : ℕ) → MarksAt net st marks → slice_get (marked marks) n ≡ Some place
    → place < net.size + net.links + net.links
nth_below net st marks n place k got =
    let found = kept-at (may_happen net st) 0 (choices net) n place (ap (λ ms. slice_get (marked ms) n) (sym (all_marks net st marks k)) ∙ got) in
    let low = slice_get_within (choices net) found.0 found.1 found.3 in
    let count = many net in
    omega (arith, found.2)
