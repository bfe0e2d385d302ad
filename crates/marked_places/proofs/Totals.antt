-- Sums of the entries of a list up to a place.
use Rattle.std.proofs.Common.{◌≡◌, ◌+◌, ◌<◌, ◌≤◌, ℕ, zero, suc, List, [], ◌∷◌, length, replicate, take, set, get_or, slice_get, Some, refl, ap, ◌∙◌, add-one, arith}
use Rattle.std.proofs.lemmas.List.{take_all, take-set-le}
use Rattle.std.proofs.lemmas.Option.{slice_get-get_or}
use Rattle.marked_places.specs.Counts.{total}

-- with the entry at a place
pub total-next : (ns : List ℕ) (i n : ℕ) → slice_get ns i ≡ Some n → total (take (suc i) ns) ≡ total (take i ns) + n
total-next [] i n e = cc
total-next (m ∷ ns) zero n e = let same : m ≡ n = cc in omega arith
total-next (m ∷ ns) (suc i) n e = omega (arith, total-next ns i n e)

pub total-grows : (ns : List ℕ) (i j : ℕ) → i ≤ j → total (take i ns) ≤ total (take j ns)
total-grows [] zero zero h = omega arith
total-grows [] zero (suc j) h = omega arith
total-grows [] (suc i) zero h = absurd (omega arith)
total-grows [] (suc i) (suc j) h = omega arith
total-grows (m ∷ ns) zero j h = omega arith
total-grows (m ∷ ns) (suc i) zero h = absurd (omega arith)
total-grows (m ∷ ns) (suc i) (suc j) h = omega (arith, total-grows ns i j (omega arith))

pub total-all : (ns : List ℕ) (i : ℕ) → length ns ≤ i → total (take i ns) ≡ total ns
total-all ns i h = ap total (take_all i ns h)

pub total-below : (ns : List ℕ) (i : ℕ) → total (take i ns) ≤ total ns
total-below [] zero = omega arith
total-below [] (suc i) = omega arith
total-below (m ∷ ns) zero = omega arith
total-below (m ∷ ns) (suc i) = omega (arith, total-below ns i)

-- where an entry is changed
pub total-set-before : (ns : List ℕ) (k i v : ℕ) → k ≤ i → total (take k (set ns i v)) ≡ total (take k ns)
total-set-before ns k i v h = ap total (take-set-le k ns i v h)

pub total-set-behind : (ns : List ℕ) (k i n v : ℕ) → slice_get ns i ≡ Some n → i < k
    → total (take k (set ns i v)) + n ≡ total (take k ns) + v
total-set-behind [] k i n v e h = cc
total-set-behind (m ∷ ns) zero i n v e h = absurd (omega arith)
total-set-behind (m ∷ ns) (suc k) zero n v e h = let same : m ≡ n = cc in omega arith
total-set-behind (m ∷ ns) (suc k) (suc i) n v e h = omega (arith, total-set-behind ns k i n v e (omega arith))

pub total-zeros : (k n : ℕ) → total (take k (replicate n 0)) ≡ 0
total-zeros zero zero = refl
total-zeros (suc k) zero = refl
total-zeros zero (suc n) = refl
total-zeros (suc k) (suc n) = omega (arith, total-zeros k n)

pub total-entry : (ns : List ℕ) (i n : ℕ) → slice_get ns i ≡ Some n → n ≤ total ns
total-entry [] i n e = cc
total-entry (m ∷ ns) zero n e = let same : m ≡ n = cc in omega arith
total-entry (m ∷ ns) (suc i) n e = omega (arith, total-entry ns i n e)

pub total_step : (ns : List ℕ) (i d : ℕ) → i < length ns → total (take (i + 1) ns) ≡ total (take i ns) + get_or ns i d
total_step ns i d h = ap (λ k. total (take k ns)) (add-one i) ∙ total-next ns i (get_or ns i d) (slice_get-get_or ns i d h)

-- what a search through the entries uses
pub ruleset finding = (total_step, total-all)
