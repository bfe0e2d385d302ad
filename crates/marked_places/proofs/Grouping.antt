-- Entries that are sums of 32 entries of another list.
use Rattle.std.proofs.Common.{◌≡◌, ◌+◌, ◌*◌, ◌/◌, ◌<◌, ◌≤◌, ◌⊎◌, inl, inr, ℕ, suc, List, length, replicate, take, set, slice_get, Some, sym, ◌∙◌, arith}
use Rattle.std.proofs.lemmas.Bool.{cases_lt}
use Rattle.marked_places.specs.Counts.{total, Groups}
use Rattle.marked_places.proofs.Totals.{total-next, total-grows, total-all, total-set-before, total-set-behind, total-zeros}

-- a group's entry is at least each of the entries of which it is the sum
pub group-above : (ns sums : List ℕ) (i n s : ℕ) → Groups ns sums → slice_get ns i ≡ Some n → slice_get sums (i / 32) ≡ Some s → n ≤ s
group-above ns sums i n s g at-i at-s =
    let upto = total-next ns i n at-i in
    let group = total-next sums (i / 32) s at-s in
    let first = g (i / 32) in
    let last = g (suc (i / 32)) in
    let low = total-grows ns (i / 32 * 32) i (omega arith) in
    let high = total-grows ns (suc i) (suc (i / 32) * 32) (omega arith) in
    omega arith

-- all that is counted
pub groups-all : (ns sums : List ℕ) → Groups ns sums → length ns ≤ length sums * 32 → total sums ≡ total ns
groups-all ns sums g h =
    let whole = total-all sums (length sums) (omega arith) in
    let here = g (length sums) in
    let all = total-all ns (length sums * 32) h in
    omega arith

-- an entry and the sum of its group change by the same
pub groups-set : (ns sums : List ℕ) (i n m s t : ℕ) → Groups ns sums → slice_get ns i ≡ Some n → slice_get sums (i / 32) ≡ Some s
    → n + t ≡ s + m → Groups (set ns i m) (set sums (i / 32) t)
groups-set ns sums i n m s t g at-i at-s e k = go (cases_lt (i / 32) k) where
  go : ((i / 32 < k) ⊎ (k ≤ i / 32)) → total (take k (set sums (i / 32) t)) ≡ total (take (k * 32) (set ns i m))
  go (inl h) =
      let here = total-set-behind ns (k * 32) i n m at-i (omega arith) in
      let group = total-set-behind sums k (i / 32) s t at-s h in
      let same = g k in
      omega arith
  go (inr h) =
      total-set-before sums k (i / 32) t h ∙ g k ∙ sym (total-set-before ns (k * 32) i m (omega arith))

pub groups-zeros : (n m : ℕ) → Groups (replicate n 0) (replicate m 0)
groups-zeros n m k = total-zeros k m ∙ sym (total-zeros (k * 32) n)
