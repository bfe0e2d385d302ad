-- Counts add up as their numbers do.
use Rattle.std.specs.Prelude.{◌≡◌, ◌≤◌, ◌+◌, ◌||◌, ℕ, zero, suc, Bool, Option, None, Some, min, max}
use Rattle.std.proofs.Common.{refl, ap, ◌∙◌, arith}
use Rattle.selectivity_rules.specs.declared.counts.Count.{Count}
use Rattle.selectivity_rules.specs.declared.counts.Count.TheVariants as C
use Rattle.selectivity_rules.specs.declared.counts.Submits.{Submits}
use Rattle.selectivity_rules.specs.steps.Counts.{plus, smaller, larger, several, both_of, either_of, repeated_of, cap, cap_most, capped}
use Rattle.stream_model.specs.Selectivity.{Interval, both, either, repeated, any_times}
use Rattle.stream_model.proofs.parts.Selectivity.{sum_of, larger_of}

cap_more : (n : ℕ) → 2 ≤ n → cap n ≡ C.More
cap_more zero h = absurd (omega arith)
cap_more (suc zero) h = absurd (omega arith)
cap_more (suc (suc n)) h = refl

cap_plus : (m n : ℕ) → cap (m + n) ≡ plus (cap m) (cap n)
cap_plus zero n = let e : zero + n ≡ n = omega arith in ap cap e
cap_plus (suc zero) zero = let e : 1 + 0 ≡ 1 = omega arith in ap cap e
cap_plus (suc zero) (suc zero) = cap_more (1 + 1) (omega arith)
cap_plus (suc zero) (suc (suc n)) = cap_more (1 + suc (suc n)) (omega arith)
cap_plus (suc (suc m)) n = cap_more (suc (suc m) + n) (omega arith)

cap_min : (m n : ℕ) → cap (min m n) ≡ smaller (cap m) (cap n)
cap_min zero n = let e : min zero n ≡ 0 = omega arith in ap cap e
cap_min (suc zero) zero = let e : min 1 0 ≡ 0 = omega arith in ap cap e
cap_min (suc zero) (suc zero) = let e : min 1 1 ≡ 1 = omega arith in ap cap e
cap_min (suc zero) (suc (suc n)) = let e : min 1 (suc (suc n)) ≡ 1 = omega arith in ap cap e
cap_min (suc (suc m)) zero = let e : min (suc (suc m)) 0 ≡ 0 = omega arith in ap cap e
cap_min (suc (suc m)) (suc zero) = let e : min (suc (suc m)) 1 ≡ 1 = omega arith in ap cap e
cap_min (suc (suc m)) (suc (suc n)) = cap_more (min (suc (suc m)) (suc (suc n))) (omega arith)

cap_max : (m n : ℕ) → cap (max m n) ≡ larger (cap m) (cap n)
cap_max zero n = let e : max zero n ≡ n = omega arith in ap cap e
cap_max (suc zero) zero = let e : max 1 0 ≡ 1 = omega arith in ap cap e
cap_max (suc zero) (suc zero) = let e : max 1 1 ≡ 1 = omega arith in ap cap e
cap_max (suc zero) (suc (suc n)) = cap_more (max 1 (suc (suc n))) (omega arith)
cap_max (suc (suc m)) n = cap_more (max (suc (suc m)) n) (omega arith)

most_plus : (m n : Option ℕ) → cap_most (sum_of m n) ≡ plus (cap_most m) (cap_most n)
most_plus None n = refl
most_plus (Some zero) None = refl
most_plus (Some (suc zero)) None = refl
most_plus (Some (suc (suc m))) None = refl
most_plus (Some m) (Some n) = cap_plus m n

most_larger : (m n : Option ℕ) → cap_most (larger_of m n) ≡ larger (cap_most m) (cap_most n)
most_larger None n = refl
most_larger (Some zero) None = refl
most_larger (Some (suc zero)) None = refl
most_larger (Some (suc (suc m))) None = refl
most_larger (Some m) (Some n) = cap_max m n

most_times : (m : Option ℕ) → cap_most (any_times m) ≡ several (cap_most m)
most_times None = refl
most_times (Some zero) = refl
most_times (Some (suc zero)) = refl
most_times (Some (suc (suc m))) = refl

abbrev made : Count → Count → Bool → Submits
made least most returns = record { least = least; most = most; returns = returns }

pub capped_both : (i j : Interval) → capped (both i j) ≡ both_of (capped i) (capped j)
capped_both i j = ap (λ a. made a (cap_most (sum_of i.most j.most)) (i.returns || j.returns)) (cap_plus i.least j.least)
    ∙ ap (λ b. made (plus (cap i.least) (cap j.least)) b (i.returns || j.returns)) (most_plus i.most j.most)

pub capped_either : (i j : Interval) → capped (either i j) ≡ either_of (capped i) (capped j)
capped_either i j = ap (λ a. made a (cap_most (larger_of i.most j.most)) (i.returns || j.returns)) (cap_min i.least j.least)
    ∙ ap (λ b. made (smaller (cap i.least) (cap j.least)) b (i.returns || j.returns)) (most_larger i.most j.most)

pub capped_repeated : (i : Interval) → capped (repeated i) ≡ repeated_of (capped i)
capped_repeated i = ap (λ b. made C.Zero b i.returns) (most_times i.most)

pub ruleset capping_laws = (capped_both, capped_either, capped_repeated)
