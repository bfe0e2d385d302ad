-- Wrapping: the number of an integer kind that equals n modulo 2^bits of the kind.
use Rattle.std.specs.Prelude.{◌≡◌, ℕ, ◌-◌, ℤ, pos, ◌+ℤ◌, ◌-ℤ◌, ◌*ℤ◌}
use Rattle.std.specs.Int.{int_rem_euclid}
use Rattle.spl_value.specs.declared.types.IntKind.{IntKind}
use Rattle.spl_value.specs.Values.{modulus, top}

-- m and n are equal modulo q: they differ by a multiple of it
abbrev pub IsCongruent : ℕ → ℤ → ℤ → Type 0
IsCongruent q m n = (t : ℤ) × (m ≡ n +ℤ t *ℤ pos q)

-- how many of a kind's numbers are below 0
abbrev pub negatives : IntKind → ℕ
negatives k = modulus k - top k

-- the number that is as far above the kind's least number as n is, modulo how many numbers the kind has
abbrev pub wrapped : IntKind → ℤ → ℤ
wrapped k n = int_rem_euclid (n +ℤ pos (negatives k)) (pos (modulus k)) -ℤ pos (negatives k)
