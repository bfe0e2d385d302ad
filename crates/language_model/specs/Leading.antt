-- What leads back to itself, where each of some places leads to others.
use Rattle.std.specs.Prelude.{ℕ, zero, suc, ◌==◌, Bool, false, ◌||◌, List}
use Rattle.std.specs.List.{list_any}

-- one place leads to another, in one step or more and in at most this number of steps
abbrev pub leads : ℕ → (ℕ → List ℕ) → ℕ → ℕ → Bool
leads zero next from to = false
leads (suc count) next from to = list_any (λ n. (n == to) || leads count next n to) (next from)

-- it leads back to itself. Among `count` places a way that passes none twice has no more steps
abbrev pub leads_back : ℕ → (ℕ → List ℕ) → ℕ → Bool
leads_back count next place = leads count next place place
