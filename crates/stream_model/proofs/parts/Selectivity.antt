-- Words for parts of the rules of selectivity, by which proofs speak of them.
use Rattle.std.specs.Prelude.{ℕ, ◌+◌, ◌==◌, nat_le, max, Bool, false, Option, option_map}
use Rattle.std.specs.Option.{option_and_then, option_map_or}

abbrev pub sum_of : Option ℕ → Option ℕ → Option ℕ
sum_of first second = option_and_then (λ m. option_map (λ n. m + n) second) first

abbrev pub larger_of : Option ℕ → Option ℕ → Option ℕ
larger_of first second = option_and_then (λ m. option_map (λ n. max m n) second) first

abbrev pub is_number : ℕ → Option ℕ → Bool
is_number n number = option_map_or (λ m. m == n) number false

abbrev pub is_at_most : ℕ → Option ℕ → Bool
is_at_most n number = option_map_or (λ m. nat_le m n) number false
