-- What the keys of an operator are copies of.
use Rattle.std.specs.Prelude.{ℕ, ◌==◌, Bool, List, [], ◌∷◌, Option, None, Some, if◌then◌else◌}
use Rattle.std.specs.List.{list_any}
use Rattle.stream_model.specs.parts.Regions.{is_it}
use Rattle.region_choice.specs.declared.keys.KeySource.{KeySource}

-- the attribute of which the key at this place is a copy
abbrev pub source_at : List KeySource → ℕ → Option ℕ
source_at [] p = None
source_at (x ∷ xs) p = if x.place == p then x.source else source_at xs p

-- one of the keys is a copy of the attribute
abbrev pub is_copied : List KeySource → ℕ → Bool
is_copied sources a = list_any (λ (x : KeySource). is_it x.source a) sources

abbrev pub copied : List KeySource → ℕ → Option ℕ
copied sources a = if is_copied sources a then Some a else None
