-- Which names a table holds.
use Rattle.std.specs.Prelude.{◌≡◌, ℕ, Bool, List, length}
use Rattle.std.specs.Borrow.{Bor}
use Rattle.std.specs.HashMap.{get}
use Rattle.std.specs.Str.{bytes_eq}
use Rattle.language_model.specs.Expansion.{place_of}
use Rattle.program_tables.specs.declared.names.Names.{Names}

abbrev pub same_bytes : Bor (List ℕ) → Bor (List ℕ) → Bool
same_bytes x y = bytes_eq x.now y.now

-- it has the first place of each name of the list, and no other name
pub record HoldsNames (table : Names) (names : List (List ℕ)) : Type 0 where
  pub count : table.count ≡ length names
  pub places : (q : Bor (List ℕ)) → get same_bytes table.places q ≡ place_of q.now names
