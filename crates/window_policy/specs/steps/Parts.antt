-- The keys that are noted, and what is taken of each.
use Rattle.std.specs.Prelude.{Bool, true, cond, List, ◌≡◌}
use Rattle.indexmap.specs.IndexSet.{IndexSet, contains}
use Rattle.spl_value.specs.declared.value.Value.{Value}
use Rattle.window_policy.specs.declared.part.Part.{Part}
use Rattle.key_maps.specs.MapKeys.{equal_key}

-- a key is noted where markers flush
abbrev pub Notes : {S : Type 0} → Bool → IndexSet (List Value) S → IndexSet (List Value) S → List Value → Type 0
Notes flushes old new key = (k : List Value) → contains equal_key new k ≡ cond flushes (cond (equal_key key k) true (contains equal_key old k)) (contains equal_key old k)

-- a key with the tuples that are kept for it
abbrev pub taken : List Value × Part → List Value × List (List Value)
taken e = (e.0, e.1.kept.items)
