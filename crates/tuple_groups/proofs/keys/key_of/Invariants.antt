use Rattle.std.proofs.Common.{◌≡◌, ◌++◌, drop}
use Rattle.spl_value.specs.Key.{key_of}
use Rattle.tuple_groups.proofs.keys.key_of.Given as goal

-- the values so far and those at what is left are all
abbrev pub invariant-loop-place : goal.invariant-loop-place
invariant-loop-place l = l.key ++ key_of l.tuple (drop l.place-index l.place-items) ≡ key_of l.tuple l.place-items
