-- Tuples that are looked at where they stand.
use Rattle.std.specs.Prelude.{List, map}
use Rattle.std.specs.Borrow.{Bor}
use Rattle.std.specs.Global.{Vec}
use Rattle.spl_value.specs.declared.value.Value.{Value}

-- the tuples that references point to
abbrev pub seen : List (Bor (List Value)) → List (List Value)
seen refs = map (λ (r : Bor (List Value)). r.now) refs

-- a key with the tuples of its group
abbrev pub entry_of : List Value × Vec (Bor (List Value)) → List Value × List (List Value)
entry_of e = (e.0, seen e.1.items)
