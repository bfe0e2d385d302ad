-- What pairs end as, where the value at a key was lent to be written.
use Rattle.std.specs.Prelude.{List, [], ◌∷◌, Option}
use Rattle.std.specs.Borrow.{Fml, MutBor, LendsIf}
use denote.Struct.Tuple.{Tuple}
use Rattle.spl_value.specs.declared.value.Value.{Value}
use Rattle.spl_value.specs.contracts.segmented_list.SegmentedList as pairs
use Rattle.spl_value.specs.contracts.value.Value as value
use Rattle.spl_value.specs.Pairs.{pairs_put}

-- the pairs have at the key the last value written through r, and without the key they stay
abbrev pub LendsValue : MutBor (List (Value × Value)) → Value → Option (MutBor Value) → Fml
LendsValue s k r = LendsIf (pairs.the_row (Tuple (value.the_row ∷ value.the_row ∷ []))) value.the_row s r (pairs_put s.now k) s.now
