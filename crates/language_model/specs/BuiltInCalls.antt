-- What the calls that the language has built in give: a line for each call and the variants of its arguments; all else
-- is `Unfit`. `currentPunct()` isn't among them: it is read together with what it is compared to.
use Rattle.std.specs.Prelude.{pos, nat_abs, nat_lt, if◌then◌else◌, List, [], ◌∷◌, ◌++◌, length, take, drop}
use Rattle.spl_value.specs.declared.item.FaultKind.TheVariants.{Index}
use Rattle.spl_value.specs.declared.value.Value.{Value}
use Rattle.spl_value.specs.declared.value.Value.TheVariants as V
use Rattle.spl_value.specs.declared.value.Value.TheOpen as O
use Rattle.spl_value.specs.declared.value.Value.TheOpen.{Value-F}
use Rattle.spl_value.specs.declared.value.Value.TheViews.{roll-Value}
use Rattle.spl_value.specs.Calls.{CallOutcome, Gives, Faults, Unfit, count_value, lesser, greater}
use Rattle.spl_value.specs.Pairs.{pairs_contain, pairs_without}
use Rattle.spl_value.specs.Wrap.{wrapped}
use Rattle.spl_tree.specs.declared.body.Change.{Change}
use Rattle.spl_tree.specs.declared.body.Change.TheVariants as H
use Rattle.spl_tree.specs.declared.code.BuiltIn.{BuiltIn}
use Rattle.spl_tree.specs.declared.code.BuiltIn.TheVariants as Q

-- ---- calls in expressions

-- what a call gives, by the variants of its arguments; `roll-Value` gives their values. The second line of `substring`
-- is met where `from` or `count` is negative
abbrev pub level_call : BuiltIn → List (Value-F Value) → CallOutcome
level_call Q.Length (O.Text bytes ∷ []) = Gives (count_value (length bytes))
level_call Q.Size (O.List vs ∷ []) = Gives (count_value (length vs))
level_call Q.Size (O.Map ps ∷ []) = Gives (count_value (length ps))
level_call Q.Has (O.Map ps ∷ key ∷ []) = Gives (V.Bool (pairs_contain ps (roll-Value key)))
level_call (Q.Abs kind) (O.Int n ∷ []) = Gives (V.Int (wrapped kind (pos (nat_abs n))))
level_call Q.Min (O.Int m ∷ O.Int n ∷ []) = Gives (lesser (V.Int m) (V.Int n))
level_call Q.Min (O.Text xs ∷ O.Text ys ∷ []) = Gives (lesser (V.Text xs) (V.Text ys))
level_call Q.Max (O.Int m ∷ O.Int n ∷ []) = Gives (greater (V.Int m) (V.Int n))
level_call Q.Max (O.Text xs ∷ O.Text ys ∷ []) = Gives (greater (V.Text xs) (V.Text ys))
level_call Q.Substring (O.Text bytes ∷ O.Int (pos from) ∷ O.Int (pos count) ∷ []) =
    if nat_lt (length bytes) from then Faults Index else Gives (V.Text (take count (drop from bytes)))
level_call Q.Substring (O.Text bytes ∷ O.Int from ∷ O.Int count ∷ []) = Faults Index
level_call _ _ = Unfit

-- ---- calls that change a place: `appendM`, `removeM` and `clearM`

-- what a call makes of the value that a place holds, by its variant. Removing a key that isn't there changes nothing.
-- An assignment is no call
abbrev pub level_place_call : Change Value → Value-F Value → CallOutcome
level_place_call (H.Append v) (O.List vs) = Gives (V.List (vs ++ v ∷ []))
level_place_call (H.Remove key) (O.Map ps) = Gives (V.Map (pairs_without ps key))
level_place_call H.Clear (O.List vs) = Gives (V.List [])
level_place_call H.Clear (O.Map ps) = Gives (V.Map [])
level_place_call _ _ = Unfit
