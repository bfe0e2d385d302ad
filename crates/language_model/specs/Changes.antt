-- What a place is: the variable that is changed or what is taken of it in turn, and how the variable's value changes
-- with it.
use Rattle.std.specs.Prelude.{ℕ, pos, List, [], ◌∷◌, Option, None, Some, slice_get, slice_set}
use Rattle.std.specs.Option.{option_map_or}
use Rattle.spl_value.specs.declared.item.FaultKind.TheVariants as F
use Rattle.spl_value.specs.declared.value.Value.{Value}
use Rattle.spl_value.specs.declared.value.Value.TheVariants as V
use Rattle.spl_value.specs.declared.value.Value.TheOpen as O
use Rattle.spl_value.specs.declared.value.Value.TheOpen.{Value-F}
use Rattle.spl_value.specs.declared.value.Value.TheViews.{out-Value}
use Rattle.spl_value.specs.Calls.{CallOutcome, Gives, Faults, Unfit}
use Rattle.spl_value.specs.Pairs.{pairs_get, pairs_put}
use Rattle.spl_tree.specs.declared.body.Change.{Change}
use Rattle.spl_tree.specs.declared.body.Change.TheVariants as H
use Rattle.spl_tree.specs.declared.code.Selector.{Selector}
use Rattle.spl_tree.specs.declared.code.Selector.TheVariants as K
use Rattle.language_model.specs.BuiltInCalls.{level_place_call}
use Rattle.language_model.specs.Operators.{level_member, level_element, level_at_key}

-- a value that is given is passed on
abbrev pub passed_on : CallOutcome → (Value → CallOutcome) → CallOutcome
passed_on (Gives v) f = f v
passed_on (Faults kind) f = Faults kind
passed_on Unfit f = Unfit

-- what a step takes of a value
abbrev pub step_of : Selector Value → Value → CallOutcome
step_of (K.Member i) v = level_member i (out-Value v)
step_of (K.Element n) v = level_element (out-Value v) (out-Value n)
step_of (K.AtKey k) v = level_at_key (out-Value v) k

-- the place in a list of an element that was found there
abbrev pub found_index : Value-F Value → ℕ
found_index (O.Int (pos i)) = i
found_index _ = 0

-- what becomes of a value where that which the step takes of it is changed so. At a key that a map doesn't have there
-- is nothing to be changed; what an assignment makes of nothing is added there
abbrev pub level_changed : Selector Value → (Option Value → CallOutcome) → Value-F Value → CallOutcome
level_changed (K.Member i) change (O.Tuple vs) =
    passed_on (option_map_or Gives (slice_get vs i) Unfit) (λ old.
    passed_on (change (Some old)) (λ new. Gives (V.Tuple (slice_set vs i new))))
level_changed (K.Element n) change (O.List vs) =
    passed_on (level_element (O.List vs) (out-Value n)) (λ old.
    passed_on (change (Some old)) (λ new. Gives (V.List (slice_set vs (found_index (out-Value n)) new))))
level_changed (K.AtKey k) change (O.Map ps) =
    passed_on (change (pairs_get ps k)) (λ new. Gives (V.Map (pairs_put ps k new)))
level_changed _ change _ = Unfit

-- what becomes of a value where that which the steps take of it in turn is changed so. Only the last step may add a key
abbrev pub changed : List (Selector Value) → (Option Value → CallOutcome) → Option Value → CallOutcome
changed [] change old = change old
changed (t ∷ ts) change None = Faults F.NoKey
changed (t ∷ ts) change (Some v) = level_changed t (changed ts change) (out-Value v)

-- what a change makes of what a place holds. Only an assignment makes something of nothing
abbrev pub change_of : Change Value → Option Value → CallOutcome
change_of (H.Put v) old = Gives v
change_of call None = Faults F.NoKey
change_of call (Some old) = level_place_call call (out-Value old)
