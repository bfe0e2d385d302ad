-- The built-in calls: what each of them gives, and the types of its arguments.
use Rattle.std.specs.Prelude.{◌≡◌, ◌⊎◌, ℕ, nat_lt, ℤ, pos, nat_abs, Bool, true, false, IsTrue, if◌then◌else◌, List, [], ◌∷◌, ◌++◌, length, take, drop}
use Rattle.std.specs.Ordering.{is_gt}
use Rattle.spl_value.specs.declared.item.Evaluated.{Evaluated}
use Rattle.spl_value.specs.declared.item.Evaluated.TheVariants as E
use Rattle.spl_value.specs.declared.item.FaultKind.{FaultKind}
use Rattle.spl_value.specs.declared.item.FaultKind.TheVariants.{Index}
use Rattle.spl_value.specs.declared.types.IntKind.{IntKind}
use Rattle.spl_value.specs.declared.types.IntKind.TheVariants.{I32}
use Rattle.spl_value.specs.declared.types.SplType.{SplType}
use Rattle.spl_value.specs.declared.types.SplType.TheVariants as S
use Rattle.spl_value.specs.declared.value.Value.{Value}
use Rattle.spl_value.specs.declared.value.Value.TheVariants as V
use Rattle.spl_value.specs.declared.value.Value.TheOpen as O
use Rattle.spl_value.specs.declared.value.Value.TheOpen.{Value-F}
use Rattle.spl_value.specs.declared.value.Value.TheViews.{out-Value}
use Rattle.spl_value.specs.Order.{value_cmp}
use Rattle.spl_value.specs.Pairs.{pairs_contain, pairs_without}
use Rattle.spl_value.specs.Values.{fits}
use Rattle.spl_value.specs.Wrap.{wrapped}

-- what a call gives: a value, a fault, or neither, where the arguments aren't of the variants that
-- the call takes. Whether they are of its types is said below, by `fits`
pub data CallOutcome : Type 0 where
  Gives : Value → CallOutcome
  Faults : FaultKind → CallOutcome
  Unfit : CallOutcome

-- ---- length and size

-- a number of bytes, elements or pairs, cast to int32
abbrev pub count_value : ℕ → Value
count_value n = V.Int (wrapped I32 (pos n))

-- how many bytes a text has
abbrev pub length_at : Value-F Value → CallOutcome
length_at (O.Text bytes) = Gives (count_value (length bytes))
length_at _ = Unfit

abbrev pub length_of : Value → CallOutcome
length_of text = length_at (out-Value text)

-- how many elements a list has, or pairs a map
abbrev pub size_at : Value-F Value → CallOutcome
size_at (O.List values) = Gives (count_value (length values))
size_at (O.Map pairs) = Gives (count_value (length pairs))
size_at _ = Unfit

abbrev pub size_of : Value → CallOutcome
size_of v = size_at (out-Value v)

-- ---- has, appendM, removeM and clearM

-- whether a map has the key
abbrev pub has_at : Value-F Value → Value → CallOutcome
has_at (O.Map pairs) key = Gives (V.Bool (pairs_contain pairs key))
has_at _ key = Unfit

abbrev pub has_key : Value → Value → CallOutcome
has_key map key = has_at (out-Value map) key

-- the list with the value at its end
abbrev pub append_at : Value-F Value → Value → CallOutcome
append_at (O.List values) v = Gives (V.List (values ++ v ∷ []))
append_at _ v = Unfit

abbrev pub append_of : Value → Value → CallOutcome
append_of list v = append_at (out-Value list) v

-- the map without the key: where it doesn't have it, the map as it is
abbrev pub remove_at : Value-F Value → Value → CallOutcome
remove_at (O.Map pairs) key = Gives (V.Map (pairs_without pairs key))
remove_at _ key = Unfit

abbrev pub remove_of : Value → Value → CallOutcome
remove_of map key = remove_at (out-Value map) key

-- the empty list, or the empty map
abbrev pub clear_at : Value-F Value → CallOutcome
clear_at (O.List values) = Gives (V.List [])
clear_at (O.Map pairs) = Gives (V.Map [])
clear_at _ = Unfit

abbrev pub clear_of : Value → CallOutcome
clear_of v = clear_at (out-Value v)

-- ---- abs, min and max

-- how far a number is from 0, wrapped in its kind
abbrev pub abs_at : IntKind → Value-F Value → CallOutcome
abs_at kind (O.Int n) = Gives (V.Int (wrapped kind (pos (nat_abs n))))
abs_at kind _ = Unfit

abbrev pub abs_of : IntKind → Value → CallOutcome
abs_of kind n = abs_at kind (out-Value n)

-- two integers, or two texts
abbrev pub are_alike : Value-F Value → Value-F Value → Bool
are_alike (O.Int n) (O.Int m) = true
are_alike (O.Text xs) (O.Text ys) = true
are_alike _ _ = false

abbrev pub if_alike : Value → Value → Value → CallOutcome
if_alike a b v = if are_alike (out-Value a) (out-Value b) then Gives v else Unfit

-- the one that isn't greater than the other, and the one that isn't less; equal ones are the same value
abbrev pub lesser : Value → Value → Value
lesser a b = if is_gt (value_cmp a b) then b else a

abbrev pub greater : Value → Value → Value
greater a b = if is_gt (value_cmp a b) then a else b

abbrev pub min_of : Value → Value → CallOutcome
min_of a b = if_alike a b (lesser a b)

abbrev pub max_of : Value → Value → CallOutcome
max_of a b = if_alike a b (greater a b)

-- ---- substring

-- at most `count` bytes from `from` on, counted from 0: a fault where `from` is negative or above the
-- length, or `count` is negative
abbrev pub part_of : List ℕ → ℤ → ℤ → CallOutcome
part_of bytes (pos from) (pos count) = if nat_lt (length bytes) from then Faults Index else Gives (V.Text (take count (drop from bytes)))
part_of bytes _ _ = Faults Index

abbrev pub substring_at : Value-F Value → Value-F Value → Value-F Value → CallOutcome
substring_at (O.Text bytes) (O.Int from) (O.Int count) = part_of bytes from count
substring_at _ _ _ = Unfit

abbrev pub substring_of : Value → Value → Value → CallOutcome
substring_of s from count = substring_at (out-Value s) (out-Value from) (out-Value count)

-- ---- the types of the arguments

-- a list or map type
abbrev pub IsCollection : SplType → Type 0
IsCollection t = ((element : SplType) × (t ≡ S.List element)) ⊎ ((key : SplType) × (held : SplType) × (t ≡ S.Map key held))

-- an integer type, or `rstring`
abbrev pub IsOrdered : SplType → Type 0
IsOrdered t = ((kind : IntKind) × (t ≡ S.Int kind)) ⊎ (t ≡ S.Text)

-- the value is of a list or map type
abbrev pub FitsCollection : Value → Type 0
FitsCollection v = (t : SplType) × IsCollection t × IsTrue (fits t v)

-- the map is of a map type, and the key of the type of its keys
abbrev pub FitMapAndKey : Value → Value → Type 0
FitMapAndKey map key = (k : SplType) × (t : SplType) × IsTrue (fits (S.Map k t) map) × IsTrue (fits k key)

-- the list is of a list type, and the value of the type of its elements
abbrev pub FitListAndElement : Value → Value → Type 0
FitListAndElement list v = (t : SplType) × IsTrue (fits (S.List t) list) × IsTrue (fits t v)

-- both values are of one integer type, or texts
abbrev pub FitOrdered : Value → Value → Type 0
FitOrdered a b = (t : SplType) × IsOrdered t × IsTrue (fits t a) × IsTrue (fits t b)

-- ---- answers

-- a result is what the call gives
abbrev pub Exactly : Evaluated → CallOutcome → Type 0
Exactly (E.Value v) called = called ≡ Gives v
Exactly (E.Bad kind) called = called ≡ Faults kind
Exactly E.Memory called = ⊥

-- or memory runs out
abbrev pub Answers : Evaluated → CallOutcome → Type 0
Answers E.Memory called = Unit
Answers result called = Exactly result called

-- the call gives a value of the type
abbrev pub GivesOf : SplType → CallOutcome → Type 0
GivesOf t (Gives v) = IsTrue (fits t v)
GivesOf t _ = ⊥

-- or the fault Index
abbrev pub GivesOrIndex : SplType → CallOutcome → Type 0
GivesOrIndex t (Gives v) = IsTrue (fits t v)
GivesOrIndex t (Faults Index) = Unit
GivesOrIndex t _ = ⊥
