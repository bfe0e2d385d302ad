-- The laws of the built-in calls: arguments of the types that a call takes give a value of its type,
-- and what calls give is said in other words.
use Rattle.std.specs.Prelude.{◌≡◌, ◌≢◌, ◌⊎◌, ◌↔◌, ℕ, ◌<ℤ◌, ◌-◌, ◌^◌, ◌<◌, min, ℤ, pos, nat_abs, false, IsTrue, List, ◌++◌, length}
use Rattle.std.specs.declared.cmp.Ordering.TheVariants.{Less, Greater}
use Rattle.spl_value.specs.declared.item.FaultKind.TheVariants.{Index}
use Rattle.spl_value.specs.declared.types.IntKind.{IntKind}
use Rattle.spl_value.specs.declared.types.IntKind.TheVariants.{I32}
use Rattle.spl_value.specs.declared.types.SplType.{SplType}
use Rattle.spl_value.specs.declared.types.SplType.TheVariants as S
use Rattle.spl_value.specs.declared.value.Value.{Value}
use Rattle.spl_value.specs.declared.value.Value.TheVariants as V
use Rattle.spl_value.specs.Order.{value_cmp}
use Rattle.spl_value.specs.Values.{fits, kind_holds}
use Rattle.spl_value.specs.Calls.{Gives, Faults, count_value, length_of, size_of, has_key, append_of, remove_of, clear_of, abs_of, greater, min_of, max_of, substring_of, IsCollection, IsOrdered, FitsCollection, FitMapAndKey, GivesOf, GivesOrIndex}

-- ---- the types of what calls give

-- length, of a text: int32
abbrev pub LengthLaw : Type 0
LengthLaw = (text : Value) → IsTrue (fits S.Text text) → GivesOf (S.Int I32) (length_of text)

-- size, of a list or a map: int32
abbrev pub SizeLaw : Type 0
SizeLaw = (v : Value) → FitsCollection v → GivesOf (S.Int I32) (size_of v)

-- has, of a map and a key: boolean
abbrev pub HasLaw : Type 0
HasLaw = (map key : Value) → FitMapAndKey map key → GivesOf S.Bool (has_key map key)

-- appendM, of a list and an element: a list of the same type
abbrev pub AppendLaw : Type 0
AppendLaw = (t : SplType) (list v : Value) → IsTrue (fits (S.List t) list) → IsTrue (fits t v) → GivesOf (S.List t) (append_of list v)

-- removeM, of a map and a key: a map of the same type
abbrev pub RemoveLaw : Type 0
RemoveLaw = (k t : SplType) (map key : Value) → IsTrue (fits (S.Map k t) map) → IsTrue (fits k key) → GivesOf (S.Map k t) (remove_of map key)

-- clearM, of a list or a map: one of the same type
abbrev pub ClearLaw : Type 0
ClearLaw = (t : SplType) (v : Value) → IsCollection t → IsTrue (fits t v) → GivesOf t (clear_of v)

-- abs, of an integer: one of the same type
abbrev pub AbsLaw : Type 0
AbsLaw = (kind : IntKind) (n : Value) → IsTrue (fits (S.Int kind) n) → GivesOf (S.Int kind) (abs_of kind n)

-- min and max, of two integers of one type or of two texts: one of the same type
abbrev pub MinLaw : Type 0
MinLaw = (t : SplType) (a b : Value) → IsOrdered t → IsTrue (fits t a) → IsTrue (fits t b) → GivesOf t (min_of a b)

abbrev pub MaxLaw : Type 0
MaxLaw = (t : SplType) (a b : Value) → IsOrdered t → IsTrue (fits t a) → IsTrue (fits t b) → GivesOf t (max_of a b)

-- substring, of a text and two int32: a text, or the fault Index
abbrev pub SubstringLaw : Type 0
SubstringLaw = (s from count : Value) → IsTrue (fits S.Text s) → IsTrue (fits (S.Int I32) from) → IsTrue (fits (S.Int I32) count)
    → GivesOrIndex S.Text (substring_of s from count)

-- ---- what calls give, in other words

-- a count below 2^31 is given as its number
abbrev pub CountLaw : Type 0
CountLaw = (n : ℕ) → n < 2 ^ 31 → count_value n ≡ V.Int (pos n)

-- a number whose distance from 0 is of its kind gives that distance
abbrev pub DistanceLaw : Type 0
DistanceLaw = (kind : IntKind) (n : ℤ) → IsTrue (kind_holds kind (pos (nat_abs n))) → abs_of kind (V.Int n) ≡ Gives (V.Int (pos (nat_abs n)))

-- one of the kind whose distance isn't, which is the kind's least number, gives itself
abbrev pub LeastNumberLaw : Type 0
LeastNumberLaw = (kind : IntKind) (n : ℤ) → IsTrue (kind_holds kind n) → kind_holds kind (pos (nat_abs n)) ≡ false → abs_of kind (V.Int n) ≡ Gives (V.Int n)

-- v is one of the two, and greater than neither
abbrev pub IsLeast : Value → Value → Value → Type 0
IsLeast a b v = ((v ≡ a) ⊎ (v ≡ b)) × (value_cmp v a ≢ Greater) × (value_cmp v b ≢ Greater)

abbrev pub LeastLaw : Type 0
LeastLaw = (a b v : Value) → min_of a b ≡ Gives v → IsLeast a b v

-- v is one of the two, and less than neither
abbrev pub IsGreatest : Value → Value → Value → Type 0
IsGreatest a b v = ((v ≡ a) ⊎ (v ≡ b)) × (value_cmp v a ≢ Less) × (value_cmp v b ≢ Less)

abbrev pub GreatestLaw : Type 0
GreatestLaw = (a b v : Value) → max_of a b ≡ Gives v → IsGreatest a b v

-- a part of the bytes, with `from` bytes before it, has `count` bytes, or all that are left
abbrev pub IsPart : List ℕ → ℕ → ℕ → List ℕ → Type 0
IsPart bytes from count part =
    (before : List ℕ) × (behind : List ℕ) × (bytes ≡ before ++ part ++ behind) × (length before ≡ from) × (length part ≡ min count (length bytes - from))

abbrev pub PartLaw : Type 0
PartLaw = (bytes part : List ℕ) (from count : ℕ) → substring_of (V.Text bytes) (V.Int (pos from)) (V.Int (pos count)) ≡ Gives (V.Text part) → IsPart bytes from count part

-- `from` is negative or above the length, or `count` is negative
abbrev pub IsOutside : List ℕ → ℤ → ℤ → Type 0
IsOutside bytes from count = (from <ℤ pos 0) ⊎ ((pos (length bytes) <ℤ from) ⊎ (count <ℤ pos 0))

abbrev pub IndexLaw : Type 0
IndexLaw = (bytes : List ℕ) (from count : ℤ) → (substring_of (V.Text bytes) (V.Int from) (V.Int count) ≡ Faults Index) ↔ IsOutside bytes from count
