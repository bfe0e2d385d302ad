-- What a feed has left, a pour has taken and a shelf holds, where they tell it.
use Rattle.std.specs.Prelude.{◌≡◌, ◌<◌, ◌≤◌, ℕ, List, [], ◌++◌, length, take, Bool, true, false, ⊤, Option, Some, None, Result, Ok, Err}
use Rattle.spl_value.specs.Script.{Script, End}
use Rattle.spl_value.specs.Script as S
use Rattle.feed_pour.specs.declared.outside.Failed.{Failed}
use Rattle.feed_pour.specs.declared.outside.PourAnswer.{PourAnswer}
use Rattle.feed_pour.specs.declared.outside.PourAnswer.TheVariants as P
use Rattle.feed_pour.specs.declared.outside.Opened.{Opened}
use Rattle.feed_pour.specs.declared.outside.Opened.TheVariants as O
use Rattle.feed_pour.specs.declared.whole.ReadAll.{ReadAll}
use Rattle.feed_pour.specs.declared.whole.ReadAll.TheVariants as R
use Rattle.feed_pour.specs.Counts.{OthersStay}

-- a read of a piece answered n, with the piece as it stands after it
pub record Gave (script : Script) (now : Option Script) (n : ℕ) (piece : List ℕ) : Type 0 where
  pub rest : List ℕ
  pub front : script.bytes ≡ take n piece ++ rest
  pub left : 0 < n → now ≡ Some (record { bytes = rest; ending = script.ending })
  pub over : n ≡ 0 → script ≡ record { bytes = []; ending = End }

-- a read into a piece of 8,192 bytes: it fails only where none is left and the script ends so
abbrev pub PieceGiven : Option Script → Option Script → Result ℕ Failed → List ℕ → Type 0
PieceGiven None now r piece = ⊤
PieceGiven (Some script) now (Ok n) piece = Gave script now n piece
PieceGiven (Some script) now (Err e) piece = script ≡ record { bytes = []; ending = S.Failed }

-- a read of any length takes a front of what is left
pub record Took (before : List ℕ) (now : Option (List ℕ)) (n : ℕ) (piece : List ℕ) : Type 0 where
  pub rest : List ℕ
  pub front : before ≡ take n piece ++ rest
  pub left : now ≡ Some rest
  pub over : n ≡ 0 → before ≡ []

-- a read takes what it places from what is left; one that fails takes nothing
abbrev pub LeftTaken : Option (List ℕ) → Option (List ℕ) → Result ℕ Failed → List ℕ → Type 0
LeftTaken None now r piece = ⊤
LeftTaken (Some left) now (Ok n) piece = Took left now n piece
LeftTaken (Some left) now (Err e) piece = now ≡ Some left

-- a write poured a front, whose length is the answer
abbrev pub Poured : Option (List ℕ) → Option (List ℕ) → Result ℕ PourAnswer → List ℕ → Type 0
Poured None now r from = ⊤
Poured (Some old) now (Ok n) from = now ≡ Some (old ++ take n from)
Poured (Some old) now (Err P.Failed) from = (n : ℕ) × (n ≤ length from) × (now ≡ Some (old ++ take n from))
Poured (Some old) now (Err P.Memory) from = now ≡ Some old

-- a write that takes all of its bytes, or none of them
abbrev pub PouredWhole : Option (List ℕ) → Option (List ℕ) → Result ℕ PourAnswer → List ℕ → Type 0
PouredWhole None now r from = ⊤
PouredWhole (Some old) now (Ok n) from = (n ≡ length from) × (now ≡ Some (old ++ from))
PouredWhole (Some old) now (Err e) from = now ≡ Some old

-- the answers as tests
abbrev pub failed_read : {T : Type 0} → Result T Failed → Bool
failed_read (Ok n) = false
failed_read (Err e) = true

abbrev pub failed_write : {T : Type 0} → Result T PourAnswer → Bool
failed_write (Ok n) = false
failed_write (Err P.Failed) = true
failed_write (Err P.Memory) = false

abbrev pub failed_open : {T : Type 0} → Opened T → Bool
failed_open (O.Ok x) = false
failed_open O.Failed = true
failed_open O.Memory = false

-- what a shelf tells: the bytes under each name, where there are any, and each name's script
pub record Told : Type 0 where
  pub holds : List ℕ → Option (List ℕ)
  pub script : List ℕ → Script

-- what is told stays for every name
pub record TellsSame (old : Told) (new : Told) : Type 0 where
  pub holds : (n : List ℕ) → new.holds n ≡ old.holds n
  pub script : (n : List ℕ) → new.script n ≡ old.script n

-- what is told stays for every other name
pub record TellsOthers (old : Told) (new : Told) (name : List ℕ) : Type 0 where
  pub holds : OthersStay old.holds new.holds name
  pub script : OthersStay old.script new.script name

-- a relation of what was told and what is told, where it is
abbrev pub WhereTold : {A : Type 0} → Option A → Option A → (A → A → Type 0) → Type 0
WhereTold None new R = ⊤
WhereTold (Some x) None R = ⊥
WhereTold (Some x) (Some y) R = R x y

-- a fact for what was opened
abbrev pub IfOpened : {T : Type 0} → Opened T → (T → Type 0) → Type 0
IfOpened (O.Ok x) P = P x
IfOpened O.Failed P = ⊤
IfOpened O.Memory P = ⊤

-- whether there is an opened one
abbrev pub is_opened : {T : Type 0} → Opened T → Bool
is_opened (O.Ok x) = true
is_opened O.Failed = false
is_opened O.Memory = false

-- an answer that is not for lack of memory is a failure exactly where this says so
abbrev pub FailsWhere : {T : Type 0} → Bool → Opened T → Type 0
FailsWhere fails (O.Ok x) = fails ≡ false
FailsWhere fails O.Failed = fails ≡ true
FailsWhere fails O.Memory = ⊤

-- a name once known stays known
abbrev pub KeepsNames : (List ℕ → Type 0) → (List ℕ → Type 0) → Type 0
KeepsNames old new = (n : List ℕ) → old n → new n

-- the name is empty, and what is told of the others stays
pub record Empties (name : List ℕ) (old : Told) (new : Told) : Type 0 where
  pub others : TellsOthers old new name
  pub holds : new.holds name ≡ Some []

-- a created name is empty; where it was not created, nothing that is told changes
abbrev pub Created : Bool → List ℕ → Told → Told → Type 0
Created true name old new = Empties name old new
Created false name old new = TellsSame old new

-- what a finished name holds: what was poured, or a prefix of it
abbrev pub HeldAfter : Bool → Option (List ℕ) → Option (List ℕ) → Type 0
HeldAfter failed None holds = ⊤
HeldAfter false (Some poured) holds = holds ≡ Some poured
HeldAfter true (Some poured) holds = (n : ℕ) × (holds ≡ Some (take n poured))

-- a finished name, and what is told of the others stays
pub record Finished (failed : Bool) (name : List ℕ) (poured : Option (List ℕ)) (old : Told) (new : Told) : Type 0 where
  pub others : TellsOthers old new name
  pub holds : HeldAfter failed poured (new.holds name)

-- all that a feed gave, up to its end, a fault or a limit
abbrev pub AllRead : Option Script → ReadAll → ℕ → Type 0
AllRead None r limit = ⊤
AllRead (Some script) (R.Whole bytes) limit = (script ≡ record { bytes = bytes; ending = End }) × (length bytes ≤ limit)
AllRead (Some script) R.TooLong limit = limit < length script.bytes
AllRead (Some script) R.Failed limit = (script.ending ≡ S.Failed) × (length script.bytes ≤ limit)
AllRead (Some script) R.Memory limit = ⊤

-- what was read to its end has at most `limit` bytes
abbrev pub ReadWithin : ReadAll → ℕ → Type 0
ReadWithin (R.Whole bytes) limit = length bytes ≤ limit
ReadWithin R.TooLong limit = ⊤
ReadWithin R.Failed limit = ⊤
ReadWithin R.Memory limit = ⊤

-- whether a read failed
abbrev pub failed_read_all : ReadAll → Bool
failed_read_all (R.Whole bytes) = false
failed_read_all R.TooLong = false
failed_read_all R.Failed = true
failed_read_all R.Memory = false

-- after these bytes, this is left of a script
pub record Behind (script : Script) (taken : List ℕ) (now : Option Script) : Type 0 where
  pub rest : List ℕ
  pub front : script.bytes ≡ taken ++ rest
  pub left : now ≡ Some (record { bytes = rest; ending = script.ending })

-- where a script is told, this is what these bytes left of it
abbrev pub LeftBehind : Option Script → List ℕ → Option Script → Type 0
LeftBehind None taken now = ⊤
LeftBehind (Some script) taken now = Behind script taken now

-- all of these bytes were poured; where it failed or memory ran out, a front of them
abbrev pub AllPoured : Option (List ℕ) → Option (List ℕ) → Result (Unit {0}) PourAnswer → List ℕ → Type 0
AllPoured None now r bytes = ⊤
AllPoured (Some old) now (Ok u) bytes = now ≡ Some (old ++ bytes)
AllPoured (Some old) now (Err e) bytes = (n : ℕ) × (n ≤ length bytes) × (now ≡ Some (old ++ take n bytes))

-- these bytes were poured so far
abbrev pub PouredSoFar : Option (List ℕ) → Option (List ℕ) → List ℕ → Type 0
PouredSoFar None now front = ⊤
PouredSoFar (Some old) now front = now ≡ Some (old ++ front)
