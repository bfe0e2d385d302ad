-- The results of the steps of writing sinks: the files created, their rows written, and the files finished.
use Rattle.std.specs.Prelude.{◌≡◌, ◌≢◌, ◌<◌, ◌≤◌, ◌⊎◌, ℕ, List, [], ◌++◌, length, take, Bool, true, false, Option, Some, None, Result, Ok, Err, ⊤, slice_get}
use Rattle.std.specs.List.{All, Any, list_any, slice_index_or}
use Rattle.std.specs.Str.{bytes_eq}
use Rattle.spl_value.specs.declared.item.Item.{Item}
use Rattle.spl_value.specs.declared.memory.NoMemory.{NoMemory}
use Rattle.feed_pour.specs.Counts.{FaultCounts, OthersStay, PerName, Rose}
use Rattle.feed_pour.specs.Contents.{Told, TellsOthers, AllPoured, HeldAfter}
use Rattle.feed_pour.specs.declared.outside.PourAnswer.{PourAnswer}
use Rattle.feed_pour.specs.declared.outside.PourAnswer.TheVariants as P
use Rattle.file_adapters.specs.declared.sinks.Sink.{Sink}
use Rattle.file_adapters.specs.declared.sinks.Sunk.{Sunk}
use Rattle.file_adapters.specs.declared.sinks.Sunk.TheVariants as S
use Rattle.file_adapters.specs.declared.text.TextFile.{TextFile}
use Rattle.file_adapters.specs.Sinks.{HoldsFront, file_text}

-- ---- files

-- the name is the file of one of these sinks
abbrev pub is_file : List Sink → List ℕ → Bool
is_file sinks name = list_any (λ s. bytes_eq s.file name) sinks

-- only what is told of these sinks' files changes
abbrev pub OtherFilesStay : {A : Type 0} → List Sink → (List ℕ → A) → (List ℕ → A) → Type 0
OtherFilesStay sinks old new = (n : List ℕ) → is_file sinks n ≡ false → new n ≡ old n

-- the files of the first sinks are empty, and nothing else that is told changed
pub record SinksEmptied (place : ℕ) (sinks : List Sink) (old : Told) (new : Told) : Type 0 where
  pub empty : All (λ s. new.holds s.file ≡ Some []) (take place sinks)
  pub others : OtherFilesStay (take place sinks) old.holds new.holds
  pub scripts : OtherFilesStay (take place sinks) old.script new.script

-- ---- creating

-- how many files were created
abbrev pub CreatedCount : Result (Unit {0}) PourAnswer → ℕ → List Sink → Type 0
CreatedCount (Ok u) count sinks = count ≡ length sinks
CreatedCount (Err e) count sinks = count < length sinks

-- the creating of the file at this place failed, and nothing else was counted
pub record RoseCreating (place : ℕ) (sinks : List Sink) (old new : PerName) (s : Sink) : Type 0 where
  pub sink : slice_get sinks place ≡ Some s
  pub rose : Rose (old s.file).creating (new s.file).creating
  pub others : (n : List ℕ) → n ≢ s.file → new n ≡ old n

abbrev pub CreateCause : Result (Unit {0}) PourAnswer → ℕ → List Sink → PerName → PerName → Type 0
CreateCause (Ok u) place sinks old new = (n : List ℕ) → new n ≡ old n
CreateCause (Err P.Failed) place sinks old new = (s : Sink) × RoseCreating place sinks old new s
CreateCause (Err P.Memory) place sinks old new = (n : List ℕ) → new n ≡ old n

pub record CreateCounted (r : Result (Unit {0}) PourAnswer) (place : ℕ) (sinks : List Sink) (old new : PerName) : Type 0 where
  pub others : OtherFilesStay sinks old new
  pub opening : (n : List ℕ) → (new n).opening ≡ (old n).opening
  pub reading : (n : List ℕ) → (new n).reading ≡ (old n).reading
  pub writing : (n : List ℕ) → (new n).writing ≡ (old n).writing
  pub cause : CreateCause r place sinks old new

-- ---- writing

-- a front of a text was poured
abbrev pub FrontPoured : List ℕ → Option (List ℕ) → List ℕ → Type 0
FrontPoured old now text = (n : ℕ) × (n ≤ length text) × (now ≡ Some (old ++ take n text))

-- a text was poured, or a front of it where the pour counts faults, or where memory ran out
abbrev pub TextPoured : {A : Type 0} → Result A NoMemory → Option (List ℕ) → Option (List ℕ) → ℕ → List ℕ → Type 0
TextPoured r None now faults text = ⊤
TextPoured (Ok a) (Some old) now faults text = (now ≡ Some (old ++ text)) ⊎ ((0 < faults) × FrontPoured old now text)
TextPoured (Err e) (Some old) now faults text = FrontPoured old now text

-- into the pour of each sink its text was poured
abbrev pub EachPoured : {W A : Type 0} → (W → Option (List ℕ)) → (W → ℕ) → Result A NoMemory → List W → List W → List Sink → List (List Item) → Type 0
EachPoured {W} poured faults r olds news sinks streams = (k : ℕ) (d : W) (s : Sink) → k < length sinks →
    TextPoured r (poured (slice_index_or olds k d)) (poured (slice_index_or news k d)) (faults (slice_index_or news k d)) (file_text streams (slice_index_or sinks k s))

-- this number of rows was counted, unless the pour counts faults
abbrev pub CountedUnless : ℕ → ℕ → ℕ → Type 0
CountedUnless faults n rows = (n ≡ rows) ⊎ (0 < faults)

-- these numbers of each sink, unless some pour counts faults
abbrev pub AllCounted : {W : Type 0} → (W → ℕ) → List W → List ℕ → List ℕ → Type 0
AllCounted faults pours ns rows = (ns ≡ rows) ⊎ Any (λ p. 0 < faults p) pours

-- ---- finishing

-- the first place of a failure, with one more call that failed or not
abbrev pub first_failed : Option ℕ → Bool → ℕ → Option ℕ
first_failed (Some place) failed at = Some place
first_failed None true at = Some at
first_failed None false at = None

-- a place isn't before the first of a failure
abbrev pub IsFrom : Option ℕ → ℕ → Type 0
IsFrom None at = ⊥
IsFrom (Some place) at = place ≤ at

-- A file was finished: it holds what was poured, the pour counts no fault, and nothing was counted; or the finishing failed, its count of writing rose,
-- and it holds a front of what was poured.
abbrev pub FileFinished : Option ℕ → ℕ → ℕ → FaultCounts → FaultCounts → Option (List ℕ) → Option (List ℕ) → Type 0
FileFinished first at faults counts now poured holds =
    ((faults ≡ 0) × (now ≡ counts) × HeldAfter false poured holds) ⊎ (IsFrom first at × Rose counts.writing now.writing × HeldAfter true poured holds)

-- the files of the first pours were finished, and nothing else that is told changed
pub record EachFinished {W : Type 0} (poured : W → Option (List ℕ)) (faults : W → ℕ) (first : Option ℕ) (count : ℕ) (pours : List W) (sinks : List Sink) (counts now : PerName) (old : Told) (new : Told) : Type 0 where
  pub holds : (k : ℕ) (d : W) (s : Sink) → k < count → FileFinished first k (faults (slice_index_or pours k d)) (counts (slice_index_or sinks k s).file) (now (slice_index_or sinks k s).file)
      (poured (slice_index_or pours k d)) (new.holds (slice_index_or sinks k s).file)
  pub others : OtherFilesStay (take count sinks) old.holds new.holds
  pub scripts : OtherFilesStay (take count sinks) old.script new.script

-- the finishing of the file at this place failed, and of none before it
pub record RoseWriting (place : ℕ) (sinks : List Sink) (old new : PerName) (s : Sink) : Type 0 where
  pub sink : slice_get sinks place ≡ Some s
  pub rose : Rose (old s.file).writing (new s.file).writing
  pub before : All (λ t. new t.file ≡ old t.file) (take place sinks)

abbrev pub FinishCause : Option ℕ → List Sink → PerName → PerName → Type 0
FinishCause None sinks old new = (n : List ℕ) → new n ≡ old n
FinishCause (Some place) sinks old new = (s : Sink) × RoseWriting place sinks old new s

-- the finishing of the first sinks' files counts faults of writing under them, where it failed, and no others
pub record FinishCounted (first : Option ℕ) (count : ℕ) (sinks : List Sink) (old new : PerName) : Type 0 where
  pub others : OtherFilesStay (take count sinks) old new
  pub opening : (n : List ℕ) → (new n).opening ≡ (old n).opening
  pub creating : (n : List ℕ) → (new n).creating ≡ (old n).creating
  pub reading : (n : List ℕ) → (new n).reading ≡ (old n).reading
  pub cause : FinishCause first sinks old new

-- ---- the whole

-- how the writing of all ended, where all files were created
abbrev pub sunk_of : Result (List ℕ) NoMemory → Option ℕ → Sunk
sunk_of (Err e) first = S.Memory
sunk_of (Ok counts) None = S.Done counts
sunk_of (Ok counts) (Some place) = S.NotWritten place

-- how it ended where the file at this place wasn't created
abbrev pub not_created : PourAnswer → ℕ → Sunk
not_created P.Failed place = S.NotCreated place
not_created P.Memory place = S.Memory

-- ---- the text after the sinks

-- how the writing of `count` sinks may end whose files were created
abbrev pub IsFilled : Sunk → ℕ → Type 0
IsFilled (S.Done ns) count = ⊤
IsFilled (S.NotCreated place) count = ⊥
IsFilled (S.NotWritten place) count = place < count
IsFilled S.Memory count = ⊤

-- and how that of all may, where the files of these sinks were: the file after them may not have been
abbrev pub IsAfter : Sunk → ℕ → Type 0
IsAfter (S.NotCreated place) count = place ≡ count
IsAfter _ count = ⊤

-- the text was poured where the sinks were written, and else nothing
abbrev pub LastGiven : Sunk → Option (List ℕ) → Option (List ℕ) → Result (Unit {0}) PourAnswer → List ℕ → Type 0
LastGiven (S.Done ns) old now r text = AllPoured old now r text
LastGiven _ old now r text = (now ≡ old) × (r ≡ Ok tt)

-- how the writing of all ended, with how that of the sinks did, whether the text was poured, and whether the finishing of its file failed
abbrev pub text_sunk : Sunk → Result (Unit {0}) PourAnswer → Bool → ℕ → Sunk
text_sunk (S.Done ns) (Err P.Memory) failed place = S.Memory
text_sunk (S.Done ns) (Err P.Failed) failed place = S.NotWritten place
text_sunk (S.Done ns) (Ok u) true place = S.NotWritten place
text_sunk (S.Done ns) (Ok u) false place = S.Done ns
text_sunk (S.NotCreated at) r failed place = S.NotCreated at
text_sunk (S.NotWritten at) r failed place = S.NotWritten at
text_sunk S.Memory r failed place = S.Memory

-- what became of the sinks stays, unless the text failed after them
abbrev pub EndsText : Sunk → Sunk → ℕ → Type 0
EndsText (S.Done ns) (S.Done ms) place = ms ≡ ns
EndsText (S.Done ns) (S.NotWritten at) place = at ≡ place
EndsText (S.Done ns) (S.NotCreated at) place = ⊥
EndsText (S.Done ns) S.Memory place = ⊤
EndsText sunk r place = r ≡ sunk

-- the sinks were written
abbrev pub IsDone : Sunk → Type 0
IsDone (S.Done ns) = ⊤
IsDone _ = ⊥

-- what the text's file holds, by what became of the sinks and of all
abbrev pub LastLeft : Sunk → Sunk → ℕ → List ℕ → Option (List ℕ) → Type 0
LastLeft sunk (S.Done ns) place text holds = holds ≡ Some text
LastLeft sunk (S.NotCreated at) place text holds = ⊤
LastLeft sunk (S.NotWritten at) place text holds = ((at < place) × (holds ≡ Some [])) ⊎ ((at ≡ place) × IsDone sunk × HoldsFront text holds)
LastLeft sunk S.Memory place text holds = (holds ≡ Some []) ⊎ (IsDone sunk × HoldsFront text holds)

-- the text's file was finished, and nothing else that is told changed
pub record LastFinished (sunk r : Sunk) (place : ℕ) (last : TextFile) (old : Told) (new : Told) : Type 0 where
  pub ends : EndsText sunk r place
  pub others : TellsOthers old new last.file
  pub holds : LastLeft sunk r place last.text (new.holds last.file)

-- its finishing failed, where that is the result of all
abbrev pub LastCause : Sunk → Sunk → List ℕ → PerName → PerName → Type 0
LastCause (S.Done ns) (S.Done ms) name old new = (n : List ℕ) → new n ≡ old n
LastCause (S.Done ns) (S.NotWritten at) name old new = Rose (old name).writing (new name).writing
LastCause _ r name old new = ⊤

-- and counted faults of writing under its name alone
pub record LastCounted (sunk r : Sunk) (place : ℕ) (name : List ℕ) (old new : PerName) : Type 0 where
  pub ends : EndsText sunk r place
  pub others : OthersStay old new name
  pub opening : (n : List ℕ) → (new n).opening ≡ (old n).opening
  pub creating : (n : List ℕ) → (new n).creating ≡ (old n).creating
  pub reading : (n : List ℕ) → (new n).reading ≡ (old n).reading
  pub cause : LastCause sunk r name old new
