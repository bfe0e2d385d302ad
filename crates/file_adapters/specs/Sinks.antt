-- Streams written as the rows of several sinks' files, and a text as a file after them: all files are created, in order; then the rows of
-- all sinks are written, and then their files are finished; then the text is written, where none of them failed, and its file is finished.
use Rattle.std.specs.Prelude.{◌≡◌, ◌≢◌, ◌⊎◌, ◌^◌, ◌<◌, ◌++◌, ℕ, false, List, [], ◌∷◌, Option, Some, None, ⊤, length, map, take, slice_get}
use Rattle.std.specs.List.{All, count_by}
use Rattle.std.specs.Option.{unwrap_or}
use Rattle.spl_value.specs.declared.item.Item.{Item}
use Rattle.feed_pour.specs.Counts.{FaultCounts, PerName, Rose}
use Rattle.feed_pour.specs.Contents.{Told}
use Rattle.language_model.specs.Names.{is_named}
use Rattle.stream_model.specs.Rows.{text_of}
use Rattle.stream_model.specs.Stream.{is_tuple}
use Rattle.file_adapters.specs.declared.sinks.Sink.{Sink}
use Rattle.file_adapters.specs.declared.sinks.Sunk.{Sunk}
use Rattle.file_adapters.specs.declared.sinks.Sunk.TheVariants as S
use Rattle.file_adapters.specs.declared.text.TextFile.{TextFile}

-- ---- names

-- no name stands twice
abbrev pub AreDistinct : List (List ℕ) → Type 0
AreDistinct names = (before after : List (List ℕ)) (name : List ℕ) → names ≡ before ++ name ∷ after → is_named after name ≡ false

-- the names of the files of sinks
abbrev pub sink_names : List Sink → List (List ℕ)
sink_names sinks = map (λ s. s.file) sinks

-- and that of the file of a text after them, where there is one
abbrev pub names_of : List Sink → Option TextFile → List (List ℕ)
names_of sinks None = sink_names sinks
names_of sinks (Some text) = sink_names sinks ++ text.file ∷ []

-- the file of a text is no sink's
abbrev pub HasOwnFile : List Sink → Option TextFile → Type 0
HasOwnFile sinks None = ⊤
HasOwnFile sinks (Some text) = is_named (sink_names sinks) text.file ≡ false

-- only what is told of these names changes
abbrev pub OtherNamesStay : {A : Type 0} → List (List ℕ) → (List ℕ → A) → (List ℕ → A) → Type 0
OtherNamesStay names old new = (n : List ℕ) → is_named names n ≡ false → new n ≡ old n

-- ---- texts

-- a sink's stream
abbrev pub stream_at : List (List Item) → Sink → List Item
stream_at streams s = unwrap_or (slice_get streams s.stream) []

-- the text of a sink's file
abbrev pub file_text : List (List Item) → Sink → List ℕ
file_text streams s = text_of (stream_at streams s)

-- how many rows it has
abbrev pub sink_rows : List (List Item) → Sink → ℕ
sink_rows streams s = count_by is_tuple (stream_at streams s)

-- a file holds a front of this text
abbrev pub HoldsFront : List ℕ → Option (List ℕ) → Type 0
HoldsFront text holds = (n : ℕ) × (holds ≡ Some (take n text))

-- a file holds this text, and nothing was counted; or its count of writing rose, and it holds a front
abbrev pub HoldsUnlessUnwritten : List ℕ → FaultCounts → FaultCounts → Option (List ℕ) → Type 0
HoldsUnlessUnwritten text counts now holds = ((now ≡ counts) × (holds ≡ Some text)) ⊎ (Rose counts.writing now.writing × HoldsFront text holds)

-- a file holds a front of this text, or what it held
abbrev pub HoldsFrontOrSame : List ℕ → Option (List ℕ) → Option (List ℕ) → Type 0
HoldsFrontOrSame text old new = (new ≡ old) ⊎ HoldsFront text new

-- ---- what the files hold

-- the files before this place are empty, and nothing else that is told changed
pub record EmptyBefore (place : ℕ) (names : List (List ℕ)) (old : Told) (new : Told) : Type 0 where
  pub empty : All (λ n. new.holds n ≡ Some []) (take place names)
  pub others : OtherNamesStay (take place names) old.holds new.holds
  pub scripts : OtherNamesStay (take place names) old.script new.script

-- each sink's file holds its text
abbrev pub AllHold : List Sink → List (List Item) → Told → Type 0
AllHold sinks streams new = All (λ s. new.holds s.file ≡ Some (file_text streams s)) sinks

-- What the sinks' files hold after the writing of all: their texts; where one file wasn't created, those before it are empty; where one
-- wasn't written, each of which nothing was counted has its text; and where memory ran out, each is as it was or holds a front.
abbrev pub SinksHold : Sunk → List Sink → List (List ℕ) → List (List Item) → PerName → PerName → Told → Told → Type 0
SinksHold (S.Done ns) sinks names streams counts now old new = AllHold sinks streams new
SinksHold (S.NotCreated place) sinks names streams counts now old new = EmptyBefore place names old new
SinksHold (S.NotWritten place) sinks names streams counts now old new =
    All (λ s. HoldsUnlessUnwritten (file_text streams s) (counts s.file) (now s.file) (new.holds s.file)) sinks
SinksHold S.Memory sinks names streams counts now old new = All (λ s. HoldsFrontOrSame (file_text streams s) (old.holds s.file) (new.holds s.file)) sinks

-- What the file of a text holds, which stands after these sinks: the text; what it held, where some file wasn't created; nothing, where a
-- sink wasn't written. Where it itself wasn't written, it holds a front, and the sinks hold their texts. Where memory ran out, it is as it
-- was, or empty, or that is so too.
abbrev pub TextHolds : Sunk → List Sink → List (List Item) → TextFile → Told → Told → Type 0
TextHolds (S.Done ns) sinks streams text old new = new.holds text.file ≡ Some text.text
TextHolds (S.NotCreated place) sinks streams text old new = new.holds text.file ≡ old.holds text.file
TextHolds (S.NotWritten place) sinks streams text old new =
    ((place < length sinks) × (new.holds text.file ≡ Some [])) ⊎ ((place ≡ length sinks) × AllHold sinks streams new × HoldsFront text.text (new.holds text.file))
TextHolds S.Memory sinks streams text old new =
    (new.holds text.file ≡ old.holds text.file) ⊎ ((new.holds text.file ≡ Some []) ⊎ (AllHold sinks streams new × HoldsFront text.text (new.holds text.file)))

abbrev pub LastHolds : Sunk → List Sink → List (List Item) → Option TextFile → Told → Told → Type 0
LastHolds r sinks streams None old new = ⊤
LastHolds r sinks streams (Some text) old new = TextHolds r sinks streams text old new

-- what a shelf tells after the writing of these sinks and this text
pub record FilesWritten (r : Sunk) (sinks : List Sink) (streams : List (List Item)) (last : Option TextFile) (counts now : PerName) (old : Told) (new : Told) : Type 0 where
  pub holds : SinksHold r sinks (names_of sinks last) streams counts now old new
  pub last_holds : LastHolds r sinks streams last old new
  pub others : OtherNamesStay (names_of sinks last) old.holds new.holds
  pub scripts : OtherNamesStay (names_of sinks last) old.script new.script

-- ---- counts

-- the rows of each sink were counted
abbrev pub SinksCount : Sunk → List Sink → List (List Item) → Type 0
SinksCount (S.Done ns) sinks streams = (ns ≡ map (sink_rows streams) sinks) × All (λ n. n < 2 ^ 64) ns
SinksCount _ sinks streams = ⊤

-- The file of this name, at this place, couldn't be created: no other creating failed, and nothing was counted of the files after it.
pub record FileNotCreated (place : ℕ) (names : List (List ℕ)) (name : List ℕ) (old new : PerName) : Type 0 where
  pub at : slice_get names place ≡ Some name
  pub rose : Rose (old name).creating (new name).creating
  pub creating : (n : List ℕ) → n ≢ name → (new n).creating ≡ (old n).creating
  pub later : (n : List ℕ) → is_named (take place names) n ≡ false → n ≢ name → new n ≡ old n

-- It couldn't be written or finished, and is the first such: nothing was counted of those before it. All files were created.
pub record FileNotWritten (place : ℕ) (names : List (List ℕ)) (name : List ℕ) (old new : PerName) : Type 0 where
  pub at : slice_get names place ≡ Some name
  pub rose : Rose (old name).writing (new name).writing
  pub before : All (λ n. new n ≡ old n) (take place names)
  pub creating : (n : List ℕ) → (new n).creating ≡ (old n).creating

abbrev pub FilesCause : Sunk → List (List ℕ) → PerName → PerName → Type 0
FilesCause (S.Done ns) names old new = (n : List ℕ) → new n ≡ old n
FilesCause (S.NotCreated place) names old new = (name : List ℕ) × FileNotCreated place names name old new
FilesCause (S.NotWritten place) names old new = (name : List ℕ) × FileNotWritten place names name old new
FilesCause S.Memory names old new = ⊤

-- the writing of these files counts faults of creating and of writing under their names, where one came, and no others
pub record FilesCounted (r : Sunk) (names : List (List ℕ)) (old new : PerName) : Type 0 where
  pub others : OtherNamesStay names old new
  pub opening : (n : List ℕ) → (new n).opening ≡ (old n).opening
  pub reading : (n : List ℕ) → (new n).reading ≡ (old n).reading
  pub cause : FilesCause r names old new
