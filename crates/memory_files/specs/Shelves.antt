-- What a shelf in memory keeps: the files, the counts, and the numbers of the calls that are to fail.
use Rattle.std.specs.Prelude.{◌≡◌, ◌+◌, ℕ, List, [], Option, Some, None, Bool, true, false, ◌||◌}
use Rattle.feed_pour.specs.Counts.{FaultCounts, OthersStay, no_counts}
use Rattle.memory_files.specs.Failing.{is_to_fail}
use Rattle.feed_pour.specs.Files.{counts_in}
use Rattle.memory_files.specs.Plain.{or_empty}
use Rattle.feed_pour.specs.Table.{under, Puts}
use Rattle.memory_files.specs.declared.memory_shelf.MemoryShelf.{MemoryShelf}

-- what each name holds, where it holds anything
abbrev pub files_of : MemoryShelf → List ℕ → Option (List ℕ)
files_of shelf = under shelf.files.items

-- the numbers of the reads that are to fail, of a feed of each name
abbrev pub reads_to_fail : MemoryShelf → List ℕ → List ℕ
reads_to_fail shelf name = or_empty (under shelf.failing_reads.items name)

-- the numbers of the writes that are to fail, of a pour of each name
abbrev pub writes_to_fail : MemoryShelf → List ℕ → List ℕ
writes_to_fail shelf name = or_empty (under shelf.failing_writes.items name)

-- the numbers of the shelf's own calls that are to fail
abbrev pub calls_to_fail : MemoryShelf → List ℕ
calls_to_fail shelf = shelf.calls.failing

-- how many of its own calls there were, up to 2^64 - 1
abbrev pub calls_made : MemoryShelf → ℕ
calls_made shelf = shelf.calls.made

-- how many feeds and pours are lent, up to 2^64 - 1
abbrev pub lent_now : MemoryShelf → ℕ
lent_now shelf = shelf.lent

-- the four counts of each name
abbrev pub counts_kept : MemoryShelf → List ℕ → FaultCounts
counts_kept shelf = counts_in shelf.tallies.items

-- one value per name stays for each name
abbrev pub Stays : {A : Type 0} → (List ℕ → A) → (List ℕ → A) → Type 0
Stays old new = (n : List ℕ) → new n ≡ old n

-- a shelf with no file, no fault, and no call that is to fail
pub record IsNew (shelf : MemoryShelf) : Type 0 where
  pub files : (n : List ℕ) → files_of shelf n ≡ None
  pub counts : (n : List ℕ) → counts_kept shelf n ≡ no_counts
  pub reads : (n : List ℕ) → reads_to_fail shelf n ≡ []
  pub writes : (n : List ℕ) → writes_to_fail shelf n ≡ []
  pub calls : calls_to_fail shelf ≡ []
  pub made : calls_made shelf ≡ 0
  pub lent : lent_now shelf ≡ 0

-- nothing changed
pub record SameShelf (old new : MemoryShelf) : Type 0 where
  pub files : Stays (files_of old) (files_of new)
  pub counts : Stays (counts_kept old) (counts_kept new)
  pub reads : Stays (reads_to_fail old) (reads_to_fail new)
  pub writes : Stays (writes_to_fail old) (writes_to_fail new)
  pub calls : calls_to_fail new ≡ calls_to_fail old
  pub made : calls_made new ≡ calls_made old
  pub lent : lent_now new ≡ lent_now old

-- a name holds these bytes, and nothing else changed
pub record FilePut (old new : MemoryShelf) (name bytes : List ℕ) : Type 0 where
  pub files : Puts (files_of old) (files_of new) name bytes
  pub counts : Stays (counts_kept old) (counts_kept new)
  pub reads : Stays (reads_to_fail old) (reads_to_fail new)
  pub writes : Stays (writes_to_fail old) (writes_to_fail new)
  pub calls : calls_to_fail new ≡ calls_to_fail old
  pub made : calls_made new ≡ calls_made old
  pub lent : lent_now new ≡ lent_now old

-- the numbers of a name's failing reads were set, and nothing else changed
pub record ReadsSet (old new : MemoryShelf) (name numbers : List ℕ) : Type 0 where
  pub here : reads_to_fail new name ≡ numbers
  pub others : OthersStay (reads_to_fail old) (reads_to_fail new) name
  pub files : Stays (files_of old) (files_of new)
  pub counts : Stays (counts_kept old) (counts_kept new)
  pub writes : Stays (writes_to_fail old) (writes_to_fail new)
  pub calls : calls_to_fail new ≡ calls_to_fail old
  pub made : calls_made new ≡ calls_made old
  pub lent : lent_now new ≡ lent_now old

-- the numbers of a name's failing writes were set, and nothing else changed
pub record WritesSet (old new : MemoryShelf) (name numbers : List ℕ) : Type 0 where
  pub here : writes_to_fail new name ≡ numbers
  pub others : OthersStay (writes_to_fail old) (writes_to_fail new) name
  pub files : Stays (files_of old) (files_of new)
  pub counts : Stays (counts_kept old) (counts_kept new)
  pub reads : Stays (reads_to_fail old) (reads_to_fail new)
  pub calls : calls_to_fail new ≡ calls_to_fail old
  pub made : calls_made new ≡ calls_made old
  pub lent : lent_now new ≡ lent_now old

-- the numbers of the shelf's own failing calls were set, and nothing else changed
pub record CallsSet (old new : MemoryShelf) (numbers : List ℕ) : Type 0 where
  pub here : calls_to_fail new ≡ numbers
  pub files : Stays (files_of old) (files_of new)
  pub counts : Stays (counts_kept old) (counts_kept new)
  pub reads : Stays (reads_to_fail old) (reads_to_fail new)
  pub writes : Stays (writes_to_fail old) (writes_to_fail new)
  pub made : calls_made new ≡ calls_made old
  pub lent : lent_now new ≡ lent_now old

-- the next of the shelf's own calls is to fail
abbrev pub call_fails : MemoryShelf → Bool
call_fails shelf = is_to_fail (calls_made shelf + 1) (calls_to_fail shelf)

-- the name holds nothing
abbrev pub is_absent : Option (List ℕ) → Bool
is_absent None = true
is_absent (Some bytes) = false

-- opening this name fails: the call is to fail, or the name is absent
abbrev pub opening_fails : MemoryShelf → List ℕ → Bool
opening_fails shelf name = call_fails shelf || is_absent (files_of shelf name)

-- the numbers of all calls that are to fail stay
pub record SameNumbers (old new : MemoryShelf) : Type 0 where
  pub reads : Stays (reads_to_fail old) (reads_to_fail new)
  pub writes : Stays (writes_to_fail old) (writes_to_fail new)
  pub calls : calls_to_fail new ≡ calls_to_fail old
