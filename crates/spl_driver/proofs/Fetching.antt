-- A file read as a whole: what the counts and the script show of it.
use Rattle.std.proofs.Common.{◌≡◌, ◌≢◌, ◌<◌, ◌≤◌, ◌^◌, ℕ, List, [], ◌∷◌, length, Bool, true, false, refl, sym, ◌∙◌, ap, subst, arith, inl, inr, Option, Some, None, nat_le}
use Rattle.std.specs.Prelude.{IfSome, ◌||◌, ◌&&◌}
use Rattle.std.specs.Str.{bytes_eq}
use Rattle.std.proofs.lemmas.Slice.Eq.{bytes_eq-Decides}
use Rattle.spl_value.specs.Script.{Script}
use Rattle.feed_pour.specs.Counts.{FaultCounts, PerName, Counted, OthersStay}
use Rattle.feed_pour.specs.Contents.{Told, WhereTold, TellsSame}
use Rattle.feed_pour.specs.Named.{FetchedOf, FetchCounted, open_failed, read_failed}
use Rattle.feed_pour.specs.declared.named.Fetched.{Fetched}
use Rattle.feed_pour.specs.declared.named.Fetched.TheVariants as F
use Rattle.language_model.specs.Names.{is_named}
use Rattle.source_rows.specs.Counting.{OnlyRead, OnlyReads}
use Rattle.source_rows.specs.Sources.{ReadsFail, is_failed}
use Rattle.spl_driver.specs.Outcome.{fails_within}
use Rattle.spl_driver.specs.Answer.{NoCountChanged}
use Rattle.spl_driver.specs.steps.Steps.{FirstOpening, FirstReading, WholeFails}
use Rattle.spl_value.proofs.Bools.{and_left, and_right}
use Rattle.spl_value.proofs.Lists.{same_or_not}
use Rattle.source_rows.proofs.Reading.{counts_same}
use Rattle.source_rows.proofs.Counting.{read_same}

-- ---- counts

everywhere : (old new : PerName) (name : List ℕ) → OthersStay old new name → new name ≡ old name → NoCountChanged old new
everywhere old new name others here n = elim (same_or_not n name) as (λ _. new n ≡ old n) [
  | inl e ↦ ap new e ∙ here ∙ sym (ap old e)
  | inr differs ↦ others n differs
]

stays : (f : Bool) (before now : ℕ) → f ≡ false → Counted f before now → now ≡ before
stays true before now e c = cc
stays false before now e c = c

-- a fetch that failed nowhere raised no count
pub quiet_fetch : (r : Fetched) (old new : PerName) (name : List ℕ) → open_failed r ≡ false → read_failed r ≡ false
    → FetchCounted r old new name → NoCountChanged old new
quiet_fetch r old new name o f h = everywhere old new name h.others
    (counts_same (new name) (old name) (stays (open_failed r) _ _ o h.opening) h.creating (stays (read_failed r) _ _ f h.reading) h.writing)

-- a name is its own, and another isn't
not_one : (name n : List ℕ) → name ≢ n → is_named (name ∷ []) n ≡ false
not_one name n differs = elim (bytes_eq name n) as (λ b. (b ≡ true → name ≡ n) → (b || false) ≡ false) [
  | true ↦ λ same. absurd (differs (same refl))
  | false ↦ λ same. refl
] (bytes_eq-Decides name n).0

pub own_name : (name : List ℕ) → is_named (name ∷ []) name ≡ true
own_name name = ap (λ (b : Bool). b || false) ((bytes_eq-Decides name name).1 refl)

-- a fetch of a file that couldn't be opened, and of one that couldn't be read
pub first_opening : (r : Fetched) (old new : PerName) (name : List ℕ) → open_failed r ≡ true → FetchCounted r old new name → FirstOpening name old new
first_opening F.OpenFailed old new name is h = record { rose = h.opening.1; reading = h.reading; others = h.others }
first_opening (F.Whole bytes) old new name is h = cc
first_opening F.TooLong old new name is h = cc
first_opening F.ReadFailed old new name is h = cc
first_opening F.Memory old new name is h = cc

pub first_reading : (r : Fetched) (old new : PerName) (name : List ℕ) → read_failed r ≡ true → FetchCounted r old new name → FirstReading name old new
first_reading F.ReadFailed old new name is h = record { rose = h.reading.1; only = record { opening = h.opening; creating = h.creating; writing = h.writing }; others = h.others }
first_reading (F.Whole bytes) old new name is h = cc
first_reading F.TooLong old new name is h = cc
first_reading F.OpenFailed old new name is h = cc
first_reading F.Memory old new name is h = cc

-- ---- counts of reading alone

pub read_itself : (c : FaultCounts) → OnlyRead c c
read_itself c = record { opening = refl; creating = refl; writing = refl }

pub quiet_only : (files : List (List ℕ)) (old new : PerName) → NoCountChanged old new → OnlyReads files old new
quiet_only files old new quiet = record { others = λ n out. quiet n; reads = λ n. read_same (old n) (old n) (new n) (read_itself (old n)) (quiet n) }

pub named_one : (name n : List ℕ) → is_named (name ∷ []) n ≡ true → name ≡ n
named_one name n h = elim (same_or_not name n) as (λ _. name ≡ n) [
  | inl e ↦ e
  | inr differs ↦ absurd (let out : is_named (name ∷ []) n ≡ false = not_one name n differs in let bad : true ≡ false = sym h ∙ out in cc)
]

-- ---- scripts

within : (n most : ℕ) → n ≤ most → nat_le n most ≡ true
within n most le = grind arith

beyond : (n most : ℕ) → most < n → nat_le n most ≡ false
beyond n most lt = grind arith

-- a whole file has no fault within the bound
pub no_fault : (most : ℕ) (s : Script) (bytes : List ℕ) → FetchedOf s (F.Whole bytes) most → fails_within most s ≡ false
no_fault most s bytes h = ap (fails_within most) h.0 ∙ ap (λ (b : Bool). b && false) (within (length bytes) most h.1)

-- neither has one that is longer
pub long_fault : (most : ℕ) (s : Script) → FetchedOf s F.TooLong most → fails_within most s ≡ false
long_fault most s h = ap (λ (b : Bool). b && is_failed s.ending) (beyond (length s.bytes) most h)

less_more : (n a b : ℕ) → a ≤ b → nat_le n a ≡ true → nat_le n b ≡ true
less_more n a b le h = grind arith

-- a reader that fails within a number of bytes fails within a greater one
pub fails_more : (a b : ℕ) (s : Script) → a ≤ b → fails_within a s ≡ true → fails_within b s ≡ true
fails_more a b s le h =
    ap (λ (x : Bool). x && is_failed s.ending) (less_more (length s.bytes) a b le (and_left (nat_le (length s.bytes) a) (is_failed s.ending) h))
    ∙ and_right (nat_le (length s.bytes) a) (is_failed s.ending) h

-- ---- counts of reading that rise

reads_by : (most : ℕ) (r : Fetched) (old new : FaultCounts) (s : Script) → Counted (read_failed r) old.reading new.reading → FetchedOf s r most
    → new.reading ≢ old.reading → fails_within most s ≡ true
reads_by most (F.Whole bytes) old new s counted h differs = absurd (differs counted)
reads_by most F.TooLong old new s counted h differs = absurd (differs counted)
reads_by most F.OpenFailed old new s counted h differs = absurd (differs counted)
reads_by most F.Memory old new s counted h differs = absurd (differs counted)
reads_by most F.ReadFailed old new s counted h differs =
    ap (λ (b : Bool). b && is_failed s.ending) (within (length s.bytes) most h.1) ∙ ap is_failed h.0

-- the reader of a file fails where its count of reading changes, and no other count of reading changes
abbrev pub FetchFails : ℕ → List ℕ → PerName → PerName → Told → Type 0
FetchFails most file old new t = (n : List ℕ) → (new n).reading ≢ (old n).reading → (n ≡ file) × (fails_within most (t.script n) ≡ true)

reads_at : (most : ℕ) (r : Fetched) (name : List ℕ) (old new : PerName) (t : Told) → FetchCounted r old new name → FetchedOf (t.script name) r most → FetchFails most name old new t
reads_at most r name old new t counted h n differs = elim (same_or_not n name) as (λ _. (n ≡ name) × (fails_within most (t.script n) ≡ true)) [
  | inl e ↦ (
    e,
    ap (λ (m : List ℕ). fails_within most (t.script m)) e
        ∙ reads_by most r (old name) (new name) (t.script name) counted.reading h (subst (λ (m : List ℕ). (new m).reading ≢ (old m).reading) e differs),
  )
  | inr other ↦ absurd (differs (ap (λ (c : FaultCounts). c.reading) (counted.others n other)))
]

pub fetch_reads : (told : Option Told) (r : Fetched) (name : List ℕ) (old new : PerName) → FetchCounted r old new name
    → IfSome told (λ t. FetchedOf (t.script name) r 1048576) → IfSome told (WholeFails old new)
fetch_reads None r name old new counted h = tt
fetch_reads (Some t) r name old new counted h = λ n differs. (reads_at 1048576 r name old new t counted h n differs).1

pub fetch_fails : (told : Option Told) (r : Fetched) (name : List ℕ) (old new : PerName) → FetchCounted r old new name
    → IfSome told (λ t. FetchedOf (t.script name) r (2 ^ 32)) → IfSome told (FetchFails (2 ^ 32) name old new)
fetch_fails None r name old new counted h = tt
fetch_fails (Some t) r name old new counted h = reads_at (2 ^ 32) r name old new t counted h

-- a reader that fails within some number of bytes fails
pub failed_within : (most : ℕ) (s : Script) → fails_within most s ≡ true → is_failed s.ending ≡ true
failed_within most s e = and_right (nat_le (length s.bytes) most) (is_failed s.ending) e

pub reads_whole : (told : Option Told) (old new : PerName) → IfSome told (WholeFails old new) → IfSome told (ReadsFail old new)
reads_whole None old new h = tt
reads_whole (Some t) old new h = λ n differs. failed_within 1048576 (t.script n) (h n differs)

pub quiet_reads : (told : Option Told) (old new : PerName) → NoCountChanged old new → IfSome told (ReadsFail old new)
quiet_reads None old new quiet = tt
quiet_reads (Some t) old new quiet = λ n differs. absurd (differs (ap (λ (c : FaultCounts). c.reading) (quiet n)))

-- ---- a shelf that tells the same

pub told_again : (old : Option Told) → WhereTold old old TellsSame
told_again None = tt
told_again (Some x) = record { holds = λ n. refl; script = λ n. refl }

pub same_told : (x y : Told) → TellsSame x y → y ≡ x
same_told x y same = λ i. record { holds = λ n. same.holds n i; script = λ n. same.script n i }
