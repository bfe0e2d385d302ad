-- A named file read as a whole.
use Rattle.std.specs.Prelude.{◌≡◌, ◌<◌, ◌≤◌, ℕ, List, Bool, true, false, ⊤, length}
use Rattle.feed_pour.specs.Counts.{FaultCounts, Counted, OthersStay}
use Rattle.spl_value.specs.Script.{Script, End}
use Rattle.spl_value.specs.Script as S
use Rattle.feed_pour.specs.declared.named.Fetched.{Fetched}
use Rattle.feed_pour.specs.declared.named.Fetched.TheVariants as F

-- what was fetched of a script
abbrev pub FetchedOf : Script → Fetched → ℕ → Type 0
FetchedOf script (F.Whole bytes) limit = (script ≡ record { bytes = bytes; ending = End }) × (length bytes ≤ limit)
FetchedOf script F.TooLong limit = limit < length script.bytes
FetchedOf script F.OpenFailed limit = ⊤
FetchedOf script F.ReadFailed limit = (script.ending ≡ S.Failed) × (length script.bytes ≤ limit)
FetchedOf script F.Memory limit = ⊤

-- what was fetched has at most `limit` bytes
abbrev pub FetchedWithin : Fetched → ℕ → Type 0
FetchedWithin (F.Whole bytes) limit = length bytes ≤ limit
FetchedWithin F.TooLong limit = ⊤
FetchedWithin F.OpenFailed limit = ⊤
FetchedWithin F.ReadFailed limit = ⊤
FetchedWithin F.Memory limit = ⊤

-- the answers as tests
abbrev pub open_failed : Fetched → Bool
open_failed (F.Whole bytes) = false
open_failed F.TooLong = false
open_failed F.OpenFailed = true
open_failed F.ReadFailed = false
open_failed F.Memory = false

abbrev pub read_failed : Fetched → Bool
read_failed (F.Whole bytes) = false
read_failed F.TooLong = false
read_failed F.OpenFailed = false
read_failed F.ReadFailed = true
read_failed F.Memory = false

-- a fetch counts a failed opening or a failed read of its name, and nothing else
pub record FetchCounted (r : Fetched) (old new : List ℕ → FaultCounts) (name : List ℕ) : Type 0 where
  pub others : OthersStay old new name
  pub opening : Counted (open_failed r) (old name).opening (new name).opening
  pub reading : Counted (read_failed r) (old name).reading (new name).reading
  pub creating : (new name).creating ≡ (old name).creating
  pub writing : (new name).writing ≡ (old name).writing
