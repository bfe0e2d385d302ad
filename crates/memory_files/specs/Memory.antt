-- The script of a feed in memory some of whose calls are to fail.
use Rattle.std.specs.Prelude.{◌≡◌, ◌≤◌, ◌<◌, ◌+◌, ◌-◌, ◌*◌, ℕ, List, length, take, true, if◌then◌else◌, nat_lt, Option, Some, None}
use Rattle.spl_value.specs.Script.{Script, End}
use Rattle.spl_value.specs.Script as S
use Rattle.feed_pour.specs.Contents.{Told}
use Rattle.memory_files.specs.Failing.{is_to_fail, next_failing}
use Rattle.memory_files.specs.Plain.{or_empty}
use Rattle.feed_pour.specs.Table.{under}
use Rattle.feed_pour.specs.declared.table.Entry.{Entry}

-- the bytes that are left, and what reads in pieces of 8,192 give of them before the call that fails
abbrev pub script_up_to : ℕ → Option ℕ → List ℕ → Script
script_up_to calls None left = record { bytes = left; ending = End }
script_up_to calls (Some k) left =
    if nat_lt ((k - (calls + 1)) * 8192) (length left + 8192)
    then record { bytes = take ((k - (calls + 1)) * 8192) left; ending = S.Failed }
    else record { bytes = left; ending = End }

-- the script of a feed after this number of calls, with these bytes left
abbrev pub script_of : ℕ → List ℕ → List ℕ → Script
script_of calls failing left = script_up_to calls (next_failing calls failing) left

-- what a shelf in memory tells, by its files and the numbers of the reads that are to fail
abbrev pub memory_told : List (Entry (List ℕ)) → List (Entry (List ℕ)) → Told
memory_told files failing = record { holds = under files; script = λ n. script_of 0 (or_empty (under failing n)) (or_empty (under files n)) }

-- the first of the calls that are to fail
pub record FirstToFail (failing : List ℕ) (call : ℕ) : Type 0 where
  pub listed : is_to_fail call failing ≡ true
  pub counted : 0 < call
  pub first : (k : ℕ) → is_to_fail k failing ≡ true → 0 < k → call ≤ k

-- reads in pieces of 8,192 reach the file's end before this call: it has fewer pieces than calls before it
abbrev pub IsBehindEnd : List ℕ → ℕ → Type 0
IsBehindEnd bytes call = length bytes + 8192 ≤ (call - 1) * 8192

-- what those reads give before this call, which fails
abbrev pub cut_before : ℕ → List ℕ → Script
cut_before call bytes = record { bytes = take ((call - 1) * 8192) bytes; ending = S.Failed }
