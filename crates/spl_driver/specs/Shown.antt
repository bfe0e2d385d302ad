-- What each answer shows at every shelf, also at one that tells nothing: of the counts of faults, and of the run.
use Rattle.std.specs.Prelude.{◌≡◌, ◌≢◌, ◌⊎◌, ◌||◌, ℕ, List, [], false, true, Option, None}
use Rattle.feed_pour.specs.Counts.{PerName}
use Rattle.language_model.specs.declared.checked.CheckedClauses.{CheckedClauses}
use Rattle.language_model.specs.CheckedGraph.{CheckedGraph}
use Rattle.run_report.specs.declared.cause.Cause.{Cause}
use Rattle.run_report.specs.declared.cause.Cause.TheVariants as C
use Rattle.command_line.specs.declared.request.Request.{Request}
use Rattle.language_model.specs.Names.{is_named}
use Rattle.spl_driver.specs.Answer.{IsOr, NoCountChanged, TellingFailed, is_report, rows_of}
pub use Rattle.spl_driver.specs.Answer.{IsBadFor, IsReason, IsRecordSoFar, NothingRan, Ran, RanAs, RanTo, RanUnder, RanWith, RunShown, Uncreated}
use Rattle.spl_driver.specs.Files.{creates, files_of, opens, row_files}
use Rattle.spl_driver.specs.Outcome.{IsProgramOf}
use Rattle.spl_driver.specs.declared.ended.Ended.{Ended}

-- ---- the program

-- the operators of such a program, or none
abbrev pub ArePartsOf : Option Request → List CheckedClauses → Type 0
ArePartsOf request parts = (parts ≡ []) ⊎ ((c : CheckedGraph) × IsProgramOf request c × (parts ≡ c.parts))

-- ---- the counts of faults

-- For the operators of the program: which device failed, and which source couldn't be read. Nothing was counted of other names, and of a name
-- that isn't a source's, reading was counted only where the answer names it, or where memory ran out.
pub record ShownBy (cause : Cause) (request : Option Request) (old new : PerName) : Type 0 where
  pub parts : List CheckedClauses
  pub are : ArePartsOf request parts
  pub device : (rows_of cause).shows (files_of request parts) old new
  pub stopped : (rows_of cause).stopped parts old new
  pub others : (n : List ℕ) → (is_named (opens request parts) n || is_named (creates request parts) n) ≡ false
      → new n ≡ old n
  pub reading : (n : List ℕ) → is_named (row_files request parts) n ≡ false → (new n).reading ≢ (old n).reading
      → IsOr (C.ReadFailed n) cause

-- the text couldn't be told of a request that was carried out
abbrev pub TextShown : List ℕ → Option Request → PerName → PerName → Type 0 → Type 0
TextShown name request old new TextFailed =
    (parts : List CheckedClauses) × ArePartsOf request parts
    × TellingFailed name TextFailed (row_files request parts) old new

abbrev pub Shown : Cause → Option Request → PerName → PerName → Type 0 → Type 0
Shown C.BadWords request old new TextFailed = (request ≡ None) × NoCountChanged old new
Shown (C.WriteFailed name) request old new TextFailed =
    ShownBy (C.WriteFailed name) request old new ⊎ TextShown name request old new TextFailed
Shown C.Done request old new TextFailed = ShownBy C.Done request old new
Shown (C.Stopped fault) request old new TextFailed = ShownBy (C.Stopped fault) request old new
Shown (C.Refused refusal) request old new TextFailed = ShownBy (C.Refused refusal) request old new
Shown C.NotBuilt request old new TextFailed = ShownBy C.NotBuilt request old new
Shown (C.BadArrivals op) request old new TextFailed = ShownBy (C.BadArrivals op) request old new
Shown (C.OpenFailed name) request old new TextFailed = ShownBy (C.OpenFailed name) request old new
Shown (C.ReadFailed name) request old new TextFailed = ShownBy (C.ReadFailed name) request old new
Shown C.NoMemory request old new TextFailed = ShownBy C.NoMemory request old new

-- ---- the run

-- the request runs a program with this graph
abbrev pub IsRunProgram : Option Request → CheckedGraph → Type 0
IsRunProgram request c = (is_report request ≡ false) × IsProgramOf request c

-- what ran, or the request asks for what is told of a program
abbrev pub RanShown : Cause → Option Request → Ended → PerName → PerName → Type 0
RanShown cause request ended counts now =
    (rows_of cause).ran (IsRunProgram request) ((is_report request ≡ true)
    × ((c : CheckedGraph) × IsProgramOf request c)) ended counts now
