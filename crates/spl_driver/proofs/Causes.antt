-- Words on causes and requests that the proofs share.
use Rattle.std.specs.Prelude.{◌≡◌, ℕ, Bool, true, false, List, Option, Some, IsSomeAnd, option_and_then, slice_get}
use Rattle.feed_pour.specs.Contents.{Told}
use Rattle.feed_pour.specs.Counts.{PerName, Rose}
use Rattle.language_model.specs.CheckedGraph.{CheckedGraph}
use Rattle.language_model.specs.declared.checked.CheckedClauses.{CheckedClauses}
use Rattle.stream_model.specs.Ends.{run_fault}
use Rattle.language_model.specs.Files.{source_file}
use Rattle.run_report.specs.declared.cause.Cause.{Cause}
use Rattle.run_report.specs.declared.cause.Cause.TheVariants as C
use Rattle.command_line.specs.declared.request.Request.{Request}
use Rattle.command_line.specs.declared.request.Request.TheVariants as R
use Rattle.spl_driver.specs.Answer.{IsOr, cause_of, is_report}
use Rattle.spl_driver.specs.Outcome.{BadArrivals, IsProgramOf, Reports, RequestOutcome, Runs, fails_within}

-- the request is a replay
abbrev pub is_replay : Option Request → Bool
is_replay (Some (R.Replay program arrivals)) = true
is_replay _ = false

-- how a request ends whose program is accepted
abbrev pub EndsWith : RequestOutcome → Cause → Type 0
EndsWith (Reports report c) cause = cause ≡ C.Done
EndsWith (Runs c g m) cause = cause ≡ cause_of (run_fault g m)
EndsWith (BadArrivals c op) cause = cause ≡ C.BadArrivals op
EndsWith _ cause = ⊥

-- the reader of a file fails within this bound, and the answer names the file, or memory ran out
abbrev pub ReadingAnswered : Cause → ℕ → Told → List ℕ → Type 0
ReadingAnswered cause most old name = (fails_within most (old.script name) ≡ true) × IsOr (C.ReadFailed name) cause

-- the operator with this number is a source, and the count of reading of its file rose
abbrev pub SourceUnread : List CheckedClauses → ℕ → PerName → PerName → Type 0
SourceUnread parts op old new = IsSomeAnd (option_and_then source_file (slice_get parts op)) (λ file. Rose (old file).reading (new file).reading)

-- the request asks for what is told of a program
abbrev pub IsReport : Option Request → Type 0
IsReport request = (is_report request ≡ true) × ((c : CheckedGraph) × IsProgramOf request c)
