-- The result of a replay of the record that a run wrote.
use Rattle.std.specs.Prelude.{◌≡◌, ◌≤◌, ◌^◌, ℕ, false, true, List, length, Option, Some}
use Rattle.feed_pour.specs.Counts.{PerName, Rose}
use Rattle.feed_pour.specs.Contents.{Told}
use Rattle.language_model.specs.declared.checked.CheckedClauses.{CheckedClauses}
use Rattle.stream_model.specs.declared.record.Arrivals.{Arrivals}
use Rattle.language_model.specs.CheckedGraph.{CheckedGraph}
use Rattle.stream_model.specs.Meaning.{Graph, Meaning}
use Rattle.arrival_format.specs.ArrivalTexts.{arrivals_text}
use Rattle.language_model.specs.Names.{is_named}
use Rattle.command_line.specs.declared.request.Request.{Request}
use Rattle.command_line.specs.declared.request.Request.TheVariants as R
use Rattle.command_line.specs.declared.request.RunOptions.{RunOptions}
use Rattle.spl_driver.specs.Files.{opens}
use Rattle.spl_driver.specs.Outcome.{Runs, IsOutcome, ArePartsIn, has_record_fault}
use Rattle.spl_driver.specs.Answer.{Answered, EachSink, IsRun}
use Rattle.stream_model.specs.Runs.{IsRecordOf}
use Rattle.spl_driver.specs.declared.ended.Ended.{Ended}

-- the files that a request opens are read as they were
abbrev pub AreReadAlike : Option Request → Told → Told → Type 0
AreReadAlike request t u = (parts : List CheckedClauses) → ArePartsIn t request parts → (n : List ℕ) → is_named (opens request parts) n ≡ true → u.script n ≡ t.script n

-- Where the result of a run is a meaning under a record that is whole in it, a replay has the same, if its program and sources are read alike, and
-- it reads the record's text, which isn't too long, without a fault.
abbrev pub ReplayLaw : Type 0
ReplayLaw = (t u : Told) (program file : List ℕ) (options : RunOptions) (c : CheckedGraph) (g : Graph) (m : Meaning) (arrivals other : Arrivals)
    → IsOutcome t arrivals (Some (R.Run program options)) (Runs c g m) → options.arrivals ≡ Some file → IsRecordOf g m arrivals
    → AreReadAlike (Some (R.Run program options)) t u → (u.script file).bytes ≡ arrivals_text c arrivals → has_record_fault (u.script file) ≡ false
    → length (u.script file).bytes ≤ 2 ^ 32 → IsOutcome u other (Some (R.Replay program file)) (Runs c g m)

-- So where a run and a replay of the file that it wrote are carried out, the program and the sources being read alike, both end alike, with the
-- same record and counts, and each sink's file holds the same after both. The numbers are what the pour of their texts counted before and after.
pub record EndAlike (program file : List ℕ) (options : RunOptions) (ran replayed : Ended) (before after : Told) (later now : Told) : Type 0 where
  pub cause : replayed.cause ≡ ran.cause
  pub arrivals : replayed.arrivals ≡ ran.arrivals
  pub counts : replayed.counts ≡ ran.counts
  pub files : (c : CheckedGraph) (g : Graph) (m : Meaning) → IsOutcome before ran.arrivals (Some (R.Run program options)) (Runs c g m) → EachSink (λ op name. now.holds name ≡ after.holds name) g.ops

abbrev pub SameFilesLaw : Type 0
SameFilesLaw = (program file : List ℕ) (options : RunOptions) (ran replayed : Ended) (a b c d : PerName) (k l m n : ℕ) (before after later now : Told)
    → options.arrivals ≡ Some file → Answered (Some (R.Run program options)) ran a b (Rose k l) before after → IsRun ran.cause
    → AreReadAlike (Some (R.Run program options)) before later → after.holds file ≡ Some (later.script file).bytes
    → Answered (Some (R.Replay program file)) replayed c d (Rose m n) later now → IsRun replayed.cause
    → EndAlike program file options ran replayed before after later now
