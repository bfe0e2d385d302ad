-- The outcome of a request, with ample memory and devices that give what the shelf tells.
use Rattle.std.specs.Prelude.{◌≡◌, ◌^◌, ℕ, ◌&&◌, nat_le, List, [], ◌∷◌, length, Bool, true, false, Option, Some, None, Result, Ok, Err, IsSomeAnd, option_and_then}
use Rattle.spl_value.specs.Script.{Script}
use Rattle.feed_pour.specs.Contents.{Told}
use Rattle.language_model.specs.declared.checked.CheckedClauses.{CheckedClauses}
use Rattle.stream_model.specs.declared.record.ArrivalList.{ArrivalList}
use Rattle.stream_model.specs.declared.record.Arrivals.{Arrivals}
use Rattle.language_model.specs.declared.refusal.Refusal.{Refusal}
use Rattle.language_model.specs.Accepted.{IsAccepted}
use Rattle.language_model.specs.CheckedGraph.{CheckedGraph}
use Rattle.stream_model.specs.Arrivals.{entries_in}
use Rattle.stream_model.specs.CheckedMeaning.{graph_of}
use Rattle.stream_model.specs.Meaning.{Graph, Meaning, meaning}
use Rattle.arrival_format.specs.ArrivalTexts.{Spells}
use Rattle.stream_model.specs.Runs.{IsFirstNotWhole, AreWhole}
use Rattle.source_rows.specs.Sources.{is_failed, rows_told}
use Rattle.command_line.specs.declared.request.Request.{Request}
use Rattle.command_line.specs.declared.request.Request.TheVariants as R
use Rattle.command_line.specs.declared.request.RunOptions.{RunOptions}
use Rattle.command_line.specs.Request.{file_names}
use Rattle.spl_driver.specs.Built.{is_built, is_plain}
use Rattle.spl_driver.specs.Files.{program_of, parts_of}

-- ---- what a run is given

-- the meaning of a graph where the shelf tells its files, under an arrival record
abbrev pub meant : Graph → Told → List ArrivalList → Meaning
meant g told lists = meaning g (rows_told g told) (entries_in lists)

-- ---- its outcome

-- what is told of a program that is accepted and isn't run: its size, or its regions
pub data Report : Type 0 where
  OfSize : Report
  OfPlan : Report

-- The words are no request; this file, which is read as a whole, can't be read; the program is refused; the request isn't built; the
-- program is checked, has this graph, and this is told of it; the record that its run is to follow isn't one, or isn't whole for this
-- operator; or its graph runs, and has this meaning.
pub data RequestOutcome : Type 0 where
  NoRequest : RequestOutcome
  Unreadable : (file : List ℕ) → RequestOutcome
  Refused : Refusal → RequestOutcome
  NotBuilt : RequestOutcome
  Reports : Report → (checked : CheckedGraph) → RequestOutcome
  BadArrivals : (checked : CheckedGraph) → Option ℕ → RequestOutcome
  Runs : (checked : CheckedGraph) (graph : Graph) (meaning : Meaning) → RequestOutcome

-- a read of a file fails before it is known to have more than `most` bytes
abbrev pub fails_within : ℕ → Script → Bool
fails_within most script = nat_le (length script.bytes) most && is_failed script.ending

-- a read of the program's file fails within its 1,048,576 bytes
abbrev pub has_fault : Script → Bool
has_fault script = fails_within 1048576 script

-- a read of the file of an arrival record fails within 2^32
abbrev pub has_record_fault : Script → Bool
has_record_fault script = fails_within (2 ^ 32) script

-- the outcome of a run of an accepted program, under the record with which it takes its inputs
abbrev pub run_outcome : CheckedGraph → Told → Arrivals → RequestOutcome
run_outcome c told arrivals = Runs c (graph_of c) (meant (graph_of c) told arrivals.lists)

-- the program in this file can be read, and is accepted with this graph or refused
pub record IsFound (told : Told) (program : List ℕ) (names : List (List ℕ))
    (found : Result CheckedGraph Refusal) : Type 0 where
  pub read : has_fault (told.script program) ≡ false
  pub accepted : IsAccepted (told.script program).bytes names found

-- there is a request, and some bytes are accepted with this graph where no sink may have one of its files
abbrev pub IsProgramOf : Option Request → CheckedGraph → Type 0
IsProgramOf request c = IsSomeAnd request (λ r. (bytes : List ℕ) × IsAccepted bytes (file_names r) (Ok c))

-- some bytes have this refusal where no sink may have one of the request's files
abbrev pub IsSomeRefusal : Request → Refusal → Type 0
IsSomeRefusal request refusal = (bytes : List ℕ) × IsAccepted bytes (file_names request) (Err refusal)

-- The result of a run of an accepted program under a record: the record isn't whole for an operator, of which this is the
-- first in topological order; or it is whole for all, and the run has its meaning.
pub data IsUnder (told : Told) (c : CheckedGraph) (arrivals : Arrivals) : RequestOutcome → Type 0 where
  partial : (n : ℕ)
      → IsFirstNotWhole (graph_of c) (meant (graph_of c) told arrivals.lists) (entries_in arrivals.lists) n
      → IsUnder told c arrivals (BadArrivals c (Some n))
  whole : AreWhole (graph_of c) (meant (graph_of c) told arrivals.lists) (entries_in arrivals.lists)
      → IsUnder told c arrivals (run_outcome c told arrivals)

-- The result of a replay of an accepted program, by the file of its record: it can't be read; it spells none; or what it spells is followed.
pub data IsReplay (told : Told) (c : CheckedGraph) (file : List ℕ) : RequestOutcome → Type 0 where
  unread : has_record_fault (told.script file) ≡ true → IsReplay told c file (Unreadable file)
  misspelt : has_record_fault (told.script file) ≡ false
      → ((arrivals : Arrivals) → Spells c (told.script file).bytes arrivals → ⊥)
      → IsReplay told c file (BadArrivals c None)
  spelled : (arrivals : Arrivals) (result : RequestOutcome) → has_record_fault (told.script file) ≡ false
      → Spells c (told.script file).bytes arrivals
      → IsUnder told c arrivals result → IsReplay told c file result

-- A request with ample memory has one outcome, by its case: the words are no request; they ask for what isn't built; the program can't be read; it
-- is refused; its size is told; its regions are told; it is run, in the order that the record says; it is run under a record that is given.
pub data IsOutcome (told : Told) (arrivals : Arrivals) : Option Request → RequestOutcome → Type 0 where
  no_request : IsOutcome told arrivals None NoRequest
  not_built : (request : Request) → is_built request ≡ false → IsOutcome told arrivals (Some request) NotBuilt
  unreadable : (request : Request) (program : List ℕ) → is_built request ≡ true → program_of request ≡ Some program
      → has_fault (told.script program) ≡ true
      → IsOutcome told arrivals (Some request) (Unreadable program)
  refused : (request : Request) (program : List ℕ) (refusal : Refusal) → is_built request ≡ true
      → program_of request ≡ Some program
      → IsFound told program (file_names request) (Err refusal)
      → IsOutcome told arrivals (Some request) (Refused refusal)
  checks : (program : List ℕ) (c : CheckedGraph) → IsFound told program (program ∷ []) (Ok c)
      → IsOutcome told arrivals (Some (R.Check program)) (Reports OfSize c)
  plans : (program : List ℕ) (c : CheckedGraph) → IsFound told program (program ∷ []) (Ok c)
      → IsOutcome told arrivals (Some (R.Plan program)) (Reports OfPlan c)
  runs : (program : List ℕ) (options : RunOptions) (c : CheckedGraph) → is_plain options ≡ true
      → IsFound told program (file_names (R.Run program options)) (Ok c)
      → IsOutcome told arrivals (Some (R.Run program options)) (run_outcome c told arrivals)
  replays : (program file : List ℕ) (c : CheckedGraph) (result : RequestOutcome)
      → IsFound told program (file_names (R.Replay program file)) (Ok c) → IsReplay told c file result
      → IsOutcome told arrivals (Some (R.Replay program file)) result

-- ---- the operators of its program

-- The clauses of the operators of the request's program: none where there is no program, where it can't be read, or where it isn't accepted.
pub data ArePartsIn (told : Told) : Option Request → List CheckedClauses → Type 0 where
  of_no_program : (request : Option Request) → option_and_then program_of request ≡ None → ArePartsIn told request []
  of_unreadable : (request : Request) (program : List ℕ) → program_of request ≡ Some program
      → has_fault (told.script program) ≡ true → ArePartsIn told (Some request) []
  of_program : (request : Request) (program : List ℕ) (found : Result CheckedGraph Refusal)
      → program_of request ≡ Some program
      → IsFound told program (file_names request) found → ArePartsIn told (Some request) (parts_of found)
