-- The results of the steps of a request: the program compiled, its graph run, its sinks written.
use Prim.Native.Nat.{suc}
use Rattle.std.specs.Prelude.{◌≡◌, ◌≢◌, ◌<◌, ◌-◌, ◌^◌, ◌⊎◌, ◌||◌, ℕ, List, [], ◌∷◌, ◌++◌, map, if◌then◌else◌, Bool, true, false, ⊤, Option, Some, None, Ok, Err, IfOk, IfSome, slice_get}
use Rattle.std.specs.Str.{bytes_eq}
use Rattle.spl_value.specs.declared.item.Fault.{Fault}
use Rattle.spl_value.specs.declared.item.Item.{Item}
use Rattle.spl_value.specs.Script.{Script}
use Rattle.feed_pour.specs.Counts.{PerName, Rose}
use Rattle.feed_pour.specs.Contents.{Told, WhereTold}
use Rattle.language_model.specs.declared.checked.CheckedClauses.{CheckedClauses}
use Rattle.language_model.specs.declared.checked.CheckedClauses.TheVariants as A
use Rattle.stream_model.specs.declared.record.ArrivalList.{ArrivalList}
use Rattle.stream_model.specs.declared.record.Arrivals.{Arrivals}
use Rattle.stream_model.specs.declared.record.SinkCount.{SinkCount}
use Rattle.language_model.specs.declared.refusal.Refusal.{Refusal}
use Rattle.language_model.specs.Accepted.{IsAccepted}
use Rattle.language_model.specs.CheckedGraph.{CheckedGraph}
use Rattle.stream_model.specs.Arrivals.{several}
use Rattle.stream_model.specs.CheckedMeaning.{graph_of}
use Rattle.stream_model.specs.Ends.{run_fault}
use Rattle.stream_model.specs.Meaning.{Graph, Meaning}
use Rattle.run_report.specs.declared.cause.Cause.{Cause}
use Rattle.run_report.specs.declared.cause.Cause.TheVariants as C
use Rattle.run_report.specs.Texts.{status_text}
use Rattle.language_model.specs.Files.{source_files, sink_files, OwnFiles}
use Rattle.language_model.specs.Names.{is_named}
use Rattle.file_adapters.specs.declared.sinks.Sink.{Sink}
use Rattle.file_adapters.specs.declared.sinks.Sunk.{Sunk}
use Rattle.file_adapters.specs.declared.sinks.Sunk.TheVariants as W
use Rattle.file_adapters.specs.declared.text.TextFile.{TextFile}
use Rattle.arrival_format.specs.ArrivalTexts.{Spells, arrivals_text}
use Rattle.list_engine.specs.declared.run.Run.{Run}
use Rattle.list_engine.specs.declared.run_order.Order.{Order}
use Rattle.list_engine.specs.declared.run_order.Order.TheVariants as O
use Rattle.stream_model.specs.Runs.{RowsFit, SinksGiven, rows_at, IsRecordOf}
use Rattle.list_engine.specs.Runs as L
use Rattle.source_rows.specs.Counting.{OnlyOf, OnlyRead, OnlyReads, OpeningFailed}
use Rattle.source_rows.specs.Sources.{FaultsNameSources, ReadsCounted, ReadsFail, rows_told}
use Rattle.spl_driver.specs.Outcome.{RequestOutcome, NotBuilt, OfPlan, OfSize, Reports, BadArrivals, Runs, IsReplay, IsUnder, has_fault, has_record_fault, meant, run_outcome}
use Rattle.spl_driver.specs.Answer.{FollowsBy, IsSpelled, WroteNothing, uncounted, IsUnread, WholeReads, Answered, ByWords, CauseMeans, DevicesMean, DevicesShow, EachSink, HoldsText, MayBe, NoCountChanged, IsOr, RecordHolds, StoppedBy, cause_of, is_report}
use Rattle.spl_driver.specs.Shown.{IsBadFor, IsReason, NothingRan, RanShown, RanTo, RunShown, Shown}
use Rattle.spl_driver.specs.Files.{FilesOf}
use Rattle.spl_driver.specs.Texts.{IsToldOutcome, run_text, wants_counts}
use Rattle.spl_driver.specs.steps.Telling.{IsText}
use Rattle.spl_driver.specs.declared.answer.Answer.{Answer}
use Rattle.spl_driver.specs.declared.compiled.Compiled.{Compiled}
use Rattle.spl_driver.specs.declared.compiled.Compiled.TheVariants as P
use Rattle.command_line.specs.declared.request.Request.{Request}
use Rattle.command_line.specs.declared.request.Request.TheVariants as R
use Rattle.spl_driver.specs.declared.prepare.Prepared.{Prepared}
use Rattle.spl_driver.specs.declared.prepare.Prepared.TheVariants as Q
use Rattle.spl_driver.specs.declared.record.RecordRead.{RecordRead}
use Rattle.spl_driver.specs.declared.record.RecordRead.TheVariants as D
use Rattle.spl_driver.specs.declared.ended.Ended.{Ended}

-- ---- causes

-- the request was carried out, or it was run and what it gave couldn't be written
abbrev pub is_ended_run : Cause → Bool
is_ended_run C.Done = true
is_ended_run (C.Stopped fault) = true
is_ended_run (C.WriteFailed name) = true
is_ended_run C.BadWords = false
is_ended_run (C.Refused refusal) = false
is_ended_run C.NotBuilt = false
is_ended_run (C.BadArrivals op) = false
is_ended_run (C.OpenFailed name) = false
is_ended_run (C.ReadFailed name) = false
is_ended_run C.NoMemory = false

abbrev pub is_bad_arrivals : Cause → Bool
is_bad_arrivals (C.BadArrivals op) = true
is_bad_arrivals C.Done = false
is_bad_arrivals (C.Stopped fault) = false
is_bad_arrivals C.BadWords = false
is_bad_arrivals (C.Refused refusal) = false
is_bad_arrivals C.NotBuilt = false
is_bad_arrivals (C.OpenFailed name) = false
is_bad_arrivals (C.ReadFailed name) = false
is_bad_arrivals (C.WriteFailed name) = false
is_bad_arrivals C.NoMemory = false

-- ---- counts of files that are opened and read

-- the reader of a file that is read as a whole fails where its count of reading changes
abbrev pub WholeFails : PerName → PerName → Told → Type 0
WholeFails counts now old = (n : List ℕ) → (now n).reading ≢ (counts n).reading → has_fault (old.script n) ≡ true

-- a file that is opened first couldn't be, or couldn't be read, and nothing else was counted
pub record FirstOpening (name : List ℕ) (old new : PerName) : Type 0 where
  pub rose : Rose (old name).opening (new name).opening
  pub reading : (new name).reading ≡ (old name).reading
  pub others : (n : List ℕ) → n ≢ name → new n ≡ old n

pub record FirstReading (name : List ℕ) (old new : PerName) : Type 0 where
  pub rose : Rose (old name).reading (new name).reading
  pub only : OnlyRead (old name) (new name)
  pub others : (n : List ℕ) → n ≢ name → new n ≡ old n

-- the files that a run creates, in order: those of its sinks, and that of its record, where one is written
abbrev pub created_by : Option (List ℕ) → CheckedGraph → List (List ℕ)
created_by None c = sink_files c.parts
created_by (Some file) c = sink_files c.parts ++ file ∷ []

-- the files of a run that reads these files as a whole, in order, before those of its sources
abbrev pub files_behind : List (List ℕ) → (List ℕ → ℕ) → Option (List ℕ) → CheckedGraph → FilesOf
files_behind whole most written c = record { opened = whole ++ source_files c.parts; whole = whole; most = most; rows = source_files c.parts; created = created_by written c }

-- one that reads no other file than those of its sources
abbrev pub run_files : Option (List ℕ) → CheckedGraph → FilesOf
run_files written c = files_behind [] (λ n. 0) written c

-- one that reads the file of its record before
abbrev pub replay_files : List ℕ → CheckedGraph → FilesOf
replay_files file c = files_behind (file ∷ []) (λ n. if bytes_eq file n then 2 ^ 32 else 1048576) None c

-- ---- the program

-- what the counts show of the compiling of the program in this file
abbrev pub CompileCounted : Compiled → List ℕ → PerName → PerName → Type 0
CompileCounted (P.Checked c) program old new = NoCountChanged old new
CompileCounted (P.Refused refusal) program old new = NoCountChanged old new
CompileCounted P.OpenFailed program old new = FirstOpening program old new
CompileCounted P.ReadFailed program old new = FirstReading program old new
CompileCounted P.Memory program old new = NoCountChanged old new

-- a checked graph is that of a program of some bytes, and so is a refusal
abbrev pub IsCompiledFrom : Compiled → List (List ℕ) → Type 0
IsCompiledFrom (P.Checked c) names = (bytes : List ℕ) × IsAccepted bytes names (Ok c)
IsCompiledFrom (P.Refused refusal) names = (bytes : List ℕ) × IsAccepted bytes names (Err refusal)
IsCompiledFrom P.OpenFailed names = ⊤
IsCompiledFrom P.ReadFailed names = ⊤
IsCompiledFrom P.Memory names = ⊤

-- the result of compiling the program's file
abbrev pub CompiledAt : Compiled → Script → List (List ℕ) → Type 0
CompiledAt (P.Checked c) script names = (has_fault script ≡ false) × IsAccepted script.bytes names (Ok c)
CompiledAt (P.Refused refusal) script names =
    (has_fault script ≡ false) × (IsAccepted script.bytes names (Err refusal))
CompiledAt P.OpenFailed script names = ⊤
CompiledAt P.ReadFailed script names = ⊤
CompiledAt P.Memory script names = ⊤

-- ---- the record that a replay follows

-- what the counts show of the reading of a record in this file
abbrev pub RecordCounted : RecordRead → List ℕ → PerName → PerName → Type 0
RecordCounted (D.Order order) file old new = NoCountChanged old new
RecordCounted D.OpenFailed file old new = FirstOpening file old new
RecordCounted D.ReadFailed file old new = FirstReading file old new
RecordCounted D.Bad file old new = NoCountChanged old new
RecordCounted D.Memory file old new = NoCountChanged old new

-- its reader fails where its count of reading changes, and no other count of reading changes
abbrev pub RecordFails : List ℕ → PerName → PerName → Told → Type 0
RecordFails file counts now old = (n : List ℕ) → (now n).reading ≢ (counts n).reading → (n ≡ file) × (has_record_fault (old.script n) ≡ true)

-- the result of reading the file
abbrev pub RecordAt : RecordRead → Script → CheckedGraph → Type 0
RecordAt (D.Order O.InTurn) script c = ⊥
RecordAt (D.Order (O.Recorded arrivals)) script c = (has_record_fault script ≡ false) × Spells c script.bytes arrivals
RecordAt D.OpenFailed script c = ⊤
RecordAt D.ReadFailed script c = ⊤
RecordAt D.Bad script c = (has_record_fault script ≡ false) × ((arrivals : Arrivals) → Spells c script.bytes arrivals → ⊥)
RecordAt D.Memory script c = ⊤

-- an order is one for a graph: a record has a list for each operator with several connections
abbrev pub IsOrderOf : CheckedGraph → Order → Type 0
IsOrderOf c O.InTurn = ⊤
IsOrderOf c (O.Recorded arrivals) = map (λ l. l.op) arrivals.lists ≡ several (graph_of c)

abbrev pub IsOrderFor : RecordRead → CheckedGraph → Type 0
IsOrderFor (D.Order order) c = IsOrderOf c order
IsOrderFor _ c = ⊤

-- ---- files of the sinks

-- the sinks of an accepted program have files of their own
abbrev pub HasOwnFiles : Compiled → List (List ℕ) → Type 0
HasOwnFiles (P.Checked c) names = OwnFiles names c.parts
HasOwnFiles _ names = ⊤

-- the record that is written is one of these names
abbrev pub IsNamedBy : Option (List ℕ) → List (List ℕ) → Type 0
IsNamedBy None names = ⊤
IsNamedBy (Some file) names = is_named names file ≡ true

-- the text of the record, for its file
abbrev pub last_of : Option (List ℕ) → List ℕ → Option TextFile
last_of None text = None
last_of (Some file) text = Some (record { file = file; text = text })

-- ---- its run

-- what a graph with these rows means under the record of a run
abbrev pub ran : Graph → List (List Item) → Run → Meaning
ran g rows run = L.meant g rows run

-- A run of the graph: its sources' rows, what it gave its sinks, its fault and its record; and what the shelf tells and counts of the rows.
pub record RanFor (c : CheckedGraph) (run : Run) (told : Option Told) (counts now : PerName) : Type 0 where
  pub graph : Graph
  pub is : graph_of c ≡ graph
  pub rows : List (List Item)
  pub fit : RowsFit graph rows
  pub sinks : SinksGiven graph (ran graph rows run) run.sinks
  pub fault : run.fault ≡ run_fault graph (ran graph rows run)
  pub names : FaultsNameSources graph rows
  pub read : ReadsCounted graph rows counts now
  pub stopped : StoppedBy (cause_of run.fault) c.parts counts now
  pub recorded : IsRecordOf graph (ran graph rows run) run.arrivals
  pub told_rows : IfSome told (λ t. (n : ℕ) → rows_at rows n ≡ rows_told graph t n)
  pub outcome : IfSome told (λ t. (arrivals : Arrivals) → run_outcome c t arrivals ≡ Runs c graph (meant graph t arrivals.lists))

-- the outcome of an accepted program under this record
abbrev pub IsRunAs : CheckedGraph → Arrivals → Told → RequestOutcome → Type 0
IsRunAs c arrivals told result = result ≡ run_outcome c told arrivals

-- and where it is run in this order, and its run has this record
abbrev pub IsRunOf : CheckedGraph → Order → Arrivals → Told → RequestOutcome → Type 0
IsRunOf c O.InTurn arrivals told result = IsRunAs c arrivals told result
IsRunOf c (O.Recorded given) arrivals told result = IsUnder told c given result

-- a run follows its order: its record is the one that is given, if one is, and that is whole
pub record RanIn (c : CheckedGraph) (order : Order) (run : Run) (told : Option Told) : Type 0 where
  pub given : (given : Arrivals) → order ≡ O.Recorded given → run.arrivals ≡ given
  pub outcome : IfSome told (λ t. IsRunOf c order run.arrivals t (run_outcome c t run.arrivals))

-- the record of the order isn't whole for this operator
pub record NotWholeFor (c : CheckedGraph) (order : Order) (op : ℕ) (told : Option Told) : Type 0 where
  pub recorded : order ≡ O.InTurn → ⊥
  pub bad : IsBadFor c (Some op)
  pub outcome : IfSome told (λ t. (arrivals : Arrivals) → IsRunOf c order arrivals t (BadArrivals c (Some op)))

abbrev pub PreparedOf : Prepared → CheckedGraph → Order → Option Told → PerName → PerName → Type 0
PreparedOf (Q.Ran run) c order told counts now = RanFor c run told counts now × RanIn c order run told
PreparedOf (Q.NotWhole op) c order told counts now = NotWholeFor c order op told
PreparedOf (Q.OpenFailed name) c order told counts now = ⊤
PreparedOf Q.Memory c order told counts now = ⊤

-- and what the counts show of it
abbrev pub PreparedCounted : Prepared → FilesOf → PerName → PerName → Type 0
PreparedCounted (Q.Ran run) files old new = OnlyReads files.rows old new
PreparedCounted (Q.NotWhole op) files old new = OnlyReads files.rows old new
PreparedCounted (Q.OpenFailed name) files old new = OpeningFailed files.opened name old new
PreparedCounted Q.Memory files old new = OnlyOf files.rows old new

-- ---- its sinks

-- the sinks of operators with these clauses, numbered from n on: each writes what its operator gives
abbrev pub sinks_from : ℕ → List CheckedClauses → List Sink
sinks_from n [] = []
sinks_from n (A.FileSink file ∷ parts) = record { file = file; stream = n } ∷ sinks_from (suc n) parts
sinks_from n (_ ∷ parts) = sinks_from (suc n) parts

abbrev pub sinks_of : CheckedGraph → List Sink
sinks_of c = sinks_from 0 c.parts

-- the number of rows of each sink
abbrev pub counts_from : ℕ → List CheckedClauses → List ℕ → List SinkCount
counts_from n [] rows = []
counts_from n (A.FileSink file ∷ parts) [] = []
counts_from n (A.FileSink file ∷ parts) (k ∷ rows) = record { op = n; tuples = k } ∷ counts_from (suc n) parts rows
counts_from n (_ ∷ parts) rows = counts_from (suc n) parts rows

-- some run of it
abbrev pub IsSomeRun : CheckedGraph → Arrivals → PerName → PerName → RequestOutcome → Type 0
IsSomeRun c arrivals counts now result = (g : Graph) × (m : Meaning) × RanTo c g m arrivals counts now × (result ≡ Runs c g m)

-- or a record that is bad for it
abbrev pub IsSomeReplay : CheckedGraph → Arrivals → PerName → PerName → RequestOutcome → Type 0
IsSomeReplay c arrivals counts now result = IsSomeRun c arrivals counts now result ⊎ ((op : Option ℕ) × IsBadFor c op × (result ≡ BadArrivals c op))

-- what its result may be in this order
abbrev pub IsSomeIn : Order → CheckedGraph → Arrivals → PerName → PerName → RequestOutcome → Type 0
IsSomeIn O.InTurn c arrivals counts now result = IsSomeRun c arrivals counts now result
IsSomeIn (O.Recorded given) c arrivals counts now result = IsSomeReplay c arrivals counts now result

-- what the result of a run with this record may be
abbrev pub RunComesAs : CheckedGraph → Arrivals → Option Told → PerName → PerName → RequestOutcome → Type 0
RunComesAs c arrivals told counts now result = IsSomeRun c arrivals counts now result × IfSome told (λ t. IsRunAs c arrivals t result)

-- and one in this order
abbrev pub RunComes : CheckedGraph → Order → Arrivals → Option Told → PerName → PerName → RequestOutcome → Type 0
RunComes c order arrivals told counts now result = IsSomeIn order c arrivals counts now result × IfSome told (λ t. IsRunOf c order arrivals t result)

-- the outcome of an accepted program, by its request
abbrev pub IsAcceptedOutcome : Request → CheckedGraph → Arrivals → Told → RequestOutcome → Type 0
IsAcceptedOutcome (R.Check program) c arrivals told result = result ≡ Reports OfSize c
IsAcceptedOutcome (R.Plan program) c arrivals told result = result ≡ Reports OfPlan c
IsAcceptedOutcome (R.Run program options) c arrivals told result = result ≡ run_outcome c told arrivals
IsAcceptedOutcome (R.Replay program file) c arrivals told result = IsReplay told c file result
IsAcceptedOutcome _ c arrivals told result = result ≡ NotBuilt

-- what its result may be, whatever the files hold
abbrev pub MayBeOutcome : Request → CheckedGraph → Arrivals → PerName → PerName → RequestOutcome → Type 0
MayBeOutcome (R.Check program) c arrivals counts now result = result ≡ Reports OfSize c
MayBeOutcome (R.Plan program) c arrivals counts now result = result ≡ Reports OfPlan c
MayBeOutcome (R.Run program options) c arrivals counts now result = IsSomeRun c arrivals counts now result
MayBeOutcome (R.Replay program file) c arrivals counts now result = IsSomeReplay c arrivals counts now result
MayBeOutcome _ c arrivals counts now result = ⊥

abbrev pub IsToldAcceptedOutcome : Request → CheckedGraph → Arrivals → Option Told → PerName → PerName → RequestOutcome → Type 0
IsToldAcceptedOutcome request c arrivals told counts now result = MayBeOutcome request c arrivals counts now result × IfSome told (λ t. IsAcceptedOutcome request c arrivals t result)

-- it isn't refused, and is built
abbrev pub ReasonOf : Cause → CheckedGraph → Type 0
ReasonOf (C.Refused refusal) c = ⊥
ReasonOf C.NotBuilt c = ⊥
ReasonOf (C.BadArrivals op) c = IsBadFor c op
ReasonOf C.Done c = ⊤
ReasonOf (C.Stopped fault) c = ⊤
ReasonOf C.BadWords c = ⊤
ReasonOf (C.OpenFailed name) c = ⊤
ReasonOf (C.ReadFailed name) c = ⊤
ReasonOf (C.WriteFailed name) c = ⊤
ReasonOf C.NoMemory c = ⊤

-- what ran of it, by its request
abbrev pub IsRunGraph : Request → CheckedGraph → CheckedGraph → Type 0
IsRunGraph request c x = (is_report (Some request) ≡ false) × (x ≡ c)

abbrev pub RanAccepted : Cause → Request → CheckedGraph → Ended → PerName → PerName → Type 0
RanAccepted cause request c ended counts now = RunShown cause (IsRunGraph request c) (is_report (Some request) ≡ true) ended counts now

-- where it is run
abbrev pub RanGraph : Cause → CheckedGraph → Ended → PerName → PerName → Type 0
RanGraph cause c ended counts now = RunShown cause (λ x. x ≡ c) ⊥ ended counts now

-- a run under no record that is given isn't ended by a bad one
abbrev pub MayEndIn : Order → Cause → Type 0
MayEndIn O.InTurn cause = is_bad_arrivals cause ≡ false
MayEndIn (O.Recorded given) cause = ⊤

-- a run under a record that is given has that record
abbrev pub FollowsOrder : Order → CheckedGraph → Ended → Told → Told → Type 0
FollowsOrder O.InTurn c ended old new = ⊤
FollowsOrder (O.Recorded given) c ended old new = FollowsBy ended.cause (ended.arrivals ≡ given) (WroteNothing c ended old new)

-- and a replay that which its file spells
abbrev pub FollowsFile : Request → CheckedGraph → Ended → Told → Told → Type 0
FollowsFile (R.Replay program file) c ended old new =
    FollowsBy ended.cause (Spells c (old.script file).bytes ended.arrivals) (WroteNothing c ended old new)
FollowsFile _ c ended old new = ⊤

-- ---- which refusal comes first

-- where a file other than that of the record couldn't be opened, created or read, this spells one
abbrev pub SpelledUnless : Cause → List ℕ → (RequestOutcome → Type 0) → Type 0
SpelledUnless (C.OpenFailed name) file Is = name ≢ file → IsSpelled Is
SpelledUnless (C.ReadFailed name) file Is = name ≢ file → IsSpelled Is
SpelledUnless C.Done file Is = ⊤
SpelledUnless (C.Stopped fault) file Is = ⊤
SpelledUnless C.BadWords file Is = ⊤
SpelledUnless (C.Refused refusal) file Is = ⊤
SpelledUnless C.NotBuilt file Is = ⊤
SpelledUnless (C.BadArrivals op) file Is = ⊤
SpelledUnless (C.WriteFailed name) file Is = ⊤
SpelledUnless C.NoMemory file Is = ⊤

-- in a replay
abbrev pub ReadInOrder : Request → CheckedGraph → Ended → Told → Type 0
ReadInOrder (R.Replay program file) c ended old = SpelledUnless ended.cause file (IsReplay old c file)
ReadInOrder _ c ended old = ⊤

-- ---- the record that is written

-- what the file of a run's record holds, before the run is told of
abbrev pub RecordOf : Option (List ℕ) → CheckedGraph → Ended → PerName → PerName → Told → Told → Type 0
RecordOf None c ended counts now old new = ⊤
RecordOf (Some file) c ended counts now old new =
    RecordHolds ended.cause c.parts file (arrivals_text c ended.arrivals) counts now ⊥ (EachSink (HoldsText (meant (graph_of c) old ended.arrivals.lists) new) (graph_of c).ops) old new

-- and by its request
abbrev pub RecordFor : Request → CheckedGraph → Ended → PerName → PerName → Told → Told → Type 0
RecordFor (R.Run program options) c ended counts now old new = RecordOf options.arrivals c ended counts now old new
RecordFor _ c ended counts now old new = ⊤

-- ---- an answer

-- what the counts of faults show of an answer to what ran these operators, and opened and created these files
pub record CountsShow (cause : Cause) (parts : List CheckedClauses) (files : FilesOf) (old new : PerName) : Type 0 where
  pub words : cause ≡ C.BadWords → ⊥
  pub others : (n : List ℕ) → (is_named files.opened n || is_named files.created n) ≡ false → new n ≡ old n
  pub reading : (n : List ℕ) → is_named files.rows n ≡ false → (new n).reading ≢ (old n).reading → (cause ≡ C.ReadFailed n) ⊎ (cause ≡ C.NoMemory)
  pub device : DevicesShow cause files old new
  pub stopped : StoppedBy cause parts old new

-- and what the files do, at a shelf that tells them
pub record FilesShow (Is : RequestOutcome → Type 0) (files : FilesOf) (ended : Ended) (counts now : PerName) (old new : Told) : Type 0 where
  pub means : CauseMeans ended.cause Is ended old new
  pub others : (n : List ℕ) → is_named files.created n ≡ false → new.holds n ≡ old.holds n
  pub scripts : (n : List ℕ) → is_named files.created n ≡ false → new.script n ≡ old.script n
  pub device : DevicesMean ended.cause files counts now ⊥ Is ended old new
  pub whole : WholeReads ended.cause files counts now old
  pub reads : ReadsFail counts now old

-- a run with this fault, or none, ends with these counts, unless memory ran out for them
abbrev pub EndsAs : Option Fault → List SinkCount → Ended → Type 0
EndsAs fault sinks ended = ((ended.cause ≡ cause_of fault) × (ended.counts ≡ record { channels = []; sinks = sinks })) ⊎ (ended.cause ≡ C.NoMemory)

-- and this is what is told of it, with its counts or without
abbrev pub TellsRun : Bool → CheckedGraph → Ended → List ℕ → Type 0
TellsRun counted c ended text = (text ≡ run_text counted c ended.counts ended.cause) ⊎ (ended.cause ≡ C.NoMemory)

-- ---- the end of a run

-- how a run with this fault, or none, ends by what became of the files that it created
abbrev pub EndsBehind : Sunk → Option Fault → CheckedGraph → List (List ℕ) → Ended → Type 0
EndsBehind (W.Done ns) fault c names ended = EndsAs fault (counts_from 0 c.parts ns) ended
EndsBehind (W.NotCreated place) fault c names ended = (name : List ℕ) → slice_get names place ≡ Some name → IsOr (C.OpenFailed name) ended.cause
EndsBehind (W.NotWritten place) fault c names ended = (name : List ℕ) → slice_get names place ≡ Some name → IsOr (C.WriteFailed name) ended.cause
EndsBehind W.Memory fault c names ended = ended.cause ≡ C.NoMemory

-- and what is told of it
abbrev pub TellsBehind : Sunk → Bool → CheckedGraph → Ended → List ℕ → Type 0
TellsBehind (W.Done ns) counted c ended text = TellsRun counted c ended text
TellsBehind _ counted c ended text = text ≡ status_text None ended.cause

-- a list of a record, emptied
abbrev pub untaken : ArrivalList → ArrivalList
untaken list = record { op = list.op; inputs = [] }

-- these are the lists of a record, each emptied
abbrev pub IsUntaken : Arrivals → Arrivals → Type 0
IsUntaken arrivals result = result.lists ≡ map untaken arrivals.lists

-- it has the run's record, unless a file couldn't be created: then nothing was taken, and nothing is counted
abbrev pub RecordedBy : Sunk → Ended → Arrivals → Type 0
RecordedBy (W.Done ns) ended arrivals = ended.arrivals ≡ arrivals
RecordedBy (W.NotCreated place) ended arrivals = IsUntaken arrivals ended.arrivals × (ended.counts ≡ uncounted)
RecordedBy (W.NotWritten place) ended arrivals = ended.arrivals ≡ arrivals
RecordedBy W.Memory ended arrivals = ended.arrivals ≡ arrivals

-- the answer of a run, by what became of them
pub record EndsRun (sunk : Sunk) (counted : Bool) (c : CheckedGraph) (names : List (List ℕ)) (fault : Option Fault) (arrivals : Arrivals) (answer : Answer) : Type 0 where
  pub ends : EndsBehind sunk fault c names answer.ended
  pub text : IfOk answer.text (TellsBehind sunk counted c answer.ended)
  pub recorded : RecordedBy sunk answer.ended arrivals

-- what the result of a replay of an accepted program may be, which is its outcome where the shelf tells its files
abbrev pub ReplayComes : CheckedGraph → List ℕ → Arrivals → Option Told → PerName → PerName → RequestOutcome → Type 0
ReplayComes c file arrivals told counts now result = IsSomeReplay c arrivals counts now result × IfSome told (λ t. IsReplay t c file result)

-- what is known of a replay of an accepted program before it is told
pub record Replays (file : List ℕ) (c : CheckedGraph) (answer : Answer) (told now : Option Told) (counts later : PerName) (before after : ℕ) : Type 0 where
  pub files : WhereTold told now (λ old new. FilesShow (IsReplay old c file) (replay_files file c) answer.ended counts later old new)
  pub counted : CountsShow answer.ended.cause c.parts (replay_files file c) counts later
  pub text : IfOk answer.text (IsText false answer.ended.cause (ReplayComes c file answer.ended.arrivals told counts later))
  pub reason : ReasonOf answer.ended.cause c
  pub ran : RanGraph answer.ended.cause c answer.ended counts later
  pub needed : IfSome told (λ t. has_record_fault (t.script file) ≡ true → IsUnread (file ∷ []) answer.ended.cause)
  pub followed : WhereTold told now (λ old new.
      FollowsBy answer.ended.cause (Spells c (old.script file).bytes answer.ended.arrivals) (WroteNothing c answer.ended old new))
  pub in_order : IfSome told (λ t. SpelledUnless answer.ended.cause file (IsReplay t c file))
  pub lent : before < 2 ^ 64 - 257 → after ≡ before

-- what is known of the answer to a request before it is told, with what the shelf tells and counts before and after, and what it has lent
pub record AnswersRequest (request : Option Request) (answer : Answer) (told now : Option Told) (counts later : PerName) (before after : ℕ) : Type 0 where
  pub answered : WhereTold told now (Answered request answer.ended counts later ⊥)
  pub shown : Shown answer.ended.cause request counts later ⊥
  pub text : IfOk answer.text (IsText (wants_counts request) answer.ended.cause (IsToldOutcome request told answer.ended.arrivals counts later))
  pub words : ByWords request answer.ended.cause counts later
  pub kinds : MayBe request answer.ended.cause
  pub reason : IsReason answer.ended.cause request
  pub ran : RanShown answer.ended.cause request answer.ended counts later
  pub lent : before < 2 ^ 64 - 257 → after ≡ before
