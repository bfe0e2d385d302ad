-- Which answer a request gets, and what each answer means.
use Rattle.std.specs.Prelude.{IfSome, ◌≡◌, ◌≢◌, ◌-◌, ◌^◌, ◌⊎◌, ◌||◌, min, ℕ, Bool, List, [], ◌∷◌, ◌++◌, codes, map, length, take, false, true, Option, Some, None, ⊤, IsSomeAnd, option_and_then, slice_get}
use Rattle.std.specs.List.{All, filter_map}
use Rattle.std.specs.Option.{option_map, option_map_or}
use Rattle.arrival_format.specs.ArrivalTexts.{Spells, arrivals_text}
use Rattle.feed_pour.specs.Counts.{PerName, Rose}
use Rattle.feed_pour.specs.Contents.{Told}
use Rattle.spl_value.specs.declared.item.Fault.{Fault}
use Rattle.spl_value.specs.declared.item.FaultKind.TheVariants as K
use Rattle.spl_value.specs.declared.item.Item.{Item}
use Rattle.language_model.specs.declared.checked.CheckedClauses.{CheckedClauses}
use Rattle.stream_model.specs.declared.record.Arrivals.{Arrivals}
use Rattle.stream_model.specs.declared.record.Counts.{Counts}
use Rattle.language_model.specs.CheckedGraph.{CheckedGraph}
use Rattle.stream_model.specs.Arrivals.{entries_in, has_several, several}
use Rattle.stream_model.specs.CheckedMeaning.{graph_of}
use Rattle.stream_model.specs.Ends.{run_fault}
use Rattle.stream_model.specs.Meaning.{Graph, Meaning, lists_at, meaning, text}
use Rattle.stream_model.specs.Operators.{Operator, connections}
use Rattle.stream_model.specs.Runs.{AreWhole, IsFirstNotWhole, IsRecordOf, RowsFit, counts_of, rows_at}
use Rattle.stream_model.specs.parts.Records.{finds_items}
use Rattle.stream_model.specs.Stages.{out}
use Rattle.run_report.specs.declared.cause.Cause.{Cause}
use Rattle.run_report.specs.declared.cause.Cause.TheVariants as C
use Rattle.language_model.specs.declared.refusal.Refusal.{Refusal}
use Rattle.command_line.specs.declared.request.Request.{Request}
use Rattle.command_line.specs.declared.request.Request.TheVariants as R
use Rattle.language_model.specs.Files.{sink_file, sink_files, source_file}
use Rattle.language_model.specs.Names.{is_named}
use Rattle.source_rows.specs.Counting.{OnlyRead, OnlyReads, OpeningFailed}
use Rattle.source_rows.specs.Sources.{FaultsNameSources, ReadsCounted, ReadsFail}
use Rattle.spl_driver.specs.Built.{is_built}
use Rattle.spl_driver.specs.Files.{FilesOf, files_of, program_of}
use Rattle.spl_driver.specs.Outcome.{Report, RequestOutcome, NoRequest, Unreadable, Refused, NotBuilt, Reports, BadArrivals, Runs, IsOutcome, IsProgramOf, IsSomeRefusal, ArePartsIn, fails_within, has_record_fault}
use Rattle.spl_driver.specs.declared.ended.Ended.{Ended}

-- ---- causes

-- the cause is this one, or memory ran out
abbrev pub IsOr : Cause → Cause → Type 0
IsOr expected cause = (cause ≡ expected) ⊎ (cause ≡ C.NoMemory)

-- how a run ends that has this fault, or none
abbrev pub cause_of : Option Fault → Cause
cause_of fault = option_map_or (λ f. C.Stopped f) fault C.Done

-- the request was carried out; its run ended with a fault or without
abbrev pub IsRun : Cause → Type 0
IsRun cause = (fault : Option Fault) × (cause ≡ cause_of fault)

-- ---- a run that was carried out

-- a fact of each sink and its file
abbrev pub EachSink : (Operator → List ℕ → Type 0) → List Operator → Type 0
EachSink P [] = ⊤
EachSink P (op ∷ ops) = IfSome (sink_file op.clauses) (P op) × EachSink P ops

-- the text of a sink in the meaning
abbrev pub sink_text : Meaning → Operator → List ℕ
sink_text m op = text op (m.events op.number)

abbrev pub HoldsText : Meaning → Told → Operator → List ℕ → Type 0
HoldsText m new op file = new.holds file ≡ Some (sink_text m op)

-- the file is as it was, or holds a prefix of the sink's text
abbrev pub HoldsPrefix : Meaning → Told → Told → Operator → List ℕ → Type 0
HoldsPrefix m old new op file =
    (new.holds file ≡ old.holds file) ⊎ ((n : ℕ) × (new.holds file ≡ Some (take n (sink_text m op))))

-- The run of this graph with this meaning was carried out: each sink's file holds its text, the counts are the meaning's, and the record
-- is the run's.
pub record CarriedOut (g : Graph) (m : Meaning) (ended : Ended) (new : Told) : Type 0 where
  pub texts : EachSink (HoldsText m new) g.ops
  pub counts : ended.counts ≡ counts_of g m
  pub recorded : IsRecordOf g m ended.arrivals

abbrev pub SameFiles : Told → Told → Type 0
SameFiles old new = (n : List ℕ) → new.holds n ≡ old.holds n

-- a graph whose run has this fault, or none, was carried out
abbrev pub RunsTo : Option Fault → (RequestOutcome → Type 0) → Ended → Told → Type 0
RunsTo fault Is ended new =
    (c : CheckedGraph) × (g : Graph) × (m : Meaning) × Is (Runs c g m)
    × (run_fault g m ≡ fault) × CarriedOut g m ended new

-- nothing was counted
abbrev pub uncounted : Counts
uncounted = record { channels = []; sinks = [] }

-- a program was checked to be told of, no file changed, and nothing was counted
abbrev pub ReportsTo : (RequestOutcome → Type 0) → Ended → Told → Told → Type 0
ReportsTo Is ended old new =
    (report : Report) × (c : CheckedGraph) × Is (Reports report c) × SameFiles old new × (ended.counts ≡ uncounted)

-- ---- what each answer means

-- no sink was created, or those that were hold a prefix of their text
abbrev pub Begun : RequestOutcome → Told → Told → Type 0
Begun (Runs c g m) old new = EachSink (HoldsPrefix m old new) g.ops
Begun _ old new = SameFiles old new

-- ---- a run, as every shelf shows it

-- a record isn't whole for this operator in the meaning of the graph for some closed rows of its sources; of one that isn't spelled nothing is said
abbrev pub IsBadFor : CheckedGraph → Option ℕ → Type 0
IsBadFor c op = IfSome op (λ n.
    (g : Graph) × (rows : List (List Item)) × (arrivals : Arrivals) × (graph_of c ≡ g) × RowsFit g rows
    × IsFirstNotWhole g (meaning g (rows_at rows) (entries_in arrivals.lists)) (entries_in arrivals.lists) n)

-- the record in which nothing was taken: a list for each operator with several connections, each empty
abbrev pub NothingTaken : Graph → Arrivals → Type 0
NothingTaken g arrivals = arrivals.lists ≡ map (λ n. record { op = n; inputs = [] }) (several g)

-- A record so far: there is a list for each operator with several connections, and each entry finds an item.
pub record IsRecordSoFar (g : Graph) (m : Meaning) (arrivals : Arrivals) : Type 0 where
  pub lists : map (λ l. l.op) arrivals.lists ≡ several g
  pub found : (n : ℕ) (op : Operator) → slice_get g.ops n ≡ Some op → has_several (connections op) ≡ true
      → finds_items (lists_at m.streams (connections op)) (entries_in arrivals.lists op.number) ≡ true

-- A run of the graph had this meaning: that for closed rows of its sources, which they name in their faults and of which a
-- read that failed was counted, under a record of which this is known.
pub record RanUnder (Recorded : Type 0) (c : CheckedGraph) (g : Graph) (m : Meaning)
    (arrivals : Arrivals) (counts now : PerName) : Type 0 where
  pub graph : graph_of c ≡ g
  pub rows : List (List Item)
  pub fit : RowsFit g rows
  pub names : FaultsNameSources g rows
  pub read : ReadsCounted g rows counts now
  pub is : m ≡ meaning g (rows_at rows) (entries_in arrivals.lists)
  pub recorded : Recorded

-- under one that is whole in it
abbrev pub RanTo : CheckedGraph → Graph → Meaning → Arrivals → PerName → PerName → Type 0
RanTo c g m arrivals counts now = RanUnder (IsRecordOf g m arrivals) c g m arrivals counts now

-- some run of such a program, under a record of which this is known
abbrev pub RanWith : (Graph → Meaning → Arrivals → Type 0) → (CheckedGraph → Type 0) → Ended → (counts now : PerName)
    → Type 0
RanWith Recorded Program ended counts now =
    (c : CheckedGraph) × (g : Graph) × (m : Meaning) × Program c
    × RanUnder (Recorded g m ended.arrivals) c g m ended.arrivals counts now

-- under one that is whole in its meaning
abbrev pub Ran : (CheckedGraph → Type 0) → Ended → PerName → PerName → Type 0
Ran Program ended counts now = RanWith IsRecordOf Program ended counts now

-- Some run of such a program began, but the file of this name couldn't be created: nothing was taken, and nothing was
-- counted.
pub record Uncreated (name : List ℕ) (P : CheckedGraph → Type 0) (ended : Ended) (counts now : PerName) : Type 0 where
  pub rose : Rose (counts name).creating (now name).creating
  pub none : ended.counts ≡ uncounted
  pub untaken : RanWith (λ g m arrivals. NothingTaken g arrivals) P ended counts now

-- which ended with this fault, or none, and with its counts
abbrev pub RanAs : Option Fault → (CheckedGraph → Type 0) → Ended → PerName → PerName → Type 0
RanAs fault Program ended counts now =
    (c : CheckedGraph) × (g : Graph) × (m : Meaning) × Program c × RanTo c g m ended.arrivals counts now
    × (run_fault g m ≡ fault) × (ended.counts ≡ counts_of g m)

-- no run began: nothing was counted, and no input recorded
pub record NothingRan (ended : Ended) : Type 0 where
  pub counts : ended.counts ≡ uncounted
  pub lists : ended.arrivals.lists ≡ []

-- ---- a replay that writes nothing

-- each file holds what it held, or nothing
abbrev pub OnlyEmptied : Told → Told → Type 0
OnlyEmptied old new = (n : List ℕ) → (new.holds n ≡ old.holds n) ⊎ (new.holds n ≡ Some [])

-- no file changed; or files were emptied and a later one couldn't be, and nothing was taken
abbrev pub WroteNothing : CheckedGraph → Ended → Told → Told → Type 0
WroteNothing c ended old new = SameFiles old new ⊎ (OnlyEmptied old new × NothingTaken (graph_of c) ended.arrivals)

-- ---- which device failed

-- no count changed
abbrev pub NoCountChanged : PerName → PerName → Type 0
NoCountChanged old new = (n : List ℕ) → new n ≡ old n

-- A file that is read as a whole couldn't be. Nothing else was counted.
pub record ReadingFailed (files : FilesOf) (name : List ℕ) (old new : PerName) : Type 0 where
  pub whole : is_named files.whole name ≡ true
  pub rose : Rose (old name).reading (new name).reading
  pub only : OnlyRead (old name) (new name)
  pub others : (n : List ℕ) → n ≢ name → new n ≡ old n

-- A file that is created couldn't be. All files that are opened were, and nothing was counted of those that are created after it.
pub record CreatingFailed (files : FilesOf) (name : List ℕ) (old new : PerName) : Type 0 where
  pub before : List (List ℕ)
  pub order : (behind : List (List ℕ)) × (files.created ≡ before ++ name ∷ behind)
  pub rose : Rose (old name).creating (new name).creating
  pub later : (n : List ℕ) → is_named (files.opened ++ before) n ≡ false → n ≢ name → new n ≡ old n
  pub others : (n : List ℕ) → is_named before n ≡ false → n ≢ name → OnlyRead (old n) (new n)
  pub creating : (n : List ℕ) → n ≢ name → (new n).creating ≡ (old n).creating
  pub opening : (n : List ℕ) → (new n).opening ≡ (old n).opening

-- A file that is created couldn't be written or finished, and is the first such. All files were opened and created.
pub record WritingFailed (files : FilesOf) (name : List ℕ) (old new : PerName) : Type 0 where
  pub before : List (List ℕ)
  pub order : (behind : List (List ℕ)) × (files.created ≡ before ++ name ∷ behind)
  pub rose : Rose (old name).writing (new name).writing
  pub first : All (λ n. new n ≡ old n) before
  pub others : (n : List ℕ) → is_named files.created n ≡ false → OnlyRead (old n) (new n)
  pub made : (n : List ℕ) → ((new n).creating ≡ (old n).creating) × ((new n).opening ≡ (old n).opening)

-- ---- and what the files hold then

-- A file that is created couldn't be: the request runs a graph, those before it are empty, and the others as they were.
pub record StoppedCreating (Is : RequestOutcome → Type 0) (files : FilesOf)
    (name : List ℕ) (counts now : PerName) (old new : Told) : Type 0 where
  pub failed : CreatingFailed files name counts now
  pub empty : All (λ n. new.holds n ≡ Some []) failed.before
  pub others : (n : List ℕ) → is_named failed.before n ≡ false → new.holds n ≡ old.holds n
  pub runs : (c : CheckedGraph) × (g : Graph) × (m : Meaning) × Is (Runs c g m)

-- the file holds the sink's text, and nothing was counted of it; or its count of writing rose, and it holds a prefix
abbrev pub HoldsUnlessFailed : Meaning → PerName → PerName → Told → Operator → List ℕ → Type 0
HoldsUnlessFailed m counts now new op file =
    ((now file ≡ counts file) × HoldsText m new op file)
    ⊎ (Rose (counts file).writing (now file).writing × ((n : ℕ) × (new.holds file ≡ Some (take n (sink_text m op)))))

-- The run of a graph ended, but some file that it created wasn't written or finished. The sinks' files of which nothing was counted hold their texts.
abbrev pub WroteOthers : (RequestOutcome → Type 0) → PerName → PerName → Ended → Told → Type 0
WroteOthers Is counts now ended new =
    (c : CheckedGraph) × (g : Graph) × (m : Meaning)
    × Is (Runs c g m) × EachSink (HoldsUnlessFailed m counts now new) g.ops × IsRecordOf g m ended.arrivals

-- The text of a request that was carried out couldn't be told. Its name is that of standard output, and nothing was counted but reading.
abbrev pub TellingFailed : List ℕ → Type 0 → List (List ℕ) → PerName → PerName → Type 0
TellingFailed name TextFailed rows old new = (name ≡ codes "-") × TextFailed × OnlyReads rows old new

-- ---- which refusal comes first

-- the program isn't refused
abbrev pub IsUnrefused : (RequestOutcome → Type 0) → Type 0
IsUnrefused Is = (refusal : Refusal) → Is (Refused refusal) → ⊥

-- the file of the record spells one
abbrev pub IsSpelled : (RequestOutcome → Type 0) → Type 0
IsSpelled Is = (c : CheckedGraph) → Is (BadArrivals c None) → ⊥

-- The file of this name couldn't be opened, created or read. If it isn't that of the program, this was read before, and
-- isn't refused; if it isn't that of a replay's record either, this was read too, and spells one.
abbrev pub ComesBehind : Option Request → List ℕ → (RequestOutcome → Type 0) → Type 0
ComesBehind None name Is = ⊤
ComesBehind (Some (R.Replay program file)) name Is = name ≢ program → IsUnrefused Is × (name ≢ file → IsSpelled Is)
ComesBehind (Some request) name Is =
    (program : List ℕ) → program_of request ≡ Some program → name ≢ program → IsUnrefused Is

-- ---- the record that a run writes

-- Some file couldn't be written, the first of which has this name. That of the record is empty where it is a sink's; it holds a prefix of its
-- text, and the sinks' files hold theirs, where it is this one; and its text, where the name is that of standard output.
pub data RecordUnwritten (name : List ℕ) (parts : List CheckedClauses) (file text : List ℕ)
    (counts now : PerName) (TextFailed Sinks : Type 0) (new : Told) : Type 0 where
  of_sink : is_named (sink_files parts) name ≡ true → Rose (counts name).writing (now name).writing
      → new.holds file ≡ Some []
      → RecordUnwritten name parts file text counts now TextFailed Sinks new
  of_record : name ≡ file → Rose (counts file).writing (now file).writing → Sinks → (n : ℕ)
      → new.holds file ≡ Some (take n text)
      → RecordUnwritten name parts file text counts now TextFailed Sinks new
  of_telling : name ≡ codes "-" → TextFailed → ((n : List ℕ) → (now n).writing ≡ (counts n).writing) → Sinks
      → new.holds file ≡ Some text
      → RecordUnwritten name parts file text counts now TextFailed Sinks new

-- ---- the causes

-- the request asks for what is told of a program that isn't run
abbrev pub is_report : Option Request → Bool
is_report (Some (R.Check program)) = true
is_report (Some (R.Plan program)) = true
is_report _ = false

-- What is said of a cause: the exit status; what it means, by the outcome of the request and the files; why it comes,
-- and of which requests; which refusals it comes behind; what the counts of faults show, and what the files do with them;
-- a read that failed; what ran; which record a replay returns; and what the file holds into which a run writes its
-- record.
pub record CauseRows : Type 1 where
  pub status : ℕ
  pub means : (RequestOutcome → Type 0) → Ended → Told → Told → Type 0
  pub reason : Option Request → Type 0
  pub may_be : Option Request → Type 0
  pub in_order : Option Request → (RequestOutcome → Type 0) → Type 0
  pub shows : FilesOf → PerName → PerName → Type 0
  pub device : FilesOf → PerName → PerName → Type 0 → (RequestOutcome → Type 0) → Ended → Told → Told → Type 0
  pub stopped : List CheckedClauses → PerName → PerName → Type 0
  pub ran : (CheckedGraph → Type 0) → Type 0 → Ended → PerName → PerName → Type 0
  pub follows : (Spelled Unwritten : Type 0) → Type 0
  pub holds : List CheckedClauses → (file text : List ℕ) → PerName → PerName → (TextFailed Sinks : Type 0) → Told → Told
      → Type 0

-- nothing was done: no file changed, no more was counted than this, and nothing ran
abbrev pub undone : ℕ → (FilesOf → PerName → PerName → Type 0) → CauseRows
undone status shows = record {
  status = status;
  means = λ Is ended old new. SameFiles old new;
  reason = λ request. ⊤;
  may_be = λ request. ⊤;
  in_order = λ request Is. ⊤;
  shows = shows;
  device = λ files counts now TextFailed Is ended old new. shows files counts now;
  stopped = λ parts old new. ⊤;
  ran = λ Program Alone ended counts now. NothingRan ended;
  follows = λ Spelled Unwritten. Unwritten;
  holds = λ parts file text counts now TextFailed Sinks old new. new.holds file ≡ old.holds file;
}

-- the rows of each cause
abbrev pub rows_of : Cause → CauseRows
rows_of C.Done = record (undone 0 (λ files. OnlyReads files.rows)) {
  means = λ Is ended old new. ReportsTo Is ended old new ⊎ RunsTo None Is ended new;
  ran = λ Program Alone ended counts now. (Alone × NothingRan ended) ⊎ RanAs None Program ended counts now;
  follows = λ Spelled Unwritten. Spelled;
  holds = λ parts file text counts now TextFailed Sinks old new. Sinks × (new.holds file ≡ Some text);
}
rows_of (C.Stopped fault) = record (undone 3 (λ files. OnlyReads files.rows)) {
  means = λ Is ended old new. RunsTo (Some fault) Is ended new;
  may_be = λ request. is_report request ≡ false;
  stopped = λ parts old new. fault.kind ≡ K.ReadFailed
      → IsSomeAnd (option_and_then source_file (slice_get parts fault.op)) (λ n. Rose (old n).reading (new n).reading);
  ran = λ Program Alone ended counts now. RanAs (Some fault) Program ended counts now;
  follows = λ Spelled Unwritten. Spelled;
  holds = λ parts file text counts now TextFailed Sinks old new. Sinks × (new.holds file ≡ Some text);
}
rows_of C.BadWords =
    record (undone 1 (λ files. NoCountChanged)) { means = λ Is ended old new. Is NoRequest × SameFiles old new }
rows_of (C.Refused refusal) = record (undone 2 (λ files. NoCountChanged)) {
  means = λ Is ended old new. Is (Refused refusal) × SameFiles old new;
  reason = λ request. IsSomeAnd request (λ r. IsSomeRefusal r refusal);
}
rows_of C.NotBuilt = record (undone 13 (λ files. NoCountChanged)) {
  means = λ Is ended old new. Is NotBuilt × SameFiles old new;
  reason = λ request. IsSomeAnd request (λ r. is_built r ≡ false);
  may_be = λ request. is_report request ≡ false;
}
rows_of (C.BadArrivals op) = record (undone 7 (λ files. OnlyReads files.rows)) {
  means = λ Is ended old new. ((c : CheckedGraph) × Is (BadArrivals c op)) × SameFiles old new;
  reason = λ request. (c : CheckedGraph) × IsProgramOf request c × IsBadFor c op;
  may_be = λ request. (program file : List ℕ) × (request ≡ Some (R.Replay program file));
}
rows_of (C.OpenFailed name) =
    record (undone 4 (λ files old new. OpeningFailed files.opened name old new ⊎ CreatingFailed files name old new)) {
      means = λ Is ended old new. (result : RequestOutcome) → Is result → Begun result old new;
      in_order = λ request Is. ComesBehind request name Is;
      device = λ files counts now TextFailed Is ended old new.
          (OpeningFailed files.opened name counts now × SameFiles old new)
          ⊎ StoppedCreating Is files name counts now old new;
      ran = λ Program Alone ended counts now.
          (NothingRan ended × Rose (counts name).opening (now name).opening) ⊎ Uncreated name Program ended counts now;
    }
rows_of (C.ReadFailed name) =
    record (undone 5 (λ files. ReadingFailed files name)) { in_order = λ request Is. ComesBehind request name Is }
rows_of (C.WriteFailed name) = record (undone 6 (λ files. WritingFailed files name)) {
  means = λ Is ended old new. (result : RequestOutcome) → Is result → Begun result old new;
  device = λ files counts now TextFailed Is ended old new.
      (WritingFailed files name counts now × WroteOthers Is counts now ended new)
      ⊎ (TellingFailed name TextFailed files.rows counts now
      × (ReportsTo Is ended old new ⊎ ((fault : Option Fault) × RunsTo fault Is ended new)));
  ran = λ Program Alone ended counts now. (Alone × NothingRan ended) ⊎ RanWith IsRecordOf Program ended counts now;
  follows = λ Spelled Unwritten. Spelled;
  holds = λ parts file text counts now TextFailed Sinks old new.
      RecordUnwritten name parts file text counts now TextFailed Sinks new;
}
rows_of C.NoMemory = record (undone 9 (λ files old new. ⊤)) {
  means = λ Is ended old new. (result : RequestOutcome) → Is result → Begun result old new;
  ran = λ Program Alone ended counts now. (ended.arrivals.lists ≡ []) ⊎ RanWith IsRecordSoFar Program ended counts now;
  follows = λ Spelled Unwritten. Spelled ⊎ Unwritten;
  holds = λ parts file text counts now TextFailed Sinks old new. (new.holds file ≡ old.holds file)
      ⊎ ((new.holds file ≡ Some []) ⊎ (Sinks × ((n : ℕ) × (new.holds file ≡ Some (take n text)))));
}

abbrev pub status_of : Cause → ℕ
status_of cause = (rows_of cause).status

abbrev pub CauseMeans : Cause → (RequestOutcome → Type 0) → Ended → Told → Told → Type 0
CauseMeans cause = (rows_of cause).means

abbrev pub IsReason : Cause → Option Request → Type 0
IsReason cause = (rows_of cause).reason

abbrev pub MayBe : Option Request → Cause → Type 0
MayBe request cause = (rows_of cause).may_be request

abbrev pub ComesInOrder : Cause → Option Request → (RequestOutcome → Type 0) → Type 0
ComesInOrder cause = (rows_of cause).in_order

abbrev pub DevicesShow : Cause → FilesOf → PerName → PerName → Type 0
DevicesShow cause = (rows_of cause).shows

abbrev pub DevicesMean : Cause → FilesOf → PerName → PerName → Type 0 → (RequestOutcome → Type 0) → Ended → Told → Told
    → Type 0
DevicesMean cause = (rows_of cause).device

abbrev pub StoppedBy : Cause → List CheckedClauses → PerName → PerName → Type 0
StoppedBy cause = (rows_of cause).stopped

abbrev pub RunShown : Cause → (CheckedGraph → Type 0) → Type 0 → Ended → PerName → PerName → Type 0
RunShown cause = (rows_of cause).ran

abbrev pub FollowsBy : Cause → (Spelled Unwritten : Type 0) → Type 0
FollowsBy cause = (rows_of cause).follows

abbrev pub RecordHolds : Cause → List CheckedClauses → (file text : List ℕ) → PerName → PerName
    → (TextFailed Sinks : Type 0) → Told → Told → Type 0
RecordHolds cause = (rows_of cause).holds

-- ---- what else an answer says

-- where the count of reading changed of a file that is read as a whole, its reader fails within its bound, and the answer names it, or memory ran out
abbrev pub WholeReads : Cause → FilesOf → PerName → PerName → Told → Type 0
WholeReads cause files counts now old =
    (n : List ℕ) → is_named files.rows n ≡ false → (now n).reading ≢ (counts n).reading
    → (fails_within (files.most n) (old.script n) ≡ true) × IsOr (C.ReadFailed n) cause

-- one of these files, which are read as a whole, couldn't be opened or read, or memory ran out
abbrev pub IsUnread : List (List ℕ) → Cause → Type 0
IsUnread whole cause =
    (cause ≡ C.NoMemory) ⊎ ((name : List ℕ) × (is_named whole name ≡ true)
    × ((cause ≡ C.OpenFailed name) ⊎ (cause ≡ C.ReadFailed name)))

-- a replay whose record can't be read ends by that, or since its program can't be read or is refused
abbrev pub NeedsRecord : Option Request → Ended → Told → Type 0
NeedsRecord (Some (R.Replay program file)) ended old =
    has_record_fault (old.script file) ≡ true → ((refusal : Refusal) × (ended.cause ≡ C.Refused refusal))
    ⊎ IsUnread (program ∷ file ∷ []) ended.cause
NeedsRecord _ ended old = ⊤

-- a replay returns the record that its file spells for its program
abbrev pub FollowsRecord : Option Request → (RequestOutcome → Type 0) → Ended → Told → Told → Type 0
FollowsRecord (Some (R.Replay program file)) Is ended old new =
    (c : CheckedGraph) (g : Graph) (m : Meaning) → Is (Runs c g m)
    → (rows_of ended.cause).follows (Spells c (old.script file).bytes ended.arrivals) (WroteNothing c ended old new)
FollowsRecord _ Is ended old new = ⊤

-- a run that is asked for its record writes the one that it returns
abbrev pub WritesRecord : Option Request → (RequestOutcome → Type 0) → Ended → PerName → PerName → Type 0 → Told → Told
    → Type 0
WritesRecord (Some (R.Run program options)) Is ended counts now TextFailed old new =
    (file : List ℕ) → options.arrivals ≡ Some file → (c : CheckedGraph) (g : Graph) (m : Meaning) → Is (Runs c g m)
    → (rows_of ended.cause).holds c.parts file (arrivals_text c ended.arrivals) counts now TextFailed
    (EachSink (HoldsText m new) g.ops) old new
WritesRecord _ Is ended counts now TextFailed old new = ⊤

-- a fact of the files of the request, by the operators of its program
abbrev pub ForFiles : Told → Option Request → (FilesOf → Type 0) → Type 0
ForFiles told request P = (parts : List CheckedClauses) → ArePartsIn told request parts → P (files_of request parts)

-- the answer to a request at a shelf that tells its files, where the count of the text's pour rose or not
pub record Answered (request : Option Request) (ended : Ended) (counts now : PerName)
    (TextFailed : Type 0) (old new : Told) : Type 0 where
  pub means : (rows_of ended.cause).means (IsOutcome old ended.arrivals request) ended old new
  pub others : ForFiles old request
      (λ files. (n : List ℕ) → is_named files.created n ≡ false → new.holds n ≡ old.holds n)
  pub scripts : ForFiles old request
      (λ files. (n : List ℕ) → is_named files.created n ≡ false → new.script n ≡ old.script n)
  pub counted : ForFiles old request
      (λ files. (n : List ℕ) → (is_named files.opened n || is_named files.created n) ≡ false → now n ≡ counts n)
  pub device : ForFiles old request (λ files.
      (rows_of ended.cause).device files counts now TextFailed (IsOutcome old ended.arrivals request) ended old new)
  pub stopped : (parts : List CheckedClauses) → ArePartsIn old request parts
      → (rows_of ended.cause).stopped parts counts now
  pub whole : ForFiles old request (λ files. WholeReads ended.cause files counts now old)
  pub reads : ReadsFail counts now old
  pub needed : NeedsRecord request ended old
  pub followed : FollowsRecord request (IsOutcome old ended.arrivals request) ended old new
  pub in_order : (rows_of ended.cause).in_order request (IsOutcome old ended.arrivals request)
  pub recorded : WritesRecord request (IsOutcome old ended.arrivals request) ended counts now TextFailed old new

-- ---- completeness

-- a count rose of opening a file that is opened, of reading one that is read as a whole, or of creating or writing one that is created
pub data DeviceFailed (files : FilesOf) (old new : PerName) : Type 0 where
  opening : (n : List ℕ) → is_named files.opened n ≡ true → Rose (old n).opening (new n).opening
      → DeviceFailed files old new
  reading : (n : List ℕ) → is_named files.whole n ≡ true → Rose (old n).reading (new n).reading
      → DeviceFailed files old new
  creating : (n : List ℕ) → is_named files.created n ≡ true → Rose (old n).creating (new n).creating
      → DeviceFailed files old new
  writing : (n : List ℕ) → is_named files.created n ≡ true → Rose (old n).writing (new n).writing
      → DeviceFailed files old new

-- where no device failed, the outcome of the request is the answer, or memory ran out
abbrev pub IsAnswer : RequestOutcome → List (List ℕ) → Type 0 → Type 0 → Cause → Type 0
IsAnswer NoRequest whole Failed TextFailed cause = (Failed → ⊥) → IsOr C.BadWords cause
IsAnswer (Unreadable file) whole Failed TextFailed cause = IsUnread whole cause
IsAnswer (Refused refusal) whole Failed TextFailed cause = (Failed → ⊥) → IsOr (C.Refused refusal) cause
IsAnswer NotBuilt whole Failed TextFailed cause = (Failed → ⊥) → IsOr C.NotBuilt cause
IsAnswer (Reports report c) whole Failed TextFailed cause = (Failed → ⊥) → (TextFailed → ⊥) → IsOr C.Done cause
IsAnswer (BadArrivals c op) whole Failed TextFailed cause = (Failed → ⊥) → IsOr (C.BadArrivals op) cause
IsAnswer (Runs c g m) whole Failed TextFailed cause =
    (Failed → ⊥) → (TextFailed → ⊥) → IsOr (cause_of (run_fault g m)) cause

-- whatever the outcome of the request
abbrev pub IsComplete : Option Request → Ended → PerName → PerName → Type 0 → Told → Type 0
IsComplete request ended counts now TextFailed told =
    (result : RequestOutcome) → IsOutcome told ended.arrivals request result
    → ForFiles told request (λ files. IsAnswer result files.whole
    (DeviceFailed files counts now) TextFailed ended.cause)

-- the words alone decide that there is no request, or that it isn't built
abbrev pub ByWords : Option Request → Cause → PerName → PerName → Type 0
ByWords None cause old new = IsOr C.BadWords cause × NoCountChanged old new
ByWords (Some request) cause old new = is_built request ≡ false → IsOr C.NotBuilt cause × NoCountChanged old new
