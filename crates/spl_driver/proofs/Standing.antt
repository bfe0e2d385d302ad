-- What each answer means, from what the steps of a request did.
use Rattle.std.proofs.Common.{◌≡◌, ◌≢◌, ◌∙◌, ◌<◌, ◌≤◌, ◌-◌, ◌^◌, arith, ℕ, Bool, true, false, List, [], ◌∷◌, refl, sym, ap, subst, inl, inr, ◌⊎◌, Option, Some, None, Result, Ok, Err}
use Rattle.std.specs.Prelude.{IfSome, ◌||◌, IfOk, if◌then◌else◌}
use Rattle.std.specs.Str.{bytes_eq}
use Rattle.feed_pour.specs.Counts.{PerName}
use Rattle.feed_pour.specs.Contents.{Told, WhereTold, TellsSame}
use Rattle.spl_value.specs.declared.memory.NoMemory.{NoMemory}
use Rattle.language_model.specs.declared.checked.CheckedClauses.{CheckedClauses}
use Rattle.stream_model.specs.declared.record.Arrivals.{Arrivals}
use Rattle.stream_model.specs.CheckedMeaning.{graph_of}
use Rattle.stream_model.specs.Meaning.{Graph, Meaning}
use Rattle.language_model.specs.declared.refusal.Refusal.{Refusal}
use Rattle.language_model.specs.Accepted.{IsAccepted}
use Rattle.language_model.specs.CheckedGraph.{CheckedGraph}
use Rattle.run_report.specs.declared.cause.Cause.{Cause}
use Rattle.run_report.specs.declared.cause.Cause.TheVariants as C
use Rattle.command_line.specs.declared.request.Request.{Request}
use Rattle.command_line.specs.declared.request.Request.TheVariants as R
use Rattle.command_line.specs.Request.{file_names}
use Rattle.language_model.specs.Files.{source_files}
use Rattle.language_model.specs.Names.{is_named}
use Rattle.spl_value.specs.declared.item.Fault.{Fault}
use Rattle.source_rows.specs.Counting.{OpeningFailed}
use Rattle.spl_driver.specs.Built.{is_built}
use Rattle.spl_driver.specs.Files.{FilesOf, files_of, opens, creates, most_bytes, row_files, whole_files, program_of}
use Rattle.spl_driver.specs.Outcome.{RequestOutcome, NoRequest, Unreadable, Refused, NotBuilt, Reports, BadArrivals, Runs, IsReplay, fails_within, has_fault, IsOutcome, IsProgramOf, no_request, not_built, ArePartsIn, of_program, meant}
use Rattle.spl_driver.specs.Answer.{ComesBehind, ComesInOrder, FollowsBy, IsSpelled, IsUnrefused, WroteNothing, EachSink, HoldsText, SameFiles, Begun, CauseMeans, ReportsTo, RunsTo, WroteOthers, StoppedCreating, TellingFailed, DevicesMean, ReadingFailed, WholeReads, NoCountChanged, StoppedBy, Answered, ByWords, FollowsRecord, IsOr, IsRun, IsUnread, NeedsRecord, RecordHolds, WritesRecord}
use Rattle.spl_driver.specs.Texts.{wants_counts, IsToldOutcome, EndsTelling, IsTextOf, MayComeTo}
use Rattle.spl_driver.specs.steps.Telling.{IsText}
use Rattle.spl_driver.specs.RequestLaws.{OnePartsLaw}
use Rattle.spl_driver.specs.AcceptedLaws.{OneAcceptedLaw}
use Rattle.arrival_format.specs.ArrivalTexts.{Spells, arrivals_text}
use Rattle.spl_driver.specs.steps.Steps.{ReadInOrder, SpelledUnless, FirstOpening, FirstReading, MayBeOutcome, CompiledAt, FollowsFile, IsAcceptedOutcome, IsToldAcceptedOutcome, CountsShow, FilesShow, RecordFor, RecordOf, WholeFails, is_ended_run}
use Rattle.spl_driver.proofs.Causes.{ReadingAnswered, EndsWith}
use Rattle.spl_driver.specs.declared.compiled.Compiled.TheVariants as P
use Rattle.spl_driver.specs.declared.ended.Ended.{Ended}
use Rattle.spl_driver.proofs.Fetching.{fails_more, own_name, quiet_only, read_itself, reads_whole, told_again, same_told}
use Rattle.spl_driver.proofs.Replaying.{replay_graph, unrefused_replay}
use Rattle.spl_driver.proofs.Requests.{IsFoundOutcome, back_found, outcome_found}
use Rattle.spl_value.proofs.Bools.{or_false as or_none}
use Rattle.spl_value.proofs.Lists.{same_name, same_or_not}
use Rattle.source_rows.proofs.Counting.{other_name, read_same}

-- ---- shelves that tell the same

pub same_counts : (old mid : PerName) → NoCountChanged old mid → mid ≡ old
same_counts old mid same = λ i n. same n i

-- ---- files that stay

-- a list of prefixes from equal files is a lemma on sinks
abbrev pub BegunSame : Type 0
BegunSame = (result : RequestOutcome) (t u : Told) → SameFiles t u → Begun result t u

-- ---- one cause and another

pub means_map : (cause : Cause) (Is Js : RequestOutcome → Type 0) (ended : Ended) (t u : Told) → ((r : RequestOutcome) → Is r → Js r) → ((r : RequestOutcome) → Js r → Is r)
    → CauseMeans cause Is ended t u → CauseMeans cause Js ended t u
means_map C.Done Is Js ended t u to from (inl (report, c, is, same, counts)) = inl (report, c, to (Reports report c) is, same, counts)
means_map C.Done Is Js ended t u to from (inr (c, g, m, is, e, h)) = inr (c, g, m, to (Runs c g m) is, e, h)
means_map (C.Stopped fault) Is Js ended t u to from (c, g, m, is, e, h) = (c, g, m, to (Runs c g m) is, e, h)
means_map C.BadWords Is Js ended t u to from (is, same) = (to NoRequest is, same)
means_map (C.Refused refusal) Is Js ended t u to from (is, same) = (to (Refused refusal) is, same)
means_map C.NotBuilt Is Js ended t u to from (is, same) = (to NotBuilt is, same)
means_map (C.OpenFailed name) Is Js ended t u to from h = λ r js. h r (from r js)
means_map (C.ReadFailed name) Is Js ended t u to from h = h
means_map (C.BadArrivals op) Is Js ended t u to from ((c, is), same) = ((c, to (BadArrivals c op) is), same)
means_map (C.WriteFailed name) Is Js ended t u to from h = λ r js. h r (from r js)
means_map C.NoMemory Is Js ended t u to from h = λ r js. h r (from r js)

reports_map : (Is Js : RequestOutcome → Type 0) (ended : Ended) (t u : Told) → ((r : RequestOutcome) → Is r → Js r) → ReportsTo Is ended t u → ReportsTo Js ended t u
reports_map Is Js ended t u to (report, c, is, same, counts) = (report, c, to (Reports report c) is, same, counts)

runs_map : (Is Js : RequestOutcome → Type 0) (fault : Option Fault) (ended : Ended) (u : Told) → ((r : RequestOutcome) → Is r → Js r) → RunsTo fault Is ended u → RunsTo fault Js ended u
runs_map Is Js fault ended u to (c, g, m, is, e, h) = (c, g, m, to (Runs c g m) is, e, h)

ran_map : (Is Js : RequestOutcome → Type 0) (ended : Ended) (t u : Told) → ((r : RequestOutcome) → Is r → Js r) → ReportsTo Is ended t u ⊎ ((fault : Option Fault) × RunsTo fault Is ended u)
    → ReportsTo Js ended t u ⊎ ((fault : Option Fault) × RunsTo fault Js ended u)
ran_map Is Js ended t u to (inl h) = inl (reports_map Is Js ended t u to h)
ran_map Is Js ended t u to (inr (fault, h)) = inr (fault, runs_map Is Js fault ended u to h)

others_map : (Is Js : RequestOutcome → Type 0) (counts now : PerName) (ended : Ended) (u : Told) → ((r : RequestOutcome) → Is r → Js r) → WroteOthers Is counts now ended u → WroteOthers Js counts now ended u
others_map Is Js counts now ended u to (c, g, m, is, texts, recorded) = (c, g, m, to (Runs c g m) is, texts, recorded)

telling_map : (files : FilesOf) (name : List ℕ) (counts now : PerName) (Text : Type 0) (Is Js : RequestOutcome → Type 0) (ended : Ended) (t u : Told) → ((r : RequestOutcome) → Is r → Js r)
    → TellingFailed name Text files.rows counts now × (ReportsTo Is ended t u ⊎ ((fault : Option Fault) × RunsTo fault Is ended u))
    → TellingFailed name Text files.rows counts now × (ReportsTo Js ended t u ⊎ ((fault : Option Fault) × RunsTo fault Js ended u))
telling_map files name counts now Text Is Js ended t u to (untold, ran) = (untold, ran_map Is Js ended t u to ran)

created_map : (Is Js : RequestOutcome → Type 0) (files : FilesOf) (name : List ℕ) (counts now : PerName) (t u : Told) → ((r : RequestOutcome) → Is r → Js r) → StoppedCreating Is files name counts now t u → StoppedCreating Js files name counts now t u
created_map Is Js files name counts now t u to h = by h.runs
  where
    by : ((c : CheckedGraph) × (g : Graph) × (m : Meaning) × Is (Runs c g m)) → StoppedCreating Js files name counts now t u
    by (c, g, m, is) = record { failed = h.failed; empty = h.empty; others = h.others; runs = (c, g, m, to (Runs c g m) is) }

pub devices_map : (cause : Cause) (files : FilesOf) (counts now : PerName) (Text : Type 0) (Is Js : RequestOutcome → Type 0) (ended : Ended) (t u : Told) → ((r : RequestOutcome) → Is r → Js r)
    → DevicesMean cause files counts now Text Is ended t u → DevicesMean cause files counts now Text Js ended t u
devices_map (C.OpenFailed name) files counts now Text Is Js ended t u to (inl h) = inl h
devices_map (C.OpenFailed name) files counts now Text Is Js ended t u to (inr h) = inr (created_map Is Js files name counts now t u to h)
devices_map (C.WriteFailed name) files counts now Text Is Js ended t u to (inl h) = inl (h.0, others_map Is Js counts now ended u to h.1)
devices_map (C.WriteFailed name) files counts now Text Is Js ended t u to (inr h) = inr (telling_map files name counts now Text Is Js ended t u to h)
devices_map C.Done files counts now Text Is Js ended t u to h = h
devices_map (C.Stopped fault) files counts now Text Is Js ended t u to h = h
devices_map C.NotBuilt files counts now Text Is Js ended t u to h = h
devices_map C.BadWords files counts now Text Is Js ended t u to h = h
devices_map (C.Refused refusal) files counts now Text Is Js ended t u to h = h
devices_map (C.ReadFailed name) files counts now Text Is Js ended t u to h = h
devices_map (C.BadArrivals op) files counts now Text Is Js ended t u to h = h
devices_map C.NoMemory files counts now Text Is Js ended t u to h = h

ends_with : (counted : Bool) (r : RequestOutcome) (cause : Cause) (text : List ℕ) → EndsTelling counted r cause text → EndsWith r cause
ends_with counted (Reports report c) cause text (ends, e) = ends
ends_with counted (Runs c g m) cause text (ends, e) = ends
ends_with counted (BadArrivals c op) cause text (ends, e) = ends
ends_with counted NoRequest cause text h = h
ends_with counted (Unreadable file) cause text h = h
ends_with counted (Refused refusal) cause text h = h
ends_with counted NotBuilt cause text h = h

text_of_map : (counted : Bool) (Is Js : RequestOutcome → Type 0) (cause : Cause) (text : List ℕ) → ((r : RequestOutcome) → EndsWith r cause → Is r → Js r) → IsTextOf counted Is cause text → IsTextOf counted Js cause text
text_of_map counted Is Js cause text to (r, is, told) = (r, to r (ends_with counted r cause text told) is, told)

pub text_map : (counted : Bool) (cause : Cause) (Is Js : RequestOutcome → Type 0) (text : List ℕ) → ((r : RequestOutcome) → EndsWith r cause → Is r → Js r) → IsText counted cause Is text → IsText counted cause Js text
text_map counted C.Done Is Js text to is = text_of_map counted Is Js C.Done text to is
text_map counted (C.Stopped fault) Is Js text to is = text_of_map counted Is Js (C.Stopped fault) text to is
text_map counted C.NoMemory Is Js text to is = is
text_map counted C.BadWords Is Js text to is = is
text_map counted (C.Refused refusal) Is Js text to is = is
text_map counted C.NotBuilt Is Js text to is = is
text_map counted (C.OpenFailed name) Is Js text to is = is
text_map counted (C.ReadFailed name) Is Js text to is = is
text_map counted (C.BadArrivals op) Is Js text to is = text_of_map counted Is Js (C.BadArrivals op) text to is
text_map counted (C.WriteFailed name) Is Js text to is = is

-- ---- answers before anything was done

-- no count changed
pub reads_same : (told : Option Told) (counts : PerName) → IfSome told (WholeFails counts counts)
reads_same None counts = tt
reads_same (Some t) counts = λ n differs. absurd (differs refl)

-- a cause of which the counts show nothing where none changed
abbrev pub IsQuiet : Cause → Type 0
IsQuiet C.Done = Unit {0}
IsQuiet (C.Stopped fault) = Unit {0}
IsQuiet C.NotBuilt = Unit {0}
IsQuiet C.BadWords = Unit {0}
IsQuiet (C.Refused refusal) = Unit {0}
IsQuiet C.NoMemory = Unit {0}
IsQuiet (C.OpenFailed name) = ⊥
IsQuiet (C.ReadFailed name) = ⊥
IsQuiet (C.BadArrivals op) = Unit {0}
IsQuiet (C.WriteFailed name) = ⊥

pub quiet_devices : (cause : Cause) (files : FilesOf) (counts now : PerName) (Text : Type 0) (Is : RequestOutcome → Type 0) (ended : Ended) (t u : Told) → IsQuiet cause → NoCountChanged counts now
    → DevicesMean cause files counts now Text Is ended t u
quiet_devices C.Done files counts now Text Is ended t u is quiet = quiet_only files.rows counts now quiet
quiet_devices (C.Stopped fault) files counts now Text Is ended t u is quiet = quiet_only files.rows counts now quiet
quiet_devices C.NotBuilt files counts now Text Is ended t u is quiet = quiet
quiet_devices C.BadWords files counts now Text Is ended t u is quiet = quiet
quiet_devices (C.Refused refusal) files counts now Text Is ended t u is quiet = quiet
quiet_devices (C.BadArrivals op) files counts now Text Is ended t u is quiet = quiet_only files.rows counts now quiet
quiet_devices C.NoMemory files counts now Text Is ended t u is quiet = tt
quiet_devices (C.OpenFailed name) files counts now Text Is ended t u is quiet = absurd is
quiet_devices (C.ReadFailed name) files counts now Text Is ended t u is quiet = absurd is
quiet_devices (C.WriteFailed name) files counts now Text Is ended t u is quiet = absurd is

-- a cause that is no fault of a run
abbrev pub IsUnrun : Cause → Type 0
IsUnrun (C.Stopped fault) = ⊥
IsUnrun C.Done = Unit {0}
IsUnrun C.NotBuilt = Unit {0}
IsUnrun C.BadWords = Unit {0}
IsUnrun (C.Refused refusal) = Unit {0}
IsUnrun C.NoMemory = Unit {0}
IsUnrun (C.OpenFailed name) = Unit {0}
IsUnrun (C.ReadFailed name) = Unit {0}
IsUnrun (C.BadArrivals op) = Unit {0}
IsUnrun (C.WriteFailed name) = Unit {0}

pub quiet_stopped : (cause : Cause) (parts : List CheckedClauses) (counts now : PerName) → IsUnrun cause → StoppedBy cause parts counts now
quiet_stopped (C.Stopped fault) parts counts now is = absurd is
quiet_stopped C.Done parts counts now is = tt
quiet_stopped C.NotBuilt parts counts now is = tt
quiet_stopped C.BadWords parts counts now is = tt
quiet_stopped (C.Refused refusal) parts counts now is = tt
quiet_stopped C.NoMemory parts counts now is = tt
quiet_stopped (C.OpenFailed name) parts counts now is = tt
quiet_stopped (C.ReadFailed name) parts counts now is = tt
quiet_stopped (C.BadArrivals op) parts counts now is = tt
quiet_stopped (C.WriteFailed name) parts counts now is = tt

-- ---- records

-- what a record is needed for, by the requests that have one
pub needs_by : (request : Option Request) (ended : Ended) (t : Told) → ((p file : List ℕ) → request ≡ Some (R.Replay p file) → ((refusal : Refusal) × (ended.cause ≡ C.Refused refusal)) ⊎ IsUnread (p ∷ file ∷ []) ended.cause) → NeedsRecord request ended t
needs_by None ended t h = tt
needs_by (Some (R.Check p)) ended t h = tt
needs_by (Some (R.Plan p)) ended t h = tt
needs_by (Some (R.Run p options)) ended t h = tt
needs_by (Some (R.Replay p file)) ended t h = λ fault. h p file refl
needs_by (Some (R.Simulate p width schedule steps)) ended t h = tt
needs_by (Some (R.Make name rows start)) ended t h = tt

-- a replay that was carried out has the record of its file
pub follows_run : (k : Cause) (Spelled Unwritten : Type 0) → IsRun k → FollowsBy k Spelled Unwritten → Spelled
follows_run k Spelled Unwritten (None, e) h = subst (λ (c : Cause). FollowsBy c Spelled Unwritten) e h
follows_run k Spelled Unwritten (Some fault, e) h = subst (λ (c : Cause). FollowsBy c Spelled Unwritten) e h

-- where no run ended and nothing was written no record is followed
pub follows_unwritten : (k : Cause) (Spelled Unwritten : Type 0) → is_ended_run k ≡ false → Unwritten
    → FollowsBy k Spelled Unwritten
follows_unwritten C.Done Spelled Unwritten none h = cc
follows_unwritten (C.Stopped fault) Spelled Unwritten none h = cc
follows_unwritten (C.WriteFailed name) Spelled Unwritten none h = cc
follows_unwritten C.NoMemory Spelled Unwritten none h = inr h
follows_unwritten C.NotBuilt Spelled Unwritten none h = h
follows_unwritten C.BadWords Spelled Unwritten none h = h
follows_unwritten (C.Refused refusal) Spelled Unwritten none h = h
follows_unwritten (C.OpenFailed name) Spelled Unwritten none h = h
follows_unwritten (C.ReadFailed name) Spelled Unwritten none h = h
follows_unwritten (C.BadArrivals op) Spelled Unwritten none h = h

pub follows_none : (request : Option Request) (Is : RequestOutcome → Type 0) (ended : Ended) (t u : Told)
    → is_ended_run ended.cause ≡ false → SameFiles t u → FollowsRecord request Is ended t u
follows_none None Is ended t u e same = tt
follows_none (Some (R.Check p)) Is ended t u e same = tt
follows_none (Some (R.Plan p)) Is ended t u e same = tt
follows_none (Some (R.Run p options)) Is ended t u e same = tt
follows_none (Some (R.Replay p file)) Is ended t u e same = λ c g m is.
    follows_unwritten ended.cause (Spells c (t.script file).bytes ended.arrivals) (WroteNothing c ended t u) e (inl same)
follows_none (Some (R.Simulate p width schedule steps)) Is ended t u e same = tt
follows_none (Some (R.Make name rows start)) Is ended t u e same = tt

-- ---- which refusal comes first

-- where no count changed no file is named
quiet_order : (cause : Cause) (request : Option Request) (Is : RequestOutcome → Type 0) → IsQuiet cause
    → ComesInOrder cause request Is
quiet_order C.Done request Is quiet = tt
quiet_order (C.Stopped fault) request Is quiet = tt
quiet_order C.NotBuilt request Is quiet = tt
quiet_order C.BadWords request Is quiet = tt
quiet_order (C.Refused refusal) request Is quiet = tt
quiet_order (C.BadArrivals op) request Is quiet = tt
quiet_order C.NoMemory request Is quiet = tt
quiet_order (C.OpenFailed name) request Is quiet = absurd quiet
quiet_order (C.ReadFailed name) request Is quiet = absurd quiet
quiet_order (C.WriteFailed name) request Is quiet = absurd quiet

-- a request has one program
one_program : (request : Request) (p q : List ℕ) → program_of request ≡ Some p → program_of request ≡ Some q → p ≡ q
one_program request p q first second = let same : Some p ≡ Some q = sym first ∙ second in cc

-- no file is read before the program's
behind_program : (request : Request) (program : List ℕ) (Is : RequestOutcome → Type 0) → program_of request ≡ Some program
    → ComesBehind (Some request) program Is
behind_program (R.Check p) program Is of = λ q is other. absurd (other (one_program (R.Check p) program q of is))
behind_program (R.Plan p) program Is of = λ q is other. absurd (other (one_program (R.Plan p) program q of is))
behind_program (R.Run p options) program Is of = λ q is other.
    absurd (other (one_program (R.Run p options) program q of is))
behind_program (R.Replay p file) program Is of = λ other.
    absurd (other (one_program (R.Replay p file) program p of refl))
behind_program (R.Simulate p width schedule steps) program Is of = λ q is other.
    absurd (other (one_program (R.Simulate p width schedule steps) program q of is))
behind_program (R.Make name rows start) program Is of = λ q is other.
    absurd (other (one_program (R.Make name rows start) program q of is))

-- the program alone couldn't be opened or read
program_order : (cause : Cause) (request : Request) (program : List ℕ) (Is : RequestOutcome → Type 0)
    → program_of request ≡ Some program
    → (cause ≡ C.NoMemory) ⊎ ((cause ≡ C.OpenFailed program) ⊎ (cause ≡ C.ReadFailed program))
    → ComesInOrder cause (Some request) Is
program_order cause request program Is of (inl e) = subst (λ (k : Cause). ComesInOrder k (Some request) Is) (sym e) tt
program_order cause request program Is of (inr (inl e)) =
    subst (λ (k : Cause). ComesInOrder k (Some request) Is) (sym e) (behind_program request program Is of)
program_order cause request program Is of (inr (inr e)) =
    subst (λ (k : Cause). ComesInOrder k (Some request) Is) (sym e) (behind_program request program Is of)

-- where no run ended, the file that a record is written into holds what it held
pub record_kept : (k : Cause) (parts : List CheckedClauses) (file text : List ℕ) (counts now : PerName) (TextFailed Sinks : Type 0) (t u : Told) → is_ended_run k ≡ false → u.holds file ≡ t.holds file → RecordHolds k parts file text counts now TextFailed Sinks t u
record_kept C.Done parts file text counts now TextFailed Sinks t u none same = cc
record_kept (C.Stopped fault) parts file text counts now TextFailed Sinks t u none same = cc
record_kept (C.WriteFailed name) parts file text counts now TextFailed Sinks t u none same = cc
record_kept C.NoMemory parts file text counts now TextFailed Sinks t u none same = inl same
record_kept C.BadWords parts file text counts now TextFailed Sinks t u none same = same
record_kept (C.Refused refusal) parts file text counts now TextFailed Sinks t u none same = same
record_kept C.NotBuilt parts file text counts now TextFailed Sinks t u none same = same
record_kept (C.OpenFailed name) parts file text counts now TextFailed Sinks t u none same = same
record_kept (C.ReadFailed name) parts file text counts now TextFailed Sinks t u none same = same
record_kept (C.BadArrivals op) parts file text counts now TextFailed Sinks t u none same = same

pub writes_none : (request : Option Request) (Is : RequestOutcome → Type 0) (ended : Ended) (counts now : PerName) (TextFailed : Type 0) (t u : Told) → is_ended_run ended.cause ≡ false → SameFiles t u
    → WritesRecord request Is ended counts now TextFailed t u
writes_none None Is ended counts now TextFailed t u none same = tt
writes_none (Some (R.Check p)) Is ended counts now TextFailed t u none same = tt
writes_none (Some (R.Plan p)) Is ended counts now TextFailed t u none same = tt
writes_none (Some (R.Run p options)) Is ended counts now TextFailed t u none same = λ file given c g m is. record_kept ended.cause c.parts file (arrivals_text c ended.arrivals) counts now TextFailed (EachSink (HoldsText m u) g.ops) t u none (same file)
writes_none (Some (R.Replay p file)) Is ended counts now TextFailed t u none same = tt
writes_none (Some (R.Simulate p width schedule steps)) Is ended counts now TextFailed t u none same = tt
writes_none (Some (R.Make name rows start)) Is ended counts now TextFailed t u none same = tt

unbuilt_record : (request : Request) → is_built request ≡ false → (p file : List ℕ) → Some request ≡ Some (R.Replay p file) → ⊥
unbuilt_record request other p file e = let same : request ≡ R.Replay p file = cc in let bad : true ≡ false = sym (ap is_built same) ∙ other in cc

-- the program is the first file that is read as a whole
pub named_first : (request : Request) (program : List ℕ) → program_of request ≡ Some program → (p file : List ℕ) → Some request ≡ Some (R.Replay p file) → is_named (p ∷ file ∷ []) program ≡ true
named_first request program of p file e =
    let same : request ≡ R.Replay p file = cc in
    let is : Some p ≡ Some program = sym (ap program_of same) ∙ of in
    let one : p ≡ program = cc in
    ap (λ (q : List ℕ). bytes_eq q program || (bytes_eq file program || false)) one ∙ ap (λ (b : Bool). b || (bytes_eq file program || false)) (same_name program)

-- an answer after which all files are as they were and no count changed
pub quiet_answer : (told now : Option Told) (request : Option Request) (cause : Cause) (ended : Ended) (counts later : PerName) → ended.cause ≡ cause → IsQuiet cause → IsUnrun cause → is_ended_run cause ≡ false
    → ((p file : List ℕ) → request ≡ Some (R.Replay p file) → ((refusal : Refusal) × (cause ≡ C.Refused refusal)) ⊎ IsUnread (p ∷ file ∷ []) cause) → WhereTold told now TellsSame → NoCountChanged counts later
    → ((t u : Told) → told ≡ Some t → SameFiles t u → CauseMeans cause (IsOutcome t ended.arrivals request) ended t u)
    → WhereTold told now (Answered request ended counts later ⊥)
quiet_answer None now request cause ended counts later is other unread none needs same quiet stands = tt
quiet_answer (Some t) None request cause ended counts later is other unread none needs same quiet stands = same
quiet_answer (Some t) (Some u) request cause ended counts later is other unread none needs same quiet stands = record {
  means = subst (λ (c : Cause). CauseMeans c (IsOutcome t ended.arrivals request) ended t u) (sym is) (stands t u refl same.holds);
  others = λ parts are n named. same.holds n;
  scripts = λ parts are n named. same.script n;
  counted = λ parts are n named. quiet n;
  device = λ parts are. subst (λ (c : Cause). DevicesMean c (files_of request parts) counts later ⊥ (IsOutcome t ended.arrivals request) ended t u) (sym is)
      (quiet_devices cause (files_of request parts) counts later ⊥ (IsOutcome t ended.arrivals request) ended t u other quiet);
  stopped = λ parts are. subst (λ (c : Cause). StoppedBy c parts counts later) (sym is) (quiet_stopped cause parts counts later unread);
  whole = λ parts are n named differs. absurd (differs (ap (λ c. c.reading) (quiet n)));
  reads = λ n differs. absurd (differs (ap (λ c. c.reading) (quiet n)));
  needed = needs_by request ended t (λ p file e. subst (λ (k : Cause). ((refusal : Refusal) × (k ≡ C.Refused refusal)) ⊎ IsUnread (p ∷ file ∷ []) k) (sym is) (needs p file e));
  followed = follows_none request (IsOutcome t ended.arrivals request) ended t u (ap is_ended_run is ∙ none) same.holds;
  in_order = subst (λ (c : Cause). ComesInOrder c request (IsOutcome t ended.arrivals request)) (sym is)
      (quiet_order cause request (IsOutcome t ended.arrivals request) other);
  recorded = writes_none request (IsOutcome t ended.arrivals request) ended counts later ⊥ t u (ap is_ended_run is ∙ none) same.holds;
}

-- lack of memory
pub wanting_answer : BegunSame → (told now : Option Told) (request : Option Request) (ended : Ended) (counts later : PerName) → ended.cause ≡ C.NoMemory
    → WhereTold told now TellsSame → NoCountChanged counts later → WhereTold told now (Answered request ended counts later ⊥)
wanting_answer begun told now request ended counts later is same quiet =
    quiet_answer told now request C.NoMemory ended counts later is tt tt refl (λ p file e. inr (inl refl)) same quiet (λ t u e files r comes. begun r t u files)

-- no request
pub words_answer : (told : Option Told) (ended : Ended) (counts : PerName) → ended.cause ≡ C.BadWords → WhereTold told told (Answered None ended counts counts ⊥)
words_answer told ended counts is = quiet_answer told told None C.BadWords ended counts counts is tt tt refl (λ p file e. absurd cc) (told_again told) (λ n. refl) (λ t u e files. (no_request, files))

-- a request that isn't built by its words
pub not_built_answer : (told : Option Told) (request : Request) (ended : Ended) (counts : PerName) → is_built request ≡ false → ended.cause ≡ C.NotBuilt
    → WhereTold told told (Answered (Some request) ended counts counts ⊥)
not_built_answer told request ended counts no_part is =
    quiet_answer told told (Some request) C.NotBuilt ended counts counts is tt tt refl (λ p file e. absurd (unbuilt_record request no_part p file e)) (told_again told) (λ n. refl)
    (λ t u e files. (not_built request no_part, files))

-- ---- answers by the program

-- the outcome of the request is that of its program
outcome_of : (t : Told) (request : Request) (program : List ℕ) (arrivals : Arrivals) (found : Result CheckedGraph Refusal) (r : RequestOutcome) → is_built request ≡ true → program_of request ≡ Some program
    → has_fault (t.script program) ≡ false → IsAccepted (t.script program).bytes (file_names request) found → IsFoundOutcome request t arrivals found r → IsOutcome t arrivals (Some request) r
outcome_of t request program arrivals found r built of quiet accepted is =
    outcome_found t arrivals request program found r built of (record { read = quiet; accepted = accepted }) is

parts_in : (t : Told) (request : Request) (program : List ℕ) (found : Result CheckedGraph Refusal) → program_of request ≡ Some program → has_fault (t.script program) ≡ false
    → IsAccepted (t.script program).bytes (file_names request) found → ArePartsIn t (Some request) (Rattle.spl_driver.specs.Files.parts_of found)
parts_in t request program found of quiet accepted = of_program request program found of (record { read = quiet; accepted = accepted })

-- the program is the first of the files that are opened
abbrev OpensFirst : Request → List ℕ → List CheckedClauses → Type 0
OpensFirst request program parts = (rest : List (List ℕ)) × (opens (Some request) parts ≡ program ∷ rest)

opens_program : (request : Request) (program : List ℕ) (parts : List CheckedClauses) → program_of request ≡ Some program → OpensFirst request program parts
opens_program (R.Check p) program parts e = let same : p ≡ program = cc in ([], ap (λ (q : List ℕ). q ∷ []) same)
opens_program (R.Plan p) program parts e = let same : p ≡ program = cc in ([], ap (λ (q : List ℕ). q ∷ []) same)
opens_program (R.Run p options) program parts e = let same : p ≡ program = cc in (_, ap (λ (q : List ℕ). q ∷ Rattle.language_model.specs.Files.source_files parts) same)
opens_program (R.Replay p arrivals) program parts e =
    let same : p ≡ program = cc in (_, ap (λ (q : List ℕ). q ∷ arrivals ∷ Rattle.language_model.specs.Files.source_files parts) same)
opens_program (R.Simulate p width schedule steps) program parts e =
    let same : p ≡ program = cc in (_, ap (λ (q : List ℕ). q ∷ Rattle.language_model.specs.Files.source_files parts) same)
opens_program (R.Make name rows start) program parts e = absurd cc

or_first : (a b c : Bool) → ((a || b) || c) ≡ false → a ≡ false
or_first true b c e = cc
or_first false b c e = refl

-- a refusal of the program
pub refused_answer : (told now : Option Told) (request : Request) (program : List ℕ) (refusal : Refusal) (ended : Ended) (counts later : PerName)
    → is_built request ≡ true → program_of request ≡ Some program → ended.cause ≡ C.Refused refusal
    → IfSome told (λ t. CompiledAt (P.Refused refusal) (t.script program) (file_names request))
    → WhereTold told now TellsSame → NoCountChanged counts later → WhereTold told now (Answered (Some request) ended counts later ⊥)
refused_answer told now request program refusal ended counts later built of is made same quiet =
    quiet_answer told now (Some request) (C.Refused refusal) ended counts later is tt tt refl (λ p file e. inl (refusal, refl)) same quiet (λ t u e files. (go t e, files))
  where
    go : (t : Told) → told ≡ Some t → IsOutcome t ended.arrivals (Some request) (Refused refusal)
    go t e =
        let at = subst (λ (o : Option Told). IfSome o (λ t. CompiledAt (P.Refused refusal) (t.script program) (file_names request))) e made in
        outcome_of t request program ended.arrivals (Err refusal) (Refused refusal) built of at.0 at.1 refl

-- the program is read as a whole
whole_program : (request : Request) (program : List ℕ) → is_built request ≡ true → program_of request ≡ Some program → is_named (whole_files (Some request)) program ≡ true
whole_program (R.Check p) program built of = let same : p ≡ program = cc in ap (λ (q : List ℕ). is_named (q ∷ []) program) same ∙ own_name program
whole_program (R.Run p options) program built of = let same : p ≡ program = cc in ap (λ (q : List ℕ). is_named (q ∷ []) program) same ∙ own_name program
whole_program (R.Plan p) program built of = let same : p ≡ program = cc in ap (λ (q : List ℕ). is_named (q ∷ []) program) same ∙ own_name program
whole_program (R.Replay p file) program built of = named_first (R.Replay p file) program of p file refl
whole_program (R.Simulate p width schedule steps) program built of = absurd (let bad : false ≡ true = built in cc)
whole_program (R.Make name rows start) program built of = absurd (let bad : false ≡ true = built in cc)

-- each file that is read as a whole may have as many bytes as a program
pub least_bound : (request : Option Request) (n : List ℕ) → 1048576 ≤ most_bytes request n
least_bound None n = omega arith
least_bound (Some (R.Check p)) n = omega arith
least_bound (Some (R.Run p options)) n = omega arith
least_bound (Some (R.Plan p)) n = omega arith
least_bound (Some (R.Replay p file)) n = elim (bytes_eq file n) as (λ b. 1048576 ≤ (if b then 2 ^ 32 else 1048576)) [ true ↦ omega arith | false ↦ omega arith ]
least_bound (Some (R.Simulate p width schedule steps)) n = omega arith
least_bound (Some (R.Make name rows start)) n = omega arith

-- a name that isn't opened isn't the program
pub outside : (request : Request) (program : List ℕ) (parts : List CheckedClauses) (n : List ℕ) → program_of request ≡ Some program
    → (is_named (opens (Some request) parts) n || is_named (creates (Some request) parts) n) ≡ false → n ≢ program
outside request program parts n of named same =
    let first = opens_program request program parts of in
    let e = ap (λ (ns : List (List ℕ)). is_named ns n || is_named (creates (Some request) parts) n) (sym first.1) ∙ named in
    other_name program n (or_none _ ∙ or_first _ (is_named first.0 n) (is_named (creates (Some request) parts) n) e) same

pub opening_of : (request : Request) (program : List ℕ) (parts : List CheckedClauses) (old new : PerName) → program_of request ≡ Some program → FirstOpening program old new → OpeningFailed (opens (Some request) parts) program old new
opening_of request program parts old new of h =
    let first = opens_program request program parts of in
    record {
      before = [];
      behind = first.0;
      order = first.1;
      rose = h.rose;
      later = λ n none other. h.others n other;
      others = λ n other. read_same (old n) (old n) (new n) (read_itself (old n)) (h.others n other);
    }

pub reading_of : (request : Request) (program : List ℕ) (parts : List CheckedClauses) (old new : PerName) → is_built request ≡ true → program_of request ≡ Some program → FirstReading program old new
    → ReadingFailed (files_of (Some request) parts) program old new
reading_of request program parts old new built of h = record {
  whole = whole_program request program built of;
  rose = h.rose;
  only = h.only;
  others = h.others;
}

-- a file other than the program wasn't read
whole_only : (cause : Cause) (request : Request) (parts : List CheckedClauses) (program : List ℕ) (old new : PerName) (t : Told) → ((n : List ℕ) → n ≢ program → new n ≡ old n) → WholeFails old new t
    → (cause ≡ C.NoMemory) ⊎ ((cause ≡ C.ReadFailed program) ⊎ ((new program).reading ≡ (old program).reading)) → WholeReads cause (files_of (Some request) parts) old new t
whole_only cause request parts program old new t others fails at n named differs = elim (same_or_not n program) as (λ _. ReadingAnswered cause (most_bytes (Some request) n) t n) [
  | inl e ↦ here e at
  | inr other ↦ absurd (differs (ap (λ c. c.reading) (others n other)))
]
  where
    bad : fails_within (most_bytes (Some request) n) (t.script n) ≡ true
    bad = fails_more 1048576 (most_bytes (Some request) n) (t.script n) (least_bound (Some request) n) (fails n differs)

    here : n ≡ program → (cause ≡ C.NoMemory) ⊎ ((cause ≡ C.ReadFailed program) ⊎ ((new program).reading ≡ (old program).reading)) → ReadingAnswered cause (most_bytes (Some request) n) t n
    here e (inl wanting) = (bad, inr wanting)
    here e (inr (inl is)) = (bad, inl (is ∙ ap (λ (m : List ℕ). C.ReadFailed m) (sym e)))
    here e (inr (inr same)) = absurd (differs (ap (λ (m : List ℕ). (new m).reading) e ∙ same ∙ sym (ap (λ (m : List ℕ). (old m).reading) e)))

-- an answer after which all files are as they were, and the counts changed of the program alone
program_answer : (told now : Option Told) (request : Request) (program : List ℕ) (cause : Cause) (ended : Ended) (counts later : PerName) → program_of request ≡ Some program → ended.cause ≡ cause → IsUnrun cause
    → is_ended_run cause ≡ false → (cause ≡ C.NoMemory) ⊎ ((cause ≡ C.OpenFailed program) ⊎ (cause ≡ C.ReadFailed program)) → WhereTold told now TellsSame → IfSome told (WholeFails counts later) → ((n : List ℕ) → n ≢ program → later n ≡ counts n)
    → (cause ≡ C.NoMemory) ⊎ ((cause ≡ C.ReadFailed program) ⊎ ((later program).reading ≡ (counts program).reading))
    → ((t u : Told) → SameFiles t u → CauseMeans cause (IsOutcome t ended.arrivals (Some request)) ended t u)
    → ((t u : Told) (parts : List CheckedClauses) → SameFiles t u → DevicesMean cause (files_of (Some request) parts) counts later ⊥ (IsOutcome t ended.arrivals (Some request)) ended t u)
    → WhereTold told now (Answered (Some request) ended counts later ⊥)
program_answer None now request program cause ended counts later of is unread none names same reads others at stands shows = tt
program_answer (Some t) None request program cause ended counts later of is unread none names same reads others at stands shows = same
program_answer (Some t) (Some u) request program cause ended counts later of is unread none names same reads others at stands shows = record {
  means = subst (λ (c : Cause). CauseMeans c (IsOutcome t ended.arrivals (Some request)) ended t u) (sym is) (stands t u same.holds);
  others = λ parts are n named. same.holds n;
  scripts = λ parts are n named. same.script n;
  counted = λ parts are n named. others n (outside request program parts n of named);
  device = λ parts are. subst (λ (c : Cause). DevicesMean c (files_of (Some request) parts) counts later ⊥ (IsOutcome t ended.arrivals (Some request)) ended t u) (sym is) (shows t u parts same.holds);
  stopped = λ parts are. subst (λ (c : Cause). StoppedBy c parts counts later) (sym is) (quiet_stopped cause parts counts later unread);
  whole = λ parts are. subst (λ (c : Cause). WholeReads c (files_of (Some request) parts) counts later t) (sym is) (whole_only cause request parts program counts later t others reads at);
  reads = reads_whole (Some t) counts later reads;
  needed = needs_by (Some request) ended t (λ p file e. inr (subst (IsUnread (p ∷ file ∷ [])) (sym is) (by_names p file e names)));
  followed = follows_none (Some request) (IsOutcome t ended.arrivals (Some request)) ended t u (ap is_ended_run is ∙ none) same.holds;
  in_order = subst (λ (c : Cause). ComesInOrder c (Some request) (IsOutcome t ended.arrivals (Some request))) (sym is)
      (program_order cause request program (IsOutcome t ended.arrivals (Some request)) of names);
  recorded = writes_none (Some request) (IsOutcome t ended.arrivals (Some request)) ended counts later ⊥ t u (ap is_ended_run is ∙ none) same.holds;
}
  where
    by_names : (p file : List ℕ) → Some request ≡ Some (R.Replay p file) → (cause ≡ C.NoMemory) ⊎ ((cause ≡ C.OpenFailed program) ⊎ (cause ≡ C.ReadFailed program)) → IsUnread (p ∷ file ∷ []) cause
    by_names p file e (inl wanting) = inl wanting
    by_names p file e (inr by) = inr (program, named_first request program of p file e, by)

-- the same where memory ran out for the name
or_wanting : (expected cause : Cause) (Good : Cause → Type 0) → IsOr expected cause → Good expected → Good C.NoMemory → Good cause
or_wanting expected cause Good (inl e) good wanting = subst Good (sym e) good
or_wanting expected cause Good (inr e) good wanting = subst Good (sym e) wanting

pub unopened_answer : BegunSame → (told now : Option Told) (request : Request) (program : List ℕ) (ended : Ended) (counts later : PerName) → program_of request ≡ Some program
    → IsOr (C.OpenFailed program) ended.cause → FirstOpening program counts later → WhereTold told now TellsSame → IfSome told (WholeFails counts later)
    → WhereTold told now (Answered (Some request) ended counts later ⊥)
unopened_answer begun told now request program ended counts later of (inl is) counted same reads =
    program_answer told now request program (C.OpenFailed program) ended counts later of is tt refl (inr (inl refl)) same reads counted.others (inr (inr counted.reading)) (λ t u files r comes. begun r t u files)
    (λ t u parts files. inl (opening_of request program parts counts later of counted, files))
unopened_answer begun told now request program ended counts later of (inr is) counted same reads =
    program_answer told now request program C.NoMemory ended counts later of is tt refl (inl refl) same reads counted.others (inl refl) (λ t u files r comes. begun r t u files) (λ t u parts files. tt)

pub unread_answer : BegunSame → (told now : Option Told) (request : Request) (program : List ℕ) (ended : Ended) (counts later : PerName) → is_built request ≡ true → program_of request ≡ Some program
    → IsOr (C.ReadFailed program) ended.cause → FirstReading program counts later → WhereTold told now TellsSame → IfSome told (WholeFails counts later)
    → WhereTold told now (Answered (Some request) ended counts later ⊥)
unread_answer begun told now request program ended counts later built of (inl is) counted same reads =
    program_answer told now request program (C.ReadFailed program) ended counts later of is tt refl (inr (inr refl)) same reads counted.others (inr (inl refl)) (λ t u files. files)
    (λ t u parts files. reading_of request program parts counts later built of counted)
unread_answer begun told now request program ended counts later built of (inr is) counted same reads =
    program_answer told now request program C.NoMemory ended counts later of is tt refl (inl refl) same reads counted.others (inl refl) (λ t u files r comes. begun r t u files) (λ t u parts files. tt)

-- ---- answers after the program is read

-- the outcome of an accepted program is that of its graph
outcome_back : OneAcceptedLaw → (t : Told) (request : Request) (program : List ℕ) (c : CheckedGraph) (arrivals : Arrivals) (r : RequestOutcome) → is_built request ≡ true → program_of request ≡ Some program
    → has_fault (t.script program) ≡ false → IsAccepted (t.script program).bytes (file_names request) (Ok c) → IsOutcome t arrivals (Some request) r → IsAcceptedOutcome request c arrivals t r
outcome_back one t request program c arrivals r built of quiet accepted is =
    back_found one t arrivals request program c r built of (record { read = quiet; accepted = accepted }) is

-- a replay has the record of its file
follows_told : (request : Request) (c : CheckedGraph) (ended : Ended) (t u : Told) (program : List ℕ) → OneAcceptedLaw
    → program_of request ≡ Some program → has_fault (t.script program) ≡ false
    → IsAccepted (t.script program).bytes (file_names request) (Ok c) → FollowsFile request c ended t u
    → FollowsRecord (Some request) (IsOutcome t ended.arrivals (Some request)) ended t u
follows_told (R.Check p) c ended t u program one of quiet accepted h = tt
follows_told (R.Plan p) c ended t u program one of quiet accepted h = tt
follows_told (R.Run p options) c ended t u program one of quiet accepted h = tt
follows_told (R.Replay p file) c ended t u program one of quiet accepted h = λ x g m is.
    let found = back_found one t ended.arrivals (R.Replay p file) program c (Runs x g m) refl of
    (record { read = quiet; accepted = accepted }) is in
    subst (λ (y : CheckedGraph). FollowsBy ended.cause (Spells y (t.script file).bytes ended.arrivals)
    (WroteNothing y ended t u)) (sym (replay_graph t c file x g m found)) h
follows_told (R.Simulate p width schedule steps) c ended t u program one of quiet accepted h = tt
follows_told (R.Make name rows start) c ended t u program one of quiet accepted h = tt

-- an accepted program isn't refused
unrefused : (request : Request) (c : CheckedGraph) (arrivals : Arrivals) (t : Told) (refusal : Refusal)
    → IsAcceptedOutcome request c arrivals t (Refused refusal) → ⊥
unrefused (R.Check p) c arrivals t refusal e = cc
unrefused (R.Plan p) c arrivals t refusal e = cc
unrefused (R.Run p options) c arrivals t refusal e = cc
unrefused (R.Replay p file) c arrivals t refusal h = unrefused_replay t c file (Refused refusal) refusal h refl
unrefused (R.Simulate p width schedule steps) c arrivals t refusal e = cc
unrefused (R.Make name rows start) c arrivals t refusal e = cc

-- what comes after an accepted program is read
module _ (one : OneAcceptedLaw) (c : CheckedGraph) (arrivals : Arrivals) (t : Told) (program : List ℕ)
    (quiet : has_fault (t.script program) ≡ false) where
  -- the request is that of this program
  abbrev Reads : Request → Type 0
  Reads request = (is_built request ≡ true) × (program_of request ≡ Some program)
      × IsAccepted (t.script program).bytes (file_names request) (Ok c)

  not_refused : (request : Request) → Reads request → IsUnrefused (IsOutcome t arrivals (Some request))
  not_refused request (built, of, accepted) refusal is =
      unrefused request c arrivals t refusal (outcome_back one t request program c arrivals (Refused refusal) built of quiet accepted is)

  behind_told : (request : Request) (name : List ℕ) → Reads request
      → ((p file : List ℕ) → request ≡ R.Replay p file → name ≢ file → IsSpelled (IsReplay t c file))
      → ComesBehind (Some request) name (IsOutcome t arrivals (Some request))
  behind_told (R.Check p) name reads spelled = λ q is other. not_refused (R.Check p) reads
  behind_told (R.Plan p) name reads spelled = λ q is other. not_refused (R.Plan p) reads
  behind_told (R.Run p options) name reads spelled = λ q is other. not_refused (R.Run p options) reads
  behind_told (R.Replay p file) name (built, of, accepted) spelled = λ other. (
    not_refused (R.Replay p file) (built, of, accepted),
    λ apart x is. spelled p file refl apart x
        (outcome_back one t (R.Replay p file) program c arrivals (BadArrivals x None) built of quiet accepted is),
  )
  behind_told (R.Simulate p width schedule steps) name reads spelled = λ q is other.
      not_refused (R.Simulate p width schedule steps) reads
  behind_told (R.Make name rows start) file reads spelled = λ q is other. not_refused (R.Make name rows start) reads

  in_order_told : (cause : Cause) (request : Request) → Reads request
      → ((p file : List ℕ) → request ≡ R.Replay p file → SpelledUnless cause file (IsReplay t c file))
      → ComesInOrder cause (Some request) (IsOutcome t arrivals (Some request))
  in_order_told (C.OpenFailed name) request reads spelled = behind_told request name reads spelled
  in_order_told (C.ReadFailed name) request reads spelled = behind_told request name reads spelled
  in_order_told C.Done request reads spelled = tt
  in_order_told (C.Stopped fault) request reads spelled = tt
  in_order_told C.NotBuilt request reads spelled = tt
  in_order_told C.BadWords request reads spelled = tt
  in_order_told (C.Refused refusal) request reads spelled = tt
  in_order_told (C.BadArrivals op) request reads spelled = tt
  in_order_told (C.WriteFailed name) request reads spelled = tt
  in_order_told C.NoMemory request reads spelled = tt

-- by its request
spelled_by : (request : Request) (c : CheckedGraph) (ended : Ended) (t : Told) → ReadInOrder request c ended t → (p file : List ℕ)
    → request ≡ R.Replay p file → SpelledUnless ended.cause file (IsReplay t c file)
spelled_by request c ended t h p file e = subst (λ (q : Request). ReadInOrder q c ended t) e h

-- and a run writes the record that it returns
record_again : (ended : Ended) (file : List ℕ) (counts now : PerName) (t u : Told) (x c : CheckedGraph) (g h : Graph) (m k : Meaning) → Runs x g m ≡ Runs c h k
    → RecordHolds ended.cause c.parts file (arrivals_text c ended.arrivals) counts now ⊥ (EachSink (HoldsText k u) h.ops) t u
    → RecordHolds ended.cause x.parts file (arrivals_text x ended.arrivals) counts now ⊥ (EachSink (HoldsText m u) g.ops) t u
record_again ended file counts now t u x c g h m k e held =
    let first : x ≡ c = cc in
    let second : g ≡ h = cc in
    let third : m ≡ k = cc in
    subst (λ (y : CheckedGraph). RecordHolds ended.cause y.parts file (arrivals_text y ended.arrivals) counts now ⊥ (EachSink (HoldsText m u) g.ops) t u) (sym first)
    (subst (λ (y : Graph). RecordHolds ended.cause c.parts file (arrivals_text c ended.arrivals) counts now ⊥ (EachSink (HoldsText m u) y.ops) t u) (sym second)
    (subst (λ (y : Meaning). RecordHolds ended.cause c.parts file (arrivals_text c ended.arrivals) counts now ⊥ (EachSink (HoldsText y u) h.ops) t u) (sym third) held))

writes_told : (request : Request) (c : CheckedGraph) (ended : Ended) (counts now : PerName) (t u : Told) (program : List ℕ) → OneAcceptedLaw → is_built request ≡ true → program_of request ≡ Some program
    → has_fault (t.script program) ≡ false → IsAccepted (t.script program).bytes (file_names request) (Ok c) → RecordFor request c ended counts now t u
    → WritesRecord (Some request) (IsOutcome t ended.arrivals (Some request)) ended counts now ⊥ t u
writes_told (R.Check p) c ended counts now t u program one built of quiet accepted h = tt
writes_told (R.Plan p) c ended counts now t u program one built of quiet accepted h = tt
writes_told (R.Run p options) c ended counts now t u program one built of quiet accepted h = λ file given x g m is.
    record_again ended file counts now t u x c g (graph_of c) m (meant (graph_of c) t ended.arrivals.lists)
    (back_found one t ended.arrivals (R.Run p options) program c (Runs x g m) built of (record { read = quiet; accepted = accepted }) is)
    (subst (λ (o : Option (List ℕ)). RecordOf o c ended counts now t u) given h)
writes_told (R.Replay p file) c ended counts now t u program one built of quiet accepted h = tt
writes_told (R.Simulate p width schedule steps) c ended counts now t u program one built of quiet accepted h = tt
writes_told (R.Make name rows start) c ended counts now t u program one built of quiet accepted h = tt

-- what was done with an accepted program, from its reading on
pub accepted_answer : OneAcceptedLaw → OnePartsLaw → (told mid now : Option Told) (request : Request) (program : List ℕ) (c : CheckedGraph) (ended : Ended) (counts between later : PerName)
    → is_built request ≡ true → program_of request ≡ Some program
    → IfSome told (λ t. CompiledAt (P.Checked c) (t.script program) (file_names request))
    → WhereTold told mid TellsSame → NoCountChanged counts between
    → WhereTold mid now (λ t u. FilesShow (IsAcceptedOutcome request c ended.arrivals t) (files_of (Some request) c.parts) ended between later t u)
    → CountsShow ended.cause c.parts (files_of (Some request) c.parts) between later → IfSome mid (NeedsRecord (Some request) ended) → WhereTold mid now (FollowsFile request c ended) → IfSome mid (ReadInOrder request c ended)
    → WhereTold mid now (RecordFor request c ended between later) → WhereTold told now (Answered (Some request) ended counts later ⊥)
accepted_answer one parts_one None mid now request program c ended counts between later built of made same quiet files shown needed followed in_order recorded = tt
accepted_answer one parts_one (Some t) None now request program c ended counts between later built of made same quiet files shown needed followed in_order recorded = absurd same
accepted_answer one parts_one (Some t) (Some s) None request program c ended counts between later built of made same quiet files shown needed followed in_order recorded = files
accepted_answer one parts_one (Some t) (Some s) (Some u) request program c ended counts between later built of made same quiet files shown needed followed in_order recorded =
    go (subst (λ (k : PerName). FilesShow (IsAcceptedOutcome request c ended.arrivals t) (files_of (Some request) c.parts) ended k later t u) (same_counts counts between quiet)
    (subst (λ (x : Told). FilesShow (IsAcceptedOutcome request c ended.arrivals x) (files_of (Some request) c.parts) ended between later x u) (same_told t s same) files))
    (subst (λ (k : PerName). CountsShow ended.cause c.parts (files_of (Some request) c.parts) k later) (same_counts counts between quiet) shown)
  where
    parts_are : (parts : List CheckedClauses) → ArePartsIn t (Some request) parts → c.parts ≡ parts
    parts_are parts are = parts_one (Some request) t c.parts parts (parts_in t request program (Ok c) of made.0 made.1) are

    to : (r : RequestOutcome) → IsAcceptedOutcome request c ended.arrivals t r → IsOutcome t ended.arrivals (Some request) r
    to r is = outcome_of t request program ended.arrivals (Ok c) r built of made.0 made.1 is

    from : (r : RequestOutcome) → IsOutcome t ended.arrivals (Some request) r → IsAcceptedOutcome request c ended.arrivals t r
    from r is = outcome_back one t request program c ended.arrivals r built of made.0 made.1 is

    go : FilesShow (IsAcceptedOutcome request c ended.arrivals t) (files_of (Some request) c.parts) ended counts later t u
        → CountsShow ended.cause c.parts (files_of (Some request) c.parts) counts later
        → Answered (Some request) ended counts later ⊥ t u
    go f k = record {
      means = means_map ended.cause (IsAcceptedOutcome request c ended.arrivals t) (IsOutcome t ended.arrivals (Some request)) ended t u to from f.means;
      others = λ parts are n named. f.others n (ap (λ (ps : List CheckedClauses). is_named (creates (Some request) ps) n) (parts_are parts are) ∙ named);
      scripts = λ parts are n named. f.scripts n (ap (λ (ps : List CheckedClauses). is_named (creates (Some request) ps) n) (parts_are parts are) ∙ named);
      counted = λ parts are n named.
          k.others n (ap (λ (ps : List CheckedClauses). is_named (opens (Some request) ps) n || is_named (creates (Some request) ps) n) (parts_are parts are) ∙ named);
      device = λ parts are.
          subst (λ (ps : List CheckedClauses). DevicesMean ended.cause (files_of (Some request) ps) counts later ⊥ (IsOutcome t ended.arrivals (Some request)) ended t u) (parts_are parts are)
          (devices_map ended.cause (files_of (Some request) c.parts) counts later ⊥ (IsAcceptedOutcome request c ended.arrivals t) (IsOutcome t ended.arrivals (Some request)) ended t u to f.device);
      stopped = λ parts are. subst (λ (ps : List CheckedClauses). StoppedBy ended.cause ps counts later) (parts_are parts are) k.stopped;
      whole = λ parts are. subst (λ (ps : List CheckedClauses). WholeReads ended.cause (files_of (Some request) ps) counts later t) (parts_are parts are) f.whole;
      reads = f.reads;
      needed = subst (NeedsRecord (Some request) ended) (same_told t s same) needed;
      followed = follows_told request c ended t u program one of made.0 made.1
          (subst (λ (x : Told). FollowsFile request c ended x u) (same_told t s same) followed);
      in_order = in_order_told one c ended.arrivals t program made.0 ended.cause request (built, of, made.1)
          (spelled_by request c ended t (subst (ReadInOrder request c ended) (same_told t s same) in_order));
      recorded = writes_told request c ended counts later t u program one built of made.0 made.1
          (subst (λ (k : PerName). RecordFor request c ended k later t u) (same_counts counts between quiet) (subst (λ (x : Told). RecordFor request c ended between later x u) (same_told t s same) recorded));
    }

-- the text of what was done
may_come : (request : Request) (c : CheckedGraph) (arrivals : Arrivals) (counts now : PerName) (r : RequestOutcome) → IsProgramOf (Some request) c → MayBeOutcome request c arrivals counts now r
    → MayComeTo (Some request) arrivals counts now r
may_come (R.Check p) c arrivals counts now r from e = subst (MayComeTo (Some (R.Check p)) arrivals counts now) (sym e) from
may_come (R.Run p options) c arrivals counts now r from (g, m, ran, e) = subst (MayComeTo (Some (R.Run p options)) arrivals counts now) (sym e) (from, ran)
may_come (R.Plan p) c arrivals counts now r from e = subst (MayComeTo (Some (R.Plan p)) arrivals counts now) (sym e) from
may_come (R.Replay p file) c arrivals counts now r from (inl (g, m, ran, e)) = subst (MayComeTo (Some (R.Replay p file)) arrivals counts now) (sym e) (from, ran)
may_come (R.Replay p file) c arrivals counts now r from (inr (op, bad, e)) = subst (MayComeTo (Some (R.Replay p file)) arrivals counts now) (sym e) (from, bad)
may_come (R.Simulate p width schedule steps) c arrivals counts now r from h = absurd h
may_come (R.Make name rows start) c arrivals counts now r from h = absurd h

told_outcome : (told mid : Option Told) (request : Request) (program : List ℕ) (c : CheckedGraph) (arrivals : Arrivals) (r : RequestOutcome) → is_built request ≡ true → program_of request ≡ Some program
    → IfSome told (λ t. CompiledAt (P.Checked c) (t.script program) (file_names request)) → WhereTold told mid TellsSame
    → IfSome mid (λ t. IsAcceptedOutcome request c arrivals t r) → IfSome told (λ t. IsOutcome t arrivals (Some request) r)
told_outcome None mid request program c arrivals r built of made same e = tt
told_outcome (Some t) None request program c arrivals r built of made same e = absurd same
told_outcome (Some t) (Some s) request program c arrivals r built of made same e =
    outcome_of t request program arrivals (Ok c) r built of made.0 made.1 (subst (λ (x : Told). IsAcceptedOutcome request c arrivals x r) (same_told t s same) e)

accepted_text_of : (told mid : Option Told) (request : Request) (program : List ℕ) (c : CheckedGraph) (cause : Cause) (arrivals : Arrivals) (text : List ℕ) (counts now : PerName)
    → is_built request ≡ true → program_of request ≡ Some program → IsProgramOf (Some request) c
    → IfSome told (λ t. CompiledAt (P.Checked c) (t.script program) (file_names request)) → WhereTold told mid TellsSame
    → IsText (wants_counts (Some request)) cause (IsToldAcceptedOutcome request c arrivals mid counts now) text → IsText (wants_counts (Some request)) cause (IsToldOutcome (Some request) told arrivals counts now) text
accepted_text_of told mid request program c cause arrivals text counts now built of from made same is =
    text_map (wants_counts (Some request)) cause (IsToldAcceptedOutcome request c arrivals mid counts now) (IsToldOutcome (Some request) told arrivals counts now) text
    (λ r ends h. (may_come request c arrivals counts now r from h.0, told_outcome told mid request program c arrivals r built of made same h.1)) is

pub accepted_text : (told mid : Option Told) (request : Request) (program : List ℕ) (c : CheckedGraph) (cause : Cause) (arrivals : Arrivals) (text : Result (List ℕ) NoMemory) (counts between now : PerName)
    → is_built request ≡ true → program_of request ≡ Some program → IsProgramOf (Some request) c
    → IfSome told (λ t. CompiledAt (P.Checked c) (t.script program) (file_names request)) → WhereTold told mid TellsSame → NoCountChanged counts between
    → IfOk text (IsText (wants_counts (Some request)) cause (IsToldAcceptedOutcome request c arrivals mid between now)) → IfOk text (IsText (wants_counts (Some request)) cause (IsToldOutcome (Some request) told arrivals counts now))
accepted_text told mid request program c cause arrivals (Ok text) counts between now built of from made same quiet is =
    accepted_text_of told mid request program c cause arrivals text counts now built of from made same
    (subst (λ (k : PerName). IsText (wants_counts (Some request)) cause (IsToldAcceptedOutcome request c arrivals mid k now) text) (same_counts counts between quiet) is)
accepted_text told mid request program c cause arrivals (Err e) counts between now built of from made same quiet is = tt

-- a request that is built isn't decided by its words
pub built_words : (request : Request) (cause : Cause) (old new : PerName) → is_built request ≡ true → ByWords (Some request) cause old new
built_words request cause old new built = λ other. absurd (let clash : true ≡ false = sym built ∙ other in cc)

-- with no memory nothing is decided otherwise
pub wanting_words : (request : Option Request) (old new : PerName) → NoCountChanged old new → ByWords request C.NoMemory old new
wanting_words None old new quiet = (inr refl, quiet)
wanting_words (Some request) old new quiet = λ other. (inr refl, quiet)

-- what was lent is given back by the first step and by the second
pub lent_after : (old mid new : ℕ) → (old < 2 ^ 64 - 1 → mid ≡ old) → (mid < 2 ^ 64 - 257 → new ≡ mid) → old < 2 ^ 64 - 257 → new ≡ old
lent_after old mid new first second small =
    let same = first (omega (arith, small)) in
    second (omega (arith, same, small)) ∙ same
