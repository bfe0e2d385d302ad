-- What the answer of a request means once its text is told.
use Rattle.std.proofs.Common.{◌≡◌, ◌∙◌, ℕ, Bool, true, false, List, [], ◌∷◌, ◌++◌, length, take, refl, sym, ap, subst, inl, inr, ◌⊎◌, Option, Some, None, Ok}
use Rattle.std.specs.Prelude.{IfSome, ◌||◌}
use Rattle.std.proofs.Math.Seq.{take-length}
use Rattle.spl_value.specs.declared.item.Fault.{Fault}
use Rattle.feed_pour.specs.Counts.{PerName}
use Rattle.feed_pour.specs.Contents.{Told, WhereTold}
use Rattle.language_model.specs.declared.checked.CheckedClauses.{CheckedClauses}
use Rattle.language_model.specs.CheckedGraph.{CheckedGraph}
use Rattle.arrival_format.specs.ArrivalTexts.{Spells, arrivals_text}
use Rattle.stream_model.specs.Ends.{run_fault}
use Rattle.stream_model.specs.Meaning.{Graph, Meaning}
use Rattle.run_report.specs.declared.cause.Cause.{Cause}
use Rattle.run_report.specs.declared.cause.Cause.TheVariants as C
use Rattle.language_model.specs.declared.refusal.Refusal.{Refusal}
use Rattle.stream_model.specs.Operators.{Operator}
use Rattle.command_line.specs.declared.request.Request.{Request}
use Rattle.spl_driver.specs.Outcome.{RequestOutcome, NoRequest, Unreadable, Refused, NotBuilt, Reports, BadArrivals, Runs, IsFound, IsOutcome, ArePartsIn, of_program, of_unreadable}
use Rattle.std.specs.Str.{bytes_eq}
use Rattle.language_model.specs.Files.{sink_file}
use Rattle.language_model.specs.Names.{is_named}
use Rattle.command_line.specs.declared.request.Request.TheVariants as R
use Rattle.spl_driver.specs.Built.{is_built}
use Rattle.spl_driver.specs.Files.{FilesOf, files_of, opens, whole_files}
use Rattle.spl_driver.specs.Answer.{ComesInOrder, FollowsBy, WroteNothing, EachSink, HoldsText, HoldsPrefix, sink_text, CarriedOut, RunsTo, ReportsTo, Begun, CauseMeans, CreatingFailed, DeviceFailed, opening, reading, creating, writing, DevicesMean, ReadingFailed, WritingFailed, WroteOthers, StoppedBy, WholeReads, Answered, IsOr, IsRun, IsUnread, NeedsRecord, FollowsRecord, RecordHolds, WritesRecord, of_record, of_sink, of_telling, IsAnswer, IsComplete, ByWords, MayBe, NoCountChanged, cause_of}
use Rattle.source_rows.specs.Counting.{OnlyReads, OpeningFailed}
use Rattle.spl_driver.specs.steps.Telling.{ToldAs}
use Rattle.spl_driver.specs.RequestLaws.{OneOutcomeLaw}
use Rattle.spl_driver.specs.declared.ended.Ended.{Ended}
use Rattle.command_line.specs.declared.request.RunOptions.{RunOptions}
use Rattle.command_line.specs.Request.{file_names}
use Rattle.spl_driver.proofs.ReplayLaw.{run_at}
use Rattle.spl_driver.proofs.Requests.{IsUnreadable, unread_by}
use Rattle.spl_driver.proofs.Showing.{with_cause}
use Rattle.spl_driver.proofs.Standing.{follows_run}
use Rattle.spl_driver.proofs.Running.{begun_same}
use Rattle.spl_value.proofs.Bools.{or_true}
use Rattle.spl_value.proofs.Lists.{same_name}

-- ---- what an answer means

run_same : (g : Graph) (m : Meaning) (ended : Ended) (cause : Cause) (status : ℕ) (u : Told) → CarriedOut g m ended u → CarriedOut g m (with_cause ended cause status) u
run_same g m ended cause status u h = record { texts = h.texts; counts = h.counts; recorded = h.recorded }

runs_same : (fault : Option Fault) (Is : RequestOutcome → Type 0) (ended : Ended) (cause : Cause) (status : ℕ) (u : Told) → RunsTo fault Is ended u → RunsTo fault Is (with_cause ended cause status) u
runs_same fault Is ended cause status u (c, g, m, is, e, h) = (c, g, m, is, e, run_same g m ended cause status u h)

means_same : (k : Cause) (Is : RequestOutcome → Type 0) (ended : Ended) (cause : Cause) (status : ℕ) (t u : Told) → CauseMeans k Is ended t u → CauseMeans k Is (with_cause ended cause status) t u
means_same C.Done Is ended cause status t u (inl h) = inl h
means_same C.Done Is ended cause status t u (inr h) = inr (runs_same None Is ended cause status u h)
means_same (C.Stopped fault) Is ended cause status t u h = runs_same (Some fault) Is ended cause status u h
means_same C.BadWords Is ended cause status t u h = h
means_same (C.Refused refusal) Is ended cause status t u h = h
means_same C.NotBuilt Is ended cause status t u h = h
means_same (C.OpenFailed name) Is ended cause status t u h = h
means_same (C.ReadFailed name) Is ended cause status t u h = h
means_same (C.BadArrivals op) Is ended cause status t u h = h
means_same (C.WriteFailed name) Is ended cause status t u h = h
means_same C.NoMemory Is ended cause status t u h = h

abbrev IsOne : (RequestOutcome → Type 0) → Type 0
IsOne Is = (r s : RequestOutcome) → Is r → Is s → r ≡ s

-- ---- weaker facts

front_at : (m : Meaning) (old new : Told) (o : Option (List ℕ)) (op : Operator) → IfSome o (HoldsText m new op) → IfSome o (HoldsPrefix m old new op)
front_at m old new None op h = tt
front_at m old new (Some file) op h = inr (length (sink_text m op), h ∙ ap (λ (x : List ℕ). Some x) (sym (take-length (sink_text m op))))

fronts : (m : Meaning) (old new : Told) (ops : List Operator) → EachSink (HoldsText m new) ops → EachSink (HoldsPrefix m old new) ops
fronts m old new [] h = tt
fronts m old new (op ∷ ops) h = (front_at m old new (sink_file op.clauses) op h.0, fronts m old new ops h.1)

weaker_run : (fault : Option Fault) (Is : RequestOutcome → Type 0) (ended : Ended) (result : RequestOutcome) (t u : Told) → IsOne Is → RunsTo fault Is ended u → Is result → Begun result t u
weaker_run fault Is ended result t u one (c, g, m, is, e, run) comes =
    subst (λ (r : RequestOutcome). Begun r t u) (one (Runs c g m) result is comes) (fronts m t u g.ops run.texts)

-- after each answer a sink was not created or holds a prefix of its text
weaker : (k : Cause) (Is : RequestOutcome → Type 0) (ended : Ended) (t u : Told) → IsOne Is → CauseMeans k Is ended t u → (result : RequestOutcome) → Is result → Begun result t u
weaker C.Done Is ended t u one (inl (report, c, is, same, none)) result comes = begun_same result t u same
weaker C.Done Is ended t u one (inr run) result comes = weaker_run None Is ended result t u one run comes
weaker (C.Stopped fault) Is ended t u one run result comes = weaker_run (Some fault) Is ended result t u one run comes
weaker C.BadWords Is ended t u one (is, same) result comes = begun_same result t u same
weaker (C.Refused refusal) Is ended t u one (is, same) result comes = begun_same result t u same
weaker C.NotBuilt Is ended t u one (is, same) result comes = begun_same result t u same
weaker (C.OpenFailed name) Is ended t u one h result comes = h result comes
weaker (C.ReadFailed name) Is ended t u one h result comes = begun_same result t u h
weaker (C.BadArrivals op) Is ended t u one (is, same) result comes = begun_same result t u same
weaker (C.WriteFailed name) Is ended t u one h result comes = h result comes
weaker C.NoMemory Is ended t u one h result comes = h result comes

-- ---- once the text is told

means_said : (Is : RequestOutcome → Type 0) (ended : Ended) (r : Cause) (status : ℕ) (Text : Type 0) (t u : Told) → IsOne Is → ToldAs ended.cause r Text
    → CauseMeans ended.cause Is ended t u → CauseMeans r Is (with_cause ended r status) t u
means_said Is ended r status Text t u one (inl e) h = subst (λ (c : Cause). CauseMeans c Is (with_cause ended r status) t u) (sym e) (means_same ended.cause Is ended r status t u h)
means_said Is ended r status Text t u one (inr (inl e)) h = subst (λ (c : Cause). CauseMeans c Is (with_cause ended r status) t u) (sym e) (weaker ended.cause Is ended t u one h)
means_said Is ended r status Text t u one (inr (inr (e, run, text))) h = subst (λ (c : Cause). CauseMeans c Is (with_cause ended r status) t u) (sym e) (weaker ended.cause Is ended t u one h)

untold_run : (fault : Option Fault) (Is : RequestOutcome → Type 0) (ended : Ended) (r : Cause) (status : ℕ) (t u : Told) → CauseMeans (cause_of fault) Is ended t u
    → ReportsTo Is (with_cause ended r status) t u ⊎ ((fault : Option Fault) × RunsTo fault Is (with_cause ended r status) u)
untold_run None Is ended r status t u (inl h) = inl h
untold_run None Is ended r status t u (inr h) = inr (None, runs_same None Is ended r status u h)
untold_run (Some fault) Is ended r status t u h = inr (Some fault, runs_same (Some fault) Is ended r status u h)

others_same : (Is : RequestOutcome → Type 0) (counts now : PerName) (ended : Ended) (r : Cause) (status : ℕ) (u : Told) → WroteOthers Is counts now ended u → WroteOthers Is counts now (with_cause ended r status) u
others_same Is counts now ended r status u h = h

-- what is known of devices before the text is told
devices_same : (k : Cause) (files : FilesOf) (counts later : PerName) (Text : Type 0) (Is : RequestOutcome → Type 0) (ended : Ended) (r : Cause) (status : ℕ) (t u : Told)
    → DevicesMean k files counts later ⊥ Is ended t u → DevicesMean k files counts later Text Is (with_cause ended r status) t u
devices_same C.Done files counts later Text Is ended r status t u h = h
devices_same (C.Stopped fault) files counts later Text Is ended r status t u h = h
devices_same C.NotBuilt files counts later Text Is ended r status t u h = h
devices_same C.BadWords files counts later Text Is ended r status t u h = h
devices_same (C.Refused refusal) files counts later Text Is ended r status t u h = h
devices_same (C.OpenFailed name) files counts later Text Is ended r status t u h = h
devices_same (C.ReadFailed name) files counts later Text Is ended r status t u h = h
devices_same (C.BadArrivals op) files counts later Text Is ended r status t u h = h
devices_same (C.WriteFailed name) files counts later Text Is ended r status t u (inl h) = inl (h.0, others_same Is counts later ended r status u h.1)
devices_same (C.WriteFailed name) files counts later Text Is ended r status t u (inr h) = absurd h.0.1
devices_same C.NoMemory files counts later Text Is ended r status t u h = h

devices_run : (fault : Option Fault) (files : FilesOf) (counts later : PerName) (Is : RequestOutcome → Type 0) (ended : Ended) (t u : Told) → DevicesMean (cause_of fault) files counts later ⊥ Is ended t u
    → OnlyReads files.rows counts later
devices_run None files counts later Is ended t u h = h
devices_run (Some fault) files counts later Is ended t u h = h

devices_said : (files : FilesOf) (counts later : PerName) (Text : Type 0) (Is : RequestOutcome → Type 0) (ended : Ended) (r : Cause) (status : ℕ) (t u : Told) → ToldAs ended.cause r Text
    → CauseMeans ended.cause Is ended t u → DevicesMean ended.cause files counts later ⊥ Is ended t u → DevicesMean r files counts later Text Is (with_cause ended r status) t u
devices_said files counts later Text Is ended r status t u (inl e) means h =
    subst (λ (k : Cause). DevicesMean k files counts later Text Is (with_cause ended r status) t u) (sym e) (devices_same ended.cause files counts later Text Is ended r status t u h)
devices_said files counts later Text Is ended r status t u (inr (inl e)) means h =
    subst (λ (k : Cause). DevicesMean k files counts later Text Is (with_cause ended r status) t u) (sym e) tt
devices_said files counts later Text Is ended r status t u (inr (inr (e, (fault, run), text))) means h =
    subst (λ (k : Cause). DevicesMean k files counts later Text Is (with_cause ended r status) t u) (sym e)
    (inr (
      (refl, text, devices_run fault files counts later Is ended t u (subst (λ (c : Cause). DevicesMean c files counts later ⊥ Is ended t u) run h)),
      untold_run fault Is ended r status t u (subst (λ (c : Cause). CauseMeans c Is ended t u) run means),
    ))

-- what is known of the program's reading
whole_run : (fault : Option Fault) (n : List ℕ) → (cause_of fault ≡ C.ReadFailed n) ⊎ (cause_of fault ≡ C.NoMemory) → ⊥
whole_run None n (inl e) = cc
whole_run None n (inr e) = cc
whole_run (Some fault) n (inl e) = cc
whole_run (Some fault) n (inr e) = cc

stopped_said : (c r : Cause) (parts : List CheckedClauses) (counts later : PerName) (Text : Type 0) → ToldAs c r Text → StoppedBy c parts counts later → StoppedBy r parts counts later
stopped_said c r parts counts later Text (inl e) h = subst (λ (k : Cause). StoppedBy k parts counts later) (sym e) h
stopped_said c r parts counts later Text (inr (inl e)) h = subst (λ (k : Cause). StoppedBy k parts counts later) (sym e) tt
stopped_said c r parts counts later Text (inr (inr (e, run, text))) h = subst (λ (k : Cause). StoppedBy k parts counts later) (sym e) tt

whole_said : (c r : Cause) (files : FilesOf) (counts later : PerName) (t : Told) (Text : Type 0) → ToldAs c r Text → WholeReads c files counts later t → WholeReads r files counts later t
whole_said c r files counts later t Text (inl e) h = subst (λ (k : Cause). WholeReads k files counts later t) (sym e) h
whole_said c r files counts later t Text (inr (inl e)) h = λ n named differs. ((h n named differs).0, inr e)
whole_said c r files counts later t Text (inr (inr (e, (fault, run), text))) h =
    λ n named differs. absurd (whole_run fault n (subst (λ (k : Cause). (k ≡ C.ReadFailed n) ⊎ (k ≡ C.NoMemory)) run (h n named differs).1))

-- ---- where no device failed

split_named : (before behind : List (List ℕ)) (name : List ℕ) (files : List (List ℕ)) → files ≡ before ++ name ∷ behind → is_named files name ≡ true
split_named before behind name files e = ap (λ (ns : List (List ℕ)). is_named ns name) e ∙ go before
  where
    go : (before : List (List ℕ)) → is_named (before ++ name ∷ behind) name ≡ true
    go [] = ap (λ (b : Bool). b || is_named behind name) (same_name name)
    go (m ∷ before) = ap (λ (b : Bool). bytes_eq m name || b) (go before) ∙ or_true (bytes_eq m name)

failed_opening : (files : FilesOf) (name : List ℕ) (counts later : PerName) → OpeningFailed files.opened name counts later → DeviceFailed files counts later
failed_opening files name counts later h = opening name (split_named h.before h.behind name files.opened h.order) h.rose

failed_creating : (files : FilesOf) (name : List ℕ) (counts later : PerName) → CreatingFailed files name counts later → DeviceFailed files counts later
failed_creating files name counts later h = creating name (split_named h.before h.order.0 name files.created h.order.1) h.rose

failed_reading : (files : FilesOf) (name : List ℕ) (counts later : PerName) → ReadingFailed files name counts later → DeviceFailed files counts later
failed_reading files name counts later h = reading name h.whole h.rose

failed_writing : (files : FilesOf) (name : List ℕ) (counts later : PerName) → WritingFailed files name counts later → DeviceFailed files counts later
failed_writing files name counts later h = writing name (split_named h.before h.order.0 name files.created h.order.1) h.rose

-- a cause that names a file, before the text is told
abbrev NamesFile : Cause → Type 0
NamesFile (C.OpenFailed name) = Unit {0}
NamesFile (C.ReadFailed name) = Unit {0}
NamesFile (C.WriteFailed name) = Unit {0}
NamesFile C.Done = ⊥
NamesFile (C.Stopped fault) = ⊥
NamesFile C.BadWords = ⊥
NamesFile (C.Refused refusal) = ⊥
NamesFile C.NotBuilt = ⊥
NamesFile (C.BadArrivals op) = ⊥
NamesFile C.NoMemory = ⊥

device_failed : (k : Cause) (files : FilesOf) (counts later : PerName) (Is : RequestOutcome → Type 0) (ended : Ended) (t u : Told) → NamesFile k → DevicesMean k files counts later ⊥ Is ended t u
    → DeviceFailed files counts later
device_failed (C.OpenFailed name) files counts later Is ended t u is (inl h) = failed_opening files name counts later h.0
device_failed (C.OpenFailed name) files counts later Is ended t u is (inr h) = failed_creating files name counts later h.failed
device_failed (C.ReadFailed name) files counts later Is ended t u is h = failed_reading files name counts later h
device_failed (C.WriteFailed name) files counts later Is ended t u is (inl h) = failed_writing files name counts later h.0
device_failed (C.WriteFailed name) files counts later Is ended t u is (inr h) = absurd h.0.1
device_failed C.Done files counts later Is ended t u is h = absurd is
device_failed (C.Stopped fault) files counts later Is ended t u is h = absurd is
device_failed C.NotBuilt files counts later Is ended t u is h = absurd is
device_failed C.BadWords files counts later Is ended t u is h = absurd is
device_failed (C.Refused refusal) files counts later Is ended t u is h = absurd is
device_failed (C.BadArrivals op) files counts later Is ended t u is h = absurd is
device_failed C.NoMemory files counts later Is ended t u is h = absurd is

-- what a record is needed for, and that it is followed
run_unrefused : (c : Cause) (refusal : Refusal) → IsRun c → c ≡ C.Refused refusal → ⊥
run_unrefused c refusal (None, is) e = let h : C.Refused refusal ≡ C.Done = sym e ∙ is in cc
run_unrefused c refusal (Some fault, is) e = let h : C.Refused refusal ≡ C.Stopped fault = sym e ∙ is in cc

-- refused, or not read
abbrev NoRecord : List (List ℕ) → Cause → Type 0
NoRecord whole c = ((refusal : Refusal) × (c ≡ C.Refused refusal)) ⊎ IsUnread whole c

unread_not_run : (whole : List (List ℕ)) (c : Cause) → IsUnread whole c → IsRun c → ⊥
unread_not_run whole c (inl e) (None, is) = let h : C.NoMemory ≡ C.Done = sym e ∙ is in cc
unread_not_run whole c (inl e) (Some fault, is) = let h : C.NoMemory ≡ C.Stopped fault = sym e ∙ is in cc
unread_not_run whole c (inr (name, named, inl e)) (None, is) = let h : C.OpenFailed name ≡ C.Done = sym e ∙ is in cc
unread_not_run whole c (inr (name, named, inl e)) (Some fault, is) = let h : C.OpenFailed name ≡ C.Stopped fault = sym e ∙ is in cc
unread_not_run whole c (inr (name, named, inr e)) (None, is) = let h : C.ReadFailed name ≡ C.Done = sym e ∙ is in cc
unread_not_run whole c (inr (name, named, inr e)) (Some fault, is) = let h : C.ReadFailed name ≡ C.Stopped fault = sym e ∙ is in cc

needs_said : (whole : List (List ℕ)) (c r : Cause) (Text : Type 0) → ToldAs c r Text → NoRecord whole c → NoRecord whole r
needs_said whole c r Text (inl e) h = subst (NoRecord whole) (sym e) h
needs_said whole c r Text (inr (inl e)) h = inr (inl e)
needs_said whole c r Text (inr (inr (e, run, text))) (inl (refusal, refused)) = absurd (run_unrefused c refusal run refused)
needs_said whole c r Text (inr (inr (e, run, text))) (inr h) = absurd (unread_not_run whole c h run)

needed_said : (request : Option Request) (ended : Ended) (r : Cause) (status : ℕ) (t : Told) (Text : Type 0) → ToldAs ended.cause r Text → NeedsRecord request ended t → NeedsRecord request (with_cause ended r status) t
needed_said None ended r status t Text e h = tt
needed_said (Some (R.Check p)) ended r status t Text e h = tt
needed_said (Some (R.Plan p)) ended r status t Text e h = tt
needed_said (Some (R.Run p options)) ended r status t Text e h = tt
needed_said (Some (R.Replay p file)) ended r status t Text e h = λ fault. needs_said (p ∷ file ∷ []) ended.cause r Text e (h fault)
needed_said (Some (R.Simulate p width schedule steps)) ended r status t Text e h = tt
needed_said (Some (R.Make name rows start)) ended r status t Text e h = tt

-- where memory ran out a record is followed, or nothing was written
follows_weaker : (k : Cause) (Spelled Unwritten : Type 0) → FollowsBy k Spelled Unwritten → Spelled ⊎ Unwritten
follows_weaker C.Done Spelled Unwritten h = inl h
follows_weaker (C.Stopped fault) Spelled Unwritten h = inl h
follows_weaker (C.WriteFailed name) Spelled Unwritten h = inl h
follows_weaker C.NoMemory Spelled Unwritten h = h
follows_weaker C.NotBuilt Spelled Unwritten h = inr h
follows_weaker C.BadWords Spelled Unwritten h = inr h
follows_weaker (C.Refused refusal) Spelled Unwritten h = inr h
follows_weaker (C.OpenFailed name) Spelled Unwritten h = inr h
follows_weaker (C.ReadFailed name) Spelled Unwritten h = inr h
follows_weaker (C.BadArrivals op) Spelled Unwritten h = inr h

follows_said : (k r : Cause) (Spelled Unwritten Text : Type 0) → ToldAs k r Text → FollowsBy k Spelled Unwritten
    → FollowsBy r Spelled Unwritten
follows_said k r Spelled Unwritten Text (inl e) h = subst (λ (c : Cause). FollowsBy c Spelled Unwritten) (sym e) h
follows_said k r Spelled Unwritten Text (inr (inl e)) h =
    subst (λ (c : Cause). FollowsBy c Spelled Unwritten) (sym e) (follows_weaker k Spelled Unwritten h)
follows_said k r Spelled Unwritten Text (inr (inr (e, run, text))) h =
    subst (λ (c : Cause). FollowsBy c Spelled Unwritten) (sym e) (follows_run k Spelled Unwritten run h)

followed_said : (request : Option Request) (Is : RequestOutcome → Type 0) (ended : Ended) (r : Cause) (status : ℕ) (t u : Told) (Text : Type 0)
    → ToldAs ended.cause r Text → FollowsRecord request Is ended t u → FollowsRecord request Is (with_cause ended r status) t u
followed_said None Is ended r status t u Text e h = tt
followed_said (Some (R.Check p)) Is ended r status t u Text e h = tt
followed_said (Some (R.Plan p)) Is ended r status t u Text e h = tt
followed_said (Some (R.Run p options)) Is ended r status t u Text e h = tt
followed_said (Some (R.Replay p file)) Is ended r status t u Text e h = λ c g m is.
    follows_said ended.cause r (Spells c (t.script file).bytes ended.arrivals) (WroteNothing c ended t u) Text e (h c g m is)
followed_said (Some (R.Simulate p width schedule steps)) Is ended r status t u Text e h = tt
followed_said (Some (R.Make name rows start)) Is ended r status t u Text e h = tt

-- the order of refusals stays
in_order_said : (request : Option Request) (Is : RequestOutcome → Type 0) (k r : Cause) (Text : Type 0) → ToldAs k r Text
    → ComesInOrder k request Is → ComesInOrder r request Is
in_order_said request Is k r Text (inl e) h = subst (λ (c : Cause). ComesInOrder c request Is) (sym e) h
in_order_said request Is k r Text (inr (inl e)) h = subst (λ (c : Cause). ComesInOrder c request Is) (sym e) tt
in_order_said request Is k r Text (inr (inr (e, run, text))) h = subst (λ (c : Cause). ComesInOrder c request Is) (sym e) tt

-- the file of the record that a run writes
record_text : (k : Cause) (parts : List CheckedClauses) (file text : List ℕ) (counts now : PerName) (Text Sinks : Type 0) (t u : Told) → RecordHolds k parts file text counts now ⊥ Sinks t u → RecordHolds k parts file text counts now Text Sinks t u
record_text C.Done parts file text counts now Text Sinks t u h = h
record_text (C.Stopped fault) parts file text counts now Text Sinks t u h = h
record_text (C.WriteFailed name) parts file text counts now Text Sinks t u (of_sink named rose empty) = of_sink named rose empty
record_text (C.WriteFailed name) parts file text counts now Text Sinks t u (of_record is rose sinks n front) = of_record is rose sinks n front
record_text (C.WriteFailed name) parts file text counts now Text Sinks t u (of_telling is bad quiet sinks whole) = absurd bad
record_text C.NoMemory parts file text counts now Text Sinks t u h = h
record_text C.BadWords parts file text counts now Text Sinks t u h = h
record_text (C.Refused refusal) parts file text counts now Text Sinks t u h = h
record_text C.NotBuilt parts file text counts now Text Sinks t u h = h
record_text (C.OpenFailed name) parts file text counts now Text Sinks t u h = h
record_text (C.ReadFailed name) parts file text counts now Text Sinks t u h = h
record_text (C.BadArrivals op) parts file text counts now Text Sinks t u h = h

whole_front : (file text : List ℕ) (u : Told) → u.holds file ≡ Some text → (n : ℕ) × (u.holds file ≡ Some (take n text))
whole_front file text u h = (length text, h ∙ ap (λ (x : List ℕ). Some x) (sym (take-length text)))

record_weaker : (k : Cause) (parts : List CheckedClauses) (file text : List ℕ) (counts now : PerName) (Sinks : Type 0) (t u : Told) → RecordHolds k parts file text counts now ⊥ Sinks t u → RecordHolds C.NoMemory parts file text counts now ⊥ Sinks t u
record_weaker C.Done parts file text counts now Sinks t u h = inr (inr (h.0, whole_front file text u h.1))
record_weaker (C.Stopped fault) parts file text counts now Sinks t u h = inr (inr (h.0, whole_front file text u h.1))
record_weaker (C.WriteFailed name) parts file text counts now Sinks t u (of_sink named rose empty) = inr (inl empty)
record_weaker (C.WriteFailed name) parts file text counts now Sinks t u (of_record is rose sinks n front) = inr (inr (sinks, (n, front)))
record_weaker (C.WriteFailed name) parts file text counts now Sinks t u (of_telling is bad quiet sinks whole) = absurd bad
record_weaker C.NoMemory parts file text counts now Sinks t u h = h
record_weaker C.BadWords parts file text counts now Sinks t u h = inl h
record_weaker (C.Refused refusal) parts file text counts now Sinks t u h = inl h
record_weaker C.NotBuilt parts file text counts now Sinks t u h = inl h
record_weaker (C.OpenFailed name) parts file text counts now Sinks t u h = inl h
record_weaker (C.ReadFailed name) parts file text counts now Sinks t u h = inl h
record_weaker (C.BadArrivals op) parts file text counts now Sinks t u h = inl h

record_run : (fault : Option Fault) (parts : List CheckedClauses) (file text : List ℕ) (counts now : PerName) (Sinks : Type 0) (t u : Told) → RecordHolds (cause_of fault) parts file text counts now ⊥ Sinks t u → Sinks × (u.holds file ≡ Some text)
record_run None parts file text counts now Sinks t u h = h
record_run (Some fault) parts file text counts now Sinks t u h = h

record_said : (k r : Cause) (parts : List CheckedClauses) (file text : List ℕ) (counts now : PerName) (Text Sinks : Type 0) (t u : Told) → ToldAs k r Text → ((fault : Option Fault) → k ≡ cause_of fault → (n : List ℕ) → (now n).writing ≡ (counts n).writing)
    → RecordHolds k parts file text counts now ⊥ Sinks t u → RecordHolds r parts file text counts now Text Sinks t u
record_said k r parts file text counts now Text Sinks t u (inl e) quiet h = subst (λ (x : Cause). RecordHolds x parts file text counts now Text Sinks t u) (sym e) (record_text k parts file text counts now Text Sinks t u h)
record_said k r parts file text counts now Text Sinks t u (inr (inl e)) quiet h =
    subst (λ (x : Cause). RecordHolds x parts file text counts now Text Sinks t u) (sym e) (record_weaker k parts file text counts now Sinks t u h)
record_said k r parts file text counts now Text Sinks t u (inr (inr (e, (fault, run), failed))) quiet h =
    let both = record_run fault parts file text counts now Sinks t u (subst (λ (x : Cause). RecordHolds x parts file text counts now ⊥ Sinks t u) run h) in
    subst (λ (x : Cause). RecordHolds x parts file text counts now Text Sinks t u) (sym e) (of_telling refl failed (quiet fault run) both.0 both.1)

-- a run that was carried out counts no fault of writing
abbrev DevicesKnown : Option Request → PerName → PerName → Ended → Told → Told → Type 0
DevicesKnown request counts now ended t u =
    (parts : List CheckedClauses) → ArePartsIn t request parts → DevicesMean ended.cause (files_of request parts) counts now ⊥ (IsOutcome t ended.arrivals request) ended t u

quiet_writing : (t u : Told) (p : List ℕ) (options : RunOptions) (ended : Ended) (counts now : PerName) (c : CheckedGraph) → IsFound t p (file_names (R.Run p options)) (Ok c) → DevicesKnown (Some (R.Run p options)) counts now ended t u
    → (fault : Option Fault) → ended.cause ≡ cause_of fault → (n : List ℕ) → (now n).writing ≡ (counts n).writing
quiet_writing t u p options ended counts now c found device fault is n =
    let here = device c.parts (of_program (R.Run p options) p (Ok c) refl found) in
    let only = devices_run fault (files_of (Some (R.Run p options)) c.parts) counts now (IsOutcome t ended.arrivals (Some (R.Run p options))) ended t u
    (subst (λ (k : Cause). DevicesMean k (files_of (Some (R.Run p options)) c.parts) counts now ⊥ (IsOutcome t ended.arrivals (Some (R.Run p options))) ended t u) is here) in
    (only.reads n).writing

recorded_said : (request : Option Request) (ended : Ended) (r : Cause) (status : ℕ) (counts now : PerName) (Text : Type 0) (t u : Told) → ToldAs ended.cause r Text → DevicesKnown request counts now ended t u
    → WritesRecord request (IsOutcome t ended.arrivals request) ended counts now ⊥ t u → WritesRecord request (IsOutcome t ended.arrivals request) (with_cause ended r status) counts now Text t u
recorded_said None ended r status counts now Text t u e device h = tt
recorded_said (Some (R.Check p)) ended r status counts now Text t u e device h = tt
recorded_said (Some (R.Plan p)) ended r status counts now Text t u e device h = tt
recorded_said (Some (R.Run p options)) ended r status counts now Text t u e device h = λ file given c g m is.
    record_said ended.cause r c.parts file (arrivals_text c ended.arrivals) counts now Text (EachSink (HoldsText m u) g.ops) t u e
    (quiet_writing t u p options ended counts now c (run_at t ended.arrivals (Some (R.Run p options)) (Runs c g m) p options c g m is refl refl).found device) (h file given c g m is)
recorded_said (Some (R.Replay p file)) ended r status counts now Text t u e device h = tt
recorded_said (Some (R.Simulate p width schedule steps)) ended r status counts now Text t u e device h = tt
recorded_said (Some (R.Make name rows start)) ended r status counts now Text t u e device h = tt

pub answered_said : OneOutcomeLaw → (told now : Option Told) (request : Option Request) (ended : Ended) (r : Cause) (status : ℕ) (counts later : PerName) (Text : Type 0) → ToldAs ended.cause r Text
    → WhereTold told now (Answered request ended counts later ⊥) → WhereTold told now (Answered request (with_cause ended r status) counts later Text)
answered_said law None now request ended r status counts later Text e h = tt
answered_said law (Some t) None request ended r status counts later Text e h = h
answered_said law (Some t) (Some u) request ended r status counts later Text e h = record {
  means = means_said (IsOutcome t ended.arrivals request) ended r status Text t u (law request t ended.arrivals) e h.means;
  others = h.others;
  scripts = h.scripts;
  counted = h.counted;
  device = λ parts are. devices_said (files_of request parts) counts later Text (IsOutcome t ended.arrivals request) ended r status t u e h.means (h.device parts are);
  stopped = λ parts are. stopped_said ended.cause r parts counts later Text e (h.stopped parts are);
  whole = λ parts are. whole_said ended.cause r (files_of request parts) counts later t Text e (h.whole parts are);
  reads = h.reads;
  needed = needed_said request ended r status t Text e h.needed;
  followed = followed_said request (IsOutcome t ended.arrivals request) ended r status t u Text e h.followed;
  in_order = in_order_said request (IsOutcome t ended.arrivals request) ended.cause r Text e h.in_order;
  recorded = recorded_said request ended r status counts later Text t u e h.device h.recorded;
}

or_not_run : (expected c : Cause) → ((fault : Option Fault) → expected ≡ cause_of fault → ⊥) → IsOr expected c → IsRun c → ⊥
or_not_run expected c other (inl e) (fault, is) = other fault (sym e ∙ is)
or_not_run expected c other (inr e) (None, is) = let h : C.NoMemory ≡ C.Done = sym e ∙ is in cc
or_not_run expected c other (inr e) (Some fault, is) = let h : C.NoMemory ≡ C.Stopped fault = sym e ∙ is in cc

untouched_said : (expected c r : Cause) (counts later : PerName) (Text : Type 0) → ((fault : Option Fault) → expected ≡ cause_of fault → ⊥) → ToldAs c r Text
    → IsOr expected c × NoCountChanged counts later → IsOr expected r × NoCountChanged counts later
untouched_said expected c r counts later Text other told h = (by told, h.1)
  where
    by : ToldAs c r Text → IsOr expected r
    by (inl e) = subst (IsOr expected) (sym e) h.0
    by (inr (inl e)) = inr e
    by (inr (inr (e, run, text))) = absurd (or_not_run expected c other h.0 run)

words_not_run : (fault : Option Fault) → C.BadWords ≡ cause_of fault → ⊥
words_not_run None e = cc
words_not_run (Some fault) e = cc

part_not_run : (fault : Option Fault) → C.NotBuilt ≡ cause_of fault → ⊥
part_not_run None e = cc
part_not_run (Some fault) e = cc

pub words_said : (request : Option Request) (c r : Cause) (counts later : PerName) (Text : Type 0) → ToldAs c r Text → ByWords request c counts later → ByWords request r counts later
words_said None c r counts later Text told h = untouched_said C.BadWords c r counts later Text words_not_run told h
words_said (Some request) c r counts later Text told h = λ part. untouched_said C.NotBuilt c r counts later Text part_not_run told (h part)

-- ---- by the request

pub may_be_said : (request : Option Request) (c r : Cause) (Text : Type 0) → ToldAs c r Text → MayBe request c → MayBe request r
may_be_said request c r Text (inl e) h = subst (MayBe request) (sym e) h
may_be_said request c r Text (inr (inl e)) h = subst (MayBe request) (sym e) tt
may_be_said request c r Text (inr (inr (e, run, text))) h = subst (MayBe request) (sym e) tt

-- ---- completeness

-- each answer is the result of the request
complete_at : (k : Cause) (Is : RequestOutcome → Type 0) (result : RequestOutcome) (whole : List (List ℕ)) (Failed : Type 0) (ended : Ended) (t u : Told) → IsOne Is → CauseMeans k Is ended t u
    → (NamesFile k → Failed) → (NamesFile k → (program : List ℕ) → result ≡ Unreadable program → IsUnread whole k) → Is result → IsAnswer result whole Failed ⊥ k
complete_at C.Done Is result whole Failed ended t u one (inl (report, c, is, same, counted)) failed unread comes =
    subst (λ (o : RequestOutcome). IsAnswer o whole Failed ⊥ C.Done) (one (Reports report c) result is comes) (λ none quiet. inl refl)
complete_at C.Done Is result whole Failed ended t u one (inr (c, g, m, is, fault, run)) failed unread comes =
    subst (λ (o : RequestOutcome). IsAnswer o whole Failed ⊥ C.Done) (one (Runs c g m) result is comes) (λ none quiet. inl (ap cause_of (sym fault)))
complete_at (C.Stopped f) Is result whole Failed ended t u one (c, g, m, is, fault, run) failed unread comes =
    subst (λ (o : RequestOutcome). IsAnswer o whole Failed ⊥ (C.Stopped f)) (one (Runs c g m) result is comes) (λ none quiet. inl (ap cause_of (sym fault)))
complete_at C.BadWords Is result whole Failed ended t u one (is, same) failed unread comes =
    subst (λ (o : RequestOutcome). IsAnswer o whole Failed ⊥ C.BadWords) (one NoRequest result is comes) (λ none. inl refl)
complete_at (C.Refused r) Is result whole Failed ended t u one (is, same) failed unread comes =
    subst (λ (o : RequestOutcome). IsAnswer o whole Failed ⊥ (C.Refused r)) (one (Refused r) result is comes) (λ none. inl refl)
complete_at C.NotBuilt Is result whole Failed ended t u one (is, same) failed unread comes =
    subst (λ (o : RequestOutcome). IsAnswer o whole Failed ⊥ C.NotBuilt) (one NotBuilt result is comes) (λ none. inl refl)
complete_at (C.BadArrivals op) Is result whole Failed ended t u one ((c, is), same) failed unread comes =
    subst (λ (o : RequestOutcome). IsAnswer o whole Failed ⊥ (C.BadArrivals op)) (one (BadArrivals c op) result is comes) (λ none. inl refl)
complete_at (C.OpenFailed name) Is NoRequest whole Failed ended t u one h failed unread comes = λ none. absurd (none (failed tt))
complete_at (C.OpenFailed name) Is (Unreadable program) whole Failed ended t u one h failed unread comes = unread tt program refl
complete_at (C.OpenFailed name) Is (Refused r) whole Failed ended t u one h failed unread comes = λ none. absurd (none (failed tt))
complete_at (C.OpenFailed name) Is NotBuilt whole Failed ended t u one h failed unread comes = λ none. absurd (none (failed tt))
complete_at (C.OpenFailed name) Is (Reports report c) whole Failed ended t u one h failed unread comes = λ none quiet. absurd (none (failed tt))
complete_at (C.OpenFailed name) Is (BadArrivals c op) whole Failed ended t u one h failed unread comes = λ none. absurd (none (failed tt))
complete_at (C.OpenFailed name) Is (Runs c g m) whole Failed ended t u one h failed unread comes = λ none quiet. absurd (none (failed tt))
complete_at (C.ReadFailed name) Is NoRequest whole Failed ended t u one h failed unread comes = λ none. absurd (none (failed tt))
complete_at (C.ReadFailed name) Is (Unreadable program) whole Failed ended t u one h failed unread comes = unread tt program refl
complete_at (C.ReadFailed name) Is (Refused r) whole Failed ended t u one h failed unread comes = λ none. absurd (none (failed tt))
complete_at (C.ReadFailed name) Is NotBuilt whole Failed ended t u one h failed unread comes = λ none. absurd (none (failed tt))
complete_at (C.ReadFailed name) Is (Reports report c) whole Failed ended t u one h failed unread comes = λ none quiet. absurd (none (failed tt))
complete_at (C.ReadFailed name) Is (BadArrivals c op) whole Failed ended t u one h failed unread comes = λ none. absurd (none (failed tt))
complete_at (C.ReadFailed name) Is (Runs c g m) whole Failed ended t u one h failed unread comes = λ none quiet. absurd (none (failed tt))
complete_at (C.WriteFailed name) Is NoRequest whole Failed ended t u one h failed unread comes = λ none. absurd (none (failed tt))
complete_at (C.WriteFailed name) Is (Unreadable program) whole Failed ended t u one h failed unread comes = unread tt program refl
complete_at (C.WriteFailed name) Is (Refused r) whole Failed ended t u one h failed unread comes = λ none. absurd (none (failed tt))
complete_at (C.WriteFailed name) Is NotBuilt whole Failed ended t u one h failed unread comes = λ none. absurd (none (failed tt))
complete_at (C.WriteFailed name) Is (Reports report c) whole Failed ended t u one h failed unread comes = λ none quiet. absurd (none (failed tt))
complete_at (C.WriteFailed name) Is (BadArrivals c op) whole Failed ended t u one h failed unread comes = λ none. absurd (none (failed tt))
complete_at (C.WriteFailed name) Is (Runs c g m) whole Failed ended t u one h failed unread comes = λ none quiet. absurd (none (failed tt))
complete_at C.NoMemory Is NoRequest whole Failed ended t u one h failed unread comes = λ none. inr refl
complete_at C.NoMemory Is (Unreadable program) whole Failed ended t u one h failed unread comes = inl refl
complete_at C.NoMemory Is (Refused r) whole Failed ended t u one h failed unread comes = λ none. inr refl
complete_at C.NoMemory Is NotBuilt whole Failed ended t u one h failed unread comes = λ none. inr refl
complete_at C.NoMemory Is (Reports report c) whole Failed ended t u one h failed unread comes = λ none quiet. inr refl
complete_at C.NoMemory Is (BadArrivals c op) whole Failed ended t u one h failed unread comes = λ none. inr refl
complete_at C.NoMemory Is (Runs c g m) whole Failed ended t u one h failed unread comes = λ none quiet. inr refl

refused_not_run : (refusal : Refusal) (fault : Option Fault) → C.Refused refusal ≡ cause_of fault → ⊥
refused_not_run refusal None e = cc
refused_not_run refusal (Some fault) e = cc

bad_not_run : (op : Option ℕ) (fault : Option Fault) → C.BadArrivals op ≡ cause_of fault → ⊥
bad_not_run op None e = cc
bad_not_run op (Some fault) e = cc

-- it stays so once it is told
answer_said : (result : RequestOutcome) (whole : List (List ℕ)) (Failed Text : Type 0) (c r : Cause) → ToldAs c r Text → IsAnswer result whole Failed ⊥ c → IsAnswer result whole Failed Text r
answer_said NoRequest whole Failed Text c r (inl e) h = λ none. subst (IsOr C.BadWords) (sym e) (h none)
answer_said (Unreadable p) whole Failed Text c r (inl e) h = subst (IsUnread whole) (sym e) h
answer_said (Refused s) whole Failed Text c r (inl e) h = λ none. subst (IsOr (C.Refused s)) (sym e) (h none)
answer_said NotBuilt whole Failed Text c r (inl e) h = λ none. subst (IsOr C.NotBuilt) (sym e) (h none)
answer_said (Reports report k) whole Failed Text c r (inl e) h = λ none quiet. subst (IsOr C.Done) (sym e) (h none (λ x. x))
answer_said (BadArrivals k op) whole Failed Text c r (inl e) h = λ none. subst (IsOr (C.BadArrivals op)) (sym e) (h none)
answer_said (Runs k g m) whole Failed Text c r (inl e) h = λ none quiet. subst (IsOr (cause_of (run_fault g m))) (sym e) (h none (λ x. x))
answer_said NoRequest whole Failed Text c r (inr (inl e)) h = λ none. inr e
answer_said (Unreadable p) whole Failed Text c r (inr (inl e)) h = inl e
answer_said (Refused s) whole Failed Text c r (inr (inl e)) h = λ none. inr e
answer_said NotBuilt whole Failed Text c r (inr (inl e)) h = λ none. inr e
answer_said (Reports report k) whole Failed Text c r (inr (inl e)) h = λ none quiet. inr e
answer_said (BadArrivals k op) whole Failed Text c r (inr (inl e)) h = λ none. inr e
answer_said (Runs k g m) whole Failed Text c r (inr (inl e)) h = λ none quiet. inr e
answer_said NoRequest whole Failed Text c r (inr (inr (e, run, text))) h = λ none. absurd (or_not_run C.BadWords c words_not_run (h none) run)
answer_said (Unreadable p) whole Failed Text c r (inr (inr (e, run, text))) h = absurd (unread_not_run whole c h run)
answer_said (Refused s) whole Failed Text c r (inr (inr (e, run, text))) h = λ none. absurd (or_not_run (C.Refused s) c (refused_not_run s) (h none) run)
answer_said NotBuilt whole Failed Text c r (inr (inr (e, run, text))) h = λ none. absurd (or_not_run C.NotBuilt c part_not_run (h none) run)
answer_said (Reports report k) whole Failed Text c r (inr (inr (e, run, text))) h = λ none quiet. absurd (quiet text)
answer_said (BadArrivals k op) whole Failed Text c r (inr (inr (e, run, text))) h = λ none. absurd (or_not_run (C.BadArrivals op) c (bad_not_run op) (h none) run)
answer_said (Runs k g m) whole Failed Text c r (inr (inr (e, run, text))) h = λ none quiet. absurd (quiet text)

-- ---- a file that can't be read

-- a request that is built, with no operators, opens what it reads as a whole alone
whole_alone : (request : Request) → is_built request ≡ true → opens (Some request) [] ≡ whole_files (Some request)
whole_alone (R.Check p) built = refl
whole_alone (R.Run p options) built = refl
whole_alone (R.Plan p) built = refl
whole_alone (R.Replay p file) built = refl
whole_alone (R.Simulate p width schedule steps) built = absurd (let bad : false ≡ true = built in cc)
whole_alone (R.Make name rows start) built = absurd (let bad : false ≡ true = built in cc)

-- no graph is run
abbrev IsUnrunOf : (RequestOutcome → Type 0) → Type 0
IsUnrunOf Is = (c : CheckedGraph) (g : Graph) (m : Meaning) → Is (Runs c g m) → ⊥

not_run_of : (Is : RequestOutcome → Type 0) → IsUnrunOf Is → ((c : CheckedGraph) × (g : Graph) × (m : Meaning) × Is (Runs c g m)) → ⊥
not_run_of Is unrun (c, g, m, is) = unrun c g m is

unread_cause : (k : Cause) (request : Request) (counts later : PerName) (Is : RequestOutcome → Type 0) (ended : Ended) (t u : Told) → is_built request ≡ true → IsUnrunOf Is
    → NamesFile k → DevicesMean k (files_of (Some request) []) counts later ⊥ Is ended t u → IsUnread (whole_files (Some request)) k
unread_cause (C.OpenFailed name) request counts later Is ended t u built unrun is (inl h) =
    inr (name, split_named h.0.before h.0.behind name (whole_files (Some request)) (sym (whole_alone request built) ∙ h.0.order), inl refl)
unread_cause (C.OpenFailed name) request counts later Is ended t u built unrun is (inr h) = absurd (not_run_of Is unrun h.runs)
unread_cause (C.ReadFailed name) request counts later Is ended t u built unrun is h = inr (name, h.whole, inr refl)
unread_cause (C.WriteFailed name) request counts later Is ended t u built unrun is (inl h) = absurd (unrun h.1.0 h.1.1 h.1.2 h.1.3)
unread_cause (C.WriteFailed name) request counts later Is ended t u built unrun is (inr h) = absurd h.0.1
unread_cause C.Done request counts later Is ended t u built unrun is h = absurd is
unread_cause (C.Stopped fault) request counts later Is ended t u built unrun is h = absurd is
unread_cause C.NotBuilt request counts later Is ended t u built unrun is h = absurd is
unread_cause C.BadWords request counts later Is ended t u built unrun is h = absurd is
unread_cause (C.Refused refusal) request counts later Is ended t u built unrun is h = absurd is
unread_cause (C.BadArrivals op) request counts later Is ended t u built unrun is h = absurd is
unread_cause C.NoMemory request counts later Is ended t u built unrun is h = absurd is

not_refused : (k : Cause) → NamesFile k → (r : Refusal) → k ≡ C.Refused r → ⊥
not_refused (C.OpenFailed name) named r e = cc
not_refused (C.ReadFailed name) named r e = cc
not_refused (C.WriteFailed name) named r e = cc
not_refused C.Done named r e = named
not_refused (C.Stopped fault) named r e = named
not_refused C.NotBuilt named r e = named
not_refused C.BadWords named r e = named
not_refused (C.Refused refusal) named r e = named
not_refused (C.BadArrivals op) named r e = named
not_refused C.NoMemory named r e = named

-- an answer that names no file is none to it
unread_told : (k : Cause) (request : Option Request) (file : List ℕ) (counts later : PerName) (ended : Ended) (t u : Told) → ended.cause ≡ k → NamesFile k → IsUnrunOf (IsOutcome t ended.arrivals request) → IsUnreadable t request file
    → ((parts : List CheckedClauses) → ArePartsIn t request parts → DevicesMean k (files_of request parts) counts later ⊥ (IsOutcome t ended.arrivals request) ended t u)
    → NeedsRecord request ended t → IsUnread (whole_files request) k
unread_told k request file counts later ended t u e named unrun (inl bad) device needed =
    subst (λ (o : Option Request). IsUnread (whole_files o) k) (sym bad.is)
    (unread_cause k bad.asked counts later (IsOutcome t ended.arrivals request) ended t u bad.built unrun named
    (subst (λ (o : Option Request). DevicesMean k (files_of o []) counts later ⊥ (IsOutcome t ended.arrivals request) ended t u) bad.is
    (device [] (subst (λ (o : Option Request). ArePartsIn t o []) (sym bad.is) (of_unreadable bad.asked file bad.of bad.fault)))))
unread_told k request file counts later ended t u e named unrun (inr bad) device needed =
    subst (λ (o : Option Request). IsUnread (whole_files o) k) (sym bad.is)
    (by ((subst (λ (o : Option Request). NeedsRecord o ended t) bad.is needed) bad.fault))
  where
    by : NoRecord (bad.program ∷ file ∷ []) ended.cause → IsUnread (bad.program ∷ file ∷ []) k
    by (inl (refusal, refused)) = absurd (not_refused k named refusal (sym e ∙ refused))
    by (inr h) = subst (IsUnread (bad.program ∷ file ∷ [])) e h

run_unread : (c : CheckedGraph) (g : Graph) (m : Meaning) (file : List ℕ) → Runs c g m ≡ Unreadable file → ⊥
run_unread c g m file e = cc

pub complete : OneOutcomeLaw → (told now : Option Told) (request : Option Request) (ended : Ended) (r : Cause) (status : ℕ) (counts later : PerName) (Text : Type 0) → ToldAs ended.cause r Text
    → WhereTold told now (Answered request ended counts later ⊥) → IfSome told (IsComplete request (with_cause ended r status) counts later Text)
complete law None now request ended r status counts later Text e h = tt
complete law (Some t) None request ended r status counts later Text e h = absurd h
complete law (Some t) (Some u) request ended r status counts later Text e h = λ result comes parts are.
    answer_said result (whole_files request) (DeviceFailed (files_of request parts) counts later) Text ended.cause r e
    (complete_at ended.cause (IsOutcome t ended.arrivals request) result (whole_files request) (DeviceFailed (files_of request parts) counts later) ended t u (law request t ended.arrivals) h.means
    (λ named. device_failed ended.cause (files_of request parts) counts later (IsOutcome t ended.arrivals request) ended t u named (h.device parts are))
    (λ named file is. unread_told ended.cause request file counts later ended t u refl named
    (λ c g m run. run_unread c g m file (law request t ended.arrivals (Runs c g m) result run comes ∙ is)) (unread_by t ended.arrivals request file (subst (IsOutcome t ended.arrivals request) is comes)) h.device h.needed) comes)
