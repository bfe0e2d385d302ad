-- What is done with an accepted program, by its request.
use Rattle.std.proofs.Common.{◌≡◌, ◌≤◌, ◌^◌, ◌∙◌, append-nil, arith, ℕ, Bool, true, false, List, [], ◌∷◌, ◌++◌, refl, sym, ap, subst, inl, inr, Option, Some, None, Result, Ok, Err}
use Rattle.std.specs.Prelude.{IfSome, IfOk, ◌||◌, if◌then◌else◌}
use Rattle.spl_value.specs.declared.memory.NoMemory.{NoMemory}
use Rattle.feed_pour.specs.Counts.{PerName}
use Rattle.feed_pour.specs.Contents.{Told, WhereTold}
use Rattle.language_model.specs.declared.checked.CheckedClauses.{CheckedClauses}
use Rattle.stream_model.specs.declared.record.Arrivals.{Arrivals}
use Rattle.stream_model.specs.declared.plan.Region.{Region}
use Rattle.stream_model.specs.CheckedMeaning.{graph_of}
use Rattle.stream_model.specs.Meaning.{Graph}
use Rattle.stream_model.specs.Regions.{IsPlan}
use Rattle.run_report.specs.PlanTexts.{plan_text}
use Rattle.language_model.specs.CheckedGraph.{CheckedGraph}
use Rattle.run_report.specs.declared.cause.Cause.{Cause}
use Rattle.run_report.specs.declared.cause.Cause.TheVariants as C
use Rattle.command_line.specs.declared.request.Request.{Request}
use Rattle.command_line.specs.declared.request.Request.TheVariants as R
use Rattle.command_line.specs.declared.request.RunOptions.{RunOptions}
use Rattle.std.specs.List.{cons_option}
use Rattle.std.specs.Option.{option_to_list}
use Rattle.command_line.specs.Request.{file_names}
use Rattle.language_model.specs.Files.{source_files, sink_files}
use Rattle.language_model.specs.Names.{is_named}
use Rattle.source_rows.specs.Counting.{OpeningFailed}
use Rattle.spl_driver.specs.Files.{FilesOf, creates, files_of, row_files}
use Rattle.spl_driver.specs.Outcome.{IsReplay, has_record_fault, OfPlan, OfSize, Report, RequestOutcome, Reports}
use Rattle.spl_driver.specs.Answer.{FollowsBy, WroteNothing, CauseMeans, CreatingFailed, DevicesMean, DevicesShow, ReadingFailed, StoppedBy, WholeReads, WritingFailed, IsUnread, MayBe, NeedsRecord, is_report, uncounted}
use Rattle.spl_driver.specs.Texts.{IsReportText, wants_counts}
use Rattle.spl_driver.specs.steps.Telling.{IsText}
use Rattle.spl_driver.specs.steps.Steps.{ReadInOrder, SpelledUnless, CountsShow, FilesShow, FollowsFile, IsAcceptedOutcome, IsNamedBy, IsRunOf, IsToldAcceptedOutcome, MayBeOutcome, ReplayComes, RecordFor, RecordOf, RunComes, created_by, replay_files, run_files, is_bad_arrivals, is_ended_run}
use Rattle.spl_driver.proofs.Causes.{is_replay}
use Rattle.spl_driver.specs.declared.ended.Ended.{Ended}
use Rattle.arrival_format.specs.ArrivalTexts.{Spells}
use Rattle.list_engine.specs.declared.run_order.Order.TheVariants as O
use Rattle.spl_driver.proofs.Fetching.{fails_more, quiet_only}
use Rattle.spl_driver.proofs.Showing.{quiet_shows}
use Rattle.spl_driver.proofs.Standing.{IsQuiet, IsUnrun, quiet_stopped}
use Rattle.std.specs.Str.{bytes_eq}
use Rattle.std.proofs.lemmas.Bool.{or_parts}
use Rattle.spl_value.proofs.Bools.{or_true}
use Rattle.spl_value.proofs.Lists.{same_name}

quiet_counts : (cause k : Cause) (files : FilesOf) (counts : PerName) → cause ≡ k → IsQuiet k → (k ≡ C.BadWords → ⊥) → IsUnrun k → (parts : List CheckedClauses) → CountsShow cause parts files counts counts
quiet_counts cause k files counts is quiet words unrun parts = record {
  words = λ e. words (sym is ∙ e);
  others = λ n named. refl;
  reading = λ n named differs. absurd (differs refl);
  device = subst (λ (x : Cause). DevicesShow x files counts counts) (sym is) (quiet_shows k files counts counts quiet (λ n. refl));
  stopped = subst (λ (x : Cause). StoppedBy x parts counts counts) (sym is) (quiet_stopped k parts counts counts unrun);
}

-- ---- what is told of a program

-- the request has this result where its program is accepted, and runs nothing
pub record Asks (request : Request) (report : Report) (c : CheckedGraph) : Type 0 where
  pub outcome : (t : Told) (arrivals : Arrivals) → IsAcceptedOutcome request c arrivals t (Reports report c)
  pub may : (arrivals : Arrivals) (counts now : PerName) → MayBeOutcome request c arrivals counts now (Reports report c)
  pub alone : is_report (Some request) ≡ true
  pub kinds : is_replay (Some request) ≡ false

pub asks_size : (request : Request) (p : List ℕ) (c : CheckedGraph) → request ≡ R.Check p → Asks request OfSize c
asks_size request p c e = subst (λ (q : Request). Asks q OfSize c) (sym e) (record { outcome = λ t arrivals. refl; may = λ arrivals counts now. refl; alone = refl; kinds = refl })

pub asks_plan : (request : Request) (p : List ℕ) (c : CheckedGraph) → request ≡ R.Plan p → Asks request OfPlan c
asks_plan request p c e = subst (λ (q : Request). Asks q OfPlan c) (sym e) (record { outcome = λ t arrivals. refl; may = λ arrivals counts now. refl; alone = refl; kinds = refl })

pub reported_files : (told : Option Told) (request : Request) (report : Report) (c : CheckedGraph) (ended : Ended) (counts : PerName) → Asks request report c → ended.cause ≡ C.Done → ended.counts ≡ uncounted
    → WhereTold told told (λ t u. FilesShow (IsAcceptedOutcome request c ended.arrivals t) (files_of (Some request) c.parts) ended counts counts t u)
reported_files None request report c ended counts asks is none = tt
reported_files (Some t) request report c ended counts asks is none = record {
  means = subst (λ (k : Cause). CauseMeans k (IsAcceptedOutcome request c ended.arrivals t) ended t t) (sym is) (inl (report, c, asks.outcome t ended.arrivals, (λ n. refl), none));
  others = λ n named. refl;
  scripts = λ n named. refl;
  device = subst (λ (k : Cause). DevicesMean k (files_of (Some request) c.parts) counts counts ⊥ (IsAcceptedOutcome request c ended.arrivals t) ended t t) (sym is) (quiet_only (row_files (Some request) c.parts) counts counts (λ n. refl));
  whole = λ n free differs. absurd (differs refl);
  reads = λ n differs. absurd (differs refl);
}

pub reported_counts : (cause : Cause) (request : Request) (c : CheckedGraph) (counts : PerName) → cause ≡ C.Done → CountsShow cause c.parts (files_of (Some request) c.parts) counts counts
reported_counts cause request c counts is = quiet_counts cause C.Done (files_of (Some request) c.parts) counts is tt (λ bad. cc) tt c.parts

reported_comes : (told : Option Told) (request : Request) (report : Report) (c : CheckedGraph) (arrivals : Arrivals) (counts now : PerName) → Asks request report c → IsToldAcceptedOutcome request c arrivals told counts now (Reports report c)
reported_comes None request report c arrivals counts now asks = (asks.may arrivals counts now, tt)
reported_comes (Some t) request report c arrivals counts now asks = (asks.may arrivals counts now, asks.outcome t arrivals)

pub reported_text : (told : Option Told) (request : Request) (report : Report) (c : CheckedGraph) (ended : Ended) (text : Result (List ℕ) NoMemory) (counts now : PerName) → Asks request report c → ended.cause ≡ C.Done
    → IfOk text (IsReportText report c) → IfOk text (IsText (wants_counts (Some request)) ended.cause (IsToldAcceptedOutcome request c ended.arrivals told counts now))
reported_text told request report c ended (Err x) counts now asks is h = tt
reported_text told request report c ended (Ok text) counts now asks is h =
    subst (λ (k : Cause). IsText (wants_counts (Some request)) k (IsToldAcceptedOutcome request c ended.arrivals told counts now) text) (sym is)
    (Reports report c, reported_comes told request report c ended.arrivals counts now asks, (refl, h))

-- the text of the plan that was chosen
pub plan_told : (c : CheckedGraph) (plan : List Region) (text : Result (List ℕ) NoMemory) → ((g : Graph) → graph_of c ≡ g → IsPlan g plan) → IfOk text (λ t. t ≡ plan_text c plan) → IfOk text (IsReportText OfPlan c)
plan_told c plan (Ok text) is e = (plan, is (graph_of c) refl, e)
plan_told c plan (Err x) is e = tt

-- ---- one file more, which is opened first and read as a whole

abbrev pub with_file : List ℕ → List (List ℕ) → (List ℕ → ℕ) → FilesOf → FilesOf
with_file p whole most files = record { opened = p ∷ files.opened; whole = whole; most = most; rows = files.rows; created = files.created }

front_not : (p n : List ℕ) (names : List (List ℕ)) → is_named (p ∷ names) n ≡ false → is_named names n ≡ false
front_not p n names e = (or_parts (bytes_eq p n) (is_named names n) e).1

or_rest : (a b c : Bool) → ((a || b) || c) ≡ false → (b || c) ≡ false
or_rest true b c e = cc
or_rest false b c e = e

module _ (p : List ℕ) (whole : List (List ℕ)) (most : List ℕ → ℕ) (files : FilesOf) (named : (n : List ℕ) → is_named files.whole n ≡ true → is_named whole n ≡ true) (bound : (n : List ℕ) → files.most n ≤ most n) where
  opening_wider : (name : List ℕ) (old new : PerName) → OpeningFailed files.opened name old new → OpeningFailed (p ∷ files.opened) name old new
  opening_wider name old new h = record {
    before = p ∷ h.before;
    behind = h.behind;
    order = ap (λ (ns : List (List ℕ)). p ∷ ns) h.order;
    rose = h.rose;
    later = λ n free other. h.later n (front_not p n h.before free) other;
    others = h.others;
  }

  creating_wider : (name : List ℕ) (old new : PerName) → CreatingFailed files name old new → CreatingFailed (with_file p whole most files) name old new
  creating_wider name old new h = record {
    before = h.before;
    order = h.order;
    rose = h.rose;
    later = λ n free other. h.later n (front_not p n (files.opened ++ h.before) free) other;
    others = h.others;
    creating = h.creating;
    opening = h.opening;
  }

  writing_wider : (name : List ℕ) (old new : PerName) → WritingFailed files name old new → WritingFailed (with_file p whole most files) name old new
  writing_wider name old new h =
      record { before = h.before; order = h.order; rose = h.rose; first = h.first; others = h.others; made = h.made }

  reading_wider : (name : List ℕ) (old new : PerName) → ReadingFailed files name old new → ReadingFailed (with_file p whole most files) name old new
  reading_wider name old new h = record { whole = named name h.whole; rose = h.rose; only = h.only; others = h.others }

  devices_wider : (cause : Cause) (old new : PerName) → DevicesShow cause files old new → DevicesShow cause (with_file p whole most files) old new
  devices_wider C.Done old new h = h
  devices_wider (C.Stopped fault) old new h = h
  devices_wider C.NotBuilt old new h = h
  devices_wider C.BadWords old new h = h
  devices_wider (C.Refused refusal) old new h = h
  devices_wider (C.BadArrivals op) old new h = h
  devices_wider (C.OpenFailed name) old new (inl h) = inl (opening_wider name old new h)
  devices_wider (C.OpenFailed name) old new (inr h) = inr (creating_wider name old new h)
  devices_wider (C.ReadFailed name) old new h = reading_wider name old new h
  devices_wider (C.WriteFailed name) old new h = writing_wider name old new h
  devices_wider C.NoMemory old new h = tt

  means_wider : (cause : Cause) (counts now : PerName) (Is : RequestOutcome → Type 0) (ended : Ended) (t u : Told) → DevicesMean cause files counts now ⊥ Is ended t u
      → DevicesMean cause (with_file p whole most files) counts now ⊥ Is ended t u
  unfolding creating_wider
  means_wider C.Done counts now Is ended t u h = h
  means_wider (C.Stopped fault) counts now Is ended t u h = h
  means_wider C.NotBuilt counts now Is ended t u h = h
  means_wider C.BadWords counts now Is ended t u h = h
  means_wider (C.Refused refusal) counts now Is ended t u h = h
  means_wider (C.BadArrivals op) counts now Is ended t u h = h
  means_wider (C.OpenFailed name) counts now Is ended t u (inl h) = inl (opening_wider name counts now h.0, h.1)
  means_wider (C.OpenFailed name) counts now Is ended t u (inr h) = inr (record { failed = creating_wider name counts now h.failed; empty = h.empty; others = h.others; runs = h.runs })
  means_wider (C.ReadFailed name) counts now Is ended t u h = reading_wider name counts now h
  means_wider (C.WriteFailed name) counts now Is ended t u (inl h) = inl (writing_wider name counts now h.0, h.1)
  means_wider (C.WriteFailed name) counts now Is ended t u (inr h) = absurd h.0.1
  means_wider C.NoMemory counts now Is ended t u h = tt

  whole_wider : (cause : Cause) (counts now : PerName) (t : Told) → WholeReads cause files counts now t → WholeReads cause (with_file p whole most files) counts now t
  whole_wider cause counts now t h = λ n free differs.
      (fails_more (files.most n) (most n) (t.script n) (bound n) (h n free differs).0, (h n free differs).1)

  pub files_wider : (told now : Option Told) (Is : Told → RequestOutcome → Type 0) (ended : Ended) (counts later : PerName) → WhereTold told now (λ t u. FilesShow (Is t) files ended counts later t u)
      → WhereTold told now (λ t u. FilesShow (Is t) (with_file p whole most files) ended counts later t u)
  files_wider None now Is ended counts later h = tt
  files_wider (Some t) None Is ended counts later h = absurd h
  files_wider (Some t) (Some u) Is ended counts later h = record {
    means = h.means;
    others = h.others;
    scripts = h.scripts;
    device = means_wider ended.cause counts later (Is t) ended t u h.device;
    whole = whole_wider ended.cause counts later t h.whole;
    reads = h.reads;
  }

  pub counts_wider : (cause : Cause) (parts : List CheckedClauses) (old new : PerName) → CountsShow cause parts files old new → CountsShow cause parts (with_file p whole most files) old new
  counts_wider cause parts old new h = record {
    words = h.words;
    others = λ n free. h.others n (or_rest (bytes_eq p n) (is_named files.opened n) (is_named files.created n) free);
    reading = h.reading;
    device = devices_wider cause old new h.device;
    stopped = h.stopped;
  }

-- ---- a run, after its program

-- the files of a run are those of its sources, its sinks and its record, with the program in front
creates_are : (p : List ℕ) (options : RunOptions) (c : CheckedGraph) (o : Option (List ℕ)) → options.arrivals ≡ o → creates (Some (R.Run p options)) c.parts ≡ created_by options.arrivals c
creates_are p options c None e = ap (λ (o : Option (List ℕ)). sink_files c.parts ++ option_to_list o) e ∙ append-nil (sink_files c.parts) ∙ ap (λ (o : Option (List ℕ)). created_by o c) (sym e)
creates_are p options c (Some file) e = ap (λ (o : Option (List ℕ)). sink_files c.parts ++ option_to_list o) e ∙ ap (λ (o : Option (List ℕ)). created_by o c) (sym e)

run_files_of : (p : List ℕ) (options : RunOptions) (c : CheckedGraph) → files_of (Some (R.Run p options)) c.parts ≡ with_file p (p ∷ []) (λ n. 1048576) (run_files options.arrivals c)
run_files_of p options c =
    let made = creates_are p options c options.arrivals refl in
    λ i. record { opened = p ∷ source_files c.parts; whole = p ∷ []; most = λ n. 1048576; rows = source_files c.parts; created = made i }

pub none_named : (p n : List ℕ) → is_named [] n ≡ true → is_named (p ∷ []) n ≡ true
none_named p n e = absurd (let bad : false ≡ true = e in cc)

pub ran_files : (told now : Option Told) (request : Request) (p : List ℕ) (options : RunOptions) (c : CheckedGraph) (ended : Ended) (counts later : PerName) → request ≡ R.Run p options
    → WhereTold told now (λ t u. FilesShow (IsRunOf c O.InTurn ended.arrivals t) (run_files options.arrivals c) ended counts later t u)
    → WhereTold told now (λ t u. FilesShow (IsAcceptedOutcome request c ended.arrivals t) (files_of (Some request) c.parts) ended counts later t u)
ran_files told now request p options c ended counts later e h =
    subst (λ (q : Request). WhereTold told now (λ t u. FilesShow (IsAcceptedOutcome q c ended.arrivals t) (files_of (Some q) c.parts) ended counts later t u)) (sym e)
    (subst (λ (files : FilesOf). WhereTold told now (λ t u. FilesShow (IsRunOf c O.InTurn ended.arrivals t) files ended counts later t u))
    (sym (run_files_of p options c))
    (files_wider p (p ∷ []) (λ n. 1048576) (run_files options.arrivals c) (none_named p) (λ n. omega arith) told now (λ t. IsRunOf c O.InTurn ended.arrivals t) ended counts later h))

pub ran_counts : (request : Request) (p : List ℕ) (options : RunOptions) (c : CheckedGraph) (cause : Cause) (old new : PerName) → request ≡ R.Run p options
    → CountsShow cause c.parts (run_files options.arrivals c) old new → CountsShow cause c.parts (files_of (Some request) c.parts) old new
ran_counts request p options c cause old new e h =
    subst (λ (q : Request). CountsShow cause c.parts (files_of (Some q) c.parts) old new) (sym e)
    (subst (λ (files : FilesOf). CountsShow cause c.parts files old new) (sym (run_files_of p options c))
    (counts_wider p (p ∷ []) (λ n. 1048576) (run_files options.arrivals c) (none_named p) (λ n. omega arith) cause c.parts old new h))

pub ran_record : (told now : Option Told) (request : Request) (p : List ℕ) (options : RunOptions) (c : CheckedGraph) (ended : Ended) (counts later : PerName) → request ≡ R.Run p options
    → WhereTold told now (RecordOf options.arrivals c ended counts later) → WhereTold told now (RecordFor request c ended counts later)
ran_record told now request p options c ended counts later e h = subst (λ (q : Request). WhereTold told now (RecordFor q c ended counts later)) (sym e) h

-- the record's name is one of those of the command line
pub run_named : (request : Request) (p : List ℕ) (options : RunOptions) → request ≡ R.Run p options → IsNamedBy options.arrivals (file_names request)
run_named request p options e = by options.arrivals (ap file_names e)
  where
    by : (o : Option (List ℕ)) → file_names request ≡ p ∷ option_to_list o → IsNamedBy o (file_names request)
    by None is = tt
    by (Some file) is = ap (λ (ns : List (List ℕ)). is_named ns file) is ∙ ap (λ (b : Bool). bytes_eq p file || (b || false)) (same_name file) ∙ or_true (bytes_eq p file)

-- where nothing is run no record is written
pub none_written : (told now : Option Told) (request : Request) (c : CheckedGraph) (ended : Ended) (counts later : PerName) → WhereTold told now (λ t u. Unit {0}) → ((p : List ℕ) (options : RunOptions) → request ≡ R.Run p options → ⊥)
    → WhereTold told now (RecordFor request c ended counts later)
none_written None now request c ended counts later h other = tt
none_written (Some t) None request c ended counts later h other = h
none_written (Some t) (Some u) request c ended counts later h other = by request other
  where
    by : (q : Request) → ((p : List ℕ) (options : RunOptions) → q ≡ R.Run p options → ⊥) → RecordFor q c ended counts later t u
    by (R.Check p) other = tt
    by (R.Plan p) other = tt
    by (R.Run p options) other = absurd (other p options refl)
    by (R.Replay p file) other = tt
    by (R.Simulate p width schedule steps) other = tt
    by (R.Make name rows start) other = tt

-- ---- a replay, after its program

second_named : (p file n : List ℕ) → is_named (file ∷ []) n ≡ true → is_named (p ∷ file ∷ []) n ≡ true
second_named p file n e = ap (λ (b : Bool). bytes_eq p n || b) e ∙ or_true (bytes_eq p n)

abbrev record_bound : List ℕ → List ℕ → ℕ
record_bound file n = if bytes_eq file n then 2 ^ 32 else 1048576

pub replayed_files : (told now : Option Told) (request : Request) (p file : List ℕ) (c : CheckedGraph) (ended : Ended) (counts later : PerName) → request ≡ R.Replay p file
    → WhereTold told now (λ t u. FilesShow (IsReplay t c file) (replay_files file c) ended counts later t u)
    → WhereTold told now (λ t u. FilesShow (IsAcceptedOutcome request c ended.arrivals t) (files_of (Some request) c.parts) ended counts later t u)
replayed_files told now request p file c ended counts later e h =
    subst (λ (q : Request). WhereTold told now (λ t u. FilesShow (IsAcceptedOutcome q c ended.arrivals t) (files_of (Some q) c.parts) ended counts later t u)) (sym e)
    (files_wider p (p ∷ file ∷ []) (record_bound file) (replay_files file c) (second_named p file) (λ n. omega arith) told now (λ t. IsReplay t c file) ended counts later h)

pub replayed_counts : (request : Request) (p file : List ℕ) (c : CheckedGraph) (cause : Cause) (old new : PerName) → request ≡ R.Replay p file
    → CountsShow cause c.parts (replay_files file c) old new → CountsShow cause c.parts (files_of (Some request) c.parts) old new
replayed_counts request p file c cause old new e h =
    subst (λ (q : Request). CountsShow cause c.parts (files_of (Some q) c.parts) old new) (sym e)
    (counts_wider p (p ∷ file ∷ []) (record_bound file) (replay_files file c) (second_named p file) (λ n. omega arith) cause c.parts old new h)

-- its text
pub replayed_text : (told : Option Told) (request : Request) (p file : List ℕ) (c : CheckedGraph) (ended : Ended) (text : Result (List ℕ) NoMemory) (counts now : PerName) → request ≡ R.Replay p file
    → IfOk text (IsText false ended.cause (ReplayComes c file ended.arrivals told counts now)) → IfOk text (IsText (wants_counts (Some request)) ended.cause (IsToldAcceptedOutcome request c ended.arrivals told counts now))
replayed_text told request p file c ended text counts now e h = subst (λ (q : Request). IfOk text (IsText (wants_counts (Some q)) ended.cause (IsToldAcceptedOutcome q c ended.arrivals told counts now))) (sym e) h

-- the text of a run
pub ran_text : (told : Option Told) (request : Request) (p : List ℕ) (options : RunOptions) (c : CheckedGraph) (ended : Ended) (text : Result (List ℕ) NoMemory) (counts now : PerName) → request ≡ R.Run p options
    → IfOk text (IsText options.counts ended.cause (RunComes c O.InTurn ended.arrivals told counts now)) → IfOk text (IsText (wants_counts (Some request)) ended.cause (IsToldAcceptedOutcome request c ended.arrivals told counts now))
ran_text told request p options c ended text counts now e h = subst (λ (q : Request). IfOk text (IsText (wants_counts (Some q)) ended.cause (IsToldAcceptedOutcome q c ended.arrivals told counts now))) (sym e) h

-- ---- the record that is followed

follows_other : (request : Request) (c : CheckedGraph) (ended : Ended) (t u : Told) → is_replay (Some request) ≡ false
    → FollowsFile request c ended t u
follows_other (R.Check p) c ended t u other = tt
follows_other (R.Plan p) c ended t u other = tt
follows_other (R.Run p options) c ended t u other = tt
follows_other (R.Replay p file) c ended t u other = absurd (let bad : true ≡ false = other in cc)
follows_other (R.Simulate p width schedule steps) c ended t u other = tt
follows_other (R.Make name rows start) c ended t u other = tt

pub follows_unless : (told now : Option Told) (Known : Told → Told → Type 0) (request : Request) (c : CheckedGraph) (ended : Ended)
    → is_replay (Some request) ≡ false → WhereTold told now Known → WhereTold told now (FollowsFile request c ended)
follows_unless None now Known request c ended other h = tt
follows_unless (Some t) None Known request c ended other h = h
follows_unless (Some t) (Some u) Known request c ended other h = follows_other request c ended t u other

pub follows_replay : (told now : Option Told) (request : Request) (p file : List ℕ) (c : CheckedGraph) (ended : Ended)
    → request ≡ R.Replay p file
    → WhereTold told now (λ t u. FollowsBy ended.cause (Spells c (t.script file).bytes ended.arrivals) (WroteNothing c ended t u))
    → WhereTold told now (FollowsFile request c ended)
follows_replay None now request p file c ended e h = tt
follows_replay (Some t) None request p file c ended e h = h
follows_replay (Some t) (Some u) request p file c ended e h = subst (λ (q : Request). FollowsFile q c ended t u) (sym e) h

-- ---- which refusal comes first

order_other : (request : Request) (c : CheckedGraph) (ended : Ended) (t : Told) → is_replay (Some request) ≡ false
    → ReadInOrder request c ended t
order_other (R.Check p) c ended t other = tt
order_other (R.Plan p) c ended t other = tt
order_other (R.Run p options) c ended t other = tt
order_other (R.Replay p file) c ended t other = absurd (let bad : true ≡ false = other in cc)
order_other (R.Simulate p width schedule steps) c ended t other = tt
order_other (R.Make name rows start) c ended t other = tt

pub order_unless : (told : Option Told) (request : Request) (c : CheckedGraph) (ended : Ended) → is_replay (Some request) ≡ false
    → IfSome told (ReadInOrder request c ended)
order_unless None request c ended other = tt
order_unless (Some t) request c ended other = order_other request c ended t other

pub order_replay : (told : Option Told) (request : Request) (p file : List ℕ) (c : CheckedGraph) (ended : Ended)
    → request ≡ R.Replay p file → IfSome told (λ t. SpelledUnless ended.cause file (IsReplay t c file))
    → IfSome told (ReadInOrder request c ended)
order_replay None request p file c ended e h = tt
order_replay (Some t) request p file c ended e h = subst (λ (q : Request). ReadInOrder q c ended t) (sym e) h

-- ---- the record that is needed

pub needs_unless : (told : Option Told) (request : Request) (ended : Ended) → is_replay (Some request) ≡ false → IfSome told (NeedsRecord (Some request) ended)
needs_unless None request ended other = tt
needs_unless (Some t) (R.Check p) ended other = tt
needs_unless (Some t) (R.Plan p) ended other = tt
needs_unless (Some t) (R.Run p options) ended other = tt
needs_unless (Some t) (R.Replay p file) ended other = absurd (let bad : true ≡ false = other in cc)
needs_unless (Some t) (R.Simulate p width schedule steps) ended other = tt
needs_unless (Some t) (R.Make name rows start) ended other = tt

with_program : (p file : List ℕ) (cause : Cause) → IsUnread (file ∷ []) cause → IsUnread (p ∷ file ∷ []) cause
with_program p file cause (inl e) = inl e
with_program p file cause (inr (name, named, e)) = inr (name, second_named p file name named, e)

pub needs_replay : (told : Option Told) (request : Request) (p file : List ℕ) (ended : Ended) → request ≡ R.Replay p file → IfSome told (λ t. has_record_fault (t.script file) ≡ true → IsUnread (file ∷ []) ended.cause)
    → IfSome told (NeedsRecord (Some request) ended)
needs_replay None request p file ended e h = tt
needs_replay (Some t) request p file ended e h = subst (λ (q : Request). NeedsRecord (Some q) ended t) (sym e) (λ fault. inr (with_program p file ended.cause (h fault)))

-- ---- the causes that a run may have

pub run_kinds : (request : Request) (p : List ℕ) (options : RunOptions) (cause : Cause) → request ≡ R.Run p options → is_bad_arrivals cause ≡ false → MayBe (Some request) cause
run_kinds request p options cause e plain = subst (λ (q : Request). MayBe (Some q) cause) (sym e) (by cause plain)
  where
    by : (cause : Cause) → is_bad_arrivals cause ≡ false → MayBe (Some (R.Run p options)) cause
    by C.Done plain = tt
    by (C.Stopped fault) plain = refl
    by C.NotBuilt plain = refl
    by C.BadWords plain = tt
    by (C.Refused refusal) plain = tt
    by (C.BadArrivals op) plain = absurd (let bad : true ≡ false = plain in cc)
    by (C.OpenFailed name) plain = tt
    by (C.ReadFailed name) plain = tt
    by (C.WriteFailed name) plain = tt
    by C.NoMemory plain = tt

pub replay_kinds : (request : Request) (p file : List ℕ) (cause : Cause) → request ≡ R.Replay p file → MayBe (Some request) cause
replay_kinds request p file cause e = subst (λ (q : Request). MayBe (Some q) cause) (sym e) (by cause)
  where
    by : (cause : Cause) → MayBe (Some (R.Replay p file)) cause
    by C.Done = tt
    by (C.Stopped fault) = refl
    by C.NotBuilt = refl
    by C.BadWords = tt
    by (C.Refused refusal) = tt
    by (C.BadArrivals op) = (p, file, refl)
    by (C.OpenFailed name) = tt
    by (C.ReadFailed name) = tt
    by (C.WriteFailed name) = tt
    by C.NoMemory = tt
