-- What an answer shows at every shelf: of the counts, of the program and of its run.
use Rattle.stream_model.specs.Runs.{IsRecordOf}
use Rattle.std.proofs.Common.{◌≡◌, ◌≢◌, ◌∙◌, ℕ, true, false, List, [], refl, sym, ap, subst, inl, inr, ◌⊎◌, Option, Some, None}
use Rattle.spl_value.specs.declared.item.Fault.{Fault}
use Rattle.feed_pour.specs.Counts.{FaultCounts, PerName, Rose}
use Rattle.language_model.specs.declared.checked.CheckedClauses.{CheckedClauses}
use Rattle.language_model.specs.CheckedGraph.{CheckedGraph}
use Rattle.stream_model.specs.declared.record.Arrivals.{Arrivals}
use Rattle.stream_model.specs.Meaning.{Graph, Meaning}
use Rattle.run_report.specs.declared.cause.Cause.{Cause}
use Rattle.run_report.specs.declared.cause.Cause.TheVariants as C
use Rattle.command_line.specs.declared.request.Request.{Request}
use Rattle.command_line.specs.declared.request.Request.TheVariants as R
use Rattle.command_line.specs.declared.request.RunOptions.{RunOptions}
use Rattle.source_rows.specs.Counting.{OnlyReads}
use Rattle.spl_driver.specs.Answer.{NothingTaken, DevicesShow, IsRun, NoCountChanged, cause_of, is_report, IsOr}
use Rattle.spl_driver.specs.Built.{is_built}
use Rattle.spl_driver.specs.Files.{FilesOf, files_of, program_of, row_files}
use Rattle.spl_driver.specs.steps.Telling.{ToldAs, OUT}
use Rattle.spl_driver.specs.Outcome.{IsProgramOf}
use Rattle.spl_driver.specs.Shown.{IsRecordSoFar, RanWith, ArePartsOf, IsReason, IsRunProgram, TextShown, NothingRan, Ran, RanShown, RunShown, Shown, ShownBy}
use Rattle.spl_driver.specs.steps.Steps.{CountsShow, FirstOpening, FirstReading, IsRunGraph, RanAccepted, RanGraph, ReasonOf, is_bad_arrivals}
use Rattle.spl_driver.proofs.Causes.{IsReport}
use Rattle.spl_driver.specs.declared.ended.Ended.{Ended}
use Rattle.spl_driver.proofs.Fetching.{quiet_only}
use Rattle.spl_driver.proofs.SoFar.{so_far_of, so_far_untaken}
use Rattle.spl_driver.proofs.Standing.{IsQuiet, IsUnrun, opening_of, outside, quiet_stopped, reading_of, same_counts}
use Rattle.spl_value.proofs.Lists.{same_or_not}

-- ---- where no count changed

pub quiet_shows : (cause : Cause) (files : FilesOf) (old new : PerName) → IsQuiet cause → NoCountChanged old new → DevicesShow cause files old new
quiet_shows C.Done files old new is quiet = quiet_only files.rows old new quiet
quiet_shows (C.Stopped fault) files old new is quiet = quiet_only files.rows old new quiet
quiet_shows C.NotBuilt files old new is quiet = quiet
quiet_shows C.BadWords files old new is quiet = quiet
quiet_shows (C.Refused refusal) files old new is quiet = quiet
quiet_shows (C.BadArrivals op) files old new is quiet = quiet_only files.rows old new quiet
quiet_shows C.NoMemory files old new is quiet = tt
quiet_shows (C.OpenFailed name) files old new is quiet = absurd is
quiet_shows (C.ReadFailed name) files old new is quiet = absurd is
quiet_shows (C.WriteFailed name) files old new is quiet = absurd is

pub quiet_shown : (cause : Cause) (request : Option Request) (old new : PerName) → IsQuiet cause → IsUnrun cause → NoCountChanged old new → ShownBy cause request old new
quiet_shown cause request old new is unrun quiet = record {
  parts = [];
  are = inl refl;
  device = quiet_shows cause (files_of request []) old new is quiet;
  stopped = quiet_stopped cause [] old new unrun;
  others = λ n named. quiet n;
  reading = λ n free differs. absurd (differs (ap (λ (c : FaultCounts). c.reading) (quiet n)));
}

-- ---- a program that couldn't be opened or read

-- only the program's counts changed
program_shown : (cause : Cause) (request : Request) (program : List ℕ) (old new : PerName) → program_of request ≡ Some program → ((n : List ℕ) → n ≢ program → new n ≡ old n)
    → (cause ≡ C.NoMemory) ⊎ ((cause ≡ C.ReadFailed program) ⊎ ((new program).reading ≡ (old program).reading)) → DevicesShow cause (files_of (Some request) []) old new → IsUnrun cause
    → ShownBy cause (Some request) old new
program_shown cause request program old new of others at device unrun = record {
  parts = [];
  are = inl refl;
  device = device;
  stopped = quiet_stopped cause [] old new unrun;
  others = λ n named. others n (outside request program [] n of named);
  reading = λ n free differs. elim (same_or_not n program) as (λ _. (cause ≡ C.ReadFailed n) ⊎ (cause ≡ C.NoMemory)) [
    | inl e ↦ here n e differs at
    | inr other ↦ absurd (differs (ap (λ (c : FaultCounts). c.reading) (others n other)))
  ];
}
  where
    here : (n : List ℕ) → n ≡ program → (new n).reading ≢ (old n).reading → (cause ≡ C.NoMemory) ⊎ ((cause ≡ C.ReadFailed program) ⊎ ((new program).reading ≡ (old program).reading))
        → (cause ≡ C.ReadFailed n) ⊎ (cause ≡ C.NoMemory)
    here n e differs (inl wanting) = inr wanting
    here n e differs (inr (inl is)) = inl (is ∙ ap (λ (m : List ℕ). C.ReadFailed m) (sym e))
    here n e differs (inr (inr same)) = absurd (differs (ap (λ (m : List ℕ). (new m).reading) e ∙ same ∙ sym (ap (λ (m : List ℕ). (old m).reading) e)))

pub unopened_shown : (cause : Cause) (request : Request) (program : List ℕ) (old new : PerName) (Text : Type 0) → program_of request ≡ Some program → IsOr (C.OpenFailed program) cause
    → FirstOpening program old new → Shown cause (Some request) old new Text
unopened_shown cause request program old new Text of (inl is) counted =
    subst (λ (k : Cause). Shown k (Some request) old new Text) (sym is)
    (program_shown (C.OpenFailed program) request program old new of counted.others (inr (inr counted.reading)) (inl (opening_of request program [] old new of counted)) tt)
unopened_shown cause request program old new Text of (inr is) counted =
    subst (λ (k : Cause). Shown k (Some request) old new Text) (sym is) (program_shown C.NoMemory request program old new of counted.others (inl refl) tt tt)

pub unread_shown : (cause : Cause) (request : Request) (program : List ℕ) (old new : PerName) (Text : Type 0) → is_built request ≡ true → program_of request ≡ Some program → IsOr (C.ReadFailed program) cause
    → FirstReading program old new → Shown cause (Some request) old new Text
unread_shown cause request program old new Text built of (inl is) counted =
    subst (λ (k : Cause). Shown k (Some request) old new Text) (sym is)
    (program_shown (C.ReadFailed program) request program old new of counted.others (inr (inl refl)) (reading_of request program [] old new built of counted) tt)
unread_shown cause request program old new Text built of (inr is) counted =
    subst (λ (k : Cause). Shown k (Some request) old new Text) (sym is) (program_shown C.NoMemory request program old new of counted.others (inl refl) tt tt)

-- ---- what was done with an accepted program

pub shown_of : (cause : Cause) (request : Option Request) (old new : PerName) (Text : Type 0) → (cause ≡ C.BadWords → ⊥) → ShownBy cause request old new → Shown cause request old new Text
shown_of C.Done request old new Text other h = h
shown_of (C.Stopped fault) request old new Text other h = h
shown_of C.NotBuilt request old new Text other h = h
shown_of C.BadWords request old new Text other h = absurd (other refl)
shown_of (C.Refused refusal) request old new Text other h = h
shown_of (C.OpenFailed name) request old new Text other h = h
shown_of (C.ReadFailed name) request old new Text other h = h
shown_of (C.BadArrivals op) request old new Text other h = h
shown_of (C.WriteFailed name) request old new Text other h = inl h
shown_of C.NoMemory request old new Text other h = h

pub shown_after : (cause : Cause) (request : Request) (c : CheckedGraph) (old mid new : PerName) (Text : Type 0) → IsProgramOf (Some request) c
    → NoCountChanged old mid → CountsShow cause c.parts (files_of (Some request) c.parts) mid new → Shown cause (Some request) old new Text
shown_after cause request c old mid new Text program quiet h =
    subst (λ (k : PerName). Shown cause (Some request) k new Text) (same_counts old mid quiet) (shown_of cause (Some request) mid new Text h.words (record {
      parts = c.parts;
      are = inr (c, program, refl);
      device = h.device;
      stopped = h.stopped;
      others = h.others;
      reading = h.reading;
    }))

-- ---- once the text is told

-- a request was carried out
pub only_stop : (c : Cause) (request : Option Request) (counts later : PerName) (Text : Type 0) → IsRun c → Shown c request counts later Text
    → (parts : List CheckedClauses) × ArePartsOf request parts × OnlyReads (row_files request parts) counts later
only_stop c request counts later Text (None, is) h = let s : ShownBy C.Done request counts later = subst (λ (x : Cause). Shown x request counts later Text) is h in (s.parts, s.are, s.device)
only_stop c request counts later Text (Some fault, is) h = let s : ShownBy (C.Stopped fault) request counts later = subst (λ (x : Cause). Shown x request counts later Text) is h in (s.parts, s.are, s.device)

pub text_shown : (c : Cause) (request : Option Request) (counts later : PerName) (Text Failed : Type 0) → IsRun c → Failed → Shown c request counts later Text → TextShown OUT request counts later Failed
text_shown c request counts later Text Failed run failed h =
    let only = only_stop c request counts later Text run h in
    (only.0, only.1, (refl, failed, only.2))

-- memory may run out after each answer
wanting_by : (c : Cause) (request : Option Request) (counts later : PerName) → ShownBy c request counts later → ShownBy C.NoMemory request counts later
wanting_by c request counts later h = record { parts = h.parts; are = h.are; device = tt; stopped = tt; others = h.others; reading = λ n free differs. inr refl }

pub wanting_shown : (c : Cause) (request : Option Request) (counts later : PerName) (Text : Type 0) → Shown c request counts later ⊥ → Shown C.NoMemory request counts later Text
wanting_shown C.Done request counts later Text h = wanting_by C.Done request counts later h
wanting_shown (C.Stopped fault) request counts later Text h = wanting_by (C.Stopped fault) request counts later h
wanting_shown C.NotBuilt request counts later Text h = wanting_by C.NotBuilt request counts later h
wanting_shown C.BadWords request counts later Text h = quiet_shown C.NoMemory request counts later tt tt h.1
wanting_shown (C.Refused refusal) request counts later Text h = wanting_by (C.Refused refusal) request counts later h
wanting_shown (C.OpenFailed name) request counts later Text h = wanting_by (C.OpenFailed name) request counts later h
wanting_shown (C.ReadFailed name) request counts later Text h = wanting_by (C.ReadFailed name) request counts later h
wanting_shown (C.BadArrivals op) request counts later Text h = wanting_by (C.BadArrivals op) request counts later h
wanting_shown (C.WriteFailed name) request counts later Text (inl h) = wanting_by (C.WriteFailed name) request counts later h
wanting_shown (C.WriteFailed name) request counts later Text (inr h) = absurd h.2.1
wanting_shown C.NoMemory request counts later Text h = h

shown_text : (c : Cause) (request : Option Request) (counts later : PerName) (Text : Type 0) → Shown c request counts later ⊥ → Shown c request counts later Text
shown_text C.Done request counts later Text h = h
shown_text (C.Stopped fault) request counts later Text h = h
shown_text C.BadWords request counts later Text h = h
shown_text (C.Refused refusal) request counts later Text h = h
shown_text C.NotBuilt request counts later Text h = h
shown_text (C.OpenFailed name) request counts later Text h = h
shown_text (C.ReadFailed name) request counts later Text h = h
shown_text (C.BadArrivals op) request counts later Text h = h
shown_text (C.WriteFailed name) request counts later Text (inl h) = inl h
shown_text (C.WriteFailed name) request counts later Text (inr h) = absurd h.2.1
shown_text C.NoMemory request counts later Text h = h

-- what the counts show stays
pub shown_said : (c r : Cause) (request : Option Request) (counts later : PerName) (Text : Type 0) → ToldAs c r Text → Shown c request counts later ⊥ → Shown r request counts later Text
shown_said c r request counts later Text (inl e) h = subst (λ (x : Cause). Shown x request counts later Text) (sym e) (shown_text c request counts later Text h)
shown_said c r request counts later Text (inr (inl e)) h = subst (λ (x : Cause). Shown x request counts later Text) (sym e) (wanting_shown c request counts later Text h)
shown_said c r request counts later Text (inr (inr (e, run, text))) h =
    subst (λ (x : Cause). Shown x request counts later Text) (sym e) (inr (text_shown c request counts later ⊥ Text run text h))

-- ---- why a request isn't carried out

pub or_reason : (expected cause : Cause) (request : Option Request) → IsOr expected cause → IsReason expected request → IsReason cause request
or_reason expected cause request (inl e) h = subst (λ (k : Cause). IsReason k request) (sym e) h
or_reason expected cause request (inr e) h = subst (λ (k : Cause). IsReason k request) (sym e) tt

pub reason_of : (cause : Cause) (request : Request) (c : CheckedGraph) → IsProgramOf (Some request) c → ReasonOf cause c → IsReason cause (Some request)
reason_of (C.Refused refusal) request c program h = absurd h
reason_of C.NotBuilt request c program h = absurd h
reason_of C.Done request c program h = tt
reason_of (C.Stopped fault) request c program h = tt
reason_of C.BadWords request c program h = tt
reason_of (C.OpenFailed name) request c program h = tt
reason_of (C.ReadFailed name) request c program h = tt
reason_of (C.BadArrivals op) request c program h = (c, program, h)
reason_of (C.WriteFailed name) request c program h = tt
reason_of C.NoMemory request c program h = tt

pub reason_said : (c r : Cause) (request : Option Request) (Text : Type 0) → ToldAs c r Text → IsReason c request → IsReason r request
reason_said c r request Text (inl e) h = subst (λ (k : Cause). IsReason k request) (sym e) h
reason_said c r request Text (inr (inl e)) h = subst (λ (k : Cause). IsReason k request) (sym e) tt
reason_said c r request Text (inr (inr (e, run, text))) h = subst (λ (k : Cause). IsReason k request) (sym e) tt

-- ---- what ran

-- a weaker fact of its record
ran_wider : (Known Wider : Graph → Meaning → Arrivals → Type 0) (Program : CheckedGraph → Type 0) (ended : Ended) (counts now : PerName)
    → ((g : Graph) (m : Meaning) → Known g m ended.arrivals → Wider g m ended.arrivals)
    → RanWith Known Program ended counts now → RanWith Wider Program ended counts now
ran_wider Known Wider Program ended counts now wider (c, g, m, p, ran) = (
  c,
  g,
  m,
  p,
  record {
    graph = ran.graph;
    rows = ran.rows;
    fit = ran.fit;
    names = ran.names;
    read = ran.read;
    is = ran.is;
    recorded = wider g m ran.recorded;
  },
)

-- a record that is whole is one so far
pub whole_so_far : (Program : CheckedGraph → Type 0) (ended : Ended) (counts now : PerName) → Ran Program ended counts now
    → RanWith IsRecordSoFar Program ended counts now
whole_so_far Program ended counts now =
    ran_wider IsRecordOf IsRecordSoFar Program ended counts now (λ g m h. so_far_of g m ended.arrivals h)

-- and so is one in which nothing was taken
pub untaken_so_far : (Program : CheckedGraph → Type 0) (ended : Ended) (counts now : PerName)
    → RanWith (λ g m arrivals. NothingTaken g arrivals) Program ended counts now
    → RanWith IsRecordSoFar Program ended counts now
untaken_so_far Program ended counts now =
    ran_wider (λ g m arrivals. NothingTaken g arrivals) IsRecordSoFar Program ended counts now
    (λ g m h. so_far_untaken g m ended.arrivals h)

pub run_map : (cause : Cause) (P Q : CheckedGraph → Type 0) (A B : Type 0) (ended : Ended) (counts now : PerName) → ((c : CheckedGraph) → P c → Q c) → (A → B) → RunShown cause P A ended counts now → RunShown cause Q B ended counts now
run_map C.Done P Q A B ended counts now to check (inl (a, none)) = inl (check a, none)
run_map C.Done P Q A B ended counts now to check (inr (c, g, m, p, ran, fault, counted)) = inr (c, g, m, to c p, ran, fault, counted)
run_map (C.Stopped f) P Q A B ended counts now to check (c, g, m, p, ran, fault, counted) = (c, g, m, to c p, ran, fault, counted)
run_map (C.WriteFailed name) P Q A B ended counts now to check (inl (a, none)) = inl (check a, none)
run_map (C.WriteFailed name) P Q A B ended counts now to check (inr (c, g, m, p, ran)) = inr (c, g, m, to c p, ran)
run_map (C.OpenFailed name) P Q A B ended counts now to check (inl none) = inl none
run_map (C.OpenFailed name) P Q A B ended counts now to check (inr h) =
    inr (record { rose = h.rose; none = h.none; untaken = (h.untaken.0, h.untaken.1, h.untaken.2, to h.untaken.0 h.untaken.3, h.untaken.4) })
run_map C.NoMemory P Q A B ended counts now to check (inl none) = inl none
run_map C.NoMemory P Q A B ended counts now to check (inr (c, g, m, p, ran)) = inr (c, g, m, to c p, ran)
run_map C.BadWords P Q A B ended counts now to check none = none
run_map (C.Refused refusal) P Q A B ended counts now to check none = none
run_map C.NotBuilt P Q A B ended counts now to check none = none
run_map (C.ReadFailed name) P Q A B ended counts now to check none = none
run_map (C.BadArrivals op) P Q A B ended counts now to check none = none

-- a request of which nothing ran; where a file couldn't be opened, its count of opening rose
abbrev pub IsPlainCause : Cause → PerName → PerName → Type 0
IsPlainCause C.Done counts now = ⊥
IsPlainCause (C.Stopped fault) counts now = ⊥
IsPlainCause (C.WriteFailed name) counts now = ⊥
IsPlainCause C.NotBuilt counts now = Unit {0}
IsPlainCause C.BadWords counts now = Unit {0}
IsPlainCause (C.Refused refusal) counts now = Unit {0}
IsPlainCause C.NoMemory counts now = Unit {0}
IsPlainCause (C.OpenFailed name) counts now = Rose (counts name).opening (now name).opening
IsPlainCause (C.ReadFailed name) counts now = Unit {0}
IsPlainCause (C.BadArrivals op) counts now = ⊥

pub plain_ran : (cause : Cause) (Program : CheckedGraph → Type 0) (Check : Type 0) (ended : Ended) (counts now : PerName)
    → IsPlainCause cause counts now → NothingRan ended → RunShown cause Program Check ended counts now
plain_ran C.Done Program Check ended counts now is none = absurd is
plain_ran (C.Stopped fault) Program Check ended counts now is none = absurd is
plain_ran (C.WriteFailed name) Program Check ended counts now is none = absurd is
plain_ran C.NotBuilt Program Check ended counts now is none = none
plain_ran C.BadWords Program Check ended counts now is none = none
plain_ran (C.Refused refusal) Program Check ended counts now is none = none
plain_ran C.NoMemory Program Check ended counts now is none = inl none.lists
plain_ran (C.OpenFailed name) Program Check ended counts now is none = inl (none, is)
plain_ran (C.ReadFailed name) Program Check ended counts now is none = none
plain_ran (C.BadArrivals op) Program Check ended counts now is none = absurd is

-- none of these is a bad record
pub plain_record : (cause : Cause) (counts now : PerName) → IsPlainCause cause counts now → is_bad_arrivals cause ≡ false
plain_record C.Done counts now is = absurd is
plain_record (C.Stopped fault) counts now is = absurd is
plain_record (C.WriteFailed name) counts now is = absurd is
plain_record (C.BadArrivals op) counts now is = absurd is
plain_record C.NotBuilt counts now is = refl
plain_record C.BadWords counts now is = refl
plain_record (C.Refused refusal) counts now is = refl
plain_record C.NoMemory counts now is = refl
plain_record (C.OpenFailed name) counts now is = refl
plain_record (C.ReadFailed name) counts now is = refl

-- nothing ran under one either
pub bad_ran : (cause : Cause) (op : Option ℕ) (Program : CheckedGraph → Type 0) (Check : Type 0) (ended : Ended) (counts now : PerName) → cause ≡ C.BadArrivals op → NothingRan ended → RunShown cause Program Check ended counts now
bad_ran cause op Program Check ended counts now is none = subst (λ (k : Cause). RunShown k Program Check ended counts now) (sym is) none

-- of an answer with such a cause
pub at_plain : (cause k : Cause) (Program : CheckedGraph → Type 0) (Check : Type 0) (ended : Ended) (counts now : PerName) → cause ≡ k → IsPlainCause k counts now → NothingRan ended → RunShown cause Program Check ended counts now
at_plain cause k Program Check ended counts now is plain none =
    subst (λ (x : Cause). RunShown x Program Check ended counts now) (sym is) (plain_ran k Program Check ended counts now plain none)

pub or_ran : (expected cause : Cause) (Program : CheckedGraph → Type 0) (Check : Type 0) (ended : Ended) (counts now : PerName) → IsOr expected cause → IsPlainCause expected counts now → NothingRan ended
    → RunShown cause Program Check ended counts now
or_ran expected cause Program Check ended counts now (inl e) plain none =
    subst (λ (k : Cause). RunShown k Program Check ended counts now) (sym e) (plain_ran expected Program Check ended counts now plain none)
or_ran expected cause Program Check ended counts now (inr e) plain none =
    subst (λ (k : Cause). RunShown k Program Check ended counts now) (sym e) (plain_ran C.NoMemory Program Check ended counts now tt none)

-- where a program is told of, nothing ran
pub report_ran : (cause : Cause) (request : Request) (c : CheckedGraph) (ended : Ended) (counts now : PerName) → is_report (Some request) ≡ true → cause ≡ C.Done → NothingRan ended → RanAccepted cause request c ended counts now
report_ran cause request c ended counts now alone is none =
    subst (λ (k : Cause). RunShown k (IsRunGraph request c) (is_report (Some request) ≡ true) ended counts now) (sym is) (inl (alone, none))

-- a run ran the graph
pub graph_ran : (cause : Cause) (request : Request) (p : List ℕ) (options : RunOptions) (c : CheckedGraph) (ended : Ended) (counts now : PerName) → request ≡ R.Run p options → RanGraph cause c ended counts now
    → RanAccepted cause request c ended counts now
graph_ran cause request p options c ended counts now e h =
    run_map cause (λ x. x ≡ c) (IsRunGraph request c) ⊥ (is_report (Some request) ≡ true) ended counts now (λ x is. (ap (λ (q : Request). is_report (Some q)) e, is)) (λ never. absurd never) h

pub replay_ran : (cause : Cause) (request : Request) (p file : List ℕ) (c : CheckedGraph) (ended : Ended) (counts now : PerName) → request ≡ R.Replay p file → RanGraph cause c ended counts now → RanAccepted cause request c ended counts now
replay_ran cause request p file c ended counts now e h =
    run_map cause (λ x. x ≡ c) (IsRunGraph request c) ⊥ (is_report (Some request) ≡ true) ended counts now (λ x is. (ap (λ (q : Request). is_report (Some q)) e, is)) (λ never. absurd never) h

-- the request ran its program
pub request_ran : (cause : Cause) (request : Request) (c : CheckedGraph) (ended : Ended) (counts between later : PerName) → IsProgramOf (Some request) c → NoCountChanged counts between
    → RanAccepted cause request c ended between later → RanShown cause (Some request) ended counts later
request_ran cause request c ended counts between later program quiet h =
    run_map cause (IsRunGraph request c) (IsRunProgram (Some request)) (is_report (Some request) ≡ true) (IsReport (Some request)) ended counts later
    (λ x is. (is.0, subst (IsProgramOf (Some request)) (sym is.1) program)) (λ check. (check, (c, program)))
    (subst (λ (k : PerName). RanAccepted cause request c ended k later) (same_counts counts between quiet) h)

-- once the text is told
abbrev pub with_cause : Ended → Cause → ℕ → Ended
with_cause ended cause status = record { status = status; cause = cause; arrivals = ended.arrivals; counts = ended.counts }

none_same : (ended : Ended) (r : Cause) (status : ℕ) → NothingRan ended → NothingRan (with_cause ended r status)
none_same ended r status none = record { counts = none.counts; lists = none.lists }

run_same : (cause : Cause) (Program : CheckedGraph → Type 0) (Check : Type 0) (ended : Ended) (r : Cause) (status : ℕ) (counts now : PerName) → RunShown cause Program Check ended counts now
    → RunShown cause Program Check (with_cause ended r status) counts now
run_same C.Done Program Check ended r status counts now (inl (check, none)) = inl (check, none_same ended r status none)
run_same C.Done Program Check ended r status counts now (inr h) = inr h
run_same (C.Stopped fault) Program Check ended r status counts now h = h
run_same (C.WriteFailed name) Program Check ended r status counts now (inl (check, none)) = inl (check, none_same ended r status none)
run_same (C.WriteFailed name) Program Check ended r status counts now (inr h) = inr h
run_same (C.OpenFailed name) Program Check ended r status counts now (inl (none, rose)) = inl (none_same ended r status none, rose)
run_same (C.OpenFailed name) Program Check ended r status counts now (inr h) =
    inr (record { rose = h.rose; none = h.none; untaken = h.untaken })
run_same C.NoMemory Program Check ended r status counts now (inl none) = inl none
run_same C.NoMemory Program Check ended r status counts now (inr h) = inr h
run_same C.BadWords Program Check ended r status counts now none = none_same ended r status none
run_same (C.Refused refusal) Program Check ended r status counts now none = none_same ended r status none
run_same C.NotBuilt Program Check ended r status counts now none = none_same ended r status none
run_same (C.ReadFailed name) Program Check ended r status counts now none = none_same ended r status none
run_same (C.BadArrivals op) Program Check ended r status counts now none = none_same ended r status none

-- memory ran out after it
run_wanting : (cause : Cause) (Program : CheckedGraph → Type 0) (Check : Type 0) (ended : Ended) (counts now : PerName)
    → RunShown cause Program Check ended counts now → (ended.arrivals.lists ≡ []) ⊎ RanWith IsRecordSoFar Program ended counts now
run_wanting C.Done Program Check ended counts now (inl (check, none)) = inl none.lists
run_wanting C.Done Program Check ended counts now (inr (c, g, m, p, ran, fault, counted)) = inr (whole_so_far Program ended counts now (c, g, m, p, ran))
run_wanting (C.Stopped f) Program Check ended counts now (c, g, m, p, ran, fault, counted) = inr (whole_so_far Program ended counts now (c, g, m, p, ran))
run_wanting (C.WriteFailed name) Program Check ended counts now (inl (check, none)) = inl none.lists
run_wanting (C.WriteFailed name) Program Check ended counts now (inr h) = inr (whole_so_far Program ended counts now h)
run_wanting (C.OpenFailed name) Program Check ended counts now (inl (none, rose)) = inl none.lists
run_wanting (C.OpenFailed name) Program Check ended counts now (inr h) = inr (untaken_so_far Program ended counts now h.untaken)
run_wanting C.NoMemory Program Check ended counts now h = h
run_wanting C.BadWords Program Check ended counts now none = inl none.lists
run_wanting (C.Refused refusal) Program Check ended counts now none = inl none.lists
run_wanting C.NotBuilt Program Check ended counts now none = inl none.lists
run_wanting (C.ReadFailed name) Program Check ended counts now none = inl none.lists
run_wanting (C.BadArrivals op) Program Check ended counts now none = inl none.lists

-- its text wasn't written
run_unwritten : (fault : Option Fault) (Program : CheckedGraph → Type 0) (Check : Type 0) (ended : Ended) (r : Cause) (status : ℕ) (counts now : PerName) → RunShown (cause_of fault) Program Check ended counts now
    → RunShown (C.WriteFailed OUT) Program Check (with_cause ended r status) counts now
run_unwritten None Program Check ended r status counts now (inl (check, none)) = inl (check, none_same ended r status none)
run_unwritten None Program Check ended r status counts now (inr (c, g, m, p, ran, fault, counted)) = inr (c, g, m, p, ran)
run_unwritten (Some f) Program Check ended r status counts now (c, g, m, p, ran, fault, counted) = inr (c, g, m, p, ran)

pub ran_said : (request : Option Request) (ended : Ended) (r : Cause) (status : ℕ) (counts now : PerName) (Text : Type 0) → ToldAs ended.cause r Text → RanShown ended.cause request ended counts now
    → RanShown r request (with_cause ended r status) counts now
ran_said request ended r status counts now Text (inl e) h =
    subst (λ (k : Cause). RanShown k request (with_cause ended r status) counts now) (sym e) (run_same ended.cause (IsRunProgram request) (IsReport request) ended r status counts now h)
ran_said request ended r status counts now Text (inr (inl e)) h =
    subst (λ (k : Cause). RanShown k request (with_cause ended r status) counts now) (sym e) (run_wanting ended.cause (IsRunProgram request) (IsReport request) ended counts now h)
ran_said request ended r status counts now Text (inr (inr (e, (fault, run), text))) h =
    subst (λ (k : Cause). RanShown k request (with_cause ended r status) counts now) (sym e)
    (run_unwritten fault (IsRunProgram request) (IsReport request) ended r status counts now (subst (λ (k : Cause). RanShown k request ended counts now) run h))
