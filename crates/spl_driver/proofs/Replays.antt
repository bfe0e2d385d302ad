-- What is known of a replay, from the result of reading the file of its record and from its run.
use Rattle.std.proofs.Common.{◌≡◌, ◌≢◌, ◌<◌, ◌≤◌, ◌-◌, ◌^◌, ◌∙◌, arith, ℕ, Bool, true, false, List, [], ◌∷◌, refl, sym, ap, subst, inl, inr, ◌⊎◌, Option, Some, None, Result, Ok, Err}
use Rattle.std.specs.Prelude.{IfSome, IfOk, ◌||◌, if◌then◌else◌}
use Rattle.std.specs.Str.{bytes_eq}
use Rattle.spl_value.specs.Script.{Script}
use Rattle.spl_value.specs.declared.memory.NoMemory.{NoMemory}
use Rattle.feed_pour.specs.Counts.{PerName}
use Rattle.feed_pour.specs.Contents.{Told, WhereTold, TellsSame}
use Rattle.feed_pour.specs.Named.{FetchedOf}
use Rattle.feed_pour.specs.declared.named.Fetched.TheVariants as F
use Rattle.language_model.specs.CheckedGraph.{CheckedGraph}
use Rattle.language_model.specs.Keeping.{Keeps}
use Rattle.stream_model.specs.declared.record.Arrivals.{Arrivals}
use Rattle.run_report.specs.declared.cause.Cause.{Cause}
use Rattle.run_report.specs.declared.cause.Cause.TheVariants as C
use Rattle.run_report.specs.Texts.{status_text}
use Rattle.language_model.specs.Files.{source_files}
use Rattle.language_model.specs.Names.{is_named}
use Rattle.source_rows.specs.Counting.{OpeningFailed}
use Rattle.source_rows.specs.Sources.{ReadsFail}
use Rattle.list_engine.specs.declared.run_order.Order.{Order}
use Rattle.list_engine.specs.declared.run_order.Order.TheVariants as O
use Rattle.arrival_format.specs.ArrivalTexts.{Spells}
use Rattle.arrival_format.specs.FormatLaws.{OneRecordLaw}
use Rattle.spl_driver.specs.Outcome.{RequestOutcome, BadArrivals, IsReplay, IsUnder, unread, misspelt, spelled, has_record_fault, fails_within}
use Rattle.spl_driver.specs.Answer.{FollowsBy, IsSpelled, WroteNothing, IsOr, IsRun, IsUnread, NoCountChanged, ReadingFailed, StoppedBy, DevicesShow, WholeReads}
use Rattle.spl_driver.specs.Shown.{NothingRan}
use Rattle.spl_driver.specs.steps.Telling.{IsText}
use Rattle.spl_driver.specs.steps.Steps.{SpelledUnless, CountsShow, FilesShow, FirstOpening, FirstReading, FollowsOrder, IsRunOf, IsSomeIn, IsSomeReplay, RanGraph, ReasonOf, RecordAt, RecordFails, ReplayComes, Replays, RunComes, replay_files, run_files, is_ended_run}
use Rattle.spl_driver.specs.declared.answer.Answer.{Answer}
use Rattle.spl_driver.specs.declared.ended.Ended.{Ended}
use Rattle.spl_driver.specs.declared.record.RecordRead.TheVariants as D
use Rattle.spl_driver.proofs.Carrying.{counts_wider, files_wider, none_named}
use Rattle.spl_driver.proofs.Fetching.{failed_within, long_fault, no_fault, own_name, quiet_only, read_itself, same_told}
use Rattle.spl_driver.proofs.Running.{begun_same, ends_at, or_text, same_files, open_not_run}
use Rattle.spl_driver.proofs.Showing.{bad_ran, or_ran}
use Rattle.spl_driver.proofs.Replaying.{spelled_replay}
use Rattle.spl_driver.proofs.Standing.{follows_unwritten, devices_map, means_map, same_counts, text_map}
use Rattle.spl_value.proofs.Lists.{same_name, same_or_not}
use Rattle.source_rows.proofs.Counting.{read_same}

-- ---- the file of a record

pub record_long : (told : Option Told) (c : CheckedGraph) (file : List ℕ) → IfSome told (λ t. FetchedOf (t.script file) F.TooLong (2 ^ 32)) → IfSome told (λ t. RecordAt D.Bad (t.script file) c)
record_long None c file h = tt
record_long (Some t) c file h = (long_fault (2 ^ 32) (t.script file) h, λ arrivals is. let le = is.short in omega (arith, h, le))

pub record_spelled : (told : Option Told) (c : CheckedGraph) (file bytes : List ℕ) (arrivals : Arrivals) → IfSome told (λ t. FetchedOf (t.script file) (F.Whole bytes) (2 ^ 32)) → Spells c bytes arrivals
    → IfSome told (λ t. RecordAt (D.Order (O.Recorded arrivals)) (t.script file) c)
record_spelled None c file bytes arrivals h is = tt
record_spelled (Some t) c file bytes arrivals h is =
    (no_fault (2 ^ 32) (t.script file) bytes h, subst (λ (bs : List ℕ). Spells c bs arrivals) (sym (ap (λ (s : Script). s.bytes) h.0)) is)

pub record_bad : (told : Option Told) (c : CheckedGraph) (file bytes : List ℕ) → IfSome told (λ t. FetchedOf (t.script file) (F.Whole bytes) (2 ^ 32)) → ((arrivals : Arrivals) → Spells c bytes arrivals → ⊥)
    → IfSome told (λ t. RecordAt D.Bad (t.script file) c)
record_bad None c file bytes h none = tt
record_bad (Some t) c file bytes h none =
    (no_fault (2 ^ 32) (t.script file) bytes h, λ arrivals is. none arrivals (subst (λ (bs : List ℕ). Spells c bs arrivals) (ap (λ (s : Script). s.bytes) h.0) is))

-- ---- where it is no record

at_file : (file n : List ℕ) → n ≡ file → (if bytes_eq file n then 2 ^ 32 else 1048576) ≡ 2 ^ 32
at_file file n e = ap (λ (b : Bool). if b then 2 ^ 32 else 1048576) (ap (bytes_eq file) e ∙ same_name file)

record_reads : (told : Option Told) (file : List ℕ) (counts later : PerName) → IfSome told (RecordFails file counts later) → IfSome told (ReadsFail counts later)
record_reads None file counts later h = tt
record_reads (Some t) file counts later h = λ n differs. failed_within (2 ^ 32) (t.script n) (h n differs).1

record_whole : (told : Option Told) (cause : Cause) (file : List ℕ) (c : CheckedGraph) (counts later : PerName) → IfSome told (RecordFails file counts later)
    → ((cause ≡ C.ReadFailed file) ⊎ (cause ≡ C.NoMemory)) ⊎ ((later file).reading ≡ (counts file).reading) → IfSome told (WholeReads cause (replay_files file c) counts later)
record_whole None cause file c counts later h at = tt
record_whole (Some t) cause file c counts later h at = λ n free differs.
    (ap (λ (most : ℕ). fails_within most (t.script n)) (at_file file n (h n differs).0) ∙ (h n differs).1, by n (h n differs).0 differs at)
  where
    by : (n : List ℕ) → n ≡ file → (later n).reading ≢ (counts n).reading → ((cause ≡ C.ReadFailed file) ⊎ (cause ≡ C.NoMemory)) ⊎ ((later file).reading ≡ (counts file).reading) → (cause ≡ C.ReadFailed n) ⊎ (cause ≡ C.NoMemory)
    by n e differs (inl (inl is)) = inl (is ∙ ap (λ (m : List ℕ). C.ReadFailed m) (sym e))
    by n e differs (inl (inr is)) = inr is
    by n e differs (inr same) = absurd (differs (ap (λ (m : List ℕ). (later m).reading) e ∙ same ∙ sym (ap (λ (m : List ℕ). (counts m).reading) e)))

first_opened : (file : List ℕ) (c : CheckedGraph) (counts later : PerName) → FirstOpening file counts later → OpeningFailed (replay_files file c).opened file counts later
first_opened file c counts later h = record {
  before = [];
  behind = source_files c.parts;
  order = refl;
  rose = h.rose;
  later = λ n none other. h.others n other;
  others = λ n other. read_same (counts n) (counts n) (later n) (read_itself (counts n)) (h.others n other);
}

first_read : (file : List ℕ) (c : CheckedGraph) (counts later : PerName) → FirstReading file counts later → ReadingFailed (replay_files file c) file counts later
first_read file c counts later h = record { whole = own_name file; rose = h.rose; only = h.only; others = h.others }

-- a name that isn't opened isn't the file
not_file : (file : List ℕ) (names : List (List ℕ)) (n : List ℕ) (b : Bool) → (is_named (file ∷ names) n || b) ≡ false → n ≢ file
not_file file names n b e same = by (bytes_eq file n) (ap (bytes_eq file) same ∙ same_name file) e
  where
    by : (a : Bool) → a ≡ true → ((a || is_named names n) || b) ≡ false → ⊥
    by true is e = cc
    by false is e = cc

-- what the counts show where the file couldn't be opened or read
record_counts : (cause k : Cause) (file : List ℕ) (c : CheckedGraph) (counts later : PerName) → cause ≡ k → (k ≡ C.BadWords → ⊥) → ((n : List ℕ) → n ≢ file → later n ≡ counts n)
    → ((cause ≡ C.ReadFailed file) ⊎ (cause ≡ C.NoMemory)) ⊎ ((later file).reading ≡ (counts file).reading) → DevicesShow k (replay_files file c) counts later → StoppedBy k c.parts counts later
    → CountsShow cause c.parts (replay_files file c) counts later
record_counts cause k file c counts later is words others at device stopped = record {
  words = λ e. words (sym is ∙ e);
  others = λ n free. others n (not_file file (source_files c.parts) n (is_named (replay_files file c).created n) free);
  reading = λ n free differs. elim (same_or_not n file) as (λ _. (cause ≡ C.ReadFailed n) ⊎ (cause ≡ C.NoMemory)) [
    | inl e ↦ by n e differs at
    | inr other ↦ absurd (differs (ap (λ x. x.reading) (others n other)))
  ];
  device = subst (λ (x : Cause). DevicesShow x (replay_files file c) counts later) (sym is) device;
  stopped = subst (λ (x : Cause). StoppedBy x c.parts counts later) (sym is) stopped;
}
  where
    by : (n : List ℕ) → n ≡ file → (later n).reading ≢ (counts n).reading → ((cause ≡ C.ReadFailed file) ⊎ (cause ≡ C.NoMemory)) ⊎ ((later file).reading ≡ (counts file).reading) → (cause ≡ C.ReadFailed n) ⊎ (cause ≡ C.NoMemory)
    by n e differs (inl (inl is)) = inl (is ∙ ap (λ (m : List ℕ). C.ReadFailed m) (sym e))
    by n e differs (inl (inr is)) = inr is
    by n e differs (inr same) = absurd (differs (ap (λ (m : List ℕ). (later m).reading) e ∙ same ∙ sym (ap (λ (m : List ℕ). (counts m).reading) e)))

not_followed : (told now : Option Told) (file : List ℕ) (c : CheckedGraph) (ended : Ended) → WhereTold told now TellsSame
    → is_ended_run ended.cause ≡ false
    → WhereTold told now (λ t u. FollowsBy ended.cause (Spells c (t.script file).bytes ended.arrivals) (WroteNothing c ended t u))
not_followed None now file c ended same e = tt
not_followed (Some t) None file c ended same e = same
not_followed (Some t) (Some u) file c ended same e =
    follows_unwritten ended.cause (Spells c (t.script file).bytes ended.arrivals) (WroteNothing c ended t u) e (inl same.holds)

-- a fact of the record's file, by the cause
spelled_at : (told : Option Told) (cause k : Cause) (file : List ℕ) (c : CheckedGraph) → cause ≡ k
    → ((t : Told) → SpelledUnless k file (IsReplay t c file)) → IfSome told (λ t. SpelledUnless cause file (IsReplay t c file))
spelled_at None cause k file c is h = tt
spelled_at (Some t) cause k file c is h = subst (λ (x : Cause). SpelledUnless x file (IsReplay t c file)) (sym is) (h t)

spelled_all : (cause : Cause) (file : List ℕ) (Is : RequestOutcome → Type 0) → IsSpelled Is → SpelledUnless cause file Is
spelled_all (C.OpenFailed name) file Is h = λ other. h
spelled_all (C.ReadFailed name) file Is h = λ other. h
spelled_all C.Done file Is h = tt
spelled_all (C.Stopped fault) file Is h = tt
spelled_all C.NotBuilt file Is h = tt
spelled_all C.BadWords file Is h = tt
spelled_all (C.Refused refusal) file Is h = tt
spelled_all (C.BadArrivals op) file Is h = tt
spelled_all (C.WriteFailed name) file Is h = tt
spelled_all C.NoMemory file Is h = tt

named_needs : (told : Option Told) (file : List ℕ) (cause : Cause) → IsUnread (file ∷ []) cause → IfSome told (λ t. has_record_fault (t.script file) ≡ true → IsUnread (file ∷ []) cause)
named_needs None file cause h = tt
named_needs (Some t) file cause h = λ fault. h

quiet_needs : (told : Option Told) (file : List ℕ) (cause : Cause) → IfSome told (λ t. has_record_fault (t.script file) ≡ false) → IfSome told (λ t. has_record_fault (t.script file) ≡ true → IsUnread (file ∷ []) cause)
quiet_needs None file cause h = tt
quiet_needs (Some t) file cause h = λ fault. absurd (let bad : true ≡ false = sym fault ∙ h in cc)

read_not_run : (name : List ℕ) → IsRun (C.ReadFailed name) → ⊥
read_not_run name (None, is) = cc
read_not_run name (Some fault, is) = cc

memory_not_run : IsRun C.NoMemory → ⊥
memory_not_run (None, is) = cc
memory_not_run (Some fault, is) = cc

tells_found : (text : Result (List ℕ) NoMemory) (cause found : Cause) → cause ≡ found → IfOk text (λ l. l ≡ status_text None found) → IfOk text (λ l. l ≡ status_text None cause)
tells_found text cause found is h = subst (λ (k : Cause). IfOk text (λ l. l ≡ status_text None k)) (sym is) h

module _ (told now : Option Told) (file : List ℕ) (c : CheckedGraph) (answer : Answer) (counts later : PerName) (before after : ℕ) (given : before < 2 ^ 64 - 257 → after ≡ before) (same : WhereTold told now TellsSame)
    (reads : IfSome told (RecordFails file counts later)) (none : NothingRan answer.ended) where
  abbrev Comes : RequestOutcome → Type 0
  Comes = ReplayComes c file answer.ended.arrivals told counts later

  -- memory ran out
  pub wanting_replay : answer.ended.cause ≡ C.NoMemory → ((n : List ℕ) → n ≢ file → later n ≡ counts n) → IfOk answer.text (λ l. l ≡ status_text None C.NoMemory) → Replays file c answer told now counts later before after
  wanting_replay is others text = record {
    files = same_files told now (λ t. IsReplay t c file) (replay_files file c) C.NoMemory answer.ended counts later is same (record_reads told file counts later reads)
        (record_whole told C.NoMemory file c counts later reads (inl (inr refl))) (λ t u e held r comes. begun_same r t u held) (λ t u held. tt);
    counted = record_counts answer.ended.cause C.NoMemory file c counts later is (λ e. cc) others (inl (inr is)) tt tt;
    text = or_text false C.NoMemory answer.ended.cause Comes answer.text (inl is) memory_not_run refl (tells_found answer.text answer.ended.cause C.NoMemory is text);
    reason = subst (λ (k : Cause). ReasonOf k c) (sym is) tt;
    ran = or_ran C.NoMemory answer.ended.cause (λ x. x ≡ c) ⊥ answer.ended counts later (inl is) tt none;
    needed = named_needs told file answer.ended.cause (inl is);
    followed = not_followed told now file c answer.ended same (ends_at answer.ended.cause C.NoMemory is refl);
    in_order = spelled_at told answer.ended.cause C.NoMemory file c is (λ t. tt);
    lent = given;
  }

  -- the file couldn't be opened
  pub unopened_replay : (found : Cause) → answer.ended.cause ≡ found → IsOr (C.OpenFailed file) found → FirstOpening file counts later → IfOk answer.text (λ l. l ≡ status_text None found) → Replays file c answer told now counts later before after
  unopened_replay found is (inr wanting) counted text = wanting_replay (is ∙ wanting) counted.others (subst (λ (k : Cause). IfOk answer.text (λ l. l ≡ status_text None k)) wanting text)
  unopened_replay found is (inl e) counted text = record {
    files = same_files told now (λ t. IsReplay t c file) (replay_files file c) (C.OpenFailed file) answer.ended counts later (is ∙ e) same (record_reads told file counts later reads)
        (record_whole told (C.OpenFailed file) file c counts later reads (inr counted.reading)) (λ t u e held r comes. begun_same r t u held) (λ t u held. inl (first_opened file c counts later counted, held));
    counted = record_counts answer.ended.cause (C.OpenFailed file) file c counts later (is ∙ e) (λ e. cc) counted.others (inr counted.reading) (inl (first_opened file c counts later counted)) tt;
    text = or_text false (C.OpenFailed file) answer.ended.cause Comes answer.text (inl (is ∙ e)) (open_not_run file) refl (tells_found answer.text answer.ended.cause found is text);
    reason = subst (λ (k : Cause). ReasonOf k c) (sym (is ∙ e)) tt;
    ran = or_ran (C.OpenFailed file) answer.ended.cause (λ x. x ≡ c) ⊥ answer.ended counts later (inl (is ∙ e)) counted.rose none;
    needed = named_needs told file answer.ended.cause (inr (file, own_name file, inl (is ∙ e)));
    followed = not_followed told now file c answer.ended same (ends_at answer.ended.cause (C.OpenFailed file) (is ∙ e) refl);
    in_order = spelled_at told answer.ended.cause (C.OpenFailed file) file c (is ∙ e) (λ t other. absurd (other refl));
    lent = given;
  }

  -- it couldn't be read
  pub unread_replay : (found : Cause) → answer.ended.cause ≡ found → IsOr (C.ReadFailed file) found → FirstReading file counts later → IfOk answer.text (λ l. l ≡ status_text None found) → Replays file c answer told now counts later before after
  unread_replay found is (inr wanting) counted text = wanting_replay (is ∙ wanting) counted.others (subst (λ (k : Cause). IfOk answer.text (λ l. l ≡ status_text None k)) wanting text)
  unread_replay found is (inl e) counted text = record {
    files = same_files told now (λ t. IsReplay t c file) (replay_files file c) (C.ReadFailed file) answer.ended counts later (is ∙ e) same (record_reads told file counts later reads)
        (record_whole told (C.ReadFailed file) file c counts later reads (inl (inl refl))) (λ t u e held. held) (λ t u held. first_read file c counts later counted);
    counted = record_counts answer.ended.cause (C.ReadFailed file) file c counts later (is ∙ e) (λ e. cc) counted.others (inl (inl (is ∙ e))) (first_read file c counts later counted) tt;
    text = or_text false (C.ReadFailed file) answer.ended.cause Comes answer.text (inl (is ∙ e)) (read_not_run file) refl (tells_found answer.text answer.ended.cause found is text);
    reason = subst (λ (k : Cause). ReasonOf k c) (sym (is ∙ e)) tt;
    ran = or_ran (C.ReadFailed file) answer.ended.cause (λ x. x ≡ c) ⊥ answer.ended counts later (inl (is ∙ e)) tt none;
    needed = named_needs told file answer.ended.cause (inr (file, own_name file, inr (is ∙ e)));
    followed = not_followed told now file c answer.ended same (ends_at answer.ended.cause (C.ReadFailed file) (is ∙ e) refl);
    in_order = spelled_at told answer.ended.cause (C.ReadFailed file) file c (is ∙ e) (λ t other. absurd (other refl));
    lent = given;
  }

-- it spells no record
misspelt_outcome : (told : Option Told) (file : List ℕ) (c : CheckedGraph) → IfSome told (λ t. RecordAt D.Bad (t.script file) c) → IfSome told (λ t. IsReplay t c file (BadArrivals c None))
misspelt_outcome None file c h = tt
misspelt_outcome (Some t) file c h = misspelt h.0 h.1

misspelt_quiet : (told : Option Told) (file : List ℕ) (c : CheckedGraph) → IfSome told (λ t. RecordAt D.Bad (t.script file) c) → IfSome told (λ t. has_record_fault (t.script file) ≡ false)
misspelt_quiet None file c h = tt
misspelt_quiet (Some t) file c h = h.0

misspelt_comes : (told : Option Told) (file : List ℕ) (c : CheckedGraph) (arrivals : Arrivals) (counts later : PerName) → IfSome told (λ t. RecordAt D.Bad (t.script file) c) → ReplayComes c file arrivals told counts later (BadArrivals c None)
misspelt_comes told file c arrivals counts later h = (inr (None, tt, refl), misspelt_outcome told file c h)

misspelt_text : (told : Option Told) (file : List ℕ) (c : CheckedGraph) (ended : Ended) (text : Result (List ℕ) NoMemory) (counts later : PerName) → IfSome told (λ t. RecordAt D.Bad (t.script file) c) → ended.cause ≡ C.BadArrivals None
    → IfOk text (λ l. l ≡ status_text (Some c) (C.BadArrivals None)) → IfOk text (IsText false ended.cause (ReplayComes c file ended.arrivals told counts later))
misspelt_text told file c ended (Err x) counts later h is e = tt
misspelt_text told file c ended (Ok text) counts later h is e =
    subst (λ (k : Cause). IsText false k (ReplayComes c file ended.arrivals told counts later) text) (sym is) (BadArrivals c None, misspelt_comes told file c ended.arrivals counts later h, (refl, e))

pub misspelt_replay : (told now : Option Told) (file : List ℕ) (c : CheckedGraph) (answer : Answer) (counts later : PerName) (before after : ℕ) → (before < 2 ^ 64 - 257 → after ≡ before) → WhereTold told now TellsSame
    → IfSome told (RecordFails file counts later) → NothingRan answer.ended → answer.ended.cause ≡ C.BadArrivals None → NoCountChanged counts later → IfSome told (λ t. RecordAt D.Bad (t.script file) c)
    → IfOk answer.text (λ l. l ≡ status_text (Some c) (C.BadArrivals None)) → Replays file c answer told now counts later before after
misspelt_replay told now file c answer counts later before after given same reads none is quiet at text = record {
  files = same_files told now (λ t. IsReplay t c file) (replay_files file c) (C.BadArrivals None) answer.ended counts later is same (record_reads told file counts later reads)
      (record_whole told (C.BadArrivals None) file c counts later reads (inr (ap (λ x. x.reading) (quiet file))))
      (λ t u e held. ((c, subst (λ (o : Option Told). IfSome o (λ x. IsReplay x c file (BadArrivals c None))) e (misspelt_outcome told file c at)), held)) (λ t u held. quiet_only (source_files c.parts) counts later quiet);
  counted = record_counts answer.ended.cause (C.BadArrivals None) file c counts later is (λ e. cc) (λ n other. quiet n) (inr (ap (λ x. x.reading) (quiet file))) (quiet_only (source_files c.parts) counts later quiet) tt;
  text = misspelt_text told file c answer.ended answer.text counts later at is text;
  reason = subst (λ (k : Cause). ReasonOf k c) (sym is) tt;
  ran = bad_ran answer.ended.cause None (λ x. x ≡ c) ⊥ answer.ended counts later is none;
  needed = quiet_needs told file answer.ended.cause (misspelt_quiet told file c at);
  followed = not_followed told now file c answer.ended same (ends_at answer.ended.cause (C.BadArrivals None) is refl);
  in_order = spelled_at told answer.ended.cause (C.BadArrivals None) file c is (λ t. tt);
  lent = given;
}

-- ---- its run

-- the result of a run under the record of the file is that of the replay
to_replay : (c : CheckedGraph) (file : List ℕ) (t : Told) (order : Order) (arrivals : Arrivals) (r : RequestOutcome) → RecordAt (D.Order order) (t.script file) c → IsRunOf c order arrivals t r → IsReplay t c file r
to_replay c file t O.InTurn arrivals r at is = absurd at
to_replay c file t (O.Recorded given) arrivals r (quiet, has) is = spelled given r quiet has is

from_replay : OneRecordLaw → (c : CheckedGraph) (file : List ℕ) (t : Told) (order : Order) (arrivals : Arrivals) (r : RequestOutcome) → Keeps c → RecordAt (D.Order order) (t.script file) c → IsReplay t c file r → IsRunOf c order arrivals t r
from_replay law c file t O.InTurn arrivals r keeps at is = absurd at
from_replay law c file t (O.Recorded given) arrivals r keeps (quiet, has) (unread fault) = absurd (let bad : true ≡ false = sym fault ∙ quiet in cc)
from_replay law c file t (O.Recorded given) arrivals r keeps (quiet, has) (misspelt d none) = absurd (none given has)
from_replay law c file t (O.Recorded given) arrivals r keeps (quiet, has) (spelled a _ d is under) = subst (λ (x : Arrivals). IsUnder t c x r) (law c (t.script file).bytes a given keeps is has) under

replay_files_by : OneRecordLaw → (told now : Option Told) (file : List ℕ) (c : CheckedGraph) (order : Order) (ended : Ended) (counts later : PerName) → Keeps c → IfSome told (λ t. RecordAt (D.Order order) (t.script file) c)
    → WhereTold told now (λ t u. FilesShow (IsRunOf c order ended.arrivals t) (run_files None c) ended counts later t u) → WhereTold told now (λ t u. FilesShow (IsReplay t c file) (run_files None c) ended counts later t u)
replay_files_by law None now file c order ended counts later keeps at f = tt
replay_files_by law (Some t) None file c order ended counts later keeps at f = absurd f
replay_files_by law (Some t) (Some u) file c order ended counts later keeps at f = record {
  means = means_map ended.cause (IsRunOf c order ended.arrivals t) (IsReplay t c file) ended t u (λ r is. to_replay c file t order ended.arrivals r at is) (λ r is. from_replay law c file t order ended.arrivals r keeps at is) f.means;
  others = f.others;
  scripts = f.scripts;
  device = devices_map ended.cause (run_files None c) counts later ⊥ (IsRunOf c order ended.arrivals t) (IsReplay t c file) ended t u (λ r is. to_replay c file t order ended.arrivals r at is) f.device;
  whole = f.whole;
  reads = f.reads;
}

some_replay_of : (order : Order) (c : CheckedGraph) (arrivals : Arrivals) (counts now : PerName) (r : RequestOutcome) → IsSomeIn order c arrivals counts now r → IsSomeReplay c arrivals counts now r
some_replay_of O.InTurn c arrivals counts now r h = inl h
some_replay_of (O.Recorded given) c arrivals counts now r h = h

replay_comes : (told : Option Told) (file : List ℕ) (c : CheckedGraph) (order : Order) (arrivals : Arrivals) (counts now : PerName) (r : RequestOutcome) → IfSome told (λ t. RecordAt (D.Order order) (t.script file) c)
    → RunComes c order arrivals told counts now r → ReplayComes c file arrivals told counts now r
replay_comes None file c order arrivals counts now r at h = (some_replay_of order c arrivals counts now r h.0, tt)
replay_comes (Some t) file c order arrivals counts now r at h = (some_replay_of order c arrivals counts now r h.0, to_replay c file t order arrivals r at h.1)

replay_text : (told : Option Told) (file : List ℕ) (c : CheckedGraph) (order : Order) (ended : Ended) (text : Result (List ℕ) NoMemory) (counts now : PerName) → IfSome told (λ t. RecordAt (D.Order order) (t.script file) c)
    → IfOk text (IsText false ended.cause (RunComes c order ended.arrivals told counts now)) → IfOk text (IsText false ended.cause (ReplayComes c file ended.arrivals told counts now))
replay_text told file c order ended (Err x) counts now at h = tt
replay_text told file c order ended (Ok text) counts now at h =
    text_map false ended.cause (RunComes c order ended.arrivals told counts now) (ReplayComes c file ended.arrivals told counts now) text (λ r ends is. replay_comes told file c order ended.arrivals counts now r at is) h

order_quiet : (told : Option Told) (file : List ℕ) (c : CheckedGraph) (order : Order) → IfSome told (λ t. RecordAt (D.Order order) (t.script file) c) → IfSome told (λ t. has_record_fault (t.script file) ≡ false)
order_quiet None file c order at = tt
order_quiet (Some t) file c O.InTurn at = absurd at
order_quiet (Some t) file c (O.Recorded given) at = at.0

-- another record, which is this one
follows_map : (k : Cause) (Given Spelled Unwritten : Type 0) → (Given → Spelled) → FollowsBy k Given Unwritten
    → FollowsBy k Spelled Unwritten
follows_map C.Done Given Spelled Unwritten to h = to h
follows_map (C.Stopped fault) Given Spelled Unwritten to h = to h
follows_map (C.WriteFailed name) Given Spelled Unwritten to h = to h
follows_map C.NoMemory Given Spelled Unwritten to (inl h) = inl (to h)
follows_map C.NoMemory Given Spelled Unwritten to (inr h) = inr h
follows_map C.NotBuilt Given Spelled Unwritten to h = h
follows_map C.BadWords Given Spelled Unwritten to h = h
follows_map (C.Refused refusal) Given Spelled Unwritten to h = h
follows_map (C.OpenFailed name) Given Spelled Unwritten to h = h
follows_map (C.ReadFailed name) Given Spelled Unwritten to h = h
follows_map (C.BadArrivals op) Given Spelled Unwritten to h = h

replay_follows : (told now : Option Told) (file : List ℕ) (c : CheckedGraph) (order : Order) (ended : Ended)
    → IfSome told (λ t. RecordAt (D.Order order) (t.script file) c) → WhereTold told now (FollowsOrder order c ended)
    → WhereTold told now (λ t u. FollowsBy ended.cause (Spells c (t.script file).bytes ended.arrivals) (WroteNothing c ended t u))
replay_follows None now file c order ended at h = tt
replay_follows (Some t) None file c order ended at h = absurd h
replay_follows (Some t) (Some u) file c O.InTurn ended at h = absurd at
replay_follows (Some t) (Some u) file c (O.Recorded given) ended at h =
    follows_map ended.cause (ended.arrivals ≡ given) (Spells c (t.script file).bytes ended.arrivals) (WroteNothing c ended t u)
    (λ same. subst (Spells c (t.script file).bytes) (sym same) at.1) h

replay_order : (told : Option Told) (file : List ℕ) (c : CheckedGraph) (order : Order) (cause : Cause)
    → IfSome told (λ t. RecordAt (D.Order order) (t.script file) c) → IfSome told (λ t. SpelledUnless cause file (IsReplay t c file))
replay_order None file c order cause at = tt
replay_order (Some t) file c O.InTurn cause at = absurd at
replay_order (Some t) file c (O.Recorded given) cause at =
    spelled_all cause file (IsReplay t c file) (λ x is. spelled_replay t c x file given (BadArrivals x None) at.1 is refl)

least : (file n : List ℕ) → 0 ≤ (if bytes_eq file n then 2 ^ 32 else 1048576)
least file n = omega arith

-- what is known of a run at the shelf before it, and by the counts before it
record RunKnown (c : CheckedGraph) (order : Order) (answer : Answer) (told now : Option Told) (counts later : PerName) : Type 0 where
  pub files : WhereTold told now (λ t u. FilesShow (IsRunOf c order answer.ended.arrivals t) (run_files None c) answer.ended counts later t u)
  pub counted : CountsShow answer.ended.cause c.parts (run_files None c) counts later
  pub text : IfOk answer.text (IsText false answer.ended.cause (RunComes c order answer.ended.arrivals told counts later))
  pub reason : ReasonOf answer.ended.cause c
  pub ran : RanGraph answer.ended.cause c answer.ended counts later
  pub followed : WhereTold told now (FollowsOrder order c answer.ended)

replay_known : OneRecordLaw → (told now : Option Told) (file : List ℕ) (c : CheckedGraph) (order : Order) (answer : Answer) (counts later : PerName) (before after : ℕ) → Keeps c → IfSome told (λ t. RecordAt (D.Order order) (t.script file) c)
    → (before < 2 ^ 64 - 257 → after ≡ before) → RunKnown c order answer told now counts later → Replays file c answer told now counts later before after
replay_known law told now file c order answer counts later before after keeps at given h = record {
  files = files_wider file (file ∷ []) (λ n. if bytes_eq file n then 2 ^ 32 else 1048576) (run_files None c) (none_named file) (least file) told now (λ t. IsReplay t c file) answer.ended counts later
      (replay_files_by law told now file c order answer.ended counts later keeps at h.files);
  counted = counts_wider file (file ∷ []) (λ n. if bytes_eq file n then 2 ^ 32 else 1048576) (run_files None c) (none_named file) (least file) answer.ended.cause c.parts counts later h.counted;
  text = replay_text told file c order answer.ended answer.text counts later at h.text;
  reason = h.reason;
  ran = h.ran;
  needed = quiet_needs told file answer.ended.cause (order_quiet told file c order at);
  followed = replay_follows told now file c order answer.ended at h.followed;
  in_order = replay_order told file c order answer.ended.cause at;
  lent = given;
}

text_untold : (mid : Option Told) (c : CheckedGraph) (order : Order) (cause : Cause) (arrivals : Arrivals) (text : Result (List ℕ) NoMemory) (counts later : PerName) → IfOk text (IsText false cause (RunComes c order arrivals mid counts later))
    → IfOk text (IsText false cause (RunComes c order arrivals None counts later))
text_untold mid c order cause arrivals (Err x) counts later h = tt
text_untold mid c order cause arrivals (Ok text) counts later h = text_map false cause (RunComes c order arrivals mid counts later) (RunComes c order arrivals None counts later) text (λ r ends is. (is.0, tt)) h

known_at : (told mid now : Option Told) (c : CheckedGraph) (order : Order) (answer : Answer) (counts later : PerName) → WhereTold told mid TellsSame → RunKnown c order answer mid now counts later → RunKnown c order answer told now counts later
known_at None mid now c order answer counts later same h =
    record { files = tt; counted = h.counted; text = text_untold mid c order answer.ended.cause answer.ended.arrivals answer.text counts later h.text; reason = h.reason; ran = h.ran; followed = tt }
known_at (Some t) None now c order answer counts later same h = absurd same
known_at (Some t) (Some s) now c order answer counts later same h = subst (λ (x : Told). RunKnown c order answer (Some x) now counts later) (same_told t s same) h

pub ran_replay : OneRecordLaw → (told mid now : Option Told) (file : List ℕ) (c : CheckedGraph) (order : Order) (answer : Answer) (counts between later : PerName) (before after : ℕ) → Keeps c
    → WhereTold told mid TellsSame → NoCountChanged counts between → IfSome told (λ t. RecordAt (D.Order order) (t.script file) c) → (before < 2 ^ 64 - 257 → after ≡ before)
    → WhereTold mid now (λ t u. FilesShow (IsRunOf c order answer.ended.arrivals t) (run_files None c) answer.ended between later t u) → CountsShow answer.ended.cause c.parts (run_files None c) between later
    → IfOk answer.text (IsText false answer.ended.cause (RunComes c order answer.ended.arrivals mid between later)) → ReasonOf answer.ended.cause c → RanGraph answer.ended.cause c answer.ended between later
    → WhereTold mid now (FollowsOrder order c answer.ended) → Replays file c answer told now counts later before after
ran_replay law told mid now file c order answer counts between later before after keeps same quiet at given files counted text reason ran followed =
    replay_known law told now file c order answer counts later before after keeps at given
    (subst (λ (k : PerName). RunKnown c order answer told now k later) (same_counts counts between quiet)
    (known_at told mid now c order answer between later same (record { files = files; counted = counted; text = text; reason = reason; ran = ran; followed = followed })))
