-- What holds after a run, from its streams and what was written of them.
use Rattle.std.proofs.Common.{◌≡◌, ◌≢◌, ◌∙◌, ◌<◌, ◌≤◌, ◌+◌, ◌-◌, ◌^◌, ℕ, zero, suc, arith, slice_get, slice_index_or, Bool, true, false, List, [], ◌∷◌, ◌++◌, length, take, drop, refl, sym, ap, subst, inl, inr, Option, Some, None, Result, Ok, Err}
use Rattle.std.specs.Prelude.{IfSome, IfOk, IsSomeAnd, option_and_then, ◌⊎◌}
use Rattle.std.specs.Str.{bytes_eq}
use Rattle.std.proofs.lemmas.Bool.{or_parts}
use Rattle.std.proofs.lemmas.List.{get_or-map, get_or-take, get_or_append_left, length-append, length-map, length-take, take_all}
use Rattle.std.proofs.lemmas.List.Folds.{list_any-append, list_any_at}
use Rattle.std.proofs.lemmas.Option.{get_or_from_slice_get, slice_get_within}
use Rattle.spl_value.specs.declared.item.Fault.{Fault}
use Rattle.spl_value.specs.declared.item.Item.{Item}
use Rattle.spl_value.specs.declared.memory.NoMemory.{NoMemory}
use Rattle.language_model.specs.declared.checked.CheckedClauses.{CheckedClauses}
use Rattle.language_model.specs.declared.checked.CheckedClauses.TheVariants as A
use Rattle.feed_pour.specs.Counts.{FaultCounts, PerName, Rose}
use Rattle.feed_pour.specs.Contents.{Told, WhereTold, TellsSame}
use Rattle.stream_model.specs.declared.record.Arrivals.{Arrivals}
use Rattle.stream_model.specs.declared.record.Counts.{Counts as RunCounts}
use Rattle.stream_model.specs.declared.record.SinkCount.{SinkCount}
use Rattle.language_model.specs.CheckedGraph.{CheckedGraph}
use Rattle.stream_model.specs.Ends.{run_fault}
use Rattle.language_model.specs.Keeping.{Keeps}
use Rattle.stream_model.specs.Arrivals.{entries_in}
use Rattle.stream_model.specs.CheckedMeaning.{graph_of}
use Rattle.stream_model.specs.Meaning.{Graph, Meaning, meaning}
use Rattle.run_report.specs.declared.cause.Cause.{Cause}
use Rattle.run_report.specs.declared.cause.Cause.TheVariants as C
use Rattle.run_report.specs.Texts.{status_text}
use Rattle.language_model.specs.Files.{source_file, source_files, sink_files, OwnFiles}
use Rattle.language_model.specs.Names.{is_named}
use Rattle.file_adapters.specs.declared.sinks.Sink.{Sink}
use Rattle.file_adapters.specs.declared.sinks.Sunk.{Sunk}
use Rattle.file_adapters.specs.declared.sinks.Sunk.TheVariants as S
use Rattle.file_adapters.specs.Sinks as Y
use Rattle.file_adapters.specs.Sinks.{AllHold, AreDistinct, EmptyBefore, FilesCounted, FilesWritten, HasOwnFile, LastHolds, OtherNamesStay, SinksHold, SinksCount, TextHolds, names_of, sink_names}
use Rattle.file_adapters.specs.declared.text.TextFile.{TextFile}
use Rattle.list_engine.specs.declared.run.Run.{Run}
use Rattle.list_engine.specs.RunLaws.{SinkLaw}
use Rattle.source_rows.specs.Counting.{OnlyOf, OnlyReads, OpeningFailed}
use Rattle.source_rows.specs.Sources.{ReadsFail, rows_told}
use Rattle.stream_model.specs.Runs.{rows_at, IsRecordOf, counts_of}
use Rattle.spl_driver.specs.Files.{FilesOf}
use Rattle.spl_driver.specs.Outcome.{RequestOutcome, NoRequest, Unreadable, Refused, NotBuilt, Reports, BadArrivals, Runs, meant, run_outcome}
use Rattle.spl_driver.specs.Answer.{NothingTaken, uncounted, EachSink, HoldsText, HoldsPrefix, HoldsUnlessFailed, SameFiles, CarriedOut, Begun, CauseMeans, CreatingFailed, DevicesMean, DevicesShow, RecordHolds, of_sink, of_record, of_telling, WritingFailed, WroteOthers, StoppedBy, WholeReads, cause_of, IsOr, IsRun}
use Rattle.arrival_format.specs.ArrivalTexts.{arrivals_text}
use Rattle.spl_driver.specs.Texts.{run_text}
use Rattle.spl_driver.specs.steps.Telling.{IsText}
use Rattle.spl_driver.specs.Shown.{Ran, RanTo, RanWith}
use Rattle.spl_driver.specs.steps.Steps.{IsUntaken, RanFor, RanGraph, ReasonOf, ran, IsRunAs, RunComesAs, CountsShow, FilesShow, EndsAs, EndsBehind, EndsRun, RecordOf, RecordedBy, TellsBehind, TellsRun, IsNamedBy, created_by, last_of, run_files, sinks_of, sinks_from, counts_from, is_bad_arrivals, is_ended_run}
use Rattle.spl_driver.proofs.Causes.{SourceUnread}
use Rattle.spl_driver.specs.declared.answer.Answer.{Answer}
use Rattle.spl_driver.specs.declared.ended.Ended.{Ended}
use Rattle.spl_driver.proofs.Showing.{untaken_so_far, whole_so_far}
use Rattle.spl_driver.proofs.SoFar.{untaken_record}
use Rattle.spl_driver.proofs.SinkLemmas.{empty_prefixes, texts, prefixes, wrote_others, same_prefixes, counts_are, files_from, distinct, names_are, own_file}
use Rattle.spl_driver.proofs.Standing.{BegunSame, record_kept}
use Rattle.spl_value.proofs.Bools.{or_first}
use Rattle.spl_value.proofs.Lists.{append_cases, same_name}
use Rattle.source_rows.proofs.Counting.{read_same, parts_free}
use Rattle.spl_driver.proofs.Fetching.{same_told}

-- files that stay hold prefixes of any text
pub begun_same : BegunSame
begun_same NoRequest t u same = same
begun_same (Unreadable program) t u same = same
begun_same (Refused refusal) t u same = same
begun_same NotBuilt t u same = same
begun_same (Reports report c) t u same = same
begun_same (BadArrivals c op) t u same = same
begun_same (Runs c g m) t u same = same_prefixes m t u g.ops same

-- ---- where no sink was created

-- all files are as they were
pub same_files : (told now : Option Told) (Is : Told → RequestOutcome → Type 0) (files : FilesOf) (cause : Cause) (ended : Ended) (counts later : PerName) → ended.cause ≡ cause
    → WhereTold told now TellsSame → IfSome told (ReadsFail counts later) → IfSome told (WholeReads cause files counts later)
    → ((t u : Told) → told ≡ Some t → SameFiles t u → CauseMeans cause (Is t) ended t u)
    → ((t u : Told) → SameFiles t u → DevicesMean cause files counts later ⊥ (Is t) ended t u)
    → WhereTold told now (λ t u. FilesShow (Is t) files ended counts later t u)
same_files None now Is files cause ended counts later is same reads whole stands shows = tt
same_files (Some t) None Is files cause ended counts later is same reads whole stands shows = same
same_files (Some t) (Some u) Is files cause ended counts later is same reads whole stands shows = record {
  means = subst (λ (k : Cause). CauseMeans k (Is t) ended t u) (sym is) (stands t u refl same.holds);
  others = λ n named. same.holds n;
  scripts = λ n named. same.script n;
  device = subst (λ (k : Cause). DevicesMean k files counts later ⊥ (Is t) ended t u) (sym is) (shows t u same.holds);
  whole = subst (λ (k : Cause). WholeReads k files counts later t) (sym is) whole;
  reads = reads;
}

-- nothing was read as a whole
pub only_rows : (told : Option Told) (cause : Cause) (files : FilesOf) (counts later : PerName) → ((n : List ℕ) → is_named files.rows n ≡ false → (later n).reading ≡ (counts n).reading) → IfSome told (WholeReads cause files counts later)
only_rows None cause files counts later same = tt
only_rows (Some t) cause files counts later same = λ n free differs. absurd (differs (same n free))

pub wanting_files : BegunSame → (told now : Option Told) (Is : Told → RequestOutcome → Type 0) (files : FilesOf) (ended : Ended) (counts later : PerName) → ended.cause ≡ C.NoMemory
    → WhereTold told now TellsSame → IfSome told (ReadsFail counts later) → OnlyOf files.rows counts later
    → WhereTold told now (λ t u. FilesShow (Is t) files ended counts later t u)
wanting_files begun told now Is files ended counts later is same reads only =
    same_files told now Is files C.NoMemory ended counts later is same reads (only_rows told C.NoMemory files counts later (λ n free. ap (λ k. k.reading) (only n free))) (λ t u e held r comes. begun r t u held) (λ t u held. tt)

not_named : (before behind : List (List ℕ)) (name n : List ℕ) → is_named (before ++ name ∷ behind) n ≡ false → (is_named before n ≡ false) × (n ≢ name)
not_named before behind name n free =
    let p = or_parts (is_named before n) (is_named (name ∷ behind) n) (sym (list_any-append (λ (m : List ℕ). bytes_eq m n) before (name ∷ behind)) ∙ free) in
    let q = or_parts (bytes_eq name n) (is_named behind n) p.1 in
    (p.0, λ e. let same : bytes_eq name n ≡ true = ap (λ (m : List ℕ). bytes_eq name m) e ∙ same_name name in let bad : true ≡ false = sym same ∙ q.0 in cc)

-- where a file couldn't be opened, nothing was counted of one that isn't opened
unopened_others : (files : FilesOf) (name : List ℕ) (old new : PerName) → OpeningFailed files.opened name old new → (n : List ℕ) → is_named files.opened n ≡ false → new n ≡ old n
unopened_others files name old new counted n free =
    let p = not_named counted.before counted.behind name n (ap (λ (ns : List (List ℕ)). is_named ns n) (sym counted.order) ∙ free) in
    counted.later n p.0 p.1

unopened_rows : (files : FilesOf) (name : List ℕ) (old new : PerName) → OpeningFailed files.opened name old new → files.opened ≡ files.rows → (n : List ℕ) → is_named files.rows n ≡ false → (new n).reading ≡ (old n).reading
unopened_rows files name old new counted opened n free =
    ap (λ k. k.reading) (unopened_others files name old new counted n (ap (λ (ns : List (List ℕ)). is_named ns n) opened ∙ free))

-- a source couldn't be opened
pub unopened_files : BegunSame → (told now : Option Told) (Is : Told → RequestOutcome → Type 0) (files : FilesOf) (name : List ℕ) (ended : Ended) (counts later : PerName) → ended.cause ≡ C.OpenFailed name
    → WhereTold told now TellsSame → IfSome told (ReadsFail counts later) → OpeningFailed files.opened name counts later → files.opened ≡ files.rows
    → WhereTold told now (λ t u. FilesShow (Is t) files ended counts later t u)
unopened_files begun told now Is files name ended counts later is same reads counted opened =
    same_files told now Is files (C.OpenFailed name) ended counts later is same reads (only_rows told (C.OpenFailed name) files counts later (unopened_rows files name counts later counted opened))
    (λ t u e held r comes. begun r t u held) (λ t u held. inl (counted, held))

-- a record isn't whole
pub partial_files : (told now : Option Told) (c : CheckedGraph) (Is : Told → RequestOutcome → Type 0) (op : Option ℕ) (files : FilesOf) (ended : Ended) (counts later : PerName) → ended.cause ≡ C.BadArrivals op
    → WhereTold told now TellsSame → IfSome told (ReadsFail counts later) → OnlyReads files.rows counts later → IfSome told (λ t. Is t (BadArrivals c op))
    → WhereTold told now (λ t u. FilesShow (Is t) files ended counts later t u)
partial_files told now c Is op files ended counts later is same reads only comes =
    same_files told now Is files (C.BadArrivals op) ended counts later is same reads (only_rows told (C.BadArrivals op) files counts later (λ n free. ap (λ k. k.reading) (only.others n free)))
    (λ t u e held. ((c, subst (λ (o : Option Told). IfSome o (λ x. Is x (BadArrivals c op))) e comes), held)) (λ t u held. only)

pub partial_counts : (cause : Cause) (op : Option ℕ) (files : FilesOf) (old new : PerName) → cause ≡ C.BadArrivals op → OnlyReads files.rows old new → files.opened ≡ files.rows → (parts : List CheckedClauses) → CountsShow cause parts files old new
partial_counts cause op files old new is only opened parts = record {
  words = λ e. absurd (let h : C.BadArrivals op ≡ C.BadWords = sym is ∙ e in cc);
  others = λ n named. only.others n (ap (λ (ns : List (List ℕ)). is_named ns n) (sym opened) ∙ or_first (is_named files.opened n) (is_named files.created n) named);
  reading = λ n free differs. absurd (differs (ap (λ k. k.reading) (only.others n free)));
  device = subst (λ (k : Cause). DevicesShow k files old new) (sym is) only;
  stopped = subst (λ (k : Cause). StoppedBy k parts old new) (sym is) tt;
}

pub wanting_counts : (cause : Cause) (files : FilesOf) (old new : PerName) → cause ≡ C.NoMemory → OnlyOf files.rows old new → files.opened ≡ files.rows → (parts : List CheckedClauses) → CountsShow cause parts files old new
wanting_counts cause files old new is counted opened parts = record {
  words = λ e. absurd (let h : C.NoMemory ≡ C.BadWords = sym is ∙ e in cc);
  others = λ n named. counted n (ap (λ (ns : List (List ℕ)). is_named ns n) (sym opened) ∙ or_first (is_named files.opened n) (is_named files.created n) named);
  reading = λ n named differs. absurd (differs (ap (λ k. k.reading) (counted n named)));
  device = subst (λ (k : Cause). DevicesShow k files old new) (sym is) tt;
  stopped = subst (λ (k : Cause). StoppedBy k parts old new) (sym is) tt;
}

pub unopened_counts : (cause : Cause) (files : FilesOf) (name : List ℕ) (old new : PerName) → cause ≡ C.OpenFailed name → OpeningFailed files.opened name old new → files.opened ≡ files.rows → (parts : List CheckedClauses) → CountsShow cause parts files old new
unopened_counts cause files name old new is counted opened parts = record {
  words = λ e. absurd (let h : C.OpenFailed name ≡ C.BadWords = sym is ∙ e in cc);
  others = λ n named. unopened_others files name old new counted n (or_first (is_named files.opened n) (is_named files.created n) named);
  reading = λ n free differs. absurd (differs (unopened_rows files name old new counted opened n free));
  device = subst (λ (k : Cause). DevicesShow k files old new) (sym is) (inl counted);
  stopped = subst (λ (k : Cause). StoppedBy k parts old new) (sym is) tt;
}

-- ---- after the sinks

meaning_same : (g : Graph) (rows : List (List Item)) (t : Told) (run : Run) (arrivals : Arrivals) → arrivals ≡ run.arrivals → ((n : ℕ) → rows_at rows n ≡ rows_told g t n)
    → ran g rows run ≡ meant g t arrivals.lists
meaning_same g rows t run arrivals is same = λ i. meaning g (λ n. same n i) (entries_in (sym is i).lists)

runs_as : (fault : Option Fault) (Is : RequestOutcome → Type 0) (c : CheckedGraph) (g : Graph) (m : Meaning) (ended : Ended) (t u : Told) → Is (Runs c g m) → run_fault g m ≡ fault → CarriedOut g m ended u
    → CauseMeans (cause_of fault) Is ended t u
runs_as None Is c g m ended t u is e h = inr (c, g, m, is, e, h)
runs_as (Some fault) Is c g m ended t u is e h = (c, g, m, is, e, h)

-- the result of a run after its sinks, and what holds then
pub record Sunken (law : SinkLaw) (r : Sunk) (written : Option (List ℕ)) (c : CheckedGraph) (run : Run) (ended : Ended) (before mid counts now : PerName) (t u : Told) : Type 0 where
  pub keeps : Keeps c
  pub made : RanFor c run (Some t) before mid
  pub holds : SinksHold r (sinks_of c) (created_by written c) run.sinks counts now t u
  pub count : SinksCount r (sinks_of c) run.sinks

module _ (law : SinkLaw) (r : Sunk) (written : Option (List ℕ)) (c : CheckedGraph) (run : Run) (ended : Ended) (before mid counts now : PerName) (t u : Told) (h : Sunken law r written c run ended before mid counts now t u) (recorded : ended.arrivals ≡ run.arrivals) where
  -- the meaning under the record
  abbrev the_graph : Graph
  the_graph = h.made.graph

  abbrev the_meaning : Meaning
  the_meaning = meant h.made.graph t ended.arrivals.lists

  comes_of : IsRunAs c ended.arrivals t (Runs c the_graph the_meaning)
  comes_of = sym (h.made.outcome ended.arrivals)

  same_of : ran h.made.graph h.made.rows run ≡ the_meaning
  same_of = meaning_same h.made.graph h.made.rows t run ended.arrivals recorded h.made.told_rows

  record_of : IsRecordOf the_graph the_meaning ended.arrivals
  record_of = subst (λ (x : Meaning). IsRecordOf h.made.graph x ended.arrivals) same_of
      (subst (λ (a : Arrivals). IsRecordOf h.made.graph (ran h.made.graph h.made.rows run) a) (sym recorded) h.made.recorded)

  -- each file is as it was or holds a prefix of its text
  begun_of : (result : RequestOutcome) → IsRunAs c ended.arrivals t result → Begun result t u
  begun_of result e =
      subst (λ (o : RequestOutcome). Begun o t u) (comes_of ∙ sym e)
      (subst (λ (x : Meaning). EachSink (HoldsPrefix x t u) h.made.graph.ops) same_of
      (prefixes c h.made.graph (ran h.made.graph h.made.rows run) run.sinks h.keeps h.made.is law h.made.sinks r (created_by written c) counts now t u h.holds))

  -- the run's fault
  fault_is : run_fault the_graph the_meaning ≡ run.fault
  fault_is = sym (h.made.fault ∙ ap (run_fault h.made.graph) same_of)

done_of : (law : SinkLaw) (ns : List ℕ) (written : Option (List ℕ)) (c : CheckedGraph) (run : Run) (ended : Ended) (before mid counts now : PerName) (t u : Told) (h : Sunken law (S.Done ns) written c run ended before mid counts now t u)
    → ended.arrivals ≡ run.arrivals → ended.counts ≡ record { channels = []; sinks = counts_from 0 c.parts ns } → CarriedOut h.made.graph (meant h.made.graph t ended.arrivals.lists) ended u
done_of law ns written c run ended before mid counts now t u h is counted =
    let p = h.made in
    let same = same_of law (S.Done ns) written c run ended before mid counts now t u h is in
    record {
      texts = subst (λ (x : Meaning). EachSink (HoldsText x u) p.graph.ops) same
          (texts c p.graph (ran p.graph p.rows run) run.sinks h.keeps p.is law p.sinks ns (created_by written c) counts now t u h.holds);
      counts = counted
          ∙ ap (λ (ks : List SinkCount). record { channels = []; sinks = ks })
          (counts_are c p.graph (ran p.graph p.rows run) run.sinks h.keeps p.is law p.sinks ns h.count)
          ∙ ap (counts_of p.graph) same;
      recorded = record_of law (S.Done ns) written c run ended before mid counts now t u h is;
    }

-- the file that failed
abbrev pub FileAt : Sunk → List (List ℕ) → Type 0
FileAt (S.NotCreated place) names = (name : List ℕ) × (slice_get names place ≡ Some name)
FileAt (S.NotWritten place) names = (name : List ℕ) × (slice_get names place ≡ Some name)
FileAt (S.Done ns) names = Unit {0}
FileAt S.Memory names = Unit {0}

pub file_at : (r : Sunk) (names : List (List ℕ)) (old new : PerName) → FilesCounted r names old new → FileAt r names
file_at (S.NotCreated place) names old new h = (h.cause.0, h.cause.1.at)
file_at (S.NotWritten place) names old new h = (h.cause.0, h.cause.1.at)
file_at (S.Done ns) names old new h = tt
file_at S.Memory names old new h = tt

pub at_cause : (k : Cause) (Is : RequestOutcome → Type 0) (ended : Ended) (t u : Told) → ended.cause ≡ k → CauseMeans k Is ended t u → CauseMeans ended.cause Is ended t u
at_cause k Is ended t u is h = subst (λ (x : Cause). CauseMeans x Is ended t u) (sym is) h

-- where a file wasn't created, whatever the record
pub begun_empty : (law : SinkLaw) (place : ℕ) (written : Option (List ℕ)) (c : CheckedGraph) (run : Run) (ended : Ended) (before mid counts now : PerName) (t u : Told) (arrivals : Arrivals) → Sunken law (S.NotCreated place) written c run ended before mid counts now t u
    → (result : RequestOutcome) → IsRunAs c arrivals t result → Begun result t u
begun_empty law place written c run ended before mid counts now t u arrivals h result e =
    subst (λ (o : RequestOutcome). Begun o t u) (sym (h.made.outcome arrivals) ∙ sym e)
    (empty_prefixes c h.made.graph (meant h.made.graph t arrivals.lists) place (created_by written c) t u h.made.is h.holds)

sunk_stands : (law : SinkLaw) (r : Sunk) (written : Option (List ℕ)) (c : CheckedGraph) (run : Run) (ended : Ended) (before mid counts now : PerName) (t u : Told)
    → Sunken law r written c run ended before mid counts now t u → RecordedBy r ended run.arrivals → FileAt r (created_by written c) → EndsBehind r run.fault c (created_by written c) ended → CauseMeans ended.cause (IsRunAs c ended.arrivals t) ended t u
sunk_stands law (S.Done ns) written c run ended before mid counts now t u h rec at (inl (is, counts_are)) =
    at_cause (cause_of run.fault) (IsRunAs c ended.arrivals t) ended t u is
    (runs_as run.fault (IsRunAs c ended.arrivals t) c h.made.graph (meant h.made.graph t ended.arrivals.lists) ended t u (comes_of law (S.Done ns) written c run ended before mid counts now t u h rec)
    (fault_is law (S.Done ns) written c run ended before mid counts now t u h rec) (done_of law ns written c run ended before mid counts now t u h rec counts_are))
sunk_stands law (S.Done ns) written c run ended before mid counts now t u h rec at (inr is) = at_cause C.NoMemory (IsRunAs c ended.arrivals t) ended t u is (begun_of law (S.Done ns) written c run ended before mid counts now t u h rec)
sunk_stands law (S.NotCreated place) written c run ended before mid counts now t u h rec (name, at) ends = by (ends name at)
  where
    by : IsOr (C.OpenFailed name) ended.cause → CauseMeans ended.cause (IsRunAs c ended.arrivals t) ended t u
    by (inl is) = at_cause (C.OpenFailed name) (IsRunAs c ended.arrivals t) ended t u is (begun_empty law place written c run ended before mid counts now t u ended.arrivals h)
    by (inr is) = at_cause C.NoMemory (IsRunAs c ended.arrivals t) ended t u is (begun_empty law place written c run ended before mid counts now t u ended.arrivals h)
sunk_stands law (S.NotWritten place) written c run ended before mid counts now t u h rec (name, at) ends = by (ends name at)
  where
    by : IsOr (C.WriteFailed name) ended.cause → CauseMeans ended.cause (IsRunAs c ended.arrivals t) ended t u
    by (inl is) = at_cause (C.WriteFailed name) (IsRunAs c ended.arrivals t) ended t u is (begun_of law (S.NotWritten place) written c run ended before mid counts now t u h rec)
    by (inr is) = at_cause C.NoMemory (IsRunAs c ended.arrivals t) ended t u is (begun_of law (S.NotWritten place) written c run ended before mid counts now t u h rec)
sunk_stands law S.Memory written c run ended before mid counts now t u h rec at is = at_cause C.NoMemory (IsRunAs c ended.arrivals t) ended t u is (begun_of law S.Memory written c run ended before mid counts now t u h rec)

-- ---- which device failed

-- the names before a place, the one there, and those after it
names_at : (names : List (List ℕ)) (place : ℕ) (name : List ℕ) → slice_get names place ≡ Some name → names ≡ take place names ++ name ∷ drop (suc place) names
names_at [] place name e = cc
names_at (m ∷ names) zero name e = let is : Some m ≡ Some name = e in let same : m ≡ name = cc in ap (λ (n : List ℕ). n ∷ names) same
names_at (m ∷ names) (suc place) name e = ap (λ (ns : List (List ℕ)). m ∷ ns) (names_at names place name e)

-- a sink's file is no source's
named_free : (c : CheckedGraph) (names : List (List ℕ)) → OwnFiles names c.parts → (k : ℕ) (d : List ℕ) → k < length (sink_files c.parts) → is_named (source_files c.parts) (slice_index_or (sink_files c.parts) k d) ≡ false
named_free c names own k d small =
    let file = slice_index_or (sink_files c.parts) k d in
    own.apart file (list_any_at (λ (m : List ℕ). bytes_eq m file) (sink_files c.parts) k d small (same_name file))

sink_free : (c : CheckedGraph) (names : List (List ℕ)) → OwnFiles names c.parts → (k : ℕ) (s : Sink) → k < length (sinks_of c)
    → is_named (source_files c.parts) (slice_index_or (sinks_of c) k s).file ≡ false
sink_free c names own k s small =
    let size : length (sink_files c.parts) ≡ length (sinks_of c) = ap length (sym (files_from 0 c.parts)) ∙ length-map (sinks_of c) (λ (x : Sink). x.file) in
    let same : slice_index_or (sink_files c.parts) k [] ≡ (slice_index_or (sinks_of c) k s).file = ap (λ (ns : List (List ℕ)). slice_index_or ns k []) (sym (files_from 0 c.parts)) ∙ get_or-map (λ (x : Sink). x.file) (sinks_of c) k s [] small in
    ap (is_named (source_files c.parts)) (sym same) ∙ named_free c names own k [] (omega (arith, size, small))

-- the names before one of these are sinks' files
before_last : (written : Option (List ℕ)) (c : CheckedGraph) (place k : ℕ) (name d : List ℕ) → slice_get (created_by written c) place ≡ Some name → k < place
    → (k < length (sink_files c.parts)) × (slice_index_or (created_by written c) k d ≡ slice_index_or (sink_files c.parts) k d)
before_last None c place k name d at less = let within = slice_get_within (sink_files c.parts) place name at in (omega (arith, within, less), refl)
before_last (Some file) c place k name d at less =
    let within = slice_get_within (sink_files c.parts ++ file ∷ []) place name at in
    let size = length-append (sink_files c.parts) (file ∷ []) in
    let small : k < length (sink_files c.parts) = omega (arith, within, size, less) in
    (small, get_or_append_left (sink_files c.parts) (file ∷ []) d k small)

-- a file that couldn't be created, after sources that were read
creating_failed : (written : Option (List ℕ)) (c : CheckedGraph) (place : ℕ) (old mid new : PerName) (name : List ℕ) → OnlyReads (source_files c.parts) old mid
    → ((n : List ℕ) → (new n).opening ≡ (mid n).opening) → Y.FileNotCreated place (created_by written c) name mid new → CreatingFailed (run_files written c) name old new
creating_failed written c place old mid new name reads opening h = record {
  before = take place (created_by written c);
  order = (drop (suc place) (created_by written c), names_at (created_by written c) place name h.at);
  rose = subst (λ (k : ℕ). Rose k (new name).creating) (reads.reads name).creating h.rose;
  later = λ n free other.
      let p = parts_free (source_files c.parts) (take place (created_by written c)) n free in
      h.later n p.1 other ∙ reads.others n p.0;
  others = λ n free other. read_same (old n) (mid n) (new n) (reads.reads n) (h.later n free other);
  creating = λ n other. h.creating n other ∙ (reads.reads n).creating;
  opening = λ n. opening n ∙ (reads.reads n).opening;
}

-- and one that couldn't be written or finished
writing_failed : (written : Option (List ℕ)) (c : CheckedGraph) (place : ℕ) (old mid new : PerName) (name : List ℕ) (names : List (List ℕ)) → OwnFiles names c.parts → OnlyReads (source_files c.parts) old mid
    → FilesCounted (S.NotWritten place) (created_by written c) mid new → Y.FileNotWritten place (created_by written c) name mid new → WritingFailed (run_files written c) name old new
writing_failed written c place old mid new name names own reads counted h = record {
  before = take place (created_by written c);
  order = (drop (suc place) (created_by written c), names_at (created_by written c) place name h.at);
  rose = subst (λ (k : ℕ). Rose k (new name).writing) (reads.reads name).writing h.rose;
  first = λ k n small. h.before k n small ∙ unread k n small;
  others = λ n free. read_same (old n) (mid n) (new n) (reads.reads n) (counted.others n free);
  made = λ n. (h.creating n ∙ (reads.reads n).creating, counted.opening n ∙ (reads.reads n).opening);
}
  where
    unread : (k : ℕ) (n : List ℕ) → k < length (take place (created_by written c)) → mid (slice_index_or (take place (created_by written c)) k n) ≡ old (slice_index_or (take place (created_by written c)) k n)
    unread k n small =
        let size = length-take place (created_by written c) in
        let less : k < place = omega (arith, size, small) in
        let b = before_last written c place k name n h.at less in
        let at : slice_index_or (take place (created_by written c)) k n ≡ slice_index_or (sink_files c.parts) k n = get_or-take place (created_by written c) k n less ∙ b.1 in
        ap mid at ∙ reads.others (slice_index_or (sink_files c.parts) k n) (named_free c names own k n b.0) ∙ ap old (sym at)

-- what the counts show after the sinks
sunk_devices : (r : Sunk) (written : Option (List ℕ)) (c : CheckedGraph) (fault : Option Fault) (ended : Ended) (old mid new : PerName) (names : List (List ℕ)) → OwnFiles names c.parts
    → OnlyReads (source_files c.parts) old mid → FilesCounted r (created_by written c) mid new → EndsBehind r fault c (created_by written c) ended → DevicesShow ended.cause (run_files written c) old new
sunk_devices (S.Done ns) written c fault ended old mid new names own reads counted (inl (is, sinks)) = subst (λ (k : Cause). DevicesShow k (run_files written c) old new) (sym is) (by fault)
  where
    only : OnlyReads (source_files c.parts) old new
    only = record { others = λ n free. counted.cause n ∙ reads.others n free; reads = λ n. read_same (old n) (mid n) (new n) (reads.reads n) (counted.cause n) }

    by : (fault : Option Fault) → DevicesShow (cause_of fault) (run_files written c) old new
    by None = only
    by (Some f) = only
sunk_devices (S.Done ns) written c fault ended old mid new names own reads counted (inr is) = subst (λ (k : Cause). DevicesShow k (run_files written c) old new) (sym is) tt
sunk_devices (S.NotCreated place) written c fault ended old mid new names own reads counted ends = by (ends counted.cause.0 counted.cause.1.at)
  where
    by : IsOr (C.OpenFailed counted.cause.0) ended.cause → DevicesShow ended.cause (run_files written c) old new
    by (inl is) = subst (λ (k : Cause). DevicesShow k (run_files written c) old new) (sym is) (inr (creating_failed written c place old mid new counted.cause.0 reads counted.opening counted.cause.1))
    by (inr is) = subst (λ (k : Cause). DevicesShow k (run_files written c) old new) (sym is) tt
sunk_devices (S.NotWritten place) written c fault ended old mid new names own reads counted ends = by (ends counted.cause.0 counted.cause.1.at)
  where
    by : IsOr (C.WriteFailed counted.cause.0) ended.cause → DevicesShow ended.cause (run_files written c) old new
    by (inl is) = subst (λ (k : Cause). DevicesShow k (run_files written c) old new) (sym is) (writing_failed written c place old mid new counted.cause.0 names own reads counted counted.cause.1)
    by (inr is) = subst (λ (k : Cause). DevicesShow k (run_files written c) old new) (sym is) tt
sunk_devices S.Memory written c fault ended old mid new names own reads counted is = subst (λ (k : Cause). DevicesShow k (run_files written c) old new) (sym is) tt

ran_words : (fault : Option Fault) → cause_of fault ≡ C.BadWords → ⊥
ran_words None e = cc
ran_words (Some fault) e = cc

or_words : (expected cause : Cause) → (expected ≡ C.BadWords → ⊥) → IsOr expected cause → cause ≡ C.BadWords → ⊥
or_words expected cause other (inl is) e = other (sym is ∙ e)
or_words expected cause other (inr is) e = let h : C.NoMemory ≡ C.BadWords = sym is ∙ e in cc

sinks_words : (r : Sunk) (written : Option (List ℕ)) (c : CheckedGraph) (fault : Option Fault) (ended : Ended) (old new : PerName) → FilesCounted r (created_by written c) old new → EndsBehind r fault c (created_by written c) ended → ended.cause ≡ C.BadWords → ⊥
sinks_words (S.Done ns) written c fault ended old new counted (inl (is, counts)) e = ran_words fault (sym is ∙ e)
sinks_words (S.Done ns) written c fault ended old new counted (inr is) e = let h : C.NoMemory ≡ C.BadWords = sym is ∙ e in cc
sinks_words S.Memory written c fault ended old new counted is e = let h : C.NoMemory ≡ C.BadWords = sym is ∙ e in cc
sinks_words (S.NotCreated place) written c fault ended old new counted ends e = or_words (C.OpenFailed counted.cause.0) ended.cause (λ bad. cc) (ends counted.cause.0 counted.cause.1.at) e
sinks_words (S.NotWritten place) written c fault ended old new counted ends e = or_words (C.WriteFailed counted.cause.0) ended.cause (λ bad. cc) (ends counted.cause.0 counted.cause.1.at) e

-- a run that stops at a read that failed, after the sinks
unread_on : (parts : List CheckedClauses) (op : ℕ) (old mid new : PerName) → ((n : List ℕ) → (new n).reading ≡ (mid n).reading) → SourceUnread parts op old mid → SourceUnread parts op old new
unread_on parts op old mid new same h = go (option_and_then source_file (slice_get parts op)) h
  where
    go : (o : Option (List ℕ)) → IsSomeAnd o (λ file. Rose (old file).reading (mid file).reading) → IsSomeAnd o (λ file. Rose (old file).reading (new file).reading)
    go None h = h
    go (Some file) h = subst (λ (k : ℕ). Rose (old file).reading k) (sym (same file)) h

fault_on : (fault : Option Fault) (parts : List CheckedClauses) (old mid new : PerName) → ((n : List ℕ) → (new n).reading ≡ (mid n).reading) → StoppedBy (cause_of fault) parts old mid → StoppedBy (cause_of fault) parts old new
fault_on None parts old mid new same h = tt
fault_on (Some f) parts old mid new same h = λ kind. unread_on parts f.op old mid new same (h kind)

or_stopped : (expected cause : Cause) (parts : List CheckedClauses) (old new : PerName) → IsOr expected cause → StoppedBy expected parts old new → StoppedBy cause parts old new
or_stopped expected cause parts old new (inl is) h = subst (λ (k : Cause). StoppedBy k parts old new) (sym is) h
or_stopped expected cause parts old new (inr is) h = subst (λ (k : Cause). StoppedBy k parts old new) (sym is) tt

sunk_stopped : (r : Sunk) (written : Option (List ℕ)) (c : CheckedGraph) (fault : Option Fault) (ended : Ended) (old mid new : PerName) → FilesCounted r (created_by written c) mid new → EndsBehind r fault c (created_by written c) ended
    → StoppedBy (cause_of fault) c.parts old mid → StoppedBy ended.cause c.parts old new
sunk_stopped (S.Done ns) written c fault ended old mid new counted (inl (is, sinks)) h = subst (λ (k : Cause). StoppedBy k c.parts old new) (sym is) (fault_on fault c.parts old mid new counted.reading h)
sunk_stopped (S.Done ns) written c fault ended old mid new counted (inr is) h = subst (λ (k : Cause). StoppedBy k c.parts old new) (sym is) tt
sunk_stopped (S.NotCreated place) written c fault ended old mid new counted ends h = or_stopped (C.OpenFailed counted.cause.0) ended.cause c.parts old new (ends counted.cause.0 counted.cause.1.at) tt
sunk_stopped (S.NotWritten place) written c fault ended old mid new counted ends h = or_stopped (C.WriteFailed counted.cause.0) ended.cause c.parts old new (ends counted.cause.0 counted.cause.1.at) tt
sunk_stopped S.Memory written c fault ended old mid new counted is h = subst (λ (k : Cause). StoppedBy k c.parts old new) (sym is) tt

counts_behind : (r : Sunk) (written : Option (List ℕ)) (c : CheckedGraph) (fault : Option Fault) (ended : Ended) (old mid new : PerName) (names : List (List ℕ)) → OwnFiles names c.parts
    → OnlyReads (source_files c.parts) old mid → FilesCounted r (created_by written c) mid new → EndsBehind r fault c (created_by written c) ended → StoppedBy (cause_of fault) c.parts old mid → CountsShow ended.cause c.parts (run_files written c) old new
counts_behind r written c fault ended old mid new names own reads h ends stopped = record {
  words = sinks_words r written c fault ended mid new h ends;
  others = λ n named.
      let p = or_parts (is_named (source_files c.parts) n) (is_named (created_by written c) n) named in
      h.others n p.1 ∙ reads.others n p.0;
  reading = λ n free differs. absurd (differs (h.reading n ∙ ap (λ k. k.reading) (reads.others n free)));
  device = sunk_devices r written c fault ended old mid new names own reads h ends;
  stopped = sunk_stopped r written c fault ended old mid new h ends stopped;
}

-- ---- and what the files hold

sunk_means : (law : SinkLaw) (r : Sunk) (written : Option (List ℕ)) (c : CheckedGraph) (run : Run) (ended : Ended) (counts between later : PerName) (t u : Told) (names : List (List ℕ))
    → OwnFiles names c.parts → OnlyReads (source_files c.parts) counts between → Sunken law r written c run ended counts between counts later t u → RecordedBy r ended run.arrivals → FilesCounted r (created_by written c) between later
    → EndsBehind r run.fault c (created_by written c) ended → DevicesMean ended.cause (run_files written c) counts later ⊥ (IsRunAs c ended.arrivals t) ended t u
unfolding creating_failed
sunk_means law (S.Done ns) written c run ended counts between later t u names own reads h rec counted (inl (is, sinks)) =
    subst (λ (k : Cause). DevicesMean k (run_files written c) counts later ⊥ (IsRunAs c ended.arrivals t) ended t u) (sym is) (by run.fault)
  where
    only : OnlyReads (source_files c.parts) counts later
    only = record { others = λ n free. counted.cause n ∙ reads.others n free; reads = λ n. read_same (counts n) (between n) (later n) (reads.reads n) (counted.cause n) }

    by : (fault : Option Fault) → DevicesMean (cause_of fault) (run_files written c) counts later ⊥ (IsRunAs c ended.arrivals t) ended t u
    by None = only
    by (Some f) = only
sunk_means law (S.Done ns) written c run ended counts between later t u names own reads h rec counted (inr is) =
    subst (λ (k : Cause). DevicesMean k (run_files written c) counts later ⊥ (IsRunAs c ended.arrivals t) ended t u) (sym is) tt
sunk_means law (S.NotCreated place) written c run ended counts between later t u names own reads h rec counted ends = by (ends counted.cause.0 counted.cause.1.at)
  where
    by : IsOr (C.OpenFailed counted.cause.0) ended.cause → DevicesMean ended.cause (run_files written c) counts later ⊥ (IsRunAs c ended.arrivals t) ended t u
    by (inl is) = subst (λ (k : Cause). DevicesMean k (run_files written c) counts later ⊥ (IsRunAs c ended.arrivals t) ended t u) (sym is)
        (inr (record {
          failed = creating_failed written c place counts between later counted.cause.0 reads counted.opening counted.cause.1;
          empty = h.holds.empty;
          others = h.holds.others;
          runs = (c, h.made.graph, meant h.made.graph t ended.arrivals.lists, sym (h.made.outcome ended.arrivals));
        }))
    by (inr is) = subst (λ (k : Cause). DevicesMean k (run_files written c) counts later ⊥ (IsRunAs c ended.arrivals t) ended t u) (sym is) tt
sunk_means law (S.NotWritten place) written c run ended counts between later t u names own reads h rec counted ends = by (ends counted.cause.0 counted.cause.1.at)
  where
    others : WroteOthers (IsRunAs c ended.arrivals t) counts later ended u
    others = (
      c,
      h.made.graph,
      meant h.made.graph t ended.arrivals.lists,
      comes_of law (S.NotWritten place) written c run ended counts between counts later t u h rec,
      subst (λ (x : Meaning). EachSink (HoldsUnlessFailed x counts later u) h.made.graph.ops) (same_of law (S.NotWritten place) written c run ended counts between counts later t u h rec)
          (wrote_others c h.made.graph (ran h.made.graph h.made.rows run) run.sinks h.keeps h.made.is law h.made.sinks place (created_by written c) counts later t u h.holds),
      record_of law (S.NotWritten place) written c run ended counts between counts later t u h rec,
    )

    by : IsOr (C.WriteFailed counted.cause.0) ended.cause → DevicesMean ended.cause (run_files written c) counts later ⊥ (IsRunAs c ended.arrivals t) ended t u
    by (inl is) = subst (λ (k : Cause). DevicesMean k (run_files written c) counts later ⊥ (IsRunAs c ended.arrivals t) ended t u) (sym is)
        (inl (writing_failed written c place counts between later counted.cause.0 names own reads counted counted.cause.1, others))
    by (inr is) = subst (λ (k : Cause). DevicesMean k (run_files written c) counts later ⊥ (IsRunAs c ended.arrivals t) ended t u) (sym is) tt
sunk_means law S.Memory written c run ended counts between later t u names own reads h rec counted is = subst (λ (k : Cause). DevicesMean k (run_files written c) counts later ⊥ (IsRunAs c ended.arrivals t) ended t u) (sym is) tt

-- what the sinks' files hold, by the counts before the sources were read
held_from : (r : Sunk) (written : Option (List ℕ)) (c : CheckedGraph) (streams : List (List Item)) (counts between later : PerName) (t u : Told) (names : List (List ℕ)) → OwnFiles names c.parts
    → OnlyReads (source_files c.parts) counts between → SinksHold r (sinks_of c) (created_by written c) streams between later t u → SinksHold r (sinks_of c) (created_by written c) streams counts later t u
held_from (S.Done ns) written c streams counts between later t u names own reads h = h
held_from (S.NotCreated place) written c streams counts between later t u names own reads h = h
held_from (S.NotWritten place) written c streams counts between later t u names own reads h = λ k d small.
    let s = slice_index_or (sinks_of c) k d in
    subst (λ (x : FaultCounts). Y.HoldsUnlessUnwritten (Y.file_text streams s) x (later s.file) (u.holds s.file)) (reads.others s.file (sink_free c names own k d small)) (h k d small)
held_from S.Memory written c streams counts between later t u names own reads h = h

pub sunken_of : (law : SinkLaw) (r : Sunk) (written : Option (List ℕ)) (c : CheckedGraph) (run : Run) (ended : Ended) (counts between later : PerName) (t u : Told) (names : List (List ℕ)) → Keeps c → OwnFiles names c.parts → RanFor c run (Some t) counts between
    → OnlyReads (source_files c.parts) counts between → SinksHold r (sinks_of c) (created_by written c) run.sinks between later t u → SinksCount r (sinks_of c) run.sinks → Sunken law r written c run ended counts between counts later t u
sunken_of law r written c run ended counts between later t u names keeps own p reads holds count = record {
  keeps = keeps;
  made = p;
  holds = held_from r written c run.sinks counts between later t u names own reads holds;
  count = count;
}

-- what a shelf tells after the writing of the sinks, and of a record
abbrev pub Wrote : Sunk → Option (List ℕ) → CheckedGraph → List (List Item) → PerName → PerName → Told → Told → Type 0
Wrote r written c streams counts now t u =
    SinksHold r (sinks_of c) (created_by written c) streams counts now t u × OtherNamesStay (created_by written c) t.holds u.holds × OtherNamesStay (created_by written c) t.script u.script

files_behind : SinkLaw → (told mid now : Option Told) (r : Sunk) (written : Option (List ℕ)) (c : CheckedGraph) (run : Run) (ended : Ended) (counts between later : PerName) (names : List (List ℕ)) → Keeps c
    → OwnFiles names c.parts → RanFor c run told counts between → WhereTold told mid TellsSame → IfSome told (ReadsFail counts between) → OnlyReads (source_files c.parts) counts between
    → WhereTold mid now (Wrote r written c run.sinks between later) → SinksCount r (sinks_of c) run.sinks → FilesCounted r (created_by written c) between later
    → EndsBehind r run.fault c (created_by written c) ended → RecordedBy r ended run.arrivals
    → WhereTold told now (λ t u. FilesShow (IsRunAs c ended.arrivals t) (run_files written c) ended counts later t u)
files_behind law None mid now r written c run ended counts between later names keeps own p told failing reads h count counted ends recorded = tt
files_behind law (Some t) None now r written c run ended counts between later names keeps own p told failing reads h count counted ends recorded = absurd told
files_behind law (Some t) (Some s) None r written c run ended counts between later names keeps own p told failing reads h count counted ends recorded = absurd h
files_behind law (Some t) (Some s) (Some u) r written c run ended counts between later names keeps own p told failing reads h count counted ends recorded =
    go (subst (λ (x : Told). Wrote r written c run.sinks between later x u) (same_told t s told) h)
  where
    go : Wrote r written c run.sinks between later t u → FilesShow (IsRunAs c ended.arrivals t) (run_files written c) ended counts later t u
    go w =
        let sunken = sunken_of law r written c run ended counts between later t u names keeps own p reads w.0 count in
        record {
          means = sunk_stands law r written c run ended counts between counts later t u sunken recorded (file_at r (created_by written c) between later counted) ends;
          others = w.1;
          scripts = w.2;
          device = sunk_means law r written c run ended counts between later t u names own reads sunken recorded counted ends;
          whole = λ n free differs. absurd (differs (counted.reading n ∙ ap (λ k. k.reading) (reads.others n free)));
          reads = λ n differs. failing n (λ e. differs (counted.reading n ∙ e));
        }

-- ---- the files that were created, by those of the run

-- they are those of the graph's sinks, and that of the record's text
pub record AreCreated (sinks : List Sink) (last : Option TextFile) (written : Option (List ℕ)) (c : CheckedGraph) (arrivals : Arrivals) : Type 0 where
  pub sinks_are : sinks ≡ sinks_of c
  pub last_is : last ≡ last_of written (arrivals_text c arrivals)

pub created_names : (sinks : List Sink) (last : Option TextFile) (written : Option (List ℕ)) (c : CheckedGraph) (arrivals : Arrivals) → AreCreated sinks last written c arrivals → names_of sinks last ≡ created_by written c
created_names sinks last written c arrivals h = (λ i. names_of (h.sinks_are i) (h.last_is i)) ∙ names_are written (arrivals_text c arrivals) c

pub wrote : (r : Sunk) (sinks : List Sink) (last : Option TextFile) (written : Option (List ℕ)) (c : CheckedGraph) (arrivals : Arrivals) (streams : List (List Item)) (counts now : PerName) (t u : Told) → AreCreated sinks last written c arrivals
    → FilesWritten r sinks streams last counts now t u → Wrote r written c streams counts now t u
wrote r sinks last written c arrivals streams counts now t u h w =
    subst (λ (names : List (List ℕ)). SinksHold r (sinks_of c) names streams counts now t u × OtherNamesStay names t.holds u.holds × OtherNamesStay names t.script u.script) (created_names sinks last written c arrivals h)
    (subst (λ (ss : List Sink). SinksHold r ss (names_of sinks last) streams counts now t u) h.sinks_are w.holds, w.others, w.scripts)

pub wrote_told : (r : Sunk) (sinks : List Sink) (last : Option TextFile) (written : Option (List ℕ)) (c : CheckedGraph) (arrivals : Arrivals) (streams : List (List Item)) (counts now : PerName) (t u : Option Told) → AreCreated sinks last written c arrivals
    → WhereTold t u (FilesWritten r sinks streams last counts now) → WhereTold t u (Wrote r written c streams counts now)
wrote_told r sinks last written c arrivals streams counts now None u h w = tt
wrote_told r sinks last written c arrivals streams counts now (Some t) None h w = w
wrote_told r sinks last written c arrivals streams counts now (Some t) (Some u) h w = wrote r sinks last written c arrivals streams counts now t u h w

pub sunk_counts : (told : Option Told) (r : Sunk) (sinks : List Sink) (last : Option TextFile) (written : Option (List ℕ)) (c : CheckedGraph) (run : Run) (ended : Ended) (old mid new : PerName) (names : List (List ℕ)) → OwnFiles names c.parts
    → AreCreated sinks last written c run.arrivals → RanFor c run told old mid → OnlyReads (source_files c.parts) old mid → FilesCounted r (names_of sinks last) mid new → EndsBehind r run.fault c (names_of sinks last) ended
    → CountsShow ended.cause c.parts (run_files written c) old new
sunk_counts told r sinks last written c run ended old mid new names own are p reads h ends =
    let same = created_names sinks last written c run.arrivals are in
    counts_behind r written c run.fault ended old mid new names own reads (subst (λ (ns : List (List ℕ)). FilesCounted r ns mid new) same h) (subst (λ (ns : List (List ℕ)). EndsBehind r run.fault c ns ended) same ends) p.stopped

pub sunk_files : SinkLaw → (told mid now : Option Told) (r : Sunk) (sinks : List Sink) (last : Option TextFile) (written : Option (List ℕ)) (c : CheckedGraph) (run : Run) (ended : Ended) (counts between later : PerName) (names : List (List ℕ))
    → Keeps c → OwnFiles names c.parts → AreCreated sinks last written c run.arrivals → RanFor c run told counts between → WhereTold told mid TellsSame → IfSome told (ReadsFail counts between)
    → OnlyReads (source_files c.parts) counts between
    → WhereTold mid now (FilesWritten r sinks run.sinks last between later) → SinksCount r sinks run.sinks → FilesCounted r (names_of sinks last) between later
    → EndsBehind r run.fault c (names_of sinks last) ended → RecordedBy r ended run.arrivals
    → WhereTold told now (λ t u. FilesShow (IsRunAs c ended.arrivals t) (run_files written c) ended counts later t u)
sunk_files law told mid now r sinks last written c run ended counts between later names keeps own are p same failing reads h count counted ends recorded =
    let names_same = created_names sinks last written c run.arrivals are in
    files_behind law told mid now r written c run ended counts between later names keeps own p same failing reads
    (wrote_told r sinks last written c run.arrivals run.sinks between later mid now are h) (subst (λ (ss : List Sink). SinksCount r ss run.sinks) are.sinks_are count)
    (subst (λ (ns : List (List ℕ)). FilesCounted r ns between later) names_same counted) (subst (λ (ns : List (List ℕ)). EndsBehind r run.fault c ns ended) names_same ends) recorded

pub distinct_for : (c : CheckedGraph) (sinks : List Sink) → sinks ≡ sinks_of c → (names : List (List ℕ)) → OwnFiles names c.parts → AreDistinct (sink_names sinks)
distinct_for c sinks e names own = subst (λ (ss : List Sink). AreDistinct (sink_names ss)) (sym e) (distinct c names own)

pub own_for : (sinks : List Sink) (last : Option TextFile) (written : Option (List ℕ)) (c : CheckedGraph) (arrivals : Arrivals) → AreCreated sinks last written c arrivals → (names : List (List ℕ)) → OwnFiles names c.parts → IsNamedBy written names
    → HasOwnFile sinks last
own_for sinks last written c arrivals are names own named =
    subst (λ (ss : List Sink). HasOwnFile ss last) (sym are.sinks_are) (subst (λ (l : Option TextFile). HasOwnFile (sinks_of c) l) (sym are.last_is) (own_file written (arrivals_text c arrivals) c names own named))

-- there are no more sinks than operators
few_from : (n : ℕ) (parts : List CheckedClauses) → length (sinks_from n parts) ≤ length parts
few_from n [] = omega arith
few_from n (A.FileSource file strict ∷ parts) = let le = few_from (suc n) parts in omega (arith, le)
few_from n (A.FileSink file ∷ parts) = let le = few_from (suc n) parts in omega (arith, le)
few_from n (A.Filter condition ∷ parts) = let le = few_from (suc n) parts in omega (arith, le)
few_from n (A.Functor condition output ∷ parts) = let le = few_from (suc n) parts in omega (arith, le)
few_from n (A.Punctor condition position ∷ parts) = let le = few_from (suc n) parts in omega (arith, le)
few_from n (A.Split index ∷ parts) = let le = few_from (suc n) parts in omega (arith, le)
few_from n (A.Union places ∷ parts) = let le = few_from (suc n) parts in omega (arith, le)
few_from n (A.Custom handlers ∷ parts) = let le = few_from (suc n) parts in omega (arith, le)
few_from n (A.Aggregate window partition group output ∷ parts) = let le = few_from (suc n) parts in omega (arith, le)
few_from n (A.Join left right condition output ∷ parts) = let le = few_from (suc n) parts in omega (arith, le)

few_sinks : (c : CheckedGraph) (sinks : List Sink) → Keeps c → sinks ≡ sinks_of c → length sinks ≤ 256
few_sinks c sinks keeps e =
    let few = few_from 0 c.parts in let same = keeps.parts in let most = keeps.graph.operators in
    let count : length sinks ≡ length (sinks_of c) = ap length e in omega (arith, few, same, most, count)

pub lent_behind : (c : CheckedGraph) (sinks : List Sink) (old mid new : ℕ) → Keeps c → sinks ≡ sinks_of c → (old < 2 ^ 64 - 1 → mid ≡ old) → (mid + length sinks + 1 < 2 ^ 64 → new ≡ mid)
    → old < 2 ^ 64 - 257 → new ≡ old
lent_behind c sinks old mid new keeps e first second small =
    let few = few_sinks c sinks keeps e in
    let less : old < 2 ^ 64 - 1 = omega (arith, small) in
    let same = first less in
    let room : mid + length sinks + 1 < 2 ^ 64 = omega (arith, few, same, small) in
    second room ∙ same

-- ---- texts

-- the result of the run, after its sinks
ran_on : (told : Option Told) (c : CheckedGraph) (run : Run) (arrivals : Arrivals) (counts between later : PerName) (p : RanFor c run told counts between) → arrivals ≡ run.arrivals
    → ((n : List ℕ) → (later n).reading ≡ (between n).reading) → RanTo c p.graph (ran p.graph p.rows run) arrivals counts later
ran_on told c run arrivals counts between later p is same = record {
  graph = p.is;
  rows = p.rows;
  fit = p.fit;
  names = p.names;
  read = λ n op file strict at source any. subst (λ (k : ℕ). Rose (counts file).reading k) (sym (same file)) (p.read n op file strict at source any);
  is = ap (λ (a : Arrivals). meaning p.graph (rows_at p.rows) (entries_in a.lists)) (sym is);
  recorded = subst (λ (a : Arrivals). IsRecordOf p.graph (ran p.graph p.rows run) a) (sym is) p.recorded;
}

-- the result of the run
comes_for : (told : Option Told) (c : CheckedGraph) (run : Run) (arrivals : Arrivals) (counts between later : PerName) → arrivals ≡ run.arrivals → ((n : List ℕ) → (later n).reading ≡ (between n).reading)
    → (p : RanFor c run told counts between) → RunComesAs c arrivals told counts later (Runs c p.graph (ran p.graph p.rows run))
comes_for told c run arrivals counts between later is same p = ((p.graph, m, ran_on told c run arrivals counts between later p is same, refl), by told p.told_rows p.outcome)
  where
    m : Meaning
    m = ran p.graph p.rows run

    by : (told : Option Told) → IfSome told (λ t. (n : ℕ) → rows_at p.rows n ≡ rows_told p.graph t n)
        → IfSome told (λ t. (a : Arrivals) → run_outcome c t a ≡ Runs c p.graph (meant p.graph t a.lists)) → IfSome told (λ t. IsRunAs c arrivals t (Runs c p.graph m))
    by None rows outcome = tt
    by (Some t) rows outcome = ap (λ (x : Meaning). Runs c p.graph x) (meaning_same p.graph p.rows t run arrivals is rows) ∙ sym (outcome arrivals)

-- its counts
counted_as : SinkLaw → (ns : List ℕ) (told : Option Told) (c : CheckedGraph) (run : Run) (ended : Ended) (counts between : PerName) (p : RanFor c run told counts between) → Keeps c → SinksCount (S.Done ns) (sinks_of c) run.sinks
    → ended.counts ≡ record { channels = []; sinks = counts_from 0 c.parts ns } → ended.counts ≡ counts_of p.graph (ran p.graph p.rows run)
counted_as law ns told c run ended counts between p keeps count counted =
    counted ∙ ap (λ (ks : List SinkCount). record { channels = []; sinks = ks }) (counts_are c p.graph (ran p.graph p.rows run) run.sinks keeps p.is law p.sinks ns count)

text_of_fault : (counted : Bool) (fault : Option Fault) (Is : RequestOutcome → Type 0) (c : CheckedGraph) (g : Graph) (m : Meaning) (text : List ℕ) → Is (Runs c g m) → fault ≡ run_fault g m
    → text ≡ run_text counted c (counts_of g m) (cause_of fault) → IsText counted (cause_of fault) Is text
text_of_fault counted None Is c g m text is ends e = (Runs c g m, is, (ap cause_of ends, e))
text_of_fault counted (Some fault) Is c g m text is ends e = (Runs c g m, is, (ap cause_of ends, e))

-- the text of a run that was carried out
run_text_of : (law : SinkLaw) (counted : Bool) (told : Option Told) (c : CheckedGraph) (run : Run) (ns : List ℕ) (ended : Ended) (text : List ℕ) (counts between later : PerName) → Keeps c → SinksCount (S.Done ns) (sinks_of c) run.sinks
    → RanFor c run told counts between → ended.arrivals ≡ run.arrivals → ((n : List ℕ) → (later n).reading ≡ (between n).reading) → EndsAs run.fault (counts_from 0 c.parts ns) ended → TellsRun counted c ended text
    → IsText counted ended.cause (RunComesAs c ended.arrivals told counts later) text
run_text_of law counted told c run ns ended text counts between later keeps count p recorded same (inr is) tells = subst (λ (k : Cause). IsText counted k (RunComesAs c ended.arrivals told counts later) text) (sym is) tt
run_text_of law counted told c run ns ended text counts between later keeps count p recorded same (inl ends) (inr wanting) = subst (λ (k : Cause). IsText counted k (RunComesAs c ended.arrivals told counts later) text) (sym wanting) tt
run_text_of law counted told c run ns ended text counts between later keeps count p recorded same (inl (is, sinks)) (inl e) =
    let comes = comes_for told c run ended.arrivals counts between later recorded same p in
    let m = ran p.graph p.rows run in
    subst (λ (k : Cause). IsText counted k (RunComesAs c ended.arrivals told counts later) text) (sym is)
    (text_of_fault counted run.fault (RunComesAs c ended.arrivals told counts later) c p.graph m text comes p.fault
    (e ∙ ap (λ (k : Cause). run_text counted c ended.counts k) is ∙ ap (λ (ks : RunCounts). run_text counted c ks (cause_of run.fault)) (counted_as law ns told c run ended counts between p keeps count sinks)))

-- the text of another cause
pub plain_text : (counted : Bool) (cause k : Cause) (Is : RequestOutcome → Type 0) (text : List ℕ) → cause ≡ k → (IsRun k → ⊥) → is_bad_arrivals k ≡ false → text ≡ status_text None k → IsText counted cause Is text
plain_text counted cause k Is text is other plain e = subst (λ (x : Cause). IsText counted x Is text) (sym is) (go k other plain e)
  where
    go : (k : Cause) → (IsRun k → ⊥) → is_bad_arrivals k ≡ false → text ≡ status_text None k → IsText counted k Is text
    go C.Done other plain e = absurd (other (None, refl))
    go (C.Stopped fault) other plain e = absurd (other (Some fault, refl))
    go C.NoMemory other plain e = tt
    go C.BadWords other plain e = e
    go (C.Refused refusal) other plain e = e
    go C.NotBuilt other plain e = e
    go (C.OpenFailed name) other plain e = e
    go (C.ReadFailed name) other plain e = e
    go (C.BadArrivals op) other plain e = cc
    go (C.WriteFailed name) other plain e = e

-- the text of a cause that is this one or a lack of memory
or_text_of : (counted : Bool) (expected cause : Cause) (Is : RequestOutcome → Type 0) (text : List ℕ) → IsOr expected cause → (IsRun expected → ⊥) → is_bad_arrivals expected ≡ false → text ≡ status_text None cause → IsText counted cause Is text
or_text_of counted expected cause Is text (inl is) other plain e = plain_text counted cause expected Is text is other plain (e ∙ ap (status_text None) is)
or_text_of counted expected cause Is text (inr is) other plain e = subst (λ (x : Cause). IsText counted x Is text) (sym is) tt

pub or_text : (counted : Bool) (expected cause : Cause) (Is : RequestOutcome → Type 0) (text : Result (List ℕ) NoMemory) → IsOr expected cause → (IsRun expected → ⊥) → is_bad_arrivals expected ≡ false → IfOk text (λ l. l ≡ status_text None cause) → IfOk text (IsText counted cause Is)
or_text counted expected cause Is (Ok text) is other plain e = or_text_of counted expected cause Is text is other plain e
or_text counted expected cause Is (Err x) is other plain e = tt

pub open_not_run : (name : List ℕ) → IsRun (C.OpenFailed name) → ⊥
open_not_run name (None, is) = cc
open_not_run name (Some fault, is) = cc

write_not_run : (name : List ℕ) → IsRun (C.WriteFailed name) → ⊥
write_not_run name (None, is) = cc
write_not_run name (Some fault, is) = cc

-- the text of a run, by what became of its sinks
module _ (law : SinkLaw) (counted : Bool) (told : Option Told) (c : CheckedGraph) (names : List (List ℕ)) (run : Run) (ended : Ended) (counts between later : PerName) (keeps : Keeps c)
    (p : RanFor c run told counts between) (same : (n : List ℕ) → (later n).reading ≡ (between n).reading) where
  abbrev Comes : RequestOutcome → Type 0
  Comes = RunComesAs c ended.arrivals told counts later

  sunk_text_of : (r : Sunk) (text : List ℕ) → FileAt r names → SinksCount r (sinks_of c) run.sinks → RecordedBy r ended run.arrivals → EndsBehind r run.fault c names ended → TellsBehind r counted c ended text → IsText counted ended.cause Comes text
  sunk_text_of (S.Done ns) text at count recorded ends tells =
      run_text_of law counted told c run ns ended text counts between later keeps count p recorded same ends tells
  sunk_text_of (S.NotCreated place) text (name, at) count recorded ends tells = or_text_of counted (C.OpenFailed name) ended.cause Comes text (ends name at) (open_not_run name) refl tells
  sunk_text_of (S.NotWritten place) text (name, at) count recorded ends tells = or_text_of counted (C.WriteFailed name) ended.cause Comes text (ends name at) (write_not_run name) refl tells
  sunk_text_of S.Memory text at count recorded ends tells = subst (λ (x : Cause). IsText counted x Comes text) (sym ends) tt

pub sunk_text : SinkLaw → (counted : Bool) (told : Option Told) (r : Sunk) (c : CheckedGraph) (sinks : List Sink) (names : List (List ℕ)) (run : Run) (ended : Ended) (text : Result (List ℕ) NoMemory) (counts between later : PerName) → Keeps c → sinks ≡ sinks_of c
    → RanFor c run told counts between → SinksCount r sinks run.sinks → FilesCounted r names between later → EndsBehind r run.fault c names ended → RecordedBy r ended run.arrivals → IfOk text (TellsBehind r counted c ended)
    → IfOk text (IsText counted ended.cause (RunComesAs c ended.arrivals told counts later))
sunk_text law counted told r c sinks names run ended (Ok text) counts between later keeps are p count rose ends recorded tells =
    sunk_text_of law counted told c names run ended counts between later keeps p rose.reading r text (file_at r names between later rose) (subst (λ (ss : List Sink). SinksCount r ss run.sinks) are count) recorded ends tells
sunk_text law counted told r c sinks names run ended (Err x) counts between later keeps are p count rose ends recorded tells = tt

-- ---- what ran

-- a cause that is this one is no bad record, and ends no run, as this one
pub not_bad : (cause k : Cause) → cause ≡ k → is_bad_arrivals k ≡ false → is_bad_arrivals cause ≡ false
not_bad cause k is e = ap is_bad_arrivals is ∙ e

pub ends_at : (cause k : Cause) → cause ≡ k → is_ended_run k ≡ false → is_ended_run cause ≡ false
ends_at cause k is e = ap is_ended_run is ∙ e

-- a fact of each cause that a run may end with
pub sunk_each : (P : Cause → Type 0) → ((fault : Option Fault) → P (cause_of fault)) → ((name : List ℕ) → P (C.OpenFailed name)) → ((name : List ℕ) → P (C.WriteFailed name)) → P C.NoMemory
    → (r : Sunk) (c : CheckedGraph) (fault : Option Fault) (names : List (List ℕ)) (ended : Ended) → FileAt r names → EndsBehind r fault c names ended → P ended.cause
sunk_each P done opened written wanting (S.Done ns) c fault names ended at (inl (is, counts)) = subst P (sym is) (done fault)
sunk_each P done opened written wanting (S.Done ns) c fault names ended at (inr is) = subst P (sym is) wanting
sunk_each P done opened written wanting (S.NotCreated place) c fault names ended (name, at) ends = by (ends name at)
  where
    by : IsOr (C.OpenFailed name) ended.cause → P ended.cause
    by (inl is) = subst P (sym is) (opened name)
    by (inr is) = subst P (sym is) wanting
sunk_each P done opened written wanting (S.NotWritten place) c fault names ended (name, at) ends = by (ends name at)
  where
    by : IsOr (C.WriteFailed name) ended.cause → P ended.cause
    by (inl is) = subst P (sym is) (written name)
    by (inr is) = subst P (sym is) wanting
sunk_each P done opened written wanting S.Memory c fault names ended at is = subst P (sym is) wanting

done_reason : (c : CheckedGraph) (fault : Option Fault) → ReasonOf (cause_of fault) c
done_reason c None = tt
done_reason c (Some f) = tt

pub sunk_reason : (r : Sunk) (c : CheckedGraph) (fault : Option Fault) (names : List (List ℕ)) (ended : Ended) (old new : PerName) → FilesCounted r names old new → EndsBehind r fault c names ended → ReasonOf ended.cause c
sunk_reason r c fault names ended old new counted ends =
    sunk_each (λ k. ReasonOf k c) (done_reason c) (λ name. tt) (λ name. tt) tt r c fault names ended (file_at r names old new counted) ends

-- the result of a run after its sinks
module _ (law : SinkLaw) (told : Option Told) (c : CheckedGraph) (run : Run) (ended : Ended) (counts between later : PerName) (keeps : Keeps c) (p : RanFor c run told counts between)
    (same : (n : List ℕ) → (later n).reading ≡ (between n).reading) where
  abbrev came_meaning : Meaning
  came_meaning = ran p.graph p.rows run

  some_ran : ended.arrivals ≡ run.arrivals → Ran (λ x. x ≡ c) ended counts later
  some_ran recorded = (c, p.graph, came_meaning, refl, ran_on told c run ended.arrivals counts between later p recorded same)

  done_ran : (fault : Option Fault) → fault ≡ run.fault → ended.arrivals ≡ run.arrivals → ended.counts ≡ counts_of p.graph came_meaning → RanGraph (cause_of fault) c ended counts later
  done_ran None is recorded counted = inr (c, p.graph, came_meaning, refl, ran_on told c run ended.arrivals counts between later p recorded same, sym p.fault ∙ sym is, counted)
  done_ran (Some f) is recorded counted = (c, p.graph, came_meaning, refl, ran_on told c run ended.arrivals counts between later p recorded same, sym p.fault ∙ sym is, counted)

  at_memory : ended.arrivals ≡ run.arrivals → ended.cause ≡ C.NoMemory → RanGraph ended.cause c ended counts later
  at_memory recorded is = subst (λ (k : Cause). RanGraph k c ended counts later) (sym is)
      (inr (whole_so_far (λ x. x ≡ c) ended counts later (some_ran recorded)))

  -- a file couldn't be created, so nothing was taken
  untaken_ran : IsUntaken run.arrivals ended.arrivals → RanWith (λ g m arrivals. NothingTaken g arrivals) (λ x. x ≡ c) ended counts later
  untaken_ran none = (
    c,
    p.graph,
    meaning p.graph (rows_at p.rows) (entries_in ended.arrivals.lists),
    refl,
    record {
      graph = p.is;
      rows = p.rows;
      fit = p.fit;
      names = p.names;
      read = λ n op file strict at source any. subst (λ (k : ℕ). Rose (counts file).reading k) (sym (same file)) (p.read n op file strict at source any);
      is = refl;
      recorded = untaken_record p.graph run.arrivals ended.arrivals p.recorded.lists none;
    },
  )

  ran_behind : (r : Sunk) (names : List (List ℕ)) → OnlyReads (source_files c.parts) counts between → FilesCounted r names between later → EndsBehind r run.fault c names ended → SinksCount r (sinks_of c) run.sinks → RecordedBy r ended run.arrivals
      → RanGraph ended.cause c ended counts later
  ran_behind (S.Done ns) names reads at (inl (is, counted)) count recorded =
      subst (λ (k : Cause). RanGraph k c ended counts later) (sym is) (done_ran run.fault refl recorded (counted_as law ns told c run ended counts between p keeps count counted))
  ran_behind (S.Done ns) names reads at (inr is) count recorded = at_memory recorded is
  ran_behind (S.NotCreated place) names reads at ends count recorded = by (ends at.cause.0 at.cause.1.at)
    where
      by : IsOr (C.OpenFailed at.cause.0) ended.cause → RanGraph ended.cause c ended counts later
      by (inl is) = subst (λ (k : Cause). RanGraph k c ended counts later) (sym is) (inr (record {
        rose = subst (λ (k : ℕ). Rose k (later at.cause.0).creating) (reads.reads at.cause.0).creating at.cause.1.rose;
        none = recorded.1;
        untaken = untaken_ran recorded.0;
      }))
      by (inr is) = subst (λ (k : Cause). RanGraph k c ended counts later) (sym is)
          (inr (untaken_so_far (λ x. x ≡ c) ended counts later (untaken_ran recorded.0)))
  ran_behind (S.NotWritten place) names reads at ends count recorded = by (ends at.cause.0 at.cause.1.at)
    where
      by : IsOr (C.WriteFailed at.cause.0) ended.cause → RanGraph ended.cause c ended counts later
      by (inl is) = subst (λ (k : Cause). RanGraph k c ended counts later) (sym is) (inr (some_ran recorded))
      by (inr is) = at_memory recorded is
  ran_behind S.Memory names reads at is count recorded = at_memory recorded is

pub sunk_ran : SinkLaw → (told : Option Told) (r : Sunk) (c : CheckedGraph) (sinks : List Sink) (names : List (List ℕ)) (run : Run) (ended : Ended) (counts between later : PerName) → Keeps c → sinks ≡ sinks_of c → RanFor c run told counts between → OnlyReads (source_files c.parts) counts between
    → SinksCount r sinks run.sinks → FilesCounted r names between later → EndsBehind r run.fault c names ended → RecordedBy r ended run.arrivals → RanGraph ended.cause c ended counts later
sunk_ran law told r c sinks names run ended counts between later keeps e p reads count counted ends recorded =
    ran_behind law told c run ended counts between later keeps p counted.reading r names reads counted ends (subst (λ (ss : List Sink). SinksCount r ss run.sinks) e count) recorded

-- ---- the answer of a run, by what became of the files that it created

same_file : (expected : List ℕ → Cause) (names : List (List ℕ)) (place : ℕ) (file : List ℕ) (cause found : Cause) → ((name : List ℕ) → slice_get names place ≡ Some name → file ≡ name) → IsOr (expected file) found → cause ≡ found
    → (name : List ℕ) → slice_get names place ≡ Some name → IsOr (expected name) cause
same_file expected names place file cause found named (inl e) is name at = inl (is ∙ e ∙ ap expected (named name at))
same_file expected names place file cause found named (inr e) is name at = inr (is ∙ e)

tells_same : (text : Result (List ℕ) NoMemory) (found cause : Cause) → cause ≡ found → IfOk text (λ l. l ≡ status_text None found) → IfOk text (λ l. l ≡ status_text None cause)
tells_same text found cause is h = subst (λ (k : Cause). IfOk text (λ l. l ≡ status_text None k)) (sym is) h

pub ends_not_created : (sunk : Sunk) (place : ℕ) (counted : Bool) (c : CheckedGraph) (names : List (List ℕ)) (fault : Option Fault) (arrivals : Arrivals) (answer : Answer) (file : List ℕ) (found : Cause) → sunk ≡ S.NotCreated place
    → ((name : List ℕ) → slice_get names place ≡ Some name → file ≡ name) → IsOr (C.OpenFailed file) found → answer.ended.cause ≡ found → IfOk answer.text (λ l. l ≡ status_text None found)
    → IsUntaken arrivals answer.ended.arrivals → answer.ended.counts ≡ uncounted → EndsRun sunk counted c names fault arrivals answer
ends_not_created sunk place counted c names fault arrivals answer file found e named is same text untaken none = subst (λ (r : Sunk). EndsRun r counted c names fault arrivals answer) (sym e) (record {
  ends = same_file (λ n. C.OpenFailed n) names place file answer.ended.cause found named is same;
  text = tells_same answer.text found answer.ended.cause same text;
  recorded = (untaken, none);
})

pub ends_not_written : (sunk : Sunk) (place : ℕ) (counted : Bool) (c : CheckedGraph) (names : List (List ℕ)) (fault : Option Fault) (arrivals : Arrivals) (answer : Answer) (file : List ℕ) (found : Cause) → sunk ≡ S.NotWritten place
    → ((name : List ℕ) → slice_get names place ≡ Some name → file ≡ name) → IsOr (C.WriteFailed file) found → answer.ended.cause ≡ found → IfOk answer.text (λ l. l ≡ status_text None found)
    → answer.ended.arrivals ≡ arrivals → EndsRun sunk counted c names fault arrivals answer
ends_not_written sunk place counted c names fault arrivals answer file found e named is same text recorded = subst (λ (r : Sunk). EndsRun r counted c names fault arrivals answer) (sym e) (record {
  ends = same_file (λ n. C.WriteFailed n) names place file answer.ended.cause found named is same;
  text = tells_same answer.text found answer.ended.cause same text;
  recorded = recorded;
})

pub ends_wanting : (sunk : Sunk) (counted : Bool) (c : CheckedGraph) (names : List (List ℕ)) (fault : Option Fault) (arrivals : Arrivals) (answer : Answer) → sunk ≡ S.Memory → answer.ended.cause ≡ C.NoMemory
    → IfOk answer.text (λ l. l ≡ status_text None C.NoMemory) → answer.ended.arrivals ≡ arrivals → EndsRun sunk counted c names fault arrivals answer
ends_wanting sunk counted c names fault arrivals answer e is text recorded = subst (λ (r : Sunk). EndsRun r counted c names fault arrivals answer) (sym e) (record {
  ends = is;
  text = tells_same answer.text C.NoMemory answer.ended.cause is text;
  recorded = recorded;
})

pub ends_done : (sunk : Sunk) (ns : List ℕ) (counted : Bool) (c : CheckedGraph) (names : List (List ℕ)) (fault : Option Fault) (arrivals : Arrivals) (answer : Answer) → sunk ≡ S.Done ns
    → EndsAs fault (counts_from 0 c.parts ns) answer.ended → IfOk answer.text (TellsRun counted c answer.ended) → answer.ended.arrivals ≡ arrivals → EndsRun sunk counted c names fault arrivals answer
ends_done sunk ns counted c names fault arrivals answer e ends text recorded =
    subst (λ (r : Sunk). EndsRun r counted c names fault arrivals answer) (sym e) (record { ends = ends; text = text; recorded = recorded })

-- ---- its record

-- a fact of the sinks' files in what the record's holds
record_map : (k : Cause) (parts : List CheckedClauses) (file text : List ℕ) (counts now : PerName) (TextFailed Sinks Others : Type 0) (t u : Told) → (Sinks → Others) → RecordHolds k parts file text counts now TextFailed Sinks t u
    → RecordHolds k parts file text counts now TextFailed Others t u
record_map C.Done parts file text counts now TextFailed Sinks Others t u to h = (to h.0, h.1)
record_map (C.Stopped fault) parts file text counts now TextFailed Sinks Others t u to h = (to h.0, h.1)
record_map (C.WriteFailed name) parts file text counts now TextFailed Sinks Others t u to (of_sink named rose empty) = of_sink named rose empty
record_map (C.WriteFailed name) parts file text counts now TextFailed Sinks Others t u to (of_record is rose sinks n front) = of_record is rose (to sinks) n front
record_map (C.WriteFailed name) parts file text counts now TextFailed Sinks Others t u to (of_telling is failed quiet sinks whole) = of_telling is failed quiet (to sinks) whole
record_map C.NoMemory parts file text counts now TextFailed Sinks Others t u to (inl same) = inl same
record_map C.NoMemory parts file text counts now TextFailed Sinks Others t u to (inr (inl empty)) = inr (inl empty)
record_map C.NoMemory parts file text counts now TextFailed Sinks Others t u to (inr (inr (sinks, front))) = inr (inr (to sinks, front))
record_map C.BadWords parts file text counts now TextFailed Sinks Others t u to h = h
record_map (C.Refused refusal) parts file text counts now TextFailed Sinks Others t u to h = h
record_map C.NotBuilt parts file text counts now TextFailed Sinks Others t u to h = h
record_map (C.OpenFailed name) parts file text counts now TextFailed Sinks Others t u to h = h
record_map (C.ReadFailed name) parts file text counts now TextFailed Sinks Others t u to h = h
record_map (C.BadArrivals op) parts file text counts now TextFailed Sinks Others t u to h = h

-- the sinks' files hold their texts
abbrev SinksTold : CheckedGraph → Arrivals → Told → Told → Type 0
SinksTold c arrivals t u = EachSink (HoldsText (meant (graph_of c) t arrivals.lists) u) (graph_of c).ops

record_same : (written : Option (List ℕ)) (c : CheckedGraph) (k : Cause) (ended : Ended) (counts now : PerName) (t u : Told) → ended.cause ≡ k → is_ended_run k ≡ false → SameFiles t u → RecordOf written c ended counts now t u
record_same None c k ended counts now t u is none same = tt
record_same (Some file) c k ended counts now t u is none same =
    subst (λ (x : Cause). RecordHolds x c.parts file (arrivals_text c ended.arrivals) counts now ⊥ (SinksTold c ended.arrivals t u) t u) (sym is)
    (record_kept k c.parts file (arrivals_text c ended.arrivals) counts now ⊥ (SinksTold c ended.arrivals t u) t u none (same file))

-- where no sink was created
pub same_record : (told now : Option Told) (written : Option (List ℕ)) (c : CheckedGraph) (k : Cause) (ended : Ended) (counts later : PerName) → ended.cause ≡ k → is_ended_run k ≡ false → WhereTold told now TellsSame
    → WhereTold told now (RecordOf written c ended counts later)
same_record None now written c k ended counts later is none same = tt
same_record (Some t) None written c k ended counts later is none same = same
same_record (Some t) (Some u) written c k ended counts later is none same = record_same written c k ended counts later t u is none same.holds

-- a file is created by a sink, or it is the record's, which stands after them
created_at : (sinks : List Sink) (text : TextFile) (place : ℕ) (name : List ℕ) → slice_get (names_of sinks (Some text)) place ≡ Some name
    → ((place < length sinks) × (slice_get (sink_names sinks) place ≡ Some name)) ⊎ ((place ≡ length sinks) × (name ≡ text.file))
created_at sinks text place name at = by (append_cases (sink_names sinks) text.file place name at)
  where
    size : length (sink_names sinks) ≡ length sinks
    size = length-map sinks (λ (x : Sink). x.file)

    by : (slice_get (sink_names sinks) place ≡ Some name) ⊎ ((place ≡ length (sink_names sinks)) × (text.file ≡ name)) → ((place < length sinks) × (slice_get (sink_names sinks) place ≡ Some name)) ⊎ ((place ≡ length sinks) × (name ≡ text.file))
    by (inl front) = inl (let small = slice_get_within (sink_names sinks) place name front in omega (arith, size, small), front)
    by (inr (last, same)) = inr (last ∙ size, sym same)

named_of : (names : List (List ℕ)) (place : ℕ) (name : List ℕ) → slice_get names place ≡ Some name → is_named names name ≡ true
named_of names place name at =
    let within = slice_get_within names place name at in
    list_any_at (λ (m : List ℕ). bytes_eq m name) names place name within (ap (λ (m : List ℕ). bytes_eq m name) (get_or_from_slice_get names place name name at) ∙ same_name name)

module _ (sinks : List Sink) (streams : List (List Item)) (text : TextFile) (c : CheckedGraph) (ended : Ended) (counts between now : PerName) (t u : Told) (are : sink_names sinks ≡ sink_files c.parts)
    (reads : OnlyReads (source_files c.parts) counts between) where
  abbrev Holds : Cause → Type 0
  Holds k = RecordHolds k c.parts text.file text.text counts now ⊥ (AllHold sinks streams u) t u

  rose_from : (name : List ℕ) → Rose (between name).writing (now name).writing → Rose (counts name).writing (now name).writing
  rose_from name rose = subst (λ (k : ℕ). Rose k (now name).writing) (reads.reads name).writing rose

  unwritten_record : (place : ℕ) (name : List ℕ) → Y.FileNotWritten place (names_of sinks (Some text)) name between now → TextHolds (S.NotWritten place) sinks streams text t u → Holds (C.WriteFailed name)
  unwritten_record place name failed (inl (before, empty)) = by (created_at sinks text place name failed.at)
    where
      by : ((place < length sinks) × (slice_get (sink_names sinks) place ≡ Some name)) ⊎ ((place ≡ length sinks) × (name ≡ text.file)) → Holds (C.WriteFailed name)
      by (inl (small, at)) = of_sink (ap (λ (ns : List (List ℕ)). is_named ns name) (sym are) ∙ named_of (sink_names sinks) place name at) (rose_from name failed.rose) empty
      by (inr (last, same)) = absurd (omega (arith, before, last))
  unwritten_record place name failed (inr (last, all, (n, front))) = by (created_at sinks text place name failed.at)
    where
      by : ((place < length sinks) × (slice_get (sink_names sinks) place ≡ Some name)) ⊎ ((place ≡ length sinks) × (name ≡ text.file)) → Holds (C.WriteFailed name)
      by (inl (small, at)) = absurd (omega (arith, small, last))
      by (inr (here, same)) = of_record same (subst (λ (m : List ℕ). Rose (counts m).writing (now m).writing) same (rose_from name failed.rose)) all n front

  ended_record : (fault : Option Fault) → AllHold sinks streams u → u.holds text.file ≡ Some text.text → Holds (cause_of fault)
  ended_record None all h = (all, h)
  ended_record (Some f) all h = (all, h)

  -- a file wasn't created, whatever the record
  uncreated : (place : ℕ) (words : List ℕ) (Sinks : Type 0) → u.holds text.file ≡ t.holds text.file → FilesCounted (S.NotCreated place) (names_of sinks (Some text)) between now
      → ((name : List ℕ) → slice_get (names_of sinks (Some text)) place ≡ Some name → IsOr (C.OpenFailed name) ended.cause) → RecordHolds ended.cause c.parts text.file words counts now ⊥ Sinks t u
  uncreated place words Sinks holds counted ends = by (ends counted.cause.0 counted.cause.1.at)
    where
      by : IsOr (C.OpenFailed counted.cause.0) ended.cause → RecordHolds ended.cause c.parts text.file words counts now ⊥ Sinks t u
      by (inl is) = subst (λ (k : Cause). RecordHolds k c.parts text.file words counts now ⊥ Sinks t u) (sym is) holds
      by (inr is) = subst (λ (k : Cause). RecordHolds k c.parts text.file words counts now ⊥ Sinks t u) (sym is) (inl holds)

  record_after : (r : Sunk) (fault : Option Fault) (names : List (List ℕ)) (a b : PerName) → SinksHold r sinks names streams a b t u → TextHolds r sinks streams text t u → FilesCounted r (names_of sinks (Some text)) between now
      → EndsBehind r fault c (names_of sinks (Some text)) ended → Holds ended.cause
  record_after (S.Done ns) fault names a b all holds counted (inl (is, sinks_counted)) = subst Holds (sym is) (ended_record fault all holds)
  record_after (S.Done ns) fault names a b all holds counted (inr is) =
      subst Holds (sym is) (inr (inr (all, (length text.text, holds ∙ ap (λ (x : List ℕ). Some x) (sym (take_all (length text.text) text.text (omega arith)))))))
  record_after (S.NotCreated place) fault names a b all holds counted ends = uncreated place text.text (AllHold sinks streams u) holds counted ends
  record_after (S.NotWritten place) fault names a b all holds counted ends = by (ends counted.cause.0 counted.cause.1.at) holds
    where
      by : IsOr (C.WriteFailed counted.cause.0) ended.cause → TextHolds (S.NotWritten place) sinks streams text t u → Holds ended.cause
      by (inl is) h = subst Holds (sym is) (unwritten_record place counted.cause.0 counted.cause.1 h)
      by (inr is) (inl (before, empty)) = subst Holds (sym is) (inr (inl empty))
      by (inr is) (inr (last, all, front)) = subst Holds (sym is) (inr (inr (all, front)))
  record_after S.Memory fault names a b all holds counted is = subst Holds (sym is) holds

module _ (law : SinkLaw) (sinks : List Sink) (file : List ℕ) (c : CheckedGraph) (run : Run) (ended : Ended) (counts between later : PerName) (t u : Told) (keeps : Keeps c) (p : RanFor c run (Some t) counts between)
    (are : sinks ≡ sinks_of c) (reads : OnlyReads (source_files c.parts) counts between) where
  abbrev text_of : TextFile
  text_of = record { file = file; text = arrivals_text c run.arrivals }

  files_are : sink_names sinks ≡ sink_files c.parts
  files_are = ap sink_names are ∙ files_from 0 c.parts

  -- the sinks' texts are those of the meaning
  told_of : ended.arrivals ≡ run.arrivals → AllHold sinks run.sinks u → SinksTold c ended.arrivals t u
  told_of recorded all =
      subst (λ (g : Graph). EachSink (HoldsText (meant g t ended.arrivals.lists) u) g.ops) (sym p.is)
      (subst (λ (x : Meaning). EachSink (HoldsText x u) p.graph.ops) (meaning_same p.graph p.rows t run ended.arrivals recorded p.told_rows)
      (texts c p.graph (ran p.graph p.rows run) run.sinks keeps p.is law p.sinks [] [] counts later t u (subst (λ (ss : List Sink). AllHold ss run.sinks u) are all)))

  after_of : (r : Sunk) (names : List (List ℕ)) → SinksHold r sinks names run.sinks between later t u → TextHolds r sinks run.sinks text_of t u → FilesCounted r (names_of sinks (Some text_of)) between later
      → EndsBehind r run.fault c (names_of sinks (Some text_of)) ended → ended.arrivals ≡ run.arrivals → RecordOf (Some file) c ended counts later t u
  after_of r names all holds counted ends recorded =
      subst (λ (a : Arrivals). RecordHolds ended.cause c.parts file (arrivals_text c a) counts later ⊥ (SinksTold c ended.arrivals t u) t u) (sym recorded)
      (record_map ended.cause c.parts file (arrivals_text c run.arrivals) counts later ⊥ (AllHold sinks run.sinks u) (SinksTold c ended.arrivals t u) t u (told_of recorded)
      (record_after sinks run.sinks text_of c ended counts between later t u files_are reads r run.fault names between later all holds counted ends))

  record_of_run : (r : Sunk) (names : List (List ℕ)) → SinksHold r sinks names run.sinks between later t u → TextHolds r sinks run.sinks text_of t u → FilesCounted r (names_of sinks (Some text_of)) between later
      → EndsBehind r run.fault c (names_of sinks (Some text_of)) ended → RecordedBy r ended run.arrivals → RecordOf (Some file) c ended counts later t u
  record_of_run (S.Done ns) names all holds counted ends recorded = after_of (S.Done ns) names all holds counted ends recorded
  record_of_run (S.NotCreated place) names all holds counted ends recorded =
      uncreated sinks run.sinks text_of c ended counts between later t u files_are reads place (arrivals_text c ended.arrivals) (SinksTold c ended.arrivals t u) holds counted ends
  record_of_run (S.NotWritten place) names all holds counted ends recorded = after_of (S.NotWritten place) names all holds counted ends recorded
  record_of_run S.Memory names all holds counted ends recorded = after_of S.Memory names all holds counted ends recorded

record_at : (law : SinkLaw) (r : Sunk) (sinks : List Sink) (last : Option TextFile) (written : Option (List ℕ)) (c : CheckedGraph) (run : Run) (ended : Ended) (counts between later : PerName) (t u : Told) → Keeps c → RanFor c run (Some t) counts between
    → AreCreated sinks last written c run.arrivals → OnlyReads (source_files c.parts) counts between → FilesWritten r sinks run.sinks last between later t u → FilesCounted r (names_of sinks last) between later
    → EndsBehind r run.fault c (names_of sinks last) ended → RecordedBy r ended run.arrivals → RecordOf written c ended counts later t u
record_at law r sinks last None c run ended counts between later t u keeps p are reads w counted ends recorded = tt
record_at law r sinks last (Some file) c run ended counts between later t u keeps p are reads w counted ends recorded =
    record_of_run law sinks file c run ended counts between later t u keeps p are.sinks_are reads r (names_of sinks last) w.holds
    (subst (λ (l : Option TextFile). LastHolds r sinks run.sinks l t u) are.last_is w.last_holds)
    (subst (λ (l : Option TextFile). FilesCounted r (names_of sinks l) between later) are.last_is counted)
    (subst (λ (l : Option TextFile). EndsBehind r run.fault c (names_of sinks l) ended) are.last_is ends) recorded

pub sunk_record : SinkLaw → (told mid now : Option Told) (r : Sunk) (sinks : List Sink) (last : Option TextFile) (written : Option (List ℕ)) (c : CheckedGraph) (run : Run) (ended : Ended) (counts between later : PerName) → Keeps c → RanFor c run told counts between
    → AreCreated sinks last written c run.arrivals → WhereTold told mid TellsSame → OnlyReads (source_files c.parts) counts between → WhereTold mid now (FilesWritten r sinks run.sinks last between later)
    → FilesCounted r (names_of sinks last) between later → EndsBehind r run.fault c (names_of sinks last) ended → RecordedBy r ended run.arrivals → WhereTold told now (RecordOf written c ended counts later)
sunk_record law None mid now r sinks last written c run ended counts between later keeps p are same reads h counted ends recorded = tt
sunk_record law (Some t) None now r sinks last written c run ended counts between later keeps p are same reads h counted ends recorded = absurd same
sunk_record law (Some t) (Some s) None r sinks last written c run ended counts between later keeps p are same reads h counted ends recorded = absurd h
sunk_record law (Some t) (Some s) (Some u) r sinks last written c run ended counts between later keeps p are same reads h counted ends recorded =
    record_at law r sinks last written c run ended counts between later t u keeps p are reads
    (subst (λ (x : Told). FilesWritten r sinks run.sinks last between later x u) (same_told t s same) h) counted ends recorded
