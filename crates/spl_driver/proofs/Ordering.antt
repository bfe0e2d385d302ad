-- A run in an order: what is known of it, by what is known of one under its own record.
use Rattle.std.proofs.Common.{◌≡◌, ◌∙◌, arith, suc, ℕ, Bool, true, false, List, [], ◌∷◌, map, take, refl, sym, ap, subst, inl, inr, ◌⊎◌, Option, Some, None, Result, Ok, Err}
use Rattle.std.specs.Prelude.{IfSome, IfOk, ◌||◌}
use Rattle.std.specs.Bool.{Decides}
use Rattle.std.specs.List.{All}
use Rattle.std.specs.Str.{bytes_eq}
use Rattle.std.proofs.lemmas.Slice.Eq.{bytes_eq-Decides}
use Rattle.spl_value.specs.declared.item.Fault.{Fault}
use Rattle.spl_value.specs.declared.item.Item.{Item}
use Rattle.spl_value.specs.declared.memory.NoMemory.{NoMemory}
use Rattle.feed_pour.specs.Counts.{PerName}
use Rattle.feed_pour.specs.Contents.{Told, WhereTold, TellsSame}
use Rattle.language_model.specs.CheckedGraph.{CheckedGraph}
use Rattle.language_model.specs.Keeping.{Keeps}
use Rattle.stream_model.specs.declared.record.Arrivals.{Arrivals}
use Rattle.stream_model.specs.Arrivals.{several}
use Rattle.stream_model.specs.CheckedMeaning.{graph_of}
use Rattle.stream_model.specs.Meaning.{Graph}
use Rattle.stream_model.specs.Ends.{run_fault}
use Rattle.run_report.specs.declared.cause.Cause.{Cause}
use Rattle.run_report.specs.declared.cause.Cause.TheVariants as C
use Rattle.run_report.specs.Texts.{status_text}
use Rattle.language_model.specs.Files.{source_files, OwnFiles}
use Rattle.language_model.specs.Names.{is_named}
use Rattle.file_adapters.specs.declared.sinks.Sink.{Sink}
use Rattle.file_adapters.specs.declared.sinks.Sunk.{Sunk}
use Rattle.file_adapters.specs.declared.sinks.Sunk.TheVariants as S
use Rattle.file_adapters.specs.Sinks.{FilesCounted, FilesWritten, OtherNamesStay, SinksCount, SinksHold, names_of}
use Rattle.file_adapters.specs.declared.text.TextFile.{TextFile}
use Rattle.list_engine.specs.declared.run.Run.{Run}
use Rattle.list_engine.specs.declared.run_order.Order.{Order}
use Rattle.list_engine.specs.declared.run_order.Order.TheVariants as O
use Rattle.list_engine.specs.RunLaws.{SinkLaw}
use Rattle.source_rows.specs.Counting.{OnlyReads}
use Rattle.source_rows.specs.Sources.{ReadsFail}
use Rattle.spl_driver.specs.Outcome.{RequestOutcome, BadArrivals, IsUnder, meant, run_outcome}
use Rattle.spl_driver.specs.Answer.{Begun, CauseMeans, DevicesMean, FollowsBy, IsOr, OnlyEmptied, SameFiles, WroteNothing, cause_of}
use Rattle.spl_driver.specs.steps.Telling.{IsText}
use Rattle.spl_driver.specs.steps.Steps.{EndsBehind, FilesShow, FollowsOrder, IsRunAs, IsRunOf, MayEndIn, NotWholeFor, RanFor, RanIn, RecordedBy, RunComes, RunComesAs, created_by, run_files, sinks_of, is_bad_arrivals, is_ended_run}
use Rattle.spl_driver.proofs.Causes.{EndsWith}
use Rattle.spl_driver.specs.declared.ended.Ended.{Ended}
use Rattle.spl_driver.proofs.Replaying.{one_under}
use Rattle.spl_driver.proofs.Running.{AreCreated, FileAt, at_cause, begun_empty, file_at, sunk_each, sunk_files, sunken_of, wrote}
use Rattle.spl_driver.proofs.SoFar.{untaken_record}
use Rattle.spl_driver.proofs.Standing.{devices_map, follows_unwritten, means_map, text_map}
use Rattle.spl_driver.proofs.Fetching.{same_told}

-- ---- what the files hold

-- what the files show of a run under a record that is given, by what they show of it under its own
module _ (law : SinkLaw) (given : Arrivals) (written : Option (List ℕ)) (c : CheckedGraph) (run : Run) (ended : Ended) (counts between later : PerName) (names : List (List ℕ)) (keeps : Keeps c) (own : OwnFiles names c.parts) (t u : Told)
    (p : RanFor c run (Some t) counts between) (same : run.arrivals ≡ given) (under : IsUnder t c given (run_outcome c t run.arrivals)) (reads : OnlyReads (source_files c.parts) counts between)
    (f : FilesShow (IsRunAs c ended.arrivals t) (run_files written c) ended counts later t u) where
  -- the run has the record
  with_record : ended.arrivals ≡ run.arrivals → FilesShow (IsUnder t c given) (run_files written c) ended counts later t u
  with_record recorded = record {
    means = means_map ended.cause (IsRunAs c ended.arrivals t) (IsUnder t c given) ended t u to from f.means;
    others = f.others;
    scripts = f.scripts;
    device = devices_map ended.cause (run_files written c) counts later ⊥ (IsRunAs c ended.arrivals t) (IsUnder t c given) ended t u to f.device;
    whole = f.whole;
    reads = f.reads;
  }
    where
      to : (r : RequestOutcome) → IsRunAs c ended.arrivals t r → IsUnder t c given r
      to r is = subst (IsUnder t c given) (sym (is ∙ ap (run_outcome c t) recorded)) under

      from : (r : RequestOutcome) → IsUnder t c given r → IsRunAs c ended.arrivals t r
      from r is = one_under t c given r (run_outcome c t run.arrivals) is under ∙ ap (run_outcome c t) (sym recorded)

  -- a file wasn't created
  without_record : (place : ℕ) → SinksHold (S.NotCreated place) (sinks_of c) (created_by written c) run.sinks between later t u → SinksCount (S.NotCreated place) (sinks_of c) run.sinks
      → (name : List ℕ) → IsOr (C.OpenFailed name) ended.cause → FilesShow (IsUnder t c given) (run_files written c) ended counts later t u
  without_record place w count name ends = record {
    means = by_means ends;
    others = f.others;
    scripts = f.scripts;
    device = by_device ends;
    whole = f.whole;
    reads = f.reads;
  }
    where
      begun : (r : RequestOutcome) → IsUnder t c given r → Begun r t u
      begun r is =
          begun_empty law place written c run ended counts between counts later t u run.arrivals
          (sunken_of law (S.NotCreated place) written c run ended counts between later t u names keeps own p reads w count) r (one_under t c given r (run_outcome c t run.arrivals) is under)

      stopped : DevicesMean (C.OpenFailed name) (run_files written c) counts later ⊥ (IsRunAs c ended.arrivals t) ended t u → DevicesMean (C.OpenFailed name) (run_files written c) counts later ⊥ (IsUnder t c given) ended t u
      stopped (inl h) = inl h
      stopped (inr h) = inr (record { failed = h.failed; empty = h.empty; others = h.others; runs = (c, graph_of c, meant (graph_of c) t run.arrivals.lists, under) })

      by_means : IsOr (C.OpenFailed name) ended.cause → CauseMeans ended.cause (IsUnder t c given) ended t u
      by_means (inl is) = at_cause (C.OpenFailed name) (IsUnder t c given) ended t u is begun
      by_means (inr is) = at_cause C.NoMemory (IsUnder t c given) ended t u is begun

      by_device : IsOr (C.OpenFailed name) ended.cause → DevicesMean ended.cause (run_files written c) counts later ⊥ (IsUnder t c given) ended t u
      by_device (inl is) = subst (λ (k : Cause). DevicesMean k (run_files written c) counts later ⊥ (IsUnder t c given) ended t u) (sym is)
          (stopped (subst (λ (k : Cause). DevicesMean k (run_files written c) counts later ⊥ (IsRunAs c ended.arrivals t) ended t u) is f.device))
      by_device (inr is) = subst (λ (k : Cause). DevicesMean k (run_files written c) counts later ⊥ (IsUnder t c given) ended t u) (sym is) tt

pub sunk_in_order : (order : Order) → SinkLaw → (told mid now : Option Told) (r : Sunk) (sinks : List Sink) (last : Option TextFile) (written : Option (List ℕ)) (c : CheckedGraph) (run : Run) (ended : Ended) (counts between later : PerName) (names : List (List ℕ))
    → Keeps c → OwnFiles names c.parts → AreCreated sinks last written c run.arrivals → RanFor c run told counts between → RanIn c order run told → WhereTold told mid TellsSame → IfSome told (ReadsFail counts between)
    → OnlyReads (source_files c.parts) counts between → WhereTold mid now (FilesWritten r sinks run.sinks last between later) → SinksCount r sinks run.sinks → FilesCounted r (names_of sinks last) between later
    → EndsBehind r run.fault c (names_of sinks last) ended → RecordedBy r ended run.arrivals
    → WhereTold told now (λ t u. FilesShow (IsRunOf c order ended.arrivals t) (run_files written c) ended counts later t u)
sunk_in_order O.InTurn law told mid now r sinks last written c run ended counts between later names keeps own are p into same failing reads h count counted ends recorded =
    sunk_files law told mid now r sinks last written c run ended counts between later names keeps own are p same failing reads h count counted ends recorded
sunk_in_order (O.Recorded given) law None mid now r sinks last written c run ended counts between later names keeps own are p into same failing reads h count counted ends recorded = tt
sunk_in_order (O.Recorded given) law (Some t) None now r sinks last written c run ended counts between later names keeps own are p into same failing reads h count counted ends recorded = absurd same
sunk_in_order (O.Recorded given) law (Some t) (Some s) None r sinks last written c run ended counts between later names keeps own are p into same failing reads h count counted ends recorded = absurd h
sunk_in_order (O.Recorded given) law (Some t) (Some s) (Some u) r sinks last written c run ended counts between later names keeps own are p into same failing reads h count counted ends recorded =
    by r (sunk_files law (Some t) (Some s) (Some u) r sinks last written c run ended counts between later names keeps own are p same failing reads h count counted ends recorded)
    (wrote r sinks last written c run.arrivals run.sinks between later t u are (subst (λ (x : Told). FilesWritten r sinks run.sinks last between later x u) (same_told t s same) h)).0
    (subst (λ (ss : List Sink). SinksCount r ss run.sinks) are.sinks_are count) (file_at r (names_of sinks last) between later counted) ends recorded
  where
    by : (r : Sunk) → FilesShow (IsRunAs c ended.arrivals t) (run_files written c) ended counts later t u → SinksHold r (sinks_of c) (created_by written c) run.sinks between later t u → SinksCount r (sinks_of c) run.sinks
        → FileAt r (names_of sinks last) → EndsBehind r run.fault c (names_of sinks last) ended → RecordedBy r ended run.arrivals → FilesShow (IsUnder t c given) (run_files written c) ended counts later t u
    by (S.Done ns) f w n at ends recorded = with_record law given written c run ended counts between later names keeps own t u p (into.given given refl) into.outcome reads f recorded
    by (S.NotCreated place) f w n (x, at) ends recorded = without_record law given written c run ended counts between later names keeps own t u p (into.given given refl) into.outcome reads f place w n x (ends x at)
    by (S.NotWritten place) f w n at ends recorded = with_record law given written c run ended counts between later names keeps own t u p (into.given given refl) into.outcome reads f recorded
    by S.Memory f w n at ends recorded = with_record law given written c run ended counts between later names keeps own t u p (into.given given refl) into.outcome reads f recorded

-- ---- its record

follows_in : (order : Order) (c : CheckedGraph) (ended : Ended) (t u : Told) → is_ended_run ended.cause ≡ false → SameFiles t u
    → FollowsOrder order c ended t u
follows_in O.InTurn c ended t u e same = tt
follows_in (O.Recorded given) c ended t u e same =
    follows_unwritten ended.cause (ended.arrivals ≡ given) (WroteNothing c ended t u) e (inl same)

pub follows_not : (order : Order) (c : CheckedGraph) (ended : Ended) (told now : Option Told) → is_ended_run ended.cause ≡ false
    → WhereTold told now TellsSame → WhereTold told now (FollowsOrder order c ended)
follows_not order c ended None now e same = tt
follows_not order c ended (Some t) None e same = same
follows_not order c ended (Some t) (Some u) e same = follows_in order c ended t u e same.holds

pub may_end : (order : Order) (cause : Cause) → is_bad_arrivals cause ≡ false → MayEndIn order cause
may_end O.InTurn cause e = e
may_end (O.Recorded given) cause e = tt

not_ended : (expected cause : Cause) → is_ended_run expected ≡ false → IsOr expected cause → is_ended_run cause ≡ true → ⊥
not_ended expected cause none (inl is) run = let bad : false ≡ true = sym none ∙ ap is_ended_run (sym is) ∙ run in cc
not_ended expected cause none (inr is) run = let bad : false ≡ true = ap is_ended_run (sym is) ∙ run in cc

-- a run that ended has its record, also where what it gave couldn't be written
recorded_run : (r : Sunk) (c : CheckedGraph) (fault : Option Fault) (names : List (List ℕ)) (ended : Ended) (arrivals : Arrivals) → FileAt r names → EndsBehind r fault c names ended → RecordedBy r ended arrivals
    → is_ended_run ended.cause ≡ true → ended.arrivals ≡ arrivals
recorded_run (S.Done ns) c fault names ended arrivals at ends recorded run = recorded
recorded_run (S.NotCreated place) c fault names ended arrivals (name, at) ends recorded run = absurd (not_ended (C.OpenFailed name) ended.cause refl (ends name at) run)
recorded_run (S.NotWritten place) c fault names ended arrivals at ends recorded run = recorded
recorded_run S.Memory c fault names ended arrivals at ends recorded run = recorded

-- the cause of a run that ended, or of which what it gave couldn't be written
follows_done : (fault : Option Fault) (Spelled Unwritten : Type 0) → Spelled → FollowsBy (cause_of fault) Spelled Unwritten
follows_done None Spelled Unwritten h = h
follows_done (Some f) Spelled Unwritten h = h

or_cases : (a b : Bool) → (a || b) ≡ true → (a ≡ true) ⊎ (b ≡ true)
or_cases true b e = inl refl
or_cases false b e = inr e

equal_names : (m n : List ℕ) → bytes_eq m n ≡ true → m ≡ n
equal_names m n e = elim (bytes_eq m n) as (λ r. Decides r (m ≡ n) → r ≡ true → m ≡ n) [
  | true ↦ λ d is. d.0 refl
  | false ↦ λ d is. cc
] (bytes_eq-Decides m n) e

-- where some files were created, they are empty
named_empty : (names : List (List ℕ)) (n : List ℕ) (u : Told) → All (λ m. u.holds m ≡ Some []) names → is_named names n ≡ true
    → u.holds n ≡ Some []
named_empty [] n u empty named = absurd (let bad : false ≡ true = named in cc)
named_empty (m ∷ names) n u empty named =
    by (named_empty names n u (λ k d small. empty (suc k) d (omega (arith, small)))) (or_cases (bytes_eq m n) (is_named names n) named)
  where
    by : (is_named names n ≡ true → u.holds n ≡ Some []) → (bytes_eq m n ≡ true) ⊎ (is_named names n ≡ true) → u.holds n ≡ Some []
    by later (inl same) = ap u.holds (sym (equal_names m n same)) ∙ empty 0 m (omega arith)
    by later (inr rest) = later rest

-- files were emptied at most
emptied_only : (names : List (List ℕ)) (t u : Told) → All (λ m. u.holds m ≡ Some []) names → OtherNamesStay names t.holds u.holds
    → OnlyEmptied t u
emptied_only names t u empty others n = by (is_named names n) refl
  where
    by : (b : Bool) → is_named names n ≡ b → (u.holds n ≡ t.holds n) ⊎ (u.holds n ≡ Some [])
    by true named = inr (named_empty names n u empty named)
    by false free = inl (others n free)

-- a run has the record that is given, or nothing was written
module _ (given : Arrivals) (c : CheckedGraph) (run : Run) (ended : Ended) (t u : Told) (same : run.arrivals ≡ given) where
  abbrev Follows : Cause → Type 0
  Follows k = FollowsBy k (ended.arrivals ≡ given) (WroteNothing c ended t u)

  follows_sunk : (r : Sunk) (names : List (List ℕ)) (streams : List (List Item)) (sinks : List Sink) (counts now : PerName)
      → map (λ l. l.op) run.arrivals.lists ≡ several (graph_of c) → SinksHold r sinks names streams counts now t u → FileAt r names
      → EndsBehind r run.fault c names ended → RecordedBy r ended run.arrivals → Follows ended.cause
  follows_sunk (S.Done ns) names streams sinks counts now ops holds at (inl (is, counted)) recorded =
      subst Follows (sym is) (follows_done run.fault (ended.arrivals ≡ given) (WroteNothing c ended t u) (recorded ∙ same))
  follows_sunk (S.Done ns) names streams sinks counts now ops holds at (inr is) recorded =
      subst Follows (sym is) (inl (recorded ∙ same))
  follows_sunk (S.NotCreated place) names streams sinks counts now ops holds (name, at) ends recorded = by (ends name at)
    where
      none : WroteNothing c ended t u
      none = inr (
        emptied_only (take place names) t u holds.empty holds.others,
        untaken_record (graph_of c) run.arrivals ended.arrivals ops recorded.0,
      )

      by : IsOr (C.OpenFailed name) ended.cause → Follows ended.cause
      by (inl is) = subst Follows (sym is) none
      by (inr is) = subst Follows (sym is) (inr none)
  follows_sunk (S.NotWritten place) names streams sinks counts now ops holds (name, at) ends recorded = by (ends name at)
    where
      by : IsOr (C.WriteFailed name) ended.cause → Follows ended.cause
      by (inl is) = subst Follows (sym is) (recorded ∙ same)
      by (inr is) = subst Follows (sym is) (inl (recorded ∙ same))
  follows_sunk S.Memory names streams sinks counts now ops holds at is recorded = subst Follows (sym is) (inl (recorded ∙ same))

pub sunk_follows : (order : Order) (told mid now : Option Told) (r : Sunk) (sinks : List Sink) (last : Option TextFile) (c : CheckedGraph) (run : Run) (ended : Ended) (counts between later : PerName)
    → RanFor c run told counts between → RanIn c order run told → WhereTold told mid TellsSame → WhereTold mid now (FilesWritten r sinks run.sinks last between later) → FilesCounted r (names_of sinks last) between later
    → EndsBehind r run.fault c (names_of sinks last) ended → RecordedBy r ended run.arrivals → WhereTold told now (FollowsOrder order c ended)
sunk_follows order None mid now r sinks last c run ended counts between later p into same h counted ends recorded = tt
sunk_follows order (Some t) None now r sinks last c run ended counts between later p into same h counted ends recorded = absurd same
sunk_follows order (Some t) (Some s) None r sinks last c run ended counts between later p into same h counted ends recorded = absurd h
sunk_follows O.InTurn (Some t) (Some s) (Some u) r sinks last c run ended counts between later p into same h counted ends recorded = tt
sunk_follows (O.Recorded given) (Some t) (Some s) (Some u) r sinks last c run ended counts between later p into same h counted ends recorded =
    let held = subst (λ (x : Told). FilesWritten r sinks run.sinks last between later x u) (same_told t s same) h in
    follows_sunk given c run ended t u (into.given given refl) r (names_of sinks last) run.sinks sinks between later
    (subst (λ (g : Graph). map (λ l. l.op) run.arrivals.lists ≡ several g) (sym p.is) p.recorded.lists) held.holds
    (file_at r (names_of sinks last) between later counted) ends recorded

done_kinds : (fault : Option Fault) → is_bad_arrivals (cause_of fault) ≡ false
done_kinds None = refl
done_kinds (Some f) = refl

pub sunk_kinds : (order : Order) (r : Sunk) (c : CheckedGraph) (fault : Option Fault) (names : List (List ℕ)) (ended : Ended) (old new : PerName) → FilesCounted r names old new → EndsBehind r fault c names ended → MayEndIn order ended.cause
sunk_kinds order r c fault names ended old new counted ends =
    may_end order ended.cause (sunk_each (λ k. is_bad_arrivals k ≡ false) done_kinds (λ name. refl) (λ name. refl) refl r c fault names ended (file_at r names old new counted) ends)

-- ---- what is told of it

run_ends : (fault : Option Fault) (cause : Cause) → cause ≡ cause_of fault → is_ended_run cause ≡ true
run_ends None cause e = ap is_ended_run e
run_ends (Some f) cause e = ap is_ended_run e

comes_in : (order : Order) (told : Option Told) (c : CheckedGraph) (run : Run) (ended : Ended) (counts now : PerName) → RanIn c order run told → (is_ended_run ended.cause ≡ true → ended.arrivals ≡ run.arrivals)
    → (result : RequestOutcome) → EndsWith result ended.cause → RunComesAs c ended.arrivals told counts now result → RunComes c order ended.arrivals told counts now result
comes_in O.InTurn told c run ended counts now into recorded result ends is = is
comes_in (O.Recorded given) told c run ended counts now into recorded result ends ((g, m, ran, e), own) = (inl (g, m, ran, e), by told own into.outcome)
  where
    same : ended.arrivals ≡ run.arrivals
    same = recorded (run_ends (run_fault g m) ended.cause (subst (λ (o : RequestOutcome). EndsWith o ended.cause) e ends))

    by : (told : Option Told) → IfSome told (λ t. IsRunAs c ended.arrivals t result) → IfSome told (λ t. IsUnder t c given (run_outcome c t run.arrivals)) → IfSome told (λ t. IsUnder t c given result)
    by None own under = tt
    by (Some t) own under = subst (IsUnder t c given) (sym (own ∙ ap (run_outcome c t) same)) under

pub text_in_order : (order : Order) (counted : Bool) (told : Option Told) (r : Sunk) (c : CheckedGraph) (names : List (List ℕ)) (run : Run) (ended : Ended) (text : Result (List ℕ) NoMemory) (counts between now : PerName) → FilesCounted r names between now
    → RanIn c order run told → EndsBehind r run.fault c names ended → RecordedBy r ended run.arrivals → IfOk text (IsText counted ended.cause (RunComesAs c ended.arrivals told counts now))
    → IfOk text (IsText counted ended.cause (RunComes c order ended.arrivals told counts now))
text_in_order order counted told r c names run ended (Err x) counts between now rose into ends recorded h = tt
text_in_order order counted told r c names run ended (Ok text) counts between now rose into ends recorded h =
    text_map counted ended.cause (RunComesAs c ended.arrivals told counts now) (RunComes c order ended.arrivals told counts now) text
    (comes_in order told c run ended counts now into (recorded_run r c run.fault names ended run.arrivals (file_at r names between now rose) ends recorded)) h

-- ---- a record that isn't whole

pub partial_kinds : (order : Order) (c : CheckedGraph) (op : ℕ) (told : Option Told) (cause : Cause) → NotWholeFor c order op told → MayEndIn order cause
partial_kinds O.InTurn c op told cause h = absurd (h.recorded refl)
partial_kinds (O.Recorded given) c op told cause h = tt

partial_comes : (order : Order) (c : CheckedGraph) (op : ℕ) (told : Option Told) (arrivals : Arrivals) (counts now : PerName) → NotWholeFor c order op told → RunComes c order arrivals told counts now (BadArrivals c (Some op))
partial_comes O.InTurn c op told arrivals counts now h = absurd (h.recorded refl)
partial_comes (O.Recorded given) c op None arrivals counts now h = (inr (Some op, h.bad, refl), tt)
partial_comes (O.Recorded given) c op (Some t) arrivals counts now h = (inr (Some op, h.bad, refl), h.outcome arrivals)

pub partial_text : (order : Order) (counted : Bool) (told : Option Told) (c : CheckedGraph) (op : ℕ) (ended : Ended) (text : Result (List ℕ) NoMemory) (counts now : PerName) → NotWholeFor c order op told → ended.cause ≡ C.BadArrivals (Some op)
    → IfOk text (λ l. l ≡ status_text (Some c) (C.BadArrivals (Some op))) → IfOk text (IsText counted ended.cause (RunComes c order ended.arrivals told counts now))
partial_text order counted told c op ended (Err x) counts now h is e = tt
partial_text order counted told c op ended (Ok text) counts now h is e =
    subst (λ (k : Cause). IsText counted k (RunComes c order ended.arrivals told counts now) text) (sym is)
    (BadArrivals c (Some op), partial_comes order c op told ended.arrivals counts now h, (refl, e))

pub partial_outcome : (order : Order) (c : CheckedGraph) (op : ℕ) (told : Option Told) (arrivals : Arrivals) → NotWholeFor c order op told → IfSome told (λ t. IsRunOf c order arrivals t (BadArrivals c (Some op)))
partial_outcome order c op None arrivals h = tt
partial_outcome order c op (Some t) arrivals h = h.outcome arrivals
