-- A replay of the record that a run wrote.
use Rattle.std.proofs.Common.{◌≡◌, ◌≤◌, ◌^◌, ◌∙◌, ℕ, zero, suc, Bool, true, false, List, [], ◌∷◌, length, refl, sym, ap, subst, inl, inr, Option, Some, None, Ok, slice_get}
use Rattle.std.specs.Prelude.{◌||◌, IfSome}
use Rattle.std.specs.List.{cons_option}
use Rattle.std.specs.Option.{option_map_or, option_to_list}
use Rattle.std.specs.Str.{bytes_eq}
use Rattle.spl_value.specs.declared.item.Fault.{Fault}
use Rattle.spl_value.specs.Script.{Script}
use Rattle.stream_model.specs.Runs.{AreWhole, IsRecordOf, counts_of}
use Rattle.feed_pour.specs.Counts.{PerName, Rose}
use Rattle.feed_pour.specs.Contents.{Told}
use Rattle.language_model.specs.declared.checked.CheckedClauses.{CheckedClauses}
use Rattle.language_model.specs.declared.checked.CheckedClauses.TheVariants as A
use Rattle.language_model.specs.Keeping.{Keeps}
use Rattle.stream_model.specs.declared.record.Arrivals.{Arrivals}
use Rattle.language_model.specs.Accepted.{IsAccepted}
use Rattle.language_model.specs.CheckedGraph.{CheckedGraph}
use Rattle.stream_model.specs.Arrivals.{entries_in}
use Rattle.stream_model.specs.CheckedMeaning.{graph_of}
use Rattle.stream_model.specs.Ends.{run_fault}
use Rattle.stream_model.specs.Meaning.{Graph, Meaning, lists_at, meaning}
use Rattle.stream_model.specs.Operators.{Operator, connections}
use Rattle.arrival_format.specs.ArrivalTexts.{Spells, arrivals_text}
use Rattle.arrival_format.specs.FormatLaws.{OneRecordLaw, WholeRecordLaw}
use Rattle.language_model.specs.Files.{source_file, source_files, sink_file}
use Rattle.language_model.specs.Names.{is_named}
use Rattle.command_line.specs.declared.request.Request.{Request}
use Rattle.command_line.specs.declared.request.Request.TheVariants as R
use Rattle.command_line.specs.declared.request.RunOptions.{RunOptions}
use Rattle.command_line.specs.Request.{file_names}
use Rattle.run_report.specs.declared.cause.Cause.{Cause}
use Rattle.source_rows.specs.Sources.{rows_by, rows_told}
use Rattle.spl_driver.specs.AcceptedLaws.{KeptLaw}
use Rattle.spl_driver.specs.Outcome.{RequestOutcome, NoRequest, Unreadable, Refused, NotBuilt, OfPlan, OfSize, Report, Reports, BadArrivals, Runs, IsFound, IsOutcome, IsReplay, IsUnder, partial, whole, unread, misspelt, no_request, not_built, unreadable, refused, checks, plans, runs, replays, spelled, ArePartsIn, of_program, has_fault, has_record_fault, meant, run_outcome}
use Rattle.spl_driver.specs.Answer.{WroteNothing, Answered, CauseMeans, EachSink, HoldsText, IsRun, RecordHolds, RunsTo, cause_of, CarriedOut}
use Rattle.spl_driver.specs.ReplayLaws.{AreReadAlike, EndAlike, ReplayLaw, SameFilesLaw}
use Rattle.spl_driver.specs.RequestLaws.{OneOutcomeLaw}
use Rattle.spl_driver.specs.declared.ended.Ended.{Ended}
use Rattle.spl_driver.proofs.Preparing.{part_there}
use Rattle.spl_value.proofs.Bools.{or_true}
use Rattle.spl_value.proofs.Lists.{same_name}
use Rattle.spl_driver.proofs.Standing.{follows_run}

-- ---- what a run was found to be

pub record RunFound (t : Told) (arrivals : Arrivals) (program : List ℕ) (options : RunOptions) (c : CheckedGraph) (g : Graph) (m : Meaning) : Type 0 where
  pub found : IsFound t program (file_names (R.Run program options)) (Ok c)
  pub is : run_outcome c t arrivals ≡ Runs c g m

pub run_at : (t : Told) (arrivals : Arrivals) (request : Option Request) (r : RequestOutcome) (program : List ℕ) (options : RunOptions) (c : CheckedGraph) (g : Graph) (m : Meaning) → IsOutcome t arrivals request r
    → request ≡ Some (R.Run program options) → r ≡ Runs c g m → RunFound t arrivals program options c g m
run_at t arrivals request r program options c g m no_request q e = absurd (let bad : NoRequest ≡ Runs c g m = e in cc)
run_at t arrivals request r program options c g m (not_built asked other) q e = absurd (let bad : NotBuilt ≡ Runs c g m = e in cc)
run_at t arrivals request r program options c g m (unreadable asked p built of fault) q e = absurd (let bad : Unreadable p ≡ Runs c g m = e in cc)
run_at t arrivals request r program options c g m (refused asked p refusal built of found) q e = absurd (let bad : Refused refusal ≡ Runs c g m = e in cc)
run_at t arrivals request r program options c g m (checks p x found) q e = absurd (let bad : Reports OfSize x ≡ Runs c g m = e in cc)
run_at t arrivals request r program options c g m (plans p x found) q e = absurd (let bad : Reports OfPlan x ≡ Runs c g m = e in cc)
run_at t arrivals request r program options c g m (runs p o x plain found) q e =
    let asked : Some (R.Run p o) ≡ Some (R.Run program options) = q in
    let one : p ≡ program = cc in
    let two : o ≡ options = cc in
    let comes : Runs x (graph_of x) (meant (graph_of x) t arrivals.lists) ≡ Runs c g m = e in
    let same : x ≡ c = cc in
    record {
      found = subst (λ (y : CheckedGraph). IsFound t program (file_names (R.Run program options)) (Ok y)) same
          (subst (λ (k : RunOptions). IsFound t program (file_names (R.Run program k)) (Ok x)) two (subst (λ (n : List ℕ). IsFound t n (file_names (R.Run n o)) (Ok x)) one found));
      is = ap (λ (y : CheckedGraph). run_outcome y t arrivals) (sym same) ∙ comes;
    }
run_at t arrivals request r program options c g m (replays p f x _ found is) q e = absurd (let bad : Some (R.Replay p f) ≡ Some (R.Run program options) = q in cc)

-- ---- its sources

-- the file of a source among the clauses is one of the sources'
source_named : (parts : List CheckedClauses) (n : ℕ) (file : List ℕ) (strict : Bool) → slice_get parts n ≡ Some (A.FileSource file strict) → is_named (source_files parts) file ≡ true
source_named [] n file strict at = cc
source_named (part ∷ parts) zero file strict at =
    let is : Some part ≡ Some (A.FileSource file strict) = at in
    let same : part ≡ A.FileSource file strict = cc in
    ap (λ (p : CheckedClauses). is_named (cons_option (source_file p) (source_files parts)) file) same ∙ ap (λ (b : Bool). b || is_named (source_files parts) file) (same_name file)
source_named (part ∷ parts) (suc n) file strict at = behind (source_file part) (source_named parts n file strict at)
  where
    behind : (o : Option (List ℕ)) → is_named (source_files parts) file ≡ true → is_named (cons_option o (source_files parts)) file ≡ true
    behind None h = h
    behind (Some f) h = ap (λ (b : Bool). bytes_eq f file || b) h ∙ or_true (bytes_eq f file)

-- an operator's rows are the same where its file is read alike
rows_same : (t u : Told) (clauses : CheckedClauses) (op : Operator) → ((file : List ℕ) (strict : Bool) → clauses ≡ A.FileSource file strict → u.script file ≡ t.script file) → rows_by u clauses op ≡ rows_by t clauses op
rows_same t u (A.FileSource file strict) op h = λ i. rows_by (record { holds = u.holds; script = λ n. h file strict refl i }) (A.FileSource file strict) op
rows_same t u (A.FileSink file) op h = refl
rows_same t u (A.Filter condition) op h = refl
rows_same t u (A.Functor condition output) op h = refl
rows_same t u (A.Punctor condition position) op h = refl
rows_same t u (A.Split index) op h = refl
rows_same t u (A.Union places) op h = refl
rows_same t u (A.Custom handlers) op h = refl
rows_same t u (A.Aggregate window partition group output) op h = refl
rows_same t u (A.Join left right condition output) op h = refl

module _ (t u : Told) (c : CheckedGraph) (alike : (n : List ℕ) → is_named (source_files c.parts) n ≡ true → u.script n ≡ t.script n) where
  told_at : (n : ℕ) (o : Option Operator) → slice_get (graph_of c).ops n ≡ o → option_map_or (λ (op : Operator). rows_by u op.clauses op) o [] ≡ option_map_or (λ (op : Operator). rows_by t op.clauses op) o []
  told_at n None at = refl
  told_at n (Some op) at = rows_same t u op.clauses op (λ file strict is. alike file (source_named c.parts n file strict (part_there c n op file strict at is)))

  told_same : (n : ℕ) → rows_told (graph_of c) u n ≡ rows_told (graph_of c) t n
  told_same n = told_at n (slice_get (graph_of c).ops n) refl

  outcome_same : (arrivals : Arrivals) → run_outcome c u arrivals ≡ run_outcome c t arrivals
  outcome_same arrivals = λ i. Runs c (graph_of c) (meaning (graph_of c) (λ n. told_same n i) (entries_in arrivals.lists))

-- ---- the replay

spells_whole : WholeRecordLaw → (c : CheckedGraph) (m : Meaning) (arrivals : Arrivals) (bytes : List ℕ) → Keeps c → IsRecordOf (graph_of c) m arrivals → bytes ≡ arrivals_text c arrivals → length bytes ≤ 2 ^ 32 → Spells c bytes arrivals
spells_whole law c m arrivals bytes keeps is text short =
    record { made = law c arrivals (λ op. lists_at m.streams (connections op)) keeps is.lists is.whole; text = text; short = short }

same_graph : (c : CheckedGraph) (t : Told) (arrivals : Arrivals) (g : Graph) (m : Meaning) → run_outcome c t arrivals ≡ Runs c g m → graph_of c ≡ g
same_graph c t arrivals g m e = cc

same_meaning : (c : CheckedGraph) (t : Told) (arrivals : Arrivals) (g : Graph) (m : Meaning) → run_outcome c t arrivals ≡ Runs c g m → meant (graph_of c) t arrivals.lists ≡ m
same_meaning c t arrivals g m e = cc

-- the names of both requests are the same
names_same : (program file : List ℕ) (options : RunOptions) → options.arrivals ≡ Some file → file_names (R.Run program options) ≡ file_names (R.Replay program file)
names_same program file options e = ap (λ (o : Option (List ℕ)). program ∷ option_to_list o) e

module _ (kept : KeptLaw) (law : WholeRecordLaw) (t u : Told) (program file : List ℕ) (options : RunOptions) (c : CheckedGraph) (g : Graph) (m : Meaning) (arrivals : Arrivals)
    (given : options.arrivals ≡ Some file) (is_record : IsRecordOf g m arrivals) (alike : AreReadAlike (Some (R.Run program options)) t u)
    (text : (u.script file).bytes ≡ arrivals_text c arrivals) (quiet : has_record_fault (u.script file) ≡ false) (short : length (u.script file).bytes ≤ 2 ^ 32) (h : RunFound t arrivals program options c g m) where
  are_parts : ArePartsIn t (Some (R.Run program options)) c.parts
  are_parts = of_program (R.Run program options) program (Ok c) refl h.found

  program_alike : u.script program ≡ t.script program
  program_alike = alike c.parts are_parts program (ap (λ (b : Bool). b || is_named (source_files c.parts) program) (same_name program))

  sources_alike : (n : List ℕ) → is_named (source_files c.parts) n ≡ true → u.script n ≡ t.script n
  sources_alike n named = alike c.parts are_parts n (ap (λ (b : Bool). bytes_eq program n || b) named ∙ or_true (bytes_eq program n))

  found_again : IsFound u program (file_names (R.Replay program file)) (Ok c)
  found_again = subst (λ (names : List (List ℕ)). IsFound u program names (Ok c)) (names_same program file options given)
      (record {
        read = ap has_fault program_alike ∙ h.found.read;
        accepted = subst (λ (s : Script). IsAccepted s.bytes (file_names (R.Run program options)) (Ok c)) (sym program_alike) h.found.accepted;
      })

  record_again : IsRecordOf (graph_of c) (meant (graph_of c) t arrivals.lists) arrivals
  record_again = subst (λ (x : Graph). IsRecordOf x (meant (graph_of c) t arrivals.lists) arrivals) (sym (same_graph c t arrivals g m h.is))
      (subst (λ (x : Meaning). IsRecordOf g x arrivals) (sym (same_meaning c t arrivals g m h.is)) is_record)

  keeps : Keeps c
  keeps = kept (t.script program).bytes (file_names (R.Run program options)) c h.found.accepted

  under_again : IsUnder u c arrivals (run_outcome c u arrivals)
  under_again = whole (subst (λ (x : Meaning). AreWhole (graph_of c) x (entries_in arrivals.lists)) (same_meaning_by (outcome_same t u c sources_alike arrivals)) record_again.whole)
    where
      same_meaning_by : run_outcome c u arrivals ≡ run_outcome c t arrivals → meant (graph_of c) t arrivals.lists ≡ meant (graph_of c) u arrivals.lists
      same_meaning_by e = cc

  pub again : (other : Arrivals) → IsOutcome u other (Some (R.Replay program file)) (Runs c g m)
  again other =
      subst (IsOutcome u other (Some (R.Replay program file))) (outcome_same t u c sources_alike arrivals ∙ h.is)
      (replays program file c (run_outcome c u arrivals) found_again
      (spelled arrivals (run_outcome c u arrivals) quiet (spells_whole law c (meant (graph_of c) t arrivals.lists) arrivals (u.script file).bytes keeps record_again text short) under_again))

pub replay_law : KeptLaw → WholeRecordLaw → ReplayLaw
replay_law kept law t u program file options c g m arrivals other comes given is_record alike text quiet short =
    again kept law t u program file options c g m arrivals given is_record alike text quiet short (run_at t arrivals (Some (R.Run program options)) (Runs c g m) program options c g m comes refl refl) other

-- ---- both carried out

alike_at : (P Q R : Operator → List ℕ → Type 0) (o : Option (List ℕ)) (op : Operator) → ((file : List ℕ) → P op file → Q op file → R op file) → IfSome o (P op) → IfSome o (Q op) → IfSome o (R op)
alike_at P Q R None op both p q = tt
alike_at P Q R (Some file) op both p q = both file p q

each_alike : (P Q R : Operator → List ℕ → Type 0) (ops : List Operator) → ((op : Operator) (file : List ℕ) → P op file → Q op file → R op file) → EachSink P ops → EachSink Q ops → EachSink R ops
each_alike P Q R [] both p q = tt
each_alike P Q R (op ∷ ops) both p q = (alike_at P Q R (sink_file op.clauses) op (both op) p.0 q.0, each_alike P Q R ops both p.1 q.1)

-- a run that was carried out had a meaning with its fault
ran_with : (Is : RequestOutcome → Type 0) (ended : Ended) (t u : Told) → ((report : Report) (x : CheckedGraph) → Is (Reports report x) → ⊥) → CauseMeans ended.cause Is ended t u → IsRun ended.cause → (fault : Option Fault) × (ended.cause ≡ cause_of fault) × RunsTo fault Is ended u
ran_with Is ended t u no_report means (fault, is) = (fault, is, by fault (subst (λ (k : Cause). CauseMeans k Is ended t u) is means))
  where
    by : (fault : Option Fault) → CauseMeans (cause_of fault) Is ended t u → RunsTo fault Is ended u
    by None (inl (report, x, comes, same, none)) = absurd (no_report report x comes)
    by None (inr run) = run
    by (Some f) run = run

-- a run and a replay report nothing
run_reports : (t : Told) (arrivals : Arrivals) (request : Option Request) (r : RequestOutcome) (program : List ℕ) (options : RunOptions) (report : Report) (x : CheckedGraph) → IsOutcome t arrivals request r → request ≡ Some (R.Run program options) → r ≡ Reports report x → ⊥
run_reports t arrivals request r program options report x no_request q e = absurd (let bad : NoRequest ≡ Reports report x = e in cc)
run_reports t arrivals request r program options report x (not_built asked other) q e = absurd (let bad : NotBuilt ≡ Reports report x = e in cc)
run_reports t arrivals request r program options report x (unreadable asked p built of fault) q e = absurd (let bad : Unreadable p ≡ Reports report x = e in cc)
run_reports t arrivals request r program options report x (refused asked p refusal built of found) q e = absurd (let bad : Refused refusal ≡ Reports report x = e in cc)
run_reports t arrivals request r program options report x (checks p y found) q e = absurd (let bad : Some (R.Check p) ≡ Some (R.Run program options) = q in cc)
run_reports t arrivals request r program options report x (plans p y found) q e = absurd (let bad : Some (R.Plan p) ≡ Some (R.Run program options) = q in cc)
run_reports t arrivals request r program options report x (runs p o y plain found) q e = absurd (let bad : Runs y (graph_of y) (meant (graph_of y) t arrivals.lists) ≡ Reports report x = e in cc)
run_reports t arrivals request r program options report x (replays p f y _ found is) q e = absurd (let bad : Some (R.Replay p f) ≡ Some (R.Run program options) = q in cc)

-- its record's file holds the record's text
text_held : (fault : Option Fault) (parts : List CheckedClauses) (file text : List ℕ) (counts now : PerName) (TextFailed Sinks : Type 0) (t u : Told) → RecordHolds (cause_of fault) parts file text counts now TextFailed Sinks t u → u.holds file ≡ Some text
text_held None parts file text counts now TextFailed Sinks t u h = h.1
text_held (Some f) parts file text counts now TextFailed Sinks t u h = h.1

graph_one : (x y : CheckedGraph) (g h : Graph) (m n : Meaning) → Runs x g m ≡ Runs y h n → g ≡ h
graph_one x y g h m n e = cc

meaning_one : (x y : CheckedGraph) (g h : Graph) (m n : Meaning) → Runs x g m ≡ Runs y h n → m ≡ n
meaning_one x y g h m n e = cc

fault_one : (x y : CheckedGraph) (g h : Graph) (m n : Meaning) → Runs x g m ≡ Runs y h n → run_fault g m ≡ run_fault h n
fault_one x y g h m n e = let same : g ≡ h = cc in let too : m ≡ n = cc in λ i. run_fault (same i) (too i)

counts_one : (x y : CheckedGraph) (g h : Graph) (m n : Meaning) → Runs x g m ≡ Runs y h n → counts_of g m ≡ counts_of h n
counts_one x y g h m n e = let same : g ≡ h = cc in let too : m ≡ n = cc in λ i. counts_of (same i) (too i)

bytes_one : (bytes text : List ℕ) (held : Option (List ℕ)) → held ≡ Some bytes → held ≡ Some text → bytes ≡ text
bytes_one bytes text held a b = let same : Some bytes ≡ Some text = sym a ∙ b in cc

-- ---- what a replay was found to be

-- it read its record without a fault, and followed what that spells
record ReplayFound (u : Told) (program file : List ℕ) (y : CheckedGraph) : Type 0 where
  pub found : IsFound u program (file_names (R.Replay program file)) (Ok y)
  pub quiet : has_record_fault (u.script file) ≡ false
  pub arrivals : Arrivals
  pub spells : Spells y (u.script file).bytes arrivals

under_runs : (u : Told) (c : CheckedGraph) (a : Arrivals) (r : RequestOutcome) (y : CheckedGraph) (h : Graph) (n : Meaning) → IsUnder u c a r → r ≡ Runs y h n → c ≡ y
under_runs u c a r y h n (partial k first) e = absurd (let bad : BadArrivals c (Some k) ≡ Runs y h n = e in cc)
under_runs u c a r y h n (whole all) e = let same : Runs c (graph_of c) (meant (graph_of c) u a.lists) ≡ Runs y h n = e in cc

follows_at : (u : Told) (program file : List ℕ) (c : CheckedGraph) (r : RequestOutcome) (y : CheckedGraph) (h : Graph) (n : Meaning) → IsFound u program (file_names (R.Replay program file)) (Ok c) → IsReplay u c file r → r ≡ Runs y h n
    → ReplayFound u program file y
follows_at u program file c r y h n found (unread fault) e = absurd (let bad : Unreadable file ≡ Runs y h n = e in cc)
follows_at u program file c r y h n found (misspelt quiet none) e = absurd (let bad : BadArrivals c None ≡ Runs y h n = e in cc)
follows_at u program file c r y h n found (spelled a _ quiet spells under) e =
    let same : c ≡ y = under_runs u c a r y h n under e in
    record {
      found = subst (λ (z : CheckedGraph). IsFound u program (file_names (R.Replay program file)) (Ok z)) same found;
      quiet = quiet;
      arrivals = a;
      spells = subst (λ (z : CheckedGraph). Spells z (u.script file).bytes a) same spells;
    }

replay_at : (u : Told) (other : Arrivals) (request : Option Request) (r : RequestOutcome) (program file : List ℕ) (y : CheckedGraph) (h : Graph) (n : Meaning) → IsOutcome u other request r
    → request ≡ Some (R.Replay program file) → r ≡ Runs y h n → ReplayFound u program file y
replay_at u other request r program file y h n no_request q e = absurd (let bad : NoRequest ≡ Runs y h n = e in cc)
replay_at u other request r program file y h n (not_built asked unbuilt) q e = absurd (let bad : NotBuilt ≡ Runs y h n = e in cc)
replay_at u other request r program file y h n (unreadable asked p built of fault) q e = absurd (let bad : Unreadable p ≡ Runs y h n = e in cc)
replay_at u other request r program file y h n (refused asked p refusal built of found) q e = absurd (let bad : Refused refusal ≡ Runs y h n = e in cc)
replay_at u other request r program file y h n (checks p x found) q e = absurd (let bad : Reports OfSize x ≡ Runs y h n = e in cc)
replay_at u other request r program file y h n (plans p x found) q e = absurd (let bad : Reports OfPlan x ≡ Runs y h n = e in cc)
replay_at u other request r program file y h n (runs p o x plain found) q e = absurd (let bad : Some (R.Run p o) ≡ Some (R.Replay program file) = q in cc)
replay_at u other request r program file y h n (replays p f x _ found is) q e =
    let asked : Some (R.Replay p f) ≡ Some (R.Replay program file) = q in
    let one : p ≡ program = cc in
    let two : f ≡ file = cc in
    follows_at u program file x r y h n
    (subst (λ (k : List ℕ). IsFound u program (file_names (R.Replay program k)) (Ok x)) two (subst (λ (k : List ℕ). IsFound u k (file_names (R.Replay k f)) (Ok x)) one found))
    (subst (λ (k : List ℕ). IsReplay u x k r) two is) e

replay_reports : (u : Told) (other : Arrivals) (request : Option Request) (r : RequestOutcome) (program file : List ℕ) (report : Report) (x : CheckedGraph) → IsOutcome u other request r → request ≡ Some (R.Replay program file)
    → r ≡ Reports report x → ⊥
replay_reports u other request r program file report x no_request q e = absurd (let bad : NoRequest ≡ Reports report x = e in cc)
replay_reports u other request r program file report x (not_built asked unbuilt) q e = absurd (let bad : NotBuilt ≡ Reports report x = e in cc)
replay_reports u other request r program file report x (unreadable asked p built of fault) q e = absurd (let bad : Unreadable p ≡ Reports report x = e in cc)
replay_reports u other request r program file report x (refused asked p refusal built of found) q e = absurd (let bad : Refused refusal ≡ Reports report x = e in cc)
replay_reports u other request r program file report x (checks p y found) q e = absurd (let bad : Some (R.Check p) ≡ Some (R.Replay program file) = q in cc)
replay_reports u other request r program file report x (plans p y found) q e = absurd (let bad : Some (R.Plan p) ≡ Some (R.Replay program file) = q in cc)
replay_reports u other request r program file report x (runs p o y plain found) q e = absurd (let bad : Some (R.Run p o) ≡ Some (R.Replay program file) = q in cc)
replay_reports u other request r program file report x (replays p f y _ found is) q e = replayed is e
  where
    under : (a : Arrivals) (s : RequestOutcome) → IsUnder u y a s → s ≡ Reports report x → ⊥
    under a s (partial k first) same = let bad : BadArrivals y (Some k) ≡ Reports report x = same in cc
    under a s (whole all) same = let bad : Runs y (graph_of y) (meant (graph_of y) u a.lists) ≡ Reports report x = same in cc

    replayed : {s : RequestOutcome} → IsReplay u y f s → s ≡ Reports report x → ⊥
    replayed (unread fault) same = let bad : Unreadable f ≡ Reports report x = same in cc
    replayed (misspelt quiet none) same = let bad : BadArrivals y None ≡ Reports report x = same in cc
    replayed (spelled a s quiet spells is_under) same = under a s is_under same

module _ (kept : KeptLaw) (one_record : OneRecordLaw) (one : OneOutcomeLaw) (law : ReplayLaw) (whole_law : WholeRecordLaw) (program file : List ℕ) (options : RunOptions) (ran replayed : Ended) (a b c d : PerName) (TextFailed OtherFailed : Type 0) (before after later now : Told)
    (given : options.arrivals ≡ Some file) (was : Answered (Some (R.Run program options)) ran a b TextFailed before after) (run : IsRun ran.cause)
    (alike : AreReadAlike (Some (R.Run program options)) before later) (read : after.holds file ≡ Some (later.script file).bytes)
    (is : Answered (Some (R.Replay program file)) replayed c d OtherFailed later now) (again : IsRun replayed.cause) where
  abbrev First : RequestOutcome → Type 0
  First = IsOutcome before ran.arrivals (Some (R.Run program options))

  abbrev Second : RequestOutcome → Type 0
  Second = IsOutcome later replayed.arrivals (Some (R.Replay program file))

  first : (fault : Option Fault) × (ran.cause ≡ cause_of fault) × RunsTo fault First ran after
  first = ran_with First ran before after (λ report x comes. run_reports before ran.arrivals (Some (R.Run program options)) (Reports report x) program options report x comes refl refl) was.means run

  second : (fault : Option Fault) × (replayed.cause ≡ cause_of fault) × RunsTo fault Second replayed now
  second = ran_with Second replayed later now (λ report x comes. replay_reports later replayed.arrivals (Some (R.Replay program file)) (Reports report x) program file report x comes refl refl) is.means again

  text_of : (fault : Option Fault) (x : CheckedGraph) (g : Graph) (m : Meaning) → ran.cause ≡ cause_of fault → First (Runs x g m) → (later.script file).bytes ≡ arrivals_text x ran.arrivals
  text_of fault x g m at comes =
      bytes_one (later.script file).bytes (arrivals_text x ran.arrivals) (after.holds file) read
      (text_held fault x.parts file (arrivals_text x ran.arrivals) a b TextFailed (EachSink (HoldsText m after) g.ops) before after
      (subst (λ (k : Cause). RecordHolds k x.parts file (arrivals_text x ran.arrivals) a b TextFailed (EachSink (HoldsText m after) g.ops) before after) at (was.recorded file given x g m comes)))

  same_first : (x y : CheckedGraph) (g h : Graph) (m n : Meaning) → First (Runs x g m) → First (Runs y h n) → Runs x g m ≡ Runs y h n
  same_first x y g h m n p q = one (Some (R.Run program options)) before ran.arrivals (Runs x g m) (Runs y h n) p q

  alike_after : (m : Meaning) (op : Operator) (name : List ℕ) → HoldsText m after op name → HoldsText m now op name → now.holds name ≡ after.holds name
  alike_after m op name p q = q ∙ sym p

  -- the replay follows the record that the run returned
  same_record : (x y : CheckedGraph) (g h : Graph) (m n : Meaning) → First (Runs x g m) → IsRecordOf g m ran.arrivals → (later.script file).bytes ≡ arrivals_text x ran.arrivals → Second (Runs y h n) → Runs y h n ≡ Runs x g m
      → replayed.arrivals ≡ ran.arrivals
  same_record x y g h m n comes is_record text other same =
      let found = run_at before ran.arrivals (Some (R.Run program options)) (Runs x g m) program options x g m comes refl refl in
      let keeps = kept (before.script program).bytes (file_names (R.Run program options)) x found.found.accepted in
      let followed = replay_at later replayed.arrivals (Some (R.Replay program file)) (Runs y h n) program file y h n other refl refl in
      let checked : y ≡ x = cc in
      let graph : graph_of x ≡ g = same_graph x before ran.arrivals g m found.is in
      let theirs = subst (λ (z : CheckedGraph). Spells z (later.script file).bytes replayed.arrivals) checked (follows_run replayed.cause (Spells y (later.script file).bytes replayed.arrivals) (WroteNothing y replayed later now) again (is.followed y h n other)) in
      let ours = spells_whole whole_law x m ran.arrivals (later.script file).bytes keeps (subst (λ (z : Graph). IsRecordOf z m ran.arrivals) (sym graph) is_record) text followed.spells.short in
      one_record x (later.script file).bytes replayed.arrivals ran.arrivals keeps theirs ours

  ends : (fault other : Option Fault) (x y : CheckedGraph) (g h : Graph) (m n : Meaning) → ran.cause ≡ cause_of fault → First (Runs x g m) → run_fault g m ≡ fault → CarriedOut g m ran after
      → replayed.cause ≡ cause_of other → Second (Runs y h n) → run_fault h n ≡ other → CarriedOut h n replayed now → EndAlike program file options ran replayed before after later now
  ends fault other x y g h m n at comes e carried at_other comes_other e_other carried_other =
      let text = text_of fault x g m at comes in
      let followed = replay_at later replayed.arrivals (Some (R.Replay program file)) (Runs y h n) program file y h n comes_other refl refl in
      let follows = law before later program file options x g m ran.arrivals replayed.arrivals comes given carried.recorded alike text followed.quiet followed.spells.short in
      let same : Runs y h n ≡ Runs x g m = one (Some (R.Replay program file)) later replayed.arrivals (Runs y h n) (Runs x g m) comes_other follows in
      record {
        cause = at_other ∙ ap cause_of (sym e_other ∙ fault_one y x h g n m same ∙ e) ∙ sym at;
        arrivals = same_record x y g h m n comes carried.recorded text comes_other same;
        counts = carried_other.counts ∙ counts_one y x h g n m same ∙ sym carried.counts;
        files = λ z k l third.
            let back : g ≡ k = graph_one x z g k m l (same_first x z g k m l comes third) in
            subst (λ (v : Graph). EachSink (λ op name. now.holds name ≡ after.holds name) v.ops) back
            (each_alike (HoldsText m after) (HoldsText m now) (λ op name. now.holds name ≡ after.holds name) g.ops (alike_after m) carried.texts
            (subst (λ (v : Graph). EachSink (HoldsText m now) v.ops) (graph_one y x h g n m same) (subst (λ (v : Meaning). EachSink (HoldsText v now) h.ops) (meaning_one y x h g n m same) carried_other.texts)));
      }

  both : ((fault : Option Fault) × (ran.cause ≡ cause_of fault) × RunsTo fault First ran after) → ((other : Option Fault) × (replayed.cause ≡ cause_of other) × RunsTo other Second replayed now)
      → EndAlike program file options ran replayed before after later now
  both (fault, at, (x, g, m, comes, e, carried)) (other, at_other, (y, h, n, comes_other, e_other, carried_other)) =
      ends fault other x y g h m n at comes e carried at_other comes_other e_other carried_other

pub same_files : KeptLaw → OneRecordLaw → OneOutcomeLaw → ReplayLaw → WholeRecordLaw → SameFilesLaw
same_files kept one_record one law whole_law program file options ran replayed a b c d k l m n before after later now given was run alike read is again =
    both kept one_record one law whole_law program file options ran replayed a b c d (Rose k l) (Rose m n) before after later now given was run alike read is again
    (first kept one_record one law whole_law program file options ran replayed a b c d (Rose k l) (Rose m n) before after later now given was run alike read is again)
    (second kept one_record one law whole_law program file options ran replayed a b c d (Rose k l) (Rose m n) before after later now given was run alike read is again)
