-- A run up to its sinks.
use Rattle.std.proofs.Common.{◌≡◌, ℕ, suc, arith, Bool, List, [], ◌∷◌, map, refl, sym, ap, subst, ◌∙◌, slice_get, Option, Some, None}
use Rattle.std.specs.Prelude.{IfSome, IsSomeAnd, option_and_then}
use Rattle.std.specs.List.{All}
use Rattle.spl_value.specs.declared.item.Fault.{Fault}
use Rattle.spl_value.specs.declared.item.FaultKind.TheVariants as K
use Rattle.spl_value.specs.declared.item.Item.{Item}
use Rattle.spl_value.specs.declared.item.Item.TheVariants as I
use Rattle.feed_pour.specs.Counts.{PerName, Rose}
use Rattle.language_model.specs.Files.{source_file}
use Rattle.feed_pour.specs.Contents.{Told}
use Rattle.language_model.specs.declared.checked.CheckedClauses.{CheckedClauses}
use Rattle.language_model.specs.declared.checked.CheckedClauses.TheVariants as A
use Rattle.language_model.specs.Keeping.{Keeps}
use Rattle.stream_model.specs.declared.record.Arrivals.{Arrivals}
use Rattle.language_model.specs.CheckedGraph.{CheckedGraph}
use Rattle.stream_model.specs.Arrivals.{entries_in, several}
use Rattle.stream_model.specs.CheckedMeaning.{graph_of}
use Rattle.stream_model.specs.Ends.{run_fault}
use Rattle.stream_model.specs.Meaning.{Graph, Meaning, meaning}
use Rattle.stream_model.specs.Operators.{Operator}
use Rattle.stream_model.proofs.CheckedOperators.{operator_from}
use Rattle.fault_laws.specs.RunFaults.{ReadFaultLaw}
use Rattle.list_engine.specs.declared.run.Run.{Run}
use Rattle.list_engine.specs.RunLaws.{FaultsName, SourcesName}
use Rattle.stream_model.specs.RunLaws.{OrderedLaw}
use Rattle.stream_model.specs.Runs.{AreWhole, RowsFit, SinksGiven, rows_at, IsFirstNotWhole}
use Rattle.stream_model.specs.SourceFaults.{NamesOperator, is_read_failed, is_read_fault}
use Rattle.source_rows.specs.Sources.{AreRows, SourcesOf, rows_told}
use Rattle.source_rows.specs.declared.sources.Sources.TheVariants as S
use Rattle.list_engine.specs.declared.run_order.Order.{Order}
use Rattle.list_engine.specs.declared.run_order.Order.TheVariants as O
use Rattle.list_engine.specs.declared.run_order.RunAnswer.TheVariants as L
use Rattle.list_engine.specs.RunOrders.{AreInOrder, StopsRun}
use Rattle.spl_driver.specs.Outcome.{RequestOutcome, NotBuilt, BadArrivals, Runs, IsUnder, meant, run_outcome}
use Rattle.spl_driver.specs.Outcome as U
use Rattle.spl_driver.specs.Answer.{StoppedBy, cause_of}
use Rattle.spl_driver.specs.steps.Steps.{IsOrderOf, NotWholeFor, RanFor, RanIn, ran}
use Rattle.spl_driver.proofs.Causes.{SourceUnread}
use Rattle.spl_driver.proofs.Records.{same_record}

-- the rows of the sources that were read
pub rows_fit : (c : CheckedGraph) (rows : List (List Item)) (told : Option Told) (counts now : PerName) → SourcesOf (S.Rows rows) c told counts now → (g : Graph) → graph_of c ≡ g → RowsFit g rows
rows_fit c rows told counts now h g e = (h g e).fit

outcome_told : (told : Option Told) (c : CheckedGraph) → IfSome told (λ t. (arrivals : Arrivals) → run_outcome c t arrivals ≡ Runs c (graph_of c) (meant (graph_of c) t arrivals.lists))
outcome_told None c = tt
outcome_told (Some t) c = λ arrivals. refl

-- ---- a run that stops at a read that failed

rest_names : (m : ℕ) (x : Item) (items : List Item) → All (NamesOperator m) (x ∷ items) → All (NamesOperator m) items
rest_names m x items h = λ i d l. h (suc i) d (omega (arith, l))

names_of : (n m : ℕ) (items : List Item) → m ≡ n → All (NamesOperator m) items → FaultsName n items
names_of n m [] e h = tt
names_of n m (I.Tuple vs ∷ items) e h = names_of n m items e (rest_names m (I.Tuple vs) items h)
names_of n m (I.Window ∷ items) e h = names_of n m items e (rest_names m I.Window items h)
names_of n m (I.Final ∷ items) e h = names_of n m items e (rest_names m I.Final items h)
names_of n m (I.Bad f ∷ items) e h = (h 0 (I.Bad f) (omega arith) ∙ e, names_of n m items e (rest_names m (I.Bad f) items h))

-- the clauses of an operator of the graph stand at its number
pub part_there : (c : CheckedGraph) (n : ℕ) (op : Operator) (file : List ℕ) (strict : Bool) → slice_get (graph_of c).ops n ≡ Some op → op.clauses ≡ A.FileSource file strict → slice_get c.parts n ≡ Some (A.FileSource file strict)
part_there c n op file strict at is =
    let found = operator_from c 0 c.graph.ops c.parts n op at in
    found.has ∙ ap (λ (p : CheckedClauses). Some p) (sym (ap (λ (o : Operator). o.clauses) found.same) ∙ is)

module _ (numbered : OrderedLaw) (law : ReadFaultLaw) (c : CheckedGraph) (keeps : Keeps c) (rows : List (List Item)) (told : Option Told) (counts now : PerName) (are : AreRows (graph_of c) rows told counts now) where
  named : SourcesName (graph_of c) (rows_at rows)
  named n op file strict at is = names_of n op.number (rows_at rows n) ((numbered c (graph_of c) keeps refl).1 n op at) (are.names n op file strict at is)

  unread : (run : Run) (f : Fault) → run_fault (graph_of c) (ran (graph_of c) rows run) ≡ Some f → f.kind ≡ K.ReadFailed → SourceUnread c.parts f.op counts now
  unread run f is kind =
      let found = law c (graph_of c) (rows_at rows) (entries_in run.arrivals.lists) f keeps refl are.fit.fit named is kind in
      let row = found.0 in
      let reads = found.1 is_read_fault (ap is_read_failed kind) in
      subst (λ (o : Option CheckedClauses). IsSomeAnd (option_and_then source_file o) (λ file. Rose (counts file).reading (now file).reading))
      (sym (part_there c f.op row.op row.file row.strict row.named row.source)) (are.read f.op row.op row.file row.strict row.named row.source reads)

  stops : (run : Run) (fault : Option Fault) → fault ≡ run_fault (graph_of c) (ran (graph_of c) rows run) → StoppedBy (cause_of fault) c.parts counts now
  stops run None e = tt
  stops run (Some f) e = λ kind. unread run f (sym e) kind

-- the run of those rows
pub ran_for : OrderedLaw → ReadFaultLaw → (c : CheckedGraph) (rows : List (List Item)) (run : Run) (told : Option Told) (counts now : PerName) → Keeps c → SourcesOf (S.Rows rows) c told counts now
    → ((g : Graph) → graph_of c ≡ g → SinksGiven g (ran g rows run) run.sinks) → ((g : Graph) → graph_of c ≡ g → run.fault ≡ run_fault g (ran g rows run))
    → ((g : Graph) → graph_of c ≡ g → map (λ l. l.op) run.arrivals.lists ≡ several g) → ((g : Graph) → graph_of c ≡ g → AreWhole g (ran g rows run) (entries_in run.arrivals.lists))
    → RanFor c run told counts now
ran_for numbered law c rows run told counts now keeps are sinks fault lists whole = record {
  graph = graph_of c;
  is = refl;
  rows = rows;
  fit = (are (graph_of c) refl).fit;
  sinks = sinks (graph_of c) refl;
  fault = fault (graph_of c) refl;
  names = (are (graph_of c) refl).names;
  read = (are (graph_of c) refl).read;
  stopped = stops numbered law c keeps rows told counts now (are (graph_of c) refl) run run.fault (fault (graph_of c) refl);
  recorded = record { lists = lists (graph_of c) refl; whole = whole (graph_of c) refl };
  told_rows = (are (graph_of c) refl).same;
  outcome = outcome_told told c;
}

-- ---- its order

-- the meaning for the rows that the shelf tells
told_meaning : (c : CheckedGraph) (rows : List (List Item)) (t : Told) (arrivals : Arrivals) → ((n : ℕ) → rows_at rows n ≡ rows_told (graph_of c) t n)
    → meaning (graph_of c) (rows_at rows) (entries_in arrivals.lists) ≡ meant (graph_of c) t arrivals.lists
told_meaning c rows t arrivals same = λ i. meaning (graph_of c) (λ n. same n i) (entries_in arrivals.lists)

-- a run in an order has the record that is given, if one is
pub ran_in : (order : Order) (c : CheckedGraph) (rows : List (List Item)) (run : Run) (told : Option Told) (counts now : PerName) → IsOrderOf c order → SourcesOf (S.Rows rows) c told counts now
    → ((g : Graph) → graph_of c ≡ g → map (λ l. l.op) run.arrivals.lists ≡ several g) → ((g : Graph) → graph_of c ≡ g → AreWhole g (ran g rows run) (entries_in run.arrivals.lists))
    → ((g : Graph) → graph_of c ≡ g → AreInOrder order g (ran g rows run) (entries_in run.arrivals.lists)) → RanIn c order run told
ran_in O.InTurn c rows run told counts now is are lists whole ordered = record { given = λ given e. cc; outcome = by told }
  where
    by : (told : Option Told) → IfSome told (λ t. run_outcome c t run.arrivals ≡ run_outcome c t run.arrivals)
    by None = tt
    by (Some t) = refl
ran_in (O.Recorded arrivals) c rows run told counts now is are lists whole ordered = record {
  given = λ given e. same ∙ (let one : arrivals ≡ given = cc in one);
  outcome = by told (are (graph_of c) refl).same;
}
  where
    same : run.arrivals ≡ arrivals
    same = same_record c run.arrivals arrivals (lists (graph_of c) refl) is (λ n op at many. ordered (graph_of c) refl n op at many)

    by : (told : Option Told) → IfSome told (λ t. (n : ℕ) → rows_at rows n ≡ rows_told (graph_of c) t n) → IfSome told (λ t. IsUnder t c arrivals (run_outcome c t run.arrivals))
    by None rows_are = tt
    by (Some t) rows_are = subst (λ (a : Arrivals). IsUnder t c a (run_outcome c t run.arrivals)) same (U.whole (
        subst (λ (m : Meaning). AreWhole (graph_of c) m (entries_in run.arrivals.lists)) (told_meaning c rows t run.arrivals rows_are) (whole (graph_of c) refl)))

-- a record isn't whole
pub not_whole : (order : Order) (c : CheckedGraph) (rows : List (List Item)) (op : ℕ) (told : Option Told) (counts now : PerName) → SourcesOf (S.Rows rows) c told counts now
    → ((g : Graph) → graph_of c ≡ g → StopsRun (L.NotWhole op) order g (rows_at rows)) → NotWholeFor c order op told
not_whole O.InTurn c rows op told counts now are stops = absurd (stops (graph_of c) refl)
not_whole (O.Recorded arrivals) c rows op told counts now are stops = record {
  recorded = λ e. cc;
  bad = (graph_of c, rows, arrivals, refl, (are (graph_of c) refl).fit, stops (graph_of c) refl);
  outcome = by told (are (graph_of c) refl).same;
}
  where
    by : (told : Option Told) → IfSome told (λ t. (n : ℕ) → rows_at rows n ≡ rows_told (graph_of c) t n) → IfSome told (λ t. (own : Arrivals) → IsUnder t c arrivals (BadArrivals c (Some op)))
    by None rows_are = tt
    by (Some t) rows_are = λ own. U.partial op
        (subst (λ (m : Meaning). IsFirstNotWhole (graph_of c) m (entries_in arrivals.lists) op) (told_meaning c rows t arrivals rows_are) (stops (graph_of c) refl))
