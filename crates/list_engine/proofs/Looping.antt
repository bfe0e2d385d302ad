-- A run while its operators are run in their order.
use Rattle.std.proofs.Common.{◌≡◌, ℕ, zero, suc, ◌<◌, ◌==◌, ◌||◌, true, false, List, [], ◌∷◌, ◌++◌, append-nil, map, refl, sym, ap, subst, ◌∙◌, length, replicate, slice_get, Option, Some, None, inl, inr, arith}
use Rattle.std.specs.Prelude.{slice_set}
use Rattle.std.specs.List.{Contains, list_any}
use Rattle.std.proofs.lemmas.Bool.{cases_Bool, eq-eqb, or_right}
use Rattle.std.proofs.lemmas.List.Elements.{Contains-append_right}
use Rattle.std.proofs.lemmas.Option.{slice_get_within}
use Rattle.spl_value.specs.declared.item.Item.{Item}
use Rattle.language_model.specs.CheckedGraph.{CheckedGraph}
use Rattle.language_model.specs.Keeping.{Keeps}
use Rattle.stream_model.specs.Arrivals.{entries_in, several}
use Rattle.stream_model.specs.CheckedMeaning.{graph_of}
use Rattle.stream_model.specs.Ends.{run_fault}
use Rattle.stream_model.specs.Laws.{is_made}
use Rattle.stream_model.specs.Meaning.{Graph, meaning}
use Rattle.stream_model.specs.Operators.{Operator}
use Rattle.stream_model.specs.Stream.{Event}
use Rattle.stream_model.specs.declared.record.ArrivalList.{ArrivalList}
use Rattle.spl_value.proofs.Lists.{contains_here, contains_later, get_below}
use Rattle.list_engine.specs.declared.run_order.Order.{Order}
use Rattle.list_engine.specs.declared.state.State.{State}
use Rattle.list_engine.specs.RunOrders.{AreInOrder}
use Rattle.list_engine.specs.Runs.{AreOperators, is_source}
use Rattle.stream_model.specs.Runs.{AreWhole, RowsFit, SinksGiven, rows_at}
use Rattle.list_engine.specs.steps.Faults.{kept_faults}
use Rattle.list_engine.specs.steps.Reading.{ops_at}
use Rattle.list_engine.specs.steps.Recording.{lists_from}
use Rattle.list_engine.specs.steps.Running.{Advances, Agrees, AreLeft, IsOther, IsSource, Means, Ready, LeftToRun}
use Rattle.list_engine.proofs.Faults.{faults_are}
use Rattle.list_engine.proofs.GraphOperators.{is_numbered, operator_there}
use Rattle.list_engine.proofs.Orders.{made_from, not_before}
use Rattle.list_engine.proofs.Places.{get_set_other, set_length}
use Rattle.list_engine.proofs.Ports.{out_within}
use Rattle.list_engine.proofs.Recording.{entries_are, numbers_are}
use Rattle.std.proofs.lemmas.List.{length-replicate}
use Rattle.stream_model.proofs.GraphParts.{same_topo, same_length, operator_at}

-- ---- the operators

pub all_left : {S : Type 0} (spec : S → Operator) (stands : S → List Event → Type 0) (g : Graph) (operators : List (Option S)) → AreOperators spec stands g operators
    → AreLeft spec stands g g.topo operators
all_left spec stands g operators a = record {
  count = a.count;
  sources = λ n o among at is. a.sources n o at is;
  others = λ n o among at is. a.others n o at is;
}

-- one was taken out
pub fewer_left : {S : Type 0} (spec : S → Operator) (stands : S → List Event → Type 0) (c : CheckedGraph) (g : Graph) → Keeps c → graph_of c ≡ g → (before later : List ℕ) (n : ℕ)
    (operators new : List (Option S)) → g.topo ≡ before ++ n ∷ later → AreLeft spec stands g (n ∷ later) operators → new ≡ slice_set operators n None → AreLeft spec stands g later new
fewer_left spec stands c g k e before later n operators new order a made = record {
  count = ap length made ∙ set_length operators n None ∙ a.count;
  sources = λ m o among at is. ap (λ xs. slice_get xs m) made ∙ get_set_other operators n m None (apart m among) ∙ a.sources m o (contains_later n m later among) at is;
  others = λ m o among at is.
      let x = a.others m o (contains_later n m later among) at is in
      (x.0, ap (λ xs. slice_get xs m) made ∙ get_set_other operators n m None (apart m among) ∙ x.1, x.2, x.3);
}
  where
    apart : (m : ℕ) → Contains later m → n ≡ m → ⊥
    apart m among same = not_before c g k e before later n m order among
        (subst (Contains (before ++ n ∷ [])) same (Contains-append_right before (n ∷ []) n (contains_here n [])))

-- what is there says whether it is a source
pub none_is_source : {S : Type 0} (spec : S → Operator) (stands : S → List Event → Type 0) (c : CheckedGraph) (later : List ℕ) (n : ℕ) (operators : List (Option S)) → Keeps c → n < length c.graph.ops
    → ((g : Graph) → graph_of c ≡ g → AreLeft spec stands g (n ∷ later) operators) → slice_get operators n ≡ Some None → IsSource c n
none_is_source spec stands c later n operators k lt left there g e =
    let o = operator_there c g k e n lt in
    elim (cases_Bool (is_source o.0.clauses)) [
      | inl is ↦ (o.0, o.1, is)
      | inr other ↦ (
          let x = (left g e).others n o.0 (contains_here n later) o.1 other in
          absurd (let clash : Some None ≡ Some (Some x.0) = sym there ∙ x.1 in cc))
    ]

pub some_is_other : {S : Type 0} (spec : S → Operator) (stands : S → List Event → Type 0) (c : CheckedGraph) (later : List ℕ) (n : ℕ) (operators : List (Option S)) (s : S) → Keeps c
    → n < length c.graph.ops → ((g : Graph) → graph_of c ≡ g → AreLeft spec stands g (n ∷ later) operators) → slice_get operators n ≡ Some (Some s) → IsOther spec stands c n s
some_is_other spec stands c later n operators s k lt left there g e =
    let o = operator_there c g k e n lt in
    elim (cases_Bool (is_source o.0.clauses)) [
      | inl is ↦ absurd (let clash : Some (Some s) ≡ Some None = sym there ∙ (left g e).sources n o.0 (contains_here n later) o.1 is in cc)
      | inr other ↦ (
          let x = (left g e).others n o.0 (contains_here n later) o.1 other in
          let both : Some (Some x.0) ≡ Some (Some s) = sym x.1 ∙ there in
          let same : x.0 ≡ s = cc in
          (o.0, o.1, other, ap spec (sym same) ∙ x.2, subst (λ t. stands t []) same x.3))
    ]

pub number_within : (c : CheckedGraph) (order : Order) (later : List ℕ) (n : ℕ) (state : State) → Keeps c → Ready c order n later state → n < length c.graph.ops
number_within c order later n state k ready =
    let st = (ready.1 (graph_of c) refl).1 in
    (k.graph.ordered.all n).0 (subst (λ ns. Contains ns n) (sym st.split) (Contains-append_right st.before (n ∷ later) n (contains_here n later)))

-- there is a place for it among the operators
pub operators_count : {S : Type 0} (spec : S → Operator) (stands : S → List Event → Type 0) (c : CheckedGraph) (order : Order) (later : List ℕ) (n : ℕ) (operators : List (Option S)) (state : State)
    → Keeps c → ((g : Graph) → graph_of c ≡ g → AreLeft spec stands g (n ∷ later) operators) → Ready c order n later state → n < length operators
operators_count spec stands c order later n operators state k left ready =
    let within = number_within c order later n state k ready in
    let same = same_length c (graph_of c) k refl in
    let count = (left (graph_of c) refl).count in
    omega (arith, within, same, count)

-- ---- the loop

-- the operators of the rest of the order are still to be run
pub record Remains {S : Type 0} (spec : S → Operator) (stands : S → List Event → Type 0) (c : CheckedGraph) (order : Order) (rows : List (List Item)) (rest : List ℕ) (operators : List (Option S))
    (state : State) : Type 0 where
  pub left : (g : Graph) → graph_of c ≡ g → AreLeft spec stands g rest operators
  pub fit : (g : Graph) → graph_of c ≡ g → RowsFit g rows
  pub stood : (g : Graph) → graph_of c ≡ g → LeftToRun c order g rows rest state

pub remains_ready : {S : Type 0} (spec : S → Operator) (stands : S → List Event → Type 0) (c : CheckedGraph) (order : Order) (rows : List (List Item)) (rest later : List ℕ) (n : ℕ) (operators : List (Option S))
    (state : State) → Remains spec stands c order rows rest operators state → rest ≡ n ∷ later → Ready c order n later state
remains_ready spec stands c order rows rest later n operators state r next =
    (rows, λ g e. (r.fit g e, subst (λ ns. LeftToRun c order g rows ns state) next (r.stood g e)))

pub remains_left : {S : Type 0} (spec : S → Operator) (stands : S → List Event → Type 0) (c : CheckedGraph) (order : Order) (rows : List (List Item)) (rest later : List ℕ) (n : ℕ) (operators : List (Option S))
    (state : State) → Remains spec stands c order rows rest operators state → rest ≡ n ∷ later → (g : Graph) → graph_of c ≡ g → AreLeft spec stands g (n ∷ later) operators
remains_left spec stands c order rows rest later n operators state r next g e = subst (λ ns. AreLeft spec stands g ns operators) next (r.left g e)

pub remains_next : {S : Type 0} (spec : S → Operator) (stands : S → List Event → Type 0) (c : CheckedGraph) (order : Order) (rows : List (List Item)) (rest later : List ℕ) (n : ℕ)
    (operators new_operators : List (Option S)) (state new_state : State) → Remains spec stands c order rows rest operators state → rest ≡ n ∷ later
    → ((g : Graph) → graph_of c ≡ g → AreLeft spec stands g later new_operators) → Advances c order n later state new_state → Remains spec stands c order rows later new_operators new_state
remains_next spec stands c order rows rest later n operators new_operators state new_state r next left advances = record {
  left = left;
  fit = r.fit;
  stood = λ g e. advances g rows e (r.fit g e) (subst (λ ns. LeftToRun c order g rows ns state) next (r.stood g e));
}

-- ---- before the first operator

-- each stream is made by an operator of the order
made_in : (c : CheckedGraph) (g : Graph) → Keeps c → graph_of c ≡ g → (s : ℕ) → s < length c.graph.streams → is_made (ops_at g g.topo) s ≡ true
made_in c g k e s lt =
    let x = get_below c.graph.streams s lt in
    let is = (k.graph.made s x.0).0 x.1 in
    let within : x.0.maker < length c.graph.ops = slice_get_within c.graph.ops x.0.maker is.0 is.1 in
    let o = operator_there c g k e x.0.maker within in
    let at = operator_at c g e x.0.maker o.0 o.1 in
    let same : at.op ≡ is.0 = (let both : Some at.op ≡ Some is.0 = sym at.there ∙ is.1 in cc) in
    let outs : o.0.outs ≡ is.0.outs = ap (λ y. y.outs) at.same ∙ ap (λ y. y.outs) same in
    made_from (slice_get g.ops) g.topo s x.0.maker o.0 (subst (λ ns. Contains ns x.0.maker) (sym (same_topo c g e)) ((k.graph.ordered.all x.0.maker).1 within)) o.1
    (ap (list_any (λ t. t == s)) outs ∙ found s is.0.outs x.0.port is.2)
  where
    found : (s : ℕ) (ns : List ℕ) (p : ℕ) → slice_get ns p ≡ Some s → list_any (λ t. t == s) ns ≡ true
    found s [] p at = absurd cc
    found s (n ∷ ns) zero at = let same : n ≡ s = cc in ap (λ b. b || list_any (λ t. t == s) ns) (eq-eqb n s same)
    found s (n ∷ ns) (suc p) at = or_right (n == s) (list_any (λ t. t == s) ns) (found s ns p at)

no_number : (n : ℕ) → Contains [] n → ⊥
no_number n h = let lt : h.0 < 0 = h.1 in omega (arith, lt)

pub begins : (c : CheckedGraph) (order : Order) (g : Graph) (rows : List (List Item)) (state : State) → Keeps c → graph_of c ≡ g → RowsFit g rows
    → state.streams ≡ replicate (length c.graph.streams) [] → state.rows ≡ rows → state.sinks ≡ replicate (length c.graph.ops) [] → state.faults ≡ replicate (length c.graph.ops) None
    → state.inputs ≡ replicate (length c.graph.ops) None → LeftToRun c order g rows g.topo state
begins c order g rows state k e fit streams same sinks faults inputs = record {
  before = [];
  split = refl;
  places = record {
    streams = ap length streams ∙ length-replicate (length c.graph.streams) [];
    rows = ap length same ∙ fit.count ∙ same_length c g k e;
    sinks = ap length sinks ∙ length-replicate (length c.graph.ops) [];
    faults = ap length faults ∙ length-replicate (length c.graph.ops) None;
    inputs = ap length inputs ∙ length-replicate (length c.graph.ops) None;
  };
  left = λ n among. ap (λ t. rows_at t n) same;
  recorded = λ n o among at. absurd (no_number n among);
  means = λ entries agrees. record {
    kept = λ s lt fresh wanted. absurd (let clash : true ≡ false = sym (made_in c g k e s lt) ∙ fresh in cc);
    closed = λ s lt fresh. absurd (let clash : true ≡ false = sym (made_in c g k e s lt) ∙ fresh in cc);
    fit = λ s lt fresh. absurd (let clash : true ≡ false = sym (made_in c g k e s lt) ∙ fresh in cc);
    sinks = λ n o among at none. absurd (no_number n among);
    faults = λ n o among at none. absurd (no_number n among);
    whole = λ n o among at several. absurd (no_number n among);
  };
  ordered = λ entries agrees n o among at several. absurd (no_number n among);
}

pub remains_first : {S : Type 0} (spec : S → Operator) (stands : S → List Event → Type 0) (c : CheckedGraph) (order : Order) (rows : List (List Item)) (rest : List ℕ) (operators : List (Option S))
    (state : State) → Keeps c → ((g : Graph) → graph_of c ≡ g → AreOperators spec stands g operators) → ((g : Graph) → graph_of c ≡ g → RowsFit g rows) → rest ≡ c.graph.topo
    → state.streams ≡ replicate (length c.graph.streams) [] → state.rows ≡ rows → state.sinks ≡ replicate (length c.graph.ops) [] → state.faults ≡ replicate (length c.graph.ops) None
    → state.inputs ≡ replicate (length c.graph.ops) None → Remains spec stands c order rows rest operators state
remains_first spec stands c order rows rest operators state k are fit is streams same sinks faults inputs = record {
  left = λ g e. subst (λ ns. AreLeft spec stands g ns operators) (same_topo c g e ∙ sym is) (all_left spec stands g operators (are g e));
  fit = fit;
  stood = λ g e. subst (λ ns. LeftToRun c order g rows ns state) (same_topo c g e ∙ sym is) (begins c order g rows state k e (fit g e) streams same sinks faults inputs);
}

-- ---- after the last operator

-- what is kept is all of the meaning, under the record that was made of it
module _ (c : CheckedGraph) (order : Order) (g : Graph) (rows : List (List Item)) (rest : List ℕ) (state : State) (lists : List ArrivalList) (k : Keeps c) (e : graph_of c ≡ g)
    (stood : LeftToRun c order g rows rest state) (over : length rest < 1) (recorded : lists ≡ lists_from 0 state.inputs) where
  none_rest : rest ≡ []
  none_rest = go rest over
    where
      go : (xs : List ℕ) → length xs < 1 → xs ≡ []
      go [] h = refl
      go (x ∷ xs) h = absurd (omega (arith, h))

  st : LeftToRun c order g rows [] state
  st = subst (λ ns. LeftToRun c order g rows ns state) none_rest stood

  among_all : (n : ℕ) (o : Operator) → slice_get g.ops n ≡ Some o → Contains st.before n
  among_all n o at =
      let within : n < length g.ops = slice_get_within g.ops n o at in
      let same = same_length c g k e in
      subst (λ ns. Contains ns n) (sym (same_topo c g e) ∙ st.split ∙ append-nil st.before) ((k.graph.ordered.all n).1 (omega (arith, within, same)))

  agrees_all : Agrees g st.before state.inputs (entries_in lists)
  agrees_all n o among at several = ap (λ ls. entries_in ls n) recorded ∙ entries_are state.inputs n

  means_all : Means c g (meaning g (rows_at rows) (entries_in lists)) (entries_in lists) st.before [] state
  means_all = st.means (entries_in lists) agrees_all

  pub sinks_given : SinksGiven g (meaning g (rows_at rows) (entries_in lists)) state.sinks
  sinks_given = record {
    count = st.places.sinks ∙ sym (same_length c g k e);
    given = λ n o at none. means_all.sinks n o (among_all n o at) at none;
  }

  pub whole_all : AreWhole g (meaning g (rows_at rows) (entries_in lists)) (entries_in lists)
  whole_all n o at several = means_all.whole n o (among_all n o at) at several

  pub ordered_all : AreInOrder order g (meaning g (rows_at rows) (entries_in lists)) (entries_in lists)
  ordered_all n o at several = st.ordered (entries_in lists) agrees_all n o (among_all n o at) at several

  pub fault_all : kept_faults g state 0 g.ops ≡ run_fault g (meaning g (rows_at rows) (entries_in lists))
  fault_all = faults_are c g (meaning g (rows_at rows) (entries_in lists)) (entries_in lists) st.before state means_all among_all
      (λ n o at s among. (
      let is = operator_at c g e n o at in
      out_within c k n is.op is.there s (subst (λ (x : Operator). Contains x.outs s) is.same among)))

  pub lists_all : map (λ (l : ArrivalList). l.op) lists ≡ several g
  lists_all =
      ap (map (λ (l : ArrivalList). l.op)) recorded
      ∙ numbers_are state.inputs g.ops (st.places.inputs ∙ sym (same_length c g k e)) (λ n o at. (is_numbered c g e n o at, st.recorded n o (among_all n o at) at))
