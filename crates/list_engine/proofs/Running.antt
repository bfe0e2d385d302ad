-- The run of one operator of a checked graph.
use Rattle.std.proofs.Common.{◌≡◌, ℕ, zero, suc, ◌<◌, ◌^◌, nat_lt, Bool, true, false, if◌then◌else◌, List, [], ◌∷◌, ◌++◌, map, refl, sym, ap, subst, ◌∙◌, length, replicate, slice_get, Option, Some, None, is_some, sum_by, arith}
use Rattle.std.specs.Prelude.{slice_set}
use Rattle.std.specs.List.{concat, Contains}
use Rattle.std.specs.Option.{unwrap_or}
use Rattle.std.proofs.lemmas.Bool.{lt-ltb, ltb-true}
use Rattle.std.proofs.lemmas.List.{length-map}
use Rattle.std.proofs.lemmas.List.Elements.{Contains-append_right}
use Rattle.std.proofs.lemmas.Option.{slice_get_within}
use Rattle.spl_value.specs.declared.item.Fault.{Fault}
use Rattle.spl_value.specs.declared.item.Item.{Item}
use Rattle.spl_tree.specs.declared.graph.Op.{Op}
use Rattle.language_model.specs.declared.checked.CheckedClauses.{CheckedClauses}
use Rattle.language_model.specs.declared.checked.CheckedClauses.TheVariants as A
use Rattle.language_model.specs.CheckedGraph.{CheckedGraph}
use Rattle.language_model.specs.Keeping.{Keeps}
use Rattle.stream_model.specs.Arrivals.{entries_in, has_several}
use Rattle.stream_model.specs.CheckedMeaning.{graph_of, schema_at}
use Rattle.stream_model.specs.Inputs.{inputs_of}
use Rattle.stream_model.specs.Meaning.{Graph, Entries, Meaning, events_of, lists_at, meaning}
use Rattle.stream_model.specs.Operators.{Operator, connections, output_attributes}
use Rattle.stream_model.specs.Records.{is_whole}
use Rattle.stream_model.specs.Stream.{Event, is_closed, TuplesFit}
use Rattle.spl_value.proofs.Lists.{at_most_sum, contains_here, count_concat}
use Rattle.list_engine.specs.declared.operator.Given.{Given}
use Rattle.list_engine.specs.declared.run_order.Order.{Order}
use Rattle.list_engine.specs.declared.run_order.Order.TheVariants.{InTurn, Recorded}
use Rattle.list_engine.specs.declared.run_order.RunAnswer.{RunAnswer}
use Rattle.list_engine.specs.declared.run_order.RunAnswer.TheVariants.{NotWhole, Memory}
use Rattle.list_engine.specs.declared.state.State.{State}
use Rattle.list_engine.specs.RunOrders.{Follows, StopsRun}
use Rattle.stream_model.specs.Runs.{IsFirstNotWhole, rows_at}
use Rattle.list_engine.specs.Runs.{is_source}
use Rattle.list_engine.specs.steps.Keeping.{GivesNothing, HasRoom, IsKept, kept_ports}
use Rattle.list_engine.specs.steps.Recording.{entries_at}
use Rattle.list_engine.specs.steps.Replaying.{FailsOn, RanIn, Stops}
use Rattle.list_engine.specs.steps.Running.{Advances, HasPlaces, IsOther, IsSource, Means, Ready, LeftToRun, StopsAt}
use Rattle.list_engine.specs.steps.Table.{StaysFor}
use Rattle.list_engine.specs.steps.Taking.{AreInputs, HasGiven, Task, task_of}
use Rattle.list_engine.proofs.Advances.{advances}
use Rattle.list_engine.proofs.Advancing.{are_inputs, inputs_are}
use Rattle.list_engine.proofs.GraphOperators.{is_numbered}
use Rattle.list_engine.proofs.Operators.{Here, its_op, made_by_source, number_is, other_is_right, out_is, rows_are}
use Rattle.list_engine.proofs.Orders.{not_before}
use Rattle.list_engine.proofs.Places.{get_set_other, set_length}
use Rattle.list_engine.proofs.Ports.{mapped, out_within, outs_once, source_out}
use Rattle.stream_model.proofs.GraphParts.{operator_at}

-- ---- places

pub ready_places : (c : CheckedGraph) (order : Order) (later : List ℕ) (n : ℕ) (state : State) → Ready c order n later state → HasPlaces c state
ready_places c order later n state ready = ((ready.1 (graph_of c) refl).1).places

pub has_room : (c : CheckedGraph) (n : ℕ) (op : Op) (state : State) → Keeps c → slice_get c.graph.ops n ≡ Some op → HasPlaces c state → HasRoom op n state
has_room c n op state k there places =
    let within : n < length c.graph.ops = slice_get_within c.graph.ops n op there in
    let sinks = places.sinks in
    let faults = places.faults in
    let inputs = places.inputs in
    record {
      once = outs_once c k n op there;
      streams = λ s among. subst (λ l. s < l) (sym places.streams) (out_within c k n op there s among);
      sinks = omega (arith, within, sinks);
      faults = omega (arith, within, faults);
      inputs = omega (arith, within, inputs);
    }

-- the operator of an invocation
same_op : (c : CheckedGraph) (g : Graph) (n : ℕ) (op : Op) (o : Operator) → graph_of c ≡ g → slice_get c.graph.ops n ≡ Some op → slice_get g.ops n ≡ Some o
    → (o.outs ≡ op.outs) × (connections o ≡ concat op.ins)
same_op c g n op o e there at =
    let is = operator_at c g e n o at in
    let same : is.op ≡ op = (let both : Some is.op ≡ Some op = sym is.there ∙ there in cc) in (
      ap (λ (x : Operator). x.outs) is.same ∙ ap (λ (x : Op). x.outs) same,
      ap connections is.same ∙ ap (λ (x : Op). concat x.ins) same,
    )

here_of : (c : CheckedGraph) (order : Order) (g : Graph) (rows : List (List Item)) (later : List ℕ) (n : ℕ) (o : Operator) (state : State) → Keeps c → graph_of c ≡ g → slice_get g.ops n ≡ Some o
    → (st : LeftToRun c order g rows (n ∷ later) state) → Here c g st.before later n o
here_of c order g rows later n o state k e at st = record { keeps = k; graph = e; at = at; order = st.split }

-- ---- a source

clauses_are : (part : CheckedClauses) → is_source part ≡ true → (file : List ℕ) × (strict : Bool) × (part ≡ A.FileSource file strict)
clauses_are (A.FileSource file strict) e = (file, strict, refl)
clauses_are (A.FileSink file) e = absurd cc
clauses_are (A.Filter condition) e = absurd cc
clauses_are (A.Functor condition output) e = absurd cc
clauses_are (A.Punctor condition position) e = absurd cc
clauses_are (A.Split index) e = absurd cc
clauses_are (A.Union places) e = absurd cc
clauses_are (A.Custom handlers) e = absurd cc
clauses_are (A.Aggregate window partition group output) e = absurd cc
clauses_are (A.Join left right condition output) e = absurd cc

no_ins : (ins : List (List ℕ)) → length ins ≡ 0 → has_several (concat ins) ≡ false
no_ins [] e = refl
no_ins (streams ∷ ins) e = absurd (omega (arith, e))

first_out : (outs : List ℕ) (p s : ℕ) → length outs ≡ 1 → slice_get outs p ≡ Some s → (p ≡ 0)
first_out outs p s one at = let within = slice_get_within outs p s at in omega (arith, within, one)

pub only_port : (outs : List ℕ) (items : List Item) → length outs ≡ 1 → length (items ∷ []) ≡ kept_ports outs
only_port [] items e = refl
only_port (s ∷ outs) items e = sym e

pub source_ports : (c : CheckedGraph) (n : ℕ) (op : Op) → Keeps c → IsSource c n → slice_get c.graph.ops n ≡ Some op → (length op.outs ≡ 1) × (length op.ins ≡ 0)
source_ports c n op k source there =
    let o = source (graph_of c) refl in
    let is = operator_at c (graph_of c) refl n o.0 o.1 in
    let same : is.op ≡ op = (let both : Some is.op ≡ Some op = sym is.there ∙ there in cc) in
    subst (λ (x : Op). (length x.outs ≡ 1) × (length x.ins ≡ 0)) same
    (source_out c n is.op is.part k is.there is.has (ap (λ (x : Operator). is_source x.clauses) (sym is.same) ∙ o.2))

pub source_advances : (c : CheckedGraph) (order : Order) (later : List ℕ) (n : ℕ) (op : Op) (old new : State) (items : List Item) (set_rows : List (List Item)) → Keeps c → IsSource c n
    → slice_get c.graph.ops n ≡ Some op → slice_get old.rows n ≡ Some items → set_rows ≡ slice_set old.rows n []
    → IsKept op.outs n (record { outs = items ∷ []; inputs = None }) None (record old { rows = set_rows }) new → Advances c order n later old new
source_advances c order later n op old new items set_rows k source there at_rows made kept g rows e fit st =
    let o = source g e in
    let h : Here c g st.before later n o.0 = here_of c order g rows later n o.0 old k e o.1 st in
    let same = same_op c g n op o.0 e there o.1 in
    let ports = source_ports c n op k source there in
    let within : n < length c.graph.ops = slice_get_within c.graph.ops n op there in
    let inputs = st.places.inputs in
    let one : length o.0.outs ≡ 1 = ap length same.0 ∙ ports.0 in
    let alone : has_several (connections o.0) ≡ false = ap has_several same.1 ∙ no_ins op.ins ports.1 in
    advances c order g rows later n o.0 (record { outs = items ∷ []; inputs = None }) None old (record old { rows = set_rows }) new st h
    (record {
      streams = record { count = refl; others = λ s other. refl; wanted = λ s read. refl };
      rows = λ m among. ap (λ t. rows_at t m) made
          ∙ ap (λ x. unwrap_or x []) (get_set_other old.rows n m [] (λ same_number. not_before c g k e st.before later n m st.split among
          (subst (Contains (st.before ++ n ∷ [])) same_number (Contains-append_right st.before (n ∷ []) n (contains_here n [])))));
      count = ap length made ∙ set_length old.rows n [];
      sinks = refl;
      faults = refl;
      inputs = refl;
    })
    (subst (λ outs. IsKept outs n (record { outs = items ∷ []; inputs = None }) None (record old { rows = set_rows }) new) (sym same.0) kept)
    (omega (arith, within, inputs))
    ((λ none. absurd (let zero_outs = ap length none in omega (arith, zero_outs, one))), (λ none. absurd (let zero_outs = ap length none in omega (arith, zero_outs, one))))
    (sym alone)
    (λ entries means own.
    let m : Meaning = meaning g (rows_at rows) entries in
    let kind = clauses_are o.0.clauses o.2 in
    let first : rows_at rows n ≡ items = sym (st.left n (contains_here n later)) ∙ ap (λ x. unwrap_or x []) at_rows in
    let is = its_op c g st.before later n o.0 h in
    let gives : (p s : ℕ) → slice_get o.0.outs p ≡ Some s → m.streams s ≡ rows_at rows n =
    λ p s at. out_is c g st.before later n o.0 h (rows_at rows) entries p s at
    ∙ made_by_source o.0.clauses o.0 p (events_of o.0 m.streams (entries o.0.number)) (rows_at rows o.0.number) o.2
    ∙ ap (rows_at rows) (number_is c g st.before later n o.0 h) in
    let schema : (s : ℕ) → slice_get o.0.outs 0 ≡ Some s → output_attributes o.0 0 ≡ schema_at c s =
    λ s at. ap (λ (x : Operator). output_attributes x 0) is.same ∙ mapped (schema_at c) is.op.outs 0 s (ap (λ (x : Operator). slice_get x.outs 0) (sym is.same) ∙ at) in
    record {
      streams = λ p s at. (
          let zeroth : p ≡ 0 = first_out o.0.outs p s one at in
          ap (slice_get (items ∷ [])) zeroth ∙ ap (λ xs. Some xs) (sym first) ∙ ap (λ xs. Some xs) (sym (gives p s at)));
      closed = λ p s at. ap is_closed (gives p s at) ∙ fit.closed n o.0 kind.0 kind.1 o.1 kind.2;
      fit = λ p s at. (
          let zeroth : p ≡ 0 = first_out o.0.outs p s one at in
          subst (TuplesFit (schema_at c s)) (sym (gives p s at))
          (subst (λ x. TuplesFit x (rows_at rows n)) (schema s (ap (slice_get o.0.outs) (sym zeroth) ∙ at)) (fit.fit n o.0 kind.0 kind.1 o.1 kind.2)));
      sink = λ none. absurd (let zero_outs = ap length none in omega (arith, zero_outs, one));
      end_fault = λ none. absurd (let zero_outs = ap length none in omega (arith, zero_outs, one));
      whole = λ several. absurd (let clash : false ≡ true = sym alone ∙ several in cc);
    })
    (λ entries means several own. absurd (let clash : false ≡ true = sym alone ∙ several in cc))

-- ---- another operator

pub inputs_there : (c : CheckedGraph) (order : Order) (later : List ℕ) (n : ℕ) (op : Op) (state : State) (ss : List ℕ) → Keeps c → slice_get c.graph.ops n ≡ Some op → Ready c order n later state → ss ≡ concat op.ins
    → (s : ℕ) → Contains ss s → s < length state.streams
inputs_there c order later n op state ss k there ready same s among =
    subst (λ l. s < l) (sym (ready_places c order later n state ready).streams) (k.graph.taken n op there s (subst (λ xs. Contains xs s) same among))

pub few_inputs : (c : CheckedGraph) (n : ℕ) (op : Op) (ss : List ℕ) (table lists : List (List Item)) → Keeps c → slice_get c.graph.ops n ≡ Some op → ss ≡ concat op.ins
    → lists ≡ map (rows_at table) ss → length lists < 2 ^ 30
few_inputs c n op ss table lists k there same made =
    let count : length lists ≡ sum_by length op.ins = ap length made ∙ length-map ss (rows_at table) ∙ ap length same ∙ count_concat op.ins in
    let most = at_most_sum (λ (x : Op). sum_by length x.ins) c.graph.ops n op there in
    let all = k.graph.connections in
    omega (arith, count, most, all)

pub takes_inputs : {S : Type 0} (spec : S → Operator) (stands : S → List Event → Type 0) (c : CheckedGraph) (order : Order) (later : List ℕ) (n : ℕ) (op : Op) (s : S) (state : State) (ss : List ℕ)
    (lists : List (List Item)) → Keeps c → IsOther spec stands c n s → slice_get c.graph.ops n ≡ Some op → Ready c order n later state → ss ≡ concat op.ins → lists ≡ map (rows_at state.streams) ss
    → AreInputs (spec s) lists
takes_inputs spec stands c order later n op s state ss lists k other there ready same made =
    let g : Graph = graph_of c in
    let o = other g refl in
    let st = (ready.1 g refl).1 in
    let h : Here c g st.before later n o.0 = here_of c order g ready.0 later n o.0 state k refl o.1 st in
    let entries : Entries = entries_at state.inputs in
    let means = st.means entries (λ m x among at many. refl) in
    let m : Meaning = meaning g (rows_at ready.0) entries in
    let lists_are : map m.streams (connections o.0) ≡ lists =
    sym (inputs_are c g st.before later n o.0 h m entries state means)
    ∙ ap (map (rows_at state.streams)) ((same_op c g n op o.0 refl there o.1).1 ∙ sym same) ∙ sym made in
    subst (λ (x : Operator). AreInputs x lists) (sym o.3)
    (subst (AreInputs o.0) lists_are (are_inputs c g st.before later n o.0 h o.2 m entries state means))

many_nothing : (n p : ℕ) → p < n → slice_get (replicate {A = List Item} n []) p ≡ Some []
many_nothing zero p lt = absurd (omega (arith, lt))
many_nothing (suc n) zero lt = refl
many_nothing (suc n) (suc p) lt = many_nothing n p (omega (arith, lt))

count_nothing : (n : ℕ) → length (replicate {A = List Item} n []) ≡ n
count_nothing zero = refl
count_nothing (suc n) = let rest = count_nothing n in omega (arith, rest)

pub gives_nothing : (op : Operator) (outs : List ℕ) (inputs : ℕ) (given : Given) → GivesNothing outs inputs given → HasGiven (task_of op given) [] given
gives_nothing op outs inputs given h = record {
  count = refl;
  outs = λ p within. ap (λ t. slice_get t p) h.lists ∙ many_nothing (kept_ports outs) p
      (let count = ap length h.lists ∙ count_nothing (kept_ports outs) in omega (arith, within, count));
  inputs = go (nat_lt 1 inputs) h.entries;
  fit = λ p. tt;
}
  where
    go : (b : Bool) → given.inputs ≡ (if b then Some [] else None) → given.inputs ≡ (if is_some given.inputs then Some [] else None)
    go true e = e ∙ ap (λ x. if is_some x then Some [] else None) (sym e)
    go false e = e ∙ ap (λ x. if is_some x then Some [] else None) (sym e)

more_than_one : (ss : List ℕ) → nat_lt 1 (length ss) ≡ has_several ss
more_than_one [] = refl
more_than_one (s ∷ []) = refl
more_than_one (s ∷ t ∷ ss) = lt-ltb 1 (length (s ∷ t ∷ ss)) (omega arith)

is_recorded : (several : Bool) (inputs : Option (List ℕ)) → inputs ≡ (if several then Some [] else None) → is_some inputs ≡ several
is_recorded true inputs e = ap is_some e
is_recorded false inputs e = ap is_some e

recorded_as : (several : Bool) (inputs : Option (List ℕ)) (xs : List ℕ) → inputs ≡ (if several then Some xs else None) → is_some inputs ≡ several
recorded_as true inputs xs e = ap is_some e
recorded_as false inputs xs e = ap is_some e

-- what was recorded of an operator with several connections
entries_of : {order : Order} {task : Task} {lists : List (List Item)} {given : Given} {fault : Option Fault} {several : Bool} (ran : RanIn order task lists given fault) → task.recorded ≡ several
    → several ≡ true → unwrap_or given.inputs [] ≡ inputs_of ran.done
entries_of ran recorded more = ap (λ x. unwrap_or x []) (ran.gave.inputs ∙ ap (λ b. if b then Some (inputs_of ran.done) else None) (recorded ∙ more))

pub other_advances : {S : Type 0} (spec : S → Operator) (stands : S → List Event → Type 0) (c : CheckedGraph) (order : Order) (later : List ℕ) (n : ℕ) (op : Op) (s : S) (old new : State) (ss : List ℕ)
    (table lists : List (List Item)) (first given : Given) (fault : Option Fault) → Keeps c → IsOther spec stands c n s → slice_get c.graph.ops n ≡ Some op → ss ≡ concat op.ins
    → lists ≡ map (rows_at old.streams) ss → ((g : Graph) → graph_of c ≡ g → StaysFor g later ss old.streams table) → GivesNothing op.outs (length lists) first
    → RanIn order (task_of (spec s) first) lists given fault → IsKept op.outs n given fault (record old { streams = table }) new → Advances c order n later old new
other_advances spec stands c order later n op s old new ss table lists first given fault k other there same made left begins ran kept g rows e fit st =
    let o = other g e in
    let h : Here c g st.before later n o.0 = here_of c order g rows later n o.0 old k e o.1 st in
    let parts = same_op c g n op o.0 e there o.1 in
    let streams_are : ss ≡ connections o.0 = same ∙ sym parts.1 in
    let within : n < length c.graph.ops = slice_get_within c.graph.ops n op there in
    let inputs = st.places.inputs in
    let sinks = st.places.sinks in
    let faults = st.places.faults in
    let many : length lists ≡ length (connections o.0) = ap length made ∙ length-map ss (rows_at old.streams) ∙ ap length streams_are in
    let several : is_some first.inputs ≡ has_several (connections o.0) =
    is_recorded (nat_lt 1 (length lists)) first.inputs begins.entries ∙ ap (nat_lt 1) many ∙ more_than_one (connections o.0) in
    let kept_count : length first.outs ≡ kept_ports o.0.outs = ap length begins.lists ∙ count_nothing (kept_ports op.outs) ∙ ap kept_ports (sym parts.0) in
    let task : Task = record { op = o.0; ports = kept_ports o.0.outs; recorded = is_some first.inputs } in
    let task_is : task_of (spec s) first ≡ task = (let op_is : spec s ≡ o.0 = o.3 in λ i. record { op = op_is i; ports = kept_count i; recorded = is_some first.inputs }) in
    let ran_on : (entries : Entries) → Means c g (meaning g (rows_at rows) entries) entries st.before (n ∷ later) old
    → RanIn order task (map (meaning g (rows_at rows) entries).streams (connections o.0)) given fault = λ entries means.
    let m : Meaning = meaning g (rows_at rows) entries in
    let lists_are : lists ≡ map m.streams (connections o.0) =
    made ∙ ap (map (rows_at old.streams)) streams_are ∙ inputs_are c g st.before later n o.0 h m entries old means in
    subst (λ (t : Task). RanIn order t (map m.streams (connections o.0)) given fault) task_is
    (subst (λ ls. RanIn order (task_of (spec s) first) ls given fault) lists_are ran) in
    advances c order g rows later n o.0 given fault old (record old { streams = table }) new st h
    (record {
      streams = subst (λ xs. StaysFor g later xs old.streams table) streams_are (left g e);
      rows = λ m among. refl;
      count = refl;
      sinks = refl;
      faults = refl;
      inputs = refl;
    })
    (subst (λ outs. IsKept outs n given fault (record old { streams = table }) new) (sym parts.0) kept)
    (omega (arith, within, inputs))
    ((λ none. omega (arith, within, sinks)), (λ none. omega (arith, within, faults)))
    (recorded_as (is_some first.inputs) given.inputs (inputs_of ran.done) ran.gave.inputs ∙ several)
    (λ entries means own.
    let m : Meaning = meaning g (rows_at rows) entries in
    let own_ran = ran_on entries means in
    other_is_right c g st.before later n o.0 h o.2 (rows_at rows) entries given fault order (is_some first.inputs) own_ran
    (λ more. own more ∙ entries_of own_ran several more))
    (λ entries means more own.
    let m : Meaning = meaning g (rows_at rows) entries in
    let own_ran = ran_on entries means in
    let count : length (map m.streams (connections o.0)) ≡ length (connections o.0) = length-map (connections o.0) m.streams in
    let some_more : 1 < length (connections o.0) = ltb-true 1 (length (connections o.0)) (more_than_one (connections o.0) ∙ more) in
    let number : o.0.number ≡ n = number_is c g st.before later n o.0 h in
    subst (λ l. Follows order o.0 l (entries o.0.number)) (rows_are m.streams (connections o.0))
    (subst (Follows order o.0 (rows_at (map m.streams (connections o.0)))) (sym (ap entries number ∙ own ∙ entries_of own_ran several more))
    (own_ran.follows (omega (arith, count, some_more)))))

-- ---- an operator whose record isn't whole

pub other_stops : {S : Type 0} (spec : S → Operator) (stands : S → List Event → Type 0) (c : CheckedGraph) (order : Order) (later : List ℕ) (n : ℕ) (op : Op) (s : S) (old : State) (ss : List ℕ)
    (lists : List (List Item)) (answer : RunAnswer) → Keeps c → IsOther spec stands c n s → slice_get c.graph.ops n ≡ Some op → ss ≡ concat op.ins → lists ≡ map (rows_at old.streams) ss
    → Stops n (FailsOn order (spec s) lists) answer → StopsAt c order n later old answer
other_stops spec stands c order later n op s old ss lists answer k other there same made stops g rows e st = go order answer stops st
  where
    go : (order : Order) (answer : RunAnswer) → Stops n (FailsOn order (spec s) lists) answer → LeftToRun c order g rows (n ∷ later) old → StopsRun answer order g (rows_at rows)
    go order Memory stops st = tt
    go InTurn (NotWhole number) stops st = absurd stops.1
    go (Recorded arrivals) (NotWhole number) stops st =
        let o = other g e in
        let h : Here c g st.before later n o.0 = here_of c (Recorded arrivals) g rows later n o.0 old k e o.1 st in
        let entries : Entries = entries_in arrivals.lists in
        let m : Meaning = meaning g (rows_at rows) entries in
        let means = st.means entries (λ k p among at many.
        let number_of : p.number ≡ k = is_numbered c g e k p at in
        let own : entries_at old.inputs p.number ≡ entries p.number = st.ordered (entries_at old.inputs) (λ k p among at many. refl) k p among at many in
        ap entries (sym number_of) ∙ sym own ∙ ap (entries_at old.inputs) number_of) in
        let streams_are : ss ≡ connections o.0 = same ∙ sym (same_op c g n op o.0 e there o.1).1 in
        let lists_are : lists ≡ map m.streams (connections o.0) =
        made ∙ ap (map (rows_at old.streams)) streams_are ∙ inputs_are c g st.before later n o.0 h m entries old means in
        let many : length lists ≡ length (connections o.0) = ap length lists_are ∙ length-map (connections o.0) m.streams in
        let more : 1 < length lists = stops.1.0 in
        let streams : lists_at m.streams (connections o.0) ≡ rows_at lists = sym (rows_are m.streams (connections o.0)) ∙ ap rows_at (sym lists_are) in
        subst (IsFirstNotWhole g m entries) (sym stops.0) (record {
          op = o.0;
          there = o.1;
          several = sym (more_than_one (connections o.0)) ∙ lt-ltb 1 (length (connections o.0)) (omega (arith, many, more));
          not_whole = ap (λ l. is_whole o.0 l (entries o.0.number)) streams ∙ subst (λ (x : Operator). is_whole x (rows_at lists) (entries x.number) ≡ false) o.3 stops.1.1;
          before = st.before;
          behind = later;
          order = st.split;
          earlier = means.whole;
        })

-- ---- the places of a state of which something was taken

pub rows_taken : (c : CheckedGraph) (n : ℕ) (state : State) (set_rows : List (List Item)) → HasPlaces c state → set_rows ≡ slice_set state.rows n []
    → HasPlaces c (record state { rows = set_rows })
rows_taken c n state set_rows places made = record {
  streams = places.streams;
  rows = ap length made ∙ set_length state.rows n [] ∙ places.rows;
  sinks = places.sinks;
  faults = places.faults;
  inputs = places.inputs;
}

pub streams_taken : (c : CheckedGraph) (later ss : List ℕ) (state : State) (table : List (List Item)) → HasPlaces c state
    → ((g : Graph) → graph_of c ≡ g → StaysFor g later ss state.streams table) → HasPlaces c (record state { streams = table })
streams_taken c later ss state table places left = record {
  streams = (left (graph_of c) refl).count ∙ places.streams;
  rows = places.rows;
  sinks = places.sinks;
  faults = places.faults;
  inputs = places.inputs;
}
