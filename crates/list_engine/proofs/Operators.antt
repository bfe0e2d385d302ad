-- What an operator of a checked graph makes of the streams of its inputs.
use Rattle.std.proofs.Common.{◌≡◌, ℕ, zero, suc, ◌+◌, ◌<◌, ◌==◌, nat_lt, not, cond, Bool, true, false, List, [], ◌∷◌, ◌++◌, append-nil, map, refl, sym, ap, subst, ◌∙◌, length, slice_get, Option, Some, None, position, arith}
use Rattle.std.specs.List.{cons_option, position_or_len}
use Rattle.std.specs.Option.{unwrap_or}
use Rattle.std.proofs.lemmas.Bool.{eq-eqb, ne_eqb, lt-ltb}
use Rattle.std.proofs.lemmas.List.Elements.{filter_map-append}
use Rattle.std.proofs.lemmas.Option.{slice_get_within}
use Rattle.spl_value.specs.declared.item.Fault.{Fault}
use Rattle.spl_value.specs.declared.item.Item.{Item}
use Rattle.language_model.specs.declared.checked.CheckedClauses.{CheckedClauses}
use Rattle.language_model.specs.declared.checked.CheckedClauses.TheVariants as A
use Rattle.language_model.specs.CheckedGraph.{CheckedGraph}
use Rattle.language_model.specs.Keeping.{Keeps, Once}
use Rattle.stream_model.specs.Arrivals.{has_several}
use Rattle.stream_model.specs.CheckedMeaning.{graph_of, schema_at}
use Rattle.stream_model.specs.parts.Ends.{operator_fault}
use Rattle.stream_model.specs.Inputs.{inputs_of}
use Rattle.stream_model.specs.Laws.{has_ended}
use Rattle.stream_model.specs.Meaning.{Graph, Lists, Entries, Meaning, arrive, events_at, events_of, in_topo, lists_at, made_by, makes, meaning}
use Rattle.stream_model.specs.Operators.{Operator, connections}
use Rattle.stream_model.specs.Records.{is_whole}
use Rattle.stream_model.specs.Replies.{given_attributes}
use Rattle.stream_model.specs.Stages.{out}
use Rattle.stream_model.specs.Stream.{Event, is_closed, TuplesFit}
use Rattle.stream_model.proofs.Closings.{out_closes}
use Rattle.stream_model.proofs.CheckedOperators.{OperatorAt}
use Rattle.stream_model.proofs.Graphs.{graph_law, events_law}
use Rattle.list_engine.specs.declared.operator.Given.{Given}
use Rattle.list_engine.specs.Runs.{is_source}
use Rattle.stream_model.specs.Runs.{rows_at}
use Rattle.list_engine.specs.steps.Keeping.{kept_ports}
use Rattle.list_engine.specs.steps.Reading.{ops_at}
use Rattle.list_engine.specs.declared.run_order.Order.{Order}
use Rattle.list_engine.specs.steps.Replaying.{RanIn, Takes}
use Rattle.list_engine.proofs.Ended.{ended_there, same_fault, same_out}
use Rattle.list_engine.proofs.GraphOperators.{is_numbered}
use Rattle.list_engine.proofs.Orders.{is_ordered}
use Rattle.list_engine.proofs.Ports.{output_schema, outs_once, some_input}
use Rattle.stream_model.proofs.GraphParts.{operator_at}

-- ---- which stream an output makes

place_is : (s : ℕ) (xs : List ℕ) (p : ℕ) → Once xs → slice_get xs p ≡ Some s → position_or_len (λ o. o == s) xs ≡ p
place_is s [] p once at = absurd cc
place_is s (x ∷ xs) zero once at =
    let same : x ≡ s = cc in ap (λ b. cond (not b) (1 + position_or_len (λ o. o == s) xs) 0) (eq-eqb x s same)
place_is s (x ∷ xs) (suc p) once at =
    let apart : x ≡ s → ⊥ = λ same. (let clash : 0 ≡ suc p = once 0 (suc p) s (ap (λ y. Some y) same) at in absurd (omega (arith, clash))) in
    let later : position_or_len (λ o. o == s) xs ≡ p = place_is s xs p (λ i j t a b. (let e : suc i ≡ suc j = once (suc i) (suc j) t a b in omega (arith, e))) at in
    ap (λ b. cond (not b) (1 + position_or_len (λ o. o == s) xs) 0) (ne_eqb x s apart) ∙ omega (arith, later)

position_is : (s : ℕ) (xs : List ℕ) (p : ℕ) → Once xs → slice_get xs p ≡ Some s → position (λ o. o == s) xs ≡ Some p
position_is s xs p once at =
    ap (λ k. cond (nat_lt k (length xs)) (Some k) None) (place_is s xs p once at)
    ∙ ap (λ b. cond b (Some p) None) (lt-ltb p (length xs) (slice_get_within xs p s at))

pub made_by_source : (part : CheckedClauses) (o : Operator) (p : ℕ) (events : List Event) (rows : List Item) → is_source part ≡ true → made_by part o p events rows ≡ rows
made_by_source (A.FileSource file strict) o p events rows e = refl
made_by_source (A.FileSink file) o p events rows e = absurd cc
made_by_source (A.Filter condition) o p events rows e = absurd cc
made_by_source (A.Functor condition output) o p events rows e = absurd cc
made_by_source (A.Punctor condition position) o p events rows e = absurd cc
made_by_source (A.Split index) o p events rows e = absurd cc
made_by_source (A.Union places) o p events rows e = absurd cc
made_by_source (A.Custom handlers) o p events rows e = absurd cc
made_by_source (A.Aggregate window partition group output) o p events rows e = absurd cc
made_by_source (A.Join left right condition output) o p events rows e = absurd cc

pub made_by_other : (part : CheckedClauses) (o : Operator) (p : ℕ) (events : List Event) (rows : List Item) → is_source part ≡ false → made_by part o p events rows ≡ out o p events
made_by_other (A.FileSource file strict) o p events rows e = absurd cc
made_by_other (A.FileSink file) o p events rows e = refl
made_by_other (A.Filter condition) o p events rows e = refl
made_by_other (A.Functor condition output) o p events rows e = refl
made_by_other (A.Punctor condition position) o p events rows e = refl
made_by_other (A.Split index) o p events rows e = refl
made_by_other (A.Union places) o p events rows e = refl
made_by_other (A.Custom handlers) o p events rows e = refl
made_by_other (A.Aggregate window partition group output) o p events rows e = refl
made_by_other (A.Join left right condition output) o p events rows e = refl

-- the operators of the numbers around that of an operator
pub around : (g : Graph) (first last : List ℕ) (n : ℕ) (o : Operator) → slice_get g.ops n ≡ Some o → ops_at g (first ++ n ∷ last) ≡ ops_at g first ++ o ∷ ops_at g last
around g first last n o at =
    filter_map-append (slice_get g.ops) first (n ∷ last) ∙ ap (λ found. ops_at g first ++ cons_option found (ops_at g last)) at

-- a graph of a checked graph, and an operator of it with its place in the order
pub record Here (c : CheckedGraph) (g : Graph) (before later : List ℕ) (n : ℕ) (o : Operator) : Type 0 where
  pub keeps : Keeps c
  pub graph : graph_of c ≡ g
  pub at : slice_get g.ops n ≡ Some o
  pub order : g.topo ≡ before ++ n ∷ later

pub in_order : (c : CheckedGraph) (g : Graph) (before later : List ℕ) (n : ℕ) (o : Operator) → Here c g before later n o → in_topo g ≡ ops_at g before ++ o ∷ ops_at g later
in_order c g before later n o h = ap (ops_at g) h.order ∙ around g before later n o h.at

pub its_op : (c : CheckedGraph) (g : Graph) (before later : List ℕ) (n : ℕ) (o : Operator) → Here c g before later n o → OperatorAt c 0 c.graph.ops c.parts n o
its_op c g before later n o h = operator_at c g h.graph n o h.at

pub its_outs : (c : CheckedGraph) (g : Graph) (before later : List ℕ) (n : ℕ) (o : Operator) (h : Here c g before later n o) → o.outs ≡ (its_op c g before later n o h).op.outs
its_outs c g before later n o h = ap (λ (x : Operator). x.outs) (its_op c g before later n o h).same

pub number_is : (c : CheckedGraph) (g : Graph) (before later : List ℕ) (n : ℕ) (o : Operator) → Here c g before later n o → o.number ≡ n
number_is c g before later n o h = is_numbered c g h.graph n o h.at

pub once_made : (c : CheckedGraph) (g : Graph) (before later : List ℕ) (n : ℕ) (o : Operator) → Here c g before later n o → Once o.outs
once_made c g before later n o h =
    let is = its_op c g before later n o h in subst Once (sym (its_outs c g before later n o h)) (outs_once c h.keeps n is.op is.there)

pub out_is : (c : CheckedGraph) (g : Graph) (before later : List ℕ) (n : ℕ) (o : Operator) → Here c g before later n o → (rows : Lists) (entries : Entries) (p s : ℕ)
    → slice_get o.outs p ≡ Some s → (meaning g rows entries).streams s ≡ makes o p (meaning g rows entries).streams rows entries
out_is c g before later n o h rows entries p s at =
    graph_law g rows entries (ops_at g before) (ops_at g later) o p s (is_ordered c g h.keeps h.graph) (in_order c g before later n o h)
    (position_is s o.outs p (once_made c g before later n o h) at)

-- ---- what it makes is what was kept

-- what is kept of the operator is that of the meaning
pub record IsRight (c : CheckedGraph) (m : Meaning) (entries : Entries) (o : Operator) (given : Given) (fault : Option Fault) : Type 0 where
  pub streams : (p s : ℕ) → slice_get o.outs p ≡ Some s → slice_get given.outs p ≡ Some (m.streams s)
  pub closed : (p s : ℕ) → slice_get o.outs p ≡ Some s → is_closed (m.streams s) ≡ true
  pub fit : (p s : ℕ) → slice_get o.outs p ≡ Some s → TuplesFit (schema_at c s) (m.streams s)
  pub sink : o.outs ≡ [] → rows_at given.outs 0 ≡ out o 0 (m.events o.number)
  pub end_fault : o.outs ≡ [] → fault ≡ operator_fault o (m.events o.number)
  pub whole : has_several (connections o) ≡ true → is_whole o (lists_at m.streams (connections o)) (entries o.number) ≡ true

-- its events, where it takes the lists of its inputs up to its end
pub record TakesIn (o : Operator) (streams : Lists) (entries : List ℕ) (done : List Event) : Type 0 where
  pub more : List Event
  pub are : events_of o streams entries ≡ done ++ more
  pub whole : has_several (connections o) ≡ true → is_whole o (lists_at streams (connections o)) entries ≡ true

pub rows_are : (streams : Lists) (ss : List ℕ) → rows_at (map streams ss) ≡ lists_at streams ss
rows_are streams ss = λ k i. at ss i k
  where
    at : (ss : List ℕ) (i : ℕ) → rows_at (map streams ss) i ≡ lists_at streams ss i
    at [] i = refl
    at (s ∷ ss) zero = refl
    at (s ∷ ss) (suc i) = at ss i

takes_in : (o : Operator) (streams : Lists) (entries : List ℕ) (done : List Event) → Takes o (map streams (connections o)) done → 0 < length (connections o)
    → (has_several (connections o) ≡ true → entries ≡ inputs_of done) → TakesIn o streams entries done
takes_in o streams entries done took some recorded = go (connections o) refl
  where
    go : (ss : List ℕ) → connections o ≡ ss → TakesIn o streams entries done
    go [] e = absurd (let none = ap length e in omega (arith, some, none))
    go (s ∷ []) e =
        let alone = took.alone (streams s) (ap (map streams) e) in
        record {
          more = alone.0;
          are = ap (λ ss. events_at streams ss entries) e ∙ alone.1;
          whole = λ more. absurd (let clash : false ≡ true = ap has_several (sym e) ∙ more in cc);
        }
    go (s ∷ t ∷ ss) e =
        let is : entries ≡ inputs_of done = recorded (ap has_several e) in
        let rows : rows_at (map streams (connections o)) ≡ lists_at streams (connections o) = rows_are streams (connections o) in
        record {
          more = [];
          are = ap (λ ss. events_at streams ss entries) e ∙ ap (λ l. arrive l entries) (ap (lists_at streams) (sym e)) ∙ ap (arrive (lists_at streams (connections o))) is
              ∙ ap (λ l. arrive l (inputs_of done)) (sym rows) ∙ took.arrived ∙ sym (append-nil done);
          whole = λ _. ap (is_whole o (lists_at streams (connections o))) is ∙ ap (λ l. is_whole o l (inputs_of done)) (sym rows) ∙ took.whole;
        }

given_first : (given : Given) (xs : List Item) → slice_get given.outs 0 ≡ Some xs → rows_at given.outs 0 ≡ xs
given_first given xs e = ap (λ x. unwrap_or x []) e

ports_kept : (outs : List ℕ) (p s : ℕ) → slice_get outs p ≡ Some s → p < kept_ports outs
ports_kept [] p s e = absurd cc
ports_kept (x ∷ outs) p s e = slice_get_within (x ∷ outs) p s e

-- an operator that took the lists of its inputs gave what the meaning says
pub other_is_right : (c : CheckedGraph) (g : Graph) (before later : List ℕ) (n : ℕ) (o : Operator) → Here c g before later n o → is_source o.clauses ≡ false
    → (rows : Lists) (entries : Entries) (given : Given) (fault : Option Fault) (order : Order) (recorded : Bool)
    → (ran : RanIn order (record { op = o; ports = kept_ports o.outs; recorded = recorded }) (map (meaning g rows entries).streams (connections o)) given fault)
    → (has_several (connections o) ≡ true → entries n ≡ inputs_of ran.done)
    → IsRight c (meaning g rows entries) entries o given fault
other_is_right c g before later n o h other rows entries given fault order recorded ran own =
    let m : Meaning = meaning g rows entries in
    let is = its_op c g before later n o h in
    let other_part : is_source is.part ≡ false = ap (λ (x : Operator). is_source x.clauses) (sym is.same) ∙ other in
    let some : 0 < length (connections o) =
    subst (λ (x : Operator). 0 < length (connections x)) (sym is.same) (some_input c n is.op is.part h.keeps is.there is.has other_part) in
    let number : o.number ≡ n = number_is c g before later n o h in
    let t : TakesIn o m.streams (entries o.number) ran.done =
    takes_in o m.streams (entries o.number) ran.done ran.took some (λ several. ap entries number ∙ own several) in
    let ended : has_ended o ran.done ≡ true = ended_there o ran.done fault ran.ends in
    let events : m.events o.number ≡ ran.done ++ t.more = events_law g rows entries o n (is_numbered c g h.graph) h.at ∙ t.are in
    let gives : (p s : ℕ) → slice_get o.outs p ≡ Some s → m.streams s ≡ out o p ran.done =
    λ p s at. out_is c g before later n o h rows entries p s at ∙ made_by_other o.clauses o p (events_of o m.streams (entries o.number)) (rows o.number) other
    ∙ ap (out o p) t.are ∙ same_out o p ran.done t.more ended in
    record {
      streams = λ p s at. ran.gave.outs p (ports_kept o.outs p s at) ∙ ap (λ xs. Some xs) (sym (gives p s at));
      closed = λ p s at. ap is_closed (gives p s at) ∙ out_closes o p ran.done (slice_get_within o.outs p s at) ∙ ended;
      fit = λ p s at. subst (TuplesFit (schema_at c s)) (sym (gives p s at))
          (subst (λ schema. TuplesFit schema (out o p ran.done)) (same_schema is p s (ap (λ (x : Operator). slice_get x.outs p) (sym is.same) ∙ at)) (ran.gave.fit p));
      sink = λ none. given_first given (out o 0 ran.done) (ran.gave.outs 0 (subst (λ os. 0 < kept_ports os) (sym none) (omega arith)))
          ∙ sym (ap (out o 0) events ∙ same_out o 0 ran.done t.more ended);
      end_fault = λ none. sym (ap (operator_fault o) events ∙ same_fault o ran.done t.more fault ran.ends);
      whole = t.whole;
    }
  where
    same_schema : (is : OperatorAt c 0 c.graph.ops c.parts n o) (p s : ℕ) → slice_get is.op.outs p ≡ Some s → given_attributes o.clauses o p ≡ schema_at c s
    same_schema is p s at =
        ap (λ (x : Operator). given_attributes x.clauses x p) is.same ∙ output_schema c (0 + n) n is.op is.part h.keeps is.there is.has p s at
