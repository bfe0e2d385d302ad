-- Each tuple of each stream of a run has the stream's attributes, where those in the rows of the sources have.
use Rattle.std.proofs.Common.{true, ◌≡◌, ℕ, ◌+◌, ◌<◌, ◌==◌, Bool, List, [], ◌∷◌, refl, sym, ap, subst, ◌∙◌, length, slice_get, Option, Some, None, position, arith, ◌++◌, reverse}
use Rattle.std.specs.List.{AllByRecursion, cons_option, filter_map, list_all}
use Rattle.std.proofs.lemmas.List.{reverse-append}
use Rattle.std.specs.Option.{option_map_or}
use Rattle.std.proofs.lemmas.Option.{slice_get_within}
use Rattle.std.proofs.lemmas.Bool.{and_from}
use Rattle.spl_value.specs.declared.item.Item.{Item}
use Rattle.spl_value.specs.declared.item.Item.TheVariants as I
use Rattle.spl_value.specs.Numbered.{item_fits}
use Rattle.language_model.specs.declared.checked.CheckedClauses.{CheckedClauses}
use Rattle.language_model.specs.declared.checked.CheckedClauses.TheVariants as A
use Rattle.language_model.specs.CheckedGraph.{CheckedGraph}
use Rattle.language_model.specs.Keeping.{Keeps}
use Rattle.language_model.specs.StreamTypes.{Attributes}
use Rattle.stream_model.specs.CheckedMeaning.{graph_of, schema_at}
use Rattle.stream_model.specs.Fitting.{EventFits, EventsFit, IsFitting}
use Rattle.stream_model.specs.Meaning.{Graph, Lists, Entries, in_topo, events_of, made_by, makes, streams_of, meaning}
use Rattle.stream_model.specs.Operators.{Operator, connections, input_attributes, output_attributes, ports}
use Rattle.stream_model.specs.parts.Operators.{port_at}
use Rattle.stream_model.specs.Replies.{ItemHas, given_attributes}
use Rattle.stream_model.specs.Stages.{out}
use Rattle.stream_model.specs.Stream.{Event, TuplesFit}
use Rattle.stream_model.proofs.CheckedOperators.{checked_fits}
use Rattle.list_engine.specs.Runs.{is_source}
use Rattle.list_engine.proofs.GraphOperators.{is_numbered}
use Rattle.list_engine.proofs.Ports.{input_count, input_schema, output_schema, source_out}
use Rattle.stream_schemas.specs.Schemas.{SourcesFit, StreamsLaw, ItemsLaw}
use Rattle.stream_schemas.proofs.Coming.{OfEach, events_each, place_is}
use Rattle.stream_schemas.proofs.Fitting.{out_fits}
use Rattle.stream_model.proofs.GraphParts.{operator_at}

-- ---- the operators of a graph

abbrev pub IsIn : Graph → Operator → Type 0
IsIn g op = (n : ℕ) × (slice_get g.ops n ≡ Some op)

both_in : (g : Graph) (a b : List Operator) → AllByRecursion (IsIn g) a → AllByRecursion (IsIn g) b → AllByRecursion (IsIn g) (a ++ b)
both_in g [] b h k = k
both_in g (o ∷ a) b h k = (h.0, both_in g a b h.1 k)

reverse_in : (g : Graph) (ops : List Operator) → AllByRecursion (IsIn g) ops → AllByRecursion (IsIn g) (reverse ops)
reverse_in g [] h = tt
reverse_in g (o ∷ ops) h =
    subst (AllByRecursion (IsIn g)) (sym (reverse-append (o ∷ []) ops)) (both_in g (reverse ops) (o ∷ []) (reverse_in g ops h.1) (h.0, tt))

numbers_in : (g : Graph) (numbers : List ℕ) → AllByRecursion (IsIn g) (filter_map (slice_get g.ops) numbers)
numbers_in g [] = tt
numbers_in g (n ∷ numbers) = go (slice_get g.ops n) refl (numbers_in g numbers)
  where
    go : (found : Option Operator) → slice_get g.ops n ≡ found → AllByRecursion (IsIn g) (filter_map (slice_get g.ops) numbers)
        → AllByRecursion (IsIn g) (cons_option found (filter_map (slice_get g.ops) numbers))
    go None q rest = rest
    go (Some op) q rest = ((n, q), rest)

pub all_in : (g : Graph) → AllByRecursion (IsIn g) (reverse (in_topo g))
all_in g = reverse_in g (in_topo g) (numbers_in g g.topo)

-- events that fit, one by one
events_fit : (op : Operator) (events : List Event) → AllByRecursion (EventFits op) events → EventsFit op events
events_fit op [] h = tt
events_fit op (e ∷ events) h = (h.0, events_fit op events h.1)

came_fit : (op : Operator) (i : ℕ) (schema : Attributes) (items : List Item) → i < length (ports op) → input_attributes op (port_at (ports op) i) ≡ schema → TuplesFit schema items
    → OfEach (EventFits op) i items
came_fit op i schema [] within same h = tt
came_fit op i schema (I.Tuple vs ∷ items) within same h = ((within, subst (λ s. ItemHas s (I.Tuple vs)) (sym same) h.0), came_fit op i schema items within same h.1)
came_fit op i schema (I.Window ∷ items) within same h = ((within, refl), came_fit op i schema items within same h)
came_fit op i schema (I.Final ∷ items) within same h = ((within, refl), came_fit op i schema items within same h)
came_fit op i schema (I.Bad f ∷ items) within same h = ((within, refl), came_fit op i schema items within same h)

module _ (c : CheckedGraph) (g : Graph) (keeps : Keeps c) (is : graph_of c ≡ g) where
  pub clauses_fit : (op : Operator) → IsIn g op → IsFitting op
  clauses_fit op here = checked_fits c here.0 op keeps (ap (λ (x : Graph). slice_get x.ops here.0) is ∙ here.1)

  input_has : (op : Operator) → IsIn g op → (i s : ℕ) → slice_get (connections op) i ≡ Some s → input_attributes op (port_at (ports op) i) ≡ schema_at c s
  input_has op here i s at =
      let x = operator_at c g is here.0 op here.1 in
      ap (λ (y : Operator). input_attributes y (port_at (ports y) i)) x.same
      ∙ input_schema c (0 + here.0) here.0 x.op x.part keeps x.there x.has i s (ap (λ (y : Operator). slice_get (connections y) i) (sym x.same) ∙ at)

  output_has : (op : Operator) → IsIn g op → (p s : ℕ) → slice_get op.outs p ≡ Some s → given_attributes op.clauses op p ≡ schema_at c s
  output_has op here p s at =
      let x = operator_at c g is here.0 op here.1 in
      ap (λ (y : Operator). given_attributes y.clauses y p) x.same
      ∙ output_schema c (0 + here.0) here.0 x.op x.part keeps x.there x.has p s (ap (λ (y : Operator). slice_get y.outs p) (sym x.same) ∙ at)

  -- the one output of a source
  source_has : (op : Operator) (file : List ℕ) (strict : Bool) → IsIn g op → op.clauses ≡ A.FileSource file strict → (p s : ℕ) → slice_get op.outs p ≡ Some s
      → output_attributes op 0 ≡ schema_at c s
  source_has op file strict here kind p s at =
      let x = operator_at c g is here.0 op here.1 in
      let one : length x.op.outs ≡ 1 = (source_out c here.0 x.op x.part keeps x.there x.has (ap (λ (y : Operator). is_source y.clauses) (sym x.same) ∙ ap is_source kind)).0 in
      let same : length op.outs ≡ length x.op.outs = ap (λ (y : Operator). length y.outs) x.same in
      let within : p < length op.outs = slice_get_within op.outs p s at in
      let first : p ≡ 0 = omega (arith, one, same, within) in
      ap (output_attributes op) (sym first) ∙ ap (λ part. given_attributes part op p) (sym kind) ∙ output_has op here p s at

  -- the events of an operator fit, where the streams that it reads do
  pub inputs_fit : (op : Operator) → IsIn g op → (streams : Lists) (entries : List ℕ) → ((s : ℕ) → TuplesFit (schema_at c s) (streams s)) → EventsFit op (events_of op streams entries)
  inputs_fit op here streams entries h =
      events_fit op (events_of op streams entries)
      (events_each (EventFits op) streams (connections op) entries (λ i s at.
      let within : i < length (connections op) = slice_get_within (connections op) i s at in
      let count : length (ports op) ≡ length (connections op) = input_count op in
      came_fit op i (schema_at c s) (streams s) (omega (arith, within, count)) (input_has op here i s at) (h s)))

  module _ (rows : Lists) (fit : SourcesFit g rows) (entries : Entries) where
    made_fits : (op : Operator) → IsIn g op → (p s : ℕ) (events : List Event) → slice_get op.outs p ≡ Some s → EventsFit op events
        → TuplesFit (schema_at c s) (made_by op.clauses op p events (rows op.number))
    made_fits op here p s events at h = go op.clauses refl
      where
        given : TuplesFit (schema_at c s) (out op p events)
        given = subst (λ schema. TuplesFit schema (out op p events)) (output_has op here p s at) (out_fits op p events (clauses_fit op here) h)

        go : (part : CheckedClauses) → op.clauses ≡ part → TuplesFit (schema_at c s) (made_by part op p events (rows op.number))
        go (A.FileSource file strict) q =
            subst (λ schema. TuplesFit schema (rows op.number)) (source_has op file strict here q p s at)
            (subst (λ n. TuplesFit (output_attributes op 0) (rows n)) (sym (is_numbered c g is here.0 op here.1)) (fit here.0 op file strict here.1 q))
        go (A.FileSink file) q = given
        go (A.Filter condition) q = given
        go (A.Functor condition made) q = given
        go (A.Punctor condition position) q = given
        go (A.Split index) q = given
        go (A.Union places) q = given
        go (A.Custom handlers) q = given
        go (A.Aggregate window partition group collects) q = given
        go (A.Join left right condition made) q = given

    pub streams_fit : (ops : List Operator) → AllByRecursion (IsIn g) ops → (s : ℕ) → TuplesFit (schema_at c s) (streams_of ops rows entries s)
    streams_fit [] h s = tt
    streams_fit (op ∷ earlier) h s = go (position (λ o. o == s) op.outs) refl (streams_fit earlier h.1)
      where
        go : (found : Option ℕ) → position (λ o. o == s) op.outs ≡ found → ((t : ℕ) → TuplesFit (schema_at c t) (streams_of earlier rows entries t))
            → TuplesFit (schema_at c s) (option_map_or (λ p. makes op p (streams_of earlier rows entries) rows entries) found (streams_of earlier rows entries s))
        go None q rest = rest s
        go (Some p) q rest =
            made_fits op h.0 p s (events_of op (streams_of earlier rows entries) (entries op.number)) (place_is s op.outs p q)
            (inputs_fit op h.0 (streams_of earlier rows entries) (entries op.number) rest)

pub streams_law : StreamsLaw
streams_law c rows entries keeps fit s = streams_fit c (graph_of c) keeps refl rows fit entries (reverse (in_topo (graph_of c))) (all_in (graph_of c)) s

items_fit : (schema : Attributes) (items : List Item) → TuplesFit schema items → list_all (item_fits schema) items ≡ true
items_fit schema [] h = refl
items_fit schema (I.Tuple vs ∷ items) h =
    and_from (item_fits schema (I.Tuple vs)) (list_all (item_fits schema) items) h.0 (items_fit schema items h.1)
items_fit schema (I.Window ∷ items) h = items_fit schema items h
items_fit schema (I.Final ∷ items) h = items_fit schema items h
items_fit schema (I.Bad f ∷ items) h = items_fit schema items h

pub items_law : ItemsLaw
items_law c rows entries keeps fit s =
    items_fit (schema_at c s) ((meaning (graph_of c) rows entries).streams s) (streams_law c rows entries keeps fit s)
