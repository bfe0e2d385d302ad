-- What a checked graph keeps: it has an order and stays within the limits, its functions fit, and so do the ports, the types and the clauses
-- of each operator.
use Rattle.std.specs.Prelude.{◌≡◌, ◌↔◌, ◌==◌, ◌<◌, ◌≤◌, ◌^◌, ℕ, pos, Bool, true, false, IsTrue, List, [], ◌∷◌, map, length, sum_by, count_by, Option, Some, None, slice_get}
use Rattle.std.specs.List.{concat, Contains}
use Rattle.spl_value.specs.declared.types.IntKind.{IntKind}
use Rattle.spl_value.specs.declared.types.Named.{Named}
use Rattle.spl_value.specs.declared.types.SplType.{SplType}
use Rattle.spl_value.specs.declared.types.SplType.TheVariants as S
use Rattle.spl_value.specs.declared.types.SplType.TheViews.{out-SplType}
use Rattle.spl_value.specs.declared.value.Value.TheVariants as V
use Rattle.spl_value.specs.Values.{fits}
use Rattle.spl_tree.specs.declared.body.Statement.{Statement}
use Rattle.spl_tree.specs.declared.code.Code.{Code}
use Rattle.spl_tree.specs.declared.code.Code.TheVariants as C
use Rattle.spl_tree.specs.declared.code.Slot.{Slot}
use Rattle.spl_tree.specs.declared.graph.Graph.{Graph}
use Rattle.spl_tree.specs.declared.graph.Op.{Op}
use Rattle.spl_tree.specs.declared.graph.OpKind.{OpKind}
use Rattle.spl_tree.specs.declared.graph.OpKind.TheVariants as O
use Rattle.spl_tree.specs.declared.graph.Stream.{Stream}
use Rattle.language_model.specs.declared.checked.CollectedAttribute.{CollectedAttribute}
use Rattle.language_model.specs.declared.checked.Collector.{Collector}
use Rattle.language_model.specs.declared.checked.Collector.TheVariants as K
use Rattle.language_model.specs.declared.checked.Handlers.{Handlers}
use Rattle.language_model.specs.declared.checked.CheckedClauses.{CheckedClauses}
use Rattle.language_model.specs.declared.checked.CheckedClauses.TheVariants as A
use Rattle.language_model.specs.declared.checked.Policy.{Policy}
use Rattle.language_model.specs.declared.checked.Position.{Position}
use Rattle.language_model.specs.declared.checked.StateVariable.{StateVariable}
use Rattle.language_model.specs.declared.checked.WindowRule.{WindowRule}
use Rattle.language_model.specs.declared.checked.WindowRule.TheVariants as W
use Rattle.language_model.specs.declared.scope.Port.{Port}
use Rattle.language_model.specs.declared.scope.Scope.{Scope}
use Rattle.language_model.specs.declared.scope.Signature.{Signature}
use Rattle.language_model.specs.BodyFits.{OfHandler, RowFits}
use Rattle.language_model.specs.CheckedGraph.{CheckedGraph}
use Rattle.language_model.specs.Checking.{fit_ports, has_text_form}
use Rattle.language_model.specs.CodeFits.{CodeFits, FieldsFit, OneEach}
use Rattle.language_model.specs.FitLaws.{no_names}
use Rattle.language_model.specs.FlatLaws.{IsMadeAs, IsTopological}
use Rattle.language_model.specs.parts.Literals.{is_file_name}
use Rattle.language_model.specs.parts.LogicTyping.{is_plain}
use Rattle.language_model.specs.parts.ParameterTyping.{level_key}
use Rattle.language_model.specs.Policies.{most_tuples}
use Rattle.language_model.specs.StreamTypes.{Attributes}
use Rattle.language_model.specs.Typing.{int32}
use Rattle.language_model.specs.WorldFits.{FunctionsFit}

-- ---- the graph

-- at most 256 operators and fewer than 2^30 connections. Each operator stands in the order after those that make its streams, so no
-- stream leads back to its maker
pub record GraphKeeps (g : Graph) : Type 0 where
  pub operators : length g.ops ≤ 256
  pub connections : sum_by (λ op. sum_by length op.ins) g.ops < 2 ^ 30
  pub ordered : IsTopological g
  pub made : (number : ℕ) (s : Stream) → (slice_get g.streams number ≡ Some s) ↔ IsMadeAs g s number
  pub taken : (n : ℕ) (op : Op) → slice_get g.ops n ≡ Some op → (number : ℕ) → Contains (concat op.ins) number → number < length g.streams

-- ---- ports

-- streams with their attributes
pub data StreamsHave (schemas : List Attributes) : List ℕ → List Attributes → Type 0 where
  no_streams : StreamsHave schemas [] []
  stream : (s : ℕ) (streams : List ℕ) (schema : Attributes) (rest : List Attributes) → slice_get schemas s ≡ Some schema
      → StreamsHave schemas streams rest → StreamsHave schemas (s ∷ streams) (schema ∷ rest)

-- a port takes one stream or more, and all have its attributes
pub record PortHas (schemas : List Attributes) (streams : List ℕ) (schema : Attributes) : Type 0 where
  pub some : 0 < length streams
  pub alike : (s : ℕ) → Contains streams s → slice_get schemas s ≡ Some schema

pub data PortsHave (schemas : List Attributes) : List (List ℕ) → List Attributes → Type 0 where
  no_ports : PortsHave schemas [] []
  one_port : (streams : List ℕ) (ports : List (List ℕ)) (schema : Attributes) (rest : List Attributes) → PortHas schemas streams schema
      → PortsHave schemas ports rest → PortsHave schemas (streams ∷ ports) (schema ∷ rest)

-- codes may name these functions and a tuple of each port, and nothing else
pub record NamesPorts (signatures : List Signature) (ins : List Attributes) (scope : Scope) : Type 0 where
  pub vars : scope.vars ≡ []
  pub ports : map (λ p. p.schema) scope.ports ≡ ins
  pub functions : scope.functions ≡ signatures
  pub punct : scope.punct ≡ false

-- ---- places

abbrev pub Once : List ℕ → Type 0
Once places = (i j p : ℕ) → slice_get places i ≡ Some p → slice_get places j ≡ Some p → i ≡ j

-- attributes by whose values tuples are distinguished, each once
pub record KeysFit (schema : Attributes) (places : List ℕ) : Type 0 where
  pub keys : (i p : ℕ) → slice_get places i ≡ Some p → (a : Named SplType) × (slice_get schema p ≡ Some a) × IsTrue (level_key (out-SplType a.kind))
  pub once : Once places

-- for each attribute of the output that of the same name and type
pub record PlacesFit (input output : Attributes) (places : List ℕ) : Type 0 where
  pub count : length places ≡ length output
  pub same : (i p : ℕ) (a : Named SplType) → slice_get places i ≡ Some p → slice_get output i ≡ Some a
      → (b : Named SplType) × (slice_get input p ≡ Some b) × (b.name ≡ a.name) × (b.kind ≡ a.kind)

-- ---- windows

abbrev pub IsCount : ℕ → ℕ → Type 0
IsCount least n = (least ≤ n) × (n ≤ most_tuples)

-- an integer attribute, and a number of its type that isn't below 0
pub record DeltaFits (schema : Attributes) (place limit : ℕ) : Type 0 where
  pub attribute : Named SplType
  pub kind : IntKind
  pub there : slice_get schema place ≡ Some attribute
  pub integer : attribute.kind ≡ S.Int kind
  pub limited : IsTrue (fits (S.Int kind) (V.Int (pos limit)))

-- a window of an Aggregate: one that slides has a trigger
pub data AggregateWindow (schema : Attributes) : WindowRule → Type 0 where
  tumbling_count : (n : ℕ) → IsCount 1 n → AggregateWindow schema (W.TumblingCount n)
  tumbling_delta : (place limit : ℕ) → DeltaFits schema place limit → AggregateWindow schema (W.TumblingDelta place (pos limit))
  tumbling_punct : AggregateWindow schema W.TumblingPunct
  sliding_count : (n every : ℕ) → IsCount 1 n → IsCount 1 every → AggregateWindow schema (W.SlidingCount n (Some every))
  sliding_delta : (place limit every : ℕ) → DeltaFits schema place limit → IsCount 1 every
      → AggregateWindow schema (W.SlidingDelta place (pos limit) (Some every))

-- and one of a Join, which has none
pub data JoinWindow (schema : Attributes) : WindowRule → Type 0 where
  sliding_count : (n : ℕ) → IsCount 0 n → JoinWindow schema (W.SlidingCount n None)
  sliding_delta : (place limit : ℕ) → DeltaFits schema place limit → JoinWindow schema (W.SlidingDelta place (pos limit) None)

-- ---- clauses

abbrev pub ConditionFits : Scope → Option (Code Slot) → Type 0
ConditionFits scope None = Unit {0}
ConditionFits scope (Some code) = CodeFits scope code S.Bool

-- what is made of the values of an argument
pub data CollectorFits (scope : Scope) : Collector → Option (Code Slot) → SplType → Type 0 where
  sum : (kind : IntKind) (code : Code Slot) → CodeFits scope code (S.Int kind) → CollectorFits scope (K.Sum kind) (Some code) (S.Int kind)
  least_integer : (kind : IntKind) (code : Code Slot) → CodeFits scope code (S.Int kind) → CollectorFits scope K.Min (Some code) (S.Int kind)
  least_text : (code : Code Slot) → CodeFits scope code S.Text → CollectorFits scope K.Min (Some code) S.Text
  greatest_integer : (kind : IntKind) (code : Code Slot) → CodeFits scope code (S.Int kind) → CollectorFits scope K.Max (Some code) (S.Int kind)
  greatest_text : (code : Code Slot) → CodeFits scope code S.Text → CollectorFits scope K.Max (Some code) S.Text
  first : (code : Code Slot) (t : SplType) → CodeFits scope code t → CollectorFits scope K.First (Some code) t
  last : (code : Code Slot) (t : SplType) → CodeFits scope code t → CollectorFits scope K.Last (Some code) t
  count : CollectorFits scope K.Count None int32

-- each attribute of the output gets one value, of its type
pub record GroupsFit (scope : Scope) (schema : Attributes) (output : List CollectedAttribute) : Type 0 where
  pub fit : (k : ℕ) (x : CollectedAttribute) → slice_get output k ≡ Some x
      → (a : Named SplType) × (slice_get schema x.attribute ≡ Some a) × CollectorFits scope x.collector x.argument a.kind
  pub once : (i : ℕ) → i < length schema → count_by (λ x. x.attribute == i) output ≡ 1

-- a body on a tuple sees the tuple of its port
abbrev pub tuple_scope : Scope → List StateVariable → Port → Scope
tuple_scope scope state port = record scope { vars = map (λ x. x.variable) state; ports = port ∷ []; punct = false }

-- and one on a marker sees none, and may ask for the marker
abbrev pub marker_scope : Scope → List StateVariable → Scope
marker_scope scope state = record scope { vars = map (λ x. x.variable) state; ports = []; punct = true }

-- the first values of the state are made of literals, and each port has a body or none for tuples and for markers
pub record HandlersFit (scope : Scope) (outs : List Attributes) (handlers : Handlers) : Type 0 where
  pub state : (k : ℕ) (x : StateVariable) → slice_get handlers.state k ≡ Some x → CodeFits no_names x.first x.variable.kind
  pub plain : (k : ℕ) (x : StateVariable) → slice_get handlers.state k ≡ Some x → IsTrue (is_plain x.first)
  pub tuples : length handlers.on_tuple ≡ length scope.ports
  pub markers : length handlers.on_punct ≡ length scope.ports
  pub on_tuple : (k : ℕ) (port : Port) (body : List Statement) → slice_get scope.ports k ≡ Some port → slice_get handlers.on_tuple k ≡ Some (Some body)
      → RowFits (OfHandler outs) false (tuple_scope scope handlers.state port) body
  pub on_punct : (k : ℕ) (body : List Statement) → slice_get handlers.on_punct k ≡ Some (Some body)
      → RowFits (OfHandler outs) false (marker_scope scope handlers.state) body

-- ---- operators

-- the clauses of an operator of a kind, with these attributes of its inputs and outputs. Expressions are meant in the scope
pub data PartFits (scope : Scope) : OpKind → List Attributes → List Attributes → CheckedClauses → Type 0 where
  file_source : (file : List ℕ) (strict : Bool) (schema : Attributes) → IsTrue (is_file_name file) → IsTrue (has_text_form schema)
      → PartFits scope O.FileSource [] (schema ∷ []) (A.FileSource file strict)
  file_sink : (file : List ℕ) (schema : Attributes) → IsTrue (is_file_name file) → IsTrue (has_text_form schema)
      → PartFits scope O.FileSink (schema ∷ []) [] (A.FileSink file)
  filter : (condition : Option (Code Slot)) (schema : Attributes) → ConditionFits scope condition
      → PartFits scope O.Filter (schema ∷ []) (schema ∷ []) (A.Filter condition)
  functor : (condition : Option (Code Slot)) (fields : List (ℕ × Code Slot)) (input schema : Attributes) → ConditionFits scope condition
      → FieldsFit scope fields schema → OneEach (length schema) fields
      → PartFits scope O.Functor (input ∷ []) (schema ∷ []) (A.Functor condition (C.Tuple fields))
  punctor : (condition : Code Slot) (position : Position) (schema : Attributes) → CodeFits scope condition S.Bool
      → PartFits scope O.Punctor (schema ∷ []) (schema ∷ []) (A.Punctor condition position)
  split : (index : Code Slot) (kind : IntKind) (schema : Attributes) (outs : List Attributes) → CodeFits scope index (S.Int kind)
      → ((k : ℕ) (own : Attributes) → slice_get outs k ≡ Some own → own ≡ schema) → PartFits scope O.Split (schema ∷ []) outs (A.Split index)
  union : (places : List (List ℕ)) (ins : List Attributes) (schema : Attributes) → length places ≡ length ins
      → ((k : ℕ) (input : Attributes) (ps : List ℕ) → slice_get ins k ≡ Some input → slice_get places k ≡ Some ps → PlacesFit input schema ps)
      → PartFits scope O.Union ins (schema ∷ []) (A.Union places)
  custom : (handlers : Handlers) (ins outs : List Attributes) → HandlersFit scope outs handlers → PartFits scope O.Custom ins outs (A.Custom handlers)
  aggregate : (window : Policy) (partition group : List ℕ) (output : List CollectedAttribute) (input schema : Attributes) → AggregateWindow input window.rule
      → KeysFit input partition → (IsTrue window.partitioned ↔ (0 < length partition)) → KeysFit input group → GroupsFit scope schema output
      → PartFits scope O.Aggregate (input ∷ []) (schema ∷ []) (A.Aggregate window partition group output)
  join : (left right : Policy) (condition : Option (Code Slot)) (fields : List (ℕ × Code Slot)) (first second schema : Attributes)
      → JoinWindow first left.rule → JoinWindow second right.rule → left.partitioned ≡ false → right.partitioned ≡ false → ConditionFits scope condition
      → FieldsFit scope fields schema → OneEach (length schema) fields
      → PartFits scope O.Join (first ∷ second ∷ []) (schema ∷ []) (A.Join left right condition (C.Tuple fields))

-- an operator has the ports of its kind, each with the attributes of its streams, and its clauses fit these
pub record OperatorFits (schemas : List Attributes) (signatures : List Signature) (op : Op) (part : CheckedClauses) : Type 0 where
  pub ins : List Attributes
  pub outs : List Attributes
  pub scope : Scope
  pub ports : IsTrue (fit_ports op.kind (length op.ins) (length op.outs))
  pub takes : PortsHave schemas op.ins ins
  pub gives : StreamsHave schemas op.outs outs
  pub names : NamesPorts signatures ins scope
  pub clauses : PartFits scope op.kind ins outs part

-- ---- the whole

pub record Keeps (c : CheckedGraph) : Type 0 where
  pub graph : GraphKeeps c.graph
  pub streams : length c.schemas ≡ length c.graph.streams
  pub signatures : List Signature
  pub functions : FunctionsFit signatures c.functions
  pub each_signed : length c.functions ≡ length signatures
  pub parts : length c.parts ≡ length c.graph.ops
  pub operators : (n : ℕ) (op : Op) (part : CheckedClauses) → slice_get c.graph.ops n ≡ Some op → slice_get c.parts n ≡ Some part
      → OperatorFits c.schemas signatures op part
