-- Operators of a checked graph where they stand in its order, and chains of them.
use Rattle.std.proofs.Common.{ℕ, zero, suc, ◌+◌, ◌-◌, ◌<◌, ◌≤◌, ◌^◌, Bool, true, false, cond, List, [], ◌∷◌, ◌≡◌, refl, sym, ap, ◌∙◌, subst, arith, length, map, replicate, is_some, None, Some, slice_get}
use Rattle.std.specs.List.{concat, flat_map}
use Rattle.std.specs.Option.{option_and_then, option_map_or}
use Rattle.std.proofs.lemmas.List.{length-append, length-map, length-replicate}
use Rattle.spl_tree.specs.declared.graph.Op.{Op}
use Rattle.language_model.specs.declared.checked.CheckedClauses.{CheckedClauses}
use Rattle.language_model.specs.CheckedGraph.{CheckedGraph}
use Rattle.language_model.specs.Keeping.{Keeps}
use Rattle.stream_model.specs.CheckedMeaning.{graph_of, schema_at}
use Rattle.stream_model.specs.Fans.{fan_ports_from}
use Rattle.stream_model.specs.Meaning.{Graph}
use Rattle.stream_model.specs.Operators.{Operator, connections, input_attributes, ports, ports_from}
use Rattle.stream_model.specs.parts.Operators.{port_at}
use Rattle.stream_model.specs.Replies.{given_attributes}
use Rattle.stream_model.proofs.CheckedOperators.{OperatorAt}
use Rattle.stream_model.proofs.GraphParts.{operator_at}
use Rattle.list_engine.proofs.Ports.{input_count, input_schema, output_schema}
use Rattle.network_model.specs.Networks.{last_of}
use Rattle.port_reacts.proofs.Operators.{few_outs}
use Rattle.network_model.specs.Wiring.{is_source, Path, Stands}
use Rattle.pe_fusion.specs.ElementPorts.{connections_of_outs, first_ins, read_schemas, rows_stream, schema_of, source_of}
use Rattle.pe_fusion.specs.Fusing.{GraphFits}
use Rattle.pe_fusion.specs.FusedNets.{first_stream}
use Rattle.pe_fusion.specs.Readers.{readers}
use Rattle.pe_fusion.specs.Shapes.{numbers}
use Rattle.pe_fusion.specs.steps.Building.{last_outs}
use Rattle.pe_fusion.proofs.Checked.{fits_law}
use Rattle.pe_fusion.proofs.Counts.{few-readers}
use Rattle.pe_fusion.proofs.FusedShapes.{all-connections, last-get}
use Rattle.element_outboxes.specs.Waiting.{outputs_in}
use Rattle.elements.specs.Suiting.{AreFused}

-- ---- outputs

pub ports-of-fans : (p : ℕ) (fans : List ℕ) → length (fan_ports_from p fans) ≡ outputs_in fans
ports-of-fans p [] = refl
ports-of-fans p (n ∷ fans) =
    length-append (replicate n p) (fan_ports_from (suc p) fans)
    ∙ ap (λ k. k + length (fan_ports_from (suc p) fans)) (length-replicate n p)
    ∙ ap (λ k. n + k) (ports-of-fans (suc p) fans)

sum-of-readers : (g : Graph) (outs : List ℕ) → outputs_in (map (λ s. length (readers g s)) outs) ≡ length (flat_map (readers g) outs)
sum-of-readers g [] = refl
sum-of-readers g (s ∷ outs) = ap (λ n. length (readers g s) + n) (sum-of-readers g outs) ∙ sym (length-append (readers g s) (flat_map (readers g) outs))

pub ones-sum : (n : ℕ) → outputs_in (replicate n 1) ≡ n
ones-sum zero = refl
ones-sum (suc n) = let rest = ones-sum n in let z : 1 + outputs_in (replicate n 1) ≡ suc n = omega (arith, rest) in z

module _ (c : CheckedGraph) (k : Keeps c) where
  fits : GraphFits (graph_of c)
  fits = fits_law c k

  pub own : (op : Operator) → Stands (graph_of c) op → OperatorAt c 0 c.graph.ops c.parts op.number op
  own op stands = operator_at c (graph_of c) refl op.number op (fits.there op stands)

  -- ---- attributes

  -- what it gives on a port has the attributes of the port's stream
  pub gives-schema : (op : Operator) (p s : ℕ) → Stands (graph_of c) op → slice_get op.outs p ≡ Some s → given_attributes op.clauses op p ≡ schema_at c s
  gives-schema op p s stands at =
      let is = own op stands in
      ap (λ (o : Operator). given_attributes o.clauses o p) is.same
      ∙ output_schema c (0 + op.number) op.number is.op is.part k is.there is.has p s (ap (λ (o : Operator). slice_get o.outs p) (sym is.same) ∙ at)

  -- what comes on an input has those of the input's stream
  pub takes-schema : (op : Operator) (i s : ℕ) → Stands (graph_of c) op → slice_get (connections op) i ≡ Some s → input_attributes op (port_at (ports op) i) ≡ schema_at c s
  takes-schema op i s stands at =
      let is = own op stands in
      ap (λ (o : Operator). input_attributes o (port_at (ports o) i)) is.same
      ∙ input_schema c (0 + op.number) op.number is.op is.part k is.there is.has i s (ap (λ (o : Operator). slice_get (connections o) i) (sym is.same) ∙ at)

  pub first-schema : (op : Operator) (s : ℕ) → Stands (graph_of c) op → op.ins ≡ (s ∷ []) ∷ [] → input_attributes op 0 ≡ schema_at c s
  first-schema op s stands e =
      ap (λ ins. input_attributes op (port_at (ports_from 0 ins) 0)) (sym e) ∙ takes-schema op 0 s stands (ap (λ ins. slice_get (concat ins) 0) e)

  -- ---- chains

  pub fused-path : (op : Operator) (ops : List Operator) → Stands (graph_of c) op → Path (graph_of c) op ops → AreFused (given_attributes op.clauses op 0) ops
  fused-path op [] stands path = tt
  fused-path op (next ∷ ops) stands path = (
    first-schema next path.0 path.3 path.2 ∙ sym (gives-schema op 0 path.0 stands (ap (λ ss. slice_get ss 0) path.1)),
    (path.0, path.2),
    fused-path next ops path.3 path.5,
  )

  pub last-stands : (op : Operator) (ops : List Operator) → Stands (graph_of c) op → Path (graph_of c) op ops → Stands (graph_of c) (last_of op ops)
  last-stands op [] stands path = stands
  last-stands op (next ∷ ops) stands path = last-stands next ops path.3 path.5

  -- ---- by numbers

  pub last-outs : (op : Operator) (ops : List Operator) (ids : List ℕ) → ids ≡ numbers (op ∷ ops) → Stands (graph_of c) op → Path (graph_of c) op ops
      → last_outs c.graph.ops ids ≡ (last_of op ops).outs
  last-outs op ops ids e stands path =
      let is = own (last_of op ops) (last-stands op ops stands path) in
      let many : length (numbers (op ∷ ops)) - 1 ≡ length (numbers ops) = omega arith in
      ap (last_outs c.graph.ops) e
      ∙ ap (λ n. option_map_or (λ (o : Op). o.outs) (option_and_then (slice_get c.graph.ops) (slice_get (numbers (op ∷ ops)) n)) []) many
      ∙ ap (λ o. option_map_or (λ (o : Op). o.outs) (option_and_then (slice_get c.graph.ops) o) []) (last-get op ops)
      ∙ ap (λ o. option_map_or (λ (o : Op). o.outs) o []) is.there
      ∙ ap (λ (o : Operator). o.outs) (sym is.same)

  pub first-ins : (op : Operator) (ops : List Operator) (ids : List ℕ) → ids ≡ numbers (op ∷ ops) → Stands (graph_of c) op → first_ins c.graph.ops ids ≡ op.ins
  first-ins op ops ids e stands =
      let is = own op stands in
      ap (first_ins c.graph.ops) e ∙ ap (λ o. option_map_or (λ (o : Op). o.ins) o []) is.there ∙ ap (λ (o : Operator). o.ins) (sym is.same)

  pub has-source : (op : Operator) (ops : List Operator) (ids : List ℕ) → ids ≡ numbers (op ∷ ops) → Stands (graph_of c) op → is_some (source_of c ids) ≡ is_source op.clauses
  has-source op ops ids e stands =
      let is = own op stands in
      ap (λ ns. is_some (source_of c ns)) e
      ∙ ap (λ o. is_some (schema_of c (option_and_then (λ (part : CheckedClauses). option_and_then (λ (x : Op). rows_stream part x.outs) (slice_get c.graph.ops op.number)) o))) is.has
      ∙ ap (λ o. is_some (schema_of c (option_and_then (λ (x : Op). rows_stream is.part x.outs) o))) is.there
      ∙ some is.op.outs (is_source is.part) ∙ ap (λ (o : Operator). is_source o.clauses) (sym is.same)
    where
      some : (outs : List ℕ) (b : Bool) → is_some (schema_of c (cond b (Some (first_stream outs)) None)) ≡ b
      some outs true = refl
      some outs false = refl

  pub reads-are : (op : Operator) (ops : List Operator) (ids : List ℕ) → ids ≡ numbers (op ∷ ops) → Stands (graph_of c) op → read_schemas c ids ≡ map (schema_at c) (connections op)
  reads-are op ops ids e stands = ap (λ ins. map (schema_at c) (concat ins)) (first-ins op ops ids e stands)

  pub reads-count : (op : Operator) (ops : List Operator) (ids : List ℕ) → ids ≡ numbers (op ∷ ops) → Stands (graph_of c) op → length (read_schemas c ids) ≡ length (ports op)
  reads-count op ops ids e stands = ap length (reads-are op ops ids e stands) ∙ length-map (connections op) (schema_at c) ∙ sym (input_count op)

  -- the attributes at an input
  read-at : (streams : List ℕ) (i : ℕ) (s : ℕ) → slice_get streams i ≡ Some s → slice_get (map (schema_at c) streams) i ≡ Some (schema_at c s)
  read-at [] i s at = absurd (cc)
  read-at (t ∷ streams) zero s at = let same : t ≡ s = cc in ap (λ x. Some (schema_at c x)) same
  read-at (t ∷ streams) (suc i) s at = read-at streams i s at

  -- ---- connections

  pub counts-are : (op : Operator) (ops : List Operator) (ids : List ℕ) → ids ≡ numbers (op ∷ ops) → Stands (graph_of c) op → Path (graph_of c) op ops
      → connections_of_outs c ids ≡ map (λ s. length (readers (graph_of c) s)) (last_of op ops).outs
  counts-are op ops ids e stands path = ap (map (λ s. length (readers (graph_of c) s))) (last-outs op ops ids e stands path)

  pub fans-count : (op : Operator) (ops : List Operator) (ids : List ℕ) → ids ≡ numbers (op ∷ ops) → Stands (graph_of c) op → Path (graph_of c) op ops
      → length (connections_of_outs c ids) ≡ length (last_of op ops).outs
  fans-count op ops ids e stands path = ap length (counts-are op ops ids e stands path) ∙ length-map (last_of op ops).outs (λ s. length (readers (graph_of c) s))

  pub last-few : (op : Operator) (ops : List Operator) → Stands (graph_of c) op → Path (graph_of c) op ops → length (last_of op ops).outs ≤ 16
  last-few op ops stands path =
      let is = own (last_of op ops) (last-stands op ops stands path) in
      subst (λ n. n ≤ 16) (ap (λ (o : Operator). length o.outs) (sym is.same)) (few_outs c k (last_of op ops).number is.op is.part is.there is.has)

  -- an operator has few of them
  pub few-counts : (op : Operator) (ops : List Operator) (ids : List ℕ) → ids ≡ numbers (op ∷ ops) → Stands (graph_of c) op → Path (graph_of c) op ops → outputs_in (connections_of_outs c ids) < 2 ^ 32
  few-counts op ops ids e stands path =
      let last : Operator = last_of op ops in
      let same : outputs_in (connections_of_outs c ids) ≡ length (flat_map (readers (graph_of c)) (last_of op ops).outs) =
      ap outputs_in (counts-are op ops ids e stands path) ∙ sum-of-readers (graph_of c) (last_of op ops).outs in
      let few = few-readers (graph_of c) (last_of op ops).outs (λ t. fits.apart (last_of op ops) t (last-stands op ops stands path)) in
      let all = all-connections c 0 c.graph.ops c.parts k.parts in
      let limit = k.graph.connections in
      let power : 2 ^ 30 ≡ 1073741824 = refl in
      let more : 2 ^ 32 ≡ 4294967296 = refl in
      omega (arith, same, few, all, limit, power, more)
