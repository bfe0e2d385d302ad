-- The graph of a unit stays within the limits, and has as many names for its ports as its operators take streams.
use Rattle.std.specs.Prelude.{◌≡◌, ◌+◌, ◌<◌, ◌≤◌, ◌^◌, ℕ, suc, nat_le, nat_lt, true, List, [], ◌∷◌, map, length, sum_by, Some, slice_get}
use Rattle.std.specs.Option.{option_and_then, option_map}
use Rattle.std.proofs.Common.{sym, ap, ◌∙◌, subst, arith}
use Rattle.std.proofs.lemmas.Bool.{and_parts, leb-true, ltb-true}
use Rattle.std.proofs.lemmas.List.Sums.{sum_by-cons}
use Rattle.std.proofs.lemmas.Option.{same_Some, slice_get_within}
use Rattle.spl_tree.specs.declared.graph.Expansion.{Expansion}
use Rattle.spl_tree.specs.declared.graph.Graph.{Graph}
use Rattle.spl_tree.specs.declared.graph.Op.{Op}
use Rattle.spl_tree.specs.declared.graph.Site.{Site}
use Rattle.spl_tree.specs.declared.unit.Composite.{Composite}
use Rattle.spl_tree.specs.declared.unit.Definition.{Definition}
use Rattle.spl_tree.specs.declared.unit.InputPort.{InputPort}
use Rattle.spl_tree.specs.declared.unit.Invocation.{Invocation}
use Rattle.language_model.specs.declared.expansion.Operation.{Operation}
use Rattle.language_model.specs.declared.expansion.Source.{Source}
use Rattle.language_model.specs.Composites.{composites}
use Rattle.language_model.specs.Expansion.{Inlined, Made}
use Rattle.language_model.specs.parts.Expansion.{connections_of, is_within}
use Rattle.language_model.specs.Numbering.{expansions_from, ops_from, streams_of}
use Rattle.language_model.proofs.parts.Numbering.{expansion_of, op_of}
use Rattle.language_model.specs.Scopes.{At}
use Rattle.language_model.specs.DollarTargets.{composite_of}
use Rattle.language_model.specs.StreamTypes.{Body, body_at, name_places}
use Rattle.check_laws.proofs.SourceCounts.{body_of, port_counted, streams_within}
use Rattle.check_laws.proofs.UnitGraphs.{IsMade}
use Rattle.graph_laws.proofs.ExpansionAnswers.{expansion_at, op_at, ops_length}
use Rattle.graph_laws.proofs.Inlining.{Holds, Takes, main_holds}
use Rattle.spl_value.proofs.Lists.{at_most_sum, before_more as in_front}
use Rattle.language_model.proofs.Options.{mapped}

-- ---- operators and expansions

-- the operation of an operator
record OfOperation (made : Made) (op : Op) (n : ℕ) : Type 0 where
  pub operation : Operation
  pub there : slice_get made.ops n ≡ Some operation
  pub is : op_of made n operation ≡ op

of_operation : (made : Made) (op : Op) (n : ℕ) → slice_get (ops_from made 0 made.ops) n ≡ Some op → OfOperation made op n
of_operation made op n e =
    let zero_more : 0 + n ≡ n = omega arith in
    let x = mapped (op_of made n) (slice_get made.ops n) op (sym (op_at made 0 made.ops n ∙ ap (λ i. option_map (op_of made i) (slice_get made.ops n)) zero_more) ∙ e) in
    record { operation = x.0; there = x.1; is = x.2 }

-- ---- limits

ins_fewer : (made : Made) (ins : List (List Source)) → sum_by length (map (streams_of made) ins) ≤ sum_by length ins
ins_fewer made [] = omega arith
ins_fewer made (xs ∷ ins) =
    let rest = ins_fewer made ins in
    let first = streams_within made xs in
    omega (arith, rest, first, sum_by-cons length (streams_of made xs) (map (streams_of made) ins), sum_by-cons length xs ins)

abbrev op_connections : Op → ℕ
op_connections op = sum_by length op.ins

connections_fewer : (made : Made) (n : ℕ) (ops : List Operation) → sum_by op_connections (ops_from made n ops) ≤ sum_by connections_of ops
connections_fewer made n [] = omega arith
connections_fewer made n (o ∷ ops) =
    let rest = connections_fewer made (suc n) ops in
    let first = ins_fewer made o.ins in
    omega (arith, rest, first, sum_by-cons op_connections (op_of made n o) (ops_from made (suc n) ops), sum_by-cons connections_of o ops)

record Within (ops : List Operation) : Type 0 where
  pub operators : length ops ≤ 256
  pub connections : sum_by connections_of ops < 2 ^ 30

within : (ops : List Operation) → is_within ops ≡ true → Within ops
within ops e =
    let parts = and_parts (nat_le (length ops) 256) (nat_lt (sum_by connections_of ops) (2 ^ 30)) e in
    record { operators = leb-true (length ops) 256 parts.0; connections = ltb-true (sum_by connections_of ops) (2 ^ 30) parts.1 }

pub record IsSmall (g : Graph) : Type 0 where
  pub operators : length g.ops ≤ 256
  pub connections : sum_by (λ op. sum_by length op.ins) g.ops < 2 ^ 30

pub is_small : (unit : List Definition) (main : At Composite) (g : Graph) → slice_get (composites unit) main.place ≡ Some main.what → IsMade unit main g → IsSmall g
is_small unit main g there m =
    let w = within m.made.ops (main_holds unit main m.made there m.expanded).within in
    let few : length (ops_from m.made 0 m.made.ops) ≤ 256 = omega (arith, w.operators, ops_length m.made 0 m.made.ops) in
    let fewer : sum_by op_connections (ops_from m.made 0 m.made.ops) < 2 ^ 30 = omega (arith, w.connections, connections_fewer m.made 0 m.made.ops) in
    record {
      operators = subst (λ (ops : List Op). length ops ≤ 256) (sym m.ops) few;
      connections = subst (λ (ops : List Op). sum_by op_connections ops < 2 ^ 30) (sym m.ops) fewer;
    }

-- ---- names of ports

-- a port has no more streams than its names are counted
abbrev pub HasPlaces : Op → Body → Invocation → Type 0
HasPlaces op b i = (k : ℕ) (q : InputPort) (streams : List ℕ) → slice_get i.inputs k ≡ Some q → slice_get op.ins k ≡ Some streams
    → length streams ≤ length (name_places b q)

body_there : (unit : List Definition) (g : Graph) (made : Made) (n : ℕ) (e : Inlined) → g.expansions ≡ expansions_from made 0 made.expansions
    → slice_get made.expansions n ≡ Some e → slice_get (composites unit) e.composite.place ≡ Some e.composite.what → body_at unit g n ≡ Some (body_of made n e)
body_there unit g made n e is at of_unit =
    let zero_more : 0 + n ≡ n = omega arith in
    let x : slice_get g.expansions n ≡ Some (expansion_of made n e) =
    ap (λ l. slice_get l n) is ∙ expansion_at made 0 made.expansions n
    ∙ (λ j. option_map (expansion_of made (zero_more j)) (at j)) in
    ap (λ o. option_and_then (λ (y : Expansion). option_map (λ c. record { number = n; expansion = y; composite = c }) (composite_of unit y)) o) x
    ∙ ap (λ o. option_map (λ (c : Composite). record { number = n; expansion = expansion_of made n e; composite = c }) o) of_unit

has_places_in : (unit : List Definition) (g : Graph) (made : Made) (o : Operation) (n : ℕ) (b : Body) (i : Invocation) → Holds unit made
    → g.expansions ≡ expansions_from made 0 made.expansions → slice_get made.ops n ≡ Some o → Takes made.expansions o → body_at unit g o.site.expansion ≡ Some b
    → slice_get b.composite.graph o.site.invocation ≡ Some i → HasPlaces (op_of made n o) b i
has_places_in unit g made o n b i h is there t at_body at_invocation =
    let front = λ (k : ℕ) (lt : k < length t.earlier). ap (λ l. slice_get l k) t.split ∙ in_front t.earlier t.later k lt in
    let at : slice_get made.expansions o.site.expansion ≡ Some t.body =
    front o.site.expansion (slice_get_within t.earlier o.site.expansion t.body t.in_bodies) ∙ t.in_bodies in
    let body : body_of made o.site.expansion t.body ≡ b =
    same_Some (body_of made o.site.expansion t.body) b
    (sym (body_there unit g made o.site.expansion t.body is at (h.bodies o.site.expansion t.body at)) ∙ at_body) in
    let invocation : t.invocation ≡ i =
    same_Some t.invocation i
    (sym t.in_graph ∙ ap (λ (b : Body). slice_get b.composite.graph o.site.invocation) body ∙ at_invocation) in
    let few : connections_of o < 2 ^ 30 =
    (let w = within made.ops h.within in let le = at_most_sum connections_of made.ops n o there in omega (arith, w.connections, le)) in
    let places : HasPlaces (op_of made n o) (body_of made o.site.expansion t.body) t.invocation =
    port_counted made o t.earlier t.body t.invocation front (λ k e s at_e at_site. h.later k e at_e s at_site) t.in_bodies t.ins few in
    subst (λ (c : Body). HasPlaces (op_of made n o) c i) body (subst (HasPlaces (op_of made n o) (body_of made o.site.expansion t.body)) invocation places)

pub has_places : (unit : List Definition) (main : At Composite) (g : Graph) → slice_get (composites unit) main.place ≡ Some main.what → IsMade unit main g
    → (n : ℕ) (op : Op) → slice_get g.ops n ≡ Some op → (b : Body) (i : Invocation) → body_at unit g op.site.expansion ≡ Some b
    → slice_get b.composite.graph op.site.invocation ≡ Some i → HasPlaces op b i
has_places unit main g there m n op at b i at_body at_invocation =
    let h = main_holds unit main m.made there m.expanded in
    let o = of_operation m.made op n (sym (ap (λ l. slice_get l n) m.ops) ∙ at) in
    let site : o.operation.site ≡ op.site = ap (λ (x : Op). x.site) o.is in
    subst (λ (x : Op). HasPlaces x b i) o.is
    (has_places_in unit g m.made o.operation n b i h m.expansions o.there (h.taken n o.operation o.there)
    (ap (λ (s : Site). body_at unit g s.expansion) site ∙ at_body)
    (ap (λ (s : Site). slice_get b.composite.graph s.invocation) site ∙ at_invocation))
