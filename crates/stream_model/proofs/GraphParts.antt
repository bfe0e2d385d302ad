-- The parts of a checked graph are the operators of its meaning, one for one.
use Rattle.std.specs.Prelude.{◌≡◌, ℕ, Some, slice_get}
use Rattle.std.proofs.Common.{ap, ◌∙◌, zero, suc, ◌+◌, List, [], ◌∷◌, arith, sym, length}
use Rattle.language_model.specs.declared.checked.CheckedClauses.{CheckedClauses}
use Rattle.language_model.specs.CheckedGraph.{CheckedGraph}
use Rattle.stream_model.specs.CheckedMeaning.{graph_of, operators_from, operator_with}
use Rattle.stream_model.specs.Meaning.{Graph}
use Rattle.stream_model.specs.Operators.{Operator}
use Rattle.stream_model.proofs.CheckedOperators.{operator_from, operators_length, OperatorAt}
use Rattle.spl_tree.specs.declared.graph.Op.{Op}
use Rattle.language_model.specs.Keeping.{Keeps}

-- the clauses of an operator are the part at its number
pub clauses_are : (c : CheckedGraph) (g : Graph) (n : ℕ) (o : Operator) (part : CheckedClauses) → graph_of c ≡ g → slice_get g.ops n ≡ Some o → slice_get c.parts n ≡ Some part
    → o.clauses ≡ part
clauses_are c g n o part is at has =
    let there = operator_from c 0 c.graph.ops c.parts n o (ap (λ (h : Graph). slice_get h.ops n) is ∙ at) in
    let found : slice_get c.parts n ≡ Some there.part = there.has in
    let same : there.part ≡ part = cc in
    ap (λ (o : Operator). o.clauses) there.same ∙ same

-- a part and its operation make the operator with their number
pub operator_in : (c : CheckedGraph) (from : ℕ) (ops : List Op) (parts : List CheckedClauses) (n : ℕ) (op : Op) (part : CheckedClauses) → slice_get ops n ≡ Some op → slice_get parts n ≡ Some part
    → slice_get (operators_from c from ops parts) n ≡ Some (operator_with c (from + n) op part)
operator_in c from [] parts n op part there has = absurd cc
operator_in c from (o ∷ ops) [] n op part there has = absurd cc
operator_in c from (o ∷ ops) (p ∷ parts) zero op part there has =
    let first : o ≡ op = cc in
    let second : p ≡ part = cc in
    let number : from ≡ from + 0 = omega arith in
    λ i. Some (operator_with c (number i) (first i) (second i))
operator_in c from (o ∷ ops) (p ∷ parts) (suc n) op part there has =
    let number : suc from + n ≡ from + suc n = omega arith in
    operator_in c (suc from) ops parts n op part there has ∙ ap (λ k. Some (operator_with c k op part)) number

-- the order is that of the flat graph
pub same_topo : (c : CheckedGraph) (g : Graph) → graph_of c ≡ g → g.topo ≡ c.graph.topo
same_topo c g e = ap (λ (x : Graph). x.topo) (sym e)

-- there is an operator for each operation
pub same_length : (c : CheckedGraph) (g : Graph) → Keeps c → graph_of c ≡ g → length g.ops ≡ length c.graph.ops
same_length c g k e = ap (λ (x : Graph). length x.ops) (sym e) ∙ operators_length c 0 c.graph.ops c.parts k.parts

-- an operator of the graph by its number
pub operator_at : (c : CheckedGraph) (g : Graph) → graph_of c ≡ g → (n : ℕ) (o : Operator) → slice_get g.ops n ≡ Some o
    → OperatorAt c 0 c.graph.ops c.parts n o
operator_at c g e n o at = operator_from c 0 c.graph.ops c.parts n o (ap (λ (x : Graph). slice_get x.ops n) e ∙ at)
