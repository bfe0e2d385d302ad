-- The operators of the graph that a checked graph means, by their numbers.
use Rattle.std.proofs.Common.{◌≡◌, ℕ, ◌+◌, sym, ap, ◌∙◌, slice_get, Some, arith}
use Rattle.spl_tree.specs.declared.graph.Op.{Op}
use Rattle.language_model.specs.declared.checked.CheckedClauses.{CheckedClauses}
use Rattle.language_model.specs.CheckedGraph.{CheckedGraph}
use Rattle.stream_model.specs.CheckedMeaning.{graph_of, operators_from, operator_with}
use Rattle.stream_model.specs.Meaning.{Graph}
use Rattle.stream_model.proofs.GraphParts.{operator_in}

-- ---- the graph

pub ops_made : (c : CheckedGraph) (g : Graph) → graph_of c ≡ g → operators_from c 0 c.graph.ops c.parts ≡ g.ops
ops_made c g e = ap (λ (x : Graph). x.ops) e

-- the operator with a number, by the invocation and the clauses with that number
pub operator_at : (c : CheckedGraph) (g : Graph) → graph_of c ≡ g → (n : ℕ) (op : Op) (part : CheckedClauses)
    → slice_get c.graph.ops n ≡ Some op → slice_get c.parts n ≡ Some part → slice_get g.ops n ≡ Some (operator_with c n op part)
operator_at c g e n op part there has =
    let number : 0 + n ≡ n = omega arith in
    ap (λ ops. slice_get ops n) (sym (ops_made c g e)) ∙ operator_in c 0 c.graph.ops c.parts n op part there has
    ∙ ap (λ k. Some (operator_with c k op part)) number
