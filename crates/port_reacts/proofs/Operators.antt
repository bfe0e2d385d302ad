-- Operators of checked graphs, by their numbers.
use Rattle.std.proofs.Common.{◌≡◌, ℕ, ◌+◌, length, slice_get, Some, ap, ◌∙◌, arith}
use Rattle.std.specs.Prelude.{◌≤◌, IsTrue}
use Rattle.std.proofs.lemmas.Grind.{common_steps}
use Rattle.spl_tree.specs.declared.graph.Op.{Op}
use Rattle.spl_tree.specs.declared.graph.OpKind.{OpKind}
use Rattle.spl_tree.specs.declared.graph.OpKind.TheVariants as O
use Rattle.language_model.specs.declared.checked.CheckedClauses.{CheckedClauses}
use Rattle.language_model.specs.CheckedGraph.{CheckedGraph}
use Rattle.language_model.specs.Checking.{fit_ports}
use Rattle.language_model.specs.Keeping.{Keeps}
use Rattle.stream_model.specs.CheckedMeaning.{operators_from, operator_with}
use Rattle.stream_model.proofs.GraphParts.{operator_in}

-- no kind of operator has more than 16 output ports
few_ports : (kind : OpKind) (ins outs : ℕ) → IsTrue (fit_ports kind ins outs) → outs ≤ 16
few_ports O.FileSource ins outs fit = grind (arith, common_steps)
few_ports O.FileSink ins outs fit = grind (arith, common_steps)
few_ports O.Filter ins outs fit = grind (arith, common_steps)
few_ports O.Functor ins outs fit = grind (arith, common_steps)
few_ports O.Punctor ins outs fit = grind (arith, common_steps)
few_ports O.Split ins outs fit = grind (arith, common_steps)
few_ports O.Union ins outs fit = grind (arith, common_steps)
few_ports O.Custom ins outs fit = grind (arith, common_steps)
few_ports O.Aggregate ins outs fit = grind (arith, common_steps)
few_ports O.Join ins outs fit = grind (arith, common_steps)

pub few_outs : (c : CheckedGraph) → Keeps c → (n : ℕ) (op : Op) (part : CheckedClauses) → slice_get c.graph.ops n ≡ Some op → slice_get c.parts n ≡ Some part → length op.outs ≤ 16
few_outs c keeps n op part there has = few_ports op.kind (length op.ins) (length op.outs) (keeps.operators n op part there has).ports

-- the operator of the graph that has a number
pub operator_there : (c : CheckedGraph) (n : ℕ) (op : Op) (part : CheckedClauses) → slice_get c.graph.ops n ≡ Some op → slice_get c.parts n ≡ Some part
    → slice_get (operators_from c 0 c.graph.ops c.parts) n ≡ Some (operator_with c n op part)
operator_there c n op part there has = let number : 0 + n ≡ n = omega arith in
    operator_in c 0 c.graph.ops c.parts n op part there has ∙ ap (λ k. Some (operator_with c k op part)) number
