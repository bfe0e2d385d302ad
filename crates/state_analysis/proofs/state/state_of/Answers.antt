use Rattle.std.proofs.Common.{◌≡◌, IfOk, ap, slice_get, subst, sym, ◌∙◌}
use Rattle.language_model.specs.declared.checked.CheckedClauses.{CheckedClauses}
use Rattle.language_model.specs.CheckedGraph.{CheckedGraph}
use Rattle.stream_model.specs.StateKinds.{state_by}
use Rattle.state_analysis.proofs.state.state_of.Goals as goal
use Rattle.stream_model.proofs.GraphParts.{clauses_are}

pub returns : goal.returns
returns c = record {
  kind = λ g o is at.
      subst (λ (p : CheckedClauses). IfOk c.state_by.result (λ kind. kind ≡ state_by p))
      (sym (clauses_are c.args.checked.now g c.args.op o c.in-Some.part.now is at
      (sym (ap (λ (x : CheckedGraph). slice_get x.parts c.args.op) c.checked.view_is) ∙ sym c.in-Some.ensures.value)))
      c.state_by.ensures;
}
