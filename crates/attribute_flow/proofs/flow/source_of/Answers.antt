use Rattle.std.proofs.Common.{ap, slice_get, sym, ◌∙◌}
use Rattle.language_model.specs.declared.checked.CheckedClauses.{CheckedClauses}
use Rattle.language_model.specs.CheckedGraph.{CheckedGraph}
use Rattle.stream_model.specs.Copies.{source_of}
use Rattle.attribute_flow.proofs.flow.source_of.Goals as goal
use Rattle.stream_model.proofs.GraphParts.{clauses_are}

pub returns : goal.returns
returns c = record {
  source = λ g o is at.
      c.source_by.ensures
      ∙ sym (ap (λ (p : CheckedClauses). source_of p c.args.attr) (clauses_are c.args.checked.now g c.args.op o c.in-Some.part.now is at
      (sym (ap (λ (x : CheckedGraph). slice_get x.parts c.args.op) c.checked.view_is) ∙ sym c.in-Some.ensures.value)));
}
