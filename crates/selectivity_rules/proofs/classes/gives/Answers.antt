use Rattle.std.proofs.Common.{ap, slice_get, sym, ◌∙◌}
use Rattle.language_model.specs.declared.checked.CheckedClauses.{CheckedClauses}
use Rattle.language_model.specs.CheckedGraph.{CheckedGraph}
use Rattle.stream_model.specs.Selectivity.{gives}
use Rattle.selectivity_rules.proofs.classes.gives.Goals as goal
use Rattle.stream_model.proofs.GraphParts.{clauses_are}

pub returns : goal.returns
returns c = record {
  class = λ g o is at.
      c.gives_by.ensures
      ∙ sym (ap (λ (p : CheckedClauses). gives p) (clauses_are c.args.checked.now g c.args.op o c.in-Some.part.now is at
      (sym (ap (λ (x : CheckedGraph). slice_get x.parts c.args.op) c.checked.view_is) ∙ sym c.in-Some.ensures.value)));
}
