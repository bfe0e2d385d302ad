use Rattle.std.proofs.Common.{List}
use Rattle.spl_value.specs.declared.value.Value.{Value}
use Rattle.expr_eval.specs.steps.MovedFields.{AreBut, GoTo}
use Rattle.expr_eval.proofs.MovedFields.{AreLeft}
use Rattle.expr_eval.proofs.moving.with_moved.Given as goal

abbrev pub invariant-loop-i : goal.invariant-loop-i
invariant-loop-i l = record {
  but : (tuple : List Value) → AreBut l.fields l.moves 0 l.fn.values tuple → GoTo l.fields l.moves l.fn.came tuple → AreBut l.fields l.moves l.i l.values tuple;
  left : AreLeft l.moves l.fn.came l.i l.came;
}
