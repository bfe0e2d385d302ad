use Rattle.std.proofs.Common.{◌≡◌, length}
use Rattle.expr_eval.proofs.MovedFields.{IsSoFar}
use Rattle.expr_eval.proofs.moving.fields_but_moved.Given as goal

abbrev pub invariant-loop-i : goal.invariant-loop-i
invariant-loop-i l = record {
  made : IsSoFar l.functions l.env l.fn.turns l.fields l.moves l.initial.values l.fn.turns l.i l.values l.turns;
  long : length l.values ≡ length l.fields;
}
