use Rattle.std.proofs.Common.{◌≡◌, length}
use Rattle.relational_ops.specs.steps.Moving.{AreSoFar}
use Rattle.relational_ops.proofs.functor.moves.moves_of.Given as goal

abbrev pub invariant-loop-field : goal.invariant-loop-field
invariant-loop-field l = record {
  so_far : AreSoFar l.fields l.moves l.moved;
  long : length l.moves ≡ l.field-index;
}
