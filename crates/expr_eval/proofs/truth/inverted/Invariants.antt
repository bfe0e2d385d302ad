use Rattle.std.proofs.Common.{◌≡◌}
use Rattle.expr_eval.proofs.Truths.{flipped}
use Rattle.expr_eval.proofs.truth.inverted.Given as goal

abbrev pub invariant-loop : goal.invariant-loop
invariant-loop l = l.inverted ≡ flipped l.index l.fn.truth
