use Rattle.std.proofs.Common.{◌≡◌, ◌≤◌, drop}
use Rattle.std.specs.List.{position_from}
use Rattle.spl_tree.specs.Weights.{weights, too_deep_from}
use Rattle.token_weights.specs.Weighed.{Leads}
use Rattle.token_weights.proofs.Weighing.{too_heavy}
use Rattle.token_weights.proofs.weight.too_deep.Given as goal

abbrev pub invariant-loop-i : goal.invariant-loop-i
invariant-loop-i l = record {
  leads : Leads l.tokens l.i l.weighing;
  first : l.from ≤ l.i → position_from too_heavy l.i (drop l.i (weights l.tokens)) ≡ too_deep_from l.from l.tokens;
}
