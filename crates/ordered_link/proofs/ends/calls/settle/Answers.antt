use Rattle.std.proofs.Common.{ap}
use Rattle.ordered_link.specs.declared.rule.Log.{Log}
use Rattle.ordered_link.proofs.Kept.{merges}
use Rattle.ordered_link.proofs.ends.calls.settle.Goals as goal

pub absorb-requires-clause-rule : goal.absorb-requires-clause-rule
absorb-requires-clause-rule g c = merges _ _ _ _ (ap (λ (y : Log). y.sends) c.args.send.knows) (ap (λ (y : Log). y.takes) c.args.take.knows)
