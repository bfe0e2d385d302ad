use Rattle.std.proofs.Common.{arith}
use Rattle.output_rules.proofs.OutputIndex.{holds_here, holds_later}
use Rattle.output_rules.proofs.outputs.attributes.holder.Goals as goal

pub returns-in-Some : goal.returns-in-Some
returns-in-Some c =
    holds_here (λ x. x.schema.now) c.args.ports.now c.ports.at c.args.name.now c.index-ports-at.result c.ports-test.true c.index-ports-at.is _ c.in-Some.place c.in-Some.found c.ports.invariant.holds
    c.in-Some.ensures.found

pub ports-preserved : goal.ports-preserved
ports-preserved c = record {
  within = omega arith;
  holds =
      holds_later (λ x. x.schema.now) c.args.ports.now c.ports.at c.args.name.now c.index-ports-at.result c.ports-test.true c.index-ports-at.is _ c.ports.invariant.holds c.in_default.ensures.found;
}
