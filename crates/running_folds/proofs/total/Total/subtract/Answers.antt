use Rattle.std.proofs.Common.{FitsSigned, rules}
use Rattle.std.specs.Int.{w128}
use Rattle.running_folds.proofs.Sums.{taken_out}
use Rattle.running_folds.proofs.total.Total.subtract.Goals as goal

pub returns-clause-sum : goal.returns-clause-sum
returns-clause-sum c t e =
    let fits : FitsSigned w128 c.args.n = search rules in
    taken_out c.args.self.now.kind c.args.n c.wrap-n.result c.args.self.now.sum t c.wrap-self.result fits
    c.wrap-n.ensures.value e c.wrap-n.ensures.belongs c.wrap-self.ensures.belongs c.wrap-self.ensures.value
