use Rattle.std.proofs.Common.{IsTrue, subst, sym}
use Rattle.spl_value.proofs.OrderLaws.{derived_eq}
use Rattle.spl_value.proofs.compare.same.Goals as goal

pub returns : goal.returns
returns c =
    let is = derived_eq c.args.a.now c.args.b.now in
    (λ h. is.0 (subst IsTrue c.eq.ensures h), λ e. subst IsTrue (sym c.eq.ensures) (is.1 e))
