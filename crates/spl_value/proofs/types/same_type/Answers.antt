use Rattle.std.proofs.Common.{IsTrue, subst, sym}
use Rattle.spl_value.proofs.TypesLaws.{type_eq}
use Rattle.spl_value.proofs.types.same_type.Goals as goal

pub returns : goal.returns
returns c =
    let is = type_eq c.args.a.now c.args.b.now in
    (λ h. is.0 (subst IsTrue c.eq.ensures h), λ e. subst IsTrue (sym c.eq.ensures) (is.1 e))
