use Rattle.std.proofs.Common.{ap, ◌∙◌, sym, ℤ}
use Rattle.spl_value.specs.declared.value.Value.TheVariants as V
use Rattle.spl_value.specs.Calls.{Gives}
use Rattle.value_operations.proofs.Operating.{opposite_fits, negate_gives, complement_gives, cast_gives}
use Rattle.value_operations.proofs.operators.unary_of.Goals as goal
use Rattle.value_operations.proofs.operators.unary_of.Goals.{in-Negate, in-Complement, in-ToInteger}

pub overflow_sub-number_in : goal.overflow_sub-number_in
overflow_sub-number_in c = opposite_fits c.args.operator c.args.value.now c.number_in.result c.requires c.number_in.ensures

pub returns : goal.returns
returns c =
    elim c.match-operator.branch [
      | in-Negate w ↦
          negate_gives c.args.operator c.args.value.now w.number_in.result c.requires w.number_in.ensures w.in-Negate.kind w.wrap-exact.result w.in-Negate.is w.wrap-exact.ensures.value
          ∙ ap (λ (z : ℤ). Gives (V.Int z)) (sym w.exact-is)
      | in-Complement w ↦
          complement_gives c.args.operator c.args.value.now w.number_in-in-Complement.result c.requires w.number_in-in-Complement.ensures w.in-Complement.kind
          w.wrap-exact-in-Complement.result w.in-Complement.is w.wrap-exact-in-Complement.ensures.value
          ∙ ap (λ (z : ℤ). Gives (V.Int z)) (sym w.exact-is)
      | in-ToInteger w ↦
          cast_gives c.args.operator c.args.value.now w.number_in-in-ToInteger.result c.requires w.number_in-in-ToInteger.ensures w.in-ToInteger.kind
          w.wrap-exact-in-ToInteger.result w.in-ToInteger.is w.wrap-exact-in-ToInteger.ensures.value
          ∙ ap (λ (z : ℤ). Gives (V.Int z)) (sym w.exact-is)
    ]
