use Rattle.std.proofs.Common.{◌≡◌, sym, subst, rules}
use Rattle.language_model.specs.declared.checked.CheckedClauses.TheVariants as A
use Rattle.stream_model.specs.CheckedMeaning.{operator_with}
use Rattle.stream_model.specs.Fitting.{IsFitting}
use Rattle.custom_logic.proofs.Standing.{first_env, stands_first}
use Rattle.custom_logic.proofs.custom.Custom.new.Goals as goal

pub returns-clause-begins : goal.returns-clause-begins
returns-clause-begins c =
    let at = c.new-at.result in
    let is : at.part.now ≡ A.Custom c.in-Custom.handlers = search rules in (
      is,
      stands_first (operator_with at.checked.now at.number at.op.now at.part.now) c.in-Custom.handlers _
          (subst (λ g. IsFitting (operator_with g at.number at.op.now at.part.now)) (sym c.new-at.ensures.checked)
          (subst (λ n. IsFitting (operator_with c.args.checked.now n at.op.now at.part.now)) (sym c.new-at.ensures.number) c.new-at.ensures.fitting))
          is (first_env c.in_ok-with_capacity.field-0 c.in_ok-first_values.field-0 c.in-Custom.handlers (search rules) (search rules)),
    )
