use Rattle.std.proofs.Common.{◌-◌, ◌∙◌, Err, None, Ok, arith, ap, sym, reverse}
use Rattle.language_model.specs.declared.scope.CheckError.TheVariants as E
use Rattle.call_rules.proofs.Prefixes.{prefix_stops}
use Rattle.call_rules.proofs.operators.prefixes_on.Goals as goal

pub returns-in_default : goal.returns-in_default
returns-in_default c =
    let h = prefix_stops c.args.operand c.args.kind c.args.prefixes.now (c.prefixes.at - 1) c.prefixes.at _ (reverse c.prefixes.codes) c.get.result.now
    (omega arith) (omega arith) (c.prefixes.invariant.inner ∙ ap (λ t. Ok (reverse c.prefixes.codes, t)) (sym c.get.ensures)) (sym c.prefix_on.ensures ∙ c.in_default.is) in
    rw c.mismatch.ensures (h ∙ ap (λ n. Err (record { error = E.Mismatch; at = n; name = None })) (sym c.begin-begin.ensures))
