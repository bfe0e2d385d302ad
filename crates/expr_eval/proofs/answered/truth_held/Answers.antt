use Rattle.std.specs.Prelude.{◌≡◌, IsTrue, Some}
use Rattle.std.proofs.Common.{ap, subst, sym, ◌∙◌}
use Rattle.spl_value.specs.declared.types.SplType.TheVariants as T
use Rattle.spl_value.specs.Values.{fits}
use Rattle.language_model.specs.parts.Operators.{truth_of}
use Rattle.language_model.specs.Outcomes.{Done, need}
use Rattle.value_operations.proofs.Following.{held_stops, held_then}
use Rattle.expr_eval.proofs.answered.truth_held.Goals as goal

pub truth_of-requires : goal.truth_of-requires
truth_of-requires c = subst (λ v. IsTrue (fits T.Bool v)) (sym c.value.ensures) (c.requires c.in-Ok.held c.in-Ok.is)

pub returns-in-Ok : goal.returns-in-Ok
returns-in-Ok c = λ outcome turns h.
    held_then outcome (λ v left. need (truth_of v) (λ b. Done b left)) turns c.args.answer c.in-Ok.held c.in-Ok.is h
    ∙ ap (λ o. need o (λ b. Done b turns)) (subst (λ v. truth_of v ≡ Some c.truth_of.result) c.value.ensures c.truth_of.ensures)

pub returns-in-Err : goal.returns-in-Err
returns-in-Err c = λ outcome turns h. held_stops outcome (λ v left. need (truth_of v) (λ b. Done b left)) turns c.args.answer c.in-Err.stop c.in-Err.is h
