use Rattle.std.proofs.Common.{◌≡◌, false, true, [], ◌∷◌, pos, zero-lt-suc, refl}
use Rattle.spl_value.proofs.OrderLaws.{order_laws}
use Rattle.spl_value.proofs.FitsLaws.{fits_laws}
use Rattle.spl_value.specs.declared.value.Value.TheVariants as V
use Rattle.language_model.specs.EvaluationLaws.{value_laws}
use Rattle.stream_model.specs.Bodies.{output}
use Rattle.stream_model.specs.examples.Reacting.{adding_one, numbers}
use Rattle.stream_model.proofs.SimpleFits.{one_fits}
use Rattle.stream_model.proofs.reply_laws.replies_on_literals.Goals as goal

pub returns-clause-taken : goal.returns-clause-taken
returns-clause-taken c = record { live = simp (value_laws, order_laws, V.outs-Int, V.outs-Bool, V.outs-Tuple); input = zero-lt-suc 0; is_open = refl; has = simp fits_laws }

pub returns-clause-made : goal.returns-clause-made
returns-clause-made c = (simp (value_laws, order_laws, V.outs-Int, V.outs-Bool, V.outs-Tuple), simp (value_laws, order_laws, V.outs-Int, V.outs-Bool, V.outs-Tuple))

pub returns-clause-fits : goal.returns-clause-fits
returns-clause-fits c = one_fits adding_one (output 0 (numbers (pos 5 ∷ []))) (simp fits_laws)

pub returns-clause-over : goal.returns-clause-over
returns-clause-over c = λ may. absurd (let no : true ≡ false = may.is_open in cc)
