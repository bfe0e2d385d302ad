-- The results of a call, a fault and a name without a value.
use Rattle.std.specs.Prelude.{◌≡◌, [], ◌∷◌}
use Rattle.spl_value.specs.declared.item.FaultKind.TheVariants as K
use Rattle.spl_value.specs.declared.value.Value.TheVariants as V
use Rattle.spl_tree.specs.declared.code.Code.TheVariants as C
use Rattle.spl_tree.specs.declared.code.Slot.TheVariants as L
use Rattle.language_model.specs.EvaluationLaws.{value_laws}
use Rattle.language_model.specs.Functions.{value}
use Rattle.language_model.specs.Outcomes.{Done, Faulted, Stuck}
use Rattle.language_model.specs.StatementLaws.{statement_laws}
use Rattle.evaluation_laws.specs.examples.OneCall.{number, identity, call_of_seven, by_zero, nowhere}

pub seven_taken : value (identity ∷ []) call_of_seven nowhere 2 ≡ Done (number 7) 1
seven_taken = simp (value_laws, statement_laws)

pub seven_wanted : value (identity ∷ []) call_of_seven nowhere 0 ≡ Faulted K.Turns
seven_wanted = simp value_laws

pub zero_faulted : value [] by_zero nowhere 0 ≡ Faulted K.DivZero
zero_faulted = simp (value_laws, V.outs-Int)

pub name_stuck : value [] (C.Name (L.Variable 0)) nowhere 0 ≡ Stuck
name_stuck = simp value_laws
