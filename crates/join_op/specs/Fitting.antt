-- What a Join asks of pairs of tuples: that its clauses fit them.
use Rattle.std.specs.Prelude.{◌≡◌, ℕ, List, Option, Some, slice_get}
use Rattle.spl_value.specs.declared.types.SplType.TheVariants as S
use Rattle.spl_value.specs.declared.value.Value.{Value}
use Rattle.spl_tree.specs.declared.body.Function.{Function}
use Rattle.spl_tree.specs.declared.code.Code.{Code}
use Rattle.spl_tree.specs.declared.code.Slot.{Slot}
use Rattle.language_model.specs.declared.env.Env.{Env}
use Rattle.language_model.specs.StreamTypes.{Attributes}
use Rattle.language_model.specs.WorldFits.{Fits}
use Rattle.port_reacts.specs.Evaluation.{PassesFit}

-- a condition and the code of a tuple fit an environment
pub record PairFits (functions : List Function) (condition : Option (Code Slot)) (output : Code Slot) (env : Env) : Type 0 where
  pub condition_fits : PassesFit functions condition env
  pub schema : Attributes
  pub output_fits : Fits functions output env (S.Tuple schema)

-- they fit that of each of these tuples
abbrev pub PairsFit : List Function → Option (Code Slot) → Code Slot → (List Value → Env) → List (List Value) → Type 0
PairsFit functions condition output env us = (i : ℕ) (u : List Value) → slice_get us i ≡ Some u → PairFits functions condition output (env u)
