-- What arguments ask of an environment.
use Rattle.std.specs.Prelude.{◌≡◌, ⊤, ℕ, List, Option, None, Some, slice_get}
use Rattle.spl_value.specs.declared.types.SplType.{SplType}
use Rattle.spl_tree.specs.declared.body.Function.{Function}
use Rattle.spl_tree.specs.declared.code.Code.{Code}
use Rattle.spl_tree.specs.declared.code.Slot.{Slot}
use Rattle.language_model.specs.declared.checked.CollectedAttribute.{CollectedAttribute}
use Rattle.language_model.specs.declared.env.Env.{Env}
use Rattle.language_model.specs.WorldFits.{Fits}

-- an argument, where there is one, fits
abbrev pub ArgumentFits : List Function → Option (Code Slot) → Env → Type 0
ArgumentFits functions None env = ⊤
ArgumentFits functions (Some code) env = (t : SplType) × Fits functions code env t

-- each one does
abbrev pub ArgumentsFit : List Function → List CollectedAttribute → Env → Type 0
ArgumentsFit functions output env = (k : ℕ) (x : CollectedAttribute) → slice_get output k ≡ Some x → ArgumentFits functions x.argument env
