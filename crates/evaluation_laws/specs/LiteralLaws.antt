-- What codes of literals have: one value, of their type, wherever they are evaluated.
use Rattle.std.specs.Prelude.{◌≡◌, ℕ, IsTrue, List}
use Rattle.spl_value.specs.declared.types.SplType.{SplType}
use Rattle.spl_value.specs.declared.value.Value.{Value}
use Rattle.spl_value.specs.Values.{fits}
use Rattle.spl_tree.specs.declared.body.Function.{Function}
use Rattle.spl_tree.specs.declared.code.Code.{Code}
use Rattle.spl_tree.specs.declared.code.Slot.{Slot}
use Rattle.language_model.specs.CodeFits.{CodeFits}
use Rattle.language_model.specs.Evaluation.{World}
use Rattle.language_model.specs.FitLaws.{no_names}
use Rattle.language_model.specs.Functions.{value}
use Rattle.language_model.specs.parts.LogicTyping.{is_plain}
use Rattle.language_model.specs.Outcomes.{Done}

-- whatever the functions are, and in every world, the code has this value, and takes no turn
abbrev pub IsAlways : Code Slot → Value → Type 0
IsAlways code v = (functions : List Function) (w : World Slot) (turns : ℕ) → value functions code w turns ≡ Done v turns

-- a code of literals, `-`, lists, maps and tuples that names nothing and fits a type has one value, which is of the type
abbrev pub LiteralLaw : Type 0
LiteralLaw = (code : Code Slot) (t : SplType) → CodeFits no_names code t → IsTrue (is_plain code) → (v : Value) × IsTrue (fits t v) × IsAlways code v
