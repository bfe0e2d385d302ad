-- What an operator with one input port asks of a tuple that comes on it: that its clauses fit the tuple.
use Rattle.std.specs.Prelude.{⊤, List, Option}
use Rattle.spl_value.specs.declared.item.Item.{Item}
use Rattle.spl_value.specs.declared.item.Item.TheVariants as I
use Rattle.spl_value.specs.declared.types.SplType.TheVariants as S
use Rattle.spl_value.specs.declared.value.Value.{Value}
use Rattle.spl_tree.specs.declared.body.Function.{Function}
use Rattle.spl_tree.specs.declared.code.Code.{Code}
use Rattle.spl_tree.specs.declared.code.Slot.{Slot}
use Rattle.language_model.specs.declared.env.Env.{Env}
use Rattle.language_model.specs.StreamTypes.{Attributes}
use Rattle.language_model.specs.WorldFits.{Fits}
use Rattle.port_reacts.specs.Evaluation.{PassesFit}

-- this holds of a tuple
abbrev pub WhereTuple : (List Value → Type 0) → Item → Type 0
WhereTuple P (I.Tuple vs) = P vs
WhereTuple P I.Window = ⊤
WhereTuple P I.Final = ⊤
WhereTuple P (I.Bad f) = ⊤

-- a condition, where there is one, fits, and the code of a tuple does
abbrev pub MakingFits : List Function → Option (Code Slot) → Code Slot → Env → Type 0
MakingFits functions condition output env = PassesFit functions condition env × (schema : Attributes) × Fits functions output env (S.Tuple schema)
