-- What a unary operator asks of a value.
use Rattle.std.specs.Prelude.{IsTrue}
use Rattle.spl_value.specs.declared.types.SplType.{SplType}
use Rattle.spl_value.specs.declared.value.Value.{Value}
use Rattle.spl_value.specs.Values.{fits}
use Rattle.spl_tree.specs.declared.code.UnaryCode.{UnaryCode}
use Rattle.language_model.specs.CodeFits.{UnaryGives}

abbrev pub FitsUnary : UnaryCode → Value → Type 0
FitsUnary op v = (t : SplType) × (u : SplType) × UnaryGives op t u × IsTrue (fits t v)
