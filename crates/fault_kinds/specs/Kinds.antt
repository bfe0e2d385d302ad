-- The kinds of faults by where they come from: four from what is evaluated, and the others from the rows of a source alone.
use Rattle.std.specs.Prelude.{Bool, true, false}
use Rattle.spl_value.specs.declared.item.FaultKind.{FaultKind}
use Rattle.spl_value.specs.declared.item.FaultKind.TheVariants as K

-- it comes from what is evaluated
abbrev pub is_evaluation_kind : FaultKind → Bool
is_evaluation_kind K.DivZero = true
is_evaluation_kind K.Index = true
is_evaluation_kind K.NoKey = true
is_evaluation_kind K.Turns = true
is_evaluation_kind K.BadRow = false
is_evaluation_kind K.LongRow = false
is_evaluation_kind K.LongFile = false
is_evaluation_kind K.ReadFailed = false
