-- What the calls on functions of groups answer, against the definition.
use Rattle.std.specs.Prelude.{ℕ, List, [], Option, Some, None, Ok}
use Rattle.spl_value.specs.declared.types.SplType.{SplType}
use Rattle.spl_value.specs.declared.types.SplType.TheOpen as T
use Rattle.spl_value.specs.declared.types.SplType.TheOpen.{SplType-F}
use Rattle.spl_tree.specs.Trees.{Expr}
use Rattle.language_model.specs.declared.checked.Collector.{Collector}
use Rattle.language_model.specs.declared.checked.Collector.TheVariants as K
use Rattle.language_model.specs.declared.checked.CollectorCall.{CollectorCall}
use Rattle.language_model.specs.OutputTyping.{Collecting, Summing, Extreme, Choosing, Counting}
use Rattle.language_model.specs.Typing.{Found, int32, wrong_call}
use Rattle.output_rules.specs.declared.outputs.groups.Collecting.{Collecting as Function}
use Rattle.output_rules.specs.declared.outputs.groups.Collecting.TheVariants as F

abbrev pub collecting_meant : Function → Collecting
collecting_meant F.Summing = Summing
collecting_meant (F.Extreme collector) = Extreme collector
collecting_meant (F.Choosing collector) = Choosing collector
collecting_meant F.Counting = Counting

-- what such a function is on a type
abbrev pub collector_on : Collecting → SplType-F SplType → Option Collector
collector_on Summing (T.Int kind) = Some (K.Sum kind)
collector_on (Extreme collector) (T.Int kind) = Some collector
collector_on (Extreme collector) T.Text = Some collector
collector_on (Choosing collector) _ = Some collector
collector_on _ _ = None

-- the number of tuples, of no arguments
abbrev pub counted : ℕ → List Expr → Found CollectorCall
counted at [] = Ok (record { collector = K.Count; argument = None; kind = int32 })
counted at es = wrong_call at
