-- The faults that operators cause by themselves are faults of evaluation.
use Rattle.std.specs.Prelude.{◌≡◌, ℕ, true, false, List, slice_get, Some}
use Rattle.spl_value.specs.declared.item.Fault.{Fault}
use Rattle.spl_value.specs.declared.item.FaultKind.{FaultKind}
use Rattle.spl_value.specs.declared.item.Item.{Item}
use Rattle.spl_value.specs.declared.item.Item.TheVariants as I
use Rattle.language_model.specs.declared.checked.CheckedClauses.{CheckedClauses}
use Rattle.language_model.specs.declared.outs.Output.{Output}
use Rattle.stream_model.specs.Stream.{Event, is_fault}
use Rattle.stream_model.specs.Operators.{Operator}
use Rattle.stream_model.specs.React.{Faults, body, ended, makes_by, react}
use Rattle.stream_model.specs.Replies.{is_live}
use Rattle.stream_model.specs.Fitting.{EventFits, EventsFit, IsFitting}
use Rattle.fault_kinds.specs.Kinds.{is_evaluation_kind}
use Rattle.fault_kinds.specs.EvaluationKinds.{FaultsByEvaluation}

-- what an operator of any kind makes of any item, fitting or not
abbrev pub MakesKindsLaw : Type 0
MakesKindsLaw = (part : CheckedClauses) (op : Operator) (h : List Event) (port : ℕ) (x : Item) → FaultsByEvaluation (makes_by part op h port x)

-- an event that fits arrives at an operator whose clauses fit, and that hasn't ended after events that fit
pub record MayCome (op : Operator) (h : List Event) (e : Event) : Type 0 where
  pub clauses : IsFitting op
  pub earlier : EventsFit op h
  pub live : is_live op h ≡ true
  pub event : EventFits op e

-- then a fault of the body is one of evaluation
abbrev pub BodyKindsLaw : Type 0
BodyKindsLaw = (op : Operator) (h : List Event) (e : Event) (kind : FaultKind) → MayCome op h e → body op h e ≡ Faults kind → is_evaluation_kind kind ≡ true

-- it names the operator, is one of evaluation, and has no line
pub record IsOwn (op : Operator) (f : Fault) : Type 0 where
  pub number : f.op ≡ op.number
  pub kind : is_evaluation_kind f.kind ≡ true
  pub line : f.line ≡ 0

-- where the event is no fault, each fault that it causes is such a fault of the operator, and so is one with which it ends the operator
abbrev pub ReactKindsLaw : Type 0
ReactKindsLaw = (op : Operator) (h : List Event) (e : Event) (f : Fault) → MayCome op h e → is_fault e.item ≡ false →
    ((i : ℕ) (o : Output) → slice_get (react op h e) i ≡ Some o → o.item ≡ I.Bad f → IsOwn op f)
    × (ended op h e ≡ Some (I.Bad f) → IsOwn op f)
