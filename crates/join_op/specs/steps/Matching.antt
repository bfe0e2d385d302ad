-- What the clauses of a Join ask and make of pairs.
use Rattle.std.specs.Prelude.{⊤, List, []}
use Rattle.spl_value.specs.declared.item.Item.{Item}
use Rattle.spl_value.specs.declared.item.Item.TheVariants as I
use Rattle.spl_value.specs.declared.value.Value.{Value}
use Rattle.language_model.specs.declared.checked.WindowRule.{WindowRule}
use Rattle.language_model.specs.declared.env.Env.{Env}
use Rattle.stream_model.specs.Bodies.{Makes, most_turns}
use Rattle.stream_model.specs.CheckedMeaning.{operator_with}
use Rattle.stream_model.specs.Joins.{pairs_give}
use Rattle.stream_model.specs.Operators.{Operator}
use Rattle.stream_model.specs.Windows.{WindowEvent, content}
use Rattle.window_policy.specs.declared.window.Window.{Window}
use Rattle.window_policy.specs.Standing.{Stands}
use Rattle.join_op.specs.declared.clauses.Clauses.{Clauses}
use Rattle.join_op.specs.declared.side.Side.{Side}
use Rattle.join_op.specs.Fitting.{PairsFit}
use Rattle.join_op.specs.Pairs.{pair_env}

-- the pairs in turn, under the turns of one event
abbrev pub matched : Clauses → List Env → Makes
matched clauses pairs = pairs_give clauses.at.checked.now.functions clauses.condition.now clauses.output.now pairs most_turns

-- the clauses fit each pair of a tuple with these
abbrev pub ClausesFit : Clauses → (List Value → Env) → List (List Value) → Type 0
ClausesFit clauses env us = PairsFit clauses.at.checked.now.functions clauses.condition.now clauses.output.now env us

-- an item of a side: a tuple may be matched with what the other side's window holds
abbrev pub MayMatch : Clauses → Side → Window → Item → Type 0
MayMatch clauses side other (I.Tuple t) =
    (rule : WindowRule) × (h : List WindowEvent) × Stands rule other h × ClausesFit clauses (pair_env side t) (content rule [] h)
MayMatch clauses side other I.Window = ⊤
MayMatch clauses side other I.Final = ⊤
MayMatch clauses side other (I.Bad f) = ⊤

-- the operator with these clauses
abbrev pub operator_of : Clauses → Operator
operator_of clauses = operator_with clauses.at.checked.now clauses.at.number clauses.at.op.now clauses.at.part.now
