use Rattle.std.proofs.Common.{◌≡◌, IfOk, slice_get, subst, sym, Some}
use Rattle.stream_model.specs.declared.plan.StateKind.{StateKind}
use Rattle.stream_model.specs.CheckedMeaning.{graph_of}
use Rattle.stream_model.specs.Meaning.{Graph}
use Rattle.stream_model.specs.Operators.{Operator}
use Rattle.stream_model.specs.StateKinds.{state_of}
use Rattle.region_choice.specs.steps.Growing.{Grows, IsGrown}
use Rattle.region_choice.proofs.Growth.{plain_longer, plain_state}
use Rattle.region_choice.proofs.growing.grow.Goals as goal

pub returns-in-Keyed-clause-grows : goal.returns-in-Keyed-clause-grows
returns-in-Keyed-clause-grows c =
    subst (λ (state : StateKind). IfOk c.grow_keyed.result (λ taken. (g : Graph) (o : Operator) → graph_of c.args.checked.now ≡ g → slice_get g.ops c.args.op ≡ Some o
    → state_of o ≡ state → IsGrown g c.args.growing.now → Grows g c.args.growing.now c.args.op taken c.grow_keyed.new.growing)) (sym c.in-Keyed.is) c.grow_keyed.ensures.grows

pub returns-in_ok-add-in-Stateless-clause-grows : goal.returns-in_ok-add-in-Stateless-clause-grows
returns-in_ok-add-in-Stateless-clause-grows c = λ g o e at is h.
    plain_longer g c.args.growing.now c.args.op o c.add.new.growing at (plain_state c.args.state.now (state_of o) is c.in-Stateless.is) h
    (c.in_ok-add-in-Stateless.ensures g o e at)
