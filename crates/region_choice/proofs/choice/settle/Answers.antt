use Rattle.std.proofs.Common.{◌≡◌, ◌∙◌, slice_get, Some, subst, sym}
use Rattle.std.specs.Prelude.{true}
use Rattle.std.proofs.lemmas.Result.{IfOk-weaker}
use Rattle.stream_model.specs.CheckedMeaning.{graph_of}
use Rattle.stream_model.specs.Meaning.{Graph}
use Rattle.stream_model.specs.Operators.{Operator}
use Rattle.stream_model.specs.Regions.{is_eligible}
use Rattle.stream_model.specs.StateKinds.{state_of}
use Rattle.region_choice.specs.declared.choice.Choice.{Choice}
use Rattle.region_choice.specs.steps.Choices.{IsOutside, IsPlaced, IsSettled, IsStanding, Joins, NoneTakes}
use Rattle.region_choice.specs.steps.Counting.{AreReadings}
use Rattle.region_choice.proofs.Placing.{by_number, candidate, eligible_one, passed_over, settled}
use Rattle.region_choice.proofs.choice.settle.Goals as goal

pub begin-requires-clause-standing : goal.begin-requires-clause-standing
begin-requires-clause-standing c = λ g e. subst (IsStanding g) (sym (c.in_ok-join.ensures.stays c.if-branch.false)) (c.requires.standing g e)

pub returns-in_default : goal.returns-in_default
returns-in_default c = λ g e counted outside.
    (let o = by_number c.args.checked.now g c.requires.kept e c.args.op c.requires.number in
    passed_over c.args.checked.now g c.requires.kept e c.args.choice.now c.args.op c.in_ok-state.state o.0 (c.requires.standing g e) o.1
    (sym (c.in_ok-state.ensures.kind g o.0 e o.1)) (sym (c.entry.ensures g o.0 e o.1) ∙ c.in_default.is))

pub returns-then-branch : goal.returns-then-branch
returns-then-branch c = λ g e counted outside.
    (let o = by_number c.args.checked.now g c.requires.kept e c.args.op c.requires.number in
    let may = candidate c.args.checked.now g c.requires.kept e c.args.counts.now c.args.op c.in-Some.stream c.in_ok-state.state o.0 counted c.requires.many o.1
    (sym (c.in_ok-state.ensures.kind g o.0 e o.1)) (sym (c.entry.ensures g o.0 e o.1) ∙ c.in-Some.is) in
    settled g c.args.choice.now c.args.op c.join.new.choice (eligible_one g c.args.op o.0 o.1 ∙ may.eligible)
    (subst (λ b. Joins g c.args.choice.now c.args.op b c.join.new.choice) c.if-branch.true (c.in_ok-join.ensures.joins g o.0 e may outside)))

pub returns : goal.returns
returns c =
    let same = c.in_ok-join.ensures.stays c.if-branch.false in
    IfOk-weaker c.begin.result
    (λ _. (g : Graph) (o : Operator) → graph_of c.args.checked.now ≡ g → slice_get g.ops c.args.op ≡ Some o → is_eligible o ≡ true → state_of o ≡ c.in_ok-state.state
    → IsOutside c.join.new.choice c.args.op → NoneTakes g c.join.new.choice c.args.op → IsPlaced g c.join.new.choice c.args.op c.begin.new.choice)
    (λ _. (g : Graph) → graph_of c.args.checked.now ≡ g → AreReadings g c.args.counts.now → IsOutside c.args.choice.now c.args.op
    → IsSettled g c.args.choice.now c.args.op c.begin.new.choice)
    (λ _ begins g e counted outside.
    (let o = by_number c.args.checked.now g c.requires.kept e c.args.op c.requires.number in
    let may = candidate c.args.checked.now g c.requires.kept e c.args.counts.now c.args.op c.in-Some.stream c.in_ok-state.state o.0 counted c.requires.many o.1
    (sym (c.in_ok-state.ensures.kind g o.0 e o.1)) (sym (c.entry.ensures g o.0 e o.1) ∙ c.in-Some.is) in
    settled g c.args.choice.now c.args.op c.begin.new.choice (eligible_one g c.args.op o.0 o.1 ∙ may.eligible)
    (subst (λ (old : Choice). IsPlaced g old c.args.op c.begin.new.choice) same
    (begins g o.0 e may.there may.eligible may.state_is (subst (λ (old : Choice). IsOutside old c.args.op) (sym same) outside)
    (subst (λ (old : Choice). NoneTakes g old c.args.op) (sym same)
    (subst (λ b. Joins g c.args.choice.now c.args.op b c.join.new.choice) c.if-branch.false (c.in_ok-join.ensures.joins g o.0 e may outside)))))))
    c.begin.ensures
