use Rattle.std.specs.List.{concat}
use Rattle.std.proofs.Common.{◌≡◌, ◌∙◌, ◌<◌, ◌≤◌, ap, sym, subst, Some, Err, length, slice_get}
use Rattle.language_model.specs.CheckedGraph.{CheckedGraph}
use Rattle.language_model.specs.Keeping.{Keeps}
use Rattle.arrival_format.specs.declared.answer.ArrivalsAnswer.TheVariants as A
use Rattle.arrival_format.specs.steps.Steps.{IsLine}
use Rattle.arrival_format.proofs.Lines.{few_connections, line_passed, line_read, line_wanting}
use Rattle.arrival_format.proofs.reading.read_operator.Goals as goal

pub connection_count-bound-requires : goal.connection_count-bound-requires
connection_count-bound-requires c =
    let there : slice_get c.args.checked.now.graph.ops c.args.number ≡ Some c.in-Some.op.now = ap (λ (x : CheckedGraph). slice_get x.graph.ops c.args.number) (sym c.checked.view_is) ∙ sym c.in-Some.ensures.value in
    record { few = few_connections c.args.checked.now (subst Keeps c.checked.view_is c.checked.invariant) c.args.number c.in-Some.op.now there }

pub returns-then-bound-lt2-clause-read : goal.returns-then-bound-lt2-clause-read
returns-then-bound-lt2-clause-read c =
    let there : slice_get c.args.checked.now.graph.ops c.args.number ≡ Some c.in-Some.op.now = ap (λ (x : CheckedGraph). slice_get x.graph.ops c.args.number) (sym c.checked.view_is) ∙ sym c.in-Some.ensures.value in
    λ all so_far. line_passed c.args.checked.now (subst Keeps c.checked.view_is c.checked.invariant) c.args.number c.in-Some.op.now all c.args.lists.now c.args.bytes.now there so_far
    (subst (λ k. k < 2) c.connection_count-bound.ensures c.if-bound-lt2.true)

pub returns-in_ok-push-in-Ok-clause-read : goal.returns-in_ok-push-in-Ok-clause-read
returns-in_ok-push-in-Ok-clause-read c =
    let there : slice_get c.args.checked.now.graph.ops c.args.number ≡ Some c.in-Some.op.now = ap (λ (x : CheckedGraph). slice_get x.graph.ops c.args.number) (sym c.checked.view_is) ∙ sym c.in-Some.ensures.value in
    let count = c.connection_count-bound.ensures in
    λ all so_far. line_read c.args.checked.now (subst Keeps c.checked.view_is c.checked.invariant) c.args.number c.in-Some.op.now all c.args.lists.now c.args.bytes.now there so_far
    c.in-Ok.inputs c.in-Ok.rest.now c.push.new.self (subst (λ k. 2 ≤ k) count c.if-bound-lt2.false)
    (subst (λ name. IsLine name (length (concat c.in-Some.op.now.ins)) c.args.bytes.now c.in-Ok.inputs c.in-Ok.rest.now) c.as_slice.ensures
    (subst (λ k. IsLine c.as_slice.result.now k c.args.bytes.now c.in-Ok.inputs c.in-Ok.rest.now) count c.in-Ok.ensures.read))
    c.in_ok-push-in-Ok.ensures.ok

pub returns-in-Err-clause-bad : goal.returns-in-Err-clause-bad
returns-in-Err-clause-bad c =
    let there : slice_get c.args.checked.now.graph.ops c.args.number ≡ Some c.in-Some.op.now = ap (λ (x : CheckedGraph). slice_get x.graph.ops c.args.number) (sym c.checked.view_is) ∙ sym c.in-Some.ensures.value in
    let count = c.connection_count-bound.ensures in
    λ bad all so_far.
    (let is : c.in-Err.answer ≡ A.Bad = cc in
    let none = c.in-Err.ensures.bad (ap Err is) in
    line_wanting c.args.checked.now (subst Keeps c.checked.view_is c.checked.invariant) c.args.number c.in-Some.op.now all c.args.lists.now c.args.bytes.now there so_far
    (subst (λ k. 2 ≤ k) count c.if-bound-lt2.false)
    (λ inputs rest line. none inputs rest
    (subst (λ name. IsLine name c.connection_count-bound.result c.args.bytes.now inputs rest) (sym c.as_slice.ensures)
    (subst (λ k. IsLine c.in-Some.op.now.name k c.args.bytes.now inputs rest) (sym count) line))))
