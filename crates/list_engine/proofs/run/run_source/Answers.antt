use Rattle.std.proofs.Common.{◌∙◌, [], ◌∷◌, ◌++◌, None, ap, length, subst, sym, arith, slice_get}
use Rattle.language_model.specs.CheckedGraph.{CheckedGraph}
use Rattle.language_model.specs.Keeping.{Keeps}
use Rattle.list_engine.specs.steps.Keeping.{IsKept}
use Rattle.list_engine.proofs.Running.{has_room, only_port, rows_taken, ready_places, source_advances, source_ports}
use Rattle.list_engine.proofs.run.run_source.Goals as goal

pub take-items-requires : goal.take-items-requires
take-items-requires c =
    let rows = (ready_places c.args.checked.now c.requires.ready.0 c.requires.ready.1 c.args.number c.args.state.now c.requires.ready.2).rows in
    let within = c.requires.number in
    omega (arith, rows, within)

pub keep-requires-clause-count : goal.keep-requires-clause-count
keep-requires-clause-count c =
    let k = subst Keeps c.checked.view_is c.checked.invariant in
    let there = ap (λ (x : CheckedGraph). slice_get x.graph.ops c.args.number) (sym c.checked.view_is) ∙ sym c.in-Some.ensures.value in
    ap length (c.in_ok-push.ensures.ok ∙ ap (λ xs. xs ++ c.take-items.result ∷ []) c.new-outs.ensures)
    ∙ only_port c.in-Some.op.now.outs c.take-items.result (source_ports c.args.checked.now c.args.number c.in-Some.op.now k c.requires.is_source there).0

pub keep-requires-clause-room : goal.keep-requires-clause-room
keep-requires-clause-room c =
    let k = subst Keeps c.checked.view_is c.checked.invariant in
    let there = ap (λ (x : CheckedGraph). slice_get x.graph.ops c.args.number) (sym c.checked.view_is) ∙ sym c.in-Some.ensures.value in
    has_room c.args.checked.now c.args.number c.in-Some.op.now _ k there
    (rows_taken c.args.checked.now c.args.number c.args.state.now c.take-items.new.lists
    (ready_places c.args.checked.now c.requires.ready.0 c.requires.ready.1 c.args.number c.args.state.now c.requires.ready.2) c.take-items.ensures.others)

pub returns : goal.returns
returns c = λ order later.
    let k = subst Keeps c.checked.view_is c.checked.invariant in
    let there = ap (λ (x : CheckedGraph). slice_get x.graph.ops c.args.number) (sym c.checked.view_is) ∙ sym c.in-Some.ensures.value in
    let alone = c.in_ok-push.ensures.ok ∙ ap (λ xs. xs ++ c.take-items.result ∷ []) c.new-outs.ensures in
    source_advances c.args.checked.now order later c.args.number c.in-Some.op.now c.args.state.now c.keep.new.state c.take-items.result c.take-items.new.lists k c.requires.is_source there
    c.take-items.ensures.list c.take-items.ensures.others
    (subst (λ xs. IsKept c.in-Some.op.now.outs c.args.number (record { outs = xs; inputs = None }) None (record c.args.state.now { rows = c.take-items.new.lists }) c.keep.new.state) alone c.keep.ensures)
