use Rattle.std.proofs.Common.{◌≡◌, ◌∙◌, ◌≤◌, ap, sym, subst, length, List, ℕ, ◌==◌, false, true}
use Rattle.language_model.specs.CheckedGraph.{CheckedGraph}
use Rattle.language_model.specs.Keeping.{Keeps}
use Rattle.arrival_format.specs.steps.Steps.{AreReadUpTo}
use Rattle.arrival_format.proofs.Lines.{lines_behind, nothing_read}
use Rattle.arrival_format.proofs.reading.read_lines.Goals as goal

pub loop-number-init : goal.loop-number-init
loop-number-init c =
    subst (λ lists. AreReadUpTo c.args.checked.now 0 c.args.bytes.now lists c.args.bytes.now) (sym c.new-lists.ensures)
    (nothing_read c.args.checked.now c.args.bytes.now (subst Keeps c.checked.view_is c.checked.invariant))

pub returns-else-is_empty-clause-bad : goal.returns-else-is_empty-clause-bad
returns-else-is_empty-clause-bad c =
    let past : length c.args.checked.now.graph.ops ≤ c.loop-number.number = subst (λ n. n ≤ c.loop-number.number) (c.len-number-end.ensures ∙ ap (λ (x : CheckedGraph). length x.graph.ops) c.checked.view_is) c.loop-number-test.false in
    λ bad. lines_behind c.args.checked.now c.loop-number.number c.args.bytes.now c.loop-number.lists c.loop-number.rest.now past c.loop-number.invariant
    (subst Keeps c.checked.view_is c.checked.invariant)
    (λ empty. (let some : false ≡ true = c.if-is_empty.ensures ∙ ap (λ (xs : List ℕ). length xs == 0) empty in cc))
