use Rattle.std.proofs.Common.{◌∙◌, ap, subst, get_or}
use Rattle.language_model.specs.CheckedGraph.{CheckedGraph}
use Rattle.language_model.specs.Keeping.{Keeps}
use Rattle.list_engine.specs.steps.Reading.{reads_at}
use Rattle.list_engine.proofs.Reading.{later_found, later_on}
use Rattle.list_engine.proofs.readers.is_read_later.Goals as goal

pub returns-then-reads_at : goal.returns-then-reads_at
returns-then-reads_at c = λ g e.
    later_found c.args.checked.now g (subst Keeps c.checked.view_is c.checked.invariant) e c.args.stream c.loop-number.number-index c.args.later.now c.reads_at.result
    c.loop-number-test.true (c.reads_at.ensures ∙ ap (λ (x : CheckedGraph). reads_at x.graph.ops (get_or c.args.later.now c.loop-number.number-index 0) c.args.stream) c.checked.view_is)
    c.if-reads_at.true (c.loop-number.invariant g e)

pub loop-number-preserved : goal.loop-number-preserved
loop-number-preserved c = λ g e.
    later_on c.args.checked.now g (subst Keeps c.checked.view_is c.checked.invariant) e c.args.stream c.loop-number.number-index c.args.later.now c.reads_at.result
    c.loop-number-test.true (c.reads_at.ensures ∙ ap (λ (x : CheckedGraph). reads_at x.graph.ops (get_or c.args.later.now c.loop-number.number-index 0) c.args.stream) c.checked.view_is)
    c.if-reads_at.false (c.loop-number.invariant g e)
