use Rattle.std.proofs.Common.{◌∙◌, ◌<◌, ◌≤◌, ap, subst, length}
use Rattle.language_model.specs.CheckedGraph.{CheckedGraph}
use Rattle.language_model.specs.Keeping.{Keeps}
use Rattle.list_engine.specs.steps.Reading.{reads_at}
use Rattle.list_engine.proofs.Reading.{read_found, read_on, read_end}
use Rattle.list_engine.proofs.readers.is_read.Goals as goal

pub returns-then-reads_at : goal.returns-then-reads_at
returns-then-reads_at c = λ g e.
    read_found c.args.checked.now g (subst Keeps c.checked.view_is c.checked.invariant) e c.args.stream c.loop-number.number c.reads_at.result
    (subst (λ n. c.loop-number.number < n) (c.len-number-end.ensures ∙ (ap (λ (x : CheckedGraph). length x.graph.ops) c.checked.view_is)) c.loop-number-test.true) (c.reads_at.ensures ∙ ap (λ (x : CheckedGraph). reads_at x.graph.ops c.loop-number.number c.args.stream) c.checked.view_is) c.if-reads_at.true (c.loop-number.invariant g e)

pub loop-number-preserved : goal.loop-number-preserved
loop-number-preserved c = λ g e.
    read_on c.args.checked.now g (subst Keeps c.checked.view_is c.checked.invariant) e c.args.stream c.loop-number.number c.reads_at.result
    (subst (λ n. c.loop-number.number < n) (c.len-number-end.ensures ∙ (ap (λ (x : CheckedGraph). length x.graph.ops) c.checked.view_is)) c.loop-number-test.true) (c.reads_at.ensures ∙ ap (λ (x : CheckedGraph). reads_at x.graph.ops c.loop-number.number c.args.stream) c.checked.view_is) c.if-reads_at.false (c.loop-number.invariant g e)

pub returns : goal.returns
returns c = λ g e.
    read_end c.args.checked.now g (subst Keeps c.checked.view_is c.checked.invariant) e c.args.stream c.loop-number.number
    (subst (λ n. n ≤ c.loop-number.number) (c.len-number-end.ensures ∙ (ap (λ (x : CheckedGraph). length x.graph.ops) c.checked.view_is)) c.loop-number-test.false) (c.loop-number.invariant g e)
