use Rattle.std.proofs.Common.{ap, sym, ◌∙◌}
use Rattle.std.proofs.lemmas.List.{drop_all}
use Rattle.std.specs.Option.{option_or}
use Rattle.stream_numbering.specs.steps.SiteTable.{number_at, first_at}
use Rattle.stream_numbering.proofs.InvokedSites.{operation_step, or_nothing}
use Rattle.stream_numbering.proofs.standing.first_streams.Goals as goal

pub loop-operation-preserved : goal.loop-operation-preserved
loop-operation-preserved c = λ q.
    operation_step q (number_at c.loop-operation.sites q) (number_at c.add.new.self q) c.loop-operation.first c.in_ok-first.first c.loop-operation.operation-index
    c.args.operations.now c.operation-item.result c.loop-operation-test.true c.operation-item.is c.in_ok-first.ensures (c.in_ok-add.ensures q)
    ∙ c.loop-operation.invariant q

pub returns : goal.returns
returns c = λ q.
    let sites = c.loop-operation.sites in
    sym (
    ap (λ ops. option_or (number_at sites q) (first_at c.loop-operation.first ops q)) (drop_all c.loop-operation.operation-index c.args.operations.now c.loop-operation-test.false)
    ∙ or_nothing (number_at sites q)
    )
    ∙ c.loop-operation.invariant q
