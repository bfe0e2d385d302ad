use Rattle.std.proofs.Common.{ap, sym, ◌∙◌}
use Rattle.std.proofs.lemmas.List.{drop_all}
use Rattle.std.specs.Option.{option_or}
use Rattle.stream_numbering.specs.steps.SiteTable.{number_at, body_at}
use Rattle.stream_numbering.proofs.InvokedSites.{site_step, no_site_step, or_nothing}
use Rattle.stream_numbering.proofs.standing.body_numbers.Goals.{in-Some+in_ok-add, in_default}
use Rattle.stream_numbering.proofs.standing.body_numbers.Goals as goal

pub loop-body-preserved : goal.loop-body-preserved
loop-body-preserved c = λ q.
    let i = c.loop-body.body-index in
    let n = c.loop-body.number in
    let old = number_at c.loop-body.sites q in
    let next = c.in_ok-number.number in
    let bodies = c.args.bodies.now in
    elim c.match-body.branch [
      | in-Some+in_ok-add w ↦
          site_step q old (number_at c.match-body.sites q) n next i bodies _ c.loop-body-test.true c.in_ok-number.ensures w.in-Some.site w.in-Some.is
          (ap (λ sites. number_at sites q) w.sites-is ∙ w.in_ok-add.ensures q)
      | in_default w ↦
          no_site_step q old (number_at c.match-body.sites q) n next i bodies _ c.loop-body-test.true c.in_ok-number.ensures w.in_default.is
          (ap (λ sites. number_at sites q) w.sites-is)
    ]
    ∙ c.loop-body.invariant q

pub returns : goal.returns
returns c = λ q.
    let sites = c.loop-body.sites in
    sym (
    ap (λ bodies. option_or (number_at sites q) (body_at c.loop-body.number bodies q)) (drop_all c.loop-body.body-index c.args.bodies.now c.loop-body-test.false)
    ∙ or_nothing (number_at sites q)
    )
    ∙ c.loop-body.invariant q
