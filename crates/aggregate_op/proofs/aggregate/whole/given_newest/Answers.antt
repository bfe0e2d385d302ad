use Rattle.std.proofs.Common.{◌∷◌, [], sym, ap, ◌∙◌}
use Rattle.aggregate_op.specs.steps.Giving.{contents_given}
use Rattle.aggregate_op.proofs.aggregate.whole.given_newest.Goals as goal
use Rattle.spl_value.proofs.Results.{ok_weaker}

pub given_content-requires : goal.given_content-requires
given_content-requires c =
    let t = c.requires in
    (t.4, ap (λ us. contents_given c.args.clauses.now (us ∷ [])) (c.newest_content-content.ensures t.0 t.1 t.2 t.3 t.5) ∙ t.6)

pub returns : goal.returns
returns c =
    ok_weaker c.given_content.result _ _
    (λ outs e rule key t h stood. ap (λ us. contents_given c.args.clauses.now (us ∷ [])) (sym (c.newest_content-content.ensures rule key t h stood)) ∙ e) c.given_content.ensures
