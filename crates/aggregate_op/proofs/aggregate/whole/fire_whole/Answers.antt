use Rattle.std.proofs.Common.{ap, sym, ◌∙◌}
use Rattle.stream_model.specs.Windows.{contents_of}
use Rattle.aggregate_op.specs.steps.Giving.{contents_given}
use Rattle.aggregate_op.proofs.aggregate.whole.fire_whole.Goals as goal

pub given_fired-requires : goal.given_fired-requires
given_fired-requires c =
    let t = c.requires in
    let x = c.args.clauses.now in (
      t.0,
      c.args.key.now,
      c.args.tuple,
      t.1,
      t.2,
      c.in_ok-fired.ensures.stands t.0 t.1 t.3,
      ap (λ f. contents_given x (contents_of f)) (c.in_ok-fired.ensures.fires t.0 t.1 t.3) ∙ t.4,
    )

pub returns-clause-outs : goal.returns-clause-outs
returns-clause-outs c rule h stood =
    let x = c.args.clauses.now in
    ap (λ f. contents_given x (contents_of f)) (sym (c.in_ok-fired.ensures.fires rule h stood))
    ∙ c.in_ok-outs.ensures rule c.args.key.now c.args.tuple h (c.in_ok-fired.ensures.stands rule h stood)
