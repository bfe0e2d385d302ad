use Rattle.std.proofs.Common.{◌∷◌, sym, ap, ◌∙◌}
use Rattle.stream_model.specs.Windows.{Insert, content, contents_of}
use Rattle.window_policy.specs.Answers.{firing_of}
use Rattle.aggregate_op.specs.steps.Giving.{contents_given}
use Rattle.aggregate_op.proofs.aggregate.whole.given_fired.Goals as goal
use Rattle.spl_value.proofs.Results.{ok_weaker}

pub given_whole-requires : goal.given_whole-requires
given_whole-requires c =
    let t = c.requires in
    (t.4, ap (λ f. contents_given c.args.clauses.now (contents_of (firing_of f (content t.0 t.1 (Insert t.1 t.2 ∷ t.3))))) (sym c.in-Whole.is) ∙ t.6)

pub given_newest-requires : goal.given_newest-requires
given_newest-requires c =
    let t = c.requires in (
      t.0,
      t.1,
      t.2,
      t.3,
      t.4,
      t.5,
      ap (λ f. contents_given c.args.clauses.now (contents_of (firing_of f (content t.0 t.1 (Insert t.1 t.2 ∷ t.3))))) (sym c.in-Stays.is) ∙ t.6,
    )

pub returns-in-Whole : goal.returns-in-Whole
returns-in-Whole c =
    ok_weaker c.given_whole.result _ _
    (λ outs e rule key t h stood. ap (λ f. contents_given c.args.clauses.now (contents_of (firing_of f (content rule key (Insert key t ∷ h))))) c.in-Whole.is ∙ e) c.given_whole.ensures

pub returns-in-Stays : goal.returns-in-Stays
returns-in-Stays c =
    ok_weaker c.given_newest.result _ _
    (λ outs e rule key t h stood. ap (λ f. contents_given c.args.clauses.now (contents_of (firing_of f (content rule key (Insert key t ∷ h))))) c.in-Stays.is ∙ e rule key t h stood)
    c.given_newest.ensures
