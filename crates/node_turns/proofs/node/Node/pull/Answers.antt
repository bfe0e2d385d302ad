use Rattle.std.proofs.Common.{rules, ◌≡◌, ◌∙◌, false, refl}
use Rattle.node_turns.proofs.node.Node.pull.Goals as goal

pub pull_at-requires-clause-runs : goal.pull_at-requires-clause-runs
pull_at-requires-clause-runs g c =
    let r = c.inputs.invariant.2 c.requires.runs.0 c.requires.runs.1 in
    (c.requires.runs.0, record { ins = r.ins; outs = r.outs; meets = r.meets })

pub returns-then-pull_at-clause-runs : goal.returns-then-pull_at-clause-runs
returns-then-pull_at-clause-runs g c part run =
    let r = c.inputs.invariant.2 part run in
    c.pull_at.ensures.runs part (record { ins = r.ins; outs = r.outs; meets = r.meets })

pub inputs-init : goal.inputs-init
inputs-init g c = (
  refl,
  search rules,
  (λ part r. r),
  record { taken_same = refl; sent_same = refl; source = refl; note = refl },
)

pub inputs-preserved : goal.inputs-preserved
inputs-preserved g c =
    let none : c.pull_at.result ≡ false = search rules in
    let s = c.pull_at.ensures.still none in
    let w = c.inputs.invariant.3 in (
      c.pull_at.ensures.number ∙ c.inputs.invariant.0,
      c.pull_at.ensures.count ∙ c.inputs.invariant.1,
      (λ part run. let r = c.inputs.invariant.2 part run in
          c.pull_at.ensures.runs part (record { ins = r.ins; outs = r.outs; meets = r.meets })),
      record {
        taken_same = s.taken_same ∙ w.taken_same;
        sent_same = s.sent_same ∙ w.sent_same;
        source = s.source ∙ w.source;
        note = s.note ∙ w.note;
      },
    )

pub returns-clause-still : goal.returns-clause-still
returns-clause-still g c none = c.inputs.invariant.3
