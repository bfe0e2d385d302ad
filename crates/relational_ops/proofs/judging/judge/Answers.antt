use Rattle.std.proofs.Common.{◌∙◌, ap, rules, sym}
use Rattle.stream_model.specs.Bodies.{at_tuple, holds, most_turns}
use Rattle.relational_ops.proofs.Evaluations.{at_event, taken_out}
use Rattle.relational_ops.proofs.judging.judge.Goals as goal

pub returns-in-Is-clause-judged : goal.returns-in-Is-clause-judged
returns-in-Is-clause-judged c = (
  c.holds-truth.new.turns,
  ap (λ fs. holds fs c.args.condition.now (at_tuple c.args.values) most_turns) (sym c.functions.ensures)
      ∙ at_event (holds c.functions.result.now c.args.condition.now) c.args.env.now c.push.new.self c.args.values c.requires.idle (search rules) ∙ c.in-Is.ensures,
  taken_out c.args.env.now c.push.new.self c.pop.new.self c.args.values c.in-Some.values c.requires.idle (search rules) c.in-Some.ensures,
)

pub returns-in-Bad-clause-judged : goal.returns-in-Bad-clause-judged
returns-in-Bad-clause-judged c =
    ap (λ fs. holds fs c.args.condition.now (at_tuple c.args.values) most_turns) (sym c.functions.ensures)
    ∙ at_event (holds c.functions.result.now c.args.condition.now) c.args.env.now c.push.new.self c.args.values c.requires.idle (search rules) ∙ c.in-Bad.ensures
