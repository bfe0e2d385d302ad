use Rattle.std.proofs.Common.{◌∙◌, ap, rules, sym}
use Rattle.language_model.specs.Evaluation.{world_of}
use Rattle.language_model.specs.Functions.{value}
use Rattle.stream_model.specs.Bodies.{at_tuple, most_turns}
use Rattle.relational_ops.proofs.Evaluations.{at_event, taken_out}
use Rattle.relational_ops.proofs.split.picking.pick.Goals as goal

pub returns-in-Value-clause-picked : goal.returns-in-Value-clause-picked
returns-in-Value-clause-picked c = (
  c.eval-found.new.turns,
  ap (λ fs. value fs c.args.index.now (world_of (at_tuple c.args.values)) most_turns) (sym c.functions.ensures)
      ∙ at_event (λ e turns. value c.functions.result.now c.args.index.now (world_of e) turns) c.args.env.now c.push.new.self c.args.values c.requires.idle (search rules) ∙ c.in-Value.ensures,
  taken_out c.args.env.now c.push.new.self c.pop.new.self c.args.values c.in-Some.values c.requires.idle (search rules) c.in-Some.ensures,
)

pub returns-in-Bad-clause-picked : goal.returns-in-Bad-clause-picked
returns-in-Bad-clause-picked c =
    ap (λ fs. value fs c.args.index.now (world_of (at_tuple c.args.values)) most_turns) (sym c.functions.ensures)
    ∙ at_event (λ e turns. value c.functions.result.now c.args.index.now (world_of e) turns) c.args.env.now c.push.new.self c.args.values c.requires.idle (search rules) ∙ c.in-Bad.ensures
