use Rattle.std.proofs.Common.{◌≡◌, refl, sym, subst, ◌∙◌, arith}
use Rattle.language_model.specs.Outcomes.{Done}
use Rattle.stream_model.specs.Bodies.{made_where, most_turns}
use Rattle.join_op.specs.Fitting.{PairFits}
use Rattle.join_op.specs.Pairs.{with_other}
use Rattle.join_op.specs.steps.Giving.{given}
use Rattle.join_op.proofs.PairSteps.{given_nothing, one_more, other_again, pair_fits, place_stays}
use Rattle.join_op.proofs.matching.match_all.Goals as goal
use Rattle.spl_value.proofs.Lists.{item_there}

pub loop-i-init : goal.loop-i-init
unfolding most_turns
loop-i-init c = record { place = c.requires.place; env = λ u. refl; given = given_nothing _ _ c.new-outs.ensures }

pub made_where-requires : goal.made_where-requires
made_where-requires c =
    let x = c.args.clauses.now in
    let us = c.args.others.now in
    let u = c.at.result.now in
    subst (λ fs. PairFits fs x.condition.now x.output.now c.set_other.new.env) (sym c.functions-functions.ensures)
    (pair_fits x.at.checked.now.functions x.condition.now x.output.now (with_other c.args.side c.args.env.now) us c.loop-i.i u c.set_other.new.env c.requires.fit
    (item_there us c.loop-i.i u (omega arith) c.at.ensures) (c.in_ok-set_other.ensures ∙ c.loop-i.invariant.env u))

pub loop-i-preserved : goal.loop-i-preserved
loop-i-preserved c =
    let x = c.args.clauses.now in
    let us = c.args.others.now in
    let u = c.at.result.now in
    record {
      place = place_stays c.args.side c.loop-i.env c.set_other.new.env u c.in_ok-set_other.ensures c.loop-i.invariant.place;
      env = λ v. (λ i. with_other c.args.side (c.in_ok-set_other.ensures i) v) ∙ other_again c.args.side c.loop-i.env u v ∙ c.loop-i.invariant.env v;
      given = one_more x.at.checked.now.functions x.condition.now x.output.now (with_other c.args.side c.args.env.now) us c.loop-i.i u c.set_other.new.env _ _ _ _ _
          (item_there us c.loop-i.i u (omega arith) c.at.ensures) (c.in_ok-set_other.ensures ∙ c.loop-i.invariant.env u)
          (subst (λ fs. made_where fs x.condition.now x.output.now c.set_other.new.env c.loop-i.turns ≡ Done (given c.in_ok-made.made) c.made_where.new.turns) c.functions-functions.ensures c.in_ok-made.ensures)
          c.in_ok-give.ensures
          ∙ c.loop-i.invariant.given;
    }
