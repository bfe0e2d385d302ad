use Rattle.std.proofs.Common.{◌≡◌, ◌<◌, ◌+◌, suc, length, drop, get_or, ap, ◌∙◌, arith}
use Rattle.spl_value.proofs.Lists.{get_below, get_within, next_rest}
use Rattle.running_folds.specs.steps.Tallies.{AddsOf}
use Rattle.running_folds.proofs.AllRows.{added_all}
use Rattle.running_folds.proofs.Steps.{none_stepped, one_stepped, stands}
use Rattle.running_folds.proofs.tallies.add_all.Goals as goal

pub loop-tally-init : goal.loop-tally-init
loop-tally-init c = record {
  stepped = none_stepped (AddsOf c.args.row) c.args.tallies.now;
  left = λ none. c.into_iter-values.ensures.rest ∙ c.into_vec.ensures;
}

pub loop-tally-preserved : goal.loop-tally-preserved
loop-tally-preserved c =
    let row = c.args.row in
    let at = c.loop-tally.tally-index in
    let inv = c.loop-tally.invariant in
    let within : at < length c.loop-tally.tallies = omega arith in
    let after : suc at ≡ at + 1 = omega arith in record {
      stepped = one_stepped (AddsOf row) at c.args.tallies.now c.loop-tally.tallies inv.stepped within (get_or c.loop-tally.tallies at c.tally-item.result) c.add_next.new.tally
          (stands (AddsOf row) at c.args.tallies.now c.loop-tally.tallies inv.stepped within c.tally-item.result)
          (λ w is.
          let there = get_within row at w is in
          c.add_next.ensures.adds w (drop (suc at) row) (inv.left (omega arith) ∙ next_rest row at w is));
      left = λ more.
          let v = get_below row at (omega (arith, more)) in
          c.add_next.ensures.rest v.0 (drop (suc at) row) (inv.left (omega (arith, more)) ∙ next_rest row at v.0 v.1) ∙ ap (λ n. drop n row) after;
    }

pub returns-clause-folds : goal.returns-clause-folds
returns-clause-folds c same =
    (added_all c.loop-tally.tally-index c.args.tallies.now c.loop-tally.tallies c.args.row same c.loop-tally.invariant.stepped (omega arith)).0

pub returns-clause-tallied : goal.returns-clause-tallied
returns-clause-tallied c same =
    (added_all c.loop-tally.tally-index c.args.tallies.now c.loop-tally.tallies c.args.row same c.loop-tally.invariant.stepped (omega arith)).1
