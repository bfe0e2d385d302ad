use Rattle.std.proofs.Common.{◌<◌, ◌+◌, ◌++◌, List, length, drop, get_or, ap, ◌∙◌, arith}
use Rattle.spl_value.specs.declared.value.Value.{Value}
use Rattle.running_folds.specs.Tallies.{made_from}
use Rattle.running_folds.specs.steps.Tallies.{BeginsAnew}
use Rattle.running_folds.proofs.AllRows.{begun_anew}
use Rattle.running_folds.proofs.Made.{made_next}
use Rattle.running_folds.proofs.Steps.{one_stepped, stands}
use Rattle.running_folds.proofs.tallies.take_all.Goals as goal

pub loop-tally-preserved : goal.loop-tally-preserved
loop-tally-preserved c =
    let old = c.args.tallies.now in
    let at = c.loop-tally.tally-index in
    let inv = c.loop-tally.invariant in
    let t = get_or c.loop-tally.tallies at c.tally-item.result in
    let within : at < length c.loop-tally.tallies = omega arith in
    let there = stands BeginsAnew at old c.loop-tally.tallies inv.stepped within c.tally-item.result in record {
      stepped = one_stepped BeginsAnew at old c.loop-tally.tallies inv.stepped within t c.take.new.self there (c.take.ensures.fold, c.take.ensures.tallied);
      made = ap (λ (vs : List Value). vs ++ made_from (drop (at + 1) old)) c.in_ok-push_some.ensures
          ∙ made_next at old t c.loop-tally.made (made_from old) c.take.result there c.take.ensures.made inv.made;
    }

pub returns-clause-folds : goal.returns-clause-folds
returns-clause-folds c = (begun_anew c.loop-tally.tally-index c.args.tallies.now c.loop-tally.tallies c.loop-tally.invariant.stepped (omega arith)).0

pub returns-clause-tallied : goal.returns-clause-tallied
returns-clause-tallied c = (begun_anew c.loop-tally.tally-index c.args.tallies.now c.loop-tally.tallies c.loop-tally.invariant.stepped (omega arith)).1
