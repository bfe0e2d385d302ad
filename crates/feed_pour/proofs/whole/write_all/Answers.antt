use Rattle.std.proofs.Common.{◌∙◌, refl}
use Rattle.feed_pour.proofs.Wholes.{poured_more, poured_err, within_more}
use Rattle.feed_pour.proofs.whole.write_all.Goals as goal

pub returns-in-Err-clause-poured : goal.returns-in-Err-clause-poured
returns-in-Err-clause-poured g c = poured_err _ _ _ c.args.bytes.now _ c.fronts.at c.in-Err.e refl c.fronts.invariant.within c.fronts.invariant.poured c.in-Err.ensures.poured

pub fronts-preserved : goal.fronts-preserved
fronts-preserved g c = record {
  within = within_more c.args.bytes.now c.fronts.at c.in-Ok.n c.fronts.invariant.within c.in-Ok.ensures.some.1;
  poured = poured_more _ _ _ c.args.bytes.now _ c.fronts.at c.in-Ok.n refl c.fronts.invariant.poured c.in-Ok.ensures.poured;
  count = c.in-Ok.ensures.cause ∙ c.fronts.invariant.count;
}
