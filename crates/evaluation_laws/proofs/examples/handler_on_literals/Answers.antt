use Rattle.evaluation_laws.proofs.OneHandler.{handlers_fit, are_first, constant_fits, runs_fits, tuple_left, tuple_wanted, slots_agree, other_left, window_left}
use Rattle.evaluation_laws.proofs.examples.handler_on_literals.Goals as goal

pub returns : goal.returns
returns c = record {
  fits = handlers_fit;
  first = are_first;
  code = constant_fits;
  body = runs_fits;
  leaves = tuple_left;
  wanted = tuple_wanted;
  agree = slots_agree;
  other = other_left;
  window = window_left;
}
