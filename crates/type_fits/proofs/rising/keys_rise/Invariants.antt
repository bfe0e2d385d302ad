use Rattle.std.proofs.Common.{◌≡◌}
use Rattle.std.specs.Option.{option_copied}
use Rattle.spl_value.specs.Pairs.{are_pairs}
use Rattle.type_fits.proofs.Ascending.{rise_from}
use Rattle.type_fits.proofs.rising.keys_rise.Given as goal

abbrev pub invariant-loop-pair : goal.invariant-loop-pair
invariant-loop-pair l = rise_from (option_copied l.before) l.pair-iterator ≡ are_pairs l.fn.pairs
