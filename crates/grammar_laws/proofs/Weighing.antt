-- From the first token on, the first that weighs too much.
use Rattle.std.specs.Prelude.{nat_lt}
use Rattle.std.proofs.Common.{sym}
use Rattle.std.proofs.lemmas.Iterator.Adapters.{position_from-zero}
use Rattle.spl_tree.specs.Weights.{most_weight, weights}
use Rattle.grammar_laws.specs.Weighing.{WholeListLaw}

pub whole_list_law : WholeListLaw
whole_list_law ts = sym (position_from-zero (λ w. nat_lt most_weight w) (weights ts))
