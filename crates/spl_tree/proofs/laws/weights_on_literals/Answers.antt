use Rattle.std.proofs.Common.{refl}
use Rattle.spl_tree.specs.Tokens.{front, tokens}
use Rattle.spl_tree.proofs.laws.weights_on_literals.Goals as goal

pub returns-clause-levels : goal.returns-clause-levels
unfolding tokens front
returns-clause-levels c = refl

pub returns-clause-block_ends : goal.returns-clause-block_ends
unfolding tokens front
returns-clause-block_ends c = refl

pub returns-clause-symbols : goal.returns-clause-symbols
unfolding tokens front
returns-clause-symbols c = refl
