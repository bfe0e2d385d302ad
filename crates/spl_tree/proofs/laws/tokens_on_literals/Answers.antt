use Rattle.std.proofs.Common.{refl}
use Rattle.spl_tree.specs.Tokens.{front, tokens}
use Rattle.spl_tree.proofs.laws.tokens_on_literals.Goals as goal

pub returns-clause-nothing : goal.returns-clause-nothing
unfolding tokens front
returns-clause-nothing c = refl

pub returns-clause-symbol : goal.returns-clause-symbol
unfolding tokens front
returns-clause-symbol c = refl

pub returns-clause-gaps : goal.returns-clause-gaps
unfolding tokens front
returns-clause-gaps c = refl

pub returns-clause-text : goal.returns-clause-text
unfolding tokens front
returns-clause-text c = refl

pub returns-clause-largest : goal.returns-clause-largest
unfolding tokens front
returns-clause-largest c = refl

pub returns-clause-too_large : goal.returns-clause-too_large
unfolding tokens front
returns-clause-too_large c = refl

pub returns-clause-run_on : goal.returns-clause-run_on
unfolding tokens front
returns-clause-run_on c = refl

pub returns-clause-bad_byte : goal.returns-clause-bad_byte
unfolding tokens front
returns-clause-bad_byte c = refl

pub returns-clause-bad_escape : goal.returns-clause-bad_escape
unfolding tokens front
returns-clause-bad_escape c = refl

pub returns-clause-open_text : goal.returns-clause-open_text
unfolding tokens front
returns-clause-open_text c = refl

pub returns-clause-open_comment : goal.returns-clause-open_comment
unfolding tokens front
returns-clause-open_comment c = refl
