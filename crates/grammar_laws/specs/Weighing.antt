-- Where a list of tokens is too deep.
use Rattle.std.specs.Prelude.{◌≡◌, List}
use Rattle.spl_tree.specs.declared.token.Token.{Token}
use Rattle.spl_tree.specs.Weights.{too_deep_at, too_deep_from}

-- from the first token on it is the first that weighs too much
abbrev pub WholeListLaw : Type 0
WholeListLaw = (ts : List Token) → too_deep_from 0 ts ≡ too_deep_at ts
