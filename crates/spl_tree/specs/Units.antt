-- What the tokens of a program are: a unit that they spell, or the token at which they are refused.
use Rattle.std.specs.Prelude.{◌≡◌, ℕ, ◌≤◌, List, length, take, drop, slice_get, Some, None}
use Rattle.std.specs.Option.{option_map, unwrap_or}
use Rattle.spl_tree.specs.declared.token.Token.{Token}
use Rattle.spl_tree.specs.declared.token.Tokens.{Tokens}
use Rattle.spl_tree.specs.declared.unit.Definition.{Definition}
use Rattle.spl_tree.specs.Fronts.{Longest}
use Rattle.spl_tree.specs.Grammar.{Spells, Program}
use Rattle.spl_tree.specs.Weights.{too_deep_from}

-- the tokens spell a program with these definitions
abbrev pub SpellsProgram : List Definition → List Token → Type 0
SpellsProgram unit = Spells (Program unit)

-- the byte at which that token of the list begins, or the program's end where there is none
abbrev pub place_of : Tokens → ℕ → ℕ
place_of tokens i = unwrap_or (option_map (λ t. t.start) (slice_get tokens.list i)) tokens.length

-- of the tokens from there on, the first that is too deep is the one of that place
pub record IsTooDeepAt (tokens : Tokens) (from at : ℕ) : Type 0 where
  pub token : ℕ
  pub first : too_deep_from from tokens.list ≡ Some token
  pub place : at ≡ place_of tokens token

-- no token is too deep, and all tokens spell the unit
pub record IsUnit (tokens : Tokens) (unit : List Definition) : Type 0 where
  pub shallow : too_deep_from 0 tokens.list ≡ None
  pub spells : SpellsProgram unit tokens.list

-- no token is too deep, the tokens before the one of that place start a unit and do not together with it; or the place
-- is the program's end, and all tokens start a unit and spell none
pub record IsUnexpectedAt (tokens : Tokens) (at : ℕ) : Type 0 where
  pub shallow : too_deep_from 0 tokens.list ≡ None
  pub token : ℕ
  pub within : token ≤ length tokens.list
  pub place : at ≡ place_of tokens token
  pub longest : Longest SpellsProgram tokens.list (take token tokens.list) (drop token tokens.list)
  pub none : (unit : List Definition) → SpellsProgram unit tokens.list → ⊥
