-- What tests of the first token say.
use Rattle.std.specs.Prelude.{◌≡◌, Bool, true, false, List, [], ◌∷◌}
use Rattle.spl_tree.specs.declared.token.Token.{Token}

-- whether the tokens begin with one that passes
abbrev pub begins_with : (Token → Bool) → List Token → Bool
begins_with p [] = false
begins_with p (t ∷ ts) = p t

-- the tokens are this one, which passes, and those after it
pub record Taken (p : Token → Bool) (ts : List Token) (t : Token) (rest : List Token) : Type 0 where
  pub here : ts ≡ t ∷ rest
  pub passes : p t ≡ true

-- some token is taken that makes this of itself
pub record TakenAs {A : Type 0} (p : Token → Bool) (made : Token → A) (ts : List Token) (x : A) (rest : List Token) : Type 0 where
  pub token : Token
  pub taken : Taken p ts token rest
  pub is : x ≡ made token
