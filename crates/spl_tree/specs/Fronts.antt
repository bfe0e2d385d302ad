-- What reading a phrase from tokens has to answer, where it is said which tokens spell which phrase.
-- A reader takes the longest front of the tokens that further tokens would complete to a phrase. Where that
-- front spells a phrase itself, the reader gives the phrase, and the tokens after the front. Where it spells none,
-- the reader refuses the first token after it, or the end of the tokens.
use Rattle.std.specs.Prelude.{◌≡◌, List, [], ◌∷◌, ◌++◌}
use Rattle.spl_tree.specs.declared.token.Token.{Token}

module _ {A : Type 0} (Spells : A → List Token → Type 0) where
  -- some tokens after these complete them to a phrase
  pub record Starts (tokens : List Token) : Type 0 where
    pub behind : List Token
    pub value : A
    pub spells : Spells value (tokens ++ behind)

  -- front is the longest front of the tokens that starts a phrase
  pub record Longest (tokens front rest : List Token) : Type 0 where
    pub splits : tokens ≡ front ++ rest
    pub starts : Starts front
    pub stops : (t : Token) (others : List Token) → rest ≡ t ∷ others → Starts (front ++ t ∷ []) → ⊥

  -- that front spells the value, and the rest comes after it
  pub record IsPhrase (tokens : List Token) (value : A) (rest : List Token) : Type 0 where
    pub front : List Token
    pub longest : Longest tokens front rest
    pub spells : Spells value front

  -- that front spells no value, and the rest comes after it
  pub record IsUnexpected (tokens rest : List Token) : Type 0 where
    pub front : List Token
    pub longest : Longest tokens front rest
    pub none : (value : A) → Spells value front → ⊥
