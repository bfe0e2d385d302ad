-- Where two relations spell the same phrases, their longest fronts are the same.
use Rattle.std.proofs.Common.{List, [], ◌∷◌, ◌++◌}
use Rattle.spl_tree.specs.declared.token.Token.{Token}
use Rattle.spl_tree.specs.Fronts.{Starts, Longest, IsPhrase, IsUnexpected}

-- what one relation spells, the other one does
abbrev pub Spelled : {A : Type 0} → (A → List Token → Type 0) → (A → List Token → Type 0) → Type 0
Spelled {A} S T = (v : A) (a : List Token) → S v a → T v a

starts_alike : {A : Type 0} (S T : A → List Token → Type 0) → Spelled S T → (a : List Token) → Starts S a → Starts T a
starts_alike S T to a s = record { behind = s.behind; value = s.value; spells = to s.value (a ++ s.behind) s.spells }

module _ {A : Type 0} (S T : A → List Token → Type 0) (to : Spelled S T) (from : Spelled T S) where
  pub longest_alike : (ts front rest : List Token) → Longest S ts front rest → Longest T ts front rest
  longest_alike ts front rest l =
      record {
        splits = l.splits;
        starts = starts_alike S T to front l.starts;
        stops = λ t others is s. l.stops t others is (starts_alike T S from (front ++ t ∷ []) s);
      }

  pub phrase_alike : (ts : List Token) (v : A) (rest : List Token) → IsPhrase S ts v rest → IsPhrase T ts v rest
  phrase_alike ts v rest p = record { front = p.front; longest = longest_alike ts p.front rest p.longest; spells = to v p.front p.spells }

  pub unexpected_alike : (ts rest : List Token) → IsUnexpected S ts rest → IsUnexpected T ts rest
  unexpected_alike ts rest u =
      record { front = u.front; longest = longest_alike ts u.front rest u.longest; none = λ v s. u.none v (from v u.front s) }
