-- What the weighing of tokens is, in the code.
use Rattle.std.specs.Prelude.{◌≡◌, ℕ, ◌+◌, min, Bool, true, false, List, [], ◌∷◌, map, drop, reverse}
use Rattle.spl_tree.specs.declared.token.Token.{Token}
use Rattle.spl_tree.specs.Weights as W
use Rattle.token_weights.specs.declared.weight.Effect.{Effect}
use Rattle.token_weights.specs.declared.weight.Effect.TheVariants as E
use Rattle.token_weights.specs.declared.weight.Weighing.{Weighing}

abbrev pub effect_of : Effect → W.Effect
effect_of E.Nothing = W.Nothing
effect_of E.Adds = W.Adds
effect_of E.Opens = W.Opens
effect_of (E.Closes brace) = W.Closes brace
effect_of E.Separates = W.Separates

-- the weights before open brackets, the innermost first
abbrev pub brackets : List ℕ → W.Opened
brackets before = reverse before

abbrev pub weighing_of : Weighing → W.Weighing
weighing_of w = record { weight = w.weight; opened = brackets w.before }

-- A weight is kept in a byte: a weight over 255 as 255, since both are too much.

abbrev pub kept_weight : ℕ → ℕ
kept_weight w = min w 255

abbrev pub kept : W.Weighing → W.Weighing
kept d = record { weight = kept_weight d.weight; opened = map kept_weight d.opened }

-- what tokens do to what is kept

abbrev pub kept_start : W.Opened → ℕ
kept_start [] = 0
kept_start (before ∷ outer) = kept_weight (before + 1)

abbrev pub kept_closing : (brace next_adds : Bool) → W.Weighing → W.Opened → W.Weighing
kept_closing brace next_adds d [] = d
kept_closing true false d (before ∷ outer) = record { weight = kept_start outer; opened = outer }
kept_closing _ _ d (before ∷ outer) = record { weight = before; opened = outer }

abbrev pub kept_after : W.Effect → (next_adds : Bool) → W.Weighing → W.Weighing
kept_after W.Nothing next_adds d = d
kept_after W.Adds next_adds d = record { weight = kept_weight (d.weight + 1); opened = d.opened }
kept_after W.Opens next_adds d = record { weight = kept_weight (d.weight + 1); opened = d.weight ∷ d.opened }
kept_after W.Separates next_adds d = record { weight = kept_start d.opened; opened = d.opened }
kept_after (W.Closes brace) next_adds d = kept_closing brace next_adds d d.opened

-- after the first i tokens, w is what is kept of the weight there
pub record Leads (ts : List Token) (i : ℕ) (w : Weighing) : Type 0 where
  pub weighing : W.Weighing
  pub is : weighing_of w ≡ kept weighing
  pub on : W.weights_from weighing (drop i ts) ≡ drop i (W.weights ts)
