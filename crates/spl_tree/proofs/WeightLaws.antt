-- Each token has a weight, which is at most the number of tokens up to it.
use Rattle.std.proofs.Common.{◌≡◌, ℕ, suc, ◌+◌, ◌<◌, ◌≤◌, nat_lt, not, Bool, true, false, List, [], ◌∷◌, length, refl, ap, arith, le-ltb}
use Rattle.std.specs.List.{prefix_len, position_or_len}
use Rattle.spl_tree.specs.declared.token.Token.{Token}
use Rattle.spl_tree.specs.Weights.{Effect, Nothing, Adds, Opens, Closes, Separates, effect, next_adds, Opened, level_start, Weighing, after_closing, after_token, weight_at, weights_from, weights, most_weight}
use Rattle.spl_tree.specs.Laws.{WeightsLaw, ShallowLaw}

-- also after other tokens, each token has a weight
length-weights_from : (d : Weighing) (ts : List Token) → length (weights_from d ts) ≡ length ts
length-weights_from d [] = refl
length-weights_from d (t ∷ ts) = ap suc (length-weights_from (after_token (effect t.kind) (next_adds ts) d) ts)

-- each token has a weight
pub weights_law : WeightsLaw
weights_law ts = length-weights_from (record { weight = 0; opened = [] }) ts

-- each level starts at most there
abbrev Below : ℕ → Opened → Type 0
Below most [] = Unit {0}
Below most (before ∷ outer) = (before < most) × Below most outer

-- and the weight is at most that
record Within (most : ℕ) (d : Weighing) : Type 0 where
  weight : d.weight ≤ most
  opened : Below most d.opened

-- the innermost level starts at most there
level_start-le : (most : ℕ) (opened : Opened) → Below most opened → level_start opened ≤ most
level_start-le most [] below = omega arith
level_start-le most (before ∷ outer) below = let first = below.0 in omega arith

-- a bound may be larger
Below-more : (most : ℕ) (opened : Opened) → Below most opened → Below (most + 1) opened
Below-more most [] below = tt
Below-more most (before ∷ outer) below = (omega arith, Below-more most outer below.1)

-- a closing bracket adds no weight
after_closing-within : (most : ℕ) (brace next_adds : Bool) (d : Weighing) (opened : Opened) → Within most d → Below most opened
    → Within (most + 1) (after_closing brace next_adds d opened)
after_closing-within most brace next_adds d [] within below = record { weight = omega arith; opened = Below-more most d.opened within.opened }
after_closing-within most true false d (before ∷ outer) within below =
    record { weight = omega (arith, level_start-le most outer below.1); opened = Below-more most outer below.1 }
after_closing-within most true true d (before ∷ outer) within below = record { weight = omega arith; opened = Below-more most outer below.1 }
after_closing-within most false next_adds d (before ∷ outer) within below = record { weight = omega arith; opened = Below-more most outer below.1 }

-- a token adds at most 1
after_token-within : (most : ℕ) (e : Effect) (next_adds : Bool) (d : Weighing) → Within most d → Within (most + 1) (after_token e next_adds d)
after_token-within most Nothing next_adds d within = record { weight = omega arith; opened = Below-more most d.opened within.opened }
after_token-within most Adds next_adds d within = record { weight = omega arith; opened = Below-more most d.opened within.opened }
after_token-within most Opens next_adds d within = record { weight = omega arith; opened = (omega arith, Below-more most d.opened within.opened) }
after_token-within most Separates next_adds d within =
    record { weight = omega (arith, level_start-le most d.opened within.opened); opened = Below-more most d.opened within.opened }
after_token-within most (Closes brace) next_adds d within = after_closing-within most brace next_adds d d.opened within within.opened

-- where `most` and the number of tokens add up to at most `most_weight`, each token weighs at most that
light : (most : ℕ) (d : Weighing) (ts : List Token) → Within most d → most + length ts ≤ most_weight
    → prefix_len (λ w. not (nat_lt most_weight w)) (weights_from d ts) ≡ length (weights_from d ts)
light most d [] within le = refl
light most d (t ∷ ts) within le =
    let e = after_token (effect t.kind) (next_adds ts) d in
    let more = after_token-within most (effect t.kind) (next_adds ts) d within in
    let here = after_token-within most (effect t.kind) true d within in
    let small : nat_lt most_weight (weight_at (effect t.kind) d) ≡ false = le-ltb most_weight (weight_at (effect t.kind) d) (omega (arith, here.weight)) in
    rw small (let rest = light (most + 1) e ts more (omega arith) in omega arith)

-- at most `most_weight` tokens are never too deep
pub shallow_law : ShallowLaw
shallow_law ts le =
    let first : Weighing = record { weight = 0; opened = [] } in
    let all = light 0 first ts (record { weight = omega arith; opened = tt }) (omega arith) in
    let none : nat_lt (position_or_len (λ w. nat_lt most_weight w) (weights ts)) (length (weights ts)) ≡ false = le-ltb _ _ (omega arith) in
    rw none
