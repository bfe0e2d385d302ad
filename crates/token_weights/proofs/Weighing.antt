-- One token more is weighed.
use Rattle.std.proofs.Common.{◌≡◌, ◌∙◌, ℕ, ◌+◌, ◌-◌, ◌<◌, ◌≤◌, nat_lt, Bool, true, false, List, [], ◌∷◌, length, take, drop, map, get_or, Some, None, cond, refl, sym, ap, arith, lt-ltb, le-ltb, ltb-true, ltb-false}
use Rattle.std.specs.List.{position_from}
use Rattle.std.proofs.lemmas.List.{take_rest, at_drop_more, at_drop_all, drop-drop}
use Rattle.spl_tree.specs.declared.token.Token.{Token}
use Rattle.spl_tree.specs.Weights.{Effect, Nothing, Adds, Opens, Separates, Closes, effect, next_adds, Opened, level_start, Weighing, after_closing, after_token, weight_at, weights_from, weights, most_weight}
use Rattle.token_weights.specs.declared.weight.Weighing as code
use Rattle.token_weights.specs.Weighed.{weighing_of, kept_weight, kept, kept_start, kept_closing, kept_after, Leads}

-- a token of that weight is too deep
abbrev pub too_heavy : ℕ → Bool
too_heavy w = nat_lt most_weight w

-- what is kept of one more
kept_more : (w : ℕ) → kept_weight (kept_weight w + 1) ≡ kept_weight (w + 1)
kept_more w = omega arith

-- what is kept is too deep where the weight is
kept_heavy : (w : ℕ) → too_heavy (kept_weight w) ≡ too_heavy w
kept_heavy w = by_heavy w (too_heavy w) refl where
  by_heavy : (w : ℕ) (heavy : Bool) → too_heavy w ≡ heavy → too_heavy (kept_weight w) ≡ too_heavy w
  by_heavy w true is = let over = ltb-true most_weight w is in lt-ltb most_weight (kept_weight w) (omega arith) ∙ sym is
  by_heavy w false is = let under = ltb-false most_weight w is in le-ltb most_weight (kept_weight w) (omega arith) ∙ sym is

start_kept : (o : Opened) → kept_start (map kept_weight o) ≡ kept_weight (level_start o)
start_kept [] = refl
start_kept (before ∷ outer) = kept_more before

closing_kept : (brace next_adds : Bool) (d : Weighing) (o : Opened) → kept_closing brace next_adds (kept d) (map kept_weight o) ≡ kept (after_closing brace next_adds d o)
closing_kept brace next_adds d [] = refl
closing_kept true false d (before ∷ outer) = ap (λ w. record { weight = w; opened = map kept_weight outer }) (start_kept outer)
closing_kept true true d (before ∷ outer) = refl
closing_kept false next_adds d (before ∷ outer) = refl

-- what is kept after a token is kept of the weight there
after_kept : (k : Effect) (next_adds : Bool) (d : Weighing) → kept_after k next_adds (kept d) ≡ kept (after_token k next_adds d)
after_kept Nothing next_adds d = refl
after_kept Adds next_adds d = ap (λ w. record { weight = w; opened = map kept_weight d.opened }) (kept_more d.weight)
after_kept Opens next_adds d = ap (λ w. record { weight = w; opened = map kept_weight (d.weight ∷ d.opened) }) (kept_more d.weight)
after_kept Separates next_adds d = ap (λ w. record { weight = w; opened = map kept_weight d.opened }) (start_kept d.opened)
after_kept (Closes brace) next_adds d = closing_kept brace next_adds d d.opened

module _ (ts : List Token) (i : ℕ) (t : Token) (lt : i < length ts) (is : t ≡ get_or ts i t) (w u : code.Weighing) (own : ℕ) (k : Effect) (adds : Bool)
    (kind : k ≡ effect t.kind) (next : adds ≡ next_adds (take (length ts - (i + 1)) (drop (i + 1) ts)))
    (after : weighing_of u ≡ kept_after k adds (weighing_of w)) (owns : own ≡ (kept_after k true (weighing_of w)).weight) (leads : Leads ts i w) where
  abbrev behind : List Token
  behind = drop (i + 1) ts

  abbrev now : Weighing
  now = after_token (effect t.kind) (next_adds behind) leads.weighing

  now_kept : weighing_of u ≡ kept now
  now_kept =
      after ∙ ap (λ (k : Effect). kept_after k adds (weighing_of w)) kind
      ∙ ap (λ (b : Bool). kept_after (effect t.kind) b (weighing_of w)) (next ∙ ap next_adds (take_rest ts (i + 1)))
      ∙ ap (λ (d : Weighing). kept_after (effect t.kind) (next_adds behind) d) leads.is
      ∙ after_kept (effect t.kind) (next_adds behind) leads.weighing

  -- what the token weighs itself
  abbrev itself : ℕ
  itself = weight_at (effect t.kind) leads.weighing

  own_kept : own ≡ kept_weight itself
  own_kept =
      owns ∙ ap (λ (k : Effect). (kept_after k true (weighing_of w)).weight) kind
      ∙ ap (λ (d : Weighing). (kept_after (effect t.kind) true d).weight) leads.is
      ∙ ap (λ (d : Weighing). d.weight) (after_kept (effect t.kind) true leads.weighing)

  here : drop i (weights ts) ≡ itself ∷ weights_from now behind
  here =
      sym leads.on ∙ at_drop_more (λ us. weights_from leads.weighing us) ts i t lt
      ∙ ap (λ (u : Token). weights_from leads.weighing (u ∷ behind)) (sym is)

  later : drop (i + 1) (weights ts) ≡ weights_from now behind
  later = sym (drop-drop 1 i (weights ts)) ∙ ap (drop 1) here

  pub leads_on : Leads ts (i + 1) u
  leads_on = record { weighing = now; is = now_kept; on = sym later }

  same_heavy : too_heavy own ≡ too_heavy itself
  same_heavy = ap too_heavy own_kept ∙ kept_heavy itself

  first : position_from too_heavy i (drop i (weights ts)) ≡ cond (too_heavy itself) (Some i) (position_from too_heavy (i + 1) (drop (i + 1) (weights ts)))
  first =
      ap (position_from too_heavy i) here
      ∙ ap (λ ws. cond (too_heavy itself) (Some i) (position_from too_heavy (i + 1) ws)) (sym later)

  -- a token that isn't too deep
  pub weighs_light : too_heavy own ≡ false → position_from too_heavy i (drop i (weights ts)) ≡ position_from too_heavy (i + 1) (drop (i + 1) (weights ts))
  weighs_light small =
      first ∙ ap (λ (b : Bool). cond b (Some i) (position_from too_heavy (i + 1) (drop (i + 1) (weights ts)))) (sym same_heavy ∙ small)

  -- one that is
  pub weighs_heavy : too_heavy own ≡ true → position_from too_heavy i (drop i (weights ts)) ≡ Some i
  weighs_heavy large =
      first ∙ ap (λ (b : Bool). cond b (Some i) (position_from too_heavy (i + 1) (drop (i + 1) (weights ts)))) (sym same_heavy ∙ large)

-- where looking begins
pub looks_from : (from i : ℕ) (ws : List ℕ) → from ≡ i → position_from too_heavy i (drop i ws) ≡ position_from too_heavy from (drop from ws)
looks_from from i ws is = ap (λ n. position_from too_heavy n (drop n ws)) (sym is)

-- and after the last token there is none
pub looks_behind : (ts : List Token) (i : ℕ) (w : code.Weighing) → Leads ts i w → length ts ≤ i → position_from too_heavy i (drop i (weights ts)) ≡ None
looks_behind ts i w leads end = ap (position_from too_heavy i) (sym leads.on ∙ at_drop_all (λ us. weights_from leads.weighing us) ts i end)
