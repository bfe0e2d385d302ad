-- Plans of chains: what they are, and what holds of the chains of every graph that a program has.
use Rattle.std.specs.Prelude.{◌≡◌, ◌==◌, ◌+◌, ◌≤◌, ⊤, ℕ, Bool, true, false, List, [], ◌∷◌, ◌++◌, filter}
use Rattle.std.specs.List.{AllByRecursion, concat}
use Rattle.stream_model.specs.Regions.{IsPartOf}
use Rattle.region_choice.specs.steps.Choosing.{Chains, last_of, chosen}

-- ---- how often an operator stands in a list

abbrev pub one_if : Bool → ℕ
one_if true = 1
one_if false = 0

abbrev pub times : ℕ → List ℕ → ℕ
times x [] = 0
times x (y ∷ ys) = one_if (y == x) + times x ys

-- ---- what a plan is

-- each may follow the one before it
abbrev pub Linked : Chains → ℕ → List ℕ → Type 0
Linked c a [] = ⊤
Linked c a (b ∷ rest) = (c.links a b ≡ true) × Linked c b rest

-- a safe chain that isn't safe with any operator more
pub record IsChain (c : Chains) (first : ℕ) (others : List ℕ) : Type 0 where
  pub linked : Linked c first others
  pub is_safe : c.safe (first ∷ others) ≡ true
  pub is_full : (x : ℕ) → c.links (last_of first others) x ≡ true → c.safe (first ∷ others ++ x ∷ []) ≡ false

abbrev pub IsChainOf : Chains → List ℕ → Type 0
IsChainOf c [] = ⊥
IsChainOf c (first ∷ others) = IsChain c first others

abbrev pub heads : List (List ℕ) → List ℕ
heads [] = []
heads ([] ∷ regions) = heads regions
heads ((a ∷ rest) ∷ regions) = a ∷ heads regions

pub record IsChainPlan (c : Chains) (plan : List (List ℕ)) : Type 0 where
  pub regions : AllByRecursion (IsChainOf c) plan
  pub once : (x : ℕ) → times x (concat plan) ≡ times x (filter c.eligible c.topo)
  pub in_order : IsPartOf (heads plan) c.topo

-- ---- what holds of chains

pub record IsSound (c : Chains) : Type 0 where
  -- each operator stands once
  pub once : (x : ℕ) → times x c.topo ≤ 1
  -- after the one that makes its stream
  pub ordered : (before after : List ℕ) (a b : ℕ) → c.topo ≡ before ++ b ∷ after → c.links a b ≡ true → 1 ≤ times a before
  pub one_maker : (a b x : ℕ) → c.links a x ≡ true → c.links b x ≡ true → a ≡ b
  pub one_reader : (a x y : ℕ) → c.links a x ≡ true → c.links a y ≡ true → x ≡ y
  pub readers : (a b : ℕ) → c.links a b ≡ true → (c.eligible b ≡ true) × (1 ≤ times b c.topo)
  -- an eligible operator alone is safe, and with fewer operators a chain stays safe
  pub alone : (a : ℕ) → c.eligible a ≡ true → c.safe (a ∷ []) ≡ true
  pub fewer : (a : ℕ) (front rest : List ℕ) → c.safe (a ∷ front ++ rest) ≡ true → c.safe (a ∷ front) ≡ true

abbrev pub ChosenLaw : Type 0
ChosenLaw = (c : Chains) → IsSound c → IsChainPlan c (chosen c)

abbrev pub OnePlanLaw : Type 0
OnePlanLaw = (c : Chains) → IsSound c → (plan other : List (List ℕ)) → IsChainPlan c plan → IsChainPlan c other → plan ≡ other
