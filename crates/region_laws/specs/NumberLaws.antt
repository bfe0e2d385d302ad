-- What a replica gives are the items that its chain gives, each under the number of its cause. The numbers never fall on a
-- channel, and none stands on items of two channels.
use Rattle.std.specs.Prelude.{◌≡◌, ◌==◌, ℕ, true, List, [], ◌∷◌, ◌++◌, map}
use Rattle.std.specs.List.{list_any}
use Rattle.spl_value.specs.declared.item.Item.{Item}
use Rattle.spl_value.specs.declared.routing.Routing.{Routing}
use Rattle.spl_value.specs.Numbered.{NeverFalls}
use Rattle.spl_value.specs.Route.{part}
use Rattle.stream_model.specs.Operators.{Operator}
use Rattle.stream_model.specs.Stages.{chain}
use Rattle.stream_model.specs.Replicas.{replica, under}

abbrev pub item_numbers : List (ℕ × Item) → List ℕ
item_numbers ps = map (λ p. p.0) ps

-- without their numbers they are what the chain gives
abbrev pub ItemsLaw : Type 0
ItemsLaw = (ops : List Operator) (ps : List (ℕ × Item))
    → map (λ p. p.1) (replica ops ps) ≡ chain ops (map (λ p. p.1) ps)

-- and one item more adds, under its number, what it adds to what the chain gives
abbrev pub CauseLaw : Type 0
CauseLaw = (ops : List Operator) (ps : List (ℕ × Item)) (n : ℕ) (x : Item) →
    (added : List Item) × (chain ops (map (λ p. p.1) ps ++ x ∷ []) ≡ chain ops (map (λ p. p.1) ps) ++ added)
    × (replica ops (ps ++ (n, x) ∷ []) ≡ replica ops ps ++ under n added)

-- of whatever operators a chain is, and of whatever items the stream
abbrev pub FallLaw : Type 0
FallLaw = (ops : List Operator) (routing : Routing) (width : ℕ) (items : List Item) (c : ℕ)
    → NeverFalls 0 (item_numbers (replica ops (part routing width items c)))

abbrev pub ApartLaw : Type 0
ApartLaw = (ops : List Operator) (routing : Routing) (width : ℕ) (items : List Item) (n c d : ℕ)
    → list_any (λ p. p.0 == n) (replica ops (part routing width items c)) ≡ true
    → list_any (λ p. p.0 == n) (replica ops (part routing width items d)) ≡ true → c ≡ d
