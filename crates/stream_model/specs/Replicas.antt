-- What the replicas of a region give: each runs the region's chain on the items of its channel, and gives what an item
-- causes under that item's number.
use Rattle.std.specs.Prelude.{ℕ, List, [], ◌∷◌, ◌++◌, map}
use Rattle.spl_value.specs.declared.item.Item.{Item}
use Rattle.spl_value.specs.declared.routing.Routing.{Routing}
use Rattle.spl_value.specs.Numbered.{channels}
use Rattle.spl_value.specs.Route.{part}
use Rattle.stream_model.specs.Operators.{Operator}
use Rattle.stream_model.specs.Stages.{Stage, start}
use Rattle.stream_model.specs.Sending.{stages_give, stages_after}

-- items under one number
abbrev pub under : ℕ → List Item → List (ℕ × Item)
under n [] = []
under n (x ∷ items) = (n, x) ∷ under n items

-- what stages, each of which takes what the one before it gives, give for numbered items, one after another
abbrev pub numbered_gives : List Stage → List (ℕ × Item) → List (ℕ × Item)
numbered_gives stages [] = []
numbered_gives stages (p ∷ ps) = under p.0 (stages_give stages (p.1 ∷ [])) ++ numbered_gives (stages_after stages (p.1 ∷ [])) ps

-- what a chain of operators gives for numbered items, each under the number of its cause
abbrev pub replica : List Operator → List (ℕ × Item) → List (ℕ × Item)
replica ops ps = numbered_gives (map start ops) ps

-- what the replicas of a chain give for a stream, one for each channel below the width
abbrev pub replicas : List Operator → Routing → ℕ → List Item → List (List (ℕ × Item))
replicas ops routing width items = channels width (λ c. replica ops (part routing width items c))
