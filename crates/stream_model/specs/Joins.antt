-- What a Join gives for a tuple, by the items that came on its two ports before, the newest first: one tuple for each
-- of the other side's window that matches it, the oldest first.
use Rattle.std.specs.Prelude.{ℕ, zero, suc, List, [], ◌∷◌, ◌++◌, map, Option, None}
use Rattle.spl_value.specs.declared.item.Item.{Item}
use Rattle.spl_value.specs.declared.value.Value.{Value}
use Rattle.spl_tree.specs.declared.body.Function.{Function}
use Rattle.spl_tree.specs.declared.code.Code.{Code}
use Rattle.spl_tree.specs.declared.code.Slot.{Slot}
use Rattle.language_model.specs.declared.checked.Policy.{Policy}
use Rattle.language_model.specs.declared.env.Env.{Env}
use Rattle.language_model.specs.Outcomes.{Done, followed}
use Rattle.stream_model.specs.Bodies.{Makes, most_turns, made_where, by_item}
use Rattle.stream_model.specs.Windows.{partition_key, window_events, content}

-- where the expressions are evaluated for a tuple of the first port and one of the second
abbrev pub at_pair : List Value → List Value → Env
at_pair first second = record { inputs = first ∷ second ∷ []; vars = []; punct = None }

-- what a side holds: its windows have one key
abbrev pub side_content : Policy → List Item → List (List Value)
side_content window items = content window.rule [] (window_events (partition_key window []) items)

-- the pairs of a tuple that comes on a port with what the other side holds
abbrev pub pairs_at : Policy → Policy → List Item → List Item → ℕ → List Value → List Env
pairs_at left right firsts seconds zero t = map (λ u. at_pair t u) (side_content right seconds)
pairs_at left right firsts seconds (suc port) t = map (λ u. at_pair u t) (side_content left firsts)

-- what the pairs give in turn, under the turns of one event
abbrev pub pairs_give : List Function → Option (Code Slot) → Code Slot → List Env → ℕ → Makes
pairs_give functions condition output [] turns = Done [] turns
pairs_give functions condition output (pair ∷ pairs) turns =
    followed (made_where functions condition output pair turns) (λ outs turns.
    followed (pairs_give functions condition output pairs turns) (λ more turns. Done (outs ++ more) turns))

-- The tuple goes into its own side's window, which the pairs don't see. Window markers aren't passed.
abbrev pub join_body : List Function → Policy → Policy → Option (Code Slot) → Code Slot → List Item → List Item → ℕ
    → Item → Makes
join_body functions left right condition output firsts seconds port =
    by_item (λ t. pairs_give functions condition output (pairs_at left right firsts seconds port t) most_turns) []
