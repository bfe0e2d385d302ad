-- Words for parts of the rules of reactions: the answer at an item of a port.
use Rattle.std.specs.Prelude.{ℕ, List}
use Rattle.spl_value.specs.declared.item.Item.{Item}
use Rattle.stream_model.specs.Operators.{Operator}
use Rattle.stream_model.specs.React.{Reaction, answer, makes_by}
use Rattle.stream_model.specs.Stream.{Event}

-- the answer at an item of a port, by what came on the ports before
abbrev pub port_body : Operator → List Event → ℕ → Item → Reaction
port_body op earlier port x = answer (makes_by op.clauses op earlier port x)
