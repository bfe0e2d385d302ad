-- Words for parts of the rules of bodies: that of a FileSink.
use Rattle.std.specs.Prelude.{[]}
use Rattle.spl_value.specs.declared.item.Item.{Item}
use Rattle.spl_value.specs.declared.item.Item.TheVariants as I
use Rattle.language_model.specs.Outcomes.{Done}
use Rattle.stream_model.specs.Bodies.{Makes, most_turns, by_item, on_first}

-- a FileSink gives its tuples to its writer, which stands as port 0
abbrev pub sink_body : Item → Makes
sink_body = by_item (λ vs. Done (on_first (I.Tuple vs)) most_turns) []
