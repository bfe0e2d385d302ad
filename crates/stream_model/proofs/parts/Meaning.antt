-- Words for parts of the rules of the meaning of a graph, by which proofs speak of them.
use Rattle.std.specs.Prelude.{ℕ, ◌==◌, List, [], slice_get, if◌then◌else◌}
use Rattle.std.specs.Option.{option_map_or}
use Rattle.spl_value.specs.declared.item.Item.{Item}
use Rattle.stream_model.specs.Meaning.{Entries, Graph, Lists, events_of}
use Rattle.stream_model.specs.Stream.{Event}

-- the lists with another one for an input
abbrev pub with_list : Lists → ℕ → List Item → Lists
with_list lists i items j = if j == i then items else lists j

abbrev pub events_of_number : Graph → Lists → Entries → ℕ → List Event
events_of_number g streams entries n = option_map_or (λ op. events_of op streams (entries n)) (slice_get g.ops n) []
