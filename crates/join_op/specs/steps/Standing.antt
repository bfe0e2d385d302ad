-- What an item leaves in a window and in the environment of pairs.
use Rattle.std.specs.Prelude.{List, [], ◌∷◌}
use Rattle.spl_value.specs.declared.item.Item.{Item}
use Rattle.spl_value.specs.declared.item.Item.TheVariants as I
use Rattle.stream_model.specs.Windows.{WindowEvent, Insert, Mark}

-- an item comes into a window with one key
abbrev pub events_after : Item → List WindowEvent → List WindowEvent
events_after (I.Tuple t) h = Insert [] t ∷ h
events_after I.Window h = Mark ∷ h
events_after I.Final h = h
events_after (I.Bad f) h = h
