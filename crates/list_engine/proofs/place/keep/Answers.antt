use Rattle.std.proofs.Common.{subst}
use Rattle.std.specs.List.{Contains}
use Rattle.list_engine.proofs.place.keep.Goals as goal

pub place_lists-requires-clause-there : goal.place_lists-requires-clause-there
place_lists-requires-clause-there c = λ s among. c.requires.room.streams s (subst (λ xs. Contains xs s) c.as_slice.ensures among)
