use Rattle.evaluation_laws.proofs.AgreeingSlots.{named_slots_law}
use Rattle.evaluation_laws.proofs.ImmutableVariables.{immutable_law, state_kept_law}
use Rattle.evaluation_laws.proofs.bodies.slots_law.Goals as goal

pub returns : goal.returns
returns c = record { named = named_slots_law; immutable = immutable_law; kept = state_kept_law }
