use Rattle.element_notes.proofs.StreamEnds as laws
use Rattle.element_notes.proofs.laws.stream_ends_law.Goals as goal

pub returns : goal.returns
returns c = laws.stream_ends_law
