use Rattle.stream_model.proofs.Flushes.{flushed_behind_law, emptied_law, passing_law, fired_law}
use Rattle.stream_model.proofs.window_laws.window_markers_law.Goals as goal

pub returns-clause-flushed_after : goal.returns-clause-flushed_after
returns-clause-flushed_after c = flushed_behind_law

pub returns-clause-emptied : goal.returns-clause-emptied
returns-clause-emptied c = emptied_law

pub returns-clause-passing : goal.returns-clause-passing
returns-clause-passing c = passing_law

pub returns-clause-fired : goal.returns-clause-fired
returns-clause-fired c = fired_law
