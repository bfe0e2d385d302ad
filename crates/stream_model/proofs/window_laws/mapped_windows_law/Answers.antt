use Rattle.stream_model.proofs.MappedWindows.{mapped_law, mapped_firing_law, behind_law}
use Rattle.stream_model.proofs.window_laws.mapped_windows_law.Goals as goal

pub returns-clause-mapped : goal.returns-clause-mapped
returns-clause-mapped c = mapped_law

pub returns-clause-firing : goal.returns-clause-firing
returns-clause-firing c = mapped_firing_law

pub returns-clause-behind : goal.returns-clause-behind
returns-clause-behind c = behind_law
