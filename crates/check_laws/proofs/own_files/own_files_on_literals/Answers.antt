use Rattle.check_laws.proofs.SomeFiles.{name_of_sink, sink_first, source_first, two_of_one, two_own}
use Rattle.check_laws.proofs.own_files.own_files_on_literals.Goals as goal

pub returns : goal.returns
returns c = record { own = two_own; twice = two_of_one; before = sink_first; behind = source_first; named = name_of_sink }
