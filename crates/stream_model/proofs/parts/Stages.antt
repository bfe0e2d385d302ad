-- Words for parts of the rules of stages, by which proofs speak of them.
use Rattle.std.specs.Prelude.{List, [], if◌then◌else◌}
use Rattle.language_model.specs.declared.outs.Output.{Output}
use Rattle.stream_model.specs.React.{react}
use Rattle.stream_model.specs.Stages.{Stage}
use Rattle.stream_model.specs.Stream.{Event}

abbrev pub stage_outputs : Stage → Event → List Output
stage_outputs s e = if s.over then [] else react s.op s.seen e
