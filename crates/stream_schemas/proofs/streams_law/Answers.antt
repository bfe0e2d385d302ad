use Rattle.stream_schemas.proofs.Streams.{items_law, streams_law}
use Rattle.stream_schemas.proofs.streams_law.Goals as goal

pub returns-clause-streams : goal.returns-clause-streams
returns-clause-streams c = streams_law

pub returns-clause-items : goal.returns-clause-items
returns-clause-items c = items_law
