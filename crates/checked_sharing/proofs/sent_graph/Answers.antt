use denote.Param.Send.{sendable}
use Rattle.checked_sharing.proofs.Crossing.{crosses}
use Rattle.checked_sharing.proofs.sent_graph.Goals as goal

pub across_threads-requires-send-T : goal.across_threads-requires-send-T
across_threads-requires-send-T c κs = search (sendable, crosses)

pub across_threads-requires-sync-T : goal.across_threads-requires-sync-T
across_threads-requires-sync-T c κs = search (sendable, crosses)
