-- A checked graph may go to another thread, and threads may share it, as a set for `search`.
use Rattle.checked_sharing.proofs.Sending.{checked_send}
use Rattle.checked_sharing.proofs.Sharing.{checked_sync}

pub ruleset crosses = (checked_send, checked_sync)
