use Rattle.std.proofs.Common.{sym}
use Rattle.indexmap.specs.IndexSet.{contains}
use Rattle.stream_model.specs.Windows.{flushes_at_markers}
use Rattle.key_maps.specs.MapKeys.{equal_key}
use Rattle.window_policy.proofs.Windows.{noted_before}
use Rattle.window_policy.proofs.insert.note.Goals as goal

pub returns-then-contains : goal.returns-then-contains
returns-then-contains c =
    noted_before (flushes_at_markers c.args.rule) (contains equal_key c.args.known.now) c.args.key.now (sym c.if-contains.ensures)
