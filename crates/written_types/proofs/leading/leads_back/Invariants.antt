use Rattle.std.proofs.Common.{◌-◌, length}
use Rattle.written_types.proofs.Searching.{Searched}
use Rattle.written_types.proofs.leading.leads_back.Given as goal

abbrev pub invariant-told : goal.invariant-told
invariant-told l = Searched l.next l.place l.found l.told

abbrev pub decreases-told : goal.decreases-told
decreases-told l = length l.next - l.told
