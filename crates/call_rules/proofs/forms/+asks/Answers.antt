use Rattle.std.proofs.Common.{arith}
use Rattle.call_rules.proofs.Asking.{call_asks}
use Rattle.call_rules.proofs.forms.+asks.Goals as goal

pub returns-then-eq : goal.returns-then-eq
returns-then-eq t c =
    let asks = call_asks c.in-Call.name c.in-Call.arguments c.is_empty.result c.is_empty.ensures in
    grind (arith, asks)
