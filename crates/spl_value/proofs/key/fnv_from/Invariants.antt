use Rattle.std.proofs.Common.{◌≡◌, take, fold}
use Rattle.spl_value.specs.Key.{fnv_step}
use Rattle.spl_value.proofs.key.fnv_from.Given as goal

abbrev pub invariant-loop-byte : goal.invariant-loop-byte
invariant-loop-byte l = l.state ≡ fold fnv_step l.fn.state (take l.byte-index l.bytes)
