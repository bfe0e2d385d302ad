use Rattle.std.proofs.Common.{◌≡◌, ◌==◌, drop}
use Rattle.std.specs.List.{concat, list_any}
use Rattle.list_engine.proofs.readers.reads.Given as goal

abbrev pub invariant-loop-port : goal.invariant-loop-port
invariant-loop-port l = list_any (λ t. t == l.stream) (concat (drop l.port-index l.op.ins)) ≡ list_any (λ t. t == l.stream) (concat l.op.ins)
