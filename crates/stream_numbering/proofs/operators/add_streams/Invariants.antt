use Rattle.std.proofs.Common.{◌≡◌, ◌++◌, map}
use Rattle.language_model.specs.Numbering.{numbers_from}
use Rattle.stream_numbering.proofs.operators.add_streams.Given as goal

abbrev pub invariant-loop-port : goal.invariant-loop-port
invariant-loop-port l = l.streams ≡ l.fn.streams ++ map (λ port. record { maker = l.maker; port = port }) (numbers_from 0 l.port)
