use Rattle.std.specs.Fmt.{decimal}
use Rattle.std.proofs.Common.{◌≡◌, ◌<◌, ◌++◌, length}
use Rattle.arrival_format.proofs.numbers.first_number.Given as goal

abbrev pub decreases-digits : goal.decreases-digits
decreases-digits l = length l.rest

abbrev pub invariant-digits : goal.invariant-digits
invariant-digits l = record { below : l.number < l.bound; text : l.bytes ≡ decimal l.number ++ l.rest }
