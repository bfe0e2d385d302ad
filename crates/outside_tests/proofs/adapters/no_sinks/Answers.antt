use Rattle.std.proofs.Common.{List, [], ◌∷◌, map, subst, sym}
use Rattle.file_adapters.specs.Sinks.{AreDistinct}
use Rattle.file_adapters.specs.declared.sinks.Sink.{Sink}
use Rattle.outside_tests.proofs.adapters.no_sinks.Goals as goal

none : AreDistinct []
none [] after file e = absurd cc
none (x ∷ before) after file e = absurd cc

pub returns : goal.returns
returns c = subst (λ (sinks : List Sink). AreDistinct (map (λ s. s.file) sinks)) (sym c.new.ensures) none
