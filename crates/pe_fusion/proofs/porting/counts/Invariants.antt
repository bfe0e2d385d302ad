use Rattle.std.proofs.Common.{◌≡◌, ◌++◌, drop, length, map}
use Rattle.pe_fusion.specs.steps.Reading.{read_by}
use Rattle.pe_fusion.proofs.porting.counts.Given as goal

abbrev pub invariant-loop-stream : goal.invariant-loop-stream
invariant-loop-stream l = l.counts ++ map (λ s. length (read_by l.readers s)) (drop l.stream-index l.outs) ≡ map (λ s. length (read_by l.readers s)) l.outs
