use Rattle.std.proofs.Common.{◌≡◌, drop}
use Rattle.stream_model.specs.CheckedMeaning.{graph_of}
use Rattle.stream_model.specs.Meaning.{Graph}
use Rattle.list_engine.specs.steps.Faults.{kept_faults}
use Rattle.list_engine.proofs.ends.fault_of_run.Given as goal

-- no end so far has a fault
abbrev pub invariant-loop-number : goal.invariant-loop-number
invariant-loop-number l = (g : Graph) → graph_of l.checked ≡ g → kept_faults g l.state l.number (drop l.number g.ops) ≡ kept_faults g l.state 0 g.ops
