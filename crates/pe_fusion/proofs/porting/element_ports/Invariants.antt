use Rattle.std.proofs.Common.{◌≡◌, ◌++◌, drop, map}
use Rattle.pe_fusion.specs.ElementPorts.{ports_of}
use Rattle.pe_fusion.proofs.porting.element_ports.Given as goal

abbrev pub invariant-loop-element : goal.invariant-loop-element
invariant-loop-element l = l.all ++ map (ports_of l.checked l.plan l.width) (drop l.element-index l.shape.elements) ≡ map (ports_of l.checked l.plan l.width) l.shape.elements
