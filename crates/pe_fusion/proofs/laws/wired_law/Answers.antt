use Rattle.pe_fusion.proofs.FusedElements.{elements_law}
use Rattle.pe_fusion.proofs.Wired.{wired_law, fused_wired, fused_planned}
use Rattle.pe_fusion.proofs.laws.wired_law.Goals as goal

pub returns-clause-wired : goal.returns-clause-wired
returns-clause-wired c = wired_law

pub returns-clause-fused : goal.returns-clause-fused
returns-clause-fused c = fused_wired

pub returns-clause-planned : goal.returns-clause-planned
returns-clause-planned c = fused_planned

pub returns-clause-elements : goal.returns-clause-elements
returns-clause-elements c = elements_law
