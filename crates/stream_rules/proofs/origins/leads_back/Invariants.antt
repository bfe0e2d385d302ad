use Rattle.std.proofs.Common.{◌≡◌, ℕ, List, length}
use Rattle.language_model.specs.Leading.{leads, leads_back}
use Rattle.stream_rules.specs.steps.Origins.{Steps}
use Rattle.stream_rules.proofs.origins.leads_back.Given as goal

abbrev pub invariant-steps : goal.invariant-steps
invariant-steps l = (f : ℕ → List ℕ) → Steps (length l.next) l.next f → leads_back (length l.next) f l.stream ≡ leads l.left f l.at l.stream

abbrev pub decreases-steps : goal.decreases-steps
decreases-steps l = l.left
