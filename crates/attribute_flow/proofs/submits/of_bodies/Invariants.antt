use Rattle.std.proofs.Common.{◌≡◌, drop}
use Rattle.stream_model.specs.Copies.{submits_in}
use Rattle.attribute_flow.specs.steps.Agreements.{agreement, and_then}
use Rattle.attribute_flow.proofs.submits.of_bodies.Given as goal

abbrev pub invariant-loop-body : goal.invariant-loop-body
invariant-loop-body l = and_then l.so_far (agreement l.attribute (submits_in (drop l.body-index l.bodies))) ≡ agreement l.attribute (submits_in l.bodies)
