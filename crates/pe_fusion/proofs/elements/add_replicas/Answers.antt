use Rattle.std.proofs.Common.{◌+◌, ◌-◌, ◌++◌, ◌∷◌, [], ◌∙◌, List, ℕ, Some, ap, append_assoc, sym}
use Rattle.stream_model.specs.declared.shape.Role.TheVariants as L
use Rattle.stream_model.specs.declared.shape.ShapeElement.{ShapeElement}
use Rattle.pe_fusion.specs.Shapes.{element, replica_elements}
use Rattle.pe_fusion.proofs.Loops.{replicas-next}
use Rattle.pe_fusion.proofs.elements.add_replicas.Goals as goal

pub loop-channel-preserved : goal.loop-channel-preserved
loop-channel-preserved c =
    let n : ℕ = c.loop-channel.channel in
    let rest : List ShapeElement = replica_elements (Some c.args.region.region) c.args.ids.now (n + 1) (c.args.region.width - (n + 1)) in
    ap (λ (es : List ShapeElement). es ++ rest) c.in_ok-add.ensures
    ∙ append_assoc c.loop-channel.elements (element (L.Replica n) (Some c.args.region.region) c.args.ids.now ∷ []) rest
    ∙ ap (λ (es : List ShapeElement). c.loop-channel.elements ++ es) (sym (replicas-next (Some c.args.region.region) c.args.ids.now n c.args.region.width c.loop-channel-test.true))
    ∙ c.loop-channel.invariant
