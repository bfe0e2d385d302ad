use Rattle.std.proofs.Common.{◌≡◌, [], ◌∷◌, arith, subst}
use Rattle.std.specs.Prelude.{IfOk}
use Rattle.channel_heads.specs.Held.{width_of}
use Rattle.element_tests.proofs.mergers.told.Goals as goal

pub words-init : goal.words-init
words-init g c = (
  subst (λ r. IfOk r (λ m. width_of (g.M.Merge.held m) ≡ c.args.width)) c.in_ok-merger.was c.requires,
  (2 ∷ [], c.in_ok-fans.ensures, omega arith),
)
