use Rattle.std.proofs.Common.{rules, true≢false, sym, ap, subst, ◌∙◌}
use Rattle.std.specs.Prelude.{FitsSigned, int_lt}
use Rattle.std.specs.Int.{w128}
use Rattle.std.proofs.lemmas.Int.{to_z-of_z}
use Rattle.stream_model.specs.Windows.{integer_at}
use Rattle.window_policy.specs.Deltas.{Rises}
use Rattle.window_policy.proofs.Deltas.{rises_more}
use Rattle.window_policy.proofs.delta.slide.Goals as goal
use Rattle.window_policy.proofs.delta.slide.Goals.{then-rising, else-rising}

pub returns-clause-rises : goal.returns-clause-rises
returns-clause-rises c rises known =
    elim c.if-rising.branch [
      | then-rising w ↦
          let new : FitsSigned w128 c.integer_at-new.result = search rules in
          let to = simp to_z-of_z at w.rises_to.ensures in
          let kept = c.make_way-rising.new.kept.items in
          subst (Rises c.args.attr) (sym c.in_ok-push.ensures)
          (rises_more c.args.attr kept c.args.tuple (c.make_way-rising.ensures.rises rises w.if-rising.true)
          (λ last e. ap (λ z. int_lt z (integer_at c.args.attr last)) (sym c.integer_at-new.ensures) ∙ to (sym w.rises-is ∙ known) last e))
      | else-rising w ↦ absurd (true≢false (sym known ∙ w.rises-is ∙ w.if-rising.false))
    ]
