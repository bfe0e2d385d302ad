use Rattle.std.proofs.Common.{sym, ap, subst, ◌∙◌}
use Rattle.running_folds.specs.Folds.{folded}
use Rattle.running_folds.specs.Moving.{Moves, fold_of}
use Rattle.running_folds.proofs.Queues.{extreme_is}
use Rattle.running_folds.proofs.moving.Moving.made.Goals as goal

pub returns-in_ok-made-in-Extreme : goal.returns-in_ok-made-in-Extreme
returns-in_ok-made-in-Extreme c vs moves first last count =
    let was = subst (λ m. Moves m vs) c.in-Extreme.is moves in
    c.in_ok-made-in-Extreme.ensures ∙ c.best.ensures vs was ∙ extreme_is c.in-Extreme.greatest c.in-Extreme.queue vs
    ∙ ap (λ m. folded (fold_of m) vs) (sym c.in-Extreme.is)
