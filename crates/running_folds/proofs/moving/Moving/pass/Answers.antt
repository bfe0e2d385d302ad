use Rattle.std.proofs.Common.{◌+ℤ◌, FitsSigned, rules, sym, ap, subst, ◌∙◌}
use Rattle.std.specs.Int.{w128}
use Rattle.std.proofs.lemmas.Int.{to_z-of_z}
use Rattle.spl_value.specs.Wrap.{wrapped}
use Rattle.stream_model.specs.Aggregates.{total}
use Rattle.running_folds.specs.Moving.{Moves}
use Rattle.running_folds.proofs.Sums.{total_push}
use Rattle.running_folds.proofs.moving.Moving.pass.Goals as goal

pub returns-in-Sum-clause-moves : goal.returns-in-Sum-clause-moves
returns-in-Sum-clause-moves c vs e =
    let was = subst (λ y. Moves y vs) c.in-Sum.is e in
    let m = c.integer_of.result in
    let fits : FitsSigned w128 m = search rules in
    c.add.ensures.sum (total vs) was
    ∙ (λ i. wrapped (sym c.add.ensures.kind i) ((to_z-of_z w128 m fits ∙ c.integer_of.ensures) i +ℤ total vs))
    ∙ ap (wrapped c.add.new.self.kind) (sym (total_push vs c.args.value.now))
