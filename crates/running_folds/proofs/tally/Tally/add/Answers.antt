use Rattle.std.proofs.Common.{◌+ℤ◌, FitsSigned, pos, length, not, rules, sym, ap, subst, ◌∙◌}
use Rattle.std.specs.Int.{w128}
use Rattle.std.proofs.lemmas.Int.{to_z-of_z}
use Rattle.spl_value.specs.Wrap.{wrapped}
use Rattle.stream_model.specs.Aggregates.{total}
use Rattle.running_folds.specs.Tallies.{Tallied}
use Rattle.running_folds.proofs.Firsts.{first_comes, first_stays, last_comes}
use Rattle.running_folds.proofs.Sums.{counted, total_push}
use Rattle.running_folds.proofs.tally.Tally.add.Goals as goal

pub returns-in-Sum-clause-tallied : goal.returns-in-Sum-clause-tallied
returns-in-Sum-clause-tallied c vs e =
    let was = subst (λ y. Tallied y vs) c.in-Sum.is e in
    let m = c.integer_of.result in
    let fits : FitsSigned w128 m = search rules in
    c.add.ensures.sum (total vs) was
    ∙ (λ i. wrapped (sym c.add.ensures.kind i) ((to_z-of_z w128 m fits ∙ c.integer_of.ensures) i +ℤ total vs))
    ∙ ap (wrapped c.add.new.self.kind) (sym (total_push vs c.args.value))

pub returns-then-is_none-clause-tallied : goal.returns-then-is_none-clause-tallied
returns-then-is_none-clause-tallied c vs e =
    first_comes c.in-First.first vs c.args.value (c.is_none.ensures ∙ ap not c.if-is_none.true) (subst (λ y. Tallied y vs) c.in-First.is e)

pub returns-else-is_none-clause-tallied : goal.returns-else-is_none-clause-tallied
returns-else-is_none-clause-tallied c vs e =
    first_stays c.in-First.first vs c.args.value (c.is_none.ensures ∙ ap not c.if-is_none.false) (subst (λ y. Tallied y vs) c.in-First.is e)

pub returns-in-Last-clause-tallied : goal.returns-in-Last-clause-tallied
returns-in-Last-clause-tallied c vs e = last_comes vs c.args.value

pub returns-in-Count-clause-tallied : goal.returns-in-Count-clause-tallied
returns-in-Count-clause-tallied c vs e =
    let was = subst (λ y. Tallied y vs) c.in-Count.is e in (
      c.add-in-Count.ensures.kind ∙ was.0,
      c.add-in-Count.ensures.sum (pos (length vs)) was.1 ∙ (λ i. wrapped (sym c.add-in-Count.ensures.kind i) (counted vs c.args.value i)),
    )
