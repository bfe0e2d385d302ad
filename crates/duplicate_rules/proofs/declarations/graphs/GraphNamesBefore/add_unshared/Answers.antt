use Rattle.std.proofs.Common.{ap, sym, ◌∙◌}
use Rattle.std.specs.Prelude.{not, ◌||◌}
use Rattle.std.proofs.lemmas.Result.{IfOk-weaker}
use Rattle.duplicate_rules.specs.steps.Graphs.{outputs_of, others_of}
use Rattle.duplicate_rules.specs.steps.NamesBefore.{Has}
use Rattle.duplicate_rules.proofs.declarations.graphs.GraphNamesBefore.add_unshared.Goals as goal

pub returns-then-has : goal.returns-then-has
returns-then-has c = λ before stand. (
  ap (λ b. not (b || Has c.args.name.now (others_of before))) (sym (sym (c.has.ensures (outputs_of before) stand.0) ∙ c.if-has.true)),
  λ e. cc,
)

pub returns : goal.returns
returns c =
    IfOk-weaker c.add.result _ _
    (λ added adds before stand.
    let h = adds (others_of before) stand.1 in (
      h.0 ∙ ap (λ b. not (b || Has c.args.name.now (others_of before))) (sym (sym (c.has.ensures (outputs_of before) stand.0) ∙ c.if-has.false)),
      λ e. (stand.0, h.1),
    ))
    c.add.ensures
