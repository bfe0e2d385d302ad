use Rattle.std.proofs.Common.{ap, sym, ◌∙◌}
use Rattle.std.specs.Prelude.{not}
use Rattle.std.proofs.lemmas.Result.{IfOk-weaker}
use Rattle.duplicate_rules.specs.steps.Graphs.{outputs_of, others_of}
use Rattle.duplicate_rules.specs.steps.NamesBefore.{Has}
use Rattle.duplicate_rules.proofs.GraphNames.{or_false}
use Rattle.duplicate_rules.proofs.declarations.graphs.GraphNamesBefore.add_output.Goals as goal
use Rattle.spl_value.proofs.Bools.{or_last as or_true}

pub returns-then-has : goal.returns-then-has
returns-then-has c = λ before stand. (
  ap not (sym (or_true (Has c.args.name.now (outputs_of before)) _ (sym (c.has.ensures (others_of before) stand.1) ∙ c.if-has.true))),
  λ e. cc,
)

pub returns : goal.returns
returns c =
    IfOk-weaker c.add.result _ _
    (λ added adds before stand.
    let h = adds (outputs_of before) stand.0 in (
      h.0 ∙ ap not (sym (or_false (Has c.args.name.now (outputs_of before)) _ (sym (c.has.ensures (others_of before) stand.1) ∙ c.if-has.false))),
      λ e. (h.1, stand.1),
    ))
    c.add.ensures
