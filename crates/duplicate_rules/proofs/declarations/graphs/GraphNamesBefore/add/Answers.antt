use Rattle.std.proofs.Common.{◌∷◌, ap, sym, subst, ◌∙◌}
use Rattle.std.specs.Prelude.{not}
use Rattle.std.proofs.lemmas.Result.{IfOk-weaker}
use Rattle.language_model.specs.parts.Declarations.{is_declared}
use Rattle.duplicate_rules.specs.steps.Graphs.{Stand, shown, others_of}
use Rattle.duplicate_rules.proofs.GraphNames.{declared_output, declared_input, declared_stream, declared_alias}
use Rattle.duplicate_rules.proofs.declarations.graphs.GraphNamesBefore.add.Goals as goal

pub returns-in-Output : goal.returns-in-Output
returns-in-Output c =
    IfOk-weaker c.add_output.result _ _
    (λ added adds before stand.
    let h = adds before stand in (
      h.0 ∙ ap not (sym (ap (λ g. is_declared before (shown g)) c.in-Output.is ∙ declared_output c.in-Output.name.now before)),
      λ e. subst (λ g. Stand c.add_output.new.self (shown g ∷ before)) (sym c.in-Output.is) (h.1 e),
    ))
    c.add_output.ensures

pub returns-in-Stream : goal.returns-in-Stream
returns-in-Stream c =
    IfOk-weaker c.add.result _ _
    (λ added adds before stand.
    let h = adds (others_of before) stand.1 in (
      h.0 ∙ ap not (sym (ap (λ g. is_declared before (shown g)) c.in-Stream.is ∙ declared_stream c.in-Stream.name.now before)),
      λ e. subst (λ g. Stand (record { outputs = c.args.self.now.outputs; others = c.add.new.self }) (shown g ∷ before)) (sym c.in-Stream.is) (stand.0, h.1),
    ))
    c.add.ensures

pub returns-in-Input : goal.returns-in-Input
returns-in-Input c =
    IfOk-weaker c.add_unshared.result _ _
    (λ added adds before stand.
    let h = adds before stand in (
      h.0 ∙ ap not (sym (ap (λ g. is_declared before (shown g)) c.in-Input.is ∙ declared_input c.in-Input.name.now before)),
      λ e. subst (λ g. Stand (c.add_unshared.new.self) (shown g ∷ before)) (sym c.in-Input.is) (h.1 e),
    ))
    c.add_unshared.ensures

pub returns-in-Alias : goal.returns-in-Alias
returns-in-Alias c =
    IfOk-weaker c.add_unshared-in-Alias.result _ _
    (λ added adds before stand.
    let h = adds before stand in (
      h.0 ∙ ap not (sym (ap (λ g. is_declared before (shown g)) c.in-Alias.is ∙ declared_alias c.in-Alias.name.now before)),
      λ e. subst (λ g. Stand (c.add_unshared-in-Alias.new.self) (shown g ∷ before)) (sym c.in-Alias.is) (h.1 e),
    ))
    c.add_unshared-in-Alias.ensures
