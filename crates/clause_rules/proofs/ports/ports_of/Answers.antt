use Rattle.std.specs.Prelude.{slice_get}
use Rattle.std.proofs.Common.{◌∙◌, ◌∷◌, ◌++◌, [], ap, sym}
use Rattle.std.specs.Option.{option_copied}
use Rattle.spl_tree.specs.declared.unit.InputPort.{InputPort}
use Rattle.language_model.specs.Checking.{port_name}
use Rattle.clause_rules.proofs.Naming.{named_next, named_none, named_past}
use Rattle.clause_rules.proofs.ports.ports_of.Goals as goal

pub loop-schema-init : goal.loop-schema-init
loop-schema-init c = c.new-ports.ensures ∙ sym (named_none {A = InputPort} (λ q. port_name q) c.args.inputs.now)

pub loop-schema-preserved : goal.loop-schema-preserved
loop-schema-preserved c =
    named_past _ _ _ _ _ c.loop-schema.invariant
    (ap (slice_get c.args.inputs.now) (sym c.len.ensures) ∙ sym c.get.ensures.value ∙ ap option_copied c.in_default.is)

pub loop-schema-preserved-in-Continue-branch-2 : goal.loop-schema-preserved-in-Continue-branch-2
loop-schema-preserved-in-Continue-branch-2 c =
    c.in_ok-push.ensures.ok
    ∙ ap (λ name. c.loop-schema.ports ++ record { name = name; schema = c.in-Some.schema } ∷ []) (c.in_ok-name.ensures ∙ c.name_of.ensures)
    ∙ named_next (λ q. port_name q) c.args.inputs.now c.loop-schema.yielded c.in-Some.schema c.loop-schema.ports c.in-Some-get.input.now c.loop-schema.invariant
    (ap (slice_get c.args.inputs.now) (sym c.len.ensures) ∙ sym c.get.ensures.value ∙ ap option_copied c.in-Some-get.is)
