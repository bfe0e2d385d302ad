use Rattle.std.specs.Prelude.{slice_get}
use Rattle.std.proofs.Common.{◌∙◌, ◌∷◌, ◌++◌, [], ap, sym}
use Rattle.std.specs.Option.{option_copied}
use Rattle.spl_tree.specs.declared.unit.OutputStream.{OutputStream}
use Rattle.clause_rules.proofs.Naming.{named_next, named_none, named_past}
use Rattle.clause_rules.proofs.ports.outputs_of.Goals as goal

pub loop-schema-init : goal.loop-schema-init
loop-schema-init c = c.new-ports.ensures ∙ sym (named_none {A = OutputStream} (λ o. o.name.what) c.args.outputs.now)

pub loop-schema-preserved : goal.loop-schema-preserved
loop-schema-preserved c =
    named_past _ _ _ _ _ c.loop-schema.invariant
    (ap (slice_get c.args.outputs.now) (sym c.len.ensures) ∙ sym c.get.ensures.value ∙ ap option_copied c.in_default.is)

pub loop-schema-preserved-in-Continue-branch-2 : goal.loop-schema-preserved-in-Continue-branch-2
loop-schema-preserved-in-Continue-branch-2 c =
    c.in_ok-push.ensures.ok
    ∙ ap (λ name. c.loop-schema.ports ++ record { name = name; schema = c.in-Some.schema } ∷ []) (c.in_ok-name.ensures ∙ c.as_slice.ensures)
    ∙ named_next (λ o. o.name.what) c.args.outputs.now c.loop-schema.yielded c.in-Some.schema c.loop-schema.ports c.in-Some-get.output.now c.loop-schema.invariant
    (ap (slice_get c.args.outputs.now) (sym c.len.ensures) ∙ sym c.get.ensures.value ∙ ap option_copied c.in-Some-get.is)
