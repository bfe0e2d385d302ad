use Rattle.std.proofs.Common.{◌+◌, sym, subst, take}
use Rattle.language_model.specs.TypeNames.{type_definitions}
use Rattle.program_tables.specs.Names.{HoldsNames}
use Rattle.body_sites.specs.Names.{type_names_of}
use Rattle.body_sites.proofs.TypesGathered.{name_at, none_at}
use Rattle.body_sites.proofs.sites.type_names.Goals.{in-Type+in_ok-add, in_default}
use Rattle.body_sites.proofs.sites.type_names.Goals as goal

pub loop-definition-preserved : goal.loop-definition-preserved
loop-definition-preserved c =
    let unit = c.as_slice-definition-items.result.now in
    let i = c.loop-definition.definition-index in
    let d = c.definition-item.result in
    let inv = c.loop-definition.invariant in
    let within = c.loop-definition-test.true in
    let here = c.definition-item.is in
    elim c.match-definition.branch [
      | in-Type+in_ok-add w ↦
          name_at unit i d within here w.in-Type.definition w.in-Type.is _ _ w.names-is _ w.as_slice.ensures
          (w.in_ok-add.ensures (type_names_of (type_definitions (take i unit))) inv)
      | in_default w ↦
          subst (λ t. HoldsNames t (type_names_of (type_definitions (take (i + 1) unit)))) (sym w.names-is)
          (subst (λ ts. HoldsNames c.loop-definition.names (type_names_of ts)) (sym (none_at unit i d within here w.in_default.not-Type)) inv)
    ]
