use Rattle.std.proofs.Common.{ap, sym, subst, ◌∙◌, ◌+◌, map, take}
use Rattle.program_tables.specs.Names.{HoldsNames}
use Rattle.composite_tables.specs.Names.{composite_names}
use Rattle.composite_tables.proofs.Gathering.{scope_at, name_at, none_at}
use Rattle.composite_tables.proofs.tables.Composites.new.Goals.{in-Composite+in_ok-scope_of+in_ok-push+in_ok-add, in_default}
use Rattle.composite_tables.proofs.tables.Composites.new.Goals as goal

pub loop-definition-preserved : goal.loop-definition-preserved
loop-definition-preserved c =
    let unit = c.as_slice-definition-items.result.now in
    let i = c.loop-definition.definition-index in
    let d = c.definition-item.result in
    let inv = c.loop-definition.invariant in
    let within = c.loop-definition-test.true in
    let here = c.definition-item.is in
    elim c.match-definition.branch [
      | in-Composite+in_ok-scope_of+in_ok-push+in_ok-add w ↦
          let is = w.in-Composite.is in
          let body = w.in-Composite.composite in (
            scope_at unit i d within here body is c.loop-definition.scopes.items _ w.in_ok-scope_of.field-0 inv.0 w.in_ok-scope_of.ensures (ap (λ v. v.items) w.scopes-is ∙ w.in_ok-push.ensures.items),
            name_at unit i d within here body is _ _ w.names-is _ w.as_slice.ensures (w.in_ok-add.ensures (composite_names (take i unit)) inv.1),
          )
      | in_default w ↦
          let same = sym (none_at unit i d within here w.in_default.not-Composite) in (
            ap (λ v. map (λ s. s.composite.now) v.items) w.scopes-is ∙ inv.0 ∙ same,
            subst (λ t. HoldsNames t (composite_names (take (i + 1) unit))) (sym w.names-is) (subst (λ cs. HoldsNames c.loop-definition.names (map (λ c. c.name.what) cs)) same inv.1),
          )
    ]
