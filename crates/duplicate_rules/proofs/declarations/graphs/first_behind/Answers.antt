use Rattle.std.proofs.Common.{◌≡◌, ◌+◌, ◌∷◌, Some, true, false, ap, sym, ◌∙◌, drop, map}
use Rattle.language_model.specs.Declarations.{declared_name, first_of, repeated_after}
use Rattle.language_model.specs.parts.Declarations.{is_declared}
use Rattle.duplicate_rules.specs.steps.Graphs.{shown}
use Rattle.duplicate_rules.proofs.NameRows.{passed_new, passed_old}
use Rattle.duplicate_rules.proofs.declarations.graphs.first_behind.Goals as goal
use Rattle.spl_value.proofs.Lists.{drop_at as rest_at}

pub loop-next-preserved : goal.loop-next-preserved
loop-next-preserved c =
    let inv = c.loop-next.invariant in
    let adds = c.in_ok-added.ensures inv.0 inv.1 in
    let t : c.in_ok-added.added ≡ true = cc in
    let next = shown c.next-item.result in
    let rest = map shown (drop (c.loop-next.next-index + 1) c.args.names.now) in (
      next ∷ inv.0,
      adds.1 t,
      inv.2
          ∙ ap (λ r. first_of (map declared_name (repeated_after is_declared inv.0 (map shown r)))) (rest_at c.args.names.now c.loop-next.next-index c.next-item.result c.loop-next-test.true c.next-item.is)
          ∙ ap (λ r. first_of (map declared_name r)) (passed_new is_declared inv.0 next rest c.in_ok-added.added adds.0 t),
    )

pub returns-then-not-added : goal.returns-then-not-added
returns-then-not-added c =
    let inv = c.loop-next.invariant in
    let adds = c.in_ok-added.ensures inv.0 inv.1 in
    let t : c.in_ok-added.added ≡ false = cc in
    let next = shown c.next-item.result in
    let rest = map shown (drop (c.loop-next.next-index + 1) c.args.names.now) in
    ap Some c.name.ensures
    ∙ sym
    (inv.2
    ∙ ap (λ r. first_of (map declared_name (repeated_after is_declared inv.0 (map shown r)))) (rest_at c.args.names.now c.loop-next.next-index c.next-item.result c.loop-next-test.true c.next-item.is)
    ∙ ap (λ r. first_of (map declared_name r)) (passed_old is_declared inv.0 next rest c.in_ok-added.added adds.0 t))
