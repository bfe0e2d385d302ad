use Rattle.std.proofs.Common.{rules, ◌≡◌, true, not, drop, sym, ap, ◌∙◌}
use Rattle.std.specs.Prelude.{FitsSigned, int_lt, ◌-ℤ◌}
use Rattle.std.specs.Int.{w128}
use Rattle.std.proofs.lemmas.Int.{to_z-of_z}
use Rattle.spl_value.proofs.Lists.{next_rest}
use Rattle.window_policy.specs.steps.Deltas.{is_left}
use Rattle.window_policy.proofs.Deltas.{ends}
use Rattle.window_policy.proofs.delta.evict_front.Goals as goal

pub returns-then-not-exceeds-clause-evicted : goal.returns-then-not-exceeds-clause-evicted
returns-then-not-exceeds-clause-evicted c rises =
    let limit : FitsSigned w128 c.args.limit = search rules in
    let new : FitsSigned w128 c.args.new = search rules in
    let first : FitsSigned w128 c.integer_at.result = search rules in
    let t = c.in-Some.first.now in
    let near = simp to_z-of_z at c.if-not-exceeds.ensures in
    let stays : is_left c.args.attr c.args.limit c.args.new t ≡ true =
    ap not (ap (λ z. int_lt c.args.limit (c.args.new -ℤ z)) (sym c.integer_at.ensures) ∙ sym near) in
    let same = simp to_z-of_z at c.fronts.invariant in
    ends c.args.attr c.args.limit c.args.new t c.fronts.kept.items (drop 1 c.fronts.kept.items) c.args.kept.now.items
    (next_rest c.fronts.kept.items 0 t (sym c.in-Some.ensures)) (same.0 rises) stays same.1
