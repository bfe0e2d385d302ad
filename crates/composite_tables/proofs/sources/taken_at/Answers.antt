use Rattle.std.proofs.Common.{arith, ◌≡◌, sym, Some, slice_get}
use Rattle.std.proofs.lemmas.Grind.{common_steps}
use Rattle.std.proofs.lemmas.Option.{gets}
use Rattle.composite_tables.proofs.Following.{is_body}
use Rattle.composite_tables.proofs.sources.taken_at.Goals as goal

pub returns : goal.returns
returns c = λ xs kept.
    let own : slice_get c.args.rows.now c.args.number ≡ Some c.as_slice.result.now = grind (arith, common_steps, gets) in
    c.taken_by.ensures xs (is_body c.args.composites.now.unit.now c.args.bodies.now c.args.rows.now xs kept c.args.number _ _ (sym c.in_ok-scope.ensures) own)
