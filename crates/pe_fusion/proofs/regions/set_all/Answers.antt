use Rattle.std.proofs.Common.{List, ℕ, get_or, subst, arith}
use Rattle.std.specs.List.{Contains}
use Rattle.pe_fusion.proofs.Loops.{contains_at}
use Rattle.pe_fusion.proofs.regions.set_all.Goals as goal

pub set-requires : goal.set-requires
set-requires c =
    let xs : List ℕ = c.as_slice-op-items.result.now in
    let s : ℕ = get_or xs c.loop-op.op-index 0 in
    let within = c.requires s (subst (λ ns. Contains ns s) c.as_slice-op-items.ensures (contains_at xs c.loop-op.op-index c.loop-op-test.true)) in
    let many = c.loop-op.invariant.many in
    omega (arith, within, many)
