use Rattle.std.proofs.Common.{◌≡◌, ◌%◌, ◌++◌, ◌∷◌, [], ◌∙◌, List, ℕ, ap, length, set, slice_get, Some, sym, arith}
use Rattle.std.proofs.Math.Nat.{mod-lt}
use Rattle.pe_fusion.specs.Shapes.{groups_of}
use Rattle.pe_fusion.proofs.GroupLists.{groups-many, groups-next, groups-none}
use Rattle.pe_fusion.proofs.grouping.groups.Goals as goal

pub loop-element-init : goal.loop-element-init
loop-element-init c = c.in_ok-groups.ensures ∙ sym (groups-none c.args.workers)

pub item_mut-requires : goal.item_mut-requires
item_mut-requires c =
    let lt = mod-lt c.loop-element.element c.requires.some in
    let many = ap length c.loop-element.invariant ∙ groups-many c.loop-element.element c.args.workers in
    omega (arith, lt, many)

pub loop-element-preserved : goal.loop-element-preserved
loop-element-preserved c =
    let n : ℕ = c.loop-element.element in
    let w : ℕ = c.args.workers in
    let old : List ℕ = c.item_mut.result.now in
    let at : slice_get (groups_of n w) (n % w) ≡ Some old = ap (λ gs. slice_get gs (n % w)) (sym c.loop-element.invariant) ∙ c.item_mut.ensures.item in
    ap (λ g. set c.loop-element.groups (n % w) g) c.in_ok-push.ensures.ok
    ∙ ap (λ gs. set gs (n % w) (old ++ n ∷ [])) c.loop-element.invariant
    ∙ groups-next n w old (mod-lt n c.requires.some) at
