use Rattle.std.proofs.Common.{refl, subst, sym}
use Rattle.std.specs.Prelude.{IsTrue}
use Rattle.spl_value.specs.Pairs.{are_pairs}
use Rattle.spl_tree.specs.declared.body.Change.TheVariants as H
use Rattle.value_operations.proofs.PlaceSteps.{removed_is_map, removed_are_pairs}
use Rattle.value_operations.proofs.changes.remove.Goals as goal

pub unreachable-requires : goal.unreachable-requires
unreachable-requires c = removed_is_map (H.Remove c.args.key) c.args.map.now c.requires c.args.key refl c.in_default.not-Map

pub remove_key-requires : goal.remove_key-requires
remove_key-requires c =
    subst (λ ps. IsTrue (are_pairs ps)) (sym c.in-Map.pairs-is)
    (removed_are_pairs (H.Remove c.args.key) c.args.map.now c.requires c.args.key c.in-Map.pairs refl c.in-Map.is)
