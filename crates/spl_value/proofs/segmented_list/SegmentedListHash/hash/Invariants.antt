use Rattle.std.proofs.Common.{◌≡◌}
use Rattle.std.specs.List.{fold, flat_map}
use Rattle.std.specs.Hash as fed
use Rattle.spl_value.proofs.segmented_list.SegmentedListHash.hash.Given as goal

-- what is still to come, after what was fed, is the whole
abbrev pub invariant-items : goal.invariant-items
invariant-items g l =
    fold g.H.Hasher.write l.state (flat_map g.T.Hash.hash_input l.item-iterator)
    ≡ fold g.H.Hasher.write l.fn.state (fed.slice g.T.Hash.hash_input l.fn.self)
