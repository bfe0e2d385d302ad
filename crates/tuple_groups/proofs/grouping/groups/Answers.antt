use Rattle.std.proofs.Common.{arith, ◌≡◌, take, subst}
use Rattle.std.specs.HashMap.{get}
use Rattle.std.proofs.lemmas.List.{take_all}
use Rattle.tuple_groups.specs.Seen.{seen}
use Rattle.key_maps.specs.MapKeys.{equal_key}
use Rattle.tuple_groups.specs.steps.Gathering.{HasGroups}
use Rattle.tuple_groups.proofs.Gathered.{are_groups}
use Rattle.tuple_groups.proofs.grouping.groups.Goals as goal

pub returns : goal.returns
returns c =
    let places = c.args.places.now in
    let all : take c.loop-tuple.tuple-index c.args.tuples.now ≡ c.args.tuples.now = take_all c.loop-tuple.tuple-index c.args.tuples.now (omega arith) in
    let stood = subst (λ us. HasGroups places c.loop-tuple.gathered (seen us)) all c.loop-tuple.invariant in
    are_groups places (seen c.args.tuples.now) c.in_ok-entries.entries.items (get equal_key c.loop-tuple.gathered) c.in_ok-entries.ensures.sorted c.in_ok-entries.ensures.found stood
