use Rattle.std.proofs.Common.{refl, sym, subst, cond, Some, ◌∙◌}
use Rattle.std.specs.Prelude.{IsSome}
use Rattle.std.specs.HashMap.{get}
use Rattle.stream_model.specs.parts.Groups.{of_group}
use Rattle.key_maps.specs.MapKeys.{equal_key}
use Rattle.tuple_groups.proofs.Gathered.{first_member, gathered, more_members}
use Rattle.tuple_groups.proofs.grouping.gather.Goals as goal

pub returns-in-Some : goal.returns-in-Some
returns-in-Some c ts stood k =
    let places = c.args.places.now in
    let t = c.args.tuple.now in
    let key = c.in_ok-key.key in
    let updates = ((c.get_mut.follows.holds c.add.new.members).3 (subst IsSome c.in-Some.ensures.value refl)).0 in
    gathered places ts t key c.in_ok-key.ensures c.add.new.members
    (more_members (of_group places ts key) t _ c.in-Some.members.now c.add.new.members (sym c.in-Some.ensures.value) (stood key) c.in_ok-add.ensures)
    (get equal_key c.args.gathered.now) _ updates stood k

pub returns : goal.returns
returns c ts stood k =
    let places = c.args.places.now in
    let t = c.args.tuple.now in
    let key = c.in_ok-key.key in
    gathered places ts t key c.in_ok-key.ensures c.in_ok-members.members
    (first_member (of_group places ts key) t _ c.in_ok-members.members (sym c.in_default.ensures.value) (stood key) c.in_ok-members.ensures)
    (get equal_key c.args.gathered.now) _
    (λ q. c.in_ok-insert.ensures.updates.0 q ∙ (λ i. cond (equal_key key q) (Some c.in_ok-members.members) (get equal_key (c.get_mut.follows.holds-at-none i) q))) stood k
