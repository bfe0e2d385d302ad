use Rattle.std.proofs.Common.{rules, arith, ◌≡◌, length, vec_len}
use Rattle.group_drive.proofs.Weighs.{weigh_one}
use Rattle.group_drive.proofs.groups.run.Goals as goal

pub run_groups-requires-clause-room : goal.run_groups-requires-clause-room
run_groups-requires-clause-room g c =
    let kept = c.deal-groups.ensures.kept (λ _. 1) in
    let l : vec_len c.args.nodes ≡ length c.args.nodes.items = search rules in
    let w = weigh_one g.N.Turns.number c.args.nodes.items in
    let cap = c.deal-groups.ensures.len.1 in
    let r = c.requires.room.left in omega arith

pub run_groups-requires-clause-all : goal.run_groups-requires-clause-all
run_groups-requires-clause-all g c =
    let kept = c.deal-groups.ensures.kept (λ _. 1) in
    let l : vec_len c.args.nodes ≡ length c.args.nodes.items = search rules in
    let w = weigh_one g.N.Turns.number c.args.nodes.items in
    let r = c.requires.room.all in omega arith

pub returns-clause-done : goal.returns-clause-done
returns-clause-done g c = λ parts all.
    let dealt = c.deal-groups.ensures.runs parts c.args.links.now.items all in
    c.run_groups.ensures.done parts dealt.0 dealt.1
