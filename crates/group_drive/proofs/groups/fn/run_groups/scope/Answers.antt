use Rattle.std.proofs.Common.{rules, arith, ◌≡◌, ◌+◌, length, ap, sym, ◌∙◌, subst, vec_len}
use Rattle.std.specs.List.{sum_by}
use Rattle.group_drive.specs.Groups.{weigh}
use Rattle.group_drive.proofs.Each.{Each, each_append}
use Rattle.group_drive.proofs.Weighs.{weigh_append, weigh_one}
use Rattle.group_drive.proofs.groups.fn.run_groups.scope.Goals as goal

pub add-requires : goal.add-requires
add-requires g c =
    let number = g.N.Turns.number in
    let all = c.captures.all in
    let left = c.drive-left.result in
    let same : weigh number (λ _. 1) left.items ≡ weigh number (λ _. 1) c.launch-handles.result.1.items =
    ap (sum_by (λ _. 1)) c.drive-left.ensures.numbers in
    let parts = c.launch-handles.ensures.kept (λ _. 1) in
    let none : length all.items ≡ 0 = ap length c.requires.none.1 in
    let l1 : vec_len all ≡ length all.items = search rules in
    let l2 : vec_len left ≡ length left.items = search rules in
    omega (arith, weigh_one number left.items, c.requires.all)

pub returns : goal.returns
returns g c =
    let N = g.row.N.Denot in
    let number : N → _ = g.N.Turns.number in
    let all = c.captures.all in
    let left = c.drive-left.result in
    let none : length all.items ≡ 0 = ap length c.requires.none.1 in
    record {
      kept = λ h.
          let began : weigh number h all.items ≡ 0 = ap (weigh number h) c.requires.none.1 in
          let same : weigh number h left.items ≡ weigh number h c.launch-handles.result.1.items =
          ap (sum_by h) c.drive-left.ensures.numbers in
          let both : weigh number h c.add.result.items ≡ weigh number h all.items + weigh number h left.items =
          ap (weigh number h) c.add.ensures.items ∙ weigh_append number h all.items left.items in
          let out = c.launch-handles.ensures.kept h in
          let back = c.collect.ensures.kept h in
          omega arith;
      done = λ parts groups_run left_run.
          let E : N → Type 0 = λ n. g.N.Turns.ended n (parts (number n)) c.captures.links.now.items in
          let ran = c.launch-handles.ensures.runs parts groups_run left_run in
          c.collect.ensures.done parts
          (subst (Each E) (sym c.add.ensures.items)
          (each_append E all.items left.items (λ i d low. absurd (omega arith))
          (c.drive-left.ensures.done parts ran.1)))
          ran.0;
    }
