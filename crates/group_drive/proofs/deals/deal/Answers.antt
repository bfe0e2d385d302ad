use Rattle.std.proofs.Common.{rules, arith, ◌≡◌, ◌+◌, ◌++◌, ◌∷◌, [], length, vec_len, ap, subst, ◌∙◌}
use Rattle.group_drive.specs.Groups.{weigh}
use Rattle.group_drive.proofs.Each.{Each, each_front, each_last}
use Rattle.group_drive.proofs.Weighs.{weigh_push}
use Rattle.group_drive.proofs.Dealing.{weigh_empty, each_empty}
use Rattle.group_drive.proofs.deals.deal.Goals as goal

pub nodes-init : goal.nodes-init
nodes-init g c =
    let none = c.requires.none in
    let number = g.N.Turns.number in
    let empty : length c.args.left.items ≡ 0 = ap length none.1 in
    let l1 : vec_len c.args.left ≡ length c.args.left.items = search rules in (
      search rules,
      search rules,
      (let r = c.requires.room in omega arith),
      search rules,
      (λ h. let a = weigh_empty number h c.args.groups.items none.0 in
          let b : weigh number h c.args.left.items ≡ 0 = ap (weigh number h) none.1 in omega arith),
      λ parts links all. (
        each_empty (λ n. g.N.Turns.runs n (parts (number n)) links) c.args.groups.items none.0,
        (λ i d low. absurd (omega arith)),
        all,
      ),
    )

pub nodes-preserved : goal.nodes-preserved
nodes-preserved g c =
    let N = g.row.N.Denot in
    let number = g.N.Turns.number in
    let was = c.nodes.invariant in
    let n = c.in-Some.node in
    let rest = c.pop.new.self.items in
    let put = c.put_in.ensures in
    let fewer : vec_len c.nodes.nodes ≡ vec_len c.pop.new.self + 1 = search rules in
    let w2 = was.2 in let p2 = put.len.2 in let p1 = put.len.1 in (
      put.len.0 ∙ was.0,
      put.len.1 ∙ was.1,
      omega arith,
      put.len.0 ∙ was.3,
      (λ h. let a : weigh number h c.nodes.nodes.items ≡ weigh number h rest + h (number n) =
          ap (weigh number h) c.in-Some.ensures.items ∙ weigh_push number h rest n in
          let k = put.kept h in let w = was.4 h in omega arith),
      λ parts links all.
          let o = was.5 parts links all in
          let P : N → Type 0 = λ m. g.N.Turns.runs m (parts (number m)) links in
          let mine : Each P (rest ++ n ∷ []) = subst (Each P) c.in-Some.ensures.items o.2 in
          let r = put.runs parts links (each_last P rest n mine) (o.0, o.1) in
          (r.0, r.1, each_front P rest (n ∷ []) mine),
    )
