use Rattle.std.proofs.Common.{rules, ◌<◌, ℕ, ◌+◌, List, length, set, ◌∙◌, true≢false, sym, ap, subst}
use Rattle.std.proofs.Math.Seq.{map-set_same}
use Rattle.ordered_link.specs.declared.ends.Link.{Link}
use Rattle.group_drive.specs.Groups.{Parts}
use Rattle.group_drive.proofs.Each.{Before, Each, each_at, each_set, below_set}
use Rattle.group_drive.proofs.rounds.drive.Goals as goal
use Rattle.group_drive.proofs.rounds.drive.Goals.{in-Moved, in-Idle, in-Done}

pub turn-requires : goal.turn-requires
turn-requires g c =
    let N = g.row.N.Denot in
    let number : N → ℕ = g.N.Turns.number in
    let links : List Link = c.args.links.now.items in
    let parts : Parts = c.requires.runs.0 in
    let xs : List N = c.nodes.nodes.items in
    let old : N = c.index_mut-node.result.now in
    let P : N → Type 0 = λ n. g.N.Turns.runs n (parts (number n)) links in
    let low : c.nodes.i < length xs = search rules in (
      parts (number old),
      each_at P xs c.nodes.i old c.index_mut-node.ensures.value low (c.nodes.invariant.0 parts c.requires.runs.1),
    )

pub nodes-preserved : goal.nodes-preserved
nodes-preserved g c =
    let N = g.row.N.Denot in
    let number : N → ℕ = g.N.Turns.number in
    let links : List Link = c.args.links.now.items in
    let xs : List N = c.nodes.nodes.items in
    let i = c.nodes.i in
    let old : N = c.index_mut-node.result.now in
    let x : N = c.turn.new.self in
    let low : i < length xs = search rules in
    let was = c.nodes.invariant in
    let R : Parts → N → Type 0 = λ parts n. g.N.Turns.runs n (parts (number n)) links in
    let D : Parts → N → Type 0 = λ parts n. g.N.Turns.ended n (parts (number n)) links in
    let ran : (parts : Parts) → Each (R parts) xs → R parts old = λ parts all.
    each_at (R parts) xs i old c.index_mut-node.ensures.value low all in (
      (λ parts all. each_set (R parts) xs i x low (was.0 parts all)
          (subst (λ m. g.N.Turns.runs x (parts m) links) (sym c.turn.ensures.number)
          (c.turn.ensures.runs (parts (number old)) (ran parts (was.0 parts all))))),
      map-set_same number xs i x old (c.turn.ensures.number ∙ ap number c.index_mut-node.ensures.value) ∙ was.1,
      search rules,
      λ done. elim c.match-turn.branch as
          (λ _. (parts : Parts) → Each (R parts) c.args.nodes.items → Before (D parts) (set xs i x) (i + 1)) [
            | in-Moved w ↦ absurd (true≢false (sym done ∙ w.all_done-is))
            | in-Idle w ↦ absurd (true≢false (sym done ∙ w.all_done-is))
            | in-Done w ↦ λ parts all. below_set (D parts) xs i x low (was.3 (sym w.all_done-is ∙ done) parts all)
                (subst (λ m. g.N.Turns.ended x (parts m) links) (sym c.turn.ensures.number)
                (c.turn.ensures.done w.in-Done.is (parts (number old)) (ran parts (was.0 parts all))))
          ],
    )
