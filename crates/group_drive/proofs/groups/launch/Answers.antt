use Rattle.std.proofs.Common.{rules, arith, ◌≡◌, ◌≤◌, ◌+◌, ◌∷◌, [], ℕ, List, length, sym, ap, subst, vec_len, Vec}
use Rattle.std.specs.List.{sum_by}
use Rattle.std.specs.declared.alloc.Global.{Global}
use Rattle.std.specs.declared.thread.PromisedHandle.{PromisedHandle}
use Rattle.ordered_link.specs.declared.ends.Link.{Link}
use Rattle.group_drive.specs.Groups.{weigh, weigh_all}
use Rattle.group_drive.specs.Answers.{weigh_out}
use Rattle.group_drive.specs.declared.answer.Back.{Back}
use Rattle.group_drive.specs.declared.answer.Answer.{Answer}
use Rattle.group_drive.proofs.Each.{Each, each_append, each_front, each_last, each_one}
use Rattle.group_drive.proofs.Weighs.{weigh_append, weigh_one, all_last, out_last}
use Rattle.group_drive.proofs.groups.launch.Goals as goal

pub offer-requires-clause-runs : goal.offer-requires-clause-runs
offer-requires-clause-runs g c κs lives =
    let N = g.row.N.Denot in
    let parts = c.requires.runs.0 in
    let P : N → Type 0 = λ n. g.N.Turns.runs n (parts (g.N.Turns.number n)) c.args.links.now.items in
    let was = c.groups.invariant.6 parts c.requires.runs.1 c.requires.runs.2 in (
      parts,
      each_last (λ (v : Vec N Global). Each P v.items) c.pop.new.self.items c.in-Some.group
          (subst (Each (λ (v : Vec N Global). Each P v.items)) c.in-Some.ensures.items was.1),
    )

pub add-left-requires : goal.add-left-requires
add-left-requires g c =
    let number = g.N.Turns.number in
    let left = c.groups.left in
    let rest = c.in-Err.rest in
    let was = c.groups.invariant in
    let out : weigh_all number (λ _. 1) c.groups.groups.items
    ≡ weigh_all number (λ _. 1) c.pop.new.self.items + weigh number (λ _. 1) c.in-Some.group.items =
    all_last number (λ _. 1) _ _ c.in-Some.group c.in-Some.ensures.items in
    let same : weigh number (λ _. 1) rest.items ≡ weigh number (λ _. 1) c.in-Some.group.items =
    ap (sum_by (λ _. 1)) c.in-Err.ensures.numbers in
    let l1 : vec_len left ≡ length left.items = search rules in
    let l2 : vec_len rest ≡ length rest.items = search rules in
    omega (arith, weigh_one number left.items, weigh_one number rest.items, was.4)

pub groups-preserved : goal.groups-preserved
groups-preserved g c =
    let N = g.row.N.Denot in
    let number = g.N.Turns.number in
    let left = c.groups.left in
    let rest = c.in-Err.rest in
    let was = c.groups.invariant in
    let now = c.add-left.result in
    let links = c.args.links.now.items in
    let group = c.in-Some.group in
    let out : (h : ℕ → ℕ) → weigh_all number h c.groups.groups.items
    ≡ weigh_all number h c.pop.new.self.items + weigh number h group.items =
    λ h. all_last number h _ _ group c.in-Some.ensures.items in
    let same : (h : ℕ → ℕ) → weigh number h rest.items ≡ weigh number h group.items =
    λ h. ap (sum_by h) c.in-Err.ensures.numbers in
    let sums : (h : ℕ → ℕ) → weigh number h now.items ≡ weigh number h left.items + weigh number h rest.items =
    λ h. subst (λ (ns : List N). weigh number h ns ≡ weigh number h left.items + weigh number h rest.items)
    (sym c.add-left.ensures.items) (weigh_append number h left.items rest.items) in
    let fewer : vec_len c.pop.new.self ≤ vec_len c.groups.groups = search rules in (
      (let w = was.0 in omega arith),
      (let w = was.1 in omega arith),
      was.2,
      (let w = was.3 in omega arith),
      (let a = out (λ _. 1) in let b = same (λ _. 1) in let s = sums (λ _. 1) in
          omega (arith, was.4, c.add-left.ensures.room)),
      (λ h. let a = out h in let b = same h in let s = sums h in let w = was.5 h in omega arith),
      λ parts groups_run left_run.
          let P : N → Type 0 = λ n. g.N.Turns.runs n (parts (number n)) links in
          let Q : Vec N Global → Type 0 = λ v. Each P v.items in
          let w = was.6 parts groups_run left_run in
          let all = subst (Each Q) c.in-Some.ensures.items w.1 in
          let mine = c.in-Err.ensures.runs parts (each_last Q c.pop.new.self.items group all) in (
            w.0,
            each_front Q c.pop.new.self.items (group ∷ []) all,
            subst (Each P) (sym c.add-left.ensures.items) (each_append P left.items rest.items w.2 mine),
          ),
    )

pub groups-preserved-in-Ok : goal.groups-preserved-in-Ok
groups-preserved-in-Ok g c =
    let N = g.row.N.Denot in
    let number = g.N.Turns.number in
    let was = c.groups.invariant in
    let links = c.args.links.now.items in
    let p = c.in-Ok.handle in
    let group = c.in-Some.group in
    let hs = c.groups.handles.items in
    let A : PromisedHandle (Answer N) (Back N) → Type 0 = λ q. q.promise.links.value.items ≡ links in
    let out : (h : ℕ → ℕ) → weigh_all number h c.groups.groups.items
    ≡ weigh_all number h c.pop.new.self.items + weigh number h group.items =
    λ h. all_last number h _ _ group c.in-Some.ensures.items in
    let more : (h : ℕ → ℕ) → weigh_out number h c.push_reserved.new.self.items
    ≡ weigh_out number h hs + weigh number h p.promise.was.value.items =
    λ h. out_last number h c.push_reserved.new.self.items hs p c.push_reserved.ensures.items in
    let same : (h : ℕ → ℕ) → weigh number h p.promise.was.value.items ≡ weigh number h group.items =
    λ h. ap (λ (v : Vec N Global). weigh number h v.items) c.in-Ok.ensures.ok.1 in
    let fewer : vec_len c.groups.groups ≡ vec_len c.pop.new.self + 1 = search rules in
    let len = c.push_reserved.ensures.len in
    let cap = c.push_reserved.ensures.capacity in (
      (let w = was.0 in omega arith),
      (let w = was.1 in omega arith),
      subst (Each A) (sym c.push_reserved.ensures.items)
          (each_append A hs (p ∷ []) was.2 (each_one A p (ap (λ (v : Vec Link Global). v.items) c.in-Ok.ensures.ok.0))),
      (let w = was.3 in omega arith),
      (let a = out (λ _. 1) in let w = was.4 in omega arith),
      (λ h. let a = out h in let b = more h in let s = same h in let w = was.5 h in omega arith),
      λ parts groups_run left_run.
          let P : N → Type 0 = λ n. g.N.Turns.runs n (parts (number n)) links in
          let Q : Vec N Global → Type 0 = λ v. Each P v.items in
          let O : PromisedHandle (Answer N) (Back N) → Type 0 = λ q. Each P q.promise.was.value.items in
          let w = was.6 parts groups_run left_run in
          let all = subst (Each Q) c.in-Some.ensures.items w.1 in
          let mine : O p = subst Q (sym c.in-Ok.ensures.ok.1) (each_last Q c.pop.new.self.items group all) in (
            subst (Each O) (sym c.push_reserved.ensures.items) (each_append O hs (p ∷ []) w.0 (each_one O p mine)),
            each_front Q c.pop.new.self.items (group ∷ []) all,
            w.2,
          ),
    )

pub returns-clause-runs : goal.returns-clause-runs
returns-clause-runs g c = λ parts groups_run left_run.
    let w = c.groups.invariant.6 parts groups_run left_run in (w.0, w.2)
