use Rattle.std.proofs.Common.{rules, arith, ◌≡◌, ◌+◌, ◌∷◌, [], ℕ, List, length, sym, ap, subst, vec_len}
use Rattle.std.specs.List.{sum_by}
use Rattle.std.specs.declared.thread.PromisedHandle.{PromisedHandle}
use Rattle.group_drive.specs.Groups.{weigh}
use Rattle.group_drive.specs.Answers.{weigh_out}
use Rattle.group_drive.specs.declared.answer.Back.{Back}
use Rattle.group_drive.specs.declared.answer.Answer.{Answer}
use Rattle.group_drive.proofs.Each.{Each, each_append, each_front, each_last}
use Rattle.group_drive.proofs.Weighs.{weigh_append, weigh_one, out_last}
use Rattle.group_drive.proofs.groups.collect.Goals as goal

pub finish-requires-clause-among : goal.finish-requires-clause-among
finish-requires-clause-among g c κs lives =
    let N = g.row.N.Denot in
    let A : PromisedHandle (Answer N) (Back N) → Type 0 = λ p. p.promise.links.value.items ≡ c.args.links.now.items in
    each_last A c.pop.new.self.items c.in-Some.handle (subst (Each A) c.in-Some.ensures.items c.handles.invariant.0)

pub finish-requires-clause-runs : goal.finish-requires-clause-runs
finish-requires-clause-runs g c κs lives =
    let N = g.row.N.Denot in
    let parts = c.requires.runs.0 in
    let O : PromisedHandle (Answer N) (Back N) → Type 0 =
    λ p. Each (λ n. g.N.Turns.runs n (parts (g.N.Turns.number n)) c.args.links.now.items) p.promise.was.value.items in (
      parts,
      each_last O c.pop.new.self.items c.in-Some.handle
          (subst (Each O) c.in-Some.ensures.items (c.handles.invariant.3 parts c.requires.runs.1)),
    )

pub add-all-requires : goal.add-all-requires
add-all-requires g c =
    let number = g.N.Turns.number in
    let all = c.handles.all in
    let more = c.finish.result in
    let was = c.handles.invariant in
    let out : weigh_out number (λ _. 1) c.handles.handles.items
    ≡ weigh_out number (λ _. 1) c.pop.new.self.items + weigh number (λ _. 1) c.in-Some.handle.promise.was.value.items =
    out_last number (λ _. 1) _ _ c.in-Some.handle c.in-Some.ensures.items in
    let same : weigh number (λ _. 1) more.items ≡ weigh number (λ _. 1) c.in-Some.handle.promise.was.value.items =
    ap (sum_by (λ _. 1)) c.finish.ensures.numbers in
    let l1 : vec_len all ≡ length all.items = search rules in
    let l2 : vec_len more ≡ length more.items = search rules in
    omega (arith, weigh_one number all.items, weigh_one number more.items, was.1)

pub handles-preserved : goal.handles-preserved
handles-preserved g c =
    let N = g.row.N.Denot in
    let number = g.N.Turns.number in
    let all = c.handles.all in
    let more = c.finish.result in
    let was = c.handles.invariant in
    let now = c.add-all.result in
    let links = c.args.links.now.items in
    let p = c.in-Some.handle in
    let A : PromisedHandle (Answer N) (Back N) → Type 0 = λ q. q.promise.links.value.items ≡ links in
    let out : (h : ℕ → ℕ) → weigh_out number h c.handles.handles.items
    ≡ weigh_out number h c.pop.new.self.items + weigh number h p.promise.was.value.items =
    λ h. out_last number h _ _ p c.in-Some.ensures.items in
    let same : (h : ℕ → ℕ) → weigh number h more.items ≡ weigh number h p.promise.was.value.items =
    λ h. ap (sum_by h) c.finish.ensures.numbers in
    let sums : (h : ℕ → ℕ) → weigh number h now.items ≡ weigh number h all.items + weigh number h more.items =
    λ h. subst (λ (ns : List N). weigh number h ns ≡ weigh number h all.items + weigh number h more.items)
    (sym c.add-all.ensures.items) (weigh_append number h all.items more.items) in (
      each_front A c.pop.new.self.items (p ∷ []) (subst (Each A) c.in-Some.ensures.items was.0),
      (let a = out (λ _. 1) in let b = same (λ _. 1) in let s = sums (λ _. 1) in
          omega (arith, was.1, c.add-all.ensures.room)),
      (λ h. let a = out h in let b = same h in let s = sums h in let w = was.2 h in omega arith),
      (λ parts out_run.
          let O : PromisedHandle (Answer N) (Back N) → Type 0 =
          λ q. Each (λ n. g.N.Turns.runs n (parts (number n)) links) q.promise.was.value.items in
          each_front O c.pop.new.self.items (p ∷ []) (subst (Each O) c.in-Some.ensures.items (was.3 parts out_run))),
      λ parts all_ended out_run.
          let E : N → Type 0 = λ n. g.N.Turns.ended n (parts (number n)) links in
          let O : PromisedHandle (Answer N) (Back N) → Type 0 =
          λ q. Each (λ n. g.N.Turns.runs n (parts (number n)) links) q.promise.was.value.items in
          let mine = c.finish.ensures.done parts
          (each_last O c.pop.new.self.items p (subst (Each O) c.in-Some.ensures.items (was.3 parts out_run))) in
          subst (Each E) (sym c.add-all.ensures.items)
          (each_append E all.items more.items (was.4 parts all_ended out_run) mine),
    )
