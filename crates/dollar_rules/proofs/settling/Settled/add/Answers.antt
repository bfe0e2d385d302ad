use Rattle.std.proofs.Common.{◌≡◌, ◌≤◌, ◌<◌, Some, refl, ap, sym, arith, ◌∙◌, length, take}
use Rattle.std.specs.Prelude.{slice_get}
use Rattle.std.proofs.lemmas.Option.{slice_get_read}
use Rattle.dollar_rules.specs.steps.Given.{found_at_last, found_in, marks_in}
use Rattle.dollar_rules.specs.steps.Settling.{given_of}
use Rattle.dollar_rules.proofs.Settles.{one_settled}
use Rattle.dollar_rules.proofs.SettledOnes.{settled_more}
use Rattle.dollar_rules.proofs.SettlesMore.{before_at_most, kept_more}
use Rattle.dollar_rules.proofs.settling.Settled.add.Goals as goal

pub insert-requires : goal.insert-requires
insert-requires c =
    let g = given_of c.args.head.now in
    let s = c.args.self.now in
    let most : marks_in (take c.args.place s.marks.items) ≤ length s.scope.dollars = before_at_most (found_at_last g) s.marks.items g.parameters c.args.place s.scope c.requires.settled.are.size c.requires.settled.kept in
    let counted : c.count_marks-before.result ≡ marks_in (take c.args.place s.marks.items) =
    c.count_marks-before.ensures ∙ ap (λ ms. marks_in (take c.args.place ms)) c.deref.ensures.value in
    omega (arith, most, counted)

pub returns : goal.returns
returns c =
    let g = given_of c.args.head.now in
    let s = c.args.self.now in
    let p = c.index-head-at.result in
    let is : slice_get g.parameters c.args.place ≡ Some p = slice_get_read g.parameters (length g.parameters) c.args.place p refl c.requires.within c.index-head-at.is in
    let meant = c.requires.meant p is in
    let within : c.args.place < length s.marks.items = omega (arith, c.requires.within, c.requires.settled.are.size) in
    let counted : c.count_marks-before.result ≡ marks_in (take c.args.place s.marks.items) =
    c.count_marks-before.ensures ∙ ap (λ ms. marks_in (take c.args.place ms)) c.deref.ensures.value in
    one_settled g s _ c.args.place within
    (settled_more g s.marks.items c.requires.settled.are c.dollars_law.ensures.mentioned c.args.place p is meant c.requires.open c.requires.ready) refl
    (kept_more g s.marks.items c.requires.settled.are c.dollars_law.ensures.mentioned c.args.place p is meant c.requires.open c.requires.ready s.scope c.requires.settled.kept
    _ _ _ _ within (c.in_ok-name.ensures ∙ c.as_slice.ensures ∙ ap (λ q. q.name.what) (sym c.index-head-at.is)) (c.in_ok-found.ensures ∙ ap (found_in g s.scope.dollars) (sym c.index-head-at.is)) counted c.in_ok-insert.ensures.ok)
