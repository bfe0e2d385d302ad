use Rattle.std.proofs.Common.{map, slice_get, sym, ap, subst, ◌∙◌}
use Rattle.language_model.specs.Outcomes.{Done}
use Rattle.stream_model.specs.Bodies.{most_turns}
use Rattle.stream_model.specs.Windows.{content}
use Rattle.join_op.specs.Pairs.{with_other}
use Rattle.join_op.specs.steps.Giving.{GivesAs}
use Rattle.join_op.specs.steps.Matching.{matched}
use Rattle.join_op.proofs.Contents.{nothing_held}
use Rattle.join_op.proofs.matching.match_window.Goals as goal

pub match_all-requires-clause-fit : goal.match_all-requires-clause-fit
match_all-requires-clause-fit c =
    let rule = c.requires.fit.0 in
    let h = c.requires.fit.1 in
    let held = (c.in-Some.ensures.shown rule h c.requires.fit.2).1 ∙ ap (λ k. content rule k h) c.new-key.ensures in
    λ i u at. c.requires.fit.3 i u (ap (λ us. slice_get us i) (sym held) ∙ at)

pub returns-in-Some-clause-gives : goal.returns-in-Some-clause-gives
returns-in-Some-clause-gives c rule h stood =
    let held = (c.in-Some.ensures.shown rule h stood).1 ∙ ap (λ k. content rule k h) c.new-key.ensures in
    subst (λ us. GivesAs (matched c.args.clauses.now (map (with_other c.args.side c.args.env.now) us)) c.match_all.result) held c.match_all.ensures.gives

pub returns-clause-gives : goal.returns-clause-gives
returns-clause-gives c rule h stood =
    let held = ap (λ k. content rule k h) (sym c.new-key.ensures) ∙ nothing_held rule c.new-key.result h (c.in-None.ensures.none rule h stood) in
    (most_turns, ap (λ us. matched c.args.clauses.now (map (with_other c.args.side c.args.env.now) us)) held ∙ ap (λ os. Done os most_turns) (sym c.new.ensures))
