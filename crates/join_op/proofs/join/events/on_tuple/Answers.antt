use Rattle.std.proofs.Common.{◌≡◌, [], ◌∷◌, map, length, Some, sym, ap, subst, ◌∙◌}
use Rattle.stream_model.specs.React.{answer}
use Rattle.stream_model.specs.Windows.{Insert, content}
use Rattle.window_policy.specs.Standing.{Stands}
use Rattle.port_reacts.specs.Bodies.{RepliesTo}
use Rattle.join_op.specs.Fitting.{PairFits}
use Rattle.join_op.specs.Pairs.{pair_env, with_other}
use Rattle.join_op.specs.steps.Matching.{matched}
use Rattle.port_reacts.proofs.Answering.{not_out, replies_done}
use Rattle.join_op.proofs.PairEnvs.{own_there, own_within, pair_there, ready_again, still_ready}
use Rattle.join_op.proofs.join.events.on_tuple.Goals as goal

pub match_window-requires-clause-fit : goal.match_window-requires-clause-fit
match_window-requires-clause-fit c =
    let x = c.args.clauses.now in
    let f = c.requires.fit in (
      f.0,
      f.1,
      f.2,
      λ i u at. subst (PairFits x.at.checked.now.functions x.condition.now x.output.now)
          (sym (pair_there c.args.side c.args.env.now c.swap_own.new.env c.args.tuple u c.requires.ready c.swap_own.ensures.now)) (f.3 i u at),
    )

pub swap_own-tuple-requires : goal.swap_own-tuple-requires
swap_own-tuple-requires c =
    let is = c.in-Ok.ensures.env [] ∙ pair_there c.args.side c.args.env.now c.swap_own.new.env c.args.tuple [] c.requires.ready c.swap_own.ensures.now in
    own_within c.args.side c.match_window.new.env (still_ready c.args.side c.match_window.new.env c.args.tuple is)

pub returns-in-Ok-insert-clause-replies : goal.returns-in-Ok-insert-clause-replies
returns-in-Ok-insert-clause-replies c rule h stood =
    let x = c.args.clauses.now in
    let gives = c.in-Ok.ensures.gives rule h stood in
    let same : with_other c.args.side c.swap_own.new.env ≡ pair_env c.args.side c.args.tuple =
    λ i u. pair_there c.args.side c.args.env.now c.swap_own.new.env c.args.tuple u c.requires.ready c.swap_own.ensures.now i in
    replies_done x.at.number (length x.at.op.now.outs) _ c.in-Ok.outs gives.0 (ap (λ f. matched x (map f (content rule [] h))) (sym same) ∙ gives.1)

pub returns-in-Ok-insert-clause-stands : goal.returns-in-Ok-insert-clause-stands
returns-in-Ok-insert-clause-stands c rule h stood =
    let is = c.in-Ok.ensures.env [] ∙ pair_there c.args.side c.args.env.now c.swap_own.new.env c.args.tuple [] c.requires.ready c.swap_own.ensures.now in
    let there : Some c.swap_own-tuple.result ≡ Some c.args.tuple = sym c.swap_own-tuple.ensures.before ∙ own_there c.args.side c.match_window.new.env c.args.tuple is in
    let tuple : c.swap_own-tuple.result ≡ c.args.tuple = cc in
    subst (λ e. Stands rule c.insert.new.self (e ∷ h)) (λ i. Insert (c.new-in-Ok.ensures i) (tuple i)) (c.in-Ok-insert.ensures.stands rule h stood)

pub returns-in-Ok-insert-clause-ready : goal.returns-in-Ok-insert-clause-ready
returns-in-Ok-insert-clause-ready c =
    let is = c.in-Ok.ensures.env [] ∙ pair_there c.args.side c.args.env.now c.swap_own.new.env c.args.tuple [] c.requires.ready c.swap_own.ensures.now in
    ready_again c.args.side c.match_window.new.env c.swap_own-tuple.new.env c.new.result (still_ready c.args.side c.match_window.new.env c.args.tuple is) c.swap_own-tuple.ensures.now

pub returns-in-Err-clause-replies : goal.returns-in-Err-clause-replies
returns-in-Err-clause-replies c rule h stood =
    let x = c.args.clauses.now in
    let same : with_other c.args.side c.swap_own.new.env ≡ pair_env c.args.side c.args.tuple =
    λ i u. pair_there c.args.side c.args.env.now c.swap_own.new.env c.args.tuple u c.requires.ready c.swap_own.ensures.now i in
    subst (λ f. RepliesTo x.at.number (length x.at.op.now.outs) (answer (matched x (map f (content rule [] h)))) c.stopped.result) same
    (c.stopped.ensures.replies _ (c.in-Err.ensures.gives rule h stood))

pub returns-in-Err-clause-stands : goal.returns-in-Err-clause-stands
returns-in-Err-clause-stands c = not_out c.stopped.result _ c.stopped.ensures.ends

pub returns-in-Err-clause-ready : goal.returns-in-Err-clause-ready
returns-in-Err-clause-ready c = not_out c.stopped.result _ c.stopped.ensures.ends
