use Rattle.std.proofs.Common.{◌≡◌, ◌∙◌, ◌==◌, true, false, [], ◌++◌, ◌∷◌, ap, get_or, length, refl, subst, sym}
use Rattle.std.proofs.lemmas.Bool.{eqb-true}
use Rattle.std.proofs.lemmas.List.{nil_from_length}
use Rattle.stream_model.specs.Stream.{came}
use Rattle.list_engine.specs.steps.Taking.{Reached, task_of}
use Rattle.list_engine.proofs.Gathering.{first_and_rest}
use Rattle.list_engine.proofs.Replaying.{replay_ends, replay_first, replay_more, replay_over, replay_ready, replay_too_long, replay_used_up}
use Rattle.list_engine.proofs.Taking.{still_live}
use Rattle.list_engine.proofs.replay.take_recorded.Goals as goal

pub entries-init : goal.entries-init
entries-init g c =
    replay_first g.R.React.spec g.R.React.stands (task_of (g.R.React.spec c.args.operator.now) c.args.given.now) c.args.lists c.args.entries.now c.in_ok-left.left c.args.operator.now
    c.args.given.now refl c.requires.fresh c.requires.none_given c.in_ok-left.ensures

pub returns-in_default-take_last-clause-stops : goal.returns-in_default-take_last-clause-stops
returns-in_default-take_last-clause-stops g c = (
  refl,
  replay_used_up g.R.React.spec g.R.React.stands (task_of (g.R.React.spec c.args.operator.now) c.args.given.now) c.args.lists c.args.entries.now c.entries.left c.entries.rest.now _ _
      c.entries.operator c.entries.given c.entries.invariant (first_and_rest c.entries.rest.now c.in-len1-up.len_at_least) c.in_default-take_last.ensures,
)

pub step-requires : goal.step-requires
step-requires g c =
    let r = c.entries.invariant in
    let task = task_of (g.R.React.spec c.args.operator.now) c.args.given.now in
    record {
      may = (
        task,
        r.done,
        r.reached,
        replay_ready g.R.React.spec g.R.React.stands task c.args.lists c.args.entries.now c.entries.left c.take_last.new.lists c.entries.rest.now _ _ c.in-Some.item c.entries.operator
            c.entries.operator c.entries.given c.entries.given r (first_and_rest c.entries.rest.now c.in-len1-up.len_at_least) c.in-Some.ensures c.requires.fit,
      );
    }

pub returns-then-is_empty-clause-replayed : goal.returns-then-is_empty-clause-replayed
returns-then-is_empty-clause-replayed g c =
    let r = c.entries.invariant in
    let task = task_of (g.R.React.spec c.args.operator.now) c.args.given.now in
    let next = first_and_rest c.entries.rest.now c.in-len1-up.len_at_least in
    let ready = replay_ready g.R.React.spec g.R.React.stands task c.args.lists c.args.entries.now c.entries.left c.take_last.new.lists c.entries.rest.now _ _ c.in-Some.item c.entries.operator
    c.entries.operator c.entries.given c.entries.given r next c.in-Some.ensures c.requires.fit in
    replay_ends g.R.React.spec g.R.React.stands task c.args.lists c.args.entries.now c.entries.left c.take_last.new.lists c.entries.rest.now _ _ c.in-Some.item c.entries.operator
    c.step.new.operator c.entries.given c.step.new.given r next c.in-Some.ensures c.requires.fit c.in-Ended.fault
    (nil_from_length _ (eqb-true _ 0 (sym c.is_empty.ensures ∙ c.if-is_empty.true)))
    (subst (λ standing. Reached g.R.React.spec g.R.React.stands task (r.done ++ came (get_or c.entries.rest.now 0 0) c.in-Some.item ∷ []) c.step.new.operator c.step.new.given standing)
    c.in-Ended.is (c.in_ok-fault.ensures task r.done r.reached ready))

pub returns-in-Ended-clause-stops : goal.returns-in-Ended-clause-stops
returns-in-Ended-clause-stops g c =
    let r = c.entries.invariant in
    let task = task_of (g.R.React.spec c.args.operator.now) c.args.given.now in
    let next = first_and_rest c.entries.rest.now c.in-len1-up.len_at_least in
    let ready = replay_ready g.R.React.spec g.R.React.stands task c.args.lists c.args.entries.now c.entries.left c.take_last.new.lists c.entries.rest.now _ _ c.in-Some.item c.entries.operator
    c.entries.operator c.entries.given c.entries.given r next c.in-Some.ensures c.requires.fit in (
      refl,
      replay_too_long g.R.React.spec g.R.React.stands task c.args.lists c.args.entries.now c.entries.left c.take_last.new.lists c.entries.rest.now _ _ c.in-Some.item c.entries.operator
          c.step.new.operator c.entries.given c.step.new.given r next c.in-Some.ensures c.requires.fit c.in-Ended.fault
          (λ none. (let clash : true ≡ false = sym (c.is_empty.ensures ∙ ap (λ xs. length xs == 0) none) ∙ c.if-is_empty.false in cc))
          (subst (λ standing. Reached g.R.React.spec g.R.React.stands task (r.done ++ came (get_or c.entries.rest.now 0 0) c.in-Some.item ∷ []) c.step.new.operator c.step.new.given standing)
          c.in-Ended.is (c.in_ok-fault.ensures task r.done r.reached ready)),
    )

pub entries-preserved : goal.entries-preserved
entries-preserved g c =
    let r = c.entries.invariant in
    let task = task_of (g.R.React.spec c.args.operator.now) c.args.given.now in
    let next = first_and_rest c.entries.rest.now c.in-len1-up.len_at_least in
    let ready = replay_ready g.R.React.spec g.R.React.stands task c.args.lists c.args.entries.now c.entries.left c.take_last.new.lists c.entries.rest.now _ _ c.in-Some.item c.entries.operator
    c.entries.operator c.entries.given c.entries.given r next c.in-Some.ensures c.requires.fit in
    replay_more g.R.React.spec g.R.React.stands task c.args.lists c.args.entries.now c.entries.left c.take_last.new.lists c.entries.rest.now _ _ c.in-Some.item c.entries.operator
    c.step.new.operator c.entries.given c.step.new.given r next c.in-Some.ensures c.requires.fit
    (subst (λ standing. Reached g.R.React.spec g.R.React.stands task (r.done ++ came (get_or c.entries.rest.now 0 0) c.in-Some.item ∷ []) c.step.new.operator c.step.new.given standing)
    (still_live c.in_ok-fault.field-0 c.in_default-2.not-Ended) (c.in_ok-fault.ensures task r.done r.reached ready))

pub returns-clause-stops : goal.returns-clause-stops
returns-clause-stops g c = (
  refl,
  replay_over g.R.React.spec g.R.React.stands (task_of (g.R.React.spec c.args.operator.now) c.args.given.now) c.args.lists c.args.entries.now c.entries.left c.entries.rest.now
      c.entries.operator c.entries.given c.entries.invariant c.in_default.len_below,
)
