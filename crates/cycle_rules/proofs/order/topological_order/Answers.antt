use Rattle.std.specs.Prelude.{◌≡◌, ◌<◌, ◌+◌, ◌∷◌, [], ◌++◌, length, map, Some, None}
use Rattle.std.proofs.Common.{sym, ap, ◌∙◌, arith, length-append}
use Rattle.std.proofs.lemmas.List.{length-set}
use Rattle.language_model.specs.Taking.{is_taken, next_from}
use Rattle.cycle_rules.specs.steps.Makers.{covers_all, first_ready}
use Rattle.cycle_rules.proofs.Flags.{next_by_rows, taken_done, round_more, flags_more}
use Rattle.cycle_rules.proofs.order.topological_order.Goals as goal

pub returns-in_default : goal.returns-in_default
returns-in_default c =
    let next : None ≡ next_from c.args.streams.now c.rounds.order 0 c.args.ops.now =
    c.in_default.ensures.next
    ∙ (λ i. first_ready (c.deref.ensures.value i) 0 (map (covers_all (c.deref.ensures.value i)) (c.as_slice-rows.ensures i)))
    ∙ next_by_rows c.args.streams.now c.args.ops.now c.in_ok-made.made c.rounds.order c.rounds.flags.items c.in_ok-made.ensures c.rounds.invariant.same_length c.rounds.invariant.are_flags in
    sym (c.rounds.invariant.rest ∙ taken_done c.args.streams.now c.args.ops.now c.rounds.order _ (sym next))

pub rounds-preserved : goal.rounds-preserved
rounds-preserved c =
    let n = c.in-Some.next in
    let number : c.in-Ok.number ≡ n = c.in-Ok.ensures.1 in
    let more : c.push.new.self ≡ c.rounds.order ++ n ∷ [] = c.in_ok-push.ensures.ok ∙ ap (λ k. c.rounds.order ++ k ∷ []) number in
    let next : Some n ≡ next_from c.args.streams.now c.rounds.order 0 c.args.ops.now =
    c.in-Some.ensures.next
    ∙ (λ i. first_ready (c.deref.ensures.value i) 0 (map (covers_all (c.deref.ensures.value i)) (c.as_slice-rows.ensures i)))
    ∙ next_by_rows c.args.streams.now c.args.ops.now c.in_ok-made.made c.rounds.order c.rounds.flags.items c.in_ok-made.ensures c.rounds.invariant.same_length c.rounds.invariant.are_flags in
    let before : length c.rounds.order < length c.args.ops.now = omega (arith, c.len.ensures) in
    let longer : length c.push.new.self ≡ length c.rounds.order + 1 = ap length more ∙ length-append c.rounds.order (n ∷ []) in
    let within : n < length c.rounds.flags.items = omega (arith, c.in-Some.ensures.within, ap length c.deref.ensures.value) in
    record {
      within = omega arith;
      same_length = length-set c.rounds.flags.items n _ ∙ c.rounds.invariant.same_length;
      are_flags = λ m. flags_more c.rounds.order c.rounds.flags.items n within c.rounds.invariant.are_flags m ∙ ap (λ o. is_taken o m) (sym more);
      rest = c.rounds.invariant.rest ∙ round_more c.args.streams.now c.args.ops.now c.rounds.order c.push.new.self n before more next;
    }
