use Rattle.std.proofs.Common.{subst}
use Rattle.element_outboxes.proofs.Fans.{ok_then}
use Rattle.elements.specs.Works.{WorkAt}
use Rattle.network_model.specs.Receipts.{Popped}
use Rattle.elements.proofs.Noting.{chain_how, numbers_how, pulses_how, turns_how}
use Rattle.elements.proofs.Working.{chain_works, replica_takes, splitter_works, turns_ready, turns_take, numbers_ready, numbers_take, pulses_ready, pulses_take}
use Rattle.elements.proofs.work.work_takes.Goals as goal

pub returns-in-Chain-clause-takes : goal.returns-in-Chain-clause-takes
returns-in-Chain-clause-takes g c =
    ok_then _ _ c.chain_takes.result
    (λ now run part T at may. chain_works g.R.React.spec g.R.React.stands c.in-Chain.chain c.chain_takes.new.chain c.args.fans.now c.args.outbox.now c.chain_takes.new.outbox c.args.tuples.now c.chain_takes.new.tuples
    (Popped c.args.input c.args.packet) run part T (subst (λ w. WorkAt g.R.React.spec g.R.React.stands part T w c.args.fans.now c.args.tuples.now) c.in-Chain.is at) may)
    c.chain_takes.ensures.takes

pub returns-in-Chain-clause-how : goal.returns-in-Chain-clause-how
returns-in-Chain-clause-how g c =
    ok_then _ _ c.chain_takes.result
    (λ now run part T at may stood. chain_how g.R.React.spec g.R.React.stands c.in-Chain.chain c.args.fans.now c.args.tuples.now (Popped c.args.input c.args.packet) c.args.how now run part T
    (subst (λ w. WorkAt g.R.React.spec g.R.React.stands part T w c.args.fans.now c.args.tuples.now) c.in-Chain.is at) may stood)
    c.chain_takes.ensures.how

pub returns-in_ok-run_replica-in-Replica-clause-takes : goal.returns-in_ok-run_replica-in-Replica-clause-takes
returns-in_ok-run_replica-in-Replica-clause-takes g c part T at may =
    replica_takes g.R.React.spec g.R.React.stands c.in-Replica.chain c.run_replica.new.chain c.args.fans.now c.args.outbox.now c.run_replica.new.outbox c.args.tuples.now c.run_replica.new.tuples c.args.input c.args.packet
    c.in_ok-run_replica-in-Replica.ensures.replies c.run_replica.ensures.idle part T (subst (λ w. WorkAt g.R.React.spec g.R.React.stands part T w c.args.fans.now c.args.tuples.now) c.in-Replica.is at) may

pub returns-in_ok-splitter_takes-in-Splitter-clause-takes : goal.returns-in_ok-splitter_takes-in-Splitter-clause-takes
returns-in_ok-splitter_takes-in-Splitter-clause-takes g c part T at may =
    splitter_works g.R.React.spec g.R.React.stands c.in-Splitter.splitter c.splitter_takes.new.splitter c.args.fans.now c.args.outbox.now c.splitter_takes.new.outbox c.args.tuples.now c.args.input c.args.packet
    c.in_ok-splitter_takes-in-Splitter.ensures.takes part T (subst (λ w. WorkAt g.R.React.spec g.R.React.stands part T w c.args.fans.now c.args.tuples.now) c.in-Splitter.is at) may

pub run_merger-requires-clause-within : goal.run_merger-requires-clause-within
run_merger-requires-clause-within g c =
    let may = c.requires.may in
    (turns_ready g.R.React.spec g.R.React.stands c.in-Turns.merger c.args.fans.now c.args.tuples.now c.args.input c.args.packet may.0 may.1 (subst (λ w. WorkAt g.R.React.spec g.R.React.stands may.0 may.1 w c.args.fans.now c.args.tuples.now) c.in-Turns.is may.2) may.3).0

pub run_merger-requires-clause-wants : goal.run_merger-requires-clause-wants
run_merger-requires-clause-wants g c =
    let may = c.requires.may in
    (turns_ready g.R.React.spec g.R.React.stands c.in-Turns.merger c.args.fans.now c.args.tuples.now c.args.input c.args.packet may.0 may.1 (subst (λ w. WorkAt g.R.React.spec g.R.React.stands may.0 may.1 w c.args.fans.now c.args.tuples.now) c.in-Turns.is may.2) may.3).1

pub returns-in-Turns-clause-takes : goal.returns-in-Turns-clause-takes
returns-in-Turns-clause-takes g c =
    ok_then _ _ c.run_merger.result
    (λ u run part T at may. turns_take g.R.React.spec g.R.React.stands c.in-Turns.merger c.run_merger.new.merger c.args.fans.now c.args.outbox.now c.run_merger.new.outbox c.args.tuples.now c.args.input c.args.packet
    run part T (subst (λ w. WorkAt g.R.React.spec g.R.React.stands part T w c.args.fans.now c.args.tuples.now) c.in-Turns.is at) may)
    c.run_merger.ensures.takes

pub run_merger-requires-in-Numbers-clause-within : goal.run_merger-requires-in-Numbers-clause-within
run_merger-requires-in-Numbers-clause-within g c =
    let may = c.requires.may in
    (numbers_ready g.R.React.spec g.R.React.stands c.in-Numbers.merger c.args.fans.now c.args.tuples.now c.args.input c.args.packet may.0 may.1 (subst (λ w. WorkAt g.R.React.spec g.R.React.stands may.0 may.1 w c.args.fans.now c.args.tuples.now) c.in-Numbers.is may.2) may.3).0

pub run_merger-requires-in-Numbers-clause-wants : goal.run_merger-requires-in-Numbers-clause-wants
run_merger-requires-in-Numbers-clause-wants g c =
    let may = c.requires.may in
    (numbers_ready g.R.React.spec g.R.React.stands c.in-Numbers.merger c.args.fans.now c.args.tuples.now c.args.input c.args.packet may.0 may.1 (subst (λ w. WorkAt g.R.React.spec g.R.React.stands may.0 may.1 w c.args.fans.now c.args.tuples.now) c.in-Numbers.is may.2) may.3).1

pub returns-in-Numbers-clause-takes : goal.returns-in-Numbers-clause-takes
returns-in-Numbers-clause-takes g c =
    ok_then _ _ c.run_merger-in-Numbers.result
    (λ u run part T at may. numbers_take g.R.React.spec g.R.React.stands c.in-Numbers.merger c.run_merger-in-Numbers.new.merger c.args.fans.now c.args.outbox.now c.run_merger-in-Numbers.new.outbox c.args.tuples.now c.args.input c.args.packet
    run part T (subst (λ w. WorkAt g.R.React.spec g.R.React.stands part T w c.args.fans.now c.args.tuples.now) c.in-Numbers.is at) may)
    c.run_merger-in-Numbers.ensures.takes

pub run_merger-requires-in-Pulses-clause-within : goal.run_merger-requires-in-Pulses-clause-within
run_merger-requires-in-Pulses-clause-within g c =
    let may = c.requires.may in
    (pulses_ready g.R.React.spec g.R.React.stands c.in-Pulses.merger c.args.fans.now c.args.tuples.now c.args.input c.args.packet may.0 may.1 (subst (λ w. WorkAt g.R.React.spec g.R.React.stands may.0 may.1 w c.args.fans.now c.args.tuples.now) c.in-Pulses.is may.2) may.3).0

pub run_merger-requires-in-Pulses-clause-wants : goal.run_merger-requires-in-Pulses-clause-wants
run_merger-requires-in-Pulses-clause-wants g c =
    let may = c.requires.may in
    (pulses_ready g.R.React.spec g.R.React.stands c.in-Pulses.merger c.args.fans.now c.args.tuples.now c.args.input c.args.packet may.0 may.1 (subst (λ w. WorkAt g.R.React.spec g.R.React.stands may.0 may.1 w c.args.fans.now c.args.tuples.now) c.in-Pulses.is may.2) may.3).1

pub returns-in-Pulses-clause-takes : goal.returns-in-Pulses-clause-takes
returns-in-Pulses-clause-takes g c =
    ok_then _ _ c.run_merger-in-Pulses.result
    (λ u run part T at may. pulses_take g.R.React.spec g.R.React.stands c.in-Pulses.merger c.run_merger-in-Pulses.new.merger c.args.fans.now c.args.outbox.now c.run_merger-in-Pulses.new.outbox c.args.tuples.now c.args.input c.args.packet
    run part T (subst (λ w. WorkAt g.R.React.spec g.R.React.stands part T w c.args.fans.now c.args.tuples.now) c.in-Pulses.is at) may)
    c.run_merger-in-Pulses.ensures.takes

pub returns-in-Turns-clause-how : goal.returns-in-Turns-clause-how
returns-in-Turns-clause-how g c =
    ok_then _ _ c.run_merger.result
    (λ now run part T at may stood. turns_how g.R.React.spec g.R.React.stands c.in-Turns.merger c.args.fans.now c.args.tuples.now c.args.input c.args.packet c.args.how now run part T
    (subst (λ w. WorkAt g.R.React.spec g.R.React.stands part T w c.args.fans.now c.args.tuples.now) c.in-Turns.is at) may stood)
    c.run_merger.ensures.how

pub returns-in-Numbers-clause-how : goal.returns-in-Numbers-clause-how
returns-in-Numbers-clause-how g c =
    ok_then _ _ c.run_merger-in-Numbers.result
    (λ now run part T at may stood. numbers_how g.R.React.spec g.R.React.stands c.in-Numbers.merger c.args.fans.now c.args.tuples.now c.args.input c.args.packet c.args.how now run part T
    (subst (λ w. WorkAt g.R.React.spec g.R.React.stands part T w c.args.fans.now c.args.tuples.now) c.in-Numbers.is at) may stood)
    c.run_merger-in-Numbers.ensures.how

pub returns-in-Pulses-clause-how : goal.returns-in-Pulses-clause-how
returns-in-Pulses-clause-how g c =
    ok_then _ _ c.run_merger-in-Pulses.result
    (λ now run part T at may stood. pulses_how g.R.React.spec g.R.React.stands c.in-Pulses.merger c.args.fans.now c.args.tuples.now c.args.input c.args.packet c.args.how now run part T
    (subst (λ w. WorkAt g.R.React.spec g.R.React.stands part T w c.args.fans.now c.args.tuples.now) c.in-Pulses.is at) may stood)
    c.run_merger-in-Pulses.ensures.how
