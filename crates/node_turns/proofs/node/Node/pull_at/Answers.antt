use Rattle.std.proofs.Common.{arith, refl, sym, subst, ⊎_elim}
use Rattle.node_turns.specs.declared.ends.Inlet.{Inlet}
use Rattle.node_turns.specs.Placed.{IsTaker}
use Rattle.std.proofs.Common.{ap, ◌∙◌}
use Rattle.std.proofs.Math.Seq.{map-set_same}
use Rattle.ordered_link.specs.Ends.{taken}
use Rattle.node_turns.proofs.Keeps.{few_one, improper_one, lacked_one, took_one}
use Rattle.node_turns.proofs.LinkEnds.{ins_placed, taker_after, within_wear}
use Rattle.node_turns.proofs.node.Node.pull_at.Goals as goal

pub wants-requires : goal.wants-requires
wants-requires g c =
    let m = c.requires.runs.1.meets in
    (c.requires.runs.0, m.a, m.poured, m.at, omega (arith, c.requires.input, m.input_count))

pub returns-then-may_take-clause-runs : goal.returns-then-may_take-clause-runs
returns-then-may_take-clause-runs g c part r =
    let n = c.args.self.now in
    let k = c.args.at in
    let old : Inlet = c.index_mut-inlet.result.now in
    let new : Inlet = record { link = old.link; pass = c.try_take.new.pass } in
    let placed : IsTaker c.args.links.now.items old =
    subst (λ (x : Inlet). IsTaker c.args.links.now.items x) (sym c.index_mut-inlet.ensures.value) (r.ins k old
    c.requires.input) in
    let few = few_one g.E.Machine.stands g.S.Source.gave g.S.Source.front g.S.Source.over g.K.Sink.took
    g.K.Sink.began g.K.Sink.faults
    part n.element n.ins.items n.outs.items n.first.value n.source n.clean.value n.sink n.note k old new
    c.in-Some.packet
    c.requires.input c.index_mut-inlet.ensures.value c.in-Some.ensures.taken
    (within_wear c.args.links.now.items old new c.index.result.now c.index.ensures c.try_take.ensures.ends placed)
    r.meets in
    record {
      ins = ins_placed c.args.links.now.items n.ins.items k new c.requires.input
          (taker_after c.args.links.now.items old new c.index.result.now refl c.index.ensures c.try_take.ensures.ends
          placed) r.ins;
      outs = r.outs;
      meets = ⊎_elim
          (λ t. took_one g.E.Machine.stands g.S.Source.gave g.S.Source.front g.S.Source.over g.K.Sink.took
          g.K.Sink.began g.K.Sink.faults
          part n.element c.take_packet.new.element n.ins.items n.outs.items n.first.value n.source n.clean.value
          n.sink n.note
          c.take_packet.new.note k old new c.in-Some.packet c.requires.input c.index_mut-inlet.ensures.value
          c.in-Some.ensures.taken
          (λ a poured at few. t.1 part a poured at few) t.0 r.meets few)
          (λ t. lacked_one g.E.Machine.stands g.S.Source.gave g.S.Source.front g.S.Source.over g.K.Sink.took
          g.K.Sink.began g.K.Sink.faults
          part n.element c.take_packet.new.element n.ins.items n.outs.items n.first.value n.source n.clean.value
          n.sink n.note
          c.take_packet.new.note k old new c.in-Some.packet c.requires.input c.index_mut-inlet.ensures.value
          c.in-Some.ensures.taken
          t.0 (λ a poured at few. t.1 part a poured at few) r.meets few)
          c.take_packet.ensures;
    }

pub returns-clause-runs : goal.returns-clause-runs
returns-clause-runs g c part r =
    let n = c.args.self.now in
    let k = c.args.at in
    let old : Inlet = c.index_mut-inlet.result.now in
    let new : Inlet = record { link = old.link; pass = c.try_take.new.pass } in
    let placed : IsTaker c.args.links.now.items old =
    subst (λ (x : Inlet). IsTaker c.args.links.now.items x) (sym c.index_mut-inlet.ensures.value) (r.ins k old
    c.requires.input) in
    record {
      ins = ins_placed c.args.links.now.items n.ins.items k new c.requires.input
          (taker_after c.args.links.now.items old new c.index.result.now refl c.index.ensures c.try_take.ensures.ends
          placed) r.ins;
      outs = r.outs;
      meets = improper_one g.E.Machine.stands g.S.Source.gave g.S.Source.front g.S.Source.over g.K.Sink.took
          g.K.Sink.began g.K.Sink.faults
          part n.element c.stop.new.element n.ins.items n.outs.items n.first.value n.source n.clean.value n.sink
          n.note c.stop.new.note k new
          c.stop.ensures.note (λ a poured at. c.stop.ensures.stood part a poured at) r.meets;
    }

pub returns-then-not-wants-clause-still : goal.returns-then-not-wants-clause-still
returns-then-not-wants-clause-still g c none = record { taken_same = refl; sent_same = refl; source = refl; note = refl }

pub returns-in-None-clause-still : goal.returns-in-None-clause-still
returns-in-None-clause-still g c none =
    let n = c.args.self.now in
    let old : Inlet = c.index_mut-inlet.result.now in
    let new : Inlet = record { link = old.link; pass = c.try_take.new.pass } in
    record {
      taken_same = map-set_same (λ (i : Inlet). taken i.pass) n.ins.items c.args.at new old
          (c.in-None.ensures.taken ∙ ap (λ (i : Inlet). taken i.pass) c.index_mut-inlet.ensures.value);
      sent_same = refl;
      source = refl;
      note = refl;
    }
