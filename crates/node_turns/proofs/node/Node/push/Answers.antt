use Rattle.std.specs.Prelude.{Err}
use Rattle.ordered_link.specs.declared.ends.Put.{Put}
use Rattle.std.proofs.Common.{rules, arith, ◌≡◌, ◌<◌, length, set, vec_len, refl, sym, ap, ◌∙◌, subst}
use Rattle.spl_value.specs.declared.packet.Packet.{Packet}
use Rattle.stream_model.specs.Sending.{outgoing}
use Rattle.network_model.specs.Networks.{outputs}
use Rattle.network_model.specs.States.{At, puts}
use Rattle.ordered_link.specs.declared.ends.Link.{Link}
use Rattle.ordered_link.specs.Ends.{IsSenderOf, handed_back, is_full, sent}
use Rattle.node_turns.specs.declared.ends.Outlet.{Outlet}
use Rattle.node_turns.specs.declared.note.Note.TheVariants as N
use Rattle.node_turns.specs.Calls.{Tuples}
use Rattle.node_turns.specs.Placed.{IsSender}
use Rattle.std.proofs.Math.Seq.{map-set_same}
use Rattle.node_turns.proofs.Keeps.{cut_one, sent_one, unsent_one}
use Rattle.node_turns.proofs.LinkEnds.{full_at, outs_placed, sender_after}
use Rattle.node_turns.proofs.node.Node.push.Goals as goal

pub index_mut-outlet-requires : goal.index_mut-outlet-requires
index_mut-outlet-requires g c =
    let m = c.requires.runs.1.meets in
    let put = c.in-Some.ensures.puts c.requires.runs.0 m.a m.poured m.at in
    omega (arith, put.0, m.output_count)

pub index-requires : goal.index-requires
index-requires g c =
    let r = c.requires.runs.1 in
    let put = c.in-Some.ensures.puts c.requires.runs.0 r.meets.a r.meets.poured r.meets.at in
    let o : Outlet = c.index_mut-outlet.result.now in
    let low : c.in-Some.output < length c.args.self.now.outs.items = omega (arith, put.0, r.meets.output_count) in
    let placed : IsSender c.args.links.now.items o =
    subst (λ (x : Outlet). IsSender c.args.links.now.items x) (sym c.index_mut-outlet.ensures.value) (r.outs
    c.in-Some.output o low) in
    let l : vec_len c.args.links.now ≡ length c.args.links.now.items = search rules in
    omega (arith, placed.within)

pub try_put-requires : goal.try_put-requires
try_put-requires g c =
    let r = c.requires.runs.1 in
    let put = c.in-Some.ensures.puts c.requires.runs.0 r.meets.a r.meets.poured r.meets.at in
    let o : Outlet = c.index_mut-outlet.result.now in
    let low : c.in-Some.output < length c.args.self.now.outs.items = omega (arith, put.0, r.meets.output_count) in
    let placed : IsSender c.args.links.now.items o =
    subst (λ (x : Outlet). IsSender c.args.links.now.items x) (sym c.index_mut-outlet.ensures.value) (r.outs
    c.in-Some.output o low) in
    subst (λ (l : Link). IsSenderOf l o.pass) (sym c.index.ensures) (placed.sender c.index.result.now)

pub returns-in-Ok-clause-runs : goal.returns-in-Ok-clause-runs
returns-in-Ok-clause-runs g c part r =
    let n = c.args.self.now in
    let k = c.in-Some.output in
    let old : Outlet = c.index_mut-outlet.result.now in
    let new : Outlet = record { link = old.link; pass = c.try_put.new.pass } in
    let put = c.in-Some.ensures.puts part r.meets.a r.meets.poured r.meets.at in
    let low : k < length n.outs.items = omega (arith, put.0, r.meets.output_count) in
    let placed : IsSender c.args.links.now.items old =
    subst (λ (x : Outlet). IsSender c.args.links.now.items x) (sym c.index_mut-outlet.ensures.value) (r.outs k old
    low) in
    record {
      ins = r.ins;
      outs = outs_placed c.args.links.now.items n.outs.items k new low
          (sender_after c.args.links.now.items old new c.index.result.now refl c.index.ensures c.try_put.ensures.ends
          placed) r.outs;
      meets = sent_one g.E.Machine.stands g.S.Source.gave g.S.Source.front g.S.Source.over g.K.Sink.took
          g.K.Sink.began g.K.Sink.faults
          part n.element c.put.new.self n.ins.items n.outs.items n.first.value n.source n.clean.value n.sink n.note k
          old new c.in-Some.packet
          c.index_mut-outlet.ensures.value c.in-Ok.ensures.ok
          (λ a poured at. let q = c.in-Some.ensures.puts part a poured at in (q.0, q.2)) r.meets;
    }

pub returns-in-Err-Worn-clause-runs : goal.returns-in-Err-Worn-clause-runs
returns-in-Err-Worn-clause-runs g c part r =
    let n = c.args.self.now in
    let k = c.in-Some.output in
    let old : Outlet = c.index_mut-outlet.result.now in
    let new : Outlet = record { link = old.link; pass = c.try_put.new.pass } in
    let put = c.in-Some.ensures.puts part r.meets.a r.meets.poured r.meets.at in
    let low : k < length n.outs.items = omega (arith, put.0, r.meets.output_count) in
    let placed : IsSender c.args.links.now.items old =
    subst (λ (x : Outlet). IsSender c.args.links.now.items x) (sym c.index_mut-outlet.ensures.value) (r.outs k old
    low) in
    let back : c.in-Err-Worn.back ≡ c.in-Some.packet = ap handed_back (sym c.in-Err-Worn.field-0-is)
    ∙ c.in-Err-Worn.ensures.err.0 in
    let law : (a : At) (poured : Tuples) → g.E.Machine.stands n.element part a poured
    → (k < outputs part) × g.E.Machine.stands c.unput-in-Err-Worn.new.self part a poured = λ a poured at.
    let q = c.in-Some.ensures.puts part a poured at in (
      q.0,
      c.unput-in-Err-Worn.ensures part a poured
          (subst (λ (x : Packet). g.E.Machine.lent c.put.new.self part a (outgoing k x)) (sym back) q.1)
          (subst (λ (x : Packet). g.E.Machine.stands c.put.new.self part (puts a (outgoing k x)) poured) (sym back)
          q.2),
    ) in
    record {
      ins = r.ins;
      outs = outs_placed c.args.links.now.items n.outs.items k new low
          (sender_after c.args.links.now.items old new c.index.result.now refl c.index.ensures c.try_put.ensures.ends
          placed) r.outs;
      meets = cut_one g.E.Machine.stands g.S.Source.gave g.S.Source.front g.S.Source.over g.K.Sink.took
          g.K.Sink.began g.K.Sink.faults
          part c.unput-in-Err-Worn.new.self c.stop.new.element n.ins.items (set n.outs.items k new) n.first.value
          n.source n.clean.value n.sink
          n.note c.stop.new.note (N.Worn old.link) c.stop.ensures.note refl
          (λ a poured at. c.stop.ensures.stood part a poured at)
          (unsent_one g.E.Machine.stands g.S.Source.gave g.S.Source.front g.S.Source.over g.K.Sink.took
          g.K.Sink.began g.K.Sink.faults
          part n.element c.unput-in-Err-Worn.new.self n.ins.items n.outs.items n.first.value n.source n.clean.value
          n.sink n.note k old new
          c.index_mut-outlet.ensures.value c.in-Err-Worn.ensures.err.1 law r.meets);
    }

pub returns-in-Err-Full-clause-still : goal.returns-in-Err-Full-clause-still
returns-in-Err-Full-clause-still g c none =
    let n = c.args.self.now in
    let old : Outlet = c.index_mut-outlet.result.now in
    let new : Outlet = record { link = old.link; pass = c.try_put.new.pass } in
    record {
      taken_same = refl;
      sent_same = map-set_same (λ (o : Outlet). sent o.pass) n.outs.items c.in-Some.output new old
          (c.in-Err-Full.ensures.err.1 ∙ ap (λ (o : Outlet). sent o.pass) c.index_mut-outlet.ensures.value);
      source = refl;
      note = refl;
    }

pub returns-in-Err-Full-clause-full : goal.returns-in-Err-Full-clause-full
returns-in-Err-Full-clause-full g c none =
    let n = c.args.self.now in
    let k = c.in-Some.output in
    let r = c.requires.runs.1 in
    let old : Outlet = c.index_mut-outlet.result.now in
    let put = c.in-Some.ensures.puts c.requires.runs.0 r.meets.a r.meets.poured r.meets.at in
    let low : k < length n.outs.items = omega (arith, put.0, r.meets.output_count) in
    let placed : IsSender c.args.links.now.items old =
    subst (λ (x : Outlet). IsSender c.args.links.now.items x) (sym c.index_mut-outlet.ensures.value) (r.outs k old low) in (
      k,
      low,
      full_at c.args.links.now.items n.outs.items k old c.index.result.now low c.index_mut-outlet.ensures.value
          placed.within c.index.ensures
          (c.in-Err-Full.ensures.full (ap (λ (p : Put). is_full (Err p)) c.in-Err-Full.field-0-is)),
    )
