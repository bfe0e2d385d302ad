use Rattle.std.proofs.Common.{◌++◌, ◌∷◌, [], ⊎_elim, refl, subst, sym, ◌∙◌}
use Rattle.spl_value.specs.declared.item.Item.{Item}
use Rattle.network_model.specs.Receipts.{WasRead}
use Rattle.node_turns.specs.Taking.{HasTaken}
use Rattle.node_turns.proofs.Keeps.{read_from, read_lacked, read_one, spent_one}
use Rattle.node_turns.proofs.node.Node.read.Goals as goal

pub returns-in-Ok-Tuple-clause-meets : goal.returns-in-Ok-Tuple-clause-meets
returns-in-Ok-Tuple-clause-meets g c part reading =
    let n = c.args.self.now in
    let s = c.in-Some.source in
    let s2 = c.give_back.new.self in
    let x : Item = c.in-Ok-Tuple.field-0 in
    let e2 = c.read_tuple.new.element in
    let note = c.read_tuple.new.note in
    let taken : HasTaken g.E.Machine.stands n.element e2 n.note note (WasRead x) =
    subst (λ (y : Item). HasTaken g.E.Machine.stands n.element e2 n.note note (WasRead y)) (sym
    c.in-Ok-Tuple.field-0-is)
    c.read_tuple.ensures in
    read_from g.E.Machine.stands g.S.Source.gave g.S.Source.front g.S.Source.over g.K.Sink.took g.K.Sink.began
    g.K.Sink.faults
    part n.element n.ins.items n.outs.items n.first.value n.source s n.clean.value n.sink n.note _ c.in-Some.is
    (λ m still. ⊎_elim
    (λ t. read_one g.E.Machine.stands g.S.Source.gave g.S.Source.front g.S.Source.over g.K.Sink.took g.K.Sink.began
    g.K.Sink.faults
    part n.element e2 n.ins.items n.outs.items n.first.value s s2 n.clean.value n.sink n.note note x
    (c.give_back.ensures.over ∙ c.in-Ok-Tuple.ensures.over)
    (λ f items was. c.give_back.ensures.gave f part (items ++ x ∷ []) (c.in-Ok-Tuple.ensures.gives f part items was).1)
    t.0 (λ a poured at. t.1 part a poured at) m still)
    (λ t. read_lacked g.E.Machine.stands g.S.Source.gave g.S.Source.front g.S.Source.over g.K.Sink.took
    g.K.Sink.began g.K.Sink.faults
    part n.element e2 n.ins.items n.outs.items n.first.value s s2 n.clean.value n.sink n.note note x
    (c.give_back.ensures.over ∙ c.in-Ok-Tuple.ensures.over)
    (λ f items was. c.give_back.ensures.gave f part (items ++ x ∷ []) (c.in-Ok-Tuple.ensures.gives f part items was).1)
    t.0 (λ a poured at. t.1 part a poured at) m still)
    taken)
    reading.meets reading.still

pub returns-in-Ok : goal.returns-in-Ok
returns-in-Ok g c = record {
  number = refl;
  ends = (refl, refl);
  meets = λ part reading.
      let n = c.args.self.now in
      let s = c.in-Some.source in
      let s2 = c.next.new.self in
      let x : Item = c.in-Ok.item in
      let e2 = c.read_item.new.element in
      let note = c.read_item.new.note in
      read_from g.E.Machine.stands g.S.Source.gave g.S.Source.front g.S.Source.over g.K.Sink.took g.K.Sink.began
      g.K.Sink.faults
      part n.element n.ins.items n.outs.items n.first.value n.source s n.clean.value n.sink n.note _ c.in-Some.is
      (λ m still. ⊎_elim
      (λ t. read_one g.E.Machine.stands g.S.Source.gave g.S.Source.front g.S.Source.over g.K.Sink.took g.K.Sink.began
      g.K.Sink.faults
      part n.element e2 n.ins.items n.outs.items n.first.value s s2 n.clean.value n.sink n.note note x
      c.in-Ok.ensures.over
      (λ f items was. (c.in-Ok.ensures.gives f part items was).1) t.0 (λ a poured at. t.1 part a poured at) m still)
      (λ t. read_lacked g.E.Machine.stands g.S.Source.gave g.S.Source.front g.S.Source.over g.K.Sink.took
      g.K.Sink.began g.K.Sink.faults
      part n.element e2 n.ins.items n.outs.items n.first.value s s2 n.clean.value n.sink n.note note x
      c.in-Ok.ensures.over
      (λ f items was. (c.in-Ok.ensures.gives f part items was).1) t.0 (λ a poured at. t.1 part a poured at) m still)
      c.read_item.ensures)
      reading.meets reading.still;
}

pub returns-in-Err-clause-meets : goal.returns-in-Err-clause-meets
returns-in-Err-clause-meets g c part reading =
    let n = c.args.self.now in
    let s = c.in-Some.source in
    read_from g.E.Machine.stands g.S.Source.gave g.S.Source.front g.S.Source.over g.K.Sink.took g.K.Sink.began
    g.K.Sink.faults
    part n.element n.ins.items n.outs.items n.first.value n.source s n.clean.value n.sink n.note _ c.in-Some.is
    (λ m still. spent_one g.E.Machine.stands g.S.Source.gave g.S.Source.front g.S.Source.over g.K.Sink.took
    g.K.Sink.began g.K.Sink.faults
    part n.element c.stop.new.element n.ins.items n.outs.items n.first.value s c.next.new.self n.clean.value n.sink
    n.note c.stop.new.note
    (λ f items was. c.in-Err.ensures.lacks f part items was) c.stop.ensures.note
    (λ a poured at. c.stop.ensures.stood part a poured at) m still)
    reading.meets reading.still
