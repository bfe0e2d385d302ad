use Rattle.std.proofs.Common.{rules, true, ◌≡◌, ◌++◌, ◌∷◌, [], List, ⊎_elim, subst, sym}
use Rattle.spl_value.specs.declared.value.Value.{Value}
use Rattle.network_model.specs.States.{At}
use Rattle.node_turns.specs.Calls.{Tuples}
use Rattle.node_turns.proofs.Keeps.{poured_last, poured_one}
use Rattle.node_turns.proofs.node.Node.pour_one.Goals as goal

pub returns-clause-meets : goal.returns-clause-meets
returns-clause-meets g c part m =
    let E = g.row.E.Denot in
    let n = c.args.self.now in
    let e2 : E = c.poured_over.new.self in
    let e3 : E = c.write.new.element in
    let t : List Value = c.poured_over.new.tuple in
    let yes : c.poured_over.result ≡ true = search rules in
    let pours : (a : At) (poured : Tuples) → g.E.Machine.stands n.element part a poured
    → g.E.Machine.stands e2 part a (poured ++ t ∷ []) = λ a poured at. c.poured_over.ensures.pours yes part a poured
    at in
    ⊎_elim
    (λ k. poured_one g.E.Machine.stands g.S.Source.gave g.S.Source.front g.S.Source.over g.K.Sink.took g.K.Sink.began
    g.K.Sink.faults
    part n.element e3 n.ins.items n.outs.items n.first.value n.source n.clean.value n.sink c.write.new.sink n.note
    c.write.new.note
    t k.1 k.2 (λ a poured at. subst (λ (x : E). g.E.Machine.stands x part a (poured ++ t ∷ [])) (sym k.0) (pours a
    poured at))
    (λ poured w. c.write.ensures.writes n.clean.value poured w) m)
    (λ k. poured_last g.E.Machine.stands g.S.Source.gave g.S.Source.front g.S.Source.over g.K.Sink.took
    g.K.Sink.began g.K.Sink.faults
    part n.element e2 e3 n.ins.items n.outs.items n.first.value n.source n.clean.value n.sink c.write.new.sink n.note
    c.write.new.note
    t k.0 pours (λ a poured at. k.1 part a poured at) (λ poured w. c.write.ensures.writes n.clean.value poured w) m)
    c.write.ensures.kept
