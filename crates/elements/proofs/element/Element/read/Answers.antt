use Rattle.std.proofs.Common.{ap, not, subst, ◌∙◌, ◌++◌, ◌∷◌, []}
use Rattle.network_model.specs.Receipts.{WasRead}
use Rattle.elements.specs.Works.{WorkAt}
use Rattle.elements.proofs.Noting.{read_how, read_record}
use Rattle.elements.proofs.Taking.{read_one}
use Rattle.elements.proofs.Working.{chain_reads}
use Rattle.elements.proofs.element.Element.read.Goals as goal

pub returns-clause-reads : goal.returns-clause-reads
returns-clause-reads g c part a poured at may =
    let works = subst (λ w. WorkAt g.R.React.spec g.R.React.stands part a.kept w c.args.self.now.fans c.args.self.now.tuples) c.in-Chain.is (at.work may.still.whole) in
    read_one g.R.React.spec g.R.React.stands c.args.self.now _ _ c.run_chain.new.outbox c.run_chain.new.tuples c.take.new.self c.args.item c.in_ok-run_chain.ensures.kept
    (λ part2 T works2 may2. chain_reads g.R.React.spec g.R.React.stands c.in-Chain.chain c.run_chain.new.chain c.args.self.now.fans c.args.self.now.outbox c.run_chain.new.outbox c.args.self.now.tuples c.run_chain.new.tuples c.args.item c.in_ok-run_chain.ensures.takes part2 T
    (subst (λ w. WorkAt g.R.React.spec g.R.React.stands part2 T w c.args.self.now.fans c.args.self.now.tuples) c.in-Chain.is works2) may2)
    part a poured at may (ap not c.closes.ensures)
    (c.take.ensures.takes part a.kept (a.kept ++ WasRead c.args.item ∷ []) a.pushed poured at.spent.notes (read_record g.R.React.spec g.R.React.stands part a.kept c.args.item may.works)
    (read_how g.R.React.spec g.R.React.stands c.in-Chain.chain c.run_chain.new.chain c.args.self.now.fans c.args.self.now.tuples c.run_chain.new.tuples c.args.self.now.outbox c.run_chain.new.outbox c.args.item
    c.how.result c.behind-how.result c.how-2.result c.in_ok-run_chain.ensures.takes c.how-2.ensures c.behind-how.ensures part a.kept works may.works (c.how.ensures ∙ at.spent.notes.how)))
