use Rattle.std.proofs.Common.{subst, ◌∙◌, ◌++◌, ◌∷◌, []}
use Rattle.spl_value.specs.declared.item.Item.TheVariants as I
use Rattle.network_model.specs.Receipts.{WasRead}
use Rattle.elements.specs.Works.{WorkAt}
use Rattle.elements.proofs.Noting.{read_how, read_record, tuple_ends_none}
use Rattle.elements.proofs.Taking.{read_one, still_on}
use Rattle.elements.proofs.Working.{chain_reads}
use Rattle.elements.proofs.element.Element.read_over.Goals as goal

pub returns-clause-reads : goal.returns-clause-reads
returns-clause-reads g c part a poured at may =
    let works = subst (λ w. WorkAt g.R.React.spec g.R.React.stands part a.kept w c.args.self.now.fans c.args.self.now.tuples) c.in-Chain.is (at.work may.still.whole) in
    read_one g.R.React.spec g.R.React.stands c.args.self.now _ _ c.run_tuple.new.outbox c.run_tuple.new.tuples c.take.new.self (I.Tuple c.args.tuple.now) c.in_ok-run_tuple.ensures.kept
    (λ part2 T works2 may2. chain_reads g.R.React.spec g.R.React.stands c.in-Chain.chain c.run_tuple.new.chain c.args.self.now.fans c.args.self.now.outbox c.run_tuple.new.outbox c.args.self.now.tuples c.run_tuple.new.tuples (I.Tuple c.args.tuple.now) c.in_ok-run_tuple.ensures.takes part2 T
    (subst (λ w. WorkAt g.R.React.spec g.R.React.stands part2 T w c.args.self.now.fans c.args.self.now.tuples) c.in-Chain.is works2) may2)
    part a poured at may (still_on g.R.React.spec g.R.React.stands c.args.self.now part a poured (I.Tuple c.args.tuple.now) at may)
    (c.take.ensures.takes part a.kept (a.kept ++ WasRead (I.Tuple c.args.tuple.now) ∷ []) a.pushed poured at.spent.notes (read_record g.R.React.spec g.R.React.stands part a.kept (I.Tuple c.args.tuple.now) may.works)
    (read_how g.R.React.spec g.R.React.stands c.in-Chain.chain c.run_tuple.new.chain c.args.self.now.fans c.args.self.now.tuples c.run_tuple.new.tuples c.args.self.now.outbox c.run_tuple.new.outbox (I.Tuple c.args.tuple.now)
    c.how.result c.how.result c.how-how.result c.in_ok-run_tuple.ensures.takes c.how-how.ensures (tuple_ends_none c.how.result c.args.tuple.now) part a.kept works may.works (c.how.ensures ∙ at.spent.notes.how)))
