use Rattle.std.proofs.Common.{refl}
use Rattle.spl_value.specs.declared.packet.Packet.TheVariants as P
use Rattle.element_outboxes.specs.Waiting.{waits}
use Rattle.element_works.specs.Tuples.{sink_waits}
use Rattle.elements.proofs.Noting.{item_how, quiet_how}
use Rattle.elements.proofs.Working.{quiet}
use Rattle.elements.proofs.work.chain_takes.Goals as goal

pub returns-in_ok-run_chain-in-Item-clause-how : goal.returns-in_ok-run_chain-in-Item-clause-how
returns-in_ok-run_chain-in-Item-clause-how g c part T at may stood =
    item_how g.R.React.spec g.R.React.stands c.args.chain.now c.run_chain.new.chain c.args.fans.now c.args.tuples.now c.run_chain.new.tuples c.args.outbox.now c.run_chain.new.outbox
    c.args.input c.args.packet _ c.in-Item.item c.args.how c.how.result c.in-Item.is c.in_ok-run_chain-in-Item.ensures.takes c.how.ensures part T at may

pub returns-in-Pulse-clause-takes : goal.returns-in-Pulse-clause-takes
returns-in-Pulse-clause-takes g c part T at may =
    quiet g.R.React.spec g.R.React.stands part T c.args.input c.args.packet (P.Pulse _) c.args.chain.now c.args.fans.now c.args.tuples.now (waits c.args.outbox.now) (sink_waits c.args.tuples.now) c.in-Pulse.is refl at may

pub returns-in-Pulse-clause-how : goal.returns-in-Pulse-clause-how
returns-in-Pulse-clause-how g c =
    quiet_how g.R.React.spec g.R.React.stands c.args.chain.now c.args.fans.now c.args.tuples.now c.args.input c.args.packet (P.Pulse _) c.args.how c.in-Pulse.is refl

pub returns-in-Close-clause-takes : goal.returns-in-Close-clause-takes
returns-in-Close-clause-takes g c part T at may =
    quiet g.R.React.spec g.R.React.stands part T c.args.input c.args.packet P.Close c.args.chain.now c.args.fans.now c.args.tuples.now (waits c.args.outbox.now) (sink_waits c.args.tuples.now) c.in-Close.is refl at may

pub returns-in-Close-clause-how : goal.returns-in-Close-clause-how
returns-in-Close-clause-how g c =
    quiet_how g.R.React.spec g.R.React.stands c.args.chain.now c.args.fans.now c.args.tuples.now c.args.input c.args.packet P.Close c.args.how c.in-Close.is refl

pub returns-in-Cut-clause-takes : goal.returns-in-Cut-clause-takes
returns-in-Cut-clause-takes g c part T at may =
    quiet g.R.React.spec g.R.React.stands part T c.args.input c.args.packet P.Cut c.args.chain.now c.args.fans.now c.args.tuples.now (waits c.args.outbox.now) (sink_waits c.args.tuples.now) c.in-Cut.is refl at may

pub returns-in-Cut-clause-how : goal.returns-in-Cut-clause-how
returns-in-Cut-clause-how g c =
    quiet_how g.R.React.spec g.R.React.stands c.args.chain.now c.args.fans.now c.args.tuples.now c.args.input c.args.packet P.Cut c.args.how c.in-Cut.is refl
