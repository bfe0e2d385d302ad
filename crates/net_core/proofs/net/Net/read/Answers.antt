use Rattle.std.proofs.Common.{◌∙◌, true, false, refl, sym}
use Rattle.network_model.specs.Events.{Read}
use Rattle.network_model.specs.Receipts.{WasRead}
use Rattle.network_model.specs.States.{put}
use Rattle.enabled_events.specs.Moments.{moved}
use Rattle.net_core.specs.Stepping.{taking}
use Rattle.net_core.proofs.Enabling.{reading}
use Rattle.net_core.proofs.Stands.{read_done}
use Rattle.net_core.proofs.Steps.{read_parts}
use Rattle.net_core.proofs.net.Net.read.Goals as goal

pub returns-then-not-reads : goal.returns-then-not-reads
returns-then-not-reads g c m k fit = (sym (c.reads.ensures m k) ∙ c.if-not-reads.true, refl)

pub read_at-taken-requires : goal.read_at-taken-requires
read_at-taken-requires g c =
    let m = c.requires.may.0 in
    let k = c.requires.may.1 in
    let may = sym (c.reads.ensures m k) ∙ c.if-not-reads.false in
    record { at = (m, k.parts.elements_at, (reading m.net m.state c.args.element may).element, c.requires.may.2 may) }

pub refresh-requires : goal.refresh-requires
refresh-requires g c =
    let m = c.requires.may.0 in
    let k = c.requires.may.1 in
    let may = sym (c.reads.ensures m k) ∙ c.if-not-reads.false in
    let lt = (reading m.net m.state c.args.element may).element in
    let es = c.read_at-taken.ensures m k.parts.elements_at lt (c.requires.may.2 may) in
    record {
      at = (
        moved m (put m.state c.args.element (taking c.read_at-taken.result (m.net.part c.args.element) (m.state c.args.element) (WasRead c.args.item))),
        read_parts g.R.React.spec g.R.React.stands m c.args.self.now.elements c.args.self.now.links k.parts c.read_at-taken.result c.args.element c.args.item c.read_at-taken.new.elements lt es,
        k.marked.count,
        lt,
      );
    }

pub returns-then-taken : goal.returns-then-taken
returns-then-taken g c m k fit =
    let may = sym (c.reads.ensures m k) ∙ c.if-not-reads.false in
    let says = reading m.net m.state c.args.element may in
    let es = c.read_at-taken.ensures m k.parts.elements_at says.element (fit may) in
    let parts = read_parts g.R.React.spec g.R.React.stands m c.args.self.now.elements c.args.self.now.links k.parts c.read_at-taken.result c.args.element c.args.item c.read_at-taken.new.elements says.element es in
    let r = c.refresh.ensures (moved m (put m.state c.args.element (taking c.read_at-taken.result (m.net.part c.args.element) (m.state c.args.element) (WasRead c.args.item))))
    parts k.marked.count says.element in (
      Read c.args.element c.args.item,
      refl,
      says,
      read_done g.R.React.spec g.R.React.stands c.args.self.now m k c.read_at-taken.result true c.args.element c.args.item c.read_at-taken.new.elements c.refresh.new.marks c.if-taken.true may es r,
    )

pub returns-else-taken : goal.returns-else-taken
returns-else-taken g c m k fit =
    let may = sym (c.reads.ensures m k) ∙ c.if-not-reads.false in
    let says = reading m.net m.state c.args.element may in
    let es = c.read_at-taken.ensures m k.parts.elements_at says.element (fit may) in
    let parts = read_parts g.R.React.spec g.R.React.stands m c.args.self.now.elements c.args.self.now.links k.parts c.read_at-taken.result c.args.element c.args.item c.read_at-taken.new.elements says.element es in
    let r = c.refresh.ensures (moved m (put m.state c.args.element (taking c.read_at-taken.result (m.net.part c.args.element) (m.state c.args.element) (WasRead c.args.item))))
    parts k.marked.count says.element in (
      Read c.args.element c.args.item,
      refl,
      says,
      tt,
      read_done g.R.React.spec g.R.React.stands c.args.self.now m k c.read_at-taken.result false c.args.element c.args.item c.read_at-taken.new.elements c.refresh.new.marks c.if-taken.false may es r,
    )
