use Rattle.std.proofs.Common.{subst, ◌∙◌, ap, set, sym, ◌++◌, ◌∷◌, []}
use Rattle.stream_model.specs.Sending.{outgoing}
use Rattle.element_notes.specs.Noting.{HasNoted}
use Rattle.element_notes.proofs.Noted.{none_sent, put_item, put_other, put_past, was_sent, with_sent}
use Rattle.element_notes.proofs.Counting.{no_item, one_item}
use Rattle.element_notes.proofs.notes.Notes.put.Goals as goal

pub returns-in_default : goal.returns-in_default
returns-in_default c = record {
  puts = put_past c.args.self.now c.args.output c.args.packet.now c.in_default.ensures.value;
  before = none_sent c.args.self.now c.args.output 0 c.in_default.ensures.value;
}

pub returns-in-Item : goal.returns-in-Item
returns-in-Item c = record {
  puts = λ part kept pushed poured has. subst (λ ns. HasNoted part (with_sent c.args.self.now ns) kept (pushed ++ outgoing c.args.output c.args.packet.now ∷ []) poured) (sym (c.set.ensures ∙ ap (set c.args.self.now.sent c.args.output) c.saturating_add.ensures))
      (put_item c.args.self.now c.args.output c.in-Some.before.now c.args.packet.now (one_item c.args.packet.now _ _ c.in-Item.is) (sym c.in-Some.ensures.value) part kept pushed poured has);
  before = λ part kept pushed poured has within. was_sent c.args.self.now c.args.output c.in-Some.before.now (sym c.in-Some.ensures.value) part kept pushed poured has;
}

pub returns-in_default-packet : goal.returns-in_default-packet
returns-in_default-packet c = record {
  puts = put_other c.args.self.now c.args.output c.args.packet.now (no_item c.args.packet.now c.in_default-packet.not-Item);
  before = λ part kept pushed poured has within. was_sent c.args.self.now c.args.output c.in-Some.before.now (sym c.in-Some.ensures.value) part kept pushed poured has;
}
