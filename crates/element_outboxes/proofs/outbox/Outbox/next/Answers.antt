use Rattle.std.proofs.Common.{◌<◌, ◌++◌, ap, drop, length, refl, sym, ◌∙◌, arith}
use Rattle.std.specs.Option.{option_to_list}
use Rattle.element_outboxes.proofs.Fans.{front_is}
use Rattle.element_outboxes.proofs.outbox.Outbox.next.Goals as goal

pub returns-in-Some-front : goal.returns-in-Some-front
returns-in-Some-front c =
    let items = c.args.self.now.queue.items in
    let some = c.in-Some-front.ensures.variant.0 refl in
    let ok = c.args.self.now.queue.ok in
    let here : 0 < length items = omega (arith, some, ok.0) in
    (c.in-Some-front.waiting.now, drop 1 items, ap (λ f. option_to_list f ++ items) c.in-None.is ∙ front_is items c.in-Some-front.waiting.now here c.in-Some-front.ensures.lookup, sym c.output_of-in-Some-front.ensures)
