use Rattle.std.proofs.Common.{◌≡◌, ◌+◌, ◌∙◌, sym, length, take, arith, Err}
use Rattle.std.proofs.lemmas.List.{length_push}
use Rattle.std.proofs.lemmas.List.Elements.{All-more, All-weaker}
use Rattle.feed_pour.specs.declared.outside.PourAnswer.TheVariants as P
use Rattle.file_adapters.specs.declared.sinks.Sink.{Sink}
use Rattle.file_adapters.proofs.Creating.{failed_counts, quiet, same_counts, one_created, poured_none}
use Rattle.file_adapters.proofs.sinks.create_each.Goals as goal

pub returns-in-Failed-clause-cause : goal.returns-in-Failed-clause-cause
returns-in-Failed-clause-cause g c =
    failed_counts _ _ _ c.args.sinks.now c.loop-sink.sink-index _ c.sink-item.result c.loop-sink-test.true c.sink-item.is c.loop-sink.invariant.count c.loop-sink.invariant.counts
    c.in-Failed.ensures.cause

pub returns-in-Memory-clause-cause : goal.returns-in-Memory-clause-cause
returns-in-Memory-clause-cause g c =
    quiet _ _ c.args.sinks.now _ (Err P.Memory) (λ n. same_counts _ _ _ c.in-Memory.ensures.cause n ∙ c.loop-sink.invariant.counts n)
    (λ n. same_counts _ _ _ c.in-Memory.ensures.cause n ∙ c.loop-sink.invariant.counts n)

pub loop-sink-preserved : goal.loop-sink-preserved
loop-sink-preserved g c =
    let before = c.loop-sink.invariant in
    let i = c.loop-sink.sink-index in
    let x = c.sink-item.result in
    let sinks = c.args.sinks.now in
    let more = length_push c.loop-sink.pours.items c.in-Ok.pour in
    let size : length c.add.new.items.items ≡ length c.loop-sink.pours.items + 1 = rw c.add.ensures.items more in
    let step = c.in-Ok.ensures.lent in
    record {
      count = omega (arith, size, before.count);
      told = one_created _ _ _ sinks i x c.loop-sink-test.true c.sink-item.is before.told c.in-Ok.ensures.told;
      poured = rw c.add.ensures.items (poured_none (g.H.Writer.Pour).poured _ _ _ c.loop-sink.pours.items c.in-Ok.pour before.told before.poured c.in-Ok.ensures.poured);
      created = All-more (λ (s : Sink). (g.H.Shelf).created c.create.new.self s.file) sinks i x c.loop-sink-test.true
          (All-weaker (λ (s : Sink). (g.H.Shelf).created c.loop-sink.shelf s.file) (λ (s : Sink). (g.H.Shelf).created c.create.new.self s.file) (λ s h. c.in-Ok.ensures.keeps_created s.file h) (take i sinks) before.created)
          (rw (sym c.sink-item.is) c.in-Ok.ensures.created);
      counts = λ n. same_counts _ _ _ c.in-Ok.ensures.cause n ∙ before.counts n;
      lent = λ room. let was = before.lent room in let one = step (omega (arith, was, room, c.loop-sink-test.true)) in omega (arith, was, one);
      room = omega (arith, before.room, c.add.ensures.room);
    }
