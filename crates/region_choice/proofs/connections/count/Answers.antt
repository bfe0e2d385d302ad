use Rattle.std.proofs.Common.{◌≡◌, ◌<◌, ◌+◌, length, min, get_or, ap, subst, sym, ◌∙◌, arith, List, ℕ}
use Rattle.std.proofs.lemmas.List.{length-set}
use Rattle.region_choice.specs.steps.Counting.{AreCounts}
use Rattle.region_choice.proofs.Counting.{contains_at, counts_more}
use Rattle.region_choice.proofs.connections.count.Goals as goal

pub bounds-as_slice-at : goal.bounds-as_slice-at
bounds-as_slice-at c =
    let within = c.requires.within (get_or c.args.streams.now c.loop-stream.stream-index 0) (contains_at c.args.streams.now c.loop-stream.stream-index c.loop-stream-test.true) in
    let many = c.loop-stream.invariant.many in
    let same = ap length c.as_slice.ensures in
    omega arith

pub set-requires : goal.set-requires
set-requires c =
    let within = c.requires.within (get_or c.args.streams.now c.loop-stream.stream-index 0) (contains_at c.args.streams.now c.loop-stream.stream-index c.loop-stream-test.true) in
    let many = c.loop-stream.invariant.many in
    omega arith

pub loop-stream-preserved : goal.loop-stream-preserved
loop-stream-preserved c =
    let s = get_or c.args.streams.now c.loop-stream.stream-index 0 in
    let within = c.requires.within s (contains_at c.args.streams.now c.loop-stream.stream-index c.loop-stream-test.true) in
    let many = c.loop-stream.invariant.many in
    let below : s < length c.loop-stream.counts = omega arith in
    let more : c.saturating_add-more.result ≡ min (get_or c.loop-stream.counts s 0 + 1) 4294967295 =
    c.saturating_add-more.ensures ∙ ap (λ (counts : List ℕ). min (get_or counts s 0 + 1) 4294967295) c.as_slice.ensures in
    record {
      many = ap length c.set.ensures ∙ length-set c.loop-stream.counts s c.saturating_add-more.result ∙ many;
      counted = λ seen h. subst (AreCounts _) (sym c.set.ensures)
          (counts_more c.args.streams.now seen c.loop-stream.counts c.loop-stream.stream-index c.saturating_add-more.result c.loop-stream-test.true below more
          (c.loop-stream.invariant.counted seen h));
    }
