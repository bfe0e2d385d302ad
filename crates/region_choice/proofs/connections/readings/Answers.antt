use Rattle.std.proofs.Common.{◌≡◌, ◌<◌, ◌≤◌, ◌++◌, ◌∙◌, List, ℕ, [], map, take, length, get_or, ap, subst, sym, arith}
use Rattle.std.specs.List.{concat, Contains}
use Rattle.std.proofs.lemmas.List.{length-replicate, take_all}
use Rattle.spl_tree.specs.declared.graph.Op.{Op}
use Rattle.language_model.specs.CheckedGraph.{CheckedGraph}
use Rattle.language_model.specs.Keeping.{Keeps}
use Rattle.region_choice.specs.steps.Counting.{AreCounts}
use Rattle.region_choice.proofs.Counting.{all_readings, among_streams, no_counts, operators_more}
use Rattle.region_choice.proofs.connections.readings.Goals as goal

pub count_ports-requires : goal.count_ports-requires
count_ports-requires c =
    let k : Keeps c.args.checked.now = subst Keeps c.checked.view_is c.checked.invariant in
    let ops : c.as_slice-op-items.result.now ≡ c.args.checked.now.graph.ops = c.as_slice-op-items.ensures ∙ ap (λ (x : CheckedGraph). x.graph.ops) c.checked.view_is in
    let lt : c.loop-op.op-index < length c.args.checked.now.graph.ops = (let same = ap length ops in let below = c.loop-op-test.true in omega arith) in
    record {
      within = λ s h.
          (let inside = among_streams c.args.checked.now k c.loop-op.op-index c.op-item.result s lt
          (c.op-item.is ∙ ap (λ (os : List Op). get_or os c.loop-op.op-index c.op-item.result) ops) (subst (λ (ps : List (List ℕ)). Contains (concat ps) s) c.as_slice.ensures h) in
          let many = c.loop-op.invariant.many in
          omega arith);
    }

pub loop-op-init : goal.loop-op-init
loop-op-init c =
    let streams : c.len.result ≡ length c.args.checked.now.graph.streams = c.len.ensures ∙ ap (λ (x : CheckedGraph). length x.graph.streams) c.checked.view_is in
    record {
      many = ap length c.in_ok-counts.ensures ∙ length-replicate c.len.result 0 ∙ streams;
      counted = subst (AreCounts []) (sym c.in_ok-counts.ensures) (no_counts c.len.result);
    }

pub loop-op-preserved : goal.loop-op-preserved
loop-op-preserved c =
    let ops : c.as_slice-op-items.result.now ≡ c.args.checked.now.graph.ops = c.as_slice-op-items.ensures ∙ ap (λ (x : CheckedGraph). x.graph.ops) c.checked.view_is in
    let lt : c.loop-op.op-index < length c.args.checked.now.graph.ops = (let same = ap length ops in let below = c.loop-op-test.true in omega arith) in
    let so_far = concat (map (λ (op : Op). concat op.ins) (take c.loop-op.op-index c.args.checked.now.graph.ops)) in
    record {
      many = c.count_ports.ensures.length ∙ c.loop-op.invariant.many;
      counted = subst (λ all. AreCounts all c.count_ports.new.counts)
          (ap (λ (ps : List (List ℕ)). so_far ++ concat ps) c.as_slice.ensures
          ∙ operators_more c.args.checked.now.graph.ops c.loop-op.op-index c.op-item.result lt (c.op-item.is ∙ ap (λ (os : List Op). get_or os c.loop-op.op-index c.op-item.result) ops))
          (c.count_ports.ensures.counts so_far c.loop-op.invariant.counted);
    }

pub returns-clause-counts : goal.returns-clause-counts
returns-clause-counts c = λ g e.
    (let k : Keeps c.args.checked.now = subst Keeps c.checked.view_is c.checked.invariant in
    let ops : c.as_slice-op-items.result.now ≡ c.args.checked.now.graph.ops = c.as_slice-op-items.ensures ∙ ap (λ (x : CheckedGraph). x.graph.ops) c.checked.view_is in
    let past : length c.args.checked.now.graph.ops ≤ c.loop-op.op-index = (let same = ap length ops in let end = c.loop-op-test.false in omega arith) in
    all_readings c.args.checked.now g c.loop-op.counts k e
    (subst (λ (os : List Op). AreCounts (concat (map (λ (op : Op). concat op.ins) os)) c.loop-op.counts) (take_all c.loop-op.op-index c.args.checked.now.graph.ops past)
    c.loop-op.invariant.counted))
