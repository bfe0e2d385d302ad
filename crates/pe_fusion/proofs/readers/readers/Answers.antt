use Rattle.std.proofs.Common.{List, Some, ap, arith, drop, get_or, length, refl, slice_get, subst, suc, sum_by, sym, ℕ, ◌+◌, ◌<◌, ◌^◌, ◌∙◌, ◌∷◌, ◌≡◌, ◌≤◌}
use Rattle.std.specs.List.{concat, Contains}
use Rattle.spl_value.proofs.Lists.{at_most_sum, count_concat, drop_at, drop_past, item_there}
use Rattle.spl_tree.specs.declared.graph.Op.{Op}
use Rattle.language_model.specs.CheckedGraph.{CheckedGraph}
use Rattle.language_model.specs.Keeping.{Keeps}
use Rattle.pe_fusion.specs.steps.Reading.{Table, add_operators, add_reads, read_by}
use Rattle.pe_fusion.proofs.FusedShapes.{few-reads}
use Rattle.pe_fusion.proofs.ReadTables.{length-reads, table-is, table_of}
use Rattle.pe_fusion.proofs.readers.readers.Goals as goal

-- an operator of a checked graph has few connections, and each is one of the streams
operator-within : (c : CheckedGraph) → Keeps c → (i : ℕ) (op : Op) → slice_get c.graph.ops i ≡ Some op → (s : ℕ) → Contains (concat op.ins) s → s < length c.graph.streams
operator-within c k i op at s h = k.graph.taken i op at s h

operator-few : (c : CheckedGraph) → Keeps c → (i : ℕ) (op : Op) → slice_get c.graph.ops i ≡ Some op → length (concat op.ins) < 4294967296
operator-few c k i op at =
    let all = k.graph.connections in
    let one = at_most_sum (λ (o : Op). sum_by length o.ins) c.graph.ops i op at in
    let same = count_concat op.ins in
    let limit : 2 ^ 30 ≡ 1073741824 = refl in
    omega (arith, all, one, same, limit)

pub add_operator-requires-clause-within : goal.add_operator-requires-clause-within
add_operator-requires-clause-within c = λ s h.
    (let k : Keeps c.args.checked.now = subst Keeps c.checked.view_is c.checked.invariant in
    let ops : c.as_slice-op-items.result.now ≡ c.args.checked.now.graph.ops = c.as_slice-op-items.ensures ∙ ap (λ (x : CheckedGraph). x.graph.ops) c.checked.view_is in
    let at : slice_get c.args.checked.now.graph.ops c.loop-op.op-index ≡ Some c.op-item.result =
    ap (λ (os : List Op). slice_get os c.loop-op.op-index) (sym ops) ∙ item_there c.as_slice-op-items.result.now c.loop-op.op-index c.op-item.result c.loop-op-test.true c.op-item.is in
    let inside = operator-within c.args.checked.now k c.loop-op.op-index c.op-item.result at s (subst (λ (ps : List (List ℕ)). Contains (concat ps) s) c.as_slice.ensures h) in
    let many = c.loop-op.invariant.many in
    omega (arith, inside, many))

pub add_operator-requires-clause-few : goal.add_operator-requires-clause-few
add_operator-requires-clause-few c =
    let k : Keeps c.args.checked.now = subst Keeps c.checked.view_is c.checked.invariant in
    let ops : c.as_slice-op-items.result.now ≡ c.args.checked.now.graph.ops = c.as_slice-op-items.ensures ∙ ap (λ (x : CheckedGraph). x.graph.ops) c.checked.view_is in
    let at : slice_get c.args.checked.now.graph.ops c.loop-op.op-index ≡ Some c.op-item.result =
    ap (λ (os : List Op). slice_get os c.loop-op.op-index) (sym ops) ∙ item_there c.as_slice-op-items.result.now c.loop-op.op-index c.op-item.result c.loop-op-test.true c.op-item.is in
    subst (λ (ps : List (List ℕ)). length (concat ps) < 4294967296) (sym c.as_slice.ensures) (operator-few c.args.checked.now k c.loop-op.op-index c.op-item.result at)

pub loop-op-preserved : goal.loop-op-preserved
loop-op-preserved c =
    let i : ℕ = c.loop-op.op-index in
    let ops : c.as_slice-op-items.result.now ≡ c.args.checked.now.graph.ops = c.as_slice-op-items.ensures ∙ ap (λ (x : CheckedGraph). x.graph.ops) c.checked.view_is in
    let lt : i < length c.args.checked.now.graph.ops = subst (λ (os : List Op). i < length os) ops c.loop-op-test.true in
    let item : c.op-item.result ≡ get_or c.args.checked.now.graph.ops i c.op-item.result = c.op-item.is ∙ ap (λ (os : List Op). get_or os i c.op-item.result) ops in
    let split : drop i c.args.checked.now.graph.ops ≡ c.op-item.result ∷ drop (i + 1) c.args.checked.now.graph.ops = drop_at c.args.checked.now.graph.ops i c.op-item.result lt item in
    let added : c.add_operator.new.readers ≡ add_reads c.loop-op.readers c.loop-op.number 0 (concat c.op-item.result.ins) =
    c.in_ok-add_operator.ensures ∙ ap (λ (ps : List (List ℕ)). add_reads c.loop-op.readers c.loop-op.number 0 (concat ps)) c.as_slice.ensures in
    record {
      rest = ap (λ (t : Table). add_operators t (c.loop-op.number + 1) (drop (i + 1) c.args.checked.now.graph.ops)) added
          ∙ ap (λ n. add_operators (add_reads c.loop-op.readers c.loop-op.number 0 (concat c.op-item.result.ins)) n (drop (i + 1) c.args.checked.now.graph.ops)) (let z : c.loop-op.number + 1 ≡ suc c.loop-op.number = omega arith in z)
          ∙ ap (add_operators c.loop-op.readers c.loop-op.number) (sym split)
          ∙ c.loop-op.invariant.rest;
      number = ap (λ n. n + 1) c.loop-op.invariant.number;
      many = ap (λ (t : Table). length t) added ∙ length-reads c.loop-op.readers c.loop-op.number 0 (concat c.op-item.result.ins) ∙ c.loop-op.invariant.many;
    }

pub returns-clause-streams : goal.returns-clause-streams
returns-clause-streams c = λ s.
    (let k : Keeps c.args.checked.now = subst Keeps c.checked.view_is c.checked.invariant in
    let ops : c.as_slice-op-items.result.now ≡ c.args.checked.now.graph.ops = c.as_slice-op-items.ensures ∙ ap (λ (x : CheckedGraph). x.graph.ops) c.checked.view_is in
    let past : length c.args.checked.now.graph.ops ≤ c.loop-op.op-index = (let same = ap (λ (os : List Op). length os) ops in let end = c.loop-op-test.false in omega (arith, same, end)) in
    let made : c.loop-op.readers ≡ table_of c.args.checked.now = sym (ap (add_operators c.loop-op.readers c.loop-op.number) (drop_past c.args.checked.now.graph.ops c.loop-op.op-index past)) ∙ c.loop-op.invariant.rest in
    ap (λ (t : Table). read_by t s) made ∙ table-is c.args.checked.now k s)

pub returns-clause-few : goal.returns-clause-few
returns-clause-few c = λ s.
    (let k : Keeps c.args.checked.now = subst Keeps c.checked.view_is c.checked.invariant in
    let ops : c.as_slice-op-items.result.now ≡ c.args.checked.now.graph.ops = c.as_slice-op-items.ensures ∙ ap (λ (x : CheckedGraph). x.graph.ops) c.checked.view_is in
    let past : length c.args.checked.now.graph.ops ≤ c.loop-op.op-index = (let same = ap (λ (os : List Op). length os) ops in let end = c.loop-op-test.false in omega (arith, same, end)) in
    let made : c.loop-op.readers ≡ table_of c.args.checked.now = sym (ap (add_operators c.loop-op.readers c.loop-op.number) (drop_past c.args.checked.now.graph.ops c.loop-op.op-index past)) ∙ c.loop-op.invariant.rest in
    subst (λ (t : Table). length (read_by t s) < 4294967296) (sym made) (few-reads c.args.checked.now k s))
