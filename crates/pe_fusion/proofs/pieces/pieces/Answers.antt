use Rattle.std.proofs.Common.{◌≡◌, ◌+◌, ◌<◌, ◌∙◌, List, ℕ, Option, None, Some, ap, drop, get_or, length, subst, sym, arith}
use Rattle.std.specs.List.{Contains}
use Rattle.std.specs.Option.{option_and_then}
use Rattle.std.proofs.lemmas.List.{drop_more}
use Rattle.pe_fusion.specs.declared.pieces.Placement.{Placement}
use Rattle.pe_fusion.specs.declared.regions.OperatorRegion.{OperatorRegion}
use Rattle.pe_fusion.specs.steps.Placing.{AreWithin, leader, place_of, put_all, put_at, put_next}
use Rattle.pe_fusion.proofs.Loops.{contains_at, place-there, put-many, put-within}
use Rattle.pe_fusion.proofs.pieces.pieces.Goals as goal

pub put-requires-clause-op : goal.put-requires-clause-op
put-requires-clause-op c =
    let xs : List ℕ = c.as_slice-op-items.result.now in
    let s : ℕ = get_or xs c.loop-op.op-index 0 in
    let within = c.requires s (subst (λ ns. Contains ns s) c.as_slice-op-items.ensures (contains_at xs c.loop-op.op-index c.loop-op-test.true)) in
    let many = c.loop-op.invariant.many in
    omega (arith, within, many)

pub loop-op-preserved : goal.loop-op-preserved
loop-op-preserved c =
    let i : ℕ = c.loop-op.op-index in
    let topo : c.as_slice-op-items.result.now ≡ c.args.graph.now.topo = c.as_slice-op-items.ensures in
    let n : ℕ = get_or c.as_slice-op-items.result.now i 0 in
    let same : n ≡ get_or c.args.graph.now.topo i 0 = ap (λ (ns : List ℕ). get_or ns i 0) topo in
    let lt = subst (λ (ns : List ℕ). i < length ns) topo c.loop-op-test.true in
    let place : c.place_with-place.result ≡ option_and_then (place_of c.loop-op.state.places) (leader c.args.graph.now c.args.regions.now c.args.readers.now n) =
    c.place_with-place.ensures ∙ ap (option_and_then (place_of c.loop-op.state.places)) c.leader.ensures in
    let put : c.put.new.state ≡ put_next c.args.graph.now c.args.regions.now c.args.readers.now c.loop-op.state n =
    c.in_ok-put.ensures
    ∙ ap (λ (p : Option ℕ). put_at p n c.region_of.result c.loop-op.state) place
    ∙ ap (λ (r : Option OperatorRegion). put_at (option_and_then (place_of c.loop-op.state.places) (leader c.args.graph.now c.args.regions.now c.args.readers.now n)) n r c.loop-op.state) c.region_of.ensures in
    record {
      rest = ap (λ (s : Placement). put_all c.args.graph.now c.args.regions.now c.args.readers.now s (drop (i + 1) c.args.graph.now.topo)) put
          ∙ ap (λ m. put_all c.args.graph.now c.args.regions.now c.args.readers.now (put_next c.args.graph.now c.args.regions.now c.args.readers.now c.loop-op.state m) (drop (i + 1) c.args.graph.now.topo)) same
          ∙ ap (put_all c.args.graph.now c.args.regions.now c.args.readers.now c.loop-op.state) (sym (drop_more c.args.graph.now.topo i 0 lt))
          ∙ c.loop-op.invariant.rest;
      many = ap (λ (s : Placement). length s.places) c.in_ok-put.ensures ∙ put-many c.place_with-place.result n c.region_of.result c.loop-op.state ∙ c.loop-op.invariant.many;
      within = subst AreWithin (sym c.in_ok-put.ensures) (put-within c.place_with-place.result n c.region_of.result c.loop-op.state c.loop-op.invariant.within
          (λ j e. below c.loop-op.state (leader c.args.graph.now c.args.regions.now c.args.readers.now n) j c.loop-op.invariant.within (sym place ∙ e)));
    }
  where
    below : (state : Placement) (o : Option ℕ) (j : ℕ) → AreWithin state → option_and_then (place_of state.places) o ≡ Some j → j < length state.pieces
    below state None j within e = absurd (cc)
    below state (Some m) j within e = within m j (place-there state.places m j e)
