use Rattle.std.proofs.Common.{◌≡◌, ◌≤◌, ◌+◌, ◌∙◌, List, [], None, ap, length, map, subst, sym, arith, take}
use Rattle.std.proofs.lemmas.List.{length-replicate, take_all}
use Rattle.std.proofs.lemmas.Result.{IfOk-weaker}
use Rattle.language_model.specs.CheckedGraph.{CheckedGraph}
use Rattle.language_model.specs.Keeping.{Keeps}
use Rattle.stream_model.specs.declared.plan.Region.{Region}
use Rattle.stream_model.specs.CheckedMeaning.{graph_of}
use Rattle.stream_model.specs.Meaning.{Graph}
use Rattle.stream_model.specs.Regions.{IsPlan}
use Rattle.region_choice.specs.declared.growing.Growing.{Growing}
use Rattle.region_choice.specs.steps.Choices.{IsStanding, numbers_of}
use Rattle.region_choice.specs.steps.Choosing.{chosen_from}
use Rattle.region_choice.specs.steps.GraphChains.{chains_of}
use Rattle.region_choice.specs.steps.Growing.{region_of}
use Rattle.region_choice.proofs.Placing.{none_standing, plan_is, settled_next, topo_within}
use Rattle.region_choice.proofs.choice.choose.Goals as goal
use Rattle.stream_model.proofs.GraphParts.{same_length}

pub loop-op-init : goal.loop-op-init
loop-op-init c =
    let k : Keeps c.args.checked.now = subst Keeps c.checked.view_is c.checked.invariant in
    let operators : c.len.result ≡ length c.args.checked.now.graph.ops = c.len.ensures ∙ ap (λ (x : CheckedGraph). length x.graph.ops) c.checked.view_is in
    record {
      standing = λ g e.
          subst (λ (rs : List Growing). IsStanding g (record { regions = rs; places = c.in_ok-nowhere.field-0 })) (sym c.new.ensures)
          (none_standing g c.in_ok-nowhere.field-0
          (ap length c.in_ok-nowhere.ensures ∙ length-replicate c.len.result None ∙ operators ∙ sym (same_length c.args.checked.now g k e)));
      numbers = λ g e. ap (map (λ (r : Growing). r.ops)) c.new.ensures;
    }

pub settle-requires-clause-number : goal.settle-requires-clause-number
settle-requires-clause-number c =
    topo_within c.args.checked.now (subst Keeps c.checked.view_is c.checked.invariant) c.as_slice-op-items.result.now
    (c.as_slice-op-items.ensures ∙ ap (λ (x : CheckedGraph). x.graph.topo) c.checked.view_is) c.loop-op.op-index c.loop-op-test.true

pub loop-op-preserved : goal.loop-op-preserved
loop-op-preserved c =
    let k : Keeps c.args.checked.now = subst Keeps c.checked.view_is c.checked.invariant in
    let items : c.as_slice-op-items.result.now ≡ c.args.checked.now.graph.topo = c.as_slice-op-items.ensures ∙ ap (λ (x : CheckedGraph). x.graph.topo) c.checked.view_is in
    let next : (g : Graph) → graph_of c.args.checked.now ≡ g → IsStanding g c.settle.new.choice
    × (numbers_of c.settle.new.choice ≡ chosen_from (chains_of g) [] (take (c.loop-op.op-index + 1) c.args.checked.now.graph.topo)) =
    λ g e. settled_next c.args.checked.now g k e c.as_slice-op-items.result.now items c.loop-op.op-index c.loop-op-test.true c.loop-op.choice c.settle.new.choice
    (c.loop-op.invariant.numbers g e) (λ outside. c.in_ok-settle.ensures g e (c.in_ok-counts.ensures.counts g e) outside) in
    record { standing = λ g e. (next g e).0; numbers = λ g e. (next g e).1 }

pub returns : goal.returns
returns c =
    let k : Keeps c.args.checked.now = subst Keeps c.checked.view_is c.checked.invariant in
    let items : c.as_slice-op-items.result.now ≡ c.args.checked.now.graph.topo = c.as_slice-op-items.ensures ∙ ap (λ (x : CheckedGraph). x.graph.topo) c.checked.view_is in
    let past : length c.args.checked.now.graph.topo ≤ c.loop-op.op-index = (let same = ap length items in let end = c.loop-op-test.false in omega arith) in
    record {
      plan = IfOk-weaker c.plan_of.result (λ (plan : List Region). plan ≡ map region_of c.loop-op.choice.regions)
          (λ (plan : List Region). (g : Graph) → graph_of c.args.checked.now ≡ g → IsPlan g plan)
          (λ plan is g e. subst (IsPlan g) (sym is)
          (plan_is c.args.checked.now g k e c.loop-op.choice (c.loop-op.invariant.standing g e)
          (c.loop-op.invariant.numbers g e ∙ ap (chosen_from (chains_of g) []) (take_all c.loop-op.op-index c.args.checked.now.graph.topo past))))
          c.plan_of.ensures;
    }
