use Rattle.std.proofs.Common.{◌≡◌, ◌∙◌, ◌∷◌, [], true, false, ap, refl, set, Some, subst, sym, arith}
use Rattle.std.specs.Option.{option_map_or}
use Rattle.spl_value.proofs.Lists.{get_within}
use Rattle.stream_model.specs.CheckedMeaning.{graph_of}
use Rattle.stream_model.specs.Regions.{is_eligible, ops_of}
use Rattle.region_choice.specs.declared.growing.Growing.{Growing}
use Rattle.region_choice.specs.steps.GraphChains.{chains_of, has_key}
use Rattle.region_choice.specs.steps.Growing.{Grows, IsGrown, IsLonger, nothing}
use Rattle.region_choice.proofs.Growth.{begun, nothing_grown}
use Rattle.region_choice.proofs.Placing.{begins}
use Rattle.region_choice.proofs.Soundness.{sound}
use Rattle.region_choice.proofs.choice.begin.Goals as goal
use Rattle.stream_model.proofs.GraphParts.{same_length}

pub set-requires : goal.set-requires
set-requires c =
    let many = (c.requires.standing (graph_of c.args.checked.now) refl).many in
    let same = same_length c.args.checked.now (graph_of c.args.checked.now) c.requires.kept refl in
    let parts = c.requires.kept.parts in
    let within = c.requires.number in
    omega arith

pub returns : goal.returns
returns c = λ g o e at eligible is outside none.
    (let may : (chains_of g).eligible c.args.op ≡ true = ap (λ found. option_map_or is_eligible found false) at ∙ eligible in
    let alone : has_key (ops_of g (c.args.op ∷ [])) ≡ true = (sound c.args.checked.now g c.requires.kept e).alone c.args.op may in
    let grows : Grows g nothing c.args.op c.in_ok-grow.field-0 c.grow.new.growing =
    subst (λ (r : Growing). Grows g r c.args.op c.in_ok-grow.field-0 c.grow.new.growing) c.nothing-region.ensures
    (c.in_ok-grow.ensures.grows g o e at is (subst (IsGrown g) (sym c.nothing-region.ensures) (nothing_grown g))) in
    let longer : IsLonger g nothing c.args.op c.grow.new.growing = begun g c.args.op c.in_ok-grow.field-0 c.grow.new.growing alone grows in
    begins g c.args.choice.now (record { regions = c.push.new.self; places = c.set.new.self }) (c.requires.standing g e) c.args.op may outside (get_within g.ops c.args.op o at)
    c.grow.new.growing none longer.ops longer.grown c.in_ok-push.ensures.ok (c.set.ensures ∙ ap (λ k. set c.args.choice.now.places c.args.op (Some k)) c.len.ensures))
