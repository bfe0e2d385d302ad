use Rattle.std.proofs.Common.{◌≡◌, ◌++◌, ◌∷◌, [], true, false, ◌∙◌, ap, refl, set, slice_get, Some, subst, sym, arith}
use Rattle.spl_value.proofs.Lists.{get_within}
use Rattle.stream_model.specs.CheckedMeaning.{graph_of}
use Rattle.stream_model.specs.Regions.{ops_of}
use Rattle.region_choice.specs.declared.choice.Choice.{Choice}
use Rattle.region_choice.specs.declared.growing.Growing.{Growing}
use Rattle.region_choice.specs.steps.Choices.{Joins}
use Rattle.region_choice.specs.steps.Choosing.{takes}
use Rattle.region_choice.specs.steps.GraphChains.{chains_of, has_key}
use Rattle.region_choice.specs.steps.Growing.{Grows, IsLonger}
use Rattle.region_choice.proofs.Placing.{before_within, eligible_one, found_takes, joined, none_found, none_joined, only_found, set_as_it_is}
use Rattle.region_choice.proofs.choice.join.Goals as goal
use Rattle.stream_model.proofs.GraphParts.{same_length}

pub returns-in_default-clause-joins : goal.returns-in_default-clause-joins
returns-in_default-clause-joins c = λ g o e candidate outside.
    none_found c.args.checked.now g c.requires.kept e c.args.counts.now c.args.choice.now (c.requires.standing g e) c.args.op c.args.stream c.args.state.now o candidate
    (sym c.region_before.ensures ∙ c.in_default.is)

pub item_mut-requires : goal.item_mut-requires
item_mut-requires c =
    before_within c.args.checked.now.graph.streams c.args.counts.now c.args.choice.now c.args.stream c.in-Some.at (sym c.region_before.ensures ∙ c.in-Some.is)

pub grow-requires-clause-numbers : goal.grow-requires-clause-numbers
grow-requires-clause-numbers c = λ g e. ((c.requires.standing g e).grown c.in-Some.at c.item_mut.result.now c.item_mut.ensures.item).in_segment

pub set-requires : goal.set-requires
set-requires c =
    let many = (c.requires.standing (graph_of c.args.checked.now) refl).many in
    let same = same_length c.args.checked.now (graph_of c.args.checked.now) c.requires.kept refl in
    let parts = c.requires.kept.parts in
    let within = c.requires.number in
    omega arith

pub returns-then-joined-clause-joins : goal.returns-then-joined-clause-joins
returns-then-joined-clause-joins c = λ g o e candidate outside.
    (let found = sym c.region_before.ensures ∙ c.in-Some.is in
    let standing = c.requires.standing g e in
    let region : Growing = c.item_mut.result.now in
    let there : slice_get c.args.choice.now.regions c.in-Some.at ≡ Some region = c.item_mut.ensures.item in
    let grows = c.in_ok-joined.ensures.grows g o e candidate.there candidate.state_is (standing.grown c.in-Some.at region there) in
    let longer : IsLonger g region c.args.op c.grow.new.growing = subst (λ b. Grows g region c.args.op b c.grow.new.growing) c.if-joined.true grows in
    let safe : has_key (ops_of g (region.ops ++ c.args.op ∷ [])) ≡ true = subst (λ ops. has_key (ops_of g ops) ≡ true) longer.ops longer.grown.safe in
    let takes_it : takes (chains_of g) region.ops c.args.op ≡ true =
    found_takes c.args.checked.now g c.requires.kept e c.args.counts.now c.args.choice.now standing c.args.op c.args.stream c.args.state.now o candidate c.in-Some.at region found there ∙ safe in
    let new : Choice = record { regions = set c.args.choice.now.regions c.in-Some.at c.grow.new.growing; places = c.set.new.self } in
    subst (λ b. Joins g c.args.choice.now c.args.op b new) (sym c.if-joined.true)
    (joined g c.args.choice.now new standing c.args.op (eligible_one g c.args.op o candidate.there ∙ candidate.eligible) outside (get_within g.ops c.args.op o candidate.there)
    c.in-Some.at region c.grow.new.growing there takes_it
    (only_found c.args.checked.now g c.requires.kept e c.args.counts.now c.args.choice.now standing c.args.op c.args.stream c.args.state.now o candidate c.in-Some.at found)
    longer refl c.set.ensures))

pub returns-else-joined-clause-joins : goal.returns-else-joined-clause-joins
returns-else-joined-clause-joins c = λ g o e candidate outside.
    (let found = sym c.region_before.ensures ∙ c.in-Some.is in
    let standing = c.requires.standing g e in
    let region : Growing = c.item_mut.result.now in
    let there : slice_get c.args.choice.now.regions c.in-Some.at ≡ Some region = c.item_mut.ensures.item in
    let grows = c.in_ok-joined.ensures.grows g o e candidate.there candidate.state_is (standing.grown c.in-Some.at region there) in
    let unsafe : has_key (ops_of g (region.ops ++ c.args.op ∷ [])) ≡ false = subst (λ b. Grows g region c.args.op b c.grow.new.growing) c.if-joined.false grows in
    subst (λ b. Joins g c.args.choice.now c.args.op b (record { regions = set c.args.choice.now.regions c.in-Some.at c.grow.new.growing; places = c.args.choice.now.places }))
    (sym c.if-joined.false)
    (none_joined c.args.checked.now g c.requires.kept e c.args.counts.now c.args.choice.now standing c.args.op c.args.stream c.args.state.now o candidate c.in-Some.at region found there unsafe))

pub returns-else-joined-clause-stays : goal.returns-else-joined-clause-stays
returns-else-joined-clause-stays c = λ no_more.
    (let same : c.grow.new.growing ≡ c.item_mut.result.now = c.in_ok-joined.ensures.stays no_more in
    let kept : set c.args.choice.now.regions c.in-Some.at c.grow.new.growing ≡ c.args.choice.now.regions =
    ap (set c.args.choice.now.regions c.in-Some.at) same ∙ set_as_it_is c.args.choice.now.regions c.in-Some.at c.item_mut.result.now c.item_mut.ensures.item in
    λ i. record { regions = kept i; places = c.args.choice.now.places })
