use Rattle.std.proofs.Common.{◌≡◌, List, [], ◌∷◌, true, false, refl, ap, inl, inr, slice_get, arith}
use Rattle.spl_value.specs.Numbered.{ByPulses, ByTurns, cut}
use Rattle.region_laws.specs.RegionFronts.{IsRegionOf}
use Rattle.stream_model.specs.Regions.{routing_by}
use Rattle.stream_model.specs.Sending.{on_output, splits}
use Rattle.region_laws.proofs.Splits.{split_law}
use Rattle.std.specs.List.{AllByRecursion}
use Rattle.spl_value.specs.declared.item.Item.{Item}
use Rattle.spl_value.specs.declared.item.Item.TheVariants as I
use Rattle.spl_value.proofs.OrderLaws.{order_laws}
use Rattle.spl_value.specs.declared.value.Value.TheVariants as V
use Rattle.language_model.specs.EvaluationLaws.{value_laws}
use Rattle.stream_model.specs.React.{react}
use Rattle.stream_model.specs.Regions.{IsPlan, chain_key}
use Rattle.stream_model.specs.Stages.{on_port}
use Rattle.stream_model.specs.Stream.{Event, came}
use Rattle.region_laws.specs.OneItemLaws.{GivesOne}
use Rattle.region_laws.specs.ReplicaState.{HasRegionKey}
use Rattle.region_laws.specs.examples.SomeReplicas.{chained, filter, filtered_sums, keyed_region, one_tuple}
use Rattle.region_laws.proofs.laws.regions_on_literals.Goals as goal

keyed : HasRegionKey filter (chain_key chained) one_tuple one_tuple
keyed q a e h = let same : q ≡ a = cc in ap (slice_get one_tuple) same

one : AllByRecursion GivesOne filter
one = (record { input = 0; reads = refl; stream = 1; writes = refl; one = λ h x live. at h x }, tt) where
  at : (h : List Event) (x : Item) → (y : Item) × (on_port 0 (react (record { number = 1; clauses = Rattle.language_model.specs.declared.checked.CheckedClauses.TheVariants.Filter Rattle.std.specs.Prelude.None; functions = []; types = record { ins = Rattle.stream_model.specs.examples.SomeRegions.abv ∷ []; outs = Rattle.stream_model.specs.examples.SomeRegions.abv ∷ [] }; ins = (0 ∷ []) ∷ []; outs = 1 ∷ [] }) h (came 0 x)) ≡ y ∷ [])
  at h (I.Tuple vs) = (I.Tuple vs, refl)
  at h I.Window = (I.Window, refl)
  at h I.Final = (I.Final, refl)
  at h (I.Bad f) = (I.Bad f, refl)

by_pulses : (items : List Item) → IsRegionOf filtered_sums chained ByPulses 2 (cut items) (λ c. on_output c (splits (routing_by (chain_key chained)) 2 true 0 items))
by_pulses items = record {
  safe = refl;
  connected = (refl, (refl, tt));
  some = refl;
  wide = omega arith;
  sends = λ c l. (split_law (routing_by (chain_key chained)) 2 true items c l).0;
  suits = tt;
}

by_turns : (items : List Item) → IsRegionOf filtered_sums filter ByTurns 3 (cut items) (λ c. on_output c (splits (routing_by (chain_key filter)) 3 false 0 items))
by_turns items = record {
  safe = refl;
  connected = (refl, tt);
  some = refl;
  wide = omega arith;
  sends = λ c l. (split_law (routing_by (chain_key filter)) 3 false items c l).0;
  suits = (one, (λ c l. (split_law (routing_by (chain_key filter)) 3 false items c l).1 refl), refl);
}

plan : IsPlan filtered_sums (keyed_region ∷ [])
plan = record {
  regions = (record { some = refl; safe = refl; whole = refl; key = refl; merge = refl }, tt);
  once = λ n. refl;
  in_order = inr (inl (refl, tt));
}

pub returns : goal.returns
returns c = record {
  safe = refl;
  connected = (refl, (refl, tt));
  keyed = keyed;
  one = one;
  state = refl;
  open_chain = simp (value_laws, order_laws, V.outs-Int, V.outs-Bool, V.outs-Tuple);
  plan = plan;
  by_pulses = by_pulses;
  by_turns = by_turns;
  sixteenth = refl;
  other_channel = refl;
  ended = refl;
}
