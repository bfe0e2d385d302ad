-- The mergers of a plan.
use Rattle.std.proofs.Common.{◌≡◌, ◌<◌, ℕ, Bool, true, false, List, [], ◌∷◌, ◌++◌, map, refl, sym, ap, ◌∙◌, cond, subst, Some, slice_get}
use Rattle.std.specs.List.{AllByRecursion, list_all}
use Rattle.spl_value.specs.declared.item.Item.{Item}
use Rattle.spl_value.specs.declared.packet.Packet.{Packet}
use Rattle.spl_value.specs.declared.routing.Routing.TheVariants.{Key, Turns}
use Rattle.spl_value.specs.Numbered.{InOrder, cut, merged}
use Rattle.language_model.specs.CheckedGraph.{CheckedGraph}
use Rattle.language_model.specs.Keeping.{Keeps}
use Rattle.stream_model.specs.declared.plan.Merge.{Merge}
use Rattle.stream_model.specs.declared.plan.Merge.TheVariants as M
use Rattle.stream_model.specs.declared.plan.Region.{Region}
use Rattle.stream_model.specs.CheckedMeaning.{graph_of}
use Rattle.stream_model.specs.Meaning.{Graph}
use Rattle.stream_model.specs.Operators.{Operator}
use Rattle.stream_model.specs.PortLaws.{has_connections}
use Rattle.stream_model.specs.Regions.{IsPlan, IsRegion, any_keyed, chain_key, chain_merge, is_one_class, is_safe, ops_of, tuples_of_key}
use Rattle.stream_model.specs.Selectivity.{gives}
use Rattle.stream_model.specs.Stages.{chain, start}
use Rattle.stream_model.specs.Stream.{IsPrefix, any_closes}
use Rattle.channel_heads.specs.FrontLaws.{AreFronts}
use Rattle.region_laws.specs.PlanFronts.{PlanFrontLaw, PlanStateLaw, PlanWholeLaw, region_sends}
use Rattle.region_laws.specs.RegionFronts.{IsRegionOf, IsSent, Suits}
use Rattle.stream_model.specs.Replicas.{replica}
use Rattle.stream_model.specs.Regions.{has_pulses, routing_by, rule_of, width_of}
use Rattle.stream_model.specs.Sending.{replies}
use Rattle.region_laws.proofs.Classes.{merge_one}
use Rattle.region_laws.proofs.RegionLaw.{checked_connected, ops_all, region_some}
use Rattle.region_laws.proofs.RegionFronts.{region_front_law, region_whole_law}
use Rattle.region_laws.proofs.Splits.{split_law}
use Rattle.region_laws.proofs.ReplicaState.{state_law}
use Rattle.region_laws.proofs.NumberedItems.{items}
use Rattle.region_laws.specs.ReplicaState.{history}
use Rattle.spl_value.specs.Key.{has_place, key_of}
use Rattle.spl_value.specs.Route.{part, route}
use Rattle.spl_value.specs.declared.item.Item.TheVariants as I
use Rattle.std.specs.Prelude.{◌==◌}
use Rattle.spl_value.proofs.Lists.{all_at}
use Rattle.region_laws.proofs.WholeMerges.{one_whole_law}

-- ---- what a merger needs of a region of a plan

no_key : (b d : Bool) (key : List ℕ) → cond b (cond d M.Numbers M.Turns) M.Pulses ≡ M.Turns → cond d key [] ≡ []
no_key true true key e = absurd (let no : M.Numbers ≡ M.Turns = e in cc)
no_key true false key e = refl
no_key false d key e = absurd (let no : M.Pulses ≡ M.Turns = e in cc)

-- a region that merges by turns has no key
turns_key : (ops : List Operator) → chain_merge ops ≡ M.Turns → routing_by (chain_key ops) ≡ Turns
turns_key ops e =
    ap routing_by (no_key (list_all (λ (op : Operator). is_one_class (gives op.clauses)) ops) (any_keyed ops) _ e)

module _ (c : CheckedGraph) (plan : List Region) (i : ℕ) (region : Region) (width : ℕ) (items : List Item)
    (keeps : Keeps c) (is : IsPlan (graph_of c) plan) (at : slice_get plan i ≡ Some region) (some : 0 < width_of region width) where
  abbrev w : ℕ
  w = width_of region width

  abbrev g : Graph
  g = graph_of c

  abbrev ops : List Operator
  ops = ops_of g region.ops

  r : IsRegion g region
  r = all_at (IsRegion g) plan i region is.regions at

  abbrev sent : ℕ → List Packet
  sent = region_sends region width items

  suits : (merge : Merge) → region.merge ≡ merge → Suits (rule_of merge) (routing_by (chain_key ops)) w sent ops
  suits M.Pulses e = tt
  suits M.Numbers e = (
    merge_one c plan i region keeps is at (λ p. (let no : M.Numbers ≡ M.Pulses = sym e ∙ p in cc)),
    λ d l. (split_law (routing_by region.key) w (has_pulses (rule_of region.merge)) items d l).1 (ap (λ m. has_pulses (rule_of m)) e),
  )
  suits M.Turns e = (
    merge_one c plan i region keeps is at (λ p. (let no : M.Turns ≡ M.Pulses = sym e ∙ p in cc)),
    (λ d l. (split_law (routing_by region.key) w (has_pulses (rule_of region.merge)) items d l).1 (ap (λ m. has_pulses (rule_of m)) e)),
    turns_key ops (sym r.merge ∙ e),
  )

  -- a region of a plan with what its splitter sends
  pub region_of_plan : (merge : Merge) → region.merge ≡ merge → IsRegionOf g ops (rule_of merge) w (cut items) sent
  region_of_plan merge e = record {
    safe = r.safe;
    connected = ops_all (λ op. has_connections op ≡ true) g (checked_connected c keeps) region.ops;
    some = region_some g plan i region is at r.some;
    wide = some;
    sends = λ d l. subst (λ key. IsSent (routing_by key) w (cut items) d (sent d)) r.key (split_law (routing_by region.key) w (has_pulses (rule_of region.merge)) items d l).0;
    suits = suits merge e;
  }

  pub plan_front : (came went : ℕ → List Packet) → AreFronts w came sent → AreFronts w went (λ d. replies (map start ops) (came d))
      → InOrder (rule_of region.merge) w went × IsPrefix (merged (rule_of region.merge) w went) (chain ops (cut items))
  plan_front came went first second =
      region_front_law g ops (rule_of region.merge) w (cut items) sent came went (region_of_plan region.merge refl) first second

  pub plan_whole : any_closes items ≡ true → merged (rule_of region.merge) w (λ d. replies (map start ops) (sent d)) ≡ chain ops (cut items)
  plan_whole ends = go region.merge refl where
    go : (merge : Merge) → region.merge ≡ merge → merged (rule_of region.merge) w (λ d. replies (map start ops) (sent d)) ≡ chain ops (cut items)
    go M.Pulses e =
        ap (λ (m : Merge). merged (rule_of m) w (λ d. replies (map start ops) (sent d))) e
        ∙ region_whole_law g ops w (cut items) sent (region_of_plan M.Pulses e) (λ d l. (split_law (routing_by region.key) w (has_pulses (rule_of region.merge)) items d l).2 ends)
    go M.Numbers e =
        ap (λ (m : Merge). merged (rule_of m) w (λ d. replies (map start ops) (sent d))) e
        ∙ (one_whole_law g ops w (cut items) sent).0 (region_of_plan M.Numbers e)
    go M.Turns e =
        ap (λ (m : Merge). merged (rule_of m) w (λ d. replies (map start ops) (sent d))) e
        ∙ (one_whole_law g ops w (cut items) sent).1 (region_of_plan M.Turns e)

pub plan_front_law : PlanFrontLaw
plan_front_law c plan i region width items came went keeps is at some first second = plan_front c plan i region width items keeps is at some came went first second

pub plan_whole_law : PlanWholeLaw
plan_whole_law c plan i region width items keeps is at some ends = plan_whole c plan i region width items keeps is at some ends

pub plan_state_law : PlanStateLaw
plan_state_law c plan i region before after op places width d L vs us keeps is at some parts kind opens with_key =
    let g = graph_of c in
    let r = all_at (IsRegion g) plan i region is.regions at in
    let key : region.key ≡ chain_key (before ++ op ∷ after) = r.key ∙ ap chain_key parts in
    ap (λ ks. tuples_of_key places (key_of us places) (history (items (replica before (part (Key ks) (width_of region width) L d))))) key
    ∙ state_law g before after op places (width_of region width) d L vs us (sym (ap (is_safe g) parts) ∙ r.safe)
    (subst (AllByRecursion (λ op. has_connections op ≡ true)) parts (ops_all (λ op. has_connections op ≡ true) g (checked_connected c keeps) region.ops)) some kind opens
    (λ q a e h. with_key q a e (ap (λ ks. has_place ks a) key ∙ h))
    ∙ ap (λ ks. cond (route (Key ks) (width_of region width) 0 (I.Tuple vs) == d) (tuples_of_key places (key_of us places) (history (chain before L))) []) (sym key)
