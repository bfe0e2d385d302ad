-- Operators that keep a state for each key.
use Rattle.std.proofs.Common.{◌≡◌, ℕ, zero, suc, Bool, true, false, not, ◌&&◌, if◌then◌else◌, List, [], ◌∷◌, ◌++◌, map, refl, sym, ap, subst, ◌∙◌}
use Rattle.spl_value.specs.Key.{key_of}
use Rattle.spl_value.specs.declared.item.Item.{Item}
use Rattle.spl_value.specs.declared.item.Item.TheVariants as I
use Rattle.spl_value.specs.declared.value.Value.{Value}
use Rattle.spl_tree.specs.declared.body.Function.{Function}
use Rattle.language_model.specs.declared.checked.CollectedAttribute.{CollectedAttribute}
use Rattle.language_model.specs.declared.checked.CheckedClauses.{CheckedClauses}
use Rattle.language_model.specs.declared.checked.CheckedClauses.TheVariants as A
use Rattle.language_model.specs.declared.checked.Policy.{Policy}
use Rattle.language_model.specs.declared.checked.PortTypes.{PortTypes}
use Rattle.language_model.specs.Outcomes.{Done, followed, need}
use Rattle.stream_model.specs.declared.plan.StateKind.TheVariants as K
use Rattle.stream_model.specs.Stream.{Event, came, is_tuple}
use Rattle.spl_value.specs.KeyOrder.{same_key}
use Rattle.stream_model.specs.Operators.{Operator}
use Rattle.stream_model.specs.parts.Operators.{port_at}
use Rattle.stream_model.specs.PortEvents.{is_waiting, port_items, port_events}
use Rattle.stream_model.specs.Windows.{contents_of, fired_at, flushes_at_markers, partition_key, tuples_with, window_events}
use Rattle.stream_model.specs.Bodies.{Makes, at_tuple, most_turns}
use Rattle.stream_model.specs.Aggregates.{arguments, contents_give}
use Rattle.stream_model.specs.parts.Aggregates.{marker_passed}
use Rattle.stream_model.specs.React.{answer, answered, react}
use Rattle.stream_model.specs.StateKinds.{is_keyed, state_by}
use Rattle.stream_model.specs.parts.StateKinds.{has_mutable}
use Rattle.stream_model.specs.Replies.{is_live}
use Rattle.stream_model.specs.Regions.{IsLocal, tuples_of_key}
use Rattle.stream_model.specs.RegionLaws.{KeyedLaw}
use Rattle.stream_model.proofs.Contents.{own_key_law}
use Rattle.stream_model.proofs.Flushes.{fired_law, passing_law}
use Rattle.stream_model.proofs.StageLaws.{one_in}
use Rattle.spl_value.proofs.Bools.{and_not_parts}

-- ---- the tuples with a key

abbrev tuple_before : Item → List (List Value) → List (List Value)
tuple_before (I.Tuple vs) ts = vs ∷ ts
tuple_before I.Window ts = ts
tuple_before I.Final ts = ts
tuple_before (I.Bad f) ts = ts

abbrev tuples_in : List Event → List (List Value)
tuples_in [] = []
tuples_in (e ∷ h) = tuple_before e.item (tuples_in h)

first_port : (i : ℕ) → port_at (0 ∷ []) i ≡ 0
first_port zero = refl
first_port (suc i) = refl

-- those that came into the window of the one port are those among the events
tuples_come : (n : ℕ) (part : CheckedClauses) (functions : List Function) (types : PortTypes) (s : ℕ) (outs : List ℕ) (key : List Value → List Value) (places : List ℕ)
    → ((t : List Value) → key t ≡ key_of t places) → (k : List Value) (h : List Event)
    → tuples_with k (window_events key (port_items 0 (port_events (one_in n part functions types s outs) h))) ≡ tuples_in (tuples_of_key places k h)
tuples_come n part functions types s outs key places keys k [] = refl
tuples_come n part functions types s outs key places keys k (e ∷ h) = go e.input e.item (tuples_come n part functions types s outs key places keys k h)
  where
    op : Operator
    op = one_in n part functions types s outs

    Rest : Type 0
    Rest = tuples_with k (window_events key (port_items 0 (port_events op h))) ≡ tuples_in (tuples_of_key places k h)

    tuple : (i : ℕ) (vs : List Value) (b : Bool) → Rest
        → (if b then vs ∷ tuples_with k (window_events key (port_items 0 (port_events op h))) else tuples_with k (window_events key (port_items 0 (port_events op h))))
        ≡ tuples_in (if b then came i (I.Tuple vs) ∷ tuples_of_key places k h else tuples_of_key places k h)
    tuple i vs true rest = ap (λ ts. vs ∷ ts) rest
    tuple i vs false rest = rest

    final : (i : ℕ) (b : Bool) → Rest → tuples_with k (window_events key (port_items 0 (if b then port_events op h else came (port_at (0 ∷ []) i) I.Final ∷ port_events op h)))
        ≡ tuples_in (tuples_of_key places k h)
    final i true rest = rest
    final zero false rest = rest
    final (suc i) false rest = rest

    go : (i : ℕ) (x : Item) → Rest → tuples_with k (window_events key (port_items 0 (port_events op (came i x ∷ h)))) ≡ tuples_in (tuples_of_key places k (came i x ∷ h))
    go zero (I.Tuple vs) rest =
        ap (λ q. if same_key k q then vs ∷ tuples_with k (window_events key (port_items 0 (port_events op h))) else tuples_with k (window_events key (port_items 0 (port_events op h)))) (keys vs)
        ∙ tuple zero vs (same_key k (key_of vs places)) rest
    go (suc i) (I.Tuple vs) rest =
        ap (λ q. if same_key k q then vs ∷ tuples_with k (window_events key (port_items 0 (port_events op h))) else tuples_with k (window_events key (port_items 0 (port_events op h)))) (keys vs)
        ∙ tuple (suc i) vs (same_key k (key_of vs places)) rest
    go zero I.Window rest = rest
    go (suc i) I.Window rest = rest
    go i I.Final rest = final i (is_waiting op h (came i I.Final)) rest
    go zero (I.Bad f) rest = rest
    go (suc i) (I.Bad f) rest = rest

-- ---- an Aggregate

same_fires : (n : ℕ) (part : CheckedClauses) (functions : List Function) (types : PortTypes) (s : ℕ) (outs : List ℕ) (window : Policy) (partition : List ℕ)
    → window.partitioned ≡ true → (h k : List Event) (vs : List Value)
    → tuples_of_key partition (key_of vs partition) h ≡ tuples_of_key partition (key_of vs partition) k
    → fired_at window.rule (partition_key window partition) (I.Tuple vs) (port_items 0 (port_events (one_in n part functions types s outs) h))
    ≡ fired_at window.rule (partition_key window partition) (I.Tuple vs) (port_items 0 (port_events (one_in n part functions types s outs) k))
same_fires n part functions types s outs window partition partitioned h k vs same =
    let op = one_in n part functions types s outs in
    let key = partition_key window partition in
    let keys : (t : List Value) → key t ≡ key_of t partition = λ t. ap (λ (b : Bool). if b then key_of t partition else []) partitioned in
    let come : (g : List Event) → tuples_with (key vs) (window_events key (port_items 0 (port_events op g))) ≡ tuples_in (tuples_of_key partition (key_of vs partition) g)
    = λ g. ap (λ q. tuples_with q (window_events key (port_items 0 (port_events op g)))) (keys vs)
    ∙ tuples_come n part functions types s outs key partition keys (key_of vs partition) g in
    let tuples : tuples_with (key vs) (window_events key (port_items 0 (port_events op h))) ≡ tuples_with (key vs) (window_events key (port_items 0 (port_events op k)))
    = come h ∙ ap tuples_in same ∙ sym (come k) in
    let first = fired_law window.rule key (port_items 0 (port_events op h)) in
    let second = fired_law window.rule key (port_items 0 (port_events op k)) in
    let own = own_key_law window.rule (key vs) (window_events key (port_items 0 (port_events op h))) (window_events key (port_items 0 (port_events op k))) in
    first.0 vs ∙ ap contents_of (own.2 tuples vs) ∙ sym (second.0 vs)

fires_nothing : (window : Policy) (partition : List ℕ) (items : List Item) → flushes_at_markers window.rule ≡ false
    → fired_at window.rule (partition_key window partition) I.Window items ≡ []
fires_nothing window partition items passing =
    let fired = fired_law window.rule (partition_key window partition) items in
    let flushed = passing_law window.rule [] (window_events (partition_key window partition) items) passing in
    fired.1 ∙ ap (map (λ e. e.1)) flushed.1

aggregate_is_local : (n : ℕ) (functions : List Function) (types : PortTypes) (s : ℕ) (outs : List ℕ) (window : Policy) (partition group : List ℕ) (collects : List CollectedAttribute)
    → window.partitioned ≡ true → flushes_at_markers window.rule ≡ false
    → IsLocal (one_in n (A.Aggregate window partition group collects) functions types s outs) partition
aggregate_is_local n functions types s outs window partition group collects partitioned passing = record { tuples = tuples; others = others }
  where
    op : Operator
    op = one_in n (A.Aggregate window partition group collects) functions types s outs

    fired : Item → List Event → List (List (List Value))
    fired x h = fired_at window.rule (partition_key window partition) x (port_items 0 (port_events op h))

    at_tuple_gives : List Value → List (List (List Value)) → Makes
    at_tuple_gives vs contents =
        followed (arguments functions collects (at_tuple vs) most_turns) (λ values turns. need (contents_give functions group collects window.rule contents) (λ outs. Done outs turns))

    at_marker_gives : List (List (List Value)) → Makes
    at_marker_gives contents = need (contents_give functions group collects window.rule contents) (λ outs. Done (outs ++ marker_passed window.rule) most_turns)

    tuples : (h k : List Event) (vs : List Value) → is_live op h ≡ true → is_live op k ≡ true
        → tuples_of_key partition (key_of vs partition) h ≡ tuples_of_key partition (key_of vs partition) k
        → react op h (came 0 (I.Tuple vs)) ≡ react op k (came 0 (I.Tuple vs))
    tuples h k vs live also same = ap (λ contents. answered op false (answer (at_tuple_gives vs contents)))
        (same_fires n (A.Aggregate window partition group collects) functions types s outs window partition partitioned h k vs same)

    others : (h k : List Event) (x : Item) → is_tuple x ≡ false → is_live op h ≡ true → is_live op k ≡ true → react op h (came 0 x) ≡ react op k (came 0 x)
    others h k (I.Tuple vs) q live also = absurd (let no : true ≡ false = q in cc)
    others h k I.Window q live also = ap (λ contents. answered op false (answer (at_marker_gives contents)))
        (fires_nothing window partition (port_items 0 (port_events op h)) passing ∙ sym (fires_nothing window partition (port_items 0 (port_events op k)) passing))
    others h k I.Final q live also = refl
    others h k (I.Bad f) q live also = refl

-- ---- the law

keeps_keys : (b : Bool) (mine places : List ℕ) → (if b then K.Keyed mine else K.Whole) ≡ K.Keyed places → (b ≡ true) × (mine ≡ places)
keeps_keys true mine places q = (refl, let same : K.Keyed mine ≡ K.Keyed places = q in cc)
keeps_keys false mine places q = absurd (let no : K.Whole ≡ K.Keyed places = q in cc)

no_keys : (b : Bool) (places : List ℕ) → (if b then K.Whole else K.Stateless) ≡ K.Keyed places → ⊥
no_keys true places q = let no : K.Whole ≡ K.Keyed places = q in absurd cc
no_keys false places q = let no : K.Stateless ≡ K.Keyed places = q in absurd cc

local_in : (n : ℕ) (part : CheckedClauses) (functions : List Function) (types : PortTypes) (s : ℕ) (outs : List ℕ) (places : List ℕ) → state_by part ≡ K.Keyed places
    → IsLocal (one_in n part functions types s outs) places
local_in n (A.Aggregate window partition group collects) functions types s outs places q =
    let keys = keeps_keys (window.partitioned && not (flushes_at_markers window.rule)) partition places q in
    let rules = and_not_parts window.partitioned (flushes_at_markers window.rule) keys.0 in
    subst (λ ps. IsLocal (one_in n (A.Aggregate window partition group collects) functions types s outs) ps) keys.1
    (aggregate_is_local n functions types s outs window partition group collects rules.0 rules.1)
local_in n (A.Custom handlers) functions types s outs places q = absurd (no_keys (has_mutable handlers) places q)
local_in n _ functions types s outs places q = absurd (let no : false ≡ true = ap is_keyed q in cc)

pub keyed_law : KeyedLaw
keyed_law op s places one q =
    let same : one_in op.number op.clauses op.functions op.types s op.outs ≡ op =
    λ i. record { number = op.number; clauses = op.clauses; functions = op.functions; types = op.types; ins = sym one i; outs = op.outs } in
    subst (λ o. IsLocal o places) same (local_in op.number op.clauses op.functions op.types s op.outs places q)
