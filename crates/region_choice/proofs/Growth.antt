-- What is kept of a region with an operator more.
use Rattle.std.specs.Prelude.{◌≡◌, ◌⊎◌, ◌<◌, ◌==◌, ◌&&◌, ◌||◌, not, ℕ, Bool, true, false, if◌then◌else◌, List, [], ◌∷◌, ◌++◌, map, filter, length, Option, None, Some, slice_get}
use Rattle.std.specs.List.{list_all, list_any}
use Rattle.std.specs.Option.{option_and_then, option_map_or, unwrap_or}
use Rattle.std.proofs.Common.{refl, sym, ap, ◌∙◌, subst, inl, inr}
use Rattle.std.proofs.Math.Path.{fun_ext}
use Rattle.std.proofs.lemmas.Bool.{eqb-true}
use Rattle.std.proofs.lemmas.List.{map-append}
use Rattle.std.proofs.lemmas.List.Folds.{list_all-append}
use Rattle.spl_value.proofs.Lists.{append_cases, get_below, get_within}
use Rattle.spl_tree.specs.declared.graph.Op.{Op}
use Rattle.language_model.specs.declared.checked.CollectedAttribute.{CollectedAttribute}
use Rattle.language_model.specs.declared.checked.CheckedClauses.{CheckedClauses}
use Rattle.language_model.specs.declared.checked.CheckedClauses.TheVariants as A
use Rattle.language_model.specs.CheckedGraph.{CheckedGraph}
use Rattle.attribute_flow.specs.Chains.{AreNumbers, traced}
use Rattle.stream_model.specs.declared.plan.Merge.TheVariants as M
use Rattle.stream_model.specs.declared.plan.StateKind.{StateKind}
use Rattle.stream_model.specs.declared.plan.StateKind.TheVariants as K
use Rattle.stream_model.specs.CheckedMeaning.{first_schema, graph_of}
use Rattle.stream_model.specs.Copies.{aggregate_source, attribute_alone, kept_source, picks, source_of, trace}
use Rattle.stream_model.specs.Meaning.{Graph}
use Rattle.stream_model.specs.Operators.{Operator, input_attributes}
use Rattle.stream_model.specs.Regions.{any_keyed, chain_key, chain_merge, entry_attributes, has_copy, numbers_to, ops_of}
use Rattle.stream_model.specs.parts.Regions.{is_one_each}
use Rattle.stream_model.specs.StateKinds.{is_keyed, state_by, state_of}
use Rattle.stream_model.specs.parts.StateKinds.{has_mutable}
use Rattle.stream_model.specs.Stream.{is_empty}
use Rattle.stream_model.specs.Windows.{flushes_at_markers}
use Rattle.region_choice.specs.declared.growing.Growing.{Growing}
use Rattle.region_choice.specs.declared.keys.KeySource.{KeySource}
use Rattle.region_choice.specs.steps.GraphChains.{has_key}
use Rattle.region_choice.specs.steps.Growing.{added, first_or, Grows, IsGrown, IsLonger, key_source, key_with, leads, merge_of, nothing, region_of}
use Rattle.region_choice.specs.steps.Keys.{is_copied, source_at}
use Rattle.region_choice.specs.steps.Ports.{first_input}
use Rattle.region_choice.proofs.KeyLaws.{and_true, clauses, copied_is, key_narrows, key_stays, keyed_more, or_false, or_true, safe_narrows, safe_stays}
use Rattle.region_choice.proofs.Plans.{made}
use Rattle.region_choice.proofs.Soundness.{aggregate_keyed, custom_not}
use Rattle.attribute_flow.proofs.Chaining.{trace_last, ops_last}
use Rattle.stream_model.proofs.GraphParts.{operator_at}

-- ---- attributes of the stream that a region reads

input_is : (c : CheckedGraph) (ins : List (List ℕ)) → unwrap_or (slice_get (map (first_schema c) ins) 0) [] ≡ first_input c ins
input_is c [] = refl
input_is c (streams ∷ ins) = refl

width_of : (c : CheckedGraph) (g : Graph) → graph_of c ≡ g → (n : ℕ) (o : Operator) (own : Op) → slice_get g.ops n ≡ Some o → slice_get c.graph.ops n ≡ Some own
    → input_attributes o 0 ≡ first_input c own.ins
width_of c g e n o own at there =
    let is = operator_at c g e n o at in
    let found : slice_get c.graph.ops n ≡ Some is.op = is.there in
    let same : is.op ≡ own = cc in
    ap (λ (o : Operator). input_attributes o 0) is.same ∙ input_is c is.op.ins ∙ ap (λ (op : Op). first_input c op.ins) same

first_there : (g : Graph) (ops : List ℕ) (n : ℕ) (o : Operator) → slice_get g.ops n ≡ Some o → AreNumbers g ops → (x : Operator) × (slice_get g.ops (first_or n ops) ≡ Some x)
    × (entry_attributes (ops_of g (ops ++ n ∷ [])) ≡ numbers_to (length (input_attributes x 0)))
first_there g [] n o at all = (o, at, ap (λ found. entry_attributes (option_map_or (λ op. op ∷ []) found [])) at)
first_there g (m ∷ ops) n o at all =
    let x = get_below g.ops m (all 0 m refl) in
    (x.0, x.1, ap (λ found. entry_attributes (option_map_or (λ op. op ∷ ops_of g (ops ++ n ∷ [])) found (ops_of g (ops ++ n ∷ [])))) x.1)

pub width_is : (c : CheckedGraph) (g : Graph) → graph_of c ≡ g → (ops : List ℕ) (n : ℕ) (o : Operator) → slice_get g.ops n ≡ Some o → AreNumbers g ops → (first : ℕ) → first ≡ first_or n ops
    → (own : Op) → slice_get c.graph.ops first ≡ Some own → (w : ℕ) → w ≡ length (first_input c own.ins) → numbers_to w ≡ entry_attributes (ops_of g (ops ++ n ∷ []))
width_is c g e ops n o at all first is own there w wide =
    let x = first_there g ops n o at all in
    let width = width_of c g e (first_or n ops) x.0 own x.1 (ap (slice_get c.graph.ops) (sym is) ∙ there) in
    ap numbers_to (wide ∙ ap length (sym width)) ∙ sym x.2

pub width_there : (c : CheckedGraph) (g : Graph) → graph_of c ≡ g → (ops : List ℕ) (n : ℕ) (o : Operator) → slice_get g.ops n ≡ Some o → AreNumbers g ops → (first : ℕ) → first ≡ first_or n ops
    → slice_get c.graph.ops first ≡ None → ⊥
width_there c g e ops n o at all first is none =
    let x = first_there g ops n o at all in
    let there = operator_at c g e (first_or n ops) x.0 x.1 in
    let found : slice_get c.graph.ops (first_or n ops) ≡ Some there.op = there.there in
    let same : slice_get c.graph.ops (first_or n ops) ≡ None = ap (slice_get c.graph.ops) (sym is) ∙ none in
    absurd cc

-- ---- copies

traced_last : (g : Graph) (ns : List ℕ) (n : ℕ) (o : Operator) (a : ℕ) → slice_get g.ops n ≡ Some o → traced g (ns ++ n ∷ []) a ≡ option_and_then (traced g ns) (source_of o.clauses a)
traced_last g ns n o a at =
    ap (λ ops. trace (clauses ops) a) (ops_last g ns n o at)
    ∙ ap (λ parts. trace parts a) (map-append (λ (op : Operator). op.clauses) (ops_of g ns) (o ∷ []))
    ∙ trace_last (clauses (ops_of g ns)) o.clauses a

-- a Keyed operator passes its keys alone
kept_key : (partition : List ℕ) (x : CollectedAttribute) (b : ℕ) → kept_source partition x ≡ Some b → list_any (λ p. p == b) partition ≡ true
kept_key partition x b h = by_case (picks x.collector) h where
  by_place : (q : Bool) (d : ℕ) → list_any (λ p. p == d) partition ≡ q → (if q then Some d else None) ≡ Some b → list_any (λ p. p == b) partition ≡ true
  by_place true d e h = let same : d ≡ b = cc in subst (λ d. list_any (λ p. p == d) partition ≡ true) same e
  by_place false d e h = absurd cc

  by_source : (found : Option ℕ) → option_and_then (λ d. if list_any (λ p. p == d) partition then Some d else None) found ≡ Some b → list_any (λ p. p == b) partition ≡ true
  by_source None h = absurd cc
  by_source (Some d) h = by_place (list_any (λ p. p == d) partition) d refl h

  by_case : (q : Bool)
      → (if q then option_and_then (λ d. if list_any (λ p. p == d) partition then Some d else None) (option_and_then attribute_alone x.argument) else None) ≡ Some b
      → list_any (λ p. p == b) partition ≡ true
  by_case true h = by_source (option_and_then attribute_alone x.argument) h
  by_case false h = absurd cc

collected_key : (partition : List ℕ) (xs : List CollectedAttribute) (a b : ℕ) → aggregate_source partition xs a ≡ Some b → list_any (λ p. p == b) partition ≡ true
collected_key partition [] a b h = absurd cc
collected_key partition (x ∷ xs) a b h = by_case (λ k. collected_key partition xs a b k) (x.attribute == a) h where
  by_case : (aggregate_source partition xs a ≡ Some b → list_any (λ p. p == b) partition ≡ true) → (q : Bool)
      → (if q then kept_source partition x else aggregate_source partition xs a) ≡ Some b → list_any (λ p. p == b) partition ≡ true
  by_case rest true h = kept_key partition x b h
  by_case rest false h = rest h

keyed_source : (part : CheckedClauses) (places : List ℕ) (a b : ℕ) → state_by part ≡ K.Keyed places → source_of part a ≡ Some b → list_any (λ p. p == b) places ≡ true
keyed_source (A.FileSource file strict) places a b is h = absurd cc
keyed_source (A.FileSink file) places a b is h = absurd cc
keyed_source (A.Filter condition) places a b is h = absurd cc
keyed_source (A.Functor condition made) places a b is h = absurd cc
keyed_source (A.Punctor condition position) places a b is h = absurd cc
keyed_source (A.Split index) places a b is h = absurd cc
keyed_source (A.Union ps) places a b is h = absurd cc
keyed_source (A.Custom handlers) places a b is h = absurd (custom_not (has_mutable handlers) places is)
keyed_source (A.Aggregate window partition group output) places a b is h =
    let parts = aggregate_keyed window.partitioned (not (flushes_at_markers window.rule)) partition places is in
    subst (λ (ps : List ℕ). list_any (λ p. p == b) ps ≡ true) parts.1 (collected_key partition output a b h)
keyed_source (A.Join left right condition made) places a b is h = absurd cc

found_source : (source : ℕ → Option ℕ) (places : List ℕ) (b : ℕ) → list_any (λ p. p == b) places ≡ true
    → source_at (map (λ p. record { place = p; source = source p }) places) b ≡ source b
found_source source [] b h = absurd cc
found_source source (p ∷ places) b h = by_case (λ k. found_source source places b k) (p == b) refl h where
  by_case : (list_any (λ p. p == b) places ≡ true → source_at (map (λ p. record { place = p; source = source p }) places) b ≡ source b) → (q : Bool) → (p == b) ≡ q
      → (q || list_any (λ p. p == b) places) ≡ true → (if q then source p else source_at (map (λ p. record { place = p; source = source p }) places) b) ≡ source b
  by_case rest true e h = ap source (eqb-true p b e)
  by_case rest false e h = rest h

-- ---- numbers

numbers_more : (g : Graph) (ns : List ℕ) (n : ℕ) (o : Operator) → slice_get g.ops n ≡ Some o → AreNumbers g ns → AreNumbers g (ns ++ n ∷ [])
numbers_more g ns n o at all i m there = by_case (append_cases ns n i m there) where
  within : n < length g.ops
  within = get_within g.ops n o at

  by_case : (slice_get ns i ≡ Some m) ⊎ ((i ≡ length ns) × (n ≡ m)) → m < length g.ops
  by_case (inl before) = all i m before
  by_case (inr same) = subst (λ k. k < length g.ops) same.1 within

-- ---- the whole

pub nothing_grown : (g : Graph) → IsGrown g nothing
nothing_grown g = record {
  key = refl;
  keyed = refl;
  one_each = refl;
  safe = refl;
  leads_back = λ a. refl;
  numbers = λ i n at. absurd cc;
  in_segment = λ i n at. absurd cc;
}

one_each_more : (g : Graph) (growing : Growing) (n : ℕ) (o : Operator) → slice_get g.ops n ≡ Some o → IsGrown g growing
    → (growing.one_each && is_one_each o) ≡ list_all is_one_each (ops_of g (growing.ops ++ n ∷ []))
one_each_more g growing n o at h =
    ap (λ b. b && is_one_each o) h.one_each ∙ ap (λ b. list_all is_one_each (ops_of g growing.ops) && b) (sym (and_true (is_one_each o)))
    ∙ sym (ap (list_all is_one_each) (ops_last g growing.ops n o at) ∙ list_all-append is_one_each (ops_of g growing.ops) (o ∷ []))

-- one that isn't Keyed
pub plain_state : (state own : StateKind) → own ≡ state → (state ≡ K.Stateless) ⊎ (state ≡ K.Whole) → is_keyed own ≡ false
plain_state state own e (inl is) = ap is_keyed (e ∙ is)
plain_state state own e (inr is) = ap is_keyed (e ∙ is)

pub plain_longer : (g : Graph) (old : Growing) (n : ℕ) (o : Operator) (new : Growing) → slice_get g.ops n ≡ Some o → is_keyed (state_of o) ≡ false → IsGrown g old
    → new ≡ added o n old → IsLonger g old n new
plain_longer g old n o new at plain h is = subst (IsLonger g old n) (sym is) (record { ops = refl; grown = grown }) where
  twice : (found : Option ℕ)
      → option_and_then (λ b. option_and_then (leads old) (traced g old.segment b)) found ≡ option_and_then (leads old) (option_and_then (traced g old.segment) found)
  twice None = refl
  twice (Some b) = refl

  grown : IsGrown g (added o n old)
  grown = record {
    key = h.key ∙ sym (ap chain_key (ops_last g old.ops n o at) ∙ key_stays (ops_of g old.ops) o plain);
    keyed = h.keyed
        ∙ sym (ap any_keyed (ops_last g old.ops n o at) ∙ keyed_more (ops_of g old.ops) o ∙ ap (λ b. any_keyed (ops_of g old.ops) || b) plain ∙ or_false (any_keyed (ops_of g old.ops)));
    one_each = one_each_more g old n o at h;
    safe = ap has_key (ops_last g old.ops n o at) ∙ safe_stays (ops_of g old.ops) o plain ∙ h.safe;
    leads_back = λ a.
        traced_last g old.ops n o a at
        ∙ ap (λ (f : ℕ → Option ℕ). option_and_then f (source_of o.clauses a)) (fun_ext h.leads_back)
        ∙ twice (source_of o.clauses a)
        ∙ ap (option_and_then (leads old)) (sym (traced_last g old.segment n o a at));
    numbers = numbers_more g old.ops n o at h.numbers;
    in_segment = numbers_more g old.segment n o at h.in_segment;
  }

-- the key with a Keyed one
pub key_is : (g : Graph) (old : Growing) (n : ℕ) (o : Operator) (places : List ℕ) (sources : List KeySource) (key : List ℕ) → slice_get g.ops n ≡ Some o
    → state_of o ≡ K.Keyed places → IsGrown g old → sources ≡ map (key_source g old.ops) places
    → key ≡ key_with old sources (entry_attributes (ops_of g (old.ops ++ n ∷ []))) → key ≡ chain_key (ops_of g (old.ops ++ n ∷ []))
key_is g old n o places sources key at is h from k =
    let more = ops_last g old.ops n o at in
    let before = ops_of g old.ops in
    k
    ∙ ap (λ (xs : List KeySource). filter (is_copied xs) (if old.keyed then old.key else entry_attributes (ops_of g (old.ops ++ n ∷ [])))) from
    ∙ ap (λ (test : ℕ → Bool). filter test (if old.keyed then old.key else entry_attributes (ops_of g (old.ops ++ n ∷ [])))) (fun_ext (copied_is (traced g old.ops) places))
    ∙ ap (λ b. filter (has_copy (traced g old.ops) (K.Keyed places)) (if b then old.key else entry_attributes (ops_of g (old.ops ++ n ∷ [])))) h.keyed
    ∙ ap (λ key. filter (has_copy (traced g old.ops) (K.Keyed places)) (if any_keyed before then key else entry_attributes (ops_of g (old.ops ++ n ∷ [])))) h.key
    ∙ ap (λ ops. filter (has_copy (traced g old.ops) (K.Keyed places)) (if any_keyed before then chain_key before else entry_attributes ops)) more
    ∙ sym (ap chain_key more ∙ key_narrows before o places is)

safe_is : (g : Graph) (old : Growing) (n : ℕ) (o : Operator) (places key : List ℕ) → slice_get g.ops n ≡ Some o → state_of o ≡ K.Keyed places
    → key ≡ chain_key (ops_of g (old.ops ++ n ∷ [])) → has_key (ops_of g (old.ops ++ n ∷ [])) ≡ not (is_empty key)
safe_is g old n o places key at is k =
    ap has_key (ops_last g old.ops n o at) ∙ safe_narrows (ops_of g old.ops) o places is
    ∙ ap (λ key. not (is_empty key)) (sym (k ∙ ap chain_key (ops_last g old.ops n o at)))

-- where it is empty
pub no_key : (g : Graph) (old : Growing) (n : ℕ) (o : Operator) (places key : List ℕ) → slice_get g.ops n ≡ Some o → state_of o ≡ K.Keyed places
    → key ≡ chain_key (ops_of g (old.ops ++ n ∷ [])) → key ≡ [] → has_key (ops_of g (old.ops ++ n ∷ [])) ≡ false
no_key g old n o places key at is k none = safe_is g old n o places key at is k ∙ ap (λ key. not (is_empty key)) none

some_key : (key : List ℕ) → (key ≡ [] → ⊥) → not (is_empty key) ≡ true
some_key [] h = absurd (h refl)
some_key (a ∷ key) h = refl

-- and where it isn't
pub keyed_longer : (g : Graph) (old : Growing) (n : ℕ) (o : Operator) (places : List ℕ) (sources : List KeySource) (key segment : List ℕ) (new : Growing) → slice_get g.ops n ≡ Some o
    → state_of o ≡ K.Keyed places → IsGrown g old → sources ≡ map (key_source g old.ops) places → key ≡ chain_key (ops_of g (old.ops ++ n ∷ [])) → (key ≡ [] → ⊥)
    → segment ≡ [] → new ≡ added o n (record { ops = old.ops; key = key; keyed = true; one_each = old.one_each; segment = segment; sources = sources }) → IsLonger g old n new
keyed_longer g old n o places sources key segment new at is h from k some emptied made_so =
    subst (IsLonger g old n)
    (sym (made_so ∙ ap (λ (seg : List ℕ). added o n (record { ops = old.ops; key = key; keyed = true; one_each = old.one_each; segment = seg; sources = sources })) emptied))
    (record { ops = refl; grown = grown }) where
      leads_to : (found : Option ℕ) → ((b : ℕ) → found ≡ Some b → list_any (λ p. p == b) places ≡ true)
          → option_and_then (traced g old.ops) found ≡ option_and_then (source_at sources) found
      leads_to None among = refl
      leads_to (Some b) among = sym (ap (λ (xs : List KeySource). source_at xs b) from ∙ found_source (traced g old.ops) places b (among b refl))

      grown : IsGrown g (added o n (record { ops = old.ops; key = key; keyed = true; one_each = old.one_each; segment = []; sources = sources }))
      grown = record {
        key = k;
        keyed = sym (ap any_keyed (ops_last g old.ops n o at) ∙ keyed_more (ops_of g old.ops) o ∙ ap (λ state. any_keyed (ops_of g old.ops) || is_keyed state) is
            ∙ or_true (any_keyed (ops_of g old.ops)));
        one_each = one_each_more g old n o at h;
        safe = safe_is g old n o places key at is k ∙ some_key key some;
        leads_back = λ a.
            traced_last g old.ops n o a at
            ∙ leads_to (source_of o.clauses a) (λ b found. keyed_source o.clauses places a b is found)
            ∙ ap (λ found. option_and_then (source_at sources) (trace (clauses (option_map_or (λ op. op ∷ []) found [])) a)) (sym at);
        numbers = numbers_more g old.ops n o at h.numbers;
        in_segment = numbers_more g [] n o at (λ i m there. absurd cc);
      }

-- the merge and the region
merge_is : (keyed one_each : Bool) → merge_of keyed one_each ≡ (if one_each then (if keyed then M.Numbers else M.Turns) else M.Pulses)
merge_is keyed true = refl
merge_is keyed false = refl

pub region_is : (g : Graph) (growing : Growing) → IsGrown g growing → region_of growing ≡ made g growing.ops
region_is g growing h =
    let merge : merge_of growing.keyed growing.one_each ≡ chain_merge (ops_of g growing.ops) =
    (λ i. merge_of (h.keyed i) (h.one_each i)) ∙ merge_is (any_keyed (ops_of g growing.ops)) (list_all is_one_each (ops_of g growing.ops)) in
    λ i. record { ops = growing.ops; key = h.key i; merge = merge i }

pub begun : (g : Graph) (n : ℕ) (taken : Bool) (region : Growing) → has_key (ops_of g (n ∷ [])) ≡ true → Grows g nothing n taken region → IsLonger g nothing n region
begun g n true region safe h = h
begun g n false region safe h = absurd (let unsafe : has_key (ops_of g (n ∷ [])) ≡ false = h in cc)
