-- What the links inside a region carry is proper.
use Rattle.std.proofs.Common.{◌≡◌, ◌<◌, ℕ, suc, ◌+◌, ◌==◌, ◌&&◌, Bool, true, false, List, [], ◌∷◌, ◌++◌, map, length, refl, sym, ap, ◌∙◌, arith, cond, subst, Some, slice_get}
use Rattle.std.specs.Prelude.{filter, nat_le}
use Rattle.std.specs.List.{AllByRecursion, concat, enumerate_from, list_all, list_any}
use Rattle.std.specs.Option.{unwrap_or}
use Rattle.std.proofs.lemmas.Bool.{and_parts, and_from, eqb-true}
use Rattle.spl_value.proofs.Bools.{or_false}
use Rattle.spl_value.proofs.Lists.{all_at}
use Rattle.spl_value.specs.declared.item.Item.{Item}
use Rattle.spl_value.specs.declared.packet.Packet.{Packet}
use Rattle.spl_value.specs.declared.routing.Routing.{Routing}
use Rattle.spl_value.specs.Numbered.{IsProper, closes, cut, ends_once, item_fits, items_of}
use Rattle.spl_value.specs.Route.{route}
use Rattle.language_model.specs.declared.checked.CheckedClauses.{CheckedClauses}
use Rattle.language_model.specs.declared.checked.CheckedClauses.TheVariants as A
use Rattle.language_model.specs.declared.outs.Output.{Output}
use Rattle.language_model.specs.CheckedGraph.{CheckedGraph}
use Rattle.language_model.specs.Keeping.{Keeps}
use Rattle.language_model.specs.StreamTypes.{Attributes}
use Rattle.stream_model.specs.declared.plan.Region.{Region}
use Rattle.stream_model.specs.CheckedMeaning.{first_schema, graph_of, schema_at}
use Rattle.stream_model.specs.Fitting.{EventFits, EventsFit, IsFitting, ReactsFit}
use Rattle.stream_model.specs.Meaning.{Graph}
use Rattle.stream_model.specs.Operators.{Operator, connections, input_attributes, output_attributes, ports, ports_from}
use Rattle.stream_model.specs.parts.Operators.{port_at}
use Rattle.stream_model.specs.PortLaws.{has_connections}
use Rattle.stream_model.specs.React.{react}
use Rattle.stream_model.specs.Regions.{IsPlan, IsRegion, follows, has_pulses, is_chain, is_eligible, ops_of, routing_by, rule_of, width_of}
use Rattle.stream_model.specs.Replicas.{replica, under}
use Rattle.stream_model.specs.Replies.{AllFit, ItemHas, given_attributes, is_live}
use Rattle.stream_model.specs.Sending.{on_output, replies, splits}
use Rattle.stream_model.specs.Stages.{on_port, start}
use Rattle.stream_model.specs.StateKinds.{is_whole_state, state_by}
use Rattle.stream_model.specs.Stream.{came, is_empty}
use Rattle.stream_model.proofs.AggregateFits.{aggregate_fits}
use Rattle.stream_model.proofs.CheckedOperators.{checked_fits}
use Rattle.stream_model.proofs.FittingEvents.{of_kinds, reacts_fit}
use Rattle.stream_model.proofs.GraphParts.{operator_at}
use Rattle.stream_model.proofs.JoinFits.{join_fits}
use Rattle.stream_model.proofs.SimpleFits.{simple_fits}
use Rattle.stream_model.proofs.StageLaws.{stage_at}
use Rattle.port_reacts.proofs.CustomFits.{custom_fits}
use Rattle.channel_heads.proofs.ByNumber.{Tagged}
use Rattle.region_laws.specs.RegionProper.{ProperLaw, entry_schema, exit_schema}
use Rattle.region_laws.specs.PlanFronts.{region_sends}
use Rattle.region_laws.proofs.NumberedItems.{items, items-cut}
use Rattle.region_laws.proofs.RegionFronts.{falls-replies, items-replies, stops-replies}
use Rattle.region_laws.proofs.RegionLaw.{checked_connected, ops_all, region_some}
use Rattle.region_laws.proofs.SafeChains.{chain_members}
use Rattle.region_laws.proofs.Splits.{split_law}
use Rattle.region_laws.proofs.Stagewise.{by_operators, stage_gives, staged}
use Rattle.region_laws.proofs.Unended.{IsMember, acts, ends, history_of, live_more, over-nothing, replica-unended, unended_chain}

never : {A : Type 0} → false ≡ true → A
never e = absurd cc

fitting : ReactsFit
fitting = reacts_fit (of_kinds simple_fits custom_fits aggregate_fits join_fits)

-- ---- what an operator gives has its attributes

abbrev AllHave : Attributes → List Tagged → Type 0
AllHave schema ps = AllByRecursion (λ (p : Tagged). ItemHas schema p.1) ps

under-have : (schema : Attributes) (n : ℕ) (xs : List Item) (ps : List Tagged) → AllByRecursion (ItemHas schema) xs → AllHave schema ps → AllHave schema (under n xs ++ ps)
under-have schema n [] ps h r = r
under-have schema n (x ∷ xs) ps h r = (h.0, under-have schema n xs ps h.1 r)

-- an operator that keeps a state by keys or none is no sink
no_sink : (op : Operator) (part : CheckedClauses) → op.clauses ≡ part → is_whole_state (state_by part) ≡ false → given_attributes op.clauses op 0 ≡ output_attributes op 0
no_sink op (A.FileSink file) is h = never (sym h)
no_sink op (A.FileSource file strict) is h = ap (λ part. given_attributes part op 0) is
no_sink op (A.Join left right condition made) is h = ap (λ part. given_attributes part op 0) is
no_sink op (A.Filter condition) is h = ap (λ part. given_attributes part op 0) is
no_sink op (A.Functor condition made) is h = ap (λ part. given_attributes part op 0) is
no_sink op (A.Punctor condition position) is h = ap (λ part. given_attributes part op 0) is
no_sink op (A.Split index) is h = ap (λ part. given_attributes part op 0) is
no_sink op (A.Union places) is h = ap (λ part. given_attributes part op 0) is
no_sink op (A.Custom handlers) is h = ap (λ part. given_attributes part op 0) is
no_sink op (A.Aggregate window partition group collects) is h = ap (λ part. given_attributes part op 0) is

module _ (op : Operator) (m : IsMember op) (fit : IsFitting op) where
  one_port : ports op ≡ 0 ∷ []
  one_port = ap (ports_from 0) m.reads

  event_fits : (x : Item) → ItemHas (input_attributes op 0) x → EventFits op (came 0 x)
  event_fits x h = (
    subst (λ (ps : List ℕ). 0 < length ps) (sym one_port) (omega arith),
    subst (λ (ps : List ℕ). ItemHas (input_attributes op (port_at ps 0)) x) (sym one_port) h,
  )

  first_have : (outs : List Output) → AllFit op outs → AllByRecursion (ItemHas (given_attributes op.clauses op 0)) (on_port 0 outs)
  first_have [] h = tt
  first_have (o ∷ outs) h = go (o.port == 0) refl (first_have outs (λ i. h (suc i))) where
    go : (b : Bool) → (o.port == 0) ≡ b → AllByRecursion (ItemHas (given_attributes op.clauses op 0)) (on_port 0 outs)
        → AllByRecursion (ItemHas (given_attributes op.clauses op 0)) (cond b (o.item ∷ on_port 0 outs) (on_port 0 outs))
    go true e rest = (subst (λ (p : ℕ). ItemHas (given_attributes op.clauses op p) o.item) (eqb-true o.port 0 e) (h 0 o refl), rest)
    go false e rest = rest

  acts_have : (S : List Tagged) (x : Item) → EventsFit op (history_of S) → is_live op (history_of S) ≡ true → ItemHas (input_attributes op 0) x
      → AllByRecursion (ItemHas (output_attributes op 0)) (acts op S x)
  acts_have S x events live h =
      subst (λ (schema : Attributes). AllByRecursion (ItemHas schema) (acts op S x)) (no_sink op op.clauses refl m.kept)
      (first_have (react op (history_of S) (came 0 x)) (fitting op (history_of S) (came 0 x) fit events live (event_fits x h)).1)

  stage_have : (S ps : List Tagged) → EventsFit op (history_of S) → is_live op (history_of S) ≡ true → AllHave (input_attributes op 0) ps
      → AllHave (output_attributes op 0) (stage_gives (stage_at op (history_of S) false) ps)
  stage_have S [] events live h = tt
  stage_have S (p ∷ ps) events live h =
      go (ends op S p.1) refl (acts_have S p.1 events live h.0)
      (λ e. stage_have (p ∷ S) ps (event_fits p.1 h.0, events) (live_more op p S live e) h.1)
    where
      go : (b : Bool) → ends op S p.1 ≡ b → AllByRecursion (ItemHas (output_attributes op 0)) (acts op S p.1)
          → (b ≡ false → AllHave (output_attributes op 0) (stage_gives (stage_at op (history_of (p ∷ S)) false) ps))
          → AllHave (output_attributes op 0) (under p.0 (acts op S p.1) ++ stage_gives (stage_at op (history_of (p ∷ S)) b) ps)
      go true e here rest =
          under-have (output_attributes op 0) p.0 (acts op S p.1) (stage_gives (stage_at op (history_of (p ∷ S)) true) ps) here
          (subst (AllHave (output_attributes op 0)) (sym (over-nothing op (history_of (p ∷ S)) ps)) tt)
      go false e here rest =
          under-have (output_attributes op 0) p.0 (acts op S p.1) (stage_gives (stage_at op (history_of (p ∷ S)) false) ps) here (rest refl)

-- ---- along a chain

-- operators whose clauses fit, each of which reads the attributes that the one before it makes
abbrev pub AreTyped : List Operator → Type 0
AreTyped [] = Unit {0}
AreTyped (op ∷ []) = IsFitting op
AreTyped (op ∷ next ∷ ops) = IsFitting op × (output_attributes op 0 ≡ input_attributes next 0) × AreTyped (next ∷ ops)

staged_have : (op : Operator) (ops : List Operator) (ps : List Tagged) → AllByRecursion IsMember (op ∷ ops) → AreTyped (op ∷ ops)
    → AllHave (input_attributes op 0) ps → AllHave (exit_schema (op ∷ ops)) (staged (op ∷ ops) ps)
staged_have op [] ps ms typed h = stage_have op ms.0 typed [] ps tt refl h
staged_have op (next ∷ ops) ps ms typed h =
    staged_have next ops (stage_gives (start op) ps) ms.1 typed.2
    (subst (λ (schema : Attributes). AllHave schema (stage_gives (start op) ps)) typed.1 (stage_have op ms.0 typed.0 [] ps tt refl h))

-- the operators of a checked graph: their attributes are those of their streams
pub record TypesOf (c : CheckedGraph) (op : Operator) : Type 0 where
  pub fit : IsFitting op
  pub reads : (s : ℕ) → op.ins ≡ (s ∷ []) ∷ [] → input_attributes op 0 ≡ schema_at c s
  pub makes : (t : ℕ) → op.outs ≡ t ∷ [] → output_attributes op 0 ≡ schema_at c t

pub types_of : (c : CheckedGraph) → Keeps c → (n : ℕ) (op : Operator) → slice_get (graph_of c).ops n ≡ Some op → TypesOf c op
types_of c keeps n op at =
    let is = operator_at c (graph_of c) refl n op at in
    record {
      fit = checked_fits c n op keeps at;
      reads = λ s e. ap (λ (o : Operator). input_attributes o 0) is.same
          ∙ ap (λ (ins : List (List ℕ)). unwrap_or (slice_get (map (first_schema c) ins) 0) []) (sym (ap (λ (o : Operator). o.ins) is.same) ∙ e);
      makes = λ t e. ap (λ (o : Operator). output_attributes o 0) is.same
          ∙ ap (λ (outs : List ℕ). unwrap_or (slice_get (map (schema_at c) outs) 0) []) (sym (ap (λ (o : Operator). o.outs) is.same) ∙ e);
    }

-- an operator that follows another one in a chain reads the stream that this one makes
same_stream : (g : Graph) (op next : Operator) (t s : ℕ) → op.outs ≡ t ∷ [] → next.ins ≡ (s ∷ []) ∷ [] → follows g op next ≡ true → s ≡ t
same_stream g op next t s writes reads h =
    let all = ap (list_all (λ u. list_any (λ v. v == u) (connections next) && (length (filter (λ v. v == u) (concat (map connections g.ops))) == 1))) (sym writes) ∙ h in
    let one = and_parts (list_any (λ v. v == t) (connections next) && (length (filter (λ v. v == t) (concat (map connections g.ops))) == 1)) true all in
    let two = and_parts (list_any (λ v. v == t) (connections next)) (length (filter (λ v. v == t) (concat (map connections g.ops))) == 1) one.0 in
    eqb-true s t (sym (or_false (s == t)) ∙ ap (λ (ins : List (List ℕ)). list_any (λ v. v == t) (concat ins)) (sym reads) ∙ two.0)

pub chain_typed : (c : CheckedGraph) (ops : List Operator) → AllByRecursion IsMember ops → AllByRecursion (TypesOf c) ops → is_chain (graph_of c) ops ≡ true → AreTyped ops
chain_typed c [] ms ts h = tt
chain_typed c (op ∷ []) ms ts h = ts.0.fit
chain_typed c (op ∷ next ∷ ops) ms ts h =
    let first = and_parts (is_eligible op) (follows (graph_of c) op next && is_chain (graph_of c) (next ∷ ops)) h in
    let second = and_parts (follows (graph_of c) op next) (is_chain (graph_of c) (next ∷ ops)) first.1 in
    let same = same_stream (graph_of c) op next ms.0.output ms.1.0.input ms.0.writes ms.1.0.reads second.0 in (
      ts.0.fit,
      ts.0.makes ms.0.output ms.0.writes ∙ ap (schema_at c) (sym same) ∙ sym (ts.1.0.reads ms.1.0.input ms.1.0.reads),
      chain_typed c (next ∷ ops) ms.1 ts.1 second.1,
    )

-- ---- items that have attributes

all_have : (schema : Attributes) (ps : List Tagged) → list_all (λ (p : Tagged). item_fits schema p.1) ps ≡ true → AllHave schema ps
all_have schema [] h = tt
all_have schema (p ∷ ps) h =
    let both = and_parts (item_fits schema p.1) (list_all (λ (q : Tagged). item_fits schema q.1) ps) h in (both.0, all_have schema ps both.1)

have_all : (schema : Attributes) (ps : List Tagged) → AllHave schema ps → list_all (λ (p : Tagged). item_fits schema p.1) ps ≡ true
have_all schema [] h = refl
have_all schema (p ∷ ps) h = and_from (item_fits schema p.1) (list_all (λ (q : Tagged). item_fits schema q.1) ps) h.0 (have_all schema ps h.1)

-- ---- the items of a channel

module _ (schema : Attributes) (test : Tagged → Bool) where
  abbrev own : ℕ → List Item → List Tagged
  own n xs = filter test (enumerate_from n (cut xs))

  own_fit : (n : ℕ) (xs : List Item) → list_all (item_fits schema) xs ≡ true → list_all (λ (p : Tagged). item_fits schema p.1) (own n xs) ≡ true
  own_fit n [] h = refl
  own_fit n (x ∷ xs) h =
      let both = and_parts (item_fits schema x) (list_all (item_fits schema) xs) h in
      go (test (n, x)) (closes x) both.0 (own_fit (n + 1) xs both.1)
    where
      go : (b d : Bool) → item_fits schema x ≡ true → list_all (λ (p : Tagged). item_fits schema p.1) (own (n + 1) xs) ≡ true
          → list_all (λ (p : Tagged). item_fits schema p.1) (cond b ((n, x) ∷ filter test (enumerate_from (n + 1) (cond d [] (cut xs)))) (filter test (enumerate_from (n + 1) (cond d [] (cut xs))))) ≡ true
      go true true e rest = and_from (item_fits schema x) true e refl
      go true false e rest = and_from (item_fits schema x) (list_all (λ (p : Tagged). item_fits schema p.1) (own (n + 1) xs)) e rest
      go false true e rest = refl
      go false false e rest = rest

  own_ends : (n : ℕ) (xs : List Item) → ends_once (items (own n xs)) ≡ true
  own_ends n [] = refl
  own_ends n (x ∷ xs) = go (test (n, x)) (closes x) refl (own_ends (n + 1) xs) where
    go : (b d : Bool) → closes x ≡ d → ends_once (items (own (n + 1) xs)) ≡ true
        → ends_once (items (cond b ((n, x) ∷ filter test (enumerate_from (n + 1) (cond d [] (cut xs)))) (filter test (enumerate_from (n + 1) (cond d [] (cut xs)))))) ≡ true
    go true true e rest = ap (λ b. (cond b true true) && true) e
    go true false e rest = ap (λ b. (cond b (nat_le (length (items (own (n + 1) xs))) 0) true) && ends_once (items (own (n + 1) xs))) e ∙ rest
    go false true e rest = refl
    go false false e rest = rest

cut_ends : (xs : List Item) → ends_once (cut xs) ≡ true
cut_ends [] = refl
cut_ends (x ∷ xs) = go (closes x) refl (cut_ends xs) where
  go : (d : Bool) → closes x ≡ d → ends_once (cut xs) ≡ true → ends_once (x ∷ cond d [] (cut xs)) ≡ true
  go true e rest = ap (λ b. (cond b true true) && true) e
  go false e rest = ap (λ b. (cond b (nat_le (length (cut xs)) 0) true) && ends_once (cut xs)) e ∙ rest

-- ---- regions

-- what a replica of a chain sends for packets that are proper
pub replies_proper : (op : Operator) (ops : List Operator) (packets : List Packet) → AllByRecursion IsMember (op ∷ ops) → AreTyped (op ∷ ops)
    → IsProper (input_attributes op 0) packets → IsProper (exit_schema (op ∷ ops)) (replies (map start (op ∷ ops)) packets)
replies_proper op ops packets ms typed proper = record {
  fit = ap (list_all (λ (p : Tagged). item_fits (exit_schema (op ∷ ops)) p.1)) given
      ∙ have_all (exit_schema (op ∷ ops)) (replica (op ∷ ops) (items_of packets))
      (subst (AllHave (exit_schema (op ∷ ops))) (sym (by_operators (op ∷ ops) (items_of packets)))
      (staged_have op ops (items_of packets) ms typed (all_have (input_attributes op 0) (items_of packets) proper.fit)));
  ends = ap (λ (ps : List Tagged). ends_once (items ps)) (given ∙ replica-unended op ops (items_of packets) ms)
      ∙ ap ends_once (items-cut (unended_chain (op ∷ ops) (items_of packets)))
      ∙ cut_ends (items (unended_chain (op ∷ ops) (items_of packets)));
  stops = stops-replies (map start (op ∷ ops)) packets proper.stops;
  falls = falls-replies (map start (op ∷ ops)) 0 packets proper.falls;
} where
  given : items_of (replies (map start (op ∷ ops)) packets) ≡ replica (op ∷ ops) (items_of packets)
  given = items-replies (map start (op ∷ ops)) packets

pub sends_proper : (schema : Attributes) (routing : Routing) (w : ℕ) (pulses : Bool) (d : ℕ) (xs : List Item) → d < w → list_all (item_fits schema) xs ≡ true
    → IsProper schema (on_output d (splits routing w pulses 0 xs))
sends_proper schema routing w pulses d xs lt h =
    let sent = (split_law routing w pulses xs d lt).0 in
    record {
      fit = ap (list_all (λ (p : Tagged). item_fits schema p.1)) sent.own ∙ own_fit schema (λ (p : Tagged). route routing w p.0 p.1 == d) 0 xs h;
      ends = ap (λ (ps : List Tagged). ends_once (items ps)) sent.own ∙ own_ends schema (λ (p : Tagged). route routing w p.0 p.1 == d) 0 xs;
      stops = sent.stops;
      falls = sent.falls;
    }

-- a region of a checked program's plan
pub record TypedRegion (g : Graph) (region : Region) : Type 0 where
  pub is : IsRegion g region
  pub some : is_empty (ops_of g region.ops) ≡ false
  pub members : AllByRecursion IsMember (ops_of g region.ops)
  pub typed : AreTyped (ops_of g region.ops)

pub typed_region : (c : CheckedGraph) (plan : List Region) (i : ℕ) (region : Region) → Keeps c → IsPlan (graph_of c) plan → slice_get plan i ≡ Some region
    → TypedRegion (graph_of c) region
typed_region c plan i region keeps is at =
    let g = graph_of c in
    let r = all_at (IsRegion g) plan i region is.regions at in
    let chain = (and_parts (is_chain g (ops_of g region.ops)) _ r.safe).0 in
    let ms = chain_members g (ops_of g region.ops) chain (ops_all (λ op. has_connections op ≡ true) g (checked_connected c keeps) region.ops) in
    record {
      is = r;
      some = region_some g plan i region is at r.some;
      members = ms;
      typed = chain_typed c (ops_of g region.ops) ms (ops_all (TypesOf c) g (types_of c keeps) region.ops) chain;
    }

pub proper_law : ProperLaw
proper_law c plan i region width d xs keeps is at lt h =
    let r = typed_region c plan i region keeps is at in
    go (ops_of (graph_of c) region.ops) r.some r.members r.typed h
  where
    sends : (schema : Attributes) → list_all (item_fits schema) xs ≡ true → IsProper schema (region_sends region width xs d)
    sends schema e = sends_proper schema (routing_by region.key) (width_of region width) (has_pulses (rule_of region.merge)) d xs lt e

    go : (ops : List Operator) → is_empty ops ≡ false → AllByRecursion IsMember ops → AreTyped ops → list_all (item_fits (entry_schema ops)) xs ≡ true
        → IsProper (entry_schema ops) (region_sends region width xs d) × IsProper (exit_schema ops) (replies (map start ops) (region_sends region width xs d))
    go [] some ms typed e = absurd (let no : true ≡ false = some in cc)
    go (op ∷ ops) some ms typed e =
        (sends (input_attributes op 0) e, replies_proper op ops (region_sends region width xs d) ms typed (sends (input_attributes op 0) e))
