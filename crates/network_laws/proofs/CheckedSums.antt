-- The row of a source, a Filter, an Aggregate by keys and a sink is a checked program with a plan, and the network with the two
-- in a region of two channels runs it by that.
use Rattle.std.proofs.Common.{ℕ, zero, suc, ◌<◌, ◌==◌, ◌&&◌, true, IsTrue, [], ◌∷◌, ◌≡◌, inl, inr, refl, sym, ap, subst, ◌∙◌, arith, Some, slice_get, codes}
use Rattle.std.specs.List.{concat, count_by, Contains}
use Rattle.std.proofs.lemmas.Option.{same_Some}
use Rattle.spl_value.specs.Key.{level_is_key_type}
use Rattle.spl_value.specs.declared.types.IntKind.TheVariants as N
use Rattle.spl_value.specs.declared.types.Named.{Named}
use Rattle.spl_value.specs.declared.types.SplType.{SplType}
use Rattle.spl_value.specs.declared.types.SplType.TheVariants as T
use Rattle.spl_value.specs.declared.types.SplType.TheViews.{out-SplType}
use Rattle.spl_tree.specs.declared.code.Slot.TheVariants as L
use Rattle.spl_tree.specs.declared.graph.Op.{Op}
use Rattle.spl_tree.specs.declared.graph.OpKind.TheVariants as O
use Rattle.spl_tree.specs.declared.graph.Stream.{Stream}
use Rattle.language_model.specs.declared.checked.CheckedClauses.{CheckedClauses}
use Rattle.language_model.specs.declared.checked.CollectedAttribute.{CollectedAttribute}
use Rattle.language_model.specs.declared.checked.WindowRule.TheVariants as W
use Rattle.language_model.specs.Checking.{has_text_form}
use Rattle.language_model.specs.CodeFits as F
use Rattle.language_model.specs.CodeFits.{CodeFits}
use Rattle.language_model.specs.Keeping.{CollectorFits, GroupsFit, Keeps, KeysFit, OperatorFits}
use Rattle.language_model.specs.Keeping as K
use Rattle.language_model.specs.parts.Literals.{is_file_name}
use Rattle.language_model.specs.parts.ParameterTyping.{level_key}
use Rattle.stream_model.specs.Regions.{IsPlan}
use Rattle.stream_model.specs.examples.Reacting.{of_first}
use Rattle.stream_model.specs.examples.CheckedGraphs.{op_of}
use Rattle.stream_model.specs.examples.SomeRegions.{abv, partitioned, three}
use Rattle.list_engine.proofs.Chained.{ascii, only}
use Rattle.pe_fusion.specs.FusionLaws.{IsPlanned}
use Rattle.region_laws.specs.examples.SomeReplicas.{filtered_sums, keyed_region}
use Rattle.network_laws.specs.PlannedLaws.{RunsPlan}
use Rattle.network_laws.specs.examples.CheckedSums.{checked_sums, sums_plan}
use Rattle.network_laws.specs.examples.KeyedNet.{abs, keyed_net}
use Rattle.network_laws.specs.examples.KeyedNet as E
use Rattle.network_laws.proofs.KeyedNets.{keyed_wired}
use Rattle.network_laws.proofs.Rows.{IsRow, filter-fits, fit-both, inner-fits, none-made, none-there, one_port, own_stream, row_keeps, sink-fits, sole, source-fits}

-- ---- the graph

sums-row : IsRow checked_sums.graph
sums-row = record {
  operators = omega arith;
  connections = omega arith;
  size = refl;
  places = places;
  reads = reads;
  all_made = refl;
  streams = streams;
  makes = makes;
  only = only-port;
}
  where
    places : (k n : ℕ) → slice_get (0 ∷ 1 ∷ 2 ∷ 3 ∷ []) k ≡ Some n → k ≡ n
    places zero n e = same_Some 0 n e
    places (suc zero) n e = same_Some 1 n e
    places (suc (suc zero)) n e = same_Some 2 n e
    places (suc (suc (suc zero))) n e = same_Some 3 n e
    places (suc (suc (suc (suc k)))) n e = absurd cc

    read-by : (s t : ℕ) (own op : Op) → Some own ≡ Some op → own.ins ≡ (t ∷ []) ∷ [] → Contains (concat op.ins) s → suc s ≡ suc t
    read-by s t own op at ins c = ap suc (sym (only t s (subst (λ ports. Contains (concat ports) s) ins (subst (λ (o : Op). Contains (concat o.ins) s) (sym (same_Some own op at)) c))))

    reads : (n : ℕ) (op : Op) (s : ℕ) → slice_get checked_sums.graph.ops n ≡ Some op → Contains (concat op.ins) s → suc s ≡ n
    reads zero op s at c = absurd (none-there s (subst (λ (o : Op). Contains (concat o.ins) s) (sym (same_Some (op_of O.FileSource [] (0 ∷ [])) op at)) c))
    reads (suc zero) op s at c = read-by s 0 _ op at refl c
    reads (suc (suc zero)) op s at c = read-by s 1 _ op at refl c
    reads (suc (suc (suc zero))) op s at c = read-by s 2 _ op at refl c
    reads (suc (suc (suc (suc n)))) op s at c = absurd cc

    streams : (n : ℕ) (s : Stream) → slice_get checked_sums.graph.streams n ≡ Some s → s ≡ own_stream n
    streams zero s e = sym (same_Some (own_stream 0) s e)
    streams (suc zero) s e = sym (same_Some (own_stream 1) s e)
    streams (suc (suc zero)) s e = sym (same_Some (own_stream 2) s e)
    streams (suc (suc (suc n))) s e = absurd cc

    makes : (n : ℕ) → n < 3 → (op : Op) × (slice_get checked_sums.graph.ops n ≡ Some op) × (slice_get op.outs 0 ≡ Some n)
    makes zero lt = (_, refl, refl)
    makes (suc zero) lt = (_, refl, refl)
    makes (suc (suc zero)) lt = (_, refl, refl)
    makes (suc (suc (suc n))) lt = absurd (omega (arith, lt))

    made-by : (n port s : ℕ) (own op : Op) → Some own ≡ Some op → own.outs ≡ n ∷ [] → slice_get op.outs port ≡ Some s → (port ≡ 0) × (s ≡ n)
    made-by n port s own op at outs is = sole n port s (ap (λ os. slice_get os port) (sym outs) ∙ subst (λ (o : Op). slice_get o.outs port ≡ Some s) (sym (same_Some own op at)) is)

    only-port : (n port s : ℕ) (op : Op) → slice_get checked_sums.graph.ops n ≡ Some op → slice_get op.outs port ≡ Some s → (port ≡ 0) × (s ≡ n) × (n < 3)
    only-port zero port s op at is = let x = made-by 0 port s _ op at refl is in (x.0, x.1, omega arith)
    only-port (suc zero) port s op at is = let x = made-by 1 port s _ op at refl is in (x.0, x.1, omega arith)
    only-port (suc (suc zero)) port s op at is = let x = made-by 2 port s _ op at refl is in (x.0, x.1, omega arith)
    only-port (suc (suc (suc zero))) port s op at is =
        absurd (none-made port s (subst (λ (o : Op). slice_get o.outs port ≡ Some s) (sym (same_Some (op_of O.FileSink ((2 ∷ []) ∷ []) []) op at)) is))
    only-port (suc (suc (suc (suc n)))) port s op at is = absurd cc

-- ---- the clauses

t-named : IsTrue (is_file_name (codes "t"))
t-named = ap (λ b. b && true && true) (ascii (codes "t") (omega arith, tt))

o-named : IsTrue (is_file_name (codes "o"))
o-named = ap (λ b. b && true && true) (ascii (codes "o") (omega arith, tt))

is-key : IsTrue (level_key (out-SplType (T.Int N.I64)))
is-key = ap level_is_key_type (T.outs-Int N.I64)

abv-formed : IsTrue (has_text_form abv)
abv-formed = ap (λ k. level_is_key_type k && (level_is_key_type k && (level_is_key_type k && true))) (T.outs-Int N.I64)

abs-formed : IsTrue (has_text_form abs)
abs-formed = ap (λ k. level_is_key_type k && (level_is_key_type k && (level_is_key_type k && true))) (T.outs-Int N.I64)

-- an attribute of the input, by its place
attribute : (n : ℕ) → n < 3 → CodeFits (one_port abv) (of_first n) (T.Int N.I64)
attribute zero lt = F.name (L.Attribute 0 0) (T.Int N.I64) (F.attribute 0 0 (record { name = []; schema = abv }) (record { name = codes "a"; kind = T.Int N.I64 }) refl refl refl (inl refl))
attribute (suc zero) lt = F.name (L.Attribute 0 1) (T.Int N.I64) (F.attribute 0 1 (record { name = []; schema = abv }) (record { name = codes "b"; kind = T.Int N.I64 }) refl refl refl (inl refl))
attribute (suc (suc zero)) lt = F.name (L.Attribute 0 2) (T.Int N.I64) (F.attribute 0 2 (record { name = []; schema = abv }) (record { name = codes "v"; kind = T.Int N.I64 }) refl refl refl (inl refl))
attribute (suc (suc (suc n))) lt = absurd (omega (arith, lt))

keys : KeysFit abv (0 ∷ 1 ∷ [])
keys = record { keys = each; once = once }
  where
    each : (i p : ℕ) → slice_get (0 ∷ 1 ∷ []) i ≡ Some p → (a : Named SplType) × (slice_get abv p ≡ Some a) × IsTrue (level_key (out-SplType a.kind))
    each zero p e = let is : 0 ≡ p = same_Some 0 p e in (record { name = codes "a"; kind = T.Int N.I64 }, ap (slice_get abv) (sym is), is-key)
    each (suc zero) p e = let is : 1 ≡ p = same_Some 1 p e in (record { name = codes "b"; kind = T.Int N.I64 }, ap (slice_get abv) (sym is), is-key)
    each (suc (suc i)) p e = absurd cc

    own : (i p : ℕ) → slice_get (0 ∷ 1 ∷ []) i ≡ Some p → i ≡ p
    own zero p e = same_Some 0 p e
    own (suc zero) p e = same_Some 1 p e
    own (suc (suc i)) p e = absurd cc

    once : (i j p : ℕ) → slice_get (0 ∷ 1 ∷ []) i ≡ Some p → slice_get (0 ∷ 1 ∷ []) j ≡ Some p → i ≡ j
    once i j p e f = own i p e ∙ sym (own j p f)

no-keys : KeysFit abv []
no-keys = record { keys = λ i p e. absurd (none-made i p e); once = λ i j p e f. absurd (none-made i p e) }

abbrev Fits : CollectedAttribute → Type 0
Fits x = (a : Named SplType) × (slice_get abs x.attribute ≡ Some a) × CollectorFits (one_port abv) x.collector x.argument a.kind

groups : GroupsFit (one_port abv) abs three
groups = record { fit = each; once = once }
  where
    each : (k : ℕ) (x : CollectedAttribute) → slice_get three k ≡ Some x → Fits x
    each zero x e = subst Fits (same_Some _ x e) (record { name = codes "a"; kind = T.Int N.I64 }, refl, K.first (of_first 0) (T.Int N.I64) (attribute 0 (omega arith)))
    each (suc zero) x e = subst Fits (same_Some _ x e) (record { name = codes "b"; kind = T.Int N.I64 }, refl, K.first (of_first 1) (T.Int N.I64) (attribute 1 (omega arith)))
    each (suc (suc zero)) x e = subst Fits (same_Some _ x e) (record { name = codes "s"; kind = T.Int N.I64 }, refl, K.sum N.I64 (of_first 2) (attribute 2 (omega arith)))
    each (suc (suc (suc k))) x e = absurd cc

    once : (i : ℕ) → i < 3 → count_by (λ (x : CollectedAttribute). x.attribute == i) three ≡ 1
    once zero lt = refl
    once (suc zero) lt = refl
    once (suc (suc zero)) lt = refl
    once (suc (suc (suc i))) lt = absurd (omega (arith, lt))

sums-fit : K.PartFits (one_port abv) O.Aggregate (abv ∷ []) (abs ∷ []) (partitioned (W.TumblingCount 2) (0 ∷ 1 ∷ []) three)
sums-fit =
    K.aggregate (record { partitioned = true; rule = W.TumblingCount 2 }) (0 ∷ 1 ∷ []) [] three abv abs (K.tumbling_count 2 (omega arith, omega arith)) keys
    ((λ h. omega arith), (λ h. refl)) no-keys groups

operators : (n : ℕ) (op : Op) (part : CheckedClauses) → slice_get checked_sums.graph.ops n ≡ Some op → slice_get checked_sums.parts n ≡ Some part
    → OperatorFits checked_sums.schemas [] op part
operators zero op part at has = fit-both checked_sums.schemas _ op _ part at has (source-fits checked_sums.schemas abv (codes "t") refl t-named abv-formed)
operators (suc zero) op part at has = fit-both checked_sums.schemas _ op _ part at has (filter-fits checked_sums.schemas abv refl refl)
operators (suc (suc zero)) op part at has =
    fit-both checked_sums.schemas _ op _ part at has
    (inner-fits checked_sums.schemas abv abs 1 2 O.Aggregate (partitioned (W.TumblingCount 2) (0 ∷ 1 ∷ []) three) refl refl refl sums-fit)
operators (suc (suc (suc zero))) op part at has = fit-both checked_sums.schemas _ op _ part at has (sink-fits checked_sums.schemas abs 2 (codes "o") refl o-named abs-formed)
operators (suc (suc (suc (suc n)))) op part at has = absurd cc

sums-keep : Keeps checked_sums
sums-keep = record {
  graph = row_keeps checked_sums.graph sums-row;
  streams = refl;
  signatures = [];
  functions = λ i s e. absurd cc;
  each_signed = refl;
  parts = refl;
  operators = operators;
}

-- ---- the plan and the network

sums-is-plan : IsPlan filtered_sums sums_plan
sums-is-plan = record {
  regions = (record { some = refl; safe = refl; whole = refl; key = refl; merge = refl }, tt);
  once = λ n. refl;
  in_order = inr (inl (refl, tt));
}

planned : IsPlanned filtered_sums sums_plan 2 keyed_net
planned zero part outs lt is = absurd cc
planned (suc zero) part outs lt is = absurd cc
planned (suc (suc zero)) part outs lt is = absurd cc
planned (suc (suc (suc zero))) part outs lt is = absurd cc
planned (suc (suc (suc (suc zero)))) part outs lt is = let own : E.keyed_region ≡ part = cc in (0, keyed_region, refl, sym own)
planned (suc (suc (suc (suc (suc n))))) part outs lt is = absurd cc

pub sums_run : RunsPlan checked_sums sums_plan 2 keyed_net
sums_run = record { keeps = sums-keep; is_plan = sums-is-plan; wired = keyed_wired; planned = planned }
