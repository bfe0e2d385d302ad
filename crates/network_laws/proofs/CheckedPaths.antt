-- The path of a source, a filter and a sink is a checked program with a plan, and networks run it by that: at width 1 one of three
-- chains, and at width 2 one in which the filter is a region.
use Rattle.std.proofs.Common.{ℕ, zero, suc, ◌<◌, ◌==◌, ◌&&◌, Bool, true, cond, not, nat_lt, IsTrue, [], ◌∷◌, ◌≡◌, inl, inr, refl, sym, ap, ◌∙◌, subst, arith, Option, Some, None, slice_get, position, codes}
use Rattle.std.specs.List.{concat, Contains, list_all}
use Rattle.std.specs.Option.{option_map_or}
use Rattle.std.proofs.lemmas.Bool.{ne_eqb}
use Rattle.std.proofs.lemmas.Option.{same_Some}
use Rattle.spl_value.specs.Key.{level_is_key_type}
use Rattle.spl_value.specs.Numbered.{item_fits}
use Rattle.spl_value.specs.declared.types.SplType.TheVariants as T
use Rattle.spl_tree.specs.declared.graph.Op.{Op}
use Rattle.spl_tree.specs.declared.graph.OpKind.TheVariants as O
use Rattle.spl_tree.specs.declared.graph.Stream.{Stream}
use Rattle.language_model.specs.declared.checked.CheckedClauses.{CheckedClauses}
use Rattle.language_model.specs.Checking.{has_text_form}
use Rattle.language_model.specs.Keeping.{Keeps, OperatorFits}
use Rattle.language_model.specs.parts.Literals.{is_file_name}
use Rattle.stream_model.specs.declared.plan.Merge.TheVariants as M
use Rattle.stream_model.specs.CheckedMeaning.{graph_of, schema_at}
use Rattle.stream_model.specs.Meaning.{makes, streams_of}
use Rattle.stream_model.specs.Regions.{IsPlan}
use Rattle.stream_model.specs.examples.CheckedGraphs.{op_of, texts}
use Rattle.list_engine.specs.examples.Chain.{chain}
use Rattle.list_engine.proofs.Chained.{ascii, chain_keeps, in_named, only}
use Rattle.network_model.specs.Networks.{Merger}
use Rattle.pe_fusion.specs.FusedNets.{fused_net}
use Rattle.pe_fusion.specs.FusionLaws.{IsPlanned}
use Rattle.network_laws.specs.PlannedLaws.{RunsPlan}
use Rattle.network_laws.specs.Propers.{HasSchema}
use Rattle.network_laws.specs.examples.PathNet.{file_source, no_entries, path_net, path_part, path_rows, plain_filter, some_graph}
use Rattle.network_laws.specs.examples.RegionNet.{filter_region, region_meaning, region_net}
use Rattle.network_laws.specs.examples.CheckedPath.{chain_plan, checked_path, path_plan}
use Rattle.network_laws.proofs.PathNets.{path_wired}
use Rattle.network_laws.proofs.Planned.{fused_runs}
use Rattle.network_laws.proofs.RegionNets.{region_wired}
use Rattle.network_laws.proofs.Rows.{IsRow, filter-fits, fit-both, none-made, none-there, own_stream, row_keeps, sink-fits, sole, source-fits}

-- ---- the graph

path-row : IsRow checked_path.graph
path-row = record {
  operators = omega arith;
  connections = omega arith;
  size = refl;
  places = places;
  reads = reads;
  all_made = refl;
  streams = streams;
  makes = makes;
  only = only-port;
}
  where
    places : (k n : ℕ) → slice_get (0 ∷ 1 ∷ 2 ∷ []) k ≡ Some n → k ≡ n
    places zero n e = same_Some 0 n e
    places (suc zero) n e = same_Some 1 n e
    places (suc (suc zero)) n e = same_Some 2 n e
    places (suc (suc (suc k))) n e = absurd cc

    reads : (n : ℕ) (op : Op) (s : ℕ) → slice_get checked_path.graph.ops n ≡ Some op → Contains (concat op.ins) s → suc s ≡ n
    reads zero op s at c = absurd (none-there s (subst (λ (o : Op). Contains (concat o.ins) s) (sym (same_Some (op_of O.FileSource [] (0 ∷ [])) op at)) c))
    reads (suc zero) op s at c = ap suc (sym (only 0 s (subst (λ (o : Op). Contains (concat o.ins) s) (sym (same_Some (op_of O.Filter ((0 ∷ []) ∷ []) (1 ∷ [])) op at)) c)))
    reads (suc (suc zero)) op s at c = ap suc (sym (only 1 s (subst (λ (o : Op). Contains (concat o.ins) s) (sym (same_Some (op_of O.FileSink ((1 ∷ []) ∷ []) []) op at)) c)))
    reads (suc (suc (suc n))) op s at c = absurd cc

    streams : (n : ℕ) (s : Stream) → slice_get checked_path.graph.streams n ≡ Some s → s ≡ own_stream n
    streams zero s e = sym (same_Some (own_stream 0) s e)
    streams (suc zero) s e = sym (same_Some (own_stream 1) s e)
    streams (suc (suc n)) s e = absurd cc

    makes : (n : ℕ) → n < 2 → (op : Op) × (slice_get checked_path.graph.ops n ≡ Some op) × (slice_get op.outs 0 ≡ Some n)
    makes zero lt = (_, refl, refl)
    makes (suc zero) lt = (_, refl, refl)
    makes (suc (suc n)) lt = absurd (omega (arith, lt))

    only-port : (n port s : ℕ) (op : Op) → slice_get checked_path.graph.ops n ≡ Some op → slice_get op.outs port ≡ Some s → (port ≡ 0) × (s ≡ n) × (n < 2)
    only-port zero port s op at is =
        let x = sole 0 port s (subst (λ (o : Op). slice_get o.outs port ≡ Some s) (sym (same_Some (op_of O.FileSource [] (0 ∷ [])) op at)) is) in (x.0, x.1, omega arith)
    only-port (suc zero) port s op at is =
        let x = sole 1 port s (subst (λ (o : Op). slice_get o.outs port ≡ Some s) (sym (same_Some (op_of O.Filter ((0 ∷ []) ∷ []) (1 ∷ [])) op at)) is) in (x.0, x.1, omega arith)
    only-port (suc (suc zero)) port s op at is =
        absurd (none-made port s (subst (λ (o : Op). slice_get o.outs port ≡ Some s) (sym (same_Some (op_of O.FileSink ((1 ∷ []) ∷ []) []) op at)) is))
    only-port (suc (suc (suc n))) port s op at is = absurd cc

-- ---- the program

out-named : IsTrue (is_file_name (codes "out"))
out-named = ap (λ b. b && true && true) (ascii (codes "out") (omega arith, (omega arith, (omega arith, tt))))

texts-formed : IsTrue (has_text_form texts)
texts-formed = ap (λ k. level_is_key_type k && true) T.outs-Text

operators : (n : ℕ) (op : Op) (part : CheckedClauses) → slice_get checked_path.graph.ops n ≡ Some op → slice_get checked_path.parts n ≡ Some part
    → OperatorFits checked_path.schemas [] op part
operators zero op part at has = fit-both checked_path.schemas _ op _ part at has (source-fits checked_path.schemas texts (codes "in") refl in_named texts-formed)
operators (suc zero) op part at has = fit-both checked_path.schemas _ op _ part at has (filter-fits checked_path.schemas texts refl refl)
operators (suc (suc zero)) op part at has = fit-both checked_path.schemas _ op _ part at has (sink-fits checked_path.schemas texts 1 (codes "out") refl out-named texts-formed)
operators (suc (suc (suc n))) op part at has = absurd cc

pub path_keeps : Keeps checked_path
path_keeps = record {
  graph = row_keeps checked_path.graph path-row;
  streams = refl;
  signatures = [];
  functions = λ i s e. absurd cc;
  each_signed = refl;
  parts = refl;
  operators = operators;
}

pub path_is_plan : IsPlan some_graph path_plan
path_is_plan = record {
  regions = (record { some = refl; safe = refl; whole = refl; key = refl; merge = refl }, tt);
  once = λ n. refl;
  in_order = inr (inl (refl, tt));
}

-- ---- the networks

-- at width 1 no region runs in replicas
path-planned : IsPlanned some_graph path_plan 1 path_net
path-planned e part outs lt is = absurd (none e is)
  where
    none : (e : ℕ) → path_part e ≡ Merger part outs → ⊥
    none zero is = cc
    none (suc zero) is = cc
    none (suc (suc n)) is = cc

region-planned : IsPlanned some_graph path_plan 2 region_net
region-planned zero part outs lt is = absurd cc
region-planned (suc zero) part outs lt is = absurd cc
region-planned (suc (suc zero)) part outs lt is = absurd cc
region-planned (suc (suc (suc zero))) part outs lt is = absurd cc
region-planned (suc (suc (suc (suc zero)))) part outs lt is =
    let own : filter_region ≡ part = cc in
    (0, record { ops = 1 ∷ []; key = []; merge = M.Turns }, refl, sym own)
region-planned (suc (suc (suc (suc (suc n))))) part outs lt is = absurd cc

pub path_runs : RunsPlan checked_path path_plan 1 path_net
path_runs = record { keeps = path_keeps; is_plan = path_is_plan; wired = path_wired; planned = path-planned }

pub region_runs : RunsPlan checked_path path_plan 2 region_net
region_runs = record { keeps = path_keeps; is_plan = path_is_plan; wired = region_wired; planned = region-planned }

-- each stream of an empty file is the final marker alone
pub region_schemas : (s : ℕ) → HasSchema region_meaning s (schema_at checked_path s)
region_schemas zero = refl
region_schemas (suc zero) = refl
region_schemas (suc (suc s)) =
    ap (λ at. list_all (item_fits (schema_at checked_path (suc (suc s)))) (option_map_or (λ p. makes plain_filter p (streams_of (file_source ∷ []) path_rows no_entries) path_rows no_entries) at (streams_of (file_source ∷ []) path_rows no_entries (suc (suc s)))))
    (nowhere 1 (suc (suc s)) (omega arith))
    ∙ ap (λ at. list_all (item_fits (schema_at checked_path (suc (suc s)))) (option_map_or (λ p. makes file_source p (streams_of [] path_rows no_entries) path_rows no_entries) at []))
    (nowhere 0 (suc (suc s)) (omega arith))
  where
    nowhere : (t u : ℕ) → t < u → position (λ o. o == u) (t ∷ []) ≡ None
    nowhere t u lt = ap found (ne_eqb t u (λ e. omega (arith, lt, e)))
      where
        found : Bool → Option ℕ
        found b = cond (nat_lt (cond (not b) 1 0) 1) (Some (cond (not b) 1 0)) None

-- ---- a program with two filters in a row, at every width

chain-is-plan : IsPlan (graph_of chain) chain_plan
chain-is-plan = record {
  regions = (record { some = refl; safe = refl; whole = refl; key = refl; merge = refl }, tt);
  once = λ n. refl;
  in_order = inr (inl (refl, tt));
}

pub chain_runs : (width capacity : ℕ) → RunsPlan chain chain_plan width (fused_net (graph_of chain) chain_plan width capacity)
chain_runs width capacity = fused_runs chain chain_plan width capacity chain_keeps chain-is-plan
