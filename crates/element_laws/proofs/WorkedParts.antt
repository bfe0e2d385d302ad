-- The worked elements are those of a program.
use Rattle.std.proofs.Common.{ℕ, zero, suc, ◌<◌, ◌≤◌, ◌==◌, ◌&&◌, true, List, [], ◌∷◌, ◌≡◌, inl, inr, refl, ap, ◌∙◌, subst, arith, map, Some, slice_get, ◌^◌, length}
use Rattle.std.specs.Prelude.{pos}
use Rattle.std.proofs.lemmas.Bool.{ne_eqb, cond-false}
use Rattle.spl_value.specs.declared.packet.Packet.{Packet}
use Rattle.spl_value.specs.declared.packet.Packet.TheVariants as P
use Rattle.spl_value.specs.declared.types.IntKind.TheVariants.{I32}
use Rattle.spl_value.specs.declared.types.SplType.TheVariants as T
use Rattle.spl_value.specs.declared.value.Value.TheVariants as V
use Rattle.spl_value.specs.Numbered.{IsProper}
use Rattle.spl_value.specs.Values.{fits}
use Rattle.spl_value.proofs.FitsLaws.{fits_int, fits_tuple}
use Rattle.language_model.specs.StreamTypes.{Attributes}
use Rattle.stream_model.specs.CheckedMeaning.{graph_of}
use Rattle.stream_model.specs.Operators.{Operator}
use Rattle.stream_model.specs.Regions.{IsPlan, ops_of}
use Rattle.stream_model.specs.Sending.{on_output}
use Rattle.stream_model.specs.Stages.{start}
use Rattle.list_engine.specs.examples.Chain.{chain, numbers, row}
use Rattle.list_engine.proofs.Chained.{chain_keeps}
use Rattle.network_model.specs.ElementRule.{KeepsRule}
use Rattle.network_model.specs.Receipts.{popped}
use Rattle.operator_chains.specs.Standing.{AtChain}
use Rattle.operator_chains.specs.declared.chain.Chain.{Chain}
use Rattle.elements.specs.New.{HasNumbers, IsNew}
use Rattle.elements.specs.Suiting.{Suits}
use Rattle.element_laws.specs.Made.{IsMade}
use Rattle.element_laws.specs.Putting.{TookProper}
use Rattle.element_laws.specs.examples.ChainParts.{IsUnused, filters, itself, merger_part, one_row, part_at, replica_part, splitter_part}
use Rattle.element_laws.proofs.Parts.{fit_law}
use Rattle.element_laws.proofs.Putting.{owes_law}

pub filters_plan : IsPlan (graph_of chain) filters
filters_plan = record {
  regions = (record { some = refl; safe = refl; whole = refl; key = refl; merge = refl }, tt);
  once = λ n. refl;
  in_order = inr (inl (refl, tt));
}

pub splitter_made : IsMade itself IsUnused chain filters 2 1 splitter_part
splitter_made = record { element = _; at = refl; ports = record { ids = refl; ins = refl; fans = refl; source = refl }; work = refl }

pub replica_made : (operators : Chain Operator) → AtChain itself IsUnused operators (map start (ops_of (graph_of chain) (1 ∷ 2 ∷ []))) → IsMade itself IsUnused chain filters 2 2 (replica_part operators)
replica_made operators at = record { element = _; at = refl; ports = record { ids = refl; ins = refl; fans = refl; source = refl }; work = at }

pub merger_made : IsMade itself IsUnused chain filters 2 4 merger_part
merger_made = record { element = _; at = refl; ports = record { ids = refl; ins = refl; fans = refl; source = refl }; work = (refl, refl) }

pub splitter_fits : IsNew itself IsUnused (part_at 1) splitter_part × HasNumbers (part_at 1) splitter_part × (length splitter_part.fans < 2 ^ 32) × Suits (part_at 1) (numbers ∷ [])
splitter_fits = fit_law itself IsUnused chain filters 2 1 18 splitter_part chain_keeps filters_plan (let le : 2 ≤ 16 = omega arith in le) splitter_made

pub row_kept : KeepsRule (part_at 1) one_row
row_kept = record { whole = λ c m. refl; off = λ c. absurd (cc) }

row_fits : fits (T.Tuple numbers) (V.Tuple (V.Int (pos 6) ∷ [])) ≡ true
row_fits = fits_tuple numbers (V.Int (pos 6) ∷ []) ∙ ap (λ b. b && true) (fits_int I32 (pos 6))

pub row_taken : TookProper (part_at 1) (numbers ∷ []) one_row.kept
row_taken = record {
  proper = proper;
  in_range = λ i le. cond-false (0 == i) (P.Item 0 (row 6) ∷ []) [] (ne_eqb 0 i (λ e. let z : 1 ≤ i = le in let same : 0 ≡ i = e in omega (arith, z, same)));
  rows = tt;
  merges = tt;
}
  where
    proper : (i : ℕ) (schema : Attributes) → slice_get (numbers ∷ []) i ≡ Some schema → IsProper schema (popped i one_row.kept)
    proper zero schema at =
        let same : numbers ≡ schema = cc in subst (λ (types : Attributes). IsProper types (P.Item 0 (row 6) ∷ [])) same (record { fit = ap (λ b. b && true) row_fits; ends = refl; stops = refl; falls = (omega arith, tt) })
    proper (suc i) schema at = absurd (cc)

pub row_put : IsProper numbers (on_output 0 one_row.pushed)
row_put =
    owes_law chain filters 2 1 18 _ one_row chain_keeps filters_plan refl row_kept row_taken 0 numbers (let lt : 0 < 2 = omega arith in lt) refl
