-- The connections of chains, of which one without any ends with a sink, or gives nothing.
use Rattle.std.proofs.Common.{ℕ, true, false, List, [], ◌∷◌, ◌≡◌, ◌⊎◌, inl, inr, refl, sym, ap, ◌∙◌, length, map}
use Rattle.language_model.specs.declared.checked.CheckedClauses.{CheckedClauses}
use Rattle.language_model.specs.declared.checked.CheckedClauses.TheVariants as A
use Rattle.language_model.specs.CheckedGraph.{CheckedGraph}
use Rattle.language_model.specs.Keeping.{Keeps}
use Rattle.stream_model.specs.CheckedMeaning.{graph_of}
use Rattle.stream_model.specs.Bodies.{output}
use Rattle.stream_model.specs.Chains.{onward}
use Rattle.stream_model.specs.Fans.{ports_of_fans}
use Rattle.stream_model.specs.Meaning.{arrive}
use Rattle.stream_model.specs.Operators.{Operator, output_attributes}
use Rattle.stream_model.specs.Replies.{given_attributes}
use Rattle.stream_model.specs.Stream.{is_empty}
use Rattle.stream_model.proofs.CheckedOperators.{checked_fits}
use Rattle.network_model.specs.Networks.{FromSource, FromLinks, last_of}
use Rattle.network_model.specs.Owed.{item_lists, taken_of}
use Rattle.network_model.specs.Receipts.{read_in}
use Rattle.network_model.specs.Sinks.{is_sink}
use Rattle.network_model.specs.Wiring.{ChainFits, SourceFits, Stands, is_source}
use Rattle.pe_fusion.specs.Readers.{readers}
use Rattle.pe_fusion.proofs.Checked.{fits_law}
use Rattle.element_works.specs.Works.{HasFans, IsSilent}
use Rattle.element_laws.proofs.NoPorts.{GivesNothing, passed-none, sink-by-ports}
use Rattle.element_laws.proofs.Operators.{last-stands}

-- what a source gives
pub source-gives : (part : CheckedClauses) → is_source part ≡ true → (op : Operator) (p : ℕ) → given_attributes part op p ≡ output_attributes op p
source-gives (A.FileSource file strict) e op p = refl
source-gives (A.FileSink file) e op p = absurd (cc)
source-gives (A.Join left right condition made) e op p = refl
source-gives (A.Filter condition) e op p = refl
source-gives (A.Functor condition made) e op p = refl
source-gives (A.Punctor condition position) e op p = refl
source-gives (A.Split index) e op p = refl
source-gives (A.Union places) e op p = refl
source-gives (A.Custom handlers) e op p = refl
source-gives (A.Aggregate window partition group collects) e op p = refl

no-sink : (part : CheckedClauses) → is_source part ≡ true → is_sink part ≡ false
no-sink (A.FileSource file strict) e = refl
no-sink (A.FileSink file) e = absurd (cc)
no-sink (A.Join left right condition made) e = refl
no-sink (A.Filter condition) e = refl
no-sink (A.Functor condition made) e = refl
no-sink (A.Punctor condition position) e = refl
no-sink (A.Split index) e = refl
no-sink (A.Union places) e = refl
no-sink (A.Custom handlers) e = refl
no-sink (A.Aggregate window partition group collects) e = refl

empty-map : (f : ℕ → ℕ) (xs : List ℕ) → is_empty xs ≡ is_empty (map f xs)
empty-map f [] = refl
empty-map f (x ∷ xs) = refl

module _ (c : CheckedGraph) (k : Keeps c) where
  by-ports : (last : Operator) → Stands (graph_of c) last → (is_sink last.clauses ≡ is_empty last.outs) ⊎ GivesNothing last
  by-ports last stands = sink-by-ports last (checked_fits c last.number last k ((fits_law c k).there last stands))

  counted : (last : Operator) (fans : List ℕ) → fans ≡ map (λ s. length (readers (graph_of c) s)) last.outs → is_empty last.outs ≡ is_empty fans
  counted last fans e = empty-map (λ s. length (readers (graph_of c) s)) last.outs ∙ ap is_empty (sym e)

  pub links-fans : (op : Operator) (ops : List Operator) (outs fans : List ℕ) → ChainFits (graph_of c) op ops outs → outs ≡ ports_of_fans fans
      → fans ≡ map (λ s. length (readers (graph_of c) s)) (last_of op ops).outs → HasFans (FromLinks op ops outs) fans
  links-fans op ops outs fans f are counts = (are, go (by-ports (last_of op ops) (last-stands c k op ops f.stands f.path)))
    where
      go : (is_sink (last_of op ops).clauses ≡ is_empty (last_of op ops).outs) ⊎ GivesNothing (last_of op ops) → (is_sink (last_of op ops).clauses ≡ is_empty fans) ⊎ IsSilent (FromLinks op ops outs)
      go (inl e) = inl (e ∙ counted (last_of op ops) fans counts)
      go (inr none) = inr (λ T. passed-none op ops (arrive (item_lists (taken_of (FromLinks op ops outs) T)) (taken_of (FromLinks op ops outs) T).entries) none)

  pub source-fans : (source : Operator) (ops : List Operator) (outs fans : List ℕ) → SourceFits (graph_of c) source ops outs → outs ≡ ports_of_fans fans
      → fans ≡ map (λ s. length (readers (graph_of c) s)) (last_of source ops).outs → HasFans (FromSource source ops outs) fans
  source-fans source [] outs fans f are counts =
      (are, inl (no-sink source.clauses f.reads ∙ ap is_empty (sym f.one_stream) ∙ counted source fans counts))
  source-fans source (next ∷ ops) outs fans f are counts = (are, go (by-ports (last_of next ops) (last-stands c k source (next ∷ ops) f.stands f.path)))
    where
      go : (is_sink (last_of next ops).clauses ≡ is_empty (last_of next ops).outs) ⊎ GivesNothing (last_of next ops)
          → (is_sink (last_of next ops).clauses ≡ is_empty fans) ⊎ IsSilent (FromSource source (next ∷ ops) outs)
      go (inl e) = inl (e ∙ counted (last_of next ops) fans counts)
      go (inr none) = inr (λ T. passed-none next ops (onward (map (output 0) (read_in T))) none)
