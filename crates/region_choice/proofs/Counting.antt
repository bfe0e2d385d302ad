-- Counts of connections.
use Rattle.std.specs.Prelude.{◌≡◌, ◌⊎◌, ◌==◌, ◌+◌, ◌<◌, ℕ, zero, suc, min, List, [], ◌∷◌, ◌++◌, map, filter, length, take, set, replicate, Some, slice_get, if◌then◌else◌}
use Rattle.std.specs.List.{concat, Contains}
use Rattle.std.proofs.Common.{refl, sym, ap, ◌∙◌, subst, inl, inr, arith, append_assoc, get_or}
use Rattle.std.proofs.lemmas.Bool.{cases_eq, eq-eqb, ne_eqb}
use Rattle.std.proofs.lemmas.List.{length-append, length-set, map-append, take_more}
use Rattle.std.proofs.lemmas.List.Elements.{filter-append, Contains-append_left, Contains-append_right}
use Rattle.std.proofs.lemmas.List.Folds.{concat-append}
use Rattle.std.proofs.lemmas.Option.{slice_get-get_or}
use Rattle.spl_value.proofs.Lists.{set_elsewhere, set_here, take_at, item_there}
use Rattle.spl_tree.specs.declared.graph.Op.{Op}
use Rattle.language_model.specs.declared.checked.CheckedClauses.{CheckedClauses}
use Rattle.language_model.specs.CheckedGraph.{CheckedGraph}
use Rattle.language_model.specs.Keeping.{Keeps}
use Rattle.stream_model.specs.CheckedMeaning.{graph_of, operators_from}
use Rattle.stream_model.specs.Meaning.{Graph}
use Rattle.stream_model.specs.Operators.{connections}
use Rattle.region_choice.specs.steps.Counting.{AreCounts, AreReadings, how_many}

-- ---- one stream more

many_append : (t : ℕ) (xs ys : List ℕ) → how_many t (xs ++ ys) ≡ how_many t xs + how_many t ys
many_append t xs ys = ap length (filter-append (λ u. u == t) xs ys) ∙ length-append (filter (λ u. u == t) xs) (filter (λ u. u == t) ys)

many_same : (s : ℕ) → how_many s (s ∷ []) ≡ 1
many_same s = ap (λ b. length (if b then s ∷ [] else [])) (eq-eqb s s refl)

many_other : (t s : ℕ) → (s ≡ t → ⊥) → how_many t (s ∷ []) ≡ 0
many_other t s other = ap (λ b. length (if b then s ∷ [] else [])) (ne_eqb s t other)

counts_next : (seen counts : List ℕ) (s v : ℕ) → s < length counts → v ≡ min (get_or counts s 0 + 1) 4294967295 → AreCounts seen counts → AreCounts (seen ++ s ∷ []) (set counts s v)
counts_next seen counts s v within is h t below = by_case (cases_eq s t) where
  by_case : (s ≡ t) ⊎ (s ≡ t → ⊥) → slice_get (set counts s v) t ≡ Some (min (how_many t (seen ++ s ∷ [])) 4294967295)
  by_case (inl e) =
      let there : slice_get counts s ≡ Some (get_or counts s 0) = slice_get-get_or counts s 0 within in
      let was : slice_get counts s ≡ Some (min (how_many s seen) 4294967295) = h s within in
      let old : get_or counts s 0 ≡ min (how_many s seen) 4294967295 = cc in
      let more = many_append s seen (s ∷ []) in
      let one = many_same s in
      let new : v ≡ min (how_many s (seen ++ s ∷ [])) 4294967295 = omega arith in
      subst (λ t. slice_get (set counts s v) t ≡ Some (min (how_many t (seen ++ s ∷ [])) 4294967295)) e (set_here counts s v within ∙ ap Some new)
  by_case (inr other) =
      let same = length-set counts s v in
      let more = many_append t seen (s ∷ []) in
      let none = many_other t s other in
      let as_many : how_many t seen ≡ how_many t (seen ++ s ∷ []) = omega arith in
      set_elsewhere counts s t v other ∙ h t (omega arith) ∙ ap (λ n. Some (min n 4294967295)) as_many

pub counts_more : (streams seen counts : List ℕ) (i v : ℕ) → i < length streams → get_or streams i 0 < length counts → v ≡ min (get_or counts (get_or streams i 0) 0 + 1) 4294967295
    → AreCounts (seen ++ take i streams) counts → AreCounts (seen ++ take (i + 1) streams) (set counts (get_or streams i 0) v)
counts_more streams seen counts i v lt within is h =
    let whole : (seen ++ take i streams) ++ get_or streams i 0 ∷ [] ≡ seen ++ take (i + 1) streams =
    append_assoc seen (take i streams) (get_or streams i 0 ∷ []) ∙ ap (λ more. seen ++ more) (sym (take_more streams i 0 lt)) in
    subst (λ all. AreCounts all (set counts (get_or streams i 0) v)) whole (counts_next (seen ++ take i streams) counts (get_or streams i 0) v within is h)

pub contains_at : (streams : List ℕ) (i : ℕ) → i < length streams → Contains streams (get_or streams i 0)
contains_at streams i lt =
    let s : ℕ = get_or streams i 0 in
    let first : slice_get streams i ≡ Some s = slice_get-get_or streams i 0 lt in
    let second : slice_get streams i ≡ Some (get_or streams i s) = slice_get-get_or streams i s lt in
    let same : get_or streams i s ≡ s = cc in
    (i, lt, same)

-- ---- one port more

pub contains_concat : (ports : List (List ℕ)) (i : ℕ) (port : List ℕ) (s : ℕ) → slice_get ports i ≡ Some port → Contains port s → Contains (concat ports) s
contains_concat [] i port s at h = absurd cc
contains_concat (own ∷ ports) zero port s at h =
    let same : port ≡ own = cc in Contains-append_left own (concat ports) s (subst (λ p. Contains p s) same h)
contains_concat (own ∷ ports) (suc i) port s at h = Contains-append_right own (concat ports) s (contains_concat ports i port s at h)

single : (port : List ℕ) → concat (port ∷ []) ≡ port
single [] = refl
single (s ∷ port) = ap (λ rest. s ∷ rest) (single port)

pub ports_more : (ports : List (List ℕ)) (i : ℕ) (port : List ℕ) → i < length ports → port ≡ get_or ports i port → concat (take i ports) ++ port ≡ concat (take (i + 1) ports)
ports_more ports i port lt e =
    ap (λ last. concat (take i ports) ++ last) (sym (single port))
    ∙ sym (concat-append (take i ports) (port ∷ [])) ∙ ap concat (sym (take_at ports i port lt e))

-- ---- the operators of a graph

connections_from : (c : CheckedGraph) (from : ℕ) (ops : List Op) (parts : List CheckedClauses) → length parts ≡ length ops
    → map connections (operators_from c from ops parts) ≡ map (λ (op : Op). concat op.ins) ops
connections_from c from [] parts same = refl
connections_from c from (op ∷ ops) [] same = absurd (omega arith)
connections_from c from (op ∷ ops) (part ∷ parts) same = ap (λ more. concat op.ins ∷ more) (connections_from c (suc from) ops parts (omega arith))

pub all_readings : (c : CheckedGraph) (g : Graph) (counts : List ℕ) → Keeps c → graph_of c ≡ g
    → AreCounts (concat (map (λ (op : Op). concat op.ins) c.graph.ops)) counts → AreReadings g counts
all_readings c g counts k e h =
    let same : map connections g.ops ≡ map (λ (op : Op). concat op.ins) c.graph.ops =
    ap (λ (x : Graph). map connections x.ops) (sym e) ∙ connections_from c 0 c.graph.ops c.parts k.parts in
    subst (λ all. AreCounts (concat all) counts) (sym same) h

-- the streams that one operator takes are those of the graph
pub among_streams : (c : CheckedGraph) → Keeps c → (i : ℕ) (op : Op) (s : ℕ) → i < length c.graph.ops → op ≡ get_or c.graph.ops i op → Contains (concat op.ins) s
    → s < length c.graph.streams
among_streams c k i op s lt e h = k.graph.taken i op (item_there c.graph.ops i op lt e) s h

pub operators_more : (ops : List Op) (i : ℕ) (op : Op) → i < length ops → op ≡ get_or ops i op
    → concat (map (λ (op : Op). concat op.ins) (take i ops)) ++ concat op.ins ≡ concat (map (λ (op : Op). concat op.ins) (take (i + 1) ops))
operators_more ops i op lt e =
    ap (λ last. concat (map (λ (op : Op). concat op.ins) (take i ops)) ++ last) (sym (single (concat op.ins)))
    ∙ sym (concat-append (map (λ (op : Op). concat op.ins) (take i ops)) (concat op.ins ∷ []))
    ∙ ap concat (sym (map-append (λ (op : Op). concat op.ins) (take i ops) (op ∷ [])) ∙ ap (map (λ (op : Op). concat op.ins)) (sym (take_at ops i op lt e)))

pub no_counts : (many : ℕ) → AreCounts [] (replicate many 0)
no_counts zero s below = absurd (omega arith)
no_counts (suc many) zero below = refl
no_counts (suc many) (suc s) below = no_counts many s (omega arith)
