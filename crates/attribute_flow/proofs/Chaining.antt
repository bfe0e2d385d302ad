-- Operators of checked graphs by their numbers, and chains of them.
use Rattle.std.specs.Prelude.{◌≡◌, ◌<◌, ◌≤◌, ◌-◌, ℕ, suc, List, [], ◌∷◌, ◌++◌, map, length, take, Option, None, Some, slice_get}
use Rattle.std.specs.Option.{option_and_then, option_map_or}
use Rattle.std.proofs.Common.{refl, sym, ap, ◌∙◌, arith, get_or}
use Rattle.std.proofs.Math.Seq.{take-suc}
use Rattle.std.proofs.lemmas.Option.{slice_get-get_or, slice_get_within}
use Rattle.spl_value.proofs.Lists.{get_below}
use Rattle.language_model.specs.declared.checked.CheckedClauses.{CheckedClauses}
use Rattle.language_model.specs.CheckedGraph.{CheckedGraph}
use Rattle.stream_model.specs.CheckedMeaning.{graph_of}
use Rattle.stream_model.specs.Copies.{source_of, trace}
use Rattle.stream_model.specs.Meaning.{Graph}
use Rattle.stream_model.specs.Operators.{Operator}
use Rattle.stream_model.specs.Regions.{ops_of}
use Rattle.stream_model.proofs.CheckedOperators.{operator_from}
use Rattle.attribute_flow.specs.Chains.{AreNumbers, traced}

-- and there are some
pub in_parts : (c : CheckedGraph) (g : Graph) (n : ℕ) → graph_of c ≡ g → n < length g.ops → n < length c.parts
in_parts c g n is lt =
    let o = get_below g.ops n lt in
    let there = operator_from c 0 c.graph.ops c.parts n o.0 (ap (λ (h : Graph). slice_get h.ops n) is ∙ o.1) in
    slice_get_within c.parts n there.part there.has

-- ---- one operator after others

pub ops_last : (g : Graph) (ns : List ℕ) (n : ℕ) (o : Operator) → slice_get g.ops n ≡ Some o → ops_of g (ns ++ n ∷ []) ≡ ops_of g ns ++ o ∷ []
ops_last g [] n o at = ap (λ found. option_map_or (λ op. op ∷ []) found []) at
ops_last g (m ∷ ns) n o at = by_case (ops_last g ns n o at) (slice_get g.ops m) where
  by_case : ops_of g (ns ++ n ∷ []) ≡ ops_of g ns ++ o ∷ [] → (found : Option Operator) → option_map_or (λ op. op ∷ ops_of g (ns ++ n ∷ [])) found (ops_of g (ns ++ n ∷ []))
      ≡ option_map_or (λ op. op ∷ ops_of g ns) found (ops_of g ns) ++ o ∷ []
  by_case rest None = rest
  by_case rest (Some op) = ap (λ ops. op ∷ ops) rest

parts_last : (ops : List Operator) (o : Operator) → map (λ (op : Operator). op.clauses) (ops ++ o ∷ []) ≡ map (λ (op : Operator). op.clauses) ops ++ o.clauses ∷ []
parts_last [] o = refl
parts_last (op ∷ ops) o = ap (λ parts. op.clauses ∷ parts) (parts_last ops o)

found_only : (found : Option ℕ) → found ≡ option_and_then (λ b. Some b) found
found_only None = refl
found_only (Some b) = refl

pub and_then_twice : (first second : ℕ → Option ℕ) (found : Option ℕ) → option_and_then first (option_and_then second found) ≡ option_and_then (λ b. option_and_then first (second b)) found
and_then_twice first second None = refl
and_then_twice first second (Some b) = refl

pub trace_last : (parts : List CheckedClauses) (part : CheckedClauses) (a : ℕ) → trace (parts ++ part ∷ []) a ≡ option_and_then (trace parts) (source_of part a)
trace_last [] part a = found_only (source_of part a)
trace_last (first ∷ parts) part a =
    ap (option_and_then (source_of first)) (trace_last parts part a) ∙ and_then_twice (source_of first) (trace parts) (source_of part a)

-- ---- one step back

module _ (c : CheckedGraph) (chain : List ℕ) (left : ℕ) (some : 0 < left) (within : left ≤ length chain) (numbers : (g : Graph) → graph_of c ≡ g → AreNumbers g chain) where
  before : left - 1 < length chain
  before = omega arith

  front : take left chain ≡ take (left - 1) chain ++ get_or chain (left - 1) 0 ∷ []
  front =
      let one : left ≡ suc (left - 1) = omega arith in
      ap (λ k. take k chain) one ∙ take-suc chain (left - 1) 0 before

  pub last_within : (g : Graph) → graph_of c ≡ g → get_or chain (left - 1) 0 < length g.ops
  last_within g same = numbers g same (left - 1) (get_or chain (left - 1) 0) (slice_get-get_or chain (left - 1) 0 before)

  pub last_in_parts : get_or chain (left - 1) 0 < length c.parts
  last_in_parts = in_parts c (graph_of c) (get_or chain (left - 1) 0) refl (last_within (graph_of c) refl)

  pub traced_back : (a : ℕ) (found : Option ℕ)
      → ((g : Graph) (o : Operator) → graph_of c ≡ g → slice_get g.ops (get_or chain (left - 1) 0) ≡ Some o → found ≡ source_of o.clauses a)
      → (g : Graph) → graph_of c ≡ g → traced g (take left chain) a ≡ option_and_then (traced g (take (left - 1) chain)) found
  traced_back a found is g same =
      let n = get_or chain (left - 1) 0 in
      let there = get_below g.ops n (last_within g same) in
      ap (λ ns. traced g ns a) front
      ∙ ap (λ ops. trace (map (λ (op : Operator). op.clauses) ops) a) (ops_last g (take (left - 1) chain) n there.0 there.1)
      ∙ ap (λ parts. trace parts a) (parts_last (ops_of g (take (left - 1) chain)) there.0)
      ∙ trace_last (map (λ (op : Operator). op.clauses) (ops_of g (take (left - 1) chain))) there.0.clauses a
      ∙ ap (option_and_then (traced g (take (left - 1) chain))) (sym (is g there.0 same there.1))
