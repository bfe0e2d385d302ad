-- A record whose lists are whole is one of the graph.
use Prim.Native.Nat.{zero, suc}
use Rattle.std.specs.List.{AllByRecursion, concat, cons_option, list_all}
use Rattle.std.proofs.Common.{◌≡◌, ◌∙◌, ◌+◌, ◌<◌, ◌==◌, ◌&&◌, ◌∷◌, [], ℕ, List, Bool, true, false, Some, None, if◌then◌else◌, cond, map, length, slice_get, nat_lt, refl, sym, ap, subst, arith, ltb-true, length-append}
use Rattle.std.proofs.lemmas.Bool.{eq-eqb, ne_eqb}
use Rattle.std.proofs.lemmas.List.{length-map}
use Rattle.spl_tree.specs.declared.graph.Op.{Op}
use Rattle.language_model.specs.declared.checked.CheckedClauses.{CheckedClauses}
use Rattle.language_model.specs.CheckedGraph.{CheckedGraph}
use Rattle.stream_model.specs.declared.record.ArrivalList.{ArrivalList}
use Rattle.stream_model.specs.Arrivals.{entries_in, has_several}
use Rattle.stream_model.specs.CheckedMeaning.{graph_of, operator_with, operators_from}
use Rattle.stream_model.specs.Meaning.{Lists}
use Rattle.stream_model.specs.Operators.{Operator, connections, ports_from}
use Rattle.stream_model.specs.Records.{is_whole}
use Rattle.stream_model.proofs.Records.{whole_law}
use Rattle.arrival_format.specs.ArrivalTexts.{AreInputs, connection_count}
use Rattle.arrival_format.specs.FormatLaws.{WholeRecordLaw}
use Rattle.arrival_format.specs.steps.Steps.{several_from}
use Rattle.arrival_format.proofs.Lines.{count_in, several_are}

-- ---- a whole list

count_ports : (p : ℕ) (ins : List (List ℕ)) → length (ports_from p ins) ≡ length (concat ins)
count_ports p [] = refl
count_ports p (streams ∷ ins) =
    let own = length-append (map (λ s. p) streams) (ports_from (suc p) ins) in
    let each = length-map streams (λ s. p) in
    let rest = count_ports (suc p) ins in
    let all = length-append streams (concat ins) in
    omega (arith, own, each, rest, all)

all_below : (n : ℕ) (entries : List ℕ) → list_all (λ i. nat_lt i n) entries ≡ true → AllByRecursion (λ i. i < n) entries
all_below n [] e = tt
all_below n (i ∷ entries) e = go (nat_lt i n) refl e (all_below n entries)
  where
    go : (b : Bool) → nat_lt i n ≡ b → (b && list_all (λ i. nat_lt i n) entries) ≡ true
        → (list_all (λ i. nat_lt i n) entries ≡ true → AllByRecursion (λ i. i < n) entries) → AllByRecursion (λ i. i < n) (i ∷ entries)
    go true is rest others = (ltb-true i n is, others rest)
    go false is rest others = absurd cc

whole_inputs : (op : Operator) (lists : Lists) (entries : List ℕ) → is_whole op lists entries ≡ true → AreInputs (length (connections op)) entries
whole_inputs op lists [] whole = absurd cc
whole_inputs op lists (i ∷ entries) whole = record {
  some = omega arith;
  below = all_below (length (connections op)) (i ∷ entries)
      (ap (λ n. list_all (λ j. nat_lt j n) (i ∷ entries)) (sym (count_ports 0 op.ins)) ∙ ((whole_law op lists (i ∷ entries)).0 whole).named);
}

-- ---- whole lists, one after another

-- the operators have these inputs in a record
abbrev AreWholeIn : ℕ → List Op → List ArrivalList → Type 0
AreWholeIn from ops lists = (k : ℕ) (op : Op) → slice_get ops k ≡ Some op → has_several (concat op.ins) ≡ true → AreInputs (length (concat op.ins)) (entries_in lists (from + k))

later_whole : (from : ℕ) (o : Op) (ops : List Op) (lists : List ArrivalList) → AreWholeIn from (o ∷ ops) lists → AreWholeIn (suc from) ops lists
later_whole from o ops lists whole k op there more =
    let same : from + suc k ≡ suc from + k = omega arith in
    subst (λ n. AreInputs (length (concat op.ins)) (entries_in lists n)) same (whole (suc k) op there more)

behind_first : (from : ℕ) (ops : List Op) (l : ArrivalList) (lists : List ArrivalList) → l.op ≡ from → AreWholeIn (suc from) ops (l ∷ lists) → AreWholeIn (suc from) ops lists
behind_first from ops l lists is whole k op there more =
    let other : (l.op == (suc from + k)) ≡ false = ne_eqb l.op (suc from + k) (λ (e : l.op ≡ suc from + k). omega (arith, is, e)) in
    subst (AreInputs (length (concat op.ins))) (ap (λ b. cond b l.inputs (entries_in lists (suc from + k))) other) (whole k op there more)

first_inputs : (from : ℕ) (o : Op) (ops : List Op) (l : ArrivalList) (lists : List ArrivalList) → l.op ≡ from → has_several (concat o.ins) ≡ true → AreWholeIn from (o ∷ ops) (l ∷ lists)
    → AreInputs (length (concat o.ins)) l.inputs
first_inputs from o ops l lists is more whole =
    let here : (l.op == (from + 0)) ≡ true = eq-eqb l.op (from + 0) (omega (arith, is)) in
    subst (AreInputs (length (concat o.ins))) (ap (λ b. cond b l.inputs (entries_in lists (from + 0))) here) (whole 0 o refl more)

-- the lists name operators from one on, with as many connections as they have
abbrev InputsFrom : (ℕ → ℕ) → List ArrivalList → Type 0
InputsFrom counts lists = AllByRecursion (λ (l : ArrivalList). AreInputs (counts l.op) l.inputs) lists

inputs_from : (counts : ℕ → ℕ) (from : ℕ) (ops : List Op) (lists : List ArrivalList)
    → ((k : ℕ) (op : Op) → slice_get ops k ≡ Some op → counts (from + k) ≡ length (concat op.ins))
    → map (λ (l : ArrivalList). l.op) lists ≡ several_from from ops → AreWholeIn from ops lists → InputsFrom counts lists
inputs_from counts from [] [] count ops whole = tt
inputs_from counts from [] (l ∷ lists) count ops whole = absurd cc
inputs_from counts from (o ∷ os) lists count ops whole =
    go (has_several (concat o.ins)) refl lists ops whole (λ lists ops whole. inputs_from counts (suc from) os lists later ops whole)
  where
    later : (k : ℕ) (op : Op) → slice_get os k ≡ Some op → counts (suc from + k) ≡ length (concat op.ins)
    later k op there = let same : suc from + k ≡ from + suc k = omega arith in ap counts same ∙ count (suc k) op there

    go : (b : Bool) → has_several (concat o.ins) ≡ b → (lists : List ArrivalList)
        → map (λ (l : ArrivalList). l.op) lists ≡ cons_option (if b then Some from else None) (several_from (suc from) os) → AreWholeIn from (o ∷ os) lists
        → ((lists : List ArrivalList) → map (λ (l : ArrivalList). l.op) lists ≡ several_from (suc from) os → AreWholeIn (suc from) os lists → InputsFrom counts lists) → InputsFrom counts lists
    go false is lists ops whole others = others lists ops (later_whole from o os lists whole)
    go true is [] ops whole others = absurd cc
    go true is (l ∷ lists) ops whole others =
        let own : l.op ≡ from = cc in
        let rest : map (λ (l : ArrivalList). l.op) lists ≡ several_from (suc from) os = cc in
        let number : l.op ≡ from + 0 = omega (arith, own) in (
          subst (λ n. AreInputs n l.inputs) (sym (ap counts number ∙ count 0 o refl)) (first_inputs from o os l lists own is whole),
          others lists rest (behind_first from os l lists own (later_whole from o os (l ∷ lists) whole)),
        )

-- ---- the record of a graph

operator_is : (c : CheckedGraph) (from n : ℕ) (ops : List Op) (parts : List CheckedClauses) (op : Op) → length parts ≡ length ops → slice_get ops n ≡ Some op
    → (part : CheckedClauses) × (slice_get (operators_from c from ops parts) n ≡ Some (operator_with c (from + n) op part))
operator_is c from n [] parts op l there = absurd cc
operator_is c from n (o ∷ ops) [] op l there = absurd (omega (arith, l))
operator_is c from zero (o ∷ ops) (part ∷ parts) op l there =
    let same : o ≡ op = cc in
    let number : from ≡ from + 0 = omega arith in
    (part, (λ i. Some (operator_with c (number i) (same i) part)))
operator_is c from (suc n) (o ∷ ops) (part ∷ parts) op l there =
    let rest = operator_is c (suc from) n ops parts op (omega (arith, l)) there in
    let number : suc from + n ≡ from + suc n = omega arith in
    (rest.0, rest.1 ∙ ap (λ k. Some (operator_with c k op rest.0)) number)

pub whole_record : WholeRecordLaw
whole_record c arrivals lists keeps ops whole = record {
  lists = ops;
  inputs = inputs_from (connection_count (graph_of c)) 0 c.graph.ops arrivals.lists
      (λ k op there. (let is = operator_is c 0 k c.graph.ops c.parts op keeps.parts there in
      let number : 0 + k ≡ k = omega arith in
      ap (connection_count (graph_of c)) number ∙ ap count_in is.1))
      (ops ∙ several_are c 0 c.graph.ops c.parts keeps.parts)
      (λ k op there more. (let is = operator_is c 0 k c.graph.ops c.parts op keeps.parts there in
      let o : Operator = operator_with c (0 + k) op is.0 in
      whole_inputs o (lists o) (entries_in arrivals.lists (0 + k)) (whole k o is.1 more)));
}
