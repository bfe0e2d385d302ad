-- An arrival record is known by its entries.
use Prim.Native.Nat.{suc}
use Rattle.std.proofs.Common.{◌≡◌, ◌≤◌, ◌∙◌, arith, cond, ℕ, Bool, true, false, List, [], ◌∷◌, map, refl, sym, ap, subst, inl, inr, ◌⊎◌, slice_get, Option, Some, None}
use Rattle.std.specs.List.{cons_option, filter_map}
use Rattle.std.proofs.lemmas.Bool.{eq-eqb, ne_eqb}
use Rattle.language_model.specs.declared.checked.CheckedClauses.{CheckedClauses}
use Rattle.spl_tree.specs.declared.graph.Op.{Op}
use Rattle.language_model.specs.CheckedGraph.{CheckedGraph}
use Rattle.stream_model.specs.declared.record.ArrivalList.{ArrivalList}
use Rattle.stream_model.specs.declared.record.Arrivals.{Arrivals}
use Rattle.stream_model.specs.Arrivals.{entries_in, has_several, several}
use Rattle.stream_model.proofs.parts.Arrivals.{if_several}
use Rattle.stream_model.specs.CheckedMeaning.{graph_of, operator_with, operators_from}
use Rattle.stream_model.specs.Operators.{Operator, connections}

-- ---- numbers that ascend

abbrev Ascends : ℕ → List ℕ → Type 0
Ascends k [] = Unit {0}
Ascends k (n ∷ ns) = (k ≤ n) × Ascends (suc n) ns

from_before : (k : ℕ) (ns : List ℕ) → Ascends (suc k) ns → Ascends k ns
from_before k [] h = tt
from_before k (n ∷ ns) h = (let le = h.0 in omega (arith, le), h.1)

some_several : (op : Operator) → has_several (connections op) ≡ true → if_several op ≡ Some op.number
some_several op e = ap (λ (b : Bool). cond b (Some op.number) None) e

not_several : (op : Operator) → has_several (connections op) ≡ false → if_several op ≡ None
not_several op e = ap (λ (b : Bool). cond b (Some op.number) None) e

ascends : (c : CheckedGraph) (k : ℕ) (ops : List Op) (parts : List CheckedClauses) → Ascends k (filter_map if_several (operators_from c k ops parts))
ascends c k [] parts = tt
ascends c k (op ∷ ops) [] = tt
ascends c k (op ∷ ops) (part ∷ parts) = by (has_several (connections o)) refl (ascends c (suc k) ops parts)
  where
    o : Operator
    o = operator_with c k op part

    rest : List ℕ
    rest = filter_map if_several (operators_from c (suc k) ops parts)

    by : (b : Bool) → has_several (connections o) ≡ b → Ascends (suc k) rest → Ascends k (cons_option (if_several o) rest)
    by true e up = subst (λ (x : Option ℕ). Ascends k (cons_option x rest)) (sym (some_several o e)) (omega arith, up)
    by false e up = subst (λ (x : Option ℕ). Ascends k (cons_option x rest)) (sym (not_several o e)) (from_before k rest up)

-- ---- lists with the same entries

abbrev op_numbers : List ArrivalList → List ℕ
op_numbers lists = map (λ (l : ArrivalList). l.op) lists

-- one of these numbers
abbrev IsOneOf : ℕ → List ℕ → Type 0
IsOneOf n [] = ⊥
IsOneOf n (m ∷ ms) = (m ≡ n) ⊎ IsOneOf n ms

not_below : (k n : ℕ) (ns : List ℕ) → Ascends k ns → IsOneOf n ns → k ≤ n
not_below k n [] h one = absurd one
not_below k n (m ∷ ns) h (inl e) = let le = h.0 in omega (arith, le, e)
not_below k n (m ∷ ns) h (inr one) = let le = h.0 in let more = not_below (suc m) n ns h.1 one in omega (arith, le, more)

same_list : (l k : ArrivalList) → l.op ≡ k.op → l.inputs ≡ k.inputs → l ≡ k
same_list l k o i = λ j. record { op = o j; inputs = i j }

pub same_lists : (k : ℕ) (ls ks : List ArrivalList) → op_numbers ls ≡ op_numbers ks → Ascends k (op_numbers ls) → ((n : ℕ) → IsOneOf n (op_numbers ls) → entries_in ls n ≡ entries_in ks n) → ls ≡ ks
same_lists k [] [] e up same = refl
same_lists k [] (x ∷ ks) e up same = cc
same_lists k (l ∷ ls) [] e up same = cc
same_lists k (l ∷ ls) (x ∷ ks) e up same =
    let ops : l.op ≡ x.op = cc in
    let rest : op_numbers ls ≡ op_numbers ks = cc in
    let first = same l.op (inl refl) in
    let inputs : l.inputs ≡ x.inputs =
    sym (ap (λ (b : Bool). cond b l.inputs (entries_in ls l.op)) (eq-eqb l.op l.op refl)) ∙ first ∙ ap (λ (b : Bool). cond b x.inputs (entries_in ks l.op)) (eq-eqb x.op l.op (sym ops)) in
    let tails = same_lists (suc l.op) ls ks rest up.1 (later ops) in
    ap (λ (y : ArrivalList). y ∷ ls) (same_list l x ops inputs) ∙ ap (λ (ys : List ArrivalList). x ∷ ys) tails
  where
    later : l.op ≡ x.op → (n : ℕ) → IsOneOf n (op_numbers ls) → entries_in ls n ≡ entries_in ks n
    later ops n one =
        let above = not_below (suc l.op) n (op_numbers ls) up.1 one in
        sym (ap (λ (b : Bool). cond b l.inputs (entries_in ls n)) (ne_eqb l.op n (λ (e : l.op ≡ n). omega (arith, e, above))))
        ∙ same n (inr one)
        ∙ ap (λ (b : Bool). cond b x.inputs (entries_in ks n)) (ne_eqb x.op n (λ (e : x.op ≡ n). omega (arith, e, ops, above)))

-- ---- the operators with several connections

-- one that is among them is there, and has several
abbrev StandsAt : List Operator → ℕ → Type 0
StandsAt ops n = (i : ℕ) × (op : Operator) × (slice_get ops i ≡ Some op) × (has_several (connections op) ≡ true) × (op.number ≡ n)

stands_at : (ops : List Operator) (n : ℕ) → IsOneOf n (filter_map if_several ops) → StandsAt ops n
stands_at [] n one = absurd one
stands_at (op ∷ ops) n one = by (has_several (connections op)) refl (stands_at ops n)
  where
    further : StandsAt ops n → StandsAt (op ∷ ops) n
    further (i, x, at, many, is) = (suc i, x, at, many, is)

    at_first : has_several (connections op) ≡ true → (StandsAt ops n → StandsAt (op ∷ ops) n) → ((op.number ≡ n) ⊎ IsOneOf n (filter_map if_several ops)) → (IsOneOf n (filter_map if_several ops) → StandsAt ops n) → StandsAt (op ∷ ops) n
    at_first many more (inl is) rest = (0, op, refl, many, is)
    at_first many more (inr later) rest = more (rest later)

    by : (b : Bool) → has_several (connections op) ≡ b → (IsOneOf n (filter_map if_several ops) → StandsAt ops n) → StandsAt (op ∷ ops) n
    by true e rest = at_first e further (subst (IsOneOf n) (ap (λ (x : Option ℕ). cons_option x (filter_map if_several ops)) (some_several op e)) one) rest
    by false e rest = further (rest (subst (IsOneOf n) (ap (λ (x : Option ℕ). cons_option x (filter_map if_several ops)) (not_several op e)) one))

-- a record with a list for each operator with several connections is the one that has the same entries for these
pub same_record : (c : CheckedGraph) (one other : Arrivals) → op_numbers one.lists ≡ several (graph_of c) → op_numbers other.lists ≡ several (graph_of c)
    → ((n : ℕ) (op : Operator) → slice_get (graph_of c).ops n ≡ Some op → has_several (connections op) ≡ true → entries_in one.lists op.number ≡ entries_in other.lists op.number) → one ≡ other
same_record c one other e d same =
    let lists = same_lists 0 one.lists other.lists (e ∙ sym d) (subst (Ascends 0) (sym e) (ascends c 0 c.graph.ops c.parts)) at in
    λ i. record { lists = lists i }
  where
    at : (n : ℕ) → IsOneOf n (op_numbers one.lists) → entries_in one.lists n ≡ entries_in other.lists n
    at n among =
        let s = stands_at (graph_of c).ops n (subst (IsOneOf n) e among) in
        subst (λ (k : ℕ). entries_in one.lists k ≡ entries_in other.lists k) s.4 (same s.0 s.1 s.2 s.3)
