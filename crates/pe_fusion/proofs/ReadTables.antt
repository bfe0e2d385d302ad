-- The tables of connections are the connections of streams.
use Rattle.std.proofs.Common.{ℕ, zero, suc, ◌<◌, ◌==◌, cond, List, [], ◌∷◌, ◌++◌, append_assoc, append-nil, ◌≡◌, ◌⊎◌, inl, inr, refl, sym, ap, ◌∙◌, arith, length, replicate, set, Some, slice_get}
use Rattle.std.specs.List.{concat, Contains, flat_map}
use Rattle.std.specs.Option.{unwrap_or}
use Rattle.std.proofs.lemmas.Bool.{cases_eq, eq-eqb, ne_eqb}
use Rattle.std.proofs.lemmas.List.{length-set, length-replicate}
use Rattle.spl_value.proofs.Lists.{set_elsewhere, set_here, contains_here, contains_later, get_below}
use Rattle.spl_tree.specs.declared.graph.Op.{Op}
use Rattle.language_model.specs.declared.checked.CheckedClauses.{CheckedClauses}
use Rattle.language_model.specs.CheckedGraph.{CheckedGraph}
use Rattle.language_model.specs.Keeping.{Keeps}
use Rattle.stream_model.specs.CheckedMeaning.{graph_of, operators_from}
use Rattle.stream_model.specs.Operators.{Operator, connections}
use Rattle.pe_fusion.specs.Readers.{reads_at, readers}
use Rattle.pe_fusion.specs.steps.Reading.{Table, read_by, add_reads, add_operators}

-- ---- one operator

pub length-reads : (table : Table) (n i : ℕ) (streams : List ℕ) → length (add_reads table n i streams) ≡ length table
length-reads table n i [] = refl
length-reads table n i (s ∷ streams) =
    length-reads (set table s (read_by table s ++ (n, i) ∷ [])) n (suc i) streams
    ∙ length-set table s (read_by table s ++ (n, i) ∷ [])

-- what is read of a stream
pub reads-more : (table : Table) (n i : ℕ) (streams : List ℕ) (s : ℕ) → ((t : ℕ) → Contains streams t → t < length table)
    → read_by (add_reads table n i streams) s ≡ read_by table s ++ reads_at n s i streams
reads-more table n i [] s within = sym (append-nil (read_by table s))
reads-more table n i (t ∷ streams) s within =
    reads-more next n (suc i) streams s (λ u h. let a = within u (contains_later t u streams h) in let b = length-set table t (read_by table t ++ (n, i) ∷ []) in omega (arith, a, b))
    ∙ go (cases_eq t s)
  where
    next : Table
    next = set table t (read_by table t ++ (n, i) ∷ [])

    go : (t ≡ s) ⊎ (t ≡ s → ⊥) → read_by next s ++ reads_at n s (suc i) streams
        ≡ read_by table s ++ cond (t == s) ((n, i) ∷ reads_at n s (suc i) streams) (reads_at n s (suc i) streams)
    go (inl e) =
        let lt = within t (contains_here t streams) in
        let here : slice_get next s ≡ Some (read_by table t ++ (n, i) ∷ []) = ap (slice_get next) (sym e) ∙ set_here table t (read_by table t ++ (n, i) ∷ []) lt in
        ap (λ o. unwrap_or o [] ++ reads_at n s (suc i) streams) here
        ∙ append_assoc (read_by table t) ((n, i) ∷ []) (reads_at n s (suc i) streams)
        ∙ ap (λ u. read_by table u ++ (n, i) ∷ reads_at n s (suc i) streams) e
        ∙ ap (λ b. read_by table s ++ cond b ((n, i) ∷ reads_at n s (suc i) streams) (reads_at n s (suc i) streams)) (sym (eq-eqb t s e))
    go (inr apart) =
        ap (λ o. unwrap_or o [] ++ reads_at n s (suc i) streams) (set_elsewhere table t s (read_by table t ++ (n, i) ∷ []) apart)
        ∙ ap (λ b. read_by table s ++ cond b ((n, i) ∷ reads_at n s (suc i) streams) (reads_at n s (suc i) streams)) (sym (ne_eqb t s apart))

-- ---- all operators

-- the connections of a stream to operators numbered from n on
abbrev reads_from : ℕ → ℕ → List Op → List (ℕ × ℕ)
reads_from n s [] = []
reads_from n s (op ∷ ops) = reads_at n s 0 (concat op.ins) ++ reads_from (suc n) s ops

operators-more : (table : Table) (n : ℕ) (ops : List Op) (s : ℕ) → ((k : ℕ) (op : Op) → slice_get ops k ≡ Some op → (t : ℕ) → Contains (concat op.ins) t → t < length table)
    → read_by (add_operators table n ops) s ≡ read_by table s ++ reads_from n s ops
operators-more table n [] s within = sym (append-nil (read_by table s))
operators-more table n (op ∷ ops) s within =
    operators-more (add_reads table n 0 (concat op.ins)) (suc n) ops s (λ k o at t h. let a = within (suc k) o at t h in let b = length-reads table n 0 (concat op.ins) in omega (arith, a, b))
    ∙ ap (λ rs. rs ++ reads_from (suc n) s ops) (reads-more table n 0 (concat op.ins) s (λ t h. within 0 op refl t h))
    ∙ append_assoc (read_by table s) (reads_at n s 0 (concat op.ins)) (reads_from (suc n) s ops)

from-operators : (c : CheckedGraph) (s n : ℕ) (ops : List Op) (parts : List CheckedClauses) → length parts ≡ length ops
    → flat_map (λ (op : Operator). reads_at op.number s 0 (connections op)) (operators_from c n ops parts) ≡ reads_from n s ops
from-operators c s n [] parts same = refl
from-operators c s n (op ∷ ops) [] same = absurd (let k : 0 ≡ suc (length ops) = same in omega (arith, k))
from-operators c s n (op ∷ ops) (part ∷ parts) same =
    ap (λ rs. reads_at n s 0 (concat op.ins) ++ rs) (from-operators c s (suc n) ops parts (let k : suc (length parts) ≡ suc (length ops) = same in omega (arith, k)))

nothing-read : (many s : ℕ) → read_by (replicate many []) s ≡ []
nothing-read zero s = refl
nothing-read (suc many) zero = refl
nothing-read (suc many) (suc s) = nothing-read many s

length-nothing : (many : ℕ) → length (replicate {A = List (ℕ × ℕ)} many []) ≡ many
length-nothing many = length-replicate many []

-- the table of a checked graph
abbrev pub table_of : CheckedGraph → Table
table_of c = add_operators (replicate (length c.graph.streams) []) 0 c.graph.ops

pub table-is : (c : CheckedGraph) → Keeps c → (s : ℕ) → read_by (table_of c) s ≡ readers (graph_of c) s
table-is c k s =
    operators-more (replicate (length c.graph.streams) []) 0 c.graph.ops s
    (λ n op at t h. let a = k.graph.taken n op at t h in let b = length-nothing (length c.graph.streams) in omega (arith, a, b))
    ∙ ap (λ rs. rs ++ reads_from 0 s c.graph.ops) (nothing-read (length c.graph.streams) s)
    ∙ sym (from-operators c s 0 c.graph.ops c.parts k.parts)

length-operators : (table : Table) (n : ℕ) (ops : List Op) → length (add_operators table n ops) ≡ length table
length-operators table n [] = refl
length-operators table n (op ∷ ops) = length-operators (add_reads table n 0 (concat op.ins)) (suc n) ops ∙ length-reads table n 0 (concat op.ins)

-- it has an entry for each stream
pub table-at : (c : CheckedGraph) → Keeps c → (s : ℕ) → s < length c.graph.streams → slice_get (table_of c) s ≡ Some (readers (graph_of c) s)
table-at c k s lt =
    let a = length-operators (replicate (length c.graph.streams) []) 0 c.graph.ops in
    let b = length-nothing (length c.graph.streams) in
    let found = get_below (table_of c) s (omega (arith, a, b, lt)) in
    found.1 ∙ ap (λ rs. Some rs) (sym (ap (λ o. unwrap_or o []) found.1) ∙ table-is c k s)
