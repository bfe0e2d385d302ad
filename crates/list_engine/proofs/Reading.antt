-- Who reads a stream, operator by operator.
use Rattle.std.proofs.Common.{◌≡◌, ℕ, suc, ◌+◌, ◌<◌, ◌≤◌, ◌==◌, ◌||◌, Bool, true, false, List, refl, sym, ap, subst, ◌∙◌, length, slice_get, Option, Some, None, drop, get_or, arith}
use Rattle.std.specs.List.{cons_option, list_any}
use Rattle.std.specs.Option.{option_map_or}
use Rattle.std.proofs.lemmas.Option.{slice_get_within, slice_get-get_or}
use Rattle.spl_tree.specs.declared.graph.Op.{Op}
use Rattle.language_model.specs.CheckedGraph.{CheckedGraph}
use Rattle.stream_model.specs.CheckedMeaning.{graph_of}
use Rattle.stream_model.specs.Ends.{is_read}
use Rattle.language_model.specs.Keeping.{Keeps}
use Rattle.stream_model.specs.Meaning.{Graph}
use Rattle.stream_model.specs.Operators.{Operator, connections}
use Rattle.list_engine.specs.steps.Reading.{op_reads, ops_at, reads_at}
use Rattle.list_engine.proofs.GraphOperators.{operator_there}
use Rattle.spl_value.proofs.Lists.{next_rest as front_of, drop_past}
use Rattle.stream_model.proofs.GraphParts.{same_length, operator_at}

-- what an operator reads, by its number
reads_by : (c : CheckedGraph) (g : Graph) → graph_of c ≡ g → (n s : ℕ) (o : Operator) → slice_get g.ops n ≡ Some o
    → list_any (λ t. t == s) (connections o) ≡ reads_at c.graph.ops n s
reads_by c g e n s o at =
    let is = operator_at c g e n o at in
    ap (λ (x : Operator). list_any (λ t. t == s) (connections x)) is.same ∙ ap (λ found. option_map_or (λ op. op_reads op s) found false) (sym is.there)

-- ---- one operator more

read_more : (c : CheckedGraph) (g : Graph) → Keeps c → graph_of c ≡ g → (s i : ℕ) → i < length c.graph.ops
    → is_read (drop i g.ops) s ≡ (reads_at c.graph.ops i s || is_read (drop (suc i) g.ops) s)
read_more c g k e s i lt =
    let o = operator_there c g k e i lt in
    ap (λ ops. is_read ops s) (front_of g.ops i o.0 o.1) ∙ ap (λ b. b || is_read (drop (suc i) g.ops) s) (reads_by c g e i s o.0 o.1)

later_more : (c : CheckedGraph) (g : Graph) → Keeps c → graph_of c ≡ g → (s i : ℕ) (later : List ℕ) (n : ℕ) → slice_get later i ≡ Some n
    → is_read (ops_at g (drop i later)) s ≡ (reads_at c.graph.ops n s || is_read (ops_at g (drop (suc i) later)) s)
later_more c g k e s i later n at =
    ap (λ ns. is_read (ops_at g ns) s) (front_of later i n at) ∙ go (slice_get g.ops n) refl
  where
    rest : Bool
    rest = is_read (ops_at g (drop (suc i) later)) s

    missing : (found : Option Op) → slice_get c.graph.ops n ≡ found → slice_get g.ops n ≡ None → found ≡ None
    missing None q none = refl
    missing (Some op) q none =
        let o = operator_there c g k e n (slice_get_within c.graph.ops n op q) in let apart : None ≡ Some o.0 = sym none ∙ o.1 in absurd cc

    go : (found : Option Operator) → slice_get g.ops n ≡ found
        → is_read (cons_option (slice_get g.ops n) (ops_at g (drop (suc i) later))) s ≡ (reads_at c.graph.ops n s || rest)
    go None q =
        ap (λ x. is_read (cons_option x (ops_at g (drop (suc i) later))) s) q
        ∙ ap (λ x. option_map_or (λ op. op_reads op s) x false || rest) (sym (missing (slice_get c.graph.ops n) refl q))
    go (Some o) q =
        ap (λ x. is_read (cons_option x (ops_at g (drop (suc i) later))) s) q ∙ ap (λ b. b || rest) (reads_by c g e n s o q)

-- ---- the steps of the loops

found_here : (all here rest now : Bool) → now ≡ all → now ≡ (here || rest) → here ≡ true → true ≡ all
found_here all here rest now e f h = sym (sym e ∙ f ∙ ap (λ b. b || rest) h)

not_here : (all here rest now : Bool) → now ≡ all → now ≡ (here || rest) → here ≡ false → rest ≡ all
not_here all here rest now e f h = sym (sym e ∙ f ∙ ap (λ b. b || rest) h)

next : (P : ℕ → Type 0) (i : ℕ) → P (suc i) → P (i + 1)
next P i p = let same : suc i ≡ i + 1 = omega arith in subst P same p

pub read_found : (c : CheckedGraph) (g : Graph) → Keeps c → graph_of c ≡ g → (s i : ℕ) (r : Bool) → i < length c.graph.ops → r ≡ reads_at c.graph.ops i s → r ≡ true
    → is_read (drop i g.ops) s ≡ is_read g.ops s → true ≡ is_read g.ops s
read_found c g k e s i r lt is holds inv = found_here _ _ _ _ inv (read_more c g k e s i lt) (sym is ∙ holds)

pub read_on : (c : CheckedGraph) (g : Graph) → Keeps c → graph_of c ≡ g → (s i : ℕ) (r : Bool) → i < length c.graph.ops → r ≡ reads_at c.graph.ops i s → r ≡ false
    → is_read (drop i g.ops) s ≡ is_read g.ops s → is_read (drop (i + 1) g.ops) s ≡ is_read g.ops s
read_on c g k e s i r lt is fails inv =
    next (λ j. is_read (drop j g.ops) s ≡ is_read g.ops s) i (not_here _ _ _ _ inv (read_more c g k e s i lt) (sym is ∙ fails))

pub read_end : (c : CheckedGraph) (g : Graph) → Keeps c → graph_of c ≡ g → (s i : ℕ) → length c.graph.ops ≤ i
    → is_read (drop i g.ops) s ≡ is_read g.ops s → false ≡ is_read g.ops s
read_end c g k e s i past inv =
    ap (λ ops. is_read ops s) (sym (drop_past g.ops i (let same = same_length c g k e in omega (arith, same, past)))) ∙ inv

pub later_found : (c : CheckedGraph) (g : Graph) → Keeps c → graph_of c ≡ g → (s i : ℕ) (later : List ℕ) (r : Bool) → i < length later
    → r ≡ reads_at c.graph.ops (get_or later i 0) s → r ≡ true
    → is_read (ops_at g (drop i later)) s ≡ is_read (ops_at g later) s → true ≡ is_read (ops_at g later) s
later_found c g k e s i later r lt is holds inv =
    found_here _ _ _ _ inv (later_more c g k e s i later (get_or later i 0) (slice_get-get_or later i 0 lt)) (sym is ∙ holds)

pub later_on : (c : CheckedGraph) (g : Graph) → Keeps c → graph_of c ≡ g → (s i : ℕ) (later : List ℕ) (r : Bool) → i < length later
    → r ≡ reads_at c.graph.ops (get_or later i 0) s → r ≡ false
    → is_read (ops_at g (drop i later)) s ≡ is_read (ops_at g later) s → is_read (ops_at g (drop (i + 1) later)) s ≡ is_read (ops_at g later) s
later_on c g k e s i later r lt is fails inv =
    next (λ j. is_read (ops_at g (drop j later)) s ≡ is_read (ops_at g later) s) i
    (not_here _ _ _ _ inv (later_more c g k e s i later (get_or later i 0) (slice_get-get_or later i 0 lt)) (sym is ∙ fails))
