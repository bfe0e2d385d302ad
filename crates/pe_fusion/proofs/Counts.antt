-- How many operators, regions and connections there are.
use Rattle.std.proofs.Common.{ℕ, zero, suc, ◌+◌, ◌<◌, ◌≤◌, ◌==◌, Bool, cond, List, [], ◌∷◌, ◌++◌, ◌≡◌, ◌⊎◌, inl, inr, refl, sym, ap, ◌∙◌, arith, length, map, Some, slice_get, true, false}
use Rattle.std.specs.List.{concat, flat_map}
use Rattle.std.proofs.lemmas.Bool.{cases_order, eq-eqb}
use Rattle.std.proofs.lemmas.List.{length-append}
use Rattle.stream_model.specs.declared.plan.Region.{Region}
use Rattle.stream_model.specs.Operators.{Operator, connections}
use Rattle.stream_model.specs.Meaning.{Graph}
use Rattle.stream_model.specs.Regions.{how_often, numbers_to}
use Rattle.pe_fusion.specs.Readers.{reads_at, readers}
use Rattle.pe_fusion.specs.Totals.{one_if, times, total}
use Rattle.pe_fusion.proofs.Totals.{eqb-turn, total-append, total-at}
use Rattle.pe_fusion.proofs.Chains.{total-plus}
use Rattle.pe_fusion.proofs.Often.{often-one}
use Rattle.pe_fusion.proofs.GroupLists.{numbers-many}

-- ---- numbers below another one

number-at : (N n : ℕ) → n < N → slice_get (numbers_to N) n ≡ Some n
number-at zero n lt = absurd (omega (arith, lt))
number-at (suc N) n lt = go (cases_order n N) (number-at N n)
  where
    front : (xs : List ℕ) (y k x : ℕ) → slice_get xs k ≡ Some x → slice_get (xs ++ y ∷ []) k ≡ Some x
    front [] y k x e = absurd (cc)
    front (z ∷ xs) y zero x e = e
    front (z ∷ xs) y (suc k) x e = front xs y k x e

    last : (xs : List ℕ) (y : ℕ) → slice_get (xs ++ y ∷ []) (length xs) ≡ Some y
    last [] y = refl
    last (x ∷ xs) y = last xs y

    go : (n ≡ N) ⊎ ((n < N) ⊎ (N < n)) → (n < N → slice_get (numbers_to N) n ≡ Some n) → slice_get (numbers_to N ++ N ∷ []) n ≡ Some n
    go (inl e) earlier = ap (slice_get (numbers_to N ++ N ∷ [])) (e ∙ sym (numbers-many N)) ∙ last (numbers_to N) N ∙ ap (λ k. Some k) (sym e)
    go (inr (inl below)) earlier = front (numbers_to N) N n n (earlier below)
    go (inr (inr above)) earlier = absurd (omega (arith, above, lt))

total-least : {X : Type 0} (f : X → ℕ) (xs : List X) → ((x : X) → f x ≤ 1) → total f xs ≤ length xs
total-least f [] most = omega arith
total-least f (x ∷ xs) most = let a = most x in let rest = total-least f xs most in let z : f x + total f xs ≤ suc (length xs) = omega (arith, a, rest) in z

all-counted : (N : ℕ) (xs : List ℕ) → ((n : ℕ) → 0 < how_often n xs → n < N) → length xs ≤ total (λ n. how_often n xs) (numbers_to N)
all-counted N [] within = omega arith
all-counted N (x ∷ xs) within =
    let here : total (λ n. how_often n (x ∷ xs)) (numbers_to N) ≡ total (λ n. one_if (x == n)) (numbers_to N) + total (λ n. how_often n xs) (numbers_to N) =
    same (numbers_to N) ∙ total-plus (λ n. one_if (x == n)) (λ n. how_often n xs) (numbers_to N) in
    let own : one_if (x == x) ≡ 1 = ap one_if (eq-eqb x x refl) in
    let first = often-one x x xs in
    let at = total-at (λ n. one_if (x == n)) (numbers_to N) x x (number-at N x (within x (omega (arith, own, first)))) in
    let rest = all-counted N xs (λ n h. within n (let a = often-one n x xs in omega (arith, a, h))) in
    let z : suc (length xs) ≤ total (λ n. how_often n (x ∷ xs)) (numbers_to N) = omega (arith, here, own, at, rest) in z
  where
    same : (ns : List ℕ) → total (λ n. how_often n (x ∷ xs)) ns ≡ total (λ n. one_if (x == n) + how_often n xs) ns
    same [] = refl
    same (n ∷ ns) = ap (λ k. k + total (λ n. how_often n (x ∷ xs)) ns) (often-one n x xs) ∙ ap (λ k. one_if (x == n) + how_often n xs + k) (same ns)

-- numbers of which none stands twice are no more than those below their bound
pub few-numbers : (N : ℕ) (xs : List ℕ) → ((n : ℕ) → how_often n xs ≤ 1) → ((n : ℕ) → 0 < how_often n xs → n < N) → length xs ≤ N
few-numbers N xs once within =
    let a = all-counted N xs within in
    let b = total-least (λ n. how_often n xs) (numbers_to N) once in
    let c = numbers-many N in
    omega (arith, a, b, c)

-- lists of which none is empty are no more than their items
pub few-lists : (rs : List Region) → ((i : ℕ) (r : Region) → slice_get rs i ≡ Some r → 0 < length r.ops) → length rs ≤ length (concat (map (λ (r : Region). r.ops) rs))
few-lists [] some = omega arith
few-lists (r ∷ rs) some =
    let a = length-append r.ops (concat (map (λ (r : Region). r.ops) rs)) in
    let b = some 0 r refl in
    let rest = few-lists rs (λ i q at. some (suc i) q at) in
    let z : suc (length rs) ≤ length (r.ops ++ concat (map (λ (r : Region). r.ops) rs)) = omega (arith, a, b, rest) in z

-- ---- connections of several streams

-- of streams of which none stands twice, the connections are no more than all
reads-often : (n s i : ℕ) (streams : List ℕ) → length (reads_at n s i streams) ≡ times (λ t. t == s) streams
reads-often n s i [] = refl
reads-often n s i (t ∷ streams) = go (t == s) (reads-often n s (suc i) streams)
  where
    go : (b : Bool) → length (reads_at n s (suc i) streams) ≡ times (λ t. t == s) streams
        → length (cond b ((n, i) ∷ reads_at n s (suc i) streams) (reads_at n s (suc i) streams)) ≡ one_if b + times (λ t. t == s) streams
    go true rest = ap suc rest ∙ (let z : suc (times (λ t. t == s) streams) ≡ 1 + times (λ t. t == s) streams = omega arith in z)
    go false rest = rest ∙ (let z : times (λ t. t == s) streams ≡ 0 + times (λ t. t == s) streams = omega arith in z)

all-reads : (s : ℕ) (ops : List Operator) → length (flat_map (λ (op : Operator). reads_at op.number s 0 (connections op)) ops) ≡ times (λ t. t == s) (concat (map connections ops))
all-reads s [] = refl
all-reads s (op ∷ ops) =
    length-append (reads_at op.number s 0 (connections op)) (flat_map (λ (op : Operator). reads_at op.number s 0 (connections op)) ops)
    ∙ ap (λ n. n + length (flat_map (λ (op : Operator). reads_at op.number s 0 (connections op)) ops)) (reads-often op.number s 0 (connections op))
    ∙ ap (λ n. times (λ t. t == s) (connections op) + n) (all-reads s ops)
    ∙ sym (total-append (λ t. one_if (t == s)) (connections op) (concat (map connections ops)))

each-read : (outs : List ℕ) (all : List ℕ) → ((t : ℕ) → times (λ s. s == t) outs ≤ 1) → total (λ s. times (λ t. t == s) all) outs ≤ length all
each-read outs [] once = none outs
  where
    none : (ss : List ℕ) → total (λ (s : ℕ). 0) ss ≤ 0
    none [] = omega arith
    none (s ∷ ss) = let rest = none ss in let z : 0 + total (λ (s : ℕ). 0) ss ≤ 0 = omega (arith, rest) in z
each-read outs (t ∷ all) once =
    let both : total (λ s. times (λ t. t == s) (t ∷ all)) outs ≡ total (λ s. one_if (t == s)) outs + total (λ s. times (λ t. t == s) all) outs = total-plus (λ s. one_if (t == s)) (λ s. times (λ t. t == s) all) outs in
    let first = turned outs in
    let most = once t in
    let rest = each-read outs all once in
    let z : total (λ s. times (λ t. t == s) (t ∷ all)) outs ≤ suc (length all) = omega (arith, both, first, most, rest) in z
  where
    turned : (ss : List ℕ) → total (λ s. one_if (t == s)) ss ≡ times (λ s. s == t) ss
    turned [] = refl
    turned (s ∷ ss) = ap (λ b. one_if b + total (λ s. one_if (t == s)) ss) (eqb-turn t s) ∙ ap (λ n. one_if (s == t) + n) (turned ss)

pub few-readers : (g : Graph) (outs : List ℕ) → ((t : ℕ) → times (λ s. s == t) outs ≤ 1) → length (flat_map (readers g) outs) ≤ length (concat (map connections g.ops))
few-readers g outs once = let a = sum outs in let b = each-read outs (concat (map connections g.ops)) once in omega (arith, a, b)
  where
    sum : (ss : List ℕ) → length (flat_map (readers g) ss) ≡ total (λ s. times (λ t. t == s) (concat (map connections g.ops))) ss
    sum [] = refl
    sum (s ∷ ss) =
        length-append (readers g s) (flat_map (readers g) ss)
        ∙ ap (λ n. n + length (flat_map (readers g) ss)) (all-reads s g.ops)
        ∙ ap (λ n. times (λ t. t == s) (concat (map connections g.ops)) + n) (sum ss)
