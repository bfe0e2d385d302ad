-- The table of operators' regions has, for each operator of a region that runs in replicas, that region.
use Rattle.std.proofs.Common.{ℕ, zero, suc, ◌+◌, ◌<◌, ◌≤◌, ◌==◌, Bool, true, false, cond, List, [], ◌∷◌, ◌++◌, ◌≡◌, ◌⊎◌, inl, inr, refl, sym, ap, ◌∙◌, subst, arith, length, map, replicate, set, Some, None, Option, slice_get}
use Rattle.std.specs.List.{concat, Contains}
use Rattle.std.specs.Option.{option_and_then}
use Rattle.std.proofs.lemmas.Bool.{cases_eq, eq-eqb, ne_eqb, cond-true, cond-false}
use Rattle.std.proofs.lemmas.List.{length-set}
use Rattle.spl_value.proofs.Lists.{set_elsewhere, set_here, contains_here, contains_later}
use Rattle.stream_model.specs.declared.plan.Region.{Region}
use Rattle.stream_model.specs.Regions.{how_often}
use Rattle.pe_fusion.specs.Pieces.{is_replicated, replicated}
use Rattle.pe_fusion.specs.Totals.{one_if}
use Rattle.pe_fusion.specs.declared.regions.OperatorRegion.{OperatorRegion}
use Rattle.pe_fusion.specs.steps.Regions.{set_all, operator_region, entered_by, entered, enter_all}
use Rattle.pe_fusion.specs.steps.Placing.{region_of}
use Rattle.pe_fusion.proofs.Often.{often-one, often-append}

-- ---- one region

pub length-all : (table : List (Option OperatorRegion)) (ns : List ℕ) (r : OperatorRegion) → length (set_all table ns r) ≡ length table
length-all table [] r = refl
length-all table (n ∷ ns) r = length-all (set table n (Some r)) ns r ∙ length-set table n (Some r)

-- an operator that isn't among them keeps its region
set-others : (table : List (Option OperatorRegion)) (ns : List ℕ) (r : OperatorRegion) (m : ℕ) → how_often m ns ≡ 0 → slice_get (set_all table ns r) m ≡ slice_get table m
set-others table [] r m none = refl
set-others table (n ∷ ns) r m none =
    let a = often-one m n ns in
    set-others (set table n (Some r)) ns r m (omega (arith, a, none))
    ∙ set_elsewhere table n m (Some r) (λ e. let b : one_if (n == m) ≡ 1 = ap one_if (eq-eqb n m e) in absurd (omega (arith, a, none, b)))

set-own : (table : List (Option OperatorRegion)) (ns : List ℕ) (r : OperatorRegion) (m : ℕ) → ((n : ℕ) → Contains ns n → n < length table) → 0 < how_often m ns
    → slice_get (set_all table ns r) m ≡ Some (Some r)
set-own table [] r m within some = absurd (let k : 0 < 0 = some in omega (arith, k))
set-own table (n ∷ ns) r m within some = go (how_often m ns) refl (λ more. set-own (set table n (Some r)) ns r m later more)
  where
    later : (u : ℕ) → Contains ns u → u < length (set table n (Some r))
    later u h = let a = within u (contains_later n u ns h) in let b = length-set table n (Some r) in omega (arith, a, b)

    go : (k : ℕ) → how_often m ns ≡ k → (0 < how_often m ns → slice_get (set_all (set table n (Some r)) ns r) m ≡ Some (Some r)) → slice_get (set_all (set table n (Some r)) ns r) m ≡ Some (Some r)
    go (suc k) e rest = rest (omega (arith, e))
    go zero e rest =
        set-others (set table n (Some r)) ns r m e
        ∙ first (cases_eq n m)
      where
        first : (n ≡ m) ⊎ (n ≡ m → ⊥) → slice_get (set table n (Some r)) m ≡ Some (Some r)
        first (inl same) = ap (slice_get (set table n (Some r))) (sym same) ∙ set_here table n (Some r) (within n (contains_here n ns))
        first (inr apart) =
            let a = often-one m n ns in
            let b : one_if (n == m) ≡ 0 = ap one_if (ne_eqb n m apart) in
            absurd (omega (arith, a, b, e, some))

pub length-entered : (w i : ℕ) (r : Region) (table : List (Option OperatorRegion)) (ns : List ℕ) → length (entered_by w i r table ns) ≡ length table
length-entered w i r table [] = refl
length-entered w i r table (n ∷ ns) = go (is_replicated w r)
  where
    go : (b : Bool) → length (cond b (set_all table (n ∷ ns) (operator_region w i r n)) table) ≡ length table
    go true = length-all table (n ∷ ns) (operator_region w i r n)
    go false = refl

entered-others : (w i : ℕ) (r : Region) (table : List (Option OperatorRegion)) (ns : List ℕ) (m : ℕ) → (is_replicated w r ≡ false) ⊎ (how_often m ns ≡ 0)
    → slice_get (entered_by w i r table ns) m ≡ slice_get table m
entered-others w i r table [] m none = refl
entered-others w i r table (n ∷ ns) m (inl off) =
    ap (λ t. slice_get t m) (cond-false (is_replicated w r) (set_all table (n ∷ ns) (operator_region w i r n)) table off)
entered-others w i r table (n ∷ ns) m (inr none) = go (is_replicated w r)
  where
    go : (b : Bool) → slice_get (cond b (set_all table (n ∷ ns) (operator_region w i r n)) table) m ≡ slice_get table m
    go true = set-others table (n ∷ ns) (operator_region w i r n) m none
    go false = refl

entered-own : (w i : ℕ) (r : Region) (table : List (Option OperatorRegion)) (first : ℕ) (ns : List ℕ) (m : ℕ) → is_replicated w r ≡ true
    → ((n : ℕ) → Contains (first ∷ ns) n → n < length table) → 0 < how_often m (first ∷ ns)
    → slice_get (entered_by w i r table (first ∷ ns)) m ≡ Some (Some (operator_region w i r first))
entered-own w i r table first ns m on within some =
    ap (λ t. slice_get t m) (cond-true (is_replicated w r) (set_all table (first ∷ ns) (operator_region w i r first)) table on)
    ∙ set-own table (first ∷ ns) (operator_region w i r first) m within some

-- ---- all regions

pub length-enter : (w i : ℕ) (plan : List Region) (table : List (Option OperatorRegion)) → length (enter_all w i plan table) ≡ length table
length-enter w i [] table = refl
length-enter w i (r ∷ plan) table = length-enter w (suc i) plan (entered w i r table) ∙ length-entered w i r table r.ops

-- how often a number stands in regions
abbrev pub in_plan : ℕ → List Region → ℕ
in_plan m plan = how_often m (concat (map (λ (r : Region). r.ops) plan))

pub enter-others : (w i : ℕ) (plan : List Region) (table : List (Option OperatorRegion)) (m : ℕ) → in_plan m (replicated w plan) ≡ 0
    → slice_get (enter_all w i plan table) m ≡ slice_get table m
enter-others w i [] table m none = refl
enter-others w i (r ∷ plan) table m none = go (is_replicated w r) refl none (enter-others w (suc i) plan (entered w i r table) m)
  where
    go : (b : Bool) → is_replicated w r ≡ b → in_plan m (cond b (r ∷ replicated w plan) (replicated w plan)) ≡ 0
        → (in_plan m (replicated w plan) ≡ 0 → slice_get (enter_all w (suc i) plan (entered w i r table)) m ≡ slice_get (entered w i r table) m)
        → slice_get (enter_all w (suc i) plan (entered w i r table)) m ≡ slice_get table m
    go true e n rest =
        let a = often-append m r.ops (concat (map (λ (r : Region). r.ops) (replicated w plan))) in
        let z : how_often m (r.ops ++ concat (map (λ (r : Region). r.ops) (replicated w plan))) ≡ 0 = n in
        rest (omega (arith, a, z)) ∙ entered-others w i r table r.ops m (inr (omega (arith, a, z)))
    go false e n rest = rest n ∙ entered-others w i r table r.ops m (inl e)

pub enter-own : (w i k : ℕ) (plan : List Region) (table : List (Option OperatorRegion)) (r : Region) (first : ℕ) (ns : List ℕ) (m : ℕ) → slice_get plan k ≡ Some r → r.ops ≡ first ∷ ns
    → is_replicated w r ≡ true → ((j n : ℕ) (q : Region) → slice_get plan j ≡ Some q → Contains q.ops n → n < length table)
    → in_plan m (replicated w plan) ≤ 1 → 0 < how_often m r.ops → region_of (enter_all w i plan table) m ≡ Some (operator_region w (i + k) r first)
enter-own w i k [] table r first ns m at are on within most some = absurd (cc)
enter-own w i zero (q ∷ plan) table r first ns m at are on within most some =
    let same : q ≡ r = cc in
    let on_q : is_replicated w q ≡ true = ap (is_replicated w) same ∙ on in
    let ops : q.ops ≡ first ∷ ns = ap (λ (z : Region). z.ops) same ∙ are in
    let all : in_plan m (q ∷ replicated w plan) ≤ 1 = subst (λ qs. in_plan m qs ≤ 1) (cond-true (is_replicated w q) (q ∷ replicated w plan) (replicated w plan) on_q) most in
    let a = often-append m q.ops (concat (map (λ (r : Region). r.ops) (replicated w plan))) in
    let own : how_often m q.ops ≡ how_often m r.ops = ap (λ (z : Region). how_often m z.ops) same in
    let z : how_often m (q.ops ++ concat (map (λ (r : Region). r.ops) (replicated w plan))) ≤ 1 = all in
    ap (option_and_then (λ (r : Option OperatorRegion). r))
    (enter-others w (suc i) plan (entered w i q table) m (omega (arith, a, own, z, some))
    ∙ ap (λ ms. slice_get (entered_by w i q table ms) m) ops
    ∙ entered-own w i q table first ns m on_q (λ n h. within 0 n q refl (subst (λ ms. Contains ms n) (sym ops) h)) (subst (λ ms. 0 < how_often m ms) are some))
    ∙ ap (λ (x : Region). Some (operator_region w i x first)) same
    ∙ ap (λ j. Some (operator_region w j r first)) (let e : i ≡ i + 0 = omega arith in e)
enter-own w i (suc k) (q ∷ plan) table r first ns m at are on within most some =
    enter-own w (suc i) k plan (entered w i q table) r first ns m at are on
    (λ j n x there h. let a = within (suc j) n x there h in let b = length-entered w i q table q.ops in omega (arith, a, b)) (least (is_replicated w q) most) some
    ∙ ap (λ j. Some (operator_region w j r first)) (let e : suc i + k ≡ i + suc k = omega arith in e)
  where
    least : (b : Bool) → in_plan m (cond b (q ∷ replicated w plan) (replicated w plan)) ≤ 1 → in_plan m (replicated w plan) ≤ 1
    least true h =
        let a = often-append m q.ops (concat (map (λ (r : Region). r.ops) (replicated w plan))) in
        let z : how_often m (q.ops ++ concat (map (λ (r : Region). r.ops) (replicated w plan))) ≤ 1 = h in
        omega (arith, a, z)
    least false h = h

nothing-in : (many m : ℕ) → option_and_then (λ (r : Option OperatorRegion). r) (slice_get (replicate many None) m) ≡ None
nothing-in zero m = refl
nothing-in (suc many) zero = refl
nothing-in (suc many) (suc m) = nothing-in many m

-- an operator outside these regions has none
pub enter-none : (w many : ℕ) (plan : List Region) (m : ℕ) → in_plan m (replicated w plan) ≡ 0 → region_of (enter_all w 0 plan (replicate many None)) m ≡ None
enter-none w many plan m none =
    ap (option_and_then (λ (r : Option OperatorRegion). r)) (enter-others w 0 plan (replicate many None) m none) ∙ nothing-in many m
