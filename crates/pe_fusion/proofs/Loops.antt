-- Steps of loops that add items to lists.
use Rattle.std.proofs.Common.{ℕ, zero, suc, ◌+◌, ◌-◌, ◌<◌, List, [], ◌∷◌, ◌++◌, ◌≡◌, refl, sym, ap, ◌∙◌, subst, arith, length, drop, get_or, set, Option, None, Some, slice_get}
use Rattle.std.specs.List.{concat, Contains, flat_map}
use Rattle.std.specs.Option.{option_and_then}
use Rattle.std.proofs.lemmas.List.{length-append, length-set, drop_more}
use Rattle.std.proofs.lemmas.List.Elements.{Contains-append_left, Contains-append_right}
use Rattle.std.proofs.lemmas.Option.{slice_get-get_or}
use Rattle.stream_model.specs.declared.shape.Role.TheVariants as L
use Rattle.pe_fusion.specs.FusedNets.{channel_links, merger_links, outer_links}
use Rattle.pe_fusion.specs.Shapes.{element, replica_elements}
use Rattle.pe_fusion.specs.declared.regions.OperatorRegion.{OperatorRegion}
use Rattle.pe_fusion.specs.declared.pieces.NumberedPiece.{NumberedPiece}
use Rattle.pe_fusion.specs.declared.pieces.Placement.{Placement}
use Rattle.pe_fusion.specs.steps.Reading.{Table, add_reads, read_by}
use Rattle.pe_fusion.specs.steps.Placing.{AreWithin, longer_at, place_of, put_at}

-- ---- items of lists

pub contains_at : (xs : List ℕ) (i : ℕ) → i < length xs → Contains xs (get_or xs i 0)
contains_at xs i lt =
    let s : ℕ = get_or xs i 0 in
    let first : slice_get xs i ≡ Some s = slice_get-get_or xs i 0 lt in
    let second : slice_get xs i ≡ Some (get_or xs i s) = slice_get-get_or xs i s lt in
    let same : get_or xs i s ≡ s = cc in
    (i, lt, same)

pub contains_concat : (ports : List (List ℕ)) (i : ℕ) (port : List ℕ) (s : ℕ) → slice_get ports i ≡ Some port → Contains port s → Contains (concat ports) s
contains_concat [] i port s at h = absurd cc
contains_concat (own ∷ ports) zero port s at h =
    let same : port ≡ own = cc in Contains-append_left own (concat ports) s (subst (λ p. Contains p s) same h)
contains_concat (own ∷ ports) (suc i) port s at h = Contains-append_right own (concat ports) s (contains_concat ports i port s at h)

-- ---- links and elements, one more

rest-after : (w c : ℕ) → c < w → w - c ≡ suc (w - (c + 1))
rest-after w c lt = omega (arith, lt)

pub channels-next : (e c w : ℕ) → c < w → channel_links e c (w - c) ≡ record { from = e; output = c; to = e + 1 + c; input = 0 } ∷ channel_links e (c + 1) (w - (c + 1))
channels-next e c w lt =
    let n : ℕ = w - (c + 1) in
    ap (channel_links e c) (rest-after w c lt)
    ∙ ap (λ d. record { from = e; output = c; to = e + 1 + c; input = 0 } ∷ channel_links e d n) (let k : suc c ≡ c + 1 = omega arith in k)

pub merges-next : (e c w : ℕ) → c < w
    → merger_links (e + c) c (w - c) ≡ record { from = e + c; output = 0; to = e + w; input = c } ∷ merger_links (e + (c + 1)) (c + 1) (w - (c + 1))
merges-next e c w lt =
    let n : ℕ = w - (c + 1) in
    let sum : e + c + suc n ≡ e + w = (let a = rest-after w c lt in omega (arith, a, lt)) in
    let first : suc (e + c) ≡ e + (c + 1) = omega arith in
    let next : suc c ≡ c + 1 = omega arith in
    ap (merger_links (e + c) c) (rest-after w c lt) ∙ (λ i. record { from = e + c; output = 0; to = sum i; input = c } ∷ merger_links (first i) (next i) n)

pub replicas-next : (region : Option ℕ) (ids : List ℕ) (c w : ℕ) → c < w
    → replica_elements region ids c (w - c) ≡ element (L.Replica c) region ids ∷ replica_elements region ids (c + 1) (w - (c + 1))
replicas-next region ids c w lt =
    let n : ℕ = w - (c + 1) in
    ap (replica_elements region ids c) (rest-after w c lt)
    ∙ ap (λ d. element (L.Replica c) region ids ∷ replica_elements region ids d n) (let k : suc c ≡ c + 1 = omega arith in k)

pub outer-append : (f : ℕ → ℕ) (e o : ℕ) (xs ys : List (ℕ × ℕ)) → outer_links f e o (xs ++ ys) ≡ outer_links f e o xs ++ outer_links f e (o + length xs) ys
outer-append f e o [] ys = ap (λ n. outer_links f e n ys) (let k : o ≡ o + 0 = omega arith in k)
outer-append f e o (x ∷ xs) ys =
    ap (λ ls. record { from = e; output = o; to = f x.0; input = x.1 } ∷ ls) (outer-append f e (suc o) xs ys)
    ∙ ap (λ n. record { from = e; output = o; to = f x.0; input = x.1 } ∷ (outer_links f e (suc o) xs ++ outer_links f e n ys)) (let k : suc o + length xs ≡ o + suc (length xs) = omega arith in k)

-- the links of the streams of a port, and of those behind it
pub outs-next : (readers : Table) (outs : List ℕ) (i : ℕ) → i < length outs
    → flat_map (read_by readers) (drop i outs) ≡ read_by readers (get_or outs i 0) ++ flat_map (read_by readers) (drop (i + 1) outs)
outs-next readers outs i lt = ap (flat_map (read_by readers)) (drop_more outs i 0 lt)

-- ---- connections

pub reads-append : (table : Table) (n i : ℕ) (xs ys : List ℕ) → add_reads table n i (xs ++ ys) ≡ add_reads (add_reads table n i xs) n (i + length xs) ys
reads-append table n i [] ys = ap (λ k. add_reads table n k ys) (let e : i ≡ i + 0 = omega arith in e)
reads-append table n i (x ∷ xs) ys =
    reads-append (set table x (read_by table x ++ (n, i) ∷ [])) n (suc i) xs ys
    ∙ ap (λ k. add_reads (add_reads (set table x (read_by table x ++ (n, i) ∷ [])) n (suc i) xs) n k ys) (let e : suc i + length xs ≡ i + suc (length xs) = omega arith in e)

-- ---- places

pub longer-set : (ps : List NumberedPiece) (at n : ℕ) (p : NumberedPiece) → slice_get ps at ≡ Some p → set ps at (record { ids = p.ids ++ n ∷ []; region = p.region }) ≡ longer_at at n ps
longer-set [] at n p is = refl
longer-set (q ∷ ps) zero n p is = let same : q ≡ p = cc in ap (λ (z : NumberedPiece). record { ids = z.ids ++ n ∷ []; region = z.region } ∷ ps) (sym same)
longer-set (q ∷ ps) (suc at) n p is = ap (λ qs. q ∷ qs) (longer-set ps at n p is)

pub longer-length : (at n : ℕ) (ps : List NumberedPiece) → length (longer_at at n ps) ≡ length ps
longer-length at n [] = refl
longer-length zero n (p ∷ ps) = refl
longer-length (suc at) n (p ∷ ps) = ap suc (longer-length at n ps)

-- the place that was set, or one that stood there
set-some : (places : List (Option ℕ)) (n m i : ℕ) (o : ℕ) → slice_get (set places n (Some o)) m ≡ Some (Some i) → (P : Type 0) → (o ≡ i → P) → (slice_get places m ≡ Some (Some i) → P) → P
set-some [] n m i o at P one other = other at
set-some (x ∷ places) zero zero i o at P one other = one (cc)
set-some (x ∷ places) zero (suc m) i o at P one other = other at
set-some (x ∷ places) (suc n) zero i o at P one other = other at
set-some (x ∷ places) (suc n) (suc m) i o at P one other = set-some places n m i o at P one other

pub put-within : (place : Option ℕ) (n : ℕ) (region : Option OperatorRegion) (state : Placement) → AreWithin state → ((i : ℕ) → place ≡ Some i → i < length state.pieces) → AreWithin (put_at place n region state)
put-within (Some at) n region state within here m i is =
    let many = longer-length at n state.pieces in
    set-some state.places n m i at is (i < length (longer_at at n state.pieces))
    (λ e. let lt = here at refl in omega (arith, many, e, lt))
    (λ old. let lt = within m i old in omega (arith, many, lt))
put-within None n region state within here m i is =
    let new : List NumberedPiece = record { ids = n ∷ []; region = region } ∷ [] in
    let many = length-append state.pieces new in
    let one : length new ≡ 1 = refl in
    set-some state.places n m i (length state.pieces) is (i < length (state.pieces ++ new))
    (λ e. omega (arith, many, one, e))
    (λ old. let lt = within m i old in omega (arith, many, one, lt))

pub put-many : (place : Option ℕ) (n : ℕ) (region : Option OperatorRegion) (state : Placement) → length (put_at place n region state).places ≡ length state.places
put-many (Some at) n region state = length-set state.places n (Some at)
put-many None n region state = length-set state.places n (Some (length state.pieces))

pub place-there : (places : List (Option ℕ)) (m i : ℕ) → place_of places m ≡ Some i → slice_get places m ≡ Some (Some i)
place-there places m i e = go (slice_get places m) refl
  where
    go : (o : Option (Option ℕ)) → slice_get places m ≡ o → slice_get places m ≡ Some (Some i)
    go None is = absurd (let no : None ≡ Some i = ap (option_and_then (λ (p : Option ℕ). p)) (sym is) ∙ e in cc)
    go (Some None) is = absurd (let no : None ≡ Some i = ap (option_and_then (λ (p : Option ℕ). p)) (sym is) ∙ e in cc)
    go (Some (Some j)) is = let same : Some j ≡ Some i = ap (option_and_then (λ (p : Option ℕ). p)) (sym is) ∙ e in is ∙ ap (λ o. Some o) same
