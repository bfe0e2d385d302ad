-- One element more in the groups of workers.
use Rattle.std.proofs.Common.{ℕ, zero, suc, ◌+◌, ◌<◌, ◌≤◌, ◌==◌, ◌%◌, cond, List, [], ◌∷◌, ◌++◌, append-nil, ◌≡◌, ◌⊎◌, inl, inr, refl, sym, ap, ◌∙◌, arith, length, map, replicate, set, slice_get, Some}
use Rattle.std.proofs.lemmas.Bool.{cases_order, eq-eqb, ne_eqb}
use Rattle.std.proofs.lemmas.List.{length-append, length-map, map-append, set-append_left}
use Rattle.std.proofs.lemmas.List.Elements.{filter-append}
use Rattle.std.proofs.Math.Seq.{set-append_seam}
use Rattle.stream_model.specs.Regions.{numbers_to}
use Rattle.pe_fusion.specs.Shapes.{group_of, groups_of}

pub numbers-many : (n : ℕ) → length (numbers_to n) ≡ n
numbers-many zero = refl
numbers-many (suc n) =
    let a = length-append (numbers_to n) (n ∷ []) in
    let b = numbers-many n in
    let one : length (n ∷ []) ≡ 1 = refl in
    omega (arith, a, b, one)

pub groups-many : (n w : ℕ) → length (groups_of n w) ≡ w
groups-many n w = length-map (numbers_to w) (group_of n w) ∙ numbers-many w

replicate-snoc : (w : ℕ) (none : List ℕ) → replicate w none ++ none ∷ [] ≡ none ∷ replicate w none
replicate-snoc zero none = refl
replicate-snoc (suc w) none = ap (λ rs. none ∷ rs) (replicate-snoc w none)

none-in : (v w : ℕ) → map (group_of 0 w) (numbers_to v) ≡ replicate v []
none-in zero w = refl
none-in (suc v) w = map-append (group_of 0 w) (numbers_to v) (v ∷ []) ∙ ap (λ gs. gs ++ [] ∷ []) (none-in v w) ∙ replicate-snoc v []

pub groups-none : (w : ℕ) → groups_of 0 w ≡ replicate w []
groups-none w = none-in w w

-- a group that the next element is in, and one that it isn't in
group-more : (n w k : ℕ) → n % w ≡ k → group_of (suc n) w k ≡ group_of n w k ++ n ∷ []
group-more n w k e =
    filter-append (λ e. e % w == k) (numbers_to n) (n ∷ [])
    ∙ ap (λ b. group_of n w k ++ cond b (n ∷ []) []) (eq-eqb (n % w) k e)

group-same : (n w k : ℕ) → (n % w ≡ k → ⊥) → group_of (suc n) w k ≡ group_of n w k
group-same n w k apart =
    filter-append (λ e. e % w == k) (numbers_to n) (n ∷ [])
    ∙ ap (λ b. group_of n w k ++ cond b (n ∷ []) []) (ne_eqb (n % w) k apart)
    ∙ append-nil (group_of n w k)

below-same : (n w v : ℕ) → v ≤ n % w → map (group_of n w) (numbers_to v) ≡ map (group_of (suc n) w) (numbers_to v)
below-same n w zero le = refl
below-same n w (suc v) le =
    map-append (group_of n w) (numbers_to v) (v ∷ [])
    ∙ ap (λ gs. gs ++ group_of n w v ∷ []) (below-same n w v (omega (arith, le)))
    ∙ ap (λ g. map (group_of (suc n) w) (numbers_to v) ++ g ∷ []) (sym (group-same n w v (λ e. omega (arith, le, e))))
    ∙ sym (map-append (group_of (suc n) w) (numbers_to v) (v ∷ []))

more-in : (n w v : ℕ) → n % w < v → set (map (group_of n w) (numbers_to v)) (n % w) (group_of n w (n % w) ++ n ∷ []) ≡ map (group_of (suc n) w) (numbers_to v)
more-in n w zero lt = absurd (omega (arith, lt))
more-in n w (suc v) lt = go (cases_order (n % w) v) (more-in n w v)
  where
    here : List ℕ
    here = group_of n w (n % w) ++ n ∷ []

    many : length (map (group_of n w) (numbers_to v)) ≡ v
    many = length-map (numbers_to v) (group_of n w) ∙ numbers-many v

    go : (n % w ≡ v) ⊎ ((n % w < v) ⊎ (v < n % w)) → (n % w < v → set (map (group_of n w) (numbers_to v)) (n % w) here ≡ map (group_of (suc n) w) (numbers_to v))
        → set (map (group_of n w) (numbers_to v ++ v ∷ [])) (n % w) here ≡ map (group_of (suc n) w) (numbers_to v ++ v ∷ [])
    go (inl e) front =
        ap (λ gs. set gs (n % w) here) (map-append (group_of n w) (numbers_to v) (v ∷ []))
        ∙ ap (λ k. set (map (group_of n w) (numbers_to v) ++ group_of n w v ∷ []) k here) (e ∙ sym many)
        ∙ set-append_seam (map (group_of n w) (numbers_to v)) (group_of n w v) [] here
        ∙ ap (λ gs. gs ++ here ∷ []) (below-same n w v (let k = e in omega (arith, k)))
        ∙ ap (λ g. map (group_of (suc n) w) (numbers_to v) ++ g ∷ []) (sym (group-more n w (n % w) refl) ∙ ap (group_of (suc n) w) e)
        ∙ sym (map-append (group_of (suc n) w) (numbers_to v) (v ∷ []))
    go (inr (inl below)) front =
        ap (λ gs. set gs (n % w) here) (map-append (group_of n w) (numbers_to v) (v ∷ []))
        ∙ set-append_left (map (group_of n w) (numbers_to v)) (group_of n w v ∷ []) (n % w) here (let m = many in omega (arith, m, below))
        ∙ ap (λ gs. gs ++ group_of n w v ∷ []) (front below)
        ∙ ap (λ g. map (group_of (suc n) w) (numbers_to v) ++ g ∷ []) (sym (group-same n w v (λ e. omega (arith, below, e))))
        ∙ sym (map-append (group_of (suc n) w) (numbers_to v) (v ∷ []))
    go (inr (inr above)) front = absurd (omega (arith, above, lt))

get-group : (n w v k : ℕ) → k < v → slice_get (map (group_of n w) (numbers_to v)) k ≡ Some (group_of n w k)
get-group n w zero k lt = absurd (omega (arith, lt))
get-group n w (suc v) k lt = ap (λ gs. slice_get gs k) (map-append (group_of n w) (numbers_to v) (v ∷ [])) ∙ go (cases_order k v) (get-group n w v k)
  where
    many : length (map (group_of n w) (numbers_to v)) ≡ v
    many = length-map (numbers_to v) (group_of n w) ∙ numbers-many v

    last : (gs : List (List ℕ)) (g : List ℕ) → slice_get (gs ++ g ∷ []) (length gs) ≡ Some g
    last [] g = refl
    last (h ∷ gs) g = last gs g

    front : (gs : List (List ℕ)) (g h : List ℕ) (k : ℕ) → slice_get gs k ≡ Some h → slice_get (gs ++ g ∷ []) k ≡ Some h
    front [] g h k e = absurd (cc)
    front (x ∷ gs) g h zero e = e
    front (x ∷ gs) g h (suc k) e = front gs g h k e

    go : (k ≡ v) ⊎ ((k < v) ⊎ (v < k)) → (k < v → slice_get (map (group_of n w) (numbers_to v)) k ≡ Some (group_of n w k)) → slice_get (map (group_of n w) (numbers_to v) ++ group_of n w v ∷ []) k ≡ Some (group_of n w k)
    go (inl e) earlier = ap (slice_get (map (group_of n w) (numbers_to v) ++ group_of n w v ∷ [])) (e ∙ sym many) ∙ last (map (group_of n w) (numbers_to v)) (group_of n w v) ∙ ap (λ j. Some (group_of n w j)) (sym e)
    go (inr (inl below)) earlier = front (map (group_of n w) (numbers_to v)) (group_of n w v) (group_of n w k) k (earlier below)
    go (inr (inr above)) earlier = absurd (omega (arith, above, lt))

pub groups-next : (n w : ℕ) (old : List ℕ) → n % w < w → slice_get (groups_of n w) (n % w) ≡ Some old → set (groups_of n w) (n % w) (old ++ n ∷ []) ≡ groups_of (n + 1) w
groups-next n w old lt at =
    let is : Some old ≡ Some (group_of n w (n % w)) = sym at ∙ get-group n w w (n % w) lt in
    let same : old ≡ group_of n w (n % w) = cc in
    ap (λ g. set (groups_of n w) (n % w) (g ++ n ∷ [])) same ∙ more-in n w w lt ∙ ap (λ m. groups_of m w) (let k : suc n ≡ n + 1 = omega arith in k)
