-- Where the elements of pieces stand.
use Rattle.std.proofs.Common.{ℕ, zero, suc, ◌+◌, ◌<◌, ◌≤◌, ◌==◌, true, false, List, [], ◌∷◌, ◌++◌, ◌≡◌, ◌⊎◌, inl, inr, refl, sym, ap, ◌∙◌, arith, length, length-append, Option, Some, None, slice_get}
use Rattle.std.proofs.lemmas.Bool.{cases_Bool, eqb-true, eq-eqb, ne_eqb, cond-true, cond-false}
use Rattle.std.proofs.lemmas.Option.{slice_get_within}
use Rattle.spl_value.proofs.Lists.{append_front}
use Rattle.stream_model.specs.declared.plan.Region.{Region}
use Rattle.stream_model.specs.Meaning.{Graph}
use Rattle.network_model.specs.Networks.{RegionPart, Part, Splitter, Replica, Merger}
use Rattle.pe_fusion.specs.FusedNets.{entry_at, outputs_in, parts_at, parts_in, region_in, region_part, replicas_of, size_by}
use Rattle.pe_fusion.specs.Pieces.{Piece}
use Rattle.pe_fusion.specs.Totals.{one_if, times}
use Rattle.pe_fusion.proofs.Totals.{get-right, Behind, get-append, total-at}

-- ---- the parts of a region

pub replicas-length : (r : RegionPart) (c w : ℕ) → length (replicas_of r c w) ≡ w
replicas-length r c zero = refl
replicas-length r c (suc w) = ap suc (replicas-length r (suc c) w)

get-replica : (r : RegionPart) (c w k : ℕ) → k < w → slice_get (replicas_of r c w) k ≡ Some (Replica r (c + k))
get-replica r c zero k lt = absurd (omega (arith, lt))
get-replica r c (suc w) zero lt = ap (λ d. Some (Replica r d)) (let e : c ≡ c + 0 = omega arith in e)
get-replica r c (suc w) (suc k) lt = get-replica r (suc c) w k (omega (arith, lt)) ∙ ap (λ d. Some (Replica r d)) (let e : suc c + k ≡ c + suc k = omega arith in e)

pub replica-at : (g : Graph) (w : ℕ) (r : Region) (p : Piece) (c : ℕ) → c < w → slice_get (parts_in g w (Some r) p) (suc c) ≡ Some (Replica (region_part g w r) c)
replica-at g w r p c lt = append_front (replicas_of (region_part g w r) 0 w) (Merger (region_part g w r) (outputs_in g p) ∷ []) c (Replica (region_part g w r) c)
    (get-replica (region_part g w r) 0 w c lt ∙ ap (λ d. Some (Replica (region_part g w r) d)) (let e : 0 + c ≡ c = omega arith in e))

pub merger-at : (g : Graph) (w : ℕ) (r : Region) (p : Piece) → slice_get (parts_in g w (Some r) p) (suc w) ≡ Some (Merger (region_part g w r) (outputs_in g p))
merger-at g w r p =
    ap (slice_get (replicas_of (region_part g w r) 0 w ++ Merger (region_part g w r) (outputs_in g p) ∷ []))
    (let k = replicas-length (region_part g w r) 0 w in let e : w ≡ length (replicas_of (region_part g w r) 0 w) + 0 = omega (arith, k) in e)
    ∙ get-right (replicas_of (region_part g w r) 0 w) (Merger (region_part g w r) (outputs_in g p) ∷ []) 0

pub size-is : (g : Graph) (w : ℕ) (o : Option Region) (p : Piece) → length (parts_in g w o p) ≡ size_by w o
size-is g w None p = refl
size-is g w (Some r) p =
    let a = length-append (replicas_of (region_part g w r) 0 w) (Merger (region_part g w r) (outputs_in g p) ∷ []) in
    let b = replicas-length (region_part g w r) 0 w in
    let z : suc (length (replicas_of (region_part g w r) 0 w ++ Merger (region_part g w r) (outputs_in g p) ∷ [])) ≡ w + 2 = omega (arith, a, b) in z

-- what stands in a region's elements
pub record RegionAt (g : Graph) (w : ℕ) (r : Region) (p : Piece) (k : ℕ) (part : Part) : Type 0 where
  pub which : ((k ≡ 0) × (part ≡ Splitter (region_part g w r))) ⊎ (((c : ℕ) × (k ≡ suc c) × (c < w) × (part ≡ Replica (region_part g w r) c)) ⊎ ((k ≡ suc w) × (part ≡ Merger (region_part g w r) (outputs_in g p))))

pub region-at : (g : Graph) (w : ℕ) (r : Region) (p : Piece) (k : ℕ) (part : Part) → slice_get (parts_in g w (Some r) p) k ≡ Some part → RegionAt g w r p k part
region-at g w r p zero part at = let same : Splitter (region_part g w r) ≡ part = cc in record { which = inl (refl, sym same) }
region-at g w r p (suc k) part at = go (get-append (replicas_of (region_part g w r) 0 w) (Merger (region_part g w r) (outputs_in g p) ∷ []) k part at)
  where
    go : (slice_get (replicas_of (region_part g w r) 0 w) k ≡ Some part) ⊎ Behind (replicas_of (region_part g w r) 0 w) (Merger (region_part g w r) (outputs_in g p) ∷ []) k part → RegionAt g w r p (suc k) part
    go (inl a) =
        let lt = slice_get_within (replicas_of (region_part g w r) 0 w) k part a in
        let n = replicas-length (region_part g w r) 0 w in
        let below : k < w = omega (arith, lt, n) in
        let is = get-replica (region_part g w r) 0 w k below in
        let number : 0 + k ≡ k = omega arith in
        let same : part ≡ Replica (region_part g w r) (0 + k) = cc in
        record { which = inr (inl (k, refl, below, same ∙ ap (Replica (region_part g w r)) number)) }
    go (inr b) = last b.at b.is b.sum
      where
        last : (m : ℕ) → slice_get (Merger (region_part g w r) (outputs_in g p) ∷ []) m ≡ Some part → k ≡ length (replicas_of (region_part g w r) 0 w) + m → RegionAt g w r p (suc k) part
        last zero is sum =
            let same : Merger (region_part g w r) (outputs_in g p) ≡ part = cc in
            let n = replicas-length (region_part g w r) 0 w in
            record { which = inr (inr (omega (arith, sum, n), sym same)) }
        last (suc m) is sum = absurd (cc)

-- ---- spots

module _ (g : Graph) (plan : List Region) (w : ℕ) where
  abbrev pub size : Piece → ℕ
  size p = size_by w (region_in plan p)

  -- pieces with their first elements
  abbrev pub spots : ℕ → List Piece → List (ℕ × Piece)
  spots e [] = []
  spots e (p ∷ ps) = (e, p) ∷ spots (e + size p) ps

  pub size-some : (p : Piece) → 0 < size p
  size-some p = go (region_in plan p)
    where
      go : (o : Option Region) → 0 < size_by w o
      go None = omega arith
      go (Some r) = omega arith

  pub spot-piece : (e : ℕ) (ps : List Piece) (j : ℕ) (x : ℕ × Piece) → slice_get (spots e ps) j ≡ Some x → slice_get ps j ≡ Some x.1
  spot-piece e [] j x at = absurd (cc)
  spot-piece e (p ∷ ps) zero x at = let same : (e, p) ≡ x = cc in ap (λ (z : ℕ × Piece). Some z.1) same
  spot-piece e (p ∷ ps) (suc j) x at = spot-piece (e + size p) ps j x at

  pub piece-spot : (e : ℕ) (ps : List Piece) (j : ℕ) (p : Piece) → slice_get ps j ≡ Some p → (s : ℕ) × (slice_get (spots e ps) j ≡ Some (s, p))
  piece-spot e [] j p at = absurd (cc)
  piece-spot e (q ∷ ps) zero p at = let same : q ≡ p = cc in (e, ap (λ (z : Piece). Some (e, z)) same)
  piece-spot e (q ∷ ps) (suc j) p at = piece-spot (e + size q) ps j p at

  spot-least : (e : ℕ) (ps : List Piece) (j : ℕ) (x : ℕ × Piece) → slice_get (spots e ps) j ≡ Some x → e ≤ x.0
  spot-least e [] j x at = absurd (cc)
  spot-least e (p ∷ ps) zero x at = let same : (e, p) ≡ x = cc in let k : e ≡ x.0 = ap (λ (z : ℕ × Piece). z.0) same in omega (arith, k)
  spot-least e (p ∷ ps) (suc j) x at = let k = spot-least (e + size p) ps j x at in omega (arith, k)

  pub spots-apart : (e : ℕ) (ps : List Piece) (j k : ℕ) (x y : ℕ × Piece) → j < k → slice_get (spots e ps) j ≡ Some x → slice_get (spots e ps) k ≡ Some y → x.0 + size x.1 ≤ y.0
  spots-apart e [] j k x y lt at there = absurd (cc)
  spots-apart e (p ∷ ps) zero zero x y lt at there = absurd (omega (arith, lt))
  spots-apart e (p ∷ ps) zero (suc k) x y lt at there =
      let same : (e, p) ≡ x = cc in
      let sum : e + size p ≡ x.0 + size x.1 = ap (λ (z : ℕ × Piece). z.0 + size z.1) same in
      let least = spot-least (e + size p) ps k y there in
      omega (arith, sum, least)
  spots-apart e (p ∷ ps) (suc j) zero x y lt at there = absurd (omega (arith, lt))
  spots-apart e (p ∷ ps) (suc j) (suc k) x y lt at there = spots-apart (e + size p) ps j k x y (omega (arith, lt)) at there

  -- ---- parts

  pub part-in : (e : ℕ) (ps : List Piece) (j k : ℕ) (x : ℕ × Piece) (part : Part) → slice_get (spots e ps) j ≡ Some x → slice_get (parts_in g w (region_in plan x.1) x.1) k ≡ Some part
      → (m : ℕ) × (e + m ≡ x.0 + k) × (slice_get (parts_at g plan w ps) m ≡ Some part)
  part-in e [] j k x part at there = absurd (cc)
  part-in e (p ∷ ps) zero k x part at there =
      let same : (e, p) ≡ x = cc in
      let is : slice_get (parts_in g w (region_in plan p) p) k ≡ Some part = ap (λ (z : ℕ × Piece). slice_get (parts_in g w (region_in plan z.1) z.1) k) same ∙ there in
      (k, ap (λ (z : ℕ × Piece). z.0 + k) same, append_front (parts_in g w (region_in plan p) p) (parts_at g plan w ps) k part is)
  part-in e (p ∷ ps) (suc j) k x part at there =
      let r = part-in (e + size p) ps j k x part at there in
      let n = size-is g w (region_in plan p) p in
      let sum : e + size p + r.0 ≡ x.0 + k = r.1 in
      (length (parts_in g w (region_in plan p) p) + r.0, omega (arith, n, sum), get-right (parts_in g w (region_in plan p) p) (parts_at g plan w ps) r.0 ∙ r.2)

  -- the piece of an element
  pub record PartOf (e : ℕ) (ps : List Piece) (m : ℕ) (part : Part) : Type 0 where
    pub place : ℕ
    pub spot : ℕ × Piece
    pub at : slice_get (spots e ps) place ≡ Some spot
    pub offset : ℕ
    pub sum : e + m ≡ spot.0 + offset
    pub is : slice_get (parts_in g w (region_in plan spot.1) spot.1) offset ≡ Some part

  pub part-of : (e : ℕ) (ps : List Piece) (m : ℕ) (part : Part) → slice_get (parts_at g plan w ps) m ≡ Some part → PartOf e ps m part
  part-of e [] m part at = absurd (cc)
  part-of e (p ∷ ps) m part at = go (get-append (parts_in g w (region_in plan p) p) (parts_at g plan w ps) m part at) (λ i. part-of (e + size p) ps i part)
    where
      go : (slice_get (parts_in g w (region_in plan p) p) m ≡ Some part) ⊎ Behind (parts_in g w (region_in plan p) p) (parts_at g plan w ps) m part
          → ((i : ℕ) → slice_get (parts_at g plan w ps) i ≡ Some part → PartOf (e + size p) ps i part) → PartOf e (p ∷ ps) m part
      go (inl a) later = record { place = 0; spot = (e, p); at = refl; offset = m; sum = refl; is = a }
      go (inr b) later =
          let r = later b.at b.is in
          let n = size-is g w (region_in plan p) p in
          let s = b.sum in
          let t : e + size p + b.at ≡ r.spot.0 + r.offset = r.sum in
          record { place = suc r.place; spot = r.spot; at = r.at; offset = r.offset; sum = omega (arith, n, s, t); is = r.is }

  -- ---- entries

  pub entry-spot : (e : ℕ) (ps : List Piece) (j : ℕ) (x : ℕ × Piece) (n : ℕ) → times (λ (p : Piece). p.first.number == n) ps ≤ 1 → slice_get (spots e ps) j ≡ Some x → (x.1).first.number ≡ n
      → e + entry_at plan w ps n ≡ x.0
  entry-spot e [] j x n most at h = absurd (cc)
  entry-spot e (p ∷ ps) zero x n most at h =
      let same : (e, p) ≡ x = cc in
      let first : entry_at plan w (p ∷ ps) n ≡ 0 = cond-true (p.first.number == n) 0 (size p + entry_at plan w ps n) (eq-eqb p.first.number n (ap (λ (z : ℕ × Piece). (z.1).first.number) same ∙ h)) in
      let is : e ≡ x.0 = ap (λ (z : ℕ × Piece). z.0) same in
      omega (arith, first, is)
  entry-spot e (p ∷ ps) (suc j) x n most at h =
      let all : one_if (p.first.number == n) + times (λ (p : Piece). p.first.number == n) ps ≤ 1 = most in
      let there = total-at (λ (p : Piece). one_if (p.first.number == n)) ps j x.1 (spot-piece (e + size p) ps j x at) in
      let one : one_if ((x.1).first.number == n) ≡ 1 = ap one_if (eq-eqb (x.1).first.number n h) in
      let apart : p.first.number ≡ n → ⊥ = λ same. (let first : one_if (p.first.number == n) ≡ 1 = ap one_if (eq-eqb p.first.number n same) in absurd (omega (arith, first, there, one, all))) in
      let rest = entry-spot (e + size p) ps j x n (omega (arith, all)) at h in
      let first : entry_at plan w (p ∷ ps) n ≡ size p + entry_at plan w ps n = cond-false (p.first.number == n) 0 (size p + entry_at plan w ps n) (ne_eqb p.first.number n apart) in
      omega (arith, first, rest)

  -- an entry is the first element of a piece, or none at all
  pub record EntryOf (e : ℕ) (ps : List Piece) (n : ℕ) : Type 0 where
    pub place : ℕ
    pub spot : ℕ × Piece
    pub at : slice_get (spots e ps) place ≡ Some spot
    pub is : e + entry_at plan w ps n ≡ spot.0
    pub number : (spot.1).first.number ≡ n

  pub entry-of : (e : ℕ) (ps : List Piece) (n : ℕ) → EntryOf e ps n ⊎ (entry_at plan w ps n ≡ length (parts_at g plan w ps))
  entry-of e [] n = inr refl
  entry-of e (p ∷ ps) n = go (cases_Bool (p.first.number == n)) (entry-of (e + size p) ps n)
    where
      go : ((p.first.number == n) ≡ true) ⊎ ((p.first.number == n) ≡ false) → EntryOf (e + size p) ps n ⊎ (entry_at plan w ps n ≡ length (parts_at g plan w ps))
          → EntryOf e (p ∷ ps) n ⊎ (entry_at plan w (p ∷ ps) n ≡ length (parts_at g plan w (p ∷ ps)))
      go (inl b) rest =
          let first : entry_at plan w (p ∷ ps) n ≡ 0 = cond-true (p.first.number == n) 0 (size p + entry_at plan w ps n) b in
          inl (record { place = 0; spot = (e, p); at = refl; is = omega (arith, first); number = eqb-true p.first.number n b })
      go (inr b) (inl r) =
          let first : entry_at plan w (p ∷ ps) n ≡ size p + entry_at plan w ps n = cond-false (p.first.number == n) 0 (size p + entry_at plan w ps n) b in
          let k : e + size p + entry_at plan w ps n ≡ r.spot.0 = r.is in
          inl (record { place = suc r.place; spot = r.spot; at = r.at; is = omega (arith, first, k); number = r.number })
      go (inr b) (inr same) =
          let first : entry_at plan w (p ∷ ps) n ≡ size p + entry_at plan w ps n = cond-false (p.first.number == n) 0 (size p + entry_at plan w ps n) b in
          let n = size-is g w (region_in plan p) p in
          let both = length-append (parts_in g w (region_in plan p) p) (parts_at g plan w ps) in
          inr (omega (arith, first, n, both, same))
