-- The links of pieces that are chains or regions.
use Rattle.std.proofs.Common.{ℕ, zero, suc, ◌+◌, ◌<◌, ◌==◌, List, [], ◌∷◌, ◌++◌, append_assoc, ◌≡◌, ◌⊎◌, inl, inr, refl, sym, ap, ◌∙◌, arith, length, Option, Some, None, slice_get}
use Rattle.std.specs.List.{flat_map}
use Rattle.std.proofs.lemmas.Bool.{cases_order, eq-eqb, ne_eqb, and_from, and_left, and_right}
use Rattle.spl_value.proofs.Lists.{append_front, get_below}
use Rattle.stream_model.specs.declared.plan.Region.{Region}
use Rattle.stream_model.specs.Meaning.{Graph}
use Rattle.network_model.specs.Networks.{Link}
use Rattle.pe_fusion.specs.FusedNets.{channel_links, links_at, links_in, merger_links, outer_links, region_in, size_by}
use Rattle.pe_fusion.specs.Pieces.{Piece, last_in}
use Rattle.pe_fusion.specs.Readers.{readers}
use Rattle.pe_fusion.specs.Totals.{one_if, times, total}
use Rattle.pe_fusion.proofs.Totals.{total-append, total-zero, total-only, Behind, get-append, get-right}
use Rattle.pe_fusion.proofs.OuterLinks.{OuterAt, outer-at, leads, leads_to, outer-times}
use Rattle.pe_fusion.proofs.Spots.{size, spots, spots-apart}

-- ---- the links inside a region

pub record FieldsAre (k : Link) (from output to input : ℕ) : Type 0 where
  pub from_is : k.from ≡ from
  pub output_is : k.output ≡ output
  pub to_is : k.to ≡ to
  pub input_is : k.input ≡ input

pub channel-at : (e c n l : ℕ) (k : Link) → slice_get (channel_links e c n) l ≡ Some k → (l < n) × FieldsAre k e (c + l) (e + 1 + (c + l)) 0
channel-at e c zero l k at = absurd (cc)
channel-at e c (suc n) zero k at =
    let same : record { from = e; output = c; to = e + 1 + c; input = 0 } ≡ k = cc in
    let a : k.output ≡ c = ap (λ (z : Link). z.output) (sym same) in
    let b : k.to ≡ e + 1 + c = ap (λ (z : Link). z.to) (sym same) in
    (omega arith, record { from_is = ap (λ (z : Link). z.from) (sym same); output_is = omega (arith, a); to_is = omega (arith, b); input_is = ap (λ (z : Link). z.input) (sym same) })
channel-at e c (suc n) (suc l) k at =
    let r = channel-at e (suc c) n l k at in
    let lt = r.0 in
    let a : k.output ≡ suc c + l = r.1.output_is in
    let b : k.to ≡ e + 1 + (suc c + l) = r.1.to_is in
    (omega (arith, lt), record { from_is = r.1.from_is; output_is = omega (arith, a); to_is = omega (arith, b); input_is = r.1.input_is })

channels-length : (e c n : ℕ) → length (channel_links e c n) ≡ n
channels-length e c zero = refl
channels-length e c (suc n) = ap suc (channels-length e (suc c) n)

pub merger-link-at : (e c n l : ℕ) (k : Link) → slice_get (merger_links e c n) l ≡ Some k → (l < n) × FieldsAre k (e + l) 0 (e + n) (c + l)
merger-link-at e c zero l k at = absurd (cc)
merger-link-at e c (suc n) zero k at =
    let same : record { from = e; output = 0; to = e + suc n; input = c } ≡ k = cc in
    let a : k.from ≡ e = ap (λ (z : Link). z.from) (sym same) in
    let b : k.input ≡ c = ap (λ (z : Link). z.input) (sym same) in
    (omega arith, record { from_is = omega (arith, a); output_is = ap (λ (z : Link). z.output) (sym same); to_is = ap (λ (z : Link). z.to) (sym same); input_is = omega (arith, b) })
merger-link-at e c (suc n) (suc l) k at =
    let r = merger-link-at (suc e) (suc c) n l k at in
    let lt = r.0 in
    let a : k.from ≡ suc e + l = r.1.from_is in
    let b : k.to ≡ suc e + n = r.1.to_is in
    let d : k.input ≡ suc c + l = r.1.input_is in
    (omega (arith, lt), record { from_is = omega (arith, a); output_is = r.1.output_is; to_is = omega (arith, b); input_is = omega (arith, d) })

mergers-length : (e c n : ℕ) → length (merger_links e c n) ≡ n
mergers-length e c zero = refl
mergers-length e c (suc n) = ap suc (mergers-length (suc e) (suc c) n)

-- ---- how many lead to an element

other-to : (d i : ℕ) (k : Link) → (k.to ≡ d → ⊥) → one_if (leads d i k) ≡ 0
other-to d i k apart = ap one_if (and_left (k.to == d) (k.input == i) (ne_eqb k.to d apart))

other-in : (d i : ℕ) (k : Link) → (k.input ≡ i → ⊥) → one_if (leads d i k) ≡ 0
other-in d i k apart = ap one_if (and_right (k.to == d) (k.input == i) (ne_eqb k.input i apart))

that-one : (d i : ℕ) (k : Link) → k.to ≡ d → k.input ≡ i → one_if (leads d i k) ≡ 1
that-one d i k a b = ap one_if (and_from (k.to == d) (k.input == i) (eq-eqb k.to d a) (eq-eqb k.input i b))

channel-none : (s n d i : ℕ) → ((l : ℕ) → l < n → d ≡ s + 1 + l → ⊥) → times (leads d i) (channel_links s 0 n) ≡ 0
channel-none s n d i apart = total-zero (λ k. one_if (leads d i k)) (channel_links s 0 n) (λ l k at.
    (let r = channel-at s 0 n l k at in
    let to = r.1.to_is in
    other-to d i k (λ e. apart l r.0 (let f : k.to ≡ d = e in let z : d ≡ s + 1 + l = omega (arith, f, to) in z))))

merger-none : (e n d i : ℕ) → (d ≡ e + n → ⊥) → times (leads d i) (merger_links e 0 n) ≡ 0
merger-none e n d i apart = total-zero (λ k. one_if (leads d i k)) (merger_links e 0 n) (λ l k at.
    (let r = merger-link-at e 0 n l k at in other-to d i k (λ f. apart (sym f ∙ r.1.to_is))))

channel-one : (s n c : ℕ) → c < n → times (leads (s + 1 + c) 0) (channel_links s 0 n) ≡ 1
channel-one s n c lt =
    let m = channels-length s 0 n in
    let k = get_below (channel_links s 0 n) c (omega (arith, lt, m)) in
    let r = channel-at s 0 n c k.0 k.1 in
    let to = r.1.to_is in
    total-only (λ k. one_if (leads (s + 1 + c) 0 k)) (channel_links s 0 n) c k.0 k.1 (λ l y at apart.
    (let q = channel-at s 0 n l y at in
    let other = q.1.to_is in
    other-to (s + 1 + c) 0 y (λ e. apart (let f : y.to ≡ s + 1 + c = e in let z : l ≡ c = omega (arith, f, other) in z))))
    ∙ that-one (s + 1 + c) 0 k.0 (omega (arith, to)) r.1.input_is

merger-one : (e n c : ℕ) → c < n → times (leads (e + n) c) (merger_links e 0 n) ≡ 1
merger-one e n c lt =
    let m = mergers-length e 0 n in
    let k = get_below (merger_links e 0 n) c (omega (arith, lt, m)) in
    let r = merger-link-at e 0 n c k.0 k.1 in
    let input = r.1.input_is in
    total-only (λ k. one_if (leads (e + n) c k)) (merger_links e 0 n) c k.0 k.1 (λ l y at apart.
    (let q = merger-link-at e 0 n l y at in
    let other = q.1.input_is in
    other-in (e + n) c y (λ f. apart (let g : y.input ≡ c = f in let z : l ≡ c = omega (arith, g, other) in z))))
    ∙ that-one (e + n) c k.0 r.1.to_is (omega (arith, input))

-- ---- a piece

module _ (g : Graph) (plan : List Region) (w : ℕ) where
  abbrev pub inner_by : Option Region → ℕ → List Link
  inner_by None e = []
  inner_by (Some r) e = channel_links e 0 w ++ merger_links (e + 1) 0 w

  abbrev pub exit_by : Option Region → ℕ
  exit_by None = 0
  exit_by (Some r) = w + 1

  links-in-is : (o : Option Region) (entry : ℕ → ℕ) (e : ℕ) (p : Piece) → links_in g w o entry e p ≡ inner_by o e ++ outer_links entry (e + exit_by o) 0 (flat_map (readers g) (last_in p).outs)
  links-in-is None entry e p = ap (λ z. outer_links entry z 0 (flat_map (readers g) (last_in p).outs)) (let k : e ≡ e + 0 = omega arith in k)
  links-in-is (Some r) entry e p =
      sym (append_assoc (channel_links e 0 w) (merger_links (e + 1) 0 w) (outer_links entry (e + w + 1) 0 (flat_map (readers g) (last_in p).outs)))
      ∙ ap (λ z. (channel_links e 0 w ++ merger_links (e + 1) 0 w) ++ outer_links entry z 0 (flat_map (readers g) (last_in p).outs)) (let k : e + w + 1 ≡ e + (w + 1) = omega arith in k)

  abbrev pub inner-count : ℕ → ℕ → ℕ × Piece → ℕ
  inner-count d i x = times (leads d i) (inner_by (region_in plan x.1) x.0)

  pub links-total : (entry : ℕ → ℕ) (d i e : ℕ) (ps : List Piece) → times (leads d i) (links_at g plan w entry e ps)
      ≡ total (inner-count d i) (spots g plan w e ps) + total (λ (p : Piece). times (leads_to entry d i) (flat_map (readers g) (last_in p).outs)) ps
  links-total entry d i e [] = let z : 0 ≡ 0 + 0 = omega arith in z
  links-total entry d i e (p ∷ ps) =
      let outs : List (ℕ × ℕ) = flat_map (readers g) (last_in p).outs in
      let a = total-append (λ k. one_if (leads d i k)) (links_in g w (region_in plan p) entry e p) (links_at g plan w entry (e + size g plan w p) ps) in
      let b = ap (times (leads d i)) (links-in-is (region_in plan p) entry e p) in
      let c = total-append (λ k. one_if (leads d i k)) (inner_by (region_in plan p) e) (outer_links entry (e + exit_by (region_in plan p)) 0 outs) in
      let f = outer-times entry d i (e + exit_by (region_in plan p)) 0 outs in
      let rest = links-total entry d i (e + size g plan w p) ps in
      omega (arith, a, b, c, f, rest)

  -- ---- a link

  pub record LinkOf (entry : ℕ → ℕ) (e : ℕ) (ps : List Piece) (k : Link) : Type 0 where
    pub place : ℕ
    pub spot : ℕ × Piece
    pub at : slice_get (spots g plan w e ps) place ≡ Some spot
    pub number : ℕ
    pub kind : (slice_get (inner_by (region_in plan spot.1) spot.0) number ≡ Some k) ⊎ OuterAt entry (spot.0 + exit_by (region_in plan spot.1)) 0 (flat_map (readers g) (last_in spot.1).outs) k

  pub link-of : (entry : ℕ → ℕ) (e : ℕ) (ps : List Piece) (l : ℕ) (k : Link) → slice_get (links_at g plan w entry e ps) l ≡ Some k → LinkOf entry e ps k
  link-of entry e [] l k at = absurd (cc)
  link-of entry e (p ∷ ps) l k at =
      go (get-append (links_in g w (region_in plan p) entry e p) (links_at g plan w entry (e + size g plan w p) ps) l k at) (λ m. link-of entry (e + size g plan w p) ps m k)
    where
      own : (slice_get (inner_by (region_in plan p) e) l ≡ Some k) ⊎ Behind (inner_by (region_in plan p) e) (outer_links entry (e + exit_by (region_in plan p)) 0 (flat_map (readers g) (last_in p).outs)) l k → LinkOf entry e (p ∷ ps) k
      own (inl a) = record { place = 0; spot = (e, p); at = refl; number = l; kind = inl a }
      own (inr b) = record { place = 0; spot = (e, p); at = refl; number = l; kind = inr (outer-at entry (e + exit_by (region_in plan p)) 0 (flat_map (readers g) (last_in p).outs) b.at k b.is) }

      go : (slice_get (links_in g w (region_in plan p) entry e p) l ≡ Some k) ⊎ Behind (links_in g w (region_in plan p) entry e p) (links_at g plan w entry (e + size g plan w p) ps) l k
          → ((m : ℕ) → slice_get (links_at g plan w entry (e + size g plan w p) ps) m ≡ Some k → LinkOf entry (e + size g plan w p) ps k) → LinkOf entry e (p ∷ ps) k
      go (inl a) later = own (get-append (inner_by (region_in plan p) e) (outer_links entry (e + exit_by (region_in plan p)) 0 (flat_map (readers g) (last_in p).outs)) l k
          (ap (λ ls. slice_get ls l) (sym (links-in-is (region_in plan p) entry e p)) ∙ a))
      go (inr b) later = let r = later b.at b.is in record { place = suc r.place; spot = r.spot; at = r.at; number = r.number; kind = r.kind }

  -- ---- the links of a piece stand among all

  pub link-in : (entry : ℕ → ℕ) (e : ℕ) (ps : List Piece) (j n : ℕ) (x : ℕ × Piece) (k : Link) → slice_get (spots g plan w e ps) j ≡ Some x
      → slice_get (links_in g w (region_in plan x.1) entry x.0 x.1) n ≡ Some k → (m : ℕ) × (slice_get (links_at g plan w entry e ps) m ≡ Some k)
  link-in entry e [] j n x k at is = absurd (cc)
  link-in entry e (p ∷ ps) zero n x k at is =
      let same : (e, p) ≡ x = cc in (
        n,
        append_front (links_in g w (region_in plan p) entry e p) (links_at g plan w entry (e + size g plan w p) ps) n k
            (ap (λ (z : ℕ × Piece). slice_get (links_in g w (region_in plan z.1) entry z.0 z.1) n) same ∙ is),
      )
  link-in entry e (p ∷ ps) (suc j) n x k at is =
      let r = link-in entry (e + size g plan w p) ps j n x k at is in (
        length (links_in g w (region_in plan p) entry e p) + r.0,
        get-right (links_in g w (region_in plan p) entry e p) (links_at g plan w entry (e + size g plan w p) ps) r.0 ∙ r.1,
      )

  pub inner-link : (o : Option Region) (entry : ℕ → ℕ) (e n : ℕ) (p : Piece) (k : Link) → slice_get (inner_by o e) n ≡ Some k → slice_get (links_in g w o entry e p) n ≡ Some k
  inner-link o entry e n p k is =
      ap (λ ls. slice_get ls n) (links-in-is o entry e p)
      ∙ append_front (inner_by o e) (outer_links entry (e + exit_by o) 0 (flat_map (readers g) (last_in p).outs)) n k is

  pub outer-link : (o : Option Region) (entry : ℕ → ℕ) (e n : ℕ) (p : Piece) (k : Link) → slice_get (outer_links entry (e + exit_by o) 0 (flat_map (readers g) (last_in p).outs)) n ≡ Some k
      → slice_get (links_in g w o entry e p) (length (inner_by o e) + n) ≡ Some k
  outer-link o entry e n p k is =
      ap (λ ls. slice_get ls (length (inner_by o e) + n)) (links-in-is o entry e p)
      ∙ get-right (inner_by o e) (outer_links entry (e + exit_by o) 0 (flat_map (readers g) (last_in p).outs)) n ∙ is

  -- the link from the splitter to a channel, and from a replica to the merger
  pub from-splitter : (s c : ℕ) (r : Region) → c < w → (k : Link) × (slice_get (inner_by (Some r) s) c ≡ Some k) × (k.from ≡ s) × (k.output ≡ c)
  from-splitter s c r lt =
      let m = channels-length s 0 w in
      let k = get_below (channel_links s 0 w) c (omega (arith, lt, m)) in
      let f = channel-at s 0 w c k.0 k.1 in
      let output : k.0.output ≡ 0 + c = f.1.output_is in
      (k.0, append_front (channel_links s 0 w) (merger_links (s + 1) 0 w) c k.0 k.1, f.1.from_is, omega (arith, output))

  pub from-replica : (s c : ℕ) (r : Region) → c < w → (n : ℕ) × (k : Link) × (slice_get (inner_by (Some r) s) n ≡ Some k) × (k.from ≡ s + suc c) × (k.output ≡ 0)
  from-replica s c r lt =
      let m = mergers-length (s + 1) 0 w in
      let k = get_below (merger_links (s + 1) 0 w) c (omega (arith, lt, m)) in
      let f = merger-link-at (s + 1) 0 w c k.0 k.1 in
      let from : k.0.from ≡ s + 1 + c = f.1.from_is in
      (length (channel_links s 0 w) + c, k.0, get-right (channel_links s 0 w) (merger_links (s + 1) 0 w) c ∙ k.1, omega (arith, from), f.1.output_is)

  -- ---- elements of different pieces

  pub disjoint : (ps : List Piece) (j k : ℕ) (x y : ℕ × Piece) (m n : ℕ) → slice_get (spots g plan w 0 ps) j ≡ Some x → slice_get (spots g plan w 0 ps) k ≡ Some y → m < size g plan w x.1 → n < size g plan w y.1 → x.0 + m ≡ y.0 + n → j ≡ k
  disjoint ps j k x y m n at there a b e = go (cases_order j k)
    where
      go : (j ≡ k) ⊎ ((j < k) ⊎ (k < j)) → j ≡ k
      go (inl same) = same
      go (inr (inl lt)) = let f = spots-apart g plan w 0 ps j k x y lt at there in absurd (omega (arith, f, a, e))
      go (inr (inr lt)) = let f = spots-apart g plan w 0 ps k j y x lt there at in absurd (omega (arith, f, b, e))

  -- no inner link of a piece leads elsewhere
  pub inner-zero : (d i : ℕ) (o : Option Region) (s : ℕ) → ((m : ℕ) → 0 < m → m < size_by w o → d ≡ s + m → ⊥) → times (leads d i) (inner_by o s) ≡ 0
  inner-zero d i None s apart = refl
  inner-zero d i (Some r) s apart =
      let a = total-append (λ k. one_if (leads d i k)) (channel_links s 0 w) (merger_links (s + 1) 0 w) in
      let b = channel-none s w d i (λ l lt e. apart (suc l) (omega arith) (omega (arith, lt)) (let f : d ≡ s + 1 + l = e in let z : d ≡ s + suc l = omega (arith, f) in z)) in
      let c = merger-none (s + 1) w d i (λ e. apart (suc w) (omega arith) (omega arith) (let f : d ≡ s + 1 + w = e in let z : d ≡ s + suc w = omega (arith, f) in z)) in
      omega (arith, a, b, c)

  pub inner-replica : (s c : ℕ) (r : Region) → c < w → times (leads (s + 1 + c) 0) (inner_by (Some r) s) ≡ 1
  inner-replica s c r lt =
      let a = total-append (λ k. one_if (leads (s + 1 + c) 0 k)) (channel_links s 0 w) (merger_links (s + 1) 0 w) in
      let b = channel-one s w c lt in
      let d = merger-none (s + 1) w (s + 1 + c) 0 (λ e. let f : s + 1 + c ≡ s + 1 + w = e in omega (arith, f, lt)) in
      omega (arith, a, b, d)

  pub inner-merger : (s c : ℕ) (r : Region) → c < w → times (leads (s + 1 + w) c) (inner_by (Some r) s) ≡ 1
  inner-merger s c r lt =
      let a = total-append (λ k. one_if (leads (s + 1 + w) c k)) (channel_links s 0 w) (merger_links (s + 1) 0 w) in
      let b = channel-none s w (s + 1 + w) c (λ l below e. let f : s + 1 + w ≡ s + 1 + l = e in omega (arith, f, below)) in
      let d = merger-one (s + 1) w c lt in
      omega (arith, a, b, d)
