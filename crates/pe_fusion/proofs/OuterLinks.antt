-- The elements and links of pieces that are chains.
use Rattle.std.proofs.Common.{ℕ, zero, suc, ◌+◌, ◌<◌, ◌==◌, ◌&&◌, Bool, List, [], ◌∷◌, ◌≡◌, refl, sym, ap, arith, length, Some, slice_get}
use Rattle.network_model.specs.Networks.{Link}
use Rattle.pe_fusion.specs.FusedNets.{outer_links}
use Rattle.pe_fusion.specs.Totals.{one_if, times}

-- ---- links

pub record OuterAt (entry : ℕ → ℕ) (e o : ℕ) (rs : List (ℕ × ℕ)) (k : Link) : Type 0 where
  pub at : ℕ
  pub reader : ℕ × ℕ
  pub is : slice_get rs at ≡ Some reader
  pub from : k.from ≡ e
  pub output : k.output ≡ o + at
  pub to : k.to ≡ entry reader.0
  pub input : k.input ≡ reader.1

pub outer-at : (entry : ℕ → ℕ) (e o : ℕ) (rs : List (ℕ × ℕ)) (l : ℕ) (k : Link) → slice_get (outer_links entry e o rs) l ≡ Some k → OuterAt entry e o rs k
outer-at entry e o [] l k at = absurd (cc)
outer-at entry e o (r ∷ rs) zero k at =
    let same : record { from = e; output = o; to = entry r.0; input = r.1 } ≡ k = cc in
    record {
      at = 0;
      reader = r;
      is = refl;
      from = ap (λ (z : Link). z.from) (sym same);
      output = (let p : k.output ≡ o = ap (λ (z : Link). z.output) (sym same) in omega (arith, p));
      to = ap (λ (z : Link). z.to) (sym same);
      input = ap (λ (z : Link). z.input) (sym same);
    }
outer-at entry e o (r ∷ rs) (suc l) k at =
    let h = outer-at entry e (suc o) rs l k at in
    record { at = suc h.at; reader = h.reader; is = h.is; from = h.from; output = (let p : k.output ≡ suc o + h.at = h.output in omega (arith, p)); to = h.to; input = h.input }

pub outer-from : (entry : ℕ → ℕ) (e o : ℕ) (rs : List (ℕ × ℕ)) (l : ℕ) → l < length rs
    → (k : Link) × (slice_get (outer_links entry e o rs) l ≡ Some k) × (k.from ≡ e) × (k.output ≡ o + l)
outer-from entry e o [] l lt = absurd (let k : l < 0 = lt in omega (arith, k))
outer-from entry e o (r ∷ rs) zero lt = (record { from = e; output = o; to = entry r.0; input = r.1 }, refl, refl, omega arith)
outer-from entry e o (r ∷ rs) (suc l) lt =
    let k = outer-from entry e (suc o) rs l (let b : suc l < suc (length rs) = lt in omega (arith, b)) in
    let output : (k.0).output ≡ suc o + l = k.3 in
    (k.0, k.1, k.2, omega (arith, output))

-- how many links lead to an input
abbrev pub leads : ℕ → ℕ → Link → Bool
leads e i k = k.to == e && k.input == i

abbrev pub leads_to : (ℕ → ℕ) → ℕ → ℕ → ℕ × ℕ → Bool
leads_to entry e i r = entry r.0 == e && r.1 == i

pub outer-times : (entry : ℕ → ℕ) (d i e o : ℕ) (rs : List (ℕ × ℕ)) → times (leads d i) (outer_links entry e o rs) ≡ times (leads_to entry d i) rs
outer-times entry d i e o [] = refl
outer-times entry d i e o (r ∷ rs) = ap (λ n. one_if (entry r.0 == d && r.1 == i) + n) (outer-times entry d i e (suc o) rs)
