-- What a final marker causes while its port waits for another.
use Rattle.std.proofs.Common.{ℕ, zero, suc, ◌+◌, ◌<◌, ◌==◌, Bool, true, false, cond, ◌&&◌, not, List, [], ◌∷◌, ◌++◌, ◌≡◌, refl, sym, ap, ◌∙◌, map, length, length-append, slice_get, Some, None, arith}
use Rattle.std.specs.List.{concat, list_any}
use Rattle.std.proofs.lemmas.Bool.{cond-true, cond-false, ne_eqb, eq-eqb, or_parts}
use Rattle.spl_value.specs.declared.item.Item.TheVariants as I
use Rattle.stream_model.specs.Stream.{Event, came, is_final}
use Rattle.stream_model.specs.Operators.{Operator, ports_from, ports}
use Rattle.stream_model.specs.parts.Operators.{port_at}
use Rattle.stream_model.specs.PortEvents.{is_over, all_over, is_waiting, ends_all}
use Rattle.stream_model.specs.React.{body, answered, ended_by}
use Rattle.stream_model.specs.Laws.{WaitLaw, PortsLaw}

pub port_at-is : (ps : List ℕ) (i p : ℕ) → slice_get ps i ≡ Some p → port_at ps i ≡ p
port_at-is [] i p h = cc
port_at-is (q ∷ ps) zero p h = cc
port_at-is (q ∷ ps) (suc i) p h = port_at-is ps i p h

is_over-not : (h : List Event) (j : ℕ) → list_any (λ e. (e.input == j) && is_final e.item) h ≡ false → is_over h j ≡ false
is_over-not [] j q = refl
is_over-not (e ∷ h) j q =
    let parts = or_parts ((e.input == j) && is_final e.item) (list_any (λ e. (e.input == j) && is_final e.item) h) q in
    cond-false ((e.input == j) && is_final e.item) true (is_over h j) parts.0 ∙ is_over-not h j parts.1

-- where it hasn't come on some input whose port passes, it hasn't come on each
pub all_over-not : (test : ℕ → Bool) (ps : List ℕ) (from j at p : ℕ) (h : List Event) → slice_get ps j ≡ Some p → test p ≡ true → at ≡ from + j → is_over h at ≡ false
    → all_over test ps from h ≡ false
all_over-not test [] from j at p h s t a o = cc
all_over-not test (q ∷ ps) from zero at p h s t a o =
    let same : q ≡ p = cc in
    let here : at ≡ from = omega arith in
    cond-true (test q) _ _ (ap test same ∙ t)
    ∙ ap (λ (b : Bool). b && all_over test ps (suc from) h) (ap (is_over h) (sym here) ∙ o)
all_over-not test (q ∷ ps) from (suc j) at p h s t a o =
    go (test q) (is_over h from) (all_over-not test ps (suc from) j at p h s t (omega arith) o)
  where
    go : (b over : Bool) → all_over test ps (suc from) h ≡ false → cond b (over && all_over test ps (suc from) h) (all_over test ps (suc from) h) ≡ false
    go true true e = e
    go true false e = refl
    go false over e = e

waits : (op : Operator) (i j p : ℕ) (earlier : List Event) → slice_get (ports op) i ≡ Some p → slice_get (ports op) j ≡ Some p
    → (i ≡ j → ⊥) → list_any (λ e. (e.input == j) && is_final e.item) earlier ≡ false → is_waiting op earlier (came i I.Final) ≡ true
waits op i j p earlier at other apart none =
    ap not (all_over-not (λ q. q == port_at (ports op) i) (ports op) 0 j j p (came i I.Final ∷ earlier) other
    (eq-eqb p (port_at (ports op) i) (sym (port_at-is (ports op) i p at))) (omega arith)
    (ap (λ (b : Bool). cond (b && true) true (is_over earlier j)) (ne_eqb i j apart) ∙ is_over-not earlier j none))

pub wait_law : WaitLaw
wait_law op i j p earlier at other apart none =
    let w = waits op i j p earlier at other apart none in (
      cond-true (is_waiting op earlier (came i I.Final)) [] (answered op (ends_all op earlier (came i I.Final)) (body op earlier (came i I.Final))) w,
      cond-true (is_waiting op earlier (came i I.Final)) None (ended_by op (ends_all op earlier (came i I.Final)) (body op earlier (came i I.Final))) w,
    )

pub slice_get-past : (n : ℕ) (streams : List ℕ) (ps : List ℕ) (i k : ℕ) → k ≡ length streams + i → slice_get (map (λ s. n) streams ++ ps) k ≡ slice_get ps i
slice_get-past n [] ps i k e = let same : k ≡ i = omega arith in ap (slice_get ps) same
slice_get-past n (s ∷ streams) ps i zero e = absurd (omega arith)
slice_get-past n (s ∷ streams) ps i (suc k) e = slice_get-past n streams ps i k (omega arith)

slice_get-here : (n : ℕ) (streams : List ℕ) (ps : List ℕ) (k : ℕ) → k < length streams → slice_get (map (λ s. n) streams ++ ps) k ≡ Some n
slice_get-here n [] ps k lt = absurd (omega arith)
slice_get-here n (s ∷ streams) ps zero lt = refl
slice_get-here n (s ∷ streams) ps (suc k) lt = slice_get-here n streams ps k (omega arith)

ports_from-at : (n m : ℕ) (before after : List (List ℕ)) (streams : List ℕ) (k : ℕ) → m ≡ n + length before → k < length streams
    → slice_get (ports_from n (before ++ streams ∷ after)) (length (concat before) + k) ≡ Some m
ports_from-at n m [] after streams k e lt =
    let none : 0 + k ≡ k = omega arith in let same : n ≡ m = omega arith in
    ap (slice_get (map (λ s. n) streams ++ ports_from (suc n) after)) none ∙ slice_get-here n streams (ports_from (suc n) after) k lt ∙ ap (λ q. Some q) same
ports_from-at n m (front ∷ before) after streams k e lt =
    slice_get-past n front (ports_from (suc n) (before ++ streams ∷ after)) (length (concat before) + k) (length (front ++ concat before) + k)
    (omega (arith, length-append front (concat before)))
    ∙ ports_from-at (suc n) m before after streams k (omega arith) lt

pub ports_law : PortsLaw
ports_law op before after streams k e lt =
    ap (λ ins. slice_get (ports_from 0 ins) (length (concat before) + k)) e ∙ ports_from-at 0 (length before) before after streams k (omega arith) lt
