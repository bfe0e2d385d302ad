-- Operators are placed in chains, one after another.
use Rattle.std.proofs.Common.{ℕ, ◌+◌, ◌<◌, ◌≤◌, ◌==◌, Bool, true, false, cond, List, [], ◌∷◌, ◌++◌, ◌≡◌, ◌⊎◌, inl, inr, refl, sym, ap, arith, length}
use Rattle.std.proofs.lemmas.Bool.{or_parts, or_cases, eqb-true, and_parts}
use Rattle.stream_model.specs.Operators.{Operator, connections}
use Rattle.stream_model.specs.Meaning.{Graph}
use Rattle.stream_model.specs.Laws.{is_made, reads_stream, makes_stream}
use Rattle.pe_fusion.specs.Fusing.{Feeds, Fused, TakesAlone, in_all, makes_in}
use Rattle.pe_fusion.specs.Pieces.{Piece, fuses, longer, ops_in, place, takes_alone}
use Rattle.pe_fusion.specs.Readers.{readers}
use Rattle.pe_fusion.specs.Totals.{times, total}
use Rattle.network_model.specs.Networks.{last_of}
use Rattle.network_model.specs.Wiring.{Stands}
use Rattle.pe_fusion.proofs.Totals.{total-append, times-any, times-none}

-- ---- two that fuse

alone-is : (g : Graph) (outs streams : List ℕ) → takes_alone g outs streams ≡ true → (s : ℕ) × (outs ≡ s ∷ []) × (streams ≡ s ∷ []) × (length (readers g s) ≡ 1)
alone-is g [] streams h = absurd (cc)
alone-is g (s ∷ []) [] h = absurd (cc)
alone-is g (s ∷ []) (t ∷ []) h =
    let k = and_parts (s == t) (length (readers g s) == 1) h in
    (s, refl, ap (λ u. u ∷ []) (sym (eqb-true s t k.0)), eqb-true (length (readers g s)) 1 k.1)
alone-is g (s ∷ []) (t ∷ u ∷ streams) h = absurd (cc)
alone-is g (s ∷ r ∷ outs) streams h = absurd (cc)

pub fuses-is : (g : Graph) (producer op : Operator) → fuses g producer op ≡ true → TakesAlone g producer op
fuses-is g producer op h = let k = alone-is g producer.outs (connections op) h in record { stream = k.0; outs = k.1; ins = k.2; alone = k.3 }

-- ---- one operator more

pub fused-more : (g : Graph) (first : Operator) (behind : List Operator) (op : Operator) → Fused g first behind → TakesAlone g (last_of first behind) op → Stands g op → Fused g first (behind ++ op ∷ [])
fused-more g first [] op h f stands = (f.stream, f.outs, f.ins, f.alone, stands, tt)
fused-more g first (next ∷ behind) op h f stands = (h.0, h.1, h.2, h.3, h.4, fused-more g next behind op h.5 f stands)

pub all-place : (test : Piece → Operator → Bool) (f : Operator → ℕ) (pieces : List Piece) (op : Operator) → in_all f (place test pieces op) ≡ in_all f pieces + f op
all-place test f [] op = let z : f op + 0 + 0 ≡ 0 + f op = omega arith in z
all-place test f (p ∷ pieces) op = go (test p op) (all-place test f pieces op)
  where
    more : total f (p.behind ++ op ∷ []) ≡ total f p.behind + (f op + 0)
    more = total-append f p.behind (op ∷ [])

    go : (b : Bool) → in_all f (place test pieces op) ≡ in_all f pieces + f op → in_all f (cond b (longer p op ∷ pieces) (p ∷ place test pieces op)) ≡ in_all f (p ∷ pieces) + f op
    go true rest = let z : f p.first + total f (p.behind ++ op ∷ []) + in_all f pieces ≡ f p.first + total f p.behind + in_all f pieces + f op = omega (arith, more) in z
    go false rest = let z : f p.first + total f p.behind + in_all f (place test pieces op) ≡ f p.first + total f p.behind + in_all f pieces + f op = omega (arith, rest) in z

feeds-more : (seen more : ℕ → ℕ) (pieces : List Piece) → ((s : ℕ) → seen s ≤ more s) → Feeds seen pieces → Feeds more pieces
feeds-more seen more [] le h = tt
feeds-more seen more (p ∷ pieces) le h = (
  (λ s reads. let a = le s in let b = h.0 s reads in omega (arith, a, b)),
  feeds-more (λ s. seen s + makes_in s (ops_in p)) (λ s. more s + makes_in s (ops_in p)) pieces (λ s. let a = le s in omega (arith, a)) h.1,
)

pub feeds-place : (test : Piece → Operator → Bool) (seen : ℕ → ℕ) (pieces : List Piece) (op : Operator)
    → ((s : ℕ) → reads_stream op s ≡ true → 0 < seen s + in_all (λ (o : Operator). times (λ t. t == s) o.outs) pieces)
    → Feeds seen pieces → Feeds seen (place test pieces op)
feeds-place test seen [] op some h = ((λ s reads. let a : 0 < seen s + 0 = some s reads in omega (arith, a)), tt)
feeds-place test seen (p ∷ pieces) op some h =
    go (test p op) (feeds-place test (λ s. seen s + makes_in s (ops_in p)) pieces op
    (λ s reads. let a : 0 < seen s + (makes_in s (ops_in p) + in_all (λ (o : Operator). times (λ t. t == s) o.outs) pieces) = some s reads in omega (arith, a)) h.1)
  where
    more : (s : ℕ) → makes_in s (ops_in p) ≤ makes_in s (ops_in (longer p op))
    more s =
        let k = total-append (λ (o : Operator). times (λ t. t == s) o.outs) p.behind (op ∷ []) in
        let z : times (λ t. t == s) p.first.outs + makes_in s p.behind ≤ times (λ t. t == s) p.first.outs + makes_in s (p.behind ++ op ∷ []) = omega (arith, k) in z

    go : (b : Bool) → Feeds (λ s. seen s + makes_in s (ops_in p)) (place test pieces op) → Feeds seen (cond b (longer p op ∷ pieces) (p ∷ place test pieces op))
    go true rest = (h.0, feeds-more (λ s. seen s + makes_in s (ops_in p)) (λ s. seen s + makes_in s (ops_in (longer p op))) pieces (λ s. let a = more s in omega (arith, a)) h.1)
    go false rest = (h.0, rest)

-- ---- what is made

pub makes-none : (s : ℕ) (ops : List Operator) → is_made ops s ≡ false → makes_in s ops ≡ 0
makes-none s [] h = refl
makes-none s (op ∷ ops) h =
    let k = or_parts (makes_stream op s) (is_made ops s) h in
    let first = times-none (λ o. o == s) op.outs k.0 in
    let rest = makes-none s ops k.1 in
    let z : times (λ o. o == s) op.outs + makes_in s ops ≡ 0 = omega (arith, first, rest) in z

pub makes-some : (s : ℕ) (ops : List Operator) → is_made ops s ≡ true → 0 < makes_in s ops
makes-some s [] h = absurd (cc)
makes-some s (op ∷ ops) h = go (or_cases (makes_stream op s) (is_made ops s) h) (makes-some s ops)
  where
    go : (makes_stream op s ≡ true) ⊎ (is_made ops s ≡ true) → (is_made ops s ≡ true → 0 < makes_in s ops) → 0 < makes_in s (op ∷ ops)
    go (inl a) later = let k = times-any (λ o. o == s) op.outs a in let z : 0 < times (λ o. o == s) op.outs + makes_in s ops = omega (arith, k) in z
    go (inr a) later = let k = later a in let z : 0 < times (λ o. o == s) op.outs + makes_in s ops = omega (arith, k) in z
