-- Each step on a link keeps its rule.
use Rattle.std.proofs.Common.{◌≡◌, ◌≢◌, ◌≤◌, ◌<◌, ℕ, zero, suc, true, false, true≢false, List, [], ◌∷◌, ◌++◌, length, set, sym, refl, ap, ◌∙◌, subst, ⊎_elim, append_assoc, arith, length-append}
use mathlib.Core.Option.{some, some-ne-none}
use lib.ListN.{get_elem?}
use Rattle.crossbeam_queue.specs.Fifo.{Pushes, Pops, Forks, Merges, Learns}
use Rattle.crossbeam_queue.proofs.Lists.{at_set, at_snoc}
use Rattle.spl_value.specs.declared.packet.Packet.{Packet}
use Rattle.ordered_link.specs.declared.rule.Log.{Log}
use Rattle.ordered_link.specs.Rule.{log, Fits, Keeps, IsSentUpTo, IsRest}

at_end : (l : List Log) (a b : Log) (j : ℕ) → get_elem? l j ≢ some b → get_elem? (l ++ a ∷ []) j ≡ some b → j ≡ length l
at_end [] a b zero n e = refl
at_end [] a b (suc j) n e = absurd (some-ne-none b (sym e))
at_end (x ∷ xs) a b zero n e = absurd (n e)
at_end (x ∷ xs) a b (suc j) n e = ap suc (at_end xs a b j n e)

abbrev All : (ℕ → Log → Type 0) → List Log → Type 0
All F views = (port : ℕ) (v : Log) → get_elem? views port ≡ some v → F port v

all_set : (F : ℕ → Log → Type 0) (views : List Log) (port : ℕ) (w : Log) → F port w → ((j : ℕ) (u : Log) → j ≢ port → get_elem? views j ≡ some u → F j u) → All F (set views port w)
all_set F views port w mine others j u e = ⊎_elim (λ (x : (j ≡ port) × (w ≡ u)). subst (λ (y : ℕ × Log). F y.0 y.1) (λ i. (sym x.0 i, x.1 i)) mine)
    (λ (x : (j ≢ port) × (get_elem? views j ≡ some u)). others j u x.0 x.1) (at_set views port j w u e)

pub begins : Keeps [] (log true true 0 0 [] [] ∷ [])
begins = (0, 0, 0, 0, [], [], refl, omega arith, omega arith, all_set (Fits 0 0 0 0 [] []) (log true true 0 0 [] [] ∷ []) 0 (log true true 0 0 [] []) ((λ _. (refl, refl, refl, refl)), λ _. (refl, refl, refl, refl)) (λ j u other e. absurd (other (at_end [] _ u j (λ x. some-ne-none u (sym x)) e))))

pub sends : (n port : ℕ) (v : Log) (x : Packet) → v.sends ≡ true → n ≤ v.capacity → length v.sent < v.wear → Pushes Keeps n port v x (λ w. w ≡ log v.sends v.takes v.capacity v.wear (v.sent ++ x ∷ []) v.taken)
sends n port v x may room fresh items views short h at = let w : Log = log v.sends v.takes v.capacity v.wear (v.sent ++ x ∷ []) v.taken in let mine = h.9 port v at in let sent : List Packet = h.4 ++ x ∷ [] in
    let cap : v.capacity ≡ h.2 = (mine.0 may).2 in let wear : v.wear ≡ h.3 = (mine.0 may).3 in let same : length v.sent ≡ length h.4 = ap length (mine.0 may).1 in (
      w,
      (
        h.0,
        h.1,
        h.2,
        h.3,
        sent,
        h.5,
        ap (λ l. l ++ x ∷ []) h.6 ∙ append_assoc h.5 items (x ∷ []),
        omega (arith, length-append items (x ∷ [])),
        omega (arith, length-append h.4 (x ∷ [])),
        all_set (Fits h.0 h.1 h.2 h.3 sent h.5) views port w ((λ _. ((mine.0 may).0, ap (λ l. l ++ x ∷ []) (mine.0 may).1, cap, wear)), mine.1)
            (λ j u other e. ((λ p. absurd (other (((h.9 j u e).0 p).0 ∙ sym (mine.0 may).0))), (h.9 j u e).1)),
      ),
      refl,
    )

pub takes : (port : ℕ) (v : Log) → v.takes ≡ true → Pops Keeps port v (λ x w. (w ≡ log v.sends v.takes v.capacity v.wear v.sent (v.taken ++ x ∷ [])) × (length (v.taken ++ x ∷ []) ≤ v.wear))
takes port v may x items views h at = let w : Log = log v.sends v.takes v.capacity v.wear v.sent (v.taken ++ x ∷ []) in let mine = h.9 port v at in let taken : List Packet = h.5 ++ x ∷ [] in
    let same : length v.taken ≡ length h.5 = ap length (mine.1 may).1 in let wear : v.wear ≡ h.3 = (mine.1 may).3 in let all : length h.4 ≡ length (h.5 ++ x ∷ items) = ap length h.6 in (
      w,
      (
        h.0,
        h.1,
        h.2,
        h.3,
        h.4,
        taken,
        h.6 ∙ sym (append_assoc h.5 (x ∷ []) items),
        omega (arith, h.7),
        h.8,
        all_set (Fits h.0 h.1 h.2 h.3 h.4 taken) views port w (mine.0, λ _. ((mine.1 may).0, ap (λ l. l ++ x ∷ []) (mine.1 may).1, (mine.1 may).2, wear))
            (λ j u other e. ((h.9 j u e).0, λ p. absurd (other (((h.9 j u e).1 p).0 ∙ sym (mine.1 may).0)))),
      ),
      (refl, omega (arith, h.8, length-append v.taken (x ∷ []), length-append h.5 (x ∷ items))),
    )

pub forks : (port : ℕ) (v : Log) (capacity wear : ℕ) → v ≡ log true true 0 0 [] [] → Forks Keeps port v (log true false capacity wear [] []) (log false true capacity wear [] [])
forks port v capacity wear is items views h at = let l : Log = log true false capacity wear [] [] in let r : Log = log false true capacity wear [] [] in let mine = h.9 port v at in let vs : List Log = set views port l in
    let a : v.sends ≡ true = ap (λ (y : Log). y.sends) is in let b : v.takes ≡ true = ap (λ (y : Log). y.takes) is in
    let none_sent : [] ≡ h.4 = ap (λ (y : Log). y.sent) (sym is) ∙ (mine.0 a).1 in let none_taken : [] ≡ h.5 = ap (λ (y : Log). y.taken) (sym is) ∙ (mine.1 b).1 in
    let nothing : length h.4 ≡ length (h.5 ++ items) = ap length h.6 in let zero_sent : 0 ≡ length h.4 = ap length none_sent in
    let Old : ℕ → Log → Type 0 = λ j u. (u.sends ≡ true → (j ≡ h.0) × (u.sent ≡ h.4) × (u.capacity ≡ capacity) × (u.wear ≡ wear)) × (u.takes ≢ true) in
    let old : All Old vs = all_set Old views port l ((λ _. ((mine.0 a).0, none_sent, refl, refl)), λ p. true≢false (sym p))
    (λ j u other e. ((λ p. absurd (other (((h.9 j u e).0 p).0 ∙ sym (mine.0 a).0))), λ p. other (((h.9 j u e).1 p).0 ∙ sym (mine.1 b).0))) in (
      h.0,
      length vs,
      capacity,
      wear,
      h.4,
      h.5,
      h.6,
      omega (arith, length-append h.5 items),
      omega arith,
      λ j u e. ⊎_elim (λ x. ((old j u x).0, λ p. absurd ((old j u x).1 p)))
          (λ (is : r ≡ u). ((λ p. absurd (true≢false (sym (ap (λ (y : Log). y.sends) is ∙ p)))), λ p. (at_end vs r u j (λ x. (old j u x).1 p) e, ap (λ (y : Log). y.taken) (sym is) ∙ none_taken, ap (λ (y : Log). y.capacity) (sym is), ap (λ (y : Log). y.wear) (sym is)))) (at_snoc vs r u j e),
    )

pub merges : (port : ℕ) (v : Log) (other : ℕ) (u : Log) → v.sends ≡ true → u.takes ≡ true → Merges Keeps port v other u (log true true v.capacity v.wear v.sent u.taken) (log false false 0 0 [] [])
merges port v other u a b items views h at two at' = let both : Log = log true true v.capacity v.wear v.sent u.taken in let mine = h.9 port v at in let vs : List Log = set views port both in
    let was : get_elem? views other ≡ some u = ⊎_elim (λ x. absurd (two x.0)) (λ x. x.1) (at_set views port other both u at') in let theirs = (h.9 other u was).1 b in
    let Now : ℕ → Log → Type 0 = λ j y. j ≢ other → Fits h.0 port h.2 h.3 h.4 h.5 j y in
    let now : All Now vs = all_set Now views port both (λ _. ((λ _. mine.0 a), λ _. (refl, theirs.1, (mine.0 a).2, (mine.0 a).3))) (λ j y _ e apart. ((h.9 j y e).0, λ p. absurd (apart (((h.9 j y e).1 p).0 ∙ sym theirs.0)))) in
    (h.0, port, h.2, h.3, h.4, h.5, h.6, h.7, h.8, all_set (Fits h.0 port h.2 h.3 h.4 h.5) vs other (log false false 0 0 [] []) ((λ p. absurd (true≢false (sym p))), λ p. absurd (true≢false (sym p))) (λ j y apart e. now j y e apart))

pub totals : (port : ℕ) (v : Log) → v.sends ≡ true → v.takes ≡ true → Learns Keeps port v (λ items. IsRest v items)
totals port v a b items views h at = let mine = h.9 port v at in
    let cap : v.capacity ≡ h.2 = (mine.0 a).2 in ((mine.0 a).1 ∙ h.6 ∙ ap (λ l. l ++ items) (sym (mine.1 b).1), omega (arith, h.7))

pub learns_sent : (port : ℕ) (v : Log) → v.sends ≡ true → Learns Keeps port v (λ items. IsSentUpTo v.sent items)
learns_sent port v a items views h at = (h.5, ((h.9 port v at).0 a).1 ∙ h.6)
