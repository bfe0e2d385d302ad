-- Nodes dealt into groups.
use Rattle.std.proofs.Common.{◌≡◌, ℕ, suc, refl, List, [], ◌∷◌, length, get_or, ap, arith, Vec}
use Rattle.std.proofs.lemmas.List.Sums.{sum_by-cons}
use Rattle.std.specs.declared.alloc.Global.{Global}
use Rattle.group_drive.specs.Groups.{AreEmpty, weigh, weigh_all}
use Rattle.group_drive.proofs.Each.{Each}

-- empty groups weigh nothing, and anything holds of their nodes
pub weigh_empty : {N : Type 0} (number : N → ℕ) (h : ℕ → ℕ) (gs : List (Vec N Global)) → AreEmpty gs
    → weigh_all number h gs ≡ 0
weigh_empty number h [] none = refl
weigh_empty {N} number h (g ∷ gs) none =
    let c = sum_by-cons (λ (q : Vec N Global). weigh number h q.items) g gs in
    let first : weigh number h g.items ≡ 0 = ap (weigh number h) (none 0 g (omega arith)) in
    let more = weigh_empty number h gs (λ i d low. none (suc i) d (omega arith)) in omega arith

pub each_empty : {N : Type 0} (P : N → Type 0) (gs : List (Vec N Global)) → AreEmpty gs
    → Each (λ (g : Vec N Global). Each P g.items) gs
each_empty {N} P gs none i d low k e lower =
    absurd (let n : length (get_or gs i d).items ≡ 0 = ap length (none i d low) in omega arith)
