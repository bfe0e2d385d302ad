-- A pass over codes that counts their parts: what is known where only the rest of them is still to come.
use Rattle.std.proofs.Common.{◌≡◌, ℕ, ◌+◌, ◌-◌, ◌<◌, ◌≤◌, Bool, List, arith}
use Rattle.std.specs.Bool.{OnFalse, OnTrue}
use Rattle.std.proofs.lemmas.Bool.{OnFalse_at, OnFalse_from, OnTrue_at, OnTrue_from}
use Rattle.std.specs.Prelude.{◌↔◌}
use Rattle.spl_tree.specs.declared.code.Code.{Code}
use Rattle.spl_tree.specs.declared.code.Slot.{Slot}
use Rattle.dollar_rules.specs.steps.Weights.{depth_in, parts_in}

-- the codes before the rest are no deeper than `levels`, and their parts were taken from those that were left before
pub record Passed (levels before after : ℕ) (all rest : List (Code Slot)) : Type 0 where
  pub deep : (depth_in all ≤ levels) ↔ (depth_in rest ≤ levels)
  pub counted : parts_in all + after ≡ before + parts_in rest

-- one code around others: where these are no deeper than one level fewer, and as many as are left of one fewer
pub shallow_one : (d dd levels inner : ℕ) (r : Bool) → d ≡ 1 + dd → (1 ≤ levels) × (inner ≡ levels - 1) → OnTrue r (dd ≤ inner) → OnTrue r (d ≤ levels)
shallow_one d dd levels inner r e h f = OnTrue_from r _ (λ is. let one : 1 ≤ levels = h.0 in let less : inner ≡ levels - 1 = h.1 in let g : dd ≤ inner = OnTrue_at is f in omega arith)

pub counted_one : (p pp old fewer new : ℕ) (r : Bool) → p ≡ 1 + pp → (1 ≤ old) × (fewer ≡ old - 1) → OnTrue r (fewer ≡ new + pp) → OnTrue r (old ≡ new + p)
counted_one p pp old fewer new r e h f = OnTrue_from r _ (λ is. let one : 1 ≤ old = h.0 in let less : fewer ≡ old - 1 = h.1 in let g : fewer ≡ new + pp = OnTrue_at is f in omega arith)

pub large_one : (d dd levels inner p pp old fewer : ℕ) (r : Bool) → d ≡ 1 + dd → p ≡ 1 + pp → (1 ≤ levels) × (inner ≡ levels - 1) → (1 ≤ old) × (fewer ≡ old - 1)
    → OnFalse r (dd ≤ inner → fewer < pp) → OnFalse r (d ≤ levels → old < p)
large_one d dd levels inner p pp old fewer r e m h k f =
    OnFalse_from r _ (λ is within.
    let one : 1 ≤ levels = h.0 in let less : inner ≡ levels - 1 = h.1 in let some : 1 ≤ old = k.0 in let left : fewer ≡ old - 1 = k.1 in
    let below : dd ≤ inner = omega arith in
    let g : fewer < pp = OnFalse_at is f below in omega arith)
