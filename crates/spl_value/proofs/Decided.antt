-- What is decided of two facts.
use Rattle.std.specs.Prelude.{◌⊎◌}
use Rattle.std.proofs.Common.{inl, inr}

pub both_decided : {P Q : Type 0} → Dec P → Dec Q → Dec (P × Q)
both_decided (yes p) (yes q) = yes (p, q)
both_decided (yes p) (no none) = no (λ h. none h.1)
both_decided (no none) q = no (λ h. none h.0)

pub either_decided : {P Q : Type 0} → Dec P → Dec Q → Dec (P ⊎ Q)
either_decided (yes p) q = yes (inl p)
either_decided (no none) (yes q) = yes (inr q)
either_decided {P} {Q} (no none) (no never) = no neither
  where
    neither : P ⊎ Q → ⊥
    neither (inl p) = none p
    neither (inr q) = never q
