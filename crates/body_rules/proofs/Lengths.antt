-- Scopes whose first variables are those of another.
use Rattle.std.specs.Prelude.{◌≡◌, ◌≤◌, ℕ, zero, suc, false, List, [], ◌∷◌, length, map, take}
use Rattle.std.proofs.Common.{refl, ap, sym, ◌∙◌, arith}
use Rattle.std.proofs.Math.Seq.{take-append_seam}
use Rattle.spl_value.specs.declared.types.Named.{Named}
use Rattle.spl_value.specs.declared.types.SplType.{SplType}
use Rattle.language_model.specs.declared.scope.Scope.{Scope}
use Rattle.language_model.specs.declared.scope.Variable.{Variable}
use Rattle.language_model.specs.BodyFits.{with_variable}
use Rattle.language_model.specs.BodyTyping.{variable}
use Rattle.body_rules.specs.steps.Leads.{shortened}
use Rattle.body_rules.specs.steps.Signatures.{with_parameters}

take_fewer : {A : Type 0} (n m : ℕ) (xs : List A) → n ≤ m → take n (take m xs) ≡ take n xs
take_fewer zero m xs h = refl
take_fewer (suc n) zero xs h = absurd (omega arith)
take_fewer (suc n) (suc m) [] h = refl
take_fewer (suc n) (suc m) (x ∷ xs) h = ap (λ ys. x ∷ ys) (take_fewer n m xs (omega arith))

take_within : {A : Type 0} (n : ℕ) (xs : List A) → length (take n xs) ≤ length xs
take_within zero xs = omega arith
take_within (suc n) [] = omega arith
take_within (suc n) (x ∷ xs) = let h = take_within n xs in omega arith

-- a scope that begins with all variables of another has no fewer
reaches : (scope next : Scope) → shortened (length scope.vars) next ≡ scope → length scope.vars ≤ length next.vars
reaches scope next is =
    let same : length (take (length scope.vars) next.vars) ≡ length scope.vars = ap (λ s. length s.vars) is in
    let within = take_within (length scope.vars) next.vars in omega arith

-- what begins with all variables of a scope that begins with those of a first one begins with those too
pub still : (first scope next : Scope) → shortened (length first.vars) scope ≡ first → shortened (length scope.vars) next ≡ scope
    → shortened (length first.vars) next ≡ first
still first scope next kept is =
    ap (λ vs. record next { vars = vs }) (sym (take_fewer (length first.vars) (length scope.vars) next.vars (reaches first scope kept)))
    ∙ ap (shortened (length first.vars)) is ∙ kept

-- all of a scope's variables, and one more
pub whole : (scope : Scope) → shortened (length scope.vars) scope ≡ scope
whole scope = ap (λ vs. record scope { vars = vs }) (all scope.vars)
  where
    all : (vs : List Variable) → take (length vs) vs ≡ vs
    all [] = refl
    all (v ∷ vs) = ap (λ xs. v ∷ xs) (all vs)

pub one_more : (scope : Scope) (v : Variable) → shortened (length scope.vars) (with_variable scope v) ≡ scope
one_more scope v = ap (λ vs. record scope { vars = vs }) (take-append_seam scope.vars (v ∷ []))

pub parameters_more : (first scope : Scope) (parameters : List (Named SplType)) → scope ≡ with_parameters first parameters → shortened (length first.vars) scope ≡ first
parameters_more first scope parameters is =
    ap (shortened (length first.vars)) is
    ∙ ap (λ vs. record first { vars = vs }) (take-append_seam first.vars (map (λ a. variable false a.name a.kind) parameters))
