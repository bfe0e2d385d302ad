-- Environments of pairs.
use Rattle.std.proofs.Common.{◌≡◌, ◌<◌, List, [], ◌∷◌, length, slice_get, Some, refl, sym, ap, subst, ◌∙◌, arith, length-set}
use Rattle.std.specs.Prelude.{slice_set}
use Rattle.spl_value.specs.declared.value.Value.{Value}
use Rattle.language_model.specs.declared.env.Env.{Env}
use Rattle.join_op.specs.declared.side.Side.{Side}
use Rattle.join_op.specs.declared.side.Side.TheVariants.{Left, Right}
use Rattle.join_op.specs.Pairs.{IsReady, own_place, pair_env, with_other, with_own}

left_then_right : (xs : List (List Value)) (t u : List Value) → length xs ≡ 2 → slice_set (slice_set xs 0 t) 1 u ≡ t ∷ u ∷ []
left_then_right [] t u e = absurd (omega (arith, e))
left_then_right (x ∷ []) t u e = absurd (omega (arith, e))
left_then_right (x ∷ y ∷ []) t u e = refl
left_then_right (x ∷ y ∷ z ∷ xs) t u e = absurd (omega (arith, e))

right_then_left : (xs : List (List Value)) (t u : List Value) → length xs ≡ 2 → slice_set (slice_set xs 1 t) 0 u ≡ u ∷ t ∷ []
right_then_left [] t u e = absurd (omega (arith, e))
right_then_left (x ∷ []) t u e = absurd (omega (arith, e))
right_then_left (x ∷ y ∷ []) t u e = refl
right_then_left (x ∷ y ∷ z ∷ xs) t u e = absurd (omega (arith, e))

-- with both its tuples it is that of the pair
with_both : (side : Side) (env : Env) (t u : List Value) → IsReady env → with_other side (with_own side env t) u ≡ pair_env side t u
with_both Left env t u ready = λ i. record { inputs = left_then_right env.inputs t u ready.two i; vars = ready.no_vars i; punct = ready.no_marker i }
with_both Right env t u ready = λ i. record { inputs = right_then_left env.inputs t u ready.two i; vars = ready.no_vars i; punct = ready.no_marker i }

pub pair_there : (side : Side) (env now : Env) (t u : List Value) → IsReady env → now ≡ with_own side env t → with_other side now u ≡ pair_env side t u
pair_there side env now t u ready is = (λ i. with_other side (is i) u) ∙ with_both side env t u ready

-- ---- after the pairs

first_stays : (xs : List (List Value)) (u : List Value) → slice_get (slice_set xs 1 u) 0 ≡ slice_get xs 0
first_stays [] u = refl
first_stays (x ∷ xs) u = refl

second_stays : (xs : List (List Value)) (u : List Value) → slice_get (slice_set xs 0 u) 1 ≡ slice_get xs 1
second_stays [] u = refl
second_stays (x ∷ xs) u = refl

-- the tuple of the side is still there
pub own_there : (side : Side) (env : Env) (t : List Value) → with_other side env [] ≡ pair_env side t [] → slice_get env.inputs (own_place side) ≡ Some t
own_there Left env t is = sym (first_stays env.inputs []) ∙ ap (λ (e : Env). slice_get e.inputs 0) is
own_there Right env t is = sym (second_stays env.inputs []) ∙ ap (λ (e : Env). slice_get e.inputs 1) is

pub still_ready : (side : Side) (env : Env) (t : List Value) → with_other side env [] ≡ pair_env side t [] → IsReady env
still_ready Left env t is = record { two = sym (length-set env.inputs 1 []) ∙ ap (λ (e : Env). length e.inputs) is; no_vars = ap (λ (e : Env). e.vars) is; no_marker = ap (λ (e : Env). e.punct) is }
still_ready Right env t is = record { two = sym (length-set env.inputs 0 []) ∙ ap (λ (e : Env). length e.inputs) is; no_vars = ap (λ (e : Env). e.vars) is; no_marker = ap (λ (e : Env). e.punct) is }

pub own_within : (side : Side) (env : Env) → IsReady env → own_place side < length env.inputs
own_within Left env ready = omega (arith, ready.two)
own_within Right env ready = omega (arith, ready.two)

pub ready_again : (side : Side) (env now : Env) (t : List Value) → IsReady env → now ≡ with_own side env t → IsReady now
ready_again side env now t ready is =
    subst IsReady (sym is) (record { two = length-set env.inputs (own_place side) t ∙ ready.two; no_vars = ready.no_vars; no_marker = ready.no_marker })
