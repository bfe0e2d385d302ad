-- Statements do nothing with a variable that they don't name.
use Rattle.std.specs.Prelude.{◌≡◌, ◌≢◌, ◌<◌, ℕ, zero, suc, List, [], ◌∷◌, ◌++◌, length, take, get_or, Some, slice_get, slice_set}
use Rattle.std.proofs.Common.{refl, sym, ap, ◌∙◌, subst, arith}
use Rattle.std.proofs.lemmas.List.{length-set, set-append_left}
use Rattle.std.proofs.lemmas.Option.{slice_get_within, slice_get-get_or}
use Rattle.spl_value.specs.declared.value.Value.{Value}
use Rattle.spl_value.specs.declared.value.Value.TheVariants as V
use Rattle.spl_tree.specs.declared.body.Statement.{Statement}
use Rattle.spl_tree.specs.declared.code.Slot.{Slot}
use Rattle.spl_tree.specs.declared.code.Slot.TheVariants as L
use Rattle.language_model.specs.declared.env.Env.{Env}
use Rattle.language_model.specs.Evaluation.{slot_value}
use Rattle.language_model.specs.Functions.{bodies_of}
use Rattle.language_model.specs.Outcomes.{Done}
use Rattle.evaluation_laws.specs.SlotsLaws.{NoneIs, with_value, left_with, VariablesLaw, UnchangedLaw}
use Rattle.language_model.specs.Statements.{State, Bodies, Left, with_vars, declared, submitted, body_leaves}
use Rattle.language_model.proofs.parts.Statements.{ended}
use Rattle.evaluation_laws.proofs.Extending.{Extends, extends_with_none, at_turns, made_of}
use Rattle.evaluation_laws.proofs.LikeStatements.{Likeness, left_alike}

-- ---- lists

module _ {A : Type 0} where
  get_elsewhere : (xs : List A) (i j : ℕ) (x : A) → j ≢ i → slice_get (slice_set xs j x) i ≡ slice_get xs i
  get_elsewhere [] i j x other = refl
  get_elsewhere (y ∷ xs) zero zero x other = absurd (other refl)
  get_elsewhere (y ∷ xs) zero (suc j) x other = refl
  get_elsewhere (y ∷ xs) (suc i) zero x other = refl
  get_elsewhere (y ∷ xs) (suc i) (suc j) x other = get_elsewhere xs i j x (λ e. other (ap suc e))

  sets_in_turn : (xs : List A) (i j : ℕ) (x y : A) → j ≢ i → slice_set (slice_set xs i x) j y ≡ slice_set (slice_set xs j y) i x
  sets_in_turn [] i j x y other = refl
  sets_in_turn (z ∷ xs) zero zero x y other = absurd (other refl)
  sets_in_turn (z ∷ xs) zero (suc j) x y other = refl
  sets_in_turn (z ∷ xs) (suc i) zero x y other = refl
  sets_in_turn (z ∷ xs) (suc i) (suc j) x y other = ap (λ ys. z ∷ ys) (sets_in_turn xs i j x y (λ e. other (ap suc e)))

  take_of_set : (n : ℕ) (xs : List A) (i : ℕ) (x : A) → take n (slice_set xs i x) ≡ slice_set (take n xs) i x
  take_of_set zero xs i x = refl
  take_of_set (suc n) [] i x = refl
  take_of_set (suc n) (y ∷ xs) zero x = refl
  take_of_set (suc n) (y ∷ xs) (suc i) x = ap (λ ys. y ∷ ys) (take_of_set n xs i x)

  get_in_take : (n : ℕ) (xs : List A) (i : ℕ) → i < n → slice_get (take n xs) i ≡ slice_get xs i
  get_in_take zero xs i lt = absurd (let none : ⊥ = omega arith in none)
  get_in_take (suc n) [] i lt = refl
  get_in_take (suc n) (x ∷ xs) zero lt = refl
  get_in_take (suc n) (x ∷ xs) (suc i) lt = get_in_take n xs i (omega arith)

  get_in_front : (xs ys : List A) (i : ℕ) (x : A) → slice_get xs i ≡ Some x → slice_get (xs ++ ys) i ≡ Some x
  get_in_front [] ys i x e = absurd cc
  get_in_front (y ∷ xs) ys zero x e = e
  get_in_front (y ∷ xs) ys (suc i) x e = get_in_front xs ys i x e

-- ---- states

module _ (bodies : Bodies) (i : ℕ) (old v : Value) where
  abbrev Other : Slot → Type 0
  Other slot = slot ≢ L.Variable i

  abbrev changed_in : State → State
  changed_in s = record { env = with_value i v s.env; submits = s.submits }

  -- the variable is as it was in the one, and has the new value in the other
  abbrev Alike : State → State → Type 0
  Alike s u = (slice_get s.env.vars i ≡ Some old) × (u ≡ changed_in s)

  other_place : (j : ℕ) → Other (L.Variable j) → j ≢ i
  other_place j other e = other (ap (λ k. L.Variable k) e)

  same_slot : (s : State) (slot : Slot) → Other slot → slot_value s.env slot ≡ slot_value (with_value i v s.env) slot
  same_slot s (L.Variable j) other = sym (get_elsewhere s.env.vars j i v (λ e. other_place j other (sym e)))
  same_slot s (L.Attribute port j) other = refl
  same_slot s (L.Port port) other = refl

  change_alike : (j : ℕ) → Other (L.Variable j) → (s u : State) → Alike s u → (x : Value)
      → Alike (with_vars s (slice_set s.env.vars j x)) (with_vars u (slice_set u.env.vars j x))
  change_alike j other s u a x = (
    get_elsewhere s.env.vars i j x (other_place j other) ∙ a.0,
    ap (λ (u : State). with_vars u (slice_set u.env.vars j x)) a.1 ∙ ap (with_vars s) (sets_in_turn s.env.vars i j v x (other_place j other)),
  )

  declare_alike : (s u : State) → Alike s u → (x : Value) → Alike (declared s x) (declared u x)
  declare_alike s u a x = (
    get_in_front s.env.vars (x ∷ []) i old a.0,
    ap (λ (u : State). declared u x) a.1 ∙ ap (with_vars s) (sym (set-append_left s.env.vars (x ∷ []) i v (slice_get_within s.env.vars i old a.0))),
  )

  end_alike : (s u : State) → Alike s u → (t w : State) → Alike t w → Alike (ended s t) (ended u w)
  end_alike s u a t w b = (
    get_in_take (length s.env.vars) t.env.vars i (slice_get_within s.env.vars i old a.0) ∙ b.0,
    ap (λ (u : State). ended u w) a.1 ∙ ap (λ (w : State). ended (changed_in s) w) b.1
        ∙ ap (λ n. with_vars t (take n (slice_set t.env.vars i v))) (length-set s.env.vars i v)
        ∙ ap (with_vars t) (take_of_set (length s.env.vars) t.env.vars i v),
  )

  likeness : Likeness 0 bodies bodies Other Alike
  likeness = record {
    calls = λ j values turns. extends_with_none (bodies j values) turns;
    slot = λ slot other s u a. same_slot s slot other ∙ sym (ap (λ (u : State). slot_value u.env slot) a.1);
    marker = λ s u a. sym (ap (λ (u : State). u.env.punct) a.1);
    change = change_alike;
    declare = declare_alike;
    end = end_alike;
    submit = λ s u a port item. (a.0, ap (λ (u : State). submitted u port item) a.1);
  }

  -- bodies leave the variable as it was in the one, and with the new value in the other
  abbrev LeftAlike : Left → Left → Type 0
  LeftAlike l m = (slice_get l.vars i ≡ Some old) × (m ≡ left_with i v l)

  bodies_leave : (row : List Statement) → NoneIs (L.Variable i) row → (env : Env) → slice_get env.vars i ≡ Some old → (turns : ℕ)
      → Extends 0 LeftAlike (body_leaves bodies row env turns) (body_leaves bodies row (with_value i v env) turns)
  bodies_leave row named env e turns =
      at_turns LeftAlike (body_leaves bodies row env turns) (body_leaves bodies row (with_value i v env)) turns
      (left_alike 0 bodies bodies Other Alike likeness LeftAlike
      (λ s u a x. (a.0, ap (λ (u : State). let left : Left = record { vars = u.env.vars; submits = u.submits; returned = x } in left) a.1))
      row named env (with_value i v env) (e, refl) turns)

pub variables_law : VariablesLaw
variables_law functions row env turns i v lt named =
    let bodies = bodies_of functions turns in
    let old = get_or env.vars i v in
    made_of (LeftAlike bodies i old v) (left_with i v) (λ l m h. h.1) _ _ (bodies_leave bodies i old v row named env (slice_get-get_or env.vars i v lt) turns)

pub unchanged_law : UnchangedLaw
unchanged_law functions row env turns i lt named left rest e = known (get_or env.vars i (V.Tuple [])) (slice_get-get_or env.vars i (V.Tuple []) lt) where
  -- where it is known what the variable holds
  known : (old : Value) → slice_get env.vars i ≡ Some old → slice_get left.vars i ≡ slice_get env.vars i
  known old is =
      let bodies = bodies_of functions turns in
      let h : Extends 0 (LeftAlike bodies i old old) (Done left rest) (body_leaves bodies row (with_value i old env) turns) =
      subst (λ o. Extends 0 (LeftAlike bodies i old old) o (body_leaves bodies row (with_value i old env) turns)) e (bodies_leave bodies i old old row named env is turns) in
      h.2.0 ∙ sym is
