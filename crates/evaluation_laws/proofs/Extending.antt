-- Where an evaluation gives an answer or a fault, one like it with more turns gives an answer like it or the same fault.
use Rattle.std.specs.Prelude.{◌≡◌, ◌+◌, ◌<◌, ◌⊎◌, ℕ, zero, suc, Bool, true, false, if◌then◌else◌, Option, None, Some}
use Rattle.std.proofs.Common.{refl, sym, ap, ◌∙◌, subst, inl, inr, arith}
use Rattle.spl_value.specs.declared.item.FaultKind.TheVariants as K
use Rattle.spl_value.specs.Calls.{CallOutcome, Gives, Faults, Unfit}
use Rattle.language_model.specs.Outcomes.{Outcome, Done, Faulted, Stuck, followed, need, settled, enter}

-- the answers are alike, and `more` more turns are left. Running out of turns says nothing where there are more
abbrev pub Extends : {A B : Type 0} → ℕ → (A → B → Type 0) → Outcome A → Outcome B → Type 0
Extends {A} {B} more P (Done x turns) p = (y : B) × (p ≡ Done y (turns + more)) × P x y
Extends {A} {B} more P (Faulted kind) p = (p ≡ Faulted kind) ⊎ ((kind ≡ K.Turns) × (0 < more))
Extends {A} {B} more P Stuck p = p ≡ Stuck

abbrev pub Same : {A : Type 0} → A → A → Type 0
Same x y = x ≡ y

module _ (more : ℕ) where
  pub followed_extends : {A B C D : Type 0} (P : A → B → Type 0) (Q : C → D → Type 0) (o : Outcome A) (p : Outcome B) (f : A → ℕ → Outcome C) (g : B → ℕ → Outcome D)
      → Extends more P o p → ((x : A) (y : B) (turns : ℕ) → P x y → Extends more Q (f x turns) (g y (turns + more))) → Extends more Q (followed o f) (followed p g)
  followed_extends {A} {B} P Q (Done x turns) p f g h k = subst (λ (p : Outcome B). Extends more Q (f x turns) (followed p g)) (sym h.1) (k x h.0 turns h.2)
  followed_extends P Q (Faulted kind) p f g (inl e) k = inl (ap (λ p. followed p g) e)
  followed_extends P Q (Faulted kind) p f g (inr h) k = inr h
  followed_extends P Q Stuck p f g h k = ap (λ p. followed p g) h

  pub done_extends : {A B : Type 0} (P : A → B → Type 0) (x : A) (y : B) (turns : ℕ) → P x y → Extends more P (Done x turns) (Done y (turns + more))
  done_extends P x y turns h = (y, refl, h)

  -- where what follows comes from the same answer
  pub same_followed : {A C D : Type 0} (Q : C → D → Type 0) (o p : Outcome A) (f : A → ℕ → Outcome C) (g : A → ℕ → Outcome D)
      → Extends more Same o p → ((x : A) (turns : ℕ) → Extends more Q (f x turns) (g x (turns + more))) → Extends more Q (followed o f) (followed p g)
  same_followed {A} Q o p f g h k =
      followed_extends Same Q o p f g h (λ x y turns e. subst (λ (y : A). Extends more Q (f x turns) (g y (turns + more))) e (k x turns))

  pub need_extends : {A C D : Type 0} (Q : C → D → Type 0) (o p : Option A) (f : A → Outcome C) (g : A → Outcome D) → o ≡ p → ((x : A) → Extends more Q (f x) (g x))
      → Extends more Q (need o f) (need p g)
  need_extends {A} Q o p f g e k = subst (λ (p : Option A). Extends more Q (need o f) (need p g)) e (by_cases o) where
    by_cases : (o : Option A) → Extends more Q (need o f) (need o g)
    by_cases None = refl
    by_cases (Some x) = k x

  pub settled_extends : (called : CallOutcome) (turns : ℕ) → Extends more Same (settled called turns) (settled called (turns + more))
  settled_extends (Gives v) turns = (v, refl, refl)
  settled_extends (Faults kind) turns = inl refl
  settled_extends Unfit turns = refl

  pub either_extends : {A B : Type 0} (P : A → B → Type 0) (b : Bool) (o p : Outcome A) (q r : Outcome B) → Extends more P o q → Extends more P p r
      → Extends more P (if b then o else p) (if b then q else r)
  either_extends P true o p q r h k = h
  either_extends P false o p q r h k = k

no_turn : {A B : Type 0} (P : A → B → Type 0) (more : ℕ) (g : ℕ → Outcome B) → Extends more P (Faulted K.Turns) (enter more g)
no_turn P zero g = inl refl
no_turn P (suc n) g = inr (refl, omega arith)

pub enter_extends : (more : ℕ) {A B : Type 0} (P : A → B → Type 0) (turns : ℕ) (f : ℕ → Outcome A) (g : ℕ → Outcome B)
    → ((turns : ℕ) → Extends more P (f turns) (g (turns + more))) → Extends more P (enter turns f) (enter (turns + more) g)
enter_extends more P zero f g k = let same : more ≡ zero + more = omega arith in subst (λ n. Extends more P (Faulted K.Turns) (enter n g)) same (no_turn P more g)
enter_extends more P (suc turns) f g k =
    let same : suc (turns + more) ≡ suc turns + more = omega arith in subst (λ n. Extends more P (f turns) (enter n g)) same (k turns)

-- ---- with no more turns

pub extends_itself : {A : Type 0} (o : Outcome A) → Extends 0 Same o o
extends_itself (Done x turns) = let same : turns ≡ turns + 0 = omega arith in (x, ap (λ n. Done x n) same, refl)
extends_itself (Faulted kind) = inl refl
extends_itself Stuck = refl

pub extends_with_none : {A : Type 0} (f : ℕ → Outcome A) (turns : ℕ) → Extends 0 Same (f turns) (f (turns + 0))
extends_with_none f turns = let same : turns ≡ turns + 0 = omega arith in subst (λ n. Extends 0 Same (f turns) (f n)) same (extends_itself (f turns))

pub at_turns : {A B : Type 0} (P : A → B → Type 0) (o : Outcome A) (f : ℕ → Outcome B) (turns : ℕ) → Extends 0 P o (f (turns + 0)) → Extends 0 P o (f turns)
at_turns P o f turns h = let same : turns + 0 ≡ turns = omega arith in subst (λ n. Extends 0 P o (f n)) same h

-- where the other answer is made of the one
pub made_of : {A B : Type 0} (P : A → B → Type 0) (make : A → B) → ((x : A) (y : B) → P x y → y ≡ make x) → (o : Outcome A) (p : Outcome B)
    → Extends 0 P o p → p ≡ followed o (λ x turns. Done (make x) turns)
made_of P make is (Done x turns) p h =
    let same : turns + 0 ≡ turns = omega arith in
    h.1 ∙ ap (λ n. Done h.0 n) same ∙ ap (λ y. Done y turns) (is x h.0 h.2)
made_of P make is (Faulted kind) p (inl e) = e
made_of P make is (Faulted kind) p (inr h) = absurd (let none : ⊥ = omega arith in none)
made_of P make is Stuck p h = h

pub same_answers : {A : Type 0} (o p : Outcome A) → Extends 0 Same o p → o ≡ p
same_answers o p h = sym (made_of Same (λ x. x) (λ x y e. sym e) o p h ∙ as_it_is o) where
  as_it_is : {A : Type 0} (o : Outcome A) → followed o (λ x turns. Done x turns) ≡ o
  as_it_is (Done x turns) = refl
  as_it_is (Faulted kind) = refl
  as_it_is Stuck = refl
