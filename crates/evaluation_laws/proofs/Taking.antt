-- What one evaluation takes of its turns another like it takes, however many it has.
use Rattle.std.specs.Prelude.{◌≡◌, ◌+◌, ◌-◌, ◌<◌, ◌≤◌, ℕ, zero, suc, Bool, true, false, if◌then◌else◌, Option, None, Some}
use Rattle.std.proofs.Common.{refl, sym, ap, ◌∙◌, subst, arith}
use Rattle.spl_value.specs.Calls.{CallOutcome, Gives, Faults, Unfit}
use Rattle.language_model.specs.Outcomes.{Outcome, Done, Faulted, Stuck, followed, need, settled, enter}

-- `o` is the result of one evaluation with `turns` turns, and `f` gives the result of another one with each number of turns
-- below `most`. Where `o` is an answer, `f` gives the same with as many turns as `o` took, and leaves the others. Where `o`
-- is stuck, `f` is stuck with no fewer turns
abbrev pub Takes : {A : Type 0} → ℕ → ℕ → Outcome A → (ℕ → Outcome A) → Type 0
Takes most turns (Done x left) f = (taken : ℕ) × (turns ≡ taken + left) × ((others : ℕ) → taken + others < most → f (taken + others) ≡ Done x others)
Takes most turns (Faulted kind) f = Unit {0}
Takes most turns Stuck f = (more : ℕ) → more < most → turns ≤ more → f more ≡ Stuck

module _ (most : ℕ) where
  pub takes_none : {A : Type 0} (x : A) (turns : ℕ) → Takes most turns (Done x turns) (λ n. Done x n)
  takes_none {A} x turns = let same : (n : ℕ) → 0 + n ≡ n = λ n. omega arith in (0, sym (same turns), λ others lt. ap (λ n. Done x n) (same others))

  -- where what follows takes others
  takes_then : {A B : Type 0} (turns left taken : ℕ) (x : A) (f : ℕ → Outcome A) (h : A → ℕ → Outcome B) → turns ≡ taken + left
      → ((others : ℕ) → taken + others < most → f (taken + others) ≡ Done x others) → (o : Outcome B) → Takes most left o (h x)
      → Takes most turns o (λ n. followed (f n) h)
  takes_then turns left taken x f h e is (Done y rest) k =
      let sum : turns ≡ (taken + k.0) + rest = let inner = k.1 in omega arith in (
        taken + k.0,
        sum,
        λ others lt.
            let same : (taken + k.0) + others ≡ taken + (k.0 + others) = omega arith in
            let first : taken + (k.0 + others) < most = omega arith in
            let second : k.0 + others < most = omega arith in
            ap (λ n. followed (f n) h) same ∙ ap (λ o. followed o h) (is (k.0 + others) first) ∙ k.2 others second,
      )
  takes_then turns left taken x f h e is (Faulted kind) k = tt
  takes_then turns left taken x f h e is Stuck k = λ more lt le.
      let same : more ≡ taken + (more - taken) = omega arith in
      let first : taken + (more - taken) < most = omega arith in
      let second : more - taken < most = omega arith in
      let enough : left ≤ more - taken = omega arith in
      ap (λ n. followed (f n) h) same ∙ ap (λ o. followed o h) (is (more - taken) first) ∙ k (more - taken) second enough

  pub takes_followed : {A B : Type 0} (turns : ℕ) (o : Outcome A) (f : ℕ → Outcome A) (g h : A → ℕ → Outcome B) → Takes most turns o f
      → ((x : A) (turns : ℕ) → Takes most turns (g x turns) (h x)) → Takes most turns (followed o g) (λ n. followed (f n) h)
  takes_followed turns (Done x left) f g h t k = takes_then turns left t.0 x f h t.1 t.2 (g x left) (k x left)
  takes_followed turns (Faulted kind) f g h t k = tt
  takes_followed turns Stuck f g h t k = λ more lt le. ap (λ o. followed o h) (t more lt le)

  pub takes_need : {A B : Type 0} (turns : ℕ) (o : Option A) (g : A → Outcome B) (h : ℕ → A → Outcome B) → ((x : A) → Takes most turns (g x) (λ n. h n x))
      → Takes most turns (need o g) (λ n. need o (h n))
  takes_need turns None g h k = λ more lt le. refl
  takes_need turns (Some x) g h k = k x

  pub takes_settled : (called : CallOutcome) (turns : ℕ) → Takes most turns (settled called turns) (settled called)
  takes_settled (Gives v) turns = takes_none v turns
  takes_settled (Faults kind) turns = tt
  takes_settled Unfit turns = λ more lt le. refl

  pub takes_either : {A : Type 0} (turns : ℕ) (b : Bool) (o p : Outcome A) (f g : ℕ → Outcome A) → Takes most turns o f → Takes most turns p g
      → Takes most turns (if b then o else p) (λ n. if b then f n else g n)
  takes_either turns true o p f g s t = s
  takes_either turns false o p f g s t = t

  -- by equations
  pub takes_by : {A : Type 0} (turns : ℕ) (o p : Outcome A) (f g : ℕ → Outcome A) → o ≡ p → ((n : ℕ) → f n ≡ g n) → Takes most turns p g → Takes most turns o f
  takes_by {A} turns o p f g e same t = subst (λ o. Takes most turns o f) (sym e) (others p t) where
    others : (p : Outcome A) → Takes most turns p g → Takes most turns p f
    others (Done x left) t = (t.0, t.1, λ n lt. same (t.0 + n) ∙ t.2 n lt)
    others (Faulted kind) t = tt
    others Stuck t = λ more lt le. same more ∙ t more lt le

-- where there may be fewer
pub takes_within : {A : Type 0} (most less turns : ℕ) (o : Outcome A) (f : ℕ → Outcome A) → less ≤ most → Takes most turns o f → Takes less turns o f
takes_within most less turns (Done x left) f le t = (t.0, t.1, λ others lt. t.2 others (omega arith))
takes_within most less turns (Faulted kind) f le t = tt
takes_within most less turns Stuck f le t = λ more lt enough. t more (omega arith) enough

-- where there are none, it is the same for all
pub takes_any : {A : Type 0} (turns : ℕ) (o : Outcome A) (f g : ℕ → Outcome A) → Takes 0 turns o f → Takes 0 turns o g
takes_any turns (Done x left) f g t = (t.0, t.1, λ others lt. absurd (let none : ⊥ = omega arith in none))
takes_any turns (Faulted kind) f g t = tt
takes_any turns Stuck f g t = λ more lt le. absurd (let none : ⊥ = omega arith in none)

-- one turn is taken
one_more : {A : Type 0} (most turns : ℕ) (o : Outcome A) (f : ℕ → Outcome A) → Takes most turns o f → Takes (suc most) (suc turns) o (λ n. enter n f)
one_more most turns (Done x left) f t =
    let sum : suc turns ≡ suc t.0 + left = let inner = t.1 in omega arith in
    (suc t.0, sum, λ others lt. let same : suc t.0 + others ≡ suc (t.0 + others) = omega arith in ap (λ n. enter n f) same ∙ t.2 others (omega arith))
one_more most turns (Faulted kind) f t = tt
one_more most turns Stuck f t = enough where
  enough : (more : ℕ) → more < suc most → suc turns ≤ more → enter more f ≡ Stuck
  enough zero lt le = absurd (let none : ⊥ = omega arith in none)
  enough (suc more) lt le = t more (omega arith) (omega arith)

pub takes_enter : {A : Type 0} (most turns : ℕ) (g f : ℕ → Outcome A) → ((turns : ℕ) → Takes most turns (g turns) f)
    → Takes (suc most) turns (enter turns g) (λ n. enter n f)
takes_enter most zero g f k = tt
takes_enter most (suc turns) g f k = one_more most turns (g turns) f (k turns)

-- where what comes of them depends on a number too that is no less than the turns
pub takes_each : {A : Type 0} (most turns : ℕ) (o : Outcome A) (f : ℕ → ℕ → Outcome A)
    → ((number less : ℕ) → less ≤ most → less ≤ suc number → Takes less turns o (f number)) → Takes most turns o (λ n. f n n)
takes_each most turns (Done x left) f k =
    let none = k 0 0 (omega arith) (omega arith) in (
      none.0,
      none.1,
      λ others lt.
          let n = none.0 + others in
          let at = k n (suc n) (omega arith) (omega arith) in
          let first = none.1 in
          let second = at.1 in
          let same : n ≡ at.0 + others = omega arith in
          ap (f n) same ∙ at.2 others (omega arith),
    )
takes_each most turns (Faulted kind) f k = tt
takes_each most turns Stuck f k = λ more lt le. k more (suc more) (omega arith) (omega arith) more (omega arith) le
