-- A row that ends with a `return` never goes on after its last statement.
use Rattle.std.specs.Prelude.{ℕ, Bool, true, false, if◌then◌else◌, List, [], ◌∷◌, Option, None, Some, zero, suc}
use Rattle.std.proofs.Common.{sym, subst, ◌≡◌, refl}
use Rattle.spl_tree.specs.declared.body.Statement.{Statement}
use Rattle.spl_tree.specs.declared.body.Statement.TheVariants as T
use Rattle.spl_tree.specs.declared.code.Code.{Code}
use Rattle.spl_tree.specs.declared.code.Slot.{Slot}
use Rattle.language_model.specs.declared.flow.Flow.{Flow}
use Rattle.language_model.specs.declared.flow.Flow.TheVariants as F
use Rattle.language_model.specs.BodyFits as B
use Rattle.language_model.specs.BodyFits.{RowReturns, Returns, ArmsReturn}
use Rattle.language_model.specs.Outcomes.{Outcome, Done, Faulted, Stuck, followed, enter, need}
use Rattle.language_model.specs.StatementLaws.{arms_act, block_is, if_is, return_is}
use Rattle.language_model.specs.Statements.{State, Acts, Bodies, value_in, truth_in, scoped, then_rest}
use Rattle.language_model.specs.parts.Statements.{return_acts, statement_acts, row_acts}

-- an answer, if there is one, has the fact
abbrev pub Only : {A : Type 0} → (A → Type 0) → Outcome A → Type 0
Only P (Done x turns) = P x
Only P (Faulted kind) = Unit {0}
Only P Stuck = Unit {0}

pub only_followed : {A B : Type 0} (P : A → Type 0) (Q : B → Type 0) (o : Outcome A) (f : A → ℕ → Outcome B) → Only P o
    → ((x : A) (turns : ℕ) → P x → Only Q (f x turns)) → Only Q (followed o f)
only_followed P Q (Done x turns) f h k = k x turns h
only_followed P Q (Faulted kind) f h k = tt
only_followed P Q Stuck f h k = tt

any : {A : Type 0} (o : Outcome A) → Only (λ (x : A). Unit {0}) o
any (Done x turns) = tt
any (Faulted kind) = tt
any Stuck = tt

pub only_either : {A : Type 0} (Q : A → Type 0) (b : Bool) (o p : Outcome A) → Only Q o → Only Q p → Only Q (if b then o else p)
only_either Q true o p h k = h
only_either Q false o p h k = k

-- the next statement doesn't follow
abbrev pub IsAway : Flow → Type 0
IsAway F.Next = ⊥
IsAway F.Broken = Unit {0}
IsAway F.Continued = Unit {0}
IsAway (F.Returned v) = Unit {0}

abbrev pub Away : Flow × State → Type 0
Away w = IsAway w.0

module _ (bodies : Bodies) where
  -- wherever it begins
  abbrev pub Leaves : Acts → Type 0
  Leaves acts = (s : State) (turns : ℕ) → Only Away (acts s turns)

  leaves_by : (acts other : Acts) → ((s : State) (turns : ℕ) → acts s turns ≡ other s turns) → Leaves other → Leaves acts
  leaves_by acts other e h s turns = subst (Only Away) (sym (e s turns)) (h s turns)

  pub scoped_leaves : (acts : Acts) → Leaves acts → Leaves (scoped acts)
  scoped_leaves acts h s turns = only_followed Away Away (acts s turns) _ (h s turns) (λ w turns away. away)

  return_leaves : (x : Option (Code Slot)) → Leaves (return_acts bodies x)
  return_leaves None s turns = tt
  return_leaves (Some x) s turns = only_followed (λ v. Unit {0}) Away (value_in bodies x s turns) _ (any (value_in bodies x s turns)) (λ v turns h. tt)

  rest_leaves : (w : Flow × State) (turns : ℕ) (rest : Acts) → Leaves rest → Only Away (then_rest w turns rest)
  rest_leaves (F.Next, s) turns rest h = h s turns
  rest_leaves (F.Broken, s) turns rest h = tt
  rest_leaves (F.Continued, s) turns rest h = tt
  rest_leaves (F.Returned v, s) turns rest h = tt

  last_leaves : (w : Flow × State) (turns : ℕ) → Away w → Only Away (then_rest w turns (row_acts bodies []))
  last_leaves (F.Next, s) turns h = absurd h
  last_leaves (F.Broken, s) turns h = tt
  last_leaves (F.Continued, s) turns h = tt
  last_leaves (F.Returned v, s) turns h = tt

  arm_leaves : (x : Code Slot) (row : List Statement) (arms : List (Code Slot × List Statement)) (other : List Statement) → Leaves (row_acts bodies row)
      → Leaves (arms_act bodies arms other) → Leaves (arms_act bodies ((x, row) ∷ arms) other)
  arm_leaves x row arms other h k s turns =
      only_followed (λ b. Unit {0}) Away (truth_in bodies x s turns) _ (any (truth_in bodies x s turns)) (λ b turns e.
      only_either Away b (scoped (row_acts bodies row) s turns) (arms_act bodies arms other s turns) (scoped_leaves (row_acts bodies row) h s turns) (k s turns))

  mutual
    pub row_leaves : (row : List Statement) → RowReturns row → Leaves (row_acts bodies row)
    row_leaves _ (B.last x h) = λ s turns. only_followed Away Away (statement_acts bodies x s turns) _ (statement_leaves x h s turns) last_leaves
    row_leaves _ (B.later x y row h) = λ s turns.
        only_followed (λ w. Unit {0}) Away (statement_acts bodies x s turns) _ (any (statement_acts bodies x s turns)) (λ w turns e.
        rest_leaves w turns (row_acts bodies (y ∷ row)) (row_leaves (y ∷ row) h))

    statement_leaves : (x : Statement) → Returns x → Leaves (statement_acts bodies x)
    statement_leaves _ (B.return x) = leaves_by (statement_acts bodies (T.Return x)) _ (return_is bodies x) (return_leaves x)
    statement_leaves _ (B.block row h) = leaves_by (statement_acts bodies (T.Block row)) _ (block_is bodies row) (scoped_leaves (row_acts bodies row) (row_leaves row h))
    statement_leaves _ (B.if_else arms other h k) =
        leaves_by (statement_acts bodies (T.If arms other)) _ (if_is bodies arms other) (arms_leave arms other h (row_leaves other k))

    arms_leave : (arms : List (Code Slot × List Statement)) (other : List Statement) → ArmsReturn arms → Leaves (row_acts bodies other) → Leaves (arms_act bodies arms other)
    arms_leave _ other B.no_arms k = scoped_leaves (row_acts bodies other) k
    arms_leave _ other (B.arm x row arms h i) k = arm_leaves x row arms other (row_leaves row h) (arms_leave arms other i k)

pub only_enter : {A : Type 0} (Q : A → Type 0) (turns : ℕ) (f : ℕ → Outcome A) → ((turns : ℕ) → Only Q (f turns)) → Only Q (enter turns f)
only_enter Q zero f k = tt
only_enter Q (suc turns) f k = k turns

pub only_is : {A B : Type 0} (Q : B → Type 0) (o : Outcome A) (f : A → ℕ → Outcome B) → ((x : A) (turns : ℕ) → o ≡ Done x turns → Only Q (f x turns)) → Only Q (followed o f)
only_is Q (Done x turns) f k = k x turns refl
only_is Q (Faulted kind) f k = tt
only_is Q Stuck f k = tt

pub need_is : {A B : Type 0} (Q : B → Type 0) (o : Option A) (f : A → Outcome B) → ((x : A) → o ≡ Some x → Only Q (f x)) → Only Q (need o f)
need_is Q None f k = tt
need_is Q (Some x) f k = k x refl

pub only_weaker : {A : Type 0} (P Q : A → Type 0) (o : Outcome A) → ((x : A) → P x → Q x) → Only P o → Only Q o
only_weaker P Q (Done x turns) k h = k x h
only_weaker P Q (Faulted kind) k h = tt
only_weaker P Q Stuck k h = tt

-- what led to an answer
pub done_followed : {A B : Type 0} (o : Outcome A) (f : A → ℕ → Outcome B) (y : B) (left : ℕ) → followed o f ≡ Done y left
    → (x : A) × (turns : ℕ) × (o ≡ Done x turns) × (f x turns ≡ Done y left)
done_followed (Done x turns) f y left e = (x, turns, refl, e)
done_followed (Faulted kind) f y left e = absurd cc
done_followed Stuck f y left e = absurd cc
