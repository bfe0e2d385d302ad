-- More turns change nothing but the turns that are left, where there were enough.
use Rattle.std.specs.Prelude.{◌≡◌, ◌≢◌, ◌+◌, ◌<◌, ◌⊎◌, ℕ, zero, suc, List, slice_get, slice_set}
use Rattle.std.proofs.Common.{refl, sym, ap, ◌∙◌, subst, inl, inr, arith}
use Rattle.spl_value.specs.declared.item.FaultKind.{FaultKind}
use Rattle.spl_value.specs.declared.item.FaultKind.TheVariants as K
use Rattle.spl_value.specs.declared.value.Value.{Value}
use Rattle.spl_tree.specs.declared.body.Function.{Function}
use Rattle.spl_tree.specs.declared.body.Statement.{Statement}
use Rattle.spl_tree.specs.declared.code.Code.{Code}
use Rattle.language_model.specs.declared.env.Env.{Env}
use Rattle.language_model.specs.Evaluation.{World, code_value, slot_value}
use Rattle.language_model.specs.Functions.{function_env, bodies_of, value, runs}
use Rattle.language_model.specs.Outcomes.{Outcome, Done, Faulted}
use Rattle.language_model.specs.Slots.{names_of, row_slots}
use Rattle.language_model.specs.Statements.{State, Bodies, Left, calls_by, with_vars, declared, submitted, body_leaves}
use Rattle.language_model.proofs.parts.Statements.{ended}
use Rattle.language_model.specs.TurnsLaws.{ValueTurnsLaw, ValueFaultsLaw, RunsTurnsLaw, RunsFaultsLaw}
use Rattle.evaluation_laws.proofs.Extending.{Extends, Same, same_followed, need_extends}
use Rattle.evaluation_laws.proofs.LikeCodes.{codes_follow}
use Rattle.evaluation_laws.proofs.LikeStatements.{Likeness, calls_extend, left_alike}
use Rattle.evaluation_laws.proofs.NamedSlots.{All, all_of_any}

abbrev AnyName : {N : Type 0} → N → Type 0
AnyName n = Unit {0}

all_names : {N : Type 0} (names : List N) → All AnyName names
all_names names = all_of_any AnyName (λ n. tt) names

module _ (more : ℕ) (bodies others : Bodies) (h : (i : ℕ) (values : List Value) (turns : ℕ) → Extends more Same (bodies i values turns) (others i values (turns + more))) where
  code_extends : {N : Type 0} (code : Code N) (w : World N) (turns : ℕ) → Extends more Same (code_value (calls_by bodies) code w turns) (code_value (calls_by others) code w (turns + more))
  code_extends code w turns = codes_follow more (calls_by bodies) (calls_by others) (calls_extend more bodies others h) AnyName w w (λ n named. refl) refl code (all_names (names_of code)) turns

  same_states : Likeness more bodies others AnyName Same
  same_states = record {
    calls = h;
    slot = λ slot named s u e. ap (λ (u : State). slot_value u.env slot) e;
    marker = λ s u e. ap (λ (u : State). u.env.punct) e;
    change = λ i named s u e v. ap (λ (u : State). with_vars u (slice_set u.env.vars i v)) e;
    declare = λ s u e v. ap (λ (u : State). declared u v) e;
    end = λ s u e t w f. ap (λ (u : State). ended u t) e ∙ ap (λ (w : State). ended u w) f;
    submit = λ s u e port item. ap (λ (u : State). submitted u port item) e;
  }

  body_extends : (row : List Statement) (env : Env) (turns : ℕ) → Extends more Same (body_leaves bodies row env turns) (body_leaves others row env (turns + more))
  body_extends row env turns =
      left_alike more bodies others AnyName Same same_states Same
      (λ s u e v. ap (λ (u : State). let left : Left = record { vars = u.env.vars; submits = u.submits; returned = v } in left) e)
      row (all_names (row_slots row)) env env refl turns

-- ---- functions

no_depth : (more : ℕ) (functions : List Function) (k : ℕ) → k ≡ more → (i : ℕ) (values : List Value) (turns : ℕ)
    → Extends more Same (bodies_of functions zero i values turns) (bodies_of functions k i values (turns + more))
no_depth more functions zero e i values turns = inl refl
no_depth more functions (suc k) e i values turns = inr (refl, subst (λ n. 0 < n) e (omega arith))

bodies_extend : (more : ℕ) (functions : List Function) (depth i : ℕ) (values : List Value) (turns : ℕ)
    → Extends more Same (bodies_of functions depth i values turns) (bodies_of functions (depth + more) i values (turns + more))
bodies_extend more functions zero i values turns = no_depth more functions (zero + more) (omega arith) i values turns
bodies_extend more functions (suc depth) i values turns =
    let deeper : suc (depth + more) ≡ suc depth + more = omega arith in
    let inner = bodies_extend more functions depth in
    subst (λ n. Extends more Same (bodies_of functions (suc depth) i values turns) (bodies_of functions n i values (turns + more))) deeper
    (need_extends more Same (slice_get functions i) (slice_get functions i) _ _ refl (λ f.
    same_followed more Same _ _ _ _ (body_extends more (bodies_of functions depth) (bodies_of functions (depth + more)) inner f.body (function_env values) turns) (λ left turns.
    (left.returned, refl, refl))))

-- ---- what follows

done_holds : {A : Type 0} (more : ℕ) (o p : Outcome A) → Extends more Same o p → (x : A) (left : ℕ) → o ≡ Done x left → p ≡ Done x (left + more)
done_holds {A} more o p h x left e =
    let is : Extends more Same (Done x left) p = subst (λ o. Extends more Same o p) e h in
    is.1 ∙ ap (λ (y : A). Done y (left + more)) (sym is.2)

fault_holds : {A : Type 0} (more : ℕ) (o p : Outcome A) → Extends more Same o p → (kind : FaultKind) → kind ≢ K.Turns → o ≡ Faulted kind → p ≡ Faulted kind
fault_holds {A} more o p h kind other e = by_cases (subst (λ o. Extends more Same o p) e h) where
  by_cases : ((p ≡ Faulted kind) ⊎ ((kind ≡ K.Turns) × (0 < more))) → p ≡ Faulted kind
  by_cases (inl is) = is
  by_cases (inr is) = absurd (other is.0)

value_extends : {N : Type 0} (functions : List Function) (code : Code N) (w : World N) (turns more : ℕ)
    → Extends more Same (value functions code w turns) (value functions code w (turns + more))
value_extends functions code w turns more = code_extends more (bodies_of functions turns) (bodies_of functions (turns + more)) (bodies_extend more functions turns) code w turns

runs_extends : (functions : List Function) (row : List Statement) (env : Env) (turns more : ℕ)
    → Extends more Same (runs functions row env turns) (runs functions row env (turns + more))
runs_extends functions row env turns more = body_extends more (bodies_of functions turns) (bodies_of functions (turns + more)) (bodies_extend more functions turns) row env turns

pub value_turns : {N : Type 0} → ValueTurnsLaw N
value_turns functions code w turns more left v = done_holds more _ _ (value_extends functions code w turns more) v left

pub value_faults : {N : Type 0} → ValueFaultsLaw N
value_faults functions code w turns more kind = fault_holds more _ _ (value_extends functions code w turns more) kind

pub runs_turns : RunsTurnsLaw
runs_turns functions row env turns more left l = done_holds more _ _ (runs_extends functions row env turns more) l left

pub runs_faults : RunsFaultsLaw
runs_faults functions row env turns more kind = fault_holds more _ _ (runs_extends functions row env turns more) kind
