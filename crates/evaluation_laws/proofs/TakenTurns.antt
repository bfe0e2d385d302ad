-- Codes and bodies take as many turns however many there are, and with fewer run out of them.
use Rattle.std.specs.Prelude.{◌≡◌, ◌≢◌, ◌+◌, ◌-◌, ◌≤◌, ◌⊎◌, ℕ, zero, suc, List, slice_get}
use Rattle.std.proofs.Common.{refl, sym, ap, ◌∙◌, subst, inl, inr, arith}
use Rattle.spl_value.specs.declared.item.FaultKind.{FaultKind}
use Rattle.spl_value.specs.declared.item.FaultKind.TheVariants as K
use Rattle.spl_value.specs.declared.value.Value.{Value}
use Rattle.spl_tree.specs.declared.body.Function.{Function}
use Rattle.spl_tree.specs.declared.body.Statement.{Statement}
use Rattle.spl_tree.specs.declared.code.Code.{Code}
use Rattle.language_model.specs.declared.env.Env.{Env}
use Rattle.language_model.specs.Evaluation.{World, code_value}
use Rattle.language_model.specs.Functions.{function_env, bodies_of, value, runs}
use Rattle.language_model.specs.parts.Functions.{calls_of}
use Rattle.language_model.specs.Outcomes.{Outcome, Done, Faulted, Stuck}
use Rattle.language_model.specs.Statements.{body_leaves}
use Rattle.evaluation_laws.proofs.MoreTurns.{value_faults, runs_faults}
use Rattle.evaluation_laws.specs.TurnsLaws.{LeavesNoMore, TakesAsMany, WantsTurns, FaultsWithFewer, StuckWithMore, ValueTurnsLeftLaw, ValueTurnsTakenLaw, ValueWantOfTurnsLaw, ValueFewerTurnsLaw, ValueStuckLaw, RunsTurnsLeftLaw, RunsTurnsTakenLaw, RunsWantOfTurnsLaw, RunsFewerTurnsLaw, RunsStuckLaw}
use Rattle.evaluation_laws.proofs.Taking.{Takes, takes_none, takes_followed, takes_need, takes_within, takes_any, takes_each}
use Rattle.evaluation_laws.proofs.TakingCodes.{codes_take}
use Rattle.evaluation_laws.proofs.TakingStatements.{calls_take, body_takes}

-- ---- functions

module _ (functions : List Function) where
  -- where calls may nest `depth` deep, and in the others `other` deep
  abbrev BodiesTake : ℕ → ℕ → Type 0
  BodiesTake depth other = (i : ℕ) (values : List Value) (turns : ℕ) → Takes other turns (bodies_of functions depth i values turns) (bodies_of functions other i values)

  one_deeper : (depth other : ℕ) → BodiesTake depth other → BodiesTake (suc depth) (suc other)
  one_deeper depth other h i values turns =
      takes_need (suc other) turns (slice_get functions i) _ _ (λ f.
      takes_followed (suc other) turns _ _ _ _ (body_takes other (bodies_of functions depth) (bodies_of functions other) h f.body (function_env values) turns) (λ left turns.
      takes_none (suc other) left.returned turns))

  bodies_take : (depth other : ℕ) → BodiesTake depth other
  bodies_take zero other i values turns = tt
  bodies_take (suc depth) zero i values turns =
      takes_any turns (bodies_of functions (suc depth) i values turns) (bodies_of functions 1 i values) _
      (takes_within 1 0 turns (bodies_of functions (suc depth) i values turns) _ (omega arith) (one_deeper depth 0 (bodies_take depth 0) i values turns))
  bodies_take (suc depth) (suc other) i values turns = one_deeper depth other (bodies_take depth other) i values turns

  value_takes : {N : Type 0} (code : Code N) (w : World N) (most turns : ℕ) → Takes most turns (value functions code w turns) (value functions code w)
  value_takes code w most turns =
      takes_each most turns (value functions code w turns) (λ number. code_value (calls_of functions number) code w) (λ number less many le.
      takes_within (suc number) less turns (value functions code w turns) _ le
      (codes_take number (calls_of functions turns) (calls_of functions number)
      (calls_take number (bodies_of functions turns) (bodies_of functions number) (bodies_take turns number)) w code turns))

  runs_take : (row : List Statement) (env : Env) (most turns : ℕ) → Takes most turns (runs functions row env turns) (runs functions row env)
  runs_take row env most turns =
      takes_each most turns (runs functions row env turns) (λ number. body_leaves (bodies_of functions number) row env) (λ number less many le.
      takes_within (suc number) less turns (runs functions row env turns) _ le
      (body_takes number (bodies_of functions turns) (bodies_of functions number) (bodies_take turns number) row env turns))

-- ---- what follows

abbrev AlwaysTakes : {A : Type 0} → (ℕ → Outcome A) → Type 0
AlwaysTakes f = (most turns : ℕ) → Takes most turns (f turns) f

-- a fault other than running out of turns is given with more too
abbrev KeepsFaults : {A : Type 0} → (ℕ → Outcome A) → Type 0
KeepsFaults f = (turns more : ℕ) (kind : FaultKind) → kind ≢ K.Turns → f turns ≡ Faulted kind → f (turns + more) ≡ Faulted kind

module _ {A : Type 0} (f : ℕ → Outcome A) (t : AlwaysTakes f) where
  takes_at : (most turns left : ℕ) (x : A) → f turns ≡ Done x left → Takes most turns (Done x left) f
  takes_at most turns left x e = subst (λ o. Takes most turns o f) e (t most turns)

  leaves_no_more : LeavesNoMore f
  leaves_no_more turns left x e = let is = (takes_at 0 turns left x e).1 in omega arith

  takes_as_many : TakesAsMany f
  takes_as_many taken left others x e =
      let at = takes_at (suc (taken + others)) (taken + left) left x e in
      let is = at.1 in
      let same : taken + others ≡ at.0 + others = omega arith in
      ap f same ∙ at.2 others (omega arith)

  stuck_with_more : StuckWithMore f
  stuck_with_more turns more e le =
      let stuck : Takes (suc more) turns Stuck f = subst (λ o. Takes (suc more) turns o f) e (t (suc more) turns) in
      stuck more (omega arith) le

  -- where there are enough, there are enough with more
  done_with_more : (fewer turns less : ℕ) (y : A) → f fewer ≡ Done y less → fewer ≤ turns → (left : ℕ) × (f turns ≡ Done y left) × (turns ≤ fewer + left)
  done_with_more fewer turns less y e le =
      let at = takes_at (suc turns) fewer less y e in
      let is = at.1 in
      let same : turns ≡ at.0 + (turns - at.0) = omega arith in
      (turns - at.0, ap f same ∙ at.2 (turns - at.0) (omega arith), omega arith)

  want_or_not : (kind : FaultKind) → (kind ≡ K.Turns) ⊎ (kind ≢ K.Turns)
  want_or_not K.Turns = inl refl
  want_or_not _ = inr (λ e. cc)

  module _ (keeps : KeepsFaults f) where
    fault_with_more : (fewer turns : ℕ) (kind : FaultKind) → kind ≢ K.Turns → f fewer ≡ Faulted kind → fewer ≤ turns → f turns ≡ Faulted kind
    fault_with_more fewer turns kind other e le =
        let rest : turns ≡ fewer + (turns - fewer) = omega arith in
        ap f rest ∙ keeps fewer (turns - fewer) kind other e

    wants_turns : WantsTurns f
    wants_turns turns left fewer x e lt = by_case (f fewer) refl where
      by_kind : (kind : FaultKind) → f fewer ≡ Faulted kind → ((kind ≡ K.Turns) ⊎ (kind ≢ K.Turns)) → f fewer ≡ Faulted K.Turns
      by_kind kind is (inl same) = is ∙ ap (λ k. Faulted k) same
      by_kind kind is (inr other) = absurd (let both : Faulted kind ≡ Done x left = sym (fault_with_more fewer turns kind other is (omega arith)) ∙ e in cc)

      by_case : (o : Outcome A) → f fewer ≡ o → f fewer ≡ Faulted K.Turns
      by_case (Done y less) is =
          let later = done_with_more fewer turns less y is (omega arith) in
          let both : Done y later.0 ≡ Done x left = sym later.1 ∙ e in
          let same : later.0 ≡ left = cc in
          let enough = later.2 in
          absurd (let none : ⊥ = omega arith in none)
      by_case (Faulted kind) is = by_kind kind is (want_or_not kind)
      by_case Stuck is = absurd (let both : Stuck ≡ Done x left = sym (stuck_with_more fewer turns is (omega arith)) ∙ e in cc)

    faults_with_fewer : FaultsWithFewer f
    faults_with_fewer turns fewer kind e le = by_case (f fewer) refl where
      by_kind : (other : FaultKind) → f fewer ≡ Faulted other → ((other ≡ K.Turns) ⊎ (other ≢ K.Turns)) → (f fewer ≡ Faulted kind) ⊎ (f fewer ≡ Faulted K.Turns)
      by_kind other is (inl same) = inr (is ∙ ap (λ k. Faulted k) same)
      by_kind other is (inr no_want) = inl (is ∙ sym (fault_with_more fewer turns other no_want is le) ∙ e)

      by_case : (o : Outcome A) → f fewer ≡ o → (f fewer ≡ Faulted kind) ⊎ (f fewer ≡ Faulted K.Turns)
      by_case (Done y less) is =
          let later = done_with_more fewer turns less y is le in
          absurd (let both : Done y later.0 ≡ Faulted kind = sym later.1 ∙ e in cc)
      by_case (Faulted other) is = by_kind other is (want_or_not other)
      by_case Stuck is = absurd (let both : Stuck ≡ Faulted kind = sym (stuck_with_more fewer turns is le) ∙ e in cc)

-- ---- the laws

module _ {N : Type 0} where
  always : (functions : List Function) (code : Code N) (w : World N) → AlwaysTakes (value functions code w)
  always functions code w = value_takes functions code w

  pub value_turns_left : ValueTurnsLeftLaw N
  value_turns_left functions code w = leaves_no_more (value functions code w) (always functions code w)

  pub value_turns_taken : ValueTurnsTakenLaw N
  value_turns_taken functions code w = takes_as_many (value functions code w) (always functions code w)

  pub value_want_of_turns : ValueWantOfTurnsLaw N
  value_want_of_turns functions code w = wants_turns (value functions code w) (always functions code w) (value_faults functions code w)

  pub value_fewer_turns : ValueFewerTurnsLaw N
  value_fewer_turns functions code w = faults_with_fewer (value functions code w) (always functions code w) (value_faults functions code w)

  pub value_stuck : ValueStuckLaw N
  value_stuck functions code w = stuck_with_more (value functions code w) (always functions code w)

pub runs_turns_left : RunsTurnsLeftLaw
runs_turns_left functions row env = leaves_no_more (runs functions row env) (runs_take functions row env)

pub runs_turns_taken : RunsTurnsTakenLaw
runs_turns_taken functions row env = takes_as_many (runs functions row env) (runs_take functions row env)

pub runs_want_of_turns : RunsWantOfTurnsLaw
runs_want_of_turns functions row env = wants_turns (runs functions row env) (runs_take functions row env) (runs_faults functions row env)

pub runs_fewer_turns : RunsFewerTurnsLaw
runs_fewer_turns functions row env = faults_with_fewer (runs functions row env) (runs_take functions row env) (runs_faults functions row env)

pub runs_stuck : RunsStuckLaw
runs_stuck functions row env = stuck_with_more (runs functions row env) (runs_take functions row env)
