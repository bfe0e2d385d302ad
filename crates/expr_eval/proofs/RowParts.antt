-- What the parts of rows and loops that fit fit, and that what is left of them fits after a statement or a turn.
use Rattle.std.specs.Prelude.{◌≡◌, ◌<◌, ◌+◌, ℕ, Bool, true, IsTrue, List, [], ◌∷◌, ◌++◌, length, drop, get_or}
use Rattle.std.specs.List.{list_all}
use Rattle.std.specs.Cmp.{first_so, second_so}
use Rattle.std.specs.Cmp.Derive.{both_true}
use Rattle.std.proofs.Common.{refl, sym, subst}
use Rattle.spl_value.specs.declared.types.SplType.TheVariants as T
use Rattle.spl_value.specs.declared.value.Value.{Value}
use Rattle.spl_value.specs.Values.{fits}
use Rattle.spl_tree.specs.declared.body.Function.{Function}
use Rattle.spl_tree.specs.declared.body.Statement.{Statement}
use Rattle.spl_tree.specs.declared.body.Statement.TheVariants as S
use Rattle.spl_tree.specs.declared.code.Code.{Code}
use Rattle.spl_tree.specs.declared.code.Slot.{Slot}
use Rattle.language_model.specs.declared.env.Env.{Env}
use Rattle.language_model.specs.declared.flow.Flow.{Flow}
use Rattle.language_model.specs.declared.outs.Output.{Output}
use Rattle.language_model.specs.declared.scope.Scope.{Scope}
use Rattle.language_model.specs.BodyFits as B
use Rattle.language_model.specs.BodyFits.{Purpose, StatementFits, RowFits, ArmsFit, with_variable}
use Rattle.language_model.specs.CodeFits.{CodeFits}
use Rattle.language_model.specs.Functions.{bodies_of}
use Rattle.language_model.specs.Outcomes.{Done, enter}
use Rattle.language_model.specs.Statements.{State, declared, scoped}
use Rattle.language_model.specs.parts.Statements.{statement_acts, row_acts}
use Rattle.language_model.specs.StatementLaws.{block_is}
use Rattle.language_model.specs.ValueLaws.{StatementLeadsLaw}
use Rattle.language_model.specs.WorldFits.{FunctionsFit, Fits, VariablesFit, LeadsTo}
use Rattle.expr_eval.specs.Running.{RowIsFit, StatementIsFit, ArmsAreFit, LoopIsFit, OverIsFit, state}
use Rattle.expr_eval.proofs.NewVariables.{with_values, declared_fit, without_variable, entered_leads}
use Rattle.spl_value.proofs.Lists.{drop_at}

-- ---- parts of what fits

-- what a row that fits begins with, and the rest
abbrev RowSplit : Purpose → Bool → Scope → List Statement → Type 0
RowSplit purpose l scope [] = Unit {0}
RowSplit purpose l scope (x ∷ row) = (next : Scope) × StatementFits purpose l scope x next × RowFits purpose l next row

row_split : (purpose : Purpose) (l : Bool) (scope : Scope) (row : List Statement) → RowFits purpose l scope row → RowSplit purpose l scope row
row_split purpose _ _ _ (B.no_statements l scope) = tt
row_split purpose _ _ _ (B.statement l scope next x row f h) = (next, f, h)

abbrev ArmsSplit : Purpose → Bool → Scope → List (Code Slot × List Statement) → Type 0
ArmsSplit purpose l scope [] = Unit {0}
ArmsSplit purpose l scope (arm ∷ arms) = CodeFits scope arm.0 T.Bool × RowFits purpose l scope arm.1 × ArmsFit purpose l scope arms

arms_split : (purpose : Purpose) (l : Bool) (scope : Scope) (arms : List (Code Slot × List Statement)) → ArmsFit purpose l scope arms → ArmsSplit purpose l scope arms
arms_split purpose _ _ _ (B.no_arms l scope) = tt
arms_split purpose _ _ _ (B.arm l scope x row arms c h others) = (c, h, others)

-- a statement leads to a scope with the same functions
same_functions : (purpose : Purpose) (l : Bool) (scope next : Scope) (x : Statement) → StatementFits purpose l scope x next → next.functions ≡ scope.functions
same_functions purpose _ _ _ _ (B.block l scope row h) = refl
same_functions purpose _ _ _ _ (B.declare l scope x v f) = refl
same_functions purpose _ _ _ _ (B.change l scope place change t p c) = refl
same_functions purpose _ _ _ _ (B.evaluate l scope f xs t h) = refl
same_functions purpose _ _ _ _ (B.call l scope i xs f at h) = refl
same_functions purpose _ _ _ _ (B.if_else l scope arms other h g) = refl
same_functions purpose _ _ _ _ (B.while l scope x row f h) = refl
same_functions purpose _ _ _ _ (B.for_each l scope x row t v f over fixed h) = refl
same_functions purpose _ _ _ _ (B.break scope) = refl
same_functions purpose _ _ _ _ (B.continue scope) = refl
same_functions purpose _ _ _ _ (B.return l scope x h) = refl
same_functions purpose _ _ _ _ (B.submit l scope port x schema at h) = refl
same_functions purpose _ _ _ _ (B.submit_window l scope port schema at) = refl

module _ (functions : List Function) where
  -- a block leaves the variables that there were
  block_leads : StatementLeadsLaw → (purpose : Purpose) (l : Bool) (scope : Scope) (row : List Statement) → RowFits purpose l scope row → FunctionsFit scope.functions functions
      → (s : State) → VariablesFit scope s.env → (depth turns : ℕ) → LeadsTo scope (scoped (row_acts (bodies_of functions depth) row) s turns)
  block_leads law purpose l scope row h fit s v depth turns =
      subst (LeadsTo scope) (block_is (bodies_of functions depth) row s turns)
      (law functions purpose l scope scope (S.Block row) (B.block l scope row h) fit s v depth turns)

  -- ---- a statement of a row, and those after it
  module _ (row : List Statement) (i : ℕ) (x : Statement) (within : i < length row) (is : x ≡ get_or row i x) (env : Env) (fit : RowIsFit functions (drop i row) env) where
    from_here : RowIsFit functions (x ∷ drop (i + 1) row) env
    from_here = subst (λ row. RowIsFit functions row env) (drop_at row i x within is) fit

    pub statement_is_fit : StatementIsFit functions x env
    statement_is_fit =
        let h = from_here in
        let p = row_split h.0 h.1 h.2 (x ∷ drop (i + 1) row) h.3 in (h.0, h.1, h.2, p.0, p.1, h.4)

    pub rest_of_row : StatementLeadsLaw → (depth turns left : ℕ) (submits : List Output) (flow : Flow) (s : State)
        → statement_acts (bodies_of functions depth) x (state env submits) turns ≡ Done (flow, s) left → RowIsFit functions (drop (i + 1) row) s.env
    rest_of_row law depth turns left submits flow s e =
        let h = from_here in
        let p = row_split h.0 h.1 h.2 (x ∷ drop (i + 1) row) h.3 in
        let same : p.0.functions ≡ h.2.functions = same_functions h.0 h.1 h.2 p.0 x p.1 in (
          h.0,
          h.1,
          p.0,
          p.2,
          (subst (LeadsTo p.0) e (law functions h.0 h.1 h.2 p.0 x p.1 h.4.1 (state env submits) h.4.0 depth turns), subst (λ signatures. FunctionsFit signatures functions) (sym same) h.4.1),
        )

  -- ---- an arm of an `if`, and those after it
  module _ (arms : List (Code Slot × List Statement)) (other : List Statement) (i : ℕ) (arm : Code Slot × List Statement) (within : i < length arms) (is : arm ≡ get_or arms i arm)
      (env : Env) (fit : ArmsAreFit functions (drop i arms) other env) where
    from_arm : ArmsAreFit functions (arm ∷ drop (i + 1) arms) other env
    from_arm = subst (λ arms. ArmsAreFit functions arms other env) (drop_at arms i arm within is) fit

    pub condition_of_arm : Fits functions arm.0 env T.Bool
    condition_of_arm =
        let h = from_arm in
        let p = arms_split h.0 h.1 h.2 (arm ∷ drop (i + 1) arms) h.3 in
        record { scope = h.2; code_fits = p.0; env_fits = h.5.0.env_fits; functions_fit = h.5.1 }

    pub row_of_arm : RowIsFit functions arm.1 env
    row_of_arm =
        let h = from_arm in
        let p = arms_split h.0 h.1 h.2 (arm ∷ drop (i + 1) arms) h.3 in (h.0, h.1, h.2, p.1, h.5)

    pub other_arms : ArmsAreFit functions (drop (i + 1) arms) other env
    other_arms =
        let h = from_arm in
        let p = arms_split h.0 h.1 h.2 (arm ∷ drop (i + 1) arms) h.3 in (h.0, h.1, h.2, p.2, h.4, h.5)

  -- ---- a loop with a condition
  pub loop_after_turn : StatementLeadsLaw → (code : Code Slot) (row : List Statement) (env : Env) → LoopIsFit functions code row env → (depth turns left : ℕ) (submits : List Output) (flow : Flow) (s : State)
      → scoped (row_acts (bodies_of functions depth) row) (state env submits) turns ≡ Done (flow, s) left → LoopIsFit functions code row s.env
  loop_after_turn law code row env h depth turns left submits flow s e =
      (h.0, h.1, h.2, h.3, (subst (LeadsTo h.1) e (block_leads law h.0 true h.1 row h.3 h.4.1 (state env submits) h.4.0 depth turns), h.4.1))

  -- ---- a loop over values
  module _ (values rest : List Value) (v : Value) (row : List Statement) (env : Env) (is : values ≡ v ∷ rest) (fit : OverIsFit functions values row env) where
    from_value : OverIsFit functions (v ∷ rest) row env
    from_value = subst (λ values. OverIsFit functions values row env) is fit

    pub turn_is_fit : OverIsFit functions (v ∷ []) row env
    turn_is_fit =
        let h = from_value in
        (h.0, h.1, h.2, both_true (first_so (fits h.2.kind v) (list_all (fits h.2.kind) rest) h.3) refl, h.4, h.5)

    pub other_turns : StatementLeadsLaw → (depth turns left : ℕ) (submits : List Output) (flow : Flow) (s : State)
        → enter turns (λ turns. scoped (λ s turns. row_acts (bodies_of functions depth) row (declared s v) turns) (state env submits) turns) ≡ Done (flow, s) left
        → OverIsFit functions rest row s.env
    other_turns law depth turns left submits flow s e =
        let h = from_value in
        let first : IsTrue (fits h.2.kind v) = first_so (fits h.2.kind v) (list_all (fits h.2.kind) rest) h.3 in
        let leads : (turns : ℕ) → LeadsTo h.1 (scoped (λ s turns. row_acts (bodies_of functions depth) row (declared s v) turns) (state env submits) turns) = λ turns.
        without_variable h.1 h.2 v (state env submits) h.5.0 (row_acts (bodies_of functions depth) row (declared (state env submits) v) turns)
        (block_leads law h.0 true (with_variable h.1 h.2) row h.4 h.5.1 (declared (state env submits) v) (declared_fit h.1 env h.2 v h.5.0 first) depth turns) in (
          h.0,
          h.1,
          h.2,
          second_so (fits h.2.kind v) (list_all (fits h.2.kind) rest) h.3,
          h.4,
          (subst (LeadsTo h.1) e (entered_leads h.1 turns (λ turns. scoped (λ s turns. row_acts (bodies_of functions depth) row (declared s v) turns) (state env submits) turns) leads), h.5.1),
        )

  -- the row of a turn fits where the value is that of a new variable
  pub row_of_turn : (v : Value) (row : List Statement) (env : Env) (vars : List Value) → OverIsFit functions (v ∷ []) row env → vars ≡ env.vars ++ v ∷ []
      → RowIsFit functions row (with_values env vars)
  row_of_turn v row env vars h is =
      let first : IsTrue (fits h.2.kind v) = first_so (fits h.2.kind v) true h.3 in
      (h.0, true, with_variable h.1 h.2, h.4, (subst (λ vars. VariablesFit (with_variable h.1 h.2) (with_values env vars)) (sym is) (declared_fit h.1 env h.2 v h.5.0 first), h.5.1))
