-- The parts of a statement that fits, and what their values are.
use Rattle.std.specs.Prelude.{◌≡◌, ℕ, Bool, true, IsTrue, List, [], ◌∷◌, map, Option, None, Some, slice_get}
use Rattle.std.specs.Cmp.{first_so, second_so}
use Rattle.std.specs.Cmp.Derive.{both_true}
use Rattle.std.specs.List.{list_all}
use Rattle.std.proofs.Common.{refl, sym, ap, subst, ◌∙◌}
use Rattle.spl_value.specs.declared.types.Named.{Named}
use Rattle.spl_value.specs.declared.types.SplType.{SplType}
use Rattle.spl_value.specs.declared.types.SplType.TheVariants as S
use Rattle.spl_value.specs.declared.value.Value.{Value}
use Rattle.spl_value.specs.declared.value.Value.TheVariants as V
use Rattle.spl_value.specs.declared.value.Value.TheViews.{out-Value}
use Rattle.spl_value.proofs.FitsLaws.{list_from_fits, map_from_fits, tuple_from_fits, pair_fits}
use Rattle.spl_value.specs.Values.{fits}
use Rattle.spl_tree.specs.declared.body.Function.{Function}
use Rattle.spl_tree.specs.declared.body.Statement.{Statement}
use Rattle.spl_tree.specs.declared.body.Statement.TheVariants as T
use Rattle.spl_tree.specs.declared.body.Statement.TheOpen as O
use Rattle.spl_tree.specs.declared.body.Statement.TheOpen.{Statement-F}
use Rattle.spl_tree.specs.declared.body.Statement.TheViews.{out-Statement}
use Rattle.spl_tree.specs.declared.code.Code.{Code}
use Rattle.spl_tree.specs.declared.code.Code.TheVariants as C
use Rattle.spl_tree.specs.declared.code.Slot.{Slot}
use Rattle.language_model.specs.declared.env.Env.{Env}
use Rattle.language_model.specs.declared.scope.Scope.{Scope}
use Rattle.language_model.specs.declared.scope.Signature.{Signature}
use Rattle.language_model.specs.declared.scope.Variable.{Variable}
use Rattle.language_model.specs.BodyFits as B
use Rattle.language_model.specs.BodyFits.{Purpose, StatementFits, RowFits, GoesOver, ReturnFits, with_variable, result_of}
use Rattle.language_model.specs.CodeFits.{CodeFits, ArgumentsFit}
use Rattle.language_model.specs.Evaluation.{code_value, world_of}
use Rattle.language_model.specs.EvaluationLaws.{values_of}
use Rattle.language_model.specs.parts.Functions.{calls_of}
use Rattle.language_model.specs.Outcomes.{Done}
use Rattle.language_model.specs.Statements.{level_elements, level_tuple}
use Rattle.language_model.specs.ValueLaws.{NeverStuckLaw}
use Rattle.language_model.specs.WorldFits.{Fits}
use Rattle.expr_eval.specs.Fitting.{IsFit, AreFit}
use Rattle.expr_eval.specs.Running.{StatementIsFit, OverIsFit, FunctionIsFit}
use Rattle.expr_eval.proofs.CodeParts.{arguments_at}
use Rattle.expr_eval.proofs.ValueTypes.{of_type, values_of_types}

-- the elements of a list or the keys of a map
abbrev Elements : SplType → Value → Type 0
Elements u v = (vs : List Value) × (level_elements (out-Value v) ≡ Some vs) × IsTrue (list_all (fits u) vs)

keys_fit : (k t : SplType) (ps : List (Value × Value)) → IsTrue (list_all (pair_fits k t) ps) → IsTrue (list_all (fits k) (map (λ (p : Value × Value). p.0) ps))
keys_fit k t [] h = refl
keys_fit k t (p ∷ ps) h =
    let first = first_so (pair_fits k t p) (list_all (pair_fits k t) ps) h in
    both_true (first_so (fits k p.0) (fits t p.1) first) (keys_fit k t ps (second_so (pair_fits k t p) (list_all (pair_fits k t) ps) h))

elements_of : (t u : SplType) → GoesOver t u → (v : Value) → IsTrue (fits t v) → Elements u v
elements_of _ _ (B.elements t) v f = let is = list_from_fits t v f in (is.0, ap level_elements (ap out-Value is.1 ∙ V.outs-List is.0), is.2)
elements_of _ _ (B.keys k t) v f =
    let is = map_from_fits k t v f in (map (λ (p : Value × Value). p.0) is.0, ap level_elements (ap out-Value is.1 ∙ V.outs-Map is.0), keys_fit k t is.0 is.3)

-- ---- parts

-- what the rules say of the parts of some statements
abbrev Parts : Purpose → Scope → Statement-F Statement → Type 0
Parts purpose scope (O.Call i xs) = (f : Signature) × (slice_get scope.functions i ≡ Some f) × ArgumentsFit scope xs f.parameters
Parts purpose scope (O.For x row) =
    (t : SplType) × (v : Variable) × CodeFits scope x t × GoesOver t v.kind × RowFits purpose true (with_variable scope v) row
Parts purpose scope (O.Return x) = ReturnFits scope x (result_of purpose)
Parts purpose scope (O.Submit port x) = (schema : List (Named SplType)) × CodeFits scope x (S.Tuple schema)
Parts purpose scope _ = Unit {0}

module _ (purpose : Purpose) where
  of_open : (scope : Scope) (x : Statement) (y : Statement-F Statement) → out-Statement x ≡ y → Parts purpose scope y → Parts purpose scope (out-Statement x)
  of_open scope x y e h = subst (λ y. Parts purpose scope y) (sym e) h

  parts : (l : Bool) (scope next : Scope) (x : Statement) → StatementFits purpose l scope x next → Parts purpose scope (out-Statement x)
  parts _ _ _ _ (B.block l scope row h) = of_open scope (T.Block row) (O.Block row) (T.outs-Block row) tt
  parts _ _ _ _ (B.declare l scope x v h) = of_open scope (T.Declare x) (O.Declare x) (T.outs-Declare x) tt
  parts _ _ _ _ (B.change l scope place change t f h) = of_open scope (T.Change place change) (O.Change place change) (T.outs-Change place change) tt
  parts _ _ _ _ (B.evaluate l scope f xs t h) = of_open scope (T.Evaluate (C.BuiltIn f xs)) (O.Evaluate (C.BuiltIn f xs)) (T.outs-Evaluate (C.BuiltIn f xs)) tt
  parts _ _ _ _ (B.call l scope i xs f at h) = of_open scope (T.Call i xs) (O.Call i xs) (T.outs-Call i xs) (f, at, h)
  parts _ _ _ _ (B.if_else l scope arms other f h) = of_open scope (T.If arms other) (O.If arms other) (T.outs-If arms other) tt
  parts _ _ _ _ (B.while l scope x row f h) = of_open scope (T.While x row) (O.While x row) (T.outs-While x row) tt
  parts _ _ _ _ (B.for_each l scope x row t v f over fixed h) = of_open scope (T.For x row) (O.For x row) (T.outs-For x row) (t, v, f, over, h)
  parts _ _ _ _ (B.break scope) = of_open scope T.Break O.Break T.outs-Break tt
  parts _ _ _ _ (B.continue scope) = of_open scope T.Continue O.Continue T.outs-Continue tt
  parts _ _ _ _ (B.return l scope x h) = of_open scope (T.Return x) (O.Return x) (T.outs-Return x) h
  parts _ _ _ _ (B.submit l scope port x schema at h) = of_open scope (T.Submit port x) (O.Submit port x) (T.outs-Submit port x) (schema, h)
  parts _ _ _ _ (B.submit_window l scope port schema at) = of_open scope (T.SubmitWindow port) (O.SubmitWindow port) (T.outs-SubmitWindow port) tt

module _ (functions : List Function) (x : Statement) (env : Env) (h : StatementIsFit functions x env) where
  abbrev scope : Scope
  scope = h.2

  parts_of : (y : Statement-F Statement) → out-Statement x ≡ y → Parts h.0 scope y
  parts_of y e = subst (λ y. Parts h.0 scope y) e (parts h.0 h.1 h.2 h.3 x h.4)

  in_this : (y : Code Slot) (t : SplType) → CodeFits scope y t → Fits functions y env t
  in_this y t f = record { scope = scope; code_fits = f; env_fits = h.5.0.env_fits; functions_fit = h.5.1 }

  -- ---- calls

  module _ (i : ℕ) (codes : List (Code Slot)) (is : x ≡ T.Call i codes) where
    called : Parts h.0 scope (O.Call i codes)
    called = parts_of (O.Call i codes) (ap out-Statement is ∙ T.outs-Call i codes)

    pub arguments_are_fit : AreFit functions codes env
    arguments_are_fit j y e = let at = arguments_at scope codes called.0.parameters called.2 j y e in (at.0, in_this y at.0 at.1)

    pub function_is_fit : NeverStuckLaw → (depth turns left : ℕ) (vs : List Value) → values_of (calls_of functions depth) codes (world_of env) turns ≡ Done vs left
        → FunctionIsFit functions i vs
    function_is_fit law depth turns left vs d =
        (scope.functions, called.0, h.5.1, called.1, values_of_types law functions env depth scope h.5.0.env_fits h.5.1 codes called.0.parameters called.2 turns left vs d)

  -- ---- loops over values

  module _ (code : Code Slot) (row : List Statement) (is : x ≡ T.For code row) (law : NeverStuckLaw) (depth turns left : ℕ) (v : Value)
      (d : code_value (calls_of functions depth) code (world_of env) turns ≡ Done v left) where
    loop : Parts h.0 scope (O.For code row)
    loop = parts_of (O.For code row) (ap out-Statement is ∙ T.outs-For code row)

    goes_over : Elements loop.1.kind v
    goes_over = elements_of loop.0 loop.1.kind loop.3 v (of_type law functions env depth code loop.0 (in_this code loop.0 loop.2) turns left v d)

    pub has_loop_values : level_elements (out-Value v) ≡ None → ⊥
    has_loop_values e = let is : level_elements (out-Value v) ≡ Some goes_over.0 = goes_over.1 in cc

    pub over_is_fit : (vs : List Value) → level_elements (out-Value v) ≡ Some vs → OverIsFit functions vs row env
    over_is_fit vs e =
        let is : level_elements (out-Value v) ≡ Some goes_over.0 = goes_over.1 in
        let same : goes_over.0 ≡ vs = cc in
        (h.0, scope, loop.1, subst (λ vs. IsTrue (list_all (fits loop.1.kind) vs)) same goes_over.2, loop.4, h.5)

  -- ---- what is returned and submitted

  pub result_is_fit : (code : Code Slot) → x ≡ T.Return (Some code) → IsFit functions code env
  result_is_fit code is = of_result (Some code) (result_of h.0) (parts_of (O.Return (Some code)) (ap out-Statement is ∙ T.outs-Return (Some code))) code refl
    where
      of_result : (given : Option (Code Slot)) (result : Option SplType) → ReturnFits scope given result → (code : Code Slot) → given ≡ Some code → IsFit functions code env
      of_result _ _ B.nothing code e = absurd cc
      of_result _ _ (B.result y t f) code e = let same : y ≡ code = cc in (t, in_this code t (subst (λ y. CodeFits scope y t) same f))

  pub has_tuple : (port : ℕ) (code : Code Slot) → x ≡ T.Submit port code → NeverStuckLaw → (depth turns left : ℕ) (v : Value)
      → code_value (calls_of functions depth) code (world_of env) turns ≡ Done v left → level_tuple (out-Value v) ≡ None → ⊥
  has_tuple port code is law depth turns left v d e =
      let p : Parts h.0 scope (O.Submit port code) = parts_of (O.Submit port code) (ap out-Statement is ∙ T.outs-Submit port code) in
      let vs = tuple_from_fits p.0 v (of_type law functions env depth code (S.Tuple p.0) (in_this code (S.Tuple p.0) p.1) turns left v d) in
      let is : level_tuple (out-Value v) ≡ Some vs.0 = ap level_tuple (ap out-Value vs.1 ∙ V.outs-Tuple vs.0) in cc
