-- Functions that fit return values of their types, and bodies that fit leave what fits.
use Rattle.std.specs.Prelude.{◌≡◌, ℕ, zero, suc, false, List, [], ◌∷◌, map, length, Option, None, Some, slice_get}
use Rattle.std.proofs.Common.{refl, sym, ap, subst}
use Rattle.spl_value.specs.declared.types.SplType.{SplType}
use Rattle.spl_value.specs.declared.value.Value.{Value}
use Rattle.spl_tree.specs.declared.body.Function.{Function}
use Rattle.spl_tree.specs.declared.body.Statement.{Statement}
use Rattle.language_model.specs.declared.env.Env.{Env}
use Rattle.language_model.specs.declared.flow.Flow.{Flow}
use Rattle.language_model.specs.declared.flow.Flow.TheVariants as F
use Rattle.language_model.specs.declared.outs.Output.{Output}
use Rattle.language_model.specs.declared.scope.Scope.{Scope}
use Rattle.language_model.specs.declared.scope.Signature.{Signature}
use Rattle.language_model.specs.declared.scope.Variable.{Variable}
use Rattle.language_model.specs.BodyFits.{Purpose, OfFunction, result_of, RowFits, RowReturns}
use Rattle.language_model.specs.Evaluation.{code_value, world_of}
use Rattle.language_model.specs.Functions.{function_env, bodies_of}
use Rattle.language_model.specs.parts.Functions.{calls_of}
use Rattle.language_model.specs.Outcomes.{Outcome, Done, Faulted, Stuck}
use Rattle.language_model.specs.Statements.{State, Bodies, Left, scoped, returned_by, body_leaves}
use Rattle.language_model.specs.parts.Statements.{statement_acts, row_acts}
use Rattle.language_model.proofs.parts.Statements.{left_by}
use Rattle.language_model.specs.ValueLaws.{NeverStuckLaw, StatementLeadsLaw, BodyLeavesLaw}
use Rattle.language_model.specs.WorldFits.{VariablesFit, body_scope, FunctionFits, FunctionsFit, ComesTo, LeadsTo, SubmitFits, ResultFits, LeftFits, Leaves}
use Rattle.language_model.proofs.Evaluating.{code_comes}
use Rattle.language_model.proofs.Operating.{OfTypes}
use Rattle.language_model.proofs.Returning.{Only, Away, IsAway, scoped_leaves, row_leaves}
use Rattle.language_model.proofs.Running.{FlowFits, BodiesFit, calls_fit, Submitted, Led, scoped_leads, row_leads, statement_leads}
use Rattle.language_model.proofs.Yielding.{Yields, yields_followed, yields_weaker, IsThere, yields_need, OfType}

-- ---- arguments

abbrev kinds_of : List Variable → List SplType
kinds_of xs = map (λ (x : Variable). x.kind) xs

argument_there : (xs : List Variable) (vs : List Value) → OfTypes (kinds_of xs) vs → (i : ℕ) (x : Variable) → slice_get xs i ≡ Some x
    → IsThere (OfType x.kind) (slice_get vs i)
argument_there [] vs h i x e = absurd cc
argument_there (y ∷ xs) [] h i x e = absurd h
argument_there (y ∷ xs) (v ∷ vs) h zero x e = let same : y ≡ x = cc in (v, refl, subst (λ (x : Variable). OfType x.kind v) same h.0)
argument_there (y ∷ xs) (v ∷ vs) h (suc i) x e = argument_there xs vs h.1 i x e

as_many : (xs : List Variable) (vs : List Value) → OfTypes (kinds_of xs) vs → length vs ≡ length xs
as_many [] [] h = refl
as_many [] (v ∷ vs) h = absurd h
as_many (x ∷ xs) [] h = absurd h
as_many (x ∷ xs) (v ∷ vs) h = ap suc (as_many xs vs h.1)

arguments_fit : (signatures : List Signature) (xs : List Variable) (vs : List Value) → OfTypes (kinds_of xs) vs → VariablesFit (body_scope signatures xs) (function_env vs)
arguments_fit signatures xs vs h = record {
  env_fits = record { variables = argument_there xs vs h; inputs = λ i p e. absurd cc; marker = λ e. absurd cc };
  count = as_many xs vs h;
}

-- ---- bodies

no_submits : (Good : Output → Type 0) → Submitted Good []
no_submits Good i o at = absurd cc

abbrev begun : Env → State
begun env = record { env = env; submits = [] }

abbrev AwayIf : Option SplType → Flow × State → Type 0
AwayIf result w = (t : SplType) → result ≡ Some t → Away w

yields_if : (P : Flow × State → Type 0) (result : Option SplType) (o : Outcome (Flow × State)) → Yields P o → ((t : SplType) → result ≡ Some t → Only Away o)
    → Yields (λ w. P w × AwayIf result w) o
yields_if P result (Done w turns) h k = (h, k)
yields_if P result (Faulted kind) h k = tt
yields_if P result Stuck h k = absurd h

-- where a row that fits leads
abbrev Fit : Purpose → Scope → Flow × State → Type 0
Fit purpose scope w = FlowFits (result_of purpose) false w.0 × VariablesFit scope w.1.env × Submitted (SubmitFits purpose) w.1.submits

-- where a body that fits does, before what it leaves is taken of it
abbrev Ends : Purpose → Scope → Flow × State → Type 0
Ends purpose scope w = Fit purpose scope w × AwayIf (result_of purpose) w

module _ (purpose : Purpose) (scope : Scope) (row : List Statement) (bodies : Bodies) (env : Env) (h : RowFits purpose false scope row)
    (returns : (t : SplType) → result_of purpose ≡ Some t → RowReturns row) (fit : BodiesFit scope.functions bodies) (v : VariablesFit scope env) where
  body_ends : (turns : ℕ) → Yields (Ends purpose scope) (scoped (row_acts bodies row) (begun env) turns)
  body_ends turns =
      let can = λ (o : Output) (g : SubmitFits purpose o). g in
      let acts = row_acts bodies row in
      yields_if (Fit purpose scope) (result_of purpose) (scoped acts (begun env) turns)
      (scoped_leads purpose (SubmitFits purpose) can bodies false scope acts (row_leads purpose (SubmitFits purpose) can bodies false scope row h fit) (begun env) v
      (no_submits (SubmitFits purpose)) turns)
      (λ t e. scoped_leaves bodies acts (row_leaves bodies row (returns t e)) (begun env) turns)

  -- a body with a result gives one
  result_there : (result : Option SplType) (flow : Flow) → FlowFits result false flow → ((t : SplType) → result ≡ Some t → IsAway flow)
      → IsThere (ResultFits result) (returned_by flow)
  result_there None F.Next h away = (None, refl, tt)
  result_there (Some t) F.Next h away = absurd (away t refl)
  result_there result F.Broken h away = absurd cc
  result_there result F.Continued h away = absurd cc
  result_there result (F.Returned v) h away = (v, refl, h)

  body_left : (w : Flow × State) (turns : ℕ) → Ends purpose scope w → Yields (LeftFits purpose scope env) (left_by w turns)
  body_left w turns k =
      yields_need (ResultFits (result_of purpose)) (LeftFits purpose scope env) (returned_by w.0) _ (result_there (result_of purpose) w.0 k.0.0 k.1) (λ r is. record {
        variables_fit = record {
          env_fits = record { variables = k.0.1.env_fits.variables; inputs = v.env_fits.inputs; marker = v.env_fits.marker };
          count = k.0.1.count;
        };
        submits = k.0.2;
        returned = is;
      })

  body_leaves_fit : (turns : ℕ) → Yields (LeftFits purpose scope env) (body_leaves bodies row env turns)
  body_leaves_fit turns = yields_followed (Ends purpose scope) (LeftFits purpose scope env) (scoped (row_acts bodies row) (begun env) turns) left_by (body_ends turns) body_left

-- ---- functions

function_returns : (signatures : List Signature) (s : Signature) (f : Function) (bodies : Bodies) → FunctionFits signatures s f → BodiesFit signatures bodies
    → (vs : List Value) → OfTypes s.parameters vs → (turns : ℕ) → Yields (λ left. ResultFits s.result left.returned) (body_leaves bodies f.body (function_env vs) turns)
function_returns signatures s f bodies is fit vs h turns =
    let scope = body_scope signatures is.variables in
    let arguments = arguments_fit signatures is.variables vs (subst (λ ts. OfTypes ts vs) (sym is.kinds) h) in
    yields_weaker (LeftFits (OfFunction s.result) scope (function_env vs)) (λ left. ResultFits s.result left.returned) (body_leaves bodies f.body (function_env vs) turns)
    (λ left k. k.returned) (body_leaves_fit (OfFunction s.result) scope f.body bodies (function_env vs) is.body is.returns fit arguments turns)

bodies_fit : (signatures : List Signature) (functions : List Function) → FunctionsFit signatures functions → (depth : ℕ) → BodiesFit signatures (bodies_of functions depth)
bodies_fit signatures functions fit zero i s at vs h turns = tt
bodies_fit signatures functions fit (suc depth) i s at vs h turns =
    let bodies = bodies_of functions depth in
    yields_need (FunctionFits signatures s) (ResultFits s.result) (slice_get functions i) _ (fit i s at) (λ f is.
    yields_followed (λ left. ResultFits s.result left.returned) (ResultFits s.result) (body_leaves bodies f.body (function_env vs) turns) _
    (function_returns signatures s f bodies is (bodies_fit signatures functions fit depth) vs h turns) (λ left turns g. g))

-- ---- the laws

comes_to : (t : SplType) (o : Outcome Value) → Yields (OfType t) o → ComesTo t o
comes_to t (Done v turns) h = h
comes_to t (Faulted kind) h = h
comes_to t Stuck h = h

leads_to : (next : Scope) (o : Outcome (Flow × State)) → Yields (λ w. VariablesFit next w.1.env) o → LeadsTo next o
leads_to next (Done w turns) h = h
leads_to next (Faulted kind) h = h
leads_to next Stuck h = h

leaves : (purpose : Purpose) (scope : Scope) (env : Env) (o : Outcome Left) → Yields (LeftFits purpose scope env) o → Leaves purpose scope env o
leaves purpose scope env (Done left turns) h = h
leaves purpose scope env (Faulted kind) h = h
leaves purpose scope env Stuck h = h

pub never_stuck_law : NeverStuckLaw
never_stuck_law functions code env t fits depth turns =
    let calls = calls_of functions depth in
    let bodies = bodies_fit fits.scope.functions functions fits.functions_fit depth in
    comes_to t (code_value calls code (world_of env) turns)
    (code_comes fits.scope env calls fits.env_fits (calls_fit fits.scope.functions (bodies_of functions depth) bodies) code t fits.code_fits turns)

-- nothing is asked of submits here
pub statement_leads_law : StatementLeadsLaw
statement_leads_law functions purpose l scope next x h fit s v depth turns =
    let bodies = bodies_of functions depth in
    let any = λ (o : Output). Unit {0} in
    leads_to next (statement_acts bodies x s turns)
    (yields_weaker (Led purpose any (λ o g. tt) bodies l (VariablesFit next)) (λ w. VariablesFit next w.1.env) (statement_acts bodies x s turns) (λ w led. led.1)
    (statement_leads purpose any (λ o g. tt) bodies l scope next x h (bodies_fit scope.functions functions fit depth) s v (λ i o at. tt) turns))

pub body_leaves_law : BodyLeavesLaw
body_leaves_law functions row env purpose scope h depth turns =
    let bodies = bodies_of functions depth in
    leaves purpose scope env (body_leaves bodies row env turns)
    (body_leaves_fit purpose scope row bodies env h.row_fits h.returns (bodies_fit scope.functions functions h.functions_fit depth) h.variables_fit turns)
