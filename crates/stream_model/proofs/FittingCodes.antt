-- Codes of operators where tuples of their ports have come.
use Rattle.std.proofs.Common.{◌≡◌, ℕ, zero, suc, false, true, IsTrue, List, [], ◌∷◌, map, slice_get, Option, Some, None, sym, ap, subst, ◌∙◌}
use Rattle.spl_value.specs.declared.types.SplType.{SplType}
use Rattle.spl_value.specs.declared.types.SplType.TheVariants as S
use Rattle.spl_value.specs.declared.value.Value.{Value}
use Rattle.spl_value.specs.declared.value.Value.TheVariants as V
use Rattle.spl_value.specs.declared.value.Value.TheViews.{out-Value}
use Rattle.spl_value.specs.Values.{fits}
use Rattle.spl_value.proofs.FitsLaws.{fits_tuple}
use Rattle.spl_tree.specs.declared.body.Function.{Function}
use Rattle.spl_tree.specs.declared.code.Code.{Code}
use Rattle.spl_tree.specs.declared.code.Slot.{Slot}
use Rattle.language_model.specs.declared.env.Env.{Env}
use Rattle.language_model.specs.declared.scope.Port.{Port}
use Rattle.language_model.specs.declared.scope.Scope.{Scope}
use Rattle.language_model.specs.declared.scope.Signature.{Signature}
use Rattle.language_model.specs.CodeFits.{CodeFits}
use Rattle.language_model.specs.Evaluation.{world_of}
use Rattle.language_model.specs.Functions.{value}
use Rattle.language_model.specs.Keeping.{ConditionFits, NamesPorts}
use Rattle.language_model.specs.parts.Operators.{truth_of}
use Rattle.language_model.specs.Outcomes.{Outcome, Done, Faulted, Stuck, followed, need}
use Rattle.language_model.specs.Statements.{level_tuple}
use Rattle.language_model.specs.StreamTypes.{Attributes}
use Rattle.language_model.specs.WorldFits.{ComesTo, EnvFits, FunctionsFit}
use Rattle.language_model.proofs.Yielding.{AnyAnswer, IsThere, OfType, Yields, yields_followed, yields_need}
use Rattle.language_model.proofs.Operating.{truth_there}
use Rattle.language_model.proofs.Operating as operating
use Rattle.language_model.proofs.Calling.{never_stuck_law}
use Rattle.stream_model.specs.Bodies.{passes, tuple_by}

-- tuples with these attributes, port by port
abbrev pub TuplesHave : List Attributes → List (List Value) → Type 0
TuplesHave ins inputs = (i : ℕ) (schema : Attributes) → slice_get ins i ≡ Some schema → (vs : List Value) × (slice_get inputs i ≡ Some vs) × IsTrue (fits (S.Tuple schema) (V.Tuple vs))

port_schema : (ports : List Port) (i : ℕ) (p : Port) → slice_get ports i ≡ Some p → slice_get (map (λ (q : Port). q.schema) ports) i ≡ Some p.schema
port_schema [] i p at = absurd cc
port_schema (q ∷ ports) zero p at = let same : q ≡ p = cc in ap (λ (o : Port). Some o.schema) same
port_schema (q ∷ ports) (suc i) p at = port_schema ports i p at

-- where tuples of all ports have come
pub tuples_env : (signatures : List Signature) (ins : List Attributes) (scope : Scope) (inputs : List (List Value)) → NamesPorts signatures ins scope → TuplesHave ins inputs
    → EnvFits scope (record { inputs = inputs; vars = []; punct = None })
tuples_env signatures ins scope inputs names have = record {
  variables = λ i x at. absurd (let there : slice_get [] i ≡ Some x = ap (λ vars. slice_get vars i) (sym names.vars) ∙ at in cc);
  inputs = λ i p at. have i p.schema (ap (λ schemas. slice_get schemas i) (sym names.ports) ∙ port_schema scope.ports i p at);
  marker = λ is. absurd (let no : false ≡ true = sym names.punct ∙ is in cc);
}

as_yields : (t : SplType) (o : Outcome Value) → ComesTo t o → Yields (OfType t) o
as_yields t (Done v turns) h = h
as_yields t (Faulted kind) h = tt
as_yields t Stuck h = h

-- a code that fits gives a value of its type, or a fault
pub value_fits : (signatures : List Signature) (functions : List Function) (scope : Scope) (code : Code Slot) (t : SplType) (env : Env) (turns : ℕ)
    → scope.functions ≡ signatures → FunctionsFit signatures functions → CodeFits scope code t → EnvFits scope env → Yields (OfType t) (value functions code (world_of env) turns)
value_fits signatures functions scope code t env turns same there fit env_fit =
    as_yields t (value functions code (world_of env) turns)
    (never_stuck_law functions code env t
    (record { scope = scope; code_fits = fit; env_fits = env_fit; functions_fit = subst (λ s. FunctionsFit s functions) (sym same) there }) turns turns)

-- a condition holds or not
pub truth_fits : (o : Outcome Value) → Yields (OfType S.Bool) o → Yields AnyAnswer (followed o (λ v turns. need (truth_of v) (λ b. Done b turns)))
truth_fits o h = yields_followed (OfType S.Bool) AnyAnswer o _ h (λ v turns is. yields_need AnyAnswer AnyAnswer (truth_of v) _ (truth_there v is) (λ b k. tt))

pub passes_fits : (signatures : List Signature) (functions : List Function) (scope : Scope) (condition : Option (Code Slot)) (env : Env) (turns : ℕ)
    → scope.functions ≡ signatures → FunctionsFit signatures functions → ConditionFits scope condition → EnvFits scope env → Yields AnyAnswer (passes functions condition env turns)
passes_fits signatures functions scope None env turns same there fit env_fit = tt
passes_fits signatures functions scope (Some code) env turns same there fit env_fit =
    truth_fits (value functions code (world_of env) turns) (value_fits signatures functions scope code S.Bool env turns same there fit env_fit)

members_there : (schema : Attributes) (v : Value) → OfType (S.Tuple schema) v → IsThere (λ vs. OfType (S.Tuple schema) (V.Tuple vs)) (level_tuple (out-Value v))
members_there schema v h = let is = operating.level_tuple schema v h in (is.0, ap level_tuple is.1, fits_tuple schema is.0 ∙ is.2)

-- a tuple has its attributes
pub tuple_fits : (signatures : List Signature) (functions : List Function) (scope : Scope) (code : Code Slot) (schema : Attributes) (env : Env) (turns : ℕ)
    → scope.functions ≡ signatures → FunctionsFit signatures functions → CodeFits scope code (S.Tuple schema) → EnvFits scope env
    → Yields (λ vs. OfType (S.Tuple schema) (V.Tuple vs)) (tuple_by functions code env turns)
tuple_fits signatures functions scope code schema env turns same there fit env_fit =
    yields_followed (OfType (S.Tuple schema)) (λ vs. OfType (S.Tuple schema) (V.Tuple vs)) (value functions code (world_of env) turns) _
    (value_fits signatures functions scope code (S.Tuple schema) env turns same there fit env_fit)
    (λ v turns is. yields_need (λ vs. OfType (S.Tuple schema) (V.Tuple vs)) (λ vs. OfType (S.Tuple schema) (V.Tuple vs)) (level_tuple (out-Value v)) _
    (members_there schema v is) (λ vs fit. fit))
