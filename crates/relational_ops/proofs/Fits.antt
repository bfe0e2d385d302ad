-- The clauses of an operator with one input port fit the tuples that come on it.
use Rattle.std.proofs.Common.{◌≡◌, ◌<◌, ℕ, IsTrue, List, [], ◌∷◌, length, slice_get, Option, Some, None, refl, sym, subst, ◌∙◌, arith}
use Rattle.std.specs.Option.{unwrap_or}
use Rattle.std.proofs.lemmas.Grind.{common_steps}
use Rattle.spl_value.specs.declared.item.Item.{Item}
use Rattle.spl_value.specs.declared.item.Item.TheVariants as I
use Rattle.spl_value.specs.declared.types.IntKind.{IntKind}
use Rattle.spl_value.specs.declared.types.SplType.{SplType}
use Rattle.spl_value.specs.declared.types.SplType.TheVariants as S
use Rattle.spl_value.specs.declared.value.Value.{Value}
use Rattle.spl_tree.specs.declared.code.Code.{Code}
use Rattle.spl_tree.specs.declared.code.Code.TheVariants as C
use Rattle.spl_tree.specs.declared.code.Slot.{Slot}
use Rattle.spl_tree.specs.declared.graph.OpKind.{OpKind}
use Rattle.spl_tree.specs.declared.graph.OpKind.TheVariants as O
use Rattle.language_model.specs.declared.checked.CheckedClauses.{CheckedClauses}
use Rattle.language_model.specs.declared.checked.CheckedClauses.TheVariants as A
use Rattle.language_model.specs.declared.checked.Position.{Position}
use Rattle.language_model.specs.declared.scope.Scope.{Scope}
use Rattle.language_model.specs.Checking.{fit_ports}
use Rattle.language_model.specs.CodeFits.{CodeFits, FieldsFit, OneEach}
use Rattle.language_model.specs.CodeFits as F
use Rattle.language_model.specs.Keeping.{ConditionFits, PartFits}
use Rattle.language_model.specs.Keeping as K
use Rattle.language_model.specs.StreamTypes.{Attributes}
use Rattle.language_model.specs.WorldFits.{EnvFits, Fits, FunctionsFit}
use Rattle.stream_model.specs.Operators.{Operator}
use Rattle.stream_model.specs.Bodies.{at_tuple}
use Rattle.stream_model.specs.Replies.{ItemHas}
use Rattle.stream_model.specs.Fitting.{HasPort, IsFitting}
use Rattle.stream_model.proofs.FittingCodes.{tuples_env}
use Rattle.stream_model.proofs.SimpleFits.{tuple_came, at_first}
use Rattle.expr_eval.specs.Fitting.{IsFit}
use Rattle.port_reacts.specs.Evaluation.{PassesFit}
use Rattle.relational_ops.specs.Fitting.{MakingFits, WhereTuple}

-- ---- one port

-- the tuple is what the scope of the clauses has
one_env : (op : Operator) (fit : IsFitting op) (input : Attributes) (port : ℕ) (vs : List Value) → op.types.ins ≡ input ∷ [] → HasPort op port (I.Tuple vs)
    → EnvFits fit.scope (at_tuple vs)
one_env op fit input port vs is has =
    let there = subst (λ ins. (port < length ins) × ItemHas (unwrap_or (slice_get ins port) []) (I.Tuple vs)) is (has.0, has.1) in
    tuples_env fit.signatures (input ∷ []) fit.scope (vs ∷ [])
    (record { vars = fit.names.vars; ports = fit.names.ports ∙ is; functions = fit.names.functions; punct = fit.names.punct })
    (tuple_came input vs (at_first input port (I.Tuple vs) there.0 there.1))

-- so a code that fits the scope fits the tuple
code_fits : (op : Operator) (fit : IsFitting op) (input : Attributes) (port : ℕ) (vs : List Value) (code : Code Slot) (t : SplType) → op.types.ins ≡ input ∷ []
    → HasPort op port (I.Tuple vs) → CodeFits fit.scope code t → Fits op.functions code (at_tuple vs) t
code_fits op fit input port vs code t is has typed = record {
  scope = fit.scope;
  code_fits = typed;
  env_fits = one_env op fit input port vs is has;
  functions_fit = subst (λ s. FunctionsFit s op.functions) (sym fit.names.functions) fit.functions;
}

passes_fit : (op : Operator) (fit : IsFitting op) (input : Attributes) (port : ℕ) (vs : List Value) (condition : Option (Code Slot)) → op.types.ins ≡ input ∷ []
    → HasPort op port (I.Tuple vs) → ConditionFits fit.scope condition → PassesFit op.functions condition (at_tuple vs)
passes_fit op fit input port vs None is has typed = tt
passes_fit op fit input port vs (Some code) is has typed = code_fits op fit input port vs code S.Bool is has typed

-- what holds of each tuple of the port holds of an item of it
of_tuple : (op : Operator) (port : ℕ) (x : Item) (P : List Value → Type 0) → HasPort op port x → ((vs : List Value) → HasPort op port (I.Tuple vs) → P vs) → WhereTuple P x
of_tuple op port (I.Tuple vs) P has each = each vs has
of_tuple op port I.Window P has each = tt
of_tuple op port I.Final P has each = tt
of_tuple op port (I.Bad f) P has each = tt

-- ---- the clauses of each kind

filter_clauses : (scope : Scope) (kind : OpKind) (ins outs : List Attributes) (part : CheckedClauses) (condition : Option (Code Slot)) → PartFits scope kind ins outs part
    → part ≡ A.Filter condition → (input : Attributes) × (ins ≡ input ∷ []) × ConditionFits scope condition
filter_clauses scope kind ins outs part condition (K.filter own schema typed) is = let same : own ≡ condition = cc in (schema, refl, subst (ConditionFits scope) same typed)
filter_clauses scope kind ins outs part condition _ is = absurd cc

pub filter_fit : (op : Operator) (port : ℕ) (x : Item) (condition : Option (Code Slot)) → IsFitting op → op.clauses ≡ A.Filter condition → HasPort op port x
    → WhereTuple (λ vs. PassesFit op.functions condition (at_tuple vs)) x
filter_fit op port x condition fit is has =
    let typed = filter_clauses fit.scope fit.kind op.types.ins op.types.outs op.clauses condition fit.clauses is in
    of_tuple op port x (λ vs. PassesFit op.functions condition (at_tuple vs)) has (λ vs has. passes_fit op fit typed.0 port vs condition typed.1 has typed.2)

punctor_clauses : (scope : Scope) (kind : OpKind) (ins outs : List Attributes) (part : CheckedClauses) (condition : Code Slot) (position : Position) → PartFits scope kind ins outs part
    → part ≡ A.Punctor condition position → (input : Attributes) × (ins ≡ input ∷ []) × CodeFits scope condition S.Bool
punctor_clauses scope kind ins outs part condition position (K.punctor own place schema typed) is =
    let same : own ≡ condition = cc in (schema, refl, subst (λ c. CodeFits scope c S.Bool) same typed)
punctor_clauses scope kind ins outs part condition position _ is = absurd cc

pub punctor_fit : (op : Operator) (port : ℕ) (x : Item) (condition : Code Slot) (position : Position) → IsFitting op → op.clauses ≡ A.Punctor condition position → HasPort op port x
    → WhereTuple (λ vs. Fits op.functions condition (at_tuple vs) S.Bool) x
punctor_fit op port x condition position fit is has =
    let typed = punctor_clauses fit.scope fit.kind op.types.ins op.types.outs op.clauses condition position fit.clauses is in
    of_tuple op port x (λ vs. Fits op.functions condition (at_tuple vs) S.Bool) has (λ vs has. code_fits op fit typed.0 port vs condition S.Bool typed.1 has typed.2)

record SplitTyped (scope : Scope) (kind : OpKind) (ins : List Attributes) (index : Code Slot) : Type 0 where
  input : Attributes
  one : ins ≡ input ∷ []
  int : IntKind
  typed : CodeFits scope index (S.Int int)
  splits : kind ≡ O.Split

split_clauses : (scope : Scope) (kind : OpKind) (ins outs : List Attributes) (part : CheckedClauses) (index : Code Slot) → PartFits scope kind ins outs part
    → part ≡ A.Split index → SplitTyped scope kind ins index
split_clauses scope kind ins outs part index (K.split own int schema _ typed alike) is =
    let same : own ≡ index = cc in record { input = schema; one = refl; int = int; typed = subst (λ c. CodeFits scope c (S.Int int)) same typed; splits = refl }
split_clauses scope kind ins outs part index _ is = absurd cc

pub split_fit : (op : Operator) (port : ℕ) (x : Item) (index : Code Slot) → IsFitting op → op.clauses ≡ A.Split index → HasPort op port x
    → WhereTuple (λ vs. IsFit op.functions index (at_tuple vs)) x
split_fit op port x index fit is has =
    let k = split_clauses fit.scope fit.kind op.types.ins op.types.outs op.clauses index fit.clauses is in
    of_tuple op port x (λ vs. IsFit op.functions index (at_tuple vs)) has (λ vs has. (S.Int k.int, code_fits op fit k.input port vs index (S.Int k.int) k.one has k.typed))

split_ports : (ins outs : ℕ) → IsTrue (fit_ports O.Split ins outs) → 0 < outs
split_ports ins outs fit = grind (arith, common_steps)

-- a Split has an output port
pub split_outs : (op : Operator) (index : Code Slot) → IsFitting op → op.clauses ≡ A.Split index → 0 < length op.outs
split_outs op index fit is =
    let k = split_clauses fit.scope fit.kind op.types.ins op.types.outs op.clauses index fit.clauses is in
    let more = split_ports (length op.types.ins) (length op.types.outs) (subst (λ kind. IsTrue (fit_ports kind (length op.types.ins) (length op.types.outs))) k.splits fit.ports) in
    let same = fit.outs in omega (arith, more, same)

record FunctorTyped (scope : Scope) (ins : List Attributes) (condition : Option (Code Slot)) (output : Code Slot) : Type 0 where
  input : Attributes
  one : ins ≡ input ∷ []
  condition_typed : ConditionFits scope condition
  schema : Attributes
  typed : CodeFits scope output (S.Tuple schema)

functor_clauses : (scope : Scope) (kind : OpKind) (ins outs : List Attributes) (part : CheckedClauses) (condition : Option (Code Slot)) (output : Code Slot) → PartFits scope kind ins outs part
    → part ≡ A.Functor condition output → FunctorTyped scope ins condition output
functor_clauses scope kind ins outs part condition output (K.functor own fields input schema typed each once) is =
    let same : own ≡ condition = cc in
    let code : C.Tuple fields ≡ output = cc in
    record {
      input = input;
      one = refl;
      condition_typed = subst (ConditionFits scope) same typed;
      schema = schema;
      typed = subst (λ c. CodeFits scope c (S.Tuple schema)) code (F.tuple fields schema each once);
    }
functor_clauses scope kind ins outs part condition output _ is = absurd cc

pub functor_fit : (op : Operator) (port : ℕ) (x : Item) (condition : Option (Code Slot)) (output : Code Slot) → IsFitting op → op.clauses ≡ A.Functor condition output
    → HasPort op port x → WhereTuple (λ vs. MakingFits op.functions condition output (at_tuple vs)) x
functor_fit op port x condition output fit is has =
    let k = functor_clauses fit.scope fit.kind op.types.ins op.types.outs op.clauses condition output fit.clauses is in
    of_tuple op port x (λ vs. MakingFits op.functions condition output (at_tuple vs)) has (λ vs has. (
      passes_fit op fit k.input port vs condition k.one has k.condition_typed,
      k.schema,
      code_fits op fit k.input port vs output (S.Tuple k.schema) k.one has k.typed,
    ))
