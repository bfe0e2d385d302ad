-- The handler fits where it runs, and what it leaves.
use Rattle.std.specs.Prelude.{◌≡◌, ℕ, zero, suc, pos, negsuc, true, false, IsTrue, List, [], ◌∷◌, Some, slice_get, codes}
use Rattle.std.specs.List.{AllByRecursion}
use Rattle.std.proofs.Common.{refl, sym, ap, ◌∙◌, subst, arith}
use Rattle.spl_value.specs.declared.item.FaultKind.TheVariants as K
use Rattle.spl_value.specs.declared.types.IntKind.TheVariants.{I32}
use Rattle.spl_value.specs.declared.types.SplType.TheVariants as S
use Rattle.spl_value.specs.declared.value.Value.{Value}
use Rattle.spl_value.specs.declared.value.Value.TheVariants as V
use Rattle.spl_value.specs.Values.{fits}
use Rattle.spl_value.proofs.FitsLaws.{fits_int, fits_laws}
use Rattle.spl_tree.specs.declared.body.Change.TheVariants as H
use Rattle.spl_tree.specs.declared.body.Statement.{Statement}
use Rattle.spl_tree.specs.declared.body.Statement.TheVariants as T
use Rattle.spl_tree.specs.declared.code.Code.{Code}
use Rattle.spl_tree.specs.declared.code.Code.TheVariants as C
use Rattle.spl_tree.specs.declared.code.Code.TheFolds.{fold_out-Code, map-Code}
use Rattle.spl_tree.specs.declared.code.Marker.TheVariants as M
use Rattle.spl_tree.specs.declared.code.Slot.{Slot}
use Rattle.spl_tree.specs.declared.code.Slot.TheVariants as L
use Rattle.spl_tree.specs.declared.code.UnaryCode.TheVariants as U
use Rattle.language_model.specs.declared.checked.StateVariable.{StateVariable}
use Rattle.language_model.specs.declared.scope.Port.{Port}
use Rattle.language_model.specs.declared.scope.Scope.{Scope}
use Rattle.language_model.specs.declared.scope.Variable.{Variable}
use Rattle.language_model.specs.BodyFits as B
use Rattle.language_model.specs.BodyFits.{OfHandler, RowFits, with_variable}
use Rattle.language_model.specs.CodeFits as F
use Rattle.language_model.specs.CodeFits.{CodeFits, OneEach}
use Rattle.language_model.specs.Evaluation.{slot_value}
use Rattle.language_model.specs.EvaluationLaws.{value_laws}
use Rattle.language_model.specs.FitLaws.{no_names}
use Rattle.language_model.specs.Functions.{runs}
use Rattle.language_model.specs.Keeping.{HandlersFit, marker_scope, tuple_scope}
use Rattle.language_model.specs.parts.LogicTyping.{is_plain}
use Rattle.language_model.specs.Outcomes.{Done, Faulted}
use Rattle.language_model.specs.Scopes.{at_place, variable_of}
use Rattle.language_model.specs.Slots.{level_names, names_of, row_slots}
use Rattle.language_model.specs.StatementLaws.{statement_laws}
use Rattle.language_model.specs.Typing.{int32}
use Rattle.language_model.specs.WorldFits.{BodyFits, Fits, FunctionsFit, VariablesFit}
use Rattle.evaluation_laws.proofs.NamedSlots.{changed_slots, for_slots, submit_slots}
use Rattle.evaluation_laws.proofs.NamesInCodes.{list_names, name_names, tuple_names}
use Rattle.evaluation_laws.specs.HandlerLaws.{AreFirst}
use Rattle.evaluation_laws.specs.LiteralLaws.{IsAlways}
use Rattle.evaluation_laws.specs.NamedSlotsLaw.{Agree}
use Rattle.evaluation_laws.specs.examples.OneCall.{number}
use Rattle.evaluation_laws.specs.examples.OneHandler.{constant, last, minus_five, state, input, output, submit_constant, on_tuple, on_marker, handlers, one_port, of_tuple, held, env_of, left_of, env_at_window, left_at_window, constant_alone, env_alone, left_alone}
use Rattle.evaluation_laws.proofs.FirstValues.{one_more, none_first}
use Rattle.evaluation_laws.proofs.PlainCodes.{plain_laws}

-- ---- codes

literal_fits : (scope : Scope) (n : ℕ) → IsTrue (fits int32 (number n)) → CodeFits scope (C.Literal (number n)) int32
literal_fits scope n h = F.literal (number n) int32 h

minus_fits : (scope : Scope) → CodeFits scope minus_five int32
minus_fits scope =
    F.unary (U.Negate I32 ∷ []) (C.Literal (number 5)) int32 int32 (literal_fits scope 5 (fits_int I32 (pos 5)))
    (F.outer (U.Negate I32) [] int32 int32 int32 (F.no_unary int32) (F.negates I32))

each_once : OneEach 1 ((0, C.Name (L.Variable 0)) ∷ [])
each_once zero lt = refl
each_once (suc i) lt = absurd (let none : ⊥ = omega arith in none)

-- where the first variable is the constant one
tuple_fits : (scope : Scope) → slice_get scope.vars 0 ≡ Some constant → variable_of scope constant.name ≡ Some (at_place 0 constant)
    → CodeFits scope (C.Tuple ((0, C.Name (L.Variable 0)) ∷ [])) (S.Tuple output)
tuple_fits scope there named =
    F.tuple ((0, C.Name (L.Variable 0)) ∷ []) output
    (F.field 0 (C.Name (L.Variable 0)) [] output _ refl (F.name (L.Variable 0) int32 (F.variable 0 constant there named)) (F.no_fields output)) each_once

-- ---- statements

submit_fits : (scope : Scope) → slice_get scope.vars 0 ≡ Some constant → variable_of scope constant.name ≡ Some (at_place 0 constant)
    → RowFits (OfHandler (output ∷ [])) false scope (submit_constant ∷ [])
submit_fits scope there named =
    B.statement false scope scope submit_constant [] (B.submit false scope 0 _ output refl (tuple_fits scope there named)) (B.no_statements false scope)

abbrev loop_variable : Variable
loop_variable = record { name = codes "e"; kind = int32; mutable = false }

abbrev in_loop : Scope
in_loop = with_variable of_tuple loop_variable

loop_fits : RowFits (OfHandler (output ∷ [])) true in_loop (T.Change (record { variable = 1; takings = [] }) (H.Put (C.Name (L.Variable 3))) ∷ [])
loop_fits =
    B.statement true in_loop in_loop _ []
    (B.change true in_loop (record { variable = 1; takings = [] }) _ int32 (B.in_variable _ last int32 refl refl refl (F.here int32))
    (B.puts (C.Name (L.Variable 3)) int32 (F.name (L.Variable 3) int32 (F.variable 3 loop_variable refl refl))))
    (B.no_statements true in_loop)

pub body_fits : RowFits (OfHandler (output ∷ [])) false of_tuple on_tuple
body_fits =
    B.statement false of_tuple of_tuple _ (submit_constant ∷ [])
    (B.for_each false of_tuple _ _ (S.List int32) loop_variable
    (F.list _ int32 (F.element _ [] int32 (literal_fits of_tuple 7 (fits_int I32 (pos 7))) (F.no_elements int32))) (B.elements int32) refl loop_fits)
    (submit_fits of_tuple refl refl)

pub alone_fits : RowFits (OfHandler (output ∷ [])) false constant_alone (submit_constant ∷ [])
alone_fits = submit_fits constant_alone refl refl

marker_body_fits : RowFits (OfHandler (output ∷ [])) false (marker_scope one_port state) on_marker
marker_body_fits =
    let inside = marker_scope one_port state in
    B.statement false inside inside _ []
    (B.if_else false inside _ []
    (B.arm false inside (C.IsMarker M.Window) _ [] (F.is_marker M.Window refl)
    (B.statement false inside inside (T.SubmitWindow 0) [] (B.submit_window false inside 0 output refl) (B.no_statements false inside)) (B.no_arms false inside))
    (B.no_statements false inside))
    (B.no_statements false inside)

-- ---- the handlers

all_at : {A : Type 0} (P : A → Type 0) (xs : List A) → AllByRecursion P xs → (k : ℕ) (x : A) → slice_get xs k ≡ Some x → P x
all_at P [] h k x e = absurd cc
all_at P (y ∷ xs) h zero x e = let same : y ≡ x = cc in subst P same h.0
all_at P (y ∷ xs) h (suc k) x e = all_at P xs h.1 k x e

pub handlers_fit : HandlersFit one_port (output ∷ []) handlers
handlers_fit = record {
  state = all_at (λ (x : StateVariable). CodeFits no_names x.first x.variable.kind) state
      (minus_fits no_names, (literal_fits no_names 0 (fits_int I32 (pos 0)), (literal_fits no_names 0 (fits_int I32 (pos 0)), tt)));
  plain = all_at (λ (x : StateVariable). IsTrue (is_plain x.first)) state (simp plain_laws refl, (simp plain_laws refl, (simp plain_laws refl, tt)));
  tuples = refl;
  markers = refl;
  on_tuple = by_place;
  on_punct = by_marker;
} where
  by_place : (k : ℕ) (port : Port) (body : List Statement) → slice_get (input ∷ []) k ≡ Some port → slice_get (Some on_tuple ∷ []) k ≡ Some (Some body)
      → RowFits (OfHandler (output ∷ [])) false (tuple_scope one_port state port) body
  by_place zero port body e f =
      let same : input ≡ port = cc in
      let own : on_tuple ≡ body = cc in
      subst (λ (port : Port). RowFits (OfHandler (output ∷ [])) false (tuple_scope one_port state port) body) same
      (subst (λ (body : List Statement). RowFits (OfHandler (output ∷ [])) false of_tuple body) own body_fits)
  by_place (suc k) port body e f = absurd cc

  by_marker : (k : ℕ) (body : List Statement) → slice_get (Some on_marker ∷ []) k ≡ Some (Some body)
      → RowFits (OfHandler (output ∷ [])) false (marker_scope one_port state) body
  by_marker zero body e =
      let own : on_marker ≡ body = cc in
      subst (λ (body : List Statement). RowFits (OfHandler (output ∷ [])) false (marker_scope one_port state) body) own marker_body_fits
  by_marker (suc k) body e = absurd cc

-- ---- first values

minus_always : IsAlways minus_five (V.Int (negsuc 4))
minus_always functions w turns = simp (value_laws, V.outs-Int)

zero_always : IsAlways (C.Literal (number 0)) (number 0)
zero_always functions w turns = simp value_laws

pub are_first : AreFirst state (held (number 0) (number 0))
are_first =
    one_more _ (V.Int (negsuc 4)) (fits_int I32 (negsuc 4)) minus_always _ _
    (one_more _ (number 0) (fits_int I32 (pos 0)) zero_always _ _
    (one_more _ (number 0) (fits_int I32 (pos 0)) zero_always [] [] none_first))

-- ---- environments

abbrev OfKinds : List Variable → List Value → Type 0
OfKinds [] [] = Unit {0}
OfKinds (x ∷ xs) (v ∷ vs) = IsTrue (fits x.kind v) × OfKinds xs vs
OfKinds _ _ = ⊥

values_there : (xs : List Variable) (vs : List Value) → OfKinds xs vs → (i : ℕ) (x : Variable) → slice_get xs i ≡ Some x
    → (v : Value) × (slice_get vs i ≡ Some v) × IsTrue (fits x.kind v)
values_there [] vs h i x e = absurd cc
values_there (y ∷ xs) [] h i x e = absurd h
values_there (y ∷ xs) (v ∷ vs) h zero x e = let same : y ≡ x = cc in (v, refl, subst (λ (x : Variable). IsTrue (fits x.kind v)) same h.0)
values_there (y ∷ xs) (v ∷ vs) h (suc i) x e = values_there xs vs h.1 i x e

pub env_fits : VariablesFit of_tuple (env_of (number 3) (number 0))
env_fits = record {
  env_fits = record {
    variables = values_there of_tuple.vars (held (number 0) (number 0)) (fits_int I32 (negsuc 4), (fits_int I32 (pos 0), (fits_int I32 (pos 0), tt)));
    inputs = by_port;
    marker = λ none. absurd cc;
  };
  count = refl;
} where
  by_port : (i : ℕ) (p : Port) → slice_get (input ∷ []) i ≡ Some p
      → (vs : List Value) × (slice_get ((number 3 ∷ []) ∷ []) i ≡ Some vs) × IsTrue (fits (S.Tuple p.schema) (V.Tuple vs))
  by_port zero p e =
      let same : input ≡ p = cc in
      (number 3 ∷ [], refl, subst (λ (p : Port). IsTrue (fits (S.Tuple p.schema) (V.Tuple (number 3 ∷ [])))) same (simp fits_laws))
  by_port (suc i) p e = absurd cc

-- no function is called
no_functions : FunctionsFit [] []
no_functions i s e = absurd cc

pub runs_fits : BodyFits [] on_tuple (env_of (number 3) (number 0)) (OfHandler (output ∷ [])) of_tuple
runs_fits = record { row_fits = body_fits; returns = λ t e. absurd cc; variables_fit = env_fits; functions_fit = no_functions }

pub constant_fits : Fits [] (C.Name (L.Variable 0)) (env_of (number 3) (number 0)) int32
constant_fits = record {
  scope = of_tuple;
  code_fits = F.name (L.Variable 0) int32 (F.variable 0 constant refl refl);
  env_fits = env_fits.env_fits;
  functions_fit = no_functions;
}

-- ---- slots

literal_names : (v : Value) → names_of {N = Slot} (C.Literal v) ≡ []
literal_names v = fold_out-Code Slot (List Slot) level_names (C.Literal v) ∙ ap (λ y. level_names (map-Code Slot (Code Slot) (List Slot) names_of y)) (C.outs-Literal v)

slots_named : row_slots on_tuple ≡ L.Variable 1 ∷ L.Variable 3 ∷ L.Variable 0 ∷ []
slots_named = simp (for_slots, changed_slots, submit_slots, list_names, name_names, tuple_names, literal_names)

pub slots_agree : Agree (row_slots on_tuple) (env_of (number 3) (number 0)) (env_of (number 9) (number 4))
slots_agree = record {
  marker = refl;
  count = refl;
  values = subst (AllByRecursion (λ (slot : Slot). slot_value (env_of (number 3) (number 0)) slot ≡ slot_value (env_of (number 9) (number 4)) slot)) (sym slots_named)
      (refl, (refl, (refl, tt)));
}

-- ---- what is left

pub tuple_left : runs [] on_tuple (env_of (number 3) (number 0)) 2 ≡ Done (left_of (number 0)) 1
tuple_left = simp (value_laws, statement_laws, V.outs-List, V.outs-Tuple)

pub other_left : runs [] on_tuple (env_of (number 9) (number 4)) 2 ≡ Done (left_of (number 4)) 1
other_left = simp (value_laws, statement_laws, V.outs-List, V.outs-Tuple)

pub tuple_wanted : runs [] on_tuple (env_of (number 3) (number 0)) 0 ≡ Faulted K.Turns
tuple_wanted = simp (value_laws, statement_laws, V.outs-List)

pub window_left : runs [] on_marker env_at_window 0 ≡ Done left_at_window 0
window_left = simp (value_laws, statement_laws, V.outs-Bool)

pub alone_left : runs [] (submit_constant ∷ []) env_alone 0 ≡ Done left_alone 0
alone_left = simp (value_laws, statement_laws, V.outs-Tuple)

pub none_mutable : (i : ℕ) (x : Variable) → slice_get constant_alone.vars i ≡ Some x → x.mutable ≡ false
none_mutable = all_at (λ (x : Variable). x.mutable ≡ false) constant_alone.vars (refl, tt)
