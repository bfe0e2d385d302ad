-- The clauses of an operator that are accepted fit its ports, one kind of operator after another.
use Rattle.std.specs.Prelude.{◌≡◌, ◌↔◌, ◌==◌, ◌<◌, ℕ, zero, suc, nat_le, Bool, true, false, IsTrue, List, [], ◌∷◌, map, length, Option, Some, None, Ok, slice_get, if◌then◌else◌, codes}
use Rattle.std.specs.List.{list_all}
use Rattle.std.specs.Cmp.{first_so, second_so}
use Rattle.std.proofs.Common.{refl, sym, ap, subst, ◌∙◌, arith}
use Rattle.std.proofs.lemmas.Bool.{leb-true}
use Rattle.std.proofs.lemmas.List.{length-map}
use Rattle.spl_value.specs.declared.types.IntKind.{IntKind}
use Rattle.spl_value.specs.declared.types.SplType.TheVariants as S
use Rattle.spl_tree.specs.declared.code.Code.TheVariants as C
use Rattle.spl_tree.specs.declared.graph.Op.{Op}
use Rattle.spl_tree.specs.declared.graph.OpKind.{OpKind}
use Rattle.spl_tree.specs.declared.graph.OpKind.TheVariants as O
use Rattle.spl_tree.specs.declared.unit.Clauses.{Clauses}
use Rattle.spl_tree.specs.declared.unit.OutputAssignments.{OutputAssignments}
use Rattle.spl_tree.specs.declared.unit.OutputStream.{OutputStream}
use Rattle.spl_tree.specs.Trees.{Expr}
use Rattle.language_model.specs.declared.checked.Given.{Given}
use Rattle.language_model.specs.declared.checked.ParameterValue.{ParameterValue}
use Rattle.language_model.specs.declared.checked.CheckedClauses.{CheckedClauses}
use Rattle.language_model.specs.declared.checked.CheckedClauses.TheVariants as A
use Rattle.language_model.specs.declared.checked.Policy.{Policy}
use Rattle.language_model.specs.declared.kinds.Role.{Role}
use Rattle.language_model.specs.declared.kinds.Role.TheVariants as R
use Rattle.language_model.specs.declared.kinds.WindowForm.TheVariants as W
use Rattle.language_model.specs.declared.scope.CheckError.TheVariants as E
use Rattle.language_model.specs.declared.scope.Port.{Port}
use Rattle.language_model.specs.declared.scope.Scope.{Scope}
use Rattle.language_model.specs.Checking.{Checks, are_passed, as_places, clauses_checked, config_checked, first_list, fit_ports, has_text_form, logic_checked, parameters_checked, part_of, plain, rows_checked, there, tuple_of}
use Rattle.language_model.specs.parts.Checking.{aggregated, code_given, file_given, file_sink, file_source, functor, is_partitioned, joined, output_rows, outputs_checked, places_given, position_given, punctor, split, strict_given, union, windows_checked}
use Rattle.language_model.specs.CodeFits.{CodeFits}
use Rattle.language_model.specs.FitLaws.{DollarsFit}
use Rattle.language_model.specs.Keeping as F
use Rattle.language_model.specs.Keeping.{ConditionFits, GroupsFit, HandlersFit, KeysFit, PartFits}
use Rattle.language_model.specs.Kinds.{exactly, is_within, rules_of}
use Rattle.language_model.specs.Literals.{number_literal}
use Rattle.language_model.specs.LogicTyping.{Surroundings, logic_typing}
use Rattle.language_model.specs.OutputTyping.{groups_typing, inputs_typing}
use Rattle.language_model.specs.ParameterTyping.{Site, role_of, value_given}
use Rattle.language_model.specs.parts.ParameterTyping.{first_schema}
use Rattle.language_model.specs.StreamTypes.{Attributes, passed, same_attributes}
use Rattle.language_model.specs.Typing.{after, mismatch, refused}
use Rattle.check_laws.specs.PartsLaw.{PartsLaw}
use Rattle.check_laws.proofs.Accepting.{TypingGives, gives_if, lone, none_at, same_schemas}
use Rattle.check_laws.proofs.LogicFits.{logic_fits}
use Rattle.check_laws.proofs.OutputsFit.{InputsFit, TupleFits, groups_fit, inputs_fit, tuple_fits}
use Rattle.check_laws.proofs.ParametersFit.{AllFit, AsRole, ParametersFit, as_role, condition_given, condition_there, file_there, index_there, parameters_fit, places_there, some_there}
use Rattle.check_laws.proofs.WindowsFit.{Along, WindowsFit, windows_fit}
use Rattle.language_model.proofs.FoundAnswers.{Gives, gives_after, gives_from, gives_then}

abbrev schemas_of : List Port → List Attributes
schemas_of ports = map (λ p. p.schema) ports

-- ---- how many

as_many : (n m : ℕ) → IsTrue (is_within (exactly n) m) → m ≡ n
as_many n m e = omega (arith, leb-true n m (first_so (nat_le n m) (nat_le m n) e), leb-true m n (second_so (nat_le n m) (nat_le m n) e))

empty : {A : Type 0} (xs : List A) → IsTrue (is_within (exactly 0) (length xs)) → xs ≡ []
empty [] e = refl
empty (x ∷ xs) e = absurd (omega (arith, as_many 0 (length (x ∷ xs)) e))

one : {A : Type 0} (xs : List A) → IsTrue (is_within (exactly 1) (length xs)) → (x : A) × (xs ≡ x ∷ [])
one xs e = lone xs (subst (λ n. IsTrue (n == 1)) (sym (as_many 1 (length xs) e)) refl)

two : {A : Type 0} (xs : List A) → IsTrue (is_within (exactly 2) (length xs)) → (x : A) × (y : A) × (xs ≡ x ∷ y ∷ [])
two [] e = absurd cc
two (x ∷ []) e = absurd (omega (arith, as_many 2 (length (x ∷ [])) e))
two (x ∷ y ∷ []) e = (x, y, refl)
two (x ∷ y ∷ z ∷ xs) e = absurd (omega (arith, as_many 2 (length (x ∷ y ∷ z ∷ xs)) e))

-- ---- outputs of the input's type

all_passed : (input : Attributes) (os : List OutputStream) (outs : List Attributes) → length os ≡ length outs → are_passed input os outs ≡ passed
    → (k : ℕ) (own : Attributes) → slice_get outs k ≡ Some own → own ≡ input
all_passed input os [] long e k own at = absurd (none_at k own at)
all_passed input [] (schema ∷ outs) long e k own at = absurd (omega arith)
all_passed input (o ∷ os) (schema ∷ outs) long e k own at =
    let others : length os ≡ length outs = omega arith in
    elim (same_attributes schema input) as (λ b. same_attributes schema input ≡ b → (if b then are_passed input os outs else mismatch o.shape.at) ≡ passed → own ≡ input) [
      | true ↦ λ same e. here_or_later same (all_passed input os outs others e) k at
      | false ↦ λ other e. absurd cc
    ] refl e
  where
    here_or_later : same_attributes schema input ≡ true → ((k : ℕ) (own : Attributes) → slice_get outs k ≡ Some own → own ≡ input) → (k : ℕ)
        → slice_get (schema ∷ outs) k ≡ Some own → own ≡ input
    here_or_later same rest zero at = let is : schema ≡ own = cc in sym is ∙ same_schemas schema input same
    here_or_later same rest (suc k) at = rest k own at

-- ---- without logic

plain_fits : (Q : CheckedClauses → Type 0) (kind : OpKind) (clauses : Clauses) (part : CheckedClauses) → Q part → Gives Q (plain kind clauses part)
plain_fits Q kind clauses part h = gives_then Q (logic_checked kind clauses.logic) _ (λ u is. h)

-- ---- the rows of files

abbrev HaveTextForms : List Attributes → Unit {0} → Type 0
HaveTextForms schemas u = IsTrue (list_all has_text_form schemas)

rows_fit : (x : Checks) (schemas : List Attributes) → Gives (HaveTextForms schemas) (rows_checked x schemas)
rows_fit x schemas = gives_if (HaveTextForms schemas) (list_all has_text_form schemas) passed (refused E.NoTextForm x.at None) (λ h. h) (λ other. tt)

one_text_form : (schemas : List Attributes) (schema : Attributes) → schemas ≡ schema ∷ [] → IsTrue (list_all has_text_form schemas) → IsTrue (has_text_form schema)
one_text_form schemas schema is h = first_so (has_text_form schema) true (subst (λ s. IsTrue (list_all has_text_form s)) is h)

-- ---- keys of an Aggregate

group_role : (partitioned : Bool) → role_of O.Aggregate partitioned (codes "groupBy") ≡ Some R.Attributes
group_role true = refl
group_role false = refl

partition_role : (scope : Scope) (partitioned : Bool) (given : List Given) → AllFit scope O.Aggregate partitioned given
    → AsRole scope R.Attributes (value_given given (codes "partitionBy"))
partition_role scope true given all = as_role scope O.Aggregate true given (codes "partitionBy") R.Attributes all refl
partition_role scope false given all = λ value e. let none : None ≡ Some (all (codes "partitionBy") value e).0 = (all (codes "partitionBy") value e).1 in absurd cc

no_places : (o : Option ParameterValue) → ((value : ParameterValue) → o ≡ Some value → ⊥) → as_places o ≡ []
no_places None h = refl
no_places (Some value) h = absurd (h value refl)

no_partition : (scope : Scope) (partitioned : Bool) (given : List Given) → AllFit scope O.Aggregate partitioned given → partitioned ≡ false
    → places_given given (codes "partitionBy") ≡ []
no_partition scope true given all e = absurd cc
no_partition scope false given all e =
    no_places (value_given given (codes "partitionBy")) (λ value is.
    let none : None ≡ Some (all (codes "partitionBy") value is).0 = (all (codes "partitionBy") value is).1 in absurd cc)

-- a window is partitioned where there are keys for it
some_partition : (scope : Scope) (partitioned : Bool) (given : List Given) → ParametersFit scope O.Aggregate partitioned given
    → IsTrue partitioned ↔ (0 < length (places_given given (codes "partitionBy")))
some_partition scope true given params = (λ is. some_there scope given (codes "partitionBy") (partition_role scope true given params.all) params.there, λ some. refl)
some_partition scope false given params =
    let none : places_given given (codes "partitionBy") ≡ [] = no_partition scope false given params.all refl in
    let count : length (places_given given (codes "partitionBy")) ≡ 0 = ap length none in
    (λ is. absurd cc, λ some. absurd (omega (arith, count)))

-- ---- one kind after another

module _ (laws : TypingGives) (x : Checks) (bare : x.around.scope.vars ≡ []) (fine : DollarsFit x.around.scope.dollars) where
  abbrev Fit : OpKind → CheckedClauses → Type 0
  Fit kind part = PartFits x.around.scope kind (schemas_of x.around.scope.ports) x.around.schemas part

  abbrev FitPorts : OpKind → Type 0
  FitPorts kind = IsTrue (fit_ports kind (length x.around.scope.ports) (length x.around.schemas))

  inputs_within : (kind : OpKind) → FitPorts kind → IsTrue (is_within (rules_of kind).inputs (length x.around.scope.ports))
  inputs_within kind count =
      first_so (is_within (rules_of kind).inputs (length x.around.scope.ports)) (is_within (rules_of kind).outputs (length x.around.schemas)) count

  outputs_within : (kind : OpKind) → FitPorts kind → IsTrue (is_within (rules_of kind).outputs (length x.around.schemas))
  outputs_within kind count =
      second_so (is_within (rules_of kind).inputs (length x.around.scope.ports)) (is_within (rules_of kind).outputs (length x.around.schemas)) count

  abbrev Passing : OpKind → Type 0
  Passing kind = (os : List OutputStream) × (length os ≡ length x.around.schemas) × (outputs_checked kind os x.around.schemas (schemas_of x.around.scope.ports) ≡ passed)

  -- what fits these ports
  at_ports : (kind : OpKind) (part : CheckedClauses) (ports : List Port) (outs : List Attributes) → x.around.scope.ports ≡ ports → x.around.schemas ≡ outs
      → PartFits x.around.scope kind (schemas_of ports) outs part → Fit kind part
  at_ports kind part ports outs ins_are outs_are h =
      subst (λ ins. PartFits x.around.scope kind (schemas_of ins) x.around.schemas part) (sym ins_are)
      (subst (λ own. PartFits x.around.scope kind (schemas_of ports) own part) (sym outs_are) h)

  abbrev Parameters : OpKind → Type 0
  Parameters kind = ParametersFit x.around.scope kind (is_partitioned x.windows) x.given

  has_role : (kind : OpKind) → Parameters kind → (name : List ℕ) (role : Role) → role_of kind (is_partitioned x.windows) name ≡ Some role
      → AsRole x.around.scope role (value_given x.given name)
  has_role kind params name role is = as_role x.around.scope kind (is_partitioned x.windows) x.given name role params.all is

  condition_fits : (kind : OpKind) → Parameters kind → (name : List ℕ) → role_of kind (is_partitioned x.windows) name ≡ Some R.Condition
      → ConditionFits x.around.scope (code_given x.given name)
  condition_fits kind params name is = condition_given x.around.scope (value_given x.given name) (has_role kind params name R.Condition is)

  -- the tuple that is made for the one output
  tuple_for : (schema : Attributes) (rows : List OutputAssignments) → x.around.schemas ≡ schema ∷ [] → Gives (TupleFits x.around.scope schema) (tuple_of x rows)
  tuple_for schema rows is =
      subst (λ s. Gives (TupleFits x.around.scope s) (tuple_of x rows)) (ap first_list is)
      (tuple_fits laws x.around.scope bare fine x.at (first_list x.around.schemas) (first_list x.around.outputs) rows)

  source_fits : (clauses : Clauses) → FitPorts O.FileSource → Parameters O.FileSource → Gives (Fit O.FileSource) (file_source x clauses)
  source_fits clauses count params =
      let none = empty x.around.scope.ports (inputs_within O.FileSource count) in
      let single = one x.around.schemas (outputs_within O.FileSource count) in
      gives_then (Fit O.FileSource) (logic_checked O.FileSource clauses.logic) _ (λ u bare.
      gives_after (HaveTextForms x.around.schemas) (Fit O.FileSource) (rows_checked x x.around.schemas) _ (rows_fit x x.around.schemas) (λ v text.
      at_ports O.FileSource (A.FileSource (file_given x.given) (strict_given x.given)) [] (single.0 ∷ []) none single.1
      (F.file_source (file_given x.given) (strict_given x.given) single.0
      (file_there x.around.scope x.given (codes "file") (has_role O.FileSource params (codes "file") R.File refl) params.there)
      (one_text_form x.around.schemas single.0 single.1 text))))

  sink_fits : (clauses : Clauses) → FitPorts O.FileSink → Parameters O.FileSink → Gives (Fit O.FileSink) (file_sink x clauses)
  sink_fits clauses count params =
      let single = one x.around.scope.ports (inputs_within O.FileSink count) in
      let none = empty x.around.schemas (outputs_within O.FileSink count) in
      gives_then (Fit O.FileSink) (logic_checked O.FileSink clauses.logic) _ (λ u bare.
      gives_after (HaveTextForms (schemas_of x.around.scope.ports)) (Fit O.FileSink) (rows_checked x (schemas_of x.around.scope.ports)) _ (rows_fit x (schemas_of x.around.scope.ports)) (λ v text.
      at_ports O.FileSink (A.FileSink (file_given x.given)) (single.0 ∷ []) [] single.1 none
      (F.file_sink (file_given x.given) single.0.schema
      (file_there x.around.scope x.given (codes "file") (has_role O.FileSink params (codes "file") R.File refl) params.there)
      (one_text_form (schemas_of x.around.scope.ports) single.0.schema (ap schemas_of single.1) text))))

  -- where tuples are passed on, the outputs have the input's attributes
  passed_on : (kind : OpKind) → (rules_of kind).passes_on ≡ true → Passing kind → (port : Port) → x.around.scope.ports ≡ port ∷ []
      → (k : ℕ) (own : Attributes) → slice_get x.around.schemas k ≡ Some own → own ≡ port.schema
  passed_on kind on passing port is =
      all_passed port.schema passing.0 x.around.schemas passing.1
      (subst (λ b. (if b then are_passed port.schema passing.0 x.around.schemas else passed) ≡ passed) on
      (subst (λ ports. outputs_checked kind passing.0 x.around.schemas (schemas_of ports) ≡ passed) is passing.2))

  filter_fits : (clauses : Clauses) → FitPorts O.Filter → Passing O.Filter → Parameters O.Filter → Gives (Fit O.Filter) (plain O.Filter clauses (A.Filter (code_given x.given (codes "filter"))))
  filter_fits clauses count passing params =
      let input = one x.around.scope.ports (inputs_within O.Filter count) in
      let output = one x.around.schemas (outputs_within O.Filter count) in
      let same = passed_on O.Filter refl passing input.0 input.1 0 output.0 (ap (λ (s : List Attributes). slice_get s 0) output.1) in
      plain_fits (Fit O.Filter) O.Filter clauses (A.Filter (code_given x.given (codes "filter")))
      (at_ports O.Filter (A.Filter (code_given x.given (codes "filter"))) (input.0 ∷ []) (input.0.schema ∷ []) input.1 (output.1 ∙ ap (λ (s : Attributes). s ∷ []) same)
      (F.filter (code_given x.given (codes "filter")) input.0.schema (condition_fits O.Filter params (codes "filter") refl)))

  functor_fits : (clauses : Clauses) (rows : List OutputAssignments) → FitPorts O.Functor → Parameters O.Functor → Gives (Fit O.Functor) (functor x clauses rows)
  functor_fits clauses rows count params =
      let input = one x.around.scope.ports (inputs_within O.Functor count) in
      let output = one x.around.schemas (outputs_within O.Functor count) in
      let condition = code_given x.given (codes "filter") in
      gives_after (TupleFits x.around.scope output.0) (Fit O.Functor) (tuple_of x rows) _ (tuple_for output.0 rows output.1) (λ code tuple.
      plain_fits (Fit O.Functor) O.Functor clauses (A.Functor condition code)
      (subst (λ c. Fit O.Functor (A.Functor condition c)) (sym tuple.is)
      (at_ports O.Functor (A.Functor condition (C.Tuple tuple.fields)) (input.0 ∷ []) (output.0 ∷ []) input.1 output.1
      (F.functor condition tuple.fields input.0.schema output.0 (condition_fits O.Functor params (codes "filter") refl) tuple.fit tuple.once))))

  punctor_fits : (clauses : Clauses) → FitPorts O.Punctor → Passing O.Punctor → Parameters O.Punctor → Gives (Fit O.Punctor) (punctor x clauses)
  punctor_fits clauses count passing params =
      let input = one x.around.scope.ports (inputs_within O.Punctor count) in
      let output = one x.around.schemas (outputs_within O.Punctor count) in
      let same = passed_on O.Punctor refl passing input.0 input.1 0 output.0 (ap (λ (s : List Attributes). slice_get s 0) output.1) in
      gives_after (λ code. CodeFits x.around.scope code S.Bool) (Fit O.Punctor) (there x.at (code_given x.given (codes "punctuation"))) _
      (condition_there x.around.scope x.at (value_given x.given (codes "punctuation")) (has_role O.Punctor params (codes "punctuation") R.Condition refl)) (λ condition fit.
      gives_then (Fit O.Punctor) (there x.at (position_given x.given)) _ (λ position is.
      plain_fits (Fit O.Punctor) O.Punctor clauses (A.Punctor condition position)
      (at_ports O.Punctor (A.Punctor condition position) (input.0 ∷ []) (input.0.schema ∷ []) input.1 (output.1 ∙ ap (λ (s : Attributes). s ∷ []) same)
      (F.punctor condition position input.0.schema fit))))

  split_fits : (clauses : Clauses) → FitPorts O.Split → Passing O.Split → Parameters O.Split → Gives (Fit O.Split) (split x clauses)
  split_fits clauses count passing params =
      let input = one x.around.scope.ports (inputs_within O.Split count) in
      gives_after (λ code. (kind : IntKind) × CodeFits x.around.scope code (S.Int kind)) (Fit O.Split) (there x.at (code_given x.given (codes "index"))) _
      (index_there x.around.scope x.at (value_given x.given (codes "index")) (has_role O.Split params (codes "index") R.Index refl)) (λ index fit.
      plain_fits (Fit O.Split) O.Split clauses (A.Split index)
      (at_ports O.Split (A.Split index) (input.0 ∷ []) x.around.schemas input.1 refl
      (F.split index fit.0 input.0.schema x.around.schemas fit.1 (passed_on O.Split refl passing input.0 input.1))))

  union_fits : (clauses : Clauses) → FitPorts O.Union → Gives (Fit O.Union) (union x clauses)
  union_fits clauses count =
      let output = one x.around.schemas (outputs_within O.Union count) in
      gives_after (InputsFit output.0 x.around.scope.ports) (Fit O.Union) (inputs_typing x.at (first_list x.around.schemas) x.around.scope.ports) _
      (subst (λ s. Gives (InputsFit s x.around.scope.ports) (inputs_typing x.at (first_list x.around.schemas) x.around.scope.ports)) (ap first_list output.1)
      (inputs_fit x.at (first_list x.around.schemas) x.around.scope.ports)) (λ places fit.
      plain_fits (Fit O.Union) O.Union clauses (A.Union places)
      (at_ports O.Union (A.Union places) x.around.scope.ports (output.0 ∷ []) refl output.1
      (F.union places (schemas_of x.around.scope.ports) output.0 (fit.count ∙ sym (length-map x.around.scope.ports (λ p. p.schema))) fit.fit)))

  custom_fits : (clauses : Clauses) → Gives (Fit O.Custom) (after (logic_typing x.around clauses.logic) (λ handlers. Ok (A.Custom handlers)))
  custom_fits clauses =
      gives_after (HandlersFit x.around.scope x.around.schemas) (Fit O.Custom) (logic_typing x.around clauses.logic) _ (logic_fits laws x.around fine clauses.logic) (λ handlers fit.
      F.custom handlers (schemas_of x.around.scope.ports) x.around.schemas fit)

  -- the keys of an Aggregate's only port
  keys_fit : (port : Port) → x.around.scope.ports ≡ port ∷ [] → (name : List ℕ) → AsRole x.around.scope R.Attributes (value_given x.given name)
      → KeysFit port.schema (places_given x.given name)
  keys_fit port is name h =
      subst (λ s. KeysFit s (places_given x.given name)) (ap first_schema is) (places_there x.around.scope (value_given x.given name) h)

  aggregated_fits : (clauses : Clauses) (rows : List OutputAssignments) → FitPorts O.Aggregate → Parameters O.Aggregate → (windows : List Policy) → x.windows ≡ windows
      → Along W.Aggregate x.around.scope.ports windows → Gives (Fit O.Aggregate) (aggregated x clauses rows windows)
  aggregated_fits clauses rows count params [] are along = tt
  aggregated_fits clauses rows count params (window ∷ windows) are along =
      let input = one x.around.scope.ports (inputs_within O.Aggregate count) in
      let output = one x.around.schemas (outputs_within O.Aggregate count) in
      let on_port : Along W.Aggregate (input.0 ∷ []) (window ∷ windows) = subst (λ ports. Along W.Aggregate ports (window ∷ windows)) input.1 along in
      let partitioned : is_partitioned x.windows ≡ window.partitioned = ap is_partitioned are in
      let partition = places_given x.given (codes "partitionBy") in
      let group = places_given x.given (codes "groupBy") in
      gives_after (GroupsFit x.around.scope output.0) (Fit O.Aggregate)
      (groups_typing x.around.scope x.at (first_list x.around.schemas) (first_list x.around.outputs) rows) _
      (subst (λ s. Gives (GroupsFit x.around.scope s) (groups_typing x.around.scope x.at (first_list x.around.schemas) (first_list x.around.outputs) rows)) (ap first_list output.1)
      (groups_fit laws x.around.scope bare fine x.at (first_list x.around.schemas) (first_list x.around.outputs) rows)) (λ groups fit.
      plain_fits (Fit O.Aggregate) O.Aggregate clauses (A.Aggregate window partition group groups)
      (at_ports O.Aggregate (A.Aggregate window partition group groups) (input.0 ∷ []) (output.0 ∷ []) input.1 output.1
      (F.aggregate window partition group groups input.0.schema output.0 on_port.0
      (keys_fit input.0 input.1 (codes "partitionBy") (partition_role x.around.scope (is_partitioned x.windows) x.given params.all))
      (subst (λ b. IsTrue b ↔ (0 < length partition)) partitioned (some_partition x.around.scope (is_partitioned x.windows) x.given params))
      (keys_fit input.0 input.1 (codes "groupBy") (has_role O.Aggregate params (codes "groupBy") R.Attributes (group_role (is_partitioned x.windows))))
      fit)))

  joined_fits : (clauses : Clauses) (rows : List OutputAssignments) → FitPorts O.Join → Parameters O.Join → (windows : List Policy)
      → Along W.Join x.around.scope.ports windows → Gives (Fit O.Join) (joined x clauses rows windows)
  joined_fits clauses rows count params [] along = tt
  joined_fits clauses rows count params (left ∷ []) along = tt
  joined_fits clauses rows count params (left ∷ right ∷ windows) along =
      let inputs = two x.around.scope.ports (inputs_within O.Join count) in
      let output = one x.around.schemas (outputs_within O.Join count) in
      let on_ports : Along W.Join (inputs.0 ∷ inputs.1 ∷ []) (left ∷ right ∷ windows) = subst (λ ports. Along W.Join ports (left ∷ right ∷ windows)) inputs.2 along in
      let condition = code_given x.given (codes "match") in
      gives_after (TupleFits x.around.scope output.0) (Fit O.Join) (tuple_of x rows) _ (tuple_for output.0 rows output.1) (λ code tuple.
      plain_fits (Fit O.Join) O.Join clauses (A.Join left right condition code)
      (subst (λ c. Fit O.Join (A.Join left right condition c)) (sym tuple.is)
      (at_ports O.Join (A.Join left right condition (C.Tuple tuple.fields)) (inputs.0 ∷ inputs.1 ∷ []) (output.0 ∷ []) inputs.2 output.1
      (F.join left right condition tuple.fields inputs.0.schema inputs.1.schema output.0 on_ports.0.0 on_ports.1.0.0 on_ports.0.1 on_ports.1.0.1
      (condition_fits O.Join params (codes "match") refl) tuple.fit tuple.once))))

  pub part_fits : (clauses : Clauses) (rows : List OutputAssignments) (kind : OpKind) → FitPorts kind → Passing kind → WindowsFit (rules_of kind).window x.around.scope.ports x.windows
      → Parameters kind → Gives (Fit kind) (part_of x clauses rows kind)
  part_fits clauses rows O.FileSource count passing windows params = source_fits clauses count params
  part_fits clauses rows O.FileSink count passing windows params = sink_fits clauses count params
  part_fits clauses rows O.Filter count passing windows params = filter_fits clauses count passing params
  part_fits clauses rows O.Functor count passing windows params = functor_fits clauses rows count params
  part_fits clauses rows O.Punctor count passing windows params = punctor_fits clauses count passing params
  part_fits clauses rows O.Split count passing windows params = split_fits clauses count passing params
  part_fits clauses rows O.Union count passing windows params = union_fits clauses count
  part_fits clauses rows O.Custom count passing windows params = custom_fits clauses
  part_fits clauses rows O.Aggregate count passing windows params = aggregated_fits clauses rows count params x.windows refl windows
  part_fits clauses rows O.Join count passing windows params = joined_fits clauses rows count params x.windows windows

-- ---- the clauses

-- what may be named in a scope, and what its `$` parameters mean
abbrev in_scope : Scope → (Expr → Option Expr) → Site
in_scope scope follow = record { scope = scope; follow = follow }

clauses_fit : TypingGives → (follow : Expr → Option Expr) (op : Op) (around : Surroundings) (clauses : Clauses) → around.scope.vars ≡ [] → DollarsFit around.scope.dollars
    → IsTrue (fit_ports op.kind (length around.scope.ports) (length around.schemas))
    → (os : List OutputStream) → length os ≡ length around.schemas → outputs_checked op.kind os around.schemas (schemas_of around.scope.ports) ≡ passed
    → Gives (PartFits around.scope op.kind (schemas_of around.scope.ports) around.schemas) (clauses_checked op (in_scope around.scope follow) around clauses)
clauses_fit laws follow op around clauses bare fine count os long outs =
    let site = in_scope around.scope follow in
    let Q : CheckedClauses → Type 0 = PartFits around.scope op.kind (schemas_of around.scope.ports) around.schemas in
    gives_then Q (config_checked clauses.config) _ (λ u none.
    gives_after (WindowsFit (rules_of op.kind).window around.scope.ports) Q (windows_checked op.kind (number_literal around.scope follow) op.at around.scope.ports clauses.window) _
    (windows_fit (rules_of op.kind).window (number_literal around.scope follow) op.at around.scope.ports clauses.window) (λ windows fit_windows.
    gives_after (ParametersFit around.scope op.kind (is_partitioned windows)) Q (parameters_checked site op.kind (is_partitioned windows) op.at clauses.parameters) _
    (parameters_fit laws site fine op.kind (is_partitioned windows) op.at clauses.parameters) (λ given params.
    gives_then Q (output_rows op.kind clauses.output) _ (λ rows is.
    part_fits laws (record { at = op.at; around = around; windows = windows; given = given }) bare fine clauses rows op.kind count (os, long, outs) fit_windows params))))

pub parts_law : TypingGives → PartsLaw
parts_law laws site op around clauses part same bare unmarked fine count os long outs found =
    let back : site.scope ≡ around.scope = sym same in
    let fits : PartFits around.scope op.kind (schemas_of around.scope.ports) around.schemas part =
    gives_from (PartFits around.scope op.kind (schemas_of around.scope.ports) around.schemas)
    (clauses_checked op (in_scope around.scope site.follow) around clauses) part
    (clauses_fit laws site.follow op around clauses
    (subst (λ (s : Scope). s.vars ≡ []) back bare)
    (subst (λ (s : Scope). DollarsFit s.dollars) back fine)
    (subst (λ (s : Scope). IsTrue (fit_ports op.kind (length s.ports) (length around.schemas))) back count)
    os long
    (subst (λ (s : Scope). outputs_checked op.kind os around.schemas (schemas_of s.ports) ≡ passed) back outs))
    (subst (λ (s : Scope). clauses_checked op (in_scope s site.follow) around clauses ≡ Ok part) back found) in
    subst (λ (s : Scope). PartFits s op.kind (schemas_of s.ports) around.schemas part) same fits
