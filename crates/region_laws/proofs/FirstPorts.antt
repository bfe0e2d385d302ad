-- A Custom with one output port submits there alone.
use Rattle.std.specs.Prelude.{◌≡◌, ◌==◌, ◌&&◌, ℕ, zero, suc, Bool, true, false, List, [], ◌∷◌, ◌++◌, map, length, slice_get, slice_index, Option, None, Some}
use Rattle.std.specs.Cmp.Derive.{both_true}
use Rattle.std.specs.List.{list_all}
use Rattle.std.specs.Option.{option_and_then}
use Rattle.std.proofs.Common.{refl, sym, ap, subst, ◌∙◌, arith}
use Rattle.std.proofs.lemmas.Bool.{and_from, and_parts}
use Rattle.spl_value.proofs.Lists.{get_below, get_within}
use Rattle.spl_value.specs.declared.item.Item.{Item}
use Rattle.spl_value.specs.declared.item.Item.TheVariants as I
use Rattle.spl_tree.specs.declared.body.Function.{Function}
use Rattle.spl_tree.specs.declared.body.Statement.{Statement}
use Rattle.spl_tree.specs.declared.body.Statement.TheVariants as T
use Rattle.spl_tree.specs.declared.body.Statement.TheOpen as S
use Rattle.spl_tree.specs.declared.body.Statement.TheOpen.{Statement-F}
use Rattle.spl_tree.specs.declared.body.Statement.TheViews.{out-Statement}
use Rattle.spl_tree.specs.declared.body.Statement.TheFolds.{fold_out-Statement, map-Statement}
use Rattle.spl_tree.specs.declared.code.Code.{Code}
use Rattle.spl_tree.specs.declared.code.Marker.TheVariants as M
use Rattle.spl_tree.specs.declared.code.Slot.{Slot}
use Rattle.spl_tree.specs.declared.graph.OpKind.{OpKind}
use Rattle.language_model.specs.declared.checked.CheckedClauses.{CheckedClauses}
use Rattle.language_model.specs.declared.checked.CheckedClauses.TheVariants as A
use Rattle.language_model.specs.declared.checked.Handlers.{Handlers}
use Rattle.language_model.specs.declared.env.Env.{Env}
use Rattle.language_model.specs.declared.outs.Output.{Output}
use Rattle.language_model.specs.declared.scope.Scope.{Scope}
use Rattle.language_model.specs.BodyFits as B
use Rattle.language_model.specs.BodyFits.{OfHandler, with_variable, StatementFits, RowFits, ArmsFit}
use Rattle.language_model.specs.Functions.{bodies_of, runs}
use Rattle.language_model.specs.Keeping.{HandlersFit, PartFits, marker_scope, tuple_scope}
use Rattle.language_model.specs.Keeping as K
use Rattle.language_model.specs.Outcomes.{Outcome, Done, Faulted, Stuck, followed}
use Rattle.language_model.specs.Statements.{State, Left}
use Rattle.language_model.specs.StreamTypes.{Attributes}
use Rattle.language_model.proofs.Returning.{Only}
use Rattle.stream_model.specs.Bodies.{most_turns}
use Rattle.stream_model.specs.Customs.{custom_body, handler, left_by, marker_env, state}
use Rattle.stream_model.specs.Fitting.{IsFitting}
use Rattle.stream_model.specs.Operators.{Operator, ports}
use Rattle.stream_model.specs.parts.Customs.{tuple_env}
use Rattle.stream_model.specs.PortEvents.{port_events}
use Rattle.stream_model.specs.React.{Reaction, answer, makes_by}
use Rattle.stream_model.specs.Stream.{Event}
use Rattle.stream_model.proofs.KindBodies.{given}
use Rattle.region_laws.specs.OneItemLaws.{GivesFirst}
use Rattle.language_model.proofs.Keeping.{arms_pass, level_passes, statement_passes, row_passes, IsKept, LeftBy, body_keeps}

abbrev is_first : ℕ → Bool
is_first p = p == 0

abbrev at_first : ℕ → Option (Code Slot) → Bool
at_first port code = is_first port

abbrev any_variable : ℕ → Bool
any_variable i = true

-- ---- statements that fit submit there alone

module _ (schema : Attributes) where
  abbrev passes : Statement → Bool
  passes = statement_passes any_variable at_first

  at : (x : Statement) (form : Statement-F Statement) → out-Statement x ≡ form → passes x ≡ level_passes any_variable at_first (map-Statement Statement Bool passes form)
  at x form p = fold_out-Statement Bool (level_passes any_variable at_first) x ∙ ap (λ y. level_passes any_variable at_first (map-Statement Statement Bool passes y)) p

  abbrev passing_arm : Code Slot × List Statement → Code Slot × List Bool
  passing_arm arm = (arm.0, map passes arm.1)

  abbrev arms_in : Statement-F Bool → List (Code Slot × List Bool)
  arms_in (S.If arms other) = arms
  arms_in _ = []

  arms_mapped : (arms : List (Code Slot × List Statement)) (other : List Statement) → arms_in (map-Statement Statement Bool passes (S.If arms other)) ≡ map passing_arm arms
  arms_mapped [] other = refl
  arms_mapped (arm ∷ arms) other = ap (λ rest. passing_arm arm ∷ rest) (arms_mapped arms other)

  only_port : (port : ℕ) (own : Attributes) → slice_get (schema ∷ []) port ≡ Some own → is_first port ≡ true
  only_port zero own e = refl
  only_port (suc port) own e = absurd (let no : None ≡ Some own = e in cc)

  mutual
    statement_pass : (l : Bool) (scope next : Scope) (x : Statement) → StatementFits (OfHandler (schema ∷ [])) l scope x next → passes x ≡ true
    statement_pass _ _ _ _ (B.block l scope row h) = at (T.Block row) (S.Block row) (T.outs-Block row) ∙ row_pass l scope row h
    statement_pass _ _ _ _ (B.declare l scope x v f) = at (T.Declare x) (S.Declare x) (T.outs-Declare x)
    statement_pass _ _ _ _ (B.change l scope place change t p f) = at (T.Change place change) (S.Change place change) (T.outs-Change place change)
    statement_pass _ _ _ _ (B.evaluate l scope call xs t f) = at (T.Evaluate _) (S.Evaluate _) (T.outs-Evaluate _)
    statement_pass _ _ _ _ (B.call l scope j xs f there args) = at (T.Call j xs) (S.Call j xs) (T.outs-Call j xs)
    statement_pass _ _ _ _ (B.if_else l scope arms other h k) =
        at (T.If arms other) (S.If arms other) (T.outs-If arms other) ∙ ap (λ bs. arms_pass bs && row_passes any_variable at_first other) (arms_mapped arms other)
        ∙ both_true (all_arms_pass l scope arms h) (row_pass l scope other k)
    statement_pass _ _ _ _ (B.while l scope x row f h) = at (T.While x row) (S.While x row) (T.outs-While x row) ∙ row_pass true scope row h
    statement_pass _ _ _ _ (B.for_each l scope x row t v f over fixed h) = at (T.For x row) (S.For x row) (T.outs-For x row) ∙ row_pass true (with_variable scope v) row h
    statement_pass _ _ _ _ (B.break scope) = at T.Break S.Break T.outs-Break
    statement_pass _ _ _ _ (B.continue scope) = at T.Continue S.Continue T.outs-Continue
    statement_pass _ _ _ _ (B.return l scope x f) = at (T.Return x) (S.Return x) (T.outs-Return x)
    statement_pass _ _ _ _ (B.submit l scope port x own there f) = at (T.Submit port x) (S.Submit port x) (T.outs-Submit port x) ∙ only_port port own there
    statement_pass _ _ _ _ (B.submit_window l scope port own there) = at (T.SubmitWindow port) (S.SubmitWindow port) (T.outs-SubmitWindow port) ∙ only_port port own there

    row_pass : (l : Bool) (scope : Scope) (row : List Statement) → RowFits (OfHandler (schema ∷ [])) l scope row → row_passes any_variable at_first row ≡ true
    row_pass _ _ _ (B.no_statements l scope) = refl
    row_pass _ _ _ (B.statement l scope next x row h k) = both_true (statement_pass l scope next x h) (row_pass l next row k)

    all_arms_pass : (l : Bool) (scope : Scope) (arms : List (Code Slot × List Statement)) → ArmsFit (OfHandler (schema ∷ [])) l scope arms → arms_pass (map passing_arm arms) ≡ true
    all_arms_pass _ _ _ (B.no_arms l scope) = refl
    all_arms_pass _ _ _ (B.arm l scope x row arms f h k) = both_true (row_pass l scope row h) (all_arms_pass l scope arms k)

-- ---- what bodies submit

abbrev all_first : List Output → Bool
all_first outs = list_all (λ o. o.port == 0) outs

one_more : (outs : List Output) (port : ℕ) (x : Item) → is_first port ≡ true → all_first outs ≡ true → all_first (outs ++ record { port = port; item = x } ∷ []) ≡ true
one_more [] port x e h = and_from (port == 0) true e refl
one_more (o ∷ outs) port x e h =
    let both = and_parts (o.port == 0) (all_first outs) h in
    and_from (o.port == 0) (all_first (outs ++ record { port = port; item = x } ∷ [])) both.0 (one_more outs port x e both.1)

abbrev First : State → Type 0
First s = all_first s.submits ≡ true

first_kept : (functions : List Function) (turns : ℕ) → IsKept (bodies_of functions turns) any_variable at_first First
first_kept functions turns = record {
  change = λ s i v p k. k;
  declare = λ s v k. k;
  end = λ s t k l. l;
  tuple = λ s port code turns left v us p e l k. one_more s.submits port (I.Tuple us) p k;
  window = λ s port p k. one_more s.submits port I.Window p k;
}

submits_first : (functions : List Function) (row : List Statement) (env : Env) (turns : ℕ) → row_passes any_variable at_first row ≡ true
    → Only (λ (left : Left). all_first left.submits ≡ true) (runs functions row env turns)
submits_first functions row env turns h =
    by (runs functions row env turns) (body_keeps (bodies_of functions turns) any_variable at_first First (first_kept functions turns) row env turns h refl)
  where
    by : (o : Outcome Left) → Only (LeftBy First) o → Only (λ (left : Left). all_first left.submits ≡ true) o
    by (Done left turns) h = ap all_first (sym h.2) ∙ h.1
    by (Faulted kind) h = tt
    by Stuck h = tt

-- ---- a Custom

abbrev RowPasses : Option (List Statement) → Type 0
RowPasses found = (row : List Statement) → found ≡ Some row → row_passes any_variable at_first row ≡ true

body_first : (functions : List Function) (found : Option (List Statement)) (env : Env) → RowPasses found
    → all_first (given (answer (followed (left_by functions found env) (λ left turns. Done left.submits turns)))) ≡ true
body_first functions None env h = refl
body_first functions (Some row) env h = go (runs functions row env most_turns) (submits_first functions row env most_turns (h row refl)) where
  go : (o : Outcome Left) → Only (λ (left : Left). all_first left.submits ≡ true) o → all_first (given (answer (followed o (λ left turns. Done left.submits turns)))) ≡ true
  go (Done left turns) h = h
  go (Faulted kind) h = refl
  go Stuck h = refl

custom_first : (functions : List Function) (handlers : Handlers) (earlier : List Event) (port : ℕ) (x : Item) → RowPasses (handler handlers.on_tuple port) → RowPasses (handler handlers.on_punct port)
    → all_first (given (answer (custom_body functions handlers earlier port x))) ≡ true
custom_first functions handlers earlier port (I.Tuple vs) t m = body_first functions (handler handlers.on_tuple port) (tuple_env (state functions handlers earlier) vs) t
custom_first functions handlers earlier port I.Window t m = body_first functions (handler handlers.on_punct port) (marker_env (state functions handlers earlier) M.Window) m
custom_first functions handlers earlier port I.Final t m = body_first functions (handler handlers.on_punct port) (marker_env (state functions handlers earlier) M.Final) m
custom_first functions handlers earlier port (I.Bad f) t m = refl

found_at : (bodies : List (Option (List Statement))) (port : ℕ) (row : List Statement) → handler bodies port ≡ Some row → slice_get bodies port ≡ Some (Some row)
found_at bodies port row e = go (slice_get bodies port) refl e where
  go : (o : Option (Option (List Statement))) → slice_get bodies port ≡ o → option_and_then (λ b. b) o ≡ Some row → slice_get bodies port ≡ Some (Some row)
  go None is e = absurd cc
  go (Some None) is e = absurd cc
  go (Some (Some other)) is e = is ∙ ap Some e

tuples_pass : (scope : Scope) (schema : Attributes) (handlers : Handlers) (port : ℕ) → HandlersFit scope (schema ∷ []) handlers → RowPasses (handler handlers.on_tuple port)
tuples_pass scope schema handlers port fit row e =
    let at = found_at handlers.on_tuple port row e in
    let within = get_within handlers.on_tuple port (Some row) at in
    let count : length handlers.on_tuple ≡ length scope.ports = fit.tuples in
    let there = get_below scope.ports port (omega arith) in
    row_pass schema false (tuple_scope scope handlers.state there.0) row (fit.on_tuple port there.0 row there.1 at)

markers_pass : (scope : Scope) (schema : Attributes) (handlers : Handlers) (port : ℕ) → HandlersFit scope (schema ∷ []) handlers → RowPasses (handler handlers.on_punct port)
markers_pass scope schema handlers port fit row e =
    row_pass schema false (marker_scope scope handlers.state) row (fit.on_punct port row (found_at handlers.on_punct port row e))

handlers_fit : (scope : Scope) (kind : OpKind) (ins outs : List Attributes) (handlers : Handlers) → PartFits scope kind ins outs (A.Custom handlers) → HandlersFit scope outs handlers
handlers_fit scope _ _ _ _ (K.custom handlers ins outs fit) = fit

pub first_of_custom : (op : Operator) (t : ℕ) (handlers : Handlers) → IsFitting op → op.outs ≡ t ∷ [] → op.clauses ≡ A.Custom handlers → GivesFirst op
first_of_custom op t handlers fit writes is h e outs b =
    ap (λ (a : Reaction). all_first (given a)) (sym b)
    ∙ ap (λ (part : CheckedClauses). all_first (given (answer (makes_by part op (port_events op h) (slice_index (ports op) e.input) e.item)))) is
    ∙ by_schema op.types.outs refl
  where
    fits : PartFits fit.scope fit.kind op.types.ins op.types.outs (A.Custom handlers)
    fits = subst (λ (part : CheckedClauses). PartFits fit.scope fit.kind op.types.ins op.types.outs part) is fit.clauses

    by_schema : (schemas : List Attributes) → op.types.outs ≡ schemas → all_first (given (answer (custom_body op.functions handlers (port_events op h) (slice_index (ports op) e.input) e.item))) ≡ true
    by_schema [] q = absurd (let one : length op.outs ≡ 1 = ap length writes in let two : length op.outs ≡ length op.types.outs = fit.outs in let none : length op.types.outs ≡ 0 = ap length q in omega arith)
    by_schema (schema ∷ []) q =
        let own : HandlersFit fit.scope (schema ∷ []) handlers = subst (λ (schemas : List Attributes). HandlersFit fit.scope schemas handlers) q (handlers_fit fit.scope fit.kind op.types.ins op.types.outs handlers fits) in
        custom_first op.functions handlers (port_events op h) (slice_index (ports op) e.input) e.item
        (tuples_pass fit.scope schema handlers (slice_index (ports op) e.input) own) (markers_pass fit.scope schema handlers (slice_index (ports op) e.input) own)
    by_schema (schema ∷ (other ∷ more)) q = absurd (let one : length op.outs ≡ 1 = ap length writes in let two : length op.outs ≡ length op.types.outs = fit.outs in let many : length op.types.outs ≡ suc (suc (length more)) = ap length q in omega arith)
