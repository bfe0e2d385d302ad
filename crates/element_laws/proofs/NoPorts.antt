-- An operator without output ports is a sink, or it gives nothing: a Custom without ports submits nothing.
use Rattle.std.specs.Prelude.{◌≡◌, ◌<◌, ◌&&◌, ◌⊎◌, nat_le, ℕ, suc, Bool, true, false, List, [], ◌∷◌, ◌++◌, map, length, slice_get, slice_index, is_some, Option, None, Some}
use Rattle.std.specs.Cmp.Derive.{both_true}
use Rattle.std.specs.Option.{option_and_then}
use Rattle.std.proofs.Common.{refl, sym, ap, cond, inl, inr, subst, ◌∙◌, arith}
use Rattle.std.proofs.lemmas.Bool.{and_parts, leb-true}
use Rattle.spl_value.proofs.Lists.{get_below, get_within}
use Rattle.spl_value.specs.declared.item.Item.{Item}
use Rattle.spl_value.specs.declared.item.Item.TheVariants as I
use Rattle.spl_tree.specs.declared.body.Function.{Function}
use Rattle.spl_tree.specs.declared.body.Statement.{Statement}
use Rattle.spl_tree.specs.declared.body.Statement.TheVariants as T
use Rattle.spl_tree.specs.declared.body.Statement.TheOpen as S
use Rattle.spl_tree.specs.declared.body.Statement.TheOpen.{Statement-F}
use Rattle.spl_tree.specs.declared.body.Statement.TheViews.{out-Statement}
use Rattle.spl_tree.specs.declared.body.Statement.TheFolds.{fold_out-Statement, map-Statement}
use Rattle.spl_tree.specs.declared.code.Code.{Code}
use Rattle.spl_tree.specs.declared.code.Marker.TheVariants as M
use Rattle.spl_tree.specs.declared.code.Slot.{Slot}
use Rattle.spl_tree.specs.declared.graph.OpKind.{OpKind}
use Rattle.language_model.specs.declared.checked.CheckedClauses.{CheckedClauses}
use Rattle.language_model.specs.declared.checked.CheckedClauses.TheVariants as A
use Rattle.language_model.specs.declared.checked.Handlers.{Handlers}
use Rattle.language_model.specs.declared.env.Env.{Env}
use Rattle.language_model.specs.declared.outs.Output.{Output}
use Rattle.language_model.specs.declared.scope.Scope.{Scope}
use Rattle.language_model.specs.BodyFits as B
use Rattle.language_model.specs.BodyFits.{OfHandler, with_variable, StatementFits, RowFits, ArmsFit}
use Rattle.language_model.specs.Functions.{bodies_of, runs}
use Rattle.language_model.specs.Keeping.{HandlersFit, PartFits, marker_scope, tuple_scope}
use Rattle.language_model.specs.Keeping as K
use Rattle.language_model.specs.Checking.{fit_ports}
use Rattle.language_model.specs.Kinds.{between, exactly, is_within}
use Rattle.language_model.specs.Outcomes.{Outcome, Done, Faulted, Stuck, followed}
use Rattle.language_model.specs.Statements.{State, Left}
use Rattle.language_model.specs.StreamTypes.{Attributes}
use Rattle.language_model.proofs.Returning.{Only}
use Rattle.stream_model.specs.Bodies.{most_turns, on_each}
use Rattle.stream_model.specs.Chains.{onward, passed}
use Rattle.stream_model.specs.Customs.{custom_body, handler, left_by, marker_env, state}
use Rattle.stream_model.specs.Fitting.{IsFitting}
use Rattle.stream_model.specs.Operators.{Operator, ports}
use Rattle.stream_model.specs.parts.Customs.{tuple_env}
use Rattle.stream_model.specs.PortEvents.{ends_all, is_waiting, port_events}
use Rattle.stream_model.specs.React.{Reaction, Gives, Faults, answer, answered, body, ended, makes_by, own_fault, react}
use Rattle.stream_model.specs.Stages.{gives_all, start}
use Rattle.stream_model.specs.Stream.{Event, is_empty, is_fault}
use Rattle.network_model.specs.Networks.{last_of}
use Rattle.network_model.specs.Sinks.{is_sink}
use Rattle.language_model.proofs.Keeping.{arms_pass, level_passes, statement_passes, row_passes, IsKept, LeftBy, body_keeps}

abbrev never_submits : ℕ → Option (Code Slot) → Bool
never_submits port code = false

abbrev any_variable : ℕ → Bool
any_variable i = true

-- ---- statements that fit don't submit

abbrev passes : Statement → Bool
passes = statement_passes any_variable never_submits

at : (x : Statement) (form : Statement-F Statement) → out-Statement x ≡ form → passes x ≡ level_passes any_variable never_submits (map-Statement Statement Bool passes form)
at x form p = fold_out-Statement Bool (level_passes any_variable never_submits) x ∙ ap (λ y. level_passes any_variable never_submits (map-Statement Statement Bool passes y)) p

abbrev passing_arm : Code Slot × List Statement → Code Slot × List Bool
passing_arm arm = (arm.0, map passes arm.1)

abbrev arms_in : Statement-F Bool → List (Code Slot × List Bool)
arms_in (S.If arms other) = arms
arms_in _ = []

arms_mapped : (arms : List (Code Slot × List Statement)) (other : List Statement) → arms_in (map-Statement Statement Bool passes (S.If arms other)) ≡ map passing_arm arms
arms_mapped [] other = refl
arms_mapped (arm ∷ arms) other = ap (λ rest. passing_arm arm ∷ rest) (arms_mapped arms other)

no_port : (port : ℕ) (own : Attributes) → slice_get [] port ≡ Some own → false ≡ true
no_port port own e = absurd (let no : None ≡ Some own = e in cc)

mutual
  statement_pass : (l : Bool) (scope next : Scope) (x : Statement) → StatementFits (OfHandler []) l scope x next → passes x ≡ true
  statement_pass _ _ _ _ (B.block l scope row h) = at (T.Block row) (S.Block row) (T.outs-Block row) ∙ row_pass l scope row h
  statement_pass _ _ _ _ (B.declare l scope x v f) = at (T.Declare x) (S.Declare x) (T.outs-Declare x)
  statement_pass _ _ _ _ (B.change l scope place change t p f) = at (T.Change place change) (S.Change place change) (T.outs-Change place change)
  statement_pass _ _ _ _ (B.evaluate l scope call xs t f) = at (T.Evaluate _) (S.Evaluate _) (T.outs-Evaluate _)
  statement_pass _ _ _ _ (B.call l scope j xs f there args) = at (T.Call j xs) (S.Call j xs) (T.outs-Call j xs)
  statement_pass _ _ _ _ (B.if_else l scope arms other h k) =
      at (T.If arms other) (S.If arms other) (T.outs-If arms other) ∙ ap (λ bs. arms_pass bs && row_passes any_variable never_submits other) (arms_mapped arms other)
      ∙ both_true (all_arms_pass l scope arms h) (row_pass l scope other k)
  statement_pass _ _ _ _ (B.while l scope x row f h) = at (T.While x row) (S.While x row) (T.outs-While x row) ∙ row_pass true scope row h
  statement_pass _ _ _ _ (B.for_each l scope x row t v f over fixed h) = at (T.For x row) (S.For x row) (T.outs-For x row) ∙ row_pass true (with_variable scope v) row h
  statement_pass _ _ _ _ (B.break scope) = at T.Break S.Break T.outs-Break
  statement_pass _ _ _ _ (B.continue scope) = at T.Continue S.Continue T.outs-Continue
  statement_pass _ _ _ _ (B.return l scope x f) = at (T.Return x) (S.Return x) (T.outs-Return x)
  statement_pass _ _ _ _ (B.submit l scope port x own there f) = at (T.Submit port x) (S.Submit port x) (T.outs-Submit port x) ∙ no_port port own there
  statement_pass _ _ _ _ (B.submit_window l scope port own there) = at (T.SubmitWindow port) (S.SubmitWindow port) (T.outs-SubmitWindow port) ∙ no_port port own there

  row_pass : (l : Bool) (scope : Scope) (row : List Statement) → RowFits (OfHandler []) l scope row → row_passes any_variable never_submits row ≡ true
  row_pass _ _ _ (B.no_statements l scope) = refl
  row_pass _ _ _ (B.statement l scope next x row h k) = both_true (statement_pass l scope next x h) (row_pass l next row k)

  all_arms_pass : (l : Bool) (scope : Scope) (arms : List (Code Slot × List Statement)) → ArmsFit (OfHandler []) l scope arms → arms_pass (map passing_arm arms) ≡ true
  all_arms_pass _ _ _ (B.no_arms l scope) = refl
  all_arms_pass _ _ _ (B.arm l scope x row arms f h k) = both_true (row_pass l scope row h) (all_arms_pass l scope arms k)

-- ---- what bodies submit

abbrev Silent : State → Type 0
Silent s = s.submits ≡ []

silent_kept : (functions : List Function) (turns : ℕ) → IsKept (bodies_of functions turns) any_variable never_submits Silent
silent_kept functions turns = record {
  change = λ s i v p k. k;
  declare = λ s v k. k;
  end = λ s t k l. l;
  tuple = λ s port code turns left v us p e l k. absurd (let no : false ≡ true = p in cc);
  window = λ s port p k. absurd (let no : false ≡ true = p in cc);
}

submits_none : (functions : List Function) (row : List Statement) (env : Env) (turns : ℕ) → row_passes any_variable never_submits row ≡ true
    → Only (λ (left : Left). left.submits ≡ []) (runs functions row env turns)
submits_none functions row env turns h =
    by (runs functions row env turns) (body_keeps (bodies_of functions turns) any_variable never_submits Silent (silent_kept functions turns) row env turns h refl)
  where
    by : (o : Outcome Left) → Only (LeftBy Silent) o → Only (λ (left : Left). left.submits ≡ []) o
    by (Done left turns) h = sym h.2 ∙ h.1
    by (Faulted kind) h = tt
    by Stuck h = tt

-- ---- a Custom

-- an answer gives nothing, or it is a fault
abbrev GivesNone : Reaction → Type 0
GivesNone (Gives outs) = outs ≡ []
GivesNone (Faults kind) = Unit {0}

abbrev RowPasses : Option (List Statement) → Type 0
RowPasses found = (row : List Statement) → found ≡ Some row → row_passes any_variable never_submits row ≡ true

body_none : (functions : List Function) (found : Option (List Statement)) (env : Env) → RowPasses found
    → GivesNone (answer (followed (left_by functions found env) (λ left turns. Done left.submits turns)))
body_none functions None env h = refl
body_none functions (Some row) env h = go (runs functions row env most_turns) (submits_none functions row env most_turns (h row refl)) where
  go : (o : Outcome Left) → Only (λ (left : Left). left.submits ≡ []) o → GivesNone (answer (followed o (λ left turns. Done left.submits turns)))
  go (Done left turns) h = h
  go (Faulted kind) h = tt
  go Stuck h = tt

custom_none : (functions : List Function) (handlers : Handlers) (earlier : List Event) (port : ℕ) (x : Item) → RowPasses (handler handlers.on_tuple port) → RowPasses (handler handlers.on_punct port)
    → GivesNone (answer (custom_body functions handlers earlier port x))
custom_none functions handlers earlier port (I.Tuple vs) t m = body_none functions (handler handlers.on_tuple port) (tuple_env (state functions handlers earlier) vs) t
custom_none functions handlers earlier port I.Window t m = body_none functions (handler handlers.on_punct port) (marker_env (state functions handlers earlier) M.Window) m
custom_none functions handlers earlier port I.Final t m = body_none functions (handler handlers.on_punct port) (marker_env (state functions handlers earlier) M.Final) m
custom_none functions handlers earlier port (I.Bad f) t m = refl

found_at : (bodies : List (Option (List Statement))) (port : ℕ) (row : List Statement) → handler bodies port ≡ Some row → slice_get bodies port ≡ Some (Some row)
found_at bodies port row e = go (slice_get bodies port) refl e where
  go : (o : Option (Option (List Statement))) → slice_get bodies port ≡ o → option_and_then (λ b. b) o ≡ Some row → slice_get bodies port ≡ Some (Some row)
  go None is e = absurd cc
  go (Some None) is e = absurd cc
  go (Some (Some other)) is e = is ∙ ap Some e

tuples_pass : (scope : Scope) (handlers : Handlers) (port : ℕ) → HandlersFit scope [] handlers → RowPasses (handler handlers.on_tuple port)
tuples_pass scope handlers port fit row e =
    let at = found_at handlers.on_tuple port row e in
    let within = get_within handlers.on_tuple port (Some row) at in
    let count : length handlers.on_tuple ≡ length scope.ports = fit.tuples in
    let there = get_below scope.ports port (omega arith) in
    row_pass false (tuple_scope scope handlers.state there.0) row (fit.on_tuple port there.0 row there.1 at)

markers_pass : (scope : Scope) (handlers : Handlers) (port : ℕ) → HandlersFit scope [] handlers → RowPasses (handler handlers.on_punct port)
markers_pass scope handlers port fit row e =
    row_pass false (marker_scope scope handlers.state) row (fit.on_punct port row (found_at handlers.on_punct port row e))

-- ---- operators without output ports

answered-none : (op : Operator) (last : Bool) (r : Reaction) → length op.outs ≡ 0 → GivesNone r → answered op last r ≡ []
answered-none op last (Faults kind) e n = ap (λ m. on_each m (own_fault op kind)) e
answered-none op true (Gives outs) e n = ap (λ (z : List Output). z ++ on_each (length op.outs) I.Final) n ∙ ap (λ m. on_each m I.Final) e
answered-none op false (Gives outs) e n = n

react-none : (op : Operator) (h : List Event) (e : Event) → length op.outs ≡ 0 → GivesNone (body op h e) → react op h e ≡ []
react-none op h e none n = go (is_fault e.item) (is_waiting op h e)
  where
    go : (b d : Bool) → cond b (on_each (length op.outs) e.item) (cond d [] (answered op (ends_all op h e) (body op h e))) ≡ []
    go true d = ap (λ m. on_each m e.item) none
    go false true = refl
    go false false = answered-none op (ends_all op h e) (body op h e) none n

abbrev pub GivesNothing : Operator → Type 0
GivesNothing op = (h : List Event) (e : Event) → react op h e ≡ []

-- it gives nothing, whatever comes
pub all-none : (op : Operator) (seen : List Event) (over : Bool) (events : List Event) → GivesNothing op → gives_all (record { op = op; seen = seen; over = over }) events ≡ []
all-none op seen over [] none = refl
all-none op seen true (e ∷ events) none = all-none op seen true events none
all-none op seen false (e ∷ events) none =
    ap (λ z. z ++ gives_all (record { op = op; seen = e ∷ seen; over = is_some (ended op seen e) }) events) (none seen e) ∙ all-none op (e ∷ seen) (is_some (ended op seen e)) events none

-- and so does a chain that ends with it
pub passed-none : (op : Operator) (ops : List Operator) (events : List Event) → GivesNothing (last_of op ops) → passed (map start ops) (gives_all (start op) events) ≡ []
passed-none op [] events none = all-none op [] false events none
passed-none op (next ∷ ops) events none = passed-none next ops (onward (gives_all (start op) events)) none

exactly-none : (least most n : ℕ) → is_within (between least most) n ≡ true → 0 < least → n ≡ 0 → ⊥
exactly-none least most n e some none = let le = leb-true least n (and_parts (nat_le least n) (nat_le n most) e).0 in omega (arith, le, some, none)

-- of operators without output ports one that is no sink is a Custom, and gives nothing
sink-or-none : (op : Operator) (scope : Scope) (kind : OpKind) (ins outs : List Attributes) (part : CheckedClauses) → PartFits scope kind ins outs part → op.clauses ≡ part → fit_ports kind (length ins) (length outs) ≡ true
    → length outs ≡ 0 → length op.outs ≡ 0 → (is_sink part ≡ true) ⊎ GivesNothing op
sink-or-none op scope _ _ _ _ (K.file_source file strict schema a b) is e none bare = absurd (let z : 1 ≡ 0 = none in omega (arith, z))
sink-or-none op scope _ _ _ _ (K.file_sink file schema a b) is e none bare = inl refl
sink-or-none op scope _ _ _ _ (K.filter condition schema a) is e none bare = absurd (let z : 1 ≡ 0 = none in omega (arith, z))
sink-or-none op scope _ _ _ _ (K.functor condition fields input schema a b d) is e none bare = absurd (let z : 1 ≡ 0 = none in omega (arith, z))
sink-or-none op scope _ _ _ _ (K.punctor condition position schema a) is e none bare = absurd (let z : 1 ≡ 0 = none in omega (arith, z))
sink-or-none op scope _ _ _ _ (K.split index kind schema outs a b) is e none bare = absurd (exactly-none 1 16 (length outs) (and_parts (is_within (exactly 1) 1) (is_within (between 1 16) (length outs)) e).1 (omega arith) none)
sink-or-none op scope _ _ _ _ (K.union places ins schema a b) is e none bare = absurd (let z : 1 ≡ 0 = none in omega (arith, z))
sink-or-none op scope _ _ _ _ (K.custom handlers ins [] fit) is e none bare = inr (λ h e. react-none op h e bare (
    subst (λ part. GivesNone (answer (makes_by part op (port_events op h) (slice_index (ports op) e.input) e.item))) (sym is)
    (custom_none op.functions handlers (port_events op h) (slice_index (ports op) e.input) e.item
    (tuples_pass scope handlers (slice_index (ports op) e.input) fit) (markers_pass scope handlers (slice_index (ports op) e.input) fit))))
sink-or-none op scope _ _ _ _ (K.custom handlers ins (own ∷ outs) fit) is e none bare = absurd (let z : suc (length outs) ≡ 0 = none in omega (arith, z))
sink-or-none op scope _ _ _ _ (K.aggregate window partition group output input schema a b d f h) is e none bare = absurd (let z : 1 ≡ 0 = none in omega (arith, z))
sink-or-none op scope _ _ _ _ (K.join left right condition fields first second schema a b d f h i j) is e none bare = absurd (let z : 1 ≡ 0 = none in omega (arith, z))

-- a sink has no output port
sink-none : (op : Operator) (scope : Scope) (kind : OpKind) (ins outs : List Attributes) (part : CheckedClauses) → PartFits scope kind ins outs part → 0 < length outs → is_sink part ≡ false
sink-none op scope _ _ _ _ (K.file_source file strict schema a b) some = refl
sink-none op scope _ _ _ _ (K.file_sink file schema a b) some = absurd (let z : 0 < 0 = some in omega (arith, z))
sink-none op scope _ _ _ _ (K.filter condition schema a) some = refl
sink-none op scope _ _ _ _ (K.functor condition fields input schema a b d) some = refl
sink-none op scope _ _ _ _ (K.punctor condition position schema a) some = refl
sink-none op scope _ _ _ _ (K.split index kind schema outs a b) some = refl
sink-none op scope _ _ _ _ (K.union places ins schema a b) some = refl
sink-none op scope _ _ _ _ (K.custom handlers ins outs fit) some = refl
sink-none op scope _ _ _ _ (K.aggregate window partition group output input schema a b d f h) some = refl
sink-none op scope _ _ _ _ (K.join left right condition fields first second schema a b d f h i j) some = refl

pub sink-by-ports : (op : Operator) → IsFitting op → (is_sink op.clauses ≡ is_empty op.outs) ⊎ GivesNothing op
sink-by-ports op fit = go op.outs refl
  where
    go : (outs : List ℕ) → op.outs ≡ outs → (is_sink op.clauses ≡ is_empty outs) ⊎ GivesNothing op
    go [] e =
        let bare : length op.outs ≡ 0 = ap length e in
        sink-or-none op fit.scope fit.kind op.types.ins op.types.outs op.clauses fit.clauses refl fit.ports (sym fit.outs ∙ bare) bare
    go (s ∷ outs) e =
        let some : length op.outs ≡ suc (length outs) = ap length e in
        let same : length op.outs ≡ length op.types.outs = fit.outs in
        inl (sink-none op fit.scope fit.kind op.types.ins op.types.outs op.clauses fit.clauses (omega (arith, some, same)))
