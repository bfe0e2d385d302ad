-- What each change of a variable, each new variable and each submit keeps, bodies keep.
use Rattle.std.specs.Prelude.{◌≡◌, ◌&&◌, ℕ, zero, suc, Bool, true, List, [], ◌∷◌, map, Option, None, Some, slice_get, slice_set}
use Rattle.std.specs.List.{AllByRecursion, list_all}
use Rattle.std.proofs.Common.{refl, sym, ap, subst, ◌∙◌}
use Rattle.spl_value.specs.declared.item.FaultKind.TheVariants as X
use Rattle.spl_value.specs.declared.item.Item.TheVariants as I
use Rattle.spl_value.specs.declared.value.Value.{Value}
use Rattle.spl_value.specs.declared.value.Value.TheViews.{out-Value}
use Rattle.spl_value.proofs.Bools.{and_left, and_right}
use Rattle.spl_tree.specs.declared.body.Change.{Change}
use Rattle.spl_tree.specs.declared.body.Place.{Place}
use Rattle.spl_tree.specs.declared.body.Statement.{Statement}
use Rattle.spl_tree.specs.declared.body.Statement.TheVariants as T
use Rattle.spl_tree.specs.declared.body.Statement.TheOpen as S
use Rattle.spl_tree.specs.declared.body.Statement.TheOpen.{Statement-F}
use Rattle.spl_tree.specs.declared.body.Statement.TheViews.{out-Statement}
use Rattle.spl_tree.specs.declared.body.Statement.TheFolds.{fold-Statement, fold_out-Statement, map-Statement}
use Rattle.spl_tree.specs.declared.code.Code.{Code}
use Rattle.spl_tree.specs.declared.code.Slot.{Slot}
use Rattle.language_model.specs.declared.env.Env.{Env}
use Rattle.language_model.specs.declared.flow.Flow.{Flow}
use Rattle.language_model.specs.declared.flow.Flow.TheVariants as F
use Rattle.language_model.specs.Changes.{changed, change_of}
use Rattle.language_model.specs.Evaluation.{all_of, code_value, world_of}
use Rattle.language_model.specs.Outcomes.{Done, Faulted, settled}
use Rattle.language_model.specs.StatementLaws.{arms_act, block_is, declare_is, change_is, evaluate_is, call_is, if_is, while_is, for_is, break_is, continue_is, return_is, submit_is, submit_window_is}
use Rattle.language_model.specs.Statements.{State, Acts, Bodies, Left, calls_by, value_in, truth_in, with_vars, declared, scoped, submitted, change_values, then_rest, then_again, turn_while, turns_while, turns_over, level_elements, level_tuple, body_leaves}
use Rattle.language_model.proofs.parts.Statements.{ended, left_by}
use Rattle.language_model.specs.parts.Statements.{return_acts, statement_acts, row_acts}
use Rattle.language_model.proofs.Returning.{Only, only_followed, only_either, only_enter, only_is, need_is}
use Rattle.language_model.proofs.StatementInduction.{OfArm, StatementSteps, statement_ind}

-- ---- what statements change and submit

-- each of a row passes
abbrev pub all_pass : List Bool → Bool
all_pass row = list_all (λ b. b) row

abbrev pub arms_pass : List (Code Slot × List Bool) → Bool
arms_pass arms = list_all (λ arm. all_pass arm.1) arms

abbrev pub level_passes : (ℕ → Bool) → (ℕ → Option (Code Slot) → Bool) → Statement-F Bool → Bool
level_passes changes submits (S.Block row) = all_pass row
level_passes changes submits (S.Change place change) = changes place.variable
level_passes changes submits (S.If arms other) = arms_pass arms && all_pass other
level_passes changes submits (S.While code row) = all_pass row
level_passes changes submits (S.For code row) = all_pass row
level_passes changes submits (S.Submit port code) = submits port (Some code)
level_passes changes submits (S.SubmitWindow port) = submits port None
level_passes changes submits _ = true

-- each variable that is changed passes the first test, and each submit the second, by its port and, where it is one of a tuple, by its code
abbrev pub statement_passes : (ℕ → Bool) → (ℕ → Option (Code Slot) → Bool) → Statement → Bool
statement_passes changes submits = fold-Statement Bool (level_passes changes submits)

abbrev pub row_passes : (ℕ → Bool) → (ℕ → Option (Code Slot) → Bool) → List Statement → Bool
row_passes changes submits row = all_pass (map (statement_passes changes submits) row)

-- a fact of states that is kept by each change of a variable that passes the first test, by a new variable, by the end of variables, and by
-- each submit that passes the second test
pub record IsKept (bodies : Bodies) (changes : ℕ → Bool) (submits : ℕ → Option (Code Slot) → Bool) (Kept : State → Type 0) : Type 0 where
  pub change : (s : State) (i : ℕ) (v : Value) → changes i ≡ true → Kept s → Kept (with_vars s (slice_set s.env.vars i v))
  pub declare : (s : State) (v : Value) → Kept s → Kept (declared s v)
  pub end : (s t : State) → Kept s → Kept t → Kept (ended s t)
  pub tuple : (s : State) (port : ℕ) (code : Code Slot) (turns left : ℕ) (v : Value) (us : List Value) → submits port (Some code) ≡ true → value_in bodies code s turns ≡ Done v left
      → level_tuple (out-Value v) ≡ Some us → Kept s → Kept (submitted s port (I.Tuple us))
  pub window : (s : State) (port : ℕ) → submits port None ≡ true → Kept s → Kept (submitted s port I.Window)

module _ (bodies : Bodies) (changes : ℕ → Bool) (submits : ℕ → Option (Code Slot) → Bool) (Kept : State → Type 0) (kept : IsKept bodies changes submits Kept) where
  abbrev pub After : Flow × State → Type 0
  After w = Kept w.1

  abbrev pub Keeps : Acts → Type 0
  Keeps acts = (s : State) → Kept s → (turns : ℕ) → Only After (acts s turns)

  keeps_by : (acts other : Acts) → ((s : State) (turns : ℕ) → acts s turns ≡ other s turns) → Keeps other → Keeps acts
  keeps_by acts other e h s k turns = subst (Only After) (sym (e s turns)) (h s k turns)

  pub scoped_keeps : (acts : Acts) → Keeps acts → Keeps (scoped acts)
  scoped_keeps acts h s k turns = only_followed After After (acts s turns) _ (h s k turns) (λ w turns a. kept.end s w.1 k a)

  rest_keeps : (rest : Acts) → Keeps rest → (w : Flow × State) (turns : ℕ) → After w → Only After (then_rest w turns rest)
  rest_keeps rest h (F.Next, s) turns a = h s a turns
  rest_keeps rest h (F.Broken, s) turns a = a
  rest_keeps rest h (F.Continued, s) turns a = a
  rest_keeps rest h (F.Returned v, s) turns a = a

  abbrev Fine : Statement → Type 0
  Fine x = statement_passes changes submits x ≡ true → Keeps (statement_acts bodies x)

  pub row_keeps : (row : List Statement) → AllByRecursion Fine row → row_passes changes submits row ≡ true → Keeps (row_acts bodies row)
  row_keeps [] h e s k turns = k
  row_keeps (x ∷ row) h e s k turns =
      let first = and_left (statement_passes changes submits x) (row_passes changes submits row) e in
      let rest = and_right (statement_passes changes submits x) (row_passes changes submits row) e in
      only_followed After After (statement_acts bodies x s turns) _ (h.0 first s k turns) (λ w turns a. rest_keeps (row_acts bodies row) (row_keeps row h.1 rest) w turns a)

  abbrev passing_arm : Code Slot × List Statement → Code Slot × List Bool
  passing_arm arm = (arm.0, map (statement_passes changes submits) arm.1)

  arms_keep : (arms : List (Code Slot × List Statement)) (other : List Statement) → AllByRecursion (OfArm Fine) arms → AllByRecursion Fine other
      → arms_pass (map passing_arm arms) ≡ true → row_passes changes submits other ≡ true → Keeps (arms_act bodies arms other)
  arms_keep [] other h k e f s i turns = scoped_keeps (row_acts bodies other) (row_keeps other k f) s i turns
  arms_keep (arm ∷ arms) other h k e f s i turns =
      let first = and_left (row_passes changes submits arm.1) (arms_pass (map passing_arm arms)) e in
      let rest = and_right (row_passes changes submits arm.1) (arms_pass (map passing_arm arms)) e in
      only_is After (truth_in bodies arm.0 s turns) _ (λ b turns t.
      only_either After b (scoped (row_acts bodies arm.1) s turns) (arms_act bodies arms other s turns)
      (scoped_keeps (row_acts bodies arm.1) (row_keeps arm.1 h.0 first) s i turns) (arms_keep arms other h.1 k rest f s i turns))

  again_keeps : (again : Acts) → Keeps again → (w : Flow × State) (turns : ℕ) → After w → Only After (then_again w turns again)
  again_keeps again h (F.Next, s) turns a = h s a turns
  again_keeps again h (F.Continued, s) turns a = h s a turns
  again_keeps again h (F.Broken, s) turns a = a
  again_keeps again h (F.Returned v, s) turns a = a

  module _ (code : Code Slot) (body : Acts) (h : Keeps body) where
    turn_keeps : (again : Acts) → Keeps again → Keeps (turn_while bodies code body again)
    turn_keeps again k s i turns =
        only_is After (truth_in bodies code s turns) _ (λ b turns t.
        only_either After b _ (Done (F.Next, s) turns)
        (only_enter After turns _ (λ turns. only_followed After After (body s turns) _ (h s i turns) (again_keeps again k)))
        i)

    turns_keep : (n : ℕ) → Keeps (turns_while n bodies code body)
    turns_keep zero = turn_keeps (λ s turns. Faulted X.Turns) (λ s i turns. tt)
    turns_keep (suc n) = turn_keeps (turns_while n bodies code body) (turns_keep n)

    over_keeps : (vs : List Value) → Keeps (turns_over vs body)
    over_keeps [] s i turns = i
    over_keeps (v ∷ vs) s i turns =
        only_enter After turns _ (λ turns.
        only_followed After After (scoped (λ s turns. body (declared s v) turns) s turns) _
        (scoped_keeps (λ s turns. body (declared s v) turns) (λ s i turns. h (declared s v) (kept.declare s v i) turns) s i turns)
        (again_keeps (turns_over vs body) (over_keeps vs)))

  -- ---- statements

  fine_by : (x : Statement) (form : Statement-F Statement) → out-Statement x ≡ form
      → (level_passes changes submits (map-Statement Statement Bool (statement_passes changes submits) form) ≡ true → Keeps (statement_acts bodies x)) → Fine x
  fine_by x form p h e =
      h (sym (fold_out-Statement Bool (level_passes changes submits) x ∙ ap (λ y. level_passes changes submits (map-Statement Statement Bool (statement_passes changes submits) y)) p) ∙ e)

  change_keeps : (place : Place) (change : Change (Code Slot)) → changes place.variable ≡ true → Keeps (statement_acts bodies (T.Change place change))
  change_keeps place change e = keeps_by (statement_acts bodies (T.Change place change)) _ (change_is bodies place change) (λ s i turns.
      only_is After (change_values bodies place change s turns) _ (λ w turns t.
      need_is After (slice_get s.env.vars place.variable) _ (λ old o.
      only_is After (settled (changed w.0 (change_of w.1) (Some old)) turns) _ (λ new turns t. kept.change s place.variable new e i))))

  call_keeps : (i : ℕ) (codes : List (Code Slot)) → Keeps (statement_acts bodies (T.Call i codes))
  call_keeps i codes = keeps_by (statement_acts bodies (T.Call i codes)) _ (call_is bodies i codes) (λ s k turns.
      only_is After (all_of (map (code_value (calls_by bodies)) codes) (world_of s.env) turns) _ (λ values turns t.
      only_enter After turns _ (λ turns.
      only_is After (bodies i values turns) _ (λ returned turns t. k))))

  return_keeps : (code : Option (Code Slot)) → Keeps (return_acts bodies code)
  return_keeps None s i turns = i
  return_keeps (Some code) s i turns = only_is After (value_in bodies code s turns) _ (λ v turns t. i)

  submit_keeps : (port : ℕ) (code : Code Slot) → submits port (Some code) ≡ true → Keeps (statement_acts bodies (T.Submit port code))
  submit_keeps port code e = keeps_by (statement_acts bodies (T.Submit port code)) _ (submit_is bodies port code) (λ s i turns.
      only_is After (value_in bodies code s turns) _ (λ v left t.
      need_is After (level_tuple (out-Value v)) _ (λ us u. kept.tuple s port code turns left v us e t u i)))

  for_keeps : (code : Code Slot) (row : List Statement) → Keeps (row_acts bodies row) → Keeps (statement_acts bodies (T.For code row))
  for_keeps code row h = keeps_by (statement_acts bodies (T.For code row)) _ (for_is bodies code row) (λ s i turns.
      only_is After (value_in bodies code s turns) _ (λ v turns t.
      need_is After (level_elements (out-Value v)) _ (λ values t. over_keeps code (row_acts bodies row) h values s i turns)))

  abbrev arms_in : Statement-F Bool → List (Code Slot × List Bool)
  arms_in (S.If arms other) = arms
  arms_in _ = []

  arms_mapped : (arms : List (Code Slot × List Statement)) (other : List Statement)
      → arms_in (map-Statement Statement Bool (statement_passes changes submits) (S.If arms other)) ≡ map passing_arm arms
  arms_mapped [] other = refl
  arms_mapped (arm ∷ arms) other = ap (λ rest. passing_arm arm ∷ rest) (arms_mapped arms other)

  if_fine : (arms : List (Code Slot × List Statement)) (other : List Statement) → AllByRecursion (OfArm Fine) arms → AllByRecursion Fine other → Fine (T.If arms other)
  if_fine arms other h k = fine_by (T.If arms other) (S.If arms other) (T.outs-If arms other) (λ e.
      let first = and_left _ (row_passes changes submits other) e in
      let rest = and_right _ (row_passes changes submits other) e in
      keeps_by (statement_acts bodies (T.If arms other)) _ (if_is bodies arms other) (arms_keep arms other h k (sym (ap arms_pass (arms_mapped arms other)) ∙ first) rest))

  steps : StatementSteps Fine
  steps = record {
    block = λ row h. fine_by (T.Block row) (S.Block row) (T.outs-Block row) (λ e.
        keeps_by (statement_acts bodies (T.Block row)) _ (block_is bodies row) (scoped_keeps (row_acts bodies row) (row_keeps row h e)));
    declare = λ code e. keeps_by (statement_acts bodies (T.Declare code)) _ (declare_is bodies code) (λ s i turns.
        only_is After (value_in bodies code s turns) _ (λ v turns t. kept.declare s v i));
    change = λ place change. fine_by (T.Change place change) (S.Change place change) (T.outs-Change place change) (λ e. change_keeps place change e);
    evaluate = λ code e. keeps_by (statement_acts bodies (T.Evaluate code)) _ (evaluate_is bodies code) (λ s i turns.
        only_is After (value_in bodies code s turns) _ (λ v turns t. i));
    call = λ i codes e. call_keeps i codes;
    if_true = if_fine;
    while = λ code row h. fine_by (T.While code row) (S.While code row) (T.outs-While code row) (λ e.
        keeps_by (statement_acts bodies (T.While code row)) _ (while_is bodies code row) (λ s i turns.
        turns_keep code (scoped (row_acts bodies row)) (scoped_keeps (row_acts bodies row) (row_keeps row h e)) turns s i turns));
    for_each = λ code row h. fine_by (T.For code row) (S.For code row) (T.outs-For code row) (λ e. for_keeps code row (row_keeps row h e));
    break = λ e. keeps_by (statement_acts bodies T.Break) _ (break_is bodies) (λ s i turns. i);
    continue = λ e. keeps_by (statement_acts bodies T.Continue) _ (continue_is bodies) (λ s i turns. i);
    return = λ code e. keeps_by (statement_acts bodies (T.Return code)) _ (return_is bodies code) (return_keeps code);
    submit = λ port code. fine_by (T.Submit port code) (S.Submit port code) (T.outs-Submit port code) (λ e. submit_keeps port code e);
    submit_window = λ port. fine_by (T.SubmitWindow port) (S.SubmitWindow port) (T.outs-SubmitWindow port) (λ e.
        keeps_by (statement_acts bodies (T.SubmitWindow port)) _ (submit_window_is bodies port) (λ s i turns. kept.window s port e i));
  }

  all_fine : (row : List Statement) → AllByRecursion Fine row
  all_fine [] = tt
  all_fine (x ∷ row) = (statement_ind Fine steps x, all_fine row)

  pub keeps : (row : List Statement) → row_passes changes submits row ≡ true → Keeps (row_acts bodies row)
  keeps row e = row_keeps row (all_fine row) e

-- what a body leaves comes from a state that keeps it
abbrev pub LeftBy : (State → Type 0) → Left → Type 0
LeftBy Kept left = (s : State) × Kept s × (s.submits ≡ left.submits) × (s.env.vars ≡ left.vars)

left_from : (Kept : State → Type 0) (w : Flow × State) (turns : ℕ) → Kept w.1 → Only (LeftBy Kept) (left_by w turns)
left_from Kept (F.Next, s) turns k = (s, k, refl, refl)
left_from Kept (F.Broken, s) turns k = tt
left_from Kept (F.Continued, s) turns k = tt
left_from Kept (F.Returned v, s) turns k = (s, k, refl, refl)

pub body_keeps : (bodies : Bodies) (changes : ℕ → Bool) (submits : ℕ → Option (Code Slot) → Bool) (Kept : State → Type 0) (kept : IsKept bodies changes submits Kept) (row : List Statement) (env : Env) (turns : ℕ)
    → row_passes changes submits row ≡ true → Kept (record { env = env; submits = [] }) → Only (LeftBy Kept) (body_leaves bodies row env turns)
body_keeps bodies changes submits Kept kept row env turns e k =
    only_followed (After bodies changes submits Kept kept) (LeftBy Kept) (scoped (row_acts bodies row) (record { env = env; submits = [] }) turns) _
    (scoped_keeps bodies changes submits Kept kept (row_acts bodies row) (keeps bodies changes submits Kept kept row e) (record { env = env; submits = [] }) k turns)
    (left_from Kept)
