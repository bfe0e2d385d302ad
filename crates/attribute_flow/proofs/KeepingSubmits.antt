-- What every change of variables and every submit keeps, statements keep.
use Rattle.std.specs.Prelude.{◌≡◌, ℕ, zero, suc, List, [], ◌∷◌, ◌++◌, map, Option, None, Some, slice_get, slice_set}
use Rattle.std.specs.List.{AllByRecursion}
use Rattle.std.proofs.Common.{refl, sym, subst}
use Rattle.spl_value.specs.declared.item.FaultKind.TheVariants as X
use Rattle.spl_value.specs.declared.item.Item.TheVariants as I
use Rattle.spl_value.specs.declared.value.Value.{Value}
use Rattle.spl_value.specs.declared.value.Value.TheViews.{out-Value}
use Rattle.spl_tree.specs.declared.body.Change.{Change}
use Rattle.spl_tree.specs.declared.body.Place.{Place}
use Rattle.spl_tree.specs.declared.body.Statement.{Statement}
use Rattle.spl_tree.specs.declared.body.Statement.TheVariants as T
use Rattle.spl_tree.specs.declared.code.Code.{Code}
use Rattle.spl_tree.specs.declared.code.Slot.{Slot}
use Rattle.language_model.specs.declared.env.Env.{Env}
use Rattle.language_model.specs.declared.flow.Flow.{Flow}
use Rattle.language_model.specs.declared.flow.Flow.TheVariants as F
use Rattle.language_model.specs.Changes.{changed, change_of}
use Rattle.language_model.specs.Evaluation.{all_of, code_value, world_of}
use Rattle.language_model.specs.Outcomes.{Done, Faulted, settled}
use Rattle.language_model.specs.StatementLaws.{arms_act, block_is, declare_is, change_is, evaluate_is, call_is, if_is, while_is, for_is, break_is, continue_is, return_is, submit_is, submit_window_is}
use Rattle.language_model.specs.Statements.{State, Acts, Bodies, Left, calls_by, value_in, truth_in, with_vars, declared, scoped, submitted, change_values, then_rest, then_again, turn_while, turns_while, turns_over, level_elements, level_tuple, body_leaves}
use Rattle.language_model.proofs.parts.Statements.{ended, left_by}
use Rattle.language_model.specs.parts.Statements.{return_acts, statement_acts, row_acts}
use Rattle.language_model.proofs.Returning.{Only, only_followed, only_either, only_enter, only_is, need_is}
use Rattle.language_model.proofs.StatementInduction.{OfArm, StatementSteps, statement_ind}
use Rattle.stream_model.specs.Copies.{submits_of}
use Rattle.attribute_flow.specs.steps.Agreements.{arms_submits, statement_submits}
use Rattle.attribute_flow.proofs.SubmitForms as B
use Rattle.spl_value.proofs.Lists.{all_right, all_left}

-- a fact of states that is kept by each change of a variable, by a new variable, by the end of variables, and by each submit, of a tuple whose
-- code has the test
pub record IsKept (bodies : Bodies) (Test : Code Slot → Type 0) (Kept : State → Type 0) : Type 0 where
  pub change : (s : State) (i : ℕ) (v : Value) → Kept s → Kept (with_vars s (slice_set s.env.vars i v))
  pub declare : (s : State) (v : Value) → Kept s → Kept (declared s v)
  pub end : (s t : State) → Kept s → Kept t → Kept (ended s t)
  pub tuple : (s : State) (port : ℕ) (code : Code Slot) (turns left : ℕ) (v : Value) (us : List Value) → Test code → value_in bodies code s turns ≡ Done v left
      → level_tuple (out-Value v) ≡ Some us → Kept s → Kept (submitted s port (I.Tuple us))
  pub window : (s : State) (port : ℕ) → Kept s → Kept (submitted s port I.Window)

module _ (bodies : Bodies) (Test : Code Slot → Type 0) (Kept : State → Type 0) (kept : IsKept bodies Test Kept) where
  abbrev pub After : Flow × State → Type 0
  After w = Kept w.1

  abbrev pub Keeps : Acts → Type 0
  Keeps acts = (s : State) → Kept s → (turns : ℕ) → Only After (acts s turns)

  keeps_by : (acts other : Acts) → ((s : State) (turns : ℕ) → acts s turns ≡ other s turns) → Keeps other → Keeps acts
  keeps_by acts other e h s k turns = subst (Only After) (sym (e s turns)) (h s k turns)

  pub scoped_keeps : (acts : Acts) → Keeps acts → Keeps (scoped acts)
  scoped_keeps acts h s k turns = only_followed After After (acts s turns) _ (h s k turns) (λ w turns a. kept.end s w.1 k a)

  rest_keeps : (rest : Acts) → Keeps rest → (w : Flow × State) (turns : ℕ) → After w → Only After (then_rest w turns rest)
  rest_keeps rest h (F.Next, s) turns a = h s a turns
  rest_keeps rest h (F.Broken, s) turns a = a
  rest_keeps rest h (F.Continued, s) turns a = a
  rest_keeps rest h (F.Returned v, s) turns a = a

  -- what is submitted has the test
  abbrev Tested : List (Code Slot) → Type 0
  Tested codes = AllByRecursion Test codes

  abbrev Fine : Statement → Type 0
  Fine x = Tested (statement_submits x) → Keeps (statement_acts bodies x)

  pub row_keeps : (row : List Statement) → AllByRecursion Fine row → Tested (submits_of row) → Keeps (row_acts bodies row)
  row_keeps [] h e s k turns = k
  row_keeps (x ∷ row) h e s k turns =
      only_followed After After (statement_acts bodies x s turns) _ (h.0 (all_left Test (statement_submits x) (submits_of row) e) s k turns)
      (λ w turns a. rest_keeps (row_acts bodies row) (row_keeps row h.1 (all_right Test (statement_submits x) (submits_of row) e)) w turns a)

  arms_keep : (arms : List (Code Slot × List Statement)) (other : List Statement) → AllByRecursion (OfArm Fine) arms → AllByRecursion Fine other
      → Tested (arms_submits arms) → Tested (submits_of other) → Keeps (arms_act bodies arms other)
  arms_keep [] other h k e f s i turns = scoped_keeps (row_acts bodies other) (row_keeps other k f) s i turns
  arms_keep (arm ∷ arms) other h k e f s i turns =
      only_is After (truth_in bodies arm.0 s turns) _ (λ b turns t.
      only_either After b (scoped (row_acts bodies arm.1) s turns) (arms_act bodies arms other s turns)
      (scoped_keeps (row_acts bodies arm.1) (row_keeps arm.1 h.0 (all_left Test (submits_of arm.1) (arms_submits arms) e)) s i turns)
      (arms_keep arms other h.1 k (all_right Test (submits_of arm.1) (arms_submits arms) e) f s i turns))

  again_keeps : (again : Acts) → Keeps again → (w : Flow × State) (turns : ℕ) → After w → Only After (then_again w turns again)
  again_keeps again h (F.Next, s) turns a = h s a turns
  again_keeps again h (F.Continued, s) turns a = h s a turns
  again_keeps again h (F.Broken, s) turns a = a
  again_keeps again h (F.Returned v, s) turns a = a

  module _ (code : Code Slot) (body : Acts) (h : Keeps body) where
    turn_keeps : (again : Acts) → Keeps again → Keeps (turn_while bodies code body again)
    turn_keeps again k s i turns =
        only_is After (truth_in bodies code s turns) _ (λ b turns t.
        only_either After b _ (Done (F.Next, s) turns)
        (only_enter After turns _ (λ turns. only_followed After After (body s turns) _ (h s i turns) (again_keeps again k)))
        i)

    turns_keep : (n : ℕ) → Keeps (turns_while n bodies code body)
    turns_keep zero = turn_keeps (λ s turns. Faulted X.Turns) (λ s i turns. tt)
    turns_keep (suc n) = turn_keeps (turns_while n bodies code body) (turns_keep n)

    over_keeps : (vs : List Value) → Keeps (turns_over vs body)
    over_keeps [] s i turns = i
    over_keeps (v ∷ vs) s i turns =
        only_enter After turns _ (λ turns.
        only_followed After After (scoped (λ s turns. body (declared s v) turns) s turns) _
        (scoped_keeps (λ s turns. body (declared s v) turns) (λ s i turns. h (declared s v) (kept.declare s v i) turns) s i turns)
        (again_keeps (turns_over vs body) (over_keeps vs)))

  -- ---- statements

  fine_by : (x : Statement) (codes : List (Code Slot)) → statement_submits x ≡ codes → (Tested codes → Keeps (statement_acts bodies x)) → Fine x
  fine_by x codes p h e = h (subst Tested p e)

  change_keeps : (place : Place) (change : Change (Code Slot)) → Keeps (statement_acts bodies (T.Change place change))
  change_keeps place change = keeps_by (statement_acts bodies (T.Change place change)) _ (change_is bodies place change) (λ s i turns.
      only_is After (change_values bodies place change s turns) _ (λ w turns t.
      need_is After (slice_get s.env.vars place.variable) _ (λ old o.
      only_is After (settled (changed w.0 (change_of w.1) (Some old)) turns) _ (λ new turns t. kept.change s place.variable new i))))

  call_keeps : (i : ℕ) (codes : List (Code Slot)) → Keeps (statement_acts bodies (T.Call i codes))
  call_keeps i codes = keeps_by (statement_acts bodies (T.Call i codes)) _ (call_is bodies i codes) (λ s k turns.
      only_is After (all_of (map (code_value (calls_by bodies)) codes) (world_of s.env) turns) _ (λ values turns t.
      only_enter After turns _ (λ turns.
      only_is After (bodies i values turns) _ (λ returned turns t. k))))

  return_keeps : (code : Option (Code Slot)) → Keeps (return_acts bodies code)
  return_keeps None s i turns = i
  return_keeps (Some code) s i turns = only_is After (value_in bodies code s turns) _ (λ v turns t. i)

  submit_keeps : (port : ℕ) (code : Code Slot) → Test code → Keeps (statement_acts bodies (T.Submit port code))
  submit_keeps port code e = keeps_by (statement_acts bodies (T.Submit port code)) _ (submit_is bodies port code) (λ s i turns.
      only_is After (value_in bodies code s turns) _ (λ v left t.
      need_is After (level_tuple (out-Value v)) _ (λ us u. kept.tuple s port code turns left v us e t u i)))

  for_keeps : (code : Code Slot) (row : List Statement) → Keeps (row_acts bodies row) → Keeps (statement_acts bodies (T.For code row))
  for_keeps code row h = keeps_by (statement_acts bodies (T.For code row)) _ (for_is bodies code row) (λ s i turns.
      only_is After (value_in bodies code s turns) _ (λ v turns t.
      need_is After (level_elements (out-Value v)) _ (λ values t. over_keeps code (row_acts bodies row) h values s i turns)))

  if_fine : (arms : List (Code Slot × List Statement)) (other : List Statement) → AllByRecursion (OfArm Fine) arms → AllByRecursion Fine other → Fine (T.If arms other)
  if_fine arms other h k = fine_by (T.If arms other) (arms_submits arms ++ submits_of other) (B.if_is arms other) (λ e.
      keeps_by (statement_acts bodies (T.If arms other)) _ (if_is bodies arms other)
      (arms_keep arms other h k (all_left Test (arms_submits arms) (submits_of other) e) (all_right Test (arms_submits arms) (submits_of other) e)))

  steps : StatementSteps Fine
  steps = record {
    block = λ row h. fine_by (T.Block row) (submits_of row) (B.block_is row) (λ e.
        keeps_by (statement_acts bodies (T.Block row)) _ (block_is bodies row) (scoped_keeps (row_acts bodies row) (row_keeps row h e)));
    declare = λ code e. keeps_by (statement_acts bodies (T.Declare code)) _ (declare_is bodies code) (λ s i turns.
        only_is After (value_in bodies code s turns) _ (λ v turns t. kept.declare s v i));
    change = λ place change e. change_keeps place change;
    evaluate = λ code e. keeps_by (statement_acts bodies (T.Evaluate code)) _ (evaluate_is bodies code) (λ s i turns.
        only_is After (value_in bodies code s turns) _ (λ v turns t. i));
    call = λ i codes e. call_keeps i codes;
    if_true = if_fine;
    while = λ code row h. fine_by (T.While code row) (submits_of row) (B.while_is code row) (λ e.
        keeps_by (statement_acts bodies (T.While code row)) _ (while_is bodies code row) (λ s i turns.
        turns_keep code (scoped (row_acts bodies row)) (scoped_keeps (row_acts bodies row) (row_keeps row h e)) turns s i turns));
    for_each = λ code row h. fine_by (T.For code row) (submits_of row) (B.for_is code row) (λ e. for_keeps code row (row_keeps row h e));
    break = λ e. keeps_by (statement_acts bodies T.Break) _ (break_is bodies) (λ s i turns. i);
    continue = λ e. keeps_by (statement_acts bodies T.Continue) _ (continue_is bodies) (λ s i turns. i);
    return = λ code e. keeps_by (statement_acts bodies (T.Return code)) _ (return_is bodies code) (return_keeps code);
    submit = λ port code. fine_by (T.Submit port code) (code ∷ []) (B.submit_is port code) (λ e. submit_keeps port code e.0);
    submit_window = λ port e. keeps_by (statement_acts bodies (T.SubmitWindow port)) _ (submit_window_is bodies port) (λ s i turns. kept.window s port i);
  }

  all_fine : (row : List Statement) → AllByRecursion Fine row
  all_fine [] = tt
  all_fine (x ∷ row) = (statement_ind Fine steps x, all_fine row)

  pub keeps : (row : List Statement) → Tested (submits_of row) → Keeps (row_acts bodies row)
  keeps row e = row_keeps row (all_fine row) e

-- what a body leaves comes from a state that keeps it
abbrev pub LeftBy : (State → Type 0) → Left → Type 0
LeftBy Kept left = (s : State) × Kept s × (s.submits ≡ left.submits)

left_from : (Kept : State → Type 0) (w : Flow × State) (turns : ℕ) → Kept w.1 → Only (LeftBy Kept) (left_by w turns)
left_from Kept (F.Next, s) turns k = (s, k, refl)
left_from Kept (F.Broken, s) turns k = tt
left_from Kept (F.Continued, s) turns k = tt
left_from Kept (F.Returned v, s) turns k = (s, k, refl)

pub body_keeps : (bodies : Bodies) (Test : Code Slot → Type 0) (Kept : State → Type 0) (kept : IsKept bodies Test Kept) (row : List Statement) (env : Env) (turns : ℕ)
    → AllByRecursion Test (submits_of row) → Kept (record { env = env; submits = [] }) → Only (LeftBy Kept) (body_leaves bodies row env turns)
body_keeps bodies Test Kept kept row env turns e k =
    only_followed (After bodies Test Kept kept) (LeftBy Kept) (scoped (row_acts bodies row) (record { env = env; submits = [] }) turns) _
    (scoped_keeps bodies Test Kept kept (row_acts bodies row) (keeps bodies Test Kept kept row e) (record { env = env; submits = [] }) k turns)
    (left_from Kept)
