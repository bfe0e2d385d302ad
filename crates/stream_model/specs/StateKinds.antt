-- What kind of state an operator keeps from event to event.
use Rattle.std.specs.Prelude.{Bool, true, false, not, ◌&&◌, if◌then◌else◌}
use Rattle.std.specs.List.{list_any}
use Rattle.language_model.specs.declared.checked.CheckedClauses.{CheckedClauses}
use Rattle.language_model.specs.declared.checked.CheckedClauses.TheVariants as A
use Rattle.language_model.specs.declared.checked.StateVariable.{StateVariable}
use Rattle.stream_model.specs.declared.plan.StateKind.{StateKind}
use Rattle.stream_model.specs.declared.plan.StateKind.TheVariants as K
use Rattle.stream_model.specs.Operators.{Operator}
use Rattle.stream_model.specs.Windows.{flushes_at_markers}

-- by the clauses: a Custom without mutable variables keeps nothing, and an Aggregate keeps its partitions, where
-- markers don't concern all of them
abbrev pub state_by : CheckedClauses → StateKind
state_by (A.FileSource file strict) = K.Whole
state_by (A.FileSink file) = K.Whole
state_by (A.Join left right condition made) = K.Whole
state_by (A.Filter condition) = K.Stateless
state_by (A.Functor condition made) = K.Stateless
state_by (A.Punctor condition position) = K.Stateless
state_by (A.Split index) = K.Stateless
state_by (A.Union places) = K.Stateless
state_by (A.Custom handlers) =
    if list_any (λ (x : StateVariable). x.variable.mutable) handlers.state then K.Whole else K.Stateless
state_by (A.Aggregate window partition group collects) =
    if window.partitioned && not (flushes_at_markers window.rule) then K.Keyed partition else K.Whole

abbrev pub state_of : Operator → StateKind
state_of op = state_by op.clauses

-- a state is kept for each value of some attributes
abbrev pub is_keyed : StateKind → Bool
is_keyed K.Stateless = false
is_keyed (K.Keyed places) = true
is_keyed K.Whole = false

abbrev pub is_whole_state : StateKind → Bool
is_whole_state K.Stateless = false
is_whole_state (K.Keyed places) = false
is_whole_state K.Whole = true
