-- The history that a Custom stands for, at the start and after an event.
use Rattle.std.proofs.Common.{◌≡◌, ℕ, true, false, List, [], ◌∷◌, map, is_none, None, sym, ap, subst, ◌∙◌}
use Rattle.spl_value.specs.declared.item.Item.{Item}
use Rattle.spl_value.specs.declared.value.Value.{Value}
use Rattle.language_model.specs.declared.checked.Handlers.{Handlers}
use Rattle.language_model.specs.declared.checked.CheckedClauses.TheVariants as A
use Rattle.language_model.specs.declared.env.Env.{Env}
use Rattle.language_model.specs.Outcomes.{Done}
use Rattle.language_model.specs.ValueLaws.{BodyLeavesLaw}
use Rattle.evaluation_laws.specs.HandlerLaws.{StateFits}
use Rattle.evaluation_laws.specs.ImmutableLaws.{ImmutableLaw}
use Rattle.stream_model.specs.declared.reply.Reply.{Reply}
use Rattle.stream_model.specs.declared.reply.Reply.TheVariants as R
use Rattle.stream_model.specs.Customs.{first_value, item_leaves, state, vars_after}
use Rattle.stream_model.specs.Operators.{Operator}
use Rattle.stream_model.specs.Fitting.{IsFitting}
use Rattle.stream_model.specs.Replies.{IsTaken}
use Rattle.stream_model.specs.Stream.{Event, came}
use Rattle.port_reacts.specs.PortReplies.{MayTakeAt, RepliesAt, ends_at, goes_on}
use Rattle.custom_logic.specs.Idle.{idle_env}
use Rattle.custom_logic.specs.Standing.{StandsFor}
use Rattle.custom_logic.specs.steps.Running.{LeavesIdle, MayRunOn}
use Rattle.custom_logic.proofs.Fits.{item_state, runs_on}
use Rattle.port_reacts.proofs.CustomFits.{first_fits, fitted}
use Rattle.spl_value.proofs.Bools.{and_parts}

-- ---- the start

pub stands_first : (op : Operator) (handlers : Handlers) (env : Env) → IsFitting op → op.clauses ≡ A.Custom handlers → env ≡ idle_env (map first_value handlers.state)
    → StandsFor op handlers [] env
stands_first op handlers env fit is first goes =
    let own = fitted op handlers fit is in
    record { env_is = first; fit = first_fits own.scope op.types.outs handlers own.handlers_fit }

-- ---- an event

-- the body for the item may run
pub stands_to_run : (op : Operator) (handlers : Handlers) (h : List Event) (env : Env) (port : ℕ) (x : Item) → op.clauses ≡ A.Custom handlers → StandsFor op handlers h env
    → MayTakeAt op h port x → MayRunOn op.functions handlers env.vars port x
stands_to_run op handlers h env port x is stands may =
    let holds = stands may.goes_on in
    subst (λ vars. MayRunOn op.functions handlers vars port x) (sym (ap (λ (e : Env). e.vars) holds.env_is))
    (runs_on op handlers (fitted op handlers may.fitting is) (state op.functions handlers h) holds.fit port x may.has)

-- and the environment is idle, with the state's variables
pub stands_idle : (op : Operator) (handlers : Handlers) (h : List Event) (env : Env) (port : ℕ) (x : Item) → StandsFor op handlers h env → MayTakeAt op h port x
    → env ≡ idle_env env.vars
stands_idle op handlers h env port x stands may = let holds = stands may.goes_on in holds.env_is ∙ ap idle_env (sym (ap (λ (e : Env). e.vars) holds.env_is))

pub stands_vars : (op : Operator) (handlers : Handlers) (h : List Event) (env : Env) (port : ℕ) (x : Item) → StandsFor op handlers h env → MayTakeAt op h port x
    → state op.functions handlers h ≡ env.vars
stands_vars op handlers h env port x stands may = sym (ap (λ (e : Env). e.vars) (stands may.goes_on).env_is)

-- it stands for the longer history where it goes on; after a fault nothing is asked
pub stands_after : (op : Operator) (handlers : Handlers) (h : List Event) (old new : Env) (port : ℕ) (x : Item) (r : Reply) → BodyLeavesLaw → ImmutableLaw
    → op.clauses ≡ A.Custom handlers → StandsFor op handlers h old → MayTakeAt op h port x → RepliesAt op h port x r → LeavesIdle (item_leaves op.functions handlers old.vars port x) r new
    → IsTaken r → StandsFor op handlers (came port x ∷ h) new
stands_after op handlers h old new port x (R.Out outs) law immutable is stands may replies leaves taken goes =
    let holds = stands may.goes_on in
    let vars = stands_vars op handlers h old port x stands may in
    let done : item_leaves op.functions handlers (state op.functions handlers h) port x ≡ Done leaves.0 leaves.1 =
    ap (λ vs. item_leaves op.functions handlers vs port x) vars ∙ leaves.2 in
    let left = item_state op handlers law immutable (fitted op handlers may.fitting is) (state op.functions handlers h) holds.fit port x may.has leaves.0 leaves.1 done in
    let next : leaves.0.vars ≡ state op.functions handlers (came port x ∷ h) = sym (ap (vars_after handlers.state (state op.functions handlers h)) done ∙ left.is) in
    record { env_is = leaves.3 ∙ ap idle_env next; fit = subst (StateFits handlers.state) next left.fit }
stands_after op handlers h old new port x (R.Ended outs fault) law immutable is stands may replies leaves taken goes =
    let none = (and_parts (goes_on op h) (is_none (ends_at op h port x)) goes).1 in
    absurd (let no : false ≡ true = sym (ap is_none replies.1) ∙ none in cc)
stands_after op handlers h old new port x R.Memory law immutable is stands may replies leaves taken goes = absurd taken

-- the environment of a new Custom
pub first_env : (inputs : List (List Value)) (vars : List Value) (handlers : Handlers) → inputs ≡ [] → vars ≡ map first_value handlers.state
    → record { inputs = inputs; vars = vars; punct = None } ≡ idle_env (map first_value handlers.state)
first_env inputs vars handlers none first = λ i. record { inputs = none i; vars = first i; punct = None }
