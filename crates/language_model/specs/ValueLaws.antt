-- What evaluation does.
use Rattle.std.specs.Prelude.{◌≡◌, ℕ, Bool, List, Some, Ok}
use Rattle.spl_value.specs.declared.types.SplType.{SplType}
use Rattle.spl_tree.specs.Trees.{Expr}
use Rattle.spl_tree.specs.declared.code.Code.{Code}
use Rattle.spl_tree.specs.declared.body.Function.{Function}
use Rattle.spl_tree.specs.declared.body.Statement.{Statement}
use Rattle.spl_tree.specs.declared.code.Slot.{Slot}
use Rattle.language_model.specs.declared.env.Env.{Env}
use Rattle.language_model.specs.declared.scope.Scope.{Scope}
use Rattle.language_model.specs.declared.scope.Typed.{Typed}
use Rattle.language_model.specs.CodeFits.{SlotFits}
use Rattle.language_model.specs.FitLaws.{DollarsFit}
use Rattle.language_model.specs.Evaluation.{World, Calls, code_value, world_of}
use Rattle.language_model.specs.Functions.{bodies_of}
use Rattle.language_model.specs.parts.Functions.{calls_of}
use Rattle.language_model.specs.BodyFits.{Purpose, StatementFits}
use Rattle.language_model.specs.Statements.{State, body_leaves}
use Rattle.language_model.specs.parts.Statements.{statement_acts}
use Rattle.language_model.specs.Typing.{Wanted, typing}
use Rattle.language_model.specs.WorldFits.{Fits, FunctionsFit, VariablesFit, ComesTo, LeadsTo, BodyFits, Leaves}
use Rattle.language_model.specs.Written.{slot_of_written, written, renamed, before_renaming, named_world}

-- a code that fits gives a value of its type or a fault, and is never stuck, however deep calls may nest
abbrev pub NeverStuckLaw : Type 0
NeverStuckLaw = (functions : List Function) (code : Code Slot) (env : Env) (t : SplType) → Fits functions code env t → (depth turns : ℕ)
    → ComesTo t (code_value (calls_of functions depth) code (world_of env) turns)

-- a statement that fits leads to variables of the scope that it leads to, or to a fault, and is never stuck
abbrev pub StatementLeadsLaw : Type 0
StatementLeadsLaw = (functions : List Function) (purpose : Purpose) (l : Bool) (scope next : Scope) (x : Statement) → StatementFits purpose l scope x next
    → FunctionsFit scope.functions functions → (s : State) → VariablesFit scope s.env
    → (depth turns : ℕ) → LeadsTo next (statement_acts (bodies_of functions depth) x s turns)

-- a body that fits leaves what fits, or ends with a fault, and is never stuck
abbrev pub BodyLeavesLaw : Type 0
BodyLeavesLaw = (functions : List Function) (row : List Statement) (env : Env) (purpose : Purpose) (scope : Scope) → BodyFits functions row env purpose scope
    → (depth turns : ℕ) → Leaves purpose scope env (body_leaves (bodies_of functions depth) row env turns)

-- a code with other names has the result that the code has where each name has the value of the one in its place
abbrev pub RenamingLaw : Type 0 → Type 0 → Type 0
RenamingLaw N M = (calls : Calls) (f : N → M) (code : Code N) (w : World M) (turns : ℕ)
    → code_value calls (renamed f code) w turns ≡ code_value calls code (before_renaming f w) turns

-- a slot that fits is what its name means
abbrev pub WrittenLaw : Type 0
WrittenLaw = (scope : Scope) (slot : Slot) (t : SplType) → SlotFits scope slot t → slot_of_written scope (written scope slot) ≡ Some slot

-- the code of an expression has the same result over the names that are written for its slots, where each has the
-- value of what it means
abbrev pub NamesLaw : Type 0
NamesLaw = (calls : Calls) (scope : Scope) (e : Expr) (wanted : Wanted) (t : Typed) → DollarsFit scope.dollars → typing scope e wanted ≡ Ok t → (env : Env) (turns : ℕ)
    → code_value calls (renamed (written scope) t.code) (named_world scope env) turns ≡ code_value calls t.code (world_of env) turns
