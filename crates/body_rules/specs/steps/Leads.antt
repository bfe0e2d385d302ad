-- What a call answers on a statement, and to which scope it leads.
use Rattle.std.specs.Prelude.{◌≡◌, ℕ, Bool, take, if◌then◌else◌, Result, Ok, Err}
use Rattle.spl_tree.specs.declared.body.Statement.{Statement}
use Rattle.language_model.specs.declared.scope.Scope.{Scope}
use Rattle.language_model.specs.Typing.{Found, wrong_call}
use Rattle.language_model.specs.declared.answer.TypeAnswer.{TypeAnswer}
use Rattle.language_model.specs.declared.answer.TypeAnswer.TheVariants.{Refused, Memory}

-- the code that is found is answered with the scope after it, and so is its refusal. Of lack of memory nothing is said
abbrev pub Leads : Found (Statement × Scope) → Result Statement TypeAnswer → Scope → Type 0
Leads found (Ok x) scope = found ≡ Ok (x, scope)
Leads found (Err (Refused refusal)) scope = found ≡ Err refusal
Leads found (Err Memory) scope = Unit {0}

-- with its first variables alone
abbrev pub shortened : ℕ → Scope → Scope
shortened count scope = record scope { vars = take count scope.vars }

-- a way out stands inside a loop
abbrev pub inside_loop : ℕ → Bool → Found (Unit {0})
inside_loop at inside = if inside then Ok tt else wrong_call at
