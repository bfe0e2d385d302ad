-- Where an operator's clauses stand, by what a call is given.
use Rattle.std.specs.Prelude.{ℕ, List, [], ◌∷◌, map, Ok, Err, Result, if◌then◌else◌, None}
use Rattle.std.specs.Borrow.{Bor}
use Rattle.std.specs.List.{list_all}
use Rattle.spl_tree.specs.declared.code.Code.{Code}
use Rattle.spl_tree.specs.declared.code.Slot.{Slot}
use Rattle.spl_tree.specs.declared.unit.OutputAssignments.{OutputAssignments}
use Rattle.language_model.specs.declared.checked.CollectedAttribute.{CollectedAttribute}
use Rattle.language_model.specs.declared.scope.CheckError.TheVariants as E
use Rattle.language_model.specs.declared.scope.Port.{Port}
use Rattle.language_model.specs.declared.scope.Scope.{Scope}
use Rattle.language_model.specs.Checking.{first_list, has_text_form}
use Rattle.language_model.specs.Checking as checking
use Rattle.language_model.specs.LogicTyping.{Surroundings}
use Rattle.language_model.specs.OutputTyping.{groups_typing, tuple_typing}
use Rattle.language_model.specs.ParameterTyping.{Site}
use Rattle.language_model.specs.StreamTypes.{Attributes, Passes, passed}
use Rattle.language_model.specs.Typing.{Found, refused}
use Rattle.literal_sites.specs.Sites.{followed_in}
use Rattle.literal_sites.specs.declared.follow.Follow.{Follow}
use Rattle.language_model.specs.declared.answer.TypeAnswer.{TypeAnswer}
use Rattle.clause_rules.specs.declared.parts.Around.{Around}
use Rattle.clause_rules.specs.declared.parts.Checks.{Checks}
use Rattle.clause_rules.specs.steps.Logic.{surroundings}

abbrev pub around_seen : Around → Scope → Surroundings
around_seen around scope = surroundings around.types scope around.outputs.now

abbrev pub checks_seen : Around → Scope → Checks → checking.Checks
checks_seen around scope checks = record { at = checks.at; around = around_seen around scope; windows = checks.windows; given = checks.given }

-- rows that are borrowed
abbrev pub rows_seen : Result (Bor (List OutputAssignments)) TypeAnswer → Result (List OutputAssignments) TypeAnswer
rows_seen (Ok rows) = Ok rows.now
rows_seen (Err answer) = Err answer

-- attributes of a file have a text
abbrev pub rows_of_schemas : ℕ → List Attributes → Passes
rows_of_schemas at schemas = if list_all has_text_form schemas then passed else refused E.NoTextForm at None

abbrev pub tuple_at : Around → Scope → ℕ → List OutputAssignments → Found (Code Slot)
tuple_at around scope at rows =
    tuple_typing scope at (first_list (map (λ p. p.schema) around.outputs.now)) (first_list (map (λ p. p.name) around.outputs.now)) rows

abbrev pub groups_at : Around → Scope → ℕ → List OutputAssignments → Found (List CollectedAttribute)
groups_at around scope at rows =
    groups_typing scope at (first_list (map (λ p. p.schema) around.outputs.now)) (first_list (map (λ p. p.name) around.outputs.now)) rows

-- what has names, as ports with these attributes
abbrev pub named : {A : Type 0} → (A → List ℕ) → List A → List Attributes → List Port
named name (x ∷ xs) (schema ∷ schemas) = record { name = name x; schema = schema } ∷ named name xs schemas
named name xs schemas = []

-- where the expressions of an operator stand
abbrev pub site_at : Scope → Follow → Site
site_at scope follow = record { scope = scope; follow = followed_in follow }
