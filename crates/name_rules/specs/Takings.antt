-- What is taken of a value of a type.
use Rattle.std.specs.Prelude.{◌≡◌, ℕ, List, [], ◌∷◌, ◌++◌, Result, Ok, Err}
use Rattle.spl_value.specs.declared.types.SplType.{SplType}
use Rattle.spl_value.specs.declared.types.SplType.TheOpen as T
use Rattle.spl_value.specs.declared.types.SplType.TheOpen.{SplType-F}
use Rattle.spl_value.specs.declared.types.SplType.TheViews.{out-SplType}
use Rattle.spl_tree.specs.declared.code.Code.{Code}
use Rattle.spl_tree.specs.declared.code.Slot.{Slot}
use Rattle.spl_tree.specs.declared.code.Selector.{Selector}
use Rattle.spl_tree.specs.declared.code.Selector.TheVariants as K
use Rattle.language_model.specs.declared.scope.Typed.{Typed}
use Rattle.language_model.specs.Scopes.{attribute_of}
use Rattle.language_model.specs.Typing.{Found, after, level_index, mismatch}
use Rattle.language_model.specs.parts.Typing.{member_typed}
use Rattle.language_model.specs.declared.answer.TypeAnswer.{TypeAnswer}
use Rattle.language_model.specs.declared.answer.TypeAnswer.TheVariants.{Refused, Memory}

-- what is taken, with its type
abbrev pub Taken : Type 0
Taken = Selector (Code Slot) × SplType

abbrev pub member_taken : ℕ → SplType-F SplType → ℕ → List ℕ → Found Taken
member_taken base (T.Tuple schema) at name = member_typed at name (attribute_of schema name)
member_taken base _ at name = mismatch base

-- by an index at a place
abbrev pub index_taken : ℕ → ℕ → Typed → SplType-F SplType → Found Taken
index_taken base at x (T.List t) = after (level_index at x.code (out-SplType x.kind)) (λ code. Ok (K.Element code, t))
index_taken base at x (T.Map k t) = Ok (K.AtKey x.code, t)
index_taken base at x _ = mismatch base

-- it comes after what was taken before, and its type is answered
abbrev pub with_taken_last : List (Selector (Code Slot)) → Found Taken → Found (List (Selector (Code Slot)) × SplType)
with_taken_last old found = after found (λ x. Ok (old ++ x.0 ∷ [], x.1))

abbrev pub Takes : Found Taken → List (Selector (Code Slot)) → List (Selector (Code Slot)) → Result SplType TypeAnswer → Type 0
Takes found old new (Ok t) = with_taken_last old found ≡ Ok (new, t)
Takes found old new (Err (Refused refusal)) = found ≡ Err refusal
Takes found old new (Err Memory) = Unit {0}
