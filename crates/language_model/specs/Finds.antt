-- What a call answers, against the definition of types.
use Rattle.std.specs.Prelude.{◌≡◌, ℕ, List, ◌++◌, Option, Some, None, Result, Ok, Err}
use Rattle.std.specs.Borrow.{Bor}
use Rattle.language_model.specs.declared.scope.CheckError.{CheckError}
use Rattle.language_model.specs.declared.scope.CheckError.TheVariants as E
use Rattle.language_model.specs.Scopes.{At, at_place}
use Rattle.language_model.specs.Typing.{Found, after}
use Rattle.language_model.specs.declared.answer.TypeAnswer.{TypeAnswer}
use Rattle.language_model.specs.declared.answer.TypeAnswer.TheVariants.{Refused, Memory}

-- what is found is answered, and so is its refusal. Of lack of memory nothing is said
abbrev pub Finds : {A : Type 0} → Found A → Result A TypeAnswer → Type 0
Finds found (Ok x) = found ≡ Ok x
Finds found (Err (Refused refusal)) = found ≡ Err refusal
Finds found (Err Memory) = Unit {0}

-- `seen` gives what is found from the answer
abbrev pub FindsBy : {A B : Type 0} → (B → A) → Found A → Result B TypeAnswer → Type 0
FindsBy seen found (Ok x) = found ≡ Ok (seen x)
FindsBy seen found (Err (Refused refusal)) = found ≡ Err refusal
FindsBy seen found (Err Memory) = Unit {0}

-- it is the refusal of a name or a word. Of lack of memory nothing is said
abbrev pub IsRefused : CheckError → ℕ → List ℕ → TypeAnswer → Type 0
IsRefused error at name (Refused refusal) = refusal ≡ record { error = error; at = at; name = Some name }
IsRefused error at name Memory = Unit {0}

-- the name has no meaning
abbrev pub IsUnknown : ℕ → List ℕ → TypeAnswer → Type 0
IsUnknown at name answer = IsRefused E.Unknown at name answer

-- it is the same number
abbrev pub Narrows : ℕ → Result ℕ TypeAnswer → Type 0
Narrows n (Ok m) = m ≡ n
Narrows n (Err answer) = answer ≡ Memory

-- it is answered with its place
abbrev pub Points : {A : Type 0} → Option (At A) → Option (ℕ × Bor A) → Type 0
Points o None = o ≡ None
Points o (Some p) = o ≡ Some (at_place p.0 p.1.now)

-- these came first
abbrev pub with_front : {A : Type 0} → List A → Found (List A) → Found (List A)
with_front front found = after found (λ xs. Ok (front ++ xs))
