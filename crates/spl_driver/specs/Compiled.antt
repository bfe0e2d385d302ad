-- What compiling a program answers.
use Rattle.std.specs.Prelude.{◌≡◌, ℕ, List, Result, Ok, Err}
use Rattle.language_model.specs.declared.refusal.Refusal.{Refusal}
use Rattle.language_model.specs.Accepted.{IsAccepted}
use Rattle.language_model.specs.CheckedGraph.{CheckedGraph}
use Rattle.spl_driver.specs.declared.compile_answer.CompileAnswer.{CompileAnswer}
use Rattle.spl_driver.specs.declared.compile_answer.CompileAnswer.TheVariants as A

-- the checked graph or the refusal that is the result of the program; nothing is said of lack of memory
abbrev pub IsCompiled : List ℕ → List (List ℕ) → Result CheckedGraph CompileAnswer → Type 0
IsCompiled bytes names (Ok c) = IsAccepted bytes names (Ok c)
IsCompiled bytes names (Err (A.Refused refusal)) = IsAccepted bytes names (Err refusal)
IsCompiled bytes names (Err A.Memory) = Unit {0}
