-- The results of programs.
use Rattle.std.specs.Prelude.{◌≡◌, ◌<◌, ℕ, List, length, Result, Ok, Err}
use Rattle.spl_tree.specs.declared.token.LexicalError.TheVariants.{TooLong}
use Rattle.language_model.specs.declared.refusal.Refusal.{Refusal}
use Rattle.language_model.specs.declared.refusal.Code.TheVariants as C
use Rattle.language_model.specs.Refusals.{refusal_by}
use Rattle.language_model.specs.Accepted.{IsAccepted}
use Rattle.language_model.specs.CheckedGraph.{CheckedGraph}
use Rattle.language_model.specs.Keeping.{Keeps}

-- a program has one result at most
abbrev pub OneAcceptedLaw : Type 0
OneAcceptedLaw = (bytes : List ℕ) (names : List (List ℕ)) (x y : Result CheckedGraph Refusal) → IsAccepted bytes names x → IsAccepted bytes names y → x ≡ y

-- and each has one
abbrev pub SomeAcceptedLaw : Type 0
SomeAcceptedLaw = (bytes : List ℕ) (names : List (List ℕ)) → (x : Result CheckedGraph Refusal) × IsAccepted bytes names x

-- a program of more than 1,048,576 bytes is refused
abbrev pub TooLongLaw : Type 0
TooLongLaw = (bytes : List ℕ) (names : List (List ℕ)) → 1048576 < length bytes → IsAccepted bytes names (Err (refusal_by (C.Lexical TooLong) 1048576))

-- the checked graph of a program keeps what a checked graph has to keep
abbrev pub KeptLaw : Type 0
KeptLaw = (bytes : List ℕ) (names : List (List ℕ)) (c : CheckedGraph) → IsAccepted bytes names (Ok c) → Keeps c
