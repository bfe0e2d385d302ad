-- One step after another, each of which may refuse.
use Rattle.std.specs.Prelude.{List, [], ◌∷◌, Result, Ok, Err}

-- what the second step finds with what the first one found, or the refusal of the first one
abbrev pub after : {A B E : Type 0} → Result A E → (A → Result B E) → Result B E
after (Ok x) f = f x
after (Err refusal) f = Err refusal

-- what `f` finds of each element in turn, as `g` keeps it, or the first refusal
abbrev pub each : {A B C E : Type 0} → (A → Result B E) → (B → C) → List A → Result (List C) E
each f g [] = Ok []
each f g (x ∷ xs) = after (f x) (λ y. after (each f g xs) (λ ys. Ok (g y ∷ ys)))
