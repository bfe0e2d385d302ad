-- What a writer of rows pours.
use Rattle.std.specs.Prelude.{◌≡◌, ◌≤◌, ◌++◌, ⊤, ℕ, List, length, take, Option, Some, None, Result, Ok, Err}
use Rattle.feed_pour.specs.declared.outside.PourAnswer.{PourAnswer}

-- the text of rows was poured; where the pour failed or memory ran out, a front of it
abbrev pub RowsPoured : {A : Type 0} → Option (List ℕ) → Option (List ℕ) → Result A PourAnswer → List ℕ → Type 0
RowsPoured None now r text = ⊤
RowsPoured (Some old) now (Ok x) text = now ≡ Some (old ++ text)
RowsPoured (Some old) now (Err e) text = (n : ℕ) × (n ≤ length text) × (now ≡ Some (old ++ take n text))
