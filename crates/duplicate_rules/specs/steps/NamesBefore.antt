-- What a set of names holds.
use Rattle.std.specs.Prelude.{◌≡◌, ℕ, Bool, not, List, ◌∷◌, Option}
use Rattle.std.specs.List.{list_any, cons_option}
use Rattle.std.specs.Str.{bytes_eq}
use Rattle.std.specs.Borrow.{Bor}
use Rattle.std.specs.HashSet.{contains}
use Rattle.language_model.specs.Declarations.{Name, is_same, repeated_after}
use Rattle.program_tables.specs.Names.{same_bytes}
use Rattle.duplicate_rules.specs.declared.declarations.names.NamesBefore.{NamesBefore}

-- it has the names that come before, and no other
abbrev pub Hold : NamesBefore → List Name → Type 0
Hold names before = (q : Bor (List ℕ)) → contains same_bytes names.names q ≡ list_any (λ m. bytes_eq m.what q.now) before

-- whether an equal one comes before
abbrev pub Has : Name → List Name → Bool
Has n before = list_any (λ m. is_same m n) before

-- a name is added where no equal one comes before, and comes before from then on
abbrev pub Adds : List Name → Name → Bool → NamesBefore → Type 0
Adds before n added names = (added ≡ not (Has n before)) × Hold names (n ∷ before)

-- the names of a row that equal one before them, in the row or in `before`
abbrev pub again : List Name → List Name → List Name
again before names = repeated_after (λ before n. Has n before) before names

-- the next name of a row, if there is one, is found where it repeats an earlier one, and the rest of the row is left
abbrev pub Passes : NamesBefore → Option Name → Option Name → NamesBefore → Type 0
Passes old own found new =
    (before : List Name) → Hold old before
    → (after : List Name) × Hold new after × ((rest : List Name) → again before (cons_option own rest) ≡ cons_option found (again after rest))
