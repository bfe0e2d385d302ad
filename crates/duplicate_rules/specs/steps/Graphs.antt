-- The names of a composite's streams, aliases and ports, as the code has them.
use Rattle.std.specs.Prelude.{◌≡◌, Bool, true, not, ◌||◌, List, [], ◌∷◌}
use Rattle.language_model.specs.Declarations.{Name, Declared, OutputPort, InputPort, MadeStream, Alias}
use Rattle.language_model.specs.parts.Declarations.{is_declared}
use Rattle.duplicate_rules.specs.declared.declarations.graphs.GraphName.{GraphName}
use Rattle.duplicate_rules.specs.declared.declarations.graphs.GraphName.TheVariants as G
use Rattle.duplicate_rules.specs.declared.declarations.graphs.GraphNamesBefore.{GraphNamesBefore}
use Rattle.duplicate_rules.specs.steps.NamesBefore.{Has, Hold}

abbrev pub shown : GraphName → Declared
shown (G.Output name) = OutputPort name.now
shown (G.Input name) = InputPort name.now
shown (G.Stream name) = MadeStream name.now
shown (G.Alias name) = Alias name.now

-- the outputs of the head among those that come before
abbrev pub outputs_of : List Declared → List Name
outputs_of [] = []
outputs_of (OutputPort n ∷ ds) = n ∷ outputs_of ds
outputs_of (InputPort n ∷ ds) = outputs_of ds
outputs_of (MadeStream n ∷ ds) = outputs_of ds
outputs_of (Alias n ∷ ds) = outputs_of ds

-- and the others
abbrev pub others_of : List Declared → List Name
others_of [] = []
others_of (OutputPort n ∷ ds) = others_of ds
others_of (InputPort n ∷ ds) = n ∷ others_of ds
others_of (MadeStream n ∷ ds) = n ∷ others_of ds
others_of (Alias n ∷ ds) = n ∷ others_of ds

-- it has the names that come before, and no other
abbrev pub Stand : GraphNamesBefore → List Declared → Type 0
Stand names before = Hold names.outputs (outputs_of before) × Hold names.others (others_of before)

-- a name is added where it may follow the names before it
abbrev pub Adds : List Declared → Declared → Bool → GraphNamesBefore → Type 0
Adds before d added names = (added ≡ not (is_declared before d)) × (added ≡ true → Stand names (d ∷ before))

-- that of an output where no equal one comes before
abbrev pub AddsOutput : List Declared → Name → Bool → GraphNamesBefore → Type 0
AddsOutput before n added names =
    (added ≡ not (Has n (outputs_of before) || Has n (others_of before)))
    × (added ≡ true → Hold names.outputs (n ∷ outputs_of before) × Hold names.others (others_of before))

-- that of an input or an alias likewise
abbrev pub AddsOther : List Declared → Name → Bool → GraphNamesBefore → Type 0
AddsOther before n added names =
    (added ≡ not (Has n (outputs_of before) || Has n (others_of before)))
    × (added ≡ true → Hold names.outputs (outputs_of before) × Hold names.others (n ∷ others_of before))
