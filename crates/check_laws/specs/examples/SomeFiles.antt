-- Sources and sinks, for examples of whose files are their own.
use Rattle.std.specs.Prelude.{ℕ, true, List, [], ◌∷◌, codes, None}
use Rattle.language_model.specs.declared.checked.CheckedClauses.{CheckedClauses}
use Rattle.language_model.specs.declared.checked.CheckedClauses.TheVariants as A

abbrev pub source_of : List ℕ → CheckedClauses
source_of file = A.FileSource file true

abbrev pub sink_of : List ℕ → CheckedClauses
sink_of file = A.FileSink file

-- a source, what passes all on, and two sinks
abbrev pub two_sinks : List CheckedClauses
two_sinks = source_of (codes "in.csv") ∷ A.Filter None ∷ sink_of (codes "out.csv") ∷ sink_of (codes "rest.csv") ∷ []
