-- The files of the sources and sinks of a checked graph, and that each sink has one of its own.
use Rattle.std.specs.Prelude.{◌≡◌, ℕ, true, false, List, ◌∷◌, ◌++◌, filter_map, Option, Some, None}
use Rattle.language_model.specs.declared.checked.CheckedClauses.{CheckedClauses}
use Rattle.language_model.specs.declared.checked.CheckedClauses.TheVariants as A
use Rattle.language_model.specs.Names.{is_named}

-- the file that an operator reads, by its clauses
abbrev pub source_file : CheckedClauses → Option (List ℕ)
source_file (A.FileSource file strict) = Some file
source_file _ = None

-- the file that it writes
abbrev pub sink_file : CheckedClauses → Option (List ℕ)
sink_file (A.FileSink file) = Some file
sink_file _ = None

abbrev pub source_files : List CheckedClauses → List (List ℕ)
source_files parts = filter_map source_file parts

abbrev pub sink_files : List CheckedClauses → List (List ℕ)
sink_files parts = filter_map sink_file parts

-- no sink's file is another sink's, a source's or one of the names
pub record OwnFiles (names : List (List ℕ)) (parts : List CheckedClauses) : Type 0 where
  pub once : (before after : List CheckedClauses) (file : List ℕ) → parts ≡ before ++ A.FileSink file ∷ after
      → is_named (sink_files after) file ≡ false
  pub apart : (file : List ℕ) → is_named (sink_files parts) file ≡ true → is_named (source_files parts) file ≡ false
  pub free : (file : List ℕ) → is_named (sink_files parts) file ≡ true → is_named names file ≡ false
