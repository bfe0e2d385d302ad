-- The files that a request opens and creates, by the clauses of the operators of its program.
use Rattle.std.specs.Prelude.{◌^◌, ℕ, List, [], ◌∷◌, ◌++◌, if◌then◌else◌, Option, Some, None, Result, slice_get}
use Rattle.std.specs.Result.{result_ok}
use Rattle.std.specs.Option.{option_map_or, option_to_list}
use Rattle.std.specs.Str.{bytes_eq}
use Rattle.language_model.specs.declared.checked.CheckedClauses.{CheckedClauses}
use Rattle.language_model.specs.declared.refusal.Refusal.{Refusal}
use Rattle.language_model.specs.CheckedGraph.{CheckedGraph}
use Rattle.command_line.specs.declared.request.Request.{Request}
use Rattle.command_line.specs.declared.request.Request.TheVariants as R
use Rattle.command_line.specs.Request.{file_names}
use Rattle.language_model.specs.Files.{source_files, sink_files}

-- the file of a request's program, which is the first of the files of its command line
abbrev pub program_of : Request → Option (List ℕ)
program_of request = slice_get (file_names request) 0

-- the operators of an accepted program; those of another one are none
abbrev pub parts_of : Result CheckedGraph Refusal → List CheckedClauses
parts_of found = option_map_or (λ c. c.parts) (result_ok found) []

-- the files of the sources, where they are run, which are read row by row
abbrev pub row_files : Option Request → List CheckedClauses → List (List ℕ)
row_files (Some (R.Run program options)) parts = source_files parts
row_files (Some (R.Replay program arrivals)) parts = source_files parts
row_files (Some (R.Simulate program width schedule steps)) parts = source_files parts
row_files _ parts = []

-- the program, and a record that is followed, which are read as a whole
abbrev pub whole_files : Option Request → List (List ℕ)
whole_files None = []
whole_files (Some (R.Replay program arrivals)) = program ∷ arrivals ∷ []
whole_files (Some request) = option_to_list (program_of request)

-- the files that are opened, each of which is read to its end
abbrev pub opens : Option Request → List CheckedClauses → List (List ℕ)
opens request parts = whole_files request ++ row_files request parts

-- the files of the sinks where they are run, a record that is written, and a file that is made
abbrev pub creates : Option Request → List CheckedClauses → List (List ℕ)
creates (Some (R.Run program options)) parts = sink_files parts ++ option_to_list options.arrivals
creates (Some (R.Replay program arrivals)) parts = sink_files parts
creates (Some (R.Simulate program width schedule steps)) parts = sink_files parts
creates (Some (R.Make name rows start)) parts = name ∷ []
creates _ parts = []

-- how many bytes a file may have that is read as a whole: the file of a program, or that of an arrival record
abbrev pub most_bytes : Option Request → List ℕ → ℕ
most_bytes (Some (R.Replay program arrivals)) name = if bytes_eq arrivals name then 2 ^ 32 else 1048576
most_bytes _ name = 1048576

-- the files of a request: those that it opens, in order, those of them that it reads as a whole, with their bounds, and row by row, and those that it
-- creates, in order
pub record FilesOf : Type 0 where
  pub opened : List (List ℕ)
  pub whole : List (List ℕ)
  pub most : List ℕ → ℕ
  pub rows : List (List ℕ)
  pub created : List (List ℕ)

abbrev pub files_of : Option Request → List CheckedClauses → FilesOf
files_of request parts =
    record {
      opened = opens request parts;
      whole = whole_files request;
      most = most_bytes request;
      rows = row_files request parts;
      created = creates request parts;
    }
