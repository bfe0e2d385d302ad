-- The sinks of a checked graph have files of their own.
use Rattle.std.specs.Prelude.{◌≡◌, ℕ, Bool, true, false, ◌&&◌, ◌||◌, List, [], ◌∷◌, ◌++◌, map, flat_map, length, Option, Some, None, Ok, slice_get}
use Rattle.std.specs.Str.{bytes_eq}
use Rattle.std.specs.Cmp.Lexicographic.{bytes_decides}
use Rattle.std.proofs.Common.{refl, sym, ap, subst, ◌∙◌}
use Rattle.std.proofs.lemmas.Bool.{or_from}
use Rattle.spl_tree.specs.declared.expression.Placed.{Placed}
use Rattle.spl_tree.specs.declared.graph.Graph.{Graph}
use Rattle.spl_tree.specs.declared.graph.Op.{Op}
use Rattle.spl_tree.specs.declared.unit.Composite.{Composite}
use Rattle.spl_tree.specs.declared.unit.Definition.{Definition}
use Rattle.spl_tree.specs.Trees.{placed}
use Rattle.language_model.specs.declared.checked.CheckedClauses.{CheckedClauses}
use Rattle.language_model.specs.declared.checked.CheckedClauses.TheVariants as A
use Rattle.language_model.specs.CheckedGraph.{CheckedGraph}
use Rattle.language_model.specs.Checking.{checked}
use Rattle.language_model.specs.parts.Checking.{each_stream, operators_checked}
use Rattle.language_model.specs.Declarations.{first_of}
use Rattle.language_model.specs.Expansion.{Expanded, expanded_main}
use Rattle.language_model.specs.Flat.{IsFlat, expands, flat_from, no_main, ordered, recursive, twice, with_own_files}
use Rattle.language_model.proofs.parts.Flat.{files_had, if_none_had}
use Rattle.language_model.specs.FunctionTyping.{functions_typing}
use Rattle.language_model.specs.Keeping.{Keeps}
use Rattle.language_model.specs.Numbering.{numbers_from}
use Rattle.language_model.specs.Parameters.{dollar_tables}
use Rattle.language_model.specs.Scopes.{At}
use Rattle.language_model.specs.SinkFiles.{OpFile, op_file}
use Rattle.language_model.specs.Typing.{after}
use Rattle.language_model.specs.Files.{OwnFiles, sink_files, source_files}
use Rattle.language_model.specs.Names.{is_named}
use Rattle.check_laws.specs.KeepsLaw.{KeepsLaw}
use Rattle.check_laws.specs.OwnFilesLaw.{OwnFilesLaw}
use Rattle.check_laws.proofs.FileParts.{Fitted, operators_files, part_file}
use Rattle.language_model.proofs.FoundAnswers.{after_gives, same_Ok}
use Rattle.check_laws.proofs.FreeFiles.{Clear, Free, all_free, bare_free}
use Rattle.spl_value.proofs.Lists.{other_bytes}

-- ---- the files of parts

abbrev pub part_files : List CheckedClauses → List OpFile
part_files parts = flat_map part_file parts

abbrev file_of_sink : List ℕ → OpFile
file_of_sink file = record { sink = true; file = placed 0 file }

abbrev file_of_source : List ℕ → OpFile
file_of_source file = record { sink = false; file = placed 0 file }

equal_bytes : (m n : List ℕ) → bytes_eq m n ≡ true → bytes_eq n m ≡ true
equal_bytes m n is = (bytes_decides n m).1 (sym ((bytes_decides m n).0 is))

-- files of which one is a sink's don't clash where they are others
apart_of : (m n : List ℕ) (b : Bool) → (bytes_eq m n && b) ≡ false → b ≡ true → bytes_eq n m ≡ false
apart_of m n b clear one =
    other_bytes m n (by_test (bytes_eq m n) refl)
  where
    by_test : (c : Bool) → bytes_eq m n ≡ c → bytes_eq m n ≡ false
    by_test true same = let both : (bytes_eq m n && b) ≡ true = (λ j. same j && one j) in absurd cc
    by_test false other = other

-- no sink after an operator with this file has it
sinks_apart : (g : OpFile) (parts : List CheckedClauses) → Clear g (part_files parts) → is_named (sink_files parts) g.file.what ≡ false
sinks_apart g [] clear = refl
sinks_apart g (A.FileSink file ∷ parts) clear =
    or_from (bytes_eq file g.file.what) (is_named (sink_files parts) g.file.what)
    (apart_of g.file.what file (true || g.sink) clear.0 refl) (sinks_apart g parts clear.1)
sinks_apart g (A.FileSource file strict ∷ parts) clear = sinks_apart g parts clear.1
sinks_apart g (_ ∷ parts) clear = sinks_apart g parts clear

-- no source after a sink reads its file
sources_apart : (file : List ℕ) (parts : List CheckedClauses) → Clear (file_of_sink file) (part_files parts) → is_named (source_files parts) file ≡ false
sources_apart file [] clear = refl
sources_apart file (A.FileSink other ∷ parts) clear = sources_apart file parts clear.1
sources_apart file (A.FileSource other strict ∷ parts) clear =
    or_from (bytes_eq other file) (is_named (source_files parts) file) (apart_of file other true clear.0 refl) (sources_apart file parts clear.1)
sources_apart file (_ ∷ parts) clear = sources_apart file parts clear

-- ---- files of their own

module _ (names : List (List ℕ)) where
  behind : (part : CheckedClauses) (parts : List CheckedClauses) → Free names (part_files (part ∷ parts)) → Free names (part_files parts)
  behind (A.FileSink file) parts h = h.2
  behind (A.FileSource file strict) parts h = h.2
  behind _ parts h = h

  once : (before after : List CheckedClauses) (file : List ℕ) → Free names (part_files (before ++ A.FileSink file ∷ after)) → is_named (sink_files after) file ≡ false
  once [] after file h = sinks_apart (file_of_sink file) after h.1
  once (part ∷ before) after file h = once before after file (behind part (before ++ A.FileSink file ∷ after) h)

  -- what no sink has is free for a source
  apart_behind : (own : List ℕ) (parts : List CheckedClauses) (file : List ℕ) → Clear (file_of_source own) (part_files parts) → is_named (sink_files parts) file ≡ true
      → bytes_eq own file ≡ false
  apart_behind own parts file clear is = by_test (bytes_eq own file) refl
    where
      by_test : (b : Bool) → bytes_eq own file ≡ b → bytes_eq own file ≡ false
      by_test true same =
          let none : is_named (sink_files parts) file ≡ false =
          subst (λ n. is_named (sink_files parts) n ≡ false) ((bytes_decides own file).0 same) (sinks_apart (file_of_source own) parts clear) in
          absurd cc
      by_test false other = other

  -- what holds of a sink's own file, and of those of others, holds of each
  of_each : (P : List ℕ → Type 0) (own : List ℕ) (named : List ℕ → Bool) (file : List ℕ) → (bytes_eq own file || named file) ≡ true → P own
      → (named file ≡ true → P file) → P file
  of_each P own named file is here others = by_test (bytes_eq own file) refl is
    where
      by_test : (b : Bool) → bytes_eq own file ≡ b → (b || named file) ≡ true → P file
      by_test true same is = subst P ((bytes_decides own file).0 same) here
      by_test false other is = others is

  apart : (parts : List CheckedClauses) → Free names (part_files parts) → (file : List ℕ) → is_named (sink_files parts) file ≡ true
      → is_named (source_files parts) file ≡ false
  apart [] h file is = absurd cc
  apart (A.FileSink own ∷ parts) h file is =
      of_each (λ n. is_named (source_files parts) n ≡ false) own (is_named (sink_files parts)) file is (sources_apart own parts h.1) (apart parts h.2 file)
  apart (A.FileSource own strict ∷ parts) h file is =
      or_from (bytes_eq own file) (is_named (source_files parts) file) (apart_behind own parts file h.1 is) (apart parts h.2 file is)
  apart (_ ∷ parts) h file is = apart parts h file is

  free : (parts : List CheckedClauses) → Free names (part_files parts) → (file : List ℕ) → is_named (sink_files parts) file ≡ true → is_named names file ≡ false
  free [] h file is = absurd cc
  free (A.FileSink own ∷ parts) h file is =
      of_each (λ n. is_named names n ≡ false) own (is_named (sink_files parts)) file is h.0 (free parts h.2 file)
  free (A.FileSource own strict ∷ parts) h file is = free parts h.2 file is
  free (_ ∷ parts) h file is = free parts h file is

  pub own_files : (parts : List CheckedClauses) → Free names (part_files parts) → OwnFiles names parts
  own_files parts h = record {
    once = λ before after file is. once before after file (subst (λ ps. Free names (part_files ps)) is h);
    apart = apart parts h;
    free = free parts h;
  }

-- ---- graphs

no_place : (fs : List OpFile) (o : Option (Placed (List ℕ))) → first_of (map (λ f. f.file) fs) ≡ o → o ≡ None → fs ≡ []
no_place [] o e none = refl
no_place (f ∷ fs) o e none = absurd cc

-- a graph in which no file is had twice
record NoneTwice (unit : List Definition) (names : List (List ℕ)) (g : Graph) : Type 0 where
  none : files_had unit names g.expansions g.ops ≡ []

none_twice : (unit : List Definition) (names : List (List ℕ)) (h g : Graph) → with_own_files unit names h ≡ Ok g → NoneTwice unit names g
none_twice unit names h g e = by_first (first_of (map (λ f. f.file) (files_had unit names h.expansions h.ops))) refl e
  where
    by_first : (o : Option (Placed (List ℕ))) → first_of (map (λ f. f.file) (files_had unit names h.expansions h.ops)) ≡ o → if_none_had h o ≡ Ok g → NoneTwice unit names g
    by_first None is e =
        let same : h ≡ g = same_Ok e in
        subst (NoneTwice unit names) same record { none = no_place (files_had unit names h.expansions h.ops) None is refl }
    by_first (Some file) is e = absurd cc

flat_none : (unit : List Definition) (names : List (List ℕ)) (main : At Composite) (g : Graph) → flat_from unit names main ≡ Ok g → NoneTwice unit names g
flat_none unit names main g e =
    let x = after_gives (expanded_main unit main) (λ made. after (ordered made) (with_own_files unit names)) g e in
    let y = after_gives (ordered x.0) (with_own_files unit names) g x.2 in
    none_twice unit names y.0 g y.2

graph_none : (unit : List Definition) (names : List (List ℕ)) (g : Graph) (x : Expanded Graph) → IsFlat unit names x → x ≡ Ok g → NoneTwice unit names g
graph_none unit names g x (twice n declared) e = absurd cc
graph_none unit names g x (no_main declared none) e = absurd cc
graph_none unit names g x (recursive main n declared is r) e = absurd cc
graph_none unit names g x (expands main declared is r) e = flat_none unit names main g e

-- the parts of a checked graph are those of its operators, and its graph is what was checked
record PartsFound (unit : List Definition) (g : Graph) (c : CheckedGraph) : Type 0 where
  graph : g ≡ c.graph
  parts : operators_checked unit g (dollar_tables unit g.expansions) g.ops ≡ Ok c.parts

parts_found : (unit : List Definition) (g : Graph) (c : CheckedGraph) → checked unit g ≡ Ok c → PartsFound unit g c
parts_found unit g c e =
    let x = after_gives (functions_typing unit) (λ functions. after (operators_checked unit g (dollar_tables unit g.expansions) g.ops) (λ parts.
    after (each_stream unit g (numbers_from 0 (length g.streams))) (λ schemas.
    Ok (record { graph = g; schemas = schemas; functions = functions; parts = parts })))) c e in
    let y = after_gives (operators_checked unit g (dollar_tables unit g.expansions) g.ops) (λ parts.
    after (each_stream unit g (numbers_from 0 (length g.streams))) (λ schemas.
    Ok (record { graph = g; schemas = schemas; functions = x.0; parts = parts }))) c x.2 in
    let z = after_gives (each_stream unit g (numbers_from 0 (length g.streams))) (λ schemas.
    Ok (record { graph = g; schemas = schemas; functions = x.0; parts = y.0 })) c y.2 in
    let whole : ◌≡◌ {A = CheckedGraph} (record { graph = g; schemas = z.0; functions = x.0; parts = y.0 }) c = same_Ok z.2 in
    record { graph = ap (λ (k : CheckedGraph). k.graph) whole; parts = y.1 ∙ ap (λ (k : CheckedGraph). Ok k.parts) whole }

-- the clauses of each operator fit it
parts_fit : (g : Graph) (c : CheckedGraph) → Keeps c → g ≡ c.graph
    → (n : ℕ) (op : Op) (part : CheckedClauses) → slice_get g.ops n ≡ Some op → slice_get c.parts n ≡ Some part → Fitted op part
parts_fit g c keeps same n op part at there =
    let fit = keeps.operators n op part (ap (λ (h : Graph). slice_get h.ops n) (sym same) ∙ at) there in
    (fit.scope, fit.ins, fit.outs, fit.clauses)

pub law : KeepsLaw → OwnFilesLaw
law keeps unit names g c flat e =
    let none = graph_none unit names g (Ok g) flat refl in
    let free = all_free names (flat_map (op_file unit g.expansions) g.ops) none.none in
    let found = parts_found unit g c e in
    let files = operators_files unit g (dollar_tables unit g.expansions) g.ops c.parts found.parts (parts_fit g c (keeps unit names g c flat e) found.graph) in
    own_files names c.parts (subst (Free names) files (bare_free names (flat_map (op_file unit g.expansions) g.ops) free))
