-- The graph of a unit without composites, or the first refusal on the way to it.
use Rattle.std.specs.Prelude.{◌≡◌, ℕ, List, [], map, flat_map, length, Some, None, slice_get, Ok, Err}
use Rattle.std.specs.Option.{option_map_or}
use Rattle.spl_tree.specs.declared.expression.Placed.{Placed}
use Rattle.spl_tree.specs.declared.graph.Graph.{Graph}
use Rattle.spl_tree.specs.declared.unit.Composite.{Composite}
use Rattle.spl_tree.specs.declared.unit.Definition.{Definition}
use Rattle.spl_tree.specs.Trees.{placed}
use Rattle.language_model.specs.declared.expansion.ExpansionError.TheVariants as E
use Rattle.language_model.specs.Refusals.{named_refusal, unnamed_refusal}
use Rattle.language_model.specs.Composites.{composites, main_of}
use Rattle.language_model.specs.Declarations.{declared_twice, first_of, repeated}
use Rattle.language_model.specs.Expansion.{Made, Expanded, after, expanded_main}
use Rattle.language_model.specs.Numbering.{ops_from, streams_from, expansions_from}
use Rattle.language_model.specs.Recursion.{IsRecursive, IsNotRecursive}
use Rattle.language_model.specs.Scopes.{At}
use Rattle.language_model.specs.SinkFiles.{op_file, is_had}
use Rattle.language_model.specs.Taking.{taken, first_untaken}

-- ---- loops

-- the graph, or else the first operator that can't be taken is refused, at its invocation, by its first stream
abbrev pub ordered : Made → Expanded Graph
ordered made =
    let topo = taken (streams_from 0 made.ops) (ops_from made 0 made.ops) in
    option_map_or (λ n. Err (named_refusal E.Loop
    (option_map_or (λ o. placed o.at o.label) (slice_get made.ops n) (placed 0 []))))
    (first_untaken topo 0 (length made.ops))
    (Ok (record {
      ops = ops_from made 0 made.ops;
      streams = streams_from 0 made.ops;
      expansions = expansions_from made 0 made.expansions;
      topo = topo;
    }))

-- ---- files

-- the first file of a source or sink that is in use already is refused
abbrev pub with_own_files : List Definition → List (List ℕ) → Graph → Expanded Graph
with_own_files unit names g =
    option_map_or (λ file. Err (named_refusal E.SameFile file))
    (first_of (map (λ f. f.file) (repeated (is_had names) (flat_map (op_file unit g.expansions) g.ops)))) (Ok g)

-- ---- the whole

abbrev pub flat_from : List Definition → List (List ℕ) → At Composite → Expanded Graph
flat_from unit names main = after (expanded_main unit main) (λ made. after (ordered made) (with_own_files unit names))

-- the main composite, where there is one
abbrev pub IsMain : List Definition → At Composite → Type 0
IsMain unit main = (main_of unit ≡ Some main.place) × (slice_get (composites unit) main.place ≡ Some main.what)

-- names that are declared twice are refused first, then that there is no main composite, then recursion, and then what
-- the expansion from the main composite on refuses
pub data IsFlat (unit : List Definition) (names : List (List ℕ)) : Expanded Graph → Type 0 where
  twice : (n : Placed (List ℕ)) → declared_twice unit ≡ Some n → IsFlat unit names (Err (named_refusal E.Twice n))
  no_main : declared_twice unit ≡ None → main_of unit ≡ None → IsFlat unit names (Err (unnamed_refusal E.NoMain 0))
  recursive : (main : At Composite) (n : Placed (List ℕ)) → declared_twice unit ≡ None → IsMain unit main
      → IsRecursive unit n → IsFlat unit names (Err (named_refusal E.Recursive n))
  expands : (main : At Composite) → declared_twice unit ≡ None → IsMain unit main → IsNotRecursive unit
      → IsFlat unit names (flat_from unit names main)
