-- The graph of a unit: from which composite it comes, and what was expanded on the way to it.
use Rattle.std.specs.Prelude.{◌≡◌, ℕ, List, Option, Some, None, Ok, map, length, slice_get}
use Rattle.std.proofs.Common.{sym, ◌∙◌}
use Rattle.spl_tree.specs.declared.graph.Graph.{Graph}
use Rattle.spl_tree.specs.declared.unit.Composite.{Composite}
use Rattle.spl_tree.specs.declared.unit.Definition.{Definition}
use Rattle.language_model.specs.Composites.{composites}
use Rattle.language_model.specs.Declarations.{first_of}
use Rattle.language_model.specs.Expansion.{Expanded, Made, after, expanded_main}
use Rattle.language_model.specs.Flat.{IsFlat, expands, flat_from, no_main, ordered, recursive, twice, with_own_files}
use Rattle.language_model.proofs.parts.Flat.{files_had, graph_of, if_all_taken}
use Rattle.language_model.specs.Numbering.{expansions_from, ops_from, streams_from}
use Rattle.language_model.specs.Scopes.{At}
use Rattle.language_model.specs.Taking.{first_untaken, taken}
use Rattle.language_model.proofs.FoundAnswers.{after_gives, same_Ok}
use Rattle.graph_laws.proofs.Flattening.{none_had}

-- ---- the main composite

-- a graph that comes from the main composite
pub record FromMain (unit : List Definition) (names : List (List ℕ)) (g : Graph) : Type 0 where
  pub main : At Composite
  pub there : slice_get (composites unit) main.place ≡ Some main.what
  pub flat : flat_from unit names main ≡ Ok g

pub from_main : (unit : List Definition) (names : List (List ℕ)) (g : Graph) (x : Expanded Graph) → IsFlat unit names x → x ≡ Ok g → FromMain unit names g
from_main unit names g x (twice n declared) e = absurd cc
from_main unit names g x (no_main declared none) e = absurd cc
from_main unit names g x (recursive main n declared is r) e = absurd cc
from_main unit names g x (expands main declared is r) e = record { main = main; there = is.1; flat = e }

-- ---- what was expanded

abbrev topo_of : Made → List ℕ
topo_of made = taken (streams_from 0 made.ops) (ops_from made 0 made.ops)

taken_all : (made : Made) (topo : List ℕ) (o : Option ℕ) (g : Graph) → if_all_taken made topo o ≡ Ok g → graph_of made topo ≡ g
taken_all made topo None g e = same_Ok e
taken_all made topo (Some n) g e = absurd cc

pub record IsMade (unit : List Definition) (main : At Composite) (g : Graph) : Type 0 where
  pub made : Made
  pub expanded : expanded_main unit main ≡ Ok made
  pub ops : g.ops ≡ ops_from made 0 made.ops
  pub expansions : g.expansions ≡ expansions_from made 0 made.expansions

pub is_made : (unit : List Definition) (names : List (List ℕ)) (main : At Composite) (g : Graph) → flat_from unit names main ≡ Ok g → IsMade unit main g
is_made unit names main g e =
    let x = after_gives (expanded_main unit main) (λ made. after (ordered made) (with_own_files unit names)) g e in
    let y = after_gives (ordered x.0) (with_own_files unit names) g x.2 in
    let of_made : graph_of x.0 (topo_of x.0) ≡ y.0 = taken_all x.0 (topo_of x.0) (first_untaken (topo_of x.0) 0 (length x.0.ops)) y.0 y.1 in
    let own : y.0 ≡ g = none_had y.0 (first_of (map (λ f. f.file) (files_had unit names y.0.expansions y.0.ops))) g y.2 in
    let same : g ≡ graph_of x.0 (topo_of x.0) = sym (of_made ∙ own) in
    record { made = x.0; expanded = x.1; ops = λ i. (same i).ops; expansions = λ i. (same i).expansions }
