-- The bodies of one program, and its streams.
use Rattle.std.specs.Prelude.{◌≡◌, ℕ, List, [], ◌∷◌, ◌++◌, length, codes, Some, None}
use Rattle.std.proofs.Common.{refl, ap, arith}
use Rattle.std.proofs.lemmas.List.{length-append}
use Rattle.spl_tree.specs.declared.graph.Expansion.{Expansion}
use Rattle.language_model.specs.examples.FlatGraphs.{reversed, reversed_graph, reversed_main, twice_filtered}
use Rattle.expansion_laws.specs.Bodies.{in_main, in_body, by_stream}
use Rattle.expansion_laws.specs.Standing.{site, IsBody, MakesAs, IsOutput, of_operator, of_composite, StandsFor, made, given, none, more}
use Rattle.expansion_laws.proofs.laws.inputs_on_literals.Goals as goal

abbrev main_body : Expansion
main_body = record { composite = 1; site = None; streams = 1 ∷ 3 ∷ 4 ∷ []; inputs = [] }

abbrev first_body : Expansion
first_body = record { composite = 0; site = Some (site 0 1); streams = 0 ∷ 1 ∷ []; inputs = record { count = 2; first = 3 } ∷ [] }

abbrev second_body : Expansion
second_body = record { composite = 0; site = Some (site 0 2); streams = 2 ∷ 3 ∷ []; inputs = record { count = 1; first = 4 } ∷ [] }

body_of_main : IsBody reversed reversed_graph 0 main_body reversed_main
body_of_main = record { there = refl; composite = refl }

body_of_first : IsBody reversed reversed_graph 1 first_body twice_filtered
body_of_first = record { there = refl; composite = refl }

body_of_second : IsBody reversed reversed_graph 2 second_body twice_filtered
body_of_second = record { there = refl; composite = refl }

in_twice : MakesAs twice_filtered (codes "O") 1 0
in_twice = record { invocation = _; stream = _; there = refl; made = refl; named = refl }

second_output : IsOutput reversed reversed_graph (site 0 2) 0 3
second_output = of_composite (site 0 2) 0 3 2 _ twice_filtered _ 1 0 body_of_second refl refl in_twice (of_operator (site 2 1) 0 3 4 _ refl refl refl)

in_x : StandsFor reversed reversed_graph 0 (codes "X") (3 ∷ [])
in_x = made 0 (codes "X") _ reversed_main 2 0 3 body_of_main (record { invocation = _; stream = _; there = refl; made = refl; named = refl }) second_output

in_s : StandsFor reversed reversed_graph 0 (codes "S") (4 ∷ [])
in_s = made 0 (codes "S") _ reversed_main 3 0 4 body_of_main (record { invocation = _; stream = _; there = refl; made = refl; named = refl }) (of_operator (site 0 3) 0 4 5 _ refl refl refl)

pub returns-clause-lies : goal.returns-clause-lies
returns-clause-lies c = in_body 1 _ (site 0 1) _ (codes "Y") [] [] refl refl refl (by_stream _ [] refl refl) (in_main 0 _ refl refl)

pub returns-clause-before : goal.returns-clause-before
returns-clause-before c = record { common = []; m = 1; n = 2; rest = 1 ∷ []; others = 0 ∷ []; first = refl; second = refl; less = omega arith }

one_only : (common : List ℕ) (m n : ℕ) (rest others : List ℕ) → 1 ∷ 1 ∷ [] ≡ common ++ m ∷ rest → 1 ∷ [] ≡ common ++ n ∷ others → m ≡ n
one_only [] m n rest others e f = cc
one_only (x ∷ common) m n rest others e f =
    let h : [] ≡ common ++ n ∷ others = cc in
    absurd (let count : 0 ≡ length (common ++ n ∷ others) = ap length h in omega (arith, length-append common (n ∷ others)))

pub returns-clause-around : goal.returns-clause-around
returns-clause-around c b = let same = one_only b.common b.m b.n b.rest b.others b.first b.second in omega (arith, b.less, same)

pub returns-clause-output : goal.returns-clause-output
returns-clause-output c = of_composite (site 0 1) 0 1 1 _ twice_filtered _ 1 0 body_of_first refl refl in_twice (of_operator (site 1 1) 0 1 2 _ refl refl refl)

pub returns-clause-inputs : goal.returns-clause-inputs
returns-clause-inputs c =
    given 1 (codes "I") _ twice_filtered 0 _ (site 0 1) _ _ (3 ∷ 4 ∷ []) body_of_first refl refl refl refl refl
    (more 0 _ _ (3 ∷ []) (4 ∷ []) in_x (more 0 _ _ (4 ∷ []) [] in_s (none 0)))
