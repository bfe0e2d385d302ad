-- What is known of the graph of a unit, and how what is found of it goes together.
use Rattle.std.specs.Prelude.{◌≡◌, ℕ, List, length, Ok, Err}
use Rattle.std.proofs.Common.{refl, ap, ◌∙◌}
use Rattle.spl_tree.specs.declared.body.Function.{Function}
use Rattle.spl_tree.specs.declared.graph.Graph.{Graph}
use Rattle.spl_tree.specs.declared.unit.Composite.{Composite}
use Rattle.spl_tree.specs.declared.unit.Definition.{Definition}
use Rattle.language_model.specs.CheckedGraph.{CheckedGraph}
use Rattle.language_model.specs.Checking.{checked}
use Rattle.language_model.specs.parts.Checking.{each_stream, operators_checked}
use Rattle.language_model.specs.Expansion as expansion
use Rattle.language_model.specs.Flat.{IsFlat, IsMain, flat_from, twice, no_main, recursive, expands}
use Rattle.language_model.specs.FlatLaws.{OperatorLaw}
use Rattle.language_model.specs.FunctionTyping.{functions_typing}
use Rattle.language_model.specs.Numbering.{numbers_from}
use Rattle.language_model.specs.Parameters.{dollar_tables}
use Rattle.language_model.specs.Scopes.{At}
use Rattle.language_model.specs.Typing.{Found, after}
use Rattle.clause_rules.specs.declared.checking.PartsAndSchemas.{PartsAndSchemas}
use Rattle.clause_rules.specs.steps.Programs.{AreInvoked, found_in}

-- a graph is that from a main composite on
pub record FromMain (unit : List Definition) (names : List (List ℕ)) (x : expansion.Expanded Graph) : Type 0 where
  pub main : At Composite
  pub is_main : IsMain unit main
  pub same : flat_from unit names main ≡ x

from_main : (unit : List Definition) (names : List (List ℕ)) (x : expansion.Expanded Graph) (g : Graph) → IsFlat unit names x → x ≡ Ok g → FromMain unit names x
from_main unit names x g (twice n e) is = absurd (no is)
  where
    no : x ≡ Ok g → ⊥
    no is = cc
from_main unit names x g (no_main e f) is = absurd (no is)
  where
    no : x ≡ Ok g → ⊥
    no is = cc
from_main unit names x g (recursive main n e f h) is = absurd (no is)
  where
    no : x ≡ Ok g → ⊥
    no is = cc
from_main unit names x g (expands main e m h) is = record { main = main; is_main = m; same = refl }

pub are_invoked : OperatorLaw → (unit : List Definition) (names : List (List ℕ)) (g : Graph) → IsFlat unit names (Ok g) → AreInvoked unit g
are_invoked law unit names g flat =
    let f = from_main unit names (Ok g) g flat refl in
    law unit names f.main g f.same f.is_main.1

regrouped : {A B C D : Type 0} (o : Found A) (p : Found B) (pair : A → B → C) (h : C → D)
    → after o (λ a. after p (λ b. Ok (h (pair a b)))) ≡ after (after o (λ a. after p (λ b. Ok (pair a b)))) (λ c. Ok (h c))
regrouped (Ok a) (Ok b) pair h = refl
regrouped (Ok a) (Err r) pair h = refl
regrouped (Err r) p pair h = refl

abbrev pub whole : Graph → List Function → PartsAndSchemas → CheckedGraph
whole g functions found = record { graph = g; schemas = found.schemas; functions = functions; parts = found.parts }

pub checked_is : (unit : List Definition) (g : Graph) (functions : List Function) (found : PartsAndSchemas) → functions_typing unit ≡ Ok functions → found_in unit g ≡ Ok found
    → checked unit g ≡ Ok (whole g functions found)
checked_is unit g functions found typed is =
    ap (λ o. after o (λ fs. after (operators_checked unit g (dollar_tables unit g.expansions) g.ops) (λ parts.
    after (each_stream unit g (numbers_from 0 (length g.streams))) (λ schemas. Ok (record { graph = g; schemas = schemas; functions = fs; parts = parts }))))) typed
    ∙ regrouped (operators_checked unit g (dollar_tables unit g.expansions) g.ops) (each_stream unit g (numbers_from 0 (length g.streams)))
    (λ parts schemas. record { parts = parts; schemas = schemas }) (whole g functions)
    ∙ ap (λ o. after o (λ f. Ok (whole g functions f))) is
