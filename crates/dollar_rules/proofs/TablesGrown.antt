-- The tables of the parameters, expansion by expansion.
use Rattle.std.specs.Prelude.{◌≡◌, ◌<◌, ◌≤◌, ℕ, ◌+◌, List, [], ◌∷◌, ◌++◌, length, map, Result, Ok, Err, IfOk}
use Rattle.std.proofs.Common.{ap, sym, ◌∙◌, get_or, drop, append_assoc, append-nil}
use Rattle.std.proofs.lemmas.List.{drop_all, map-append}
use Rattle.spl_value.specs.declared.memory.NoMemory.{NoMemory}
use Rattle.spl_tree.specs.declared.graph.Expansion.{Expansion}
use Rattle.spl_tree.specs.declared.unit.Definition.{Definition}
use Rattle.language_model.specs.declared.scope.Dollar.{Dollar}
use Rattle.language_model.specs.declared.scope.Scope.{Scope}
use Rattle.language_model.specs.Parameters.{Tables, constant_scope, expansion_dollars, tables_from}
use Rattle.dollar_rules.specs.steps.Tables.{AreConstants, tables_of}
use Rattle.spl_value.proofs.Lists.{drop_at as rest_at}

abbrev constant : Scope → Scope
constant s = constant_scope s.dollars

pub constants_more : (xs ys : List Scope) (own : Scope) (dollars : List Dollar) → ys ≡ xs ++ own ∷ [] → own ≡ constant_scope dollars → AreConstants xs → AreConstants ys
constants_more xs ys own dollars e is are =
    let same : own ≡ constant own = is ∙ ap constant_scope (sym (ap (λ s. s.dollars) is)) in
    e ∙ (λ i. are i ++ same i ∷ []) ∙ sym (map-append constant xs (own ∷ [])) ∙ ap (map constant) (sym e)

module _ (unit : List Definition) (expansions : List Expansion) where
  pub tables_more : (all : Tables) (xs ys : List Scope) (own : Scope) (i : ℕ) (x : Expansion) → i < length expansions → x ≡ get_or expansions i x → ys ≡ xs ++ own ∷ []
      → own ≡ constant_scope (expansion_dollars unit expansions (tables_of xs) x)
      → all ≡ tables_of xs ++ tables_from unit expansions (tables_of xs) (drop i expansions) → all ≡ tables_of ys ++ tables_from unit expansions (tables_of ys) (drop (i + 1) expansions)
  tables_more all xs ys own i x h here e is before =
      let d = expansion_dollars unit expansions (tables_of xs) x in
      let rest = drop (i + 1) expansions in
      let row : tables_of ys ≡ tables_of xs ++ d ∷ [] =
      ap tables_of e ∙ map-append (λ s. s.dollars) xs (own ∷ []) ∙ ap (λ (s : Scope). tables_of xs ++ s.dollars ∷ []) is in
      before ∙ ap (λ r. tables_of xs ++ tables_from unit expansions (tables_of xs) r) (rest_at expansions i x h here)
      ∙ sym (append_assoc (tables_of xs) (d ∷ []) (tables_from unit expansions (tables_of xs ++ d ∷ []) rest))
      ∙ ap (λ t. t ++ tables_from unit expansions t rest) (sym row)

  pub tables_all : (all : Tables) (xs : List Scope) (i : ℕ) → length expansions ≤ i → all ≡ tables_of xs ++ tables_from unit expansions (tables_of xs) (drop i expansions) → tables_of xs ≡ all
  tables_all all xs i h before =
      sym (before ∙ ap (λ r. tables_of xs ++ tables_from unit expansions (tables_of xs) r) (drop_all i expansions h) ∙ append-nil (tables_of xs))

pub same_if_ok : {A : Type 0} (r : Result A NoMemory) (x y : A) → IfOk r (λ z. z ≡ x) → x ≡ y → IfOk r (λ z. z ≡ y)
same_if_ok (Ok z) x y h e = h ∙ e
same_if_ok (Err n) x y h e = tt
