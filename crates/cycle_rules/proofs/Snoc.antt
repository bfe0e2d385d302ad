-- Lists and what is made of them, an item longer.
use Rattle.std.proofs.Common.{◌≡◌, ◌∙◌, ℕ, suc, List, [], ◌∷◌, ◌++◌, take, Option, Some, ap, sym, map, append-nil}
use Rattle.std.specs.Prelude.{slice_get, filter_map}
use Rattle.std.proofs.lemmas.List.{map-append}
use Rattle.spl_tree.specs.declared.expression.Placed.{Placed}
use Rattle.std.specs.Borrow.{Bor}
use Rattle.spl_tree.specs.Trees.{placed}
use Rattle.spl_tree.specs.declared.unit.Definition.{Definition}
use Rattle.language_model.specs.Mentions.{calls}
use Rattle.language_model.proofs.parts.Mentions.{called_at}
use Rattle.language_model.specs.Composites.{as_function, as_composite}
use Rattle.language_model.specs.Recursion.{function_callers, composite_callers}
use Rattle.language_model.specs.parts.Recursion.{function_caller, composite_caller}
use Rattle.program_tables.specs.declared.mentions.Mention.{Mention}
use Rattle.program_tables.specs.declared.mentions.Mention.TheVariants as M
use Rattle.program_tables.specs.Mentioned.{seen, mentioned, mentions_seen}
use Rattle.cycle_rules.specs.steps.Named.{name_seen}
use Rattle.program_tables.proofs.Snoc.{take_snoc, map_snoc, filter_snoc}

pub calls_snoc : (n : ℕ) (ms : List (Placed Mention)) (m : Placed Mention) → slice_get ms n ≡ Some m
    → calls (mentions_seen (take (suc n) ms)) ≡ calls (mentions_seen (take n ms)) ++ calls (mentioned m ∷ [])
calls_snoc n ms m e =
    filter_snoc (λ m. called_at m.at m.what) (mentions_seen (take n ms)) (mentions_seen (take (suc n) ms)) (mentioned m)
    (map_snoc mentioned (take n ms) (take (suc n) ms) m (take_snoc n ms m e))

pub functions_snoc : (n : ℕ) (ds : List Definition) (d : Definition) → slice_get ds n ≡ Some d
    → function_callers (take (suc n) ds) ≡ function_callers (take n ds) ++ function_callers (d ∷ [])
functions_snoc n ds d e =
    ap (map function_caller) (filter_snoc as_function (take n ds) (take (suc n) ds) d (take_snoc n ds d e))
    ∙ map-append function_caller (filter_map as_function (take n ds)) (filter_map as_function (d ∷ []))

pub composites_snoc : (n : ℕ) (ds : List Definition) (d : Definition) → slice_get ds n ≡ Some d
    → composite_callers (take (suc n) ds) ≡ composite_callers (take n ds) ++ composite_callers (d ∷ [])
composites_snoc n ds d e =
    ap (map composite_caller) (filter_snoc as_composite (take n ds) (take (suc n) ds) d (take_snoc n ds d e))
    ∙ map-append composite_caller (filter_map as_composite (take n ds)) (filter_map as_composite (d ∷ []))

-- ---- one more mention

pub call_on : (n : ℕ) (ms : List (Placed Mention)) (m : Placed Mention) (name : Bor (List ℕ)) (old new : List (Placed (Bor (List ℕ)))) → slice_get ms n ≡ Some m
    → m.what ≡ M.Called name → new ≡ old ++ record { at = m.at; what = name } ∷ [] → map name_seen old ≡ calls (mentions_seen (take n ms))
    → map name_seen new ≡ calls (mentions_seen (take (suc n) ms))
call_on n ms m name old new e is p h =
    map_snoc name_seen old new (record { at = m.at; what = name }) p
    ∙ ap (λ ns. ns ++ placed m.at name.now ∷ []) h
    ∙ ap (λ ns. calls (mentions_seen (take n ms)) ++ ns) (sym (ap (λ k. calls (placed m.at (seen k) ∷ [])) is))
    ∙ sym (calls_snoc n ms m e)

pub call_past : (n : ℕ) (ms : List (Placed Mention)) (m : Placed Mention) (name : Bor (List ℕ)) (old : List (Placed (Bor (List ℕ)))) → slice_get ms n ≡ Some m
    → m.what ≡ M.Dollar name → map name_seen old ≡ calls (mentions_seen (take n ms)) → map name_seen old ≡ calls (mentions_seen (take (suc n) ms))
call_past n ms m name old e is h =
    h
    ∙ sym (append-nil (calls (mentions_seen (take n ms))))
    ∙ ap (λ ns. calls (mentions_seen (take n ms)) ++ ns) (sym (ap (λ k. calls (placed m.at (seen k) ∷ [])) is))
    ∙ sym (calls_snoc n ms m e)

-- ---- one more name

pub names_snoc : (h : Placed (List ℕ) → Option (Placed ℕ)) (n : ℕ) (names : List (Placed (Bor (List ℕ)))) (name : Placed (Bor (List ℕ))) → slice_get names n ≡ Some name
    → filter_map h (map name_seen (take (suc n) names)) ≡ filter_map h (map name_seen (take n names)) ++ filter_map h (name_seen name ∷ [])
names_snoc h n names name e =
    filter_snoc h (map name_seen (take n names)) (map name_seen (take (suc n) names)) (name_seen name)
    (map_snoc name_seen (take n names) (take (suc n) names) name (take_snoc n names name e))
