-- Which attribute of its input an output attribute of an operator is a copy of, by the operator's clauses alone.
use Rattle.std.specs.Prelude.{ℕ, zero, ◌==◌, Bool, true, false, List, [], ◌∷◌, ◌++◌, map, Option, None, Some, slice_get, if◌then◌else◌}
use Rattle.std.specs.List.{flat_map, list_any}
use Rattle.std.specs.Option.{option_and_then, option_map_or}
use Rattle.spl_tree.specs.declared.body.Statement.{Statement}
use Rattle.spl_tree.specs.declared.body.Statement.TheOpen as S
use Rattle.spl_tree.specs.declared.body.Statement.TheOpen.{Statement-F}
use Rattle.spl_tree.specs.declared.body.Statement.TheFolds.{fold-Statement}
use Rattle.spl_tree.specs.declared.code.Code.{Code}
use Rattle.spl_tree.specs.declared.code.Code.TheOpen as C
use Rattle.spl_tree.specs.declared.code.Code.TheOpen.{Code-F}
use Rattle.spl_tree.specs.declared.code.Code.TheViews.{out-Code}
use Rattle.spl_tree.specs.declared.code.Slot.{Slot}
use Rattle.spl_tree.specs.declared.code.Slot.TheVariants as L
use Rattle.language_model.specs.declared.checked.CollectedAttribute.{CollectedAttribute}
use Rattle.language_model.specs.declared.checked.Collector.{Collector}
use Rattle.language_model.specs.declared.checked.Collector.TheVariants as K
use Rattle.language_model.specs.declared.checked.CheckedClauses.{CheckedClauses}
use Rattle.language_model.specs.declared.checked.CheckedClauses.TheVariants as A
use Rattle.spl_value.specs.Flattened.{flattened}
use Rattle.stream_model.specs.Stream.{is_empty}

-- ---- expressions

-- the attribute of the first port that an expression is alone
abbrev pub level_attribute : {A : Type 0} → Code-F Slot A → Option ℕ
level_attribute (C.Name (L.Attribute zero i)) = Some i
level_attribute _ = None

abbrev pub attribute_alone : Code Slot → Option ℕ
attribute_alone code = level_attribute (out-Code Slot code)

-- the expression of an attribute of a tuple literal
abbrev pub code_at : ℕ → List (ℕ × Code Slot) → Option (Code Slot)
code_at a [] = None
code_at a (f ∷ fs) = if f.0 == a then Some f.1 else code_at a fs

-- of a tuple that an expression gives: of the tuple of the port itself each attribute is its own copy, and of a literal
-- those that are an attribute of the port alone
abbrev pub level_source : ℕ → Code-F Slot (Code Slot) → Option ℕ
level_source a (C.Name (L.Port zero)) = Some a
level_source a (C.Tuple fields) = option_and_then attribute_alone (code_at a fields)
level_source a _ = None

abbrev pub tuple_source : ℕ → Code Slot → Option ℕ
tuple_source a code = level_source a (out-Code Slot code)

-- ---- submits

-- the expressions of the tuples that statements submit, in the order of the text
abbrev pub level_submits : Statement-F (List (Code Slot)) → List (Code Slot)
level_submits (S.Block row) = flattened row
level_submits (S.If arms other) = flattened (map (λ arm. flattened arm.1) arms) ++ flattened other
level_submits (S.While code row) = flattened row
level_submits (S.For code row) = flattened row
level_submits (S.Submit port code) = code ∷ []
level_submits _ = []

abbrev pub submits_of : List Statement → List (Code Slot)
submits_of row = flattened (map (fold-Statement (List (Code Slot)) level_submits) row)

-- where there are bodies
abbrev pub submits_in : List (Option (List Statement)) → List (Code Slot)
submits_in bodies = flat_map (λ body. option_map_or submits_of body []) bodies

-- ---- operators

-- the attribute that all of some expressions have as the source; none where there is no expression
abbrev pub agreed : ℕ → List (Code Slot) → Option ℕ
agreed a [] = None
agreed a (code ∷ []) = tuple_source a code
agreed a (code ∷ next ∷ codes) =
    option_and_then (λ b. option_and_then (λ c. if c == b then Some b else None) (agreed a (next ∷ codes)))
    (tuple_source a code)

-- Of an attribute of `partitionBy`, the first or the last of a group has the value that all tuples of the group's
-- partition have.
abbrev pub picks : Collector → Bool
picks K.First = true
picks K.Last = true
picks _ = false

-- what an assignment of an Aggregate gives, where it is an attribute of `partitionBy` alone. An attribute that isn't
-- assigned has the last tuple's attribute of its name
abbrev pub kept_source : List ℕ → CollectedAttribute → Option ℕ
kept_source partition x = if picks x.collector
    then option_and_then (λ b. if list_any (λ p. p == b) partition then Some b else None)
    (option_and_then attribute_alone x.argument) else None

abbrev pub aggregate_source : List ℕ → List CollectedAttribute → ℕ → Option ℕ
aggregate_source partition [] a = None
aggregate_source partition (x ∷ xs) a =
    if x.attribute == a then kept_source partition x else aggregate_source partition xs a

-- The input attribute of which an output attribute is a copy. Of a Union with several ports it is that of the first
-- port. In a Custom no body on a marker submits a tuple, and every tuple that is submitted is the input tuple itself or
-- a literal that gives that attribute.
abbrev pub source_of : CheckedClauses → ℕ → Option ℕ
source_of (A.Filter condition) a = Some a
source_of (A.Punctor condition position) a = Some a
source_of (A.Split index) a = Some a
source_of (A.Union places) a = option_and_then (λ ps. slice_get ps a) (slice_get places 0)
source_of (A.Functor condition made) a = tuple_source a made
source_of (A.Custom handlers) a =
    if is_empty (submits_in handlers.on_punct) then agreed a (submits_in handlers.on_tuple) else None
source_of (A.Aggregate window partition group collects) a = aggregate_source partition collects a
source_of (A.Join left right condition made) a = None
source_of (A.FileSource file strict) a = None
source_of (A.FileSink file) a = None

-- the attribute of the stream that a chain reads of which an attribute of its last stream is a copy: copies compose
abbrev pub trace : List CheckedClauses → ℕ → Option ℕ
trace [] a = Some a
trace (part ∷ parts) a = option_and_then (source_of part) (trace parts a)
