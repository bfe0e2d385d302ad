-- Fields of distinct names, as many as a tuple has places, give each place once.
use Rattle.std.specs.Prelude.{◌≡◌, ◌+◌, ◌≤◌, ◌<◌, ◌==◌, eqb, ℕ, suc, true, not, List, [], ◌∷◌, map, length, slice_get, Some}
use Rattle.std.specs.List.{list_all, count_by, IsDistinct}
use Rattle.std.specs.Str.{bytes_eq}
use Rattle.std.specs.Cmp.{first_so, second_so}
use Rattle.std.specs.Cmp.Lexicographic.{bytes_decides}
use Rattle.std.proofs.Common.{refl, sym, ap, ◌∙◌, arith}
use Rattle.std.proofs.lemmas.Bool.{ne_eqb}
use Rattle.std.proofs.lemmas.List.{length-map}
use Rattle.std.proofs.lemmas.List.Recursion.{is_count_by}
use Rattle.std.proofs.lemmas.Option.{slice_get_within}
use Rattle.spl_value.specs.declared.types.Named.{Named}
use Rattle.spl_value.specs.declared.types.SplType.{SplType}
use Rattle.spl_tree.specs.declared.expression.Placed.{Placed}
use Rattle.spl_tree.specs.declared.expression.Field.{Field}
use Rattle.spl_tree.specs.declared.code.Code.{Code}
use Rattle.spl_tree.specs.declared.code.Slot.{Slot}
use Rattle.language_model.specs.Typing.{Part, are_distinct}
use Rattle.language_model.specs.CodeFits.{OneEach}
use Rattle.language_model.proofs.Counting.{how_often, Below, Lacks, each_once}

abbrev PlacedCode : Type 0
PlacedCode = ℕ × Code Slot

abbrev pub places : {A : Type 0} → List (ℕ × A) → List ℕ
places fs = map (λ f. f.0) fs

pub counts_places : {A : Type 0} (i : ℕ) (fs : List (ℕ × A)) → count_by (λ (f : ℕ × A). f.0 == i) fs ≡ how_often i (places fs)
counts_places {A} i fs = sym (is_count_by (λ (fs : List (ℕ × A)). how_often i (places fs)) (λ (f : ℕ × A). f.0 == i) refl (λ f fs. refl) fs)

one_each : (n : ℕ) (xs : List PlacedCode) → IsDistinct eqb (places xs) → Below n (places xs) → length xs ≡ n → OneEach n xs
one_each n xs distinct below long i within = counts_places i xs ∙ each_once n (places xs) distinct below (length-map xs (λ x. x.0) ∙ long) i within

-- ---- fields of distinct names

-- at the place of each is the attribute of its name
abbrev pub AtNames : List (Named SplType) → List (Field (Placed Part)) → List PlacedCode → Type 0
AtNames schema [] [] = Unit {0}
AtNames schema (f ∷ fs) (x ∷ xs) = ((a : Named SplType) × (slice_get schema x.0 ≡ Some a) × (bytes_eq a.name f.name.what ≡ true)) × AtNames schema fs xs
AtNames schema _ _ = ⊥

names_length : (schema : List (Named SplType)) (fs : List (Field (Placed Part))) (xs : List PlacedCode) → AtNames schema fs xs → length xs ≡ length fs
names_length schema [] [] h = refl
names_length schema (f ∷ fs) (x ∷ xs) h = ap suc (names_length schema fs xs h.1)
names_length schema [] (x ∷ xs) h = absurd h
names_length schema (f ∷ fs) [] h = absurd h

names_below : (schema : List (Named SplType)) (fs : List (Field (Placed Part))) (xs : List PlacedCode) → AtNames schema fs xs → Below (length schema) (places xs)
names_below schema [] [] h = tt
names_below schema (f ∷ fs) (x ∷ xs) h = (slice_get_within schema x.0 h.0.0 h.0.1, names_below schema fs xs h.1)
names_below schema [] (x ∷ xs) h = absurd h
names_below schema (f ∷ fs) [] h = absurd h

-- of another name, at another place
names_apart : (schema : List (Named SplType)) (i : ℕ) (a : Named SplType) (name : List ℕ) (fs : List (Field (Placed Part))) (xs : List PlacedCode)
    → slice_get schema i ≡ Some a → bytes_eq a.name name ≡ true → AtNames schema fs xs → list_all (λ g. not (bytes_eq g.name.what name)) fs ≡ true → Lacks i (places xs)
names_apart schema i a name [] [] at is h e = tt
names_apart schema i a name (g ∷ fs) (x ∷ xs) at is h e = (
  ne_eqb i x.0 (λ same.
      let b : Named SplType = h.0.0 in
      let there : slice_get schema x.0 ≡ Some b = h.0.1 in
      let equal : Some a ≡ Some b = sym at ∙ ap (slice_get schema) same ∙ there in
      let names : a.name ≡ b.name = ap (λ (a : Named SplType). a.name) (let e : a ≡ b = cc in e) in
      let first : a.name ≡ name = (bytes_decides a.name name).0 is in
      let second : b.name ≡ g.name.what = (bytes_decides b.name g.name.what).0 h.0.2 in
      let clash : bytes_eq g.name.what name ≡ true = (bytes_decides g.name.what name).1 (sym second ∙ sym names ∙ first) in
      let none = first_so (not (bytes_eq g.name.what name)) (list_all (λ g. not (bytes_eq g.name.what name)) fs) e in
      cc),
  names_apart schema i a name fs xs at is h.1 (second_so (not (bytes_eq g.name.what name)) (list_all (λ g. not (bytes_eq g.name.what name)) fs) e),
)
names_apart schema i a name [] (x ∷ xs) at is h e = absurd h
names_apart schema i a name (g ∷ fs) [] at is h e = absurd h

names_distinct : (schema : List (Named SplType)) (fs : List (Field (Placed Part))) (xs : List PlacedCode) → AtNames schema fs xs → are_distinct fs ≡ true → IsDistinct eqb (places xs)
unfolding IsDistinct
names_distinct schema [] [] h e = tt
names_distinct schema (f ∷ fs) (x ∷ xs) h e =
    let others = list_all (λ g. not (bytes_eq g.name.what f.name.what)) fs in (
      names_apart schema x.0 h.0.0 f.name.what fs xs h.0.1 h.0.2 h.1 (first_so others (are_distinct fs) e),
      names_distinct schema fs xs h.1 (second_so others (are_distinct fs) e),
    )
names_distinct schema [] (x ∷ xs) h e = absurd h
names_distinct schema (f ∷ fs) [] h e = absurd h

pub names_one_each : (schema : List (Named SplType)) (fs : List (Field (Placed Part))) (xs : List PlacedCode) → AtNames schema fs xs → are_distinct fs ≡ true
    → length fs ≡ length schema → OneEach (length schema) xs
names_one_each schema fs xs h distinct long =
    one_each (length schema) xs (names_distinct schema fs xs h distinct) (names_below schema fs xs h) (names_length schema fs xs h ∙ long)

-- ---- fields at places in a row

-- the first has that place, and each further one the next
abbrev pub InRow : ℕ → List PlacedCode → Type 0
InRow i [] = Unit {0}
InRow i (x ∷ xs) = (x.0 ≡ i) × InRow (suc i) xs

row_lacks : (j i : ℕ) (xs : List PlacedCode) → j < i → InRow i xs → Lacks j (places xs)
row_lacks j i [] below h = tt
row_lacks j i (x ∷ xs) below h =
    let here : x.0 ≡ i = h.0 in
    (ne_eqb j x.0 (λ (e : j ≡ x.0). omega arith), row_lacks j (suc i) xs (omega arith) h.1)

row_distinct : (i : ℕ) (xs : List PlacedCode) → InRow i xs → IsDistinct eqb (places xs)
unfolding IsDistinct
row_distinct i [] h = tt
row_distinct i (x ∷ xs) h = let here : x.0 ≡ i = h.0 in (row_lacks x.0 (suc i) xs (omega arith) h.1, row_distinct (suc i) xs h.1)

row_below : (n i : ℕ) (xs : List PlacedCode) → i + length xs ≤ n → InRow i xs → Below n (places xs)
row_below n i [] le h = tt
row_below n i (x ∷ xs) le h = let here : x.0 ≡ i = h.0 in (omega arith, row_below n (suc i) xs (omega arith) h.1)

pub row_one_each : (n : ℕ) (xs : List PlacedCode) → InRow 0 xs → length xs ≡ n → OneEach n xs
row_one_each n xs h long = one_each n xs (row_distinct 0 xs h) (row_below n 0 xs (omega arith) h) long
