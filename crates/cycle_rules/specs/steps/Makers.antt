-- Which operators make the streams that another takes: a flag for each operator.
use Rattle.std.specs.Prelude.{◌≡◌, ℕ, suc, Bool, true, false, ◌&&◌, not, List, [], ◌∷◌, map, length, if◌then◌else◌, Option, Some, None, slice_get, slice_index_or}
use Rattle.std.specs.List.{concat, list_all}
use Rattle.std.specs.Option.{option_map_or}
use Rattle.spl_tree.specs.declared.graph.Op.{Op}
use Rattle.spl_tree.specs.declared.graph.Stream.{Stream}

-- a stream is made by an operator that has its flag
abbrev pub is_made : List Stream → List Bool → ℕ → Bool
is_made streams flags n = option_map_or (λ x. slice_index_or flags x.maker false) (slice_get streams n) false

abbrev pub are_made : List Stream → List Bool → List ℕ → Bool
are_made streams flags numbers = list_all (is_made streams flags) numbers

-- each operator with a flag in a row, which begins with a number, has one among these flags
abbrev pub covers_from : ℕ → List Bool → List Bool → Bool
covers_from n [] flags = true
covers_from n (r ∷ row) flags = (if r then slice_index_or flags n false else true) && covers_from (suc n) row flags

abbrev pub covers : List Bool → List Bool → Bool
covers row flags = covers_from 0 row flags

-- likewise, where some operators make the streams of the row at all
abbrev pub covers_all : List Bool → Option (List Bool) → Bool
covers_all flags None = false
covers_all flags (Some row) = covers row flags

-- a row that the makers of these streams were added to, unless one isn't made by any operator
abbrev pub Adds : List Stream → List ℕ → List Bool → List Bool → Bool → Type 0
Adds streams numbers before row found =
    (flags : List Bool) → length flags ≡ length before → (found && covers row flags) ≡ (covers before flags && are_made streams flags numbers)

-- a row of the makers of these streams, among `count` operators
abbrev pub AreMakers : List Stream → ℕ → List ℕ → Option (List Bool) → Type 0
AreMakers streams count numbers row = (flags : List Bool) → length flags ≡ count → covers_all flags row ≡ are_made streams flags numbers

-- for each operator whether those that make its streams have their flags
abbrev pub ready : List Stream → List Bool → List Op → List Bool
ready streams flags ops = map (λ op. are_made streams flags (concat op.ins)) ops

-- a row for each operator
abbrev pub AreRows : List Stream → ℕ → List Op → List (Option (List Bool)) → Type 0
AreRows streams count ops rows = (flags : List Bool) → length flags ≡ count → map (covers_all flags) rows ≡ ready streams flags ops

-- the first that is ready and has no flag yet
abbrev pub first_ready : List Bool → ℕ → List Bool → Option ℕ
first_ready flags n [] = None
first_ready flags n (r ∷ rs) = if not (slice_index_or flags n false) && r then Some n else first_ready flags (suc n) rs
