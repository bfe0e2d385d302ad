-- The operators of a graph in an order in which each stands after those that make its streams, as far as there is one.
use Rattle.std.specs.Prelude.{ℕ, zero, suc, ◌==◌, Bool, false, ◌&&◌, not, List, [], ◌∷◌, ◌++◌, length, if◌then◌else◌, Option, Some, None, slice_get}
use Rattle.std.specs.List.{concat, list_all, list_any}
use Rattle.std.specs.Option.{option_map_or}
use Rattle.spl_tree.specs.declared.graph.Op.{Op}
use Rattle.spl_tree.specs.declared.graph.Stream.{Stream}

abbrev pub is_taken : List ℕ → ℕ → Bool
is_taken taken n = list_any (λ m. m == n) taken

-- the streams that it takes are all made by operators that are taken
abbrev pub is_ready : List Stream → List ℕ → Op → Bool
is_ready streams taken op =
    list_all (λ s. option_map_or (λ x. is_taken taken x.maker) (slice_get streams s) false) (concat op.ins)

-- the first operator, of those from a number on, that is ready and not taken yet
abbrev pub next_from : List Stream → List ℕ → ℕ → List Op → Option ℕ
next_from streams taken n [] = None
next_from streams taken n (op ∷ ops) =
    if not (is_taken taken n) && is_ready streams taken op then Some n else next_from streams taken (suc n) ops

-- one after another, at most this number of them
abbrev pub taken_on : ℕ → List Stream → List Op → List ℕ → List ℕ
taken_on zero streams ops taken = taken
taken_on (suc count) streams ops taken =
    option_map_or (λ n. taken_on count streams ops (taken ++ n ∷ [])) (next_from streams taken 0 ops) taken

abbrev pub taken : List Stream → List Op → List ℕ
taken streams ops = taken_on (length ops) streams ops []

-- the first number below a count that isn't taken
abbrev pub first_untaken : List ℕ → ℕ → ℕ → Option ℕ
first_untaken taken n zero = None
first_untaken taken n (suc count) = if is_taken taken n then first_untaken taken (suc n) count else Some n
