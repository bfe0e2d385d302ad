-- Rows of numbers, and what is numbered one after another.
use Rattle.std.specs.Prelude.{◌≡◌, ◌<◌, ℕ, zero, suc, ◌+◌, List, [], ◌∷◌, ◌++◌, map, length}
use Rattle.std.proofs.Common.{ap, sym, ◌∙◌, arith, get_or, drop, append_assoc, add-one, add-zero}
use Rattle.std.proofs.lemmas.List.{map-append, drop_more}
use Rattle.std.proofs.lemmas.Simd.{map-map}
use Rattle.spl_tree.specs.declared.graph.Op.{Op}
use Rattle.spl_tree.specs.declared.graph.Stream.{Stream}
use Rattle.spl_tree.specs.declared.unit.Invocation.{Invocation}
use Rattle.language_model.specs.declared.expansion.Operation.{Operation}
use Rattle.language_model.specs.Numbering.{Output, numbers_from, outputs_from, streams_from}
use Rattle.stream_numbering.specs.steps.StreamTable.{Table, op_in, ops_in}

pub numbers_more : (n k : ℕ) → numbers_from n (k + 1) ≡ numbers_from n k ++ (n + k) ∷ []
numbers_more n k = ap (numbers_from n) (add-one k) ∙ more n k
  where
    more : (n k : ℕ) → numbers_from n (suc k) ≡ numbers_from n k ++ (n + k) ∷ []
    more n zero = ap (λ m. m ∷ []) (sym (add-zero n))
    more n (suc k) =
        let shifted : suc n + k ≡ n + suc k = omega arith in
        ap (λ ms. n ∷ ms) (more (suc n) k ∙ ap (λ m. numbers_from (suc n) k ++ m ∷ []) shifted)

pub map_numbers_more : {A : Type 0} (f : ℕ → A) (k : ℕ) → map f (numbers_from 0 (k + 1)) ≡ map f (numbers_from 0 k) ++ f k ∷ []
map_numbers_more f k =
    let from_none : 0 + k ≡ k = omega arith in
    ap (map f) (numbers_more 0 k ∙ ap (λ m. numbers_from 0 k ++ m ∷ []) from_none) ∙ map-append f (numbers_from 0 k) (k ∷ [])

pub map_step : {A : Type 0} (f : ℕ → A) (before done new : List A) (k : ℕ) (x : A) → new ≡ done ++ x ∷ [] → x ≡ f k
    → done ≡ before ++ map f (numbers_from 0 k) → new ≡ before ++ map f (numbers_from 0 (k + 1))
map_step f before done new k x grown is so_far =
    grown ∙ ap (λ ys. ys ++ x ∷ []) so_far ∙ append_assoc before (map f (numbers_from 0 k)) (x ∷ [])
    ∙ ap (λ y. before ++ (map f (numbers_from 0 k) ++ y ∷ [])) is ∙ ap (λ ys. before ++ ys) (sym (map_numbers_more f k))

module _ {A : Type 0} (xs : List A) (i : ℕ) (x : A) (within : i < length xs) (here : x ≡ get_or xs i x) where
  pub rest_at : drop i xs ≡ x ∷ drop (i + 1) xs
  rest_at = drop_more xs i x within ∙ ap (λ y. y ∷ drop (i + 1) xs) (sym here)

pub streams_step : (done new : List Stream) (maker next i : ℕ) (ops : List Operation) (op : Operation) → i < length ops → op ≡ get_or ops i op
    → next ≡ maker + 1 → new ≡ done ++ map (λ port. record { maker = maker; port = port }) (numbers_from 0 op.outputs)
    → new ++ streams_from next (drop (i + 1) ops) ≡ done ++ streams_from maker (drop i ops)
streams_step done new maker next i ops op within here counted grown =
    let own = map (λ port. record { maker = maker; port = port }) (numbers_from 0 op.outputs) in
    let rest = drop (i + 1) ops in
    ap (λ ss. ss ++ streams_from next rest) grown ∙ append_assoc done own (streams_from next rest)
    ∙ ap (λ n. done ++ (own ++ streams_from n rest)) (counted ∙ add-one maker)
    ∙ ap (λ os. done ++ streams_from maker os) (sym (rest_at ops i op within here))

pub ops_step : (table : Table) (first next : ℕ) (done new : List Op) (items rest : List Operation) (op : Operation) → items ≡ op ∷ rest
    → next ≡ first + op.outputs → new ≡ done ++ op_in table first op ∷ []
    → new ++ ops_in table next rest ≡ done ++ ops_in table first items
ops_step table first next done new items rest op split counted grown =
    ap (λ os. os ++ ops_in table next rest) grown ∙ append_assoc done (op_in table first op ∷ []) (ops_in table next rest)
    ∙ ap (λ n. done ++ op_in table first op ∷ ops_in table n rest) counted
    ∙ ap (λ os. done ++ ops_in table first os) (sym split)

-- the outputs of an invocation, and of those after it
pub outputs_step : {A : Type 0} (f : Output → A) (done new : List A) (place next i : ℕ) (items graph : List Invocation) (x : Invocation) (count : ℕ)
    → items ≡ graph → i < length items → x ≡ get_or items i x → next ≡ place + 1 → count ≡ length x.outputs
    → new ≡ done ++ map (λ k. f (record { invocation = place; output = k })) (numbers_from 0 count)
    → new ++ map f (outputs_from next (drop (i + 1) graph)) ≡ done ++ map f (outputs_from place (drop i graph))
outputs_step f done new place next i items graph x count same within here counted long grown =
    let output : ℕ → Output = λ k. record { invocation = place; output = k } in
    let own = numbers_from 0 (length x.outputs) in
    let rest = map f (outputs_from next (drop (i + 1) graph)) in
    ap (λ ys. ys ++ rest) (grown ∙ ap (λ n. done ++ map (λ k. f (output k)) (numbers_from 0 n)) long)
    ∙ append_assoc done (map (λ k. f (output k)) own) rest
    ∙ ap (λ ys. done ++ ys) (
    ap (λ ys. ys ++ rest) (sym (map-map f output own))
    ∙ ap (λ n. map f (map output own) ++ map f (outputs_from n (drop (i + 1) graph))) (counted ∙ add-one place)
    ∙ sym (map-append f (map output own) (outputs_from (suc place) (drop (i + 1) graph)))
    )
    ∙ ap (λ is. done ++ map f (outputs_from place (x ∷ drop (i + 1) is))) (sym same)
    ∙ ap (λ is. done ++ map f (outputs_from place is)) (sym (rest_at items i x within here))
    ∙ ap (λ is. done ++ map f (outputs_from place (drop i is))) same
