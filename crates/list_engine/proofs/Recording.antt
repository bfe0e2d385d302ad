-- The lists of an arrival record, and the entries of each operator in it.
use Rattle.std.proofs.Common.{◌≡◌, ℕ, zero, suc, ◌+◌, ◌<◌, cond, if◌then◌else◌, List, [], ◌∷◌, ◌++◌, append_assoc, map, refl, sym, ap, ◌∙◌, length, slice_get, Option, Some, None, is_some, arith}
use Rattle.std.specs.List.{cons_option, filter_map}
use Rattle.std.proofs.lemmas.Bool.{eq-eqb, ne_eqb}
use Rattle.stream_model.specs.declared.record.ArrivalList.{ArrivalList}
use Rattle.stream_model.specs.Arrivals.{entries_in, has_several}
use Rattle.stream_model.proofs.parts.Arrivals.{if_several}
use Rattle.stream_model.specs.Operators.{Operator, connections}
use Rattle.list_engine.specs.steps.Recording.{entries_at, lists_from, recorded_at}

-- ---- entries

none_earlier : (recorded : List (Option (List ℕ))) (k n : ℕ) → n < k → entries_in (lists_from k recorded) n ≡ []
none_earlier [] k n lt = refl
none_earlier (None ∷ recorded) k n lt = none_earlier recorded (suc k) n (omega (arith, lt))
none_earlier (Some inputs ∷ recorded) k n lt =
    ap (λ b. cond b inputs (entries_in (lists_from (suc k) recorded) n)) (ne_eqb k n (λ (e : k ≡ n). omega (arith, e, lt))) ∙ none_earlier recorded (suc k) n (omega (arith, lt))

entries_from : (recorded : List (Option (List ℕ))) (k j n : ℕ) → n ≡ k + j → entries_in (lists_from k recorded) n ≡ entries_at recorded j
entries_from [] k j n e = refl
entries_from (None ∷ recorded) k zero n e = none_earlier recorded (suc k) n (omega (arith, e))
entries_from (None ∷ recorded) k (suc j) n e = entries_from recorded (suc k) j n (omega (arith, e))
entries_from (Some inputs ∷ recorded) k zero n e =
    ap (λ b. cond b inputs (entries_in (lists_from (suc k) recorded) n)) (eq-eqb k n (omega (arith, e)))
entries_from (Some inputs ∷ recorded) k (suc j) n e =
    ap (λ b. cond b inputs (entries_in (lists_from (suc k) recorded) n)) (ne_eqb k n (λ (same : k ≡ n). omega (arith, e, same)))
    ∙ entries_from recorded (suc k) j n (omega (arith, e))

-- the record has what was recorded
pub entries_are : (recorded : List (Option (List ℕ))) (n : ℕ) → entries_in (lists_from 0 recorded) n ≡ entries_at recorded n
entries_are recorded n = entries_from recorded 0 n n (omega arith)

-- ---- numbers

-- operators are numbered from k on, and those with several connections have entries
abbrev AreRecorded : ℕ → List (Option (List ℕ)) → List Operator → Type 0
AreRecorded k recorded ops = (j : ℕ) (o : Operator) → slice_get ops j ≡ Some o → (o.number ≡ k + j) × (is_some (recorded_at recorded j) ≡ has_several (connections o))

numbers_from : (recorded : List (Option (List ℕ))) (ops : List Operator) (k : ℕ) → length recorded ≡ length ops → AreRecorded k recorded ops
    → map (λ (l : ArrivalList). l.op) (lists_from k recorded) ≡ filter_map if_several ops
numbers_from [] [] k e r = refl
numbers_from [] (o ∷ ops) k e r = absurd (omega (arith, e))
numbers_from (x ∷ recorded) [] k e r = absurd (omega (arith, e))
numbers_from (x ∷ recorded) (o ∷ ops) k e r = go x (r 0 o refl)
    (numbers_from recorded ops (suc k) (omega (arith, e)) (λ j p at. (let own = r (suc j) p at in let number = own.0 in (omega (arith, number), own.1))))
  where
    go : (y : Option (List ℕ)) → (o.number ≡ k + 0) × (is_some y ≡ has_several (connections o))
        → map (λ (l : ArrivalList). l.op) (lists_from (suc k) recorded) ≡ filter_map if_several ops
        → map (λ (l : ArrivalList). l.op) (lists_from k (y ∷ recorded)) ≡ cons_option (if_several o) (filter_map if_several ops)
    go None own rest = rest ∙ ap (λ b. cons_option (if b then Some o.number else None) (filter_map if_several ops)) own.1
    go (Some inputs) own rest =
        let number = own.0 in
        let first : k ≡ o.number = omega (arith, number) in
        (λ i. first i ∷ rest i) ∙ ap (λ b. cons_option (if b then Some o.number else None) (filter_map if_several ops)) own.1

pub numbers_are : (recorded : List (Option (List ℕ))) (ops : List Operator) → length recorded ≡ length ops
    → ((n : ℕ) (o : Operator) → slice_get ops n ≡ Some o → (o.number ≡ n) × (is_some (recorded_at recorded n) ≡ has_several (connections o)))
    → map (λ (l : ArrivalList). l.op) (lists_from 0 recorded) ≡ filter_map if_several ops
numbers_are recorded ops e r = numbers_from recorded ops 0 e (λ j o at. (let own = r j o at in let number = own.0 in (omega (arith, number), own.1)))

-- ---- the loop

pub record_next : (recorded left rest : List (Option (List ℕ))) (lists more : List ArrivalList) (op : ℕ) (inputs : List ℕ) → lists_from 0 recorded ≡ lists ++ lists_from op left
    → left ≡ Some inputs ∷ rest → more ≡ lists ++ record { op = op; inputs = inputs } ∷ [] → lists_from 0 recorded ≡ more ++ lists_from (op + 1) rest
record_next recorded left rest lists more op inputs so_far next pushed =
    let one : suc op ≡ op + 1 = omega arith in
    so_far ∙ ap (λ xs. lists ++ lists_from op xs) next
    ∙ sym (append_assoc lists (record { op = op; inputs = inputs } ∷ []) (lists_from (suc op) rest))
    ∙ ap (λ xs. xs ++ lists_from (suc op) rest) (sym pushed) ∙ ap (λ n. more ++ lists_from n rest) one

pub record_none : (recorded left rest : List (Option (List ℕ))) (lists : List ArrivalList) (op : ℕ) → lists_from 0 recorded ≡ lists ++ lists_from op left
    → left ≡ None ∷ rest → lists_from 0 recorded ≡ lists ++ lists_from (op + 1) rest
record_none recorded left rest lists op so_far next =
    let one : suc op ≡ op + 1 = omega arith in so_far ∙ ap (λ xs. lists ++ lists_from op xs) next ∙ ap (λ n. lists ++ lists_from n rest) one
