-- Values at a place, tuple by tuple.
use Rattle.std.proofs.Common.{◌≡◌, ◌<◌, ◌≤◌, ◌-◌, ℕ, zero, suc, List, [], ◌∷◌, length, drop, get_or, slice_get, Option, Some, None, sym, ap, ◌∙◌, arith}
use Rattle.std.specs.Borrow.{Bor}
use Rattle.std.specs.List.{cons_option}
use Rattle.std.specs.Option.{option_copied}
use Rattle.spl_value.specs.declared.value.Value.{Value}
use Rattle.stream_model.specs.Aggregates.{last}
use Rattle.tuple_groups.specs.Columns.{column}
use Rattle.tuple_groups.specs.Seen.{seen}

column_at : (refs : List (Bor (List Value))) (p i : ℕ) (r : Bor (List Value)) → i < length refs → r ≡ get_or refs i r
    → column p (seen (drop i refs)) ≡ cons_option (slice_get r.now p) (column p (seen (drop (suc i) refs)))
column_at [] p i r within is = absurd (omega (arith, within))
column_at (x ∷ refs) p zero r within is = ap (λ (y : Bor (List Value)). cons_option (slice_get y.now p) (column p (seen refs))) (sym is)
column_at (x ∷ refs) p (suc i) r within is = column_at refs p i r (omega (arith, within)) is

-- the values from the tuple before on are its own and those after it
pub column_before : (refs : List (Bor (List Value))) (p n : ℕ) (r : Bor (List Value)) (o : Option (Bor Value)) → 0 < n → n ≤ length refs → r ≡ get_or refs (n - 1) r
    → option_copied o ≡ slice_get r.now p → cons_option (option_copied o) (column p (seen (drop n refs))) ≡ column p (seen (drop (n - 1) refs))
column_before refs p n r o some within is value =
    let more : n ≡ suc (n - 1) = omega arith in
    (λ i. cons_option (value i) (column p (seen (drop (more i) refs)))) ∙ sym (column_at refs p (n - 1) r (omega arith) is)

last_more : (o : Option Value) (vs : List Value) (v : Value) → last vs ≡ Some v → last (cons_option o vs) ≡ Some v
last_more None vs v e = e
last_more (Some w) [] v e = absurd cc
last_more (Some w) (u ∷ us) v e = e

last_at : (refs : List (Bor (List Value))) (p i : ℕ) (v : Value) → column p (seen (drop i refs)) ≡ v ∷ [] → last (column p (seen refs)) ≡ Some v
last_at refs p zero v is = ap last is
last_at [] p (suc i) v is = absurd cc
last_at (x ∷ refs) p (suc i) v is = last_more (slice_get x.now p) (column p (seen refs)) v (last_at refs p i v is)

-- a value after which there is none is the last one
pub last_found : (refs : List (Bor (List Value))) (p n : ℕ) (r : Bor (List Value)) (v : Bor Value) → 0 < n → n ≤ length refs → r ≡ get_or refs (n - 1) r
    → option_copied (Some v) ≡ slice_get r.now p → column p (seen (drop n refs)) ≡ [] → Some v.now ≡ last (column p (seen refs))
last_found refs p n r v some within is value none =
    sym (last_at refs p (n - 1) v.now (sym (column_before refs p n r (Some v) some within is value) ∙ ap (λ vs. v.now ∷ vs) none))
