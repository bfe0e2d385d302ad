-- Records so far: whole ones, and those in which nothing was taken.
use Rattle.stream_model.specs.Runs.{IsRecordOf}
use Rattle.std.proofs.Common.{◌≡◌, ◌∙◌, ◌<◌, ◌+◌, add-one, arith, zero, suc, ℕ, ◌==◌, Bool, true, false, List, [], ◌∷◌, ◌++◌, drop, length, map, refl, sym, ap, slice_get, slice_index_or, Option, Some, None, take}
use Rattle.std.specs.Prelude.{◌&&◌, if◌then◌else◌, slice_set}
use Rattle.spl_value.proofs.Bools.{and_left, and_right}
use Rattle.stream_model.specs.declared.record.ArrivalList.{ArrivalList}
use Rattle.stream_model.specs.declared.record.Arrivals.{Arrivals}
use Rattle.stream_model.specs.Arrivals.{entries_in, has_several, several}
use Rattle.stream_model.specs.Meaning.{Graph, Lists, Meaning, arrive, lists_at}
use Rattle.stream_model.specs.Operators.{Operator, connections, ports}
use Rattle.stream_model.specs.Records.{ends_at_last, is_whole}
use Rattle.stream_model.specs.Stages.{start}
use Rattle.stream_model.specs.parts.Records.{finds_items, names_inputs}
use Rattle.spl_driver.specs.Answer.{NothingTaken}
use Rattle.spl_driver.specs.Shown.{IsRecordSoFar}
use Rattle.spl_driver.specs.steps.Steps.{IsUntaken, untaken}

-- ---- a whole record

found_of : (op : Operator) (lists : Lists) (entries : List ℕ) → is_whole op lists entries ≡ true → finds_items lists entries ≡ true
found_of op lists entries whole =
    and_right (names_inputs op entries) (finds_items lists entries)
    (and_left (names_inputs op entries && finds_items lists entries) (ends_at_last (start op) (arrive lists entries)) whole)

pub so_far_of : (g : Graph) (m : Meaning) (arrivals : Arrivals) → IsRecordOf g m arrivals → IsRecordSoFar g m arrivals
so_far_of g m arrivals h = record {
  lists = h.lists;
  found = λ n op at many.
      found_of op (lists_at m.streams (connections op)) (entries_in arrivals.lists op.number) (h.whole n op at many);
}

-- ---- one in which nothing was taken

-- an empty list of an operator
abbrev empty_list : ℕ → ArrivalList
empty_list n = record { op = n; inputs = [] }

ops_of : (ns : List ℕ) → map (λ (l : ArrivalList). l.op) (map empty_list ns) ≡ ns
ops_of [] = refl
ops_of (n ∷ ns) = ap (λ (ms : List ℕ). n ∷ ms) (ops_of ns)

none_in : (ns : List ℕ) (k : ℕ) → entries_in (map empty_list ns) k ≡ []
none_in [] k = refl
none_in (n ∷ ns) k = by (n == k) (none_in ns k)
  where
    by : (here : Bool) → entries_in (map empty_list ns) k ≡ [] → (if here then [] else entries_in (map empty_list ns) k) ≡ []
    by true rest = refl
    by false rest = rest

pub so_far_untaken : (g : Graph) (m : Meaning) (arrivals : Arrivals) → NothingTaken g arrivals → IsRecordSoFar g m arrivals
so_far_untaken g m arrivals h = record {
  lists = ap (map (λ (l : ArrivalList). l.op)) h ∙ ops_of (several g);
  found = λ n op at many.
      ap (finds_items (lists_at m.streams (connections op)))
      (ap (λ (ls : List ArrivalList). entries_in ls op.number) h ∙ none_in (several g) op.number);
}

-- the lists of a record, emptied
emptied : (lists : List ArrivalList) (ns : List ℕ) → map (λ (l : ArrivalList). l.op) lists ≡ ns → map untaken lists ≡ map empty_list ns
emptied [] ns e = ap (map empty_list) e
emptied (l ∷ lists) ns e =
    ap (λ (ms : List ArrivalList). untaken l ∷ ms) (emptied lists (map (λ (l : ArrivalList). l.op) lists) refl) ∙ ap (map empty_list) e

pub untaken_record : (g : Graph) (arrivals result : Arrivals) → map (λ (l : ArrivalList). l.op) arrivals.lists ≡ several g
    → IsUntaken arrivals result → NothingTaken g result
untaken_record g arrivals result ops is = is ∙ emptied arrivals.lists (several g) ops

-- ---- the lists emptied one by one

-- the lists before a place are emptied, and the others are as they were
abbrev pub emptied_before : ℕ → List ArrivalList → List ArrivalList
emptied_before at lists = map untaken (take at lists) ++ drop at lists

pub empties_more : (lists now : List ArrivalList) (at : ℕ) (d : ArrivalList) (inputs : List ℕ) → inputs ≡ [] → at < length lists
    → now ≡ emptied_before at lists
    → slice_set now at (record { op = (slice_index_or now at d).op; inputs = inputs }) ≡ emptied_before (at + 1) lists
empties_more lists now at d inputs none small e =
    rw add-one (ap (λ (x : List ℕ). slice_set now at (record { op = (slice_index_or now at d).op; inputs = x })) none
    ∙ ap (λ (ls : List ArrivalList). slice_set ls at (untaken (slice_index_or ls at d))) e ∙ by lists at small)
  where
    by : (lists : List ArrivalList) (at : ℕ) → at < length lists
        → slice_set (emptied_before at lists) at (untaken (slice_index_or (emptied_before at lists) at d)) ≡ emptied_before (suc at) lists
    by [] at small = absurd (omega (arith, small))
    by (l ∷ lists) zero small = refl
    by (l ∷ lists) (suc at) small = ap (λ (ms : List ArrivalList). untaken l ∷ ms) (by lists at (omega (arith, small)))
