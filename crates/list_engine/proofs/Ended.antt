-- What is known of all events of an operator, where some front of them ended it.
use Rattle.std.proofs.Common.{◌≡◌, ℕ, suc, ◌+◌, ◌<◌, ◌≤◌, nat_lt, true, false, if◌then◌else◌, List, [], ◌∷◌, ◌++◌, append_assoc, append-nil, map, refl, sym, ap, ◌∙◌, length, reverse, slice_get, Option, Some, None, is_some, arith}
use Rattle.std.specs.List.{list_all}
use Rattle.std.specs.Option.{option_or, option_and_then}
use Rattle.std.proofs.lemmas.Bool.{and_from, and_parts, lt-ltb}
use Rattle.std.proofs.lemmas.List.{reverse-append}
use Rattle.std.proofs.lemmas.List.Folds.{list_all-append}
use Rattle.spl_value.specs.declared.item.Fault.{Fault}
use Rattle.spl_value.specs.declared.item.Item.{Item}
use Rattle.stream_model.specs.Stream.{Event, came}
use Rattle.stream_model.specs.Inputs.{inputs_of}
use Rattle.stream_model.specs.Operators.{Operator, ports}
use Rattle.stream_model.specs.React.{ended}
use Rattle.stream_model.specs.Replies.{end_by}
use Rattle.stream_model.specs.Stages.{start, stage_after, gives_all, on_port, out}
use Rattle.stream_model.specs.Ends.{end_from, fault_of}
use Rattle.stream_model.specs.parts.Ends.{operator_fault}
use Rattle.stream_model.specs.Laws.{has_ended}
use Rattle.stream_model.specs.Meaning.{Lists, arrive, taking}
use Rattle.stream_model.proofs.parts.Meaning.{with_list}
use Rattle.stream_model.specs.Records.{inputs_from, is_whole}
use Rattle.stream_model.specs.parts.Records.{names_inputs}
use Rattle.stream_model.proofs.Histories.{end_law}
use Rattle.stream_model.proofs.OneAfterAnother.{arrive_from}
use Rattle.stream_model.proofs.Records.{length-inputs_of, whole_law}
use Rattle.stream_model.proofs.StageLaws.{stage_at, after-over, gives_all-append, gives_all-over}
use Rattle.list_engine.specs.steps.Taking.{EndsBy, in_turn}
use Rattle.list_engine.proofs.Taking.{map_append}
use Rattle.list_engine.proofs.Turns.{turns_from}

pub ended_there : (op : Operator) (done : List Event) (fault : Option Fault) → EndsBy op done fault → has_ended op done ≡ true
ended_there op done fault e =
    ap (has_ended op) e.are ∙ end_law op e.front e.last
    ∙ ap (λ b. if b then true else is_some (ended op (reverse e.front) e.last)) e.before ∙ ap is_some e.ends

-- ---- what it gives

-- events after the end give nothing
pub same_out : (op : Operator) (p : ℕ) (done rest : List Event) → has_ended op done ≡ true → out op p (done ++ rest) ≡ out op p done
same_out op p done rest h =
    ap (on_port p)
    (gives_all-append (start op) done rest ∙ ap (λ outs. gives_all (start op) done ++ outs) (gives_all-over (stage_after (start op) done) rest h)
    ∙ append-nil (gives_all (start op) done))

-- ---- how it ends

-- events that don't end it come before the end
end_front : (op : Operator) (seen front events : List Event) → (stage_after (stage_at op seen false) front).over ≡ false
    → end_from (stage_at op seen false) (front ++ events) ≡ end_from (stage_at op (reverse front ++ seen) false) events
end_front op seen [] events h = refl
end_front op seen (e ∷ front) events h =
    go (ended op seen e) h (end_front op (e ∷ seen) front events)
    ∙ ap (λ es. end_from (stage_at op es false) events)
    (sym (append_assoc (reverse front) (e ∷ []) seen) ∙ ap (λ es. es ++ seen) (sym (reverse-append (e ∷ []) front)))
  where
    go : (x : Option Item) → (stage_after (stage_at op (e ∷ seen) (is_some x)) front).over ≡ false
        → ((stage_after (stage_at op (e ∷ seen) false) front).over ≡ false
        → end_from (stage_at op (e ∷ seen) false) (front ++ events) ≡ end_from (stage_at op (reverse front ++ e ∷ seen) false) events)
        → option_or x (end_from (stage_at op (e ∷ seen) (is_some x)) (front ++ events)) ≡ end_from (stage_at op (reverse front ++ e ∷ seen) false) events
    go None q rest = rest q
    go (Some x) q rest =
        let over : true ≡ false = sym (ap (λ s. s.over) (after-over (stage_at op (e ∷ seen) true) front refl)) ∙ q in absurd cc

fault_is : (fault : Option Fault) → fault_of (end_by fault) ≡ fault
fault_is None = refl
fault_is (Some f) = refl

pub same_fault : (op : Operator) (done rest : List Event) (fault : Option Fault) → EndsBy op done fault → operator_fault op (done ++ rest) ≡ fault
same_fault op done rest fault e =
    ap (λ es. operator_fault op (es ++ rest)) e.are
    ∙ ap (operator_fault op) (append_assoc e.front (e.last ∷ []) rest)
    ∙ ap (option_and_then fault_of) (end_front op [] e.front (e.last ∷ rest) e.before)
    ∙ ap (λ seen. option_and_then fault_of (end_from (stage_at op seen false) (e.last ∷ rest))) (append-nil (reverse e.front))
    ∙ ap (λ x. option_and_then fault_of (option_or x (end_from (stage_at op (e.last ∷ reverse e.front) (is_some x)) rest))) e.ends
    ∙ fault_is fault

-- ---- its record

-- the inputs of a front of the events that a record takes are a record that takes them
arrive_front : (entries : List ℕ) (lists : Lists) (done rest : List Event) → arrive lists entries ≡ done ++ rest → arrive lists (inputs_of done) ≡ done
arrive_front entries lists [] rest e = refl
arrive_front [] lists (d ∷ done) rest e = absurd (let clash : [] ≡ d ∷ (done ++ rest) = e in cc)
arrive_front (i ∷ entries) lists (d ∷ done) rest e = go (lists i) refl e (λ xs q. arrive_front entries (with_list lists i xs) done rest q)
  where
    go : (xs : List Item) → lists i ≡ xs → taking i xs (λ items. arrive (with_list lists i items) entries) ≡ d ∷ (done ++ rest)
        → ((xs : List Item) → arrive (with_list lists i xs) entries ≡ done ++ rest → arrive (with_list lists i xs) (inputs_of done) ≡ done)
        → arrive lists (inputs_of (d ∷ done)) ≡ d ∷ done
    go [] q e later = absurd (let clash : [] ≡ d ∷ (done ++ rest) = e in cc)
    go (x ∷ xs) q e later =
        let first : came i x ≡ d = cc in
        let behind : arrive (with_list lists i xs) entries ≡ done ++ rest = cc in
        ap (λ (y : Event). arrive lists (y.input ∷ inputs_of done)) (sym first)
        ∙ ap (λ ys. taking i ys (λ items. arrive (with_list lists i items) (inputs_of done))) q
        ∙ (let same : arrive (with_list lists i xs) (inputs_of done) ≡ done = later xs behind in λ k. first k ∷ same k)

named_one : (i n : ℕ) (items : List Item) → i < n → list_all (λ j. nat_lt j n) (inputs_of (map (came i) items)) ≡ true
named_one i n [] lt = refl
named_one i n (x ∷ items) lt = and_from (nat_lt i n) (list_all (λ j. nat_lt j n) (inputs_of (map (came i) items))) (lt-ltb i n lt) (named_one i n items lt)

-- each event of these inputs names one of them
named_turns : (lists : List (List Item)) (k n : ℕ) → k + length lists ≤ n → list_all (λ j. nat_lt j n) (inputs_of (in_turn k lists)) ≡ true
named_turns [] k n le = refl
named_turns (items ∷ lists) k n le =
    ap (list_all (λ j. nat_lt j n)) (map_append (λ (e : Event). e.input) (map (came k) items) (in_turn (suc k) lists))
    ∙ list_all-append (λ j. nat_lt j n) (inputs_of (map (came k) items)) (inputs_of (in_turn (suc k) lists))
    ∙ and_from (list_all (λ j. nat_lt j n) (inputs_of (map (came k) items))) (list_all (λ j. nat_lt j n) (inputs_of (in_turn (suc k) lists)))
    (named_one k n items (omega (arith, le))) (named_turns lists (suc k) n (omega (arith, le)))

named_front : (op : Operator) (done rest : List Event) → list_all (λ j. nat_lt j (length (ports op))) (inputs_of (done ++ rest)) ≡ true → names_inputs op (inputs_of done) ≡ true
named_front op done rest h =
    (and_parts (names_inputs op (inputs_of done)) (names_inputs op (inputs_of rest))
    (sym (list_all-append (λ j. nat_lt j (length (ports op))) (inputs_of done) (inputs_of rest))
    ∙ ap (names_inputs op) (sym (map_append (λ (e : Event). e.input) done rest)) ∙ h)).0

-- the inputs of events that end an operator are a whole record, where they take these
pub whole_by : (op : Operator) (l : Lists) (done : List Event) (fault : Option Fault) → arrive l (inputs_of done) ≡ done → names_inputs op (inputs_of done) ≡ true
    → EndsBy op done fault → is_whole op l (inputs_of done) ≡ true
whole_by op l done fault takes named e = (whole_law op l (inputs_of done)).1 (record {
  named = named;
  found = ap length takes ∙ sym (length-inputs_of done);
  front = e.front;
  last = e.last;
  are = takes ∙ e.are;
  before = e.before;
  ended = ap (has_ended op) (sym e.are) ∙ ended_there op done fault e;
})

-- the inputs of the events that were taken are a whole record
pub record TakenWhole (op : Operator) (l : Lists) (done : List Event) : Type 0 where
  pub takes : arrive l (inputs_of done) ≡ done
  pub whole : is_whole op l (inputs_of done) ≡ true

pub taken_whole : (op : Operator) (l : Lists) (lists : List (List Item)) (done rest : List Event) (fault : Option Fault) → length lists ≡ length (ports op)
    → ((j : ℕ) (xs : List Item) → slice_get lists j ≡ Some xs → l j ≡ xs) → in_turn 0 lists ≡ done ++ rest → EndsBy op done fault → TakenWhole op l done
taken_whole op l lists done rest fault count same split e =
    let takes : arrive l (inputs_of done) ≡ done =
    arrive_front (inputs_from l 0 (length lists)) l done rest (arrive_from (length lists) 0 l ∙ turns_from lists l same ∙ split) in
    record {
      takes = takes;
      whole = whole_by op l done fault takes
          (named_front op done rest (ap (λ es. list_all (λ j. nat_lt j (length (ports op))) (inputs_of es)) (sym split) ∙ named_turns lists 0 (length (ports op)) (omega (arith, count)))) e;
    }
