-- The record that takes input after input until the operator ends.
use Rattle.std.proofs.Common.{ℕ, zero, suc, ◌+◌, ◌<◌, ◌≤◌, ◌==◌, nat_lt, Bool, true, false, cond, not, ◌&&◌, List, [], ◌∷◌, ◌++◌, ◌≡◌, map, length, None, is_some, inl, inr, refl, sym, ap, ◌∙◌, append_assoc, arith}
use Rattle.std.specs.List.{list_all}
use Rattle.std.proofs.Math.Path.{fun_ext}
use Rattle.std.proofs.lemmas.Bool.{cond-true, cond-false, cases_eq, eq-eqb, ne_eqb, and_from, and_parts, lt-ltb}
use Rattle.std.proofs.lemmas.List.Folds.{list_all-append}
use Rattle.spl_value.specs.declared.item.Item.{Item}
use Rattle.spl_value.specs.declared.item.Item.TheVariants as I
use Rattle.stream_model.specs.Stream.{Event, came, is_closed, is_empty, IsPrefix}
use Rattle.spl_value.specs.Numbered.{closes}
use Rattle.stream_model.specs.Inputs.{inputs_of}
use Rattle.stream_model.specs.Operators.{Operator, ports}
use Rattle.stream_model.specs.parts.Operators.{port_at}
use Rattle.stream_model.specs.PortEvents.{is_over, all_over, is_waiting, ends_all}
use Rattle.stream_model.specs.React.{body, ended, ended_by}
use Rattle.stream_model.specs.Stages.{Stage, start, next, stage_after}
use Rattle.stream_model.proofs.ByPorts.{over_stays}
use Rattle.stream_model.proofs.StageLaws.{stage_at, after-over}
use Rattle.stream_model.specs.Meaning.{Lists, taking, arrive}
use Rattle.stream_model.proofs.parts.Meaning.{with_list}
use Rattle.stream_model.specs.Records.{ends_at_last, is_whole, up_to_end, inputs_from, all_items, input_after_input}
use Rattle.stream_model.specs.parts.Records.{names_inputs, finds_items}
use Rattle.stream_model.specs.RecordLaws.{OneAfterAnotherLaw}
use Rattle.stream_model.proofs.Records.{takes_entries, length-inputs_of}
use Rattle.stream_model.proofs.Closings.{ended_by-last}

-- ---- the events

-- of n inputs one after the other, from input i on
abbrev pub events_from : Lists → ℕ → ℕ → List Event
events_from lists i zero = []
events_from lists i (suc n) = map (came i) (lists i) ++ events_from lists (suc i) n

none_left : (lists : Lists) (i : ℕ) → lists i ≡ [] → with_list lists i [] ≡ lists
none_left lists i e = fun_ext (λ j. elim (cases_eq j i) [
  | inl p ↦ cond-true (j == i) [] (lists j) (eq-eqb j i p) ∙ sym e ∙ ap lists (sym p)
  | inr n ↦ cond-false (j == i) [] (lists j) (ne_eqb j i n)
])

twice : (lists : Lists) (i : ℕ) (xs : List Item) → with_list (with_list lists i xs) i [] ≡ with_list lists i []
twice lists i xs = fun_ext (λ j. go (j == i) (lists j))
  where
    go : (b : Bool) (ys : List Item) → cond b [] (cond b xs ys) ≡ cond b [] ys
    go true ys = refl
    go false ys = refl

arrive_all : (xs : List Item) (lists : Lists) (i : ℕ) (more : List ℕ) → lists i ≡ xs
    → arrive lists (map (λ (x : Item). i) xs ++ more) ≡ map (came i) xs ++ arrive (with_list lists i []) more
arrive_all [] lists i more e = ap (λ (l : Lists). arrive l more) (sym (none_left lists i e))
arrive_all (x ∷ xs) lists i more e =
    ap (λ ys. taking i ys (λ items. arrive (with_list lists i items) (map (λ (y : Item). i) xs ++ more))) e
    ∙ ap (λ events. came i x ∷ events)
    (arrive_all xs (with_list lists i xs) i more (cond-true (i == i) xs (lists i) (eq-eqb i i refl))
    ∙ ap (λ (l : Lists). map (came i) xs ++ arrive l more) (twice lists i xs))

events-same : (n i : ℕ) (f g : Lists) → ((j : ℕ) → i ≤ j → f j ≡ g j) → events_from f i n ≡ events_from g i n
events-same zero i f g same = refl
events-same (suc n) i f g same =
    let here : f i ≡ g i = same i (omega arith) in
    let rest : events_from f (suc i) n ≡ events_from g (suc i) n = events-same n (suc i) f g (λ j l. same j (omega (arith, l))) in
    λ k. map (came i) (here k) ++ rest k

inputs-same : (n i : ℕ) (f g : Lists) → ((j : ℕ) → i ≤ j → f j ≡ g j) → inputs_from f i n ≡ inputs_from g i n
inputs-same zero i f g same = refl
inputs-same (suc n) i f g same =
    let here : f i ≡ g i = same i (omega arith) in
    let rest : inputs_from f (suc i) n ≡ inputs_from g (suc i) n = inputs-same n (suc i) f g (λ j l. same j (omega (arith, l))) in
    λ k. map (λ (x : Item). i) (here k) ++ rest k

pub arrive_from : (n i : ℕ) (lists : Lists) → arrive lists (inputs_from lists i n) ≡ events_from lists i n
arrive_from zero i lists = refl
arrive_from (suc n) i lists =
    let left : Lists = with_list lists i [] in
    let others : (j : ℕ) → suc i ≤ j → left j ≡ lists j = λ j l. cond-false (j == i) [] (lists j) (ne_eqb j i (λ (p : j ≡ i). omega (arith, l, p))) in
    arrive_all (lists i) lists i (inputs_from lists (suc i) n) refl
    ∙ ap (λ events. map (came i) (lists i) ++ events)
    (ap (λ entries. arrive left entries) (sym (inputs-same n (suc i) left lists others))
    ∙ arrive_from n (suc i) left
    ∙ events-same n (suc i) left lists others)

-- ---- inputs whose final marker has come

-- on each input before i
abbrev pub Over : ℕ → List Event → Type 0
Over i seen = (j : ℕ) → j < i → is_over seen j ≡ true

over_more : (i : ℕ) (e : Event) (seen : List Event) → Over i seen → Over i (e ∷ seen)
over_more i e seen over j l = over_stays e seen j (over j l)

over_final : (i : ℕ) (seen : List Event) → Over i seen → Over (suc i) (came i I.Final ∷ seen)
over_final i seen over j l = elim (cases_eq i j) [
  | inl p ↦ ap (λ b. cond (b && true) true (is_over seen j)) (eq-eqb i j p)
  | inr n ↦ over_stays (came i I.Final) seen j (over j (omega (arith, l, n)))
]

all_over-from : (test : ℕ → Bool) (ps : List ℕ) (from : ℕ) (h : List Event) → ((j : ℕ) → from ≤ j → j < from + length ps → is_over h j ≡ true)
    → all_over test ps from h ≡ true
all_over-from test [] from h each = refl
all_over-from test (p ∷ ps) from h each =
    go (test p) (each from (omega arith) (omega arith)) (all_over-from test ps (suc from) h (λ j l m. each j (omega (arith, l)) (omega (arith, m))))
  where
    go : (b : Bool) → is_over h from ≡ true → all_over test ps (suc from) h ≡ true
        → cond b (is_over h from && all_over test ps (suc from) h) (all_over test ps (suc from) h) ≡ true
    go true over rest = ap (λ c. c && all_over test ps (suc from) h) over ∙ rest
    go false over rest = rest

-- the item that closes the last input ends the operator
ends_now : (op : Operator) (i : ℕ) (seen : List Event) (x : Item) → suc i ≡ length (ports op) → closes x ≡ true → Over i seen
    → is_some (ended op seen (came i x)) ≡ true
ends_now op i seen (I.Tuple vs) at c over = absurd (cc)
ends_now op i seen I.Window at c over = absurd (cc)
ends_now op i seen (I.Bad f) at c over = refl
ends_now op i seen I.Final at c over =
    let h : List Event = came i I.Final ∷ seen in
    let each : (j : ℕ) → 0 ≤ j → j < 0 + length (ports op) → is_over h j ≡ true = λ j l m. over_final i seen over j (omega (arith, at, m)) in
    let waits : is_waiting op seen (came i I.Final) ≡ false = ap not (all_over-from (λ q. q == port_at (ports op) i) (ports op) 0 h each) in
    let last : ends_all op seen (came i I.Final) ≡ true = all_over-from (λ q. true) (ports op) 0 h each in
    (λ k. is_some (cond (waits k) None (ended_by op (last k) (body op seen (came i I.Final)))))
    ∙ ended_by-last op (body op seen (came i I.Final))

-- ---- all events end the operator

over_before : (op : Operator) (seen events : List Event) → (stage_after (stage_at op seen true) events).over ≡ true
over_before op seen events = ap (λ (s : Stage). s.over) (after-over (stage_at op seen true) events refl)

-- where the inputs before i are closed, an item that closes input i and then these events end it
module _ (op : Operator) (i : ℕ) (more : List Event)
    (last : (x : Item) (seen : List Event) → closes x ≡ true → Over i seen → (stage_after (stage_at op seen false) (came i x ∷ more)).over ≡ true) where
  closes_input : (xs : List Item) (seen : List Event) → is_closed xs ≡ true → Over i seen
      → (stage_after (stage_at op seen false) (map (came i) xs ++ more)).over ≡ true
  closes_input [] seen closed over = absurd (cc)
  closes_input (x ∷ xs) seen closed over = go (closes x) refl xs closed (closes_input xs (came i x ∷ seen))
    where
      behind : (ys : List Item) (b : Bool) → (stage_after (stage_at op (came i x ∷ seen) false) (map (came i) ys ++ more)).over ≡ true
          → (stage_after (stage_at op (came i x ∷ seen) b) (map (came i) ys ++ more)).over ≡ true
      behind ys true rest = over_before op (came i x ∷ seen) (map (came i) ys ++ more)
      behind ys false rest = rest

      go : (b : Bool) → closes x ≡ b → (ys : List Item) → cond b (is_empty ys) (is_closed ys) ≡ true
          → (is_closed ys ≡ true → Over i (came i x ∷ seen) → (stage_after (stage_at op (came i x ∷ seen) false) (map (came i) ys ++ more)).over ≡ true)
          → (stage_after (stage_at op seen false) (came i x ∷ map (came i) ys ++ more)).over ≡ true
      go true c [] closed rest = last x seen c over
      go true c (y ∷ ys) closed rest = absurd (cc)
      go false c ys closed rest = behind ys (is_some (ended op seen (came i x))) (rest closed (over_more i (came i x) seen over))

last_closes : (op : Operator) (i : ℕ) (more : List Event) → suc i ≡ length (ports op) → (x : Item) (seen : List Event) → closes x ≡ true → Over i seen
    → (stage_after (stage_at op seen false) (came i x ∷ more)).over ≡ true
last_closes op i more at x seen c over =
    ap (λ b. (stage_after (stage_at op (came i x ∷ seen) b) more).over) (ends_now op i seen x at c over) ∙ over_before op (came i x ∷ seen) more

earlier_closes : (op : Operator) (i : ℕ) (more : List Event)
    → ((seen : List Event) → Over (suc i) seen → (stage_after (stage_at op seen false) more).over ≡ true) → (x : Item) (seen : List Event)
    → closes x ≡ true → Over i seen → (stage_after (stage_at op seen false) (came i x ∷ more)).over ≡ true
earlier_closes op i more rest (I.Tuple vs) seen c over = absurd (cc)
earlier_closes op i more rest I.Window seen c over = absurd (cc)
earlier_closes op i more rest (I.Bad f) seen c over = over_before op (came i (I.Bad f) ∷ seen) more
earlier_closes op i more rest I.Final seen c over = behind (is_some (ended op seen (came i I.Final))) (rest (came i I.Final ∷ seen) (over_final i seen over))
  where
    behind : (b : Bool) → (stage_after (stage_at op (came i I.Final ∷ seen) false) more).over ≡ true → (stage_after (stage_at op (came i I.Final ∷ seen) b) more).over ≡ true
    behind true rest = over_before op (came i I.Final ∷ seen) more
    behind false rest = rest

pub all_end : (op : Operator) (lists : Lists) → ((j : ℕ) → j < length (ports op) → is_closed (lists j) ≡ true) → (n i : ℕ) (seen : List Event) → i + suc n ≡ length (ports op)
    → Over i seen → (stage_after (stage_at op seen false) (events_from lists i (suc n))).over ≡ true
all_end op lists closed zero i seen at over =
    closes_input op i [] (last_closes op i [] (omega (arith, at))) (lists i) seen (closed i (omega (arith, at))) over
all_end op lists closed (suc n) i seen at over =
    closes_input op i (events_from lists (suc i) (suc n))
    (earlier_closes op i (events_from lists (suc i) (suc n)) (λ later. all_end op lists closed n (suc i) later (omega (arith, at))))
    (lists i) seen (closed i (omega (arith, at))) over

-- ---- the events up to the end

-- the inputs of these events are a record that takes them
arrive_to_end : (entries : List ℕ) (lists : Lists) (s : Stage)
    → arrive lists (inputs_of (up_to_end s (arrive lists entries))) ≡ up_to_end s (arrive lists entries)
arrive_to_end [] lists s = refl
arrive_to_end (i ∷ entries) lists s = go (lists i) refl (λ items t. arrive_to_end entries (with_list lists i items) t)
  where
    end_if : (l : Lists) (events : List Event) (b : Bool) → arrive l (inputs_of events) ≡ events → arrive l (inputs_of (cond b [] events)) ≡ cond b [] events
    end_if l events true e = refl
    end_if l events false e = e

    go : (xs : List Item) → lists i ≡ xs
        → ((items : List Item) (t : Stage) → arrive (with_list lists i items) (inputs_of (up_to_end t (arrive (with_list lists i items) entries)))
        ≡ up_to_end t (arrive (with_list lists i items) entries))
        → arrive lists (inputs_of (up_to_end s (taking i xs (λ items. arrive (with_list lists i items) entries))))
        ≡ up_to_end s (taking i xs (λ items. arrive (with_list lists i items) entries))
    go [] e rest = refl
    go (x ∷ xs) e rest =
        let t : Stage = next s (came i x) in
        let events : List Event = up_to_end t (arrive (with_list lists i xs) entries) in
        ap (λ ys. taking i ys (λ items. arrive (with_list lists i items) (inputs_of (cond t.over [] events)))) e
        ∙ ap (λ zs. came i x ∷ zs) (end_if (with_list lists i xs) events t.over (rest xs t))

-- the last of them ends the operator, where all events do
ends_to_end : (s : Stage) (events : List Event) → s.over ≡ false → (stage_after s events).over ≡ true → ends_at_last s (up_to_end s events) ≡ true
ends_to_end s [] o h = absurd (cc)
ends_to_end s (e ∷ events) o h = go (next s e).over refl (λ q. ends_to_end (next s e) events q h)
  where
    go : (b : Bool) → (next s e).over ≡ b → ((next s e).over ≡ false → ends_at_last (next s e) (up_to_end (next s e) events) ≡ true)
        → cond b (is_empty (cond b [] (up_to_end (next s e) events))) (ends_at_last (next s e) (cond b [] (up_to_end (next s e) events))) ≡ true
    go true q rest = refl
    go false q rest = rest q

front_to_end : (s : Stage) (events : List Event) → IsPrefix (inputs_of (up_to_end s events)) (inputs_of events)
front_to_end s [] = ([], refl)
front_to_end s (e ∷ events) = go (next s e).over (front_to_end (next s e) events)
  where
    go : (b : Bool) → IsPrefix (inputs_of (up_to_end (next s e) events)) (inputs_of events)
        → IsPrefix (e.input ∷ inputs_of (cond b [] (up_to_end (next s e) events))) (e.input ∷ inputs_of events)
    go true p = (inputs_of events, refl)
    go false p = (p.0, ap (λ zs. e.input ∷ zs) p.1)

front_of_front : (first second third : List ℕ) → IsPrefix first second → IsPrefix second third → IsPrefix first third
front_of_front first second third p q =
    (p.0 ++ q.0, sym (append_assoc first p.0 q.0) ∙ ap (λ zs. zs ++ q.0) p.1 ∙ q.1)

front_named : (op : Operator) (front whole : List ℕ) → IsPrefix front whole → names_inputs op whole ≡ true → names_inputs op front ≡ true
front_named op front whole p h =
    (and_parts (names_inputs op front) (names_inputs op p.0)
    (sym (list_all-append (λ i. nat_lt i (length (ports op))) front p.0) ∙ ap (names_inputs op) p.1 ∙ h)).0

one_named : (m i : ℕ) (xs : List Item) → i < m → list_all (λ j. nat_lt j m) (map (λ (x : Item). i) xs) ≡ true
one_named m i [] lt = refl
one_named m i (x ∷ xs) lt = and_from (nat_lt i m) (list_all (λ j. nat_lt j m) (map (λ (y : Item). i) xs)) (lt-ltb i m lt) (one_named m i xs lt)

all_named : (m : ℕ) (lists : Lists) (n i : ℕ) → i + n ≤ m → list_all (λ j. nat_lt j m) (inputs_from lists i n) ≡ true
all_named m lists zero i le = refl
all_named m lists (suc n) i le =
    list_all-append (λ j. nat_lt j m) (map (λ (x : Item). i) (lists i)) (inputs_from lists (suc i) n)
    ∙ and_from (list_all (λ j. nat_lt j m) (map (λ (x : Item). i) (lists i))) (list_all (λ j. nat_lt j m) (inputs_from lists (suc i) n))
    (one_named m i (lists i) (omega (arith, le))) (all_named m lists n (suc i) (omega (arith, le)))

is_front : (op : Operator) (lists : Lists) → IsPrefix (input_after_input op lists) (all_items op lists)
is_front op lists =
    front_of_front (input_after_input op lists) (inputs_of (arrive lists (all_items op lists))) (all_items op lists)
    (front_to_end (start op) (arrive lists (all_items op lists)))
    (takes_entries (all_items op lists) lists)

pub one_after_another_law : OneAfterAnotherLaw
one_after_another_law op lists = (is_front op lists, λ some closed. go (length (ports op)) refl some closed)
  where
    ends : (m : ℕ) → length (ports op) ≡ m → 0 < m → ((i : ℕ) → i < length (ports op) → is_closed (lists i) ≡ true)
        → (stage_after (start op) (events_from lists 0 m)).over ≡ true
    ends zero e lt closed = absurd (omega arith)
    ends (suc n) e lt closed = all_end op lists closed n 0 [] (omega (arith, e)) (λ j l. absurd (omega (arith, l)))

    go : (m : ℕ) → length (ports op) ≡ m → 0 < m → ((i : ℕ) → i < length (ports op) → is_closed (lists i) ≡ true)
        → is_whole op lists (input_after_input op lists) ≡ true
    go m e lt closed =
        let entries : List ℕ = input_after_input op lists in
        let events : List Event = up_to_end (start op) (arrive lists (all_items op lists)) in
        let taken : arrive lists entries ≡ events = arrive_to_end (all_items op lists) lists (start op) in
        let over : (stage_after (start op) (arrive lists (all_items op lists))).over ≡ true =
        ap (λ evs. (stage_after (start op) evs).over) (arrive_from (length (ports op)) 0 lists)
        ∙ ap (λ n. (stage_after (start op) (events_from lists 0 n)).over) e
        ∙ ends m e lt closed in
        and_from (names_inputs op entries && finds_items lists entries) (ends_at_last (start op) (arrive lists entries))
        (and_from (names_inputs op entries) (finds_items lists entries)
        (front_named op entries (all_items op lists) (is_front op lists) (all_named (length (ports op)) lists (length (ports op)) 0 (omega arith)))
        (eq-eqb (length (arrive lists entries)) (length entries) (ap (λ evs. length evs) taken ∙ sym (length-inputs_of events))))
        (ap (λ evs. ends_at_last (start op) evs) taken ∙ ends_to_end (start op) (arrive lists (all_items op lists)) refl over)
