-- What records take, and which are whole.
use Rattle.std.proofs.Common.{ℕ, suc, ◌+◌, ◌==◌, Bool, true, false, cond, ◌&&◌, drop, List, [], ◌∷◌, ◌++◌, ◌≡◌, length, length-append, append-nil, inl, inr, refl, sym, ap, ◌∙◌, arith}
use Rattle.std.proofs.lemmas.Bool.{cond-true, cond-false, cases_eq, eqb-true, eq-eqb, ne_eqb, and_from, and_parts}
use Rattle.std.proofs.lemmas.List.{nil_from_length}
use Rattle.spl_value.specs.declared.item.Item.{Item}
use Rattle.stream_model.specs.Stream.{Event, came, is_empty, IsPrefix}
use Rattle.stream_model.specs.Inputs.{inputs_of, came_on}
use Rattle.stream_model.specs.Stages.{Stage, start, next, stage_after}
use Rattle.stream_model.proofs.StageLaws.{after-over}
use Rattle.stream_model.specs.Meaning.{Lists, taking, arrive}
use Rattle.stream_model.proofs.parts.Meaning.{with_list}
use Rattle.stream_model.specs.Records.{ends_at_last}
use Rattle.stream_model.specs.parts.Records.{names_inputs, finds_items}
use Rattle.stream_model.specs.RecordLaws.{EntriesLaw, ItemsLaw, NextItemLaw, NothingLeftLaw, WholeLaw}

-- ---- entries

pub takes_entries : (entries : List ℕ) (lists : Lists) → IsPrefix (inputs_of (arrive lists entries)) entries
takes_entries [] lists = ([], refl)
takes_entries (i ∷ entries) lists = go (lists i) (λ items. takes_entries entries (with_list lists i items))
  where
    go : (xs : List Item) → ((items : List Item) → IsPrefix (inputs_of (arrive (with_list lists i items) entries)) entries)
        → IsPrefix (inputs_of (taking i xs (λ items. arrive (with_list lists i items) entries))) (i ∷ entries)
    go [] rest = (i ∷ entries, refl)
    go (x ∷ xs) rest = let p = rest xs in (p.0, ap (λ zs. i ∷ zs) p.1)

pub length-inputs_of : (events : List Event) → length (inputs_of events) ≡ length events
length-inputs_of [] = refl
length-inputs_of (e ∷ events) = let r : length (inputs_of events) ≡ length events = length-inputs_of events in omega (arith, r)

-- a front that is as long as the whole is all of it
all_of : (front whole : List ℕ) → length front ≡ length whole → IsPrefix front whole → front ≡ whole
all_of front whole same p =
    let long : length (front ++ p.0) ≡ length front + length p.0 = length-append front p.0 in
    let are : length (front ++ p.0) ≡ length whole = ap (λ zs. length zs) p.1 in
    let none : p.0 ≡ [] = nil_from_length p.0 (omega (arith, long, are, same)) in
    sym (append-nil front) ∙ ap (λ zs. front ++ zs) (sym none) ∙ p.1

pub entries_law : EntriesLaw
entries_law lists entries = (
  takes_entries entries lists,
  λ found. all_of (inputs_of (arrive lists entries)) entries
      (length-inputs_of (arrive lists entries) ∙ eqb-true (length (arrive lists entries)) (length entries) found)
      (takes_entries entries lists),
)

-- ---- items

takes_items : (entries : List ℕ) (lists : Lists) (j : ℕ) → IsPrefix (came_on (λ n. n == j) (arrive lists entries)) (lists j)
takes_items [] lists j = (lists j, refl)
takes_items (i ∷ entries) lists j = go (lists i) refl (λ items. takes_items entries (with_list lists i items) j)
  where
    go : (xs : List Item) → lists i ≡ xs
        → ((items : List Item) → IsPrefix (came_on (λ n. n == j) (arrive (with_list lists i items) entries)) (with_list lists i items j))
        → IsPrefix (came_on (λ n. n == j) (taking i xs (λ items. arrive (with_list lists i items) entries))) (lists j)
    go [] e rest = (lists j, refl)
    go (x ∷ xs) e rest =
        let r = rest xs in
        let later : List Item = came_on (λ n. n == j) (arrive (with_list lists i xs) entries) in
        elim (cases_eq i j) [
          | inl p ↦ (
            r.0,
            ap (λ b. cond b (x ∷ later) later ++ r.0) (eq-eqb i j p)
                ∙ ap (λ zs. x ∷ zs) (r.1 ∙ cond-true (j == i) xs (lists j) (eq-eqb j i (sym p)))
                ∙ sym e ∙ ap lists p,
          )
          | inr n ↦ (
            r.0,
            ap (λ b. cond b (x ∷ later) later ++ r.0) (ne_eqb i j n)
                ∙ r.1 ∙ cond-false (j == i) xs (lists j) (ne_eqb j i (λ q. n (sym q))),
          )
        ]

pub items_law : ItemsLaw
items_law lists entries i = takes_items entries lists i

-- ---- one entry more

-- what is left of a list after an item of some list
left_behind : (lists : Lists) (j i : ℕ) (y : Item) (ys : List Item) (came_later left : List Item) → lists j ≡ y ∷ ys
    → lists i ≡ cond (j == i) (y ∷ came_later) came_later ++ left → with_list lists j ys i ≡ came_later ++ left
left_behind lists j i y ys came_later left e h = elim (cases_eq j i) [
  | inl p ↦
      cond-true (i == j) ys (lists i) (eq-eqb i j (sym p))
      ∙ ap (drop 1) (sym e ∙ ap lists p ∙ h ∙ ap (λ b. cond b (y ∷ came_later) came_later ++ left) (eq-eqb j i p))
  | inr n ↦
      cond-false (i == j) ys (lists i) (ne_eqb i j (λ q. n (sym q)))
      ∙ h ∙ ap (λ b. cond b (y ∷ came_later) came_later ++ left) (ne_eqb j i n)
]

same_before : (a b : ℕ) → (suc a == suc b) ≡ true → (a == b) ≡ true
same_before a b h = let e : suc a ≡ suc b = eqb-true (suc a) (suc b) h in eq-eqb a b (omega (arith, e))

next_item : (entries : List ℕ) (lists : Lists) (i : ℕ) (x : Item) (left : List Item) → finds_items lists entries ≡ true
    → lists i ≡ came_on (λ n. n == i) (arrive lists entries) ++ x ∷ left → arrive lists (entries ++ i ∷ []) ≡ arrive lists entries ++ came i x ∷ []
next_item [] lists i x left found h = ap (λ xs. taking i xs (λ items. [])) h
next_item (j ∷ entries) lists i x left found h = go (lists j) refl (λ items. next_item entries (with_list lists j items) i x left) found h
  where
    go : (ys : List Item) → lists j ≡ ys
        → ((items : List Item) → finds_items (with_list lists j items) entries ≡ true
        → with_list lists j items i ≡ came_on (λ n. n == i) (arrive (with_list lists j items) entries) ++ x ∷ left
        → arrive (with_list lists j items) (entries ++ i ∷ []) ≡ arrive (with_list lists j items) entries ++ came i x ∷ [])
        → (length (taking j ys (λ items. arrive (with_list lists j items) entries)) == suc (length entries)) ≡ true
        → lists i ≡ came_on (λ n. n == i) (taking j ys (λ items. arrive (with_list lists j items) entries)) ++ x ∷ left
        → taking j ys (λ items. arrive (with_list lists j items) (entries ++ i ∷ []))
        ≡ taking j ys (λ items. arrive (with_list lists j items) entries) ++ came i x ∷ []
    go [] e rest found h = let none : 0 ≡ suc (length entries) = eqb-true 0 (suc (length entries)) found in absurd (omega (arith, none))
    go (y ∷ ys) e rest found h =
        ap (λ events. came j y ∷ events)
        (rest ys (same_before (length (arrive (with_list lists j ys) entries)) (length entries) found)
        (left_behind lists j i y ys (came_on (λ n. n == i) (arrive (with_list lists j ys) entries)) (x ∷ left) e h))

pub next_item_law : NextItemLaw
next_item_law lists entries i x left = next_item entries lists i x left

nothing_left : (entries : List ℕ) (lists : Lists) (i : ℕ) (more : List ℕ) → finds_items lists entries ≡ true
    → lists i ≡ came_on (λ n. n == i) (arrive lists entries) ++ [] → arrive lists (entries ++ i ∷ more) ≡ arrive lists entries
nothing_left [] lists i more found h = ap (λ xs. taking i xs (λ items. arrive (with_list lists i items) more)) h
nothing_left (j ∷ entries) lists i more found h = go (lists j) refl (λ items. nothing_left entries (with_list lists j items) i more) found h
  where
    go : (ys : List Item) → lists j ≡ ys
        → ((items : List Item) → finds_items (with_list lists j items) entries ≡ true
        → with_list lists j items i ≡ came_on (λ n. n == i) (arrive (with_list lists j items) entries) ++ []
        → arrive (with_list lists j items) (entries ++ i ∷ more) ≡ arrive (with_list lists j items) entries)
        → (length (taking j ys (λ items. arrive (with_list lists j items) entries)) == suc (length entries)) ≡ true
        → lists i ≡ came_on (λ n. n == i) (taking j ys (λ items. arrive (with_list lists j items) entries)) ++ []
        → taking j ys (λ items. arrive (with_list lists j items) (entries ++ i ∷ more))
        ≡ taking j ys (λ items. arrive (with_list lists j items) entries)
    go [] e rest found h = let none : 0 ≡ suc (length entries) = eqb-true 0 (suc (length entries)) found in absurd (omega (arith, none))
    go (y ∷ ys) e rest found h =
        ap (λ events. came j y ∷ events)
        (rest ys (same_before (length (arrive (with_list lists j ys) entries)) (length entries) found)
        (left_behind lists j i y ys (came_on (λ n. n == i) (arrive (with_list lists j ys) entries)) [] e h))

pub nothing_left_law : NothingLeftLaw
nothing_left_law lists entries i more found h =
    nothing_left entries lists i more found (h ∙ sym (append-nil (came_on (λ j. j == i) (arrive lists entries))))

-- ---- whole records

-- the last of events, with which a stage is over, and those before it, with which it isn't
record Last (s : Stage) (events : List Event) : Type 0 where
  front : List Event
  last : Event
  are : events ≡ front ++ last ∷ []
  before : (stage_after s front).over ≡ false
  ended : (stage_after s (front ++ last ∷ [])).over ≡ true

alone : (events : List Event) → is_empty events ≡ true → events ≡ []
alone [] h = refl
alone (e ∷ events) h = cc

last_of_all : (s : Stage) (events : List Event) → s.over ≡ false → ends_at_last s events ≡ true → Last s events
last_of_all s [] o h = absurd (cc)
last_of_all s (e ∷ events) o h = go (next s e).over refl h (last_of_all (next s e) events)
  where
    go : (b : Bool) → (next s e).over ≡ b → cond b (is_empty events) (ends_at_last (next s e) events) ≡ true
        → ((next s e).over ≡ false → ends_at_last (next s e) events ≡ true → Last (next s e) events) → Last s (e ∷ events)
    go true q h rest = record { front = []; last = e; are = ap (λ zs. e ∷ zs) (alone events h); before = o; ended = q }
    go false q h rest =
        let l = rest q h in
        record { front = e ∷ l.front; last = l.last; are = ap (λ zs. e ∷ zs) l.are; before = l.before; ended = l.ended }

ends_with : (s : Stage) (front : List Event) (last : Event) → (stage_after s front).over ≡ false → (stage_after s (front ++ last ∷ [])).over ≡ true
    → ends_at_last s (front ++ last ∷ []) ≡ true
ends_with s [] last before ended = cond-true (next s last).over true (ends_at_last (next s last) []) ended
ends_with s (e ∷ front) last before ended = go (next s e).over refl (ends_with (next s e) front last before ended)
  where
    go : (b : Bool) → (next s e).over ≡ b → ends_at_last (next s e) (front ++ last ∷ []) ≡ true
        → cond b (is_empty (front ++ last ∷ [])) (ends_at_last (next s e) (front ++ last ∷ [])) ≡ true
    go true q rest =
        let stays : (stage_after (next s e) front).over ≡ true = ap (λ (t : Stage). t.over) (after-over (next s e) front q) ∙ q in
        let clash : false ≡ true = sym before ∙ stays in
        absurd (cc)
    go false q rest = rest

pub whole_law : WholeLaw
whole_law op lists entries = (
  λ h.
      let both = and_parts (names_inputs op entries && finds_items lists entries) (ends_at_last (start op) (arrive lists entries)) h in
      let first = and_parts (names_inputs op entries) (finds_items lists entries) both.0 in
      let l = last_of_all (start op) (arrive lists entries) refl both.1 in
      record {
        named = first.0;
        found = eqb-true (length (arrive lists entries)) (length entries) first.1;
        front = l.front;
        last = l.last;
        are = l.are;
        before = l.before;
        ended = l.ended;
      },
  λ w.
      and_from (names_inputs op entries && finds_items lists entries) (ends_at_last (start op) (arrive lists entries))
      (and_from (names_inputs op entries) (finds_items lists entries) w.named (eq-eqb (length (arrive lists entries)) (length entries) w.found))
      (ap (λ events. ends_at_last (start op) events) w.are ∙ ends_with (start op) w.front w.last w.before w.ended),
)
