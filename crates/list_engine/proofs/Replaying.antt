-- The items of an operator's inputs as a record names them, or input after input.
use Rattle.std.proofs.Common.{◌≡◌, ℕ, zero, suc, ◌<◌, ◌≤◌, ◌==◌, ◌&&◌, nat_lt, not, Bool, true, false, cond, List, [], ◌∷◌, ◌++◌, append_assoc, append-nil, map, refl, sym, ap, subst, ◌∙◌, length, length-append, reverse, slice_get, Option, Some, inl, inr, arith}
use Rattle.std.specs.Prelude.{slice_set, IfOk, Result, Ok, Err}
use Rattle.std.specs.Option.{unwrap_or}
use Rattle.std.proofs.lemmas.Bool.{and_from, cases_eq, eq-eqb, lt-ltb, ne_eqb}
use Rattle.std.proofs.lemmas.List.{length-map, nil_from_length, reverse-reverse}
use Rattle.std.proofs.lemmas.List.Folds.{list_all-append}
use Rattle.std.proofs.lemmas.Option.{slice_get_within}
use Rattle.spl_value.specs.declared.item.Fault.{Fault}
use Rattle.spl_value.specs.declared.item.Item.{Item}
use Rattle.stream_model.specs.declared.record.Arrivals.{Arrivals}
use Rattle.stream_model.specs.Arrivals.{entries_in}
use Rattle.stream_model.specs.Inputs.{came_on, inputs_of}
use Rattle.stream_model.specs.Laws.{has_ended}
use Rattle.stream_model.specs.Meaning.{Lists, arrive, taking}
use Rattle.stream_model.proofs.parts.Meaning.{with_list}
use Rattle.stream_model.specs.Operators.{Operator, input_attributes, ports}
use Rattle.stream_model.specs.parts.Operators.{port_at}
use Rattle.stream_model.specs.Records.{ends_at_last, input_after_input, is_whole, up_to_end}
use Rattle.stream_model.specs.parts.Records.{finds_items, names_inputs}
use Rattle.stream_model.specs.Replies.{MayTake}
use Rattle.stream_model.specs.Stages.{Stage, stage_after, next, start}
use Rattle.stream_model.specs.Stream.{Event, came, is_empty, TuplesFit}
use Rattle.stream_model.proofs.Histories.{live_law}
use Rattle.stream_model.proofs.OneAfterAnother.{arrive_from, events_from}
use Rattle.stream_model.proofs.Records.{length-inputs_of, next_item_law, nothing_left_law}
use Rattle.stream_model.proofs.StageLaws.{after-over}
use Rattle.spl_value.proofs.Lists.{get_below, reverse_more, get_set_same}
use Rattle.list_engine.specs.declared.operator.Given.{Given}
use Rattle.list_engine.specs.declared.operator.Standing.TheVariants.{Live, Ended}
use Rattle.list_engine.specs.declared.run_order.Order.{Order}
use Rattle.list_engine.specs.declared.run_order.Order.TheVariants.{InTurn, Recorded}
use Rattle.list_engine.specs.declared.run_order.RunAnswer.{RunAnswer}
use Rattle.stream_model.specs.Runs.{rows_at}
use Rattle.list_engine.specs.RunOrders.{Follows}
use Rattle.list_engine.specs.steps.Replaying.{RanIn, Replayed, TakesLast}
use Rattle.list_engine.specs.steps.Taking.{AreInputs, EndsBy, EndsOnce, HasGiven, Ran, Reached, Task, in_turn}
use Rattle.list_engine.proofs.Coming.{came_both, closed_once, fit_at, open_front, open_reverse}
use Rattle.list_engine.proofs.Ended.{ended_there, taken_whole, whole_by}
use Rattle.list_engine.proofs.Places.{get_set_other, set_length}
use Rattle.list_engine.proofs.Taking.{map_append}
use Rattle.list_engine.proofs.Turns.{turns_from}
use Rattle.list_engine.proofs.Advancing.{there_is}

-- ---- input after input

-- the events up to the first that ends an operator
to_end : (s : Stage) (front : List Event) (last : Event) (rest : List Event) → (stage_after s front).over ≡ false → (stage_after s (front ++ last ∷ [])).over ≡ true
    → up_to_end s (front ++ last ∷ rest) ≡ front ++ last ∷ []
to_end s [] last rest before ended = ap (λ b. last ∷ cond b [] (up_to_end (next s last) rest)) ended
to_end s (e ∷ front) last rest before ended = go (next s e).over refl (to_end (next s e) front last rest before ended)
  where
    go : (b : Bool) → (next s e).over ≡ b → up_to_end (next s e) (front ++ last ∷ rest) ≡ front ++ last ∷ []
        → e ∷ cond b [] (up_to_end (next s e) (front ++ last ∷ rest)) ≡ e ∷ (front ++ last ∷ [])
    go true q r =
        let stays : (stage_after (next s e) front).over ≡ true = ap (λ (t : Stage). t.over) (after-over (next s e) front q) ∙ q in
        let clash : false ≡ true = sym before ∙ stays in
        absurd cc
    go false q r = ap (λ zs. e ∷ zs) r

in_turn_record : (op : Operator) (lists : List (List Item)) (done rest : List Event) (fault : Option Fault) → length lists ≡ length (ports op) → in_turn 0 lists ≡ done ++ rest
    → EndsBy op done fault → inputs_of done ≡ input_after_input op (rows_at lists)
in_turn_record op lists done rest fault count split e =
    ap inputs_of
    (sym
    (ap (up_to_end (start op))
    (arrive_from (length (ports op)) 0 (rows_at lists)
    ∙ ap (events_from (rows_at lists) 0) (sym count)
    ∙ turns_from lists (rows_at lists) (there_is lists)
    ∙ split ∙ ap (λ es. es ++ rest) e.are ∙ append_assoc e.front (e.last ∷ []) rest)
    ∙ to_end (start op) e.front e.last rest e.before (ap (has_ended op) (sym e.are) ∙ ended_there op done fault e)
    ∙ sym e.are))

pub in_turn_else : (order : Order) → ((arrivals : Arrivals) → order ≡ Recorded arrivals → ⊥) → order ≡ InTurn
in_turn_else InTurn other = refl
in_turn_else (Recorded arrivals) other = absurd (other arrivals refl)

pub ran_in_turn : (order : Order) (task : Task) (lists : List (List Item)) (given : Given) (fault : Option Fault) → AreInputs task.op lists → (1 < length lists → order ≡ InTurn)
    → Ran task (in_turn 0 lists) given fault → RanIn order task lists given fault
ran_in_turn order task lists given fault are turns ran =
    let w = taken_whole task.op (rows_at lists) lists ran.done ran.rest fault are.count (there_is lists) ran.split ran.ends in
    record {
      done = ran.done;
      took = record {
        alone = λ items one. (ran.rest, sym (append-nil (map (came 0) items)) ∙ ap (in_turn 0) (sym one) ∙ ran.split);
        arrived = w.takes;
        whole = w.whole;
      };
      ends = ran.ends;
      gave = ran.gave;
      follows = λ many. subst (λ (o : Order). Follows o task.op (rows_at lists) (inputs_of ran.done)) (sym (turns many))
          (in_turn_record task.op lists ran.done ran.rest fault are.count ran.split ran.ends);
    }

-- ---- as a record says

pub replayed_in : (arrivals : Arrivals) (task : Task) (lists : List (List Item)) (given : Given) (fault : Option Fault) → 1 < length lists
    → Replayed task (rows_at lists) (entries_in arrivals.lists task.op.number) given fault → RanIn (Recorded arrivals) task lists given fault
replayed_in arrivals task lists given fault many r =
    let takes : arrive (rows_at lists) (inputs_of r.done) ≡ r.done = ap (arrive (rows_at lists)) r.found ∙ r.arrived in
    record {
      done = r.done;
      took = record {
        alone = λ items one. absurd (let count = ap length one in omega (arith, many, count));
        arrived = takes;
        whole = whole_by task.op (rows_at lists) r.done fault takes (ap (names_inputs task.op) r.found ∙ r.named) r.ends;
      };
      ends = r.ends;
      gave = r.gave;
      follows = λ several. r.found;
    }

-- where it followed its record, which has these entries for it
pub if_recorded : (order : Order) (arrivals : Arrivals) (task : Task) (lists : List (List Item)) (number : ℕ) (entries : List ℕ) (given : Given) (result : Result (Option Fault) RunAnswer)
    → order ≡ Recorded arrivals → 1 < length lists → task.op.number ≡ number → entries ≡ entries_in arrivals.lists number
    → IfOk result (λ fault. Replayed task (rows_at lists) entries given fault) → IfOk result (λ fault. RanIn order task lists given fault)
if_recorded order arrivals task lists number entries given (Ok fault) is many same are replayed =
    subst (λ (o : Order). RanIn o task lists given fault) (sym is)
    (replayed_in arrivals task lists given fault many
    (subst (λ es. Replayed task (rows_at lists) es given fault) (are ∙ ap (entries_in arrivals.lists) (sym same)) replayed))
if_recorded order arrivals task lists number entries given (Err answer) is many same are replayed = tt

-- ---- lists in reverse

reversed_at : (lists : List (List Item)) (i : ℕ) → rows_at (map reverse lists) i ≡ reverse (rows_at lists i)
reversed_at [] i = refl
reversed_at (items ∷ lists) zero = refl
reversed_at (items ∷ lists) (suc i) = reversed_at lists i

pub nothing_past : (lists : List (List Item)) (i : ℕ) → length lists ≤ i → rows_at lists i ≡ []
nothing_past [] i past = refl
nothing_past (items ∷ lists) zero past = absurd (omega (arith, past))
nothing_past (items ∷ lists) (suc i) past = nothing_past lists i (omega (arith, past))

pub nothing_there : (lists : List (List Item)) (i : ℕ) (items : List Item) → slice_get lists i ≡ Some items → items ≡ [] → rows_at lists i ≡ []
nothing_there lists i items at none = there_is lists i items at ∙ none

pub takes_last : (lists : List (List Item)) (i : ℕ) (items left : List Item) (x : Item) → slice_get lists i ≡ Some items → items ≡ left ++ x ∷ [] → TakesLast i x lists (slice_set lists i left)
takes_last lists i items left x at last = record {
  within = slice_get_within lists i items at;
  count = set_length lists i left;
  last = there_is lists i items at ∙ last ∙ ap (λ xs. xs ++ x ∷ []) (sym (there_is (slice_set lists i left) i left (get_set_same lists i left (slice_get_within lists i items at))));
  others = λ j apart. ap (λ o. unwrap_or o []) (get_set_other lists i j left apart);
}

-- ---- records that aren't whole

and_false : (a b : Bool) → b ≡ false → (a && b) ≡ false
and_false true b e = e
and_false false b e = refl

not_found : (op : Operator) (l : Lists) (entries : List ℕ) → (length (arrive l entries) ≡ length entries → ⊥) → is_whole op l entries ≡ false
not_found op l entries apart =
    ap (λ b. b && ends_at_last (start op) (arrive l entries))
    (and_false (names_inputs op entries) (finds_items l entries) (ne_eqb (length (arrive l entries)) (length entries) apart))

not_ended : (op : Operator) (l : Lists) (entries : List ℕ) → ends_at_last (start op) (arrive l entries) ≡ false → is_whole op l entries ≡ false
not_ended op l entries e = and_false (names_inputs op entries && finds_items l entries) (ends_at_last (start op) (arrive l entries)) e

ends_never : (s : Stage) (events : List Event) → (stage_after s events).over ≡ false → ends_at_last s events ≡ false
ends_never s [] live = refl
ends_never s (e ∷ events) live = go (next s e).over refl (ends_never (next s e) events live)
  where
    go : (b : Bool) → (next s e).over ≡ b → ends_at_last (next s e) events ≡ false → cond b (is_empty events) (ends_at_last (next s e) events) ≡ false
    go true q r =
        let stays : (stage_after (next s e) events).over ≡ true = ap (λ (t : Stage). t.over) (after-over (next s e) events q) ∙ q in
        let clash : false ≡ true = sym live ∙ stays in
        absurd cc
    go false q r = r

ends_earlier : (s : Stage) (front : List Event) (x : Event) (rest : List Event) → s.over ≡ false → (stage_after s front).over ≡ true → ends_at_last s (front ++ x ∷ rest) ≡ false
ends_earlier s [] x rest live over = absurd (let clash : false ≡ true = sym live ∙ over in cc)
ends_earlier s (e ∷ front) x rest live over = go (next s e).over refl (λ q. ends_earlier (next s e) front x rest q over)
  where
    some_left : (es : List Event) → is_empty (es ++ x ∷ rest) ≡ false
    some_left [] = refl
    some_left (y ∷ es) = refl

    go : (b : Bool) → (next s e).over ≡ b → ((next s e).over ≡ false → ends_at_last (next s e) (front ++ x ∷ rest) ≡ false)
        → cond b (is_empty (front ++ x ∷ rest)) (ends_at_last (next s e) (front ++ x ∷ rest)) ≡ false
    go true q r = some_left front
    go false q r = r q

-- more entries take the same events first
arrive_more : (front more : List ℕ) (l : Lists) → (behind : List Event) × (arrive l (front ++ more) ≡ arrive l front ++ behind)
arrive_more [] more l = (arrive l more, refl)
arrive_more (i ∷ front) more l = go (l i) (λ items. arrive_more front more (with_list l i items))
  where
    go : (xs : List Item) → ((items : List Item) → (behind : List Event) × (arrive (with_list l i items) (front ++ more) ≡ arrive (with_list l i items) front ++ behind))
        → (behind : List Event) × (taking i xs (λ items. arrive (with_list l i items) (front ++ more)) ≡ taking i xs (λ items. arrive (with_list l i items) front) ++ behind)
    go [] rest = ([], refl)
    go (x ∷ xs) rest = let r = rest xs in (r.0, ap (λ es. came i x ∷ es) r.1)

-- a record that goes on after the end isn't whole
too_long : (op : Operator) (l : Lists) (front : List ℕ) (y : ℕ) (more : List ℕ) (done : List Event) → arrive l front ≡ done → inputs_of done ≡ front → has_ended op done ≡ true
    → is_whole op l (front ++ y ∷ more) ≡ false
too_long op l front y more done takes inputs over =
    let rest = arrive_more front (y ∷ more) l in go rest.0 (rest.1 ∙ ap (λ es. es ++ rest.0) takes)
  where
    go : (behind : List Event) → arrive l (front ++ y ∷ more) ≡ done ++ behind → is_whole op l (front ++ y ∷ more) ≡ false
    go [] e = not_found op l (front ++ y ∷ more) (λ found.
        let taken : length (arrive l (front ++ y ∷ more)) ≡ length done = ap length (e ∙ append-nil done) in
        let long = length-append front (y ∷ more) in
        let first : length done ≡ length front = sym (length-inputs_of done) ∙ ap length inputs in
        omega (arith, found, taken, long, first))
    go (x ∷ xs) e = not_ended op l (front ++ y ∷ more) (ap (ends_at_last (start op)) e ∙ ends_earlier (start op) done x xs refl over)

-- ---- the loop

-- an operator took an item for each of the entries before the rest, which haven't ended it, and what is left of each list is there in reverse
pub record Replaying {S : Type 0} (spec : S → Operator) (stands : S → List Event → Type 0) (task : Task) (lists : List (List Item)) (entries : List ℕ) (left : List (List Item))
    (rest : List ℕ) (s : S) (given : Given) : Type 0 where
  pub done : List Event
  pub split : entries ≡ inputs_of done ++ rest
  pub named : names_inputs task.op (inputs_of done) ≡ true
  pub arrived : arrive (rows_at lists) (inputs_of done) ≡ done
  pub count : length left ≡ length lists
  pub remain : (i : ℕ) → rows_at lists i ≡ came_on (λ j. j == i) done ++ reverse (rows_at left i)
  pub reached : Reached spec stands task done s given Live

pub replay_first : {S : Type 0} (spec : S → Operator) (stands : S → List Event → Type 0) (task : Task) (lists : List (List Item)) (entries : List ℕ) (left : List (List Item)) (s : S)
    (given : Given) → spec s ≡ task.op → stands s [] → HasGiven task [] given → left ≡ map reverse lists → Replaying spec stands task lists entries left entries s given
replay_first spec stands task lists entries left s given same fresh none turned = record {
  done = [];
  split = refl;
  named = refl;
  arrived = refl;
  count = ap length turned ∙ length-map lists reverse;
  remain = λ i. sym (ap (λ ls. reverse (rows_at ls i)) turned ∙ ap reverse (reversed_at lists i) ∙ reverse-reverse (rows_at lists i));
  reached = record { stood = record { same = same; state = fresh; live = refl }; gave = none };
}

-- the next entry names a list that is used up
pub replay_used_up : {S : Type 0} (spec : S → Operator) (stands : S → List Event → Type 0) (task : Task) (lists : List (List Item)) (entries : List ℕ) (left : List (List Item))
    (rest behind : List ℕ) (i : ℕ) (s : S) (given : Given) → Replaying spec stands task lists entries left rest s given → rest ≡ i ∷ behind → rows_at left i ≡ []
    → is_whole task.op (rows_at lists) entries ≡ false
replay_used_up spec stands task lists entries left rest behind i s given r next none =
    let l : Lists = rows_at lists in
    let found : finds_items l (inputs_of r.done) ≡ true = eq-eqb (length (arrive l (inputs_of r.done))) (length (inputs_of r.done)) (ap length r.arrived ∙ sym (length-inputs_of r.done)) in
    let used : l i ≡ came_on (λ j. j == i) (arrive l (inputs_of r.done)) =
    r.remain i ∙ ap (λ xs. came_on (λ j. j == i) r.done ++ reverse xs) none ∙ append-nil (came_on (λ j. j == i) r.done) ∙ ap (came_on (λ j. j == i)) (sym r.arrived) in
    let stops : arrive l entries ≡ r.done =
    ap (arrive l) (r.split ∙ ap (λ es. inputs_of r.done ++ es) next) ∙ nothing_left_law l (inputs_of r.done) i behind found used ∙ r.arrived in
    not_ended task.op l entries (ap (ends_at_last (start task.op)) stops ∙ ends_never (start task.op) r.done r.reached.stood.live)

-- no entry is left
pub replay_over : {S : Type 0} (spec : S → Operator) (stands : S → List Event → Type 0) (task : Task) (lists : List (List Item)) (entries : List ℕ) (left : List (List Item))
    (rest : List ℕ) (s : S) (given : Given) → Replaying spec stands task lists entries left rest s given → length rest < 1 → is_whole task.op (rows_at lists) entries ≡ false
replay_over spec stands task lists entries left rest s given r over =
    let l : Lists = rows_at lists in
    let all : entries ≡ inputs_of r.done =
    r.split ∙ ap (λ es. inputs_of r.done ++ es) (nil_from_length rest (omega (arith, over))) ∙ append-nil (inputs_of r.done) in
    not_ended task.op l entries (ap (ends_at_last (start task.op)) (ap (arrive l) all ∙ r.arrived) ∙ ends_never (start task.op) r.done r.reached.stood.live)

-- the next entry finds an item
module _ {S : Type 0} (spec : S → Operator) (stands : S → List Event → Type 0) (task : Task) (lists : List (List Item)) (entries : List ℕ) (left new_left : List (List Item))
    (rest behind : List ℕ) (i : ℕ) (x : Item) (s new : S) (given later : Given) (r : Replaying spec stands task lists entries left rest s given) (next : rest ≡ i ∷ behind)
    (taken : TakesLast i x left new_left) (are : AreInputs task.op lists) where
  now_left : rows_at lists i ≡ came_on (λ j. j == i) r.done ++ x ∷ reverse (rows_at new_left i)
  now_left = r.remain i ∙ ap (λ xs. came_on (λ j. j == i) r.done ++ xs) (reverse_more (rows_at new_left i) (rows_at left i) x taken.last)

  within : i < length lists
  within = let lt = taken.within in let same = r.count in omega (arith, lt, same)

  named_input : i < length (ports task.op)
  named_input = let lt = within in let count = are.count in omega (arith, lt, count)

  pub replay_ready : MayTake task.op (reverse r.done) (came i x)
  replay_ready =
      let items = get_below lists i within in
      let there : rows_at lists i ≡ items.0 = there_is lists i items.0 items.1 in
      record {
        live = live_law task.op (reverse r.done) ∙ ap (λ events. not (has_ended task.op events)) (reverse-reverse r.done) ∙ ap not r.reached.stood.live;
        input = named_input;
        is_open = open_reverse (λ j. j == i) r.done
            (open_front (came_on (λ j. j == i) r.done) x (reverse (rows_at new_left i))
            (subst EndsOnce (sym there ∙ now_left) (closed_once items.0 (are.closed i items.0 items.1))));
        has = fit_at (input_attributes task.op (port_at (ports task.op) i)) (came_on (λ j. j == i) r.done) x (reverse (rows_at new_left i))
            (subst (TuplesFit (input_attributes task.op (port_at (ports task.op) i))) (sym there ∙ now_left) (are.fit i items.0 items.1));
      }

  inputs_more : inputs_of (r.done ++ came i x ∷ []) ≡ inputs_of r.done ++ i ∷ []
  inputs_more = map_append (λ (e : Event). e.input) r.done (came i x ∷ [])

  entries_more : entries ≡ inputs_of (r.done ++ came i x ∷ []) ++ behind
  entries_more =
      r.split ∙ ap (λ es. inputs_of r.done ++ es) next ∙ sym (append_assoc (inputs_of r.done) (i ∷ []) behind) ∙ ap (λ es. es ++ behind) (sym inputs_more)

  named_more : names_inputs task.op (inputs_of (r.done ++ came i x ∷ [])) ≡ true
  named_more =
      ap (names_inputs task.op) inputs_more
      ∙ list_all-append (λ j. nat_lt j (length (ports task.op))) (inputs_of r.done) (i ∷ [])
      ∙ and_from (names_inputs task.op (inputs_of r.done)) (names_inputs task.op (i ∷ [])) r.named
      (and_from (nat_lt i (length (ports task.op))) true (lt-ltb i (length (ports task.op)) named_input) refl)

  arrived_more : arrive (rows_at lists) (inputs_of (r.done ++ came i x ∷ [])) ≡ r.done ++ came i x ∷ []
  arrived_more =
      ap (arrive (rows_at lists)) inputs_more
      ∙ next_item_law (rows_at lists) (inputs_of r.done) i x (reverse (rows_at new_left i))
      (eq-eqb (length (arrive (rows_at lists) (inputs_of r.done))) (length (inputs_of r.done)) (ap length r.arrived ∙ sym (length-inputs_of r.done)))
      (now_left ∙ ap (λ es. came_on (λ j. j == i) es ++ x ∷ reverse (rows_at new_left i)) (sym r.arrived))
      ∙ ap (λ es. es ++ came i x ∷ []) r.arrived

  remain_more : (k : ℕ) → rows_at lists k ≡ came_on (λ j. j == k) (r.done ++ came i x ∷ []) ++ reverse (rows_at new_left k)
  remain_more k = elim (cases_eq i k) [
    | inl e ↦ subst (λ n. rows_at lists n ≡ came_on (λ j. j == n) (r.done ++ came i x ∷ []) ++ reverse (rows_at new_left n)) e
        (now_left ∙ sym (append_assoc (came_on (λ j. j == i) r.done) (x ∷ []) (reverse (rows_at new_left i)))
        ∙ ap (λ xs. (came_on (λ j. j == i) r.done ++ xs) ++ reverse (rows_at new_left i)) (sym (ap (λ b. cond b (x ∷ []) []) (eq-eqb i i refl)))
        ∙ ap (λ xs. xs ++ reverse (rows_at new_left i)) (sym (came_both (λ j. j == i) r.done (came i x ∷ []))))
    | inr apart ↦
        r.remain k ∙ ap (λ xs. came_on (λ j. j == k) r.done ++ reverse xs) (sym (taken.others k apart))
        ∙ ap (λ xs. xs ++ reverse (rows_at new_left k))
        (sym (append-nil (came_on (λ j. j == k) r.done))
        ∙ ap (λ xs. came_on (λ j. j == k) r.done ++ xs) (sym (ap (λ b. cond b (x ∷ []) []) (ne_eqb i k apart)))
        ∙ sym (came_both (λ j. j == k) r.done (came i x ∷ [])))
  ]

  pub replay_more : Reached spec stands task (r.done ++ came i x ∷ []) new later Live → Replaying spec stands task lists entries new_left behind new later
  replay_more reached = record {
    done = r.done ++ came i x ∷ [];
    split = entries_more;
    named = named_more;
    arrived = arrived_more;
    count = taken.count ∙ r.count;
    remain = remain_more;
    reached = reached;
  }

  pub replay_ends : (fault : Option Fault) → behind ≡ [] → Reached spec stands task (r.done ++ came i x ∷ []) new later (Ended fault)
      → Replayed task (rows_at lists) entries later fault
  replay_ends fault last reached =
      let all : entries ≡ inputs_of (r.done ++ came i x ∷ []) =
      entries_more ∙ ap (λ es. inputs_of (r.done ++ came i x ∷ []) ++ es) last ∙ append-nil (inputs_of (r.done ++ came i x ∷ [])) in
      record {
        done = r.done ++ came i x ∷ [];
        arrived = ap (arrive (rows_at lists)) all ∙ arrived_more;
        found = sym all;
        named = ap (names_inputs task.op) all ∙ named_more;
        ends = reached.stood;
        gave = reached.gave;
      }

  pub replay_too_long : (fault : Option Fault) → (behind ≡ [] → ⊥) → Reached spec stands task (r.done ++ came i x ∷ []) new later (Ended fault)
      → is_whole task.op (rows_at lists) entries ≡ false
  replay_too_long fault some reached = go behind refl
    where
      go : (es : List ℕ) → behind ≡ es → is_whole task.op (rows_at lists) entries ≡ false
      go [] e = absurd (some e)
      go (y ∷ more) e =
          ap (is_whole task.op (rows_at lists)) (entries_more ∙ ap (λ es. inputs_of (r.done ++ came i x ∷ []) ++ es) e)
          ∙ too_long task.op (rows_at lists) (inputs_of (r.done ++ came i x ∷ [])) y more (r.done ++ came i x ∷ []) arrived_more refl
          (ended_there task.op (r.done ++ came i x ∷ []) fault reached.stood)
