-- The inputs of an operator one after the other.
use Rattle.std.proofs.Common.{◌≡◌, ℕ, zero, suc, ◌+◌, ◌<◌, ◌≤◌, ◌==◌, Bool, true, false, cond, List, [], ◌∷◌, ◌++◌, append_assoc, append-nil, map, refl, sym, ap, subst, ◌∙◌, length, length-append, slice_get, Option, Some, arith}
use Rattle.std.specs.Option.{unwrap_or}
use Rattle.std.proofs.lemmas.Bool.{ne_eqb}
use Rattle.spl_value.specs.declared.item.Fault.{Fault}
use Rattle.spl_value.specs.declared.item.Item.{Item}
use Rattle.stream_model.specs.Stream.{Event, came, is_closed}
use Rattle.stream_model.specs.Inputs.{came_on}
use Rattle.stream_model.specs.Operators.{Operator, ports}
use Rattle.stream_model.specs.Laws.{has_ended}
use Rattle.stream_model.specs.Meaning.{Lists}
use Rattle.stream_model.proofs.OneAfterAnother.{events_from, all_end}
use Rattle.list_engine.specs.declared.operator.Given.{Given}
use Rattle.list_engine.specs.declared.operator.Standing.TheVariants.{Live, Ended}
use Rattle.stream_model.specs.Runs.{rows_at}
use Rattle.list_engine.specs.steps.Taking.{AreInputs, MayCome, Ran, Reached, Task, Took, in_turn}
use Rattle.list_engine.proofs.Coming.{closed_once}
use Rattle.list_engine.proofs.Taking.{map_append}

-- the items of the inputs before one were taken, which haven't ended the operator, and the others are left
pub record TakingTurns {S : Type 0} (spec : S → Operator) (stands : S → List Event → Type 0) (task : Task) (lists : List (List Item)) (i : ℕ) (left : List (List Item)) (s : S)
    (given : Given) : Type 0 where
  pub front : List (List Item)
  pub split : lists ≡ front ++ left
  pub count : i ≡ length front
  pub reached : Reached spec stands task (in_turn 0 front) s given Live

-- ---- the events

pub turns_both : (front rest : List (List Item)) (k : ℕ) → in_turn k (front ++ rest) ≡ in_turn k front ++ in_turn (k + length front) rest
turns_both [] rest k = let same : k ≡ k + 0 = omega arith in ap (λ n. in_turn n rest) same
turns_both (items ∷ front) rest k =
    let same : suc k + length front ≡ k + length (items ∷ front) = omega arith in
    ap (λ events. map (came k) items ++ events) (turns_both front rest (suc k) ∙ ap (λ n. in_turn (suc k) front ++ in_turn n rest) same)
    ∙ sym (append_assoc (map (came k) items) (in_turn (suc k) front) (in_turn (k + length (items ∷ front)) rest))

none_other : (i n : ℕ) (items : List Item) → (i ≡ n → ⊥) → came_on (λ j. j == n) (map (came i) items) ≡ []
none_other i n [] apart = refl
none_other i n (x ∷ items) apart =
    ap (λ b. cond b (x ∷ came_on (λ j. j == n) (map (came i) items)) (came_on (λ j. j == n) (map (came i) items))) (ne_eqb i n apart) ∙ none_other i n items apart

came_append : (test : ℕ → Bool) (a b : List Event) → came_on test a ≡ [] → came_on test b ≡ [] → came_on test (a ++ b) ≡ []
came_append test [] b h k = k
came_append test (e ∷ a) b h k = go (test e.input) h (λ q. came_append test a b q k)
  where
    go : (t : Bool) → cond t (e.item ∷ came_on test a) (came_on test a) ≡ [] → (came_on test a ≡ [] → came_on test (a ++ b) ≡ [])
        → cond t (e.item ∷ came_on test (a ++ b)) (came_on test (a ++ b)) ≡ []
    go true q rest = absurd (let clash : e.item ∷ came_on test a ≡ [] = q in cc)
    go false q rest = rest q

-- no item has come on a later input
none_later : (front : List (List Item)) (k n : ℕ) → k + length front ≤ n → came_on (λ j. j == n) (in_turn k front) ≡ []
none_later [] k n le = refl
none_later (items ∷ front) k n le =
    came_append (λ j. j == n) (map (came k) items) (in_turn (suc k) front) (none_other k n items (λ (e : k ≡ n). omega (arith, e, le)))
    (none_later front (suc k) n (omega (arith, le)))

at_front : (front : List (List Item)) (items : List Item) (rest : List (List Item)) → slice_get (front ++ items ∷ rest) (length front) ≡ Some items
at_front [] items rest = refl
at_front (xs ∷ front) items rest = at_front front items rest

-- the items of the next input may come
pub may_come : (op : Operator) (lists front : List (List Item)) (items : List Item) (rest : List (List Item)) → AreInputs op lists → lists ≡ front ++ items ∷ rest
    → MayCome op (in_turn 0 front) (length front) items
may_come op lists front items rest a split =
    let at : slice_get lists (length front) ≡ Some items = ap (λ xs. slice_get xs (length front)) split ∙ at_front front items rest in
    let many = ap length split ∙ length-append front (items ∷ rest) in
    let count = a.count in
    record {
      input = omega (arith, many, count);
      none = none_later front 0 (length front) (omega arith);
      once = closed_once items (a.closed (length front) items at);
      fit = a.fit (length front) items at;
    }

-- ---- all of them end the operator

turns_are : (lists : List (List Item)) (k : ℕ) (l : Lists) → ((j : ℕ) (xs : List Item) → slice_get lists j ≡ Some xs → l (k + j) ≡ xs)
    → events_from l k (length lists) ≡ in_turn k lists
turns_are [] k l same = refl
turns_are (items ∷ lists) k l same =
    let first : l k ≡ items = (let zero_more : k ≡ k + 0 = omega arith in ap l zero_more ∙ same 0 items refl) in
    let rest : events_from l (suc k) (length lists) ≡ in_turn (suc k) lists =
    turns_are lists (suc k) l (λ j xs at. (let more : suc k + j ≡ k + suc j = omega arith in ap l more ∙ same (suc j) xs at)) in
    (λ i. map (came k) (first i) ++ rest i)

pub turns_from : (lists : List (List Item)) (l : Lists) → ((j : ℕ) (xs : List Item) → slice_get lists j ≡ Some xs → l j ≡ xs) → events_from l 0 (length lists) ≡ in_turn 0 lists
turns_from lists l same = turns_are lists 0 l (λ j xs at. (let none : 0 + j ≡ j = omega arith in ap l none ∙ same j xs at))

pub all_end_it : (op : Operator) (lists : List (List Item)) → AreInputs op lists → has_ended op (in_turn 0 lists) ≡ true
all_end_it op lists a = go (length lists) refl
  where
    closed : (j : ℕ) → j < length (ports op) → is_closed (rows_at lists j) ≡ true
    closed j lt = there lists j (let count = a.count in omega (arith, count, lt)) a.closed
      where
        there : (ls : List (List Item)) (k : ℕ) → k < length ls → ((i : ℕ) (items : List Item) → slice_get ls i ≡ Some items → is_closed items ≡ true) → is_closed (rows_at ls k) ≡ true
        there [] k within each = absurd (omega (arith, within))
        there (xs ∷ ls) zero within each = each 0 xs refl
        there (xs ∷ ls) (suc k) within each = there ls k (omega (arith, within)) (λ i items at. each (suc i) items at)

    go : (n : ℕ) → length lists ≡ n → has_ended op (in_turn 0 lists) ≡ true
    go zero e = absurd (let some = a.some in omega (arith, some, e))
    go (suc n) e =
        ap (has_ended op) (sym (turns_from lists (rows_at lists) (λ j xs at. ap (λ o. unwrap_or o []) at)))
        ∙ ap (λ m. has_ended op (events_from (rows_at lists) 0 m)) e
        ∙ all_end op (rows_at lists) closed n 0 [] (let count = a.count in omega (arith, count, e)) (λ j l. absurd (omega (arith, l)))

-- ---- one input more

module _ {S : Type 0} (spec : S → Operator) (stands : S → List Event → Type 0) (task : Task) (lists left rest : List (List Item)) (i : ℕ) (items : List Item) (s new : S)
    (given later : Given) (t : TakingTurns spec stands task lists i left s given) (next : left ≡ items ∷ rest) where
  split_at : lists ≡ t.front ++ items ∷ rest
  split_at = t.split ∙ ap (λ ls. t.front ++ ls) next

  pub turn_ready : AreInputs task.op lists → MayCome task.op (in_turn 0 t.front) i items
  turn_ready a = subst (λ n. MayCome task.op (in_turn 0 t.front) n items) (sym t.count) (may_come task.op lists t.front items rest a split_at)

  nothing_before : 0 + length t.front ≡ i
  nothing_before = let none : 0 + length t.front ≡ length t.front = omega arith in none ∙ sym t.count

  turns_more : in_turn 0 (t.front ++ items ∷ []) ≡ in_turn 0 t.front ++ map (came i) items
  turns_more =
      turns_both t.front (items ∷ []) 0 ∙ ap (λ n. in_turn 0 t.front ++ in_turn n (items ∷ [])) nothing_before
      ∙ ap (λ es. in_turn 0 t.front ++ es) (append-nil (map (came i) items))

  turns_all : in_turn 0 lists ≡ in_turn 0 t.front ++ (map (came i) items ++ in_turn (suc i) rest)
  turns_all = ap (in_turn 0) split_at ∙ turns_both t.front (items ∷ rest) 0 ∙ ap (λ n. in_turn 0 t.front ++ in_turn n (items ∷ rest)) nothing_before

  pub turn_more : Took spec stands task (in_turn 0 t.front) i items new later Live → TakingTurns spec stands task lists (i + 1) rest new later
  turn_more took =
      let all : items ≡ took.taken = took.split ∙ ap (λ xs. took.taken ++ xs) (took.all refl) ∙ append-nil took.taken in
      let count = t.count in
      let long = length-append t.front (items ∷ []) in
      record {
        front = t.front ++ items ∷ [];
        split = split_at ∙ sym (append_assoc t.front (items ∷ []) rest);
        count = omega (arith, count, long);
        reached = subst (λ es. Reached spec stands task es new later Live)
            (ap (λ xs. in_turn 0 t.front ++ map (came i) xs) (sym all) ∙ sym turns_more) took.reached;
      }

  pub turn_ends : (fault : Option Fault) → Took spec stands task (in_turn 0 t.front) i items new later (Ended fault) → Ran task (in_turn 0 lists) later fault
  turn_ends fault took = record {
    done = in_turn 0 t.front ++ map (came i) took.taken;
    rest = map (came i) took.rest ++ in_turn (suc i) rest;
    split = turns_all
        ∙ ap (λ xs. in_turn 0 t.front ++ (map (came i) xs ++ in_turn (suc i) rest)) took.split
        ∙ ap (λ es. in_turn 0 t.front ++ (es ++ in_turn (suc i) rest)) (map_append (came i) took.taken took.rest)
        ∙ ap (λ es. in_turn 0 t.front ++ es) (append_assoc (map (came i) took.taken) (map (came i) took.rest) (in_turn (suc i) rest))
        ∙ sym (append_assoc (in_turn 0 t.front) (map (came i) took.taken) (map (came i) took.rest ++ in_turn (suc i) rest));
    ends = took.reached.stood;
    gave = took.reached.gave;
  }

-- no input is left
pub turns_over : {S : Type 0} (spec : S → Operator) (stands : S → List Event → Type 0) (task : Task) (lists left : List (List Item)) (i : ℕ) (s : S) (given : Given)
    → TakingTurns spec stands task lists i left s given → left ≡ [] → AreInputs task.op lists → ⊥
turns_over spec stands task lists left i s given t none a =
    let all : lists ≡ t.front = t.split ∙ ap (λ ls. t.front ++ ls) none ∙ append-nil t.front in
    let clash : true ≡ false = sym (all_end_it task.op lists a) ∙ ap (λ ls. has_ended task.op (in_turn 0 ls)) all ∙ t.reached.stood.live in
    cc
