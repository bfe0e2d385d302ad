-- The streams of an operator's inputs, one after the other.
use Rattle.std.proofs.Common.{◌≡◌, ℕ, zero, suc, ◌+◌, ◌-◌, ◌<◌, ◌≤◌, ◌==◌, ◌||◌, true, false, List, [], ◌∷◌, ◌++◌, append_assoc, append-nil, map, refl, sym, ap, subst, ◌∙◌, length, get_or, take, drop, slice_get, arith}
use Rattle.std.specs.Prelude.{slice_set}
use Rattle.std.specs.List.{concat, Contains, list_any}
use Rattle.std.specs.Option.{unwrap_or}
use Rattle.std.proofs.lemmas.Bool.{eq-eqb, or_left, or_right, or_parts}
use Rattle.std.proofs.lemmas.List.Folds.{list_any-append, concat-append}
use Rattle.std.proofs.lemmas.List.Elements.{Contains-append_right}
use Rattle.spl_value.specs.declared.item.Item.{Item}
use Rattle.language_model.specs.CheckedGraph.{CheckedGraph}
use Rattle.stream_model.specs.CheckedMeaning.{graph_of}
use Rattle.stream_model.specs.Ends.{is_read}
use Rattle.stream_model.specs.Meaning.{Graph}
use Rattle.spl_value.proofs.Lists.{contains_here, take_at}
use Rattle.stream_model.specs.Runs.{rows_at}
use Rattle.list_engine.specs.steps.Reading.{ops_at}
use Rattle.list_engine.specs.steps.Table.{LeftBehind, StaysFor}
use Rattle.list_engine.proofs.Places.{get_set_other, set_length}
use Rattle.list_engine.proofs.Taking.{map_append}

-- ---- one stream

pub copied_behind : (g : Graph) (later behind : List ℕ) (stream : ℕ) (table : List (List Item)) → LeftBehind g later behind stream table table
copied_behind g later behind stream table = record { count = refl; others = λ s other. refl; wanted = λ s wanted. refl }

pub taken_behind : (g : Graph) (later behind : List ℕ) (stream : ℕ) (table new : List (List Item)) → (list_any (λ n. n == stream) behind || is_read (ops_at g later) stream) ≡ false
    → new ≡ slice_set table stream [] → LeftBehind g later behind stream table new
taken_behind g later behind stream table new gone made = record {
  count = ap length made ∙ set_length table stream [];
  others = λ s other. ap (λ t. slice_get t s) made ∙ get_set_other table stream s [] (λ same. (let clash : true ≡ false = sym (eq-eqb stream s same) ∙ other in cc));
  wanted = λ s wanted. ap (λ t. slice_get t s) made
      ∙ get_set_other table stream s [] (λ same. (let clash : true ≡ false = sym (ap (λ k. list_any (λ n. n == k) behind || is_read (ops_at g later) k) same ∙ wanted) ∙ gone in cc));
}

-- ---- all of them

-- of the inputs a front was gathered, and the streams of the rest are there
pub record Gathered (c : CheckedGraph) (later connections rest : List ℕ) (old table : List (List Item)) (lists : List (List Item)) : Type 0 where
  pub front : List ℕ
  pub split : connections ≡ front ++ rest
  pub made : lists ≡ map (rows_at old) front
  pub count : length table ≡ length old
  pub left : (s : ℕ) → list_any (λ n. n == s) rest ≡ true → slice_get table s ≡ slice_get old s
  pub others : (s : ℕ) → list_any (λ n. n == s) front ≡ false → slice_get table s ≡ slice_get old s
  pub wanted : (g : Graph) → graph_of c ≡ g → (s : ℕ) → is_read (ops_at g later) s ≡ true → slice_get table s ≡ slice_get old s

pub gathered_first : (c : CheckedGraph) (later connections rest : List ℕ) (table : List (List Item)) (lists : List (List Item)) → rest ≡ connections → lists ≡ []
    → Gathered c later connections rest table table lists
gathered_first c later connections rest table lists same none = record {
  front = [];
  split = sym same;
  made = none;
  count = refl;
  left = λ s among. refl;
  others = λ s other. refl;
  wanted = λ g e s read. refl;
}

-- a list that isn't empty begins with its first number
pub first_and_rest : (xs : List ℕ) → 1 ≤ length xs → xs ≡ get_or xs 0 0 ∷ take (length xs - 1) (drop 1 xs)
first_and_rest [] h = absurd (omega (arith, h))
first_and_rest (x ∷ xs) h = ap (λ ys. x ∷ ys) (sym (take_all xs (length (x ∷ xs) - 1) (omega arith)))
  where
    take_all : (ys : List ℕ) (n : ℕ) → length ys ≤ n → take n ys ≡ ys
    take_all [] zero h = refl
    take_all [] (suc n) h = refl
    take_all (y ∷ ys) zero h = absurd (omega (arith, h))
    take_all (y ∷ ys) (suc n) h = ap (λ zs. y ∷ zs) (take_all ys n (omega (arith, h)))

pub gathered_next : (c : CheckedGraph) (later connections rest behind : List ℕ) (stream : ℕ) (old table new : List (List Item)) (lists more : List (List Item)) (items : List Item)
    → Gathered c later connections rest old table lists → rest ≡ stream ∷ behind → items ≡ rows_at table stream
    → ((g : Graph) → graph_of c ≡ g → LeftBehind g later behind stream table new) → more ≡ lists ++ items ∷ []
    → Gathered c later connections behind old new more
gathered_next c later connections rest behind stream old table new lists more items h next is left pushed = record {
  front = h.front ++ stream ∷ [];
  split = h.split ∙ ap (λ ss. h.front ++ ss) next ∙ sym (append_assoc h.front (stream ∷ []) behind);
  made = pushed ∙ ap (λ ls. ls ++ items ∷ []) h.made ∙ ap (λ xs. map (rows_at old) h.front ++ xs ∷ []) same_items ∙ sym (map_append (rows_at old) h.front (stream ∷ []));
  count = here.count ∙ h.count;
  left = λ s among. here.wanted s (or_left (list_any (λ n. n == s) behind) (is_read (ops_at (graph_of c) later) s) among) ∙ h.left s (in_rest s among);
  others = λ s other. (
      let parts = or_parts (list_any (λ n. n == s) h.front) (list_any (λ n. n == s) (stream ∷ [])) (sym (list_any-append (λ n. n == s) h.front (stream ∷ [])) ∙ other) in
      let own = or_parts (stream == s) false parts.1 in
      here.others s own.0 ∙ h.others s parts.0);
  wanted = λ g e s read. (left g e).wanted s (or_right (list_any (λ n. n == s) behind) (is_read (ops_at g later) s) read) ∙ h.wanted g e s read;
}
  where
    here : LeftBehind (graph_of c) later behind stream table new
    here = left (graph_of c) refl

    in_rest : (s : ℕ) → list_any (λ n. n == s) behind ≡ true → list_any (λ n. n == s) rest ≡ true
    in_rest s among = ap (list_any (λ n. n == s)) next ∙ or_right (stream == s) (list_any (λ n. n == s) behind) among

    its_own : list_any (λ n. n == stream) rest ≡ true
    its_own = ap (list_any (λ n. n == stream)) next ∙ or_left (stream == stream) (list_any (λ n. n == stream) behind) (eq-eqb stream stream refl)

    same_items : items ≡ rows_at old stream
    same_items = is ∙ ap (λ o. unwrap_or o []) (h.left stream its_own)

none_remain : (xs : List ℕ) → length xs < 1 → xs ≡ []
none_remain [] h = refl
none_remain (x ∷ xs) h = absurd (omega (arith, h))

all_front : (connections front rest : List ℕ) → connections ≡ front ++ rest → length rest < 1 → front ≡ connections
all_front connections front rest split over = sym (split ∙ ap (λ ss. front ++ ss) (none_remain rest over) ∙ append-nil front)

pub gathered_lists : (c : CheckedGraph) (later connections rest : List ℕ) (old table : List (List Item)) (lists : List (List Item)) → Gathered c later connections rest old table lists
    → length rest < 1 → lists ≡ map (rows_at old) connections
gathered_lists c later connections rest old table lists h over = h.made ∙ ap (map (rows_at old)) (all_front connections h.front rest h.split over)

pub gathered_all : (c : CheckedGraph) (later connections rest : List ℕ) (old table : List (List Item)) (lists : List (List Item)) → Gathered c later connections rest old table lists
    → length rest < 1 → (g : Graph) → graph_of c ≡ g → StaysFor g later connections old table
gathered_all c later connections rest old table lists h over g e = record {
  count = h.count;
  others = λ s other. h.others s (ap (list_any (λ n. n == s)) (all_front connections h.front rest h.split over) ∙ other);
  wanted = h.wanted g e;
}

-- the next stream is one of the inputs
pub next_among : (c : CheckedGraph) (later connections rest : List ℕ) (old table : List (List Item)) (lists : List (List Item)) → Gathered c later connections rest old table lists
    → 1 ≤ length rest → ((s : ℕ) → Contains connections s → s < length old) → get_or rest 0 0 < length table
next_among c later connections rest old table lists h some there =
    subst (λ l. get_or rest 0 0 < l) (sym h.count)
    (there (get_or rest 0 0) (subst (λ ss. Contains ss (get_or rest 0 0)) (sym (h.split ∙ ap (λ ss. h.front ++ ss) (first_and_rest rest some)))
    (Contains-append_right h.front _ (get_or rest 0 0) (contains_here (get_or rest 0 0) _))))

-- ---- connections

pub connections_more : (ports : List (List ℕ)) (i : ℕ) (port : List ℕ) → i < length ports → port ≡ get_or ports i port
    → concat (take (i + 1) ports) ≡ concat (take i ports) ++ port
connections_more ports i port within at =
    ap concat (take_at ports i port within at) ∙ concat-append (take i ports) (port ∷ []) ∙ ap (λ ss. concat (take i ports) ++ ss) (append-nil port)
