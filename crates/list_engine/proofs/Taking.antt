-- What an operator has given after one event more.
use Rattle.std.proofs.Common.{◌≡◌, ℕ, suc, ◌<◌, ◌≤◌, Bool, true, false, cond, if◌then◌else◌, List, [], ◌∷◌, ◌++◌, append_assoc, append-nil, map, refl, sym, ap, subst, ◌∙◌, length, reverse, slice_get, Option, Some, None, is_some, inl, inr, arith}
use Rattle.std.specs.Prelude.{slice_set, ◌⊎◌, IfOk, Result, Ok, Err}
use Rattle.std.proofs.lemmas.Bool.{cases_eq, eq-eqb, ne_eqb}
use Rattle.std.proofs.lemmas.List.{reverse-append}
use Rattle.std.proofs.lemmas.Option.{slice_get_within}
use Rattle.spl_value.specs.declared.item.Fault.{Fault}
use Rattle.spl_value.specs.declared.item.Item.{Item}
use Rattle.spl_value.specs.declared.item.Item.TheVariants as I
use Rattle.language_model.specs.declared.outs.Output.{Output}
use Rattle.language_model.specs.StreamTypes.{Attributes}
use Rattle.stream_model.specs.declared.reply.Reply.{Reply}
use Rattle.stream_model.specs.declared.reply.Reply.TheVariants as R
use Rattle.stream_model.specs.Stream.{Event, came, TuplesFit}
use Rattle.stream_model.specs.Inputs.{inputs_of}
use Rattle.stream_model.specs.Operators.{Operator}
use Rattle.stream_model.specs.React.{react, ended}
use Rattle.stream_model.specs.Replies.{AllFit, IsTaken, ItemHas, MayTake, OutsFit, Replies, given_attributes}
use Rattle.stream_model.specs.Stages.{on_port, out}
use Rattle.stream_model.specs.Laws.{has_ended}
use Rattle.stream_model.proofs.Histories.{history_law, end_law}
use Rattle.stream_model.proofs.StageLaws.{on_port-append}
use Rattle.list_engine.specs.declared.operator.Given.{Given}
use Rattle.list_engine.specs.declared.operator.Standing.{Standing}
use Rattle.list_engine.specs.declared.operator.Standing.TheVariants.{Live, Ended}
use Rattle.list_engine.specs.steps.Taking.{Adds, Task, HasGiven, MayCome, Reached, Took, noted}
use Rattle.list_engine.proofs.Places.{set_length, get_set_other}
use Rattle.list_engine.proofs.Coming.{may_take}
use Rattle.spl_value.proofs.Lists.{get_set_same}

-- ---- outputs on their ports

pub adds_none : (lists : List (List Item)) → Adds [] lists lists
adds_none lists = record { count = refl; each = λ p items at. at ∙ ap (λ xs. Some xs) (sym (append-nil items)) }

pub adds_empty : (caused : List Output) (lists : List (List Item)) → caused ≡ [] → Adds caused lists lists
adds_empty caused lists none = subst (λ outputs. Adds outputs lists lists) (sym none) (adds_none lists)

pub adds_more : (a b : List Output) (x y z : List (List Item)) → Adds a x y → Adds b y z → Adds (a ++ b) x z
adds_more a b x y z first second = record {
  count = second.count ∙ first.count;
  each = λ p items at. second.each p (items ++ on_port p a) (first.each p items at)
      ∙ ap (λ xs. Some xs) (append_assoc items (on_port p a) (on_port p b) ∙ ap (λ xs. items ++ xs) (sym (on_port-append p a b)));
}

one_here : (o : Output) (p : ℕ) → o.port ≡ p → on_port p (o ∷ []) ≡ o.item ∷ []
one_here o p e = ap (λ b. cond b (o.item ∷ []) []) (eq-eqb o.port p e)

none_here : (o : Output) (p : ℕ) → (o.port ≡ p → ⊥) → on_port p (o ∷ []) ≡ []
none_here o p n = ap (λ b. cond b (o.item ∷ []) []) (ne_eqb o.port p n)

-- an item on a port that there is
pub adds_one : (o : Output) (lists : List (List Item)) (items : List Item) → slice_get lists o.port ≡ Some items → Adds (o ∷ []) lists (slice_set lists o.port (items ++ o.item ∷ []))
adds_one o lists items there = record {
  count = set_length lists o.port (items ++ o.item ∷ []);
  each = λ p xs at. elim (cases_eq o.port p) [
    | inl e ↦ (
        let same : items ≡ xs = (let both : Some items ≡ Some xs = sym there ∙ ap (slice_get lists) e ∙ at in cc) in
        ap (slice_get (slice_set lists o.port (items ++ o.item ∷ []))) (sym e)
        ∙ get_set_same lists o.port (items ++ o.item ∷ []) (slice_get_within lists o.port items there)
        ∙ (let here : o.item ∷ [] ≡ on_port p (o ∷ []) = sym (one_here o p e) in λ i. Some (same i ++ here i)))
    | inr n ↦ get_set_other lists o.port p (items ++ o.item ∷ []) n ∙ at ∙ ap (λ ys. Some ys) (sym (append-nil xs)) ∙ ap (λ ys. Some (xs ++ ys)) (sym (none_here o p n))
  ];
}

-- one on a port that there isn't
pub adds_past : (o : Output) (lists : List (List Item)) → length lists ≤ o.port → Adds (o ∷ []) lists lists
adds_past o lists past = record {
  count = refl;
  each = λ p xs at. (
      let within : p < length lists = slice_get_within lists p xs at in
      at ∙ ap (λ ys. Some ys) (sym (append-nil xs)) ∙ ap (λ ys. Some (xs ++ ys)) (sym (none_here o p (λ e. omega (arith, e, within, past)))));
}

-- ---- one event more

fit_both : (schema : Attributes) (xs ys : List Item) → TuplesFit schema xs → TuplesFit schema ys → TuplesFit schema (xs ++ ys)
fit_both schema [] ys h k = k
fit_both schema (I.Tuple vs ∷ xs) ys h k = (h.0, fit_both schema xs ys h.1 k)
fit_both schema (I.Window ∷ xs) ys h k = fit_both schema xs ys h k
fit_both schema (I.Final ∷ xs) ys h k = fit_both schema xs ys h k
fit_both schema (I.Bad f ∷ xs) ys h k = fit_both schema xs ys h k

pub fit_one : (schema : Attributes) (x : Item) (xs : List Item) → ItemHas schema x → TuplesFit schema xs → TuplesFit schema (x ∷ xs)
fit_one schema (I.Tuple vs) xs h k = (h, k)
fit_one schema I.Window xs h k = k
fit_one schema I.Final xs h k = k
fit_one schema (I.Bad f) xs h k = k

-- the items of a port have its attributes
pub port_fits : (op : Operator) (p : ℕ) (outs : List Output) → AllFit op outs → TuplesFit (given_attributes op.clauses op p) (on_port p outs)
port_fits op p [] h = tt
port_fits op p (o ∷ outs) h = go (cases_eq o.port p) (port_fits op p outs (λ i x at. h (suc i) x at))
  where
    go : (o.port ≡ p) ⊎ (o.port ≡ p → ⊥) → TuplesFit (given_attributes op.clauses op p) (on_port p outs) → TuplesFit (given_attributes op.clauses op p) (on_port p (o ∷ outs))
    go (inl e) rest =
        subst (λ b. TuplesFit (given_attributes op.clauses op p) (cond b (o.item ∷ on_port p outs) (on_port p outs))) (sym (eq-eqb o.port p e))
        (fit_one (given_attributes op.clauses op p) o.item (on_port p outs) (subst (λ q. ItemHas (given_attributes op.clauses op q) o.item) e (h 0 o refl)) rest)
    go (inr n) rest =
        subst (λ b. TuplesFit (given_attributes op.clauses op p) (cond b (o.item ∷ on_port p outs) (on_port p outs))) (sym (ne_eqb o.port p n)) rest

pub map_append : {A B : Type 0} (f : A → B) (xs ys : List A) → map f (xs ++ ys) ≡ map f xs ++ map f ys
map_append f [] ys = refl
map_append f (x ∷ xs) ys = ap (λ zs. f x ∷ zs) (map_append f xs ys)

noted_more : (recorded : Bool) (done : List Event) (e : Event) (inputs : Option (List ℕ)) → inputs ≡ (if recorded then Some (inputs_of done) else None)
    → noted e.input inputs ≡ (if recorded then Some (inputs_of (done ++ e ∷ [])) else None)
noted_more true done e inputs q = ap (noted e.input) q ∙ ap (λ xs. Some xs) (sym (map_append (λ (x : Event). x.input) done (e ∷ [])))
noted_more false done e inputs q = ap (noted e.input) q

pub gives_more : (task : Task) (done : List Event) (e : Event) (given later : Given) → has_ended task.op done ≡ false → HasGiven task done given
    → Adds (react task.op (reverse done) e) given.outs later.outs → later.inputs ≡ noted e.input given.inputs → AllFit task.op (react task.op (reverse done) e)
    → HasGiven task (done ++ e ∷ []) later
gives_more task done e given later live gave added noted_is fits = record {
  count = added.count ∙ gave.count;
  outs = λ p within. added.each p (out task.op p done) (gave.outs p within) ∙ ap (λ xs. Some xs) (sym ((history_law task.op p done e).0 live));
  inputs = noted_is ∙ noted_more task.recorded done e given.inputs gave.inputs;
  fit = λ p. subst (TuplesFit (given_attributes task.op.clauses task.op p)) (sym ((history_law task.op p done e).0 live))
      (fit_both (given_attributes task.op.clauses task.op p) (out task.op p done) (on_port p (react task.op (reverse done) e)) (gave.fit p)
      (port_fits task.op p (react task.op (reverse done) e) fits));
}

-- a front of the items of an input was taken, which hasn't ended the operator, and the others are left
pub record TakingInput {S : Type 0} (spec : S → Operator) (stands : S → List Event → Type 0) (task : Task) (done : List Event) (i : ℕ) (items left : List Item) (s : S)
    (given : Given) : Type 0 where
  pub taken : List Item
  pub split : items ≡ taken ++ left
  pub reached : Reached spec stands task (done ++ map (came i) taken) s given Live

-- ---- a step

module _ {S : Type 0} (spec : S → Operator) (stands : S → List Event → Type 0) (task : Task) (done : List Event) (old new : S) (given later : Given) (e : Event)
    (reached : Reached spec stands task done old given Live) (may : MayTake task.op (reverse done) e)
    (noted_is : later.inputs ≡ noted e.input given.inputs) where
  may_then : MayTake (spec old) (reverse done) e
  may_then = subst (λ o. MayTake o (reverse done) e) (sym reached.stood.same) may

  -- the answer is that of the operator
  replied : (reply : Reply) → ((h : List Event) → stands old h → MayTake (spec old) h e → Replies (spec old) h e reply) → Replies task.op (reverse done) e reply
  replied reply replies = subst (λ o. Replies o (reverse done) e reply) reached.stood.same (replies (reverse done) reached.stood.state may_then)

  gave_more : (caused : List Output) → caused ≡ react task.op (reverse done) e → AllFit (spec old) caused → Adds caused given.outs later.outs → HasGiven task (done ++ e ∷ []) later
  gave_more caused is fits added =
      gives_more task done e given later reached.stood.live reached.gave (subst (λ outs. Adds outs given.outs later.outs) is added) noted_is
      (subst (AllFit task.op) is (subst (λ o. AllFit o caused) reached.stood.same fits))

  -- the operator goes on
  pub step_on : (caused : List Output) → spec new ≡ spec old
      → ((h : List Event) → stands old h → MayTake (spec old) h e → Replies (spec old) h e (R.Out caused))
      → ((h : List Event) → stands old h → MayTake (spec old) h e → IsTaken (R.Out caused) → stands new (e ∷ h))
      → OutsFit (spec old) (R.Out caused) → Adds caused given.outs later.outs → Reached spec stands task (done ++ e ∷ []) new later Live
  step_on caused same replies moves fits added =
      let is = replied (R.Out caused) replies in record {
        stood = record {
          same = same ∙ reached.stood.same;
          state = subst (stands new) (sym (reverse-append done (e ∷ []))) (moves (reverse done) reached.stood.state may_then tt);
          live = end_law task.op done e ∙ ap (λ b. if b then true else is_some (ended task.op (reverse done) e)) reached.stood.live ∙ ap is_some is.1;
        };
        gave = gave_more caused is.0 fits added;
      }

  -- the operator ends
  pub step_ends : (caused : List Output) (fault : Option Fault)
      → ((h : List Event) → stands old h → MayTake (spec old) h e → Replies (spec old) h e (R.Ended caused fault))
      → OutsFit (spec old) (R.Ended caused fault) → Adds caused given.outs later.outs → Reached spec stands task (done ++ e ∷ []) new later (Ended fault)
  step_ends caused fault replies fits added =
      let is = replied (R.Ended caused fault) replies in record {
        stood = record { front = done; last = e; are = refl; before = reached.stood.live; ends = is.1 };
        gave = gave_more caused is.0 fits added;
      }

-- ---- the items of an input

module _ {S : Type 0} (spec : S → Operator) (stands : S → List Event → Type 0) (task : Task) (done : List Event) (i : ℕ) (items left rest : List Item) (x : Item) (s new : S)
    (given later : Given) (t : TakingInput spec stands task done i items left s given) (next : left ≡ x ∷ rest) where
  one_more : (done ++ map (came i) t.taken) ++ came i x ∷ [] ≡ done ++ map (came i) (t.taken ++ x ∷ [])
  one_more = append_assoc done (map (came i) t.taken) (came i x ∷ []) ∙ ap (λ es. done ++ es) (sym (map_append (came i) t.taken (x ∷ [])))

  split_more : items ≡ (t.taken ++ x ∷ []) ++ rest
  split_more = t.split ∙ ap (λ xs. t.taken ++ xs) next ∙ sym (append_assoc t.taken (x ∷ []) rest)

  pub take_ready : MayCome task.op done i items → MayTake task.op (reverse (done ++ map (came i) t.taken)) (came i x)
  take_ready may = may_take task.op done i items t.taken rest x may (t.split ∙ ap (λ xs. t.taken ++ xs) next) t.reached.stood.live

  pub take_more : Reached spec stands task ((done ++ map (came i) t.taken) ++ came i x ∷ []) new later Live → TakingInput spec stands task done i items rest new later
  take_more reached = record {
    taken = t.taken ++ x ∷ [];
    split = split_more;
    reached = subst (λ es. Reached spec stands task es new later Live) one_more reached;
  }

  pub take_ends : (fault : Option Fault) → Reached spec stands task ((done ++ map (came i) t.taken) ++ came i x ∷ []) new later (Ended fault)
      → Took spec stands task done i items new later (Ended fault)
  take_ends fault reached = record {
    taken = t.taken ++ x ∷ [];
    rest = rest;
    split = split_more;
    all = λ e. absurd (let clash : Ended fault ≡ Live = e in cc);
    reached = subst (λ es. Reached spec stands task es new later (Ended fault)) one_more reached;
  }

-- an operator that hasn't ended
pub still_live : (standing : Standing) → ((fault : Option Fault) → standing ≡ Ended fault → ⊥) → standing ≡ Live
still_live Live h = refl
still_live (Ended fault) h = absurd (h fault refl)

-- what follows of what holds where there was memory
pub ok_then : {T E : Type 0} → (P Q : Type 0) (r : Result T E) → (P → Q) → IfOk r (λ x. P) → IfOk r (λ x. Q)
ok_then P Q (Ok x) f h = f h
ok_then P Q (Err e) f h = tt
