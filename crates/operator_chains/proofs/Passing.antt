-- From operator to operator.
use Rattle.std.proofs.Common.{ℕ, suc, ◌+◌, ◌<◌, cond, List, [], ◌∷◌, ◌++◌, ◌≡◌, ◌⊎◌, inl, inr, refl, sym, ap, ◌∙◌, subst, append-nil, append_assoc, length, take, drop, get_or, set, arith}
use Rattle.std.proofs.lemmas.Bool.{cases_eq, eq-eqb, ne_eqb}
use Rattle.std.proofs.lemmas.List.{take_more_set, drop-set-lt, drop_more}
use Rattle.spl_value.specs.declared.item.Item.{Item}
use Rattle.spl_value.specs.declared.item.Item.TheVariants as I
use Rattle.language_model.specs.declared.outs.Output.{Output}
use Rattle.language_model.specs.StreamTypes.{Attributes}
use Rattle.stream_model.specs.Operators.{Operator}
use Rattle.stream_model.specs.Replies.{AllFit, ItemHas, given_attributes}
use Rattle.stream_model.specs.Stages.{Stage, gives_all, on_port, stage_after}
use Rattle.stream_model.specs.Stream.{Event, TuplesFit}
use Rattle.std.specs.Prelude.{IfOk, Result, Ok, Err}
use Rattle.stream_model.specs.Chains.{onward, passed, stages_passed, chain_gives}
use Rattle.operator_chains.specs.declared.slot.Slot.{Slot}
use Rattle.operator_chains.specs.Standing.{AtStage, AtStages, Enters, Joined, MayFeed}
use Rattle.operator_chains.specs.steps.Along.{Along, IsAlong}
use Rattle.operator_chains.proofs.Inner.{inner_enters}

fit_one : (schema : Attributes) (x : Item) (xs : List Item) → ItemHas schema x → TuplesFit schema xs → TuplesFit schema (x ∷ xs)
fit_one schema (I.Tuple vs) xs h k = (h, k)
fit_one schema I.Window xs h k = k
fit_one schema I.Final xs h k = k
fit_one schema (I.Bad f) xs h k = k

-- the items of a port have its attributes
pub port_fits : (op : Operator) (p : ℕ) (outs : List Output) → AllFit op outs → TuplesFit (given_attributes op.clauses op p) (on_port p outs)
port_fits op p [] h = tt
port_fits op p (o ∷ outs) h = go (cases_eq o.port p) (port_fits op p outs (λ i x at. h (suc i) x at))
  where
    go : (o.port ≡ p) ⊎ (o.port ≡ p → ⊥) → TuplesFit (given_attributes op.clauses op p) (on_port p outs) → TuplesFit (given_attributes op.clauses op p) (on_port p (o ∷ outs))
    go (inl e) rest =
        subst (λ b. TuplesFit (given_attributes op.clauses op p) (cond b (o.item ∷ on_port p outs) (on_port p outs))) (sym (eq-eqb o.port p e))
        (fit_one (given_attributes op.clauses op p) o.item (on_port p outs) (subst (λ q. ItemHas (given_attributes op.clauses op q) o.item) e (h 0 o refl)) rest)
    go (inr n) rest =
        subst (λ b. TuplesFit (given_attributes op.clauses op p) (cond b (o.item ∷ on_port p outs) (on_port p outs))) (sym (ne_eqb o.port p n)) rest

module _ {R : Type 0} (spec : R → Operator) (stands : R → List Event → Type 0) where
  pub AtStages-append : (xs ys : List (Slot R)) (a b : List Stage) → AtStages spec stands xs a → AtStages spec stands ys b → AtStages spec stands (xs ++ ys) (a ++ b)
  AtStages-append [] ys [] b p q = q
  AtStages-append [] ys (s ∷ a) b p q = absurd p
  AtStages-append (x ∷ xs) ys [] b p q = absurd p
  AtStages-append (x ∷ xs) ys (s ∷ a) b p q = (p.0, AtStages-append xs ys a b p.1 q)

  pub along_first : (slots : List (Slot R)) (all : List Output) → Along spec stands slots [] slots all all
  along_first slots all types ss at joined fit = record {
    done = [];
    left = ss;
    types = types;
    at_front = tt;
    at_back = at;
    joined = joined;
    fit = fit;
    gives = refl;
    stages = refl;
  }

  -- the next operator may take what was given
  pub along_enters : (slots front back : List (Slot R)) (x : Slot R) (now all : List Output) (types : Attributes) (ss : List Stage)
      → Along spec stands slots front (x ∷ back) now all → AtStages spec stands slots ss → Joined types ss → TuplesFit types (on_port 0 all)
      → (s : Stage) × AtStage spec stands x s × Enters s (onward now)
  along_enters slots front back x now all types ss along at joined fit = go (along types ss at joined fit)
    where
      go : IsAlong spec stands front (x ∷ back) now ss all → (s : Stage) × AtStage spec stands x s × Enters s (onward now)
      go a = split a.left a.at_back a.joined
        where
          split : (left : List Stage) → AtStages spec stands (x ∷ back) left → Joined a.types left → (s : Stage) × AtStage spec stands x s × Enters s (onward now)
          split [] b j = absurd b
          split (s ∷ left) b j = (s, b.0, inner_enters s (on_port 0 now) j.1 (subst (λ types. TuplesFit types (on_port 0 now)) (sym j.0) a.fit))

  -- and after it did
  pub along_more : (slots front back : List (Slot R)) (x y : Slot R) (now more all : List Output)
      → Along spec stands slots front (x ∷ back) now all
      → ((s : Stage) → AtStage spec stands x s → Enters s (onward now) → (more ≡ gives_all s (onward now)) × AtStage spec stands y (stage_after s (onward now)))
      → AllFit (spec x.operator) more
      → Along spec stands slots (front ++ y ∷ []) back more all
  along_more slots front back x y now more all along step fits types ss at joined fit = go (along types ss at joined fit)
    where
      go : IsAlong spec stands front (x ∷ back) now ss all → IsAlong spec stands (front ++ y ∷ []) back more ss all
      go a = split a.left a.at_back a.joined a.gives a.stages
        where
          split : (left : List Stage) → AtStages spec stands (x ∷ back) left → Joined a.types left → passed left now ≡ passed ss all → a.done ++ stages_passed left now ≡ stages_passed ss all
              → IsAlong spec stands (front ++ y ∷ []) back more ss all
          split [] b j g k = absurd b
          split (s ∷ left) b j g k =
              let st = step s b.0 (inner_enters s (on_port 0 now) j.1 (subst (λ types. TuplesFit types (on_port 0 now)) (sym j.0) a.fit)) in
              record {
                done = a.done ++ stage_after s (onward now) ∷ [];
                left = left;
                types = given_attributes s.op.clauses s.op 0;
                at_front = AtStages-append front (y ∷ []) a.done (stage_after s (onward now) ∷ []) a.at_front (st.1, tt);
                at_back = b.1;
                joined = j.2;
                fit = subst (λ (o : Operator). TuplesFit (given_attributes o.clauses o 0) (on_port 0 more)) b.0.operator (port_fits (spec x.operator) 0 more fits);
                gives = ap (passed left) st.0 ∙ g;
                stages = ap (λ outs. (a.done ++ stage_after s (onward now) ∷ []) ++ stages_passed left outs) st.0 ∙ append_assoc a.done (stage_after s (onward now) ∷ []) (stages_passed left (gives_all s (onward now))) ∙ k;
              }

  pub along_step : (slots xs : List (Slot R)) (i : ℕ) (d y : Slot R) (now more all : List Output)
      → Along spec stands slots (take i xs) (drop i xs) now all → i < length xs
      → ((s : Stage) → AtStage spec stands (get_or xs i d) s → Enters s (onward now) → (more ≡ gives_all s (onward now)) × AtStage spec stands y (stage_after s (onward now)))
      → AllFit (spec (get_or xs i d).operator) more
      → Along spec stands slots (take (i + 1) (set xs i y)) (drop (i + 1) (set xs i y)) more all
  along_step slots xs i d y now more all along lt step fits =
      rw (take_more_set xs i y lt, drop-set-lt (i + 1) xs i y (omega arith))
      (along_more slots (take i xs) (drop (i + 1) xs) (get_or xs i d) y now more all
      (subst (λ (zs : List (Slot R)). Along spec stands slots (take i xs) zs now all) (drop_more xs i d lt) along) step fits)

  pub along_end : (slots front back : List (Slot R)) (now all : List Output) → Along spec stands slots front back now all → back ≡ []
      → (types : Attributes) (ss : List Stage) → AtStages spec stands slots ss → Joined types ss → TuplesFit types (on_port 0 all)
      → (now ≡ passed ss all) × AtStages spec stands front (stages_passed ss all)
  along_end slots front back now all along e types ss at joined fit = go (along types ss at joined fit)
    where
      go : IsAlong spec stands front back now ss all → (now ≡ passed ss all) × AtStages spec stands front (stages_passed ss all)
      go a = split a.left (subst (λ (zs : List (Slot R)). AtStages spec stands zs a.left) e a.at_back) a.gives a.stages
        where
          split : (left : List Stage) → AtStages spec stands [] left → passed left now ≡ passed ss all → a.done ++ stages_passed left now ≡ stages_passed ss all
              → (now ≡ passed ss all) × AtStages spec stands front (stages_passed ss all)
          split [] b g k = (g, subst (λ (zs : List Stage). AtStages spec stands front zs) (sym (append-nil a.done) ∙ k) a.at_front)
          split (s ∷ left) b g k = absurd b

  -- what the first operator gave fits those behind it
  pub first_fits : (first : Slot R) (caused : List Output) (s : Stage) → AllFit (spec first.operator) caused → AtStage spec stands first s
      → TuplesFit (given_attributes s.op.clauses s.op 0) (on_port 0 caused)
  first_fits first caused s fits at = subst (λ (o : Operator). TuplesFit (given_attributes o.clauses o 0) (on_port 0 caused)) at.operator (port_fits (spec first.operator) 0 caused fits)

  -- what the next operator gives fits
  pub along_fits : (slots front back : List (Slot R)) (x y : Slot R) (now more all : List Output) (types : Attributes) (ss : List Stage)
      → Along spec stands slots front (x ∷ back) now all → AtStages spec stands slots ss → Joined types ss → TuplesFit types (on_port 0 all)
      → ((s : Stage) → AtStage spec stands x s → Enters s (onward now) → (more ≡ gives_all s (onward now)) × AtStage spec stands y (stage_after s (onward now)))
      → ((s : Stage) → AtStage spec stands x s → Enters s (onward now) → AllFit (spec x.operator) (gives_all s (onward now)))
      → AllFit (spec x.operator) more
  along_fits slots front back x y now more all types ss along at joined fit step fits =
      let e = along_enters slots front back x now all types ss along at joined fit in
      subst (AllFit (spec x.operator)) (sym (step e.0 e.1 e.2).0) (fits e.0 e.1 e.2)

  -- the first operator and those behind it
  pub through_all : (first first2 : Slot R) (others others2 : List (Slot R)) (e : Event) (caused outs : List Output)
      → ((s : Stage) → AtStage spec stands first s → Enters s (e ∷ []) → (caused ≡ gives_all s (e ∷ [])) × AtStage spec stands first2 (stage_after s (e ∷ [])))
      → ((s : Stage) → AtStage spec stands first s → Enters s (e ∷ []) → AllFit (spec first.operator) caused)
      → ((types : Attributes) (ss : List Stage) → AtStages spec stands others ss → Joined types ss → TuplesFit types (on_port 0 caused)
      → (outs ≡ passed ss caused) × AtStages spec stands others2 (stages_passed ss caused))
      → (s : Stage) (ss : List Stage) → AtStage spec stands first s → AtStages spec stands others ss → MayFeed (s ∷ ss) e
      → (outs ≡ chain_gives (s ∷ ss) (e ∷ [])) × AtStage spec stands first2 (stage_after s (e ∷ [])) × AtStages spec stands others2 (stages_passed ss (gives_all s (e ∷ [])))
  through_all first first2 others others2 e caused outs enter fits along s ss at ats m =
      let en = enter s at (m.0, tt) in
      let al = along (given_attributes s.op.clauses s.op 0) ss ats m.1 (first_fits first caused s (fits s at (m.0, tt)) at) in
      (al.0 ∙ ap (passed ss) en.0, en.1, subst (λ xs. AtStages spec stands others2 (stages_passed ss xs)) en.0 al.1)

pub ok_then : {A E : Type 0} (P Q : A → Type 0) (r : Result A E) → ((x : A) → P x → Q x) → IfOk r P → IfOk r Q
ok_then P Q (Ok x) f h = f x h
ok_then P Q (Err e) f h = tt

-- what is given fits, so what the stage gives does
pub ok_fits : {A E : Type 0} (op : Operator) (At : Stage → Type 0) (May : Stage → Type 0) (given : A → List Output) (gives : Stage → List Output) (Then : Stage → Type 0) (r : Result A E)
    → IfOk r (λ x. (s : Stage) → At s → May s → (given x ≡ gives s) × Then s) → IfOk r (λ x. AllFit op (given x)) → IfOk r (λ _. (s : Stage) → At s → May s → AllFit op (gives s))
ok_fits op At May given gives Then (Ok x) h fits = λ s at may. subst (AllFit op) (h s at may).0 fits
ok_fits op At May given gives Then (Err e) h fits = tt
