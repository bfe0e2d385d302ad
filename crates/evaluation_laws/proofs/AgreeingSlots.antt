-- Bodies do the same where the marker is the same and each slot that they name has the same value.
use Rattle.std.specs.Prelude.{◌≡◌, ◌+◌, ℕ, zero, suc, List, [], ◌∷◌, ◌++◌, length, take, None, slice_get, slice_set}
use Rattle.std.specs.Option.{option_map, option_and_then}
use Rattle.std.proofs.Common.{refl, sym, ap, ◌∙◌, subst, inl, inr, arith, length-append}
use Rattle.std.proofs.lemmas.List.{length-set}
use Rattle.spl_value.specs.declared.value.Value.{Value}
use Rattle.spl_value.specs.declared.value.Value.TheVariants as V
use Rattle.spl_tree.specs.declared.code.Slot.{Slot}
use Rattle.spl_tree.specs.declared.code.Slot.TheVariants as L
use Rattle.language_model.specs.declared.env.Env.{Env}
use Rattle.language_model.specs.Evaluation.{slot_value}
use Rattle.language_model.specs.Functions.{bodies_of}
use Rattle.language_model.specs.Outcomes.{Outcome, Done, Faulted, Stuck}
use Rattle.language_model.specs.Statements.{State, Bodies, body_leaves}
use Rattle.evaluation_laws.proofs.Extending.{Extends, extends_with_none, at_turns}
use Rattle.evaluation_laws.proofs.LikeStatements.{Likeness, left_alike}
use Rattle.evaluation_laws.specs.NamedSlotsLaw.{SameOutcome, LeftAlike, NamedSlotsLaw}

-- ---- lists that are the same at a place, and of one length

module _ {A : Type 0} where
  same_set : (xs ys : List A) (i j : ℕ) (x : A) → length xs ≡ length ys → slice_get xs i ≡ slice_get ys i → slice_get (slice_set xs j x) i ≡ slice_get (slice_set ys j x) i
  same_set [] [] i j x n e = refl
  same_set [] (y ∷ ys) i j x n e = absurd (let none : ⊥ = omega arith in none)
  same_set (z ∷ xs) [] i j x n e = absurd (let none : ⊥ = omega arith in none)
  same_set (z ∷ xs) (y ∷ ys) zero zero x n e = refl
  same_set (z ∷ xs) (y ∷ ys) zero (suc j) x n e = e
  same_set (z ∷ xs) (y ∷ ys) (suc i) zero x n e = e
  same_set (z ∷ xs) (y ∷ ys) (suc i) (suc j) x n e = same_set xs ys i j x (omega arith) e

  same_behind : (xs ys zs : List A) (i : ℕ) → length xs ≡ length ys → slice_get xs i ≡ slice_get ys i → slice_get (xs ++ zs) i ≡ slice_get (ys ++ zs) i
  same_behind [] [] zs i n e = refl
  same_behind [] (y ∷ ys) zs i n e = absurd (let none : ⊥ = omega arith in none)
  same_behind (x ∷ xs) [] zs i n e = absurd (let none : ⊥ = omega arith in none)
  same_behind (x ∷ xs) (y ∷ ys) zs zero n e = e
  same_behind (x ∷ xs) (y ∷ ys) zs (suc i) n e = same_behind xs ys zs i (omega arith) e

  none_taken : (n i : ℕ) → slice_get {X = A} (take n []) i ≡ None
  none_taken zero i = refl
  none_taken (suc n) i = refl

  same_front : (n : ℕ) (xs ys : List A) (i : ℕ) → slice_get xs i ≡ slice_get ys i → slice_get (take n xs) i ≡ slice_get (take n ys) i
  same_front zero xs ys i e = refl
  same_front (suc n) [] [] i e = refl
  same_front (suc n) [] (y ∷ ys) zero e = absurd cc
  same_front (suc n) [] (y ∷ ys) (suc i) e = sym (none_taken n i) ∙ same_front n [] ys i e
  same_front (suc n) (x ∷ xs) [] zero e = absurd cc
  same_front (suc n) (x ∷ xs) [] (suc i) e = same_front n xs [] i e ∙ none_taken n i
  same_front (suc n) (x ∷ xs) (y ∷ ys) zero e = e
  same_front (suc n) (x ∷ xs) (y ∷ ys) (suc i) e = same_front n xs ys i e

  same_lengths : (n : ℕ) (xs ys : List A) → length xs ≡ length ys → length (take n xs) ≡ length (take n ys)
  same_lengths zero xs ys e = refl
  same_lengths (suc n) [] [] e = refl
  same_lengths (suc n) [] (y ∷ ys) e = absurd (let none : ⊥ = omega arith in none)
  same_lengths (suc n) (x ∷ xs) [] e = absurd (let none : ⊥ = omega arith in none)
  same_lengths (suc n) (x ∷ xs) (y ∷ ys) e = let rest = same_lengths n xs ys (omega arith) in ap suc rest

-- ---- states

-- as many values, and the same at each place at which two lists are the same
pub record SameAt (xs ys left right : List Value) : Type 0 where
  pub count : length left ≡ length right
  pub each : (i : ℕ) → slice_get xs i ≡ slice_get ys i → slice_get left i ≡ slice_get right i

pub record AlikeStates (env other : Env) (s u : State) : Type 0 where
  pub inputs : s.env.inputs ≡ env.inputs
  pub others : u.env.inputs ≡ other.inputs
  pub marker : s.env.punct ≡ u.env.punct
  pub vars : SameAt env.vars other.vars s.env.vars u.env.vars
  pub submits : s.submits ≡ u.submits

module _ (bodies : Bodies) (env other : Env) where
  abbrev Agreed : Slot → Type 0
  Agreed slot = slot_value env slot ≡ slot_value other slot

  abbrev Alike : State → State → Type 0
  Alike = AlikeStates env other

  same_slot : (slot : Slot) → Agreed slot → (s u : State) → Alike s u → slot_value s.env slot ≡ slot_value u.env slot
  same_slot (L.Variable i) agreed s u a = a.vars.each i agreed
  same_slot (L.Attribute port i) agreed s u a =
      ap (λ (inputs : List (List Value)). option_and_then (λ vs. slice_get vs i) (slice_get inputs port)) a.inputs ∙ agreed
      ∙ ap (λ (inputs : List (List Value)). option_and_then (λ vs. slice_get vs i) (slice_get inputs port)) (sym a.others)
  same_slot (L.Port port) agreed s u a =
      ap (λ (inputs : List (List Value)). option_map V.Tuple (slice_get inputs port)) a.inputs ∙ agreed
      ∙ ap (λ (inputs : List (List Value)). option_map V.Tuple (slice_get inputs port)) (sym a.others)

  set_same : (i : ℕ) (v : Value) (s u : State) → Alike s u → SameAt env.vars other.vars (slice_set s.env.vars i v) (slice_set u.env.vars i v)
  set_same i v s u a = record {
    count = length-set s.env.vars i v ∙ a.vars.count ∙ sym (length-set u.env.vars i v);
    each = λ j e. same_set s.env.vars u.env.vars j i v a.vars.count (a.vars.each j e);
  }

  behind_same : (v : Value) (s u : State) → Alike s u → SameAt env.vars other.vars (s.env.vars ++ v ∷ []) (u.env.vars ++ v ∷ [])
  behind_same v s u a = record {
    count = length-append s.env.vars (v ∷ []) ∙ ap (λ n. n + 1) a.vars.count ∙ sym (length-append u.env.vars (v ∷ []));
    each = λ j e. same_behind s.env.vars u.env.vars (v ∷ []) j a.vars.count (a.vars.each j e);
  }

  front_same : (s u : State) → Alike s u → (t w : State) → Alike t w
      → SameAt env.vars other.vars (take (length s.env.vars) t.env.vars) (take (length u.env.vars) w.env.vars)
  front_same s u a t w b = record {
    count = same_lengths (length s.env.vars) t.env.vars w.env.vars b.vars.count ∙ ap (λ n. length (take n w.env.vars)) a.vars.count;
    each = λ j e. same_front (length s.env.vars) t.env.vars w.env.vars j (b.vars.each j e) ∙ ap (λ n. slice_get (take n w.env.vars) j) a.vars.count;
  }

  likeness : Likeness 0 bodies bodies Agreed Alike
  likeness = record {
    calls = λ i values turns. extends_with_none (bodies i values) turns;
    slot = same_slot;
    marker = λ s u a. a.marker;
    change = λ i agreed s u a v. record { inputs = a.inputs; others = a.others; marker = a.marker; vars = set_same i v s u a; submits = a.submits };
    declare = λ s u a v. record { inputs = a.inputs; others = a.others; marker = a.marker; vars = behind_same v s u a; submits = a.submits };
    end = λ s u a t w b. record { inputs = b.inputs; others = b.others; marker = b.marker; vars = front_same s u a t w b; submits = b.submits };
    submit = λ s u a port item. record {
      inputs = a.inputs;
      others = a.others;
      marker = a.marker;
      vars = a.vars;
      submits = ap (λ outs. outs ++ record { port = port; item = item } ∷ []) a.submits;
    };
  }

-- ---- outcomes

same_outcome : {A B : Type 0} (P : A → B → Type 0) (o : Outcome A) (p : Outcome B) → Extends 0 P o p → SameOutcome P o p
same_outcome {A} {B} P (Done x turns) p h =
    let same : turns ≡ turns + 0 = omega arith in
    subst (λ (p : Outcome B). SameOutcome P (Done x turns) p) (sym h.1) (same, h.2)
same_outcome {A} {B} P (Faulted kind) p (inl e) = subst (λ (p : Outcome B). SameOutcome P (Faulted kind) p) (sym e) refl
same_outcome P (Faulted kind) p (inr h) = absurd (let lt = h.1 in let none : ⊥ = omega arith in none)
same_outcome {A} {B} P Stuck p h = subst (λ (p : Outcome B). SameOutcome P Stuck p) (sym h) tt

pub named_slots_law : NamedSlotsLaw
named_slots_law functions row env other turns a =
    let bodies = bodies_of functions turns in
    same_outcome (LeftAlike env other) (body_leaves bodies row env turns) (body_leaves bodies row other turns)
    (at_turns (LeftAlike env other) (body_leaves bodies row env turns) (body_leaves bodies row other) turns
    (left_alike 0 bodies bodies (Agreed bodies env other) (Alike bodies env other) (likeness bodies env other) (LeftAlike env other)
    (λ s u is v. record { submits = is.submits; returned = refl; count = is.vars.count; variables = is.vars.each })
    row a.values env other
    (record { inputs = refl; others = refl; marker = a.marker; vars = record { count = a.count; each = λ i e. e }; submits = refl })
    turns))
