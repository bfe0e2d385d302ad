-- The key of a chain with an operator more.
use Rattle.std.specs.Prelude.{◌≡◌, ◌⊎◌, ◌<◌, ◌&&◌, ◌||◌, not, ℕ, zero, suc, Bool, true, false, if◌then◌else◌, List, [], ◌∷◌, ◌++◌, map, filter, length, Option, None, Some, slice_get}
use Rattle.std.specs.List.{list_any}
use Rattle.std.specs.Option.{option_and_then, option_map_or}
use Rattle.std.proofs.Common.{refl, sym, ap, ◌∙◌, subst, inl, inr, arith, append_assoc, append-nil}
use Rattle.std.proofs.Math.Path.{fun_ext}
use Rattle.std.proofs.lemmas.Bool.{cases_eq, eq-eqb}
use Rattle.std.proofs.lemmas.List.Elements.{filter-append}
use Rattle.std.proofs.lemmas.List.Folds.{list_any-append}
use Rattle.spl_value.proofs.Lists.{any_map}
use Rattle.language_model.specs.declared.checked.CheckedClauses.{CheckedClauses}
use Rattle.stream_model.specs.declared.plan.StateKind.{StateKind}
use Rattle.stream_model.specs.declared.plan.StateKind.TheVariants as K
use Rattle.stream_model.specs.Copies.{source_of, trace}
use Rattle.stream_model.specs.Meaning.{Graph}
use Rattle.stream_model.specs.Operators.{Operator, input_attributes}
use Rattle.stream_model.specs.Regions.{all_have, any_keyed, chain_key, entry_attributes, has_copy, numbers_to, ops_of}
use Rattle.stream_model.specs.parts.Regions.{is_it}
use Rattle.stream_model.specs.StateKinds.{is_keyed, state_of}
use Rattle.stream_model.specs.Stream.{is_empty}
use Rattle.region_choice.specs.declared.keys.KeySource.{KeySource}
use Rattle.region_choice.specs.steps.GraphChains.{has_key}
use Rattle.region_choice.specs.steps.Keys.{is_copied}
use Rattle.attribute_flow.proofs.Chaining.{and_then_twice}
use Rattle.std.proofs.Math.Bool.{and_assoc}

-- ---- tests

pub and_true : (b : Bool) → (b && true) ≡ b
and_true true = refl
and_true false = refl

pub or_false : (b : Bool) → (b || false) ≡ b
or_false true = refl
or_false false = refl

filter_same : (f h : ℕ → Bool) (xs : List ℕ) → ((a : ℕ) → f a ≡ h a) → filter f xs ≡ filter h xs
filter_same f h xs same = ap (λ (test : ℕ → Bool). filter test xs) (fun_ext same)

filter_twice : (f h : ℕ → Bool) (xs : List ℕ) → filter f (filter h xs) ≡ filter (λ a. h a && f a) xs
filter_twice f h [] = refl
filter_twice f h (x ∷ xs) = by_case (filter_twice f h xs) (h x) where
  by_case : filter f (filter h xs) ≡ filter (λ a. h a && f a) xs → (b : Bool)
      → filter f (if b then x ∷ filter h xs else filter h xs) ≡ (if b && f x then x ∷ filter (λ a. h a && f a) xs else filter (λ a. h a && f a) xs)
  by_case rest true = ap (λ ys. if f x then x ∷ ys else ys) rest
  by_case rest false = rest

-- ---- copies along a chain

abbrev pub clauses : List Operator → List CheckedClauses
clauses ops = map (λ (op : Operator). op.clauses) ops

have_more : (source : ℕ → Option ℕ) (ops : List Operator) (o : Operator) (a : ℕ)
    → all_have source (ops ++ o ∷ []) a ≡ (all_have source ops a && has_copy (λ p. option_and_then source (trace (clauses ops) p)) (state_of o) a)
have_more source [] o a = and_true (has_copy source (state_of o) a)
have_more source (op ∷ ops) o a =
    let inner : ℕ → Option ℕ = λ p. option_and_then source (source_of op.clauses p) in
    ap (λ b. has_copy source (state_of op) a && b) (have_more inner ops o a)
    ∙ ap (λ (f : ℕ → Option ℕ). has_copy source (state_of op) a && (all_have inner ops a && has_copy f (state_of o) a))
    (fun_ext (λ p. sym (and_then_twice source (source_of op.clauses) (trace (clauses ops) p))))
    ∙ sym (and_assoc (has_copy source (state_of op) a) (all_have inner ops a)
    (has_copy (λ p. option_and_then source (trace (clauses (op ∷ ops)) p)) (state_of o) a))

and_then_some : (found : Option ℕ) → option_and_then (λ a. Some a) found ≡ found
and_then_some None = refl
and_then_some (Some a) = refl

-- from the entry of the chain
pub entry_more : (ops : List Operator) (o : Operator) (a : ℕ)
    → all_have (λ a. Some a) (ops ++ o ∷ []) a ≡ (all_have (λ a. Some a) ops a && has_copy (trace (clauses ops)) (state_of o) a)
entry_more ops o a =
    have_more (λ a. Some a) ops o a
    ∙ ap (λ (f : ℕ → Option ℕ). all_have (λ a. Some a) ops a && has_copy f (state_of o) a) (fun_ext (λ p. and_then_some (trace (clauses ops) p)))

-- who isn't Keyed asks for no copy
not_keyed : (source : ℕ → Option ℕ) (state : StateKind) (a : ℕ) → is_keyed state ≡ false → has_copy source state a ≡ true
not_keyed source K.Stateless a h = refl
not_keyed source (K.Keyed places) a h = absurd cc
not_keyed source K.Whole a h = refl

none_keyed : (source : ℕ → Option ℕ) (ops : List Operator) (a : ℕ) → any_keyed ops ≡ false → all_have source ops a ≡ true
none_keyed source [] a h = refl
none_keyed source (op ∷ ops) a h =
    by_case (λ k. none_keyed (λ p. option_and_then source (source_of op.clauses p)) ops a k) (is_keyed (state_of op)) refl h where
      by_case : (any_keyed ops ≡ false → all_have (λ p. option_and_then source (source_of op.clauses p)) ops a ≡ true) → (b : Bool) → is_keyed (state_of op) ≡ b
          → (b || any_keyed ops) ≡ false → all_have source (op ∷ ops) a ≡ true
      by_case rest true e h = absurd cc
      by_case rest false e h =
          ap (λ b. b && all_have (λ p. option_and_then source (source_of op.clauses p)) ops a) (not_keyed source (state_of op) a e) ∙ rest h

-- ---- one operator more

pub keyed_more : (ops : List Operator) (o : Operator) → any_keyed (ops ++ o ∷ []) ≡ (any_keyed ops || is_keyed (state_of o))
keyed_more ops o =
    list_any-append (λ (op : Operator). is_keyed (state_of op)) ops (o ∷ []) ∙ ap (λ b. any_keyed ops || b) (or_false (is_keyed (state_of o)))

pub or_true : (b : Bool) → (b || true) ≡ true
or_true true = refl
or_true false = refl

-- that isn't Keyed
pub key_stays : (ops : List Operator) (o : Operator) → is_keyed (state_of o) ≡ false → chain_key (ops ++ o ∷ []) ≡ chain_key ops
key_stays [] o h = ap (λ b. if b || false then filter (all_have (λ a. Some a) (o ∷ [])) (entry_attributes (o ∷ [])) else []) h
key_stays (first ∷ ops) o h =
    let keyed : any_keyed (first ∷ ops ++ o ∷ []) ≡ any_keyed (first ∷ ops) =
    keyed_more (first ∷ ops) o ∙ ap (λ b. any_keyed (first ∷ ops) || b) h ∙ or_false (any_keyed (first ∷ ops)) in
    let have : filter (all_have (λ a. Some a) (first ∷ ops ++ o ∷ [])) (entry_attributes (first ∷ ops)) ≡ filter (all_have (λ a. Some a) (first ∷ ops)) (entry_attributes (first ∷ ops)) =
    filter_same (all_have (λ a. Some a) (first ∷ ops ++ o ∷ [])) (all_have (λ a. Some a) (first ∷ ops)) (entry_attributes (first ∷ ops))
    (λ a. entry_more (first ∷ ops) o a
    ∙ ap (λ b. all_have (λ a. Some a) (first ∷ ops) a && b) (not_keyed (trace (clauses (first ∷ ops))) (state_of o) a h)
    ∙ and_true (all_have (λ a. Some a) (first ∷ ops) a)) in
    ap (λ b. if b then filter (all_have (λ a. Some a) (first ∷ ops ++ o ∷ [])) (entry_attributes (first ∷ ops)) else []) keyed
    ∙ ap (λ key. if any_keyed (first ∷ ops) then key else []) have

-- that is Keyed: of the key so far, or of all attributes, those of which one of its keys is a copy
pub key_narrows : (ops : List Operator) (o : Operator) (places : List ℕ) → state_of o ≡ K.Keyed places
    → chain_key (ops ++ o ∷ []) ≡ filter (has_copy (trace (clauses ops)) (K.Keyed places)) (if any_keyed ops then chain_key ops else entry_attributes (ops ++ o ∷ []))
key_narrows ops o places is = keyed_now ∙ by_case (any_keyed ops) refl where
  test : ℕ → Bool
  test = has_copy (trace (clauses ops)) (K.Keyed places)

  more : (a : ℕ) → all_have (λ a. Some a) (ops ++ o ∷ []) a ≡ (all_have (λ a. Some a) ops a && has_copy (trace (clauses ops)) (K.Keyed places) a)
  more a = entry_more ops o a ∙ ap (λ (state : StateKind). all_have (λ a. Some a) ops a && has_copy (trace (clauses ops)) state a) is

  keyed_now : chain_key (ops ++ o ∷ []) ≡ filter (all_have (λ a. Some a) (ops ++ o ∷ [])) (entry_attributes (ops ++ o ∷ []))
  keyed_now =
      ap (λ b. if b then filter (all_have (λ a. Some a) (ops ++ o ∷ [])) (entry_attributes (ops ++ o ∷ [])) else [])
      (keyed_more ops o ∙ ap (λ (state : StateKind). any_keyed ops || is_keyed state) is ∙ or_true (any_keyed ops))

  same_entry : (xs : List Operator) → any_keyed xs ≡ true → entry_attributes (xs ++ o ∷ []) ≡ entry_attributes xs
  same_entry [] h = absurd cc
  same_entry (x ∷ xs) h = refl

  by_case : (b : Bool) → any_keyed ops ≡ b → filter (all_have (λ a. Some a) (ops ++ o ∷ [])) (entry_attributes (ops ++ o ∷ []))
      ≡ filter (has_copy (trace (clauses ops)) (K.Keyed places)) (if any_keyed ops then chain_key ops else entry_attributes (ops ++ o ∷ []))
  by_case true e =
      filter_same (all_have (λ a. Some a) (ops ++ o ∷ [])) (λ a. all_have (λ a. Some a) ops a && has_copy (trace (clauses ops)) (K.Keyed places) a) (entry_attributes (ops ++ o ∷ [])) more
      ∙ ap (filter (λ a. all_have (λ a. Some a) ops a && has_copy (trace (clauses ops)) (K.Keyed places) a)) (same_entry ops e)
      ∙ sym (filter_twice (has_copy (trace (clauses ops)) (K.Keyed places)) (all_have (λ a. Some a) ops) (entry_attributes ops))
      ∙ ap (λ b. filter (has_copy (trace (clauses ops)) (K.Keyed places)) (if b then filter (all_have (λ a. Some a) ops) (entry_attributes ops) else [])) (sym e)
      ∙ ap (λ b. filter (has_copy (trace (clauses ops)) (K.Keyed places)) (if b then chain_key ops else entry_attributes (ops ++ o ∷ []))) (sym e)
  by_case false e =
      filter_same (all_have (λ a. Some a) (ops ++ o ∷ [])) (has_copy (trace (clauses ops)) (K.Keyed places)) (entry_attributes (ops ++ o ∷ []))
      (λ a. more a ∙ ap (λ b. b && has_copy (trace (clauses ops)) (K.Keyed places) a) (none_keyed (λ a. Some a) ops a e))
      ∙ ap (λ b. filter (has_copy (trace (clauses ops)) (K.Keyed places)) (if b then chain_key ops else entry_attributes (ops ++ o ∷ []))) (sym e)

-- ---- whether there is a key

pub safe_stays : (ops : List Operator) (o : Operator) → is_keyed (state_of o) ≡ false → has_key (ops ++ o ∷ []) ≡ has_key ops
safe_stays ops o h =
    ap (λ b. not b || not (is_empty (chain_key (ops ++ o ∷ [])))) (keyed_more ops o ∙ ap (λ b. any_keyed ops || b) h ∙ or_false (any_keyed ops))
    ∙ ap (λ key. not (any_keyed ops) || not (is_empty key)) (key_stays ops o h)

pub safe_narrows : (ops : List Operator) (o : Operator) (places : List ℕ) → state_of o ≡ K.Keyed places → has_key (ops ++ o ∷ []) ≡ not (is_empty (chain_key (ops ++ o ∷ [])))
safe_narrows ops o places is =
    ap (λ b. not b || not (is_empty (chain_key (ops ++ o ∷ []))))
    (keyed_more ops o ∙ ap (λ (state : StateKind). any_keyed ops || is_keyed state) is ∙ or_true (any_keyed ops))

not_empty_before : (f : ℕ → Bool) (xs : List ℕ) → not (is_empty (filter f xs)) ≡ true → not (is_empty xs) ≡ true
not_empty_before f [] h = absurd cc
not_empty_before f (x ∷ xs) h = refl

-- with an operator less there is a key too
one_fewer : (ops : List Operator) (o : Operator) → has_key (ops ++ o ∷ []) ≡ true → has_key ops ≡ true
one_fewer ops o h = by_state (state_of o) refl where
  by_keyed : (places : List ℕ) → state_of o ≡ K.Keyed places → (b : Bool) → any_keyed ops ≡ b → has_key ops ≡ true
  by_keyed places is false e = ap (λ b. not b || not (is_empty (chain_key ops))) e
  by_keyed places is true e =
      let narrowed : not (is_empty (filter (has_copy (trace (clauses ops)) (K.Keyed places)) (chain_key ops))) ≡ true =
      sym (safe_narrows ops o places is ∙ ap (λ key. not (is_empty key)) (key_narrows ops o places is
      ∙ ap (λ b. filter (has_copy (trace (clauses ops)) (K.Keyed places)) (if b then chain_key ops else entry_attributes (ops ++ o ∷ []))) e)) ∙ h in
      ap (λ b. not b || not (is_empty (chain_key ops))) e ∙ not_empty_before (has_copy (trace (clauses ops)) (K.Keyed places)) (chain_key ops) narrowed

  by_state : (state : StateKind) → state_of o ≡ state → has_key ops ≡ true
  by_state K.Stateless is = sym (safe_stays ops o (ap is_keyed is)) ∙ h
  by_state (K.Keyed places) is = by_keyed places is (any_keyed ops) refl
  by_state K.Whole is = sym (safe_stays ops o (ap is_keyed is)) ∙ h

pub fewer_safe : (ops rest : List Operator) → has_key (ops ++ rest) ≡ true → has_key ops ≡ true
fewer_safe ops [] h = subst (λ os. has_key os ≡ true) (append-nil ops) h
fewer_safe ops (o ∷ rest) h = one_fewer ops o (fewer_safe (ops ++ o ∷ []) rest (subst (λ os. has_key os ≡ true) (sym (append_assoc ops (o ∷ []) rest)) h))

-- ---- an operator alone

not_empty_left : (xs ys : List ℕ) → is_empty xs ≡ false → is_empty (xs ++ ys) ≡ false
not_empty_left [] ys h = absurd cc
not_empty_left (x ∷ xs) ys h = refl

not_empty_right : (xs ys : List ℕ) → is_empty ys ≡ false → is_empty (xs ++ ys) ≡ false
not_empty_right [] ys h = h
not_empty_right (x ∷ xs) ys h = refl

one_passes : (f : ℕ → Bool) (a n : ℕ) → a < n → f a ≡ true → is_empty (filter f (numbers_to n)) ≡ false
one_passes f a zero lt h = absurd (omega arith)
one_passes f a (suc n) lt h = ap is_empty (filter-append f (numbers_to n) (n ∷ [])) ∙ by_case (λ k. one_passes f a n k h) (cases_eq n a) where
  by_case : (a < n → is_empty (filter f (numbers_to n)) ≡ false) → (n ≡ a) ⊎ (n ≡ a → ⊥) → is_empty (filter f (numbers_to n) ++ filter f (n ∷ [])) ≡ false
  by_case further (inl e) =
      let last : f n ≡ true = ap f e ∙ h in
      not_empty_right (filter f (numbers_to n)) (filter f (n ∷ [])) (ap (λ b. is_empty (if b then n ∷ [] else [])) last)
  by_case further (inr other) = not_empty_left (filter f (numbers_to n)) (filter f (n ∷ [])) (further (omega arith))

pub alone_safe : (o : Operator) → ((places : List ℕ) → state_of o ≡ K.Keyed places → (p : ℕ) × (slice_get places 0 ≡ Some p) × (p < length (input_attributes o 0)))
    → has_key (o ∷ []) ≡ true
alone_safe o keys = by_state (state_of o) refl where
  by_state : (state : StateKind) → state_of o ≡ state → has_key (o ∷ []) ≡ true
  by_state K.Stateless is = ap (λ state. not (is_keyed state || false) || not (is_empty (chain_key (o ∷ [])))) is
  by_state K.Whole is = ap (λ state. not (is_keyed state || false) || not (is_empty (chain_key (o ∷ [])))) is
  by_state (K.Keyed places) is =
      let first = keys places is in
      let here : list_any (λ p. is_it (Some p) first.0) places ≡ true = copied places first.1 in
      let passes : all_have (λ a. Some a) (o ∷ []) first.0 ≡ true =
      ap (λ state. has_copy (λ a. Some a) state first.0 && true) is ∙ and_true (has_copy (λ a. Some a) (K.Keyed places) first.0) ∙ here in
      let some : is_empty (filter (all_have (λ a. Some a) (o ∷ [])) (numbers_to (length (input_attributes o 0)))) ≡ false =
      one_passes (all_have (λ a. Some a) (o ∷ [])) first.0 (length (input_attributes o 0)) first.2 passes in
      let keyed : any_keyed (o ∷ []) ≡ true = ap (λ state. is_keyed state || false) is in
      ap (λ b. not b || not (is_empty (if b then filter (all_have (λ a. Some a) (o ∷ [])) (numbers_to (length (input_attributes o 0))) else []))) keyed ∙ ap not some
    where
      copied : (places : List ℕ) {p : ℕ} → slice_get places 0 ≡ Some p → list_any (λ q. is_it (Some q) p) places ≡ true
      copied [] at = absurd cc
      copied (q ∷ places) {p} at =
          let same : q ≡ p = cc in
          ap (λ b. b || list_any (λ q. is_it (Some q) p) places) (eq-eqb q p same)

-- ---- the code's words

pub copied_is : (source : ℕ → Option ℕ) (places : List ℕ) (a : ℕ)
    → is_copied (map (λ p. record { place = p; source = source p }) places) a ≡ has_copy source (K.Keyed places) a
copied_is source places a = any_map (λ (x : KeySource). is_it x.source a) (λ p. record { place = p; source = source p }) places

-- ---- operators by their numbers

pub ops_append : (g : Graph) (ns ms : List ℕ) → ops_of g (ns ++ ms) ≡ ops_of g ns ++ ops_of g ms
ops_append g [] ms = refl
ops_append g (n ∷ ns) ms = by_case (ops_append g ns ms) (slice_get g.ops n) where
  by_case : ops_of g (ns ++ ms) ≡ ops_of g ns ++ ops_of g ms → (found : Option Operator)
      → option_map_or (λ op. op ∷ ops_of g (ns ++ ms)) found (ops_of g (ns ++ ms)) ≡ option_map_or (λ op. op ∷ ops_of g ns) found (ops_of g ns) ++ ops_of g ms
  by_case rest None = rest
  by_case rest (Some op) = ap (λ ops. op ∷ ops) rest
