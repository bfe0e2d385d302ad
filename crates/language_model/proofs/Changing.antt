-- A change of what steps take of a value gives a value of the same type, or a fault.
use Rattle.std.specs.Prelude.{◌≡◌, ℕ, zero, suc, Bool, IsTrue, List, [], ◌∷◌, Option, None, Some, slice_get, slice_set}
use Rattle.std.specs.List.{list_all}
use Rattle.std.specs.Cmp.{first_so, second_so}
use Rattle.std.specs.Cmp.Derive.{both_true}
use Rattle.std.proofs.Common.{refl, ap, subst, ◌∙◌, inl, inr}
use Rattle.spl_value.specs.declared.types.IntKind.{IntKind}
use Rattle.spl_value.specs.declared.types.Named.{Named}
use Rattle.spl_value.specs.declared.types.SplType.{SplType}
use Rattle.spl_value.specs.declared.types.SplType.TheVariants as S
use Rattle.spl_value.specs.declared.value.Value.{Value}
use Rattle.spl_value.specs.declared.value.Value.TheVariants as V
use Rattle.spl_value.specs.declared.value.Value.TheViews.{out-Value}
use Rattle.spl_value.specs.Calls.{CallOutcome, Gives, Faults, Unfit, append_of, remove_of, clear_of}
use Rattle.spl_value.proofs.CallsLaws.{append_law, remove_law, clear_law}
use Rattle.spl_value.proofs.FitsLaws.{fits_list, fits_tuple, map_from_fits, get_fits, put_fits}
use Rattle.spl_value.specs.Pairs.{pairs_get}
use Rattle.spl_value.specs.Values.{fits, tuple_fits}
use Rattle.spl_tree.specs.declared.body.Change.{Change}
use Rattle.spl_tree.specs.declared.body.Change.TheVariants as H
use Rattle.spl_tree.specs.declared.code.Selector.{Selector}
use Rattle.spl_tree.specs.declared.code.Selector.TheVariants as K
use Rattle.language_model.specs.Changes.{passed_on, step_of, found_index, level_changed, changed, change_of}
use Rattle.language_model.specs.Operators.{level_member, level_element}
use Rattle.language_model.proofs.BuiltInCalls.{append_called, remove_called, clear_called}
use Rattle.language_model.proofs.Operating.{settles_by, settles_as, level_list, level_tuple, member_settles, element_settles, at_key_settles}
use Rattle.language_model.proofs.Yielding.{OfType, Settles}

-- ---- lists with another value at a place

set_all : (p : Value → Bool) (vs : List Value) (i : ℕ) (v : Value) → IsTrue (list_all p vs) → IsTrue (p v) → IsTrue (list_all p (slice_set vs i v))
set_all p [] i v h e = h
set_all p (w ∷ vs) zero v h e = both_true e (second_so (p w) (list_all p vs) h)
set_all p (w ∷ vs) (suc i) v h e = both_true (first_so (p w) (list_all p vs) h) (set_all p vs i v (second_so (p w) (list_all p vs) h) e)

set_part : (schema : List (Named SplType)) (vs : List Value) (i : ℕ) (a : Named SplType) (v : Value) → IsTrue (tuple_fits schema vs)
    → slice_get schema i ≡ Some a → OfType a.kind v → IsTrue (tuple_fits schema (slice_set vs i v))
set_part [] vs i a v h e f = absurd cc
set_part (b ∷ schema) [] i a v h e f = absurd cc
set_part (b ∷ schema) (w ∷ vs) zero a v h e f =
    let same : a ≡ b = cc in
    both_true (subst (λ (a : Named SplType). OfType a.kind v) same f) (second_so (fits b.kind w) (tuple_fits schema vs) h)
set_part (b ∷ schema) (w ∷ vs) (suc i) a v h e f =
    both_true (first_so (fits b.kind w) (tuple_fits schema vs) h) (set_part schema vs i a v (second_so (fits b.kind w) (tuple_fits schema vs) h) e f)

-- ---- changes

-- what is there, if anything is, is of the type
abbrev pub Held : SplType → Option Value → Type 0
Held t None = Unit {0}
Held t (Some v) = OfType t v

held_by : (t : SplType) (o : Option Value) → ((v : Value) → o ≡ Some v → OfType t v) → Held t o
held_by t None h = tt
held_by t (Some v) h = h v refl

-- a change with a value of its argument's type, for what is of the type
pub data ChangeGives : Change Value → SplType → Type 0 where
  puts : (v : Value) (t : SplType) → OfType t v → ChangeGives (H.Put v) t
  appends : (v : Value) (t : SplType) → OfType t v → ChangeGives (H.Append v) (S.List t)
  removes : (v : Value) (k t : SplType) → OfType k v → ChangeGives (H.Remove v) (S.Map k t)
  clears_list : (t : SplType) → ChangeGives H.Clear (S.List t)
  clears_map : (k t : SplType) → ChangeGives H.Clear (S.Map k t)

change_settles : (change : Change Value) (t : SplType) → ChangeGives change t → (old : Option Value) → Held t old → Settles t (change_of change old)
change_settles _ _ (puts v t f) old h = f
change_settles _ _ (appends v t f) None h = tt
change_settles _ _ (appends v t f) (Some old) h = settles_as (S.List t) (change_of (H.Append v) (Some old)) (append_of old v) (append_called old v) (append_law t old v h f)
change_settles _ _ (removes v k t f) None h = tt
change_settles _ _ (removes v k t f) (Some old) h = settles_as (S.Map k t) (change_of (H.Remove v) (Some old)) (remove_of old v) (remove_called old v) (remove_law k t old v h f)
change_settles _ _ (clears_list t) None h = tt
change_settles _ _ (clears_list t) (Some old) h = settles_as (S.List t) (change_of H.Clear (Some old)) (clear_of old) (clear_called old) (clear_law (S.List t) old (inl (t, refl)) h)
change_settles _ _ (clears_map k t) None h = tt
change_settles _ _ (clears_map k t) (Some old) h = settles_as (S.Map k t) (change_of H.Clear (Some old)) (clear_of old) (clear_called old) (clear_law (S.Map k t) old (inr (k, t, refl)) h)

-- ---- steps

-- a step with the value of its index or key leads from a value of one type to one of another
pub data StepGives : Selector Value → SplType → SplType → Type 0 where
  member : (i : ℕ) (schema : List (Named SplType)) (a : Named SplType) → slice_get schema i ≡ Some a → StepGives (K.Member i) (S.Tuple schema) a.kind
  element : (n : Value) (k : IntKind) (t : SplType) → OfType (S.Int k) n → StepGives (K.Element n) (S.List t) t
  at_key : (key : Value) (k t : SplType) → OfType k key → StepGives (K.AtKey key) (S.Map k t) t

-- so do several
pub data StepsGive : List (Selector Value) → SplType → SplType → Type 0 where
  here : (t : SplType) → StepsGive [] t t
  further : (step : Selector Value) (steps : List (Selector Value)) (t u r : SplType) → StepGives step t u → StepsGive steps u r → StepsGive (step ∷ steps) t r

pub step_settles : (step : Selector Value) (t u : SplType) → StepGives step t u → (v : Value) → OfType t v → Settles u (step_of step v)
step_settles _ _ _ (member i schema a at) v h = member_settles i schema a v at h
step_settles _ _ _ (element n k t f) v h = element_settles t k v n h f
step_settles _ _ _ (at_key key k t f) v h = at_key_settles k t v key h

settles_passed : (t u : SplType) (called : CallOutcome) (f : Value → CallOutcome) → Settles t called → ((v : Value) → OfType t v → Settles u (f v))
    → Settles u (passed_on called f)
settles_passed t u (Gives v) f h k = k v h
settles_passed t u (Faults kind) f h k = tt
settles_passed t u Unfit f h k = absurd h

-- a change that gives values of the type, or faults
abbrev Keeps : SplType → (Option Value → CallOutcome) → Type 0
Keeps t change = (old : Option Value) → Held t old → Settles t (change old)

member_changed : (i : ℕ) (schema : List (Named SplType)) (a : Named SplType) → slice_get schema i ≡ Some a → (change : Option Value → CallOutcome) → Keeps a.kind change
    → (v : Value) → OfType (S.Tuple schema) v → Settles (S.Tuple schema) (level_changed (K.Member i) change (out-Value v))
member_changed i schema a at change keeps v h =
    let is = level_tuple schema v h in
    let old = subst (λ x. Settles a.kind (level_member i x)) is.1 (member_settles i schema a v at h) in
    settles_by (S.Tuple schema) (level_changed (K.Member i) change (out-Value v)) _ (ap (level_changed (K.Member i) change) is.1)
    (settles_passed a.kind (S.Tuple schema) _ _ old (λ w f.
    settles_passed a.kind (S.Tuple schema) (change (Some w)) _ (keeps (Some w) f) (λ new g.
    fits_tuple schema (slice_set is.0 i new) ∙ set_part schema is.0 i a new is.2 at g)))

element_changed : (n : Value) (k : IntKind) (t : SplType) → OfType (S.Int k) n → (change : Option Value → CallOutcome) → Keeps t change
    → (v : Value) → OfType (S.List t) v → Settles (S.List t) (level_changed (K.Element n) change (out-Value v))
element_changed n k t at change keeps v h =
    let is = level_list t v h in
    let i = found_index (out-Value n) in
    let old = subst (λ x. Settles t (level_element x (out-Value n))) is.1 (element_settles t k v n h at) in
    settles_by (S.List t) (level_changed (K.Element n) change (out-Value v)) _ (ap (level_changed (K.Element n) change) is.1)
    (settles_passed t (S.List t) _ _ old (λ w f.
    settles_passed t (S.List t) (change (Some w)) _ (keeps (Some w) f) (λ new g.
    fits_list t (slice_set is.0 i new) ∙ set_all (fits t) is.0 i new is.2 g)))

at_key_changed : (key : Value) (k t : SplType) → OfType k key → (change : Option Value → CallOutcome) → Keeps t change
    → (v : Value) → OfType (S.Map k t) v → Settles (S.Map k t) (level_changed (K.AtKey key) change (out-Value v))
at_key_changed key k t at change keeps v h =
    let is = map_from_fits k t v h in
    let map_fits = subst (λ (v : Value). OfType (S.Map k t) v) is.1 h in
    let old = held_by t (pairs_get is.0 key) (λ u e. get_fits k t is.0 key u is.3 e) in
    settles_by (S.Map k t) (level_changed (K.AtKey key) change (out-Value v)) _
    (ap (λ v. level_changed (K.AtKey key) change (out-Value v)) is.1 ∙ ap (level_changed (K.AtKey key) change) (V.outs-Map is.0))
    (settles_passed t (S.Map k t) (change (pairs_get is.0 key)) _ (keeps (pairs_get is.0 key) old) (λ new g. put_fits k t is.0 key new map_fits at g))

step_changed : (step : Selector Value) (t u : SplType) → StepGives step t u → (change : Option Value → CallOutcome) → Keeps u change → (v : Value) → OfType t v
    → Settles t (level_changed step change (out-Value v))
step_changed _ _ _ (member i schema a at) change keeps v h = member_changed i schema a at change keeps v h
step_changed _ _ _ (element n k t f) change keeps v h = element_changed n k t f change keeps v h
step_changed _ _ _ (at_key key k t f) change keeps v h = at_key_changed key k t f change keeps v h

changed_keeps : (steps : List (Selector Value)) (t u : SplType) → StepsGive steps t u → (change : Option Value → CallOutcome) → Keeps u change
    → Keeps t (changed steps change)
changed_keeps _ _ _ (here t) change keeps old h = keeps old h
changed_keeps _ _ _ (further step steps t u r one rest) change keeps None h = tt
changed_keeps _ _ _ (further step steps t u r one rest) change keeps (Some v) h =
    step_changed step t u one (changed steps change) (changed_keeps steps u r rest change keeps) v h

-- what the steps take of a value is changed: it stays of its type
pub changed_settles : (steps : List (Selector Value)) (change : Change Value) (t u : SplType) → StepsGive steps t u → ChangeGives change u → (v : Value) → OfType t v
    → Settles t (changed steps (change_of change) (Some v))
changed_settles steps change t u rest gives v h = changed_keeps steps t u rest (change_of change) (change_settles change u gives) (Some v) h
