-- The agreement of some tuples, one after another.
use Rattle.std.specs.Prelude.{◌≡◌, ◌<◌, ◌+◌, ◌==◌, ℕ, Bool, true, false, Option, None, Some, List, [], ◌∷◌, ◌++◌, length, drop, if◌then◌else◌}
use Rattle.std.specs.Option.{option_and_then}
use Rattle.std.proofs.Common.{refl, sym, ap, ◌∙◌, arith, get_or}
use Rattle.std.proofs.lemmas.Bool.Decides.{nat_tests}
use Rattle.spl_tree.specs.declared.body.Statement.{Statement}
use Rattle.spl_tree.specs.declared.code.Code.{Code}
use Rattle.spl_tree.specs.declared.code.Slot.{Slot}
use Rattle.stream_model.specs.Stream.{is_empty}
use Rattle.stream_model.specs.Copies.{agreed, submits_in, submits_of, tuple_source}
use Rattle.attribute_flow.specs.declared.agreement.Agreement.{Agreement}
use Rattle.attribute_flow.specs.declared.agreement.Agreement.TheVariants as A
use Rattle.attribute_flow.specs.steps.Agreements.{agreed_on, agreement, and_then, arms_submits, is_unseen, of_source, statement_submits}
use Rattle.spl_value.proofs.Lists.{drop_at}

-- ---- tests of numbers

same_number : (b c : ℕ) → (c == b) ≡ true → c ≡ b
same_number b c e = grind (arith, nat_tests)

is_same : (b c : ℕ) → c ≡ b → (c == b) ≡ true
is_same b c e = grind (arith, nat_tests)

other_number : (b c d : ℕ) → (c == b) ≡ true → (d == c) ≡ false → (d == b) ≡ false
other_number b c d e f = let same = same_number b c e in ap (λ n. d == n) (sym same) ∙ f

on_if : ℕ → Bool → Agreement
on_if b x = if x then A.On b else A.Failed

-- ---- one after another

three : (b c d : ℕ) → and_then (and_then (A.On b) (A.On c)) (A.On d) ≡ and_then (A.On b) (and_then (A.On c) (A.On d))
three b c d = by_cases (c == b) refl (d == c) refl where
  by_cases : (x : Bool) → (c == b) ≡ x → (y : Bool) → (d == c) ≡ y
      → and_then (if c == b then A.On b else A.Failed) (A.On d) ≡ and_then (A.On b) (if d == c then A.On c else A.Failed)
  by_cases true e true f =
      ap (λ x. and_then (if x then A.On b else A.Failed) (A.On d)) e
      ∙ ap (λ x. if x then A.On b else A.Failed) (is_same b d (same_number c d f ∙ same_number b c e))
      ∙ sym (ap (λ x. and_then (A.On b) (if x then A.On c else A.Failed)) f ∙ ap (λ x. if x then A.On b else A.Failed) e)
  by_cases true e false f =
      ap (λ x. and_then (if x then A.On b else A.Failed) (A.On d)) e
      ∙ ap (λ x. if x then A.On b else A.Failed) (other_number b c d e f)
      ∙ sym (ap (λ x. and_then (A.On b) (if x then A.On c else A.Failed)) f)
  by_cases false e true f =
      ap (λ x. and_then (if x then A.On b else A.Failed) (A.On d)) e
      ∙ sym (ap (λ x. and_then (A.On b) (if x then A.On c else A.Failed)) f ∙ ap (λ x. if x then A.On b else A.Failed) e)
  by_cases false e false f =
      ap (λ x. and_then (if x then A.On b else A.Failed) (A.On d)) e
      ∙ sym (ap (λ x. and_then (A.On b) (if x then A.On c else A.Failed)) f)

failed_then : (b c : ℕ) → and_then (and_then (A.On b) (A.On c)) A.Failed ≡ A.Failed
failed_then b c = by_case (c == b) where
  by_case : (x : Bool) → and_then (if x then A.On b else A.Failed) A.Failed ≡ A.Failed
  by_case true = refl
  by_case false = refl

pub unseen_last : (i : Agreement) → and_then i A.Unseen ≡ i
unseen_last A.Unseen = refl
unseen_last (A.On b) = refl
unseen_last A.Failed = refl

pub and_then_assoc : (i j k : Agreement) → and_then (and_then i j) k ≡ and_then i (and_then j k)
and_then_assoc A.Unseen j k = refl
and_then_assoc A.Failed j k = refl
and_then_assoc (A.On b) A.Unseen k = refl
and_then_assoc (A.On b) A.Failed k = refl
and_then_assoc (A.On b) (A.On c) A.Unseen = unseen_last (and_then (A.On b) (A.On c))
and_then_assoc (A.On b) (A.On c) (A.On d) = three b c d
and_then_assoc (A.On b) (A.On c) A.Failed = failed_then b c

pub agreement_append : (a : ℕ) (some more : List (Code Slot)) → agreement a (some ++ more) ≡ and_then (agreement a some) (agreement a more)
agreement_append a [] more = refl
agreement_append a (code ∷ codes) more =
    ap (and_then (of_source (tuple_source a code))) (agreement_append a codes more)
    ∙ sym (and_then_assoc (of_source (tuple_source a code)) (agreement a codes) (agreement a more))

---- what follows from it

seen_first : (source : Option ℕ) (j : Agreement) → is_unseen (and_then (of_source source) j) ≡ false
seen_first None j = refl
seen_first (Some b) A.Unseen = refl
seen_first (Some b) A.Failed = refl
seen_first (Some b) (A.On c) = by_case (c == b) where
  by_case : (x : Bool) → is_unseen (if x then A.On b else A.Failed) ≡ false
  by_case true = refl
  by_case false = refl

pub unseen_is : (a : ℕ) (codes : List (Code Slot)) → is_unseen (agreement a codes) ≡ is_empty codes
unseen_is a [] = refl
unseen_is a (code ∷ codes) = seen_first (tuple_source a code) (agreement a codes)

one_alone : (source : Option ℕ) → agreed_on (and_then (of_source source) A.Unseen) ≡ source
one_alone None = refl
one_alone (Some b) = refl

one_more : (source : Option ℕ) (j : Agreement) → is_unseen j ≡ false
    → agreed_on (and_then (of_source source) j) ≡ option_and_then (λ b. option_and_then (λ c. if c == b then Some b else None) (agreed_on j)) source
one_more None j seen = refl
one_more (Some b) A.Unseen seen = absurd cc
one_more (Some b) A.Failed seen = refl
one_more (Some b) (A.On c) seen = by_case (c == b) where
  by_case : (x : Bool) → agreed_on (if x then A.On b else A.Failed) ≡ (if x then Some b else None)
  by_case true = refl
  by_case false = refl

pub agreed_is : (a : ℕ) (codes : List (Code Slot)) → agreed_on (agreement a codes) ≡ agreed a codes
agreed_is a [] = refl
agreed_is a (code ∷ []) = one_alone (tuple_source a code)
agreed_is a (code ∷ next ∷ codes) =
    one_more (tuple_source a code) (agreement a (next ∷ codes)) (seen_first (tuple_source a next) (agreement a codes))
    ∙ ap (λ found. option_and_then (λ b. option_and_then (λ c. if c == b then Some b else None) found) (tuple_source a code)) (agreed_is a (next ∷ codes))

-- ---- along lists

-- where the submits of a list are those of its items in turn, one item more
step_with : {A : Type 0} (a : ℕ) (of_item : A → List (Code Slot)) (of_list : List A → List (Code Slot)) → ((x : A) (xs : List A) → of_list (x ∷ xs) ≡ of_item x ++ of_list xs)
    → (xs : List A) (i : ℕ) (x : A) (so_far its : Agreement) → i < length xs → x ≡ get_or xs i x → its ≡ agreement a (of_item x)
    → and_then so_far (agreement a (of_list (drop i xs))) ≡ agreement a (of_list xs)
    → and_then (and_then so_far its) (agreement a (of_list (drop (i + 1) xs))) ≡ agreement a (of_list xs)
step_with a of_item of_list cons xs i x so_far its lt e is h =
    and_then_assoc so_far its (agreement a (of_list (drop (i + 1) xs)))
    ∙ ap (and_then so_far)
    (ap (λ j. and_then j (agreement a (of_list (drop (i + 1) xs)))) is
    ∙ sym (agreement_append a (of_item x) (of_list (drop (i + 1) xs)))
    ∙ ap (agreement a) (sym (cons x (drop (i + 1) xs)) ∙ ap of_list (sym (drop_at xs i x lt e))))
    ∙ h

pub row_step : (a : ℕ) (row : List Statement) (i : ℕ) (x : Statement) (so_far its : Agreement) → i < length row → x ≡ get_or row i x
    → its ≡ agreement a (statement_submits x) → and_then so_far (agreement a (submits_of (drop i row))) ≡ agreement a (submits_of row)
    → and_then (and_then so_far its) (agreement a (submits_of (drop (i + 1) row))) ≡ agreement a (submits_of row)
row_step a = step_with a statement_submits submits_of (λ x xs. refl)

pub arm_step : (a : ℕ) (arms : List (Code Slot × List Statement)) (i : ℕ) (arm : Code Slot × List Statement) (so_far its : Agreement) → i < length arms → arm ≡ get_or arms i arm
    → its ≡ agreement a (submits_of arm.1) → and_then so_far (agreement a (arms_submits (drop i arms))) ≡ agreement a (arms_submits arms)
    → and_then (and_then so_far its) (agreement a (arms_submits (drop (i + 1) arms))) ≡ agreement a (arms_submits arms)
arm_step a = step_with a (λ arm. submits_of arm.1) arms_submits (λ x xs. refl)

abbrev pub body_submits : Option (List Statement) → List (Code Slot)
body_submits None = []
body_submits (Some row) = submits_of row

bodies_cons : (x : Option (List Statement)) (xs : List (Option (List Statement))) → submits_in (x ∷ xs) ≡ body_submits x ++ submits_in xs
bodies_cons None xs = refl
bodies_cons (Some row) xs = refl

pub body_step : (a : ℕ) (bodies : List (Option (List Statement))) (i : ℕ) (x : Option (List Statement)) (so_far its : Agreement) → i < length bodies → x ≡ get_or bodies i x
    → its ≡ agreement a (body_submits x) → and_then so_far (agreement a (submits_in (drop i bodies))) ≡ agreement a (submits_in bodies)
    → and_then (and_then so_far its) (agreement a (submits_in (drop (i + 1) bodies))) ≡ agreement a (submits_in bodies)
body_step a = step_with a body_submits submits_in bodies_cons
