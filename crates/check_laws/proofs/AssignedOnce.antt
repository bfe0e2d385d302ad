-- Each attribute of an output gets one value, which fits it.
use Rattle.std.specs.Prelude.{◌≡◌, ◌==◌, ◌≤◌, ◌<◌, ◌+◌, ◌||◌, ◌⊎◌, ℕ, suc, true, false, cond, List, [], ◌∷◌, ◌++◌, length, Option, Some, None, Ok, slice_get}
use Rattle.std.specs.List.{AllByRecursion, count_by, list_any}
use Rattle.std.specs.Str.{bytes_eq}
use Rattle.std.proofs.Common.{refl, sym, ap, subst, ◌∙◌, arith, inl, inr}
use Rattle.std.proofs.lemmas.Bool.{cases_eq, cond-true, cond-false, eqb-true, eq-eqb, ne_eqb}
use Rattle.std.proofs.lemmas.List.Recursion.{is_count_by}
use Rattle.spl_value.specs.declared.types.Named.{Named}
use Rattle.spl_value.specs.declared.types.SplType.{SplType}
use Rattle.spl_tree.specs.declared.expression.Field.{Field}
use Rattle.spl_tree.specs.declared.unit.OutputAssignments.{OutputAssignments}
use Rattle.spl_tree.specs.Trees.{Expr}
use Rattle.language_model.specs.OutputTyping.{Assigned, Assigns, Fills, assignment_typing, assignments_typing, bad_output, filled_from, rows_typing, with_others}
use Rattle.language_model.proofs.parts.OutputTyping.{as_attribute, is_assigned, wanted_of}
use Rattle.language_model.specs.parts.OutputTyping.{places}
use Rattle.language_model.specs.Scopes.{At, attribute_of}
use Rattle.language_model.proofs.Standing.{Bears, attribute_there}
use Rattle.language_model.specs.StreamTypes.{Attributes}
use Rattle.language_model.specs.Typing.{after, unknown}
use Rattle.check_laws.proofs.Accepting.{gives_if}
use Rattle.language_model.proofs.FoundAnswers.{Gives, gives_after, gives_on, gives_then}
use Rattle.spl_value.proofs.Lists.{any_first as in_front}

-- ---- how often a place is assigned

abbrev pub times : {A : Type 0} → ℕ → Assigned A → ℕ
times i [] = 0
times i (x ∷ xs) = cond (x.0 == i) (1 + times i xs) (times i xs)

pub counts_times : {A : Type 0} (i : ℕ) (xs : Assigned A) → times i xs ≡ count_by (λ (x : ℕ × A). x.0 == i) xs
counts_times {A} i xs = is_count_by (λ (xs : Assigned A). times i xs) (λ (x : ℕ × A). x.0 == i) refl (λ x xs. refl) xs

times_here : {A : Type 0} (i place : ℕ) (x : A) (xs : Assigned A) → place ≡ i → times i ((place, x) ∷ xs) ≡ 1 + times i xs
times_here i place x xs same = cond-true (place == i) (1 + times i xs) (times i xs) (eq-eqb place i same)

times_other : {A : Type 0} (i place : ℕ) (x : A) (xs : Assigned A) → (place ≡ i → ⊥) → times i ((place, x) ∷ xs) ≡ times i xs
times_other i place x xs apart = cond-false (place == i) (1 + times i xs) (times i xs) (ne_eqb place i apart)

times-append : {A : Type 0} (i : ℕ) (xs ys : Assigned A) → times i (xs ++ ys) ≡ times i xs + times i ys
times-append i [] ys = omega arith
times-append i (x ∷ xs) ys =
    let rest : times i (xs ++ ys) ≡ times i xs + times i ys = times-append i xs ys in
    elim (x.0 == i) as (λ b. cond b (1 + times i (xs ++ ys)) (times i (xs ++ ys)) ≡ cond b (1 + times i xs) (times i xs) + times i ys) [
      | true ↦ omega arith
      | false ↦ rest
    ]

-- ---- places that are assigned once

-- no place comes again, nor is it one of those before
abbrev Apart : {A : Type 0} → List ℕ → Assigned A → Type 0
Apart before [] = Unit {0}
Apart before (x ∷ xs) = (list_any (λ n. n == x.0) before ≡ false) × Apart (x.0 ∷ before) xs

apart-append : {A : Type 0} (before : List ℕ) (xs ys : Assigned A) → Apart before xs → Apart (places before xs) ys → Apart before (xs ++ ys)
apart-append before [] ys h g = g
apart-append before (x ∷ xs) ys h g = (h.0, apart-append (x.0 ∷ before) xs ys h.1 g)

behind : (i j : ℕ) (before : List ℕ) → list_any (λ n. n == i) before ≡ true → list_any (λ n. n == i) (j ∷ before) ≡ true
behind i j before has =
    elim (j == i) as (λ b. (b || list_any (λ n. n == i) before) ≡ true) [
      | true ↦ refl
      | false ↦ has
    ]

-- one before doesn't come again
none_again : {A : Type 0} (i : ℕ) (before : List ℕ) (xs : Assigned A) → Apart before xs → list_any (λ n. n == i) before ≡ true → times i xs ≡ 0
none_again i before [] h has = refl
none_again i before (x ∷ xs) h has =
    elim (x.0 == i) as (λ b. (x.0 == i) ≡ b → cond b (1 + times i xs) (times i xs) ≡ 0) [
      | true ↦ λ same.
          let here : x.0 ≡ i = eqb-true x.0 i same in
          let lacks : list_any (λ n. n == i) before ≡ false = subst (λ k. list_any (λ n. n == k) before ≡ false) here h.0 in
          absurd cc
      | false ↦ λ other. none_again i (x.0 ∷ before) xs h.1 (behind i x.0 before has)
    ] refl

once : {A : Type 0} (i : ℕ) (before : List ℕ) (xs : Assigned A) → Apart before xs → is_assigned i xs ≡ true → times i xs ≡ 1
once i before [] h has = absurd cc
once i before (x ∷ xs) h has =
    elim (x.0 == i) as (λ b. (x.0 == i) ≡ b → (b || is_assigned i xs) ≡ true → cond b (1 + times i xs) (times i xs) ≡ 1) [
      | true ↦ λ same e.
          let here : x.0 ≡ i = eqb-true x.0 i same in
          let front : list_any (λ n. n == i) (x.0 ∷ before) ≡ true = subst (λ k. list_any (λ n. n == i) (k ∷ before) ≡ true) (sym here) (in_front i before) in
          ap (λ n. 1 + n) (none_again i (x.0 ∷ before) xs h.1 front)
      | false ↦ λ other e. once i (x.0 ∷ before) xs h.1 e
    ] refl has

never : {A : Type 0} (i : ℕ) (xs : Assigned A) → is_assigned i xs ≡ false → times i xs ≡ 0
never i [] lacks = refl
never i (x ∷ xs) lacks =
    elim (x.0 == i) as (λ b. (b || is_assigned i xs) ≡ false → cond b (1 + times i xs) (times i xs) ≡ 0) [
      | true ↦ λ e. absurd cc
      | false ↦ λ e. never i xs e
    ] lacks

-- ---- assignments

module _ {A : Type 0} (P : Named SplType → A → Type 0) (schema : Attributes) where
  -- a value for an attribute of the output
  abbrev pub ForAttribute : ℕ × A → Type 0
  ForAttribute x = (a : Named SplType) × (slice_get schema x.0 ≡ Some a) × P a x.1

  abbrev New : List ℕ → ℕ × A → Type 0
  New before x = (list_any (λ n. n == x.0) before ≡ false) × ForAttribute x

  abbrev News : List ℕ → Assigned A → Type 0
  News before xs = Apart before xs × AllByRecursion ForAttribute xs

  -- what is assigned to an attribute fits it
  abbrev pub AssignsFit : Assigns A → Type 0
  AssignsFit assigns = (a : Named SplType) (e : Expr) → Gives (P a) (assigns (Some a.kind) e)

  new_at : (before : List ℕ) (at : ℕ) (x : A) (a : At (Named SplType)) → slice_get schema a.place ≡ Some a.what → P a.what x
      → Gives (New before) (as_attribute before at x (Some a))
  new_at before at x a there h =
      gives_if (New before) (list_any (λ n. n == a.place) before) (bad_output at) (Ok (a.place, x)) (λ twice. tt) (λ first. (first, (a.what, there, h)))

  assigned_at : (assigns : Assigns A) → AssignsFit assigns → (before : List ℕ) (f : Field Expr) (o : Option (At (Named SplType)))
      → Bears (λ a. a.name) schema f.name.what o
      → Gives (New before) (after (assigns (wanted_of o) f.value) (λ x. as_attribute before f.name.at x o))
  assigned_at assigns fit before f None h = gives_then (New before) (assigns None f.value) _ (λ x found. tt)
  assigned_at assigns fit before f (Some a) h =
      gives_after (P a.what) (New before) (assigns (Some a.what.kind) f.value) _ (fit a.what f.value) (λ x g. new_at before f.name.at x a h.0 g)

  assigned_fits : (assigns : Assigns A) → AssignsFit assigns → (before : List ℕ) (f : Field Expr) → Gives (New before) (assignment_typing assigns schema before f)
  assigned_fits assigns fit before f = assigned_at assigns fit before f (attribute_of schema f.name.what) (attribute_there schema f.name.what)

  assignments_fit : (assigns : Assigns A) → AssignsFit assigns → (before : List ℕ) (fs : List (Field Expr)) → Gives (News before) (assignments_typing assigns schema before fs)
  assignments_fit assigns fit before [] = (tt, tt)
  assignments_fit assigns fit before (f ∷ fs) =
      gives_after (New before) (News before) (assignment_typing assigns schema before f) _ (assigned_fits assigns fit before f) (λ x new.
      gives_after (News (x.0 ∷ before)) (News before) (assignments_typing assigns schema (x.0 ∷ before) fs) _ (assignments_fit assigns fit (x.0 ∷ before) fs) (λ xs rest.
      ((new.0, rest.0), (new.1, rest.1))))

  all-append : (xs ys : Assigned A) → AllByRecursion ForAttribute xs → AllByRecursion ForAttribute ys → AllByRecursion ForAttribute (xs ++ ys)
  all-append [] ys h g = g
  all-append (x ∷ xs) ys h g = (h.0, all-append xs ys h.1 g)

  rows_fit : (assigns : Assigns A) → AssignsFit assigns → (output before : List ℕ) (os : List OutputAssignments) → Gives (News before) (rows_typing assigns schema output before os)
  rows_fit assigns fit output before [] = (tt, tt)
  rows_fit assigns fit output before (o ∷ os) =
      gives_if (News before) (bytes_eq o.stream.what output)
      (after (assignments_typing assigns schema before o.assignments) (λ xs. after (rows_typing assigns schema output (places before xs) os) (λ rest. Ok (xs ++ rest))))
      (unknown o.stream.at o.stream.what) (λ is.
      gives_after (News before) (News before) (assignments_typing assigns schema before o.assignments) _ (assignments_fit assigns fit before o.assignments) (λ xs here.
      gives_after (News (places before xs)) (News before) (rows_typing assigns schema output (places before xs) os) _ (rows_fit assigns fit output (places before xs) os) (λ rest later.
      (apart-append before xs rest here.0 later.0, all-append xs rest here.1 later.1))))
      (λ other. tt)

  -- ---- the others

  -- what an attribute gets fits it
  abbrev pub FillsFit : Fills A → Type 0
  FillsFit fills = (a : Named SplType) → Gives (P a) (fills a)

  -- attributes from a place on, of which each has a value where none is assigned to it
  record Filled (xs : Assigned A) (place count : ℕ) (rest : Assigned A) : Type 0 where
    fit : AllByRecursion ForAttribute rest
    before : (i : ℕ) → i < place → times i rest ≡ 0
    assigned : (i : ℕ) → is_assigned i xs ≡ true → times i rest ≡ 0
    other : (i : ℕ) → is_assigned i xs ≡ false → place ≤ i → i < place + count → times i rest ≡ 1

  none_left : (xs : Assigned A) (place : ℕ) → Filled xs place 0 []
  none_left xs place = record {
    fit = tt;
    before = λ i below. refl;
    assigned = λ i is. refl;
    other = λ i lacks from to. absurd (omega arith);
  }

  skipped : (xs : Assigned A) (place count : ℕ) (rest : Assigned A) → is_assigned place xs ≡ true → Filled xs (suc place) count rest → Filled xs place (suc count) rest
  skipped xs place count rest is later = record {
    fit = later.fit;
    before = λ i below. later.before i (omega arith);
    assigned = later.assigned;
    other = λ i lacks from to. later.other i lacks
        (let apart : place ≡ i → ⊥ = λ same. let has : is_assigned i xs ≡ true = subst (λ k. is_assigned k xs ≡ true) same is in absurd cc in omega arith) (omega arith);
  }

  filled_more : (xs : Assigned A) (place count : ℕ) (rest : Assigned A) (x : A) → is_assigned place xs ≡ false → ForAttribute (place, x) → Filled xs (suc place) count rest
      → Filled xs place (suc count) ((place, x) ∷ rest)
  filled_more xs place count rest x lacks here later = record {
    fit = (here, later.fit);
    before = λ i below. times_other i place x rest (λ same. omega arith) ∙ later.before i (omega arith);
    assigned = λ i is.
        times_other i place x rest (λ same. let none : is_assigned i xs ≡ false = subst (λ k. is_assigned k xs ≡ false) same lacks in absurd cc) ∙ later.assigned i is;
    other = λ i none from to. here_or_later i none from to (cases_eq place i);
  }
    where
      here_or_later : (i : ℕ) → is_assigned i xs ≡ false → place ≤ i → i < place + suc count → (place ≡ i) ⊎ (place ≡ i → ⊥) → times i ((place, x) ∷ rest) ≡ 1
      here_or_later i none from to (inl same) = times_here i place x rest same ∙ ap (λ n. 1 + n) (later.before i (omega arith))
      here_or_later i none from to (inr apart) = times_other i place x rest apart ∙ later.other i none (omega arith) (omega arith)

  filled_fits : (fills : Fills A) → FillsFit fills → (xs : Assigned A) (place : ℕ) (own : Attributes) → ((j : ℕ) → slice_get schema (place + j) ≡ slice_get own j)
      → Gives (Filled xs place (length own)) (filled_from fills xs place own)
  filled_fits fills fit xs place [] tail = none_left xs place
  filled_fits fills fit xs place (a ∷ own) tail =
      let next : (j : ℕ) → slice_get schema (suc place + j) ≡ slice_get own j =
      λ j. let same : suc place + j ≡ place + suc j = omega arith in ap (slice_get schema) same ∙ tail (suc j) in
      let here : slice_get schema place ≡ Some a = let same : place ≡ place + 0 = omega arith in ap (slice_get schema) same ∙ tail 0 in
      gives_if (Filled xs place (suc (length own))) (is_assigned place xs) (filled_from fills xs (suc place) own)
      (after (fills a) (λ x. after (filled_from fills xs (suc place) own) (λ rest. Ok ((place, x) ∷ rest))))
      (λ is. gives_on (Filled xs (suc place) (length own)) (Filled xs place (suc (length own))) (filled_from fills xs (suc place) own)
      (filled_fits fills fit xs (suc place) own next) (λ rest later. skipped xs place (length own) rest is later))
      (λ lacks. gives_after (P a) (Filled xs place (suc (length own))) (fills a) _ (fit a) (λ x h.
      gives_after (Filled xs (suc place) (length own)) (Filled xs place (suc (length own))) (filled_from fills xs (suc place) own) _
      (filled_fits fills fit xs (suc place) own next) (λ rest later. filled_more xs place (length own) rest x lacks (a, here, h) later)))

  -- ---- all of them

  -- each attribute has one value, which fits it
  pub record EachOnce (all : Assigned A) : Type 0 where
    pub fit : AllByRecursion ForAttribute all
    pub once : (i : ℕ) → i < length schema → count_by (λ (x : ℕ × A). x.0 == i) all ≡ 1

  both_once : (xs rest : Assigned A) → Apart [] xs → Filled xs 0 (length schema) rest → (i : ℕ) → i < length schema → times i xs + times i rest ≡ 1
  both_once xs rest apart filled i within =
      elim (is_assigned i xs) as (λ b. is_assigned i xs ≡ b → times i xs + times i rest ≡ 1) [
        | true ↦ λ is.
            let here : times i xs ≡ 1 = once i [] xs apart is in
            let there : times i rest ≡ 0 = filled.assigned i is in
            omega arith
        | false ↦ λ lacks.
            let here : times i xs ≡ 0 = never i xs lacks in
            let there : times i rest ≡ 1 = filled.other i lacks (omega arith) (omega arith) in
            omega arith
      ] refl

  pub each_once : (assigns : Assigns A) → AssignsFit assigns → (fills : Fills A) → FillsFit fills → (output : List ℕ) (os : List OutputAssignments)
      → Gives EachOnce (after (rows_typing assigns schema output [] os) (with_others fills schema))
  each_once assigns assigned fills filled output os =
      gives_after (News []) EachOnce (rows_typing assigns schema output [] os) (with_others fills schema) (rows_fit assigns assigned output [] os) (λ xs news.
      gives_after (Filled xs 0 (length schema)) EachOnce (filled_from fills xs 0 schema) _
      (filled_fits fills filled xs 0 schema (λ j. let same : 0 + j ≡ j = omega arith in ap (slice_get schema) same)) (λ rest others. record {
        fit = all-append xs rest news.1 others.fit;
        once = λ i within. sym (counts_times i (xs ++ rest)) ∙ times-append i xs rest ∙ both_once xs rest news.0 others i within;
      }))
