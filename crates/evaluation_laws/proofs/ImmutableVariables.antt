-- Bodies leave variables that aren't mutable as they are.
use Rattle.std.specs.Prelude.{◌≡◌, ◌<◌, ◌≤◌, ◌==◌, ◌&&◌, ℕ, zero, suc, Bool, true, false, not, List, [], ◌∷◌, map, length, take, slice_get, Option, None, Some}
use Rattle.std.specs.Cmp.Derive.{both_true}
use Rattle.std.proofs.Common.{refl, sym, ap, subst, ◌∙◌, arith}
use Rattle.std.proofs.lemmas.Bool.{eq-eqb, eqb-true}
use Rattle.std.proofs.lemmas.List.{length-take}
use Rattle.std.proofs.lemmas.Option.{slice_get_within}
use Rattle.spl_value.proofs.Lists.{append_front, get_below, set_elsewhere}
use Rattle.spl_value.specs.declared.types.SplType.{SplType}
use Rattle.spl_value.specs.declared.value.Value.{Value}
use Rattle.spl_tree.specs.declared.body.Place.{Place}
use Rattle.spl_tree.specs.declared.body.Statement.{Statement}
use Rattle.spl_tree.specs.declared.body.Statement.TheVariants as T
use Rattle.spl_tree.specs.declared.body.Statement.TheOpen as S
use Rattle.spl_tree.specs.declared.body.Statement.TheOpen.{Statement-F}
use Rattle.spl_tree.specs.declared.body.Statement.TheViews.{out-Statement}
use Rattle.spl_tree.specs.declared.body.Statement.TheFolds.{fold_out-Statement, map-Statement}
use Rattle.spl_tree.specs.declared.code.Code.{Code}
use Rattle.spl_tree.specs.declared.code.Slot.{Slot}
use Rattle.language_model.specs.declared.env.Env.{Env}
use Rattle.language_model.specs.declared.flow.Flow.{Flow}
use Rattle.language_model.specs.declared.flow.Flow.TheVariants as F
use Rattle.language_model.specs.declared.scope.Scope.{Scope}
use Rattle.language_model.specs.declared.scope.Variable.{Variable}
use Rattle.language_model.specs.BodyFits as B
use Rattle.language_model.specs.BodyFits.{Purpose, with_variable, PlaceFits, StatementFits, RowFits, ArmsFit}
use Rattle.language_model.specs.Functions.{bodies_of}
use Rattle.language_model.specs.Outcomes.{Outcome, Done, Faulted, Stuck}
use Rattle.language_model.specs.Statements.{State, Bodies, Left, scoped, body_leaves}
use Rattle.language_model.specs.parts.Statements.{row_acts}
use Rattle.language_model.proofs.parts.Statements.{left_by}
use Rattle.language_model.proofs.Returning.{Only, only_followed}
use Rattle.evaluation_laws.specs.ImmutableLaws.{ImmutableLaw, StateKeptLaw}
use Rattle.language_model.proofs.Keeping.{arms_pass, level_passes, statement_passes, row_passes, IsKept, LeftBy, body_keeps}

-- ---- no statement that fits changes the variable

-- the variable at that place isn't mutable
record Immutable (i : ℕ) (scope : Scope) : Type 0 where
  variable : Variable
  there : slice_get scope.vars i ≡ Some variable
  fixed : variable.mutable ≡ false

module _ (purpose : Purpose) (i : ℕ) where
  abbrev is_other : ℕ → Bool
  is_other j = not (j == i)

  abbrev any_submit : ℕ → Option (Code Slot) → Bool
  any_submit port code = true

  abbrev passes : Statement → Bool
  passes = statement_passes is_other any_submit

  at : (x : Statement) (form : Statement-F Statement) → out-Statement x ≡ form → passes x ≡ level_passes is_other any_submit (map-Statement Statement Bool passes form)
  at x form p = fold_out-Statement Bool (level_passes is_other any_submit) x ∙ ap (λ y. level_passes is_other any_submit (map-Statement Statement Bool passes y)) p

  abbrev passing_arm : Code Slot × List Statement → Code Slot × List Bool
  passing_arm arm = (arm.0, map passes arm.1)

  abbrev arms_in : Statement-F Bool → List (Code Slot × List Bool)
  arms_in (S.If arms other) = arms
  arms_in _ = []

  arms_mapped : (arms : List (Code Slot × List Statement)) (other : List Statement) → arms_in (map-Statement Statement Bool passes (S.If arms other)) ≡ map passing_arm arms
  arms_mapped [] other = refl
  arms_mapped (arm ∷ arms) other = ap (λ rest. passing_arm arm ∷ rest) (arms_mapped arms other)

  one_more : (scope : Scope) (v : Variable) → Immutable i scope → Immutable i (with_variable scope v)
  one_more scope v h = record { variable = h.variable; there = append_front scope.vars (v ∷ []) i h.variable h.there; fixed = h.fixed }

  still_immutable : (l : Bool) (scope next : Scope) (x : Statement) → StatementFits purpose l scope x next → Immutable i scope → Immutable i next
  still_immutable _ _ _ _ (B.block l scope row h) is = is
  still_immutable _ _ _ _ (B.declare l scope x v f) is = one_more scope v is
  still_immutable _ _ _ _ (B.change l scope place change t p f) is = is
  still_immutable _ _ _ _ (B.evaluate l scope call xs t f) is = is
  still_immutable _ _ _ _ (B.call l scope j xs f there args) is = is
  still_immutable _ _ _ _ (B.if_else l scope arms other h k) is = is
  still_immutable _ _ _ _ (B.while l scope x row f h) is = is
  still_immutable _ _ _ _ (B.for_each l scope x row t v f over fixed h) is = is
  still_immutable _ _ _ _ (B.break scope) is = is
  still_immutable _ _ _ _ (B.continue scope) is = is
  still_immutable _ _ _ _ (B.return l scope x f) is = is
  still_immutable _ _ _ _ (B.submit l scope port x schema there f) is = is
  still_immutable _ _ _ _ (B.submit_window l scope port schema there) is = is

  -- a place of a mutable variable is one of another
  other_place : (scope : Scope) (v : Variable) (j : ℕ) → slice_get scope.vars j ≡ Some v → v.mutable ≡ true → Immutable i scope → is_other j ≡ true
  other_place scope v j there mutable is = by_case (j == i) refl where
    by_case : (b : Bool) → (j == i) ≡ b → not b ≡ true
    by_case false e = refl
    by_case true e =
        let here : slice_get scope.vars i ≡ Some v = subst (λ k. slice_get scope.vars k ≡ Some v) (eqb-true j i e) there in
        let both : Some v ≡ Some is.variable = sym here ∙ is.there in
        let same : v ≡ is.variable = cc in
        absurd (let no : true ≡ false = sym mutable ∙ ap (λ (v : Variable). v.mutable) same ∙ is.fixed in cc)

  place_passes : (scope : Scope) (place : Place) (t : SplType) → PlaceFits scope place t → Immutable i scope → is_other place.variable ≡ true
  place_passes scope _ _ (B.in_variable place v t there named mutable lead) is = other_place scope v place.variable there mutable is

  mutual
    statement_pass : (l : Bool) (scope next : Scope) (x : Statement) → StatementFits purpose l scope x next → Immutable i scope → passes x ≡ true
    statement_pass _ _ _ _ (B.block l scope row h) is = at (T.Block row) (S.Block row) (T.outs-Block row) ∙ row_pass l scope row h is
    statement_pass _ _ _ _ (B.declare l scope x v f) is = at (T.Declare x) (S.Declare x) (T.outs-Declare x)
    statement_pass _ _ _ _ (B.change l scope place change t p f) is =
        at (T.Change place change) (S.Change place change) (T.outs-Change place change) ∙ place_passes scope place t p is
    statement_pass _ _ _ _ (B.evaluate l scope call xs t f) is = at (T.Evaluate _) (S.Evaluate _) (T.outs-Evaluate _)
    statement_pass _ _ _ _ (B.call l scope j xs f there args) is = at (T.Call j xs) (S.Call j xs) (T.outs-Call j xs)
    statement_pass _ _ _ _ (B.if_else l scope arms other h k) is =
        at (T.If arms other) (S.If arms other) (T.outs-If arms other) ∙ ap (λ bs. arms_pass bs && row_passes is_other any_submit other) (arms_mapped arms other)
        ∙ both_true (all_arms_pass l scope arms h is) (row_pass l scope other k is)
    statement_pass _ _ _ _ (B.while l scope x row f h) is = at (T.While x row) (S.While x row) (T.outs-While x row) ∙ row_pass true scope row h is
    statement_pass _ _ _ _ (B.for_each l scope x row t v f over fixed h) is =
        at (T.For x row) (S.For x row) (T.outs-For x row) ∙ row_pass true (with_variable scope v) row h (one_more scope v is)
    statement_pass _ _ _ _ (B.break scope) is = at T.Break S.Break T.outs-Break
    statement_pass _ _ _ _ (B.continue scope) is = at T.Continue S.Continue T.outs-Continue
    statement_pass _ _ _ _ (B.return l scope x f) is = at (T.Return x) (S.Return x) (T.outs-Return x)
    statement_pass _ _ _ _ (B.submit l scope port x schema there f) is = at (T.Submit port x) (S.Submit port x) (T.outs-Submit port x)
    statement_pass _ _ _ _ (B.submit_window l scope port schema there) is = at (T.SubmitWindow port) (S.SubmitWindow port) (T.outs-SubmitWindow port)

    row_pass : (l : Bool) (scope : Scope) (row : List Statement) → RowFits purpose l scope row → Immutable i scope → row_passes is_other any_submit row ≡ true
    row_pass _ _ _ (B.no_statements l scope) is = refl
    row_pass _ _ _ (B.statement l scope next x row h k) is =
        both_true (statement_pass l scope next x h is) (row_pass l next row k (still_immutable l scope next x h is))

    all_arms_pass : (l : Bool) (scope : Scope) (arms : List (Code Slot × List Statement)) → ArmsFit purpose l scope arms → Immutable i scope → arms_pass (map passing_arm arms) ≡ true
    all_arms_pass _ _ _ (B.no_arms l scope) is = refl
    all_arms_pass _ _ _ (B.arm l scope x row arms f h k) is =
        both_true (row_pass l scope row h is) (all_arms_pass l scope arms k is)

-- ---- what is kept: what the variable holds

get_in_take : {A : Type 0} (n : ℕ) (xs : List A) (i : ℕ) → i < n → slice_get (take n xs) i ≡ slice_get xs i
get_in_take zero xs i lt = absurd (let none : ⊥ = omega arith in none)
get_in_take (suc n) [] i lt = refl
get_in_take (suc n) (x ∷ xs) zero lt = refl
get_in_take (suc n) (x ∷ xs) (suc i) lt = get_in_take n xs i (omega arith)

module _ (bodies : Bodies) (i : ℕ) (v : Value) where
  abbrev Holds : State → Type 0
  Holds s = slice_get s.env.vars i ≡ Some v

  different : (j : ℕ) → not (j == i) ≡ true → j ≡ i → ⊥
  different j h e = let same : (j == i) ≡ true = eq-eqb j i e in let no : false ≡ true = sym (ap not same) ∙ h in cc

  holds_kept : IsKept bodies (λ j. not (j == i)) (λ port code. true) Holds
  holds_kept = record {
    change = λ s j new h k. set_elsewhere s.env.vars j i new (different j h) ∙ k;
    declare = λ s new k. append_front s.env.vars (new ∷ []) i v k;
    end = λ s t k h. get_in_take (length s.env.vars) t.env.vars i (slice_get_within s.env.vars i v k) ∙ h;
    tuple = λ s port code turns left u us h e is k. k;
    window = λ s port e k. k;
  }

pub immutable_law : ImmutableLaw
immutable_law functions purpose l scope row env turns rest left h enough e i x there fixed =
    let within = slice_get_within scope.vars i x there in
    let before = get_below env.vars i (omega arith) in
    let bodies = bodies_of functions turns in
    let passes_all = row_pass purpose i l scope row h (record { variable = x; there = there; fixed = fixed }) in
    let kept = body_keeps bodies (λ j. not (j == i)) (λ port code. true) (Holds bodies i before.0) (holds_kept bodies i before.0) row env turns passes_all before.1 in
    let by : LeftBy (Holds bodies i before.0) left = subst (Only (LeftBy (Holds bodies i before.0))) e kept in
    ap (λ vars. slice_get vars i) (sym by.3) ∙ by.1 ∙ sym before.1

-- ---- all variables

same_lists : {A : Type 0} (xs ys : List A) → length xs ≤ length ys → ((i : ℕ) → i < length ys → slice_get xs i ≡ slice_get ys i) → xs ≡ ys
same_lists [] [] le h = refl
same_lists [] (y ∷ ys) le h = absurd (let none : None ≡ Some y = h 0 (omega arith) in cc)
same_lists (x ∷ xs) [] le h = absurd (let none : ⊥ = omega arith in none)
same_lists (x ∷ xs) (y ∷ ys) le h =
    let first : Some x ≡ Some y = h 0 (omega arith) in
    let same : x ≡ y = cc in
    let rest = same_lists xs ys (omega arith) (λ i lt. h (suc i) (omega arith)) in
    λ i. same i ∷ rest i

-- no body leaves more variables than there were
abbrev Short : ℕ → Left → Type 0
Short n left = length left.vars ≤ n

abbrev ShortState : ℕ → Flow × State → Type 0
ShortState n w = length w.1.env.vars ≤ n

any_led : (o : Outcome (Flow × State)) → Only (λ w. Unit {0}) o
any_led (Done w turns) = tt
any_led (Faulted kind) = tt
any_led Stuck = tt

left_short : (n : ℕ) (w : Flow × State) (turns : ℕ) → ShortState n w → Only (Short n) (left_by w turns)
left_short n (F.Next, s) turns h = h
left_short n (F.Broken, s) turns h = tt
left_short n (F.Continued, s) turns h = tt
left_short n (F.Returned v, s) turns h = h

body_short : (bodies : Bodies) (row : List Statement) (env : Env) (turns : ℕ) → Only (Short (length env.vars)) (body_leaves bodies row env turns)
body_short bodies row env turns =
    let n = length env.vars in
    let begun : State = record { env = env; submits = [] } in
    only_followed (ShortState n) (Short n) (scoped (row_acts bodies row) begun turns) left_by
    (only_followed (λ w. Unit {0}) (ShortState n) (row_acts bodies row begun turns) _ (any_led (row_acts bodies row begun turns)) (λ w turns h.
    let is = length-take (length env.vars) w.1.env.vars in omega arith))
    (left_short n)

pub state_kept_law : StateKeptLaw
state_kept_law functions purpose l scope row env turns rest left h count none e =
    let bodies = bodies_of functions turns in
    let short : Short (length env.vars) left = subst (Only (Short (length env.vars))) e (body_short bodies row env turns) in
    same_lists left.vars env.vars short (λ i lt.
    let x = get_below scope.vars i (omega arith) in
    immutable_law functions purpose l scope row env turns rest left h (omega arith) e i x.0 x.1 (none i x.0 x.1))
