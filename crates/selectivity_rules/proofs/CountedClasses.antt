-- Classes by counts are those by numbers.
use Rattle.std.specs.Prelude.{◌≡◌, ◌==◌, ◌&&◌, ◌||◌, not, nat_le, ℕ, ℤ, zero, suc, Bool, true, false, if◌then◌else◌, List, [], ◌∷◌, length, Option, None, Some}
use Rattle.std.proofs.Common.{refl, sym, ap, ◌∙◌, arith}
use Rattle.std.proofs.lemmas.Bool.Decides.{nat_tests}
use Rattle.spl_tree.specs.declared.body.Statement.{Statement}
use Rattle.spl_tree.specs.declared.code.Marker.{Marker}
use Rattle.spl_tree.specs.declared.code.Marker.TheVariants as M
use Rattle.language_model.specs.declared.checked.Handlers.{Handlers}
use Rattle.language_model.specs.declared.checked.WindowRule.TheVariants as W
use Rattle.stream_model.specs.declared.plan.Gives.{Gives}
use Rattle.stream_model.specs.declared.plan.Gives.TheVariants as G
use Rattle.stream_model.specs.Customs.{handler}
use Rattle.stream_model.specs.Selectivity.{Interval, custom_gives, has_at_most, has_exactly, is_single, row_interval, window_gives}
use Rattle.stream_model.proofs.parts.Selectivity.{is_at_most, is_number}
use Rattle.selectivity_rules.specs.steps.Counts.{body_submits, cap, cap_most, capped, class_of, handlers_give, is_more, is_none, is_one, is_unit, is_zero, trigger_gives}

-- ---- numbers

unit_is : (n : ℕ) → (n == 1) ≡ is_unit (cap n)
unit_is zero = refl
unit_is (suc zero) = refl
unit_is (suc (suc n)) = let no : (suc (suc n) == 1) ≡ false = grind (arith, nat_tests) in no

zero_is : (n : ℕ) → (n == 0) ≡ is_zero (cap n)
zero_is zero = refl
zero_is (suc zero) = refl
zero_is (suc (suc n)) = let no : (suc (suc n) == 0) ≡ false = grind (arith, nat_tests) in no

within_one : (n : ℕ) → nat_le n 1 ≡ not (is_more (cap n))
within_one zero = refl
within_one (suc zero) = refl
within_one (suc (suc n)) = let no : nat_le (suc (suc n)) 1 ≡ false = grind (arith, nat_tests) in no

within_zero : (n : ℕ) → nat_le n 0 ≡ is_zero (cap n)
within_zero zero = refl
within_zero (suc zero) = refl
within_zero (suc (suc n)) = let no : nat_le (suc (suc n)) 0 ≡ false = grind (arith, nat_tests) in no

unit_most : (m : Option ℕ) → is_number 1 m ≡ is_unit (cap_most m)
unit_most None = refl
unit_most (Some n) = unit_is n

zero_most : (m : Option ℕ) → is_number 0 m ≡ is_zero (cap_most m)
zero_most None = refl
zero_most (Some n) = zero_is n

most_one : (m : Option ℕ) → is_at_most 1 m ≡ not (is_more (cap_most m))
most_one None = refl
most_one (Some n) = within_one n

most_zero : (m : Option ℕ) → is_at_most 0 m ≡ is_zero (cap_most m)
most_zero None = refl
most_zero (Some n) = within_zero n

-- ---- intervals

interval_one : (i : Interval) → (((if i.returns then 0 else i.least) == 1) && is_number 1 i.most) ≡ is_one (capped i)
interval_one i = by_case i.returns where
  by_case : (b : Bool) → (((if b then 0 else i.least) == 1) && is_number 1 i.most) ≡ (not b && (is_unit (cap i.least) && is_unit (cap_most i.most)))
  by_case true = refl
  by_case false = ap (λ x. x && is_number 1 i.most) (unit_is i.least) ∙ ap (λ x. is_unit (cap i.least) && x) (unit_most i.most)

interval_none : (i : Interval) → (((if i.returns then 0 else i.least) == 0) && is_number 0 i.most) ≡ is_none (capped i)
interval_none i = by_case i.returns where
  by_case : (b : Bool) → (((if b then 0 else i.least) == 0) && is_number 0 i.most) ≡ ((b || is_zero (cap i.least)) && is_zero (cap_most i.most))
  by_case true = zero_most i.most
  by_case false = ap (λ x. x && is_number 0 i.most) (zero_is i.least) ∙ ap (λ x. is_zero (cap i.least) && x) (zero_most i.most)

exactly_one : (marker : Option Marker) (body : Option (List Statement)) → has_exactly 1 marker body ≡ is_one (body_submits marker body)
exactly_one marker None = refl
exactly_one marker (Some row) = interval_one (row_interval marker row)

exactly_none : (marker : Option Marker) (body : Option (List Statement)) → has_exactly 0 marker body ≡ is_none (body_submits marker body)
exactly_none marker None = refl
exactly_none marker (Some row) = interval_none (row_interval marker row)

at_most_one : (marker : Option Marker) (body : Option (List Statement)) → has_at_most 1 marker body ≡ not (is_more (body_submits marker body).most)
at_most_one marker None = refl
at_most_one marker (Some row) = most_one (row_interval marker row).most

at_most_none : (marker : Option Marker) (body : Option (List Statement)) → has_at_most 0 marker body ≡ is_zero (body_submits marker body).most
at_most_none marker None = refl
at_most_none marker (Some row) = most_zero (row_interval marker row).most

-- ---- a Custom

abbrev class_by : Bool → Bool → Gives
class_by one most = if one then G.One else if most then G.AtMostOne else G.Many

custom_is : (tuple punct : Option (List Statement))
    → custom_gives tuple punct ≡ class_of (body_submits None tuple) (body_submits (Some M.Window) punct) (body_submits (Some M.Final) punct)
custom_is tuple punct = λ i.
    class_by (exactly_one None tuple i && (exactly_one (Some M.Window) punct i && exactly_none (Some M.Final) punct i))
    (at_most_one None tuple i && (at_most_one (Some M.Window) punct i && at_most_none (Some M.Final) punct i))

pub handlers_are : (handlers : Handlers) → handlers_give handlers
    ≡ (if is_single handlers.on_tuple then custom_gives (handler handlers.on_tuple 0) (handler handlers.on_punct 0) else G.Many)
handlers_are handlers = ap (λ class. if is_single handlers.on_tuple then class else G.Many) (sym (custom_is (handler handlers.on_tuple 0) (handler handlers.on_punct 0)))

pub one_alone : {A : Type 0} (xs : List A) → length xs ≡ 1 → is_single xs ≡ true
one_alone [] e = absurd (omega (arith, e))
one_alone (x ∷ []) e = refl
one_alone (x ∷ y ∷ xs) e = absurd (omega (arith, e))

-- ---- windows

every_other : (k : ℕ) → (suc (suc k) == 1) ≡ false
every_other k = grind (arith, nat_tests)

pub count_gives : (n : ℕ) (every : Option ℕ) → window_gives (W.SlidingCount n every) [] ≡ trigger_gives every
count_gives n None = refl
count_gives n (Some zero) = refl
count_gives n (Some (suc zero)) = refl
count_gives n (Some (suc (suc k))) = sym (ap (λ b. if b then G.One else G.AtMostOne) (every_other k))

pub delta_gives : (a : ℕ) (limit : ℤ) (every : Option ℕ) → window_gives (W.SlidingDelta a limit every) [] ≡ trigger_gives every
delta_gives a limit None = refl
delta_gives a limit (Some zero) = refl
delta_gives a limit (Some (suc zero)) = refl
delta_gives a limit (Some (suc (suc k))) = sym (ap (λ b. if b then G.One else G.AtMostOne) (every_other k))

pub ruleset window_laws = (count_gives, delta_gives)
