-- How many items each event of an operator causes, by the operator's clauses alone: an interval for the number of
-- submits of a body, statement by statement, and the class of an operator. A `return` makes the least number of its
-- body 0, and what comes after it still counts for the greatest.
use Rattle.std.specs.Prelude.{ℕ, zero, suc, ◌+◌, ◌==◌, nat_le, ◌&&◌, ◌||◌, Bool, true, false, if◌then◌else◌, List, [], ◌∷◌, map, Option, None, Some, option_map, min, max}
use Rattle.std.specs.Option.{option_and_then, option_map_or}
use Rattle.spl_tree.specs.declared.body.Statement.{Statement}
use Rattle.spl_tree.specs.declared.body.Statement.TheOpen as S
use Rattle.spl_tree.specs.declared.body.Statement.TheOpen.{Statement-F}
use Rattle.spl_tree.specs.declared.body.Statement.TheFolds.{fold-Statement}
use Rattle.spl_tree.specs.declared.code.Code.{Code}
use Rattle.spl_tree.specs.declared.code.Code.TheOpen as C
use Rattle.spl_tree.specs.declared.code.Code.TheOpen.{Code-F}
use Rattle.spl_tree.specs.declared.code.Code.TheViews.{out-Code}
use Rattle.spl_tree.specs.declared.code.Marker.{Marker}
use Rattle.spl_tree.specs.declared.code.Marker.TheVariants as M
use Rattle.spl_tree.specs.declared.code.Slot.{Slot}
use Rattle.language_model.specs.declared.checked.CheckedClauses.{CheckedClauses}
use Rattle.language_model.specs.declared.checked.CheckedClauses.TheVariants as A
use Rattle.language_model.specs.declared.checked.WindowRule.{WindowRule}
use Rattle.language_model.specs.declared.checked.WindowRule.TheVariants as W
use Rattle.language_model.specs.Evaluation.{same_marker}
use Rattle.stream_model.specs.declared.plan.Gives.{Gives}
use Rattle.stream_model.specs.declared.plan.Gives.TheVariants as G
use Rattle.stream_model.specs.Customs.{handler}

-- ---- intervals

-- the least number of submits where no `return` is reached, the greatest where there is one, and whether a `return`
-- stands there
pub record Interval : Type 0 where
  pub least : ℕ
  pub most : Option ℕ
  pub returns : Bool

abbrev pub exactly : ℕ → Interval
exactly n = record { least = n; most = Some n; returns = false }

-- one and then the other
abbrev pub both : Interval → Interval → Interval
both i j =
    record {
      least = i.least + j.least;
      most = option_and_then (λ m. option_map (λ n. m + n) j.most) i.most;
      returns = i.returns || j.returns;
    }

-- one or the other
abbrev pub either : Interval → Interval → Interval
either i j =
    record {
      least = min i.least j.least;
      most = option_and_then (λ m. option_map (λ n. max m n) j.most) i.most;
      returns = i.returns || j.returns;
    }

abbrev pub in_turn : List Interval → Interval
in_turn [] = exactly 0
in_turn (i ∷ is) = both i (in_turn is)

-- any number of times, whatever a marker decides of the condition: what submits nothing submits nothing however often
-- it comes
abbrev pub any_times : Option ℕ → Option ℕ
any_times (Some zero) = Some 0
any_times (Some (suc n)) = None
any_times None = None

abbrev pub repeated : Interval → Interval
repeated i = record { least = 0; most = any_times i.most; returns = i.returns }

-- ---- bodies

-- what the marker that came decides of a condition: `currentPunct() == Sys.WindowMarker` alone is decided
abbrev pub level_decided : {A : Type 0} → Option Marker → Code-F Slot A → Option Bool
level_decided marker (C.IsMarker M.Window) = option_map (same_marker M.Window) marker
level_decided marker _ = None

-- the one or the other where the marker decides that, and else either
abbrev pub chosen : Option Bool → Interval → Interval → Interval
chosen decision i j = option_map_or (λ b. if b then i else j) decision (either i j)

-- the statements after the first condition that is true, or else the others
abbrev pub of_arms : Option Marker → List (Code Slot × List Interval) → List Interval → Interval
of_arms marker [] other = in_turn other
of_arms marker (arm ∷ arms) other =
    chosen (level_decided marker (out-Code Slot arm.0)) (in_turn arm.1) (of_arms marker arms other)

abbrev pub level_interval : Option Marker → Statement-F Interval → Interval
level_interval marker (S.Block row) = in_turn row
level_interval marker (S.Declare code) = exactly 0
level_interval marker (S.Change place change) = exactly 0
level_interval marker (S.Evaluate code) = exactly 0
level_interval marker (S.Call i codes) = exactly 0
level_interval marker (S.If arms other) = of_arms marker arms other
level_interval marker (S.While code row) = repeated (in_turn row)
level_interval marker (S.For code row) = repeated (in_turn row)
level_interval marker S.Break = exactly 0
level_interval marker S.Continue = exactly 0
level_interval marker (S.Return code) = record { least = 0; most = Some 0; returns = true }
level_interval marker (S.Submit port code) = exactly 1
level_interval marker (S.SubmitWindow port) = exactly 1

-- of a body where this marker came, or none
abbrev pub row_interval : Option Marker → List Statement → Interval
row_interval marker row = in_turn (map (fold-Statement Interval (level_interval marker)) row)

-- a `return` makes the least number 0
abbrev pub least_number : Option Marker → List Statement → ℕ
least_number marker row = if (row_interval marker row).returns then 0 else (row_interval marker row).least

-- ---- a Custom

-- the greatest number of a body, where there is one; without a body nothing is submitted
abbrev pub greatest_of : Option Marker → Option (List Statement) → Option ℕ
greatest_of marker body = option_map_or (λ row. (row_interval marker row).most) body (Some 0)

-- the least and the greatest number are n
abbrev pub has_exactly : ℕ → Option Marker → Option (List Statement) → Bool
has_exactly n marker body =
    (option_map_or (least_number marker) body 0 == n) && option_map_or (λ m. m == n) (greatest_of marker body) false

abbrev pub has_at_most : ℕ → Option Marker → Option (List Statement) → Bool
has_at_most n marker body = option_map_or (λ m. nat_le m n) (greatest_of marker body) false

-- by the bodies of a port: a tuple, a window marker and the end
abbrev pub custom_gives : Option (List Statement) → Option (List Statement) → Gives
custom_gives tuple punct =
    if has_exactly 1 None tuple && (has_exactly 1 (Some M.Window) punct
    && has_exactly 0 (Some M.Final) punct) then G.One
    else if has_at_most 1 None tuple && (has_at_most 1 (Some M.Window) punct && has_at_most 0 (Some M.Final) punct)
    then G.AtMostOne
    else G.Many

-- ---- operators

abbrev pub is_single : {A : Type 0} → List A → Bool
is_single [] = false
is_single (x ∷ []) = true
is_single (x ∷ y ∷ xs) = false

abbrev pub one_unless : {A : Type 0} → Option A → Gives
one_unless condition = option_map_or (λ _. G.AtMostOne) condition G.One

-- a window without groups that slides gives at each trigger, and where that is each tuple, at each
abbrev pub window_gives : WindowRule → List ℕ → Gives
window_gives (W.SlidingCount n (Some (suc zero))) [] = G.One
window_gives (W.SlidingDelta a limit (Some (suc zero))) [] = G.One
window_gives (W.SlidingCount n every) [] = G.AtMostOne
window_gives (W.SlidingDelta a limit every) [] = G.AtMostOne
window_gives rule group = G.Many

-- A Custom with several ports isn't looked at further.
abbrev pub gives : CheckedClauses → Gives
gives (A.Filter condition) = one_unless condition
gives (A.Functor condition made) = one_unless condition
gives (A.Split index) = G.AtMostOne
gives (A.Union places) = G.AtMostOne
gives (A.Punctor condition position) = G.Many
gives (A.Custom handlers) =
    if is_single handlers.on_tuple then custom_gives (handler handlers.on_tuple 0) (handler handlers.on_punct 0)
    else G.Many
gives (A.Aggregate window partition group collects) = window_gives window.rule group
gives (A.FileSource file strict) = G.Many
gives (A.FileSink file) = G.Many
gives (A.Join left right condition made) = G.Many
