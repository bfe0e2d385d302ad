-- Numbers of items as far as they matter: none, one, or more.
use Rattle.std.specs.Prelude.{ℕ, zero, suc, ◌==◌, ◌&&◌, ◌||◌, not, Bool, true, false, if◌then◌else◌, List, Option, None, Some}
use Rattle.spl_tree.specs.declared.body.Statement.{Statement}
use Rattle.spl_tree.specs.declared.code.Marker.{Marker}
use Rattle.spl_tree.specs.declared.code.Marker.TheVariants as M
use Rattle.language_model.specs.declared.checked.Handlers.{Handlers}
use Rattle.stream_model.specs.declared.plan.Gives.{Gives}
use Rattle.stream_model.specs.declared.plan.Gives.TheVariants as G
use Rattle.stream_model.specs.Customs.{handler}
use Rattle.stream_model.specs.Selectivity.{Interval, is_single, row_interval}
use Rattle.selectivity_rules.specs.declared.counts.Count.{Count}
use Rattle.selectivity_rules.specs.declared.counts.Count.TheVariants as C
use Rattle.selectivity_rules.specs.declared.counts.Submits.{Submits}

abbrev pub plus : Count → Count → Count
plus C.Zero b = b
plus C.One C.Zero = C.One
plus C.One C.One = C.More
plus C.One C.More = C.More
plus C.More b = C.More

abbrev pub smaller : Count → Count → Count
smaller C.Zero b = C.Zero
smaller C.One C.Zero = C.Zero
smaller C.One C.One = C.One
smaller C.One C.More = C.One
smaller C.More b = b

abbrev pub larger : Count → Count → Count
larger C.Zero b = b
larger C.One C.Zero = C.One
larger C.One C.One = C.One
larger C.One C.More = C.More
larger C.More b = C.More

abbrev pub several : Count → Count
several C.Zero = C.Zero
several C.One = C.More
several C.More = C.More

abbrev pub both_of : Submits → Submits → Submits
both_of i j = record { least = plus i.least j.least; most = plus i.most j.most; returns = i.returns || j.returns }

abbrev pub either_of : Submits → Submits → Submits
either_of i j = record { least = smaller i.least j.least; most = larger i.most j.most; returns = i.returns || j.returns }

abbrev pub repeated_of : Submits → Submits
repeated_of i = record { least = C.Zero; most = several i.most; returns = i.returns }

abbrev pub none : Submits
none = record { least = C.Zero; most = C.Zero; returns = false }

abbrev pub one : Submits
one = record { least = C.One; most = C.One; returns = false }

abbrev pub returning : Submits
returning = record { least = C.Zero; most = C.Zero; returns = true }

abbrev pub joined : Option Submits → Submits → Submits
joined None i = i
joined (Some so_far) i = either_of so_far i

-- ---- of an interval

abbrev pub cap : ℕ → Count
cap zero = C.Zero
cap (suc zero) = C.One
cap (suc (suc n)) = C.More

abbrev pub cap_most : Option ℕ → Count
cap_most None = C.More
cap_most (Some n) = cap n

abbrev pub capped : Interval → Submits
capped i = record { least = cap i.least; most = cap_most i.most; returns = i.returns }

-- ---- a Custom

-- of the body of a port, where there is one
abbrev pub body_submits : Option Marker → Option (List Statement) → Submits
body_submits marker None = none
body_submits marker (Some row) = capped (row_interval marker row)

abbrev pub is_zero : Count → Bool
is_zero C.Zero = true
is_zero C.One = false
is_zero C.More = false

abbrev pub is_unit : Count → Bool
is_unit C.Zero = false
is_unit C.One = true
is_unit C.More = false

abbrev pub is_more : Count → Bool
is_more C.Zero = false
is_more C.One = false
is_more C.More = true

-- exactly one, and exactly none: a `return` makes the least number 0
abbrev pub is_one : Submits → Bool
is_one s = not s.returns && (is_unit s.least && is_unit s.most)

abbrev pub is_none : Submits → Bool
is_none s = (s.returns || is_zero s.least) && is_zero s.most

-- the class by what is submitted on a tuple, on a window marker and at the end
abbrev pub class_of : Submits → Submits → Submits → Gives
class_of tuple window end =
    if is_one tuple && (is_one window && is_none end) then G.One
    else if not (is_more tuple.most) && (not (is_more window.most) && is_zero end.most) then G.AtMostOne
    else G.Many

-- a Custom with several ports isn't looked at further
abbrev pub handlers_give : Handlers → Gives
handlers_give handlers =
    if is_single handlers.on_tuple
    then class_of (body_submits None (handler handlers.on_tuple 0)) (body_submits (Some M.Window) (handler handlers.on_punct 0)) (body_submits (Some M.Final) (handler handlers.on_punct 0))
    else G.Many

-- ---- a window that slides

abbrev pub trigger_gives : Option ℕ → Gives
trigger_gives None = G.AtMostOne
trigger_gives (Some every) = if every == 1 then G.One else G.AtMostOne
