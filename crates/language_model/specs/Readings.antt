-- What an expression is to the place in which it stands, beside its value: a name, the root of a place, a question for
-- the marker that came, or a marker.
use Rattle.std.specs.Prelude.{ℕ, Bool, false, List, [], ◌∷◌, if◌then◌else◌, codes, Option, Some, None}
use Rattle.std.specs.Str.{bytes_eq}
use Rattle.spl_tree.specs.declared.expression.Step.{Step}
use Rattle.spl_tree.specs.declared.expression.Step.TheVariants as N
use Rattle.spl_tree.specs.declared.expression.ExprKind.{ExprKind}
use Rattle.spl_tree.specs.declared.expression.ExprKind.TheOpen as X
use Rattle.spl_tree.specs.declared.expression.ExprKind.TheOpen.{ExprKind-F}
use Rattle.spl_tree.specs.declared.expression.ExprKind.TheFolds.{fold-ExprKind, para-ExprKind}
use Rattle.spl_tree.specs.declared.code.Marker.{Marker}
use Rattle.spl_tree.specs.declared.code.Marker.TheVariants as M

-- ---- names

abbrev pub level_name : ExprKind-F (Option (List ℕ)) → Option (List ℕ)
level_name (X.Name name) = Some name
level_name (X.Group e) = e.what
level_name _ = None

-- the name that an expression is, in parentheses or not
abbrev pub name_of : ExprKind → Option (List ℕ)
name_of = fold-ExprKind (Option (List ℕ)) level_name

abbrev pub level_root : ExprKind-F (Option (List ℕ)) → Option (List ℕ)
level_root (X.Name name) = Some name
level_root (X.Select base steps) = base.what
level_root _ = None

-- the name at the root of a place, as of `x`, `x.a` and `x[0].b`; none where a part of it stands in parentheses
abbrev pub root_of : ExprKind → Option (List ℕ)
root_of = fold-ExprKind (Option (List ℕ)) level_root

-- ---- markers

abbrev pub level_asks : ExprKind-F Bool → Bool
level_asks (X.Call name []) = bytes_eq name (codes "currentPunct")
level_asks (X.Group e) = e.what
level_asks _ = false

-- it is `currentPunct()`, in parentheses or not
abbrev pub asks_punct : ExprKind → Bool
asks_punct = fold-ExprKind Bool level_asks

-- the marker that a member of `Sys` is
abbrev pub marker_of : List ℕ → Option Marker
marker_of name =
    if bytes_eq name (codes "WindowMarker") then Some M.Window
    else if bytes_eq name (codes "FinalMarker") then Some M.Final else None

-- the marker that is taken of `Sys`, by one step
abbrev pub marker_in : {A : Type 0} → Option (List ℕ) → List (Step A) → Option Marker
marker_in (Some base) (N.Member m ∷ []) = if bytes_eq base (codes "Sys") then marker_of m.what else None
marker_in _ _ = None

-- each part comes with the marker that it is
abbrev pub level_marker : ExprKind-F (ExprKind × Option Marker) → Option Marker
level_marker (X.Group e) = e.what.1
level_marker (X.Select base steps) = marker_in (root_of base.what.0) steps
level_marker _ = None

-- the marker that it is, `Sys.WindowMarker` or `Sys.FinalMarker`, in parentheses or not
abbrev pub named_marker : ExprKind → Option Marker
named_marker = para-ExprKind (Option Marker) level_marker
