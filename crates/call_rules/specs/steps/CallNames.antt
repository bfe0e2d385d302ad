-- The calls that the language has built in, by their names.
use Rattle.std.specs.Prelude.{ℕ, List, codes, if◌then◌else◌, Option, Some, None}
use Rattle.std.specs.Str.{bytes_eq}
use Rattle.spl_tree.specs.declared.code.CallName.{CallName}
use Rattle.spl_tree.specs.declared.code.CallName.TheVariants as A

-- those that look at a value as a whole
abbrev pub looking : List ℕ → Option CallName
looking name =
    if bytes_eq name (codes "length") then Some A.Length
    else (if bytes_eq name (codes "size") then Some A.Size
    else (if bytes_eq name (codes "has") then Some A.Has
    else None))

-- those that change their first argument
abbrev pub changing : List ℕ → Option CallName
changing name =
    if bytes_eq name (codes "appendM") then Some A.AppendM
    else (if bytes_eq name (codes "removeM") then Some A.RemoveM
    else (if bytes_eq name (codes "clearM") then Some A.ClearM
    else None))

-- those that compute a value of its own
abbrev pub computing : List ℕ → Option CallName
computing name =
    if bytes_eq name (codes "abs") then Some A.Abs
    else (if bytes_eq name (codes "min") then Some A.Min
    else (if bytes_eq name (codes "max") then Some A.Max
    else (if bytes_eq name (codes "substring") then Some A.Substring
    else (if bytes_eq name (codes "currentPunct") then Some A.CurrentPunct
    else None))))
