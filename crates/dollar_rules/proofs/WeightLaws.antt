-- How large a code is, by the codes that stand in it: two equations for each form.
use Rattle.std.proofs.Common.{◌≡◌, ◌∙◌, ℕ, ◌+◌, List, [], ◌∷◌, refl, ap}
use Rattle.std.specs.Prelude.{map}
use Rattle.spl_value.specs.declared.value.Value.{Value}
use Rattle.spl_tree.specs.declared.code.Code.{Code}
use Rattle.spl_tree.specs.declared.code.Code.TheVariants as V
use Rattle.spl_tree.specs.declared.code.Code.TheOpen as C
use Rattle.spl_tree.specs.declared.code.Code.TheOpen.{Code-F}
use Rattle.spl_tree.specs.declared.code.Code.TheViews.{out-Code}
use Rattle.spl_tree.specs.declared.code.Code.TheFolds.{fold_out-Code, map-Code}
use Rattle.spl_tree.specs.declared.code.BinaryCode.{BinaryCode}
use Rattle.spl_tree.specs.declared.code.BuiltIn.{BuiltIn}
use Rattle.spl_tree.specs.declared.code.Marker.{Marker}
use Rattle.spl_tree.specs.declared.code.Selector.{Selector}
use Rattle.spl_tree.specs.declared.code.Selector.TheVariants as K
use Rattle.spl_tree.specs.declared.code.Slot.{Slot}
use Rattle.spl_tree.specs.declared.code.UnaryCode.{UnaryCode}
use Rattle.dollar_rules.specs.steps.Weights.{depth, depth_in, entry_codes, field_codes, greatest, inner, level_depth, level_parts, parts, parts_in, selector_codes, total}

abbrev but_first : List ℕ → List ℕ
but_first [] = []
but_first (n ∷ ns) = ns

-- what each code in a code becomes
inner-map : (f : Code Slot → ℕ) (x : Code-F Slot (Code Slot)) → inner (map-Code Slot (Code Slot) ℕ f x) ≡ map f (inner x)
inner-map f (C.List xs) = along xs
  where
    along : (xs : List (Code Slot)) → inner (map-Code Slot (Code Slot) ℕ f (C.List xs)) ≡ map f xs
    along [] = refl
    along (x ∷ xs) = ap (λ ns. f x ∷ ns) (along xs)
inner-map f (C.Map es) = along es
  where
    along : (es : List (Code Slot × Code Slot)) → inner (map-Code Slot (Code Slot) ℕ f (C.Map es)) ≡ map f (entry_codes es)
    along [] = refl
    along (e ∷ es) = ap (λ ns. f e.0 ∷ f e.1 ∷ ns) (along es)
inner-map f (C.Tuple fs) = along fs
  where
    along : (fs : List (ℕ × Code Slot)) → inner (map-Code Slot (Code Slot) ℕ f (C.Tuple fs)) ≡ map f (field_codes fs)
    along [] = refl
    along (e ∷ fs) = ap (λ ns. f e.1 ∷ ns) (along fs)
inner-map f (C.Select x ss) = ap (λ ns. f x ∷ ns) (along ss)
  where
    along : (ss : List (Selector (Code Slot))) → but_first (inner (map-Code Slot (Code Slot) ℕ f (C.Select x ss))) ≡ map f (selector_codes ss)
    along [] = refl
    along (K.Member place ∷ ss) = along ss
    along (K.Element y ∷ ss) = ap (λ ns. f y ∷ ns) (along ss)
    along (K.AtKey y ∷ ss) = ap (λ ns. f y ∷ ns) (along ss)
inner-map f (C.BuiltIn call xs) = along xs
  where
    along : (xs : List (Code Slot)) → inner (map-Code Slot (Code Slot) ℕ f (C.BuiltIn call xs)) ≡ map f xs
    along [] = refl
    along (x ∷ xs) = ap (λ ns. f x ∷ ns) (along xs)
inner-map f (C.Call place xs) = along xs
  where
    along : (xs : List (Code Slot)) → inner (map-Code Slot (Code Slot) ℕ f (C.Call place xs)) ≡ map f xs
    along [] = refl
    along (x ∷ xs) = ap (λ ns. f x ∷ ns) (along xs)
inner-map f (C.Unary ops x) = refl
inner-map f (C.Binary op x y) = refl
inner-map f (C.Conditional c x y) = refl
inner-map f (C.Literal v) = refl
inner-map f (C.Name s) = refl
inner-map f (C.IsMarker m) = refl
inner-map f (C.IsNotMarker m) = refl

parts_at : (k : Code Slot) (x : Code-F Slot (Code Slot)) → out-Code Slot k ≡ x → parts k ≡ 1 + parts_in (inner x)
parts_at k x e =
    fold_out-Code Slot ℕ level_parts k ∙ (ap (λ y. level_parts (map-Code Slot (Code Slot) ℕ parts y)) e ∙ ap (λ ns. 1 + total ns) (inner-map parts x))

depth_at : (k : Code Slot) (x : Code-F Slot (Code Slot)) → out-Code Slot k ≡ x → depth k ≡ 1 + depth_in (inner x)
depth_at k x e =
    fold_out-Code Slot ℕ level_depth k ∙ (ap (λ y. level_depth (map-Code Slot (Code Slot) ℕ depth y)) e ∙ ap (λ ns. 1 + greatest ns) (inner-map depth x))

pub parts-literal : (v : Value) → parts (V.Literal v) ≡ 1
parts-literal v = parts_at (V.Literal v) (C.Literal v) (V.outs-Literal v)

pub parts-name : (s : Slot) → parts (V.Name s) ≡ 1
parts-name s = parts_at (V.Name s) (C.Name s) (V.outs-Name s)

pub parts-list : (xs : List (Code Slot)) → parts (V.List xs) ≡ 1 + parts_in xs
parts-list xs = parts_at (V.List xs) (C.List xs) (V.outs-List xs)

pub parts-map : (es : List (Code Slot × Code Slot)) → parts (V.Map es) ≡ 1 + parts_in (entry_codes es)
parts-map es = parts_at (V.Map es) (C.Map es) (V.outs-Map es)

pub parts-tuple : (fs : List (ℕ × Code Slot)) → parts (V.Tuple fs) ≡ 1 + parts_in (field_codes fs)
parts-tuple fs = parts_at (V.Tuple fs) (C.Tuple fs) (V.outs-Tuple fs)

pub parts-select : (x : Code Slot) (ss : List (Selector (Code Slot))) → parts (V.Select x ss) ≡ 1 + parts_in (x ∷ selector_codes ss)
parts-select x ss = parts_at (V.Select x ss) (C.Select x ss) (V.outs-Select x ss)

pub parts-unary : (ops : List UnaryCode) (x : Code Slot) → parts (V.Unary ops x) ≡ 1 + parts_in (x ∷ [])
parts-unary ops x = parts_at (V.Unary ops x) (C.Unary ops x) (V.outs-Unary ops x)

pub parts-binary : (op : BinaryCode) (x y : Code Slot) → parts (V.Binary op x y) ≡ 1 + parts_in (x ∷ y ∷ [])
parts-binary op x y = parts_at (V.Binary op x y) (C.Binary op x y) (V.outs-Binary op x y)

pub parts-conditional : (c x y : Code Slot) → parts (V.Conditional c x y) ≡ 1 + parts_in (c ∷ x ∷ y ∷ [])
parts-conditional c x y = parts_at (V.Conditional c x y) (C.Conditional c x y) (V.outs-Conditional c x y)

pub parts-built_in : (call : BuiltIn) (xs : List (Code Slot)) → parts (V.BuiltIn call xs) ≡ 1 + parts_in xs
parts-built_in call xs = parts_at (V.BuiltIn call xs) (C.BuiltIn call xs) (V.outs-BuiltIn call xs)

pub parts-call : (place : ℕ) (xs : List (Code Slot)) → parts (V.Call place xs) ≡ 1 + parts_in xs
parts-call place xs = parts_at (V.Call place xs) (C.Call place xs) (V.outs-Call place xs)

pub parts-is_marker : (m : Marker) → parts (V.IsMarker m) ≡ 1
parts-is_marker m = parts_at (V.IsMarker m) (C.IsMarker m) (V.outs-IsMarker m)

pub parts-is_not_marker : (m : Marker) → parts (V.IsNotMarker m) ≡ 1
parts-is_not_marker m = parts_at (V.IsNotMarker m) (C.IsNotMarker m) (V.outs-IsNotMarker m)

pub depth-literal : (v : Value) → depth (V.Literal v) ≡ 1
depth-literal v = depth_at (V.Literal v) (C.Literal v) (V.outs-Literal v)

pub depth-name : (s : Slot) → depth (V.Name s) ≡ 1
depth-name s = depth_at (V.Name s) (C.Name s) (V.outs-Name s)

pub depth-list : (xs : List (Code Slot)) → depth (V.List xs) ≡ 1 + depth_in xs
depth-list xs = depth_at (V.List xs) (C.List xs) (V.outs-List xs)

pub depth-map : (es : List (Code Slot × Code Slot)) → depth (V.Map es) ≡ 1 + depth_in (entry_codes es)
depth-map es = depth_at (V.Map es) (C.Map es) (V.outs-Map es)

pub depth-tuple : (fs : List (ℕ × Code Slot)) → depth (V.Tuple fs) ≡ 1 + depth_in (field_codes fs)
depth-tuple fs = depth_at (V.Tuple fs) (C.Tuple fs) (V.outs-Tuple fs)

pub depth-select : (x : Code Slot) (ss : List (Selector (Code Slot))) → depth (V.Select x ss) ≡ 1 + depth_in (x ∷ selector_codes ss)
depth-select x ss = depth_at (V.Select x ss) (C.Select x ss) (V.outs-Select x ss)

pub depth-unary : (ops : List UnaryCode) (x : Code Slot) → depth (V.Unary ops x) ≡ 1 + depth_in (x ∷ [])
depth-unary ops x = depth_at (V.Unary ops x) (C.Unary ops x) (V.outs-Unary ops x)

pub depth-binary : (op : BinaryCode) (x y : Code Slot) → depth (V.Binary op x y) ≡ 1 + depth_in (x ∷ y ∷ [])
depth-binary op x y = depth_at (V.Binary op x y) (C.Binary op x y) (V.outs-Binary op x y)

pub depth-conditional : (c x y : Code Slot) → depth (V.Conditional c x y) ≡ 1 + depth_in (c ∷ x ∷ y ∷ [])
depth-conditional c x y = depth_at (V.Conditional c x y) (C.Conditional c x y) (V.outs-Conditional c x y)

pub depth-built_in : (call : BuiltIn) (xs : List (Code Slot)) → depth (V.BuiltIn call xs) ≡ 1 + depth_in xs
depth-built_in call xs = depth_at (V.BuiltIn call xs) (C.BuiltIn call xs) (V.outs-BuiltIn call xs)

pub depth-call : (place : ℕ) (xs : List (Code Slot)) → depth (V.Call place xs) ≡ 1 + depth_in xs
depth-call place xs = depth_at (V.Call place xs) (C.Call place xs) (V.outs-Call place xs)

pub depth-is_marker : (m : Marker) → depth (V.IsMarker m) ≡ 1
depth-is_marker m = depth_at (V.IsMarker m) (C.IsMarker m) (V.outs-IsMarker m)

pub depth-is_not_marker : (m : Marker) → depth (V.IsNotMarker m) ≡ 1
depth-is_not_marker m = depth_at (V.IsNotMarker m) (C.IsNotMarker m) (V.outs-IsNotMarker m)

pub ruleset weight_laws = (parts-literal, parts-name, parts-list, parts-map, parts-tuple, parts-select, parts-unary, parts-binary, parts-conditional, parts-built_in, parts-call, parts-is_marker, parts-is_not_marker, depth-literal, depth-name, depth-list, depth-map, depth-tuple, depth-select, depth-unary, depth-binary, depth-conditional, depth-built_in, depth-call, depth-is_marker, depth-is_not_marker)
