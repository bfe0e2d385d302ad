-- How much a code weighs, by which a recursion over its parts ends.
use Rattle.std.proofs.Common.{◌≡◌, ◌∙◌, ℕ, ◌+◌, List, [], ◌∷◌, refl, ap, arith}
use Rattle.spl_tree.specs.declared.code.Code.{Code}
use Rattle.spl_tree.specs.declared.code.Code.TheVariants as V
use Rattle.spl_tree.specs.declared.code.Code.TheOpen as C
use Rattle.spl_tree.specs.declared.code.Code.TheOpen.{Code-F}
use Rattle.spl_tree.specs.declared.code.Code.TheViews.{out-Code}
use Rattle.spl_tree.specs.declared.code.Code.TheFolds.{fold-Code, fold_out-Code, map-Code}
use Rattle.spl_tree.specs.declared.code.Slot.{Slot}
use Rattle.spl_tree.specs.declared.code.BinaryCode.{BinaryCode}
use Rattle.spl_tree.specs.declared.code.BuiltIn.{BuiltIn}
use Rattle.spl_tree.specs.declared.code.Selector.{Selector}
use Rattle.spl_tree.specs.declared.code.Selector.TheVariants as K
use Rattle.spl_tree.specs.declared.code.UnaryCode.{UnaryCode}
use Rattle.spl_value.proofs.Lists.{total}

abbrev taken : Selector ℕ → ℕ
taken (K.Member place) = 0
taken (K.Element x) = x
taken (K.AtKey x) = x

abbrev level_weight : Code-F Slot ℕ → ℕ
level_weight (C.List xs) = 2 + total (λ x. x) xs
level_weight (C.Map xs) = 2 + total (λ x. x.0 + x.1) xs
level_weight (C.Tuple fs) = 2 + total (λ f. f.1) fs
level_weight (C.Select x ts) = 3 + (x + total taken ts)
level_weight (C.Unary ops x) = 2 + x
level_weight (C.Binary op x y) = 2 + (x + y)
level_weight (C.Conditional c x y) = 2 + (c + (x + y))
level_weight (C.BuiltIn call xs) = 3 + total (λ x. x) xs
level_weight (C.Call place xs) = 3 + total (λ x. x) xs
level_weight _ = 1

abbrev pub weight : Code Slot → ℕ
weight = fold-Code Slot ℕ level_weight

abbrev pub weights : List (Code Slot) → ℕ
weights xs = total weight xs

abbrev pub entry_weight : Code Slot × Code Slot → ℕ
entry_weight e = weight e.0 + weight e.1

abbrev pub entry_weights : List (Code Slot × Code Slot) → ℕ
entry_weights xs = total entry_weight xs

abbrev pub field_weight : ℕ × Code Slot → ℕ
field_weight f = weight f.1

abbrev pub field_weights : List (ℕ × Code Slot) → ℕ
field_weights fs = total field_weight fs

abbrev pub taking_weight : Selector (Code Slot) → ℕ
taking_weight (K.Member place) = 0
taking_weight (K.Element x) = weight x
taking_weight (K.AtKey x) = weight x

abbrev pub taking_weights : List (Selector (Code Slot)) → ℕ
taking_weights ts = total taking_weight ts

at_level : (k : Code Slot) (x : Code-F Slot (Code Slot)) → out-Code Slot k ≡ x → weight k ≡ level_weight (map-Code Slot (Code Slot) ℕ weight x)
at_level k x e = fold_out-Code Slot ℕ level_weight k ∙ ap (λ y. level_weight (map-Code Slot (Code Slot) ℕ weight y)) e

pub list_weight : (xs : List (Code Slot)) → weight (V.List xs) ≡ 2 + weights xs
list_weight xs = at_level (V.List xs) (C.List xs) (V.outs-List xs) ∙ along xs
  where
    along : (xs : List (Code Slot)) → level_weight (map-Code Slot (Code Slot) ℕ weight (C.List xs)) ≡ 2 + weights xs
    along [] = refl
    along (x ∷ xs) = let h = along xs in omega arith

pub map_weight : (xs : List (Code Slot × Code Slot)) → weight (V.Map xs) ≡ 2 + entry_weights xs
map_weight xs = at_level (V.Map xs) (C.Map xs) (V.outs-Map xs) ∙ along xs
  where
    along : (xs : List (Code Slot × Code Slot)) → level_weight (map-Code Slot (Code Slot) ℕ weight (C.Map xs)) ≡ 2 + entry_weights xs
    along [] = refl
    along (x ∷ xs) = let h = along xs in omega arith

pub tuple_weight : (fs : List (ℕ × Code Slot)) → weight (V.Tuple fs) ≡ 2 + field_weights fs
tuple_weight fs = at_level (V.Tuple fs) (C.Tuple fs) (V.outs-Tuple fs) ∙ along fs
  where
    along : (fs : List (ℕ × Code Slot)) → level_weight (map-Code Slot (Code Slot) ℕ weight (C.Tuple fs)) ≡ 2 + field_weights fs
    along [] = refl
    along (f ∷ fs) = let h = along fs in omega arith

pub select_weight : (x : Code Slot) (ts : List (Selector (Code Slot))) → weight (V.Select x ts) ≡ 3 + (weight x + taking_weights ts)
select_weight x ts = at_level (V.Select x ts) (C.Select x ts) (V.outs-Select x ts) ∙ along ts
  where
    along : (ts : List (Selector (Code Slot))) → level_weight (map-Code Slot (Code Slot) ℕ weight (C.Select x ts)) ≡ 3 + (weight x + taking_weights ts)
    along [] = refl
    along (K.Member place ∷ ts) = let h = along ts in omega arith
    along (K.Element y ∷ ts) = let h = along ts in omega arith
    along (K.AtKey y ∷ ts) = let h = along ts in omega arith

pub unary_weight : (ops : List UnaryCode) (x : Code Slot) → weight (V.Unary ops x) ≡ 2 + weight x
unary_weight ops x = at_level (V.Unary ops x) (C.Unary ops x) (V.outs-Unary ops x)

pub binary_weight : (op : BinaryCode) (x y : Code Slot) → weight (V.Binary op x y) ≡ 2 + (weight x + weight y)
binary_weight op x y = at_level (V.Binary op x y) (C.Binary op x y) (V.outs-Binary op x y)

pub conditional_weight : (c x y : Code Slot) → weight (V.Conditional c x y) ≡ 2 + (weight c + (weight x + weight y))
conditional_weight c x y = at_level (V.Conditional c x y) (C.Conditional c x y) (V.outs-Conditional c x y)

pub built_in_weight : (call : BuiltIn) (xs : List (Code Slot)) → weight (V.BuiltIn call xs) ≡ 3 + weights xs
built_in_weight call xs = at_level (V.BuiltIn call xs) (C.BuiltIn call xs) (V.outs-BuiltIn call xs) ∙ along xs
  where
    along : (xs : List (Code Slot)) → level_weight (map-Code Slot (Code Slot) ℕ weight (C.BuiltIn call xs)) ≡ 3 + weights xs
    along [] = refl
    along (x ∷ xs) = let h = along xs in omega arith

pub call_weight : (place : ℕ) (xs : List (Code Slot)) → weight (V.Call place xs) ≡ 3 + weights xs
call_weight place xs = at_level (V.Call place xs) (C.Call place xs) (V.outs-Call place xs) ∙ along xs
  where
    along : (xs : List (Code Slot)) → level_weight (map-Code Slot (Code Slot) ℕ weight (C.Call place xs)) ≡ 3 + weights xs
    along [] = refl
    along (x ∷ xs) = let h = along xs in omega arith

pub ruleset weight_laws = (list_weight, map_weight, tuple_weight, select_weight, unary_weight, binary_weight, conditional_weight, built_in_weight, call_weight)
