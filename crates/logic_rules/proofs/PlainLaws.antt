-- Whether a code is one of literals, by its parts: an equation for each form.
use Rattle.std.proofs.Common.{◌≡◌, ◌∙◌, ℕ, Bool, true, false, List, [], ◌∷◌, refl, ap}
use Rattle.std.specs.Prelude.{◌&&◌}
use Rattle.std.specs.List.{list_all}
use Rattle.spl_value.specs.declared.value.Value.{Value}
use Rattle.spl_tree.specs.declared.code.BinaryCode.{BinaryCode}
use Rattle.spl_tree.specs.declared.code.BuiltIn.{BuiltIn}
use Rattle.spl_tree.specs.declared.code.Marker.{Marker}
use Rattle.spl_tree.specs.declared.code.Code.{Code}
use Rattle.spl_tree.specs.declared.code.Code.TheVariants as V
use Rattle.spl_tree.specs.declared.code.Code.TheOpen as C
use Rattle.spl_tree.specs.declared.code.Code.TheFolds.{map-Code}
use Rattle.spl_tree.specs.declared.code.Slot.{Slot}
use Rattle.spl_tree.specs.declared.code.Selector.{Selector}
use Rattle.spl_tree.specs.declared.code.UnaryCode.{UnaryCode}
use Rattle.language_model.specs.LogicTyping.{is_minus, level_plain}
use Rattle.language_model.specs.parts.LogicTyping.{is_plain}
use Rattle.language_model.proofs.PlainCodes.{plain_at}

pub of_literal : (v : Value) → is_plain (V.Literal v) ≡ true
of_literal v = plain_at (V.Literal v) (C.Literal v) (V.outs-Literal v)

pub of_name : (slot : Slot) → is_plain (V.Name slot) ≡ false
of_name slot = plain_at (V.Name slot) (C.Name slot) (V.outs-Name slot)

pub of_list : (xs : List (Code Slot)) → is_plain (V.List xs) ≡ list_all is_plain xs
of_list xs = plain_at (V.List xs) (C.List xs) (V.outs-List xs) ∙ along xs
  where
    along : (xs : List (Code Slot)) → level_plain (map-Code Slot (Code Slot) Bool is_plain (C.List xs)) ≡ list_all is_plain xs
    along [] = refl
    along (x ∷ xs) = ap (λ b. is_plain x && b) (along xs)

pub of_map : (xs : List (Code Slot × Code Slot)) → is_plain (V.Map xs) ≡ list_all (λ x. is_plain x.0 && is_plain x.1) xs
of_map xs = plain_at (V.Map xs) (C.Map xs) (V.outs-Map xs) ∙ along xs
  where
    along : (xs : List (Code Slot × Code Slot)) → level_plain (map-Code Slot (Code Slot) Bool is_plain (C.Map xs)) ≡ list_all (λ x. is_plain x.0 && is_plain x.1) xs
    along [] = refl
    along (x ∷ xs) = ap (λ b. (is_plain x.0 && is_plain x.1) && b) (along xs)

pub of_tuple : (fs : List (ℕ × Code Slot)) → is_plain (V.Tuple fs) ≡ list_all (λ f. is_plain f.1) fs
of_tuple fs = plain_at (V.Tuple fs) (C.Tuple fs) (V.outs-Tuple fs) ∙ along fs
  where
    along : (fs : List (ℕ × Code Slot)) → level_plain (map-Code Slot (Code Slot) Bool is_plain (C.Tuple fs)) ≡ list_all (λ f. is_plain f.1) fs
    along [] = refl
    along (f ∷ fs) = ap (λ b. is_plain f.1 && b) (along fs)

pub of_select : (base : Code Slot) (ts : List (Selector (Code Slot))) → is_plain (V.Select base ts) ≡ false
of_select base ts = plain_at (V.Select base ts) (C.Select base ts) (V.outs-Select base ts)

pub of_unary : (ops : List UnaryCode) (x : Code Slot) → is_plain (V.Unary ops x) ≡ (list_all is_minus ops && is_plain x)
of_unary ops x = plain_at (V.Unary ops x) (C.Unary ops x) (V.outs-Unary ops x)

pub of_binary : (op : BinaryCode) (l r : Code Slot) → is_plain (V.Binary op l r) ≡ false
of_binary op l r = plain_at (V.Binary op l r) (C.Binary op l r) (V.outs-Binary op l r)

pub of_conditional : (c a b : Code Slot) → is_plain (V.Conditional c a b) ≡ false
of_conditional c a b = plain_at (V.Conditional c a b) (C.Conditional c a b) (V.outs-Conditional c a b)

pub of_built_in : (call : BuiltIn) (xs : List (Code Slot)) → is_plain (V.BuiltIn call xs) ≡ false
of_built_in call xs = plain_at (V.BuiltIn call xs) (C.BuiltIn call xs) (V.outs-BuiltIn call xs)

pub of_call : (place : ℕ) (xs : List (Code Slot)) → is_plain (V.Call place xs) ≡ false
of_call place xs = plain_at (V.Call place xs) (C.Call place xs) (V.outs-Call place xs)

pub of_is_marker : (m : Marker) → is_plain (V.IsMarker m) ≡ false
of_is_marker m = plain_at (V.IsMarker m) (C.IsMarker m) (V.outs-IsMarker m)

pub of_is_not_marker : (m : Marker) → is_plain (V.IsNotMarker m) ≡ false
of_is_not_marker m = plain_at (V.IsNotMarker m) (C.IsNotMarker m) (V.outs-IsNotMarker m)

pub ruleset plain_laws =
    (of_literal, of_name, of_list, of_map, of_tuple, of_select, of_unary, of_binary, of_conditional, of_built_in, of_call, of_is_marker, of_is_not_marker)
