-- The built-in calls give what the words of their own contracts say.
use Rattle.std.specs.Prelude.{◌≡◌, pos, negsuc, if◌then◌else◌, [], ◌∷◌, Some}
use Rattle.std.proofs.Common.{refl, sym, ap, ◌∙◌}
use Rattle.spl_value.specs.declared.types.IntKind.{IntKind}
use Rattle.spl_value.specs.declared.value.Value.{Value}
use Rattle.spl_value.specs.declared.value.Value.TheVariants as V
use Rattle.spl_value.specs.declared.value.Value.TheOpen as O
use Rattle.spl_value.specs.declared.value.Value.TheOpen.{Value-F}
use Rattle.spl_value.specs.declared.value.Value.TheViews.{out-Value, roll-Value, roll-out-Value}
use Rattle.spl_value.specs.Calls.{Gives, Unfit, length_at, length_of, size_at, size_of, has_at, has_key, append_at, append_of, remove_at, remove_of, clear_at, clear_of, abs_at, abs_of, are_alike, if_alike, lesser, greater, min_of, max_of, substring_at, substring_of}
use Rattle.spl_tree.specs.declared.body.Change.TheVariants as H
use Rattle.spl_tree.specs.declared.code.BuiltIn.TheVariants as Q
use Rattle.language_model.specs.BuiltInCalls.{level_call, level_place_call}
use Rattle.language_model.specs.parts.BuiltInCalls.{built_in_of}
use Rattle.language_model.specs.Changes.{change_of}

-- ---- by the forms of the arguments

length_form : (x : Value-F Value) → level_call Q.Length (x ∷ []) ≡ length_at x
length_form (O.Text bytes) = refl
length_form _ = refl

size_form : (x : Value-F Value) → level_call Q.Size (x ∷ []) ≡ size_at x
size_form (O.List vs) = refl
size_form (O.Map ps) = refl
size_form _ = refl

has_form : (x y : Value-F Value) → level_call Q.Has (x ∷ y ∷ []) ≡ has_at x (roll-Value y)
has_form (O.Map ps) y = refl
has_form _ y = refl

abs_form : (kind : IntKind) (x : Value-F Value) → level_call (Q.Abs kind) (x ∷ []) ≡ abs_at kind x
abs_form kind (O.Int n) = refl
abs_form kind _ = refl

min_form : (x y : Value-F Value) → level_call Q.Min (x ∷ y ∷ []) ≡ (if are_alike x y then Gives (lesser (roll-Value x) (roll-Value y)) else Unfit)
min_form (O.Int m) (O.Int n) = λ i. Gives (lesser (sym (V.rolls-Int m) i) (sym (V.rolls-Int n) i))
min_form (O.Text xs) (O.Text ys) = λ i. Gives (lesser (sym (V.rolls-Text xs) i) (sym (V.rolls-Text ys) i))
min_form _ _ = refl

max_form : (x y : Value-F Value) → level_call Q.Max (x ∷ y ∷ []) ≡ (if are_alike x y then Gives (greater (roll-Value x) (roll-Value y)) else Unfit)
max_form (O.Int m) (O.Int n) = λ i. Gives (greater (sym (V.rolls-Int m) i) (sym (V.rolls-Int n) i))
max_form (O.Text xs) (O.Text ys) = λ i. Gives (greater (sym (V.rolls-Text xs) i) (sym (V.rolls-Text ys) i))
max_form _ _ = refl

substring_form : (x y z : Value-F Value) → level_call Q.Substring (x ∷ y ∷ z ∷ []) ≡ substring_at x y z
substring_form (O.Text bytes) (O.Int (pos from)) (O.Int (pos count)) = refl
substring_form (O.Text bytes) (O.Int (pos from)) (O.Int (negsuc count)) = refl
substring_form (O.Text bytes) (O.Int (negsuc from)) (O.Int count) = refl
substring_form _ _ _ = refl

append_form : (x : Value-F Value) (v : Value) → level_place_call (H.Append v) x ≡ append_at x v
append_form (O.List vs) v = refl
append_form _ v = refl

remove_form : (x : Value-F Value) (key : Value) → level_place_call (H.Remove key) x ≡ remove_at x key
remove_form (O.Map ps) key = refl
remove_form _ key = refl

clear_form : (x : Value-F Value) → level_place_call H.Clear x ≡ clear_at x
clear_form (O.List vs) = refl
clear_form (O.Map ps) = refl
clear_form _ = refl

-- ---- of values

pub length_called : (v : Value) → built_in_of Q.Length (v ∷ []) ≡ length_of v
length_called v = length_form (out-Value v)

pub size_called : (v : Value) → built_in_of Q.Size (v ∷ []) ≡ size_of v
size_called v = size_form (out-Value v)

pub has_called : (map key : Value) → built_in_of Q.Has (map ∷ key ∷ []) ≡ has_key map key
has_called map key = has_form (out-Value map) (out-Value key) ∙ ap (has_key map) (roll-out-Value key)

pub abs_called : (kind : IntKind) (n : Value) → built_in_of (Q.Abs kind) (n ∷ []) ≡ abs_of kind n
abs_called kind n = abs_form kind (out-Value n)

pub min_called : (a b : Value) → built_in_of Q.Min (a ∷ b ∷ []) ≡ min_of a b
min_called a b = min_form (out-Value a) (out-Value b) ∙ (λ i. if_alike a b (lesser (roll-out-Value a i) (roll-out-Value b i)))

pub max_called : (a b : Value) → built_in_of Q.Max (a ∷ b ∷ []) ≡ max_of a b
max_called a b = max_form (out-Value a) (out-Value b) ∙ (λ i. if_alike a b (greater (roll-out-Value a i) (roll-out-Value b i)))

pub substring_called : (s from count : Value) → built_in_of Q.Substring (s ∷ from ∷ count ∷ []) ≡ substring_of s from count
substring_called s from count = substring_form (out-Value s) (out-Value from) (out-Value count)

pub append_called : (list v : Value) → change_of (H.Append v) (Some list) ≡ append_of list v
append_called list v = append_form (out-Value list) v

pub remove_called : (map key : Value) → change_of (H.Remove key) (Some map) ≡ remove_of map key
remove_called map key = remove_form (out-Value map) key

pub clear_called : (v : Value) → change_of H.Clear (Some v) ≡ clear_of v
clear_called v = clear_form (out-Value v)
