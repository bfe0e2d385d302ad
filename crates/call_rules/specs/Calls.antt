-- The results of calls, argument by argument.
use Rattle.std.specs.Prelude.{ℕ, List, [], ◌∷◌, length, ◌==◌, if◌then◌else◌, Option, Some, None, Ok}
use Rattle.spl_value.specs.declared.types.SplType.{SplType}
use Rattle.spl_value.specs.declared.types.SplType.TheVariants as S
use Rattle.spl_value.specs.declared.types.SplType.TheViews.{out-SplType}
use Rattle.spl_tree.specs.declared.expression.Placed.{Placed}
use Rattle.spl_tree.specs.declared.code.BuiltIn.{BuiltIn}
use Rattle.spl_tree.specs.declared.code.BuiltIn.TheVariants as Q
use Rattle.spl_tree.specs.declared.code.CallName.{CallName}
use Rattle.spl_tree.specs.declared.code.CallName.TheVariants as A
use Rattle.spl_tree.specs.declared.code.Code.{Code}
use Rattle.spl_tree.specs.declared.code.Code.TheVariants as C
use Rattle.spl_tree.specs.declared.code.Slot.{Slot}
use Rattle.language_model.specs.declared.scope.Scope.{Scope}
use Rattle.language_model.specs.declared.scope.Typed.{Typed}
use Rattle.language_model.specs.Readings.{root_of}
use Rattle.language_model.specs.Typing.{Found, OnFirst, Part, Wanted, after, argument_count, if_mutable, int32, level_changed, level_first, mismatch, typed, wrong_call}

-- what a call gives, unless it changes its first argument, and the types that the other arguments have to have
abbrev pub Gives : Type 0
Gives = Option (BuiltIn × SplType)

abbrev pub Asked : Type 0
Asked = Gives × List SplType

abbrev pub value_asked : ℕ → OnFirst → Found Asked
value_asked at None = wrong_call at
value_asked at (Some on) = Ok (Some (on.0, on.1), on.2)

abbrev pub change_asked : ℕ → Scope → Placed Part → Option (List SplType) → Found (List SplType)
change_asked at scope e None = wrong_call at
change_asked at scope e (Some ts) = if_mutable at scope e (root_of e.what.0) (Ok ts)

abbrev pub asked_by_change : Found (List SplType) → Found Asked
asked_by_change found = after found (λ ts. Ok (None, ts))

-- a call on a first argument of a type
abbrev pub asked : ℕ → Scope → CallName → Placed Part → SplType → Found Asked
asked at scope A.Length e t = Ok (Some (Q.Length, int32), [])
asked at scope A.Substring e t = Ok (Some (Q.Substring, S.Text), int32 ∷ int32 ∷ [])
asked at scope A.AppendM e t = asked_by_change (change_asked at scope e (level_changed A.AppendM (out-SplType t)))
asked at scope A.RemoveM e t = asked_by_change (change_asked at scope e (level_changed A.RemoveM (out-SplType t)))
asked at scope A.ClearM e t = asked_by_change (change_asked at scope e (level_changed A.ClearM (out-SplType t)))
asked at scope call e t = value_asked at (level_first call t (out-SplType t))

-- the type that it wants of the first argument
abbrev pub first_for : CallName → Wanted
first_for A.Length = Some S.Text
first_for A.Substring = Some S.Text
first_for _ = None

-- the first argument and the others, where there are as many as the call has
abbrev pub row_for : ℕ → CallName → List (Placed Part) → Found (Placed Part × List (Placed Part))
row_for at call [] = wrong_call at
row_for at call (e ∷ es) = if length (e ∷ es) == argument_count call then Ok (e, es) else wrong_call at

-- a call that changes its first argument gives no value
abbrev pub given : ℕ → Gives → List (Code Slot) → Found Typed
given at None xs = mismatch at
given at (Some g) xs = Ok (typed g.1 (C.BuiltIn g.0 xs))
