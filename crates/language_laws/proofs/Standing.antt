-- A refusal stands at a place of its expression.
use Rattle.std.specs.Prelude.{◌≡◌, ◌⊎◌, ◌==◌, ℕ, suc, nat_lt, Bool, true, false, List, [], ◌∷◌, ◌++◌, flat_map, length, map, Option, Some, None, Ok, Err, if◌then◌else◌}
use Rattle.std.specs.List.{AllByRecursion}
use Rattle.std.proofs.Common.{refl, sym, ap, subst, ◌∙◌, inl, inr}
use Rattle.spl_value.specs.declared.types.Named.{Named}
use Rattle.spl_value.specs.declared.types.SplType.{SplType}
use Rattle.spl_value.specs.declared.types.SplType.TheVariants as S
use Rattle.spl_value.specs.declared.types.SplType.TheOpen as T
use Rattle.spl_value.specs.declared.types.SplType.TheOpen.{SplType-F}
use Rattle.spl_value.specs.declared.types.SplType.TheViews.{out-SplType}
use Rattle.spl_value.specs.Values.{top}
use Rattle.spl_tree.specs.declared.token.Number.{Number}
use Rattle.spl_tree.specs.declared.code.BinaryCode.{BinaryCode}
use Rattle.spl_tree.specs.declared.code.CallName.{CallName}
use Rattle.spl_tree.specs.declared.code.CallName.TheVariants as A
use Rattle.spl_tree.specs.declared.code.Code.{Code}
use Rattle.spl_tree.specs.declared.code.Slot.{Slot}
use Rattle.spl_tree.specs.declared.code.UnaryCode.{UnaryCode}
use Rattle.spl_tree.specs.declared.expression.BinaryOperator.{BinaryOperator}
use Rattle.spl_tree.specs.declared.expression.BinaryOperator.TheVariants as B
use Rattle.spl_tree.specs.declared.expression.ExprKind.{ExprKind}
use Rattle.spl_tree.specs.declared.expression.ExprKind.TheVariants as E
use Rattle.spl_tree.specs.declared.expression.ExprKind.TheOpen as X
use Rattle.spl_tree.specs.declared.expression.ExprKind.TheOpen.{ExprKind-F}
use Rattle.spl_tree.specs.declared.expression.ExprKind.TheViews.{out-ExprKind}
use Rattle.spl_tree.specs.declared.expression.ExprKind.TheFolds.{fold_out-ExprKind, map-ExprKind}
use Rattle.spl_tree.specs.declared.expression.Field.{Field}
use Rattle.spl_tree.specs.declared.expression.Placed.{Placed}
use Rattle.spl_tree.specs.declared.expression.PrefixOperator.{PrefixOperator}
use Rattle.spl_tree.specs.declared.expression.Step.{Step}
use Rattle.spl_tree.specs.declared.expression.Step.TheVariants as N
use Rattle.spl_tree.specs.Trees.{Expr}
use Rattle.spl_tree.proofs.Induction.{ExprSteps, OfExpr, OfEntry, OfField, OfStep, expr_ind}
use Rattle.language_model.specs.declared.scope.CheckRefusal.{CheckRefusal}
use Rattle.language_model.specs.declared.scope.Scope.{Scope}
use Rattle.language_model.specs.declared.scope.Signature.{Signature}
use Rattle.language_model.specs.declared.scope.Typed.{Typed}
use Rattle.language_model.specs.Readings.{name_of, root_of}
use Rattle.language_model.specs.Scopes.{At, Meant, OfVariable, OfAttribute, OfPort, Nothing, meant, attribute_of, dollar_of, function_of, unresolved_of}
use Rattle.language_model.specs.Typing.{Wanted, Found, after, mismatch, as_wanted, same_types, Part, part_typed, meant_typed, number_typed, Wants, Anything, This, Another, elements_typed, list_typed, entries_typed, map_typed, are_distinct, gives_each, fields_typed, own_fields, tuple_typed, level_index, level_step, steps_typed, select_typed, of_port, prefixes_at, prefixes_typed, level_prefix, operands_typed, level_operator, level_in, binary_typed, conditional_typed, arguments_typed, not_callable, function_typed, call_of, OnFirst, level_first, level_changed, is_mutable, if_mutable, changed_typed, argument_count, int32, no_value, arguments_of, level_typed}
use Rattle.language_model.specs.parts.Typing.{dollar_typed, wants_list, wants_map, wants_tuple, member_typed, port_attribute, of_base, binary_or_marker, branch_wanted, value_given, call_typed}
use Rattle.language_model.proofs.parts.Typing.{field_typed, prefix_typed, unary_typed, first_typed}
use Rattle.language_model.specs.TypingLaws.{parted, parts, entry_parts, field_parts, step_part, step_parts, part}
use Rattle.language_model.proofs.TypingLaws as L
use Rattle.language_laws.specs.Places.{Inside, inside, step_places, level_places, kind_places, places, IsAmong, IsHandedOn, of_dollar, of_function, PlaceLaw}

-- ---- what is refused at some places

module _ (scope : Scope) (Q : ℕ → Type 0) where
  abbrev Stands : CheckRefusal → Type 0
  Stands r = Q r.at ⊎ IsHandedOn scope r

  -- a refusal stands at one of these places, or is that of a `$` parameter or a function
  abbrev Fine : {A : Type 0} → Found A → Type 0
  Fine (Ok x) = Unit {0}
  Fine (Err r) = Stands r

  fine_after : {A B : Type 0} (r : Found A) (f : A → Found B) → Fine r → ((x : A) → Fine (f x)) → Fine (after r f)
  fine_after (Ok x) f h k = k x
  fine_after (Err e) f h k = h

  fine_if : {A : Type 0} (b : Bool) (r s : Found A) → Fine r → Fine s → Fine (if b then r else s)
  fine_if true r s h k = h
  fine_if false r s h k = k

  -- a part stands at one of these places, and so do its refusals
  record Good (e : Placed Part) : Type 0 where
    pub at : Q e.at
    pub fine : (wanted : Wanted) → Fine (part_typed e scope wanted)

  wanted_fine : (at : ℕ) (wanted : Wanted) (t : Typed) → Q at → Fine (as_wanted at wanted t)
  wanted_fine at None t q = tt
  wanted_fine at (Some u) t q = fine_if (same_types t.kind u) (Ok t) (mismatch at) tt (inl q)

  held_fine : (at : ℕ) (wanted : Wanted) (r : Found Typed) → Q at → Fine r → Fine (after r (as_wanted at wanted))
  held_fine at wanted r q h = fine_after r (as_wanted at wanted) h (λ t. wanted_fine at wanted t q)

  -- ---- names and numbers

  meant_fine : (at : ℕ) (name : List ℕ) (m : Meant) → Q at → Fine (meant_typed at name m)
  meant_fine at name (OfVariable v) q = tt
  meant_fine at name (OfAttribute a) q = tt
  meant_fine at name (OfPort p) q = tt
  meant_fine at name Nothing q = inl q

  dollar_fine : (at : ℕ) (name : List ℕ) (o : Option (Found Typed)) → dollar_of scope.dollars name ≡ o → Q at → Fine (dollar_typed at name o)
  dollar_fine at name None is q = inl q
  dollar_fine at name (Some (Ok t)) is q = tt
  dollar_fine at name (Some (Err r)) is q = inr (of_dollar name is)

  number_fine : (at : ℕ) (n : Number) → Q at → Fine (number_typed at n)
  number_fine at n q = fine_if (nat_lt n.value (top n.kind)) (Ok _) (mismatch at) tt (inl q)

  -- ---- lists, maps and tuples

  elements_fine : (t : SplType) (es : List (Placed Part)) → AllByRecursion Good es → Fine (elements_typed scope t es)
  elements_fine t [] h = tt
  elements_fine t (e ∷ es) h = fine_after (part_typed e scope (Some t)) _ (h.0.fine (Some t)) (λ x. fine_after (elements_typed scope t es) _ (elements_fine t es h.1) (λ xs. tt))

  list_fine : (at : ℕ) (w : Wants SplType) (es : List (Placed Part)) → Q at → AllByRecursion Good es → Fine (list_typed at scope w es)
  list_fine at Another es q h = inl q
  list_fine at (This t) es q h = fine_after (elements_typed scope t es) _ (elements_fine t es h) (λ xs. tt)
  list_fine at Anything [] q h = inl q
  list_fine at Anything (e ∷ es) q h =
      fine_after (part_typed e scope None) _ (h.0.fine None) (λ x. fine_after (elements_typed scope x.kind es) _ (elements_fine x.kind es h.1) (λ xs. tt))

  abbrev GoodEntry : Placed Part × Placed Part → Type 0
  GoodEntry e = Good e.0 × Good e.1

  entries_fine : (k t : SplType) (es : List (Placed Part × Placed Part)) → AllByRecursion GoodEntry es → Fine (entries_typed scope k t es)
  entries_fine k t [] h = tt
  entries_fine k t (e ∷ es) h =
      fine_after (part_typed e.0 scope (Some k)) _ (h.0.0.fine (Some k)) (λ x. fine_after (part_typed e.1 scope (Some t)) _ (h.0.1.fine (Some t)) (λ y.
      fine_after (entries_typed scope k t es) _ (entries_fine k t es h.1) (λ xs. tt)))

  map_fine : (at : ℕ) (w : Wants (SplType × SplType)) (es : List (Placed Part × Placed Part)) → Q at → AllByRecursion GoodEntry es → Fine (map_typed at scope w es)
  map_fine at Another es q h = inl q
  map_fine at (This p) es q h = fine_after (entries_typed scope p.0 p.1 es) _ (entries_fine p.0 p.1 es h) (λ xs. tt)
  map_fine at Anything [] q h = inl q
  map_fine at Anything (e ∷ es) q h =
      fine_after (part_typed e.0 scope None) _ (h.0.0.fine None) (λ x. fine_after (part_typed e.1 scope None) _ (h.0.1.fine None) (λ y.
      fine_after (entries_typed scope x.kind y.kind es) _ (entries_fine x.kind y.kind es h.1) (λ xs. tt)))

  abbrev GoodField : Field (Placed Part) → Type 0
  GoodField f = Good f.value

  field_fine : (schema : List (Named SplType)) (f : Field (Placed Part)) (o : Option (At (Named SplType))) → Good f.value → Fine (field_typed scope schema f o)
  field_fine schema f None h = inl h.at
  field_fine schema f (Some a) h = fine_after (part_typed f.value scope (Some a.what.kind)) _ (h.fine (Some a.what.kind)) (λ x. tt)

  fields_fine : (schema : List (Named SplType)) (fs : List (Field (Placed Part))) → AllByRecursion GoodField fs → Fine (fields_typed scope schema fs)
  fields_fine schema [] h = tt
  fields_fine schema (f ∷ fs) h =
      fine_after (field_typed scope schema f (attribute_of schema f.name.what)) _ (field_fine schema f (attribute_of schema f.name.what) h.0) (λ x.
      fine_after (fields_typed scope schema fs) _ (fields_fine schema fs h.1) (λ xs. tt))

  own_fine : (i : ℕ) (fs : List (Field (Placed Part))) → AllByRecursion GoodField fs → Fine (own_fields scope i fs)
  own_fine i [] h = tt
  own_fine i (f ∷ fs) h = fine_after (part_typed f.value scope None) _ (h.0.fine None) (λ x. fine_after (own_fields scope (suc i) fs) _ (own_fine (suc i) fs h.1) (λ xs. tt))

  tuple_fine : (at : ℕ) (w : Wants (List (Named SplType))) (fs : List (Field (Placed Part))) → Q at → AllByRecursion GoodField fs → Fine (tuple_typed at scope w fs)
  tuple_fine at Another fs q h = inl q
  tuple_fine at (This schema) fs q h = fine_if (gives_each schema fs) _ _ (fine_after (fields_typed scope schema fs) _ (fields_fine schema fs h) (λ xs. tt)) (inl q)
  tuple_fine at Anything fs q h = fine_if (are_distinct fs) _ _ (fine_after (own_fields scope 0 fs) _ (own_fine 0 fs h) (λ xs. tt)) (inl q)

  -- ---- what is taken

  abbrev GoodStep : Step (Placed Part) → Type 0
  GoodStep (N.Member m) = Q m.at
  GoodStep (N.Index e) = Good e

  index_fine : (at : ℕ) (code : Code Slot) (t : SplType-F SplType) → Q at → Fine (level_index at code t)
  index_fine at code (T.Int k) q = tt
  index_fine at code _ q = inl q

  member_fine : (at : ℕ) (name : List ℕ) (o : Option (At (Named SplType))) → Q at → Fine (member_typed at name o)
  member_fine at name None q = inl q
  member_fine at name (Some a) q = tt

  step_fine : (base : ℕ) (t : SplType-F SplType) (s : Step (Placed Part)) → Q base → GoodStep s → Fine (level_step base scope t s)
  step_fine base (T.Tuple schema) (N.Member m) q h = member_fine m.at m.what (attribute_of schema m.what) h
  step_fine base (T.List t) (N.Index e) q h =
      fine_after (part_typed e scope None) _ (h.fine None) (λ x. fine_after (level_index e.at x.code (out-SplType x.kind)) _ (index_fine e.at x.code (out-SplType x.kind) h.at) (λ code. tt))
  step_fine base (T.Map k t) (N.Index e) q h = fine_after (part_typed e scope (Some k)) _ (h.fine (Some k)) (λ x. tt)
  step_fine base _ _ q h = inl q

  steps_fine : (base : ℕ) (t : SplType) (ss : List (Step (Placed Part))) → Q base → AllByRecursion GoodStep ss → Fine (steps_typed base scope t ss)
  steps_fine base t [] q h = tt
  steps_fine base t (s ∷ ss) q h =
      fine_after (level_step base scope (out-SplType t) s) _ (step_fine base (out-SplType t) s q h.0) (λ x. fine_after (steps_typed base scope x.1 ss) _ (steps_fine base x.1 ss q h.1) (λ xs. tt))

  select_fine : (base : ℕ) (x : Typed) (ss : List (Step (Placed Part))) → Q base → AllByRecursion GoodStep ss → Fine (select_typed base scope x ss)
  select_fine base x ss q h = fine_after (steps_typed base scope x.kind ss) _ (steps_fine base x.kind ss q h) (λ xs. tt)

  port_fine : (port at : ℕ) (name : List ℕ) (o : Option (At (Named SplType))) → Q at → Fine (port_attribute port at name o)
  port_fine port at name None q = inl q
  port_fine port at name (Some a) q = tt

  of_port_fine : (m : Meant) (base : Placed Part) (ss : List (Step (Placed Part))) → Good base → AllByRecursion GoodStep ss → Fine (of_port m base scope ss)
  of_port_fine (OfPort p) base (N.Member m ∷ ss) g h =
      fine_after (port_attribute p.place m.at m.what (attribute_of p.what.schema m.what)) _ (port_fine p.place m.at m.what (attribute_of p.what.schema m.what) h.0)
      (λ x. select_fine base.at x ss g.at h.1)
  of_port_fine _ base ss g h = fine_after (part_typed base scope None) _ (g.fine None) (λ x. select_fine base.at x ss g.at h)

  of_base_fine : (name : Option (List ℕ)) (base : Placed Part) (ss : List (Step (Placed Part))) → Good base → AllByRecursion GoodStep ss → Fine (of_base name base scope ss)
  of_base_fine (Some name) base ss g h = of_port_fine (meant scope name) base ss g h
  of_base_fine None base ss g h = fine_after (part_typed base scope None) _ (g.fine None) (λ x. select_fine base.at x ss g.at h)

  -- ---- operators

  prefix_fine : (at : ℕ) (o : Option (UnaryCode × SplType)) → Q at → Fine (prefix_typed at o)
  prefix_fine at None q = inl q
  prefix_fine at (Some x) q = tt

  front_at : (ps : List (Placed PrefixOperator)) (operand : ℕ) → AllByRecursion (λ p. Q p.at) ps → Q operand → Q (prefixes_at ps operand)
  front_at [] operand h q = q
  front_at (p ∷ ps) operand h q = h.0

  prefixes_fine : (ps : List (Placed PrefixOperator)) (operand : ℕ) (t : SplType) → AllByRecursion (λ p. Q p.at) ps → Q operand → Fine (prefixes_typed ps operand t)
  prefixes_fine [] operand t h q = tt
  prefixes_fine (p ∷ ps) operand t h q =
      fine_after (prefixes_typed ps operand t) _ (prefixes_fine ps operand t h.1 q) (λ xs.
      fine_after (prefix_typed (prefixes_at ps operand) (level_prefix p.what (out-SplType xs.1))) _ (prefix_fine (prefixes_at ps operand) (level_prefix p.what (out-SplType xs.1)) (front_at ps operand h.1 q)) (λ x. tt))

  unary_fine : (ps : List (Placed PrefixOperator)) (e : Placed Part) → AllByRecursion (λ p. Q p.at) ps → Good e → Fine (unary_typed scope ps e)
  unary_fine ps e h g = fine_after (part_typed e scope None) _ (g.fine None) (λ x. fine_after (prefixes_typed ps e.at x.kind) _ (prefixes_fine ps e.at x.kind h g.at) (λ xs. tt))

  operands_fine : (x : Typed) (left right : Placed Part) (o : Option (BinaryCode × SplType)) → Good left → Good right → Fine (operands_typed scope x left right o)
  operands_fine x left right None g h = inl g.at
  operands_fine x left right (Some op) g h = fine_after (part_typed right scope (Some x.kind)) _ (h.fine (Some x.kind)) (λ y. tt)

  in_fine : (x : Typed) (right : Code Slot) (at : ℕ) (t : SplType-F SplType) → Q at → Fine (level_in x right at t)
  in_fine x right at (T.List t) q = fine_if (same_types x.kind t) _ _ tt (inl q)
  in_fine x right at (T.Map k t) q = fine_if (same_types x.kind k) _ _ tt (inl q)
  in_fine x right at _ q = inl q

  binary_fine : (op : BinaryOperator) (left right : Placed Part) → Good left → Good right → Fine (binary_typed scope op left right)
  binary_fine B.In left right g h =
      fine_after (part_typed left scope None) _ (g.fine None) (λ x. fine_after (part_typed right scope None) _ (h.fine None) (λ y. in_fine x y.code right.at (out-SplType y.kind) h.at))
  binary_fine op left right g h =
      fine_after (part_typed left scope None) _ (g.fine None) (λ x. operands_fine x left right (level_operator op (out-SplType x.kind)) g h)

  marked_fine : (o : Option (Code Slot)) (op : BinaryOperator) (left right : Placed Part) → Good left → Good right → Fine (binary_or_marker o scope op left right)
  marked_fine (Some code) op left right g h = tt
  marked_fine None op left right g h = binary_fine op left right g h

  conditional_fine : (wanted : Wanted) (c a b : Placed Part) → Good c → Good a → Good b → Fine (conditional_typed scope wanted c a b)
  conditional_fine wanted c a b f g h =
      fine_after (part_typed c scope (Some S.Bool)) _ (f.fine (Some S.Bool)) (λ x. fine_after (part_typed a scope wanted) _ (g.fine wanted) (λ y.
      fine_after (part_typed b scope (branch_wanted wanted y.kind)) _ (h.fine (branch_wanted wanted y.kind)) (λ z. tt)))

  -- ---- calls

  arguments_fine : (ts : List SplType) (es : List (Placed Part)) → AllByRecursion Good es → Fine (arguments_typed scope ts es)
  arguments_fine [] es h = tt
  arguments_fine (t ∷ ts) [] h = tt
  arguments_fine (t ∷ ts) (e ∷ es) h = fine_after (part_typed e scope (Some t)) _ (h.0.fine (Some t)) (λ x. fine_after (arguments_typed scope ts es) _ (arguments_fine ts es h.1) (λ xs. tt))

  value_fine : (at : ℕ) (o : Option SplType) (code : Code Slot) → Q at → Fine (value_given at o code)
  value_fine at None code q = inl q
  value_fine at (Some t) code q = tt

  not_callable_fine : (A : Type 0) (at : ℕ) (name : List ℕ) (o : Option CheckRefusal) → unresolved_of scope name ≡ o → Q at → Fine (not_callable {A = A} at name o)
  not_callable_fine A at name None is q = inl q
  not_callable_fine A at name (Some r) is q = inr (of_function name is)

  function_fine : (at : ℕ) (name : List ℕ) (es : List (Placed Part)) (o : Option (At Signature)) → Q at → AllByRecursion Good es → Fine (function_typed at scope name es o)
  function_fine at name es None q h = not_callable_fine Typed at name (unresolved_of scope name) refl q
  function_fine at name es (Some f) q h =
      fine_if (length es == length f.what.parameters) _ _ (fine_after (arguments_typed scope f.what.parameters es) _ (arguments_fine f.what.parameters es h) (λ xs. value_fine at f.what.result _ q)) (inl q)

  first_fine : (at : ℕ) (x : Code Slot) (es : List (Placed Part)) (o : OnFirst) → Q at → AllByRecursion Good es → Fine (first_typed at scope x es o)
  first_fine at x es None q h = inl q
  first_fine at x es (Some on) q h = fine_after (arguments_typed scope on.2 es) _ (arguments_fine on.2 es h) (λ xs. tt)

  mutable_fine : {A : Type 0} (at : ℕ) (e : Placed Part) (o : Option (List ℕ)) (found : Found A) → Q at → Good e → Fine found → Fine (if_mutable at scope e o found)
  mutable_fine at e None found q g h = inl q
  mutable_fine at e (Some name) found q g h = fine_if (is_mutable scope name) _ _ h (inl g.at)

  changed_fine : (at : ℕ) (e : Placed Part) (es : List (Placed Part)) (o : Option (List SplType)) → Q at → Good e → AllByRecursion Good es → Fine (changed_typed at scope e es o)
  changed_fine at e es None q g h = inl q
  changed_fine at e es (Some types) q g h = mutable_fine at e (root_of e.what.0) (arguments_typed scope types es) q g (arguments_fine types es h)

  no_value_fine : (at : ℕ) (found : Found (List (Code Slot))) → Q at → Fine found → Fine (no_value at found)
  no_value_fine at found q h = fine_after found _ h (λ xs. inl q)

  changing_fine : (at : ℕ) (e : Placed Part) (es : List (Placed Part)) (call : CallName) → Q at → Good e → AllByRecursion Good es
      → Fine (no_value at (after (part_typed e scope None) (λ x. changed_typed at scope e es (level_changed call (out-SplType x.kind)))))
  changing_fine at e es call q g h =
      no_value_fine at _ q (fine_after (part_typed e scope None) _ (g.fine None) (λ x. changed_fine at e es (level_changed call (out-SplType x.kind)) q g h))

  on_first_fine : (at : ℕ) (e : Placed Part) (es : List (Placed Part)) (call : CallName) → Q at → Good e → AllByRecursion Good es
      → Fine (after (part_typed e scope None) (λ x. first_typed at scope x.code es (level_first call x.kind (out-SplType x.kind))))
  on_first_fine at e es call q g h = fine_after (part_typed e scope None) _ (g.fine None) (λ x. first_fine at x.code es (level_first call x.kind (out-SplType x.kind)) q h)

  of_call_fine : (at : ℕ) (call : CallName) (es : List (Placed Part)) → Q at → AllByRecursion Good es → Fine (arguments_of at scope call es)
  of_call_fine at A.Length es q h = fine_after (arguments_typed scope (S.Text ∷ []) es) _ (arguments_fine (S.Text ∷ []) es h) (λ xs. tt)
  of_call_fine at A.Substring es q h = fine_after (arguments_typed scope (S.Text ∷ int32 ∷ int32 ∷ []) es) _ (arguments_fine (S.Text ∷ int32 ∷ int32 ∷ []) es h) (λ xs. tt)
  of_call_fine at A.CurrentPunct es q h = inl q
  of_call_fine at A.AppendM (e ∷ es) q h = changing_fine at e es A.AppendM q h.0 h.1
  of_call_fine at A.RemoveM (e ∷ es) q h = changing_fine at e es A.RemoveM q h.0 h.1
  of_call_fine at A.ClearM (e ∷ es) q h = changing_fine at e es A.ClearM q h.0 h.1
  of_call_fine at A.Size (e ∷ es) q h = on_first_fine at e es A.Size q h.0 h.1
  of_call_fine at A.Has (e ∷ es) q h = on_first_fine at e es A.Has q h.0 h.1
  of_call_fine at A.Abs (e ∷ es) q h = on_first_fine at e es A.Abs q h.0 h.1
  of_call_fine at A.Min (e ∷ es) q h = on_first_fine at e es A.Min q h.0 h.1
  of_call_fine at A.Max (e ∷ es) q h = on_first_fine at e es A.Max q h.0 h.1
  of_call_fine at _ [] q h = inl q

  called_fine : (at : ℕ) (name : List ℕ) (es : List (Placed Part)) (o : Option CallName) → Q at → AllByRecursion Good es → Fine (call_typed at scope name es o)
  called_fine at name es (Some call) q h = fine_if (length es == argument_count call) _ _ (of_call_fine at call es q h) (inl q)
  called_fine at name es None q h = function_fine at name es (function_of scope name) q h

-- ---- places of parts

among_left : (a b : List ℕ) (n : ℕ) → IsAmong a n → IsAmong (a ++ b) n
among_left [] b n h = absurd h
among_left (m ∷ a) b n h = elim h [ inl here ↦ inl here | inr rest ↦ inr (among_left a b n rest) ]

among_right : (a b : List ℕ) (n : ℕ) → IsAmong b n → IsAmong (a ++ b) n
among_right [] b n h = h
among_right (m ∷ a) b n h = inr (among_right a b n h)

stands_on : (scope : Scope) (P Q : ℕ → Type 0) → ((n : ℕ) → P n → Q n) → {A : Type 0} (r : Found A) → Fine scope P r → Fine scope Q r
stands_on scope P Q on (Ok x) h = tt
stands_on scope P Q on (Err r) h = elim h [ inl at ↦ inl (on r.at at) | inr handed ↦ inr handed ]

-- the refusals of an expression stand at its places
abbrev Keeps : ExprKind → Type 0
Keeps k = (at : ℕ) (scope : Scope) (wanted : Wanted) → Fine scope (IsAmong (at ∷ kind_places k)) ((part k).1 at scope wanted)

good : (scope : Scope) (Q : ℕ → Type 0) (e : Expr) → Keeps e.what → ((n : ℕ) → IsAmong (places e) n → Q n) → Good scope Q (parted e)
good scope Q e h on = record { at = on e.at (inl refl); fine = λ wanted. stands_on scope (IsAmong (places e)) Q on (part_typed (parted e) scope wanted) (h e.at scope wanted) }

abbrev exprs_places : List Expr → List ℕ
exprs_places es = flat_map places es

abbrev entries_places : List (Expr × Expr) → List ℕ
entries_places es = flat_map (λ e. places e.0 ++ places e.1) es

abbrev fields_places : List (Field Expr) → List ℕ
fields_places fs = flat_map (λ f. places f.value) fs

abbrev step_of : Step Expr → List ℕ
step_of (N.Member m) = m.at ∷ []
step_of (N.Index e) = places e

abbrev steps_places : List (Step Expr) → List ℕ
steps_places ss = flat_map step_of ss

all_good : (scope : Scope) (Q : ℕ → Type 0) (es : List Expr) → AllByRecursion (OfExpr Keeps) es → ((n : ℕ) → IsAmong (exprs_places es) n → Q n) → AllByRecursion (Good scope Q) (parts es)
all_good scope Q [] h on = tt
all_good scope Q (e ∷ es) h on =
    (good scope Q e h.0 (λ n at. on n (among_left (places e) (exprs_places es) n at)), all_good scope Q es h.1 (λ n at. on n (among_right (places e) (exprs_places es) n at)))

entries_good : (scope : Scope) (Q : ℕ → Type 0) (es : List (Expr × Expr)) → AllByRecursion (OfEntry Keeps) es → ((n : ℕ) → IsAmong (entries_places es) n → Q n)
    → AllByRecursion (GoodEntry scope Q) (entry_parts es)
entries_good scope Q [] h on = tt
entries_good scope Q (e ∷ es) h on = (
  (
    good scope Q e.0 h.0.0 (λ n at. on n (among_left (places e.0 ++ places e.1) (entries_places es) n (among_left (places e.0) (places e.1) n at))),
    good scope Q e.1 h.0.1 (λ n at. on n (among_left (places e.0 ++ places e.1) (entries_places es) n (among_right (places e.0) (places e.1) n at))),
  ),
  entries_good scope Q es h.1 (λ n at. on n (among_right (places e.0 ++ places e.1) (entries_places es) n at)),
)

fields_good : (scope : Scope) (Q : ℕ → Type 0) (fs : List (Field Expr)) → AllByRecursion (OfField Keeps) fs → ((n : ℕ) → IsAmong (fields_places fs) n → Q n)
    → AllByRecursion (GoodField scope Q) (field_parts fs)
fields_good scope Q [] h on = tt
fields_good scope Q (f ∷ fs) h on =
    (good scope Q f.value h.0 (λ n at. on n (among_left (places f.value) (fields_places fs) n at)), fields_good scope Q fs h.1 (λ n at. on n (among_right (places f.value) (fields_places fs) n at)))

step_good : (scope : Scope) (Q : ℕ → Type 0) (s : Step Expr) → OfStep Keeps s → ((n : ℕ) → IsAmong (step_of s) n → Q n) → GoodStep scope Q (step_part s)
step_good scope Q (N.Member m) h on = on m.at (inl refl)
step_good scope Q (N.Index e) h on = good scope Q e h on

steps_good : (scope : Scope) (Q : ℕ → Type 0) (ss : List (Step Expr)) → AllByRecursion (OfStep Keeps) ss → ((n : ℕ) → IsAmong (steps_places ss) n → Q n)
    → AllByRecursion (GoodStep scope Q) (step_parts ss)
steps_good scope Q [] h on = tt
steps_good scope Q (s ∷ ss) h on =
    (step_good scope Q s h.0 (λ n at. on n (among_left (step_of s) (steps_places ss) n at)), steps_good scope Q ss h.1 (λ n at. on n (among_right (step_of s) (steps_places ss) n at)))

prefixes_good : (Q : ℕ → Type 0) (ps : List (Placed PrefixOperator)) → ((n : ℕ) → IsAmong (map (λ p. p.at) ps) n → Q n) → AllByRecursion (λ p. Q p.at) ps
prefixes_good Q [] on = tt
prefixes_good Q (p ∷ ps) on = (on p.at (inl refl), prefixes_good Q ps (λ n at. on n (inr at)))

-- ---- each form of expression

kind_at : (k : ExprKind) (x : ExprKind-F ExprKind) → out-ExprKind k ≡ x → kind_places k ≡ level_places (map-ExprKind ExprKind (List ℕ) kind_places x)
kind_at k x out = fold_out-ExprKind (List ℕ) level_places k ∙ ap (λ y. level_places (map-ExprKind ExprKind (List ℕ) kind_places y)) out

steps_in : ExprKind-F (List ℕ) → List ℕ
steps_in (X.Select base ss) = flat_map step_places ss
steps_in _ = []

each_step : (base : Expr) (ss : List (Step Expr)) → steps_in (map-ExprKind ExprKind (List ℕ) kind_places (X.Select base ss)) ≡ steps_places ss
unfolding steps_in
each_step base [] = refl
each_step base (N.Member m ∷ ss) = ap (λ z. m.at ∷ z) (each_step base ss)
each_step base (N.Index e ∷ ss) = ap (λ z. places e ++ z) (each_step base ss)

steps_mapped : (base : Expr) (ss : List (Step Expr)) → level_places (map-ExprKind ExprKind (List ℕ) kind_places (X.Select base ss)) ≡ places base ++ steps_places ss
unfolding steps_in
steps_mapped base ss = ap (λ z. places base ++ z) (each_step base ss)

-- an expression whose places are these
by_places : (k : ExprKind) (ps : List ℕ) (x : ExprKind-F Part) → kind_places k ≡ ps → ((at : ℕ) (scope : Scope) (wanted : Wanted) → (part k).1 at scope wanted ≡ level_typed x at scope wanted)
    → ((at : ℕ) (scope : Scope) (wanted : Wanted) → Fine scope (IsAmong (at ∷ ps)) (level_typed x at scope wanted)) → Keeps k
by_places k ps x are is fine at scope wanted =
    subst (λ (z : List ℕ). Fine scope (IsAmong (at ∷ z)) ((part k).1 at scope wanted)) (sym are) (subst (Fine scope (IsAmong (at ∷ ps))) (sym (is at scope wanted)) (fine at scope wanted))

here : (at : ℕ) (ps : List ℕ) → IsAmong (at ∷ ps) at
here at ps = inl refl

keeps_steps : ExprSteps Keeps
keeps_steps = record {
  name = λ n. by_places (E.Name n) [] (X.Name n) (kind_at (E.Name n) (X.Name n) (E.outs-Name n)) (L.name_typed n) (λ at scope wanted. held_fine scope (IsAmong (at ∷ [])) at wanted _ (here at []) (meant_fine scope (IsAmong (at ∷ [])) at n (meant scope n) (here at [])));
  dollar = λ n. by_places (E.Dollar n) [] (X.Dollar n) (kind_at (E.Dollar n) (X.Dollar n) (E.outs-Dollar n)) (L.dollar_typed n) (λ at scope wanted. held_fine scope (IsAmong (at ∷ [])) at wanted _ (here at []) (dollar_fine scope (IsAmong (at ∷ [])) at n (dollar_of scope.dollars n) refl (here at [])));
  number = λ n. by_places (E.Number n) [] (X.Number n) (kind_at (E.Number n) (X.Number n) (E.outs-Number n)) (L.number_typed n) (λ at scope wanted. held_fine scope (IsAmong (at ∷ [])) at wanted _ (here at []) (number_fine scope (IsAmong (at ∷ [])) at n (here at [])));
  text = λ bytes. by_places (E.Text bytes) [] (X.Text bytes) (kind_at (E.Text bytes) (X.Text bytes) (E.outs-Text bytes)) (L.text_typed bytes) (λ at scope wanted. wanted_fine scope (IsAmong (at ∷ [])) at wanted _ (here at []));
  bool = λ b. by_places (E.Bool b) [] (X.Bool b) (kind_at (E.Bool b) (X.Bool b) (E.outs-Bool b)) (L.bool_typed b) (λ at scope wanted. wanted_fine scope (IsAmong (at ∷ [])) at wanted _ (here at []));
  group = λ e h. by_places (E.Group e) (places e) (X.Group (parted e)) (kind_at (E.Group e) (X.Group e) (E.outs-Group e)) (L.group_typed e) (λ at scope wanted. stands_on scope (IsAmong (places e)) (IsAmong (at ∷ places e)) (λ n among. inr among) _ (h e.at scope wanted));
  list = λ es h. by_places (E.List es) (exprs_places es) (X.List (parts es)) (kind_at (E.List es) (X.List es) (E.outs-List es) ∙ exprs_mapped es) (L.list_typed es) (λ at scope wanted.
      list_fine scope (IsAmong (at ∷ exprs_places es)) at (wants_list wanted) (parts es) (here at (exprs_places es)) (all_good scope (IsAmong (at ∷ exprs_places es)) es h (λ n among. inr among)));
  map_of = λ es h. by_places (E.Map es) (entries_places es) (X.Map (entry_parts es)) (kind_at (E.Map es) (X.Map es) (E.outs-Map es) ∙ entries_mapped es) (L.map_typed es) (λ at scope wanted.
      map_fine scope (IsAmong (at ∷ entries_places es)) at (wants_map wanted) (entry_parts es) (here at (entries_places es)) (entries_good scope (IsAmong (at ∷ entries_places es)) es h (λ n among. inr among)));
  tuple = λ fs h. by_places (E.Tuple fs) (fields_places fs) (X.Tuple (field_parts fs)) (kind_at (E.Tuple fs) (X.Tuple fs) (E.outs-Tuple fs) ∙ fields_mapped fs) (L.tuple_typed fs) (λ at scope wanted.
      tuple_fine scope (IsAmong (at ∷ fields_places fs)) at (wants_tuple wanted) (field_parts fs) (here at (fields_places fs)) (fields_good scope (IsAmong (at ∷ fields_places fs)) fs h (λ n among. inr among)));
  call = λ n es h. by_places (E.Call n es) (exprs_places es) (X.Call n (parts es)) (kind_at (E.Call n es) (X.Call n es) (E.outs-Call n es) ∙ exprs_mapped es) (L.call_typed n es) (λ at scope wanted.
      held_fine scope (IsAmong (at ∷ exprs_places es)) at wanted _ (here at (exprs_places es)) (called_fine scope (IsAmong (at ∷ exprs_places es)) at n (parts es) (call_of n) (here at (exprs_places es)) (all_good scope (IsAmong (at ∷ exprs_places es)) es h (λ m among. inr among))));
  select = λ e ss h g. by_places (E.Select e ss) (places e ++ steps_places ss) (X.Select (parted e) (step_parts ss)) (kind_at (E.Select e ss) (X.Select e ss) (E.outs-Select e ss) ∙ steps_mapped e ss) (L.select_typed e ss) (λ at scope wanted.
      held_fine scope (IsAmong (at ∷ (places e ++ steps_places ss))) at wanted _ (here at (places e ++ steps_places ss))
      (of_base_fine scope (IsAmong (at ∷ (places e ++ steps_places ss))) (name_of e.what) (parted e) (step_parts ss)
      (good scope (IsAmong (at ∷ (places e ++ steps_places ss))) e h (λ n among. inr (among_left (places e) (steps_places ss) n among)))
      (steps_good scope (IsAmong (at ∷ (places e ++ steps_places ss))) ss g (λ n among. inr (among_right (places e) (steps_places ss) n among)))));
  unary = λ ps e h. by_places (E.Unary ps e) (map (λ p. p.at) ps ++ places e) (X.Unary ps (parted e)) (kind_at (E.Unary ps e) (X.Unary ps e) (E.outs-Unary ps e)) (L.unary_typed ps e) (λ at scope wanted.
      let all = map (λ p. p.at) ps ++ places e in
      held_fine scope (IsAmong (at ∷ all)) at wanted _ (here at all) (unary_fine scope (IsAmong (at ∷ all)) ps (parted e)
      (prefixes_good (IsAmong (at ∷ all)) ps (λ n among. inr (among_left (map (λ p. p.at) ps) (places e) n among)))
      (good scope (IsAmong (at ∷ all)) e h (λ n among. inr (among_right (map (λ p. p.at) ps) (places e) n among)))));
  binary = λ op l r h g. by_places (E.Binary op l r) (places l ++ places r) (X.Binary op (parted l) (parted r)) (kind_at (E.Binary op l r) (X.Binary op l r) (E.outs-Binary op l r)) (L.binary_typed op l r) (λ at scope wanted.
      let all = places l ++ places r in
      held_fine scope (IsAmong (at ∷ all)) at wanted _ (here at all) (marked_fine scope (IsAmong (at ∷ all)) _ op (parted l) (parted r)
      (good scope (IsAmong (at ∷ all)) l h (λ n among. inr (among_left (places l) (places r) n among)))
      (good scope (IsAmong (at ∷ all)) r g (λ n among. inr (among_right (places l) (places r) n among)))));
  conditional = λ c a b f h g. by_places (E.Conditional c a b) (places c ++ (places a ++ places b)) (X.Conditional (parted c) (parted a) (parted b)) (kind_at (E.Conditional c a b) (X.Conditional c a b) (E.outs-Conditional c a b)) (L.conditional_typed c a b) (λ at scope wanted.
      let all = places c ++ (places a ++ places b) in
      conditional_fine scope (IsAmong (at ∷ all)) wanted (parted c) (parted a) (parted b)
      (good scope (IsAmong (at ∷ all)) c f (λ n among. inr (among_left (places c) (places a ++ places b) n among)))
      (good scope (IsAmong (at ∷ all)) a h (λ n among. inr (among_right (places c) (places a ++ places b) n (among_left (places a) (places b) n among))))
      (good scope (IsAmong (at ∷ all)) b g (λ n among. inr (among_right (places c) (places a ++ places b) n (among_right (places a) (places b) n among)))));
}
  where
    exprs_mapped : (es : List Expr) → flat_map inside (map (λ (e : Expr). record { at = e.at; what = kind_places e.what }) es) ≡ exprs_places es
    exprs_mapped [] = refl
    exprs_mapped (e ∷ es) = ap (λ z. places e ++ z) (exprs_mapped es)

    entries_mapped : (es : List (Expr × Expr)) → flat_map (λ (e : Inside × Inside). inside e.0 ++ inside e.1) (map (λ (e : Expr × Expr). (record { at = e.0.at; what = kind_places e.0.what }, record { at = e.1.at; what = kind_places e.1.what })) es) ≡ entries_places es
    entries_mapped [] = refl
    entries_mapped (e ∷ es) = ap (λ z. (places e.0 ++ places e.1) ++ z) (entries_mapped es)

    fields_mapped : (fs : List (Field Expr)) → flat_map (λ (f : Field Inside). inside f.value) (map (λ (f : Field Expr). record { name = f.name; value = record { at = f.value.at; what = kind_places f.value.what } }) fs) ≡ fields_places fs
    fields_mapped [] = refl
    fields_mapped (f ∷ fs) = ap (λ z. places f.value ++ z) (fields_mapped fs)

pub place_law : PlaceLaw
place_law scope e wanted r refused = subst (Fine scope (IsAmong (places e))) refused (expr_ind Keeps keeps_steps e.what e.at scope wanted)
