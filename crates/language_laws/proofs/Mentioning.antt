-- What an expression is depends on `$` parameters through those alone that it mentions.
use Rattle.std.specs.Prelude.{◌≡◌, ◌==◌, ◌&&◌, ℕ, suc, Bool, true, false, if◌then◌else◌, List, [], ◌∷◌, ◌++◌, length, map, flat_map, Option, Some, None, Ok}
use Rattle.std.specs.List.{AllByRecursion, Contains}
use Rattle.std.specs.Option.{option_map}
use Rattle.std.specs.Str.{bytes_eq}
use Rattle.std.specs.Cmp.Lexicographic.{bytes_decides}
use Rattle.std.proofs.Common.{refl, sym, ap, subst, ◌∙◌, arith}
use Rattle.std.proofs.lemmas.List.{map-append}
use Rattle.std.proofs.lemmas.List.Elements.{filter_map-append, Contains-append_left, Contains-append_right}
use Rattle.spl_value.specs.declared.types.Named.{Named}
use Rattle.spl_value.specs.declared.types.SplType.{SplType}
use Rattle.spl_value.specs.declared.types.SplType.TheVariants as S
use Rattle.spl_value.specs.declared.types.SplType.TheOpen as T
use Rattle.spl_value.specs.declared.types.SplType.TheOpen.{SplType-F}
use Rattle.spl_value.specs.declared.types.SplType.TheViews.{out-SplType}
use Rattle.spl_tree.specs.Trees.{Expr}
use Rattle.spl_tree.proofs.Induction.{OfExpr, OfEntry, OfField, OfStep, ExprSteps, expr_ind}
use Rattle.spl_tree.specs.declared.code.BinaryCode.{BinaryCode}
use Rattle.spl_tree.specs.declared.code.BuiltIn.{BuiltIn}
use Rattle.spl_tree.specs.declared.code.BuiltIn.TheVariants as Q
use Rattle.spl_tree.specs.declared.code.CallName.{CallName}
use Rattle.spl_tree.specs.declared.code.CallName.TheVariants as A
use Rattle.spl_tree.specs.declared.code.Code.{Code}
use Rattle.spl_tree.specs.declared.code.Code.TheVariants as C
use Rattle.spl_tree.specs.declared.code.Slot.{Slot}
use Rattle.spl_tree.specs.declared.code.Selector.TheVariants as K
use Rattle.spl_tree.specs.declared.expression.BinaryOperator.{BinaryOperator}
use Rattle.spl_tree.specs.declared.expression.BinaryOperator.TheVariants as B
use Rattle.spl_tree.specs.declared.expression.ExprKind.{ExprKind}
use Rattle.spl_tree.specs.declared.expression.ExprKind.TheVariants as E
use Rattle.spl_tree.specs.declared.expression.ExprKind.TheOpen as X
use Rattle.spl_tree.specs.declared.expression.ExprKind.TheOpen.{ExprKind-F}
use Rattle.spl_tree.specs.declared.expression.ExprKind.TheViews.{out-ExprKind}
use Rattle.spl_tree.specs.declared.expression.ExprKind.TheFolds.{fold-ExprKind, fold_out-ExprKind, map-ExprKind}
use Rattle.spl_tree.specs.declared.expression.Field.{Field}
use Rattle.spl_tree.specs.declared.expression.Placed.{Placed}
use Rattle.spl_tree.specs.declared.expression.PrefixOperator.{PrefixOperator}
use Rattle.spl_tree.specs.declared.expression.Step.{Step}
use Rattle.spl_tree.specs.declared.expression.Step.TheVariants as N
use Rattle.language_model.specs.declared.scope.CheckError.TheVariants as R
use Rattle.language_model.specs.declared.scope.Dollar.{Dollar}
use Rattle.language_model.specs.declared.scope.Scope.{Scope}
use Rattle.language_model.specs.declared.scope.Signature.{Signature}
use Rattle.language_model.specs.declared.scope.Typed.{Typed}
use Rattle.language_model.specs.DollarLaws.{with_dollars, MentionedLaw, UnusedLaw}
use Rattle.language_model.specs.Mentions.{At, Mentions, dollars, part_mentions, step_mentions, level_mentions}
use Rattle.language_model.specs.Readings.{asks_punct, name_of, named_marker, root_of}
use Rattle.language_model.specs.Scopes as Y
use Rattle.language_model.specs.Scopes.{Meant, OfVariable, OfAttribute, OfPort, Nothing, at_place, first_from, meant, attribute_of, function_of, dollar_of}
use Rattle.language_model.specs.Typing.{Wanted, Found, after, as_wanted, mismatch, refused, wrong_call, typed, Part, part_typed, Wants, Anything, This, Another, elements_typed, list_typed, entries_typed, map_typed, are_distinct, gives_each, fields_typed, own_fields, tuple_typed, level_index, level_step, steps_typed, selected, select_typed, of_port, prefixes_typed, level_operator, operands_typed, level_in, binary_typed, marker_asked, conditional_typed, arguments_typed, function_typed, call_of, int32, OnFirst, level_first, level_changed, is_mutable, if_mutable, changed_typed, argument_count, fixed_typed, no_value, arguments_of, built_in_typed, level_typed}
use Rattle.language_model.specs.parts.Typing.{dollar_typed, wants_list, wants_map, wants_tuple, port_attribute, of_base, binary_or_marker, branch_wanted, value_given, call_typed}
use Rattle.language_model.proofs.parts.Typing.{field_typed, unary_typed, first_typed}
use Rattle.language_model.specs.TypingLaws.{TypingAt, part}
use Rattle.language_model.proofs.Wanting.{part_of, part_at}

-- ---- the names that are mentioned

abbrev names : Mentions → List (List ℕ)
names ms = map (λ n. n.what) (dollars ms)

names_append : (ms ns : Mentions) → names (ms ++ ns) ≡ names ms ++ names ns
names_append ms ns = ap (map (λ n. n.what)) (filter_map-append _ ms ns) ∙ map-append (λ n. n.what) (dollars ms) (dollars ns)

-- what an expression mentions
abbrev mentions : ExprKind → At
mentions = fold-ExprKind At level_mentions

abbrev mentioned : Expr → Placed At
mentioned e = record { at = e.at; what = mentions e.what }

mentions_at : (e : ExprKind) (x : ExprKind-F ExprKind) → out-ExprKind e ≡ x → mentions e ≡ level_mentions (map-ExprKind ExprKind At mentions x)
mentions_at e x out = fold_out-ExprKind At level_mentions e ∙ ap (λ y. level_mentions (map-ExprKind ExprKind At mentions y)) out

module _ (scope : Scope) (given others : List Dollar) where
  abbrev one : Scope
  one = with_dollars scope given

  abbrev other : Scope
  other = with_dollars scope others

  -- ---- parts

  -- the part is the same in both scopes
  abbrev Alike : Placed Part → Type 0
  Alike e = (wanted : Wanted) → part_typed e one wanted ≡ part_typed e other wanted

  abbrev AlikeEntry : Placed Part × Placed Part → Type 0
  AlikeEntry e = Alike e.0 × Alike e.1

  abbrev AlikeField : Field (Placed Part) → Type 0
  AlikeField f = Alike f.value

  abbrev AlikeStep : Step (Placed Part) → Type 0
  AlikeStep (N.Member m) = Unit {0}
  AlikeStep (N.Index e) = Alike e

  elements_alike : (t : SplType) (es : List (Placed Part)) → AllByRecursion Alike es → elements_typed one t es ≡ elements_typed other t es
  elements_alike t [] h = refl
  elements_alike t (e ∷ es) h = λ i. after (h.0 (Some t) i) (λ x. after (elements_alike t es h.1 i) (λ xs. Ok (x.code ∷ xs)))

  list_alike : (at : ℕ) (wants : Wants SplType) (es : List (Placed Part)) → AllByRecursion Alike es → list_typed at one wants es ≡ list_typed at other wants es
  list_alike at Another es h = refl
  list_alike at (This t) es h = λ i. after (elements_alike t es h i) (λ xs. Ok (typed (S.List t) (C.List xs)))
  list_alike at Anything [] h = refl
  list_alike at Anything (e ∷ es) h =
      λ i. after (h.0 None i) (λ x. after (elements_alike x.kind es h.1 i) (λ xs. Ok (typed (S.List x.kind) (C.List (x.code ∷ xs)))))

  entries_alike : (k t : SplType) (es : List (Placed Part × Placed Part)) → AllByRecursion AlikeEntry es → entries_typed one k t es ≡ entries_typed other k t es
  entries_alike k t [] h = refl
  entries_alike k t (e ∷ es) h =
      λ i. after (h.0.0 (Some k) i) (λ x. after (h.0.1 (Some t) i) (λ y. after (entries_alike k t es h.1 i) (λ xs. Ok ((x.code, y.code) ∷ xs))))

  map_alike : (at : ℕ) (wants : Wants (SplType × SplType)) (es : List (Placed Part × Placed Part)) → AllByRecursion AlikeEntry es → map_typed at one wants es ≡ map_typed at other wants es
  map_alike at Another es h = refl
  map_alike at (This p) es h = λ i. after (entries_alike p.0 p.1 es h i) (λ xs. Ok (typed (S.Map p.0 p.1) (C.Map xs)))
  map_alike at Anything [] h = refl
  map_alike at Anything (e ∷ es) h =
      λ i. after (h.0.0 None i) (λ x. after (h.0.1 None i) (λ y.
      after (entries_alike x.kind y.kind es h.1 i) (λ xs. Ok (typed (S.Map x.kind y.kind) (C.Map ((x.code, y.code) ∷ xs))))))

  field_alike : (schema : List (Named SplType)) (f : Field (Placed Part)) (o : Option (Y.At (Named SplType))) → AlikeField f → field_typed one schema f o ≡ field_typed other schema f o
  field_alike schema f None h = refl
  field_alike schema f (Some a) h = λ i. after (h (Some a.what.kind) i) (λ x. Ok (a.place, x.code))

  fields_alike : (schema : List (Named SplType)) (fs : List (Field (Placed Part))) → AllByRecursion AlikeField fs → fields_typed one schema fs ≡ fields_typed other schema fs
  fields_alike schema [] h = refl
  fields_alike schema (f ∷ fs) h =
      λ i. after (field_alike schema f (attribute_of schema f.name.what) h.0 i) (λ x. after (fields_alike schema fs h.1 i) (λ xs. Ok (x ∷ xs)))

  own_alike : (n : ℕ) (fs : List (Field (Placed Part))) → AllByRecursion AlikeField fs → own_fields one n fs ≡ own_fields other n fs
  own_alike n [] h = refl
  own_alike n (f ∷ fs) h =
      λ i. after (h.0 None i) (λ x. after (own_alike (suc n) fs h.1 i) (λ xs. Ok (record { name = f.name.what; kind = x.kind } ∷ xs.0, (n, x.code) ∷ xs.1)))

  tuple_alike : (at : ℕ) (wants : Wants (List (Named SplType))) (fs : List (Field (Placed Part))) → AllByRecursion AlikeField fs → tuple_typed at one wants fs ≡ tuple_typed at other wants fs
  tuple_alike at Another fs h = refl
  tuple_alike at (This schema) fs h =
      λ i. if gives_each schema fs then after (fields_alike schema fs h i) (λ xs. Ok (typed (S.Tuple schema) (C.Tuple xs))) else mismatch at
  tuple_alike at Anything fs h =
      λ i. if are_distinct fs then after (own_alike 0 fs h i) (λ xs. Ok (typed (S.Tuple xs.0) (C.Tuple xs.1))) else mismatch at

  step_alike : (base : ℕ) (y : SplType-F SplType) (s : Step (Placed Part)) → AlikeStep s → level_step base one y s ≡ level_step base other y s
  step_alike base (T.Tuple schema) (N.Member m) h = refl
  step_alike base (T.List t) (N.Index e) h = λ i. after (h None i) (λ x. after (level_index e.at x.code (out-SplType x.kind)) (λ code. Ok (K.Element code, t)))
  step_alike base (T.Map k t) (N.Index e) h = λ i. after (h (Some k) i) (λ x. Ok (K.AtKey x.code, t))
  step_alike base _ _ h = refl

  steps_alike : (base : ℕ) (t : SplType) (ss : List (Step (Placed Part))) → AllByRecursion AlikeStep ss → steps_typed base one t ss ≡ steps_typed base other t ss
  steps_alike base t [] h = refl
  steps_alike base t (s ∷ ss) h =
      λ i. after (step_alike base (out-SplType t) s h.0 i) (λ x. after (steps_alike base x.1 ss h.1 i) (λ xs. Ok (x.0 ∷ xs.0, xs.1)))

  select_alike : (base : ℕ) (x : Typed) (ss : List (Step (Placed Part))) → AllByRecursion AlikeStep ss → select_typed base one x ss ≡ select_typed base other x ss
  select_alike base x ss h = λ i. after (steps_alike base x.kind ss h i) (λ xs. Ok (typed xs.1 (selected x.code xs.0)))

  of_part_alike : (base : Placed Part) (ss : List (Step (Placed Part))) → Alike base → AllByRecursion AlikeStep ss
      → after (part_typed base one None) (λ x. select_typed base.at one x ss) ≡ after (part_typed base other None) (λ x. select_typed base.at other x ss)
  of_part_alike base ss h g = λ i. after (h None i) (λ x. select_alike base.at x ss g i)

  of_port_alike : (m : Meant) (base : Placed Part) (ss : List (Step (Placed Part))) → Alike base → AllByRecursion AlikeStep ss → of_port m base one ss ≡ of_port m base other ss
  of_port_alike (OfPort p) base (N.Member m ∷ ss) h g =
      λ i. after (port_attribute p.place m.at m.what (attribute_of p.what.schema m.what)) (λ x. select_alike base.at x ss g.1 i)
  of_port_alike (OfPort p) base [] h g = of_part_alike base [] h g
  of_port_alike (OfPort p) base (N.Index e ∷ ss) h g = of_part_alike base (N.Index e ∷ ss) h g
  of_port_alike (OfVariable v) base ss h g = of_part_alike base ss h g
  of_port_alike (OfAttribute a) base ss h g = of_part_alike base ss h g
  of_port_alike Nothing base ss h g = of_part_alike base ss h g

  of_base_alike : (name : Option (List ℕ)) (base : Placed Part) (ss : List (Step (Placed Part))) → Alike base → AllByRecursion AlikeStep ss
      → of_base name base one ss ≡ of_base name base other ss
  of_base_alike (Some name) base ss h g = of_port_alike (meant scope name) base ss h g
  of_base_alike None base ss h g = of_part_alike base ss h g

  unary_alike : (ps : List (Placed PrefixOperator)) (e : Placed Part) → Alike e → unary_typed one ps e ≡ unary_typed other ps e
  unary_alike ps e h = λ i. after (h None i) (λ x. after (prefixes_typed ps e.at x.kind) (λ xs. Ok (typed xs.1 (C.Unary xs.0 x.code))))

  operands_alike : (x : Typed) (left right : Placed Part) (o : Option (BinaryCode × SplType)) → Alike right → operands_typed one x left right o ≡ operands_typed other x left right o
  operands_alike x left right None h = refl
  operands_alike x left right (Some op) h = λ i. after (h (Some x.kind) i) (λ y. Ok (typed op.1 (C.Binary op.0 x.code y.code)))

  binary_alike : (op : BinaryOperator) (left right : Placed Part) → Alike left → Alike right → binary_typed one op left right ≡ binary_typed other op left right
  binary_alike B.In left right h g = λ i. after (h None i) (λ x. after (g None i) (λ y. level_in x y.code right.at (out-SplType y.kind)))
  binary_alike op left right h g = λ i. after (h None i) (λ x. operands_alike x left right (level_operator op (out-SplType x.kind)) g i)

  binary_or_marker_alike : (asked : Option (Code Slot)) (op : BinaryOperator) (left right : Placed Part) → Alike left → Alike right
      → binary_or_marker asked one op left right ≡ binary_or_marker asked other op left right
  binary_or_marker_alike (Some code) op left right h g = refl
  binary_or_marker_alike None op left right h g = binary_alike op left right h g

  conditional_alike : (wanted : Wanted) (c a b : Placed Part) → Alike c → Alike a → Alike b → conditional_typed one wanted c a b ≡ conditional_typed other wanted c a b
  conditional_alike wanted c a b f g h =
      λ i. after (f (Some S.Bool) i) (λ x. after (g wanted i) (λ y.
      after (h (branch_wanted wanted y.kind) i) (λ z. Ok (typed y.kind (C.Conditional x.code y.code z.code)))))

  -- ---- calls

  arguments_alike : (ts : List SplType) (es : List (Placed Part)) → AllByRecursion Alike es → arguments_typed one ts es ≡ arguments_typed other ts es
  arguments_alike [] [] h = refl
  arguments_alike [] (e ∷ es) h = refl
  arguments_alike (t ∷ ts) [] h = refl
  arguments_alike (t ∷ ts) (e ∷ es) h = λ i. after (h.0 (Some t) i) (λ x. after (arguments_alike ts es h.1 i) (λ xs. Ok (x.code ∷ xs)))

  function_alike : (at : ℕ) (name : List ℕ) (es : List (Placed Part)) (o : Option (Y.At Signature)) → AllByRecursion Alike es
      → function_typed at one name es o ≡ function_typed at other name es o
  function_alike at name es None h = refl
  function_alike at name es (Some f) h =
      λ i. if length es == length f.what.parameters then after (arguments_alike f.what.parameters es h i) (λ xs. value_given at f.what.result (C.Call f.place xs))
      else wrong_call at

  fixed_alike : (call : BuiltIn) (t : SplType) (ts : List SplType) (es : List (Placed Part)) → AllByRecursion Alike es → fixed_typed one call t ts es ≡ fixed_typed other call t ts es
  fixed_alike call t ts es h = λ i. after (arguments_alike ts es h i) (λ xs. Ok (typed t (C.BuiltIn call xs)))

  first_alike : (at : ℕ) (x : Code Slot) (es : List (Placed Part)) (o : OnFirst) → AllByRecursion Alike es → first_typed at one x es o ≡ first_typed at other x es o
  first_alike at x es None h = refl
  first_alike at x es (Some on) h = λ i. after (arguments_alike on.2 es h i) (λ xs. Ok (typed on.1 (C.BuiltIn on.0 (x ∷ xs))))

  on_argument_alike : (at : ℕ) (call : CallName) (e : Placed Part) (es : List (Placed Part)) → Alike e → AllByRecursion Alike es
      → after (part_typed e one None) (λ x. first_typed at one x.code es (level_first call x.kind (out-SplType x.kind)))
      ≡ after (part_typed e other None) (λ x. first_typed at other x.code es (level_first call x.kind (out-SplType x.kind)))
  on_argument_alike at call e es h g = λ i. after (h None i) (λ x. first_alike at x.code es (level_first call x.kind (out-SplType x.kind)) g i)

  mutable_alike : {A : Type 0} (at : ℕ) (e : Placed Part) (root : Option (List ℕ)) (r s : Found A) → r ≡ s → if_mutable at one e root r ≡ if_mutable at other e root s
  mutable_alike at e None r s same = refl
  mutable_alike at e (Some name) r s same = λ i. if is_mutable scope name then same i else refused R.NotMutable e.at None

  changed_alike : (at : ℕ) (e : Placed Part) (es : List (Placed Part)) (o : Option (List SplType)) → AllByRecursion Alike es
      → changed_typed at one e es o ≡ changed_typed at other e es o
  changed_alike at e es None h = refl
  changed_alike at e es (Some types) h =
      mutable_alike at e (root_of e.what.0) (arguments_typed one types es) (arguments_typed other types es) (arguments_alike types es h)

  -- a call that changes its first argument
  changing_alike : (at : ℕ) (call : CallName) (e : Placed Part) (es : List (Placed Part)) → Alike e → AllByRecursion Alike es
      → after (part_typed e one None) (λ x. changed_typed at one e es (level_changed call (out-SplType x.kind)))
      ≡ after (part_typed e other None) (λ x. changed_typed at other e es (level_changed call (out-SplType x.kind)))
  changing_alike at call e es h g = λ i. after (h None i) (λ x. changed_alike at e es (level_changed call (out-SplType x.kind)) g i)

  no_value_alike : (at : ℕ) (r s : Found (List (Code Slot))) → r ≡ s → no_value at r ≡ no_value at s
  no_value_alike at r s same = ap (no_value at) same

  arguments_of_alike : (at : ℕ) (call : CallName) (es : List (Placed Part)) → AllByRecursion Alike es → arguments_of at one call es ≡ arguments_of at other call es
  arguments_of_alike at A.Length es h = fixed_alike Q.Length int32 (S.Text ∷ []) es h
  arguments_of_alike at A.Substring es h = fixed_alike Q.Substring S.Text (S.Text ∷ int32 ∷ int32 ∷ []) es h
  arguments_of_alike at A.CurrentPunct es h = refl
  arguments_of_alike at A.AppendM (e ∷ es) h = no_value_alike at _ _ (changing_alike at A.AppendM e es h.0 h.1)
  arguments_of_alike at A.RemoveM (e ∷ es) h = no_value_alike at _ _ (changing_alike at A.RemoveM e es h.0 h.1)
  arguments_of_alike at A.ClearM (e ∷ es) h = no_value_alike at _ _ (changing_alike at A.ClearM e es h.0 h.1)
  arguments_of_alike at A.Size (e ∷ es) h = on_argument_alike at A.Size e es h.0 h.1
  arguments_of_alike at A.Has (e ∷ es) h = on_argument_alike at A.Has e es h.0 h.1
  arguments_of_alike at A.Abs (e ∷ es) h = on_argument_alike at A.Abs e es h.0 h.1
  arguments_of_alike at A.Min (e ∷ es) h = on_argument_alike at A.Min e es h.0 h.1
  arguments_of_alike at A.Max (e ∷ es) h = on_argument_alike at A.Max e es h.0 h.1
  arguments_of_alike at _ [] h = refl

  built_in_alike : (at : ℕ) (call : CallName) (es : List (Placed Part)) → AllByRecursion Alike es → built_in_typed at one call es ≡ built_in_typed at other call es
  built_in_alike at call es h = λ i. if length es == argument_count call then arguments_of_alike at call es h i else wrong_call at

  call_alike : (at : ℕ) (name : List ℕ) (es : List (Placed Part)) (o : Option CallName) → AllByRecursion Alike es → call_typed at one name es o ≡ call_typed at other name es o
  call_alike at name es (Some call) h = built_in_alike at call es h
  call_alike at name es None h = function_alike at name es (function_of scope name) h

  -- ---- expressions

  -- the parameters mentioned mean the same
  abbrev Agree : Mentions → Type 0
  Agree ms = (name : List ℕ) → Contains (names ms) name → dollar_of given name ≡ dollar_of others name

  agree_first : (ms ns : Mentions) → Agree (ms ++ ns) → Agree ms
  agree_first ms ns h name c = h name (subst (λ xs. Contains xs name) (sym (names_append ms ns)) (Contains-append_left (names ms) (names ns) name c))

  agree_second : (ms ns : Mentions) → Agree (ms ++ ns) → Agree ns
  agree_second ms ns h name c = h name (subst (λ xs. Contains xs name) (sym (names_append ms ns)) (Contains-append_right (names ms) (names ns) name c))

  abbrev IsAlike : ExprKind → Type 0
  IsAlike e = (at : ℕ) → Agree (mentions e at) → (wanted : Wanted) → (part e).1 at one wanted ≡ (part e).1 at other wanted

  alike_at : (e : ExprKind) (x : ExprKind-F ExprKind) → out-ExprKind e ≡ x
      → ((at : ℕ) → Agree (level_mentions (map-ExprKind ExprKind At mentions x) at) → (wanted : Wanted)
      → level_typed (map-ExprKind ExprKind Part part x) at one wanted ≡ level_typed (map-ExprKind ExprKind Part part x) at other wanted)
      → IsAlike e
  alike_at e x out h at agree wanted =
      ap (λ (f : TypingAt). f at one wanted) (sym (part_at e x out))
      ∙ h at (subst (λ (m : At). Agree (m at)) (mentions_at e x out) agree) wanted
      ∙ ap (λ (f : TypingAt). f at other wanted) (part_at e x out)

  alike_part : (e : Expr) → IsAlike e.what → Agree (mentions e.what e.at) → Alike (part_of e)
  alike_part e h agree = h e.at agree

  alike_parts : (es : List Expr) → AllByRecursion (OfExpr IsAlike) es → Agree (flat_map part_mentions (map mentioned es)) → AllByRecursion Alike (map part_of es)
  alike_parts [] h agree = tt
  alike_parts (e ∷ es) h agree =
      let here = mentions e.what e.at in
      let rest = flat_map part_mentions (map mentioned es) in
      (alike_part e h.0 (agree_first here rest agree), alike_parts es h.1 (agree_second here rest agree))

  abbrev entry_mentioned : Expr × Expr → Placed At × Placed At
  entry_mentioned e = (mentioned e.0, mentioned e.1)

  alike_entries : (es : List (Expr × Expr)) → AllByRecursion (OfEntry IsAlike) es → Agree (flat_map (λ e. part_mentions e.0 ++ part_mentions e.1) (map entry_mentioned es))
      → AllByRecursion AlikeEntry (map (λ e. (part_of e.0, part_of e.1)) es)
  alike_entries [] h agree = tt
  alike_entries (e ∷ es) h agree =
      let key = mentions e.0.what e.0.at in
      let item = mentions e.1.what e.1.at in
      let rest = flat_map (λ e. part_mentions e.0 ++ part_mentions e.1) (map entry_mentioned es) in
      let both = agree_first (key ++ item) rest agree in
      ((alike_part e.0 h.0.0 (agree_first key item both), alike_part e.1 h.0.1 (agree_second key item both)), alike_entries es h.1 (agree_second (key ++ item) rest agree))

  abbrev part_in : Field Expr → Field (Placed Part)
  part_in f = record { name = f.name; value = part_of f.value }

  abbrev mentioned_in : Field Expr → Field (Placed At)
  mentioned_in f = record { name = f.name; value = mentioned f.value }

  alike_fields : (fs : List (Field Expr)) → AllByRecursion (OfField IsAlike) fs → Agree (flat_map (λ f. part_mentions f.value) (map mentioned_in fs))
      → AllByRecursion AlikeField (map part_in fs)
  alike_fields [] h agree = tt
  alike_fields (f ∷ fs) h agree =
      let here = mentions f.value.what f.value.at in
      let rest = flat_map (λ f. part_mentions f.value) (map mentioned_in fs) in
      (alike_part f.value h.0 (agree_first here rest agree), alike_fields fs h.1 (agree_second here rest agree))

  -- for a function that keeps members and maps the expression of an index
  module _ (g : Step Expr → Step (Placed Part)) (k : Step Expr → Step (Placed At)) (members : (m : Placed (List ℕ)) → N.Member m ≡ g (N.Member m))
      (indices : (e : Expr) → N.Index (part_of e) ≡ g (N.Index e)) (mentions_of : (e : Expr) → N.Index (mentioned e) ≡ k (N.Index e)) where
    alike_step : (s : Step Expr) → OfStep IsAlike s → Agree (step_mentions (k s)) → AlikeStep (g s)
    alike_step (N.Member m) h agree = subst AlikeStep (members m) tt
    alike_step (N.Index e) h agree = subst AlikeStep (indices e) (alike_part e h (subst (λ s. Agree (step_mentions s)) (sym (mentions_of e)) agree))

    alike_steps : (ss : List (Step Expr)) → AllByRecursion (OfStep IsAlike) ss → Agree (flat_map step_mentions (map k ss)) → AllByRecursion AlikeStep (map g ss)
    alike_steps [] h agree = tt
    alike_steps (s ∷ ss) h agree =
        let here = step_mentions (k s) in
        let rest = flat_map step_mentions (map k ss) in
        (alike_step s h.0 (agree_first here rest agree), alike_steps ss h.1 (agree_second here rest agree))

  -- a parameter is mentioned by itself
  dollar_alike : (at : ℕ) (n : List ℕ) (wanted : Wanted) → dollar_of given n ≡ dollar_of others n
      → after (dollar_typed at n (dollar_of given n)) (as_wanted at wanted) ≡ after (dollar_typed at n (dollar_of others n)) (as_wanted at wanted)
  dollar_alike at n wanted same = ap (λ o. after (dollar_typed at n o) (as_wanted at wanted)) same

  called_alike : (at : ℕ) (wanted : Wanted) (r s : Found Typed) → r ≡ s → after r (as_wanted at wanted) ≡ after s (as_wanted at wanted)
  called_alike at wanted r s same = ap (λ r. after r (as_wanted at wanted)) same

  alike_forms : ExprSteps IsAlike
  alike_forms = record {
    name = λ n. alike_at (E.Name n) (X.Name n) (E.outs-Name n) (λ at agree wanted. refl);
    dollar = λ n. alike_at (E.Dollar n) (X.Dollar n) (E.outs-Dollar n) (λ at agree wanted. dollar_alike at n wanted (agree n (0, omega arith, refl)));
    number = λ n. alike_at (E.Number n) (X.Number n) (E.outs-Number n) (λ at agree wanted. refl);
    text = λ bytes. alike_at (E.Text bytes) (X.Text bytes) (E.outs-Text bytes) (λ at agree wanted. refl);
    bool = λ b. alike_at (E.Bool b) (X.Bool b) (E.outs-Bool b) (λ at agree wanted. refl);
    group = λ e h. alike_at (E.Group e) (X.Group e) (E.outs-Group e) (λ at agree wanted. h e.at agree wanted);
    list = λ es h. alike_at (E.List es) (X.List es) (E.outs-List es) (λ at agree wanted. list_alike at (wants_list wanted) (map part_of es) (alike_parts es h agree));
    map_of = λ es h. alike_at (E.Map es) (X.Map es) (E.outs-Map es) (λ at agree wanted.
        map_alike at (wants_map wanted) (map (λ e. (part_of e.0, part_of e.1)) es) (alike_entries es h agree));
    tuple = λ fs h. alike_at (E.Tuple fs) (X.Tuple fs) (E.outs-Tuple fs) (λ at agree wanted. tuple_alike at (wants_tuple wanted) (map part_in fs) (alike_fields fs h agree));
    call = λ n es h. alike_at (E.Call n es) (X.Call n es) (E.outs-Call n es) (λ at agree wanted.
        called_alike at wanted _ _ (call_alike at n (map part_of es) (call_of n) (alike_parts es h agree)));
    select = λ e ss h g. alike_at (E.Select e ss) (X.Select e ss) (E.outs-Select e ss) (λ at agree wanted.
        let here = mentions e.what e.at in
        called_alike at wanted _ _ (of_base_alike (name_of e.what) (part_of e) _ (alike_part e h (agree_first here _ agree))
        (alike_steps _ _ (λ m. refl) (λ i. refl) (λ i. refl) ss g (agree_second here _ agree))));
    unary = λ ps e h. alike_at (E.Unary ps e) (X.Unary ps e) (E.outs-Unary ps e) (λ at agree wanted. called_alike at wanted _ _ (unary_alike ps (part_of e) (alike_part e h agree)));
    binary = λ op l r h g. alike_at (E.Binary op l r) (X.Binary op l r) (E.outs-Binary op l r) (λ at agree wanted.
        let left = mentions l.what l.at in
        let right = mentions r.what r.at in
        let asked = marker_asked (scope.punct && asks_punct l.what) op (named_marker r.what) in
        called_alike at wanted _ _
        (binary_or_marker_alike asked op (part_of l) (part_of r) (alike_part l h (agree_first left right agree)) (alike_part r g (agree_second left right agree))));
    conditional = λ c a b f g h. alike_at (E.Conditional c a b) (X.Conditional c a b) (E.outs-Conditional c a b) (λ at agree wanted.
        let test = mentions c.what c.at in
        let first = mentions a.what a.at in
        let second = mentions b.what b.at in
        let front = agree_first (test ++ first) second agree in
        conditional_alike wanted (part_of c) (part_of a) (part_of b) (alike_part c f (agree_first test first front))
        (alike_part a g (agree_second test first front)) (alike_part b h (agree_second (test ++ first) second agree)));
  }

pub mentioned_law : MentionedLaw
mentioned_law scope given others e wanted same = expr_ind (IsAlike scope given others) (alike_forms scope given others) e.what e.at same wanted

-- ---- a parameter that isn't mentioned

abbrev found_of : Option (Y.At Dollar) → Option (Found Typed)
found_of o = option_map (λ d. d.what.found) o

found_either : (b : Bool) (x y z w : Option (Y.At Dollar)) → found_of x ≡ found_of z → found_of y ≡ found_of w → found_of (if b then x else y) ≡ found_of (if b then z else w)
found_either true x y z w h g = h
found_either false x y z w h g = g

module _ (name : List ℕ) where
  abbrev has_name : Dollar → Bool
  has_name d = bytes_eq d.name name

  -- wherever the list begins
  found_from : (i j : ℕ) (ds : List Dollar) → found_of (first_from has_name i ds) ≡ found_of (first_from has_name j ds)
  found_from i j [] = refl
  found_from i j (d ∷ ds) = found_either (has_name d) _ _ _ _ refl (found_from (suc i) (suc j) ds)

  found_without : (d : Dollar) → has_name d ≡ false → (i : ℕ) (before rest : List Dollar)
      → found_of (first_from has_name i (before ++ d ∷ rest)) ≡ found_of (first_from has_name i (before ++ rest))
  found_without d none i [] rest = ap (λ b. found_of (if b then Some (at_place i d) else first_from has_name (suc i) rest)) none ∙ found_from (suc i) i rest
  found_without d none i (b ∷ before) rest = found_either (has_name b) _ _ _ _ refl (found_without d none (suc i) before rest)

another_name : (names : List (List ℕ)) (d : Dollar) (name : List ℕ) → (Contains names d.name → ⊥) → Contains names name → bytes_eq d.name name ≡ false
another_name names d name none has = by_cases (bytes_eq d.name name) refl
  where
    by_cases : (b : Bool) → bytes_eq d.name name ≡ b → b ≡ false
    by_cases true is = absurd (none (subst (Contains names) (sym ((bytes_decides d.name name).0 is)) has))
    by_cases false is = refl

pub unused_law : UnusedLaw
unused_law scope before rest d e wanted none =
    mentioned_law scope (before ++ d ∷ rest) (before ++ rest) e wanted (λ name has. found_without name d (another_name _ d name none has) 0 before rest)
