-- What the variables of a state hold first is a code of literals, `-`, lists, maps and tuples.
use Rattle.std.specs.Prelude.{◌≡◌, ◌&&◌, ℕ, zero, suc, pos, nat_lt, Bool, true, IsTrue, List, [], ◌∷◌, Option, Some, None, Ok, Err, slice_get, codes}
use Rattle.std.specs.List.{AllByRecursion, list_all}
use Rattle.std.specs.Cmp.{first_so, second_so}
use Rattle.std.proofs.Common.{refl, sym, ap, subst, ◌∙◌}
use Rattle.std.proofs.lemmas.Bool.{and_from}
use Rattle.spl_value.specs.declared.types.Named.{Named}
use Rattle.spl_value.specs.declared.types.SplType.{SplType}
use Rattle.spl_value.specs.declared.types.SplType.TheVariants as S
use Rattle.spl_value.specs.declared.types.SplType.TheOpen as T
use Rattle.spl_value.specs.declared.types.SplType.TheOpen.{SplType-F}
use Rattle.spl_value.specs.declared.types.SplType.TheViews.{out-SplType}
use Rattle.spl_value.specs.declared.value.Value.{Value}
use Rattle.spl_value.specs.declared.value.Value.TheVariants as V
use Rattle.spl_value.specs.Values.{default_value, top}
use Rattle.spl_tree.specs.declared.token.Number.{Number}
use Rattle.spl_tree.specs.declared.code.Code.{Code}
use Rattle.spl_tree.specs.declared.code.Code.TheVariants as C
use Rattle.spl_tree.specs.declared.code.Code.TheOpen as O
use Rattle.spl_tree.specs.declared.code.Code.TheFolds.{map-Code}
use Rattle.spl_tree.specs.declared.code.Slot.{Slot}
use Rattle.spl_tree.specs.declared.code.UnaryCode.{UnaryCode}
use Rattle.spl_tree.specs.declared.expression.ExprKind.{ExprKind}
use Rattle.spl_tree.specs.declared.expression.ExprKind.TheVariants as E
use Rattle.spl_tree.specs.declared.expression.ExprKind.TheOpen as X
use Rattle.spl_tree.specs.declared.expression.ExprKind.TheOpen.{ExprKind-F}
use Rattle.spl_tree.specs.declared.expression.ExprKind.TheViews.{out-ExprKind}
use Rattle.spl_tree.specs.declared.expression.ExprKind.TheFolds.{fold-ExprKind, fold_out-ExprKind, map-ExprKind}
use Rattle.spl_tree.specs.declared.expression.Field.{Field}
use Rattle.spl_tree.specs.declared.expression.Placed.{Placed}
use Rattle.spl_tree.specs.declared.expression.PrefixOperator.{PrefixOperator}
use Rattle.spl_tree.specs.declared.expression.PrefixOperator.TheVariants as P
use Rattle.spl_tree.specs.declared.statement.Declaration.{Declaration}
use Rattle.spl_tree.specs.Trees.{Expr}
use Rattle.spl_tree.proofs.Induction.{OfExpr, OfEntry, OfField, ExprSteps, expr_ind}
use Rattle.language_model.specs.declared.checked.StateVariable.{StateVariable}
use Rattle.language_model.specs.declared.scope.CheckError.TheVariants as R
use Rattle.language_model.specs.declared.scope.Dollar.{Dollar}
use Rattle.language_model.specs.declared.scope.Scope.{Scope}
use Rattle.language_model.specs.declared.scope.Typed.{Typed}
use Rattle.language_model.specs.BodyTyping.{first_value}
use Rattle.language_model.specs.LogicTyping.{is_minus, is_negation, level_plain, level_state, plain_parameter, state_value, state_variable}
use Rattle.language_model.specs.parts.LogicTyping.{is_minus_prefix, is_plain, is_state_value, state_typing}
use Rattle.language_model.specs.Parameters.{constant_scope}
use Rattle.language_model.specs.Scopes.{At, attribute_of, dollar_of}
use Rattle.language_model.specs.TypeNames.{Types, type_meant}
use Rattle.language_model.specs.Typing.{Wanted, Found, Part, Wants, Anything, This, Another, after, are_distinct, as_wanted, elements_typed, entries_typed, fields_typed, gives_each, level_prefix, list_typed, map_typed, mismatch, number_typed, own_fields, part_typed, prefixes_at, prefixes_typed, refused, same_types, tuple_typed, typed, typing}
use Rattle.language_model.specs.parts.Typing.{dollar_typed, wants_list, wants_map, wants_tuple}
use Rattle.language_model.proofs.parts.Typing.{field_typed, prefix_typed, unary_typed}
use Rattle.language_model.proofs.TypingLaws as Y
use Rattle.language_model.specs.TypingLaws.{parted, parts, entry_parts, field_parts, part}
use Rattle.check_laws.proofs.Accepting.{gives_if, none_at}
use Rattle.language_model.proofs.PlainCodes.{plain_at}
use Rattle.language_model.proofs.FoundAnswers.{Gives, gives_after, gives_from, gives_then}
use Rattle.spl_value.proofs.Bools.{false_true as never_so}

-- ---- codes, by their parts

literal_code : (v : Value) → is_plain (C.Literal v) ≡ true
literal_code v = plain_at (C.Literal v) (O.Literal v) (C.outs-Literal v)

list_code : (xs : List (Code Slot)) → is_plain (C.List xs) ≡ list_all is_plain xs
list_code xs = plain_at (C.List xs) (O.List xs) (C.outs-List xs) ∙ along xs
  where
    along : (xs : List (Code Slot)) → level_plain (map-Code Slot (Code Slot) Bool is_plain (O.List xs)) ≡ list_all is_plain xs
    along [] = refl
    along (x ∷ xs) = ap (λ b. is_plain x && b) (along xs)

abbrev plain_entry : Code Slot × Code Slot → Bool
plain_entry x = is_plain x.0 && is_plain x.1

map_code : (xs : List (Code Slot × Code Slot)) → is_plain (C.Map xs) ≡ list_all plain_entry xs
map_code xs = plain_at (C.Map xs) (O.Map xs) (C.outs-Map xs) ∙ along xs
  where
    along : (xs : List (Code Slot × Code Slot)) → level_plain (map-Code Slot (Code Slot) Bool is_plain (O.Map xs)) ≡ list_all plain_entry xs
    along [] = refl
    along (x ∷ xs) = ap (λ b. plain_entry x && b) (along xs)

abbrev plain_field : ℕ × Code Slot → Bool
plain_field f = is_plain f.1

tuple_code : (fs : List (ℕ × Code Slot)) → is_plain (C.Tuple fs) ≡ list_all plain_field fs
tuple_code fs = plain_at (C.Tuple fs) (O.Tuple fs) (C.outs-Tuple fs) ∙ along fs
  where
    along : (fs : List (ℕ × Code Slot)) → level_plain (map-Code Slot (Code Slot) Bool is_plain (O.Tuple fs)) ≡ list_all plain_field fs
    along [] = refl
    along (f ∷ fs) = ap (λ b. is_plain f.1 && b) (along fs)

unary_code : (ops : List UnaryCode) (x : Code Slot) → is_plain (C.Unary ops x) ≡ (list_all is_minus ops && is_plain x)
unary_code ops x = plain_at (C.Unary ops x) (O.Unary ops x) (C.outs-Unary ops x)

-- ---- expressions, by their parts

abbrev passes : List Dollar → ExprKind → Bool
passes given = fold-ExprKind Bool (level_state given)

state_level : (given : List Dollar) (k : ExprKind) (x : ExprKind-F ExprKind) → out-ExprKind k ≡ x
    → passes given k ≡ level_state given (map-ExprKind ExprKind Bool (passes given) x)
state_level given k x e = fold_out-ExprKind Bool (level_state given) k ∙ ap (λ y. level_state given (map-ExprKind ExprKind Bool (passes given) y)) e

list_state : (given : List Dollar) (es : List Expr) → passes given (E.List es) ≡ list_all (is_state_value given) es
list_state given es = state_level given (E.List es) (X.List es) (E.outs-List es) ∙ along es
  where
    along : (es : List Expr) → level_state given (map-ExprKind ExprKind Bool (passes given) (X.List es)) ≡ list_all (is_state_value given) es
    along [] = refl
    along (e ∷ es) = ap (λ b. is_state_value given e && b) (along es)

abbrev state_entry : List Dollar → Expr × Expr → Bool
state_entry given e = is_state_value given e.0 && is_state_value given e.1

map_state : (given : List Dollar) (es : List (Expr × Expr)) → passes given (E.Map es) ≡ list_all (state_entry given) es
map_state given es = state_level given (E.Map es) (X.Map es) (E.outs-Map es) ∙ along es
  where
    along : (es : List (Expr × Expr)) → level_state given (map-ExprKind ExprKind Bool (passes given) (X.Map es)) ≡ list_all (state_entry given) es
    along [] = refl
    along (e ∷ es) = ap (λ b. state_entry given e && b) (along es)

abbrev state_field : List Dollar → Field Expr → Bool
state_field given f = is_state_value given f.value

tuple_state : (given : List Dollar) (fs : List (Field Expr)) → passes given (E.Tuple fs) ≡ list_all (state_field given) fs
tuple_state given fs = state_level given (E.Tuple fs) (X.Tuple fs) (E.outs-Tuple fs) ∙ along fs
  where
    along : (fs : List (Field Expr)) → level_state given (map-ExprKind ExprKind Bool (passes given) (X.Tuple fs)) ≡ list_all (state_field given) fs
    along [] = refl
    along (f ∷ fs) = ap (λ b. is_state_value given f.value && b) (along fs)

-- ---- what typing gives

abbrev Plain : Typed → Type 0
Plain t = is_plain t.code ≡ true

wanted_plain : (at : ℕ) (wanted : Wanted) (t : Typed) → Plain t → Gives Plain (as_wanted at wanted t)
wanted_plain at None t h = h
wanted_plain at (Some u) t h = gives_if Plain (same_types t.kind u) (Ok t) (mismatch at) (λ same. h) (λ other. tt)

after_plain : (at : ℕ) (wanted : Wanted) (r : Found Typed) → Gives Plain r → Gives Plain (after r (as_wanted at wanted))
after_plain at wanted r h = gives_after Plain Plain r (as_wanted at wanted) h (λ t g. wanted_plain at wanted t g)

dollar_plain : (at : ℕ) (name : List ℕ) (o : Option (Found Typed)) → plain_parameter o ≡ true → Gives Plain (dollar_typed at name o)
dollar_plain at name None h = tt
dollar_plain at name (Some (Ok t)) h = h
dollar_plain at name (Some (Err refusal)) h = tt

number_plain : (at : ℕ) (n : Number) → Gives Plain (number_typed at n)
number_plain at n =
    gives_if Plain (nat_lt n.value (top n.kind)) (Ok (typed (S.Int n.kind) (C.Literal (V.Int (pos n.value))))) (mismatch at)
    (λ below. literal_code (V.Int (pos n.value))) (λ other. tt)

-- ---- `-`

abbrev Minus : UnaryCode × SplType → Type 0
Minus x = is_minus x.0 ≡ true

prefix_minus : (operand : ℕ) (p : PrefixOperator) (y : SplType-F SplType) → is_negation p ≡ true → Gives Minus (prefix_typed operand (level_prefix p y))
prefix_minus operand P.Negate (T.Int k) h = refl
prefix_minus operand P.Negate _ h = tt
prefix_minus operand _ y h = absurd cc

abbrev Minuses : List UnaryCode × SplType → Type 0
Minuses xs = list_all is_minus xs.0 ≡ true

prefixes_minus : (ps : List (Placed PrefixOperator)) (operand : ℕ) (t : SplType) → list_all is_minus_prefix ps ≡ true → Gives Minuses (prefixes_typed ps operand t)
prefixes_minus [] operand t h = refl
prefixes_minus (p ∷ ps) operand t h =
    gives_after Minuses Minuses (prefixes_typed ps operand t) _ (prefixes_minus ps operand t (second_so (is_minus_prefix p) (list_all is_minus_prefix ps) h)) (λ xs rest.
    gives_after Minus Minuses (prefix_typed (prefixes_at ps operand) (level_prefix p.what (out-SplType xs.1))) _
    (prefix_minus (prefixes_at ps operand) p.what (out-SplType xs.1) (first_so (is_minus_prefix p) (list_all is_minus_prefix ps) h)) (λ x one.
    and_from (is_minus x.0) (list_all is_minus xs.0) one rest))

-- ---- parts

module _ (scope : Scope) where
  abbrev Good : Placed Part → Type 0
  Good e = (wanted : Wanted) → Gives Plain (part_typed e scope wanted)

  abbrev GoodEntry : Placed Part × Placed Part → Type 0
  GoodEntry e = Good e.0 × Good e.1

  abbrev GoodField : Field (Placed Part) → Type 0
  GoodField f = Good f.value

  abbrev Plains : List (Code Slot) → Type 0
  Plains xs = list_all is_plain xs ≡ true

  abbrev PlainEntries : List (Code Slot × Code Slot) → Type 0
  PlainEntries xs = list_all plain_entry xs ≡ true

  abbrev PlainField : ℕ × Code Slot → Type 0
  PlainField x = is_plain x.1 ≡ true

  abbrev PlainFields : List (ℕ × Code Slot) → Type 0
  PlainFields xs = list_all plain_field xs ≡ true

  abbrev PlainOwn : List (Named SplType) × List (ℕ × Code Slot) → Type 0
  PlainOwn xs = list_all plain_field xs.1 ≡ true

  elements_plain : (t : SplType) (es : List (Placed Part)) → AllByRecursion Good es → Gives Plains (elements_typed scope t es)
  elements_plain t [] h = refl
  elements_plain t (e ∷ es) h =
      gives_after Plain Plains (part_typed e scope (Some t)) _ (h.0 (Some t)) (λ x f.
      gives_after Plains Plains (elements_typed scope t es) _ (elements_plain t es h.1) (λ xs g.
      and_from (is_plain x.code) (list_all is_plain xs) f g))

  list_plain : (at : ℕ) (wants : Wants SplType) (es : List (Placed Part)) → AllByRecursion Good es → Gives Plain (list_typed at scope wants es)
  list_plain at Another es h = tt
  list_plain at (This t) es h =
      gives_after Plains Plain (elements_typed scope t es) _ (elements_plain t es h) (λ xs f. list_code xs ∙ f)
  list_plain at Anything [] h = tt
  list_plain at Anything (e ∷ es) h =
      gives_after Plain Plain (part_typed e scope None) _ (h.0 None) (λ x f.
      gives_after Plains Plain (elements_typed scope x.kind es) _ (elements_plain x.kind es h.1) (λ xs g.
      list_code (x.code ∷ xs) ∙ and_from (is_plain x.code) (list_all is_plain xs) f g))

  entries_plain : (k t : SplType) (es : List (Placed Part × Placed Part)) → AllByRecursion GoodEntry es → Gives PlainEntries (entries_typed scope k t es)
  entries_plain k t [] h = refl
  entries_plain k t (e ∷ es) h =
      gives_after Plain PlainEntries (part_typed e.0 scope (Some k)) _ (h.0.0 (Some k)) (λ x f.
      gives_after Plain PlainEntries (part_typed e.1 scope (Some t)) _ (h.0.1 (Some t)) (λ y g.
      gives_after PlainEntries PlainEntries (entries_typed scope k t es) _ (entries_plain k t es h.1) (λ xs rest.
      and_from (is_plain x.code && is_plain y.code) (list_all plain_entry xs) (and_from (is_plain x.code) (is_plain y.code) f g) rest)))

  map_plain : (at : ℕ) (wants : Wants (SplType × SplType)) (es : List (Placed Part × Placed Part)) → AllByRecursion GoodEntry es
      → Gives Plain (map_typed at scope wants es)
  map_plain at Another es h = tt
  map_plain at (This p) es h =
      gives_after PlainEntries Plain (entries_typed scope p.0 p.1 es) _ (entries_plain p.0 p.1 es h) (λ xs f. map_code xs ∙ f)
  map_plain at Anything [] h = tt
  map_plain at Anything (e ∷ es) h =
      gives_after Plain Plain (part_typed e.0 scope None) _ (h.0.0 None) (λ x f.
      gives_after Plain Plain (part_typed e.1 scope None) _ (h.0.1 None) (λ y g.
      gives_after PlainEntries Plain (entries_typed scope x.kind y.kind es) _ (entries_plain x.kind y.kind es h.1) (λ xs rest.
      map_code ((x.code, y.code) ∷ xs)
      ∙ and_from (is_plain x.code && is_plain y.code) (list_all plain_entry xs) (and_from (is_plain x.code) (is_plain y.code) f g) rest)))

  field_plain : (schema : List (Named SplType)) (f : Field (Placed Part)) (o : Option (At (Named SplType))) → GoodField f → Gives PlainField (field_typed scope schema f o)
  field_plain schema f None h = tt
  field_plain schema f (Some a) h = gives_after Plain PlainField (part_typed f.value scope (Some a.what.kind)) _ (h (Some a.what.kind)) (λ x g. g)

  fields_plain : (schema : List (Named SplType)) (fs : List (Field (Placed Part))) → AllByRecursion GoodField fs → Gives PlainFields (fields_typed scope schema fs)
  fields_plain schema [] h = refl
  fields_plain schema (f ∷ fs) h =
      gives_after PlainField PlainFields (field_typed scope schema f (attribute_of schema f.name.what)) _ (field_plain schema f (attribute_of schema f.name.what) h.0) (λ x g.
      gives_after PlainFields PlainFields (fields_typed scope schema fs) _ (fields_plain schema fs h.1) (λ xs rest.
      and_from (is_plain x.1) (list_all plain_field xs) g rest))

  own_plain : (i : ℕ) (fs : List (Field (Placed Part))) → AllByRecursion GoodField fs → Gives PlainOwn (own_fields scope i fs)
  own_plain i [] h = refl
  own_plain i (f ∷ fs) h =
      gives_after Plain PlainOwn (part_typed f.value scope None) _ (h.0 None) (λ x g.
      gives_after PlainOwn PlainOwn (own_fields scope (suc i) fs) _ (own_plain (suc i) fs h.1) (λ xs rest.
      and_from (is_plain x.code) (list_all plain_field xs.1) g rest))

  tuple_plain : (at : ℕ) (wants : Wants (List (Named SplType))) (fs : List (Field (Placed Part))) → AllByRecursion GoodField fs
      → Gives Plain (tuple_typed at scope wants fs)
  tuple_plain at Another fs h = tt
  tuple_plain at (This schema) fs h =
      gives_if Plain (gives_each schema fs) (after (fields_typed scope schema fs) (λ xs. Ok (typed (S.Tuple schema) (C.Tuple xs)))) (mismatch at) (λ each.
      gives_after PlainFields Plain (fields_typed scope schema fs) _ (fields_plain schema fs h) (λ xs f. tuple_code xs ∙ f)) (λ other. tt)
  tuple_plain at Anything fs h =
      gives_if Plain (are_distinct fs) (after (own_fields scope 0 fs) (λ xs. Ok (typed (S.Tuple xs.0) (C.Tuple xs.1)))) (mismatch at) (λ distinct.
      gives_after PlainOwn Plain (own_fields scope 0 fs) _ (own_plain 0 fs h) (λ xs f. tuple_code xs.1 ∙ f)) (λ other. tt)

  unary_plain : (ps : List (Placed PrefixOperator)) (e : Placed Part) → list_all is_minus_prefix ps ≡ true → Good e → Gives Plain (unary_typed scope ps e)
  unary_plain ps e minus h =
      gives_after Plain Plain (part_typed e scope None) _ (h None) (λ x f.
      gives_after Minuses Plain (prefixes_typed ps e.at x.kind) _ (prefixes_minus ps e.at x.kind minus) (λ xs g.
      unary_code xs.0 x.code ∙ and_from (list_all is_minus xs.0) (is_plain x.code) g f))

-- ---- expressions

module _ (given : List Dollar) where
  abbrev scope : Scope
  scope = constant_scope given

  abbrev IsSound : ExprKind → Type 0
  IsSound e = passes given e ≡ true → (at : ℕ) (wanted : Wanted) → Gives Plain ((part e).1 at scope wanted)

  good_parts : (es : List Expr) → AllByRecursion (OfExpr IsSound) es → list_all (is_state_value given) es ≡ true → AllByRecursion (Good scope) (parts es)
  good_parts [] h is = tt
  good_parts (e ∷ es) h is = (
    h.0 (first_so (is_state_value given e) (list_all (is_state_value given) es) is) e.at,
    good_parts es h.1 (second_so (is_state_value given e) (list_all (is_state_value given) es) is),
  )

  good_entries : (es : List (Expr × Expr)) → AllByRecursion (OfEntry IsSound) es → list_all (state_entry given) es ≡ true
      → AllByRecursion (GoodEntry scope) (entry_parts es)
  good_entries [] h is = tt
  good_entries (e ∷ es) h is =
      let here = first_so (state_entry given e) (list_all (state_entry given) es) is in (
        (
          h.0.0 (first_so (is_state_value given e.0) (is_state_value given e.1) here) e.0.at,
          h.0.1 (second_so (is_state_value given e.0) (is_state_value given e.1) here) e.1.at,
        ),
        good_entries es h.1 (second_so (state_entry given e) (list_all (state_entry given) es) is),
      )

  good_fields : (fs : List (Field Expr)) → AllByRecursion (OfField IsSound) fs → list_all (state_field given) fs ≡ true
      → AllByRecursion (GoodField scope) (field_parts fs)
  good_fields [] h is = tt
  good_fields (f ∷ fs) h is = (
    h.0 (first_so (state_field given f) (list_all (state_field given) fs) is) f.value.at,
    good_fields fs h.1 (second_so (state_field given f) (list_all (state_field given) fs) is),
  )

  plain_steps : ExprSteps IsSound
  plain_steps = record {
    name = λ n is. never_so (passes given (E.Name n)) (state_level given (E.Name n) (X.Name n) (E.outs-Name n)) is;
    dollar = λ n is at wanted. subst (Gives Plain) (sym (Y.dollar_typed n at scope wanted))
        (after_plain at wanted (dollar_typed at n (dollar_of given n)) (dollar_plain at n (dollar_of given n) (sym (state_level given (E.Dollar n) (X.Dollar n) (E.outs-Dollar n)) ∙ is)));
    number = λ n is at wanted. subst (Gives Plain) (sym (Y.number_typed n at scope wanted)) (after_plain at wanted (number_typed at n) (number_plain at n));
    text = λ bytes is at wanted. subst (Gives Plain) (sym (Y.text_typed bytes at scope wanted))
        (wanted_plain at wanted (typed S.Text (C.Literal (V.Text bytes))) (literal_code (V.Text bytes)));
    bool = λ b is at wanted. subst (Gives Plain) (sym (Y.bool_typed b at scope wanted))
        (wanted_plain at wanted (typed S.Bool (C.Literal (V.Bool b))) (literal_code (V.Bool b)));
    group = λ e h is at wanted. subst (Gives Plain) (sym (Y.group_typed e at scope wanted))
        (h (sym (state_level given (E.Group e) (X.Group e) (E.outs-Group e)) ∙ is) e.at wanted);
    list = λ es h is at wanted. subst (Gives Plain) (sym (Y.list_typed es at scope wanted))
        (list_plain scope at (wants_list wanted) (parts es) (good_parts es h (sym (list_state given es) ∙ is)));
    map_of = λ es h is at wanted. subst (Gives Plain) (sym (Y.map_typed es at scope wanted))
        (map_plain scope at (wants_map wanted) (entry_parts es) (good_entries es h (sym (map_state given es) ∙ is)));
    tuple = λ fs h is at wanted. subst (Gives Plain) (sym (Y.tuple_typed fs at scope wanted))
        (tuple_plain scope at (wants_tuple wanted) (field_parts fs) (good_fields fs h (sym (tuple_state given fs) ∙ is)));
    call = λ n es h is. never_so (passes given (E.Call n es)) (state_level given (E.Call n es) (X.Call n es) (E.outs-Call n es)) is;
    select = λ e ss h g is. never_so (passes given (E.Select e ss)) (state_level given (E.Select e ss) (X.Select e ss) (E.outs-Select e ss)) is;
    unary = λ ps e h is at wanted. subst (Gives Plain) (sym (Y.unary_typed ps e at scope wanted))
        (let both : (list_all is_minus_prefix ps && is_state_value given e) ≡ true = sym (state_level given (E.Unary ps e) (X.Unary ps e) (E.outs-Unary ps e)) ∙ is in
        after_plain at wanted (unary_typed scope ps (parted e))
        (unary_plain scope ps (parted e) (first_so (list_all is_minus_prefix ps) (is_state_value given e) both)
        (h (second_so (list_all is_minus_prefix ps) (is_state_value given e) both) e.at)));
    binary = λ op l r f g is. never_so (passes given (E.Binary op l r)) (state_level given (E.Binary op l r) (X.Binary op l r) (E.outs-Binary op l r)) is;
    conditional = λ c a b f g h is. never_so (passes given (E.Conditional c a b)) (state_level given (E.Conditional c a b) (X.Conditional c a b) (E.outs-Conditional c a b)) is;
  }

  pub value_plain : (e : Expr) (wanted : Wanted) (t : Typed) → is_state_value given e ≡ true → typing (constant_scope given) e wanted ≡ Ok t → is_plain t.code ≡ true
  value_plain e wanted t is found = gives_from Plain (typing scope e wanted) t (expr_ind IsSound plain_steps e.what is e.at wanted) found

  -- ---- the state

  abbrev PlainCode : Code Slot → Type 0
  PlainCode code = is_plain code ≡ true

  abbrev PlainFirst : StateVariable → Type 0
  PlainFirst x = is_plain x.first ≡ true

  first_plain : (t : SplType) (o : Option Expr) → Gives PlainCode (state_value given t o)
  first_plain t None = literal_code (default_value t)
  first_plain t (Some e) =
      gives_if PlainCode (is_state_value given e) (first_value (constant_scope given) t (Some e)) (refused R.LeftOut e.at (Some (codes "state")))
      (λ is. gives_then PlainCode (typing (constant_scope given) e (Some t)) _ (λ x found. value_plain e (Some t) x is found)) (λ other. tt)

  variable_plain : (types : Types) (d : Declaration) → Gives PlainFirst (state_variable types given d)
  variable_plain types d =
      gives_then PlainFirst (type_meant types d.kind) _ (λ t is.
      gives_after PlainCode PlainFirst (state_value given t d.value) _ (first_plain t d.value) (λ code h. h))

  all_plain : (types : Types) (ds : List Declaration) → Gives (AllByRecursion PlainFirst) (state_typing types given ds)
  all_plain types [] = tt
  all_plain types (d ∷ ds) =
      gives_after PlainFirst (AllByRecursion PlainFirst) (state_variable types given d) _ (variable_plain types d) (λ x h.
      gives_after (AllByRecursion PlainFirst) (AllByRecursion PlainFirst) (state_typing types given ds) _ (all_plain types ds) (λ xs rest. (h, rest)))

each_plain : (xs : List StateVariable) → AllByRecursion (λ x. is_plain x.first ≡ true) xs → (k : ℕ) (x : StateVariable) → slice_get xs k ≡ Some x → IsTrue (is_plain x.first)
each_plain [] h k x e = absurd (none_at k x e)
each_plain (y ∷ xs) h zero x e = let same : y ≡ x = cc in subst (λ (z : StateVariable). is_plain z.first ≡ true) same h.0
each_plain (y ∷ xs) h (suc k) x e = each_plain xs h.1 k x e

-- each first value of a state that is typed is such a code
pub state_plain : (types : Types) (given : List Dollar) (ds : List Declaration) (xs : List StateVariable) → state_typing types given ds ≡ Ok xs
    → (k : ℕ) (x : StateVariable) → slice_get xs k ≡ Some x → IsTrue (is_plain x.first)
state_plain types given ds xs found = each_plain xs (gives_from (AllByRecursion (λ x. is_plain x.first ≡ true)) (state_typing types given ds) xs (all_plain given types ds) found)
