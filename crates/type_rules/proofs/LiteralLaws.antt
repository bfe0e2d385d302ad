-- Literals, element by element: what is found of those that stand before has been collected.
use Rattle.std.specs.Prelude.{◌≡◌, ℕ, suc, ◌+◌, ◌<◌, ◌≤◌, Bool, true, false, List, [], ◌∷◌, ◌++◌, length, drop, Option, Some, None, unwrap_or, Ok, Err, if◌then◌else◌}
use Rattle.std.specs.Option.{option_map}
use Rattle.std.proofs.Common.{refl, ap, sym, ◌∙◌, add-one, append_assoc, append-nil, get_or}
use Rattle.std.proofs.lemmas.List.{drop_all}
use Rattle.spl_value.specs.declared.types.Named.{Named}
use Rattle.spl_value.specs.declared.types.SplType.{SplType}
use Rattle.spl_value.specs.declared.types.SplType.TheVariants as S
use Rattle.spl_tree.specs.Trees.{Expr}
use Rattle.spl_tree.specs.declared.code.Code.{Code}
use Rattle.spl_tree.specs.declared.code.Code.TheVariants as C
use Rattle.spl_tree.specs.declared.code.Slot.{Slot}
use Rattle.spl_tree.specs.declared.expression.Field.{Field}
use Rattle.spl_tree.specs.declared.expression.Placed.{Placed}
use Rattle.language_model.specs.declared.scope.Scope.{Scope}
use Rattle.language_model.specs.declared.scope.Typed.{Typed}
use Rattle.language_model.specs.Scopes.{At, at_place, attribute_of}
use Rattle.language_model.specs.Typing.{Anything, Another, Found, Part, This, Wants, after, are_distinct, elements_typed, entries_typed, fields_typed, gives_each, list_typed, map_typed, mismatch, own_fields, part_typed, tuple_typed, typed, typing}
use Rattle.language_model.proofs.parts.Typing.{field_typed}
use Rattle.language_model.specs.TypingLaws.{entry_parts, field_part, field_parts, parted, parts}
use Rattle.language_model.specs.declared.answer.TypeAnswer.{TypeAnswer}
use Rattle.language_model.specs.Finds.{Finds}
use Rattle.name_rules.specs.Wanted.{if_wanted, schema_for}
use Rattle.name_rules.specs.LiteralAnswers.{attribute_for, field_for, list_given, map_given, with_own}
use Rattle.type_rules.proofs.Steps.{after_each}
use Rattle.language_model.proofs.FoundAnswers.{after_after, finds_by, goes, stops}
use Rattle.spl_value.proofs.Lists.{drop_at}

abbrev Codes : Type 0
Codes = List (Code Slot)

-- ---- lists

-- elements after others whose codes these are, where their type is known, or the first one's counts
abbrev pub list_on : ℕ → Scope → Option SplType → Codes → List (Placed Part) → Found Typed
list_on at scope (Some t) codes es = after (elements_typed scope t es) (λ xs. Ok (typed (S.List t) (C.List (codes ++ xs))))
list_on at scope None codes [] = mismatch at
list_on at scope None codes (e ∷ es) = after (part_typed e scope None) (λ x. list_on at scope (Some x.kind) (codes ++ x.code ∷ []) es)

pub list_law : (at : ℕ) (scope : Scope) (w : Wants SplType) (es : List (Placed Part)) → list_typed at scope w es ≡ after (if_wanted at w) (λ t. list_on at scope t [] es)
list_law at scope Another es = refl
list_law at scope (This t) es = refl
list_law at scope Anything [] = refl
list_law at scope Anything (e ∷ es) = refl

list_step : (at : ℕ) (scope : Scope) (t : Option SplType) (codes : Codes) (e : Placed Part) (es : List (Placed Part))
    → list_on at scope t codes (e ∷ es) ≡ after (part_typed e scope t) (λ x. list_on at scope (Some (unwrap_or t x.kind)) (codes ++ x.code ∷ []) es)
list_step at scope None codes e es = refl
list_step at scope (Some t) codes e es =
    after_after (part_typed e scope (Some t)) (λ x. after (elements_typed scope t es) (λ xs. Ok (x.code ∷ xs))) (λ xs. Ok (typed (S.List t) (C.List (codes ++ xs))))
    ∙ after_each (part_typed e scope (Some t)) _ _ (λ x. after_after (elements_typed scope t es) (λ xs. Ok (x.code ∷ xs)) (λ xs. Ok (typed (S.List t) (C.List (codes ++ xs))))
    ∙ after_each (elements_typed scope t es) _ _ (λ xs. ap (λ l. Ok (typed (S.List t) (C.List l))) (sym (append_assoc codes (x.code ∷ []) xs))))

module _ (at : ℕ) (scope : Scope) (t : Option SplType) (all : List Expr) (i : ℕ) (codes : Codes) where
  pub list_past : length all ≤ i → list_on at scope t codes (parts (drop i all)) ≡ list_on at scope t codes []
  list_past h = ap (λ es. list_on at scope t codes (parts es)) (drop_all i all h)

  pub list_next : (e : Expr) (x : Typed) (zs : Codes) → i < length all → e ≡ get_or all i e → typing scope e t ≡ Ok x → zs ≡ codes ++ x.code ∷ []
      → list_on at scope t codes (parts (drop i all)) ≡ list_on at scope (Some (unwrap_or t x.kind)) zs (parts (drop (i + 1) all))
  list_next e x zs h is found new =
      ap (λ es. list_on at scope t codes (parts es)) (drop_at all i e h is)
      ∙ list_step at scope t codes (parted e) (parts (drop (i + 1) all))
      ∙ ap (λ o. after o (λ x. list_on at scope (Some (unwrap_or t x.kind)) (codes ++ x.code ∷ []) (parts (drop (i + 1) all)))) found
      ∙ ap (λ l. list_on at scope (Some (unwrap_or t x.kind)) l (parts (drop (i + 1) all))) (sym new)

-- what stands at the end
pub list_done : (at : ℕ) (scope : Scope) (t : Option SplType) (codes : Codes) → list_on at scope t codes [] ≡ list_given at t codes
list_done at scope None codes = refl
list_done at scope (Some t) codes = ap (λ l. Ok (typed (S.List t) (C.List l))) (append-nil codes)

-- ---- maps

abbrev Entries : Type 0
Entries = List (Code Slot × Code Slot)

abbrev pub map_on : ℕ → Scope → Option (SplType × SplType) → Entries → List (Placed Part × Placed Part) → Found Typed
map_on at scope (Some p) codes es = after (entries_typed scope p.0 p.1 es) (λ xs. Ok (typed (S.Map p.0 p.1) (C.Map (codes ++ xs))))
map_on at scope None codes [] = mismatch at
map_on at scope None codes (e ∷ es) =
    after (part_typed e.0 scope None) (λ x. after (part_typed e.1 scope None) (λ y. map_on at scope (Some (x.kind, y.kind)) (codes ++ (x.code, y.code) ∷ []) es))

pub map_law : (at : ℕ) (scope : Scope) (w : Wants (SplType × SplType)) (es : List (Placed Part × Placed Part))
    → map_typed at scope w es ≡ after (if_wanted at w) (λ p. map_on at scope p [] es)
map_law at scope Another es = refl
map_law at scope (This p) es = refl
map_law at scope Anything [] = refl
map_law at scope Anything (e ∷ es) = refl

abbrev first_type : Option (SplType × SplType) → Option SplType
first_type p = option_map (λ p. p.0) p

abbrev second_of : Option (SplType × SplType) → Option SplType
second_of p = option_map (λ p. p.1) p

map_step : (at : ℕ) (scope : Scope) (p : Option (SplType × SplType)) (codes : Entries) (e : Placed Part × Placed Part) (es : List (Placed Part × Placed Part))
    → map_on at scope p codes (e ∷ es)
    ≡ after (part_typed e.0 scope (first_type p)) (λ x. after (part_typed e.1 scope (second_of p)) (λ y. map_on at scope (Some (unwrap_or p (x.kind, y.kind))) (codes ++ (x.code, y.code) ∷ []) es))
map_step at scope None codes e es = refl
map_step at scope (Some p) codes e es =
    after_after (part_typed e.0 scope (Some p.0)) (λ x. after (part_typed e.1 scope (Some p.1)) (λ y. after (entries_typed scope p.0 p.1 es) (λ xs. Ok ((x.code, y.code) ∷ xs)))) (λ xs. Ok (typed (S.Map p.0 p.1) (C.Map (codes ++ xs))))
    ∙ after_each (part_typed e.0 scope (Some p.0)) _ _ (λ x. after_after (part_typed e.1 scope (Some p.1)) (λ y. after (entries_typed scope p.0 p.1 es) (λ xs. Ok ((x.code, y.code) ∷ xs))) (λ xs. Ok (typed (S.Map p.0 p.1) (C.Map (codes ++ xs))))
    ∙ after_each (part_typed e.1 scope (Some p.1)) _ _ (λ y. after_after (entries_typed scope p.0 p.1 es) (λ xs. Ok ((x.code, y.code) ∷ xs)) (λ xs. Ok (typed (S.Map p.0 p.1) (C.Map (codes ++ xs))))
    ∙ after_each (entries_typed scope p.0 p.1 es) _ _ (λ xs. ap (λ l. Ok (typed (S.Map p.0 p.1) (C.Map l))) (sym (append_assoc codes ((x.code, y.code) ∷ []) xs)))))

module _ (at : ℕ) (scope : Scope) (p : Option (SplType × SplType)) (all : List (Expr × Expr)) (i : ℕ) (codes : Entries) where
  pub map_past : length all ≤ i → map_on at scope p codes (entry_parts (drop i all)) ≡ map_on at scope p codes []
  map_past h = ap (λ es. map_on at scope p codes (entry_parts es)) (drop_all i all h)

  pub map_next : (e : Expr × Expr) (x y : Typed) (zs : Entries) → i < length all → e ≡ get_or all i e → typing scope e.0 (first_type p) ≡ Ok x → typing scope e.1 (second_of p) ≡ Ok y
      → zs ≡ codes ++ (x.code, y.code) ∷ []
      → map_on at scope p codes (entry_parts (drop i all)) ≡ map_on at scope (Some (unwrap_or p (x.kind, y.kind))) zs (entry_parts (drop (i + 1) all))
  map_next e x y zs h is first second new =
      let rest = entry_parts (drop (i + 1) all) in
      ap (λ es. map_on at scope p codes (entry_parts es)) (drop_at all i e h is)
      ∙ map_step at scope p codes (parted e.0, parted e.1) rest
      ∙ ap (λ o. after o (λ x. after (typing scope e.1 (second_of p)) (λ y. map_on at scope (Some (unwrap_or p (x.kind, y.kind))) (codes ++ (x.code, y.code) ∷ []) rest))) first
      ∙ ap (λ o. after o (λ y. map_on at scope (Some (unwrap_or p (x.kind, y.kind))) (codes ++ (x.code, y.code) ∷ []) rest)) second
      ∙ ap (λ l. map_on at scope (Some (unwrap_or p (x.kind, y.kind))) l rest) (sym new)

pub map_done : (at : ℕ) (scope : Scope) (p : Option (SplType × SplType)) (codes : Entries) → map_on at scope p codes [] ≡ map_given at p codes
map_done at scope None codes = refl
map_done at scope (Some p) codes = ap (λ l. Ok (typed (S.Map p.0 p.1) (C.Map l))) (append-nil codes)

-- ---- tuples

abbrev pub tuple_by : Scope → List (Field (Placed Part)) → Option (List (Named SplType)) → Found Typed
tuple_by scope fs (Some schema) = after (fields_typed scope schema fs) (λ xs. Ok (typed (S.Tuple schema) (C.Tuple xs)))
tuple_by scope fs None = after (own_fields scope 0 fs) (λ xs. Ok (typed (S.Tuple xs.0) (C.Tuple xs.1)))

chosen : (b : Bool) (at : ℕ) (scope : Scope) (fs : List (Field (Placed Part))) (s : Option (List (Named SplType)))
    → (if b then tuple_by scope fs s else mismatch at) ≡ after (if b then Ok s else mismatch at) (tuple_by scope fs)
chosen true at scope fs s = refl
chosen false at scope fs s = refl

pub tuple_law : (at : ℕ) (scope : Scope) (w : Wants (List (Named SplType))) (fs : List (Field (Placed Part))) → tuple_typed at scope w fs ≡ after (schema_for at w fs) (tuple_by scope fs)
tuple_law at scope Another fs = refl
tuple_law at scope (This schema) fs = chosen (gives_each schema fs) at scope fs (Some schema)
tuple_law at scope Anything fs = chosen (are_distinct fs) at scope fs None

-- fields from a place on, after others whose codes these are, and whose attributes where none are wanted
abbrev Fields : Type 0
Fields = List (ℕ × Code Slot)

abbrev Schema : Type 0
Schema = List (Named SplType)

abbrev pub tuple_on : Scope → ℕ → Option Schema → Schema → Fields → List (Field (Placed Part)) → Found Typed
tuple_on scope i (Some schema) own codes fs = after (fields_typed scope schema fs) (λ xs. Ok (typed (S.Tuple schema) (C.Tuple (codes ++ xs))))
tuple_on scope i None own codes fs = after (own_fields scope i fs) (λ xs. Ok (typed (S.Tuple (own ++ xs.0)) (C.Tuple (codes ++ xs.1))))

tuple_begins : (scope : Scope) (s : Option Schema) (fs : List (Field (Placed Part))) → tuple_by scope fs s ≡ tuple_on scope 0 s [] [] fs
tuple_begins scope None fs = refl
tuple_begins scope (Some schema) fs = refl

pub tuple_first : (at : ℕ) (scope : Scope) (w : Wants Schema) (fs : List (Field (Placed Part))) (s : Option Schema) (own : Schema) (codes : Fields) → schema_for at w fs ≡ Ok s → own ≡ [] → codes ≡ []
    → tuple_typed at scope w fs ≡ tuple_on scope 0 s own codes fs
tuple_first at scope w fs s own codes is no_own no_codes =
    tuple_law at scope w fs ∙ ap (λ o. after o (tuple_by scope fs)) is ∙ tuple_begins scope s fs ∙ (λ i. tuple_on scope 0 s (sym no_own i) (sym no_codes i) fs)

module _ (scope : Scope) (i : ℕ) (own : Schema) (codes : Fields) (f : Field (Placed Part)) (fs : List (Field (Placed Part))) where
  abbrev attribute : Typed → Named SplType
  attribute x = record { name = f.name.what; kind = x.kind }

  -- the others after the field
  abbrev tuple_rest : Option Schema → At (Option SplType) → Typed → Found Typed
  tuple_rest s a x = tuple_on scope (suc i) s (with_own s own (attribute x)) (codes ++ (a.place, x.code) ∷ []) fs

  abbrev with_field : Option Schema → At (Option SplType) → Found Typed
  with_field s a = after (part_typed f.value scope a.what) (tuple_rest s a)

  module _ (schema : Schema) where
    abbrev rest : Found Fields
    rest = fields_typed scope schema fs

    abbrev one_more : ℕ × Code Slot → Found Fields
    one_more y = after rest (λ ys. Ok (y ∷ ys))

    abbrev made : Fields → Found Typed
    made xs = Ok (typed (S.Tuple schema) (C.Tuple (codes ++ xs)))

    by_attribute : (o : Option (At (Named SplType)))
        → after (after (field_typed scope schema f o) one_more) made ≡ after (attribute_for f.value.at o) (with_field (Some schema))
    by_attribute None = refl
    by_attribute (Some a) =
        ap (λ o. after o made) (after_after (part_typed f.value scope (Some a.what.kind)) (λ x. Ok (a.place, x.code)) one_more)
        ∙ after_after (part_typed f.value scope (Some a.what.kind)) (λ x. one_more (a.place, x.code)) made
        ∙ after_each (part_typed f.value scope (Some a.what.kind)) _ _ (λ x. after_after rest (λ ys. Ok ((a.place, x.code) ∷ ys)) made
        ∙ after_each rest _ _ (λ ys. ap (λ l. Ok (typed (S.Tuple schema) (C.Tuple l))) (sym (append_assoc codes ((a.place, x.code) ∷ []) ys))))

  tuple_step : (s : Option Schema) → tuple_on scope i s own codes (f ∷ fs) ≡ after (field_for s i f) (with_field s)
  tuple_step (Some schema) = by_attribute schema (attribute_of schema f.name.what)
  tuple_step None =
      after_after (part_typed f.value scope None) (λ x. after (own_fields scope (suc i) fs) (λ xs. Ok (attribute x ∷ xs.0, (i, x.code) ∷ xs.1)))
      (λ xs. Ok (typed (S.Tuple (own ++ xs.0)) (C.Tuple (codes ++ xs.1))))
      ∙ after_each (part_typed f.value scope None) _ _ (λ x. after_after (own_fields scope (suc i) fs) (λ xs. Ok (attribute x ∷ xs.0, (i, x.code) ∷ xs.1))
      (λ xs. Ok (typed (S.Tuple (own ++ xs.0)) (C.Tuple (codes ++ xs.1))))
      ∙ after_each (own_fields scope (suc i) fs) _ _ (λ xs. (λ j. Ok (typed (S.Tuple (sym (append_assoc own (attribute x ∷ []) xs.0) j)) (C.Tuple (sym (append_assoc codes ((i, x.code) ∷ []) xs.1) j))))))

module _ (scope : Scope) (s : Option Schema) (fields : List (Field Expr)) (i : ℕ) (own : Schema) (codes : Fields) where
  pub tuple_past : length fields ≤ i → tuple_on scope i s own codes (field_parts (drop i fields)) ≡ Ok (typed (S.Tuple (unwrap_or s own)) (C.Tuple codes))
  tuple_past h = ap (λ fs. tuple_on scope i s own codes (field_parts fs)) (drop_all i fields h) ∙ done s
    where
      done : (s : Option Schema) → tuple_on scope i s own codes [] ≡ Ok (typed (S.Tuple (unwrap_or s own)) (C.Tuple codes))
      done None = λ j. Ok (typed (S.Tuple (append-nil own j)) (C.Tuple (append-nil codes j)))
      done (Some schema) = ap (λ l. Ok (typed (S.Tuple schema) (C.Tuple l))) (append-nil codes)

  module _ (f : Field Expr) (h : i < length fields) (is : f ≡ get_or fields i f) where
    tuple_is : tuple_on scope i s own codes (field_parts (drop i fields))
        ≡ after (field_for s i (field_part f)) (with_field scope i own codes (field_part f) (field_parts (drop (i + 1) fields)) s)
    tuple_is = ap (λ fs. tuple_on scope i s own codes (field_parts fs)) (drop_at fields i f h is) ∙ tuple_step scope i own codes (field_part f) (field_parts (drop (i + 1) fields)) s

    pub field_stops : (a : TypeAnswer) → Finds (field_for s i (field_part f)) (Err a) → Finds (tuple_on scope i s own codes (field_parts (drop i fields))) (Err a)
    field_stops a found =
        finds_by _ _ (Err a) tuple_is
        (stops (field_for s i (field_part f)) (with_field scope i own codes (field_part f) (field_parts (drop (i + 1) fields)) s) a found)

    module _ (n : ℕ) (w : Option SplType) (there : field_for s i (field_part f) ≡ Ok (at_place n w)) where
      pub value_stops : (a : TypeAnswer) → Finds (typing scope f.value w) (Err a) → Finds (tuple_on scope i s own codes (field_parts (drop i fields))) (Err a)
      value_stops a found =
          let rest = field_parts (drop (i + 1) fields) in
          finds_by _ _ (Err a) tuple_is
          (goes (field_for s i (field_part f)) (with_field scope i own codes (field_part f) rest s) (at_place n w) (Err a) there
          (stops (typing scope f.value w) (tuple_rest scope i own codes (field_part f) rest s (at_place n w)) a found))

      pub field_next : (x : Typed) (new : Schema) (zs : Fields) → typing scope f.value w ≡ Ok x → new ≡ with_own s own (record { name = f.name.what; kind = x.kind }) → zs ≡ codes ++ (n, x.code) ∷ []
          → tuple_on scope i s own codes (field_parts (drop i fields)) ≡ tuple_on scope (i + 1) s new zs (field_parts (drop (i + 1) fields))
      field_next x new zs found more z =
          let rest = field_parts (drop (i + 1) fields) in
          tuple_is
          ∙ ap (λ (o : Found (At (Option SplType))). after o (with_field scope i own codes (field_part f) rest s)) there
          ∙ ap (λ (o : Found Typed). after o (tuple_rest scope i own codes (field_part f) rest s (at_place n w))) found
          ∙ (λ j. tuple_on scope (sym (add-one i) j) s (sym more j) (sym z j) rest)
