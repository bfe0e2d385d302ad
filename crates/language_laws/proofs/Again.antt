-- What an expression is by itself, it is where that is wanted.
use Rattle.std.specs.Prelude.{◌≡◌, ◌&&◌, ℕ, suc, Bool, true, false, not, List, [], ◌∷◌, length, Some, None, is_some, Ok, if◌then◌else◌}
use Rattle.std.specs.List.{AllByRecursion, list_all}
use Rattle.std.specs.Str.{bytes_eq}
use Rattle.std.proofs.Common.{refl, sym, ap, subst, ◌∙◌, eq-eqb}
use Rattle.spl_value.proofs.Bools.{and_left, and_right}
use Rattle.spl_value.proofs.Lists.{same_name, other_bytes}
use Rattle.spl_value.specs.declared.types.Named.{Named}
use Rattle.spl_value.specs.declared.types.SplType.{SplType}
use Rattle.spl_value.specs.declared.types.SplType.TheVariants as S
use Rattle.spl_tree.specs.declared.code.Code.{Code}
use Rattle.spl_tree.specs.declared.code.Code.TheVariants as C
use Rattle.spl_tree.specs.declared.code.Slot.{Slot}
use Rattle.spl_tree.specs.declared.expression.Placed.{Placed}
use Rattle.spl_tree.specs.declared.expression.Field.{Field}
use Rattle.spl_tree.specs.declared.expression.ExprKind.{ExprKind}
use Rattle.spl_tree.specs.declared.expression.ExprKind.TheVariants as E
use Rattle.spl_tree.specs.declared.expression.ExprKind.TheOpen as X
use Rattle.spl_tree.specs.declared.expression.ExprKind.TheOpen.{ExprKind-F}
use Rattle.spl_tree.specs.Trees.{Expr}
use Rattle.spl_tree.proofs.Induction.{ExprSteps, OfExpr, OfEntry, OfField, expr_ind}
use Rattle.language_model.specs.declared.scope.Scope.{Scope}
use Rattle.language_model.specs.declared.scope.Typed.{Typed}
use Rattle.language_model.specs.Scopes.{at_place, first_from, attribute_of}
use Rattle.language_model.specs.Typing.{Wanted, Found, after, mismatch, as_wanted, typed, Part, part_typed, Anything, level_element, level_pair, level_schema, elements_typed, list_typed, entries_typed, map_typed, are_distinct, gives_each, fields_typed, own_fields, tuple_typed, conditional_typed, level_typed}
use Rattle.language_model.specs.parts.Typing.{wants_list, wants_map, wants_tuple}
use Rattle.language_model.proofs.parts.Typing.{field_typed}
use Rattle.language_model.specs.TypingLaws.{parted, parts, entry_parts, field_parts, step_parts, part}
use Rattle.language_model.proofs.FoundAnswers.{after_gives}
use Rattle.language_model.proofs.TypingLaws as L
use Rattle.language_model.proofs.TypingLaws.{same_types_law}
use Rattle.language_laws.specs.Unwanted.{UnwantedLaw}

-- ---- steps

after_is : {A B : Type 0} (r : Found A) (f : A → Found B) (x : A) (y : B) → r ≡ Ok x → f x ≡ Ok y → after r f ≡ Ok y
after_is r f x y e g = ap (λ o. after o f) e ∙ g

abbrev ok : {A : Type 0} → A → Found A
ok x = Ok x

abbrev Again : Part → Type 0
Again p = (at : ℕ) (scope : Scope) (t : Typed) → p.1 at scope None ≡ Ok t → p.1 at scope (Some t.kind) ≡ Ok t

-- where a type is compared with the wanted one at the end
held : (at : ℕ) (r : Found Typed) (t : Typed) → after r (as_wanted at None) ≡ Ok t → after r (as_wanted at (Some t.kind)) ≡ Ok t
held at r t e =
    let x = after_gives r (as_wanted at None) t e in
    let same : x.0 ≡ t = cc in
    after_is r (as_wanted at (Some t.kind)) t t (x.1 ∙ ap Ok same) (ap (λ b. if b then Ok t else mismatch at) ((same_types_law t.kind t.kind).1 refl))

-- ---- lists and maps

abbrev AreAgain : List (Placed Part) → Type 0
AreAgain es = AllByRecursion (λ e. Again e.what) es

list_again : (at : ℕ) (scope : Scope) (es : List (Placed Part)) → AreAgain es → (t : Typed) → list_typed at scope Anything es ≡ Ok t → list_typed at scope (wants_list (Some t.kind)) es ≡ Ok t
list_again at scope [] h t e = absurd cc
list_again at scope (p ∷ ps) h t e =
    let x = after_gives (part_typed p scope None) _ t e in
    let xs = after_gives (elements_typed scope x.0.kind ps) _ t x.2 in
    let own = typed (S.List x.0.kind) (C.List (x.0.code ∷ xs.0)) in
    let same : own ≡ t = cc in
    let first : part_typed p scope (Some x.0.kind) ≡ Ok x.0 = h.0 p.at scope x.0 x.1 in
    let all : elements_typed scope x.0.kind (p ∷ ps) ≡ Ok (x.0.code ∷ xs.0) = after_is (part_typed p scope (Some x.0.kind)) _ x.0 (x.0.code ∷ xs.0) first
    (after_is (elements_typed scope x.0.kind ps) (λ ys. Ok (x.0.code ∷ ys)) xs.0 (x.0.code ∷ xs.0) xs.1 refl) in
    subst (λ (u : Typed). list_typed at scope (wants_list (Some u.kind)) (p ∷ ps) ≡ Ok u) same
    (ap (λ w. list_typed at scope (level_element w) (p ∷ ps)) (S.outs-List x.0.kind)
    ∙ after_is (elements_typed scope x.0.kind (p ∷ ps)) (λ ys. Ok (typed (S.List x.0.kind) (C.List ys))) (x.0.code ∷ xs.0) own all refl)

map_again : (at : ℕ) (scope : Scope) (es : List (Placed Part × Placed Part)) → AllByRecursion (λ e. Again e.0.what × Again e.1.what) es → (t : Typed)
    → map_typed at scope Anything es ≡ Ok t → map_typed at scope (wants_map (Some t.kind)) es ≡ Ok t
map_again at scope [] h t e = absurd cc
map_again at scope (p ∷ ps) h t e =
    let x = after_gives (part_typed p.0 scope None) _ t e in
    let y = after_gives (part_typed p.1 scope None) _ t x.2 in
    let xs = after_gives (entries_typed scope x.0.kind y.0.kind ps) _ t y.2 in
    let entry : Code Slot × Code Slot = (x.0.code, y.0.code) in
    let codes : List (Code Slot × Code Slot) = entry ∷ xs.0 in
    let own = typed (S.Map x.0.kind y.0.kind) (C.Map codes) in
    let same : own ≡ t = cc in
    let key : part_typed p.0 scope (Some x.0.kind) ≡ Ok x.0 = h.0.0 p.0.at scope x.0 x.1 in
    let value : part_typed p.1 scope (Some y.0.kind) ≡ Ok y.0 = h.0.1 p.1.at scope y.0 y.1 in
    let all : entries_typed scope x.0.kind y.0.kind (p ∷ ps) ≡ Ok codes =
    after_is (part_typed p.0 scope (Some x.0.kind)) _ x.0 codes key
    (after_is (part_typed p.1 scope (Some y.0.kind)) _ y.0 codes value
    (after_is (entries_typed scope x.0.kind y.0.kind ps) (λ ys. Ok (entry ∷ ys)) xs.0 codes xs.1 refl)) in
    subst (λ (u : Typed). map_typed at scope (wants_map (Some u.kind)) (p ∷ ps) ≡ Ok u) same
    (ap (λ w. map_typed at scope (level_pair w) (p ∷ ps)) (S.outs-Map x.0.kind y.0.kind)
    ∙ after_is (entries_typed scope x.0.kind y.0.kind (p ∷ ps)) (λ ys. Ok (typed (S.Map x.0.kind y.0.kind) (C.Map ys))) codes own all refl)

-- ---- tuples

abbrev PartField : Type 0
PartField = Field (Placed Part)

-- a name is found as it is from a place on
abbrev IsFrom : List (Named SplType) → ℕ → List (Named SplType) → PartField → Type 0
IsFrom schema i others f = attribute_of schema f.name.what ≡ first_from (λ a. bytes_eq a.name f.name.what) i others

no_more : (b : Bool) → not b ≡ true → b ≡ false
no_more true e = absurd cc
no_more false e = refl

behind_first : (schema others : List (Named SplType)) (i : ℕ) (a : Named SplType) (name : List ℕ) (fs : List PartField) → a.name ≡ name
    → list_all (λ g. not (bytes_eq g.name.what name)) fs ≡ true → AllByRecursion (IsFrom schema i (a ∷ others)) fs → AllByRecursion (IsFrom schema (suc i) others) fs
behind_first schema others i a name [] is distinct h = tt
behind_first schema others i a name (g ∷ fs) is distinct h =
    let other : bytes_eq g.name.what name ≡ false = no_more (bytes_eq g.name.what name) (and_left (not (bytes_eq g.name.what name)) (list_all (λ g. not (bytes_eq g.name.what name)) fs) distinct) in
    let skips : bytes_eq a.name g.name.what ≡ false = ap (λ n. bytes_eq n g.name.what) is ∙ other_bytes g.name.what name other in (
      h.0 ∙ ap (λ b. if b then Some (at_place i a) else first_from (λ a. bytes_eq a.name g.name.what) (suc i) others) skips,
      behind_first schema others i a name fs is (and_right (not (bytes_eq g.name.what name)) (list_all (λ g. not (bytes_eq g.name.what name)) fs) distinct) h.1,
    )

abbrev Own : Type 0
Own = List (Named SplType) × List (ℕ × Code Slot)

record AreGiven (scope : Scope) (schema : List (Named SplType)) (fs : List PartField) (own : Own) : Type 0 where
  pub fields : fields_typed scope schema fs ≡ Ok own.1
  pub found : list_all (λ f. is_some (attribute_of schema f.name.what)) fs ≡ true
  pub count : length fs ≡ length own.0

fields_again : (scope : Scope) (schema : List (Named SplType)) (i : ℕ) (fs : List PartField) (own : Own) → own_fields scope i fs ≡ Ok own
    → are_distinct fs ≡ true → AllByRecursion (λ f. Again f.value.what) fs → AllByRecursion (IsFrom schema i own.0) fs → AreGiven scope schema fs own
fields_again scope schema i [] own e distinct h from =
    let none : Own = ([], []) in
    let same : none ≡ own = cc in
    record { fields = ap (λ (o : Own). Ok o.1) same; found = refl; count = ap (λ (o : Own). length o.0) same }
fields_again scope schema i (f ∷ fs) own e distinct h from =
    let x = after_gives (part_typed f.value scope None) _ own e in
    let rest = after_gives (own_fields scope (suc i) fs) _ own x.2 in
    let attribute : Named SplType = record { name = f.name.what; kind = x.0.kind } in
    let code : ℕ × Code Slot = (i, x.0.code) in
    let made : Own = (attribute ∷ rest.0.0, code ∷ rest.0.1) in
    let same : made ≡ own = cc in
    let moved : AllByRecursion (IsFrom schema i (attribute ∷ rest.0.0)) (f ∷ fs) =
    subst (λ (o : Own). AllByRecursion (IsFrom schema i o.0) (f ∷ fs)) (sym same) from in
    let alone = and_left (list_all (λ g. not (bytes_eq g.name.what f.name.what)) fs) (are_distinct fs) distinct in
    let others = fields_again scope schema (suc i) fs rest.0 rest.1 (and_right (list_all (λ g. not (bytes_eq g.name.what f.name.what)) fs) (are_distinct fs) distinct) h.1
    (behind_first schema rest.0.0 i attribute f.name.what fs refl alone moved.1) in
    let here : attribute_of schema f.name.what ≡ Some (at_place i attribute) =
    moved.0 ∙ ap (λ b. if b then Some (at_place i attribute) else first_from (λ a. bytes_eq a.name f.name.what) (suc i) rest.0.0) (same_name f.name.what) in
    let own_code : field_typed scope schema f (attribute_of schema f.name.what) ≡ Ok code =
    ap (field_typed scope schema f) here ∙ after_is {B = ℕ × Code Slot} (part_typed f.value scope (Some x.0.kind)) (λ y. Ok (i, y.code)) x.0 code (h.0 f.value.at scope x.0 x.1) refl in
    subst (AreGiven scope schema (f ∷ fs)) same record {
      fields = after_is (field_typed scope schema f (attribute_of schema f.name.what)) (λ y. after (fields_typed scope schema fs) (λ ys. Ok (y ∷ ys))) code (code ∷ rest.0.1) own_code
          (after_is (fields_typed scope schema fs) (λ ys. Ok (code ∷ ys)) rest.0.1 (code ∷ rest.0.1) others.fields refl);
      found = (λ j. is_some (here j) && others.found j);
      count = ap suc others.count;
    }

all_from_start : (schema : List (Named SplType)) (fs : List PartField) → AllByRecursion (IsFrom schema 0 schema) fs
all_from_start schema [] = tt
all_from_start schema (f ∷ fs) = (refl, all_from_start schema fs)

tuple_again : (at : ℕ) (scope : Scope) (fs : List PartField) → AllByRecursion (λ f. Again f.value.what) fs → (t : Typed)
    → tuple_typed at scope Anything fs ≡ Ok t → tuple_typed at scope (wants_tuple (Some t.kind)) fs ≡ Ok t
tuple_again at scope fs h t e =
    elim (are_distinct fs)
    as (λ b. are_distinct fs ≡ b → (if b then after (own_fields scope 0 fs) (λ xs. Ok (typed (S.Tuple xs.0) (C.Tuple xs.1))) else mismatch at) ≡ Ok t → tuple_typed at scope (wants_tuple (Some t.kind)) fs ≡ Ok t) [
      | true ↦ λ distinct found. own distinct (after_gives (own_fields scope 0 fs) (λ xs. Ok (typed (S.Tuple xs.0) (C.Tuple xs.1))) t found)
      | false ↦ λ distinct refused. absurd cc
    ] refl e
  where
    own : are_distinct fs ≡ true → (xs : Own) × (own_fields scope 0 fs ≡ Ok xs) × (ok (typed (S.Tuple xs.0) (C.Tuple xs.1)) ≡ ok t)
        → tuple_typed at scope (wants_tuple (Some t.kind)) fs ≡ Ok t
    own distinct x =
        let schema = x.0.0 in
        let given = fields_again scope schema 0 fs x.0 x.1 distinct h (all_from_start schema fs) in
        let own_type = typed (S.Tuple schema) (C.Tuple x.0.1) in
        let is : ok own_type ≡ ok t = x.2 in
        let same : own_type ≡ t = cc in
        let each : gives_each schema fs ≡ true = (λ j. distinct j && given.found j && eq-eqb (length fs) (length schema) given.count j) in
        subst (λ (u : Typed). tuple_typed at scope (wants_tuple (Some u.kind)) fs ≡ Ok u) same
        (ap (λ w. tuple_typed at scope (level_schema w) fs) (S.outs-Tuple schema)
        ∙ ap (λ b. if b then after (fields_typed scope schema fs) (λ xs. Ok (typed (S.Tuple schema) (C.Tuple xs))) else mismatch at) each
        ∙ after_is (fields_typed scope schema fs) (λ xs. Ok (typed (S.Tuple schema) (C.Tuple xs))) x.0.1 own_type given.fields refl)

-- ---- conditionals

conditional_again : (scope : Scope) (c a b : Placed Part) → Again a.what → (t : Typed) → conditional_typed scope None c a b ≡ Ok t → conditional_typed scope (Some t.kind) c a b ≡ Ok t
conditional_again scope c a b h t e =
    let x = after_gives (part_typed c scope (Some S.Bool)) _ t e in
    let y = after_gives (part_typed a scope None) _ t x.2 in
    let z = after_gives (part_typed b scope (Some y.0.kind)) _ t y.2 in
    let own = typed y.0.kind (C.Conditional x.0.code y.0.code z.0.code) in
    let same : own ≡ t = cc in
    subst (λ (u : Typed). conditional_typed scope (Some u.kind) c a b ≡ Ok u) same
    (after_is (part_typed c scope (Some S.Bool)) _ x.0 own x.1
    (after_is (part_typed a scope (Some y.0.kind)) _ y.0 own (h a.at scope y.0 y.1)
    (after_is (part_typed b scope (Some y.0.kind)) (λ w. Ok (typed y.0.kind (C.Conditional x.0.code y.0.code w.code))) z.0 own z.1 refl)))

-- ---- expressions

-- an expression is what its form is
by_level : (k : ExprKind) (x : ExprKind-F Part) → ((at : ℕ) (scope : Scope) (wanted : Wanted) → (part k).1 at scope wanted ≡ level_typed x at scope wanted)
    → ((at : ℕ) (scope : Scope) (t : Typed) → level_typed x at scope None ≡ Ok t → level_typed x at scope (Some t.kind) ≡ Ok t) → Again (part k)
by_level k x is again at scope t e = is at scope (Some t.kind) ∙ again at scope t (sym (is at scope None) ∙ e)

all_parts : (es : List Expr) → AllByRecursion (OfExpr (λ k. Again (part k))) es → AreAgain (parts es)
all_parts [] h = tt
all_parts (e ∷ es) h = (h.0, all_parts es h.1)

all_entries : (es : List (Expr × Expr)) → AllByRecursion (OfEntry (λ k. Again (part k))) es → AllByRecursion (λ e. Again e.0.what × Again e.1.what) (entry_parts es)
all_entries [] h = tt
all_entries (e ∷ es) h = (h.0, all_entries es h.1)

all_fields : (fs : List (Field Expr)) → AllByRecursion (OfField (λ k. Again (part k))) fs → AllByRecursion (λ f. Again f.value.what) (field_parts fs)
all_fields [] h = tt
all_fields (f ∷ fs) h = (h.0, all_fields fs h.1)

again_steps : ExprSteps (λ k. Again (part k))
again_steps = record {
  name = λ n. by_level (E.Name n) (X.Name n) (L.name_typed n) (λ at scope t e. held at _ t e);
  dollar = λ n. by_level (E.Dollar n) (X.Dollar n) (L.dollar_typed n) (λ at scope t e. held at _ t e);
  number = λ n. by_level (E.Number n) (X.Number n) (L.number_typed n) (λ at scope t e. held at _ t e);
  text = λ bytes. by_level (E.Text bytes) (X.Text bytes) (L.text_typed bytes) (λ at scope t e. held at (Ok _) t e);
  bool = λ b. by_level (E.Bool b) (X.Bool b) (L.bool_typed b) (λ at scope t e. held at (Ok _) t e);
  group = λ e h. by_level (E.Group e) (X.Group (parted e)) (L.group_typed e) (λ at scope t found. h e.at scope t found);
  list = λ es h. by_level (E.List es) (X.List (parts es)) (L.list_typed es) (λ at scope t e. list_again at scope (parts es) (all_parts es h) t e);
  map_of = λ es h. by_level (E.Map es) (X.Map (entry_parts es)) (L.map_typed es) (λ at scope t e. map_again at scope (entry_parts es) (all_entries es h) t e);
  tuple = λ fs h. by_level (E.Tuple fs) (X.Tuple (field_parts fs)) (L.tuple_typed fs) (λ at scope t e. tuple_again at scope (field_parts fs) (all_fields fs h) t e);
  call = λ n es h. by_level (E.Call n es) (X.Call n (parts es)) (L.call_typed n es) (λ at scope t e. held at _ t e);
  select = λ e ss h g. by_level (E.Select e ss) (X.Select (parted e) (step_parts ss)) (L.select_typed e ss) (λ at scope t found. held at _ t found);
  unary = λ ps e h. by_level (E.Unary ps e) (X.Unary ps (parted e)) (L.unary_typed ps e) (λ at scope t found. held at _ t found);
  binary = λ op l r h g. by_level (E.Binary op l r) (X.Binary op (parted l) (parted r)) (L.binary_typed op l r) (λ at scope t e. held at _ t e);
  conditional = λ c a b f h g. by_level (E.Conditional c a b) (X.Conditional (parted c) (parted a) (parted b)) (L.conditional_typed c a b) (λ at scope t e. conditional_again scope (parted c) (parted a) (parted b) h t e);
}

pub unwanted_law : UnwantedLaw
unwanted_law scope e t found = expr_ind (λ k. Again (part k)) again_steps e.what e.at scope t found
