-- An expression has the type that its place wants.
use Rattle.std.specs.Prelude.{◌≡◌, ℕ, Bool, true, false, List, [], ◌∷◌, Option, Some, None, Ok, Err, if◌then◌else◌}
use Rattle.std.proofs.Common.{refl, sym, ap, subst, ◌∙◌}
use Rattle.spl_value.specs.declared.types.Named.{Named}
use Rattle.spl_value.specs.declared.types.SplType.{SplType}
use Rattle.spl_value.specs.declared.types.SplType.TheVariants as S
use Rattle.spl_value.specs.declared.types.SplType.TheOpen as T
use Rattle.spl_value.specs.declared.types.SplType.TheOpen.{SplType-F}
use Rattle.spl_value.specs.declared.types.SplType.TheViews.{out-SplType, roll-SplType, roll-out-SplType}
use Rattle.spl_tree.specs.declared.expression.Placed.{Placed}
use Rattle.spl_tree.specs.declared.expression.Field.{Field}
use Rattle.spl_tree.specs.declared.expression.ExprKind.{ExprKind}
use Rattle.spl_tree.specs.declared.expression.ExprKind.TheVariants as E
use Rattle.spl_tree.specs.declared.expression.ExprKind.TheOpen as X
use Rattle.spl_tree.specs.declared.expression.ExprKind.TheOpen.{ExprKind-F}
use Rattle.spl_tree.specs.declared.expression.ExprKind.TheViews.{out-ExprKind}
use Rattle.spl_tree.specs.declared.expression.ExprKind.TheFolds.{map-ExprKind}
use Rattle.spl_tree.specs.Trees.{Expr}
use Rattle.spl_tree.proofs.Induction.{ExprSteps, expr_ind}
use Rattle.language_model.specs.declared.scope.CheckRefusal.{CheckRefusal}
use Rattle.language_model.specs.declared.scope.Scope.{Scope}
use Rattle.language_model.specs.declared.scope.Typed.{Typed}
use Rattle.language_model.specs.Typing.{Wanted, Found, after, mismatch, as_wanted, same_types, Part, part_typed, Wants, Anything, This, Another, level_element, level_pair, level_schema, elements_typed, list_typed, entries_typed, map_typed, are_distinct, gives_each, fields_typed, own_fields, tuple_typed, not_callable, conditional_typed, level_typed, typing}
use Rattle.language_model.specs.parts.Typing.{wants_list, wants_map, wants_tuple, branch_wanted}
use Rattle.language_model.specs.TypingLaws.{TypingAt, part}
use Rattle.language_model.specs.FitLaws.{WantedLaw}
use Rattle.language_model.proofs.SameTypes.{equal_from_same}
use Rattle.language_model.proofs.TypingLaws.{typed_at}
use Rattle.language_model.proofs.FoundAnswers.{Gives, gives_after, gives_from}

pub gives_both : {A : Type 0} (P Q : A → Type 0) (r : Found A) → Gives P r → Gives Q r → Gives (λ x. P x × Q x) r
gives_both P Q (Ok x) g h = (g, h)
gives_both P Q (Err refusal) g h = tt

-- a function that isn't there gives nothing
pub gives_no_call : {A : Type 0} (P : A → Type 0) (at : ℕ) (name : List ℕ) (o : Option CheckRefusal) → Gives P (not_callable at name o)
gives_no_call P at name None = tt
gives_no_call P at name (Some refusal) = tt

-- nothing is known of what is found
abbrev pub Some_thing : {A : Type 0} → A → Type 0
Some_thing x = Unit {0}

pub gives_some : {A : Type 0} (r : Found A) → Gives Some_thing r
gives_some (Ok x) = tt
gives_some (Err refusal) = tt

-- where a type is wanted, it is this one
abbrev pub Meets : Wanted → SplType → Type 0
Meets None t = Unit {0}
Meets (Some u) t = t ≡ u

abbrev pub MeetsIn : Wanted → Typed → Type 0
MeetsIn wanted t = Meets wanted t.kind

as_wanted_meets : (at : ℕ) (wanted : Wanted) (t : Typed) → Gives (MeetsIn wanted) (as_wanted at wanted t)
as_wanted_meets at None t = tt
as_wanted_meets at (Some u) t =
    elim (same_types t.kind u) as (λ b. same_types t.kind u ≡ b → Gives (λ x. x.kind ≡ u) (if b then Ok t else mismatch at)) [
      | true ↦ λ same. equal_from_same t.kind u same
      | false ↦ λ other. tt
    ] refl

after_as_wanted : (at : ℕ) (wanted : Wanted) (r : Found Typed) → Gives (MeetsIn wanted) (after r (as_wanted at wanted))
after_as_wanted at wanted r = gives_after Some_thing (MeetsIn wanted) r (as_wanted at wanted) (gives_some r) (λ t h. as_wanted_meets at wanted t)

-- ---- literals that take the wanted type

-- what is wanted of a literal, made a type, is the wanted one
abbrev pub WantsAs : {A : Type 0} → (A → SplType) → Wanted → Wants A → Type 0
WantsAs make wanted Anything = wanted ≡ None
WantsAs make wanted (This x) = wanted ≡ Some (make x)
WantsAs make wanted Another = Unit {0}

pub rolled : (t : SplType) (x : SplType-F SplType) (u : SplType) → out-SplType t ≡ x → roll-SplType x ≡ u → t ≡ u
rolled t x u e f = sym (roll-out-SplType t) ∙ ap roll-SplType e ∙ f

element_as : (t : SplType) (x : SplType-F SplType) → out-SplType t ≡ x → WantsAs S.List (Some t) (level_element x)
element_as t (T.List u) e = ap Some (rolled t (T.List u) (S.List u) e (S.rolls-List u))
element_as t _ e = tt

pub list_as : (wanted : Wanted) → WantsAs S.List wanted (wants_list wanted)
list_as None = refl
list_as (Some t) = element_as t (out-SplType t) refl

abbrev pub map_of : SplType × SplType → SplType
map_of p = S.Map p.0 p.1

pair_as : (t : SplType) (x : SplType-F SplType) → out-SplType t ≡ x → WantsAs map_of (Some t) (level_pair x)
pair_as t (T.Map k u) e = ap Some (rolled t (T.Map k u) (S.Map k u) e (S.rolls-Map k u))
pair_as t _ e = tt

pub map_as : (wanted : Wanted) → WantsAs map_of wanted (wants_map wanted)
map_as None = refl
map_as (Some t) = pair_as t (out-SplType t) refl

schema_as : (t : SplType) (x : SplType-F SplType) → out-SplType t ≡ x → WantsAs S.Tuple (Some t) (level_schema x)
schema_as t (T.Tuple schema) e = ap Some (rolled t (T.Tuple schema) (S.Tuple schema) e (S.rolls-Tuple schema))
schema_as t _ e = tt

pub tuple_as : (wanted : Wanted) → WantsAs S.Tuple wanted (wants_tuple wanted)
tuple_as None = refl
tuple_as (Some t) = schema_as t (out-SplType t) refl

-- the type made of what is wanted is the wanted one
meets_this : (wanted : Wanted) (t : SplType) → wanted ≡ Some t → Meets wanted t
meets_this wanted t e = subst (λ w. Meets w t) (sym e) refl

meets_none : (wanted : Wanted) (t : SplType) → wanted ≡ None → Meets wanted t
meets_none wanted t e = subst (λ w. Meets w t) (sym e) tt

-- a last step that gives what meets
gives_last : {A : Type 0} (wanted : Wanted) (r : Found A) (f : A → Found Typed) → ((x : A) → Gives (MeetsIn wanted) (f x)) → Gives (MeetsIn wanted) (after r f)
gives_last wanted r f h = gives_after Some_thing (MeetsIn wanted) r f (gives_some r) (λ x s. h x)

list_meets : (at : ℕ) (scope : Scope) (wanted : Wanted) (wants : Wants SplType) (es : List (Placed Part)) → WantsAs S.List wanted wants
    → Gives (MeetsIn wanted) (list_typed at scope wants es)
list_meets at scope wanted Another es h = tt
list_meets at scope wanted (This t) es h = gives_last wanted (elements_typed scope t es) _ (λ xs. meets_this wanted (S.List t) h)
list_meets at scope wanted Anything [] h = tt
list_meets at scope wanted Anything (e ∷ es) h =
    gives_last wanted (part_typed e scope None) _ (λ x. gives_last wanted (elements_typed scope x.kind es) _ (λ xs. meets_none wanted (S.List x.kind) h))

map_meets : (at : ℕ) (scope : Scope) (wanted : Wanted) (wants : Wants (SplType × SplType)) (es : List (Placed Part × Placed Part)) → WantsAs map_of wanted wants
    → Gives (MeetsIn wanted) (map_typed at scope wants es)
map_meets at scope wanted Another es h = tt
map_meets at scope wanted (This p) es h = gives_last wanted (entries_typed scope p.0 p.1 es) _ (λ xs. meets_this wanted (map_of p) h)
map_meets at scope wanted Anything [] h = tt
map_meets at scope wanted Anything (e ∷ es) h =
    gives_last wanted (part_typed e.0 scope None) _ (λ x. gives_last wanted (part_typed e.1 scope None) _ (λ y.
    gives_last wanted (entries_typed scope x.kind y.kind es) _ (λ xs. meets_none wanted (S.Map x.kind y.kind) h)))

-- a test that has to pass
pub gives_if : {A : Type 0} (P : A → Type 0) (b : Bool) (r s : Found A) → (b ≡ true → Gives P r) → Gives P s → Gives P (if b then r else s)
gives_if P true r s h g = h refl
gives_if P false r s h g = g

tuple_meets : (at : ℕ) (scope : Scope) (wanted : Wanted) (wants : Wants (List (Named SplType))) (fs : List (Field (Placed Part))) → WantsAs S.Tuple wanted wants
    → Gives (MeetsIn wanted) (tuple_typed at scope wants fs)
tuple_meets at scope wanted Another fs h = tt
tuple_meets at scope wanted (This schema) fs h =
    gives_if (MeetsIn wanted) (gives_each schema fs) _ _ (λ each. gives_last wanted (fields_typed scope schema fs) _ (λ xs. meets_this wanted (S.Tuple schema) h)) tt
tuple_meets at scope wanted Anything fs h =
    gives_if (MeetsIn wanted) (are_distinct fs) _ _ (λ each. gives_last wanted (own_fields scope 0 fs) _ (λ xs. meets_none wanted (S.Tuple xs.0) h)) tt

-- ---- expressions

-- a part has the type that its place wants
abbrev pub Keeps : TypingAt → Type 0
Keeps f = (at : ℕ) (scope : Scope) (wanted : Wanted) → Gives (MeetsIn wanted) (f at scope wanted)

-- its type is that of its first branch
conditional_meets : (scope : Scope) (wanted : Wanted) (c a b : Placed Part) → Keeps a.what.1 → Gives (MeetsIn wanted) (conditional_typed scope wanted c a b)
conditional_meets scope wanted c a b h =
    gives_last wanted (part_typed c scope (Some S.Bool)) _ (λ x.
    gives_after (MeetsIn wanted) (MeetsIn wanted) (part_typed a scope wanted) _ (h a.at scope wanted) (λ y meets.
    gives_last wanted (part_typed b scope (branch_wanted wanted y.kind)) _ (λ z. meets)))

pub part_at : (e : ExprKind) (x : ExprKind-F ExprKind) → out-ExprKind e ≡ x → level_typed (map-ExprKind ExprKind Part part x) ≡ (part e).1
part_at e x out = sym (typed_at e x out)

-- an expression as a part of another
abbrev pub part_of : Expr → Placed Part
part_of e = record { at = e.at; what = part e.what }

keeps_steps : ExprSteps (λ e. Keeps (part e).1)
keeps_steps = record {
  name = λ n. subst Keeps (part_at (E.Name n) (X.Name n) (E.outs-Name n)) (λ at scope wanted. after_as_wanted at wanted _);
  dollar = λ n. subst Keeps (part_at (E.Dollar n) (X.Dollar n) (E.outs-Dollar n)) (λ at scope wanted. after_as_wanted at wanted _);
  number = λ n. subst Keeps (part_at (E.Number n) (X.Number n) (E.outs-Number n)) (λ at scope wanted. after_as_wanted at wanted _);
  text = λ bytes. subst Keeps (part_at (E.Text bytes) (X.Text bytes) (E.outs-Text bytes)) (λ at scope wanted. as_wanted_meets at wanted _);
  bool = λ b. subst Keeps (part_at (E.Bool b) (X.Bool b) (E.outs-Bool b)) (λ at scope wanted. as_wanted_meets at wanted _);
  group = λ e h. subst Keeps (part_at (E.Group e) (X.Group e) (E.outs-Group e)) (λ at scope wanted. h e.at scope wanted);
  list = λ es h. subst Keeps (part_at (E.List es) (X.List es) (E.outs-List es)) (λ at scope wanted. list_meets at scope wanted (wants_list wanted) _ (list_as wanted));
  map_of = λ es h. subst Keeps (part_at (E.Map es) (X.Map es) (E.outs-Map es)) (λ at scope wanted. map_meets at scope wanted (wants_map wanted) _ (map_as wanted));
  tuple = λ fs h. subst Keeps (part_at (E.Tuple fs) (X.Tuple fs) (E.outs-Tuple fs)) (λ at scope wanted. tuple_meets at scope wanted (wants_tuple wanted) _ (tuple_as wanted));
  call = λ n es h. subst Keeps (part_at (E.Call n es) (X.Call n es) (E.outs-Call n es)) (λ at scope wanted. after_as_wanted at wanted _);
  select = λ e ss h g. subst Keeps (part_at (E.Select e ss) (X.Select e ss) (E.outs-Select e ss)) (λ at scope wanted. after_as_wanted at wanted _);
  unary = λ ps e h. subst Keeps (part_at (E.Unary ps e) (X.Unary ps e) (E.outs-Unary ps e)) (λ at scope wanted. after_as_wanted at wanted _);
  binary = λ op l r h g. subst Keeps (part_at (E.Binary op l r) (X.Binary op l r) (E.outs-Binary op l r)) (λ at scope wanted. after_as_wanted at wanted _);
  conditional = λ c a b f h g. subst Keeps (part_at (E.Conditional c a b) (X.Conditional c a b) (E.outs-Conditional c a b)) (λ at scope wanted. conditional_meets scope wanted (part_of c) (part_of a) (part_of b) h);
}

pub keeps : (e : ExprKind) → Keeps (part e).1
keeps = expr_ind (λ e. Keeps (part e).1) keeps_steps

pub wanted_law : WantedLaw
wanted_law scope e u t found = gives_from (MeetsIn (Some u)) (typing scope e (Some u)) t (keeps e.what e.at scope (Some u)) found
