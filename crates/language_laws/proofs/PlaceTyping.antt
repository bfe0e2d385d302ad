-- The place that an expression reads is one of the variable of its root name, and fits.
use Rattle.std.specs.Prelude.{◌≡◌, ℕ, IsTrue, true, false, List, [], ◌∷◌, Option, Some, None, Ok, Err, slice_get}
use Rattle.std.specs.Option.{option_map_or}
use Rattle.std.proofs.Common.{refl, sym, ap, subst, ◌∙◌}
use Rattle.spl_value.specs.declared.types.Named.{Named}
use Rattle.spl_value.specs.declared.types.SplType.{SplType}
use Rattle.spl_tree.specs.Trees.{Expr}
use Rattle.spl_tree.proofs.Induction.{ExprSteps, expr_ind}
use Rattle.spl_tree.specs.declared.body.Place.{Place}
use Rattle.spl_tree.specs.declared.code.Code.{Code}
use Rattle.spl_tree.specs.declared.code.Code.TheVariants as C
use Rattle.spl_tree.specs.declared.code.Code.TheOpen as O
use Rattle.spl_tree.specs.declared.code.Code.TheOpen.{Code-F}
use Rattle.spl_tree.specs.declared.code.Code.TheViews.{out-Code}
use Rattle.spl_tree.specs.declared.code.Slot.{Slot}
use Rattle.spl_tree.specs.declared.code.Slot.TheVariants as L
use Rattle.spl_tree.specs.declared.code.Selector.{Selector}
use Rattle.spl_tree.specs.declared.expression.ExprKind.{ExprKind}
use Rattle.spl_tree.specs.declared.expression.ExprKind.TheVariants as E
use Rattle.spl_tree.specs.declared.expression.ExprKind.TheOpen as X
use Rattle.spl_tree.specs.declared.expression.ExprKind.TheOpen.{ExprKind-F}
use Rattle.spl_tree.specs.declared.expression.ExprKind.TheViews.{out-ExprKind}
use Rattle.spl_tree.specs.declared.expression.ExprKind.TheFolds.{map-ExprKind}
use Rattle.spl_tree.specs.declared.expression.Placed.{Placed}
use Rattle.spl_tree.specs.declared.expression.Step.{Step}
use Rattle.spl_tree.specs.declared.expression.Step.TheVariants as N
use Rattle.language_model.specs.declared.scope.Scope.{Scope}
use Rattle.language_model.specs.declared.scope.Typed.{Typed}
use Rattle.language_model.specs.declared.scope.Variable.{Variable}
use Rattle.language_model.specs.BodyFits as B
use Rattle.language_model.specs.BodyFits.{PlaceFits}
use Rattle.language_model.specs.CodeFits as F
use Rattle.language_model.specs.CodeFits.{SlotFits, StepsLead}
use Rattle.language_model.specs.Readings.{level_root, name_of, root_of}
use Rattle.language_model.specs.Scopes.{At, at_place, Meant, OfVariable, OfAttribute, OfPort, Nothing, meant, variable_of, attributes_of, attribute_of}
use Rattle.language_model.proofs.parts.Scopes.{variable_meant, port_of}
use Rattle.language_model.specs.Typing.{Wanted, Found, after, mismatch, as_wanted, same_types, Part, part_typed, meant_typed, steps_typed, selected, select_typed, of_port, is_mutable, if_mutable, level_typed, typed, typing}
use Rattle.language_model.specs.parts.Typing.{port_attribute, of_base}
use Rattle.language_model.specs.TypingLaws.{TypingAt, part}
use Rattle.language_model.specs.StatementTyping.{TypedPlace, level_variable, level_place, place_given, place_typing}
use Rattle.language_model.specs.FitLaws.{DollarsFit}
use Rattle.language_laws.specs.PlaceLaws.{PlaceTypeLaw, read_code, PlaceReadsLaw}
use Rattle.language_model.proofs.CodeParts.{Parts, parts}
use Rattle.language_model.proofs.ReadingLaws.{fold_at}
use Rattle.language_model.proofs.Standing.{Bears, variable_there}
use Rattle.language_model.proofs.Wanting.{gives_both, gives_if, Some_thing, gives_some, part_of, part_at}
use Rattle.language_laws.proofs.Fitting.{Fits, good, good_any}
use Rattle.language_model.proofs.FoundAnswers.{Gives, gives_after, gives_from, gives_on}

-- ---- the variable that a code reads

-- a place that the code reads is of this variable, and reading it is all that the code does
abbrev pub Reads : ℕ → Code Slot → Type 0
Reads i code = (place : Place) → level_place (out-Code Slot code) ≡ Some place → (place.variable ≡ i) × (code ≡ read_code place)

abbrev variable_in : Option Place → ℕ
variable_in None = 0
variable_in (Some place) = place.variable

abbrev code_in : Option Place → Code Slot
code_in None = C.Name (L.Variable 0)
code_in (Some place) = read_code place

name_reads : (i : ℕ) → Reads i (C.Name (L.Variable i))
name_reads i place e =
    let is : Some place ≡ level_place (O.Name (L.Variable i)) = sym e ∙ ap level_place (C.outs-Name (L.Variable i)) in
    (ap variable_in is, sym (ap code_in is))

attribute_reads : (i port attribute : ℕ) → Reads i (C.Name (L.Attribute port attribute))
attribute_reads i port attribute place e =
    let none : level_place (O.Name (L.Attribute port attribute)) ≡ Some place = sym (ap level_place (C.outs-Name (L.Attribute port attribute))) ∙ e in absurd cc

taken_reads : (i : ℕ) (x : Code Slot) (y : Code-F Slot (Code Slot)) (s : Selector (Code Slot)) (ss : List (Selector (Code Slot)))
    → ((place : Place) → level_place y ≡ Some place → (place.variable ≡ i) × (x ≡ read_code place))
    → (place : Place) → level_variable (s ∷ ss) y ≡ Some place → (place.variable ≡ i) × (C.Select x (s ∷ ss) ≡ read_code place)
taken_reads i x (O.Name (L.Variable j)) s ss h place e =
    let here = h (record { variable = j; takings = [] }) refl in
    (sym (ap variable_in e) ∙ here.0, ap (λ z. C.Select z (s ∷ ss)) here.1 ∙ ap code_in e)
taken_reads i x _ s ss h place e = absurd cc

selected_reads : (i : ℕ) (x : Code Slot) (takings : List (Selector (Code Slot))) → Reads i x → Reads i (selected x takings)
selected_reads i x [] h place e = h place e
selected_reads i x (s ∷ ss) h place e = taken_reads i x (out-Code Slot x) s ss h place (sym (ap level_place (C.outs-Select x (s ∷ ss))) ∙ e)

-- ---- the code of an expression with a root name

abbrev ReadsIn : ℕ → Typed → Type 0
ReadsIn i t = Reads i t.code

as_wanted_keeps : (P : Typed → Type 0) (at : ℕ) (wanted : Wanted) (t : Typed) → P t → Gives P (as_wanted at wanted t)
as_wanted_keeps P at None t h = h
as_wanted_keeps P at (Some u) t h = gives_if P (same_types t.kind u) (Ok t) (mismatch at) (λ same. h) tt

after_keeps : (P : Typed → Type 0) (at : ℕ) (wanted : Wanted) (r : Found Typed) → Gives P r → Gives P (after r (as_wanted at wanted))
after_keeps P at wanted r h = gives_after P P r (as_wanted at wanted) h (λ t g. as_wanted_keeps P at wanted t g)

select_reads : (base : ℕ) (scope : Scope) (i : ℕ) (x : Typed) (ss : List (Step (Placed Part))) → ReadsIn i x → Gives (ReadsIn i) (select_typed base scope x ss)
select_reads base scope i x ss h =
    gives_after Some_thing (ReadsIn i) (steps_typed base scope x.kind ss) _ (gives_some (steps_typed base scope x.kind ss)) (λ xs s. selected_reads i x.code xs.0 h)

-- what is taken of an expression
of_part_reads : (base : Placed Part) (scope : Scope) (i : ℕ) (ss : List (Step (Placed Part))) → Gives (ReadsIn i) (part_typed base scope None)
    → Gives (ReadsIn i) (after (part_typed base scope None) (λ x. select_typed base.at scope x ss))
of_part_reads base scope i ss h =
    gives_after (ReadsIn i) (ReadsIn i) (part_typed base scope None) _ h (λ x g. select_reads base.at scope i x ss g)

port_attribute_reads : (i port at : ℕ) (name : List ℕ) (o : Option (At (Named SplType))) → Gives (ReadsIn i) (port_attribute port at name o)
port_attribute_reads i port at name None = tt
port_attribute_reads i port at name (Some a) = attribute_reads i port a.place

of_port_reads : (m : Meant) (base : Placed Part) (scope : Scope) (i : ℕ) (ss : List (Step (Placed Part))) → Gives (ReadsIn i) (part_typed base scope None)
    → Gives (ReadsIn i) (of_port m base scope ss)
of_port_reads (OfPort p) base scope i (N.Member m ∷ ss) h =
    gives_after (ReadsIn i) (ReadsIn i) (port_attribute p.place m.at m.what (attribute_of p.what.schema m.what)) _
    (port_attribute_reads i p.place m.at m.what (attribute_of p.what.schema m.what)) (λ x g. select_reads base.at scope i x ss g)
of_port_reads (OfPort p) base scope i [] h = of_part_reads base scope i [] h
of_port_reads (OfPort p) base scope i (N.Index e ∷ ss) h = of_part_reads base scope i (N.Index e ∷ ss) h
of_port_reads (OfVariable v) base scope i ss h = of_part_reads base scope i ss h
of_port_reads (OfAttribute a) base scope i ss h = of_part_reads base scope i ss h
of_port_reads Nothing base scope i ss h = of_part_reads base scope i ss h

of_base_reads : (name : Option (List ℕ)) (base : Placed Part) (scope : Scope) (i : ℕ) (ss : List (Step (Placed Part))) → Gives (ReadsIn i) (part_typed base scope None)
    → Gives (ReadsIn i) (of_base name base scope ss)
of_base_reads (Some name) base scope i ss h = of_port_reads (meant scope name) base scope i ss h
of_base_reads None base scope i ss h = of_part_reads base scope i ss h

-- where the root name is one of a variable, the code reads no place of another one
abbrev Rooted : Option (List ℕ) → TypingAt → Type 0
Rooted root f = (at : ℕ) (scope : Scope) (wanted : Wanted) (name : List ℕ) (v : At Variable) → root ≡ Some name → variable_of scope name ≡ Some v
    → Gives (ReadsIn v.place) (f at scope wanted)

abbrev IsRooted : ExprKind → Type 0
IsRooted e = Rooted (root_of e) (part e).1

by_level : (e : ExprKind) (x : ExprKind-F ExprKind) → out-ExprKind e ≡ x
    → Rooted (level_root (map-ExprKind ExprKind (Option (List ℕ)) root_of x)) (level_typed (map-ExprKind ExprKind Part part x)) → IsRooted e
by_level e x out h =
    subst (λ root. Rooted root (part e).1) (sym (fold_at level_root e x out))
    (subst (Rooted (level_root (map-ExprKind ExprKind (Option (List ℕ)) root_of x))) (part_at e x out) h)

unrooted : (e : ExprKind) → root_of e ≡ None → IsRooted e
unrooted e none at scope wanted name v root is = absurd cc

name_rooted : (n : List ℕ) → Rooted (Some n) (level_typed (X.Name n))
name_rooted n at scope wanted name v root is =
    let same : n ≡ name = cc root in
    let variable : meant scope n ≡ OfVariable v = ap (λ o. variable_meant o (attributes_of scope n) (port_of scope n)) (ap (variable_of scope) same ∙ is) in
    after_keeps (ReadsIn v.place) at wanted (meant_typed at n (meant scope n)) (subst (λ m. Gives (ReadsIn v.place) (meant_typed at n m)) (sym variable) (name_reads v.place))

select_rooted : (base : Placed Part) (ss : List (Step (Placed Part))) → Rooted (root_of base.what.0) base.what.1 → Rooted (root_of base.what.0) (level_typed (X.Select base ss))
select_rooted base ss h at scope wanted name v root is =
    after_keeps (ReadsIn v.place) at wanted (of_base (name_of base.what.0) base scope ss)
    (of_base_reads (name_of base.what.0) base scope v.place ss (h base.at scope None name v root is))

rooted_steps : ExprSteps IsRooted
rooted_steps = record {
  name = λ n. by_level (E.Name n) (X.Name n) (E.outs-Name n) (name_rooted n);
  dollar = λ n. unrooted (E.Dollar n) (fold_at level_root (E.Dollar n) (X.Dollar n) (E.outs-Dollar n));
  number = λ n. unrooted (E.Number n) (fold_at level_root (E.Number n) (X.Number n) (E.outs-Number n));
  text = λ bytes. unrooted (E.Text bytes) (fold_at level_root (E.Text bytes) (X.Text bytes) (E.outs-Text bytes));
  bool = λ b. unrooted (E.Bool b) (fold_at level_root (E.Bool b) (X.Bool b) (E.outs-Bool b));
  group = λ e h. unrooted (E.Group e) (fold_at level_root (E.Group e) (X.Group e) (E.outs-Group e));
  list = λ es h. unrooted (E.List es) (fold_at level_root (E.List es) (X.List es) (E.outs-List es));
  map_of = λ es h. unrooted (E.Map es) (fold_at level_root (E.Map es) (X.Map es) (E.outs-Map es));
  tuple = λ fs h. unrooted (E.Tuple fs) (fold_at level_root (E.Tuple fs) (X.Tuple fs) (E.outs-Tuple fs));
  call = λ n es h. unrooted (E.Call n es) (fold_at level_root (E.Call n es) (X.Call n es) (E.outs-Call n es));
  select = λ e ss h g. by_level (E.Select e ss) (X.Select e ss) (E.outs-Select e ss) (select_rooted (part_of e) _ h);
  unary = λ ps e h. unrooted (E.Unary ps e) (fold_at level_root (E.Unary ps e) (X.Unary ps e) (E.outs-Unary ps e));
  binary = λ op l r h g. unrooted (E.Binary op l r) (fold_at level_root (E.Binary op l r) (X.Binary op l r) (E.outs-Binary op l r));
  conditional = λ c a b f g h. unrooted (E.Conditional c a b) (fold_at level_root (E.Conditional c a b) (X.Conditional c a b) (E.outs-Conditional c a b));
}

rooted : (e : ExprKind) → IsRooted e
rooted = expr_ind IsRooted rooted_steps

-- ---- the place that a code reads

-- steps from a variable that can be named lead to the type
abbrev Stands : Scope → Place → SplType → Type 0
Stands scope place t =
    (v : Variable) × (slice_get scope.vars place.variable ≡ Some v) × (variable_of scope v.name ≡ Some (at_place place.variable v))
    × StepsLead scope place.takings v.kind t

module _ (scope : Scope) where
  slot_stands : (i : ℕ) (t : SplType) → SlotFits scope (L.Variable i) t → (takings : List (Selector (Code Slot))) (u : SplType)
      → StepsLead scope takings t u → Stands scope (record { variable = i; takings = takings }) u
  slot_stands _ _ (F.variable i v at named) takings u steps = (v, at, named, steps)

  taken_stands : (x : Code-F Slot (Code Slot)) (takings : List (Selector (Code Slot))) (t u : SplType) (place : Place) → Parts scope x t
      → StepsLead scope takings t u → level_variable takings x ≡ Some place → Stands scope place u
  taken_stands (O.Name (L.Variable i)) takings t u place h steps e =
      let is : record { variable = i; takings = takings } ≡ place = cc e in subst (λ p. Stands scope p u) is (slot_stands i t h takings u steps)
  taken_stands _ takings t u place h steps e = absurd cc

  level_stands : (x : Code-F Slot (Code Slot)) (t : SplType) (place : Place) → Parts scope x t → level_place x ≡ Some place → Stands scope place t
  level_stands (O.Name (L.Variable i)) t place h e =
      let is : record { variable = i; takings = [] } ≡ place = cc e in subst (λ p. Stands scope p t) is (slot_stands i t h [] t (F.here t))
  level_stands (O.Select base takings) t place h e = taken_stands (out-Code Slot base) takings h.0 t place (parts scope base h.0 h.1) h.2 e
  level_stands _ t place h e = absurd cc

  stands_fits : (place : Place) (t : SplType) (v : Variable) → Stands scope place t → slice_get scope.vars place.variable ≡ Some v → IsTrue v.mutable
      → PlaceFits scope place t
  stands_fits place t v s at m =
      let e : s.0 ≡ v = cc (s.1, at) in B.in_variable place s.0 t s.1 s.2 (subst (λ (x : Variable). IsTrue x.mutable) (sym e) m) s.3

-- ---- places that may be changed

-- the root name of an expression is one of a variable that may be changed
abbrev pub MayChange : Scope → Option (List ℕ) → Type 0
MayChange scope root = (name : List ℕ) × (root ≡ Some name) × (is_mutable scope name ≡ true)

pub gives_if_mutable : {A : Type 0} (P : A → Type 0) (at : ℕ) (scope : Scope) (e : Placed Part) (root : Option (List ℕ)) (found : Found A)
    → (MayChange scope root → Gives P found) → Gives P (if_mutable at scope e root found)
gives_if_mutable P at scope e None found h = tt
gives_if_mutable P at scope e (Some name) found h = gives_if P (is_mutable scope name) found _ (λ may. h (name, refl, may)) tt

-- the variable that the name means
pub variable_found : (o : Option (At Variable)) → option_map_or (λ v. v.what.mutable) o false ≡ true → (v : At Variable) × (o ≡ Some v) × IsTrue v.what.mutable
variable_found None may = absurd cc
variable_found (Some v) may = (v, refl, may)

-- what typing finds reads no place of a variable other than that of the root name
abbrev OfRoot : Scope → Option (List ℕ) → Typed → Type 0
OfRoot scope root t = (name : List ℕ) (v : At Variable) → root ≡ Some name → variable_of scope name ≡ Some v → ReadsIn v.place t

root_found : (scope : Scope) (root : Option (List ℕ)) (r : Found Typed)
    → ((name : List ℕ) (v : At Variable) → root ≡ Some name → variable_of scope name ≡ Some v → Gives (ReadsIn v.place) r) → Gives (OfRoot scope root) r
root_found scope root (Ok t) h = h
root_found scope root (Err refusal) h = tt

part_root : (e : Expr) (scope : Scope) → Gives (OfRoot scope (root_of e.what)) (typing scope e None)
part_root e scope = root_found scope (root_of e.what) (typing scope e None) (λ name v root is. rooted e.what e.at scope None name v root is)

-- the code fits, and where it reads a place that is one of the root name
abbrev pub Rests : Scope → Option (List ℕ) → Typed → Type 0
Rests scope root t = Fits scope t × OfRoot scope root t

pub part_rests : (e : Expr) (scope : Scope) → DollarsFit scope.dollars → Gives (Rests scope (root_of e.what)) (typing scope e None)
part_rests e scope fine =
    gives_both (Fits scope) (OfRoot scope (root_of e.what)) (typing scope e None) (good_any scope (part_of e) (good scope fine e) None) (part_root e scope)

-- the place of what a typed expression reads
pub record PlaceOf (t : Typed) (p : TypedPlace) : Type 0 where
  pub kind : t.kind ≡ p.kind
  pub code : t.code ≡ read_code p.place

-- the place fits the scope at a type
abbrev pub FitsPlace : Scope → SplType → TypedPlace → Type 0
FitsPlace scope t p = PlaceFits scope p.place t

module _ (at : ℕ) (scope : Scope) (root : Option (List ℕ)) (t : Typed) (of_root : OfRoot scope root t) (may : MayChange scope root) where
  the_variable : (v : At Variable) × (variable_of scope may.0 ≡ Some v) × IsTrue v.what.mutable
  the_variable = variable_found (variable_of scope may.0) may.2

  variable_stands : slice_get scope.vars the_variable.0.place ≡ Some the_variable.0.what
  variable_stands = (subst (Bears (λ v. v.name) scope.vars may.0) the_variable.1 (variable_there scope may.0)).0

  place_reads : (place : Place) → level_place (out-Code Slot t.code) ≡ Some place → (place.variable ≡ the_variable.0.place) × (t.code ≡ read_code place)
  place_reads place e = of_root may.0 the_variable.0 may.1 the_variable.1 place e

  pub given_place : Gives (PlaceOf t) (place_given at t.kind (level_place (out-Code Slot t.code)))
  given_place = of_place (level_place (out-Code Slot t.code)) refl
    where
      of_place : (o : Option Place) → level_place (out-Code Slot t.code) ≡ o → Gives (PlaceOf t) (place_given at t.kind o)
      of_place None e = tt
      of_place (Some place) e = record { kind = refl; code = (place_reads place e).1 }

  pub given_fits : Fits scope t → Gives (FitsPlace scope t.kind) (place_given at t.kind (level_place (out-Code Slot t.code)))
  given_fits fit = of_place (level_place (out-Code Slot t.code)) refl
    where
      of_place : (o : Option Place) → level_place (out-Code Slot t.code) ≡ o → Gives (FitsPlace scope t.kind) (place_given at t.kind o)
      of_place None e = tt
      of_place (Some place) e =
          let stands = level_stands scope (out-Code Slot t.code) t.kind place (parts scope t.code t.kind fit) e in
          stands_fits scope place t.kind the_variable.0.what stands (ap (slice_get scope.vars) (place_reads place e).0 ∙ variable_stands) the_variable.2

-- ---- the place of an expression

gives_known : {A : Type 0} (r : Found A) → Gives (λ x. r ≡ Ok x) r
gives_known (Ok x) = refl
gives_known (Err refusal) = tt

-- the place is what the expression reads, and one of a variable that may be changed
pub record PlaceIn (scope : Scope) (e : Expr) (p : TypedPlace) : Type 0 where
  pub reads : typing scope e None ≡ Ok (typed p.kind (read_code p.place))
  pub may : MayChange scope (root_of e.what)

place_in : (scope : Scope) (e : Expr) (t : Typed) (p : TypedPlace) → typing scope e None ≡ Ok t → MayChange scope (root_of e.what) → PlaceOf t p
    → PlaceIn scope e p
place_in scope e t p is may of = record {
  reads = is ∙ (λ i. Ok (typed (of.kind i) (of.code i)));
  may = may;
}

pub gives_place : (scope : Scope) (e : Expr) → Gives (PlaceIn scope e) (place_typing scope e)
gives_place scope e =
    let root = root_of e.what in
    gives_after (λ t. (typing scope e None ≡ Ok t) × OfRoot scope root t) (PlaceIn scope e) (typing scope e None) _
    (gives_both (λ t. typing scope e None ≡ Ok t) (OfRoot scope root) (typing scope e None) (gives_known (typing scope e None)) (part_root e scope)) (λ t known.
    gives_if_mutable (PlaceIn scope e) e.at scope (part_of e) root _ (λ may.
    gives_on (PlaceOf t) (PlaceIn scope e) (place_given e.at t.kind (level_place (out-Code Slot t.code))) (given_place e.at scope root t known.1 may)
    (λ p of. place_in scope e t p known.0 may of)))

-- it fits, where what `$` parameters mean does
pub place_fits : (scope : Scope) → DollarsFit scope.dollars → (e : Expr) → Gives (λ p. PlaceFits scope p.place p.kind) (place_typing scope e)
place_fits scope fine e =
    let root = root_of e.what in
    gives_after (Rests scope root) (λ p. PlaceFits scope p.place p.kind) (typing scope e None) _ (part_rests e scope fine) (λ t rests.
    gives_if_mutable (λ p. PlaceFits scope p.place p.kind) e.at scope (part_of e) root _ (λ may.
    gives_on (λ p. PlaceOf t p × FitsPlace scope t.kind p) (λ p. PlaceFits scope p.place p.kind) (place_given e.at t.kind (level_place (out-Code Slot t.code)))
    (gives_both (PlaceOf t) (FitsPlace scope t.kind) (place_given e.at t.kind (level_place (out-Code Slot t.code)))
    (given_place e.at scope root t rests.1 may) (given_fits e.at scope root t rests.1 may rests.0)) (λ p of.
    subst (PlaceFits scope p.place) of.0.kind of.1)))

pub place_type_law : PlaceTypeLaw
place_type_law scope e p fine found = gives_from (λ p. PlaceFits scope p.place p.kind) (place_typing scope e) p (place_fits scope fine e) found

pub place_reads_law : PlaceReadsLaw
place_reads_law scope e p found = (gives_from (PlaceIn scope e) (place_typing scope e) p (gives_place scope e) found).reads
