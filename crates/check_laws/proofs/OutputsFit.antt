-- The outputs of operators fit their ports.
use Rattle.std.specs.Prelude.{◌≡◌, ◌==◌, ◌+◌, ℕ, zero, suc, Bool, true, false, cond, List, [], ◌∷◌, map, length, Option, Some, None, Ok, slice_get, if◌then◌else◌, codes}
use Rattle.std.specs.List.{AllByRecursion, count_by}
use Rattle.std.specs.Str.{bytes_eq}
use Rattle.std.proofs.Common.{refl, sym, ap, subst, ◌∙◌}
use Rattle.std.proofs.lemmas.List.Recursion.{is_count_by}
use Rattle.spl_value.specs.declared.types.IntKind.{IntKind}
use Rattle.spl_value.specs.declared.types.Named.{Named}
use Rattle.spl_value.specs.declared.types.SplType.{SplType}
use Rattle.spl_value.specs.declared.types.SplType.TheOpen as T
use Rattle.spl_value.specs.declared.types.SplType.TheOpen.{SplType-F}
use Rattle.spl_value.specs.declared.types.SplType.TheVariants as S
use Rattle.spl_value.specs.declared.types.SplType.TheViews.{out-SplType}
use Rattle.spl_tree.specs.declared.code.Code.{Code}
use Rattle.spl_tree.specs.declared.code.Code.TheVariants as C
use Rattle.spl_tree.specs.declared.code.Slot.{Slot}
use Rattle.spl_tree.specs.declared.code.Slot.TheVariants as Q
use Rattle.spl_tree.specs.declared.expression.ExprKind.{ExprKind}
use Rattle.spl_tree.specs.declared.expression.ExprKind.TheOpen as X
use Rattle.spl_tree.specs.declared.expression.ExprKind.TheOpen.{ExprKind-F}
use Rattle.spl_tree.specs.declared.expression.ExprKind.TheVariants as E
use Rattle.spl_tree.specs.declared.expression.ExprKind.TheViews.{out-ExprKind}
use Rattle.spl_tree.specs.declared.unit.OutputAssignments.{OutputAssignments}
use Rattle.spl_tree.specs.Trees.{Expr, placed}
use Rattle.language_model.specs.declared.checked.CollectedAttribute.{CollectedAttribute}
use Rattle.language_model.specs.declared.checked.Collector.TheVariants as K
use Rattle.language_model.specs.declared.checked.CollectorCall.{CollectorCall}
use Rattle.language_model.specs.declared.scope.Port.{Port}
use Rattle.language_model.specs.declared.scope.Scope.{Scope}
use Rattle.language_model.specs.declared.scope.Variable.{Variable}
use Rattle.language_model.specs.CodeFits as G
use Rattle.language_model.specs.CodeFits.{CodeFits, FieldsFit, OneEach}
use Rattle.language_model.specs.FitLaws.{DollarsFit}
use Rattle.language_model.specs.Keeping as F
use Rattle.language_model.specs.Keeping.{CollectorFits, GroupsFit, PlacesFit}
use Rattle.language_model.specs.OutputTyping.{Assigned, Collecting, Summing, Extreme, Choosing, Counting, assigned_group, bad_output, called_typing, collecting_of, gathers, groups_typing, inputs_typing, level_gathered, level_gathers, one_attribute, places_typing, rows_typing, taken_over, tuple_typing, with_others}
use Rattle.language_model.specs.parts.OutputTyping.{assigned_code, collected, last_of, of_wanted}
use Rattle.language_model.proofs.parts.OutputTyping.{gathered_by, place_in}
use Rattle.language_model.specs.Scopes.{At, OfAttribute, PortAttribute, attribute_of, attributes_of, last_from, meant, variable_of}
use Rattle.language_model.proofs.parts.Scopes.{port_of, variable_meant}
use Rattle.language_model.proofs.Standing.{Bears, attribute_there}
use Rattle.language_model.specs.StreamTypes.{Attributes}
use Rattle.language_model.specs.Typing.{after, as_wanted, meant_typed, mismatch, same_types, typed, typing}
use Rattle.language_model.proofs.TypingLaws as L
use Rattle.check_laws.proofs.Accepting.{TypingGives, gives_if, none_at, typed_fits, wanted_fits}
use Rattle.check_laws.proofs.AssignedOnce.{AssignsFit, EachOnce, FillsFit, ForAttribute, counts_times, each_once, times}
use Rattle.language_model.proofs.FoundAnswers.{Gives, after_after, gives_after, gives_then}
use Rattle.language_model.proofs.SameTypes.{equal_from_same}
use Rattle.language_model.proofs.Wanting.{rolled}

-- the code of a tuple that has one field for each attribute, of its type
pub record TupleFits (scope : Scope) (schema : Attributes) (code : Code Slot) : Type 0 where
  pub fields : List (ℕ × Code Slot)
  pub is : code ≡ C.Tuple fields
  pub fit : FieldsFit scope fields schema
  pub once : OneEach (length schema) fields

-- ---- attributes without an assignment

module _ (laws : TypingGives) (scope : Scope) (bare : scope.vars ≡ []) (fine : DollarsFit scope.dollars) where
  -- a code of an attribute's type
  abbrev pub CodeFor : Named SplType → Code Slot → Type 0
  CodeFor a code = CodeFits scope code a.kind

  attribute_meant : (name : List ℕ) (a : PortAttribute) → attributes_of scope name ≡ a ∷ [] → meant scope name ≡ OfAttribute a
  attribute_meant name a is =
      let none : variable_of scope name ≡ None = ap (λ (vars : List Variable). last_from (λ v. bytes_eq v.name name) 0 vars) bare in
      λ i. variable_meant (none i) (is i) (port_of scope name)

  name_fits : (name : List ℕ) (a : PortAttribute) → attributes_of scope name ≡ a ∷ [] → CodeFits scope (C.Name (Q.Attribute a.port a.attribute)) a.kind
  name_fits name a is =
      typed_fits laws scope fine (placed 0 (E.Name name)) (typed a.kind (C.Name (Q.Attribute a.port a.attribute)))
      (L.name_typed name 0 scope None ∙ ap (λ m. after (meant_typed 0 name m) (as_wanted 0 None)) (attribute_meant name a is))

  one_fits : (at : ℕ) (name : List ℕ) (t : SplType) (as' : List PortAttribute) → attributes_of scope name ≡ as' → Gives (λ code. CodeFits scope code t) (one_attribute at t as')
  one_fits at name t [] is = tt
  one_fits at name t (a ∷ []) is =
      gives_if (λ code. CodeFits scope code t) (same_types a.kind t) (Ok (C.Name (Q.Attribute a.port a.attribute))) (bad_output at)
      (λ same. subst (CodeFits scope (C.Name (Q.Attribute a.port a.attribute))) (equal_from_same a.kind t same) (name_fits name a is)) (λ other. tt)
  one_fits at name t (a ∷ b ∷ as') is = tt

  taken_fits : (schema : Attributes) (at : ℕ) → FillsFit CodeFor schema (taken_over scope at)
  taken_fits schema at a = one_fits at a.name a.kind (attributes_of scope a.name) refl

  -- ---- tuples

  code_fits : (schema : Attributes) → AssignsFit CodeFor schema (assigned_code scope)
  code_fits schema a e = gives_then (CodeFor a) (typing scope e (Some a.kind)) _ (λ t is. wanted_fits laws scope fine e a.kind t is)

  fields_fit : (schema : Attributes) (all : Assigned (Code Slot)) → AllByRecursion (ForAttribute CodeFor schema) all → FieldsFit scope all schema
  fields_fit schema [] h = G.no_fields schema
  fields_fit schema (x ∷ all) h = G.field x.0 x.1 all schema h.0.0 h.0.1 h.0.2 (fields_fit schema all h.1)

  pub tuple_fits : (at : ℕ) (schema : Attributes) (output : List ℕ) (rows : List OutputAssignments)
      → Gives (TupleFits scope schema) (tuple_typing scope at schema output rows)
  tuple_fits at schema output rows =
      subst (Gives (TupleFits scope schema))
      (after_after (rows_typing (assigned_code scope) schema output [] rows) (with_others (taken_over scope at) schema) (λ all. Ok (C.Tuple all)))
      (gives_after (EachOnce CodeFor schema) (TupleFits scope schema)
      (after (rows_typing (assigned_code scope) schema output [] rows) (with_others (taken_over scope at) schema)) (λ all. Ok (C.Tuple all))
      (each_once CodeFor schema (assigned_code scope) (code_fits schema) (taken_over scope at) (taken_fits schema at) output rows)
      (λ all each. record { fields = all; is = refl; fit = fields_fit schema all each.fit; once = each.once }))

  -- ---- groups

  -- what an attribute gets is of its type
  abbrev Gathered : SplType → CollectorCall → Type 0
  Gathered t g = CollectorFits scope g.collector g.argument t

  abbrev OwnGathered : CollectorCall → Type 0
  OwnGathered g = Gathered g.kind g

  abbrev GatheredFor : Named SplType → CollectorCall → Type 0
  GatheredFor a g = Gathered a.kind g

  -- the functions that there are
  abbrev IsCollecting : Collecting → Type 0
  IsCollecting Summing = Unit {0}
  IsCollecting (Extreme K.Min) = Unit {0}
  IsCollecting (Extreme K.Max) = Unit {0}
  IsCollecting (Choosing K.First) = Unit {0}
  IsCollecting (Choosing K.Last) = Unit {0}
  IsCollecting Counting = Unit {0}
  IsCollecting _ = ⊥

  abbrev MayCollect : Option Collecting → Type 0
  MayCollect None = Unit {0}
  MayCollect (Some c) = IsCollecting c

  either_collects : (b : Bool) (x y : Option Collecting) → MayCollect x → MayCollect y → MayCollect (if b then x else y)
  either_collects true x y h k = h
  either_collects false x y h k = k

  collects : (name : List ℕ) → MayCollect (collecting_of name)
  collects name =
      either_collects (bytes_eq name (codes "Sum")) (Some Summing) _ tt (
      either_collects (bytes_eq name (codes "Min")) (Some (Extreme K.Min)) _ tt (
      either_collects (bytes_eq name (codes "Max")) (Some (Extreme K.Max)) _ tt (
      either_collects (bytes_eq name (codes "First")) (Some (Choosing K.First)) _ tt (
      either_collects (bytes_eq name (codes "Any")) (Some (Choosing K.First)) _ tt (
      either_collects (bytes_eq name (codes "Last")) (Some (Choosing K.Last)) _ tt (
      either_collects (bytes_eq name (codes "Count")) (Some Counting) None tt tt))))))

  -- a code of an integer type, or of a text
  as_integer : (t : SplType) (kind : IntKind) → out-SplType t ≡ T.Int kind → S.Int kind ≡ t
  as_integer t kind is = sym (rolled t (T.Int kind) (S.Int kind) is (S.rolls-Int kind))

  as_text : (t : SplType) → out-SplType t ≡ T.Text → S.Text ≡ t
  as_text t is = sym (rolled t T.Text S.Text is S.rolls-Text)

  at_integer : (code : Code Slot) (t : SplType) (kind : IntKind) → out-SplType t ≡ T.Int kind → CodeFits scope code t → CodeFits scope code (S.Int kind)
  at_integer code t kind is h = subst (CodeFits scope code) (sym (as_integer t kind is)) h

  at_text : (code : Code Slot) (t : SplType) → out-SplType t ≡ T.Text → CodeFits scope code t → CodeFits scope code S.Text
  at_text code t is h = subst (CodeFits scope code) (sym (as_text t is)) h

  gathers_fit : (at : ℕ) (collecting : Collecting) (code : Code Slot) (t : SplType) (x : SplType-F SplType) → IsCollecting collecting → out-SplType t ≡ x
      → CodeFits scope code t → Gives OwnGathered (level_gathers at collecting code t x)
  gathers_fit at Summing code t (T.Int kind) c is h = subst (λ u. Gathered u (gathers (K.Sum kind) code t)) (as_integer t kind is) (F.sum kind code (at_integer code t kind is h))
  gathers_fit at Summing code t _ c is h = tt
  gathers_fit at (Extreme K.Min) code t (T.Int kind) c is h = subst (λ u. Gathered u (gathers K.Min code t)) (as_integer t kind is) (F.least_integer kind code (at_integer code t kind is h))
  gathers_fit at (Extreme K.Min) code t T.Text c is h = subst (λ u. Gathered u (gathers K.Min code t)) (as_text t is) (F.least_text code (at_text code t is h))
  gathers_fit at (Extreme K.Max) code t (T.Int kind) c is h = subst (λ u. Gathered u (gathers K.Max code t)) (as_integer t kind is) (F.greatest_integer kind code (at_integer code t kind is h))
  gathers_fit at (Extreme K.Max) code t T.Text c is h = subst (λ u. Gathered u (gathers K.Max code t)) (as_text t is) (F.greatest_text code (at_text code t is h))
  gathers_fit at (Extreme K.First) code t x c is h = absurd c
  gathers_fit at (Extreme K.Last) code t x c is h = absurd c
  gathers_fit at (Extreme K.Count) code t x c is h = absurd c
  gathers_fit at (Extreme (K.Sum kind)) code t x c is h = absurd c
  gathers_fit at (Extreme collector) code t _ c is h = tt
  gathers_fit at (Choosing K.First) code t x c is h = F.first code t h
  gathers_fit at (Choosing K.Last) code t x c is h = F.last code t h
  gathers_fit at (Choosing _) code t x c is h = absurd c
  gathers_fit at Counting code t x c is h = tt

  with_argument : (collecting : Collecting) → IsCollecting collecting → (e : Expr)
      → Gives OwnGathered (after (typing scope e None) (λ t. level_gathers e.at collecting t.code t.kind (out-SplType t.kind)))
  with_argument collecting c e =
      gives_then OwnGathered (typing scope e None) _ (λ t is.
      gathers_fit e.at collecting t.code t.kind (out-SplType t.kind) c refl (typed_fits laws scope fine e t is))

  called_fits : (at : ℕ) (collecting : Collecting) (es : List Expr) → IsCollecting collecting → Gives OwnGathered (called_typing scope at collecting es)
  called_fits at Counting [] c = F.count
  called_fits at Counting (e ∷ es) c = tt
  called_fits at Summing (e ∷ []) c = with_argument Summing c e
  called_fits at (Extreme collector) (e ∷ []) c = with_argument (Extreme collector) c e
  called_fits at (Choosing collector) (e ∷ []) c = with_argument (Choosing collector) c e
  called_fits at collecting _ c = tt

  by_fits : (at : ℕ) (es : List Expr) (o : Option Collecting) → MayCollect o → Gives OwnGathered (gathered_by scope at es o)
  by_fits at es None c = tt
  by_fits at es (Some collecting) c = called_fits at collecting es c

  gathered_fits : (at : ℕ) (x : ExprKind-F ExprKind) → Gives OwnGathered (level_gathered scope at x)
  gathered_fits at (X.Call name es) = by_fits at es (collecting_of name) (collects name)
  gathered_fits at _ = tt

  group_fits : (schema : Attributes) → AssignsFit GatheredFor schema (assigned_group scope)
  group_fits schema a e =
      gives_after OwnGathered (GatheredFor a) (level_gathered scope e.at (out-ExprKind e.what)) (of_wanted e.at (Some a.kind)) (gathered_fits e.at (out-ExprKind e.what)) (λ g h.
      gives_if (GatheredFor a) (same_types g.kind a.kind) (Ok g) (mismatch e.at) (λ same. subst (λ t. Gathered t g) (equal_from_same g.kind a.kind same) h) (λ other. tt))

  last_fits : (schema : Attributes) (at : ℕ) → FillsFit GatheredFor schema (last_of scope at)
  last_fits schema at a = gives_after (CodeFor a) (GatheredFor a) (taken_over scope at a) _ (taken_fits schema at a) (λ code h. F.last code a.kind h)

  abbrev CollectedFits : Attributes → CollectedAttribute → Type 0
  CollectedFits schema x = (a : Named SplType) × (slice_get schema x.attribute ≡ Some a) × CollectorFits scope x.collector x.argument a.kind

  collected_fit : (schema : Attributes) (all : Assigned CollectorCall) → AllByRecursion (ForAttribute GatheredFor schema) all → (k : ℕ) (x : CollectedAttribute)
      → slice_get (collected all) k ≡ Some x → CollectedFits schema x
  collected_fit schema [] h k x e = absurd (none_at k x e)
  collected_fit schema (y ∷ all) h zero x e =
      let same : record { attribute = y.0; collector = y.1.collector; argument = y.1.argument } ≡ x = cc in
      subst (CollectedFits schema) same h.0
  collected_fit schema (y ∷ all) h (suc k) x e = collected_fit schema all h.1 k x e

  abbrev how_often : ℕ → List CollectedAttribute → ℕ
  how_often i [] = 0
  how_often i (x ∷ xs) = cond (x.attribute == i) (1 + how_often i xs) (how_often i xs)

  as_often : (i : ℕ) (all : Assigned CollectorCall) → how_often i (collected all) ≡ times i all
  as_often i [] = refl
  as_often i (x ∷ all) = ap (λ n. cond (x.0 == i) (1 + n) n) (as_often i all)

  counts_collected : (i : ℕ) (all : Assigned CollectorCall) → count_by (λ (x : CollectedAttribute). x.attribute == i) (collected all) ≡ count_by (λ (x : ℕ × CollectorCall). x.0 == i) all
  counts_collected i all =
      sym (is_count_by (how_often i) (λ (x : CollectedAttribute). x.attribute == i) refl (λ x xs. refl) (collected all)) ∙ as_often i all ∙ counts_times i all

  pub groups_fit : (at : ℕ) (schema : Attributes) (output : List ℕ) (rows : List OutputAssignments) → Gives (GroupsFit scope schema) (groups_typing scope at schema output rows)
  groups_fit at schema output rows =
      subst (Gives (GroupsFit scope schema))
      (after_after (rows_typing (assigned_group scope) schema output [] rows) (with_others (last_of scope at) schema) (λ all. Ok (collected all)))
      (gives_after (EachOnce GatheredFor schema) (GroupsFit scope schema)
      (after (rows_typing (assigned_group scope) schema output [] rows) (with_others (last_of scope at) schema)) (λ all. Ok (collected all))
      (each_once GatheredFor schema (assigned_group scope) (group_fits schema) (last_of scope at) (last_fits schema at) output rows)
      (λ all each. record { fit = collected_fit schema all each.fit; once = λ i within. counts_collected i all ∙ each.once i within }))

-- ---- Union

-- an attribute of the input for one of the output
abbrev LikeAttribute : Attributes → Named SplType → ℕ → Type 0
LikeAttribute input a p = (b : Named SplType) × (slice_get input p ≡ Some b) × (b.name ≡ a.name) × (b.kind ≡ a.kind)

place_fits : (at : ℕ) (input : Attributes) (a : Named SplType) (o : Option (At (Named SplType))) → Bears (λ a. a.name) input a.name o
    → Gives (LikeAttribute input a) (place_in at a.kind o)
place_fits at input a None h = tt
place_fits at input a (Some b) h =
    gives_if (LikeAttribute input a) (same_types b.what.kind a.kind) (Ok b.place) (bad_output at)
    (λ same. (b.what, h.0, h.1, equal_from_same b.what.kind a.kind same)) (λ other. tt)

place_more : (input : Attributes) (a : Named SplType) (output : Attributes) (place : ℕ) (places : List ℕ) → LikeAttribute input a place → PlacesFit input output places
    → PlacesFit input (a ∷ output) (place ∷ places)
place_more input a output place places like rest = record { count = ap suc rest.count; same = same }
  where
    same : (i p : ℕ) (b : Named SplType) → slice_get (place ∷ places) i ≡ Some p → slice_get (a ∷ output) i ≡ Some b → LikeAttribute input b p
    same zero p b e f = let at : place ≡ p = cc in let is : a ≡ b = cc in subst (λ q. LikeAttribute input b q) at (subst (λ c. LikeAttribute input c place) is like)
    same (suc i) p b e f = rest.same i p b e f

pub places_fit : (at : ℕ) (input output : Attributes) → Gives (PlacesFit input output) (places_typing at input output)
places_fit at input [] = record { count = refl; same = λ i p a e f. absurd (none_at i p e) }
places_fit at input (a ∷ output) =
    gives_after (LikeAttribute input a) (PlacesFit input (a ∷ output)) (place_in at a.kind (attribute_of input a.name)) _
    (place_fits at input a (attribute_of input a.name) (attribute_there input a.name)) (λ place like.
    gives_after (PlacesFit input output) (PlacesFit input (a ∷ output)) (places_typing at input output) _ (places_fit at input output) (λ places rest.
    place_more input a output place places like rest))

-- those of each port
pub record InputsFit (schema : Attributes) (ports : List Port) (places : List (List ℕ)) : Type 0 where
  pub count : length places ≡ length ports
  pub fit : (k : ℕ) (input : Attributes) (ps : List ℕ) → slice_get (map (λ p. p.schema) ports) k ≡ Some input → slice_get places k ≡ Some ps → PlacesFit input schema ps

input_more : (schema : Attributes) (port : Port) (ports : List Port) (places : List ℕ) (others : List (List ℕ)) → PlacesFit port.schema schema places
    → InputsFit schema ports others → InputsFit schema (port ∷ ports) (places ∷ others)
input_more schema port ports places others here rest = record { count = ap suc rest.count; fit = fit }
  where
    fit : (k : ℕ) (input : Attributes) (ps : List ℕ) → slice_get (map (λ p. p.schema) (port ∷ ports)) k ≡ Some input → slice_get (places ∷ others) k ≡ Some ps
        → PlacesFit input schema ps
    fit zero input ps e f =
        let at : port.schema ≡ input = cc in
        let is : places ≡ ps = cc in
        subst (λ q. PlacesFit input schema q) is (subst (λ s. PlacesFit s schema places) at here)
    fit (suc k) input ps e f = rest.fit k input ps e f

pub inputs_fit : (at : ℕ) (schema : Attributes) (ports : List Port) → Gives (InputsFit schema ports) (inputs_typing at schema ports)
inputs_fit at schema [] = record { count = refl; fit = λ k input ps e f. absurd (none_at k ps f) }
inputs_fit at schema (port ∷ ports) =
    gives_after (PlacesFit port.schema schema) (InputsFit schema (port ∷ ports)) (places_typing at port.schema schema) _ (places_fit at port.schema schema) (λ places here.
    gives_after (InputsFit schema ports) (InputsFit schema (port ∷ ports)) (inputs_typing at schema ports) _ (inputs_fit at schema ports) (λ others rest.
    input_more schema port ports places others here rest))
