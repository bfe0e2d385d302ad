-- Induction over written types, and that what its own names mean determines a type's meaning.
use Rattle.std.specs.Prelude.{◌≡◌, ℕ, List, [], ◌∷◌, Ok, map, flat_map}
use Rattle.std.specs.List.{AllByRecursion}
use Rattle.std.proofs.Common.{refl, ap, sym, subst, ◌∙◌}
use Rattle.spl_value.specs.declared.types.IntKind.{IntKind}
use Rattle.spl_value.specs.declared.types.SplType.TheVariants as S
use Rattle.spl_tree.specs.declared.expression.Placed.{Placed}
use Rattle.spl_tree.specs.declared.keyword.LeftOut.{LeftOut}
use Rattle.spl_tree.specs.declared.shape.Attribute.{Attribute}
use Rattle.spl_tree.specs.declared.shape.ShapeKind.{ShapeKind}
use Rattle.spl_tree.specs.declared.shape.ShapeKind.TheVariants as H
use Rattle.spl_tree.specs.declared.shape.TypeKind.{TypeKind}
use Rattle.spl_tree.specs.declared.shape.TypeKind.TheVariants as V
use Rattle.spl_tree.specs.declared.shape.TypeKind.TheOpen as Y
use Rattle.spl_tree.specs.declared.shape.TypeKind.TheOpen.{TypeKind-F}
use Rattle.spl_tree.specs.declared.shape.TypeKind.TheViews.{roll-TypeKind}
use Rattle.spl_tree.specs.declared.shape.TypeKind.TheFolds.{map-TypeKind, ind-TypeKind}
use Rattle.spl_tree.specs.Trees.{TypeExpr, Shape}
use Rattle.language_model.specs.TypeNames.{Types, attributes_type, written_attributes, tuple_type, shape_meant, type_names}
use Rattle.language_model.specs.parts.TypeNames.{Names, shape_names}
use Rattle.language_model.proofs.TypeNameLaws.{kind_written, kind_names_in, boolean_written, rstring_written, int_written, left_out_written, name_written, list_written, map_written, tuple_written, name_names, list_names, map_names, tuple_names}
use Rattle.language_model.specs.Typing.{after}
use Rattle.spl_value.proofs.Lists.{all_left as all_front, all_right as all_back}

-- ---- induction

-- P holds of a type where it holds of each of its parts
pub record TypeKindSteps (P : TypeKind → Type 0) : Type 0 where
  pub boolean : P V.Boolean
  pub rstring : P V.Rstring
  pub int : (kind : IntKind) → P (V.Int kind)
  pub left_out : (word : LeftOut) → P (V.LeftOut word)
  pub name : (name : List ℕ) → P (V.Name name)
  pub list : (t : TypeExpr) → P t.what → P (V.List t)
  pub map_of : (k t : TypeExpr) → P k.what → P t.what → P (V.Map k t)
  pub tuple : (attributes : List (Attribute TypeExpr)) → AllByRecursion (λ a. P a.kind.what) attributes → P (V.Tuple attributes)

module _ (P : TypeKind → Type 0) where
  abbrev Known : Type 0
  Known = (k : TypeKind) × P k

  abbrev type_of : Placed Known → TypeExpr
  type_of e = record { at = e.at; what = e.what.0 }

  abbrev attribute_of : Attribute (Placed Known) → Attribute TypeExpr
  attribute_of a = record { kind = type_of a.kind; name = a.name }

  all_kinds : (es : List (Attribute (Placed Known))) → AllByRecursion (λ a. P a.kind.what) (map attribute_of es)
  all_kinds [] = tt
  all_kinds (e ∷ es) = (e.kind.what.1, all_kinds es)

module _ (P : TypeKind → Type 0) (s : TypeKindSteps P) where
  kind_step : (y : TypeKind-F (Known P)) → P (roll-TypeKind (map-TypeKind (Known P) TypeKind (λ e. e.0) y))
  kind_step Y.Boolean = subst P (sym V.rolls-Boolean) s.boolean
  kind_step Y.Rstring = subst P (sym V.rolls-Rstring) s.rstring
  kind_step (Y.Int kind) = subst P (sym (V.rolls-Int kind)) (s.int kind)
  kind_step (Y.LeftOut word) = subst P (sym (V.rolls-LeftOut word)) (s.left_out word)
  kind_step (Y.Name name) = subst P (sym (V.rolls-Name name)) (s.name name)
  kind_step (Y.List e) = subst P (sym (V.rolls-List (type_of P e))) (s.list (type_of P e) e.what.1)
  kind_step (Y.Map d e) = subst P (sym (V.rolls-Map (type_of P d) (type_of P e))) (s.map_of (type_of P d) (type_of P e) d.what.1 e.what.1)
  kind_step (Y.Tuple es) = subst P (sym (V.rolls-Tuple (map (attribute_of P) es))) (s.tuple (map (attribute_of P) es) (all_kinds P es))

  pub type_kind_ind : (k : TypeKind) → P k
  type_kind_ind = ind-TypeKind P (λ x y is. subst (λ z. P (roll-TypeKind z)) is (kind_step y))

-- ---- what names mean

-- names mean the same
abbrev pub Agree : Types → Types → Names → Type 0
Agree f g names = AllByRecursion (λ name. (at : ℕ) → f at name ≡ g at name) names

module _ (f g : Types) where
  abbrev Same : TypeKind → Type 0
  Same k = (at : ℕ) → Agree f g (kind_names_in k) → kind_written k at f ≡ kind_written k at g

  abbrev Here : List ℕ → Type 0
  Here name = (at : ℕ) → f at name ≡ g at name

  same_attributes : (attributes : List (Attribute TypeExpr)) → AllByRecursion (λ a. Same a.kind.what) attributes → Agree f g (flat_map (λ a. type_names a.kind) attributes)
      → attributes_type f (written_attributes attributes) ≡ attributes_type g (written_attributes attributes)
  same_attributes [] h agree = refl
  same_attributes (a ∷ rest) h agree =
      let rest_names : Names = flat_map (λ a. type_names a.kind) rest in
      let first = h.0 a.kind.at (all_front Here (type_names a.kind) rest_names agree) in
      let others = same_attributes rest h.1 (all_back Here (type_names a.kind) rest_names agree) in
      (λ i. after (first i) (λ t. after (others i) (λ schema. Ok (record { name = a.name.what; kind = t } ∷ schema))))

  same_steps : TypeKindSteps Same
  same_steps = record {
    boolean = λ at agree. boolean_written at f ∙ sym (boolean_written at g);
    rstring = λ at agree. rstring_written at f ∙ sym (rstring_written at g);
    int = λ kind at agree. int_written kind at f ∙ sym (int_written kind at g);
    left_out = λ word at agree. left_out_written word at f ∙ sym (left_out_written word at g);
    name = λ name at agree. name_written name at f ∙ (subst (AllByRecursion Here) (name_names name) agree).0 at ∙ sym (name_written name at g);
    list = λ t h at agree.
        list_written t at f
        ∙ ap (λ found. after found (λ element. Ok (S.List element))) (h t.at (subst (AllByRecursion Here) (list_names t) agree))
        ∙ sym (list_written t at g);
    map_of = λ k t h j at agree.
        let both = subst (AllByRecursion Here) (map_names k t) agree in
        let keys = h k.at (all_front Here (type_names k) (type_names t) both) in
        let values = j t.at (all_back Here (type_names k) (type_names t) both) in
        map_written k t at f
        ∙ (λ i. after (keys i) (λ key. after (values i) (λ value. Ok (S.Map key value))))
        ∙ sym (map_written k t at g);
    tuple = λ attributes h at agree.
        tuple_written attributes at f
        ∙ ap tuple_type (same_attributes attributes h (subst (AllByRecursion Here) (tuple_names attributes) agree))
        ∙ sym (tuple_written attributes at g);
  }

  same_type : (k : TypeKind) → Same k
  same_type = type_kind_ind Same same_steps

  all_same : (attributes : List (Attribute TypeExpr)) → AllByRecursion (λ a. Same a.kind.what) attributes
  all_same [] = tt
  all_same (a ∷ rest) = (same_type a.kind.what, all_same rest)

  same_kind : (k : ShapeKind) (at : ℕ) → Agree f g (shape_names (record { at = at; what = k })) → shape_meant f (record { at = at; what = k }) ≡ shape_meant g (record { at = at; what = k })
  same_kind (H.Type t) at agree = same_type t.what t.at agree
  same_kind (H.Attributes attributes) at agree = ap tuple_type (same_attributes attributes (all_same attributes) agree)

  -- where the names of a shape mean the same, the shape does
  pub same_shape : (shape : Shape) → Agree f g (shape_names shape) → shape_meant f shape ≡ shape_meant g shape
  same_shape shape agree = same_kind shape.what shape.at agree
