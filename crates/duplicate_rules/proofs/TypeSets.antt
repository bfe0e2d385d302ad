-- The sets of names within a type by those of its parts, an equation for each form of type.
use Rattle.std.specs.Prelude.{◌≡◌, ℕ, List, [], ◌∷◌, ◌++◌, map, flat_map}
use Rattle.std.proofs.Common.{refl, ap, ◌∙◌}
use Rattle.spl_value.specs.declared.types.IntKind.{IntKind}
use Rattle.spl_tree.specs.declared.keyword.LeftOut.{LeftOut}
use Rattle.spl_tree.specs.declared.expression.Placed.{Placed}
use Rattle.spl_tree.specs.declared.shape.Attribute.{Attribute}
use Rattle.spl_tree.specs.declared.shape.TypeKind.{TypeKind}
use Rattle.spl_tree.specs.declared.shape.TypeKind.TheVariants as V
use Rattle.spl_tree.specs.declared.shape.TypeKind.TheOpen as Y
use Rattle.spl_tree.specs.declared.shape.TypeKind.TheOpen.{TypeKind-F}
use Rattle.spl_tree.specs.declared.shape.TypeKind.TheViews.{out-TypeKind}
use Rattle.spl_tree.specs.declared.shape.TypeKind.TheFolds.{fold-TypeKind, fold_out-TypeKind, map-TypeKind}
use Rattle.spl_tree.specs.Trees.{TypeExpr}
use Rattle.language_model.specs.Declarations.{Sets, level_type, type_sets, attribute_sets}

abbrev sets : TypeKind → Sets
sets = fold-TypeKind Sets level_type

at_level : (k : TypeKind) (x : TypeKind-F TypeKind) → out-TypeKind k ≡ x → sets k ≡ level_type (map-TypeKind TypeKind Sets sets x)
at_level k x e = fold_out-TypeKind Sets level_type k ∙ ap (λ y. level_type (map-TypeKind TypeKind Sets sets y)) e

abbrev attributes_of : {A : Type 0} → TypeKind-F A → List (Attribute (Placed A))
attributes_of (Y.Tuple attributes) = attributes
attributes_of _ = []

abbrev mapped : List (Attribute TypeExpr) → List (Attribute (Placed Sets))
mapped attributes = attributes_of (map-TypeKind TypeKind Sets sets (Y.Tuple attributes))

names_mapped : (attributes : List (Attribute TypeExpr)) → map (λ a. a.name) (mapped attributes) ≡ map (λ a. a.name) attributes
names_mapped [] = refl
names_mapped (a ∷ attributes) = ap (λ ns. a.name ∷ ns) (names_mapped attributes)

sets_mapped : (attributes : List (Attribute TypeExpr)) → flat_map (λ a. a.kind.what) (mapped attributes) ≡ flat_map (λ a. type_sets a.kind) attributes
sets_mapped [] = refl
sets_mapped (a ∷ attributes) = ap (λ ss. type_sets a.kind ++ ss) (sets_mapped attributes)

pub boolean_sets : sets V.Boolean ≡ []
boolean_sets = at_level V.Boolean Y.Boolean V.outs-Boolean

pub rstring_sets : sets V.Rstring ≡ []
rstring_sets = at_level V.Rstring Y.Rstring V.outs-Rstring

pub int_sets : (k : IntKind) → sets (V.Int k) ≡ []
int_sets k = at_level (V.Int k) (Y.Int k) (V.outs-Int k)

pub left_out_sets : (word : LeftOut) → sets (V.LeftOut word) ≡ []
left_out_sets word = at_level (V.LeftOut word) (Y.LeftOut word) (V.outs-LeftOut word)

pub name_sets : (name : List ℕ) → sets (V.Name name) ≡ []
name_sets name = at_level (V.Name name) (Y.Name name) (V.outs-Name name)

pub list_sets : (t : TypeExpr) → sets (V.List t) ≡ type_sets t
list_sets t = at_level (V.List t) (Y.List t) (V.outs-List t)

pub map_sets : (k v : TypeExpr) → sets (V.Map k v) ≡ type_sets k ++ type_sets v
map_sets k v = at_level (V.Map k v) (Y.Map k v) (V.outs-Map k v)

pub tuple_sets : (attributes : List (Attribute TypeExpr)) → sets (V.Tuple attributes) ≡ attribute_sets attributes
tuple_sets attributes =
    at_level (V.Tuple attributes) (Y.Tuple attributes) (V.outs-Tuple attributes) ∙ (λ i. names_mapped attributes i ∷ sets_mapped attributes i)

pub ruleset type_laws = (boolean_sets, rstring_sets, int_sets, left_out_sets, name_sets, list_sets, map_sets, tuple_sets)
