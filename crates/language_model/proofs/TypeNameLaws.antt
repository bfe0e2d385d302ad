-- What a written type means and the names that stand in it, by those of its parts: an equation for each form of type.
use Rattle.std.specs.Prelude.{◌≡◌, ℕ, List, [], ◌∷◌, ◌++◌, flat_map}
use Rattle.std.proofs.Common.{refl, ap, ◌∙◌}
use Rattle.spl_value.specs.declared.types.IntKind.{IntKind}
use Rattle.spl_tree.specs.declared.keyword.LeftOut.{LeftOut}
use Rattle.spl_tree.specs.declared.shape.Attribute.{Attribute}
use Rattle.spl_tree.specs.declared.shape.TypeKind.{TypeKind}
use Rattle.spl_tree.specs.declared.shape.TypeKind.TheVariants as V
use Rattle.spl_tree.specs.declared.shape.TypeKind.TheOpen as Y
use Rattle.spl_tree.specs.declared.shape.TypeKind.TheOpen.{TypeKind-F}
use Rattle.spl_tree.specs.declared.shape.TypeKind.TheViews.{out-TypeKind}
use Rattle.spl_tree.specs.declared.shape.TypeKind.TheFolds.{fold-TypeKind, fold_out-TypeKind, map-TypeKind}
use Rattle.spl_tree.specs.Trees.{TypeExpr}
use Rattle.language_model.specs.TypeNames.{Types, Written, level_type, written, written_attributes, level_names, type_names}
use Rattle.language_model.specs.parts.TypeNames.{Names}

-- ---- what types mean

abbrev pub kind_written : TypeKind → Written
kind_written k = fold-TypeKind Written level_type k

written_at_level : (k : TypeKind) (x : TypeKind-F TypeKind) → out-TypeKind k ≡ x → kind_written k ≡ level_type (map-TypeKind TypeKind Written kind_written x)
written_at_level k x e = fold_out-TypeKind Written level_type k ∙ ap (λ y. level_type (map-TypeKind TypeKind Written kind_written y)) e

pub boolean_written : (at : ℕ) (types : Types) → kind_written V.Boolean at types ≡ level_type Y.Boolean at types
boolean_written at types = ap (λ w. w at types) (written_at_level V.Boolean Y.Boolean V.outs-Boolean)

pub rstring_written : (at : ℕ) (types : Types) → kind_written V.Rstring at types ≡ level_type Y.Rstring at types
rstring_written at types = ap (λ w. w at types) (written_at_level V.Rstring Y.Rstring V.outs-Rstring)

pub int_written : (kind : IntKind) (at : ℕ) (types : Types) → kind_written (V.Int kind) at types ≡ level_type (Y.Int kind) at types
int_written kind at types = ap (λ w. w at types) (written_at_level (V.Int kind) (Y.Int kind) (V.outs-Int kind))

pub left_out_written : (word : LeftOut) (at : ℕ) (types : Types) → kind_written (V.LeftOut word) at types ≡ level_type (Y.LeftOut word) at types
left_out_written word at types = ap (λ w. w at types) (written_at_level (V.LeftOut word) (Y.LeftOut word) (V.outs-LeftOut word))

pub name_written : (name : List ℕ) (at : ℕ) (types : Types) → kind_written (V.Name name) at types ≡ level_type (Y.Name name) at types
name_written name at types = ap (λ w. w at types) (written_at_level (V.Name name) (Y.Name name) (V.outs-Name name))

pub list_written : (t : TypeExpr) (at : ℕ) (types : Types) → kind_written (V.List t) at types ≡ level_type (Y.List (written t)) at types
list_written t at types = ap (λ w. w at types) (written_at_level (V.List t) (Y.List t) (V.outs-List t))

pub map_written : (k t : TypeExpr) (at : ℕ) (types : Types) → kind_written (V.Map k t) at types ≡ level_type (Y.Map (written k) (written t)) at types
map_written k t at types = ap (λ w. w at types) (written_at_level (V.Map k t) (Y.Map k t) (V.outs-Map k t))

pub tuple_written : (attributes : List (Attribute TypeExpr)) (at : ℕ) (types : Types)
    → kind_written (V.Tuple attributes) at types ≡ level_type (Y.Tuple (written_attributes attributes)) at types
tuple_written attributes at types = ap (λ w. w at types) (written_at_level (V.Tuple attributes) (Y.Tuple attributes) (V.outs-Tuple attributes))

pub ruleset type_laws = (boolean_written, rstring_written, int_written, left_out_written, name_written, list_written, map_written, tuple_written)

-- ---- names in types

abbrev pub kind_names_in : TypeKind → Names
kind_names_in k = fold-TypeKind Names level_names k

names_at_level : (k : TypeKind) (x : TypeKind-F TypeKind) → out-TypeKind k ≡ x → kind_names_in k ≡ level_names (map-TypeKind TypeKind Names kind_names_in x)
names_at_level k x e = fold_out-TypeKind Names level_names k ∙ ap (λ y. level_names (map-TypeKind TypeKind Names kind_names_in y)) e

pub boolean_names : kind_names_in V.Boolean ≡ []
boolean_names = names_at_level V.Boolean Y.Boolean V.outs-Boolean

pub rstring_names : kind_names_in V.Rstring ≡ []
rstring_names = names_at_level V.Rstring Y.Rstring V.outs-Rstring

pub int_names : (kind : IntKind) → kind_names_in (V.Int kind) ≡ []
int_names kind = names_at_level (V.Int kind) (Y.Int kind) (V.outs-Int kind)

pub left_out_names : (word : LeftOut) → kind_names_in (V.LeftOut word) ≡ []
left_out_names word = names_at_level (V.LeftOut word) (Y.LeftOut word) (V.outs-LeftOut word)

pub name_names : (name : List ℕ) → kind_names_in (V.Name name) ≡ name ∷ []
name_names name = names_at_level (V.Name name) (Y.Name name) (V.outs-Name name)

pub list_names : (t : TypeExpr) → kind_names_in (V.List t) ≡ type_names t
list_names t = names_at_level (V.List t) (Y.List t) (V.outs-List t)

pub map_names : (k t : TypeExpr) → kind_names_in (V.Map k t) ≡ type_names k ++ type_names t
map_names k t = names_at_level (V.Map k t) (Y.Map k t) (V.outs-Map k t)

tuple_level : (attributes : List (Attribute TypeExpr))
    → level_names (map-TypeKind TypeKind Names kind_names_in (Y.Tuple attributes)) ≡ flat_map (λ a. type_names a.kind) attributes
tuple_level [] = refl
tuple_level (a ∷ rest) = ap (λ ns. type_names a.kind ++ ns) (tuple_level rest)

pub tuple_names : (attributes : List (Attribute TypeExpr)) → kind_names_in (V.Tuple attributes) ≡ flat_map (λ a. type_names a.kind) attributes
tuple_names attributes = names_at_level (V.Tuple attributes) (Y.Tuple attributes) (V.outs-Tuple attributes) ∙ tuple_level attributes

pub ruleset name_laws = (boolean_names, rstring_names, int_names, left_out_names, name_names, list_names, map_names, tuple_names)
