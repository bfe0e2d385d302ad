-- Which of the definitions of types lead back to themselves, by the definitions that each leads to.
use Rattle.std.specs.Prelude.{◌≡◌, ◌∷◌, [], ℕ, zero, suc, Some, Bool, true, false, ◌||◌, ◌==◌, List, codes, if◌then◌else◌, Ok}
use Rattle.std.specs.List.{list_any}
use Rattle.std.proofs.Common.{refl, ap, ◌∙◌}
use Rattle.spl_value.specs.declared.types.IntKind.TheVariants as N
use Rattle.spl_value.specs.declared.types.SplType.{SplType}
use Rattle.spl_value.specs.declared.types.SplType.TheVariants as T
use Rattle.spl_tree.specs.declared.shape.Attribute.{Attribute}
use Rattle.spl_tree.specs.declared.shape.ShapeKind.TheVariants as H
use Rattle.spl_tree.specs.declared.shape.TypeKind.TheVariants as Y
use Rattle.spl_tree.specs.declared.unit.TypeDefinition.{TypeDefinition}
use Rattle.spl_tree.specs.Trees.{placed, TypeExpr}
use Rattle.language_model.specs.Leading.{leads}
use Rattle.language_model.specs.Scopes.{At, at_place}
use Rattle.language_laws.specs.examples.TypeNames.{seven_types, name_type, as_shape}
use Rattle.language_model.specs.TypeNames.{Types, leads_to, shape_meant, type_meant, tuple_type, types_within}
use Rattle.language_model.specs.parts.TypeNames.{is_circular, defined_type}
use Rattle.language_model.proofs.TypeNameLaws.{name_laws, int_written, rstring_written, list_written, name_written}
use Rattle.language_model.specs.Typing.{Found, unknown, after}
use Rattle.language_laws.proofs.examples.types_on_literals.Goals as goal

abbrev next : ℕ → List ℕ
next = leads_to seven_types

from_id : next 0 ≡ []
from_id = simp name_laws

from_row : next 1 ≡ 0 ∷ 2 ∷ []
from_row = simp name_laws

from_text : next 2 ≡ []
from_text = simp name_laws

from_a : next 4 ≡ 5 ∷ []
from_a = simp name_laws

from_b : next 5 ≡ 0 ∷ 4 ∷ []
from_b = simp name_laws

from_c : next 6 ≡ 5 ∷ []
from_c = simp name_laws

steps : (count from to : ℕ) (row : List ℕ) → next from ≡ row → leads (suc count) next from to ≡ list_any (λ n. (n == to) || leads count next n to) row
steps count from to row is = ap (list_any (λ n. (n == to) || leads count next n to)) is

id_leads_nowhere : (count to : ℕ) → leads count next 0 to ≡ false
id_leads_nowhere zero to = refl
id_leads_nowhere (suc count) to = steps count 0 to [] from_id

text_leads_nowhere : (count to : ℕ) → leads count next 2 to ≡ false
text_leads_nowhere zero to = refl
text_leads_nowhere (suc count) to = steps count 2 to [] from_text

row_is_not : is_circular seven_types 1 ≡ false
row_is_not =
    steps 6 1 1 (0 ∷ 2 ∷ []) from_row
    ∙ ap (λ b. b || (leads 6 next 2 1 || false)) (id_leads_nowhere 6 1)
    ∙ ap (λ b. b || false) (text_leads_nowhere 6 1)

a_is_circular : is_circular seven_types 4 ≡ true
a_is_circular =
    steps 6 4 4 (5 ∷ []) from_a
    ∙ ap (λ b. b || false) (steps 5 5 4 (0 ∷ 4 ∷ []) from_b ∙ ap (λ b. b || true) (id_leads_nowhere 5 4))

b_is_circular : is_circular seven_types 5 ≡ true
b_is_circular =
    steps 6 5 5 (0 ∷ 4 ∷ []) from_b
    ∙ ap (λ b. b || (leads 6 next 4 5 || false)) (id_leads_nowhere 6 5)
    ∙ ap (λ b. b || false) (steps 5 4 5 (5 ∷ []) from_a)

neither_to_c : (count : ℕ) → (leads count next 4 6 ≡ false) × (leads count next 5 6 ≡ false)
neither_to_c zero = (refl, refl)
neither_to_c (suc count) = (
  steps count 4 6 (5 ∷ []) from_a ∙ ap (λ b. b || false) (neither_to_c count).1,
  steps count 5 6 (0 ∷ 4 ∷ []) from_b
      ∙ ap (λ b. b || (leads count next 4 6 || false)) (id_leads_nowhere count 6)
      ∙ ap (λ b. b || false) (neither_to_c count).0,
)

c_is_not : is_circular seven_types 6 ≡ false
c_is_not = steps 6 6 6 (5 ∷ []) from_c ∙ ap (λ b. b || false) (neither_to_c 6).1

-- a list of what B means, as A and C are
abbrev list_of_b : ℕ → ℕ → TypeExpr
list_of_b at name_at = placed at (Y.List (name_type name_at (codes "B")))

if_circular : (inside : Types) (at : ℕ) (name : List ℕ) (d : At TypeDefinition) (b : Bool) → is_circular seven_types d.place ≡ b
    → defined_type seven_types unknown inside at name (Some d) ≡ (if b then unknown at name else shape_meant inside d.what.shape)
if_circular inside at name d b is = ap (λ c. if c then unknown at name else shape_meant inside d.what.shape) is

pub returns-clause-circular : goal.returns-clause-circular
returns-clause-circular c = if_circular (types_within 7 seven_types unknown) 100 (codes "A") (at_place 4 (as_shape (list_of_b 70 75) (codes "A"))) true a_is_circular

b_is_unknown : types_within 7 seven_types unknown 95 (codes "B") ≡ unknown 95 (codes "B")
b_is_unknown =
    if_circular (types_within 6 seven_types unknown) 95 (codes "B")
    (at_place 5 (as_shape (placed 80 (Y.Map (name_type 84 (codes "Id")) (name_type 88 (codes "A")))) (codes "B"))) true b_is_circular

pub returns-clause-behind : goal.returns-clause-behind
returns-clause-behind c =
    let inside : Types = types_within 7 seven_types unknown in
    if_circular inside 100 (codes "C") (at_place 6 (as_shape (list_of_b 90 95) (codes "C"))) false c_is_not
    ∙ list_written (name_type 95 (codes "B")) 90 inside
    ∙ ap (λ found. after found (λ t. Ok (T.List t))) (name_written (codes "B") 95 inside ∙ b_is_unknown)

-- what the names of two attributes mean, as those of a row
abbrev row_of : Found SplType → Found SplType → Found SplType
row_of id texts =
    tuple_type (after id (λ t. after (after texts (λ u. Ok (record { name = codes "texts"; kind = u } ∷ []))) (λ schema. Ok (record { name = codes "id"; kind = t } ∷ schema))))

id_is : types_within 7 seven_types unknown 20 (codes "Id") ≡ Ok (T.Int N.I32)
id_is =
    let inside : Types = types_within 6 seven_types unknown in
    if_circular inside 20 (codes "Id") (at_place 0 (as_shape (placed 10 (Y.Int N.I32)) (codes "Id"))) false (id_leads_nowhere 7 0) ∙ int_written N.I32 10 inside

text_is : types_within 7 seven_types unknown 32 (codes "Text") ≡ Ok T.Text
text_is =
    let inside : Types = types_within 6 seven_types unknown in
    if_circular inside 32 (codes "Text") (at_place 2 (as_shape (placed 50 Y.Rstring) (codes "Text"))) false (text_leads_nowhere 7 2) ∙ rstring_written 50 inside

abbrev row_attributes : List (Attribute TypeExpr)
row_attributes =
    record { kind = name_type 20 (codes "Id"); name = placed 23 (codes "id") }
    ∷ record { kind = placed 27 (Y.List (name_type 32 (codes "Text"))); name = placed 38 (codes "texts") } ∷ []

pub returns-clause-row : goal.returns-clause-row
returns-clause-row c =
    let inside : Types = types_within 7 seven_types unknown in
    let texts : Found SplType = type_meant inside (placed 27 (Y.List (name_type 32 (codes "Text")))) in
    if_circular inside 100 (codes "Row") (at_place 1 (record { name = placed 0 (codes "Row"); shape = placed 20 (H.Attributes row_attributes) })) false row_is_not
    ∙ ap (λ id. row_of id texts) (name_written (codes "Id") 20 inside ∙ id_is)
    ∙ ap (row_of (Ok (T.Int N.I32)))
    (list_written (name_type 32 (codes "Text")) 27 inside ∙ ap (λ found. after found (λ t. Ok (T.List t))) (name_written (codes "Text") 32 inside ∙ text_is))
