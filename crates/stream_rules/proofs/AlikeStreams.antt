-- The streams of a port, name by name.
use Rattle.std.specs.Prelude.{◌≡◌, ℕ, zero, suc, ◌+◌, ◌<◌, ◌≤◌, true, false, if◌then◌else◌, List, [], ◌∷◌, ◌++◌, flat_map, length, take, drop, Ok, Err, slice_get, Some}
use Rattle.std.proofs.Common.{refl, ap, sym, ◌∙◌, arith, get_or}
use Rattle.spl_tree.specs.declared.expression.Placed.{Placed}
use Rattle.spl_tree.specs.declared.graph.Graph.{Graph}
use Rattle.spl_tree.specs.declared.unit.Definition.{Definition}
use Rattle.spl_tree.specs.declared.unit.InputPort.{InputPort}
use Rattle.spl_value.specs.declared.types.SplType.TheVariants as S
use Rattle.language_model.specs.StreamTypes.{Attributes, Body, Passes, are_alike, each_name, input_heads, name_places, passed, port_attributes, same_attributes, stream_attributes}
use Rattle.language_model.proofs.parts.StreamTypes.{tail}
use Rattle.language_model.specs.parts.StreamTypes.{so_often}
use Rattle.language_model.specs.Typing.{Found, after, mismatch}
use Rattle.language_model.proofs.TypingLaws.{same_types_law}
use Rattle.language_model.specs.declared.answer.TypeAnswer.{TypeAnswer}
use Rattle.language_model.specs.Finds.{Finds}
use Rattle.language_model.proofs.FoundAnswers.{finds_by, stops}
use Rattle.spl_value.proofs.Lists.{drop_at as rest_at}

pub long_enough : {A : Type 0} (m : ℕ) (row : List A) → m ≤ length row → length (take m row) ≡ m
long_enough zero row h = refl
long_enough (suc m) [] h = absurd (omega (arith, h))
long_enough (suc m) (x ∷ row) h = ap suc (long_enough m row (omega (arith, h)))

module _ (unit : List Definition) (g : Graph) (schema : Attributes) where
  abbrev alike : List ℕ → List ℕ → Passes
  alike places row = are_alike unit g schema places row

  none_left : (places : List ℕ) → alike places [] ≡ passed
  none_left [] = refl
  none_left (p ∷ ps) = refl

  one_on : (own : Found Attributes) (at : ℕ) (p q r : Passes) (k : Unit {0} → Passes) → p ≡ after q k
      → after own (λ own. if same_attributes own schema then p else mismatch at) ≡ after (after own (λ own. if same_attributes own schema then q else mismatch at)) k
  one_on (Err e) at p q r k same = refl
  one_on (Ok own) at p q r k same =
      elim (same_attributes own schema) as (λ b. (if b then p else mismatch at) ≡ after (if b then q else mismatch at) k) [
        | true ↦ same
        | false ↦ refl
      ]

  -- those of one name, and then the others
  pub alike_split : (m k at : ℕ) (more row : List ℕ) → m ≤ k → m ≤ length row → (m < k → m ≡ length row)
      → alike (so_often k at ++ more) row ≡ after (alike (so_often m at) (take m row)) (λ u. alike more (drop m row))
  alike_split zero zero at more row le within all = refl
  alike_split zero (suc k) at more [] le within all = sym (none_left more)
  alike_split zero (suc k) at more (s ∷ row) le within all = absurd (let h = all (omega arith) in omega (arith, h))
  alike_split (suc m) zero at more row le within all = absurd (omega (arith, le))
  alike_split (suc m) (suc k) at more [] le within all = absurd (omega (arith, within))
  alike_split (suc m) (suc k) at more (s ∷ row) le within all =
      one_on (stream_attributes unit g s) at (alike (so_often k at ++ more) row) (alike (so_often m at) (take m row)) passed (λ u. alike more (drop m row))
      (alike_split m k at more row (omega (arith, le)) (omega (arith, within)) (λ h. let q = all (omega (arith, h)) in omega (arith, q)))

  module _ (f : Placed (List ℕ) → List ℕ) (names : List (Placed (List ℕ))) (i : ℕ) (n : Placed (List ℕ)) (within : i < length names) (here : n ≡ get_or names i n)
      (m k : ℕ) (is : f n ≡ so_often k n.at) (row chunk : List ℕ) (chunk_is : chunk ≡ take m row) (long : length chunk ≡ m)
      (le : m ≤ k) (short : m ≤ length row) (all : m < k → m ≡ length row) where
    names_on : alike (flat_map f (drop i names)) row ≡ after (alike (so_often (length chunk) n.at) chunk) (λ u. alike (flat_map f (drop (i + 1) names)) (drop m row))
    names_on =
        ap (λ ns. alike (flat_map f ns) row) (rest_at names i n within here)
        ∙ ap (λ ps. alike (ps ++ flat_map f (drop (i + 1) names)) row) is
        ∙ alike_split m k n.at (flat_map f (drop (i + 1) names)) row le short all
        ∙ (λ j. after (alike (so_often (sym long j) n.at) (sym chunk_is j)) (λ u. alike (flat_map f (drop (i + 1) names)) (drop m row)))

    pub name_stops : (e : TypeAnswer) → Finds (alike (so_often (length chunk) n.at) chunk) (Err e) → Finds (alike (flat_map f (drop i names)) row) (Err e)
    name_stops e h = finds_by _ _ (Err e) names_on (stops (alike (so_often (length chunk) n.at) chunk) (λ u. alike (flat_map f (drop (i + 1) names)) (drop m row)) e h)

    pub name_on : (rest : List ℕ) → rest ≡ drop m row → alike (so_often (length chunk) n.at) chunk ≡ Ok tt
        → alike (flat_map f (drop i names)) row ≡ alike (flat_map f (drop (i + 1) names)) rest
    name_on rest rest_is h =
        names_on ∙ ap (λ p. after p (λ u. alike (flat_map f (drop (i + 1) names)) (drop m row))) h ∙ ap (alike (flat_map f (drop (i + 1) names))) (sym rest_is)

  -- the first stream is like itself
  first_alike : (s : ℕ) (places row : List ℕ) → stream_attributes unit g s ≡ Ok schema → alike places (s ∷ row) ≡ alike (tail places) row
  first_alike s [] row e = sym (empty row)
    where
      empty : (row : List ℕ) → alike [] row ≡ passed
      empty [] = refl
      empty (x ∷ xs) = refl
  first_alike s (at ∷ places) row e =
      ap (λ own. after own (λ own. if same_attributes own schema then alike places row else mismatch at)) e
      ∙ ap (λ b. if b then alike places row else mismatch at) ((same_types_law (S.Tuple schema) (S.Tuple schema)).1 refl)

  begins : (row : List ℕ) (s : ℕ) → slice_get row 0 ≡ Some s → row ≡ s ∷ tail row
  begins [] s e = absurd cc
  begins (x ∷ row) s e = let same : x ≡ s = cc in ap (λ y. y ∷ row) same

  module _ (b : Body) (q : InputPort) (row : List ℕ) (s : ℕ) (there : slice_get row 0 ≡ Some s) (own : stream_attributes unit g s ≡ Ok schema) where
    pub port_is : port_attributes unit g b q row
        ≡ after (alike (name_places b q) row) (λ u. after (each_name (input_heads (length g.expansions) unit g schema b) q.streams) (λ v. Ok schema))
    port_is =
        ap (port_attributes unit g b q) (begins row s there)
        ∙ ap (λ found. after found (λ schema. after (are_alike unit g schema (tail (name_places b q)) (tail row)) (λ u.
        after (each_name (input_heads (length g.expansions) unit g schema b) q.streams) (λ v. Ok schema)))) own
        ∙ ap (λ p. after p (λ u. after (each_name (input_heads (length g.expansions) unit g schema b) q.streams) (λ v. Ok schema)))
        (sym (ap (alike (name_places b q)) (begins row s there) ∙ first_alike s (name_places b q) (tail row) own))
