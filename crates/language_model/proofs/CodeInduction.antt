-- Induction over codes, as over plain data.
use Rattle.std.specs.Prelude.{ℕ, List, [], ◌∷◌, map}
use Rattle.std.specs.List.{AllByRecursion}
use Rattle.std.proofs.Common.{subst, sym}
use Rattle.spl_value.specs.declared.value.Value.{Value}
use Rattle.spl_tree.specs.declared.code.BinaryCode.{BinaryCode}
use Rattle.spl_tree.specs.declared.code.BuiltIn.{BuiltIn}
use Rattle.spl_tree.specs.declared.code.Code.{Code}
use Rattle.spl_tree.specs.declared.code.Code.TheVariants as S
use Rattle.spl_tree.specs.declared.code.Code.TheOpen as C
use Rattle.spl_tree.specs.declared.code.Code.TheOpen.{Code-F}
use Rattle.spl_tree.specs.declared.code.Code.TheViews.{roll-Code}
use Rattle.spl_tree.specs.declared.code.Code.TheFolds.{map-Code, ind-Code}
use Rattle.spl_tree.specs.declared.code.Marker.{Marker}
use Rattle.spl_tree.specs.declared.code.Selector.{Selector}
use Rattle.spl_tree.specs.declared.code.Selector.TheVariants as K
use Rattle.spl_tree.specs.declared.code.UnaryCode.{UnaryCode}

module _ {N : Type 0} where
  -- P holds of the key and the value
  abbrev pub OfPair : (Code N → Type 0) → Code N × Code N → Type 0
  OfPair P p = P p.0 × P p.1

  abbrev pub OfField : (Code N → Type 0) → ℕ × Code N → Type 0
  OfField P f = P f.1

  -- of the index or the key, where the step has one
  abbrev pub OfTaking : (Code N → Type 0) → Selector (Code N) → Type 0
  OfTaking P (K.Member i) = Unit {0}
  OfTaking P (K.Element x) = P x
  OfTaking P (K.AtKey x) = P x

-- P holds of a code where it holds of each of its parts
pub record CodeSteps {N : Type 0} (P : Code N → Type 0) : Type 0 where
  pub literal : (v : Value) → P (S.Literal v)
  pub name : (n : N) → P (S.Name n)
  pub list : (xs : List (Code N)) → AllByRecursion P xs → P (S.List xs)
  pub map_of : (ps : List (Code N × Code N)) → AllByRecursion (OfPair P) ps → P (S.Map ps)
  pub tuple : (fs : List (ℕ × Code N)) → AllByRecursion (OfField P) fs → P (S.Tuple fs)
  pub select : (x : Code N) (ts : List (Selector (Code N))) → P x → AllByRecursion (OfTaking P) ts → P (S.Select x ts)
  pub unary : (ops : List UnaryCode) (x : Code N) → P x → P (S.Unary ops x)
  pub binary : (op : BinaryCode) (x y : Code N) → P x → P y → P (S.Binary op x y)
  pub conditional : (c x y : Code N) → P c → P x → P y → P (S.Conditional c x y)
  pub built_in : (call : BuiltIn) (xs : List (Code N)) → AllByRecursion P xs → P (S.BuiltIn call xs)
  pub call : (i : ℕ) (xs : List (Code N)) → AllByRecursion P xs → P (S.Call i xs)
  pub is_marker : (m : Marker) → P (S.IsMarker m)
  pub is_not_marker : (m : Marker) → P (S.IsNotMarker m)

module _ {N : Type 0} (P : Code N → Type 0) where
  abbrev Known : Type 0
  Known = (c : Code N) × P c

  abbrev codes_of : List Known → List (Code N)
  codes_of es = map (λ (e : Known). e.0) es

  abbrev pairs_of : List (Known × Known) → List (Code N × Code N)
  pairs_of es = map (λ (e : Known × Known). (e.0.0, e.1.0)) es

  abbrev fields_of : List (ℕ × Known) → List (ℕ × Code N)
  fields_of es = map (λ (e : ℕ × Known). (e.0, e.1.0)) es

  all_codes : (es : List Known) → AllByRecursion P (codes_of es)
  all_codes [] = tt
  all_codes (e ∷ es) = (e.1, all_codes es)

  all_pairs : (es : List (Known × Known)) → AllByRecursion (OfPair P) (pairs_of es)
  all_pairs [] = tt
  all_pairs (e ∷ es) = ((e.0.1, e.1.1), all_pairs es)

  all_fields : (es : List (ℕ × Known)) → AllByRecursion (OfField P) (fields_of es)
  all_fields [] = tt
  all_fields (e ∷ es) = (e.1.1, all_fields es)

  abbrev steps_in : {A : Type 0} → Code-F N A → List (Selector A)
  steps_in (C.Select x ss) = ss
  steps_in _ = []

  abbrev steps_of : Known → List (Selector Known) → List (Selector (Code N))
  steps_of e ss = steps_in (map-Code N Known (Code N) (λ e. e.0) (C.Select e ss))

  all_steps : (e : Known) (ss : List (Selector Known)) → AllByRecursion (OfTaking P) (steps_of e ss)
  all_steps e [] = tt
  all_steps e (K.Member i ∷ ss) = (tt, all_steps e ss)
  all_steps e (K.Element x ∷ ss) = (x.1, all_steps e ss)
  all_steps e (K.AtKey x ∷ ss) = (x.1, all_steps e ss)

module _ {N : Type 0} (P : Code N → Type 0) (s : CodeSteps P) where
  code_step : (y : Code-F N (Known P)) → P (roll-Code N (map-Code N (Known P) (Code N) (λ e. e.0) y))
  code_step (C.Literal v) = subst P (sym (S.rolls-Literal v)) (s.literal v)
  code_step (C.Name n) = subst P (sym (S.rolls-Name n)) (s.name n)
  code_step (C.List es) = subst P (sym (S.rolls-List (codes_of P es))) (s.list (codes_of P es) (all_codes P es))
  code_step (C.Map es) = subst P (sym (S.rolls-Map (pairs_of P es))) (s.map_of (pairs_of P es) (all_pairs P es))
  code_step (C.Tuple es) = subst P (sym (S.rolls-Tuple (fields_of P es))) (s.tuple (fields_of P es) (all_fields P es))
  code_step (C.Select e ss) = subst P (sym (S.rolls-Select e.0 (steps_of P e ss))) (s.select e.0 (steps_of P e ss) e.1 (all_steps P e ss))
  code_step (C.Unary ops e) = subst P (sym (S.rolls-Unary ops e.0)) (s.unary ops e.0 e.1)
  code_step (C.Binary op d e) = subst P (sym (S.rolls-Binary op d.0 e.0)) (s.binary op d.0 e.0 d.1 e.1)
  code_step (C.Conditional c d e) = subst P (sym (S.rolls-Conditional c.0 d.0 e.0)) (s.conditional c.0 d.0 e.0 c.1 d.1 e.1)
  code_step (C.BuiltIn call es) = subst P (sym (S.rolls-BuiltIn call (codes_of P es))) (s.built_in call (codes_of P es) (all_codes P es))
  code_step (C.Call i es) = subst P (sym (S.rolls-Call i (codes_of P es))) (s.call i (codes_of P es) (all_codes P es))
  code_step (C.IsMarker m) = subst P (sym (S.rolls-IsMarker m)) (s.is_marker m)
  code_step (C.IsNotMarker m) = subst P (sym (S.rolls-IsNotMarker m)) (s.is_not_marker m)

  pub code_ind : (c : Code N) → P c
  code_ind = ind-Code N P (λ x y is. subst (λ z. P (roll-Code N z)) is (code_step y))
