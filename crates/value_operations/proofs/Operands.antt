-- What the types of operands tell of them, and that an operator in front gives a value of its type.
use Rattle.std.specs.Prelude.{◌≡◌, ◌≢◌, ℕ, ℤ, negsuc, neg_ℤ, ◌-ℤ◌, Bool, true, not, IsTrue, List}
use Rattle.std.specs.Fmt.{signed_decimal}
use Rattle.std.specs.Int.{w128}
use Rattle.std.proofs.Common.{refl, sym, ap, subst, ◌∙◌, to_z, of_z}
use Rattle.spl_value.specs.declared.types.IntKind.{IntKind}
use Rattle.spl_value.specs.declared.types.SplType.{SplType}
use Rattle.spl_value.specs.declared.types.SplType.TheVariants as S
use Rattle.spl_value.specs.declared.value.Value.{Value}
use Rattle.spl_value.specs.declared.value.Value.TheVariants as V
use Rattle.spl_value.specs.declared.value.Value.TheOpen as O
use Rattle.spl_value.specs.declared.value.Value.TheViews.{out-Value}
use Rattle.spl_value.specs.Calls.{CallOutcome, Gives, are_alike}
use Rattle.spl_value.proofs.CallsLaws.{alike_ints, alike_texts}
use Rattle.spl_value.proofs.FitsLaws.{fits_int, fits_bool, fits_text, int_from_fits, bool_from_fits, text_from_fits, list_from_fits, map_from_fits}
use Rattle.spl_value.specs.Pairs.{are_pairs}
use Rattle.spl_value.specs.Values.{fits, kind_holds}
use Rattle.spl_value.specs.Wrap.{wrapped}
use Rattle.spl_value.proofs.WrapLaws.{wrapped_belongs}
use Rattle.spl_tree.specs.declared.code.BinaryCode.{BinaryCode}
use Rattle.spl_tree.specs.declared.code.BinaryCode.TheVariants as D
use Rattle.spl_tree.specs.declared.code.IntegerOperator.{IntegerOperator}
use Rattle.spl_tree.specs.declared.code.OrderOperator.{OrderOperator}
use Rattle.spl_tree.specs.declared.code.UnaryCode.{UnaryCode}
use Rattle.spl_tree.specs.declared.code.UnaryCode.TheVariants as U
use Rattle.language_model.specs.CodeFits as F
use Rattle.language_model.specs.CodeFits.{UnaryGives, BinaryGives}
use Rattle.language_model.specs.Operators.{level_unary}
use Rattle.language_model.specs.parts.Operators.{bool_text, unary_of}
use Rattle.value_operations.specs.Fitting.{FitBinary, FitRelation}
use Rattle.value_operations.specs.steps.Unaries.{FitsUnary}
use Rattle.value_operations.proofs.Parts.{pairs_of}
use Rattle.spl_value.proofs.Widths.{kept_in_128}

abbrev OfType : SplType → Value → Type 0
OfType t v = IsTrue (fits t v)

-- ---- operators between two operands

module _ (v w : Value) where
  pub integer_operands : (b : BinaryCode) (op : IntegerOperator) (k : IntKind) → b ≡ D.Integers op k → FitBinary b v w → OfType (S.Int k) v × OfType (S.Int k) w
  integer_operands b op k e h = of_types h.0 h.1 h.2 (subst (λ (c : BinaryCode). BinaryGives c h.0 h.1 h.2) e h.3) h.4 h.5
    where
      of_types : (t u r : SplType) → BinaryGives (D.Integers op k) t u r → OfType t v → OfType u w → OfType (S.Int k) v × OfType (S.Int k) w
      of_types _ _ _ (F.integers op k) f g = (f, g)

  pub both_operands : (op : BinaryCode) → FitRelation op v w → FitBinary op v w
  both_operands op h = (h.0, h.1, S.Bool, h.2, h.3, h.4, h.5, h.6)

  -- an operator of values that gives neither an integer nor a text asks whether something is so
  pub relation : (op : BinaryCode) → FitBinary op v w → ((o : IntegerOperator) (k : IntKind) → op ≡ D.Integers o k → ⊥) → (op ≡ D.Join → ⊥) → FitRelation op v w
  relation op h no_integers no_join = of_types op h.0 h.1 h.2 h.3 h.4 h.5 h.6 h.7 no_integers no_join
    where
      of_types : (op : BinaryCode) (t u r : SplType) → BinaryGives op t u r → OfType t v → OfType u w → (op ≢ D.And) → (op ≢ D.Or)
          → ((o : IntegerOperator) (k : IntKind) → op ≡ D.Integers o k → ⊥) → (op ≡ D.Join → ⊥) → FitRelation op v w
      of_types _ _ _ _ (F.integers o k) f g a b m n = absurd (m o k refl)
      of_types _ _ _ _ F.joins f g a b m n = absurd (n refl)
      of_types _ _ _ _ (F.orders_integers o k) f g a b m n = (S.Int k, S.Int k, F.orders_integers o k, f, g, a, b)
      of_types _ _ _ _ (F.orders_texts o) f g a b m n = (S.Text, S.Text, F.orders_texts o, f, g, a, b)
      of_types _ _ _ _ (F.equals t) f g a b m n = (t, t, F.equals t, f, g, a, b)
      of_types _ _ _ _ (F.differs t) f g a b m n = (t, t, F.differs t, f, g, a, b)
      of_types _ _ _ _ F.both f g a b m n = absurd (a refl)
      of_types _ _ _ _ F.either f g a b m n = absurd (b refl)
      of_types _ _ _ _ (F.in_list t) f g a b m n = (t, S.List t, F.in_list t, f, g, a, b)
      of_types _ _ _ _ (F.in_map k t) f g a b m n = (k, S.Map k t, F.in_map k t, f, g, a, b)

  pub text_operands : FitBinary D.Join v w → OfType S.Text v × OfType S.Text w
  text_operands h = of_types h.0 h.1 h.2 h.3 h.4 h.5
    where
      of_types : (t u r : SplType) → BinaryGives D.Join t u r → OfType t v → OfType u w → OfType S.Text v × OfType S.Text w
      of_types _ _ _ F.joins f g = (f, g)

  pub list_operand : FitBinary D.InList v w → (t : SplType) × OfType (S.List t) w
  list_operand h = of_types h.0 h.1 h.2 h.3 h.5
    where
      of_types : (t u r : SplType) → BinaryGives D.InList t u r → OfType u w → (t : SplType) × OfType (S.List t) w
      of_types _ _ _ (F.in_list t) g = (t, g)

  pub map_operand : FitBinary D.InMap v w → (k : SplType) × (t : SplType) × OfType (S.Map k t) w
  map_operand h = of_types h.0 h.1 h.2 h.3 h.5
    where
      of_types : (t u r : SplType) → BinaryGives D.InMap t u r → OfType u w → (k : SplType) × (t : SplType) × OfType (S.Map k t) w
      of_types _ _ _ (F.in_map k t) g = (k, t, g)

  -- what is ordered is two integers or two texts
  pub alike_operands : (b : BinaryCode) (op : OrderOperator) → b ≡ D.Order op → FitBinary b v w → are_alike (out-Value v) (out-Value w) ≡ true
  alike_operands b op e h = of_types h.0 h.1 h.2 (subst (λ (c : BinaryCode). BinaryGives c h.0 h.1 h.2) e h.3) h.4 h.5
    where
      of_types : (t u r : SplType) → BinaryGives (D.Order op) t u r → OfType t v → OfType u w → are_alike (out-Value v) (out-Value w) ≡ true
      of_types _ _ _ (F.orders_integers op k) f g =
          let m = int_from_fits k v f in let n = int_from_fits k w g in
          (λ i. are_alike (out-Value (m.1 i)) (out-Value (n.1 i))) ∙ alike_ints m.0 n.0
      of_types _ _ _ (F.orders_texts op) f g =
          let xs = text_from_fits v f in let ys = text_from_fits w g in
          (λ i. are_alike (out-Value (xs.1 i)) (out-Value (ys.1 i))) ∙ alike_texts xs.0 ys.0

  pub not_text_left : FitBinary D.Join v w → ((bytes : List ℕ) → v ≡ V.Text bytes → ⊥) → ⊥
  not_text_left h never = let both = text_operands h in let is = text_from_fits v both.0 in never is.0 is.1

  pub not_text_right : FitBinary D.Join v w → ((bytes : List ℕ) → w ≡ V.Text bytes → ⊥) → ⊥
  not_text_right h never = let both = text_operands h in let is = text_from_fits w both.1 in never is.0 is.1

  pub not_list_right : FitBinary D.InList v w → ((vs : List Value) → w ≡ V.List vs → ⊥) → ⊥
  not_list_right h never = let of = list_operand h in let is = list_from_fits of.0 w of.1 in never is.0 is.1

  pub not_map_right : FitBinary D.InMap v w → ((ps : List (Value × Value)) → w ≡ V.Map ps → ⊥) → ⊥
  not_map_right h never = let of = map_operand h in let is = map_from_fits of.0 of.1 w of.2 in never is.0 is.1

  pub keys_rise_right : (ps : List (Value × Value)) → FitBinary D.InMap v w → w ≡ V.Map ps → IsTrue (are_pairs ps)
  keys_rise_right ps h e = let of = map_operand h in pairs_of of.0 of.1 w ps of.2 e

-- ---- integers

pub not_integer : (v : Value) → (k : IntKind) × OfType (S.Int k) v → ((n : ℤ) → v ≡ V.Int n → ⊥) → ⊥
not_integer v (k, h) never = let is = int_from_fits k v h in never is.0 is.1

holds_of : (k : IntKind) (v : Value) (n : ℤ) → OfType (S.Int k) v → v ≡ V.Int n → IsTrue (kind_holds k n)
holds_of k v n h e = sym (fits_int k n) ∙ subst (OfType (S.Int k)) e h

pub holds_in_128 : (k : IntKind) (v : Value) (n : ℤ) → OfType (S.Int k) v → v ≡ V.Int n → IsTrue (kind_holds k (to_z w128 (of_z w128 n)))
holds_in_128 k v n h e = let holds = holds_of k v n h e in subst (λ (z : ℤ). IsTrue (kind_holds k z)) (sym (kept_in_128 k n holds)) holds

apart : (n : ℤ) (b : Bool) → V.Int n ≡ V.Bool b → ⊥
apart n b e = let same : O.Int n ≡ O.Bool b = sym (V.outs-Int n) ∙ ap out-Value e ∙ V.outs-Bool b in cc

-- an integer to which an operator or a cast is applied is of a kind
pub unary_holds : (op : UnaryCode) (v : Value) (n : ℤ) → FitsUnary op v → v ≡ V.Int n → (k : IntKind) × IsTrue (kind_holds k n)
unary_holds op v n h e = of_types h.0 h.1 op h.2 h.3
  where
    of_types : (t u : SplType) (op : UnaryCode) → UnaryGives op t u → OfType t v → (k : IntKind) × IsTrue (kind_holds k n)
    of_types _ _ _ F.inverts f = let is = bool_from_fits v f in absurd (apart n is.0 (sym e ∙ is.1))
    of_types _ _ _ (F.negates k) f = (k, holds_of k v n f e)
    of_types _ _ _ (F.complements k) f = (k, holds_of k v n f e)
    of_types _ _ _ (F.to_integer j k) f = (j, holds_of j v n f e)
    of_types _ _ _ (F.integer_text k) f = (k, holds_of k v n f e)
    of_types _ _ _ F.bool_text f = let is = bool_from_fits v f in absurd (apart n is.0 (sym e ∙ is.1))

pub not_shown : (v : Value) → FitsUnary U.ToText v → ((n : ℤ) → v ≡ V.Int n → ⊥) → ((b : Bool) → v ≡ V.Bool b → ⊥) → ⊥
not_shown v h not_int not_bool = of_types h.0 h.1 h.2 h.3
  where
    of_types : (t u : SplType) → UnaryGives U.ToText t u → OfType t v → ⊥
    of_types _ _ (F.integer_text k) f = let is = int_from_fits k v f in not_int is.0 is.1
    of_types _ _ F.bool_text f = let is = bool_from_fits v f in not_bool is.0 is.1

-- ---- an operator in front gives a value of its type

keeps_by : (u : SplType) (x w : Value) (called : CallOutcome) → called ≡ Gives x → called ≡ Gives w → OfType u x → OfType u w
keeps_by u x w called e f h = let both : Gives x ≡ Gives w = sym e ∙ f in let same : x ≡ w = cc in subst (OfType u) same h

int_level : (v : Value) (n : ℤ) → v ≡ V.Int n → out-Value v ≡ O.Int n
int_level v n e = ap out-Value e ∙ V.outs-Int n

bool_level : (v : Value) (b : Bool) → v ≡ V.Bool b → out-Value v ≡ O.Bool b
bool_level v b e = ap out-Value e ∙ V.outs-Bool b

pub unary_keeps : (op : UnaryCode) (t u : SplType) (v w : Value) → UnaryGives op t u → OfType t v → unary_of op v ≡ Gives w → OfType u w
unary_keeps _ _ _ v w F.inverts h e =
    let is = bool_from_fits v h in
    keeps_by S.Bool (V.Bool (not is.0)) w (unary_of U.Not v) (ap (level_unary U.Not) (bool_level v is.0 is.1)) e (fits_bool (not is.0))
unary_keeps _ _ _ v w (F.negates k) h e =
    let is = int_from_fits k v h in
    let n = neg_ℤ is.0 in
    keeps_by (S.Int k) (V.Int (wrapped k n)) w (unary_of (U.Negate k) v) (ap (level_unary (U.Negate k)) (int_level v is.0 is.1)) e (fits_int k (wrapped k n) ∙ wrapped_belongs k n)
unary_keeps _ _ _ v w (F.complements k) h e =
    let is = int_from_fits k v h in
    let n = negsuc 0 -ℤ is.0 in
    keeps_by (S.Int k) (V.Int (wrapped k n)) w (unary_of (U.Complement k) v) (ap (level_unary (U.Complement k)) (int_level v is.0 is.1)) e
    (fits_int k (wrapped k n) ∙ wrapped_belongs k n)
unary_keeps _ _ _ v w (F.to_integer j k) h e =
    let is = int_from_fits j v h in
    let n = is.0 in
    keeps_by (S.Int k) (V.Int (wrapped k n)) w (unary_of (U.ToInteger k) v) (ap (level_unary (U.ToInteger k)) (int_level v is.0 is.1)) e
    (fits_int k (wrapped k n) ∙ wrapped_belongs k n)
unary_keeps _ _ _ v w (F.integer_text k) h e =
    let is = int_from_fits k v h in
    let text = signed_decimal is.0 in
    keeps_by S.Text (V.Text text) w (unary_of U.ToText v) (ap (level_unary U.ToText) (int_level v is.0 is.1)) e (fits_text text)
unary_keeps _ _ _ v w F.bool_text h e =
    let is = bool_from_fits v h in
    let text = bool_text is.0 in
    keeps_by S.Text (V.Text text) w (unary_of U.ToText v) (ap (level_unary U.ToText) (bool_level v is.0 is.1)) e (fits_text text)
