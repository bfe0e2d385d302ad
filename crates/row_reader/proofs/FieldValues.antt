-- Values of fields after others.
use Rattle.std.specs.Prelude.{◌&&◌, IsTrue, codes, if◌then◌else◌, option_map}
use Rattle.std.specs.Int.{w128}
use Rattle.std.proofs.Common.{◌≡◌, ◌∙◌, ◌∷◌, ◌<◌, ◌^◌, pos, [], ℕ, ℤ, Bool, true, false, List, Option, Some, None, refl, sym, ap, subst, inl, inr, arith, of_z, to_z}
use Rattle.std.specs.Str.{bytes_eq}
use Rattle.std.proofs.lemmas.Bool.{cases_Bool}
use Rattle.std.proofs.lemmas.Int.{fits_signed_from_abs, to_z-of_z}
use Rattle.spl_value.specs.Decimal.{in_kind, integer_of, integer}
use Rattle.spl_value.specs.Values.{fits, kind_holds, tuple_fits}
use Rattle.spl_value.proofs.FitsLaws.{fits_bool, fits_int, fits_text}
use Rattle.spl_value.specs.declared.types.IntKind.{IntKind}
use Rattle.spl_value.specs.declared.types.SplType.TheVariants as T
use Rattle.spl_value.specs.declared.value.Value.{Value}
use Rattle.spl_value.specs.declared.value.Value.TheVariants as V
use Rattle.stream_model.specs.Fields.{tuple_of}
use Rattle.stream_model.specs.parts.Fields.{field_value}
use Rattle.stream_model.proofs.parts.Fields.{in_front}
use Rattle.row_reader.specs.declared.columns.Column.{Column}
use Rattle.row_reader.specs.declared.columns.Column.TheVariants as C
use Rattle.row_reader.specs.steps.Adding.{IsPut, Puts}
use Rattle.row_reader.specs.Columns.{attributes, type_of}
use Rattle.row_reader.proofs.Puts.{puts_none, puts_some}
use Rattle.spl_value.proofs.Widths.{within}

field_int : (k : IntKind) (field : List ℕ) → field_value (T.Int k) field ≡ option_map V.Int (integer_of k field)
field_int k field = rw (T.outs-Int k) refl

field_bool : (field : List ℕ) (b : Bool) → bytes_eq field (codes "true") ≡ b → field_value T.Bool field ≡ (if b then Some (V.Bool true) else if bytes_eq field (codes "false") then Some (V.Bool false) else None)
field_bool field b e = rw (T.outs-Bool, e) refl

field_text : (field : List ℕ) → field_value T.Text field ≡ Some (V.Text field)
field_text field = rw T.outs-Text refl

pub no_integer : (k : IntKind) (field : List ℕ) (at : ℕ) (old new : List Value) → None ≡ integer_of k field → Puts (field_value (T.Int k) field) false at old new
no_integer k field at old new e = puts_none (field_value (T.Int k) field) at old new (field_int k field ∙ ap (option_map V.Int) (sym e))

pub an_integer : (k : IntKind) (field : List ℕ) (n : ℤ) (at : ℕ) (old new : List Value) → Some n ≡ integer_of k field → IsPut at (V.Int n) old new
    → Puts (field_value (T.Int k) field) true at old new
an_integer k field n at old new e p = puts_some (field_value (T.Int k) field) (V.Int n) at old new (field_int k field ∙ ap (option_map V.Int) (sym e)) p

pub a_text : (field : List ℕ) (at : ℕ) (old new : List Value) → IsPut at (V.Text field) old new → Puts (field_value T.Text field) true at old new
a_text field at old new p = puts_some (field_value T.Text field) (V.Text field) at old new (field_text field) p

pub a_true : (field : List ℕ) (at : ℕ) (old new : List Value) → bytes_eq field (codes "true") ≡ true → IsPut at (V.Bool true) old new → Puts (field_value T.Bool field) true at old new
a_true field at old new e p = puts_some (field_value T.Bool field) (V.Bool true) at old new (field_bool field true e) p

pub a_false : (field : List ℕ) (at : ℕ) (old new : List Value) → bytes_eq field (codes "true") ≡ false → bytes_eq field (codes "false") ≡ true → IsPut at (V.Bool false) old new
    → Puts (field_value T.Bool field) true at old new
a_false field at old new e f p = puts_some (field_value T.Bool field) (V.Bool false) at old new (field_bool field false e ∙ rw f refl) p

pub no_truth : (field : List ℕ) (at : ℕ) (old new : List Value) → bytes_eq field (codes "true") ≡ false → bytes_eq field (codes "false") ≡ false → Puts (field_value T.Bool field) false at old new
no_truth field at old new e f = puts_none (field_value T.Bool field) at old new (field_bool field false e ∙ rw f refl)

-- a short number
pub is_number : (k : IntKind) (field : List ℕ) (n : ℤ) → integer_of k field ≡ Some n → field_value (T.Int k) field ≡ Some (V.Int n)
is_number k field n e = field_int k field ∙ ap (option_map V.Int) e

-- ---- the numbers of the kinds

pub in_kind_holds : (k : IntKind) (m : Option ℤ) (n : ℤ) → Some n ≡ in_kind k m → IsTrue (kind_holds k n)
in_kind_holds k None n e = absurd (cc e)
in_kind_holds k (Some m) n e = elim (cases_Bool (kind_holds k m)) [
  | inl holds ↦ let h : Some n ≡ Some m = e ∙ rw holds refl in let same : n ≡ m = cc h in ap (kind_holds k) same ∙ holds
  | inr not ↦ absurd (let h : Some n ≡ None = e ∙ rw not refl in cc h)
]

pub kept : (k : IntKind) (field : List ℕ) (n : ℤ) → Some n ≡ integer_of k field → to_z w128 (of_z w128 n) ≡ n
kept k field n e = let s = within k n (in_kind_holds k (integer field) n e) in to_z-of_z w128 n (fits_signed_from_abs w128 n (omega arith))

pub kept_short : (n : ℕ) (z : ℤ) → z ≡ pos n → n < 10 ^ 18 → to_z w128 (of_z w128 z) ≡ pos n
kept_short n z e small = subst (λ y. to_z w128 (of_z w128 y) ≡ pos n) (sym e) (to_z-of_z w128 (pos n) (fits_signed_from_abs w128 (pos n) (omega (arith, small))))

-- ---- a row's values fit its columns

column_fits : (c : Column) (field : List ℕ) (v : Value) → field_value (type_of c) field ≡ Some v → IsTrue (fits (type_of c) v)
column_fits (C.Int k) field v e = by_number (integer_of k field) refl (sym e ∙ field_int k field) where
  by_number : (r : Option ℤ) → integer_of k field ≡ r → Some v ≡ option_map V.Int (integer_of k field) → IsTrue (fits (T.Int k) v)
  by_number None h g = absurd (let z = rw h at g in cc z)
  by_number (Some n) h g =
      let is : Some v ≡ Some (V.Int n) = g ∙ ap (option_map V.Int) h in
      let same : v ≡ V.Int n = cc is in
      subst (λ z. IsTrue (fits (T.Int k) z)) (sym same) (fits_int k n ∙ in_kind_holds k (integer field) n (sym h))
column_fits C.Bool field v e = elim (cases_Bool (bytes_eq field (codes "true"))) [
  | inl word ↦
      let is : Some v ≡ Some (V.Bool true) = sym e ∙ field_bool field true word in
      let same : v ≡ V.Bool true = cc is in
      subst (λ z. IsTrue (fits T.Bool z)) (sym same) (fits_bool true)
  | inr other ↦ elim (cases_Bool (bytes_eq field (codes "false"))) [
    | inl word ↦
        let is : Some v ≡ Some (V.Bool false) = sym e ∙ field_bool field false other ∙ rw word refl in
        let same : v ≡ V.Bool false = cc is in
        subst (λ z. IsTrue (fits T.Bool z)) (sym same) (fits_bool false)
    | inr neither ↦ absurd (let is : Some v ≡ None = sym e ∙ field_bool field false other ∙ rw neither refl in cc is)
  ]
]
column_fits C.Text field v e =
    let is : Some v ≡ Some (V.Text field) = sym e ∙ field_text field in
    let same : v ≡ V.Text field = cc is in
    subst (λ z. IsTrue (fits T.Text z)) (sym same) (fits_text field)

-- the tuple of fields that fit
pub row_fits : (columns : List Column) (fields : List (List ℕ)) (values : List Value) → tuple_of (attributes columns) fields ≡ Some values → IsTrue (tuple_fits (attributes columns) values)
row_fits [] [] values e = let is : [] ≡ values = cc e in subst (λ z. IsTrue (tuple_fits [] z)) is refl
row_fits [] (field ∷ fields) values e = absurd (cc e)
row_fits (c ∷ columns) [] values e = absurd (cc e)
row_fits (c ∷ columns) (field ∷ fields) values e =
    by_value (field_value (type_of c) field) (tuple_of (attributes columns) fields) values (λ v h. column_fits c field v h) (λ vs h. row_fits columns fields vs h) e
  where
    both : (a b : Bool) → IsTrue a → IsTrue b → (a && b) ≡ true
    both a b h g = rw (h, g) refl

    by_value : (v : Option Value) (vs : Option (List Value)) (values : List Value) → ((w : Value) → v ≡ Some w → IsTrue (fits (type_of c) w))
        → ((ws : List Value) → vs ≡ Some ws → IsTrue (tuple_fits (attributes columns) ws)) → in_front v vs ≡ Some values → IsTrue (tuple_fits (attributes (c ∷ columns)) values)
    by_value None vs values f g h = absurd (cc h)
    by_value (Some v) None values f g h = absurd (cc h)
    by_value (Some v) (Some vs) values f g h =
        let same : v ∷ vs ≡ values = cc h in
        subst (λ z. IsTrue (tuple_fits (attributes (c ∷ columns)) z)) same (both (fits (type_of c) v) (tuple_fits (attributes columns) vs) (f v refl) (g vs refl))
