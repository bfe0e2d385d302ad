-- Lines cut at their commas.
use Rattle.std.specs.Prelude.{not}
use Rattle.std.proofs.Common.{◌≡◌, ◌==◌, ◌++◌, ◌∷◌, ◌∙◌, ◌+◌, ◌-◌, ◌<◌, ◌≤◌, [], ℕ, zero, suc, List, Bool, true, false, Option, Some, None, refl, sym, ap, subst, take, drop, length, length-drop, get_or, append_assoc, drop-cons, add-one, arith}
use Rattle.std.specs.List.{list_any}
use Rattle.std.proofs.lemmas.List.{append-nil, drop_all, take-append-drop, take_all, length-map}
use Rattle.std.proofs.lemmas.List.Folds.{list_any-append, list_any_more}
use Rattle.std.proofs.lemmas.Bool.{ne_eqb, not-true, or_parts}
use Rattle.spl_value.specs.declared.types.Named.{Named}
use Rattle.spl_value.specs.declared.types.SplType.{SplType}
use Rattle.spl_value.specs.declared.value.Value.{Value}
use Rattle.stream_model.specs.Fields.{tuple_of}
use Rattle.stream_model.specs.parts.Fields.{field_value}
use Rattle.stream_model.proofs.parts.Fields.{in_front}
use Rattle.stream_model.specs.Rows.{Row, line_gives}
use Rattle.stream_model.proofs.parts.Rows.{fitting}
use Rattle.stream_model.proofs.PlainLines.{is_mark, split, may_be_marked, plain_line}
use Rattle.row_reader.specs.declared.columns.Column.{Column}
use Rattle.row_reader.specs.steps.Adding.{Added}
use Rattle.row_reader.specs.Columns.{attribute, attributes, type_of}
use Rattle.row_reader.specs.steps.Plain.{FirstPut, IsCut, is_stop_or_mark}

-- ---- the cut

pub free_more : (line : List ℕ) (i : ℕ) → i < length line → list_any is_stop_or_mark (take i line) ≡ false → is_stop_or_mark (get_or line i 0) ≡ false
    → list_any is_stop_or_mark (take (i + 1) line) ≡ false
free_more line i h e f = list_any_more is_stop_or_mark line i 0 h ∙ rw (e, f) refl

free_marks : (xs : List ℕ) → list_any is_stop_or_mark xs ≡ false → list_any is_mark xs ≡ false
free_marks [] h = refl
free_marks (x ∷ xs) h =
    let p = or_parts (is_stop_or_mark x) (list_any is_stop_or_mark xs) h in
    rw (or_parts (x == 44) (is_mark x) p.0).1 (free_marks xs p.1)

split_front : (field x y : List ℕ) → list_any is_stop_or_mark x ≡ false → split field (x ++ 44 ∷ y) ≡ (field ++ x) ∷ split [] y
unfolding split
split_front field [] y h = ap (λ f. f ∷ split [] y) (sym (append-nil field))
split_front field (b ∷ x) y h =
    let p = or_parts (is_stop_or_mark b) (list_any is_stop_or_mark x) h in
    rw (or_parts (b == 44) (is_mark b) p.0).0 (split_front (field ++ b ∷ []) x y p.1 ∙ ap (λ f. f ∷ split [] y) (append_assoc field (b ∷ []) x))

split_last : (field x : List ℕ) → list_any is_stop_or_mark x ≡ false → split field x ≡ (field ++ x) ∷ []
unfolding split
split_last field [] h = ap (λ f. f ∷ []) (sym (append-nil field))
split_last field (b ∷ x) h =
    let p = or_parts (is_stop_or_mark b) (list_any is_stop_or_mark x) h in
    rw (or_parts (b == 44) (is_mark b) p.0).0 (split_last (field ++ b ∷ []) x p.1 ∙ ap (λ f. f ∷ []) (append_assoc field (b ∷ []) x))

-- the line at its first comma
comma_at : (line : List ℕ) (end : ℕ) → IsCut line end → end < length line → line ≡ take end line ++ 44 ∷ drop (end + 1) line
comma_at line end c h =
    sym (take-append-drop end line) ∙ ap (λ z. take end line ++ z) (rw (add-one, drop-cons line end 0 h) (ap (λ b. b ∷ drop (suc end) line) (c.comma h)))

-- what is left of a line, where there is more
abbrev pub rest_of : Bool → List ℕ → List ℕ
rest_of true rest = rest
rest_of false rest = []

abbrev pub fields_left : Bool → List ℕ → List (List ℕ)
fields_left true rest = split [] rest
fields_left false rest = []

-- ---- one field more

-- values in front of those of other fields
abbrev pub onto : List Value → Option (List Value) → Option (List Value)
onto vs None = None
onto vs (Some ws) = Some (vs ++ ws)

pub onto_more : (vs : List Value) (v : Value) (t : Option (List Value)) → onto vs (in_front (Some v) t) ≡ onto (vs ++ v ∷ []) t
onto_more vs v None = refl
onto_more vs v (Some ws) = ap Some (sym (append_assoc vs (v ∷ []) ws))

-- how far a line is read: the fields before the rest gave these values
pub record ReadSoFar (schema : List (Named SplType)) (line : List ℕ) (values : List Value) (more : Bool) (rest : List ℕ) (place : ℕ) : Type 0 where
  pub fields : tuple_of schema (split [] line) ≡ onto values (tuple_of (drop place schema) (fields_left more rest))
  pub marks : list_any is_mark line ≡ list_any is_mark (rest_of more rest)

-- a field with more after it
pub field_more : (schema : List (Named SplType)) (line rest : List ℕ) (values values2 : List Value) (place end : ℕ) (a : Named SplType) (v : Value)
    → drop place schema ≡ a ∷ drop (place + 1) schema → IsCut rest end → end < length rest → field_value a.kind (take end rest) ≡ Some v → values2 ≡ values ++ v ∷ []
    → ReadSoFar schema line values true rest place → ReadSoFar schema line values2 true (drop (end + 1) rest) (place + 1)
field_more schema line rest values values2 place end a v d c h e n r =
    let at = comma_at rest end c h in
    record {
      fields = r.fields ∙ ap (λ z. onto values (tuple_of (drop place schema) (split [] z))) at
          ∙ ap (λ z. onto values (tuple_of (drop place schema) z)) (split_front [] (take end rest) (drop (end + 1) rest) c.free)
          ∙ ap (λ z. onto values (tuple_of z (take end rest ∷ split [] (drop (end + 1) rest)))) d
          ∙ ap (λ z. onto values (in_front z (tuple_of (drop (place + 1) schema) (split [] (drop (end + 1) rest))))) e
          ∙ onto_more values v (tuple_of (drop (place + 1) schema) (split [] (drop (end + 1) rest)))
          ∙ ap (λ z. onto z (tuple_of (drop (place + 1) schema) (split [] (drop (end + 1) rest)))) (sym n);
      marks = r.marks ∙ ap (list_any is_mark) at ∙ list_any-append is_mark (take end rest) (44 ∷ drop (end + 1) rest) ∙ rw (free_marks (take end rest) c.free) refl;
    }

-- the last field
pub field_last : (schema : List (Named SplType)) (line rest : List ℕ) (values values2 : List Value) (place end : ℕ) (a : Named SplType) (v : Value)
    → drop place schema ≡ a ∷ drop (place + 1) schema → IsCut rest end → length rest ≤ end → field_value a.kind (take end rest) ≡ Some v → values2 ≡ values ++ v ∷ []
    → ReadSoFar schema line values true rest place → ReadSoFar schema line values2 false rest (place + 1)
field_last schema line rest values values2 place end a v d c h e n r =
    let all : take end rest ≡ rest = take_all end rest h in
    let free : list_any is_stop_or_mark rest ≡ false = sym (ap (list_any is_stop_or_mark) all) ∙ c.free in
    let value : field_value a.kind rest ≡ Some v = sym (ap (field_value a.kind) all) ∙ e in
    record {
      fields = r.fields ∙ ap (λ z. onto values (tuple_of (drop place schema) z)) (split_last [] rest free)
          ∙ ap (λ z. onto values (tuple_of z (rest ∷ []))) d
          ∙ ap (λ z. onto values (in_front z (tuple_of (drop (place + 1) schema) []))) value
          ∙ onto_more values v (tuple_of (drop (place + 1) schema) [])
          ∙ ap (λ z. onto z (tuple_of (drop (place + 1) schema) [])) (sym n);
      marks = r.marks ∙ free_marks rest free;
    }

some_length : (line : List ℕ) → 0 < length line → false ≡ (length line == 0)
some_length [] h = absurd (omega arith)
some_length (b ∷ line) h = sym (ne_eqb (length (b ∷ line)) 0 (λ e. omega (arith, e)))

-- a line whose fields are all read is a row
pub all_read : (schema : List (Named SplType)) (line rest : List ℕ) (values : List Value) (more : Bool) (place : ℕ) → length schema ≤ place → not more ≡ true → 0 < length line
    → may_be_marked line ≡ false → ReadSoFar schema line values more rest place → line_gives schema line ≡ Row values
all_read schema line rest values more place h m some_bytes b r =
    let n : false ≡ (length line == 0) = some_length line some_bytes in
    let ended : more ≡ false = not-true more m in
    let none : list_any is_mark (rest_of more rest) ≡ false = rw ended refl in
    let some : onto values (tuple_of (drop place schema) (fields_left more rest)) ≡ Some values = rw (ended, drop_all place schema h) (ap Some (append-nil values)) in
    plain_line schema line n (r.marks ∙ none) b ∙ ap fitting (r.fields ∙ some)

-- ---- the steps of the code

pub added_fits : (o : Option Value) (fits : Bool) (old new : List Value) → Added o fits old new → fits ≡ true → (v : Value) × (o ≡ Some v) × (new ≡ old ++ v ∷ [])
added_fits None fits old new a e = absurd (let h = sym a ∙ e in cc h)
added_fits (Some v) fits old new a e = (v, refl, a.1)

pub tail_is : (xs : List ℕ) (at : ℕ) → take (length xs - at) (drop at xs) ≡ drop at xs
tail_is xs at = take_all (length xs - at) (drop at xs) (omega (arith, length-drop at xs))

drop_suc : (n : ℕ) (c : Column) (cs : List Column) → drop n (attributes cs) ≡ drop (suc n) (attributes (c ∷ cs))
drop_suc n c cs = refl

same_drop : (c : Column) (cs : List Column) (n m : ℕ) → n ≡ m → drop n (attributes (c ∷ cs)) ≡ drop m (attributes (c ∷ cs))
same_drop c cs n m e = ap (λ k. drop k (attributes (c ∷ cs))) e

pub column_at : (columns : List Column) (i : ℕ) (d : Column) → i < length columns → drop i (attributes columns) ≡ attribute (get_or columns i d) ∷ drop (i + 1) (attributes columns)
column_at (c ∷ cs) zero d h = refl
column_at (c ∷ cs) (suc i) d h = column_at cs i d (omega (arith, h)) ∙ ap (λ (z : List (Named SplType)). attribute (get_or cs i d) ∷ z) (drop_suc (i + 1) c cs ∙ same_drop c cs (suc (i + 1)) (suc i + 1) (omega arith))
column_at [] i d h = absurd (omega arith)

pub next_field : (columns : List Column) (line rest rest2 : List ℕ) (old new : List Value) (more more2 : Bool) (place end : ℕ) (d : Column)
    → place < length columns → FirstPut (type_of (get_or columns place d)) rest place old new end → end < length rest
    → more ≡ true → more2 ≡ more → rest2 ≡ take (length rest - (end + 1)) (drop (end + 1) rest)
    → ReadSoFar (attributes columns) line (take place old) more rest place → ReadSoFar (attributes columns) line (take (place + 1) new) more2 rest2 (place + 1)
next_field columns line rest rest2 old new more more2 place end d p f h m m2 is r =
    let before : ReadSoFar (attributes columns) line (take place old) true rest place = subst (λ (z : Bool). ReadSoFar (attributes columns) line (take place old) z rest place) m r in
    let after : ReadSoFar (attributes columns) line (take (place + 1) new) true rest2 (place + 1) =
    subst (λ (z : List ℕ). ReadSoFar (attributes columns) line (take (place + 1) new) true z (place + 1)) (sym (is ∙ tail_is rest (end + 1)))
    (field_more (attributes columns) line rest (take place old) (take (place + 1) new) place end (attribute (get_or columns place d)) f.v (column_at columns place d p) f.cut h f.value f.put.front before) in
    subst (λ (z : Bool). ReadSoFar (attributes columns) line (take (place + 1) new) z rest2 (place + 1)) (sym (m2 ∙ m)) after

pub last_field : (columns : List Column) (line rest rest2 : List ℕ) (old new : List Value) (more more2 : Bool) (place end : ℕ) (d : Column)
    → place < length columns → FirstPut (type_of (get_or columns place d)) rest place old new end → length rest ≤ end
    → more ≡ true → more2 ≡ false → rest2 ≡ rest → ReadSoFar (attributes columns) line (take place old) more rest place
    → ReadSoFar (attributes columns) line (take (place + 1) new) more2 rest2 (place + 1)
last_field columns line rest rest2 old new more more2 place end d p f h m m2 is r =
    let before : ReadSoFar (attributes columns) line (take place old) true rest place = subst (λ (z : Bool). ReadSoFar (attributes columns) line (take place old) z rest place) m r in
    let after = field_last (attributes columns) line rest (take place old) (take (place + 1) new) place end (attribute (get_or columns place d)) f.v (column_at columns place d p) f.cut h f.value f.put.front before in
    subst (λ (z : Bool). ReadSoFar (attributes columns) line (take (place + 1) new) z rest2 (place + 1)) (sym m2)
    (subst (λ (z : List ℕ). ReadSoFar (attributes columns) line (take (place + 1) new) false z (place + 1)) (sym is) after)

pub columns_all : (columns : List Column) → length (attributes columns) ≡ length columns
columns_all columns = length-map columns attribute

pub tail_short : (line rest rest2 : List ℕ) (at : ℕ) → length rest ≤ length line → rest2 ≡ take (length rest - at) (drop at rest) → length rest2 ≤ length line
tail_short line rest rest2 at h e = omega (arith, ap length (e ∙ tail_is rest at), length-drop at rest)
