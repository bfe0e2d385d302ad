-- A source made for a schema reads the columns of its types.
use Rattle.std.specs.Prelude.{◌&&◌, if◌then◌else◌}
use Rattle.std.proofs.Common.{◌≡◌, ◌++◌, ◌∷◌, ◌∙◌, ◌+◌, ◌-◌, [], ℕ, List, Bool, Option, Some, None, drop, map, length, take, refl, sym, ap}
use Rattle.spl_value.specs.Script.{Ending, End, Failed}
use Rattle.spl_value.specs.Values.{fits, tuple_fits}
use Rattle.spl_value.specs.declared.item.Item.{Item}
use Rattle.spl_value.specs.declared.item.Item.TheVariants as I
use Rattle.spl_value.specs.declared.item.FaultKind.{FaultKind}
use Rattle.spl_value.specs.declared.item.FaultKind.TheVariants as K
use Rattle.spl_value.specs.declared.types.Named.{Named}
use Rattle.spl_value.specs.declared.types.SplType.{SplType}
use Rattle.spl_value.specs.declared.value.Value.{Value}
use Rattle.spl_value.proofs.FitsLaws.{fits_tuple}
use Rattle.csv.specs.Reading.{default_config, records, strip_bom}
use Rattle.stream_model.specs.Fields.{tuple_of}
use Rattle.stream_model.specs.parts.Fields.{field_value}
use Rattle.stream_model.proofs.parts.Fields.{in_front}
use Rattle.stream_model.specs.Rows.{Bad, Given, Nothing, Row, Setting, checked_items, closing, items_from, last_items, line_gives, line_items, of_records, too_long}
use Rattle.stream_model.proofs.parts.Rows.{cut_short, fitting}
use Rattle.stream_model.specs.parts.Rows.{pieces}
use Rattle.row_reader.specs.declared.columns.Column.{Column}
use Rattle.row_reader.specs.declared.rows.Rows.{Rows}
use Rattle.row_reader.specs.Columns.{attributes, type_of}
use Rattle.row_reader.specs.Reading.{IsFor, FitsSetting, setting, setting_of}

abbrev pub kinds : List (Named SplType) → List SplType
kinds schema = map (λ a. a.kind) schema

column_kinds : (columns : List Column) → kinds (attributes columns) ≡ map type_of columns
column_kinds [] = refl
column_kinds (c ∷ columns) = ap (λ z. type_of c ∷ z) (column_kinds columns)

same_tuple : (a b : List (Named SplType)) (fields : List (List ℕ)) → kinds a ≡ kinds b → tuple_of a fields ≡ tuple_of b fields
same_tuple [] [] [] e = refl
same_tuple [] [] (field ∷ fields) e = refl
same_tuple [] (y ∷ b) fields e = absurd (cc e)
same_tuple (x ∷ a) [] fields e = absurd (cc e)
same_tuple (x ∷ a) (y ∷ b) [] e = refl
same_tuple (x ∷ a) (y ∷ b) (field ∷ fields) e =
    let kind : x.kind ≡ y.kind = cc e in
    let rest : kinds a ≡ kinds b = cc e in
    λ i. in_front (field_value (kind i) field) (same_tuple a b fields rest i)

same_fits : (a b : List (Named SplType)) (values : List Value) → kinds a ≡ kinds b → tuple_fits a values ≡ tuple_fits b values
same_fits [] [] [] e = refl
same_fits [] [] (v ∷ values) e = refl
same_fits [] (y ∷ b) values e = absurd (cc e)
same_fits (x ∷ a) [] values e = absurd (cc e)
same_fits (x ∷ a) (y ∷ b) [] e = refl
same_fits (x ∷ a) (y ∷ b) (v ∷ values) e =
    let kind : x.kind ≡ y.kind = cc e in
    let rest : kinds a ≡ kinds b = cc e in
    λ i. fits (kind i) v && same_fits a b values rest i

same_records : (a b : List (Named SplType)) (recs : List (List (List ℕ))) → kinds a ≡ kinds b → of_records a recs ≡ of_records b recs
same_records a b [] e = refl
same_records a b (fields ∷ []) e = ap fitting (same_tuple a b fields e)
same_records a b (fields ∷ more ∷ rest) e = refl

-- two settings for columns of the same types
pub record Alike (o p : Setting) : Type 0 where
  pub op : o.op ≡ p.op
  pub strict : o.strict ≡ p.strict
  pub kinds_same : kinds o.schema ≡ kinds p.schema

same_line : (o p : Setting) (line : List ℕ) → Alike o p → line_gives o.schema line ≡ line_gives p.schema line
same_line o p line s = same_records o.schema p.schema (records default_config (strip_bom line)) s.kinds_same

same_items : (o p : Setting) (line : ℕ) (given : Given) (more : List Item) → Alike o p → line_items o line given more ≡ line_items p line given more
same_items o p line (Row values) more s = refl
same_items o p line Nothing more s = refl
same_items o p line Bad more s = λ i. if s.strict i then I.Bad (record { op = s.op i; kind = K.BadRow; line = line }) ∷ [] else more

same_checked : (o p : Setting) (line : ℕ) (long : Option FaultKind) (bytes : List ℕ) (more more2 : List Item) → Alike o p → more ≡ more2
    → checked_items o line long bytes more ≡ checked_items p line long bytes more2
same_checked o p line (Some kind) bytes more more2 s e = λ i. I.Bad (record { op = s.op i; kind = kind; line = line }) ∷ []
same_checked o p line None bytes more more2 s e =
    same_items o p line (line_gives o.schema bytes) more s ∙ (λ i. line_items p line (same_line o p bytes s i) (e i))

same_cut : (o p : Setting) (line : ℕ) (long : Option FaultKind) → Alike o p → cut_short o line long ≡ cut_short p line long
same_cut o p line (Some kind) s = λ i. I.Bad (record { op = s.op i; kind = kind; line = line }) ∷ []
same_cut o p line None s = λ i. I.Bad (record { op = s.op i; kind = K.ReadFailed; line = line }) ∷ []

same_last : (o p : Setting) (how : Ending) (line left : ℕ) (bytes : List ℕ) → Alike o p → last_items o how line left bytes ≡ last_items p how line left bytes
same_last o p End line left [] s = refl
same_last o p End line left (b ∷ bytes) s = same_checked o p line (too_long (length (b ∷ bytes)) (length (b ∷ bytes)) left) (b ∷ bytes) closing closing s refl
same_last o p Failed line left bytes s = same_cut o p line (too_long (length bytes) (length bytes) left) s

pub same_from : (o p : Setting) (how : Ending) (line left : ℕ) (all : List (List ℕ)) → Alike o p → items_from o how line left all ≡ items_from p how line left all
same_from o p how line left [] s = refl
same_from o p how line left (bytes ∷ []) s = same_last o p how line left bytes s
same_from o p how line left (bytes ∷ next ∷ rest) s =
    same_checked o p line (too_long (length bytes) (length bytes + 1) left) bytes (items_from o how (line + 1) (left - (length bytes + 1)) (next ∷ rest))
    (items_from p how (line + 1) (left - (length bytes + 1)) (next ∷ rest)) s (same_from o p how (line + 1) (left - (length bytes + 1)) (next ∷ rest) s)

-- the columns of a schema give its rows
pub schema_rows : (op : ℕ) (columns : List Column) (schema : List (Named SplType)) (strict : Bool) (limit : ℕ) (bytes : List ℕ) (how : Ending) → map type_of columns ≡ kinds schema
    → items_from (setting op (attributes columns) strict limit) how 1 limit (pieces bytes) ≡ items_from (setting op schema strict limit) how 1 limit (pieces bytes)
schema_rows op columns schema strict limit bytes how e =
    same_from (setting op (attributes columns) strict limit) (setting op schema strict limit) how 1 limit (pieces bytes)
    (record { op = refl; strict = refl; kinds_same = column_kinds columns ∙ e })

pub new_unread : (op : ℕ) (columns : List Column) (schema : List (Named SplType)) (strict : Bool) (limit : ℕ) (how : Ending) (carry piece bytes : List ℕ) → carry ≡ []
    → map type_of columns ≡ kinds schema
    → items_from (setting op (attributes columns) strict limit) how 1 limit (pieces ((carry ++ take (0 - 0) (drop 0 piece)) ++ bytes)) ≡ items_from (setting op schema strict limit) how 1 limit (pieces bytes)
new_unread op columns schema strict limit how carry piece bytes c e =
    ap (λ z. items_from (setting op (attributes columns) strict limit) how 1 limit (pieces ((z ++ []) ++ bytes))) c ∙ schema_rows op columns schema strict limit bytes how e

-- ---- what a source was made for

for_kinds : (r : Rows) (o : Setting) → IsFor r o → kinds (setting_of r).schema ≡ kinds o.schema
for_kinds r o f = column_kinds r.lines.columns.items ∙ sym f.kinds

pub for_has : (r : Rows) (o : Setting) (item : Item) → IsFor r o → FitsSetting (setting_of r) item → FitsSetting o item
for_has r o (I.Tuple values) f h =
    fits_tuple o.schema values ∙ sym (same_fits (setting_of r).schema o.schema values (for_kinds r o f)) ∙ sym (fits_tuple (setting_of r).schema values) ∙ h
for_has r o I.Window f h = tt
for_has r o I.Final f h = tt
for_has r o (I.Bad fault) f h = h ∙ sym f.op

pub for_kept : (r r2 : Rows) (o : Setting) → setting_of r2 ≡ setting_of r → IsFor r o → IsFor r2 o
for_kept r r2 o e f = record {
  op = f.op ∙ sym (ap (λ z. z.op) e);
  kinds = f.kinds ∙ sym (column_kinds r.lines.columns.items) ∙ sym (ap (λ z. kinds z.schema) e) ∙ column_kinds r2.lines.columns.items;
  strict = f.strict ∙ sym (ap (λ z. z.strict) e);
  limit = f.limit ∙ sym (ap (λ z. z.limit) e);
}
