-- What a line gives is what it spells.
use Rattle.std.specs.Prelude.{◌≡◌, ◌↔◌, ℕ, true, false, List, [], ◌∷◌, ◌++◌, Option, Some, None, Result, Ok, Err, IfOk}
use Rattle.std.specs.Option.{option_map_or}
use Rattle.std.specs.List.{AllByRecursion}
use Rattle.std.proofs.Common.{refl, sym, ap, subst, ◌∙◌}
use Rattle.std.proofs.lemmas.List.{append-nil}
use Rattle.spl_value.specs.declared.memory.NoMemory.{NoMemory}
use Rattle.spl_value.specs.declared.types.Named.{Named}
use Rattle.spl_value.specs.declared.types.SplType.{SplType}
use Rattle.spl_value.specs.declared.types.SplType.TheVariants as T
use Rattle.spl_value.specs.declared.value.Value.{Value}
use Rattle.spl_value.specs.declared.value.Value.TheVariants as V
use Rattle.spl_value.specs.declared.value.Value.TheOpen as O
use Rattle.spl_value.specs.declared.value.Value.TheOpen.{Value-F}
use Rattle.spl_value.specs.declared.value.Value.TheViews.{out-Value}
use Rattle.txt_format.specs.declared.reading.TxtRow.{TxtRow}
use Rattle.txt_format.specs.declared.reading.TxtRow.TheVariants as R
use Rattle.txt_format.specs.TxtSpelling.{Spells, are_blanks, txt_spells}
use Rattle.txt_format.specs.steps.Bytes.{past_blanks, past_byte}
use Rattle.txt_format.specs.steps.Reading.{as_other, begun_row, ended_row, read_fields, read_line, read_value, tuple_row}
use Rattle.txt_format.proofs.Blanks.{front, past_all, stop_nothing}
use Rattle.txt_format.proofs.Complete.{spelled_read}
use Rattle.txt_format.proofs.ReadingLaws.{read_of_tuple}
use Rattle.txt_format.proofs.Sound.{Known, all_known, then_some, tuple_taken}
use Rattle.txt_format.proofs.Steps.{begun_some, then_other}

same_values : (vs ws : List Value) → V.Tuple vs ≡ V.Tuple ws → vs ≡ ws
same_values vs ws e = let same : ◌≡◌ {A = Value-F Value} (O.Tuple vs) (O.Tuple ws) = sym (V.outs-Tuple vs) ∙ ap out-Value e ∙ V.outs-Tuple ws in cc

-- a tuple that a line spells is read
pub row_read : (schema : List (Named SplType)) (line : List ℕ) (vs : List Value) → txt_spells schema line vs → read_line schema line ≡ R.Row vs
row_read schema line vs s =
    let is = spelled_read (T.Tuple schema) line (V.Tuple vs) s [] stop_nothing in
    let bytes = past_blanks line in
    let all : read_value (T.Tuple schema) bytes ≡ Some (V.Tuple vs, is.behind) = ap (λ z. read_value (T.Tuple schema) (past_blanks z)) (sym (append-nil line)) ∙ is.read in
    let opened = then_some (λ from. as_other V.Tuple (read_fields read_value false schema [] from)) (past_byte 123 bytes) (V.Tuple vs, is.behind) (sym (read_of_tuple schema bytes) ∙ all) in
    let was = then_other V.Tuple (read_fields read_value false schema [] opened.0) (V.Tuple vs) is.behind opened.2 in
    begun_some schema bytes opened.0 opened.1 ∙ ap tuple_row was.1 ∙ ap (ended_row (Some (was.0, is.behind))) is.past ∙ ap R.Row (same_values was.0 vs was.2)

each_known : (schema : List (Named SplType)) → AllByRecursion (λ a. Known a.kind) schema
each_known [] = tt
each_known (a ∷ schema) = (all_known a.kind, each_known schema)

ended_was : (ws : List Value) (behind rest : List ℕ) (vs : List Value) → ended_row (Some (ws, behind)) rest ≡ R.Row vs → (rest ≡ []) × (ws ≡ vs)
ended_was ws behind [] vs e = (refl, cc)
ended_was ws behind (b ∷ rest) vs e = absurd (cc)

tuple_was : (o : Option (List Value × List ℕ)) (vs : List Value) → tuple_row o ≡ R.Row vs → (behind : List ℕ) × (o ≡ Some (vs, behind)) × (past_blanks behind ≡ [])
tuple_was None vs e = absurd (cc)
tuple_was (Some r) vs e = let was = ended_was r.0 r.1 (past_blanks r.1) vs e in (r.1, (λ i. Some (was.1 i, r.1)), was.0)

begun_was : (schema : List (Named SplType)) (bytes : List ℕ) (vs : List Value) → begun_row schema bytes ≡ R.Row vs
    → (from : List ℕ) × (past_byte 123 bytes ≡ Some from) × (tuple_row (read_fields read_value false schema [] from) ≡ R.Row vs)
begun_was schema [] vs e = absurd (cc)
begun_was schema (b ∷ bytes) vs e = by (past_byte 123 (b ∷ bytes)) refl e
  where
    by : (o : Option (List ℕ)) → past_byte 123 (b ∷ bytes) ≡ o → option_map_or (λ behind. tuple_row (read_fields read_value false schema [] behind)) o R.Bad ≡ R.Row vs
        → (from : List ℕ) × (past_byte 123 (b ∷ bytes) ≡ Some from) × (tuple_row (read_fields read_value false schema [] from) ≡ R.Row vs)
    by None i h = absurd (cc)
    by (Some from) i h = (from, i, h)

-- and the tuple that is read is spelled
pub row_spelled : (schema : List (Named SplType)) (line : List ℕ) (vs : List Value) → read_line schema line ≡ R.Row vs → txt_spells schema line vs
row_spelled schema line vs e =
    let begun = begun_was schema (past_blanks line) vs e in
    let was = tuple_was (read_fields read_value false schema [] begun.0) vs begun.2 in
    let taken = tuple_taken schema (each_known schema) (past_blanks line) vs was.0 begun.0 begun.1 was.1 in
    let f = front line in
    let g = front was.0 in
    let behind : was.0 ≡ g.blanks = g.are ∙ ap (λ z. g.blanks ++ z) was.2 ∙ append-nil g.blanks in
    let line_is : line ≡ f.blanks ++ (taken.own ++ g.blanks) = f.are ∙ ap (λ z. f.blanks ++ z) (taken.are ∙ ap (λ z. taken.own ++ z) behind) in
    subst (λ z. Spells (T.Tuple schema) z (V.Tuple vs)) (sym line_is) (Spells.between (T.Tuple schema) f.blanks taken.own g.blanks (V.Tuple vs) f.all taken.spells g.all)

tuple_not_empty : (o : Option (List Value × List ℕ)) → tuple_row o ≡ R.Empty → ⊥
tuple_not_empty None e = cc
tuple_not_empty (Some r) e = by (past_blanks r.1) e
  where
    by : (rest : List ℕ) → ended_row (Some r) rest ≡ R.Empty → ⊥
    by [] h = cc
    by (b ∷ rest) h = cc

empty_was : (schema : List (Named SplType)) (bytes : List ℕ) → begun_row schema bytes ≡ R.Empty → bytes ≡ []
empty_was schema [] e = refl
empty_was schema (b ∷ bytes) e = by (past_byte 123 (b ∷ bytes)) e
  where
    by : (o : Option (List ℕ)) → option_map_or (λ behind. tuple_row (read_fields read_value false schema [] behind)) o R.Bad ≡ R.Empty → b ∷ bytes ≡ []
    by None h = absurd (cc)
    by (Some from) h = absurd (tuple_not_empty (read_fields read_value false schema [] from) h)

-- a line gives nothing exactly where it is blank
pub row_empty : (schema : List (Named SplType)) (line : List ℕ) → (read_line schema line ≡ R.Empty) ↔ (are_blanks line ≡ true)
row_empty schema line = (
  λ e.
      let f = front line in
      let is : line ≡ f.blanks = f.are ∙ ap (λ z. f.blanks ++ z) (empty_was schema (past_blanks line) e) ∙ append-nil f.blanks in
      ap are_blanks is ∙ f.all,
  λ h. ap (begun_row schema) (ap past_blanks (sym (append-nil line)) ∙ past_all line [] h),
)

-- ---- the answer of the call

pub answer_empty : (schema : List (Named SplType)) (line : List ℕ) (r : Result TxtRow NoMemory) → IfOk r (λ row. row ≡ read_line schema line)
    → IfOk r (λ row. (row ≡ R.Empty) ↔ (are_blanks line ≡ true))
answer_empty schema line (Ok row) e = let law = row_empty schema line in (λ h. law.0 (sym e ∙ h), λ h. e ∙ law.1 h)
answer_empty schema line (Err x) e = tt

pub answer_row : (schema : List (Named SplType)) (line : List ℕ) (r : Result TxtRow NoMemory) → IfOk r (λ row. row ≡ read_line schema line)
    → IfOk r (λ row. (vs : List Value) → (row ≡ R.Row vs) ↔ txt_spells schema line vs)
answer_row schema line (Ok row) e = λ vs. (λ h. row_spelled schema line vs (sym e ∙ h), λ s. e ∙ row_read schema line vs s)
answer_row schema line (Err x) e = tt

-- ---- one tuple

pub one_tuple : (schema : List (Named SplType)) (line : List ℕ) (vs ws : List Value) → txt_spells schema line vs → txt_spells schema line ws → vs ≡ ws
one_tuple schema line vs ws s t = let same : ◌≡◌ {A = TxtRow} (R.Row vs) (R.Row ws) = sym (row_read schema line vs s) ∙ row_read schema line ws t in cc
