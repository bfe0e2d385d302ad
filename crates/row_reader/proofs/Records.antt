-- The first record of a text, and what a line gives by it.
use Rattle.std.specs.Prelude.{◌&&◌, if◌then◌else◌, min, nat_le, nat_lt, ⊤}
use Rattle.std.proofs.Common.{◌≡◌, ◌==◌, ◌++◌, ◌∷◌, ◌∙◌, ◌+◌, ◌-◌, ◌<◌, ◌≤◌, ◌⊎◌, [], ℕ, suc, List, Bool, true, false, Option, Some, None, refl, sym, ap, subst, inl, inr, take, drop, length, get_or, slice_index, append_assoc, drop-cons, add-one, get_or-drop, length-drop, arith}
use Rattle.std.specs.List.{list_any}
use Rattle.std.proofs.lemmas.List.{append-nil, drop-drop, drop_all, take-append-drop, take_more}
use Rattle.std.proofs.lemmas.Bool.{and_parts, cases_Bool, eqb-true, le-leb, le-ltb, lt-ltb, ltb-false, ltb-true, ne_eqb, or_parts}
use Rattle.csv.specs.Machine.{Read, Runs, ends_at_end, field_after, fields_after, is_end, next_record, step}
use Rattle.csv.specs.Machine as M
use Rattle.csv.specs.Reading.{default_config, is_bom, records, records_from, strip_bom}
use Rattle.csv.specs.declared.parser.Action.{Action}
use Rattle.csv.specs.declared.parser.Action.TheVariants as act
use Rattle.csv.specs.declared.parser.State.{State}
use Rattle.csv.specs.declared.parser.State.TheVariants as st
use Rattle.csv.proofs.ReadFacts.{run-copies, runs-step}
use Rattle.spl_value.specs.declared.types.Named.{Named}
use Rattle.spl_value.specs.declared.types.SplType.{SplType}
use Rattle.spl_value.specs.declared.value.Value.{Value}
use Rattle.stream_model.specs.Fields.{tuple_of}
use Rattle.stream_model.specs.parts.Fields.{field_value}
use Rattle.stream_model.proofs.parts.Fields.{in_front}
use Rattle.stream_model.specs.Rows.{Row, Nothing, Bad, of_records}
use Rattle.stream_model.proofs.parts.Rows.{fitting}
use Rattle.row_reader.specs.declared.columns.Column.{Column}
use Rattle.row_reader.specs.declared.columns.Column.TheVariants as C
use Rattle.row_reader.specs.steps.Adding.{Added}
use Rattle.row_reader.specs.Columns.{attribute, attributes, type_of}
use Rattle.row_reader.specs.steps.Marked.{FieldEnds, IsFit, IsMisfit, IsRun, StopsAt, first_record, is_stop}
use Rattle.row_reader.specs.steps.Marked as L
use Rattle.row_reader.specs.steps.Finding.{IsFirstAt}
use Rattle.row_reader.proofs.Cutting.{added_fits, column_at, columns_all, onto, onto_more, tail_is}

-- ---- steps

-- a byte by what `csv` does with it
pub data ByteIs (c : ℕ) : Type 0 where
  Comma : c ≡ 44 → ByteIs c
  Quote : c ≡ 34 → ByteIs c
  Return : c ≡ 13 → ByteIs c
  Feed : c ≡ 10 → ByteIs c
  Other : (c == 44) ≡ false → (c == 34) ≡ false → (c == 13) ≡ false → (c == 10) ≡ false → ByteIs c

pub byte_is : (c : ℕ) → ByteIs c
byte_is c = elim (cases_Bool (c == 44)) [
  | inl comma ↦ Comma (eqb-true c 44 comma)
  | inr n44 ↦ elim (cases_Bool (c == 34)) [
    | inl quote ↦ Quote (eqb-true c 34 quote)
    | inr n34 ↦ elim (cases_Bool (c == 13)) [
      | inl return ↦ Return (eqb-true c 13 return)
      | inr n13 ↦ elim (cases_Bool (c == 10)) [
        | inl feed ↦ Feed (eqb-true c 10 feed)
        | inr n10 ↦ Other n44 n34 n13 n10
      ]
    ]
  ]
]

-- what is read where a byte leads to x
abbrev behind : State × Action → List (List ℕ) → List ℕ → ℕ → List ℕ → Option Read
behind x fields field c rest =
    if is_end x.1 then Some (fields_after x.1 fields field, x.0, rest)
    else next_record default_config x.0 (fields_after x.1 fields field) (field_after x.1 c field) rest

pub at_byte : (s : State) (fields : List (List ℕ)) (field : List ℕ) (c : ℕ) (rest : List ℕ) (x : State × Action) → step default_config s c ≡ x
    → next_record default_config s fields field (c ∷ rest) ≡ behind x fields field c rest
unfolding next_record
at_byte s fields field c rest x e = ap (λ x. behind x fields field c rest) e

pub at_end : (s : State) (fields : List (List ℕ)) (field : List ℕ)
    → next_record default_config s fields field [] ≡ (if ends_at_end s then Some (fields ++ field ∷ [], st.StartRecord, []) else None)
unfolding next_record
at_end s fields field = refl

-- after a carriage return a record begins as at the start
pub after_return : (xs : List ℕ) → next_record default_config st.AfterCr [] [] xs ≡ first_record xs
after_return [] = at_end st.AfterCr [] [] ∙ sym (at_end st.StartRecord [] [])
after_return (c ∷ rest) = elim (cases_Bool (c == 10)) [
  | inl feed ↦
      let e = eqb-true c 10 feed in
      at_byte st.AfterCr [] [] c rest (st.StartRecord, act.Skip) (rw e refl) ∙ sym (at_byte st.StartRecord [] [] c rest (st.StartRecord, act.Skip) (rw e refl))
  | inr other ↦
      at_byte st.AfterCr [] [] c rest (step default_config st.StartRecord c) (rw other refl) ∙ sym (at_byte st.StartRecord [] [] c rest (step default_config st.StartRecord c) refl)
]

-- a line's end in front of a record is passed over
pub first_passes : (c : ℕ) (rest : List ℕ) → L.is_end c ≡ true → first_record (c ∷ rest) ≡ first_record rest
first_passes c rest e = at_byte st.StartRecord [] [] c rest (st.StartRecord, act.Skip) (rw e refl)

-- and any other byte begins one
pub first_begins : (c : ℕ) (rest : List ℕ) → L.is_end c ≡ false → first_record (c ∷ rest) ≡ next_record default_config st.StartField [] [] (c ∷ rest)
first_begins c rest e =
    at_byte st.StartRecord [] [] c rest (step default_config st.StartField c) (rw e refl) ∙ sym (at_byte st.StartField [] [] c rest (step default_config st.StartField c) refl)

pub first_none : first_record [] ≡ None
first_none = at_end st.StartRecord [] []

-- ---- a record that has begun

abbrev inside : State → Bool
inside st.StartField = true
inside st.InField = true
inside st.InQuoted = true
inside st.AfterQuote = true
inside _ = false

-- a record is read, with some field after these
pub record Finishes (fields : List (List ℕ)) (r : Option Read) : Type 0 where
  pub field : List ℕ
  pub more : List (List ℕ)
  pub state : State
  pub rest : List ℕ
  pub is : r ≡ Some (fields ++ field ∷ more, state, rest)

-- the step from a state in a record: it ends the record, or stays in it
abbrev Keeps : State × Action → Type 0
Keeps x = (x.1 ≡ act.EndRecord) ⊎ ((is_end x.1 ≡ false) × (inside x.0 ≡ true))

keeps_field : (c : ℕ) → Keeps (M.in_field default_config c)
keeps_field c = elim (byte_is c) [
  | Comma e ↦ rw e (inr (refl, refl))
  | Quote e ↦ rw e (inr (refl, refl))
  | Return e ↦ rw e (inl refl)
  | Feed e ↦ rw e (inl refl)
  | Other n44 n34 n13 n10 ↦ rw (n44, n13, n10) (inr (refl, refl))
]

keeps : (s : State) (c : ℕ) → inside s ≡ true → Keeps (step default_config s c)
keeps st.StartField c h = elim (cases_Bool (c == 34)) [ inl quote ↦ rw quote (inr (refl, refl)) | inr other ↦ rw other (keeps_field c) ]
keeps st.InField c h = keeps_field c
keeps st.InQuoted c h = elim (cases_Bool (c == 34)) [ inl quote ↦ rw quote (inr (refl, refl)) | inr other ↦ rw other (inr (refl, refl)) ]
keeps st.AfterQuote c h = elim (cases_Bool (c == 34)) [ inl quote ↦ rw quote (inr (refl, refl)) | inr other ↦ rw other (keeps_field c) ]
keeps st.StartRecord c h = absurd (cc h)
keeps st.InEscape c h = absurd (cc h)
keeps st.InComment c h = absurd (cc h)
keeps st.AfterCr c h = absurd (cc h)

inside_ends : (s : State) → inside s ≡ true → ends_at_end s ≡ true
inside_ends st.StartField h = refl
inside_ends st.InField h = refl
inside_ends st.InQuoted h = refl
inside_ends st.AfterQuote h = refl
inside_ends st.StartRecord h = absurd (cc h)
inside_ends st.InEscape h = absurd (cc h)
inside_ends st.InComment h = absurd (cc h)
inside_ends st.AfterCr h = absurd (cc h)

finishes_after : (x : Action) (fields : List (List ℕ)) (field : List ℕ) (r : Option Read) → is_end x ≡ false → Finishes (fields_after x fields field) r → Finishes fields r
finishes_after act.Copy fields field r h f = f
finishes_after act.Skip fields field r h f = f
finishes_after act.EndField fields field r h f =
    record { field = field; more = f.field ∷ f.more; state = f.state; rest = f.rest; is = f.is ∙ ap (λ fs. Some (fs, f.state, f.rest)) (append_assoc fields (field ∷ []) (f.field ∷ f.more)) }
finishes_after act.EndRecord fields field r h f = absurd (cc h)

-- a record that has begun is read to its end
pub finishes : (xs : List ℕ) (s : State) (fields : List (List ℕ)) (field : List ℕ) → inside s ≡ true → Finishes fields (next_record default_config s fields field xs)
finishes [] s fields field h =
    record { field = field; more = []; state = st.StartRecord; rest = []; is = at_end s fields field ∙ rw (inside_ends s h) refl }
finishes (c ∷ xs) s fields field h = elim (keeps s c h) [
  | inl ends ↦ record {
    field = field;
    more = [];
    state = (step default_config s c).0;
    rest = xs;
    is = at_byte s fields field c xs (step default_config s c) refl ∙ rw ends refl;
  }
  | inr goes ↦
      let next = step default_config s c in
      let tail = finishes xs next.0 (fields_after next.1 fields field) (field_after next.1 c field) goes.1 in
      subst (Finishes fields) (sym (at_byte s fields field c xs next refl ∙ rw goes.0 refl))
      (finishes_after next.1 fields field (next_record default_config next.0 (fields_after next.1 fields field) (field_after next.1 c field) xs) goes.0 tail)
]

-- ---- what a line gives, by its first record

pub no_record : (schema : List (Named SplType)) (xs : List ℕ) → first_record xs ≡ None → of_records schema (records default_config xs) ≡ Nothing
unfolding records_from
no_record schema xs e = rw (add-one, e) refl

pub sole_record : (schema : List (Named SplType)) (xs : List ℕ) (fields : List (List ℕ)) (s : State) (rest : List ℕ)
    → first_record xs ≡ Some (fields, s, rest) → next_record default_config s [] [] rest ≡ None → of_records schema (records default_config xs) ≡ fitting (tuple_of schema fields)
unfolding records_from
sole_record schema [] fields s rest e n = absurd (let h = sym first_none ∙ e in cc h)
sole_record schema (x ∷ xs) fields s rest e n = rw (add-one, e, n) refl

pub second_record : (schema : List (Named SplType)) (xs : List ℕ) (fields : List (List ℕ)) (s : State) (rest : List ℕ) (r : Read)
    → first_record xs ≡ Some (fields, s, rest) → next_record default_config s [] [] rest ≡ Some r → of_records schema (records default_config xs) ≡ Bad
unfolding records_from
second_record schema [] fields s rest r e n = absurd (let h = sym first_none ∙ e in cc h)
second_record schema (x ∷ xs) fields s rest r e n = rw (add-one, e, n) refl

-- a first record that doesn't fit is bad, whatever follows
pub misfit : (schema : List (Named SplType)) (xs : List ℕ) (fields : List (List ℕ)) (s : State) (rest : List ℕ)
    → first_record xs ≡ Some (fields, s, rest) → tuple_of schema fields ≡ None → of_records schema (records default_config xs) ≡ Bad
misfit schema xs fields s rest e n = by_next (next_record default_config s [] [] rest) refl where
  by_next : (next : Option Read) → next_record default_config s [] [] rest ≡ next → of_records schema (records default_config xs) ≡ Bad
  by_next None h = sole_record schema xs fields s rest e h ∙ ap fitting n
  by_next (Some r) h = second_record schema xs fields s rest r e h

-- ---- fields

abbrev BeginsBare : List ℕ → Type 0
BeginsBare [] = ⊤
BeginsBare (c ∷ rest) = (c == 34) ≡ false

pub byte_at : (text : List ℕ) (at : ℕ) → at < length text → drop at text ≡ slice_index text at ∷ drop (at + 1) text
byte_at text at h = let e : suc at ≡ at + 1 = omega arith in drop-cons text at 0 h ∙ ap (λ n. get_or text at 0 ∷ drop n text) e

pub none_left : (text : List ℕ) (at : ℕ) → length text ≤ at → drop at text ≡ []
none_left text at h = drop_all at text h

begins_bare : (text : List ℕ) (at : ℕ) → (at < length text → slice_index text at ≡ 34 → ⊥) → BeginsBare (drop at text)
begins_bare text at n = elim (cases_Bool (nat_lt at (length text))) [
  | inl within ↦ let h = ltb-true at (length text) within in subst BeginsBare (sym (byte_at text at h)) (ne_eqb (slice_index text at) 34 (n h))
  | inr over ↦ subst BeginsBare (sym (none_left text at (ltb-false at (length text) over))) tt
]

start_bare : (fields : List (List ℕ)) (xs : List ℕ) → BeginsBare xs → next_record default_config st.StartField fields [] xs ≡ next_record default_config st.InField fields [] xs
start_bare fields [] h = at_end st.StartField fields [] ∙ sym (at_end st.InField fields [])
start_bare fields (c ∷ rest) h =
    at_byte st.StartField fields [] c rest (step default_config st.InField c) (rw h refl) ∙ sym (at_byte st.InField fields [] c rest (step default_config st.InField c) refl)

after_bare : (fields : List (List ℕ)) (field xs : List ℕ) → BeginsBare xs → next_record default_config st.AfterQuote fields field xs ≡ next_record default_config st.InField fields field xs
after_bare fields field [] h = at_end st.AfterQuote fields field ∙ sym (at_end st.InField fields field)
after_bare fields field (c ∷ rest) h =
    at_byte st.AfterQuote fields field c rest (step default_config st.InField c) (rw h refl) ∙ sym (at_byte st.InField fields field c rest (step default_config st.InField c) refl)

-- what joins a field outside quotes
joins : (c : ℕ) → is_stop c ≡ false → step default_config st.InField c ≡ (st.InField, act.Copy)
joins c h =
    let p = or_parts (c == 44) (L.is_end c) h in
    let q = or_parts (c == 13) (c == 10) p.1 in
    rw (p.0, q.0, q.1) refl

pub run_none : (text : List ℕ) (from : ℕ) → IsRun text from from
unfolding Runs
run_none text from = let e : from - from ≡ 0 = omega arith in record { order = omega arith; joins = rw e tt }

pub run_more : (text : List ℕ) (from at : ℕ) → at < length text → is_stop (slice_index text at) ≡ false → IsRun text from at → IsRun text from (at + 1)
run_more text from at h n r =
    let o = r.order in
    let size : (at + 1) - from ≡ (at - from) + 1 = omega (arith, o) in
    let within : at - from < length (drop from text) = omega (arith, o, length-drop from text) in
    let same : from + (at - from) ≡ at = omega (arith, o) in
    let byte : get_or (drop from text) (at - from) 0 ≡ slice_index text at = get_or-drop from text (at - from) 0 ∙ ap (λ k. get_or text k 0) same in
    let longer : take ((at + 1) - from) (drop from text) ≡ take (at - from) (drop from text) ++ slice_index text at ∷ [] =
    ap (λ k. take k (drop from text)) size ∙ take_more (drop from text) (at - from) 0 within ∙ ap (λ b. take (at - from) (drop from text) ++ b ∷ []) byte in
    record {
      order = omega (arith, o);
      joins = subst (Runs default_config st.InField) (sym longer) (runs-step default_config st.InField (take (at - from) (drop from text)) (slice_index text at) r.joins (joins (slice_index text at) n));
    }

pub cut_text : (text : List ℕ) (from end : ℕ) → from ≤ end → drop from text ≡ take (end - from) (drop from text) ++ drop end text
cut_text text from end h =
    let same : from + (end - from) ≡ end = omega (arith, h) in
    sym (take-append-drop (end - from) (drop from text)) ∙ ap (λ z. take (end - from) (drop from text) ++ z) (drop-drop (end - from) from text ∙ ap (λ k. drop k text) same)

run_read : (fields : List (List ℕ)) (field text : List ℕ) (from end : ℕ) → IsRun text from end
    → next_record default_config st.InField fields field (drop from text) ≡ next_record default_config st.InField fields (field ++ take (end - from) (drop from text)) (drop end text)
run_read fields field text from end r =
    ap (next_record default_config st.InField fields field) (cut_text text from end r.order)
    ∙ run-copies default_config st.InField fields field (take (end - from) (drop from text)) (drop end text) r.joins

-- a field outside quotes
pub bare_ends : (text : List ℕ) (at end : ℕ) → (at < length text → slice_index text at ≡ 34 → ⊥) → IsRun text at end → StopsAt text end → FieldEnds text at (take (end - at) (drop at text)) end
bare_ends text at end n r s = record {
  stops = s;
  read = λ fields. start_bare fields (drop at text) (begins_bare text at n) ∙ run_read fields [] text at end r;
}

-- a field in quotes, and what joins it after them
pub quoted_ends : (text : List ℕ) (at closed end : ℕ) (field : List ℕ) → at < length text → slice_index text at ≡ 34
    → ((fields : List (List ℕ)) → next_record default_config st.InQuoted fields [] (drop (at + 1) text) ≡ next_record default_config st.InField fields field (drop closed text))
    → IsRun text closed end → StopsAt text end → FieldEnds text at (field ++ take (end - closed) (drop closed text)) end
quoted_ends text at closed end field h q read r s = record {
  stops = s;
  read = λ fields. ap (next_record default_config st.StartField fields []) (byte_at text at h)
      ∙ at_byte st.StartField fields [] (slice_index text at) (drop (at + 1) text) (st.InQuoted, act.Skip) (rw q refl) ∙ read fields ∙ run_read fields field text closed end r;
}

-- ---- in quotes

-- the field so far, in quotes
abbrev pub ReadsQuoted : List ℕ → ℕ → List ℕ → ℕ → List ℕ → Type 0
ReadsQuoted text from old at new = (fields : List (List ℕ)) → next_record default_config st.InQuoted fields old (drop from text) ≡ next_record default_config st.InQuoted fields new (drop at text)

quoted_joins : (x : List ℕ) → list_any (λ b. b == 34) x ≡ false → Runs default_config st.InQuoted x
unfolding Runs
quoted_joins [] h = tt
quoted_joins (b ∷ x) h =
    let p = or_parts (b == 34) (list_any (λ b. b == 34) x) h in
    (rw p.0 refl, quoted_joins x p.1)

quoted_run : (fields : List (List ℕ)) (field x y : List ℕ) → list_any (λ b. b == 34) x ≡ false
    → next_record default_config st.InQuoted fields field (x ++ y) ≡ next_record default_config st.InQuoted fields (field ++ x) y
quoted_run fields field x y h = run-copies default_config st.InQuoted fields field x y (quoted_joins x h)

-- no quote follows
pub never_closed : (text : List ℕ) (from at : ℕ) (old field new : List ℕ) → ReadsQuoted text from old at field → list_any (λ b. b == 34) (take (length text - at) (drop at text)) ≡ false
    → new ≡ field ++ take (length text - at) (drop at text)
    → (fields : List (List ℕ)) → next_record default_config st.InQuoted fields old (drop from text) ≡ next_record default_config st.InField fields new (drop (length text) text)
never_closed text from at old field new r h n fields =
    let all = tail_is text at in
    let none : list_any (λ b. b == 34) (drop at text) ≡ false = ap (list_any (λ b. b == 34)) (sym all) ∙ h in
    let is : field ++ drop at text ≡ new = ap (λ z. field ++ z) (sym all) ∙ sym n in
    r fields ∙ ap (next_record default_config st.InQuoted fields field) (sym (append-nil (drop at text))) ∙ quoted_run fields field (drop at text) [] none
    ∙ at_end st.InQuoted fields (field ++ drop at text) ∙ sym (at_end st.InField fields (field ++ drop at text))
    ∙ ap (λ f. next_record default_config st.InField fields f []) is ∙ ap (next_record default_config st.InField fields new) (sym (none_left text (length text) (omega arith)))

-- and none at the text's end
pub open_at_end : (text : List ℕ) (from at : ℕ) (old field : List ℕ) → ReadsQuoted text from old at field → length text ≤ at
    → (fields : List (List ℕ)) → next_record default_config st.InQuoted fields old (drop from text) ≡ next_record default_config st.InField fields field (drop at text)
open_at_end text from at old field r h fields =
    let none = none_left text at h in
    r fields ∙ ap (next_record default_config st.InQuoted fields field) none ∙ at_end st.InQuoted fields field ∙ sym (at_end st.InField fields field)
    ∙ ap (next_record default_config st.InField fields field) (sym none)

closes_at : (fields : List (List ℕ)) (text : List ℕ) (at run : ℕ) (field : List ℕ) → IsFirstAt 34 (drop at text) run
    → next_record default_config st.InQuoted fields field (drop at text) ≡ next_record default_config st.AfterQuote fields (field ++ take run (drop at text)) (drop (at + (run + 1)) text)
closes_at fields text at run field f =
    let cut : drop at text ≡ take run (drop at text) ++ slice_index (drop at text) run ∷ drop (at + (run + 1)) text =
    sym (take-append-drop run (drop at text)) ∙ ap (λ z. take run (drop at text) ++ z) (byte_at (drop at text) run f.within ∙ ap (λ z. slice_index (drop at text) run ∷ z) (drop-drop (run + 1) at text)) in
    ap (next_record default_config st.InQuoted fields field) cut
    ∙ quoted_run fields field (take run (drop at text)) (slice_index (drop at text) run ∷ drop (at + (run + 1)) text) f.before
    ∙ at_byte st.InQuoted fields (field ++ take run (drop at text)) (slice_index (drop at text) run) (drop (at + (run + 1)) text) (st.AfterQuote, act.Skip) (rw f.here refl)

part_is : (text : List ℕ) (at run : ℕ) → take (at + run - at) (drop at text) ≡ take run (drop at text)
part_is text at run = let e : at + run - at ≡ run = omega arith in ap (λ n. take n (drop at text)) e

whole_tail : (text : List ℕ) (at run : ℕ) → IsFirstAt 34 (take (length text - at) (drop at text)) run → IsFirstAt 34 (drop at text) run
whole_tail text at run f = subst (λ z. IsFirstAt 34 z run) (tail_is text at) f

-- a quote follows that closes the field
pub closed_at : (text : List ℕ) (from at run : ℕ) (old field new : List ℕ) → ReadsQuoted text from old at field
    → IsFirstAt 34 (take (length text - at) (drop at text)) run → new ≡ field ++ take (at + run - at) (drop at text)
    → (at + (run + 1) < length text → slice_index text (at + (run + 1)) ≡ 34 → ⊥)
    → (fields : List (List ℕ)) → next_record default_config st.InQuoted fields old (drop from text) ≡ next_record default_config st.InField fields new (drop (at + (run + 1)) text)
closed_at text from at run old field new r f is bare fields =
    r fields ∙ closes_at fields text at run field (whole_tail text at run f)
    ∙ ap (λ f. next_record default_config st.AfterQuote fields f (drop (at + (run + 1)) text)) (ap (λ z. field ++ z) (sym (part_is text at run)) ∙ sym is)
    ∙ after_bare fields new (drop (at + (run + 1)) text) (begins_bare text (at + (run + 1)) bare)

-- two quotes follow, which are one of the field
pub doubled_at : (text : List ℕ) (from at run : ℕ) (old field mid new : List ℕ) → ReadsQuoted text from old at field
    → IsFirstAt 34 (take (length text - at) (drop at text)) run → mid ≡ field ++ take (at + run - at) (drop at text)
    → at + (run + 1) < length text → slice_index text (at + (run + 1)) ≡ 34 → new ≡ mid ++ 34 ∷ [] → ReadsQuoted text from old ((at + (run + 1)) + 1) new
doubled_at text from at run old field mid new r f is within quote more fields =
    let place = at + (run + 1) in
    r fields ∙ closes_at fields text at run field (whole_tail text at run f)
    ∙ ap (λ f. next_record default_config st.AfterQuote fields f (drop place text)) (ap (λ z. field ++ z) (sym (part_is text at run)) ∙ sym is)
    ∙ ap (next_record default_config st.AfterQuote fields mid) (byte_at text place within)
    ∙ at_byte st.AfterQuote fields mid (slice_index text place) (drop (place + 1) text) (st.InQuoted, act.Copy) (rw quote refl)
    ∙ ap (λ f. next_record default_config st.InQuoted fields f (drop (place + 1) text)) (ap (λ b. mid ++ b ∷ []) quote ∙ sym more)

-- ---- where a record begins and ends

pub passes_at : (text : List ℕ) (at : ℕ) → at < length text → L.is_end (slice_index text at) ≡ true → first_record (drop (at + 1) text) ≡ first_record (drop at text)
passes_at text at h e = sym (ap first_record (byte_at text at h) ∙ first_passes (slice_index text at) (drop (at + 1) text) e)

-- where no byte begins a record, none is there
pub none_at : (text : List ℕ) (at : ℕ) → length text ≤ at → first_record (drop at text) ≡ None
none_at text at h = ap first_record (none_left text at h) ∙ first_none

-- where one does, some record is there
pub begins_at : (text : List ℕ) (at : ℕ) → at < length text → L.is_end (slice_index text at) ≡ false → first_record (drop at text) ≡ next_record default_config st.StartField [] [] (drop at text)
begins_at text at h e =
    ap first_record (byte_at text at h) ∙ first_begins (slice_index text at) (drop (at + 1) text) e ∙ ap (next_record default_config st.StartField [] []) (sym (byte_at text at h))

-- the state after a record reads on as at the start
pub record Restarts (s : State) : Type 0 where
  pub same : (xs : List ℕ) → next_record default_config s [] [] xs ≡ first_record xs

starts_over : Restarts st.StartRecord
starts_over = record { same = λ xs. refl }

returns_over : Restarts st.AfterCr
returns_over = record { same = after_return }

-- how far a record is read: its fields before a place gave these values, and it goes on there or is at its end
abbrev GoesOn : List ℕ → List (List ℕ) → Bool → ℕ → Type 0
GoesOn text fields true at = first_record text ≡ next_record default_config st.StartField fields [] (drop at text)
GoesOn text fields false at = (s : State) × Restarts s × (first_record text ≡ Some (fields, s, drop at text))

pub record RecordSoFar (schema : List (Named SplType)) (text : List ℕ) (values : List Value) (more : Bool) (at place : ℕ) : Type 0 where
  pub fields : List (List ℕ)
  pub gives : (others : List (List ℕ)) → tuple_of schema (fields ++ others) ≡ onto values (tuple_of (drop place schema) others)
  pub read : GoesOn text fields more at

onto_none : (t : Option (List Value)) → t ≡ onto [] t
onto_none None = refl
onto_none (Some vs) = refl

pub no_field_yet : (schema : List (Named SplType)) (text : List ℕ) (values : List Value) (at : ℕ) → values ≡ [] → first_record text ≡ next_record default_config st.StartField [] [] (drop at text)
    → RecordSoFar schema text values true at 0
no_field_yet schema text values at n e = record {
  fields = [];
  gives = λ others. onto_none (tuple_of schema others) ∙ ap (λ (vs : List Value). onto vs (tuple_of schema others)) (sym n);
  read = e;
}

-- the field's end: a comma goes on to the next field, and anything else ends the record
comma_next : (text : List ℕ) (end : ℕ) (fields : List (List ℕ)) (field : List ℕ) → end < length text → slice_index text end ≡ 44
    → next_record default_config st.InField fields field (drop end text) ≡ next_record default_config st.StartField (fields ++ field ∷ []) [] (drop (end + 1) text)
comma_next text end fields field h e =
    ap (next_record default_config st.InField fields field) (byte_at text end h)
    ∙ at_byte st.InField fields field (slice_index text end) (drop (end + 1) text) (st.StartField, act.EndField) (rw e refl)

record RecordEnds (text : List ℕ) (end : ℕ) (fields : List (List ℕ)) (field : List ℕ) : Type 0 where
  state : State
  again : Restarts state
  is : next_record default_config st.InField fields field (drop end text) ≡ Some (fields ++ field ∷ [], state, drop (min (end + 1) (length text)) text)

byte_ends : (text : List ℕ) (end : ℕ) (fields : List (List ℕ)) (field : List ℕ) (s : State) → Restarts s → end < length text
    → step default_config st.InField (slice_index text end) ≡ (s, act.EndRecord) → RecordEnds text end fields field
byte_ends text end fields field s again lt e =
    let next : end + 1 ≡ min (end + 1) (length text) = omega (arith, lt) in
    record {
      state = s;
      again = again;
      is = ap (next_record default_config st.InField fields field) (byte_at text end lt)
          ∙ at_byte st.InField fields field (slice_index text end) (drop (end + 1) text) (s, act.EndRecord) e
          ∙ ap (λ (n : ℕ). Some (fields ++ field ∷ [], s, drop n text)) next;
    }

text_ends : (text : List ℕ) (end : ℕ) (fields : List (List ℕ)) (field : List ℕ) → length text ≤ end → RecordEnds text end fields field
text_ends text end fields field le =
    let next : length text ≤ min (end + 1) (length text) = omega (arith, le) in
    record {
      state = st.StartRecord;
      again = starts_over;
      is = ap (next_record default_config st.InField fields field) (none_left text end le) ∙ at_end st.InField fields field
          ∙ ap (λ (z : List ℕ). Some (fields ++ field ∷ [], st.StartRecord, z)) (sym (none_left text (min (end + 1) (length text)) next));
    }

line_ends : (text : List ℕ) (end : ℕ) (fields : List (List ℕ)) (field : List ℕ) → end < length text → L.is_end (slice_index text end) ≡ true → RecordEnds text end fields field
line_ends text end fields field lt e = elim (cases_Bool (slice_index text end == 13)) [
  | inl return ↦ byte_ends text end fields field st.AfterCr returns_over lt (rw (eqb-true (slice_index text end) 13 return) refl)
  | inr other ↦
      let feed : (slice_index text end == 10) ≡ true = rw other at e in
      byte_ends text end fields field st.StartRecord starts_over lt (rw (eqb-true (slice_index text end) 10 feed) refl)
]

-- where a field ends
data EndIs (text : List ℕ) (end : ℕ) : Type 0 where
  AtComma : end < length text → slice_index text end ≡ 44 → EndIs text end
  AtLineEnd : end < length text → (slice_index text end == 44) ≡ false → L.is_end (slice_index text end) ≡ true → EndIs text end
  AtTextEnd : length text ≤ end → EndIs text end

end_is : (text : List ℕ) (end : ℕ) → StopsAt text end → EndIs text end
end_is text end s = elim (cases_Bool (nat_lt end (length text))) [
  | inl within ↦ elim (cases_Bool (slice_index text end == 44)) [
    | inl comma ↦ AtComma (ltb-true end (length text) within) (eqb-true (slice_index text end) 44 comma)
    | inr other ↦ AtLineEnd (ltb-true end (length text) within) other (rw other at (s.1 (ltb-true end (length text) within)))
  ]
  | inr outside ↦ AtTextEnd (ltb-false end (length text) outside)
]

-- one field more
values_more : (schema : List (Named SplType)) (fields : List (List ℕ)) (values values2 : List Value) (place : ℕ) (a : Named SplType) (field : List ℕ) (v : Value)
    → drop place schema ≡ a ∷ drop (place + 1) schema → field_value a.kind field ≡ Some v → values2 ≡ values ++ v ∷ []
    → ((others : List (List ℕ)) → tuple_of schema (fields ++ others) ≡ onto values (tuple_of (drop place schema) others))
    → (others : List (List ℕ)) → tuple_of schema ((fields ++ field ∷ []) ++ others) ≡ onto values2 (tuple_of (drop (place + 1) schema) others)
values_more schema fields values values2 place a field v d e n h others =
    ap (tuple_of schema) (append_assoc fields (field ∷ []) others) ∙ h (field ∷ others)
    ∙ ap (λ z. onto values (tuple_of z (field ∷ others))) d ∙ ap (λ z. onto values (in_front z (tuple_of (drop (place + 1) schema) others))) e
    ∙ onto_more values v (tuple_of (drop (place + 1) schema) others) ∙ ap (λ z. onto z (tuple_of (drop (place + 1) schema) others)) (sym n)

over : (text : List ℕ) (end : ℕ) (fields : List (List ℕ)) (field : List ℕ) → first_record text ≡ next_record default_config st.InField fields field (drop end text)
    → RecordEnds text end fields field → GoesOn text (fields ++ field ∷ []) false (min (end + 1) (length text))
over text end fields field read e = (e.state, e.again, read ∙ e.is)

goes_on : (text : List ℕ) (end : ℕ) (fields : List (List ℕ)) (field : List ℕ) → first_record text ≡ next_record default_config st.InField fields field (drop end text)
    → EndIs text end → GoesOn text (fields ++ field ∷ []) (nat_lt end (length text) && (slice_index text end == 44)) (min (end + 1) (length text))
goes_on text end fields field read (AtComma lt comma) =
    let next : min (end + 1) (length text) ≡ end + 1 = omega (arith, lt) in
    rw (lt-ltb end (length text) lt, comma, next) (read ∙ comma_next text end fields field lt comma)
goes_on text end fields field read (AtLineEnd lt other e) = rw (lt-ltb end (length text) lt, other) (over text end fields field read (line_ends text end fields field lt e))
goes_on text end fields field read (AtTextEnd le) = rw (le-ltb end (length text) le) (over text end fields field read (text_ends text end fields field le))

pub record_more : (columns : List Column) (text : List ℕ) (values values2 : List Value) (more more2 : Bool) (at at2 place end : ℕ) (d : Column)
    → place < length columns → more ≡ true → IsFit (type_of (get_or columns place d)) text at values values2 end
    → more2 ≡ (nat_lt end (length text) && (slice_index text end == 44)) → at2 ≡ min (end + 1) (length text)
    → RecordSoFar (attributes columns) text values more at place → RecordSoFar (attributes columns) text values2 more2 at2 (place + 1)
record_more columns text values values2 more more2 at at2 place end d p m f m2 a2 r =
    let before : GoesOn text r.fields true at = subst (λ z. GoesOn text r.fields z at) m r.read in
    let after = goes_on text end r.fields f.field (before ∙ f.ends.read r.fields) (end_is text end f.ends.stops) in
    record {
      fields = r.fields ++ f.field ∷ [];
      gives = values_more (attributes columns) r.fields values values2 place (attribute (get_or columns place d)) f.field f.v (column_at columns place d p) f.value f.values r.gives;
      read = subst (λ z. GoesOn text (r.fields ++ f.field ∷ []) z at2) (sym m2)
          (subst (λ z. GoesOn text (r.fields ++ f.field ∷ []) (nat_lt end (length text) && (slice_index text end == 44)) z) (sym a2) after);
    }

-- ---- what a row's record gives

-- columns are left, and no field
pub too_few : (columns : List Column) (text : List ℕ) (values : List Value) (more : Bool) (at place : ℕ) → place < length columns → more ≡ false
    → RecordSoFar (attributes columns) text values more at place → of_records (attributes columns) (records default_config text) ≡ Bad
too_few columns text values more at place p m r =
    let (s, again, read) = subst (λ z. GoesOn text r.fields z at) m r.read in
    let none : tuple_of (attributes columns) r.fields ≡ None = ap (tuple_of (attributes columns)) (sym (append-nil r.fields)) ∙ r.gives []
    ∙ ap (λ z. onto values (tuple_of z [])) (column_at columns place C.Bool p) in
    misfit (attributes columns) text r.fields s (drop at text) read none

-- a record with this field after the others
record EndsWith (fields : List (List ℕ)) (field : List ℕ) (r : Option Read) : Type 0 where
  more : List (List ℕ)
  state : State
  rest : List ℕ
  is : r ≡ Some (fields ++ field ∷ more, state, rest)

ends_with : (text : List ℕ) (end : ℕ) (fields : List (List ℕ)) (field : List ℕ) → EndIs text end → EndsWith fields field (next_record default_config st.InField fields field (drop end text))
ends_with text end fields field (AtComma lt comma) =
    let f = finishes (drop (end + 1) text) st.StartField (fields ++ field ∷ []) [] refl in
    record {
      more = f.field ∷ f.more;
      state = f.state;
      rest = f.rest;
      is = comma_next text end fields field lt comma ∙ f.is ∙ ap (λ fs. Some (fs, f.state, f.rest)) (append_assoc fields (field ∷ []) (f.field ∷ f.more));
    }
ends_with text end fields field (AtLineEnd lt other e) =
    let r = line_ends text end fields field lt e in
    record { more = []; state = r.state; rest = drop (min (end + 1) (length text)) text; is = r.is }
ends_with text end fields field (AtTextEnd le) =
    let r = text_ends text end fields field le in
    record { more = []; state = r.state; rest = drop (min (end + 1) (length text)) text; is = r.is }

-- the field doesn't fit
pub field_misfit : (columns : List Column) (text : List ℕ) (values : List Value) (more : Bool) (at place : ℕ) (d : Column) → place < length columns → more ≡ true
    → IsMisfit (type_of (get_or columns place d)) text at → RecordSoFar (attributes columns) text values more at place
    → of_records (attributes columns) (records default_config text) ≡ Bad
field_misfit columns text values more at place d p m f r =
    let before : GoesOn text r.fields true at = subst (λ z. GoesOn text r.fields z at) m r.read in
    let e = ends_with text f.end r.fields f.field (end_is text f.end f.ends.stops) in
    let none : onto values (tuple_of (drop place (attributes columns)) (f.field ∷ e.more)) ≡ None =
    ap (λ z. onto values (tuple_of z (f.field ∷ e.more))) (column_at columns place d p)
    ∙ ap (λ z. onto values (in_front z (tuple_of (drop (place + 1) (attributes columns)) e.more))) f.value in
    misfit (attributes columns) text (r.fields ++ f.field ∷ e.more) e.state e.rest (before ∙ f.ends.read r.fields ∙ e.is) (r.gives (f.field ∷ e.more) ∙ none)

-- a field is left, and no column
pub too_many : (columns : List Column) (text : List ℕ) (values : List Value) (more : Bool) (at place : ℕ) → length columns ≤ place → more ≡ true
    → RecordSoFar (attributes columns) text values more at place → of_records (attributes columns) (records default_config text) ≡ Bad
too_many columns text values more at place p m r =
    let before : GoesOn text r.fields true at = subst (λ z. GoesOn text r.fields z at) m r.read in
    let f = finishes (drop at text) st.StartField r.fields [] refl in
    let none : onto values (tuple_of (drop place (attributes columns)) (f.field ∷ f.more)) ≡ None =
    ap (λ z. onto values (tuple_of z (f.field ∷ f.more))) (drop_all place (attributes columns) (omega (arith, p, columns_all columns))) in
    misfit (attributes columns) text (r.fields ++ f.field ∷ f.more) f.state f.rest (before ∙ f.is) (r.gives (f.field ∷ f.more) ∙ none)

-- a second record follows
pub more_follow : (columns : List Column) (text : List ℕ) (values : List Value) (more : Bool) (at place behind : ℕ) → more ≡ false
    → first_record (drop behind text) ≡ first_record (drop at text) → behind < length text → L.is_end (slice_index text behind) ≡ false
    → RecordSoFar (attributes columns) text values more at place → of_records (attributes columns) (records default_config text) ≡ Bad
more_follow columns text values more at place behind m same lt n r =
    let (s, again, read) = subst (λ z. GoesOn text r.fields z at) m r.read in
    let f = finishes (drop behind text) st.StartField [] [] refl in
    second_record (attributes columns) text r.fields s (drop at text) (f.field ∷ f.more, f.state, f.rest) read
    (again.same (drop at text) ∙ sym same ∙ begins_at text behind lt n ∙ f.is)

-- nothing does
pub none_follow : (columns : List Column) (text : List ℕ) (values : List Value) (more : Bool) (at place behind : ℕ) → length columns ≤ place → more ≡ false
    → first_record (drop behind text) ≡ first_record (drop at text) → length text ≤ behind
    → RecordSoFar (attributes columns) text values more at place → of_records (attributes columns) (records default_config text) ≡ Row values
none_follow columns text values more at place behind p m same le r =
    let (s, again, read) = subst (λ z. GoesOn text r.fields z at) m r.read in
    let all : onto values (tuple_of (drop place (attributes columns)) []) ≡ Some values =
    ap (λ z. onto values (tuple_of z [])) (drop_all place (attributes columns) (omega (arith, p, columns_all columns))) ∙ ap Some (append-nil values) in
    sole_record (attributes columns) text r.fields s (drop at text) read (again.same (drop at text) ∙ sym same ∙ none_at text behind le)
    ∙ ap fitting (ap (tuple_of (attributes columns)) (sym (append-nil r.fields)) ∙ r.gives [] ∙ all)

-- ---- a field's value

pub fit_of : (t : SplType) (text : List ℕ) (at end : ℕ) (field : List ℕ) (old new : List Value) (fits : Bool) → FieldEnds text at field end → Added (field_value t field) fits old new → fits ≡ true
    → IsFit t text at old new end
fit_of t text at end field old new fits e a f =
    let (v, value, values) = added_fits (field_value t field) fits old new a f in
    record { field = field; v = v; ends = e; value = value; values = values }

no_value : (o : Option Value) (fits : Bool) (old new : List Value) → Added o fits old new → fits ≡ false → o ≡ None
no_value None fits old new a f = refl
no_value (Some v) fits old new a f = absurd (let h = sym a.0 ∙ f in cc h)

pub misfit_of : (t : SplType) (text : List ℕ) (at end : ℕ) (field : List ℕ) (old new : List Value) (fits : Bool) → FieldEnds text at field end → Added (field_value t field) fits old new → fits ≡ false
    → IsMisfit t text at
misfit_of t text at end field old new fits e a f = record { field = field; end = end; ends = e; value = no_value (field_value t field) fits old new a f }

-- ---- a byte order mark

pub marked_line : (line : List ℕ) → L.begins_marked line ≡ true → take (length line - 3) (drop 3 line) ≡ strip_bom line
unfolding strip_bom
marked_line line e = tail_is line 3 ∙ behind line e where
  behind : (line : List ℕ) → L.begins_marked line ≡ true → drop 3 line ≡ strip_bom line
  behind [] e = absurd (cc e)
  behind (a ∷ []) e = absurd (cc e)
  behind (a ∷ b ∷ []) e = absurd (cc e)
  behind (a ∷ b ∷ c ∷ rest) e = rw (marked a b c rest e) refl where
    marked : (a b c : ℕ) (rest : List ℕ) → L.begins_marked (a ∷ b ∷ c ∷ rest) ≡ true → is_bom a b c ≡ true
    marked a b c rest e = (and_parts (nat_le 3 (length (a ∷ b ∷ c ∷ rest))) (is_bom a b c) e).1

pub bare_line : (line : List ℕ) → L.begins_marked line ≡ false → line ≡ strip_bom line
unfolding strip_bom
bare_line [] e = refl
bare_line (a ∷ []) e = refl
bare_line (a ∷ b ∷ []) e = refl
bare_line (a ∷ b ∷ c ∷ rest) e = rw (sym (ap (λ t. t && is_bom a b c) (le-leb 3 (length (a ∷ b ∷ c ∷ rest)) (omega arith))) ∙ e) refl

pub quoted_field_ends : (text : List ℕ) (at closed end : ℕ) (none inner field : List ℕ) → at < length text → slice_index text at ≡ 34 → none ≡ []
    → ((fields : List (List ℕ)) → next_record default_config st.InQuoted fields none (drop (at + 1) text) ≡ next_record default_config st.InField fields inner (drop closed text))
    → field ≡ inner ++ take (end - closed) (drop closed text) → IsRun text closed end → StopsAt text end → FieldEnds text at field end
quoted_field_ends text at closed end none inner field h q n read is r s =
    subst (λ z. FieldEnds text at z end) (sym is)
    (quoted_ends text at closed end inner h q (λ fields. ap (λ z. next_record default_config st.InQuoted fields z (drop (at + 1) text)) (sym n) ∙ read fields) r s)
