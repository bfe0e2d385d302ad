-- Lines that read as the fields between their commas: no quote, carriage return or line feed stands in them, and no byte
-- order mark begins them.
use Rattle.std.specs.Prelude.{◌==◌, ◌||◌, ◌++◌, Bool, true, false, ℕ, List, [], ◌∷◌, if◌then◌else◌, length, Some, None, ◌≡◌}
use Rattle.std.specs.List.{list_any}
use Rattle.std.proofs.Common.{◌∙◌, refl, sym, ap, append_assoc, inl, inr, add-one, arith}
use Rattle.std.proofs.lemmas.Bool.{cases_Bool, or_parts, eqb-true}
use Rattle.std.proofs.lemmas.List.{append-nil}
use Rattle.csv.specs.Machine.{next_record, step, is_end, fields_after, field_after}
use Rattle.csv.specs.Reading.{default_config, records, records_from, strip_bom}
use Rattle.csv.specs.declared.parser.Action.{Action}
use Rattle.csv.specs.declared.parser.State.{State}
use Rattle.csv.specs.declared.parser.State.TheVariants as st
use Rattle.spl_value.specs.declared.types.Named.{Named}
use Rattle.spl_value.specs.declared.types.SplType.{SplType}
use Rattle.stream_model.specs.Fields.{tuple_of}
use Rattle.stream_model.specs.Rows.{Nothing, line_gives}
use Rattle.stream_model.proofs.parts.Rows.{fitting}

-- a byte that means something to `csv` beside a comma
abbrev pub is_mark : ℕ → Bool
is_mark b = (b == 34) || ((b == 13) || (b == 10))

abbrev pub is_comma : ℕ → Bool
is_comma b = b == 44

-- whether a line may begin with a byte order mark
abbrev pub may_be_marked : List ℕ → Bool
may_be_marked [] = false
may_be_marked (b ∷ bs) = b == 239

-- the fields between commas, where the first has begun
unfoldable pub split : List ℕ → List ℕ → List (List ℕ)
split field [] = field ∷ []
split field (c ∷ cs) = if c == 44 then field ∷ split [] cs else split (field ++ (c ∷ [])) cs

-- a byte that is no mark
record Plain (b : ℕ) : Type 0 where
  quote : (b == 34) ≡ false
  cr : (b == 13) ≡ false
  lf : (b == 10) ≡ false

plain : (b : ℕ) → is_mark b ≡ false → Plain b
plain b e =
    let p = or_parts (b == 34) ((b == 13) || (b == 10)) e in
    let q = or_parts (b == 13) (b == 10) p.1 in
    record { quote = p.0; cr = q.0; lf = q.1 }

-- what is read of a line whose rest is xs, within a field and at one's start
abbrev Reads : List ℕ → Type 0
Reads xs = ((fields : List (List ℕ)) (field : List ℕ) → next_record default_config st.InField fields field xs ≡ Some (fields ++ split field xs, st.StartRecord, []))
    × ((fields : List (List ℕ)) → next_record default_config st.StartField fields [] xs ≡ Some (fields ++ split [] xs, st.StartRecord, []))

reads : (xs : List ℕ) → list_any is_mark xs ≡ false → Reads xs
unfolding next_record split
reads [] h = (λ fields field. refl, λ fields. refl)
reads (c ∷ cs) h =
    let both = or_parts (is_mark c) (list_any is_mark cs) h in
    let p = plain c both.0 in
    let r = reads cs both.1 in
    elim (cases_Bool (c == 44)) [
      | inl comma ↦ (
        λ fields field. rw comma (r.1 (fields ++ (field ∷ [])) ∙ ap (λ (f : List (List ℕ)). Some (f, st.StartRecord, [])) (append_assoc fields (field ∷ []) (split [] cs))),
        λ fields. rw (p.quote, comma) (r.1 (fields ++ ([] ∷ [])) ∙ ap (λ (f : List (List ℕ)). Some (f, st.StartRecord, [])) (append_assoc fields ([] ∷ []) (split [] cs))),
      )
      | inr other ↦ (
        λ fields field. rw (other, p.cr, p.lf) (r.0 fields (field ++ (c ∷ []))),
        λ fields. rw (p.quote, other, p.cr, p.lf) (r.0 fields (c ∷ [])),
      )
    ]

-- such a byte at the start of a text is one at the start of a field
same_step : (c : ℕ) → Plain c → step default_config st.StartRecord c ≡ step default_config st.StartField c
same_step c p = rw (p.cr, p.lf) refl

-- a line with no mark, from the start of a text
pub plain_record : (c : ℕ) (cs : List ℕ) → list_any is_mark (c ∷ cs) ≡ false
    → next_record default_config st.StartRecord [] [] (c ∷ cs) ≡ Some (split [] (c ∷ cs), st.StartRecord, [])
unfolding next_record
plain_record c cs h =
    let p = plain c (or_parts (is_mark c) (list_any is_mark cs) h).0 in
    ap (λ (r : State × Action). if is_end r.1 then Some (fields_after r.1 [] [], r.0, cs) else next_record default_config r.0 (fields_after r.1 [] []) (field_after r.1 c []) cs)
    (same_step c p)
    ∙ (reads (c ∷ cs) h).1 []

no_record : next_record default_config st.StartRecord [] [] [] ≡ None
unfolding next_record
no_record = refl

-- a text whose first record ends it
pub sole_record : (c : ℕ) (cs : List ℕ) (fields : List (List ℕ)) → next_record default_config st.StartRecord [] [] (c ∷ cs) ≡ Some (fields, st.StartRecord, [])
    → records default_config (c ∷ cs) ≡ fields ∷ []
unfolding records_from
sole_record c cs fields e = rw (add-one, e, no_record) refl

pub plain_records : (c : ℕ) (cs : List ℕ) → list_any is_mark (c ∷ cs) ≡ false → records default_config (c ∷ cs) ≡ split [] (c ∷ cs) ∷ []
plain_records c cs h = sole_record c cs _ (plain_record c cs h)

pub empty_records : records default_config [] ≡ []
unfolding records_from
empty_records = rw no_record refl

-- an empty line gives nothing
pub empty_line : (schema : List (Named SplType)) (xs : List ℕ) → true ≡ (length xs == 0) → line_gives schema xs ≡ Nothing
unfolding strip_bom
empty_line schema [] e = rw empty_records refl
empty_line schema (x ∷ xs) e = let h : length (x ∷ xs) ≡ 0 = eqb-true (length (x ∷ xs)) 0 (sym e) in absurd (omega (arith, h))

pub no_bom : (xs : List ℕ) → may_be_marked xs ≡ false → strip_bom xs ≡ xs
unfolding strip_bom
no_bom [] e = refl
no_bom (a ∷ []) e = refl
no_bom (a ∷ b ∷ []) e = refl
no_bom (a ∷ b ∷ c ∷ rest) e = rw e refl

-- a line with no mark reads as the fields between its commas
pub plain_line : (schema : List (Named SplType)) (xs : List ℕ) → false ≡ (length xs == 0) → list_any is_mark xs ≡ false → may_be_marked xs ≡ false
    → line_gives schema xs ≡ fitting (tuple_of schema (split [] xs))
plain_line schema [] n h m = absurd cc
plain_line schema (x ∷ xs) n h m = rw (no_bom (x ∷ xs) m, plain_records x xs h) refl

-- a line with no comma is one field
pub one_field : (field xs : List ℕ) → list_any is_comma xs ≡ false → split field xs ≡ (field ++ xs) ∷ []
unfolding split
one_field field [] h = ap (λ (f : List ℕ). f ∷ []) (sym (append-nil field))
one_field field (x ∷ xs) h =
    let p = or_parts (is_comma x) (list_any is_comma xs) h in
    rw p.0 (one_field (field ++ (x ∷ [])) xs p.1 ∙ ap (λ (f : List ℕ). f ∷ []) (append_assoc field (x ∷ []) xs))
