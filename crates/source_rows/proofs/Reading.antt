-- The rows of a file, and what its script and the counts show of them.
use Rattle.std.proofs.Common.{◌≡◌, ◌∙◌, ◌^◌, ◌≤◌, ◌-◌, ◌+◌, ℕ, Bool, true, false, List, [], ◌∷◌, length, min, refl, sym, ap, subst, arith, inl, inr, Option, Some, None}
use Rattle.std.specs.Prelude.{IfSome, ◌&&◌, not, nat_lt, if◌then◌else◌}
use Rattle.std.specs.List.{list_any}
use Rattle.spl_value.specs.Script.{Script, Ending, End, Failed}
use Rattle.spl_value.specs.declared.item.Item.{Item}
use Rattle.spl_value.specs.declared.item.FaultKind.TheVariants as K
use Rattle.feed_pour.specs.Counts.{FaultCounts, Counted, PerName, OpeningCounted, ReadingCounted}
use Rattle.feed_pour.specs.Contents.{Told}
use Rattle.stream_model.specs.Rows.{Setting, Given, Row, Nothing, Bad, checked_items, closing, items_from, line_gives, line_items, rows, too_long}
use Rattle.stream_model.specs.parts.Rows.{pieces}
use Rattle.stream_model.specs.SourceFaults.{is_read_fault}
use Rattle.source_rows.specs.Counting.{Grows}
use Rattle.source_rows.specs.Sources.{is_failed}
use Rattle.spl_value.proofs.Lists.{same_or_not}

-- ---- a file that is read to its end

line_quiet : (o : Setting) (line : ℕ) (given : Given) (more : List Item) → list_any is_read_fault more ≡ false → list_any is_read_fault (line_items o line given more) ≡ false
line_quiet o line (Row values) more h = h
line_quiet o line Nothing more h = h
line_quiet o line Bad more h = go o.strict
  where
    go : (strict : Bool) → list_any is_read_fault (if strict then Rattle.stream_model.specs.Rows.source_fault o K.BadRow line ∷ [] else more) ≡ false
    go true = refl
    go false = h

checked_quiet : (o : Setting) (line : ℕ) (row file : Bool) (bytes : List ℕ) (more : List Item) → list_any is_read_fault more ≡ false
    → list_any is_read_fault (checked_items o line (if row then Some K.LongRow else if file then Some K.LongFile else None) bytes more) ≡ false
checked_quiet o line true file bytes more h = refl
checked_quiet o line false true bytes more h = refl
checked_quiet o line false false bytes more h = line_quiet o line (line_gives o.schema bytes) more h

items_quiet : (o : Setting) (line left : ℕ) (ps : List (List ℕ)) → list_any is_read_fault (items_from o End line left ps) ≡ false
items_quiet o line left [] = refl
items_quiet o line left ([] ∷ []) = refl
items_quiet o line left ((b ∷ bytes) ∷ []) =
    checked_quiet o line (nat_lt 65536 (length (b ∷ bytes)) && not (nat_lt left 65536)) (nat_lt left (length (b ∷ bytes))) (b ∷ bytes) closing refl
items_quiet o line left (bytes ∷ next ∷ rest) =
    checked_quiet o line (nat_lt 65536 (length bytes) && not (nat_lt left 65536)) (nat_lt left (length bytes + 1)) bytes
    (items_from o End (line + 1) (left - (length bytes + 1)) (next ∷ rest)) (items_quiet o (line + 1) (left - (length bytes + 1)) (next ∷ rest))

-- rows end in a read that failed only where the script does
pub read_fails : (o : Setting) (s : Script) (items : List Item) → items ≡ rows o s.bytes s.ending → list_any is_read_fault items ≡ true → is_failed s.ending ≡ true
read_fails o s items is some = go s.ending (ap (list_any is_read_fault) (sym is) ∙ some)
  where
    go : (e : Ending) → list_any is_read_fault (rows o s.bytes e) ≡ true → is_failed e ≡ true
    go End h = absurd (let bad : false ≡ true = sym (items_quiet o 1 o.limit (pieces s.bytes)) ∙ h in cc)
    go Failed h = refl

-- ---- counts

pub counts_same : (a b : FaultCounts) → a.opening ≡ b.opening → a.creating ≡ b.creating → a.reading ≡ b.reading → a.writing ≡ b.writing → a ≡ b
counts_same a b o c r w = λ i. record { opening = o i; creating = c i; reading = r i; writing = w i }

-- no count changed where a file was opened, or where it was given back without a fault
pub opened_quiet : (old new : PerName) (name : List ℕ) → OpeningCounted false old new name → (n : List ℕ) → new n ≡ old n
opened_quiet old new name h n = elim (same_or_not n name) as (λ _. new n ≡ old n) [
  | inl e ↦ subst (λ (m : List ℕ). new m ≡ old m) (sym e) (counts_same (new name) (old name) h.count h.creating h.reading h.writing)
  | inr differs ↦ h.others n differs
]

pub closed_quiet : (old new : PerName) (name : List ℕ) → ReadingCounted false old new name → (n : List ℕ) → new n ≡ old n
closed_quiet old new name h n = elim (same_or_not n name) as (λ _. new n ≡ old n) [
  | inl e ↦ subst (λ (m : List ℕ). new m ≡ old m) (sym e) (counts_same (new name) (old name) h.opening h.creating h.count h.writing)
  | inr differs ↦ h.others n differs
]

-- a feed counts a fault exactly where its rows end in one
pub faults_are : (failed : Bool) (faults : ℕ) → Counted failed 0 faults → nat_lt 0 faults ≡ failed
faults_are true faults counted = let rose : min (0 + 1) (2 ^ 64 - 1) ≤ faults = counted.1 in grind arith
faults_are false faults counted = ap (nat_lt 0) counted

same_counts : (old mid : PerName) → ((n : List ℕ) → mid n ≡ old n) → mid ≡ old
same_counts old mid same = λ i n. same n i

-- what the opening and the giving back count together
pub read_counted : (failed : Bool) (before after : ℕ) (old mid new : PerName) (name : List ℕ) → before ≡ 0 → Counted failed before after → OpeningCounted false old mid name → ReadingCounted (nat_lt 0 after) mid new name
    → ReadingCounted failed old new name
read_counted failed before after old mid new name none counted opened closed =
    let is : nat_lt 0 after ≡ failed = faults_are failed after (subst (λ (k : ℕ). Counted failed k after) none counted) in
    subst (λ (k : PerName). ReadingCounted failed k new name) (same_counts old mid (opened_quiet old mid name opened)) (subst (λ (b : Bool). ReadingCounted b mid new name) is closed)

-- where memory ran out
pub wanting_counted : (before after : ℕ) (old mid new : PerName) (name : List ℕ) → before ≡ 0 → Counted false before after → OpeningCounted false old mid name → ReadingCounted (nat_lt 0 after) mid new name
    → (n : List ℕ) → new n ≡ old n
wanting_counted before after old mid new name none counted opened closed = closed_quiet old new name (read_counted false before after old mid new name none counted opened closed)

-- the rows are those of the script that the shelf tells
pub rows_told_by : (o : Setting) (told : Option Told) (script : Option Script) (name : List ℕ) (items : List Item) → IfSome told (λ t. script ≡ Some (t.script name))
    → IfSome script (λ s. items ≡ rows o s.bytes s.ending) → IfSome told (λ t. items ≡ rows o (t.script name).bytes (t.script name).ending)
rows_told_by o None script name items is h = tt
rows_told_by o (Some t) script name items is h = subst (λ (x : Option Script). IfSome x (λ s. items ≡ rows o s.bytes s.ending)) is h

-- ---- counts of reading don't fall

pub grows_same : (old new : PerName) → ((n : List ℕ) → new n ≡ old n) → Grows old new
grows_same old new same n = let e = ap (λ (c : FaultCounts). c.reading) (same n) in omega (arith, e)

pub opened_grows : (failed : Bool) (old new : PerName) (name : List ℕ) → OpeningCounted failed old new name → Grows old new
opened_grows failed old new name h n = elim (same_or_not n name) as (λ _. (old n).reading ≤ (new n).reading) [
  | inl e ↦ subst (λ (m : List ℕ). (old m).reading ≤ (new m).reading) (sym e) (let is = h.reading in omega (arith, is))
  | inr differs ↦ let is = ap (λ (c : FaultCounts). c.reading) (h.others n differs) in omega (arith, is)
]

pub counted_grows : (failed : Bool) (before now : ℕ) → Counted failed before now → before ≤ now
counted_grows true before now h = h.0
counted_grows false before now h = omega (arith, h)

pub closed_grows : (failed : Bool) (old new : PerName) (name : List ℕ) → ReadingCounted failed old new name → Grows old new
closed_grows failed old new name h n = elim (same_or_not n name) as (λ _. (old n).reading ≤ (new n).reading) [
  | inl e ↦ subst (λ (m : List ℕ). (old m).reading ≤ (new m).reading) (sym e) (counted_grows failed (old name).reading (new name).reading h.count)
  | inr differs ↦ let is = ap (λ (c : FaultCounts). c.reading) (h.others n differs) in omega (arith, is)
]

pub grows_twice : (old mid new : PerName) → Grows old mid → Grows mid new → Grows old new
grows_twice old mid new a b n = let x = a n in let y = b n in omega (arith, x, y)
