-- The counts of faults while the sources' files are read, one after another.
use Rattle.std.proofs.Common.{◌≡◌, ◌≢◌, ◌∙◌, ◌<◌, ◌≤◌, ◌+◌, ◌-◌, ◌^◌, ℕ, Bool, true, false, List, [], ◌∷◌, ◌++◌, length, take, drop, get_or, refl, sym, ap, subst, inl, inr, Option, Some, None}
use Rattle.std.specs.Prelude.{IfSome, ◌||◌}
use Rattle.std.specs.Str.{bytes_eq}
use Rattle.std.proofs.lemmas.Bool.{cases_eq, or_parts}
use Rattle.std.proofs.lemmas.List.{drop_more, take-append-drop, take_all, take_more}
use Rattle.std.proofs.lemmas.List.Elements.{filter_map-append}
use Rattle.std.proofs.lemmas.List.Folds.{list_any-append}
use Rattle.std.proofs.lemmas.Slice.Eq.{bytes_eq-Decides}
use Rattle.feed_pour.specs.Counts.{FaultCounts, PerName, ReadingCounted, Rose}
use Rattle.feed_pour.specs.Contents.{Told, WhereTold, TellsSame}
use Rattle.language_model.specs.declared.checked.CheckedClauses.{CheckedClauses}
use Rattle.language_model.specs.Files.{source_file, source_files}
use Rattle.language_model.specs.Names.{is_named}
use Rattle.source_rows.specs.Counting.{OnlyOf, OnlyRead, OnlyReads, OpeningFailed}
use Rattle.source_rows.specs.Sources.{ReadsFail, is_failed}
use Rattle.source_rows.specs.steps.Steps.{FirstOpening}
use Rattle.spl_value.proofs.Lists.{same_or_not}

-- ---- counts of reading alone

pub read_itself : (c : FaultCounts) → OnlyRead c c
read_itself c = record { opening = refl; creating = refl; writing = refl }

pub read_twice : (a b c : FaultCounts) → OnlyRead a b → OnlyRead b c → OnlyRead a c
read_twice a b c f g = record { opening = g.opening ∙ f.opening; creating = g.creating ∙ f.creating; writing = g.writing ∙ f.writing }

pub read_same : (old mid new : FaultCounts) → OnlyRead old mid → new ≡ mid → OnlyRead old new
read_same old mid new h e = subst (OnlyRead old) (sym e) h

pub other_name : (name n : List ℕ) → is_named (name ∷ []) n ≡ false → n ≢ name
other_name name n h e =
    let same : bytes_eq name n ≡ true = (bytes_eq-Decides name n).1 (sym e) in
    let bad : true ≡ false = sym (ap (λ (b : Bool). b || false) same) ∙ h in
    cc

-- a file that was read
pub only_file : (failed : Bool) (old new : PerName) (file : List ℕ) → ReadingCounted failed old new file → OnlyReads (file ∷ []) old new
only_file failed old new file h = record {
  others = λ n out. h.others n (other_name file n out);
  reads = λ n. elim (same_or_not n file) as (λ _. OnlyRead (old n) (new n)) [
    | inl e ↦ subst (λ (m : List ℕ). OnlyRead (old m) (new m)) (sym e) (record { opening = h.opening; creating = h.creating; writing = h.writing })
    | inr differs ↦ read_same (old n) (old n) (new n) (read_itself (old n)) (h.others n differs)
  ];
}

pub quiet_only : (files : List (List ℕ)) (old new : PerName) → ((n : List ℕ) → new n ≡ old n) → OnlyReads files old new
quiet_only files old new quiet = record { others = λ n out. quiet n; reads = λ n. read_same (old n) (old n) (new n) (read_itself (old n)) (quiet n) }

-- ---- the sources before a place, and the one there

step_to : (parts : List CheckedClauses) (i : ℕ) (part : CheckedClauses) → i < length parts → part ≡ get_or parts i part → take (i + 1) parts ≡ take i parts ++ part ∷ []
step_to parts i part within at = take_more parts i part within ∙ ap (λ (p : CheckedClauses). take i parts ++ p ∷ []) (sym at)

files_cut : (parts : List CheckedClauses) (i : ℕ) (part : CheckedClauses) → i < length parts → part ≡ get_or parts i part
    → source_files parts ≡ source_files (take i parts) ++ (source_files (part ∷ []) ++ source_files (drop (i + 1) parts))
files_cut parts i part within at =
    ap source_files (sym (take-append-drop i parts) ∙ ap (λ (rest : List CheckedClauses). take i parts ++ rest) (drop_more parts i part within ∙ ap (λ (p : CheckedClauses). p ∷ drop (i + 1) parts) (sym at)))
    ∙ filter_map-append source_file (take i parts) (part ∷ drop (i + 1) parts)
    ∙ ap (λ (rest : List (List ℕ)). source_files (take i parts) ++ rest) (filter_map-append source_file (part ∷ []) (drop (i + 1) parts))

pub parts_free : (a b : List (List ℕ)) (n : List ℕ) → is_named (a ++ b) n ≡ false → (is_named a n ≡ false) × (is_named b n ≡ false)
parts_free a b n free = or_parts (is_named a n) (is_named b n) (sym (list_any-append (λ (m : List ℕ). bytes_eq m n) a b) ∙ free)

pub only_on : (parts : List CheckedClauses) (i : ℕ) (part : CheckedClauses) (old mid new : PerName) → i < length parts → part ≡ get_or parts i part
    → OnlyReads (source_files (take i parts)) old mid → OnlyReads (source_files (part ∷ [])) mid new → OnlyReads (source_files (take (i + 1) parts)) old new
only_on parts i part old mid new within at before now = record {
  others = λ n free.
      let cut = ap source_files (step_to parts i part within at) ∙ filter_map-append source_file (take i parts) (part ∷ []) in
      let p = parts_free (source_files (take i parts)) (source_files (part ∷ [])) n (ap (λ (ns : List (List ℕ)). is_named ns n) (sym cut) ∙ free) in
      now.others n p.1 ∙ before.others n p.0;
  reads = λ n. read_twice (old n) (mid n) (new n) (before.reads n) (now.reads n);
}

-- a source that couldn't be opened
pub not_opened : (parts : List CheckedClauses) (i : ℕ) (part : CheckedClauses) (name : List ℕ) (old mid new : PerName) → i < length parts → part ≡ get_or parts i part
    → OnlyReads (source_files (take i parts)) old mid → (source_files (part ∷ []) ≡ name ∷ []) × FirstOpening name mid new → OpeningFailed (source_files parts) name old new
not_opened parts i part name old mid new within at before (is, now) = record {
  before = source_files (take i parts);
  behind = source_files (drop (i + 1) parts);
  order = files_cut parts i part within at ∙ ap (λ (ns : List (List ℕ)). source_files (take i parts) ++ (ns ++ source_files (drop (i + 1) parts))) is;
  rose = subst (λ (k : ℕ). Rose k (new name).opening) (before.reads name).opening now.rose;
  later = λ n free other. now.others n other ∙ before.others n free;
  others = λ n other. read_same (old n) (mid n) (new n) (before.reads n) (now.others n other);
}

-- lack of memory at one
pub wanting_on : (parts : List CheckedClauses) (i : ℕ) (part : CheckedClauses) (old mid new : PerName) → i < length parts → part ≡ get_or parts i part
    → OnlyReads (source_files (take i parts)) old mid → OnlyOf (source_files (part ∷ [])) mid new → OnlyOf (source_files parts) old new
wanting_on parts i part old mid new within at before now n free =
    let p = parts_free (source_files (take i parts)) (source_files (part ∷ []) ++ source_files (drop (i + 1) parts)) n (ap (λ (ns : List (List ℕ)). is_named ns n) (sym (files_cut parts i part within at)) ∙ free) in
    let q = parts_free (source_files (part ∷ [])) (source_files (drop (i + 1) parts)) n p.1 in
    now n q.0 ∙ before.others n p.0

-- before the files after a place
pub wanting_before : (parts : List CheckedClauses) (i : ℕ) (old mid : PerName) → OnlyReads (source_files (take i parts)) old mid → OnlyOf (source_files parts) old mid
wanting_before parts i old mid before n free =
    let cut = ap source_files (sym (take-append-drop i parts)) ∙ filter_map-append source_file (take i parts) (drop i parts) in
    let p = parts_free (source_files (take i parts)) (source_files (drop i parts)) n (ap (λ (ns : List (List ℕ)). is_named ns n) (sym cut) ∙ free) in
    before.others n p.0

-- all were passed
pub only_all : (parts : List CheckedClauses) (i : ℕ) (old new : PerName) → length parts ≤ i → OnlyReads (source_files (take i parts)) old new → OnlyReads (source_files parts) old new
only_all parts i old new all h = subst (λ (ps : List CheckedClauses). OnlyReads (source_files ps) old new) (take_all i parts all) h

-- ---- what a shelf tells, step by step

pub told_twice : (old mid new : Option Told) → WhereTold old mid TellsSame → WhereTold mid new TellsSame → WhereTold old new TellsSame
told_twice None mid new a b = tt
told_twice (Some x) None new a b = absurd a
told_twice (Some x) (Some y) None a b = absurd b
told_twice (Some x) (Some y) (Some z) a b = record { holds = λ n. b.holds n ∙ a.holds n; script = λ n. b.script n ∙ a.script n }

reads_at_both : (old mid new : PerName) (t : Told) → ReadsFail old mid t → ReadsFail mid new t → ReadsFail old new t
reads_at_both old mid new t first second n differs = elim (cases_eq (mid n).reading (old n).reading) as (λ _. is_failed (t.script n).ending ≡ true) [
  | inl same ↦ second n (λ e. differs (e ∙ same))
  | inr other ↦ first n other
]

pub reads_twice : (told mid : Option Told) (old between new : PerName) → WhereTold told mid TellsSame → IfSome told (ReadsFail old between) → IfSome mid (ReadsFail between new)
    → IfSome told (ReadsFail old new)
reads_twice None mid old between new same first second = tt
reads_twice (Some t) None old between new same first second = absurd same
reads_twice (Some t) (Some u) old between new same first second =
    reads_at_both old between new t first (λ n differs. ap (λ s. is_failed s.ending) (sym (same.script n)) ∙ second n differs)

pub lent_twice : (old mid new : ℕ) → (old < 2 ^ 64 - 1 → mid ≡ old) → (mid < 2 ^ 64 - 1 → new ≡ mid) → old < 2 ^ 64 - 1 → new ≡ old
lent_twice old mid new a b small = b (subst (λ (n : ℕ). n < 2 ^ 64 - 1) (sym (a small)) small) ∙ a small
