-- The file of a text after those of the sinks: its writing, and what all the files hold then.
use Rattle.std.proofs.Common.{◌≡◌, ◌≢◌, ℕ, ◌+◌, ◌-◌, ◌^◌, ◌<◌, ◌≤◌, List, [], ◌∷◌, length, take, get_or, Bool, true, false, Option, Some, None, Result, Ok, Err, refl, sym, ◌∙◌, ap, subst, arith, inl, inr, min}
use Rattle.std.specs.Prelude.{IfSome, IsErr, slice_get}
use Rattle.std.specs.List.{All}
use Rattle.std.specs.Str.{bytes_eq}
use Rattle.std.proofs.lemmas.List.{take_all, take-append-le, get_or-take, length-map, length-take-le}
use Rattle.std.proofs.lemmas.List.Folds.{list_any_at}
use Rattle.std.proofs.lemmas.Option.{get_or_from_slice_get, slice_get_within}
use Rattle.std.proofs.lemmas.Slice.Eq.{bytes_eq-Decides}
use Rattle.spl_value.specs.declared.item.Item.{Item}
use Rattle.feed_pour.specs.Counts.{Counted, FaultCounts, PerName, Rose, WritingCounted}
use Rattle.feed_pour.specs.Contents.{Created, Empties, Finished, HeldAfter, Told, WhereTold, failed_read, failed_write}
use Rattle.feed_pour.specs.declared.outside.Failed.{Failed}
use Rattle.feed_pour.specs.declared.outside.PourAnswer.{PourAnswer}
use Rattle.feed_pour.specs.declared.outside.PourAnswer.TheVariants as P
use Rattle.file_adapters.specs.Sinks.{AllHold, FilesCause, FilesCounted, FilesWritten, HasOwnFile, HoldsFrontOrSame, HoldsUnlessUnwritten, LastHolds, SinksCount, SinksHold, TextHolds, names_of, sink_names, file_text}
use Rattle.language_model.specs.Names.{is_named}
use Rattle.file_adapters.specs.steps.Steps.{EndsText, IsAfter, IsDone, IsFilled, OtherFilesStay, SinksEmptied, LastCause, LastCounted, LastFinished, LastGiven, LastLeft, is_file, text_sunk}
use Rattle.file_adapters.specs.declared.sinks.Sink.{Sink}
use Rattle.file_adapters.specs.declared.sinks.Sunk.{Sunk}
use Rattle.file_adapters.specs.declared.sinks.Sunk.TheVariants as S
use Rattle.file_adapters.specs.declared.text.TextFile.{TextFile}
use Rattle.file_adapters.proofs.Files.{apart_from, named, named_last, outside, taken, with_text}
use Rattle.file_adapters.proofs.Finishing as F
use Rattle.file_adapters.proofs.Sinking.{empty_kept, front_kept, whole_kept}
use Rattle.spl_value.proofs.Lists.{append_front, same_or_not as one_or_other}

-- ---- the text

-- how all ended, by how the sinks did
ends_text : (sunk : Sunk) (written : Result (Unit {0}) PourAnswer) (failed : Bool) (place : ℕ) → IsFilled sunk place → EndsText sunk (text_sunk sunk written failed place) place
ends_text (S.Done ns) (Ok u) true place filled = refl
ends_text (S.Done ns) (Ok u) false place filled = refl
ends_text (S.Done ns) (Err P.Failed) failed place filled = refl
ends_text (S.Done ns) (Err P.Memory) failed place filled = tt
ends_text (S.NotCreated at) written failed place filled = absurd filled
ends_text (S.NotWritten at) written failed place filled = refl
ends_text S.Memory written failed place filled = refl

-- a pour that counts no fault before it counts one after a write that failed
faulty : (e : PourAnswer) (before after : ℕ) → e ≡ P.Failed → Counted (failed_write {T = Unit {0}} (Err e)) before after → 0 < after
faulty e before after is counted =
    let rose : min (before + 1) (2 ^ 64 - 1) ≤ after = (subst (λ (x : PourAnswer). Counted (failed_write {T = Unit {0}} (Err x)) before after) is counted).1 in omega arith

-- its file then isn't finished
fails : (before after : ℕ) (r : Result (Unit {0}) Failed) → Counted (failed_write {T = Unit {0}} (Err P.Failed)) before after → (0 < after → IsErr r) → failed_read r ≡ true
fails before after (Ok u) counted fault = absurd (let e = fault (faulty P.Failed before after refl counted) in cc)
fails before after (Err e) counted fault = refl

-- what is held of what was poured
left : (sunk : Sunk) (written : Result (Unit {0}) PourAnswer) (failed : Bool) (place : ℕ) (text : List ℕ) (poured holds : Option (List ℕ)) → IsFilled sunk place → LastGiven sunk (Some []) poured written text
    → (written ≡ Err P.Failed → failed ≡ true) → HeldAfter failed poured holds → LastLeft sunk (text_sunk sunk written failed place) place text holds
left (S.Done ns) (Ok u) true place text poured holds filled given fault held = inr (refl, tt, whole_kept true holds text (subst (λ (p : Option (List ℕ)). HeldAfter true p holds) given held))
left (S.Done ns) (Ok u) false place text poured holds filled given fault held = subst (λ (p : Option (List ℕ)). HeldAfter false p holds) given held
left (S.Done ns) (Err P.Failed) failed place text poured holds filled (n, small, given) fault held = inr (refl, tt, front_kept failed n holds text (subst (λ (p : Option (List ℕ)). HeldAfter failed p holds) given held))
left (S.Done ns) (Err P.Memory) failed place text poured holds filled (n, small, given) fault held = inr (tt, front_kept failed n holds text (subst (λ (p : Option (List ℕ)). HeldAfter failed p holds) given held))
left (S.NotCreated at) written failed place text poured holds filled given fault held = absurd filled
left (S.NotWritten at) written failed place text poured holds filled given fault held = inl (filled, empty_kept failed poured holds given.0 held)
left S.Memory written failed place text poured holds filled given fault held = inl (empty_kept failed poured holds given.0 held)

finished : (sunk : Sunk) (written : Result (Unit {0}) PourAnswer) (r : Result (Unit {0}) Failed) (place : ℕ) (last : TextFile) (was poured : Option (List ℕ)) (before after : ℕ) (old new : Told) → was ≡ Some [] → IsFilled sunk place
    → LastGiven sunk was poured written last.text → Counted (failed_write written) before after → (0 < after → IsErr r) → Finished (failed_read r) last.file poured old new
    → LastFinished sunk (text_sunk sunk written (failed_read r) place) place last old new
finished sunk written r place last was poured before after old new empty filled given counted fault done = record {
  ends = ends_text sunk written (failed_read r) place filled;
  others = done.others;
  holds = left sunk written (failed_read r) place last.text poured (new.holds last.file) filled (subst (λ (p : Option (List ℕ)). LastGiven sunk p poured written last.text) empty given)
      (λ e. fails before after r (subst (λ (w : Result (Unit {0}) PourAnswer). Counted (failed_write w) before after) e counted) fault) done.holds;
}

pub finished_told : (sunk : Sunk) (written : Result (Unit {0}) PourAnswer) (r : Result (Unit {0}) Failed) (place : ℕ) (last : TextFile) (was poured : Option (List ℕ)) (before after : ℕ) (old new : Option Told) → was ≡ Some []
    → IsFilled sunk place → LastGiven sunk was poured written last.text → Counted (failed_write written) before after → (0 < after → IsErr r) → WhereTold old new (Finished (failed_read r) last.file poured)
    → WhereTold old new (LastFinished sunk (text_sunk sunk written (failed_read r) place) place last)
finished_told sunk written r place last was poured before after None new empty filled given counted fault done = tt
finished_told sunk written r place last was poured before after (Some t) None empty filled given counted fault done = done
finished_told sunk written r place last was poured before after (Some t) (Some u) empty filled given counted fault done = finished sunk written r place last was poured before after t u empty filled given counted fault done

text_cause : (sunk : Sunk) (written : Result (Unit {0}) PourAnswer) (failed : Bool) (place : ℕ) (name : List ℕ) (old new : PerName) → (written ≡ Err P.Failed → failed ≡ true) → WritingCounted failed old new name
    → LastCause sunk (text_sunk sunk written failed place) name old new
text_cause (S.Done ns) (Ok u) true place name old new fault counted = counted.count.1
text_cause (S.Done ns) (Ok u) false place name old new fault counted = F.same_counts old new name counted
text_cause (S.Done ns) (Err P.Failed) failed place name old new fault counted = (subst (λ (f : Bool). WritingCounted f old new name) (fault refl) counted).count.1
text_cause (S.Done ns) (Err P.Memory) failed place name old new fault counted = tt
text_cause (S.NotCreated at) written failed place name old new fault counted = tt
text_cause (S.NotWritten at) written failed place name old new fault counted = tt
text_cause S.Memory written failed place name old new fault counted = tt

pub finished_counts : (sunk : Sunk) (written : Result (Unit {0}) PourAnswer) (r : Result (Unit {0}) Failed) (place : ℕ) (name : List ℕ) (before after : ℕ) (old new : PerName) → IsFilled sunk place
    → Counted (failed_write written) before after → (0 < after → IsErr r) → WritingCounted (failed_read r) old new name → LastCounted sunk (text_sunk sunk written (failed_read r) place) place name old new
finished_counts sunk written r place name before after old new filled counted fault done = record {
  ends = ends_text sunk written (failed_read r) place filled;
  others = done.others;
  opening = λ n. field (λ (k : FaultCounts). k.opening) done.opening n;
  creating = λ n. field (λ (k : FaultCounts). k.creating) done.creating n;
  reading = λ n. field (λ (k : FaultCounts). k.reading) done.reading n;
  cause = text_cause sunk written (failed_read r) place name old new
      (λ e. fails before after r (subst (λ (w : Result (Unit {0}) PourAnswer). Counted (failed_write w) before after) e counted) fault) done;
}
  where
    field : (f : FaultCounts → ℕ) → f (new name) ≡ f (old name) → (n : List ℕ) → f (new n) ≡ f (old n)
    field f here n = elim (one_or_other n name) [ inl e ↦ ap (λ (m : List ℕ). f (new m)) e ∙ here ∙ ap (λ (m : List ℕ). f (old m)) (sym e) | inr other ↦ ap f (done.others n other) ]

-- ---- all files, where that of the text was created

-- what was told and counted before its creating, after it, after the writing of the sinks, and after its own
record Finishing (sinks : List Sink) (streams : List (List Item)) (last : TextFile) (sunk r : Sunk) (a b c d : PerName) (t u v w : Told) : Type 0 where
  pub free : HasOwnFile sinks (Some last)
  pub created : Empties last.file t u
  pub same : (n : List ℕ) → b n ≡ a n
  pub is_filled : IsFilled sunk (length sinks)
  pub filled : FilesWritten sunk sinks streams None b c u v
  pub counted : FilesCounted sunk (sink_names sinks) b c
  pub finished : LastFinished sunk r (length sinks) last v w
  pub counted_text : LastCounted sunk r (length sinks) last.file c d

-- each name among these is another than one that isn't
other_in : (names : List (List ℕ)) (k : ℕ) (n x : List ℕ) → k < length names → is_named names x ≡ false → get_or names k n ≢ x
other_in names k n x within out same =
    let one = list_any_at (λ (m : List ℕ). bytes_eq m x) names k n within ((bytes_eq-Decides (get_or names k n) x).1 same) in
    cc

other_at : (names : List (List ℕ)) (k : ℕ) (n x : List ℕ) → slice_get names k ≡ Some n → is_named names x ≡ false → n ≢ x
other_at names k n x at out same = other_in names k n x (slice_get_within names k n at) out (get_or_from_slice_get names k n n at ∙ same)

unless_moved : (text : List ℕ) (counts counts' now now' : FaultCounts) (holds holds' : Option (List ℕ)) → counts ≡ counts' → now' ≡ now → holds' ≡ holds → HoldsUnlessUnwritten text counts now holds → HoldsUnlessUnwritten text counts' now' holds'
unless_moved text counts counts' now now' holds holds' c n h (inl (quiet, whole)) = inl (n ∙ quiet ∙ c, h ∙ whole)
unless_moved text counts counts' now now' holds holds' c n h (inr (rose, (k, front))) =
    inr (subst (λ (x : FaultCounts). Rose x.writing now'.writing) c (subst (λ (x : FaultCounts). Rose counts.writing x.writing) (sym n) rose), (k, h ∙ front))

front_moved : (text : List ℕ) (old old' new new' : Option (List ℕ)) → old ≡ old' → new' ≡ new → HoldsFrontOrSame text old new → HoldsFrontOrSame text old' new'
front_moved text old old' new new' o n (inl same) = inl (n ∙ same ∙ o)
front_moved text old old' new new' o n (inr (k, front)) = inr (k, n ∙ front)

not_uncreated : (sunk : Sunk) (at place : ℕ) → IsFilled sunk place → EndsText sunk (S.NotCreated at) place → ⊥
not_uncreated (S.Done ns) at place filled ends = ends
not_uncreated (S.NotCreated p) at place filled ends = filled
not_uncreated (S.NotWritten p) at place filled ends = cc
not_uncreated S.Memory at place filled ends = cc

module _ (sinks : List Sink) (streams : List (List Item)) (last : TextFile) (a b c d : PerName) (t u v w : Told) where
  abbrev Ended : Sunk → Sunk → Type 0
  Ended sunk r = Finishing sinks streams last sunk r a b c d t u v w

  -- a sink's file is untouched by the text's
  file_after : (sunk r : Sunk) → Ended sunk r → (k : ℕ) (s : Sink) → k < length sinks → w.holds (get_or sinks k s).file ≡ v.holds (get_or sinks k s).file
  file_after sunk r h k s small = h.finished.others.holds (get_or sinks k s).file (apart_from sinks last k s h.free small)

  file_before : (sunk r : Sunk) → Ended sunk r → (k : ℕ) (s : Sink) → k < length sinks → u.holds (get_or sinks k s).file ≡ t.holds (get_or sinks k s).file
  file_before sunk r h k s small = h.created.others.holds (get_or sinks k s).file (apart_from sinks last k s h.free small)

  count_after : (sunk r : Sunk) → Ended sunk r → (k : ℕ) (s : Sink) → k < length sinks → d (get_or sinks k s).file ≡ c (get_or sinks k s).file
  count_after sunk r h k s small = h.counted_text.others (get_or sinks k s).file (apart_from sinks last k s h.free small)

  sinks_hold : (sunk r : Sunk) → Ended sunk r → SinksHold r sinks (names_of sinks (Some last)) streams a d t w
  sinks_hold (S.Done ns) (S.Done ms) h = λ k s small. file_after (S.Done ns) (S.Done ms) h k s small ∙ h.filled.holds k s small
  sinks_hold (S.Done ns) (S.NotWritten at) h = λ k s small.
      inl (
        count_after (S.Done ns) (S.NotWritten at) h k s small ∙ h.counted.cause (get_or sinks k s).file ∙ h.same (get_or sinks k s).file,
        file_after (S.Done ns) (S.NotWritten at) h k s small ∙ h.filled.holds k s small,
      )
  sinks_hold (S.Done ns) S.Memory h = λ k s small.
      let text = file_text streams (get_or sinks k s) in
      inr (length text, file_after (S.Done ns) S.Memory h k s small ∙ h.filled.holds k s small ∙ ap (λ (x : List ℕ). Some x) (sym (take_all (length text) text (omega arith))))
  sinks_hold (S.Done ns) (S.NotCreated at) h = absurd h.finished.ends
  sinks_hold (S.NotCreated at) r h = absurd h.is_filled
  sinks_hold (S.NotWritten at) r h = subst (λ (x : Sunk). SinksHold x sinks (names_of sinks (Some last)) streams a d t w) (sym h.finished.ends) (λ k s small.
      unless_moved (file_text streams (get_or sinks k s)) (b (get_or sinks k s).file) (a (get_or sinks k s).file) (c (get_or sinks k s).file) (d (get_or sinks k s).file) (v.holds (get_or sinks k s).file) (w.holds (get_or sinks k s).file)
      (h.same (get_or sinks k s).file) (count_after (S.NotWritten at) r h k s small) (file_after (S.NotWritten at) r h k s small) (h.filled.holds k s small))
  sinks_hold S.Memory r h = subst (λ (x : Sunk). SinksHold x sinks (names_of sinks (Some last)) streams a d t w) (sym h.finished.ends) (λ k s small.
      front_moved (file_text streams (get_or sinks k s)) (u.holds (get_or sinks k s).file) (t.holds (get_or sinks k s).file) (v.holds (get_or sinks k s).file) (w.holds (get_or sinks k s).file)
      (file_before S.Memory r h k s small) (file_after S.Memory r h k s small) (h.filled.holds k s small))

  -- the sinks hold their texts where they were written
  all_hold : (sunk r : Sunk) → Ended sunk r → IsDone sunk → AllHold sinks streams w
  all_hold (S.Done ns) r h done = λ k s small. file_after (S.Done ns) r h k s small ∙ h.filled.holds k s small
  all_hold (S.NotCreated at) r h done = absurd done
  all_hold (S.NotWritten at) r h done = absurd done
  all_hold S.Memory r h done = absurd done

  text_holds : (sunk r : Sunk) → Ended sunk r → TextHolds r sinks streams last t w
  text_holds sunk (S.Done ns) h = h.finished.holds
  text_holds sunk (S.NotCreated at) h = absurd (not_uncreated sunk at (length sinks) h.is_filled h.finished.ends)
  text_holds sunk (S.NotWritten at) h = by h.finished.holds
    where
      by : LastLeft sunk (S.NotWritten at) (length sinks) last.text (w.holds last.file) → TextHolds (S.NotWritten at) sinks streams last t w
      by (inl empty) = inl empty
      by (inr (here, done, front)) = inr (here, all_hold sunk (S.NotWritten at) h done, front)
  text_holds sunk S.Memory h = by h.finished.holds
    where
      by : LastLeft sunk S.Memory (length sinks) last.text (w.holds last.file) → TextHolds S.Memory sinks streams last t w
      by (inl empty) = inr (inl empty)
      by (inr (done, front)) = inr (inr (all_hold sunk S.Memory h done, front))

  all_written : (sunk r : Sunk) → Ended sunk r → FilesWritten r sinks streams (Some last) a d t w
  all_written sunk r h = record {
    holds = sinks_hold sunk r h;
    last_holds = text_holds sunk r h;
    others = λ n out. let p = with_text (sink_names sinks) last.file n out in h.finished.others.holds n p.1 ∙ h.filled.others n p.0 ∙ h.created.others.holds n p.1;
    scripts = λ n out. let p = with_text (sink_names sinks) last.file n out in h.finished.others.script n p.1 ∙ h.filled.scripts n p.0 ∙ h.created.others.script n p.1;
  }

pub text_told : (sinks : List Sink) (streams : List (List Item)) (last : TextFile) (sunk r : Sunk) (was : Option (List ℕ)) (a b c d : PerName) (t u v w : Option Told) → HasOwnFile sinks (Some last) → ((n : List ℕ) → b n ≡ a n)
    → IsFilled sunk (length sinks) → WhereTold t u (Created true last.file) → IfSome t (λ x. was ≡ Some []) → WhereTold u v (FilesWritten sunk sinks streams None b c) → FilesCounted sunk (sink_names sinks) b c
    → (was ≡ Some [] → WhereTold v w (LastFinished sunk r (length sinks) last)) → LastCounted sunk r (length sinks) last.file c d → WhereTold t w (FilesWritten r sinks streams (Some last) a d)
text_told sinks streams last sunk r was a b c d None u v w free same filled made empty written counted finished counted_text = tt
text_told sinks streams last sunk r was a b c d (Some t) None v w free same filled made empty written counted finished counted_text = absurd made
text_told sinks streams last sunk r was a b c d (Some t) (Some u) None w free same filled made empty written counted finished counted_text = absurd written
text_told sinks streams last sunk r was a b c d (Some t) (Some u) (Some v) None free same filled made empty written counted finished counted_text = absurd (finished empty)
text_told sinks streams last sunk r was a b c d (Some t) (Some u) (Some v) (Some w) free same filled made empty written counted finished counted_text =
    all_written sinks streams last a b c d t u v w sunk r (record {
      free = free;
      created = made;
      same = same;
      is_filled = filled;
      filled = written;
      counted = counted;
      finished = finished empty;
      counted_text = counted_text;
    })

-- ---- counts

pub text_rows : (sunk r : Sunk) (sinks : List Sink) (streams : List (List Item)) (place : ℕ) → IsFilled sunk place → EndsText sunk r place → SinksCount sunk sinks streams → SinksCount r sinks streams
text_rows (S.Done ns) (S.Done ms) sinks streams place filled ends count = subst (λ (x : List ℕ). SinksCount (S.Done x) sinks streams) (sym ends) count
text_rows (S.Done ns) (S.NotWritten at) sinks streams place filled ends count = tt
text_rows (S.Done ns) (S.NotCreated at) sinks streams place filled ends count = tt
text_rows (S.Done ns) S.Memory sinks streams place filled ends count = tt
text_rows (S.NotCreated at) r sinks streams place filled ends count = absurd filled
text_rows (S.NotWritten at) r sinks streams place filled ends count = subst (λ (x : Sunk). SinksCount x sinks streams) (sym ends) tt
text_rows S.Memory r sinks streams place filled ends count = subst (λ (x : Sunk). SinksCount x sinks streams) (sym ends) tt

pub text_after : (sunk r : Sunk) (place : ℕ) → IsFilled sunk place → EndsText sunk r place → IsAfter r place
text_after sunk (S.Done ns) place filled ends = tt
text_after sunk (S.NotCreated at) place filled ends = absurd (not_uncreated sunk at place filled ends)
text_after sunk (S.NotWritten at) place filled ends = tt
text_after sunk S.Memory place filled ends = tt

pub filled_after : (r : Sunk) (place : ℕ) → IsFilled r place → IsAfter r place
filled_after (S.Done ns) place filled = tt
filled_after (S.NotCreated at) place filled = absurd filled
filled_after (S.NotWritten at) place filled = tt
filled_after S.Memory place filled = tt

-- the names of all sinks are the first
all_sinks : (sinks : List Sink) (last : TextFile) → take (length sinks) (names_of sinks (Some last)) ≡ sink_names sinks
all_sinks sinks last = taken sinks (Some last) (length sinks) (omega arith) ∙ ap sink_names (take_all (length sinks) sinks (omega arith))

module _ (sinks : List Sink) (last : TextFile) (a b c d : PerName) (free : HasOwnFile sinks (Some last)) (same : (n : List ℕ) → b n ≡ a n) where
  -- the text's file is the first that couldn't be written
  failed_last : (ns : List ℕ) (at : ℕ) → FilesCounted (S.Done ns) (sink_names sinks) b c → LastCounted (S.Done ns) (S.NotWritten at) (length sinks) last.file c d → FilesCause (S.NotWritten at) (names_of sinks (Some last)) a d
  failed_last ns at counted counted_text = (
    last.file,
    record {
      at = ap (λ (k : ℕ). slice_get (names_of sinks (Some last)) k) counted_text.ends ∙ named_last sinks last;
      rose = subst (λ (x : FaultCounts). Rose x.writing (d last.file).writing) (counted.cause last.file ∙ same last.file) counted_text.cause;
      before = subst (All (λ n. d n ≡ a n)) (sym (ap (λ (k : ℕ). take k (names_of sinks (Some last))) counted_text.ends ∙ all_sinks sinks last)) (λ k n small.
          let m = get_or (sink_names sinks) k n in
          counted_text.others m (other_in (sink_names sinks) k n last.file small free) ∙ counted.cause m ∙ same m);
      creating = λ n. counted_text.creating n ∙ ap (λ (x : FaultCounts). x.creating) (counted.cause n ∙ same n);
    },
  )

  -- a sink's is
  failed_sink : (at : ℕ) (r : Sunk) → at < length sinks → FilesCounted (S.NotWritten at) (sink_names sinks) b c → LastCounted (S.NotWritten at) r (length sinks) last.file c d → FilesCause (S.NotWritten at) (names_of sinks (Some last)) a d
  failed_sink at r small counted counted_text =
      let name = counted.cause.0 in
      let was = counted.cause.1 in
      let size = length-map sinks (λ (s : Sink). s.file) in
      let other : name ≢ last.file = other_at (sink_names sinks) at name last.file was.at free in
      let first : take at (names_of sinks (Some last)) ≡ take at (sink_names sinks) = take-append-le at (sink_names sinks) (last.file ∷ []) (omega (arith, size, small)) in (
        name,
        record {
          at = append_front (sink_names sinks) (last.file ∷ []) at name was.at;
          rose = subst (λ (x : FaultCounts). Rose x.writing (d name).writing) (same name) (subst (λ (x : FaultCounts). Rose (b name).writing x.writing) (sym (counted_text.others name other)) was.rose);
          before = subst (All (λ n. d n ≡ a n)) (sym first) (λ k n within.
              let long = length-take-le at (sink_names sinks) (omega (arith, size, small)) in
              let m = get_or (take at (sink_names sinks)) k n in
              let at_all : m ≡ get_or (sink_names sinks) k n = get_or-take at (sink_names sinks) k n (omega (arith, long, within)) in
              let apart : m ≢ last.file = λ e. other_in (sink_names sinks) k n last.file (omega (arith, long, within, size, small)) free (sym at_all ∙ e) in
              counted_text.others m apart ∙ was.before k n within ∙ same m);
          creating = λ n. counted_text.creating n ∙ was.creating n ∙ ap (λ (x : FaultCounts). x.creating) (same n);
        },
      )

  cause_of : (sunk r : Sunk) → IsFilled sunk (length sinks) → FilesCounted sunk (sink_names sinks) b c → LastCounted sunk r (length sinks) last.file c d → FilesCause r (names_of sinks (Some last)) a d
  cause_of (S.Done ns) (S.Done ms) filled counted counted_text = λ n. counted_text.cause n ∙ counted.cause n ∙ same n
  cause_of (S.Done ns) (S.NotWritten at) filled counted counted_text = failed_last ns at counted counted_text
  cause_of (S.Done ns) (S.NotCreated at) filled counted counted_text = absurd counted_text.ends
  cause_of (S.Done ns) S.Memory filled counted counted_text = tt
  cause_of (S.NotCreated at) r filled counted counted_text = absurd filled
  cause_of (S.NotWritten at) r filled counted counted_text =
      subst (λ (x : Sunk). FilesCause x (names_of sinks (Some last)) a d) (sym counted_text.ends) (failed_sink at r filled counted counted_text)
  cause_of S.Memory r filled counted counted_text = subst (λ (x : Sunk). FilesCause x (names_of sinks (Some last)) a d) (sym counted_text.ends) tt

  pub text_counts : (sunk r : Sunk) → IsFilled sunk (length sinks) → FilesCounted sunk (sink_names sinks) b c → LastCounted sunk r (length sinks) last.file c d → FilesCounted r (names_of sinks (Some last)) a d
  text_counts sunk r filled counted counted_text = record {
    others = λ n out. let p = with_text (sink_names sinks) last.file n out in counted_text.others n p.1 ∙ counted.others n p.0 ∙ same n;
    opening = λ n. counted_text.opening n ∙ counted.opening n ∙ ap (λ (x : FaultCounts). x.opening) (same n);
    reading = λ n. counted_text.reading n ∙ counted.reading n ∙ ap (λ (x : FaultCounts). x.reading) (same n);
    cause = cause_of sunk r filled counted counted_text;
  }

-- ---- from before the sinks' files were created

module _ (sinks : List Sink) (streams : List (List Item)) (last : Option TextFile) (counts now : PerName) (old mid new : Told) (free : HasOwnFile sinks last) (created : SinksEmptied (length sinks) sinks old mid) where
  empty_of : (k : ℕ) (s : Sink) → k < length sinks → mid.holds (get_or sinks k s).file ≡ Some []
  empty_of k s small = subst (All (λ (x : Sink). mid.holds x.file ≡ Some [])) (take_all (length sinks) sinks (omega arith)) created.empty k s small

  other_of : {A : Type 0} (f g : List ℕ → A) → OtherFilesStay (take (length sinks) sinks) f g → (n : List ℕ) → is_file sinks n ≡ false → g n ≡ f n
  other_of f g stay n out = stay n (ap (λ (ss : List Sink). is_file ss n) (take_all (length sinks) sinks (omega arith)) ∙ out)

  -- the names of the sinks are the first
  first_names : is_named (take (length sinks) (names_of sinks last)) ≡ is_file sinks
  first_names = λ i n. (ap (λ (ns : List (List ℕ)). is_named ns n) (taken sinks last (length sinks) (omega arith) ∙ ap sink_names (take_all (length sinks) sinks (omega arith))) ∙ named sinks n) i

  holds_after : (r : Sunk) → IsAfter r (length sinks) → SinksHold r sinks (names_of sinks last) streams counts now mid new → SinksHold r sinks (names_of sinks last) streams counts now old new
  holds_after (S.Done ns) after h = h
  holds_after (S.NotWritten at) after h = h
  holds_after (S.NotCreated at) after h = record {
    empty = h.empty;
    others = λ n out. h.others n out ∙ other_of old.holds mid.holds created.others n (in_front n out);
    scripts = λ n out. h.scripts n out ∙ other_of old.script mid.script created.scripts n (in_front n out);
  }
    where
      in_front : (n : List ℕ) → is_named (take at (names_of sinks last)) n ≡ false → is_file sinks n ≡ false
      in_front n out = sym (ap (λ (f : List ℕ → Bool). f n) first_names) ∙ ap (λ (k : ℕ). is_named (take k (names_of sinks last)) n) (sym after) ∙ out
  holds_after S.Memory after h = λ k s small. elim (h k s small) [
    | inl same ↦ inr (0, same ∙ empty_of k s small)
    | inr front ↦ inr front
  ]

  text_holds_after : (r : Sunk) (text : TextFile) → is_file sinks text.file ≡ false → TextHolds r sinks streams text mid new → TextHolds r sinks streams text old new
  text_holds_after (S.Done ns) text out h = h
  text_holds_after (S.NotCreated at) text out h = h ∙ other_of old.holds mid.holds created.others text.file out
  text_holds_after (S.NotWritten at) text out h = h
  text_holds_after S.Memory text out (inl same) = inl (same ∙ other_of old.holds mid.holds created.others text.file out)
  text_holds_after S.Memory text out (inr rest) = inr rest

written_after : (r : Sunk) (sinks : List Sink) (streams : List (List Item)) (last : Option TextFile) (counts now : PerName) (old mid new : Told) → HasOwnFile sinks last → IsAfter r (length sinks)
    → SinksEmptied (length sinks) sinks old mid → FilesWritten r sinks streams last counts now mid new → FilesWritten r sinks streams last counts now old new
written_after r sinks streams last counts now old mid new free after created h = record {
  holds = holds_after sinks streams last counts now old mid new free created r after h.holds;
  last_holds = by last free h.last_holds;
  others = λ n out. h.others n out ∙ other_of sinks streams last counts now old mid new free created old.holds mid.holds created.others n (outside sinks last n out);
  scripts = λ n out. h.scripts n out ∙ other_of sinks streams last counts now old mid new free created old.script mid.script created.scripts n (outside sinks last n out);
}
  where
    by : (l : Option TextFile) → HasOwnFile sinks l → LastHolds r sinks streams l mid new → LastHolds r sinks streams l old new
    by None own holds = tt
    by (Some text) own holds = text_holds_after sinks streams last counts now old mid new free created r text (sym (named sinks text.file) ∙ own) holds

same_per_name : (old mid : PerName) → ((n : List ℕ) → mid n ≡ old n) → mid ≡ old
same_per_name old mid same = λ i n. same n i

pub created_told : (Empty : Type 0) (r : Sunk) (sinks : List Sink) (streams : List (List Item)) (last : Option TextFile) (count : ℕ) (counts between now : PerName) (old mid new : Option Told) → HasOwnFile sinks last → IsAfter r (length sinks)
    → count ≡ length sinks → ((n : List ℕ) → between n ≡ counts n) → WhereTold old mid (SinksEmptied count sinks) → IfSome old (λ t. Empty) → (Empty → WhereTold mid new (FilesWritten r sinks streams last between now))
    → WhereTold old new (FilesWritten r sinks streams last counts now)
created_told Empty r sinks streams last count counts between now None mid new free after is same created empty h = tt
created_told Empty r sinks streams last count counts between now (Some t) None new free after is same created empty h = absurd created
created_told Empty r sinks streams last count counts between now (Some t) (Some u) None free after is same created empty h = absurd (h empty)
created_told Empty r sinks streams last count counts between now (Some t) (Some u) (Some v) free after is same created empty h =
    subst (λ (c : PerName). FilesWritten r sinks streams last c now t v) (same_per_name counts between same)
    (written_after r sinks streams last between now t u v free after (subst (λ (k : ℕ). SinksEmptied k sinks t u) is created) (h empty))

pub created_counts : (r : Sunk) (names : List (List ℕ)) (counts between now : PerName) → ((n : List ℕ) → between n ≡ counts n) → FilesCounted r names between now → FilesCounted r names counts now
created_counts r names counts between now same h = subst (λ (c : PerName). FilesCounted r names c now) (same_per_name counts between same) h
