-- The files of sinks where one of them, or that of the text after them, wasn't created.
use Rattle.std.proofs.Common.{◌≡◌, ℕ, ◌<◌, ◌≤◌, List, [], length, take, get_or, true, false, Option, Some, None, Err, sym, ◌∙◌, ap, subst, arith, inl, inr}
use Rattle.std.specs.Prelude.{IfSome}
use Rattle.std.specs.List.{All}
use Rattle.std.proofs.lemmas.Bool.{cases_lt}
use Rattle.std.proofs.lemmas.List.{get_or-take, length-take-le, take_all}
use Rattle.spl_value.specs.declared.item.Item.{Item}
use Rattle.feed_pour.specs.Counts.{FaultCounts, CreatingCounted, PerName, Rose}
use Rattle.feed_pour.specs.Contents.{Told, TellsSame, WhereTold}
use Rattle.feed_pour.specs.declared.outside.PourAnswer.{PourAnswer}
use Rattle.feed_pour.specs.declared.outside.PourAnswer.TheVariants as P
use Rattle.file_adapters.specs.Sinks.{AreDistinct, FilesCause, FilesCounted, FilesWritten, HasOwnFile, HoldsFrontOrSame, LastHolds, SinksCount, SinksHold, names_of, sink_names, file_text}
use Rattle.language_model.specs.Names.{is_named}
use Rattle.file_adapters.specs.steps.Steps.{CreateCounted, EachFinished, FinishCounted, SinksEmptied, is_file, not_created}
use Rattle.file_adapters.specs.declared.sinks.Sink.{Sink}
use Rattle.file_adapters.specs.declared.sinks.Sunk.TheVariants as S
use Rattle.file_adapters.specs.declared.text.TextFile.{TextFile}
use Rattle.file_adapters.proofs.Creating.{same_counts}
use Rattle.file_adapters.proofs.Files.{emptied, later_out, named, named_last, named_of, out_of_front, outside, taken, with_text}
use Rattle.file_adapters.proofs.Sinking.{element, empty_held}
use Rattle.spl_value.proofs.Lists.{same_or_not as one_or_other}

-- ---- what was created is empty when it is finished

empty_still : {W : Type 0} (poured : W → Option (List ℕ)) (faults : W → ℕ) (first : Option ℕ) (pours : List W) (sinks : List Sink) (counts now : PerName) (old mid new : Told) → length pours ≤ length sinks
    → All (λ p. poured p ≡ Some []) pours → SinksEmptied (length pours) sinks old mid → EachFinished poured faults first (length pours) pours sinks counts now mid new → SinksEmptied (length pours) sinks old new
empty_still poured faults first pours sinks counts now old mid new many none created finished = record {
  empty = λ k s small.
      let size : length (take (length pours) sinks) ≡ length pours = length-take-le (length pours) sinks many in
      let less : k < length pours = omega (arith, size, small) in
      let d = element pours k less in
      let here = finished.holds k d s less in
      ap (λ (t : Sink). new.holds t.file) (get_or-take (length pours) sinks k s less)
      ∙ empty_held first k (faults (get_or pours k d)) (counts (get_or sinks k s).file) (now (get_or sinks k s).file) (poured (get_or pours k d)) (new.holds (get_or sinks k s).file) (none k d less) here;
  others = λ n out. finished.others n out ∙ created.others n out;
  scripts = λ n out. finished.scripts n out ∙ created.scripts n out;
}

pub empty_told : {W : Type 0} (poured : W → Option (List ℕ)) (faults : W → ℕ) (first : Option ℕ) (pours : List W) (sinks : List Sink) (counts now : PerName) (old mid new : Option Told) → length pours ≤ length sinks
    → IfSome old (λ t. All (λ p. poured p ≡ Some []) pours) → WhereTold old mid (SinksEmptied (length pours) sinks)
    → WhereTold mid new (EachFinished poured faults first (length pours) pours sinks counts now) → WhereTold old new (SinksEmptied (length pours) sinks)
empty_told poured faults first pours sinks counts now None mid new many none created finished = tt
empty_told poured faults first pours sinks counts now (Some t) None new many none created finished = absurd created
empty_told poured faults first pours sinks counts now (Some t) (Some u) None many none created finished = absurd finished
empty_told poured faults first pours sinks counts now (Some t) (Some u) (Some v) many none created finished = empty_still poured faults first pours sinks counts now t u v many none created finished

-- ---- a sink's file wasn't created

front_or_same : (sinks : List Sink) (streams : List (List Item)) (place : ℕ) (old new : Told) → AreDistinct (sink_names sinks) → place ≤ length sinks → SinksEmptied place sinks old new
    → All (λ s. HoldsFrontOrSame (file_text streams s) (old.holds s.file) (new.holds s.file)) sinks
front_or_same sinks streams place old new distinct within empty k s small = elim (cases_lt k place) [
  | inl less ↦
      let size : length (take place sinks) ≡ place = length-take-le place sinks within in
      let none : new.holds (get_or sinks k s).file ≡ Some [] = ap (λ (t : Sink). new.holds t.file) (sym (get_or-take place sinks k s less)) ∙ empty.empty k s (omega (arith, size, less)) in
      inr (0, none)
  | inr more ↦ inl (empty.others (get_or sinks k s).file (later_out sinks place k s distinct more small))
]

-- the text's file is as it was
last_same : (e : PourAnswer) (sinks : List Sink) (streams : List (List Item)) (last : Option TextFile) (place : ℕ) (old new : Told) → HasOwnFile sinks last → SinksEmptied place sinks old new → LastHolds (not_created e place) sinks streams last old new
last_same e sinks streams None place old new free empty = tt
last_same P.Failed sinks streams (Some text) place old new free empty = empty.others text.file (out_of_front sinks place text.file (sym (named sinks text.file) ∙ free))
last_same P.Memory sinks streams (Some text) place old new free empty = inl (empty.others text.file (out_of_front sinks place text.file (sym (named sinks text.file) ∙ free)))

unwritten : (e : PourAnswer) (sinks : List Sink) (streams : List (List Item)) (last : Option TextFile) (place : ℕ) (counts now : PerName) (old new : Told) → AreDistinct (sink_names sinks) → HasOwnFile sinks last → place ≤ length sinks
    → SinksEmptied place sinks old new → FilesWritten (not_created e place) sinks streams last counts now old new
unwritten e sinks streams last place counts now old new distinct free within empty = record {
  holds = by e;
  last_holds = last_same e sinks streams last place old new free empty;
  others = λ n out. empty.others n (out_of_front sinks place n (outside sinks last n out));
  scripts = λ n out. empty.scripts n (out_of_front sinks place n (outside sinks last n out));
}
  where
    by : (e : PourAnswer) → SinksHold (not_created e place) sinks (names_of sinks last) streams counts now old new
    by P.Failed = emptied sinks last place old new within empty
    by P.Memory = front_or_same sinks streams place old new distinct within empty

pub unwritten_told : (e : PourAnswer) (sinks : List Sink) (streams : List (List Item)) (last : Option TextFile) (place : ℕ) (counts now : PerName) (old new : Option Told) → AreDistinct (sink_names sinks) → HasOwnFile sinks last
    → place ≤ length sinks → WhereTold old new (SinksEmptied place sinks) → WhereTold old new (FilesWritten (not_created e place) sinks streams last counts now)
unwritten_told e sinks streams last place counts now None new distinct free within told = tt
unwritten_told e sinks streams last place counts now (Some t) None distinct free within told = told
unwritten_told e sinks streams last place counts now (Some t) (Some u) distinct free within told = unwritten e sinks streams last place counts now t u distinct free within told

pub unwritten_count : (e : PourAnswer) (place : ℕ) (sinks : List Sink) (streams : List (List Item)) → SinksCount (not_created e place) sinks streams
unwritten_count P.Failed place sinks streams = tt
unwritten_count P.Memory place sinks streams = tt

unwritten_cause : (e : PourAnswer) (first : Option ℕ) (old mid new : PerName) (sinks : List Sink) (last : Option TextFile) (place : ℕ) → place ≤ length sinks → CreateCounted (Err e) place sinks old mid
    → FinishCounted first place sinks mid new → FilesCause (not_created e place) (names_of sinks last) old new
unwritten_cause P.Failed first old mid new sinks last place within created finished =
    let s = created.cause.0 in
    let rose = created.cause.1 in (
      s.file,
      record {
        at = named_of sinks last place s rose.sink;
        rose = subst (λ (n : ℕ). Rose (old s.file).creating n) (sym (finished.creating s.file)) rose.rose;
        creating = λ n e. finished.creating n ∙ ap (λ (c : FaultCounts). c.creating) (rose.others n e);
        later = λ n out e. finished.others n (sym (named (take place sinks) n) ∙ ap (λ (ns : List (List ℕ)). is_named ns n) (sym (taken sinks last place within)) ∙ out) ∙ rose.others n e;
      },
    )
unwritten_cause P.Memory first old mid new sinks last place within created finished = tt

pub unwritten_counts : (e : PourAnswer) (first : Option ℕ) (old mid new : PerName) (sinks : List Sink) (last : Option TextFile) (place : ℕ) → place ≤ length sinks → CreateCounted (Err e) place sinks old mid
    → FinishCounted first place sinks mid new → FilesCounted (not_created e place) (names_of sinks last) old new
unwritten_counts e first old mid new sinks last place within created finished = record {
  others = λ n out. finished.others n (out_of_front sinks place n (outside sinks last n out)) ∙ created.others n (outside sinks last n out);
  opening = λ n. finished.opening n ∙ created.opening n;
  reading = λ n. finished.reading n ∙ created.reading n;
  cause = unwritten_cause e first old mid new sinks last place within created finished;
}

-- ---- all sinks' files were created, and that of the text wasn't

-- all are empty
all_emptied : {W : Type 0} (poured : W → Option (List ℕ)) (faults : W → ℕ) (first : Option ℕ) (pours : List W) (sinks : List Sink) (counts now : PerName) (old mid new : Told) → length pours ≡ length sinks
    → All (λ p. poured p ≡ Some []) pours → TellsSame old mid → EachFinished poured faults first (length pours) pours sinks counts now mid new → SinksEmptied (length sinks) sinks old new
all_emptied poured faults first pours sinks counts now old mid new many none same finished = record {
  empty = subst (All (λ s. new.holds s.file ≡ Some [])) (sym (take_all (length sinks) sinks (omega arith))) (λ k s small.
      let less : k < length pours = omega (arith, many, small) in
      let d = element pours k less in
      empty_held first k (faults (get_or pours k d)) (counts (get_or sinks k s).file) (now (get_or sinks k s).file) (poured (get_or pours k d)) (new.holds (get_or sinks k s).file) (none k d less) (finished.holds k d s less));
  others = λ n out. finished.others n (ap (λ (k : ℕ). is_file (take k sinks) n) many ∙ out) ∙ same.holds n;
  scripts = λ n out. finished.scripts n (ap (λ (k : ℕ). is_file (take k sinks) n) many ∙ out) ∙ same.script n;
}

pub all_empty_told : {W : Type 0} (poured : W → Option (List ℕ)) (faults : W → ℕ) (first : Option ℕ) (pours : List W) (sinks : List Sink) (counts now : PerName) (old mid new : Option Told) → length pours ≡ length sinks
    → All (λ p. poured p ≡ Some []) pours → WhereTold old mid TellsSame
    → WhereTold mid new (EachFinished poured faults first (length pours) pours sinks counts now) → WhereTold old new (SinksEmptied (length sinks) sinks)
all_empty_told poured faults first pours sinks counts now None mid new many none same finished = tt
all_empty_told poured faults first pours sinks counts now (Some t) None new many none same finished = absurd same
all_empty_told poured faults first pours sinks counts now (Some t) (Some u) None many none same finished = absurd finished
all_empty_told poured faults first pours sinks counts now (Some t) (Some u) (Some v) many none same finished = all_emptied poured faults first pours sinks counts now t u v many none same finished

-- the creating of the text's file failed
pub text_failed_counts : (first : Option ℕ) (old mid new : PerName) (sinks : List Sink) (text : TextFile) (count : ℕ) → CreatingCounted true old mid text.file → FinishCounted first count sinks mid new
    → FilesCounted (S.NotCreated (length sinks)) (names_of sinks (Some text)) old new
text_failed_counts first old mid new sinks text count created finished = record {
  others = λ n out. finished.others n (out_of_front sinks count n (outside sinks (Some text) n out)) ∙ created.others n (with_text (sink_names sinks) text.file n out).1;
  opening = λ n. finished.opening n ∙ field (λ (k : FaultCounts). k.opening) created.opening n;
  reading = λ n. finished.reading n ∙ field (λ (k : FaultCounts). k.reading) created.reading n;
  cause = (
    text.file,
    record {
      at = named_last sinks text;
      rose = subst (λ (n : ℕ). Rose (old text.file).creating n) (sym (finished.creating text.file)) created.count.1;
      creating = λ n e. finished.creating n ∙ ap (λ (c : FaultCounts). c.creating) (created.others n e);
      later = λ n out e. finished.others n (out_of_front sinks count n (sym (named sinks n) ∙ front n ∙ out)) ∙ created.others n e;
    },
  );
}
  where
    field : (f : FaultCounts → ℕ) → f (mid text.file) ≡ f (old text.file) → (n : List ℕ) → f (mid n) ≡ f (old n)
    field f here n = elim (one_or_other n text.file) [ inl e ↦ ap (λ (m : List ℕ). f (mid m)) e ∙ here ∙ ap (λ (m : List ℕ). f (old m)) (sym e) | inr other ↦ ap f (created.others n other) ]

    front : (n : List ℕ) → is_named (sink_names sinks) n ≡ is_named (take (length sinks) (names_of sinks (Some text))) n
    front n = ap (λ (ns : List (List ℕ)). is_named ns n) (ap sink_names (sym (take_all (length sinks) sinks (omega arith))) ∙ sym (taken sinks (Some text) (length sinks) (omega arith)))

-- memory ran out for it
pub text_wanting_counts : (first : Option ℕ) (old mid new : PerName) (sinks : List Sink) (text : TextFile) (count : ℕ) → CreatingCounted false old mid text.file → FinishCounted first count sinks mid new
    → FilesCounted S.Memory (names_of sinks (Some text)) old new
text_wanting_counts first old mid new sinks text count created finished = record {
  others = λ n out. finished.others n (out_of_front sinks count n (outside sinks (Some text) n out)) ∙ same_counts old mid text.file created n;
  opening = λ n. finished.opening n ∙ ap (λ (c : FaultCounts). c.opening) (same_counts old mid text.file created n);
  reading = λ n. finished.reading n ∙ ap (λ (c : FaultCounts). c.reading) (same_counts old mid text.file created n);
  cause = tt;
}
