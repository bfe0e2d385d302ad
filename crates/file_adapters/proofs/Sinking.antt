-- What the files of sinks hold, and what was counted of them, after they were written and finished.
use Rattle.std.proofs.Common.{◌≡◌, ℕ, zero, suc, ◌<◌, ◌^◌, List, [], ◌∷◌, length, take, get_or, map, Bool, true, false, Option, Some, None, Result, Ok, Err, refl, sym, ◌∙◌, ap, subst, arith, inl, inr}
use Rattle.std.specs.Prelude.{IfOk}
use Rattle.std.specs.List.{All}
use Rattle.std.proofs.lemmas.Bool.{cases_lt}
use Rattle.std.proofs.lemmas.List.{take_all, take-map, take-take, length-take}
use Rattle.std.proofs.lemmas.List.Elements.{All-map}
use Rattle.std.proofs.lemmas.Option.{slice_get_within}
use Rattle.spl_value.specs.declared.item.Item.{Item}
use Rattle.spl_value.specs.declared.memory.NoMemory.{NoMemory}
use Rattle.feed_pour.specs.Counts.{FaultCounts, PerName}
use Rattle.feed_pour.specs.Contents.{Told, WhereTold}
use Rattle.feed_pour.specs.Contents.{HeldAfter as Finishes}
use Rattle.file_adapters.specs.Sinks.{FilesCause, FilesCounted, FilesWritten, HoldsFront, HoldsUnlessUnwritten, SinksCount, SinksHold, sink_names, sink_rows, file_text}
use Rattle.file_adapters.specs.steps.Steps.{AllCounted, EachFinished, EachPoured, FileFinished, FinishCounted, IsFilled, TextPoured, sunk_of}
use Rattle.file_adapters.specs.declared.sinks.Sink.{Sink}
use Rattle.file_adapters.proofs.Files.{named, named_at, out_of_front}
use Rattle.file_adapters.proofs.Finishing.{NoFaults}

pub element : {X : Type 0} (xs : List X) (k : ℕ) → k < length xs → X
element [] k small = absurd (omega arith)
element (x ∷ xs) zero small = x
element (x ∷ xs) (suc k) small = element xs k (omega arith)

-- ---- what one file holds

pub front_of_front : (m n : ℕ) (text : List ℕ) → (j : ℕ) × (take m (take n text) ≡ take j text)
front_of_front m n text = elim (cases_lt n m) [
  | inl less ↦ (n, take_all m (take n text) (let size = length-take n text in omega (arith, size, less)))
  | inr more ↦ (m, take-take m n text more)
]

-- what is held of a front, or of all
pub front_kept : (f : Bool) (n : ℕ) (h : Option (List ℕ)) (text : List ℕ) → Finishes f (Some (take n text)) h → HoldsFront text h
front_kept false n h text held = (n, held)
front_kept true n h text held = let j = front_of_front held.0 n text in (j.0, held.1 ∙ ap (λ (t : List ℕ). Some t) j.1)

pub whole_kept : (f : Bool) (h : Option (List ℕ)) (text : List ℕ) → Finishes f (Some text) h → HoldsFront text h
whole_kept false h text held = (length text, held ∙ ap (λ (t : List ℕ). Some t) (sym (take_all (length text) text (omega arith))))
whole_kept true h text held = held

front_from : {A : Type 0} (r : Result A NoMemory) (f : Bool) (faults : ℕ) (now h : Option (List ℕ)) (text : List ℕ) → TextPoured r (Some []) now faults text → Finishes f now h → HoldsFront text h
front_from (Ok a) f faults now h text (inl whole) held = whole_kept f h text (subst (λ (p : Option (List ℕ)). Finishes f p h) whole held)
front_from (Ok a) f faults now h text (inr (some, (n, small, front))) held = front_kept f n h text (subst (λ (p : Option (List ℕ)). Finishes f p h) front held)
front_from (Err e) f faults now h text (n, small, front) held = front_kept f n h text (subst (λ (p : Option (List ℕ)). Finishes f p h) front held)

-- a file that was finished holds a front of its text
front_held : {A : Type 0} (r : Result A NoMemory) (first : Option ℕ) (k faults : ℕ) (counts now : FaultCounts) (was poured h : Option (List ℕ)) (text : List ℕ) → was ≡ Some [] → TextPoured r was poured faults text
    → FileFinished first k faults counts now poured h → HoldsFront text h
front_held r first k faults counts now was poured h text empty written (inl (none, quiet, held)) =
    front_from r false faults poured h text (subst (λ (p : Option (List ℕ)). TextPoured r p poured faults text) empty written) held
front_held r first k faults counts now was poured h text empty written (inr (from, rose, held)) =
    front_from r true faults poured h text (subst (λ (p : Option (List ℕ)). TextPoured r p poured faults text) empty written) held

-- all of it, where the pour counts no fault
whole_from : {A : Type 0} (a : A) (faults : ℕ) (now h : Option (List ℕ)) (text : List ℕ) → faults ≡ 0 → TextPoured (Ok a) (Some []) now faults text → Finishes false now h → h ≡ Some text
whole_from a faults now h text none (inl whole) held = subst (λ (p : Option (List ℕ)). Finishes false p h) whole held
whole_from a faults now h text none (inr (some, front)) held = absurd (omega (arith, none, some))

whole_held : {A : Type 0} (a : A) (faults : ℕ) (was now h : Option (List ℕ)) (text : List ℕ) → was ≡ Some [] → faults ≡ 0 → TextPoured (Ok a) was now faults text → Finishes false now h → h ≡ Some text
whole_held a faults was now h text empty none written held = whole_from a faults now h text none (subst (λ (p : Option (List ℕ)). TextPoured (Ok a) p now faults text) empty written) held

-- all of it, or its finishing failed
unless_failed : {A : Type 0} (a : A) (first : Option ℕ) (k faults : ℕ) (counts now : FaultCounts) (was poured h : Option (List ℕ)) (text : List ℕ) → was ≡ Some [] → TextPoured (Ok a) was poured faults text
    → FileFinished first k faults counts now poured h → HoldsUnlessUnwritten text counts now h
unless_failed a first k faults counts now was poured h text empty written (inl (none, quiet, held)) = inl (quiet, whole_held a faults was poured h text empty none written held)
unless_failed a first k faults counts now was poured h text empty written (inr (from, rose, held)) =
    inr (rose, front_held (Ok a) first k faults counts now was poured h text empty written (inr (from, rose, held)))

-- where no finishing failed
whole_always : {A : Type 0} (a : A) (k faults : ℕ) (counts now : FaultCounts) (was poured h : Option (List ℕ)) (text : List ℕ) → was ≡ Some [] → TextPoured (Ok a) was poured faults text
    → FileFinished None k faults counts now poured h → h ≡ Some text
whole_always a k faults counts now was poured h text empty written (inl (none, quiet, held)) = whole_held a faults was poured h text empty none written held
whole_always a k faults counts now was poured h text empty written (inr (from, rose, held)) = absurd from

-- what was created and not written is empty
pub empty_kept : (f : Bool) (was h : Option (List ℕ)) → was ≡ Some [] → Finishes f was h → h ≡ Some []
empty_kept f was h empty held = by f (subst (λ (p : Option (List ℕ)). Finishes f p h) empty held)
  where
    by : (f : Bool) → Finishes f (Some []) h → h ≡ Some []
    by false held = held
    by true held = held.1 ∙ ap (λ (t : List ℕ). Some t) (take_all held.0 [] (omega arith))

pub empty_held : (first : Option ℕ) (k faults : ℕ) (counts now : FaultCounts) (was h : Option (List ℕ)) → was ≡ Some [] → FileFinished first k faults counts now was h → h ≡ Some []
empty_held first k faults counts now was h empty (inl (none, quiet, held)) = empty_kept false was h empty held
empty_held first k faults counts now was h empty (inr (from, rose, held)) = empty_kept true was h empty held

-- ---- all sinks were written, and their files finished

pub record Written {W : Type 0} (poured : W → Option (List ℕ)) (faults : W → ℕ) (r : Result (List ℕ) NoMemory) (first : Option ℕ) (olds news : List W) (sinks : List Sink) (streams : List (List Item)) (counts now : PerName) (old new : Told) : Type 0 where
  pub many : length olds ≡ length sinks
  pub size : length news ≡ length olds
  pub none : All (λ p. poured p ≡ Some []) olds
  pub written : EachPoured poured faults r olds news sinks streams
  pub finished : EachFinished poured faults first (length news) news sinks counts now old new

fronts : {W : Type 0} (poured : W → Option (List ℕ)) (faults : W → ℕ) (r : Result (List ℕ) NoMemory) (first : Option ℕ) (olds news : List W) (sinks : List Sink) (streams : List (List Item)) (counts now : PerName) (old new : Told)
    → Written poured faults r first olds news sinks streams counts now old new → All (λ s. HoldsFront (file_text streams s) (new.holds s.file)) sinks
fronts poured faults r first olds news sinks streams counts now old new w k s small =
    let d = element olds k (omega (arith, w.many)) in
    front_held r first k (faults (get_or news k d)) (counts (get_or sinks k s).file) (now (get_or sinks k s).file) (poured (get_or olds k d)) (poured (get_or news k d)) (new.holds (get_or sinks k s).file)
    (file_text streams (get_or sinks k s)) (w.none k d (omega (arith, w.many))) (w.written k d s small) (w.finished.holds k d s (omega (arith, w.many, w.size)))

held : {W : Type 0} (poured : W → Option (List ℕ)) (faults : W → ℕ) (r : Result (List ℕ) NoMemory) (first : Option ℕ) (olds news : List W) (sinks : List Sink) (names : List (List ℕ)) (streams : List (List Item)) (counts now : PerName) (old new : Told)
    → Written poured faults r first olds news sinks streams counts now old new → SinksHold (sunk_of r first) sinks names streams counts now old new
held poured faults (Ok ns) None olds news sinks names streams counts now old new w = λ k s small.
    let d = element olds k (omega (arith, w.many)) in
    whole_always ns k (faults (get_or news k d)) (counts (get_or sinks k s).file) (now (get_or sinks k s).file) (poured (get_or olds k d)) (poured (get_or news k d)) (new.holds (get_or sinks k s).file)
    (file_text streams (get_or sinks k s)) (w.none k d (omega (arith, w.many))) (w.written k d s small) (w.finished.holds k d s (omega (arith, w.many, w.size)))
held poured faults (Ok ns) (Some place) olds news sinks names streams counts now old new w = λ k s small.
    let d = element olds k (omega (arith, w.many)) in
    unless_failed ns (Some place) k (faults (get_or news k d)) (counts (get_or sinks k s).file) (now (get_or sinks k s).file) (poured (get_or olds k d)) (poured (get_or news k d)) (new.holds (get_or sinks k s).file)
    (file_text streams (get_or sinks k s)) (w.none k d (omega (arith, w.many))) (w.written k d s small) (w.finished.holds k d s (omega (arith, w.many, w.size)))
held poured faults (Err e) first olds news sinks names streams counts now old new w = λ k s small. inr (fronts poured faults (Err e) first olds news sinks streams counts now old new w k s small)

written : {W : Type 0} (poured : W → Option (List ℕ)) (faults : W → ℕ) (r : Result (List ℕ) NoMemory) (first : Option ℕ) (olds news : List W) (sinks : List Sink) (streams : List (List Item)) (counts now : PerName) (old new : Told)
    → Written poured faults r first olds news sinks streams counts now old new → FilesWritten (sunk_of r first) sinks streams None counts now old new
written poured faults r first olds news sinks streams counts now old new w = record {
  holds = held poured faults r first olds news sinks (sink_names sinks) streams counts now old new w;
  last_holds = tt;
  others = λ n out. w.finished.others n (out_of_front sinks (length news) n (sym (named sinks n) ∙ out));
  scripts = λ n out. w.finished.scripts n (out_of_front sinks (length news) n (sym (named sinks n) ∙ out));
}

pub written_told : {W : Type 0} (poured : W → Option (List ℕ)) (faults : W → ℕ) (r : Result (List ℕ) NoMemory) (first : Option ℕ) (olds news : List W) (sinks : List Sink) (streams : List (List Item)) (counts now : PerName) (old new : Option Told)
    → length olds ≡ length sinks → length news ≡ length olds → All (λ p. poured p ≡ Some []) olds
    → EachPoured poured faults r olds news sinks streams → WhereTold old new (EachFinished poured faults first (length news) news sinks counts now)
    → WhereTold old new (FilesWritten (sunk_of r first) sinks streams None counts now)
written_told poured faults r first olds news sinks streams counts now None new many size none poured_each finished = tt
written_told poured faults r first olds news sinks streams counts now (Some t) None many size none poured_each finished = absurd finished
written_told poured faults r first olds news sinks streams counts now (Some t) (Some u) many size none poured_each finished =
    written poured faults r first olds news sinks streams counts now t u (record { many = many; size = size; none = none; written = poured_each; finished = finished })

-- the rows of all were counted
pub written_count : {W : Type 0} (faults : W → ℕ) (r : Result (List ℕ) NoMemory) (first : Option ℕ) (news : List W) (sinks : List Sink) (streams : List (List Item))
    → IfOk r (λ ns. AllCounted faults news ns (map (sink_rows streams) sinks)) → IfOk r (λ ns. All (λ n. n < 2 ^ 64) ns)
    → NoFaults first faults news → SinksCount (sunk_of r first) sinks streams
written_count faults (Err e) first news sinks streams counted small none = tt
written_count faults (Ok ns) (Some place) news sinks streams counted small none = tt
written_count faults (Ok ns) None news sinks streams counted small none = (by counted, small)
  where
    by : AllCounted faults news ns (map (sink_rows streams) sinks) → ns ≡ map (sink_rows streams) sinks
    by (inl e) = e
    by (inr (k, p, within, at, faulty)) = absurd (let zero_there = none refl k p within in omega (arith, faulty, zero_there, ap faults at))

written_cause : (r : Result (List ℕ) NoMemory) (first : Option ℕ) (counts now : PerName) (sinks : List Sink) (count : ℕ) → FinishCounted first count sinks counts now → FilesCause (sunk_of r first) (sink_names sinks) counts now
written_cause (Err e) first counts now sinks count finished = tt
written_cause (Ok ns) None counts now sinks count finished = finished.cause
written_cause (Ok ns) (Some place) counts now sinks count finished =
    let s = finished.cause.0 in
    let was = finished.cause.1 in (
      s.file,
      record {
        at = named_at sinks place s was.sink;
        rose = was.rose;
        before = subst (All (λ n. now n ≡ counts n)) (sym (take-map (λ (t : Sink). t.file) place sinks)) (All-map (λ n. now n ≡ counts n) (λ (t : Sink). t.file) (take place sinks) was.before);
        creating = finished.creating;
      },
    )

pub written_counts : (r : Result (List ℕ) NoMemory) (first : Option ℕ) (counts now : PerName) (sinks : List Sink) (count : ℕ) → FinishCounted first count sinks counts now → FilesCounted (sunk_of r first) (sink_names sinks) counts now
written_counts r first counts now sinks count finished = record {
  others = λ n out. finished.others n (out_of_front sinks count n (sym (named sinks n) ∙ out));
  opening = finished.opening;
  reading = finished.reading;
  cause = written_cause r first counts now sinks count finished;
}

-- the first that failed is one of them
pub filled : (r : Result (List ℕ) NoMemory) (first : Option ℕ) (counts now : PerName) (sinks : List Sink) (count : ℕ) → FinishCounted first count sinks counts now → IsFilled (sunk_of r first) (length sinks)
filled (Err e) first counts now sinks count finished = tt
filled (Ok ns) None counts now sinks count finished = tt
filled (Ok ns) (Some place) counts now sinks count finished = slice_get_within sinks place finished.cause.0 finished.cause.1.sink
