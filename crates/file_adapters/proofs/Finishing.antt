-- The files of sinks while they are finished, one after another.
use Rattle.std.proofs.Common.{◌≡◌, ◌≢◌, ℕ, ◌+◌, ◌-◌, ◌<◌, ◌≤◌, List, ◌∷◌, length, take, drop, get_or, map, Bool, true, false, Option, Some, None, Result, Ok, Err, refl, sym, ◌∙◌, ap, subst, arith, inl, inr, length-drop}
use Rattle.std.specs.Prelude.{IsErr}
use Rattle.std.specs.List.{All}
use Rattle.std.proofs.lemmas.Bool.{cases_lt}
use Rattle.std.proofs.lemmas.List.{take_all, get_or-take, get_or_read, length-take-le, drop_more}
use Rattle.std.proofs.lemmas.List.Elements.{All-more}
use Rattle.std.proofs.lemmas.Option.{slice_get-get_or, get_or_from_slice_get}
use Rattle.feed_pour.specs.Counts.{FaultCounts, PerName, WritingCounted, Rose}
use Rattle.feed_pour.specs.Contents.{Told, WhereTold, Finished, HeldAfter, failed_read}
use Rattle.feed_pour.specs.declared.outside.Failed.{Failed}
use Rattle.file_adapters.specs.Sinks.{AreDistinct}
use Rattle.file_adapters.specs.steps.Steps.{is_file, EachFinished, FileFinished, FinishCause, FinishCounted, IsFrom, first_failed}
use Rattle.file_adapters.specs.declared.sinks.Sink.{Sink}
use Rattle.file_adapters.proofs.Files.{out_of_more, apart, later_out, told_then, told_itself}
use Rattle.spl_value.proofs.Lists.{same_or_not as one_or_other}

-- ---- places

-- the first place of a failure, if any, is before this one
abbrev pub IsBefore : Option ℕ → ℕ → Type 0
IsBefore None at = Unit {0}
IsBefore (Some place) at = place < at

pub before_more : (first : Option ℕ) (f : Bool) (i : ℕ) → IsBefore first i → IsBefore (first_failed first f i) (i + 1)
before_more (Some place) f i h = omega (arith, h)
before_more None true i h = omega arith
before_more None false i h = tt

from_more : (first : Option ℕ) (f : Bool) (i k : ℕ) → IsFrom first k → IsFrom (first_failed first f i) k
from_more (Some place) f i k h = h
from_more None f i k h = absurd h

from_here : (first : Option ℕ) (i : ℕ) → IsBefore first i → IsFrom (first_failed first true i) i
from_here (Some place) i h = omega (arith, h)
from_here None i h = omega arith

-- ---- counts of one more file

pub same_counts : (old new : PerName) (name : List ℕ) → WritingCounted false old new name → (n : List ℕ) → new n ≡ old n
same_counts old new name c n = elim (one_or_other n name) [
  | inl same ↦ ap new same ∙ (λ i. record { opening = c.opening i; creating = c.creating i; reading = c.reading i; writing = c.count i }) ∙ ap old (sym same)
  | inr other ↦ c.others n other
]

-- nothing was counted yet of the file at this place
untouched : (first : Option ℕ) (sinks : List Sink) (i : ℕ) (s : Sink) (old mid : PerName) → i < length sinks → s ≡ get_or sinks i s → AreDistinct (map (λ s. s.file) sinks) → FinishCounted first i sinks old mid
    → mid s.file ≡ old s.file
untouched first sinks i s old mid within is distinct before = before.others s.file (ap (λ (t : Sink). is_file (take i sinks) t.file) is ∙ later_out sinks i i s distinct (omega arith) within)

-- ---- what the files hold

pub none_finished : {W : Type 0} (poured : W → Option (List ℕ)) (faults : W → ℕ) (told : Option Told) (pours : List W) (sinks : List Sink) (counts : PerName)
    → WhereTold told told (EachFinished poured faults None 0 pours sinks counts counts)
none_finished poured faults told pours sinks counts = told_itself told (EachFinished poured faults None 0 pours sinks counts counts) (λ t. record {
  holds = λ k d s small. absurd (omega arith);
  others = λ n out. refl;
  scripts = λ n out. refl;
})

-- a file that was finished before
finished_before : (first : Option ℕ) (f : Bool) (i k faults : ℕ) (counts mid now : FaultCounts) (poured holds after : Option (List ℕ)) → now ≡ mid → after ≡ holds
    → FileFinished first k faults counts mid poured holds → FileFinished (first_failed first f i) k faults counts now poured after
finished_before first f i k faults counts mid now poured holds after same held (inl (none, quiet, whole)) =
    inl (none, same ∙ quiet, subst (HeldAfter false poured) (sym held) whole)
finished_before first f i k faults counts mid now poured holds after same held (inr (from, rose, front)) =
    inr (from_more first f i k from, subst (λ (c : FaultCounts). Rose counts.writing c.writing) (sym same) rose, subst (HeldAfter true poured) (sym held) front)

-- and one that is finished now
finished_now : (first : Option ℕ) (f : Bool) (i faults : ℕ) (name : List ℕ) (old mid new : PerName) (poured holds : Option (List ℕ)) → IsBefore first i → mid name ≡ old name
    → (f ≡ false → faults ≡ 0) → WritingCounted f mid new name → HeldAfter f poured holds → FileFinished (first_failed first f i) i faults (old name) (new name) poured holds
finished_now first false i faults name old mid new poured holds before same none counted held = inl (none refl, same_counts mid new name counted name ∙ same, held)
finished_now first true i faults name old mid new poured holds before same none counted held =
    inr (from_here first i before, subst (λ (c : FaultCounts). Rose c.writing (new name).writing) same counted.count.1, held)

-- one more file is finished
finished_more : {W : Type 0} (poured : W → Option (List ℕ)) (faults : W → ℕ) (pours : List W) (sinks : List Sink) (i : ℕ) (x : W) (s : Sink) (first : Option ℕ) (f : Bool) (counts between now : PerName) (old mid new : Told)
    → i < length pours → length pours ≤ length sinks → x ≡ get_or pours i x → s ≡ get_or sinks i s → AreDistinct (map (λ s. s.file) sinks) → IsBefore first i → between s.file ≡ counts s.file
    → (f ≡ false → faults x ≡ 0) → WritingCounted f between now s.file
    → EachFinished poured faults first i pours sinks counts between old mid → Finished f s.file (poured x) mid new → EachFinished poured faults (first_failed first f i) (i + 1) pours sinks counts now old new
finished_more {W} poured faults pours sinks i x s first f counts between now old mid new within many is_x is_s distinct place same none counted before after = record {
  holds = holds;
  others = λ n out. let p = parts n out in after.others.holds n p.1 ∙ before.others n p.0;
  scripts = λ n out. let p = parts n out in after.others.script n p.1 ∙ before.scripts n p.0;
}
  where
    parts : (n : List ℕ) → is_file (take (i + 1) sinks) n ≡ false → (is_file (take i sinks) n ≡ false) × (n ≢ s.file)
    parts n out = let p = out_of_more sinks n i s (omega arith) out in (p.0, λ same. p.1 (same ∙ ap (λ (t : Sink). t.file) is_s))

    holds : (k : ℕ) (d : W) (t : Sink) → k < i + 1
        → FileFinished (first_failed first f i) k (faults (get_or pours k d)) (counts (get_or sinks k t).file) (now (get_or sinks k t).file) (poured (get_or pours k d)) (new.holds (get_or sinks k t).file)
    holds k d t small = elim (cases_lt k i) [
      | inl less ↦
          let other : (get_or sinks k t).file ≢ s.file = λ same. apart sinks k i t s distinct less (omega arith) (same ∙ ap (λ (u : Sink). u.file) is_s) in
          finished_before first f i k (faults (get_or pours k d)) (counts (get_or sinks k t).file) (between (get_or sinks k t).file) (now (get_or sinks k t).file) (poured (get_or pours k d))
          (mid.holds (get_or sinks k t).file) (new.holds (get_or sinks k t).file) (counted.others (get_or sinks k t).file other) (after.others.holds (get_or sinks k t).file other) (before.holds k d t less)
      | inr more ↦
          let here : k ≡ i = omega arith in
          let pour : get_or pours k d ≡ x = ap (λ (n : ℕ). get_or pours n d) here ∙ sym (get_or_read pours i x within is_x d) in
          let sink : get_or sinks k t ≡ s = ap (λ (n : ℕ). get_or sinks n t) here ∙ sym (get_or_read sinks i s (omega arith) is_s t) in
          rw (pour, sink, here) (finished_now first f i (faults x) s.file counts between now (poured x) (new.holds s.file) place same none counted after.holds)
    ]

pub one_finished : {W : Type 0} (poured : W → Option (List ℕ)) (faults : W → ℕ) (pours : List W) (sinks : List Sink) (i : ℕ) (x : W) (s : Sink) (first : Option ℕ) (f : Bool) (counts between now : PerName)
    (old mid new : Option Told) → i < length pours → length pours ≤ length sinks → x ≡ get_or pours i x → s ≡ get_or sinks i s → AreDistinct (map (λ s. s.file) sinks) → IsBefore first i
    → FinishCounted first i sinks counts between → (f ≡ false → faults x ≡ 0) → WritingCounted f between now s.file
    → WhereTold old mid (EachFinished poured faults first i pours sinks counts between) → WhereTold mid new (Finished f s.file (poured x))
    → WhereTold old new (EachFinished poured faults (first_failed first f i) (i + 1) pours sinks counts now)
one_finished poured faults pours sinks i x s first f counts between now old mid new within many is_x is_s distinct place were none counted before after =
    told_then old mid new (EachFinished poured faults first i pours sinks counts between) (Finished f s.file (poured x)) (EachFinished poured faults (first_failed first f i) (i + 1) pours sinks counts now) before after
    (λ t u v. finished_more poured faults pours sinks i x s first f counts between now t u v within many is_x is_s distinct place (untouched first sinks i s counts between (omega arith) is_s distinct were) none counted)

-- ---- counts

pub none_counted : (sinks : List Sink) (old : PerName) → FinishCounted None 0 sinks old old
none_counted sinks old = record { others = λ n out. refl; opening = λ n. refl; creating = λ n. refl; reading = λ n. refl; cause = λ n. refl }

-- the file of a sink before this place is another
other_file : (sinks : List Sink) (i k : ℕ) (s t : Sink) → i < length sinks → s ≡ get_or sinks i s → AreDistinct (map (λ s. s.file) sinks) → k < i → (get_or sinks k t).file ≢ s.file
other_file sinks i k s t within is distinct less same = apart sinks k i t s distinct less within (same ∙ ap (λ (u : Sink). u.file) is)

-- the counts of the sinks before this place stay
front_stays : (sinks : List Sink) (i place : ℕ) (s : Sink) (f : Bool) (old mid new : PerName) → i < length sinks → s ≡ get_or sinks i s → AreDistinct (map (λ s. s.file) sinks) → place ≤ i
    → WritingCounted f mid new s.file → All (λ t. mid t.file ≡ old t.file) (take place sinks) → All (λ t. new t.file ≡ old t.file) (take place sinks)
front_stays sinks i place s f old mid new within is distinct below now before k t small =
    let size : length (take place sinks) ≡ place = length-take-le place sinks (omega arith) in
    let less : k < place = omega (arith, size, small) in
    let at : get_or (take place sinks) k t ≡ get_or sinks k t = get_or-take place sinks k t less in
    let other : (get_or (take place sinks) k t).file ≢ s.file = λ same. other_file sinks i k s t within is distinct (omega arith) (sym (ap (λ (u : Sink). u.file) at) ∙ same) in
    now.others (get_or (take place sinks) k t).file other ∙ before k t small

cause_more : (first : Option ℕ) (f : Bool) (old mid new : PerName) (sinks : List Sink) (i : ℕ) (s : Sink) → i < length sinks → s ≡ get_or sinks i s → AreDistinct (map (λ s. s.file) sinks) → IsBefore first i
    → mid s.file ≡ old s.file → FinishCause first sinks old mid → WritingCounted f mid new s.file → FinishCause (first_failed first f i) sinks old new
cause_more (Some place) f old mid new sinks i s within is distinct below same (t, was) now =
    let at : get_or sinks place t ≡ t = get_or_from_slice_get sinks place t t was.sink in
    let other : t.file ≢ s.file = λ e. other_file sinks i place s t within is distinct below (ap (λ (u : Sink). u.file) at ∙ e) in
    let stays : new t.file ≡ mid t.file = now.others t.file other in (
      t,
      record {
        sink = was.sink;
        rose = subst (λ (c : FaultCounts). Rose (old t.file).writing c.writing) (sym stays) was.rose;
        before = front_stays sinks i place s f old mid new within is distinct (omega (arith, below)) now was.before;
      },
    )
cause_more None true old mid new sinks i s within is distinct below same before now = (
  s,
  record {
    sink = slice_get-get_or sinks i s within ∙ ap (λ (t : Sink). Some t) (sym is);
    rose = subst (λ (c : FaultCounts). Rose c.writing (new s.file).writing) same now.count.1;
    before = front_stays sinks i i s true old mid new within is distinct (omega arith) now (λ k t small. before (get_or (take i sinks) k t).file);
  },
)
cause_more None false old mid new sinks i s within is distinct below same before now = λ n. same_counts mid new s.file now n ∙ before n

pub one_counted : (first : Option ℕ) (f : Bool) (old mid new : PerName) (sinks : List Sink) (i : ℕ) (s : Sink) → i < length sinks → s ≡ get_or sinks i s → AreDistinct (map (λ s. s.file) sinks) → IsBefore first i
    → FinishCounted first i sinks old mid → WritingCounted f mid new s.file → FinishCounted (first_failed first f i) (i + 1) sinks old new
one_counted first f old mid new sinks i s within is distinct below before now = record {
  others = λ n out. let p = out_of_more sinks n i s within out in now.others n (λ e. p.1 (e ∙ ap (λ (t : Sink). t.file) is)) ∙ before.others n p.0;
  opening = λ n. field (λ (k : FaultCounts). k.opening) now.opening n ∙ before.opening n;
  creating = λ n. field (λ (k : FaultCounts). k.creating) now.creating n ∙ before.creating n;
  reading = λ n. field (λ (k : FaultCounts). k.reading) now.reading n ∙ before.reading n;
  cause = cause_more first f old mid new sinks i s within is distinct below (untouched first sinks i s old mid within is distinct before) before.cause now;
}
  where
    field : (f : FaultCounts → ℕ) → f (new s.file) ≡ f (mid s.file) → (n : List ℕ) → f (new n) ≡ f (mid n)
    field f here n = elim (one_or_other n s.file) [ inl e ↦ ap (λ (m : List ℕ). f (new m)) e ∙ here ∙ ap (λ (m : List ℕ). f (mid m)) (sym e) | inr other ↦ ap f (now.others n other) ]

-- ---- faults of the pours

-- where no finishing failed, no pour counts faults
abbrev pub NoFaults : {W : Type 0} → Option ℕ → (W → ℕ) → List W → Type 0
NoFaults first faults pours = first ≡ None → All (λ p. faults p ≡ 0) pours

pub no_fault : (faults : ℕ) (r : Result (Unit {0}) Failed) → (0 < faults → IsErr r) → failed_read r ≡ false → faults ≡ 0
no_fault faults (Ok u) fault fine = elim (cases_lt 0 faults) [ inl some ↦ absurd (let e = fault some in cc) | inr at_most ↦ omega arith ]
no_fault faults (Err e) fault fine = absurd (let bad : true ≡ false = fine in cc)

pub no_faults_more : {W : Type 0} (faults : W → ℕ) (first : Option ℕ) (pours : List W) (i : ℕ) (x : W) (r : Result (Unit {0}) Failed) → i < length pours → x ≡ get_or pours i x
    → NoFaults first faults (take i pours) → (0 < faults x → IsErr r) → NoFaults (first_failed first (failed_read r) i) faults (take (i + 1) pours)
no_faults_more faults (Some place) pours i x r within is before fault fine = absurd (let bad : Some place ≡ None = fine in cc)
no_faults_more faults None pours i x (Ok u) within is before fault fine =
    All-more (λ p. faults p ≡ 0) pours i x within (before refl) (ap faults (sym is) ∙ no_fault (faults x) (Ok u) fault refl)
no_faults_more faults None pours i x (Err e) within is before fault fine = absurd (let bad : Some i ≡ None = fine in cc)

pub all_faultless : {W : Type 0} (faults : W → ℕ) (first : Option ℕ) (pours : List W) (i : ℕ) → length pours ≤ i → NoFaults first faults (take i pours) → NoFaults first faults pours
all_faultless faults first pours i all none e = subst (All (λ p. faults p ≡ 0)) (take_all i pours all) (none e)

-- ---- the pours that are left

pub record Turn {W : Type 0} (pours rest : List W) (i : ℕ) (x : W) : Type 0 where
  pub within : i < length pours
  pub is : x ≡ get_or pours i x
  pub behind : rest ≡ drop (i + 1) pours

pub turn_at : {W : Type 0} (pours rest : List W) (i : ℕ) (x : W) → x ∷ rest ≡ drop i pours → Turn pours rest i x
turn_at pours rest i x e =
    let size : length (drop i pours) ≡ length pours - i = length-drop i pours in
    let long : length rest + 1 ≡ length (drop i pours) = let h = ap length e in omega (arith, h) in
    let within : i < length pours = omega (arith, size, long) in
    let cut : x ∷ rest ≡ get_or pours i x ∷ drop (i + 1) pours = e ∙ drop_more pours i x within in
    record { within = within; is = cc; behind = cc }
