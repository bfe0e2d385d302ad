-- The files of sinks while they are created, one after another.
use Rattle.std.proofs.Common.{◌≡◌, ◌≢◌, ℕ, ◌+◌, ◌<◌, List, [], ◌∷◌, ◌++◌, length, take, get_or, true, false, Option, Some, None, Result, Err, refl, sym, ◌∙◌, ap, arith, inl, inr}
use Rattle.std.specs.Prelude.{IfSome}
use Rattle.std.specs.List.{All}
use Rattle.std.proofs.lemmas.List.Elements.{All-more, All-weaker, All-push}
use Rattle.std.proofs.lemmas.Option.{slice_get-get_or}
use Rattle.feed_pour.specs.Counts.{FaultCounts, PerName, CreatingCounted}
use Rattle.feed_pour.specs.Contents.{Told, WhereTold, TellsSame, Created, Empties}
use Rattle.feed_pour.specs.declared.outside.PourAnswer.{PourAnswer}
use Rattle.feed_pour.specs.declared.outside.PourAnswer.TheVariants as P
use Rattle.file_adapters.specs.steps.Steps.{CreateCounted, CreateCause, SinksEmptied, is_file}
use Rattle.file_adapters.specs.declared.sinks.Sink.{Sink}
use Rattle.file_adapters.proofs.Files.{out_of_more, among_not, told_then, told_itself}
use Rattle.spl_value.proofs.Lists.{same_or_not as one_or_other}

pub none_created : (told : Option Told) (sinks : List Sink) → WhereTold told told (SinksEmptied 0 sinks)
none_created told sinks = told_itself told (SinksEmptied 0 sinks) (λ t. record {
  empty = λ k d within. absurd (omega arith);
  others = λ n out. refl;
  scripts = λ n out. refl;
})

-- one more file is empty
empty_more : (sinks : List Sink) (i : ℕ) (x : Sink) (a b c : Told) → i < length sinks → x ≡ get_or sinks i x → SinksEmptied i sinks a b → Empties x.file b c → SinksEmptied (i + 1) sinks a c
empty_more sinks i x a b c within is before now = record {
  empty =
      All-more (λ s. c.holds s.file ≡ Some []) sinks i x within (All-weaker (λ s. b.holds s.file ≡ Some []) (λ s. c.holds s.file ≡ Some []) kept (take i sinks) before.empty)
      (ap (λ (s : Sink). c.holds s.file) (sym is) ∙ now.holds);
  others = λ n out. let p = parts n out in now.others.holds n p.1 ∙ before.others n p.0;
  scripts = λ n out. let p = parts n out in now.others.script n p.1 ∙ before.scripts n p.0;
}
  where
    kept : (s : Sink) → b.holds s.file ≡ Some [] → c.holds s.file ≡ Some []
    kept s h = elim (one_or_other s.file x.file) [ inl same ↦ ap c.holds same ∙ now.holds | inr other ↦ now.others.holds s.file other ∙ h ]

    parts : (n : List ℕ) → is_file (take (i + 1) sinks) n ≡ false → (is_file (take i sinks) n ≡ false) × (n ≢ x.file)
    parts n out = let p = out_of_more sinks n i x within out in (p.0, λ same. p.1 (same ∙ ap (λ (s : Sink). s.file) is))

pub one_created : (a b c : Option Told) (sinks : List Sink) (i : ℕ) (x : Sink) → i < length sinks → x ≡ get_or sinks i x
    → WhereTold a b (SinksEmptied i sinks) → WhereTold b c (Created true x.file) → WhereTold a c (SinksEmptied (i + 1) sinks)
one_created a b c sinks i x within is before now =
    told_then a b c (SinksEmptied i sinks) (Created true x.file) (SinksEmptied (i + 1) sinks) before now (λ t u v. empty_more sinks i x t u v within is)

empty_same : (sinks : List Sink) (i : ℕ) (a b c : Told) → SinksEmptied i sinks a b → TellsSame b c → SinksEmptied i sinks a c
empty_same sinks i a b c before now = record {
  empty = All-weaker (λ s. b.holds s.file ≡ Some []) (λ s. c.holds s.file ≡ Some []) (λ s h. now.holds s.file ∙ h) (take i sinks) before.empty;
  others = λ n out. now.holds n ∙ before.others n out;
  scripts = λ n out. now.script n ∙ before.scripts n out;
}

pub not_created : (a b c : Option Told) (sinks : List Sink) (i count : ℕ) → count ≡ i → WhereTold a b (SinksEmptied i sinks) → WhereTold b c TellsSame → WhereTold a c (SinksEmptied count sinks)
not_created a b c sinks i count is before now = told_then a b c (SinksEmptied i sinks) TellsSame (SinksEmptied count sinks) before now (λ t u v. rw is (empty_same sinks i t u v))

-- the pours have taken nothing yet
pub poured_none : {W : Type 0} (poured : W → Option (List ℕ)) (a b : Option Told) (R : Told → Told → Type 0) (pours : List W) (p : W) → WhereTold a b R
    → IfSome a (λ t. All (λ q. poured q ≡ Some []) pours) → IfSome b (λ t. poured p ≡ Some []) → IfSome a (λ t. All (λ q. poured q ≡ Some []) (pours ++ p ∷ []))
poured_none poured None b R pours p told before now = tt
poured_none poured (Some t) None R pours p told before now = absurd told
poured_none poured (Some t) (Some u) R pours p told before now = All-push (λ q. poured q ≡ Some []) pours p before now

-- ---- counts

pub same_counts : (old new : PerName) (name : List ℕ) → CreatingCounted false old new name → (n : List ℕ) → new n ≡ old n
same_counts old new name c n = elim (one_or_other n name) [
  | inl same ↦ ap new same ∙ (λ i. record { opening = c.opening i; creating = c.count i; reading = c.reading i; writing = c.writing i }) ∙ ap old (sym same)
  | inr other ↦ c.others n other
]

pub quiet : (old new : PerName) (sinks : List Sink) (place : ℕ) (r : Result (Unit {0}) PourAnswer) → ((n : List ℕ) → new n ≡ old n) → CreateCause r place sinks old new
    → CreateCounted r place sinks old new
quiet old new sinks place r same cause = record {
  others = λ n out. same n;
  opening = λ n. ap (λ (c : FaultCounts). c.opening) (same n);
  reading = λ n. ap (λ (c : FaultCounts). c.reading) (same n);
  writing = λ n. ap (λ (c : FaultCounts). c.writing) (same n);
  cause = cause;
}

-- the creating of a file failed
pub failed_counts : (old mid new : PerName) (sinks : List Sink) (i count : ℕ) (x : Sink) → i < length sinks → x ≡ get_or sinks i x → count ≡ i → ((n : List ℕ) → mid n ≡ old n)
    → CreatingCounted true mid new x.file → CreateCounted (Err P.Failed) count sinks old new
failed_counts old mid new sinks i count x within is at same c = record {
  others = λ n out. c.others n (λ e. among_not sinks n i x out within (ap (λ (s : Sink). s.file) (sym is) ∙ sym e)) ∙ same n;
  opening = λ n. field (λ (k : FaultCounts). k.opening) c.opening n ∙ ap (λ (k : FaultCounts). k.opening) (same n);
  reading = λ n. field (λ (k : FaultCounts). k.reading) c.reading n ∙ ap (λ (k : FaultCounts). k.reading) (same n);
  writing = λ n. field (λ (k : FaultCounts). k.writing) c.writing n ∙ ap (λ (k : FaultCounts). k.writing) (same n);
  cause = (x, record { sink = rw at (slice_get-get_or sinks i x within ∙ ap (λ (s : Sink). Some s) (sym is)); rose = rw (sym (ap (λ (k : FaultCounts). k.creating) (same x.file))) c.count.1; others = λ n e. c.others n e ∙ same n });
}
  where
    field : (f : FaultCounts → ℕ) → f (new x.file) ≡ f (mid x.file) → (n : List ℕ) → f (new n) ≡ f (mid n)
    field f here n = elim (one_or_other n x.file) [ inl e ↦ ap (λ (m : List ℕ). f (new m)) e ∙ here ∙ ap (λ (m : List ℕ). f (mid m)) (sym e) | inr other ↦ ap f (c.others n other) ]
