-- The pours of sinks while their rows are written, one sink after another.
use Rattle.std.proofs.Common.{◌≡◌, ℕ, ◌+◌, ◌-◌, ◌^◌, ◌<◌, ◌≤◌, List, [], ◌∷◌, ◌++◌, length, take, get_or, map, Option, Some, None, Ok, Err, refl, sym, ◌∙◌, ap, subst, arith, inl, inr, ◌⊎◌, min}
use Rattle.std.proofs.Math.ListN.{set}
use Rattle.std.specs.List.{count_by}
use Rattle.std.proofs.lemmas.Bool.{cases_lt, cases_eq}
use Rattle.std.proofs.lemmas.List.{append-nil, take_all, get_or-set_same, get_or-set_other, get_or_read, map_more}
use Rattle.spl_value.specs.declared.item.Item.{Item}
use Rattle.stream_model.specs.Rows.{text_of}
use Rattle.stream_model.specs.Stream.{is_tuple}
use Rattle.feed_pour.specs.Counts.{Counted}
use Rattle.feed_pour.specs.Contents.{failed_write}
use Rattle.spl_value.specs.declared.memory.NoMemory.{NoMemory}
use Rattle.feed_pour.specs.declared.outside.PourAnswer.{PourAnswer}
use Rattle.feed_pour.specs.declared.outside.PourAnswer.TheVariants as P
use Rattle.file_adapters.specs.Sinks.{sink_rows, file_text, stream_at}
use Rattle.row_writer.specs.Writing.{RowsPoured}
use Rattle.file_adapters.specs.steps.Steps.{AllCounted, CountedUnless, EachPoured, TextPoured}
use Rattle.file_adapters.specs.declared.sinks.Sink.{Sink}

-- into the pours before this place their texts were poured
abbrev pub PouredBefore : {W : Type 0} → (W → Option (List ℕ)) → (W → ℕ) → ℕ → List W → List W → List Sink → List (List Item) → Type 0
PouredBefore {W} poured faults i olds news sinks streams =
    (k : ℕ) (d : W) (s : Sink) → k < i → TextPoured {A = Unit {0}} (Ok tt) (poured (get_or olds k d)) (poured (get_or news k d)) (faults (get_or news k d)) (file_text streams (get_or sinks k s))

-- from this place on the pours are as they were
abbrev pub SameFrom : {W : Type 0} → ℕ → List W → List W → Type 0
SameFrom {W} i olds news = (k : ℕ) (d : W) → i ≤ k → get_or news k d ≡ get_or olds k d

-- the result of writing a stream
pub rows_text : (old now : Option (List ℕ)) (n faults : ℕ) (text : List ℕ) → RowsPoured {A = ℕ} old now (Ok n) text → TextPoured {A = ℕ} (Ok n) old now faults text
rows_text None now n faults text h = tt
rows_text (Some old) now n faults text h = inl h

pub counted_some : (e : PourAnswer) (before after : ℕ) → e ≡ P.Failed → Counted (failed_write {T = ℕ} (Err e)) before after → 0 < after
counted_some e before after is counted =
    let rose : min (before + 1) (2 ^ 64 - 1) ≤ after = (subst (λ (x : PourAnswer). Counted (failed_write {T = ℕ} (Err x)) before after) is counted).1 in omega arith

pub failed_text : (old now : Option (List ℕ)) (e : PourAnswer) (before after : ℕ) (text : List ℕ) → e ≡ P.Failed → RowsPoured {A = ℕ} old now (Err e) text
    → Counted (failed_write {T = ℕ} (Err e)) before after → TextPoured {A = ℕ} (Ok 0) old now after text
failed_text None now e before after text is h counted = tt
failed_text (Some old) now e before after text is h counted = inr (counted_some e before after is counted, h)

pub wanting_text : (old now : Option (List ℕ)) (e : PourAnswer) (w : NoMemory) (faults : ℕ) (text : List ℕ) → RowsPoured {A = ℕ} old now (Err e) text → TextPoured {A = ℕ} (Err w) old now faults text
wanting_text None now e w faults text h = tt
wanting_text (Some old) now e w faults text h = h

-- it is one fact whatever is answered beside
same_text : (A B : Type 0) (a : A) (b : B) (old now : Option (List ℕ)) (faults : ℕ) (text : List ℕ) → TextPoured {A = A} (Ok a) old now faults text → TextPoured {A = B} (Ok b) old now faults text
same_text A B a b None now faults text h = tt
same_text A B a b (Some old) now faults text h = h

same_front : (A B : Type 0) (e w : NoMemory) (old now : Option (List ℕ)) (faults : ℕ) (text : List ℕ) → TextPoured {A = A} (Err e) old now faults text → TextPoured {A = B} (Err w) old now faults text
same_front A B e w None now faults text h = tt
same_front A B e w (Some old) now faults text h = h

-- a text that was poured whole or not has a front that was
text_front : (A B : Type 0) (a : A) (w : NoMemory) (old now : Option (List ℕ)) (faults : ℕ) (text : List ℕ) → TextPoured {A = A} (Ok a) old now faults text → TextPoured {A = B} (Err w) old now faults text
text_front A B a w None now faults text h = tt
text_front A B a w (Some old) now faults text (inl h) = (length text, omega arith, h ∙ ap (λ (t : List ℕ). Some (old ++ t)) (sym (take_all (length text) text (omega arith))))
text_front A B a w (Some old) now faults text (inr h) = h.1

no_front : (A : Type 0) (w : NoMemory) (old now : Option (List ℕ)) (faults : ℕ) (text : List ℕ) → now ≡ old → TextPoured {A = A} (Err w) old now faults text
no_front A w None now faults text same = tt
no_front A w (Some old) now faults text same = (0, omega arith, same ∙ ap (λ (t : List ℕ). Some t) (sym (append-nil old)))

-- one more pour took its text
pub poured_more : {W : Type 0} (poured : W → Option (List ℕ)) (faults : W → ℕ) (i : ℕ) (x y : W) (n : ℕ) (stream : List Item) (olds pours : List W) (sinks : List Sink) (streams : List (List Item))
    → i < length pours → x ≡ get_or pours i x → ((s : Sink) → file_text streams (get_or sinks i s) ≡ text_of stream)
    → PouredBefore poured faults i olds pours sinks streams → SameFrom i olds pours → TextPoured {A = ℕ} (Ok n) (poured x) (poured y) (faults y) (text_of stream)
    → PouredBefore poured faults (i + 1) olds (set pours i y) sinks streams
poured_more poured faults i x y n stream olds pours sinks streams within is text before rest now k d s small = elim (cases_lt k i) [
  | inl less ↦ rw (get_or-set_other pours i k y d (λ e. omega (arith, e, less))) (before k d s less)
  | inr more ↦
      let here : k ≡ i = omega arith in
      let was : get_or olds i d ≡ x = sym (rest i d (omega arith)) ∙ sym (get_or_read pours i x within is d) in
      rw (here, get_or-set_same pours i y d within, was, text s) (same_text ℕ (Unit {0}) n tt (poured x) (poured y) (faults y) (text_of stream) now)
]

pub same_more : {W : Type 0} (i : ℕ) (y : W) (olds pours : List W) → SameFrom i olds pours → SameFrom (i + 1) olds (set pours i y)
same_more i y olds pours rest k d above = get_or-set_other pours i k y d (λ e. omega (arith, e, above)) ∙ rest k d (omega arith)

-- all took their texts
pub each_poured : {W A : Type 0} (poured : W → Option (List ℕ)) (faults : W → ℕ) (a : A) (i : ℕ) (olds pours : List W) (sinks : List Sink) (streams : List (List Item)) → length sinks ≤ i
    → PouredBefore poured faults i olds pours sinks streams → EachPoured poured faults (Ok a) olds pours sinks streams
each_poured {W} {A} poured faults a i olds pours sinks streams all before k d s small =
    same_text (Unit {0}) A tt a (poured (get_or olds k d)) (poured (get_or pours k d)) (faults (get_or pours k d)) (file_text streams (get_or sinks k s)) (before k d s (omega arith))

-- none took any
pub none_poured : {W : Type 0} (A : Type 0) (poured : W → Option (List ℕ)) (faults : W → ℕ) (w : NoMemory) (pours : List W) (sinks : List Sink) (streams : List (List Item))
    → EachPoured {A = A} poured faults (Err w) pours pours sinks streams
none_poured A poured faults w pours sinks streams k d s small =
    no_front A w (poured (get_or pours k d)) (poured (get_or pours k d)) (faults (get_or pours k d)) (file_text streams (get_or sinks k s)) refl

-- memory ran out at one
pub some_poured : {W : Type 0} (A : Type 0) (poured : W → Option (List ℕ)) (faults : W → ℕ) (i : ℕ) (x y : W) (e w : NoMemory) (stream : List Item) (olds pours : List W) (sinks : List Sink) (streams : List (List Item))
    → i < length pours → x ≡ get_or pours i x → ((s : Sink) → file_text streams (get_or sinks i s) ≡ text_of stream)
    → PouredBefore poured faults i olds pours sinks streams → SameFrom i olds pours → TextPoured {A = ℕ} (Err e) (poured x) (poured y) (faults y) (text_of stream)
    → EachPoured {A = A} poured faults (Err w) olds (set pours i y) sinks streams
some_poured A poured faults i x y e w stream olds pours sinks streams within is text before rest now k d s small = elim (cases_lt k i) [
  | inl less ↦ rw (get_or-set_other pours i k y d (λ e. omega (arith, e, less)))
      (text_front (Unit {0}) A tt w (poured (get_or olds k d)) (poured (get_or pours k d)) (faults (get_or pours k d)) (file_text streams (get_or sinks k s)) (before k d s less))
  | inr more ↦ elim (cases_eq k i) [
    | inl here ↦
        let was : get_or olds i d ≡ x = sym (rest i d (omega arith)) ∙ sym (get_or_read pours i x within is d) in
        rw (here, get_or-set_same pours i y d within, was, text s) (same_front ℕ A e w (poured x) (poured y) (faults y) (text_of stream) now)
    | inr above ↦ rw (get_or-set_other pours i k y d above)
        (no_front A w (poured (get_or olds k d)) (poured (get_or pours k d)) (faults (get_or pours k d)) (file_text streams (get_or sinks k s)) (ap poured (rest k d more)))
  ]
]

-- ---- the stream of a sink, and its rows

pub text_at : (streams : List (List Item)) (sinks : List Sink) (i : ℕ) (x : Sink) (stream : List Item) → i < length sinks → x ≡ get_or sinks i x → stream ≡ stream_at streams x
    → (s : Sink) → file_text streams (get_or sinks i s) ≡ text_of stream
text_at streams sinks i x stream within is of s = ap (file_text streams) (sym (get_or_read sinks i x within is s)) ∙ ap text_of (sym of)

pub rows_more : (streams : List (List Item)) (sinks : List Sink) (i : ℕ) (x : Sink) (stream : List Item) (n : ℕ) (olds news : List ℕ) → i < length sinks → x ≡ get_or sinks i x
    → stream ≡ stream_at streams x → n ≡ count_by is_tuple stream → olds ≡ map (sink_rows streams) (take i sinks) → news ≡ olds ++ n ∷ [] → news ≡ map (sink_rows streams) (take (i + 1) sinks)
rows_more streams sinks i x stream n olds news within is of counted before more =
    let here : n ≡ sink_rows streams (get_or sinks i x) = counted ∙ ap (count_by is_tuple) of ∙ ap (sink_rows streams) is in
    more ∙ ap (λ (l : List ℕ). l ++ n ∷ []) before ∙ ap (λ (m : ℕ). map (sink_rows streams) (take i sinks) ++ m ∷ []) here ∙ sym (map_more (sink_rows streams) sinks i x within)

-- some pour before this place counts faults
abbrev pub FaultyBefore : {W : Type 0} → (W → ℕ) → ℕ → List W → Type 0
FaultyBefore {W} faults i pours = (k : ℕ) × (p : W) × (k < i) × (get_or pours k p ≡ p) × (0 < faults p)

-- the rows of the sinks before this place were counted, unless a pour before it counts faults
abbrev pub CountedBefore : {W : Type 0} → (W → ℕ) → ℕ → List W → List ℕ → List Sink → List (List Item) → Type 0
CountedBefore faults i pours ns sinks streams = (ns ≡ map (sink_rows streams) (take i sinks)) ⊎ FaultyBefore faults i pours

pub counted_more : {W : Type 0} (faults : W → ℕ) (i : ℕ) (y : W) (pours : List W) (streams : List (List Item)) (sinks : List Sink) (x : Sink) (stream : List Item) (n : ℕ) (olds news : List ℕ)
    → i < length pours → i < length sinks → x ≡ get_or sinks i x → stream ≡ stream_at streams x → CountedUnless (faults y) n (count_by is_tuple stream) → CountedBefore faults i pours olds sinks streams
    → news ≡ olds ++ n ∷ [] → CountedBefore faults (i + 1) (set pours i y) news sinks streams
counted_more faults i y pours streams sinks x stream n olds news place within is of (inl counted) (inl before) more = inl (rows_more streams sinks i x stream n olds news within is of counted before more)
counted_more faults i y pours streams sinks x stream n olds news place within is of (inr faulty) (inl before) more = inr (i, y, omega arith, get_or-set_same pours i y y place, faulty)
counted_more faults i y pours streams sinks x stream n olds news place within is of counted (inr (k, p, less, at, faulty)) more =
    inr (k, p, omega (arith, less), get_or-set_other pours i k y p (λ e. omega (arith, e, less)) ∙ at, faulty)

pub all_counted : {W : Type 0} (faults : W → ℕ) (i : ℕ) (pours : List W) (ns : List ℕ) (sinks : List Sink) (streams : List (List Item)) → length sinks ≤ i → i ≤ length pours
    → CountedBefore faults i pours ns sinks streams → AllCounted faults pours ns (map (sink_rows streams) sinks)
all_counted faults i pours ns sinks streams all within (inl e) = inl (e ∙ ap (map (sink_rows streams)) (take_all i sinks all))
all_counted faults i pours ns sinks streams all within (inr (k, p, less, at, faulty)) = inr (k, p, omega (arith, less, within), at, faulty)
