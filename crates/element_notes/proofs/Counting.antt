-- How many items were put on an output, and how many tuples were poured.
use Rattle.std.proofs.Common.{ℕ, zero, suc, ◌+◌, ◌-◌, ◌<◌, ◌≤◌, ◌==◌, ◌^◌, min, Bool, true, false, cond, List, [], ◌∷◌, ◌++◌, ◌≡◌, ◌⊎◌, inl, inr, length, length-append, map, replicate, refl, sym, ap, ◌∙◌, arith, Some, slice_get, set}
use Rattle.std.proofs.lemmas.Bool.{cases_eq, eq-eqb, ne_eqb}
use Rattle.spl_value.specs.declared.item.Item.{Item}
use Rattle.spl_value.specs.declared.packet.Packet.{Packet}
use Rattle.spl_value.specs.declared.packet.Packet.TheVariants as P
use Rattle.spl_value.specs.declared.value.Value.{Value}
use Rattle.spl_value.proofs.Lists.{set_elsewhere, set_here}
use Rattle.language_model.specs.Numbering.{numbers_from}
use Rattle.stream_model.specs.Sending.{on_output, outgoing}
use Rattle.stream_model.specs.declared.outgoing.Outgoing.{Outgoing}
use Rattle.stream_model.proofs.Outputs.{on_output-append}
use Rattle.network_model.specs.Packets.{items_in}
use Rattle.network_model.proofs.Packets.{items_in-append}
use Rattle.element_notes.specs.Endings.{poured_count, sent_on}

-- ---- one packet more

abbrev items_on : ℕ → List Outgoing → ℕ
items_on o pushed = length (items_in (on_output o pushed))

items-more : (o k : ℕ) (p : Packet) (pushed : List Outgoing) → items_on o (pushed ++ outgoing k p ∷ []) ≡ items_on o pushed + cond (k == o) (length (items_in (p ∷ []))) 0
items-more o k p pushed =
    ap (λ ps. length (items_in ps)) (on_output-append o pushed (outgoing k p ∷ []))
    ∙ ap length (items_in-append (on_output o pushed) (on_output o (outgoing k p ∷ [])))
    ∙ length-append (items_in (on_output o pushed)) (items_in (on_output o (outgoing k p ∷ [])))
    ∙ ap (λ n. items_on o pushed + n) (go (k == o))
  where
    go : (b : Bool) → length (items_in (cond b (p ∷ []) [])) ≡ cond b (length (items_in (p ∷ []))) 0
    go true = refl
    go false = refl

-- another output, another packet, and an item there
sent-other : (o k : ℕ) (p : Packet) (pushed : List Outgoing) → (k ≡ o → ⊥) → sent_on o (pushed ++ outgoing k p ∷ []) ≡ sent_on o pushed
sent-other o k p pushed other =
    ap (λ n. min n (2 ^ 64 - 1)) (items-more o k p pushed ∙ ap (λ b. items_on o pushed + cond {A = ℕ} b (length (items_in (p ∷ []))) 0) (ne_eqb k o other)
    ∙ (let z : items_on o pushed + 0 ≡ items_on o pushed = omega arith in z))

sent-same : (o k : ℕ) (p : Packet) (pushed : List Outgoing) → length (items_in (p ∷ [])) ≡ 0 → sent_on o (pushed ++ outgoing k p ∷ []) ≡ sent_on o pushed
sent-same o k p pushed none =
    ap (λ n. min n (2 ^ 64 - 1)) (items-more o k p pushed ∙ ap (λ m. items_on o pushed + cond (k == o) m 0) none ∙ go (k == o))
  where
    go : (b : Bool) → items_on o pushed + cond {A = ℕ} b 0 0 ≡ items_on o pushed
    go true = omega arith
    go false = omega arith

sent-item : (o k : ℕ) (p : Packet) (pushed : List Outgoing) → k ≡ o → length (items_in (p ∷ [])) ≡ 1 → sent_on o (pushed ++ outgoing k p ∷ []) ≡ min (sent_on o pushed + 1) (2 ^ 64 - 1)
sent-item o k p pushed same one =
    let more : items_on o (pushed ++ outgoing k p ∷ []) ≡ items_on o pushed + 1 =
    items-more o k p pushed ∙ ap (λ b. items_on o pushed + cond {A = ℕ} b (length (items_in (p ∷ []))) 0) (eq-eqb k o same) ∙ ap (λ j. items_on o pushed + j) one in
    omega (arith, more)

pub one_item : (p : Packet) (n : ℕ) (x : Item) → p ≡ P.Item n x → length (items_in (p ∷ [])) ≡ 1
one_item p n x is = ap (λ q. length (items_in (q ∷ []))) is

pub no_item : (p : Packet) → ((n : ℕ) (x : Item) → p ≡ P.Item n x → ⊥) → length (items_in (p ∷ [])) ≡ 0
no_item (P.Item n x) other = absurd (other n x refl)
no_item (P.Pulse n) other = refl
no_item P.Close other = refl
no_item P.Cut other = refl

-- what is noted of each output
abbrev pub Counts : List ℕ → List Outgoing → Type 0
Counts sent pushed = (o n : ℕ) → slice_get sent o ≡ Some n → n ≡ sent_on o pushed

pub counts_same : (sent : List ℕ) (k : ℕ) (p : Packet) (pushed : List Outgoing) → Counts sent pushed → length (items_in (p ∷ [])) ≡ 0 → Counts sent (pushed ++ outgoing k p ∷ [])
counts_same sent k p pushed is none o n got = is o n got ∙ sym (sent-same o k p pushed none)

-- on an output that there isn't nothing is noted
pub counts_past : (sent : List ℕ) (k : ℕ) (p : Packet) (pushed : List Outgoing) → Counts sent pushed → ((n : ℕ) → slice_get sent k ≡ Some n → ⊥) → Counts sent (pushed ++ outgoing k p ∷ [])
counts_past sent k p pushed is past o n got = is o n got ∙ sym (sent-other o k p pushed (λ e. past n (ap (slice_get sent) e ∙ got)))

pub counts_more : (sent : List ℕ) (k m : ℕ) (p : Packet) (pushed : List Outgoing) → Counts sent pushed → slice_get sent k ≡ Some m → k < length sent → length (items_in (p ∷ [])) ≡ 1
    → Counts (set sent k (min (m + 1) (2 ^ 64 - 1))) (pushed ++ outgoing k p ∷ [])
counts_more sent k m p pushed is had within one o n got = go (cases_eq k o)
  where
    more : ℕ
    more = min (m + 1) (2 ^ 64 - 1)

    go : (k ≡ o) ⊎ (k ≡ o → ⊥) → n ≡ sent_on o (pushed ++ outgoing k p ∷ [])
    go (inl e) =
        let here : Some more ≡ Some n = sym (set_here sent k more within) ∙ ap (slice_get (set sent k more)) e ∙ got in
        let is_n : n ≡ more = cc in
        is_n ∙ ap (λ j. min (j + 1) (2 ^ 64 - 1)) (is k m had ∙ ap (λ j. sent_on j pushed) e) ∙ sym (sent-item o k p pushed e one)
    go (inr other) = is o n (sym (set_elsewhere sent k o more other) ∙ got) ∙ sym (sent-other o k p pushed other)

-- one that is given back
pub counts_back : (sent : List ℕ) (k m : ℕ) (p : Packet) (pushed : List Outgoing) → Counts sent (pushed ++ outgoing k p ∷ []) → m ≡ sent_on k pushed → k < length sent → Counts (set sent k m) pushed
counts_back sent k m p pushed is had within o n got = go (cases_eq k o)
  where
    go : (k ≡ o) ⊎ (k ≡ o → ⊥) → n ≡ sent_on o pushed
    go (inl e) =
        let here : Some m ≡ Some n = sym (set_here sent k m within) ∙ ap (slice_get (set sent k m)) e ∙ got in
        let is_n : n ≡ m = cc in
        is_n ∙ had ∙ ap (λ j. sent_on j pushed) e
    go (inr other) = is o n (sym (set_elsewhere sent k o m other) ∙ got) ∙ sent-other o k p pushed other

pub counts_kept : (sent : List ℕ) (k : ℕ) (p : Packet) (pushed : List Outgoing) → Counts sent (pushed ++ outgoing k p ∷ []) → ((n : ℕ) → slice_get sent k ≡ Some n → ⊥) → Counts sent pushed
counts_kept sent k p pushed is past o n got = is o n got ∙ sent-other o k p pushed (λ e. past n (ap (slice_get sent) e ∙ got))

-- ---- all of them

-- a list that has a value at each place is that of the values
all_of : (f : ℕ → ℕ) (o count : ℕ) (ns : List ℕ) → length ns ≡ count → ((i n : ℕ) → slice_get ns i ≡ Some n → n ≡ f (o + i)) → ns ≡ map f (numbers_from o count)
all_of f o zero [] l is = refl
all_of f o (suc count) [] l is = cc
all_of f o zero (n ∷ ns) l is = cc
all_of f o (suc count) (n ∷ ns) l is =
    ap (λ m. m ∷ ns) (is 0 n refl ∙ ap f (let z : o + 0 ≡ o = omega arith in z))
    ∙ ap (λ ms. f o ∷ ms) (all_of f (suc o) count ns (omega (arith, l)) (λ i m got. is (suc i) m got ∙ ap f (let z : o + suc i ≡ suc o + i = omega arith in z)))

pub counts_all : (count : ℕ) (sent : List ℕ) (pushed : List Outgoing) → length sent ≡ count → Counts sent pushed → sent ≡ map (λ o. sent_on o pushed) (numbers_from 0 count)
counts_all count sent pushed l is = all_of (λ o. sent_on o pushed) 0 count sent l (λ i n got. is i n got ∙ ap (λ o. sent_on o pushed) (let z : i ≡ 0 + i = omega arith in z))

none_each : (n i y : ℕ) → slice_get (replicate n 0) i ≡ Some y → y ≡ 0
none_each zero i y got = cc
none_each (suc n) zero y got = let same : Some 0 ≡ Some y = got in cc
none_each (suc n) (suc i) y got = none_each n i y got

pub counts_none : (count : ℕ) → Counts (replicate count 0) []
counts_none count o n got = none_each count o n got

-- ---- tuples

pub poured-more : (n : ℕ) (poured : List (List Value)) (tuple : List Value) → n ≡ poured_count poured → min (n + 1) (2 ^ 64 - 1) ≡ poured_count (poured ++ tuple ∷ [])
poured-more n poured tuple e =
    let more : length (poured ++ tuple ∷ []) ≡ length poured + 1 = length-append poured (tuple ∷ []) in
    omega (arith, e, more)
