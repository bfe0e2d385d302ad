-- Outputs one by one.
use Rattle.std.proofs.Common.{ℕ, zero, suc, ◌+◌, ◌-◌, ◌<◌, ◌≤◌, List, [], ◌∷◌, ◌++◌, ◌≡◌, take, length, drop, get_or, refl, sym, ap, ◌∙◌, append_assoc, append-nil, arith, slice_get, Some, None}
use Rattle.std.proofs.lemmas.List.{map-append, take_more}
use Rattle.std.specs.Prelude.{IfOk, Result, Ok, Err}
use Rattle.spl_value.specs.declared.packet.Packet.{Packet}
use Rattle.language_model.specs.declared.outs.Output.{Output}
use Rattle.language_model.specs.Numbering.{numbers_from}
use Rattle.stream_model.specs.declared.outgoing.Outgoing.{Outgoing}
use Rattle.stream_model.specs.Sending.{outgoing}
use Rattle.stream_model.specs.Fans.{on_outputs, outputs_from, fans_out}
use Rattle.element_outboxes.specs.declared.fan.Fan.{Fan}
use Rattle.element_outboxes.specs.Waiting.{all_out, fan_outputs, fans_from, outputs_in}

-- ---- outputs in a row

pub numbers-more : (first n : ℕ) → numbers_from first (n + 1) ≡ numbers_from first n ++ (first + n) ∷ []
numbers-more first zero = let e : first ≡ first + 0 = omega arith in ap (λ k. k ∷ []) e
numbers-more first (suc n) =
    ap (numbers_from first) (let e : suc n + 1 ≡ suc (n + 1) = omega arith in e)
    ∙ ap (λ ks. first ∷ ks) (numbers-more (suc first) n ∙ ap (λ k. numbers_from (suc first) n ++ k ∷ []) (let e : suc first + n ≡ first + suc n = omega arith in e))

-- the packet on one output more
pub on_outputs-more : (first output next : ℕ) (p : Packet) (S B C : List Outgoing) → first ≤ output → next ≡ output + 1
    → B ≡ S ++ on_outputs (numbers_from first (output - first)) p → C ≡ B ++ outgoing output p ∷ []
    → C ≡ S ++ on_outputs (numbers_from first (next - first)) p
on_outputs-more first output next p S B C low n b c =
    let count : next - first ≡ (output - first) + 1 = omega arith in
    let here : first + (output - first) ≡ output = omega arith in
    c ∙ ap (λ z. z ++ outgoing output p ∷ []) b ∙ append_assoc S (on_outputs (numbers_from first (output - first)) p) (outgoing output p ∷ [])
    ∙ ap (λ z. S ++ z)
    (ap (λ k. on_outputs (numbers_from first (output - first)) p ++ outgoing k p ∷ []) (sym here)
    ∙ sym (map-append (λ o. outgoing o p) (numbers_from first (output - first)) ((first + (output - first)) ∷ []))
    ∙ ap (λ ks. on_outputs ks p) (sym (numbers-more first (output - first)))
    ∙ ap (λ k. on_outputs (numbers_from first k) p) (sym count))

-- copies on all outputs but the last, and the item on that one
pub on_outputs-last : (first count others : ℕ) (p : Packet) (S B C : List Outgoing) → count ≡ others + 1
    → B ≡ S ++ on_outputs (numbers_from first others) p → C ≡ B ++ outgoing (first + others) p ∷ []
    → C ≡ S ++ on_outputs (numbers_from first count) p
on_outputs-last first count others p S B C n b c =
    c ∙ ap (λ z. z ++ outgoing (first + others) p ∷ []) b ∙ append_assoc S (on_outputs (numbers_from first others) p) (outgoing (first + others) p ∷ [])
    ∙ ap (λ z. S ++ z)
    (sym (map-append (λ o. outgoing o p) (numbers_from first others) ((first + others) ∷ []))
    ∙ ap (λ ks. on_outputs ks p) (sym (numbers-more first others))
    ∙ ap (λ k. on_outputs (numbers_from first k) p) (sym n))

-- ---- the outputs of each port

fans-more : (first : ℕ) (counts : List ℕ) (n : ℕ) → fans_from first (counts ++ n ∷ []) ≡ fans_from first counts ++ record { first = first + outputs_in counts; count = n } ∷ []
fans-more first [] n = ap (λ k. record { first = k; count = n } ∷ []) (let e : first ≡ first + 0 = omega arith in e)
fans-more first (m ∷ counts) n =
    ap (λ fans. record { first = first; count = m } ∷ fans) (fans-more (first + m) counts n)
    ∙ ap (λ k. record { first = first; count = m } ∷ (fans_from (first + m) counts ++ record { first = k; count = n } ∷ [])) (let e : first + m + outputs_in counts ≡ first + (m + outputs_in counts) = omega arith in e)

-- the entry of a port
pub fan_at : (first : ℕ) (counts : List ℕ) (p : ℕ) (fan : Fan) → slice_get (fans_from first counts) p ≡ Some fan
    → (fan_outputs fan ≡ outputs_from first counts p) × (fan.first + fan.count ≤ first + outputs_in counts)
fan_at first [] p fan h = cc
fan_at first (n ∷ counts) zero fan h =
    let e : record { first = first; count = n } ≡ fan = cc in
    (sym (ap fan_outputs e), let f : first ≡ fan.first = ap (λ (x : Fan). x.first) e in let k : n ≡ fan.count = ap (λ (x : Fan). x.count) e in omega arith)
fan_at first (n ∷ counts) (suc p) fan h =
    let r = fan_at (first + n) counts p fan h in
    (r.0, let e : fan.first + fan.count ≤ first + n + outputs_in counts = r.1 in omega arith)

pub fan_past : (first : ℕ) (counts : List ℕ) (p : ℕ) → slice_get (fans_from first counts) p ≡ None → outputs_from first counts p ≡ []
fan_past first [] p h = refl
fan_past first (n ∷ counts) zero h = cc
fan_past first (n ∷ counts) (suc p) h = fan_past (first + n) counts p h

outputs-append : (xs : List ℕ) (n : ℕ) → outputs_in (xs ++ n ∷ []) ≡ outputs_in xs + n
outputs-append [] n = omega arith
outputs-append (x ∷ xs) n = let e : outputs_in (xs ++ n ∷ []) ≡ outputs_in xs + n = outputs-append xs n in omega arith

outputs-front : (i : ℕ) (xs : List ℕ) → outputs_in (take i xs) ≤ outputs_in xs
outputs-front zero xs = omega arith
outputs-front (suc i) [] = omega arith
outputs-front (suc i) (x ∷ xs) = let e : outputs_in (take i xs) ≤ outputs_in xs = outputs-front i xs in omega arith

-- one port more
pub port_more : (counts : List ℕ) (i n first : ℕ) (fans more : List Fan) → i < length counts → n ≡ get_or counts i 0
    → fans ≡ fans_from 0 (take i counts) → first ≡ outputs_in (take i counts) → more ≡ fans ++ record { first = first; count = n } ∷ []
    → (more ≡ fans_from 0 (take (i + 1) counts)) × (first + n ≡ outputs_in (take (i + 1) counts)) × (first + n ≤ outputs_in counts)
port_more counts i n first fans more lt is f k m =
    let longer : take (i + 1) counts ≡ take i counts ++ n ∷ [] = take_more counts i 0 lt ∙ ap (λ x. take i counts ++ x ∷ []) (sym is) in
    let sum : first + n ≡ outputs_in (take (i + 1) counts) = ap (λ x. x + n) k ∙ sym (outputs-append (take i counts) n) ∙ ap outputs_in (sym longer) in
    let all : outputs_in (take (i + 1) counts) ≤ outputs_in counts = outputs-front (i + 1) counts in (
      m ∙ ap (λ x. x ++ record { first = first; count = n } ∷ []) f ∙ ap (λ x. fans_from 0 (take i counts) ++ record { first = x; count = n } ∷ []) k
          ∙ sym (fans-more 0 (take i counts) n ∙ ap (λ x. fans_from 0 (take i counts) ++ record { first = x; count = n } ∷ []) (let e : 0 + outputs_in (take i counts) ≡ outputs_in (take i counts) = omega arith in e)) ∙ ap (fans_from 0) (sym longer),
      sum,
      omega arith,
    )

-- ---- what is given, one after another

all_out-append : (counts : List ℕ) (xs ys : List Output) → all_out counts (xs ++ ys) ≡ all_out counts xs ++ all_out counts ys
all_out-append counts [] ys = refl
all_out-append counts (x ∷ xs) ys =
    ap (λ z. fans_out counts x ++ z) (all_out-append counts xs ys) ∙ sym (append_assoc (fans_out counts x) (all_out counts xs) (all_out counts ys))

pub all_out-more : (counts : List ℕ) (front : List Output) (o : Output) (S B C : List Outgoing)
    → B ≡ S ++ all_out counts front → C ≡ B ++ fans_out counts o → C ≡ S ++ all_out counts (front ++ o ∷ [])
all_out-more counts front o S B C b c =
    c ∙ ap (λ z. z ++ fans_out counts o) b ∙ append_assoc S (all_out counts front) (fans_out counts o)
    ∙ ap (λ z. S ++ (all_out counts front ++ z)) (sym (append-nil (fans_out counts o)))
    ∙ ap (λ z. S ++ z) (sym (all_out-append counts front (o ∷ [])))

-- ---- fronts

pub front_is : {A : Type 0} (xs : List A) (x : A) → 0 < length xs → x ≡ get_or xs 0 x → xs ≡ x ∷ drop 1 xs
front_is [] x l e = absurd (omega arith)
front_is (y ∷ xs) x l e = ap (λ z. z ∷ xs) (sym e)

pub ok_then : {A E : Type 0} (P Q : A → Type 0) (r : Result A E) → ((x : A) → P x → Q x) → IfOk r P → IfOk r Q
ok_then P Q (Ok x) f h = f x h
ok_then P Q (Err e) f h = tt
