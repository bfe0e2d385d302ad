-- What the events of a record leave of the lists, where they end their operator by a final marker.
use Rattle.std.proofs.Common.{ℕ, zero, suc, ◌+◌, ◌<◌, ◌==◌, Bool, true, false, cond, ◌&&◌, ◌⊎◌, List, [], ◌∷◌, ◌++◌, ◌≡◌, length, append-nil, Option, Some, None, is_some, inl, inr, refl, sym, ap, ◌∙◌, arith}
use Rattle.std.specs.Option.{option_or}
use Rattle.std.proofs.lemmas.Bool.{cond-true, and_parts}
use Rattle.spl_value.specs.declared.item.Item.{Item}
use Rattle.spl_value.specs.declared.item.Item.TheVariants as I
use Rattle.stream_model.specs.Stream.{Event, is_final, is_fault, any_closes, is_closed, is_empty}
use Rattle.spl_value.specs.Numbered.{closes}
use Rattle.stream_model.specs.Inputs.{came_on}
use Rattle.stream_model.specs.Operators.{Operator, ports}
use Rattle.stream_model.specs.PortEvents.{is_over, all_over, is_waiting, ends_all}
use Rattle.stream_model.proofs.parts.PortEvents.{all_ended}
use Rattle.stream_model.specs.React.{Reaction, Gives, Faults, body, ended, ended_by}
use Rattle.stream_model.proofs.StageLaws.{stage_at}
use Rattle.stream_model.specs.Meaning.{arrive}
use Rattle.stream_model.specs.Ends.{end_from}
use Rattle.stream_model.specs.RecordLaws.{UsedUpLaw}
use Rattle.stream_model.proofs.Records.{items_law}

-- the operator ends by a final marker only where all its ports have ended
final_is_last : (op : Operator) (x : Item) (fault waits last : Bool) (a : Reaction) → is_fault x ≡ fault
    → cond fault (Some x) (cond waits None (ended_by op last a)) ≡ Some I.Final → last ≡ true
final_is_last op (I.Tuple vs) true waits last a f h = absurd (cc)
final_is_last op I.Window true waits last a f h = absurd (cc)
final_is_last op I.Final true waits last a f h = absurd (cc)
final_is_last op (I.Bad g) true waits last a f h = absurd (cc)
final_is_last op x false true last a f h = absurd (cc)
final_is_last op x false false true a f h = refl
final_is_last op x false false false (Gives outs) f h = absurd (cc)
final_is_last op x false false false (Faults kind) f h = absurd (cc)

all_over-at : (ps : List ℕ) (from j i : ℕ) (h : List Event) → all_over (λ q. true) ps from h ≡ true → j < length ps → i ≡ from + j → is_over h i ≡ true
all_over-at [] from j i h all lt at = absurd (omega arith)
all_over-at (p ∷ ps) from zero i h all lt at =
    let both = and_parts (is_over h from) (all_over (λ q. true) ps (suc from) h) all in
    let here : i ≡ from = omega (arith, at) in
    ap (is_over h) here ∙ both.0
all_over-at (p ∷ ps) from (suc j) i h all lt at =
    let both = and_parts (is_over h from) (all_over (λ q. true) ps (suc from) h) all in
    all_over-at ps (suc from) j i h both.1 (omega (arith, lt)) (omega (arith, at))

pub over_at_end : (op : Operator) (seen : List Event) (e : Event) (i : ℕ) → ended op seen e ≡ Some I.Final → i < length (ports op) → is_over (e ∷ seen) i ≡ true
over_at_end op seen e i h lt =
    let last = final_is_last op e.item (is_fault e.item) (is_waiting op seen e) (ends_all op seen e) (body op seen e) refl h in
    let all = and_parts (is_final e.item) (all_ended op (e ∷ seen)) last in
    all_over-at (ports op) 0 i i (e ∷ seen) all.1 lt (omega arith)

final_closes : (x : Item) → is_final x ≡ true → closes x ≡ true
final_closes (I.Tuple vs) h = cc
final_closes I.Window h = cc
final_closes I.Final h = refl
final_closes (I.Bad f) h = cc

-- a final marker came earlier or comes later on the input
abbrev Comes : List Event → List Event → ℕ → Type 0
Comes seen events i = (is_over seen i ≡ true) ⊎ (any_closes (came_on (λ j. j == i) events) ≡ true)

now : (at final : Bool) (x : Item) (cs : List Item) (seen : List Event) (i : ℕ) → (final ≡ true → closes x ≡ true)
    → cond (at && final) true (is_over seen i) ≡ true → (is_over seen i ≡ true) ⊎ (any_closes (cond at (x ∷ cs) cs) ≡ true)
now true true x cs seen i c h = inr (cond-true (closes x) true (any_closes cs) (c refl))
now true false x cs seen i c h = inl h
now false final x cs seen i c h = inl h

later : (at : Bool) (x : Item) (cs : List Item) → any_closes cs ≡ true → any_closes (cond at (x ∷ cs) cs) ≡ true
later false x cs h = h
later true x cs h = go (closes x)
  where
    go : (b : Bool) → cond b true (any_closes cs) ≡ true
    go true = refl
    go false = h

here : (seen events : List Event) (e : Event) (i : ℕ) → is_over (e ∷ seen) i ≡ true → Comes seen (e ∷ events) i
here seen events e i h = now (e.input == i) (is_final e.item) e.item (came_on (λ j. j == i) events) seen i (final_closes e.item) h

comes : (op : Operator) (seen events : List Event) (i : ℕ) → i < length (ports op) → end_from (stage_at op seen false) events ≡ Some I.Final → Comes seen events i
comes op seen [] i lt h = absurd (cc)
comes op seen (e ∷ events) i lt h = go (ended op seen e) refl h (comes op (e ∷ seen) events i lt)
  where
    go : (o : Option Item) → ended op seen e ≡ o → option_or o (end_from (stage_at op (e ∷ seen) (is_some o)) events) ≡ Some I.Final
        → (end_from (stage_at op (e ∷ seen) false) events ≡ Some I.Final → Comes (e ∷ seen) events i) → Comes seen (e ∷ events) i
    go (Some x) q h rest = here seen events e i (over_at_end op seen e i (q ∙ h) lt)
    go None q h rest = elim (rest h) [
      | inl over ↦ here seen events e i over
      | inr more ↦ inr (later (e.input == i) e.item (came_on (λ j. j == i) events) more)
    ]

nothing : (front rest : List Item) → is_empty (front ++ rest) ≡ true → rest ≡ []
nothing [] [] h = refl
nothing [] (x ∷ rest) h = cc
nothing (y ∷ front) rest h = absurd (cc)

-- a front of a closed list that closes is all of it
all_of_closed : (front rest : List Item) → is_closed (front ++ rest) ≡ true → any_closes front ≡ true → rest ≡ []
all_of_closed [] rest closed some = absurd (cc)
all_of_closed (x ∷ front) rest closed some = go (closes x) closed some (all_of_closed front rest)
  where
    go : (b : Bool) → cond b (is_empty (front ++ rest)) (is_closed (front ++ rest)) ≡ true → cond b true (any_closes front) ≡ true
        → (is_closed (front ++ rest) ≡ true → any_closes front ≡ true → rest ≡ []) → rest ≡ []
    go true closed some more = nothing front rest closed
    go false closed some more = more closed some

pub used_up_law : UsedUpLaw
used_up_law op lists entries i final lt closed =
    let front : List Item = came_on (λ j. j == i) (arrive lists entries) in
    let p = items_law lists entries i in
    elim (comes op [] (arrive lists entries) i lt final) [
      | inl early ↦ absurd (cc)
      | inr some ↦
          sym (append-nil front)
          ∙ ap (λ zs. front ++ zs) (sym (all_of_closed front p.0 (ap is_closed p.1 ∙ closed) some))
          ∙ p.1
    ]
