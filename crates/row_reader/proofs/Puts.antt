-- Values at the places of a tuple.
use Rattle.std.proofs.Common.{◌≡◌, ◌++◌, ◌∷◌, ◌∙◌, ◌+◌, ◌<◌, ◌≤◌, [], ℕ, List, Bool, true, false, Option, Some, None, sym, ap, refl, subst, take, length, length-append, slice_set, arith}
use Rattle.std.proofs.lemmas.List.{length-set, take_all, take_more_set}
use Rattle.spl_value.specs.declared.types.SplType.{SplType}
use Rattle.spl_value.specs.declared.value.Value.{Value}
use Rattle.stream_model.specs.parts.Fields.{field_value}
use Rattle.row_reader.specs.steps.Adding.{Added, IsPut, Puts}
use Rattle.row_reader.specs.steps.Plain.{FirstPut, IsCut}

-- a value that is written over one
pub put_over : (at : ℕ) (v : Value) (old new : List Value) → at < length old → new ≡ slice_set old at v → IsPut at v old new
put_over at v old new h e =
    subst (IsPut at v old) (sym e) (record { front = take_more_set old at v h; room = omega (arith, h, length-set old at v) })

-- one that is added behind the others
pub put_behind : (at : ℕ) (v : Value) (old new : List Value) → at ≤ length old → length old ≤ at → new ≡ old ++ v ∷ [] → IsPut at v old new
put_behind at v old new h g e =
    let size : length (old ++ v ∷ []) ≡ length old + 1 = length-append old (v ∷ []) in
    subst (IsPut at v old) (sym e) (record {
      front = take_all (at + 1) (old ++ v ∷ []) (omega (arith, g, size)) ∙ ap (λ z. z ++ v ∷ []) (sym (take_all at old g));
      room = omega (arith, g, h, size);
    })

-- ---- the values of fields

pub puts_none : (v : Option Value) (at : ℕ) (old new : List Value) → v ≡ None → Puts v false at old new
puts_none v at old new e = rw e refl

pub puts_some : (v : Option Value) (w : Value) (at : ℕ) (old new : List Value) → v ≡ Some w → IsPut at w old new → Puts v true at old new
puts_some v w at old new e p = rw e (refl, p)

pub puts_added : (v : Option Value) (fits : Bool) (at : ℕ) (old new : List Value) → Puts v fits at old new → Added v fits (take at old) (take (at + 1) new)
puts_added None fits at old new p = p
puts_added (Some v) fits at old new p = (p.0, p.1.front)

pub puts_room : (v : Option Value) (fits : Bool) (at : ℕ) (old new : List Value) → Puts v fits at old new → fits ≡ true → at + 1 ≤ length new
puts_room None fits at old new p f = absurd (let h = sym p ∙ f in cc h)
puts_room (Some v) fits at old new p f = p.1.room

-- ---- the first field of a line

pub first_put : (t : SplType) (line : List ℕ) (at end : ℕ) (old new : List Value) (fits : Bool) → IsCut line end → Puts (field_value t (take end line)) fits at old new → fits ≡ true
    → FirstPut t line at old new end
first_put t line at end old new fits cut p f = by_value (field_value t (take end line)) refl p where
  by_value : (v : Option Value) → field_value t (take end line) ≡ v → Puts v fits at old new → FirstPut t line at old new end
  by_value None e q = absurd (let h = sym q ∙ f in cc h)
  by_value (Some v) e q = record { v = v; cut = cut; value = e; put = q.1 }

-- ---- the values in front

pub shortened : (xs new : List Value) (n m : ℕ) → n ≤ m → m ≤ n → new ≡ take m xs → take n xs ≡ new
shortened xs new n m h g e = let same : n ≡ m = omega (arith, h, g) in ap (λ k. take k xs) same ∙ sym e
