-- What is left of a script, and what was poured, over a loop.
use Rattle.std.proofs.Common.{◌≡◌, ℕ, ◌+◌, ◌-◌, ◌≤◌, List, [], ◌++◌, length, take, drop, refl, sym, ap, ◌∙◌, arith, Option, Some, None, Ok, Err, append_assoc, length-drop}
use Rattle.std.proofs.lemmas.List.{take_all}
use Rattle.std.proofs.Math.Seq.{take-add}
use Rattle.feed_pour.specs.declared.outside.PourAnswer.{PourAnswer}
use Rattle.feed_pour.specs.declared.outside.PourAnswer.TheVariants as P
use Rattle.spl_value.specs.Script.{Script}
use Rattle.feed_pour.specs.Contents.{LeftBehind, PouredSoFar, Poured, AllPoured}

pub behind_at_start : (s : Option Script) (taken : List ℕ) → taken ≡ [] → LeftBehind s taken s
behind_at_start None taken e = tt
behind_at_start (Some s) taken e = record { rest = s.bytes; front = sym (ap (λ (x : List ℕ). x ++ s.bytes) e); left = refl }

step : (old bytes from : List ℕ) (at n : ℕ) → from ≡ take (length bytes - at) (drop at bytes) →
    (old ++ take at bytes) ++ take n from ≡ old ++ take (at + n) bytes
step old bytes from at n e =
    let whole : from ≡ drop at bytes = e ∙ take_all (length bytes - at) (drop at bytes) (let h = length-drop at bytes in omega (arith, h)) in
    ap (λ (x : List ℕ). (old ++ take at bytes) ++ take n x) whole
    ∙ append_assoc old (take at bytes) (take n (drop at bytes))
    ∙ ap (λ (x : List ℕ). old ++ x) (sym (take-add at n bytes))

pub poured_more : (old mid now : Option (List ℕ)) (bytes from : List ℕ) (at n : ℕ) → from ≡ take (length bytes - at) (drop at bytes) →
    PouredSoFar old mid (take at bytes) → Poured mid now (Ok n) from → PouredSoFar old now (take (at + n) bytes)
poured_more None mid now bytes from at n e so_far more = tt
poured_more (Some old) mid now bytes from at n e so_far more =
    let more' : Poured (Some (old ++ take at bytes)) now (Ok n) from = rw so_far at more in
    more' ∙ ap (λ (x : List ℕ). Some x) (step old bytes from at n e)

pub poured_err : (old mid now : Option (List ℕ)) (bytes from : List ℕ) (at : ℕ) (e : PourAnswer) → from ≡ take (length bytes - at) (drop at bytes) →
    at ≤ length bytes → PouredSoFar old mid (take at bytes) → Poured mid now (Err e) from → AllPoured old now (Err e) bytes
poured_err None mid now bytes from at e is within so_far more = tt
poured_err (Some old) mid now bytes from at P.Failed is within so_far more =
    let more' : Poured (Some (old ++ take at bytes)) now (Err P.Failed) from = rw so_far at more in
    let len : length from ≡ length bytes - at =
    rw is (rw (take_all (length bytes - at) (drop at bytes) (let h = length-drop at bytes in omega (arith, h))) (length-drop at bytes)) in
    let n = more'.0 in
    let small : n ≤ length from = more'.1 in
    (at + n, omega arith, more'.2 ∙ ap (λ (x : List ℕ). Some x) (step old bytes from at n is))
poured_err (Some old) mid now bytes from at P.Memory is within so_far more =
    let more' : Poured (Some (old ++ take at bytes)) now (Err P.Memory) from = rw so_far at more in
    (at, within, more')

pub within_more : (bytes : List ℕ) (at n : ℕ) → at ≤ length bytes → n ≤ length (take (length bytes - at) (drop at bytes)) → at + n ≤ length bytes
within_more bytes at n within more =
    let h = length-drop at bytes in
    let more' : n ≤ length (drop at bytes) = rw (take_all (length bytes - at) (drop at bytes) (omega arith)) at more in
    omega arith
