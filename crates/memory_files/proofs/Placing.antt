-- A read that places as many bytes as fit.
use Rattle.std.proofs.Common.{◌≡◌, ℕ, ◌+◌, ◌-◌, ◌<◌, min, List, [], ◌++◌, length, take, drop, Some, refl, sym, ◌∙◌, ap, arith}
use Rattle.std.proofs.lemmas.List.{take-append-drop, drop_all, drop-drop}
use Rattle.feed_pour.specs.Contents.{Gave, Took}
use Rattle.memory_files.specs.Plain.{plain_script}

front_of : (bytes piece : List ℕ) (at n : ℕ) → take n piece ≡ take n (drop at bytes) → drop at bytes ≡ take n piece ++ drop (at + n) bytes
front_of bytes piece at n same =
    sym (take-append-drop n (drop at bytes))
    ∙ ap (λ (x : List ℕ). x ++ drop n (drop at bytes)) (sym same)
    ∙ ap (λ (x : List ℕ). take n piece ++ x) (drop-drop n at bytes)

nothing_left : (bytes : List ℕ) (at n len : ℕ) → 0 < len → n ≡ min len (length bytes - at) → n ≡ 0 → drop at bytes ≡ []
nothing_left bytes at n len some is zero = drop_all at bytes (omega arith)

pub took : (bytes placed piece : List ℕ) (at n len : ℕ) → placed ≡ bytes → 0 < len → n ≡ min len (length placed - at) → take n piece ≡ take n (drop at placed) →
    Took (drop at bytes) (Some (drop (at + n) bytes)) n piece
took bytes placed piece at n len e some is same = record {
  rest = drop (at + n) bytes;
  front = front_of bytes piece at n (same ∙ ap (λ (x : List ℕ). take n (drop at x)) e);
  left = refl;
  over = nothing_left bytes at n len some (is ∙ ap (λ (x : List ℕ). min len (length x - at)) e);
}

pub gave : (bytes placed piece : List ℕ) (at n len : ℕ) → placed ≡ bytes → 0 < len → n ≡ min len (length placed - at) → take n piece ≡ take n (drop at placed) →
    Gave (plain_script (drop at bytes)) (Some (plain_script (drop (at + n) bytes))) n piece
gave bytes placed piece at n len e some is same = record {
  rest = drop (at + n) bytes;
  front = front_of bytes piece at n (same ∙ ap (λ (x : List ℕ). take n (drop at x)) e);
  left = λ _. refl;
  over = λ zero. ap plain_script (nothing_left bytes at n len some (is ∙ ap (λ (x : List ℕ). min len (length x - at)) e) zero);
}
