-- The next call that is to fail, and the script before it.
use Rattle.std.proofs.Common.{◌≡◌, ℕ, ◌+◌, ◌-◌, ◌*◌, ◌^◌, ◌<◌, ◌≤◌, min, List, [], ◌∷◌, ◌++◌, length, take, drop, get_or, Bool, true, false, ◌||◌, ◌==◌, if◌then◌else◌, nat_lt, Option, Some, None, refl, sym, ◌∙◌, ap, suc, inl, inr, arith, length-drop, subst}
use Rattle.std.proofs.lemmas.List.{take-append-drop, drop_all, take_all, drop-drop}
use Rattle.std.proofs.Math.Seq.{take-add}
use Rattle.std.specs.List.{list_any}
use Rattle.spl_value.specs.Script.{Script, End}
use Rattle.spl_value.specs.Script as S
use Rattle.feed_pour.specs.Contents.{Gave}
use Rattle.memory_files.specs.Failing.{sooner, next_failing, is_to_fail, CallCounted}
use Rattle.memory_files.specs.Memory.{script_up_to, script_of}
use Rattle.spl_value.proofs.Bools.{lt_true as true_lt, true_lt as lt_true}

none_at : (t : Bool) (c k : ℕ) (ks : List ℕ) → nat_lt c k ≡ t → k ≤ c → next_failing c ks ≡ None → (if t then sooner k (next_failing c ks) else next_failing c ks) ≡ None
none_at true c k ks is le ih = absurd (grind arith)
none_at false c k ks is le ih = ih

pub none_left : (c : ℕ) (f : List ℕ) → ((i : ℕ) → get_or f i 0 ≤ c) → next_failing c f ≡ None
none_left c [] below = refl
none_left c (k ∷ ks) below = none_at (nat_lt c k) c k ks refl (below 0) (none_left c ks (λ i. below (suc i)))

-- what is found is above
abbrev pub Above : ℕ → Option ℕ → Type 0
Above c None = Unit {0}
Above c (Some k) = c < k

sooner_above : (c k : ℕ) (o : Option ℕ) → c < k → Above c o → Above c (sooner k o)
sooner_above c k None lt h = lt
sooner_above c k (Some j) lt h = omega arith

above_at : (t : Bool) (c k : ℕ) (ks : List ℕ) → nat_lt c k ≡ t → Above c (next_failing c ks) → Above c (if t then sooner k (next_failing c ks) else next_failing c ks)
above_at true c k ks is ih = sooner_above c k (next_failing c ks) (grind arith) ih
above_at false c k ks is ih = ih

pub above : (c : ℕ) (f : List ℕ) → Above c (next_failing c f)
above c [] = tt
above c (k ∷ ks) = above_at (nat_lt c k) c k ks refl (above c ks)

sooner_first : (c k : ℕ) (o : Option ℕ) → k ≡ c + 1 → Above c o → sooner k o ≡ Some (c + 1)
sooner_first c k None is h = ap (λ (n : ℕ). Some n) is
sooner_first c k (Some j) is h = ap (λ (n : ℕ). Some n) (let e : min k j ≡ c + 1 = omega arith in e)

hit_at : (t u : Bool) (c k : ℕ) (ks : List ℕ) → nat_lt c k ≡ t → (k == c + 1) ≡ u → (u || list_any (λ j. j == c + 1) ks) ≡ true →
    (list_any (λ j. j == c + 1) ks ≡ true → next_failing c ks ≡ Some (c + 1)) →
    (if t then sooner k (next_failing c ks) else next_failing c ks) ≡ Some (c + 1)
hit_at true true c k ks lt is any ih = sooner_first c k (next_failing c ks) (grind arith) (above c ks)
hit_at false true c k ks lt is any ih = absurd (grind arith)
hit_at true false c k ks lt is any ih =
    let e : c < k = grind arith in
    ap (sooner k) (ih any) ∙ ap (λ (n : ℕ). Some n) (let m : min k (c + 1) ≡ c + 1 = omega arith in m)
hit_at false false c k ks lt is any ih = ih any

pub hit : (c : ℕ) (f : List ℕ) → list_any (λ j. j == c + 1) f ≡ true → next_failing c f ≡ Some (c + 1)
hit c [] any = cc
hit c (k ∷ ks) any = hit_at (nat_lt c k) (k == c + 1) c k ks refl refl any (hit c ks)

same_test : (c k : ℕ) → (k == c + 1) ≡ false → nat_lt (c + 1) k ≡ nat_lt c k
same_test c k differs = grind arith

miss_at : (u : Bool) (c k : ℕ) (ks : List ℕ) → (k == c + 1) ≡ u → (u || list_any (λ j. j == c + 1) ks) ≡ false →
    (list_any (λ j. j == c + 1) ks ≡ false → next_failing (c + 1) ks ≡ next_failing c ks) → next_failing (c + 1) (k ∷ ks) ≡ next_failing c (k ∷ ks)
miss_at true c k ks is any ih = cc
miss_at false c k ks is any ih =
    ap (λ (t : Bool). if t then sooner k (next_failing (c + 1) ks) else next_failing (c + 1) ks) (same_test c k is)
    ∙ ap (λ (o : Option ℕ). if nat_lt c k then sooner k o else o) (ih any)

pub miss : (c : ℕ) (f : List ℕ) → list_any (λ j. j == c + 1) f ≡ false → next_failing (c + 1) f ≡ next_failing c f
miss c [] any = refl
miss c (k ∷ ks) any = miss_at (k == c + 1) c k ks refl any (miss c ks)

-- ---- scripts

lt_false : (a b : ℕ) → nat_lt a b ≡ false → b ≤ a
lt_false a b e = grind arith

-- what stands before j pieces, or the whole
abbrev part : Bool → ℕ → List ℕ → Script
part t j left = if t then record { bytes = take (j * 8192) left; ending = S.Failed } else record { bytes = left; ending = End }

at_once : (left : List ℕ) (j : ℕ) → j ≡ 0 → part (nat_lt (j * 8192) (length left + 8192)) j left ≡ record { bytes = []; ending = S.Failed }
at_once left j is =
    let zero : j * 8192 ≡ 0 = omega arith in
    ap (λ (t : Bool). part t j left) (true_lt (j * 8192) (length left + 8192) (omega arith))
    ∙ ap (λ (m : ℕ). record { bytes = take m left; ending = S.Failed }) zero

pub fails_now : (c : ℕ) (f left : List ℕ) → next_failing c f ≡ Some (c + 1) → script_of c f left ≡ record { bytes = []; ending = S.Failed }
fails_now c f left first = ap (λ (o : Option ℕ). script_up_to c o left) first ∙ at_once left ((c + 1) - (c + 1)) (omega arith)

same_take : (t : Bool) (left : List ℕ) (n : ℕ) → nat_lt (length left) 8192 ≡ t → n ≡ min 8192 (length left) → take 8192 left ≡ take n left
same_take true left n is e = let lt = lt_true (length left) 8192 is in take_all 8192 left (omega arith) ∙ sym (take_all n left (omega arith))
same_take false left n is e = let le = lt_false (length left) 8192 is in ap (λ (m : ℕ). take m left) (let h : 8192 ≡ n = omega arith in h)

same_drop : (t : Bool) (left : List ℕ) (n : ℕ) → nat_lt (length left) 8192 ≡ t → n ≡ min 8192 (length left) → drop 8192 left ≡ drop n left
same_drop true left n is e = let lt = lt_true (length left) 8192 is in drop_all 8192 left (omega arith) ∙ sym (drop_all n left (omega arith))
same_drop false left n is e = let le = lt_false (length left) 8192 is in ap (λ (m : ℕ). drop m left) (let h : 8192 ≡ n = omega arith in h)

whole_front : (left piece : List ℕ) (n : ℕ) → take n piece ≡ take n left → left ≡ take n piece ++ drop n left
whole_front left piece n same = sym (take-append-drop n left) ∙ ap (λ (x : List ℕ). x ++ drop n left) (sym same)

part_front : (left piece : List ℕ) (j k n : ℕ) → j ≡ k + 1 → n ≡ min 8192 (length left) → take n piece ≡ take n left →
    take (j * 8192) left ≡ take n piece ++ take (k * 8192) (drop n left)
part_front left piece j k n is e same =
    let more : j * 8192 ≡ 8192 + k * 8192 = omega arith in
    ap (λ (m : ℕ). take m left) more
    ∙ take-add 8192 (k * 8192) left
    ∙ ap (λ (x : List ℕ). x ++ take (k * 8192) (drop 8192 left)) (same_take (nat_lt (length left) 8192) left n refl e ∙ sym same)
    ∙ ap (λ (x : List ℕ). take n piece ++ take (k * 8192) x) (same_drop (nat_lt (length left) 8192) left n refl e)

empty : (left : List ℕ) (n : ℕ) → n ≡ min 8192 (length left) → n ≡ 0 → left ≡ []
empty [] n e over = refl
empty (b ∷ left) n e over = absurd (omega arith)

whole_gave : (left piece : List ℕ) (n : ℕ) → n ≡ min 8192 (length left) → take n piece ≡ take n left →
    Gave (record { bytes = left; ending = End }) (Some (record { bytes = drop n left; ending = End })) n piece
whole_gave left piece n e same = record {
  rest = drop n left;
  front = whole_front left piece n same;
  left = λ _. refl;
  over = λ zero. ap (λ (x : List ℕ). record { bytes = x; ending = End }) (empty left n e zero);
}

spread : (t u : Bool) (left piece : List ℕ) (j k n : ℕ) → nat_lt (j * 8192) (length left + 8192) ≡ t → nat_lt (k * 8192) (length (drop n left) + 8192) ≡ u →
    j ≡ k + 1 → n ≡ min 8192 (length left) → take n piece ≡ take n left → Gave (part t j left) (Some (part u k (drop n left))) n piece
spread true true left piece j k n lt lu is e same = record {
  rest = take (k * 8192) (drop n left);
  front = part_front left piece j k n is e same;
  left = λ _. refl;
  over = λ zero. absurd (let h = lt_true (j * 8192) (length left + 8192) lt in omega arith);
}
spread true false left piece j k n lt lu is e same =
    absurd (let h = lt_true (j * 8192) (length left + 8192) lt in let m = lt_false (k * 8192) (length (drop n left) + 8192) lu in let d = length-drop n left in omega arith)
spread false true left piece j k n lt lu is e same = record {
  rest = drop n left;
  front = whole_front left piece n same;
  left = λ some. absurd (let h = lt_false (j * 8192) (length left + 8192) lt in let m = lt_true (k * 8192) (length (drop n left) + 8192) lu in let d = length-drop n left in omega arith);
  over = λ zero. ap (λ (x : List ℕ). record { bytes = x; ending = End }) (empty left n e zero);
}
spread false false left piece j k n lt lu is e same = whole_gave left piece n e same

by_next : (c : ℕ) (o : Option ℕ) (left piece : List ℕ) (n : ℕ) → Above (c + 1) o → n ≡ min 8192 (length left) → take n piece ≡ take n left →
    Gave (script_up_to c o left) (Some (script_up_to (c + 1) o (drop n left))) n piece
by_next c None left piece n h e same = whole_gave left piece n e same
by_next c (Some k) left piece n h e same =
    spread (nat_lt ((k - (c + 1)) * 8192) (length left + 8192)) (nat_lt ((k - ((c + 1) + 1)) * 8192) (length (drop n left) + 8192)) left piece (k - (c + 1)) (k - ((c + 1) + 1)) n refl refl (omega arith) e same

gave_by : (c d : ℕ) (f left piece : List ℕ) (n : ℕ) → CallCounted false c d f → n ≡ min 8192 (length left) → take n piece ≡ take n left →
    Gave (script_of c f left) (Some (script_of d f (drop n left))) n piece
gave_by c d f left piece n (inl (is, next)) e same =
    let next' : next_failing (c + 1) f ≡ next_failing c f = ap (λ (x : ℕ). next_failing x f) (sym is) ∙ next in
    let h : Gave (script_up_to c (next_failing (c + 1) f) left) (Some (script_up_to (c + 1) (next_failing (c + 1) f) (drop n left))) n piece =
    by_next c (next_failing (c + 1) f) left piece n (above (c + 1) f) e same in
    let h2 : Gave (script_of c f left) (Some (script_of (c + 1) f (drop n left))) n piece =
    subst (λ (o : Option ℕ). Gave (script_up_to c o left) (Some (script_of (c + 1) f (drop n left))) n piece) next' h in
    subst (λ (x : ℕ). Gave (script_of c f left) (Some (script_of x f (drop n left))) n piece) (sym is) h2
gave_by c d f left piece n (inr (is, none)) e same =
    let none' : None ≡ next_failing d f = sym (ap (λ (x : ℕ). next_failing x f) is ∙ none) in
    let h : Gave (script_up_to c None left) (Some (script_up_to d None (drop n left))) n piece = whole_gave left piece n e same in
    let h2 : Gave (script_up_to c (next_failing c f) left) (Some (script_up_to d None (drop n left))) n piece =
    subst (λ (o : Option ℕ). Gave (script_up_to c o left) (Some (script_up_to d None (drop n left))) n piece) (sym none) h in
    subst (λ (o : Option ℕ). Gave (script_of c f left) (Some (script_up_to d o (drop n left))) n piece) none' h2

gave_at : (c d at n len : ℕ) (f bytes placed piece : List ℕ) → CallCounted false c d f → placed ≡ bytes → len ≡ 8192 →
    n ≡ min len (length placed - at) → take n piece ≡ take n (drop at placed) →
    Gave (script_of c f (drop at bytes)) (Some (script_of d f (drop (at + n) bytes))) n piece
gave_at c d at n len f bytes placed piece counted is piece_len e same =
    let e' : n ≡ min 8192 (length (drop at bytes)) =
    e ∙ ap (λ (x : List ℕ). min len (length x - at)) is ∙ ap (λ (m : ℕ). min m (length bytes - at)) piece_len ∙ ap (min 8192) (sym (length-drop at bytes)) in
    subst (λ (x : List ℕ). Gave (script_of c f (drop at bytes)) (Some (script_of d f x)) n piece) (drop-drop n at bytes)
    (gave_by c d f (drop at bytes) piece n counted e' (same ∙ ap (λ (x : List ℕ). take n (drop at x)) is))

-- the list of the numbers stays over the call
pub gave_script : (c d at n len : ℕ) (f g bytes placed piece : List ℕ) → CallCounted false c d f → g ≡ f → placed ≡ bytes → len ≡ 8192 →
    n ≡ min len (length placed - at) → take n piece ≡ take n (drop at placed) →
    Gave (script_of c f (drop at bytes)) (Some (script_of d g (drop (at + n) bytes))) n piece
gave_script c d at n len f g bytes placed piece counted stays is piece_len e same =
    subst (λ (x : List ℕ). Gave (script_of c f (drop at bytes)) (Some (script_of d x (drop (at + n) bytes))) n piece) (sym stays)
    (gave_at c d at n len f bytes placed piece counted is piece_len e same)

counted_hit : (r : Bool) (c : ℕ) (f : List ℕ) → r ≡ is_to_fail (c + 1) f → CallCounted r c (c + 1) f
counted_hit true c f e = hit c f (sym e)
counted_hit false c f e = inl (refl, miss c f (sym e))

pub counted_next : (r : Bool) (c : ℕ) (f : List ℕ) → c < 2 ^ 64 - 1 → r ≡ is_to_fail (c + 1) f → CallCounted r c (min (c + 1) (2 ^ 64 - 1)) f
counted_next r c f below e =
    let next : c + 1 ≡ min (c + 1) (2 ^ 64 - 1) = omega arith in
    subst (λ (d : ℕ). CallCounted r c d f) next (counted_hit r c f e)

pub none_is : (c : ℕ) (f : List ℕ) → ((i : ℕ) → get_or f i 0 ≤ c) → is_to_fail (c + 1) f ≡ false
none_is c [] below = refl
none_is c (k ∷ ks) below =
    let first : (k == c + 1) ≡ false = (let h = below 0 in grind arith) in
    ap (λ (b : Bool). b || is_to_fail (c + 1) ks) first ∙ none_is c ks (λ i. below (suc i))

pub counted_spent : (c d : ℕ) (f : List ℕ) → d ≡ c → ((i : ℕ) → get_or f i 0 ≤ c) → CallCounted false c d f
counted_spent c d f same below = inr (same, none_left c f below)

pub not_lt : (a b : ℕ) → b ≤ a → nat_lt a b ≡ false
not_lt a b le = grind arith
