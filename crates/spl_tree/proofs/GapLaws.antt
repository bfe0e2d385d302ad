-- A gap stands at the front exactly where the front passes its bytes.
use Rattle.std.proofs.Common.{◌≡◌, ◌∙◌, ℕ, suc, ◌+◌, ◌==◌, ◌&&◌, not, Bool, true, false, cond, List, [], ◌∷◌, ◌++◌, length, get_or, take, drop, Option, Some, None, option_map, refl, sym, ap, ap₂, true≢false, arith, append_assoc, one-add, length-append, take_at, drop_at}
use Rattle.std.specs.List.{list_all, prefix_len}
use Rattle.std.proofs.lemmas.Bool.{and_parts, eqb-true, false_from_ne_true}
use Rattle.spl_tree.specs.Bytes.{begins}
use Rattle.spl_tree.specs.Tokens.{Pass, comment_length, front}
use Rattle.spl_tree.specs.Laws.{Gap, blank, line, block}

-- the first byte
pub begins-is : (n : ℕ) (bs : List ℕ) → begins (λ c. c == n) bs ≡ true → bs ≡ n ∷ drop 1 bs
begins-is n [] e = absurd (cc)
begins-is n (b ∷ bs) e = ap (λ c. c ∷ bs) (eqb-true b n e)

-- The bytes at the front that pass a test

-- all of them pass
pub take-prefix_len : (p : ℕ → Bool) (bs : List ℕ) → list_all p (take (prefix_len p bs) bs) ≡ true
take-prefix_len p [] = refl
take-prefix_len p (b ∷ bs) = by (p b) refl (take-prefix_len p bs)
  where
    by : (t : Bool) → p b ≡ t → list_all p (take (prefix_len p bs) bs) ≡ true → list_all p (take (cond t (1 + prefix_len p bs) 0) (b ∷ bs)) ≡ true
    by true e all = rw one-add (rw e all)
    by false e all = refl

-- the byte after them doesn't
pub drop-prefix_len : (p : ℕ → Bool) (bs : List ℕ) → begins p (drop (prefix_len p bs) bs) ≡ false
drop-prefix_len p [] = refl
drop-prefix_len p (b ∷ bs) = by (p b) refl (drop-prefix_len p bs)
  where
    by : (t : Bool) → p b ≡ t → begins p (drop (prefix_len p bs) bs) ≡ false → begins p (drop (cond t (1 + prefix_len p bs) 0) (b ∷ bs)) ≡ false
    by true e stops = rw one-add stops
    by false e stops = e

-- bytes that pass, up to one that doesn't, are those
pub prefix_len-append : (p : ℕ → Bool) (inside rest : List ℕ) → list_all p inside ≡ true → begins p rest ≡ false → prefix_len p (inside ++ rest) ≡ length inside
prefix_len-append p [] [] all stops = refl
prefix_len-append p [] (c ∷ rest) all stops = rw stops
prefix_len-append p (b ∷ inside) rest all stops =
    let both = and_parts (p b) (list_all p inside) all in
    rw (both.0, one-add) (ap suc (prefix_len-append p inside rest both.1 stops))

-- The end of a comment

-- no star and slash stand in these bytes, also with the star after them
abbrev NotClosed : List ℕ → Type 0
NotClosed inside = (before after : List ℕ) → inside ++ 42 ∷ [] ≡ before ++ (42 ∷ 47 ∷ after) → ⊥

-- a star and a slash stand at the front of bytes that close a comment
abbrev closes_here : ℕ → List ℕ → List ℕ → Bool
closes_here b inside rest = (b == 42) && begins (λ c. c == 47) (inside ++ 42 ∷ 47 ∷ rest)

-- one star closes nothing
NotClosed-nil : NotClosed []
NotClosed-nil before after e = omega (arith, ap length e, length-append before (42 ∷ 47 ∷ after))

-- one byte more closes nothing where it doesn't with the next
NotClosed-cons : (b : ℕ) (inside rest : List ℕ) → closes_here b inside rest ≡ false → NotClosed inside → NotClosed (b ∷ inside)
NotClosed-cons b [] rest apart none [] after e = omega (arith, ap (λ cs. get_or cs 1 0) e)
NotClosed-cons b (x ∷ xs) rest apart none [] after e =
    let star : b ≡ 42 = cc in let slash : x ≡ 47 = cc in absurd (true≢false (rw (star, slash) at apart))
NotClosed-cons b inside rest apart none (x ∷ before) after e =
    let behind : inside ++ 42 ∷ [] ≡ before ++ (42 ∷ 47 ∷ after) = cc in none before after behind

-- the first byte of such bytes closes nothing with the next
NotClosed-first : (b : ℕ) (inside rest : List ℕ) → NotClosed (b ∷ inside) → closes_here b inside rest ≡ false
NotClosed-first b inside rest none = false_from_ne_true (closes_here b inside rest) (λ e. by inside none (and_parts (b == 42) (begins (λ c. c == 47) (inside ++ 42 ∷ 47 ∷ rest)) e))
  where
    by : (inside : List ℕ) → NotClosed (b ∷ inside) → ((b == 42) ≡ true) × (begins (λ c. c == 47) (inside ++ 42 ∷ 47 ∷ rest) ≡ true) → ⊥
    by [] none both = true≢false (sym both.1)
    by (x ∷ xs) none both = none [] (xs ++ 42 ∷ []) (ap₂ (λ c d. c ∷ d ∷ (xs ++ 42 ∷ [])) (eqb-true b 42 both.0) (eqb-true x 47 both.1))

-- nor do the bytes after it
NotClosed-tail : (b : ℕ) (inside : List ℕ) → NotClosed (b ∷ inside) → NotClosed inside
NotClosed-tail b inside none before after e = none (b ∷ before) after (ap (λ bs. b ∷ bs) e)

-- n is the number of bytes up to the end of the first star and slash
record Closes (bs : List ℕ) (n : ℕ) : Type 0 where
  inside : List ℕ
  rest : List ℕ
  are : bs ≡ inside ++ 42 ∷ 47 ∷ rest
  count : n ≡ length inside + 2
  none : NotClosed inside

-- what is found is the first star and slash
comment_length-some : (bs : List ℕ) (n : ℕ) → comment_length bs ≡ Some n → Closes bs n
comment_length-some [] n e = absurd (cc)
comment_length-some (b ∷ bs) n e = by ((b == 42) && begins (λ c. c == 47) bs) refl (comment_length bs) (comment_length-some bs) e
  where
    by : (t : Bool) → ((b == 42) && begins (λ c. c == 47) bs) ≡ t → (o : Option ℕ) → ((m : ℕ) → o ≡ Some m → Closes bs m)
        → cond t (Some 2) (option_map suc o) ≡ Some n → Closes (b ∷ bs) n
    by true test o later e =
        let both = and_parts (b == 42) (begins (λ c. c == 47) bs) test in
        record { inside = []; rest = drop 1 bs; are = ap₂ (λ c cs. c ∷ cs) (eqb-true b 42 both.0) (begins-is 47 bs both.1); count = (let two : 2 ≡ n = cc in omega arith); none = NotClosed-nil }
    by false test None later e = absurd (cc)
    by false test (Some m) later e =
        let c = later m refl in
        record {
          inside = b ∷ c.inside;
          rest = c.rest;
          are = ap (λ cs. b ∷ cs) c.are;
          count = (let same : suc m ≡ n = cc in omega (arith, c.count));
          none = NotClosed-cons b c.inside c.rest (rw (c.are) at test) c.none;
        }

-- and the first star and slash are found
comment_length-is : (inside rest : List ℕ) → NotClosed inside → comment_length (inside ++ 42 ∷ 47 ∷ rest) ≡ Some (length inside + 2)
comment_length-is [] rest none = refl
comment_length-is (b ∷ inside) rest none =
    let count : suc (length inside + 2) ≡ suc (length inside) + 2 = omega arith in
    rw (NotClosed-first b inside rest none, comment_length-is inside rest (NotClosed-tail b inside none)) (ap (λ n. Some n) count)

-- What the front says of a gap

-- the front passes a gap
pub gap_front : {text rest : List ℕ} → Gap text rest → front (text ++ rest) ≡ Pass (length text)
unfolding front
gap_front (blank b rest e) = rw e
gap_front (line inside rest all stops) =
    let count : length inside + 2 ≡ suc (suc (length inside)) = omega arith in
    rw (prefix_len-append (λ c. not (c == 10)) inside rest all stops) (ap (λ n. Pass n) count)
gap_front (block inside rest none) =
    let count : length inside + 2 + 2 ≡ suc (suc (length (inside ++ 42 ∷ 47 ∷ []))) = omega (arith, length-append inside (42 ∷ 47 ∷ [])) in
    rw (append_assoc inside (42 ∷ 47 ∷ []) rest, comment_length-is inside rest none) (ap (λ n. Pass n) count)

-- two slashes and the bytes up to the end of the line
pub line_gap : (bs : List ℕ) → let n = prefix_len (λ c. not (c == 10)) bs + 2 in Gap (take n (47 ∷ 47 ∷ bs)) (drop n (47 ∷ 47 ∷ bs))
line_gap bs =
    let p = λ (c : ℕ). not (c == 10) in
    let count : prefix_len p bs + 2 ≡ suc (suc (prefix_len p bs)) = omega arith in
    rw count (line (take (prefix_len p bs) bs) (drop (prefix_len p bs) bs) (take-prefix_len p bs) (drop-prefix_len p bs))

-- a slash, a star and the bytes up to where the comment closes
pub block_gap : (bs : List ℕ) (n : ℕ) → comment_length bs ≡ Some n → Gap (take (n + 2) (47 ∷ 42 ∷ bs)) (drop (n + 2) (47 ∷ 42 ∷ bs))
block_gap bs n e =
    let c = comment_length-some bs n e in
    let count : n + 2 ≡ suc (suc n) = omega arith in
    let all : length (c.inside ++ 42 ∷ 47 ∷ []) ≡ n = omega (arith, length-append c.inside (42 ∷ 47 ∷ []), c.count) in
    let are : bs ≡ (c.inside ++ 42 ∷ 47 ∷ []) ++ c.rest = c.are ∙ sym (append_assoc c.inside (42 ∷ 47 ∷ []) c.rest) in
    rw (count, are, take_at (c.inside ++ 42 ∷ 47 ∷ []) c.rest n all, drop_at (c.inside ++ 42 ∷ 47 ∷ []) c.rest n all) (block c.inside c.rest c.none)
