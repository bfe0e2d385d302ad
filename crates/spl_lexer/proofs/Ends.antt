-- One byte more of a comment or of a text.
use Rattle.std.proofs.Common.{◌≡◌, ◌∙◌, ℕ, suc, ◌+◌, ◌<◌, ◌==◌, ◌&&◌, Bool, true, false, not, cond, List, [], ◌∷◌, length, drop, get_or, Option, Some, None, refl, ap, arith}
use Rattle.std.proofs.lemmas.List.{at_drop_more}
use Rattle.std.specs.Option.{option_map}
use Rattle.spl_tree.specs.Bytes.{begins}
use Rattle.spl_tree.specs.Tokens.{comment_length}
use Rattle.spl_lexer.specs.steps.Scanning.{text_length}

-- how many bytes there are up to the end of a comment, by whether a star stands before them
abbrev pub close_behind : Bool → List ℕ → Option ℕ
close_behind star [] = None
close_behind star (b ∷ bs) = cond (star && (b == 47)) (Some 1) (option_map suc (close_behind (b == 42) bs))

-- with no star before, these are the bytes up to the first `*/`
pub close_behind_none : (bs : List ℕ) → close_behind false bs ≡ comment_length bs
close_behind_none [] = refl
close_behind_none (b ∷ bs) = by (b == 42) bs (close_behind_none bs)
  where
    slash : (t : Bool) (c : ℕ) (cs : List ℕ) → close_behind false (c ∷ cs) ≡ comment_length (c ∷ cs)
        → option_map suc (cond t (Some 1) (option_map suc (close_behind (c == 42) cs))) ≡ cond t (Some 2) (option_map suc (comment_length (c ∷ cs)))
    slash true c cs h = refl
    slash false c cs h = ap (option_map suc) h

    by : (t : Bool) (bs : List ℕ) → close_behind false bs ≡ comment_length bs
        → option_map suc (close_behind t bs) ≡ cond (t && begins (λ c. c == 47) bs) (Some 2) (option_map suc (comment_length bs))
    by false bs h = ap (option_map suc) h
    by true [] h = refl
    by true (c ∷ cs) h = slash (c == 47) c cs h

-- one more counted after i bytes is a count after i + 1 bytes
count_on : (i : ℕ) (o : Option ℕ) → option_map (λ n. n + i) (option_map suc o) ≡ option_map (λ n. n + (i + 1)) o
count_on i None = refl
count_on i (Some n) = let e : suc n + i ≡ n + (i + 1) = omega arith in ap (λ (m : ℕ). Some m) e

-- a count after no bytes is the count itself
pub none_before : (o : Option ℕ) → option_map (λ n. n + 0) o ≡ o
none_before None = refl
none_before (Some n) = let e : n + 0 ≡ n = omega arith in ap (λ (m : ℕ). Some m) e

module _ (bs : List ℕ) (i : ℕ) (lt : i < length bs) where
  pub comment_on : (star : Bool) → (star && (get_or bs i 0 == 47)) ≡ false
      → option_map (λ n. n + i) (close_behind star (drop i bs)) ≡ option_map (λ n. n + (i + 1)) (close_behind (get_or bs i 0 == 42) (drop (i + 1) bs))
  comment_on star h = ap (option_map (λ n. n + i)) (at_drop_more (close_behind star) bs i 0 lt ∙ rw h refl) ∙ count_on i (close_behind (get_or bs i 0 == 42) (drop (i + 1) bs))

  pub comment_end : (star : Bool) → (star && (get_or bs i 0 == 47)) ≡ true → close_behind star (drop i bs) ≡ Some 1
  comment_end star h = at_drop_more (close_behind star) bs i 0 lt ∙ rw h refl

  pub text_open : (quote : ℕ) (escaped : Bool) → (get_or bs i 0 == 10) ≡ true → text_length quote escaped (drop i bs) ≡ None
  text_open quote escaped h = at_drop_more (text_length quote escaped) bs i 0 lt ∙ rw h refl

  pub text_end : (quote : ℕ) → (get_or bs i 0 == 10) ≡ false → (get_or bs i 0 == quote) ≡ true → text_length quote false (drop i bs) ≡ Some 1
  text_end quote h k = at_drop_more (text_length quote false) bs i 0 lt ∙ rw (h, k) refl

  pub text_on : (quote : ℕ) (escaped : Bool) → (get_or bs i 0 == 10) ≡ false → (not escaped && (get_or bs i 0 == quote)) ≡ false
      → option_map (λ n. n + i) (text_length quote escaped (drop i bs)) ≡ option_map (λ n. n + (i + 1)) (text_length quote (not escaped && (get_or bs i 0 == 92)) (drop (i + 1) bs))
  text_on quote true h k = ap (option_map (λ n. n + i)) (at_drop_more (text_length quote true) bs i 0 lt ∙ rw h refl) ∙ count_on i (text_length quote false (drop (i + 1) bs))
  text_on quote false h k = ap (option_map (λ n. n + i)) (at_drop_more (text_length quote false) bs i 0 lt ∙ rw (h, k) refl) ∙ count_on i (text_length quote (get_or bs i 0 == 92) (drop (i + 1) bs))
