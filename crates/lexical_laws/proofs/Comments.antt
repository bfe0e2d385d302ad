-- A comment that isn't closed.
use Rattle.std.proofs.Common.{◌≡◌, ◌∙◌, ℕ, suc, ◌==◌, ◌&&◌, Bool, true, false, cond, List, [], ◌∷◌, ◌++◌, drop, Option, Some, None, option_map, refl, sym, ap, ap₂}
use Rattle.std.proofs.lemmas.Bool.{and_parts, eqb-true}
use Rattle.spl_tree.specs.Bytes.{begins}
use Rattle.spl_tree.specs.declared.token.LexicalError.{LexicalError}
use Rattle.spl_tree.specs.declared.token.LexicalError.TheVariants as E
use Rattle.spl_tree.specs.Tokens.{Refuse, comment_length, comment_front, front}
use Rattle.spl_tree.proofs.GapLaws.{begins-is}
use Rattle.spl_lexer.proofs.Fronts.{comment_is}
use Rattle.lexical_laws.specs.Refusals.{Shows, open_comment}

-- a star and a slash stand in the bytes
record IsClosed (bs : List ℕ) : Type 0 where
  before : List ℕ
  after : List ℕ
  are : bs ≡ before ++ (42 ∷ 47 ∷ after)

-- where a length is found, they are closed
closed_by : (bs : List ℕ) (n : ℕ) → comment_length bs ≡ Some n → IsClosed bs
closed_by [] n e = absurd (cc)
closed_by (b ∷ bs) n e = by ((b == 42) && begins (λ c. c == 47) bs) refl (comment_length bs) (closed_by bs) e
  where
    by : (t : Bool) → ((b == 42) && begins (λ c. c == 47) bs) ≡ t → (o : Option ℕ) → ((m : ℕ) → o ≡ Some m → IsClosed bs)
        → cond t (Some 2) (option_map suc o) ≡ Some n → IsClosed (b ∷ bs)
    by true test o later e =
        let both = and_parts (b == 42) (begins (λ c. c == 47) bs) test in
        record { before = []; after = drop 1 bs; are = ap₂ (λ c cs. c ∷ cs) (eqb-true b 42 both.0) (begins-is 47 bs both.1) }
    by false test None later e = absurd (cc)
    by false test (Some m) later e = let c = later m refl in record { before = b ∷ c.before; after = c.after; are = ap (λ cs. b ∷ cs) c.are }

-- where they are closed, a length is found
found_in : (before after : List ℕ) → comment_length (before ++ (42 ∷ 47 ∷ after)) ≡ None → ⊥
found_in [] after e = absurd (cc)
found_in (b ∷ before) after e =
    by ((b == 42) && begins (λ c. c == 47) (before ++ (42 ∷ 47 ∷ after))) (comment_length (before ++ (42 ∷ 47 ∷ after))) (found_in before after) e
  where
    by : (t : Bool) (o : Option ℕ) → (o ≡ None → ⊥) → cond t (Some 2) (option_map suc o) ≡ None → ⊥
    by true o later e = absurd (cc)
    by false None later e = later refl
    by false (Some n) later e = absurd (cc)

-- a comment that is refused isn't closed
pub comment_shows : (bs : List ℕ) (e : LexicalError) (i : ℕ) → front (47 ∷ 42 ∷ bs) ≡ Refuse e i → Shows (47 ∷ 42 ∷ bs) e i
comment_shows bs e i r = by (comment_length bs) refl (sym (comment_is bs) ∙ r)
  where
    by : (o : Option ℕ) → comment_length bs ≡ o → comment_front o ≡ Refuse e i → Shows (47 ∷ 42 ∷ bs) e i
    by None none r =
        let why : E.OpenComment ≡ e = cc in
        let place : 0 ≡ i = cc in
        rw (← why, ← place) (open_comment bs (λ before after are. found_in before after (ap comment_length (sym are) ∙ none)))
    by (Some n) some r = absurd (cc)

-- and one that isn't closed is refused
pub comment_refused : (bs : List ℕ) → ((before after : List ℕ) → bs ≡ before ++ (42 ∷ 47 ∷ after) → ⊥) → front (47 ∷ 42 ∷ bs) ≡ Refuse E.OpenComment 0
comment_refused bs none = by (comment_length bs) refl (comment_is bs)
  where
    by : (o : Option ℕ) → comment_length bs ≡ o → front (47 ∷ 42 ∷ bs) ≡ comment_front o → front (47 ∷ 42 ∷ bs) ≡ Refuse E.OpenComment 0
    by None e is = is
    by (Some n) e is = let c = closed_by bs n e in absurd (none c.before c.after c.are)
