-- What is computed of a program is what it has.
use Rattle.std.proofs.Common.{◌≡◌, ◌∙◌, ℕ, zero, suc, ◌+◌, ◌<◌, ◌≤◌, nat_lt, Bool, true, false, if◌then◌else◌, List, [], ◌∷◌, length, drop, Option, Some, None, Result, Ok, Err, refl, sym, ap, subst, arith, length-drop, lt-ltb, le-ltb, ltb-true, ltb-false}
use Rattle.spl_tree.specs.declared.token.TokenKind.{TokenKind}
use Rattle.spl_tree.specs.declared.token.Token.{Token}
use Rattle.spl_tree.specs.declared.token.Tokens.{Tokens}
use Rattle.spl_tree.specs.declared.token.LexicalError.TheVariants as E
use Rattle.spl_tree.specs.declared.token.TheConstants.{MOST_BYTES}
use Rattle.spl_tree.specs.Tokens.{Refusal, Front, Take, Pass, Refuse, front, Lexes, done, gap, token, refusal, IsLexed, too_long, whole, refused, Lexed, with_front, by_front, tokens_from, with_length, tokens}
use Rattle.spl_tree.specs.Laws.{LexedLaw}
use Rattle.spl_tree.specs.TokenLaws.{Fits}
use Rattle.spl_tree.proofs.TokenLaws.{front_fits, tokens_step}

-- what is computed of bytes by what stands at their front
abbrev by_step : ℕ → List ℕ → Front → Lexed
by_step at bs f = by_front f at (λ n. tokens_from 0 (at + n) (drop n bs))

-- so it is where there are none
step : (at : ℕ) (bs : List ℕ) → tokens_from 0 at bs ≡ by_step at bs (front bs)
unfolding front
step at [] = refl
step at (b ∷ bs) = tokens_step at (b ∷ bs) (omega arith)

-- What bytes are is computed

abbrev result : List Token → Option Refusal → Lexed
result ts None = Ok ts
result ts (Some r) = Err r

one_more : (t : Token) (ts : List Token) (stop : Option Refusal) → with_front (t ∷ []) (result ts stop) ≡ result (t ∷ ts) stop
one_more t ts None = refl
one_more t ts (Some r) = refl

computed_from : {at : ℕ} {bs : List ℕ} {ts : List Token} {stop : Option Refusal} → Lexes at bs ts stop → tokens_from 0 at bs ≡ result ts stop
computed_from (done at) = refl
computed_from (gap at n bs ts stop is l) = step at bs ∙ ap (by_step at bs) is ∙ computed_from l
computed_from (token at n k bs ts stop is l) =
    step at bs ∙ ap (by_step at bs) is ∙ ap (with_front (record { kind = k; start = at; end = at + n } ∷ [])) (computed_from l)
    ∙ one_more (record { kind = k; start = at; end = at + n }) ts stop
computed_from (refusal at i e bs is) = step at bs ∙ ap (by_step at bs) is

computed : (bytes : List ℕ) (r : Result Tokens Refusal) → IsLexed bytes r → tokens bytes ≡ r
unfolding tokens
computed bytes r (too_long long) = rw (lt-ltb MOST_BYTES (length bytes) long)
computed bytes r (whole ts within l) = rw (le-ltb MOST_BYTES (length bytes) within, computed_from l)
computed bytes r (refused ts why within l) = rw (le-ltb MOST_BYTES (length bytes) within, computed_from l)

-- What is computed is what bytes are

-- bytes are these tokens, or are some up to this refusal
abbrev Has : ℕ → List ℕ → Lexed → Type 0
Has at bs (Ok ts) = Lexes at bs ts None
Has at bs (Err r) = (ts : List Token) × Lexes at bs ts (Some r)

has_gap : (at n : ℕ) (bs : List ℕ) (r : Lexed) → front bs ≡ Pass n → Has (at + n) (drop n bs) r → Has at bs r
has_gap at n bs (Ok ts) is l = gap at n bs ts None is l
has_gap at n bs (Err r) is (ts, l) = (ts, gap at n bs ts (Some r) is l)

has_token : (at n : ℕ) (k : TokenKind) (bs : List ℕ) (r : Lexed) → front bs ≡ Take k n → Has (at + n) (drop n bs) r
    → Has at bs (with_front (record { kind = k; start = at; end = at + n } ∷ []) r)
has_token at n k bs (Ok ts) is l = token at n k bs ts None is l
has_token at n k bs (Err r) is (ts, l) = (record { kind = k; start = at; end = at + n } ∷ ts, token at n k bs ts (Some r) is l)

has_from : (most at : ℕ) (bs : List ℕ) → length bs ≤ most → Has at bs (tokens_from 0 at bs)
has_from most at [] le = done at
has_from zero at (b ∷ bs) le = absurd (omega arith)
has_from (suc most) at (b ∷ bs) le =
    subst (Has at (b ∷ bs)) (sym (step at (b ∷ bs)))
    (by (front (b ∷ bs)) refl (front_fits (b ∷ bs) (omega arith)) (λ n some. has_from most (at + n) (drop n (b ∷ bs)) (omega (arith, length-drop n (b ∷ bs)))))
  where
    by : (f : Front) → front (b ∷ bs) ≡ f → Fits (suc (length bs)) f
        → ((n : ℕ) → 0 < n → Has (at + n) (drop n (b ∷ bs)) (tokens_from 0 (at + n) (drop n (b ∷ bs)))) → Has at (b ∷ bs) (by_step at (b ∷ bs) f)
    by (Take k n) is fits later = has_token at n k (b ∷ bs) (tokens_from 0 (at + n) (drop n (b ∷ bs))) is (later n fits.0)
    by (Pass n) is fits later = has_gap at n (b ∷ bs) (tokens_from 0 (at + n) (drop n (b ∷ bs))) is (later n fits.0)
    by (Refuse e i) is fits later = ([], refusal at i e (b ∷ bs) is)

has_tokens : (bytes : List ℕ) → IsLexed bytes (tokens bytes)
unfolding tokens
has_tokens bytes = by (nat_lt MOST_BYTES (length bytes)) refl (tokens_from 0 0 bytes) (has_from (length bytes) 0 bytes (omega arith))
  where
    by : (long : Bool) → nat_lt MOST_BYTES (length bytes) ≡ long → (r : Lexed) → Has 0 bytes r
        → IsLexed bytes (if long then Err (E.TooLong, MOST_BYTES) else with_length (length bytes) r)
    by true is r l = too_long (ltb-true MOST_BYTES (length bytes) is)
    by false is (Ok ts) l = whole ts (ltb-false MOST_BYTES (length bytes) is) l
    by false is (Err r) (ts, l) = refused ts r (ltb-false MOST_BYTES (length bytes) is) l

pub lexed_law : LexedLaw
lexed_law bytes r = (computed bytes r, λ is. subst (IsLexed bytes) is (has_tokens bytes))
