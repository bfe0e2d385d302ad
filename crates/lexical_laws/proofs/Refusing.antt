-- A program is refused exactly where, after gaps and tokens, the bytes show why.
use Rattle.std.proofs.Common.{◌≡◌, ◌∙◌, ℕ, zero, suc, ◌+◌, ◌<◌, ◌≤◌, nat_lt, Bool, true, false, cond, List, [], ◌∷◌, ◌++◌, length, take, drop, Ok, Err, refl, sym, ap, subst, true≢false, arith, length-append, length-drop, length-take-le, take-append-drop, lt-ltb, le-ltb, ltb-true, ltb-false}
use Rattle.std.proofs.Math.Seq.{drop-append_seam}
use Rattle.spl_tree.specs.declared.token.Token.{Token}
use Rattle.spl_tree.specs.declared.token.TokenKind.{TokenKind}
use Rattle.spl_tree.specs.declared.token.LexicalError.{LexicalError}
use Rattle.spl_tree.specs.declared.token.LexicalError.TheVariants as E
use Rattle.spl_tree.specs.declared.token.TheConstants.{MOST_BYTES}
use Rattle.spl_tree.specs.Tokens.{is_formed, Front, Take, Pass, Refuse, Refusal, front, Lexed, with_front, by_front, tokens_from, with_length, tokens}
use Rattle.spl_tree.specs.Laws.{Gap, IsToken}
use Rattle.spl_tree.specs.TokenLaws.{Fits}
use Rattle.spl_tree.proofs.TokenLaws.{front_fits, tokens_step}
use Rattle.spl_tree.proofs.CutLaws.{gap-some}
use Rattle.spl_tree.proofs.GapLaws.{gap_front}
use Rattle.spl_tree.proofs.FrontLaws.{Stands, front_stands, token_front-is}
use Rattle.lexical_laws.specs.Refusals as refusals
use Rattle.lexical_laws.specs.Refusals.{Shows, open_comment, open_text, bad_escape, bad_number, bad_byte, BeginsNone, CutTo, here, IsRefused, too_long, shown, RefusedLaw, RefusalLaw}
use Rattle.lexical_laws.proofs.Showing.{refused_shows, shown_refused}

-- ---- what is refused shows why

-- bytes that begin at a place, cut up to where they show why
record ShownAt (at : ℕ) (bs : List ℕ) (e : LexicalError) (place : ℕ) : Type 0 where
  tokens : List Token
  stop : ℕ
  rest : List ℕ
  i : ℕ
  cut : CutTo at bs tokens stop rest
  shows : Shows rest e i
  is : place ≡ stop + i

-- the same after a gap
after_gap : {at n : ℕ} {bs : List ℕ} {e : LexicalError} {place : ℕ} → n ≤ length bs → Gap (take n bs) (drop n bs) → ShownAt (at + n) (drop n bs) e place → ShownAt at bs e place
after_gap {at} {n} {bs} le g s =
    let count = length-take-le n bs le in
    record {
      tokens = s.tokens;
      stop = s.stop;
      rest = s.rest;
      i = s.i;
      cut = subst (λ cs. CutTo at cs s.tokens s.stop s.rest) (take-append-drop n bs) (refusals.gap at s.stop (take n bs) (drop n bs) s.rest s.tokens g (rw count s.cut));
      shows = s.shows;
      is = s.is;
    }

-- and after a token
after_token : {at n : ℕ} {kind : TokenKind} {bs : List ℕ} {e : LexicalError} {place : ℕ} → n ≤ length bs → IsToken kind (take n bs) (drop n bs)
    → ShownAt (at + n) (drop n bs) e place → ShownAt at bs e place
after_token {at} {n} {kind} {bs} le t s =
    let count = length-take-le n bs le in
    record {
      tokens = record { kind = kind; start = at; end = at + length (take n bs) } ∷ s.tokens;
      stop = s.stop;
      rest = s.rest;
      i = s.i;
      cut =
          subst (λ cs. CutTo at cs (record { kind = kind; start = at; end = at + length (take n bs) } ∷ s.tokens) s.stop s.rest) (take-append-drop n bs)
          (refusals.token at s.stop kind (take n bs) (drop n bs) s.rest s.tokens t (rw count s.cut));
      shows = s.shows;
      is = s.is;
    }

-- tokens before a refusal leave it
refused_on : (ts : List Token) (r : Lexed) (refusal : Refusal) → with_front ts r ≡ Err refusal → r ≡ Err refusal
refused_on ts (Ok us) refusal e = absurd (cc)
refused_on ts (Err why) refusal e = e

-- one refusal
one_refusal : (r s : Refusal) (a b : Lexed) → a ≡ Err r → b ≡ Err s → a ≡ b → r ≡ s
one_refusal r s a b f g same = let both : Err r ≡ b = sym f ∙ same in cc

-- what is refused of bytes that begin at a place
shown_at : (most at : ℕ) (bs : List ℕ) (e : LexicalError) (place : ℕ) → length bs ≤ most → tokens_from 0 at bs ≡ Err (e, place) → ShownAt at bs e place
shown_at most at [] e place le r = absurd (cc)
shown_at zero at (b ∷ bs) e place le r = absurd (omega arith)
shown_at (suc most) at (b ∷ bs) e place le r =
    by (front (b ∷ bs)) refl (front_fits (b ∷ bs) (omega arith)) (front_stands (b ∷ bs) (omega arith))
    (λ n some. shown_at most (at + n) (drop n (b ∷ bs)) e place (omega (arith, length-drop n (b ∷ bs))))
    (sym (tokens_step at (b ∷ bs) (omega arith)) ∙ r)
  where
    Later : Type 0
    Later = (n : ℕ) → 0 < n → tokens_from 0 (at + n) (drop n (b ∷ bs)) ≡ Err (e, place) → ShownAt (at + n) (drop n (b ∷ bs)) e place

    by : (f : Front) → front (b ∷ bs) ≡ f → Fits (suc (length bs)) f → Stands (b ∷ bs) f → Later
        → by_front f at (λ n. tokens_from 0 (at + n) (drop n (b ∷ bs))) ≡ Err (e, place) → ShownAt at (b ∷ bs) e place
    by (Take kind n) is fits t later r = after_token fits.1 t (later n fits.0 (refused_on (record { kind = kind; start = at; end = at + n } ∷ []) (tokens_from 0 (at + n) (drop n (b ∷ bs))) (e, place) r))
    by (Pass n) is fits g later r = after_gap fits.1 g (later n fits.0 r)
    by (Refuse why i) is fits s later r =
        let both : (why, at + i) ≡ (e, place) = one_refusal (why, at + i) (e, place) (Err (why, at + i)) (Err (e, place)) refl refl r in
        let reason : why ≡ e = ap (λ (p : Refusal). p.0) both in
        let there : at + i ≡ place = ap (λ (p : Refusal). p.1) both in
        record {
          tokens = [];
          stop = at;
          rest = b ∷ bs;
          i = i;
          cut = here at (b ∷ bs);
          shows = rw (← reason) (refused_shows (b ∷ bs) why i is);
          is = sym there;
        }

-- a length changes no refusal
counted : (n : ℕ) (r : Lexed) (refusal : Refusal) → with_length n r ≡ Err refusal → r ≡ Err refusal
counted n (Ok ts) refusal e = absurd (cc)
counted n (Err why) refusal e = let same : why ≡ refusal = cc in ap Err same

-- what is refused shows why
pub refused_law : RefusedLaw
unfolding tokens
refused_law bytes e at r = by (nat_lt MOST_BYTES (length bytes)) refl r
  where
    by : (long : Bool) → nat_lt MOST_BYTES (length bytes) ≡ long
        → cond long (Err (E.TooLong, MOST_BYTES)) (with_length (length bytes) (tokens_from 0 0 bytes)) ≡ Err (e, at) → IsRefused bytes e at
    by true long r =
        let both : (E.TooLong, MOST_BYTES) ≡ (e, at) = cc in
        let why : E.TooLong ≡ e = ap (λ (p : Refusal). p.0) both in
        let there : MOST_BYTES ≡ at = ap (λ (p : Refusal). p.1) both in
        rw (← why, ← there) (too_long (ltb-true MOST_BYTES (length bytes) long))
    by false long r =
        let s = shown_at (length bytes) 0 bytes e at (omega arith) (counted (length bytes) (tokens_from 0 0 bytes) (e, at) r) in
        rw (s.is) (shown s.tokens s.stop s.rest e s.i (ltb-false MOST_BYTES (length bytes) long) s.cut s.shows)

-- ---- and what shows why is refused

-- neither a token nor what shows why is empty, as no gap is
token_some : {kind : TokenKind} {text rest : List ℕ} → IsToken kind text rest → 0 < length text
token_some {kind} {text} {rest} t = by text t.formed
  where
    by : (text : List ℕ) → is_formed text ≡ true → 0 < length text
    by [] e = absurd (true≢false (sym e))
    by (b ∷ bs) e = omega arith

shows_some : {bs : List ℕ} {e : LexicalError} {i : ℕ} → Shows bs e i → 0 < length bs
unfolding front
shows_some {bs} {e} {i} s = by bs (shown_refused s)
  where
    by : (bs : List ℕ) → front bs ≡ Refuse e i → 0 < length bs
    by [] r = absurd (cc)
    by (b ∷ bs) r = omega arith

-- bytes that begin at a place, and show why after gaps and tokens
refused_at : {at place i : ℕ} {bs rest : List ℕ} {ts : List Token} {e : LexicalError} → CutTo at bs ts place rest → Shows rest e i
    → tokens_from 0 at bs ≡ Err (e, place + i)
refused_at (here at rest) s = tokens_step at rest (shows_some s) ∙ rw (shown_refused s) refl
refused_at (refusals.gap at place text after rest ts g c) s =
    let some = gap-some g in
    tokens_step at (text ++ after) (omega (arith, length-append text after))
    ∙ rw (gap_front g, drop-append_seam text after) (refused_at c s)
refused_at (refusals.token at place kind text after rest ts t c) s =
    let some = token_some t in
    tokens_step at (text ++ after) (omega (arith, length-append text after))
    ∙ rw (token_front-is kind text after t, drop-append_seam text after, refused_at c s) refl

-- what shows why is refused
pub refusal_law : RefusalLaw
unfolding tokens
refusal_law bytes _ _ (too_long long) = rw (lt-ltb MOST_BYTES (length bytes) long) refl
refusal_law bytes _ _ (shown ts place rest e i short c s) = rw (le-ltb MOST_BYTES (length bytes) short, refused_at c s) refl
