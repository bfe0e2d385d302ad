-- Texts that aren't closed, and backslashes that begin no escape.
use Rattle.std.proofs.Common.{◌≡◌, ◌∙◌, ℕ, suc, ◌+◌, ◌-◌, ◌==◌, Bool, true, false, cond, List, [], ◌∷◌, ◌++◌, length, take, Option, Some, None, option_map, Result, Ok, Err, refl, sym, ap, ap₂, arith}
use Rattle.std.proofs.Math.Seq.{take-append_seam}
use Rattle.std.proofs.lemmas.Bool.{eqb-true, eq-eqb, ne_eqb, true≢false}
use Rattle.spl_tree.specs.Bytes.{is_quote}
use Rattle.spl_tree.specs.declared.token.LexicalError.{LexicalError}
use Rattle.spl_tree.specs.declared.token.LexicalError.TheVariants as E
use Rattle.spl_tree.specs.Tokens.{Refuse, as_front, text_kind, unescaped, escape, onto, onto_escape, front}
use Rattle.spl_lexer.specs.steps.Scanning.{text_length, text_ahead}
use Rattle.spl_lexer.proofs.Escapes.{unescaped_plain}
use Rattle.spl_lexer.proofs.Fronts.{text_front}
use Rattle.lexical_laws.specs.Refusals as refusals
use Rattle.lexical_laws.specs.Refusals.{IsPlain, Inside, nothing, plain, pair, IsEscape, double_quote, single_quote, backslash, line_feed, tab, carriage_return, Escaped, Shows, open_text, bad_escape}

-- ---- the closing quote

equal_not : (b c : ℕ) → (b == c) ≡ false → b ≡ c → ⊥
equal_not b c e same = true≢false (sym (eq-eqb b c same) ∙ e)

-- a quote is no line feed and no backslash
quote_feed : (quote : ℕ) → is_quote quote ≡ true → (quote == 10) ≡ false
quote_feed quote h = ne_eqb quote 10 (λ e. true≢false (sym h ∙ ap is_quote e))

quote_backslash : (quote : ℕ) → is_quote quote ≡ true → (92 == quote) ≡ false
quote_backslash quote h = ne_eqb 92 quote (λ e. true≢false (sym h ∙ ap is_quote (sym e)))

module _ (quote : ℕ) (quotes : is_quote quote ≡ true) where
  -- the quote after the bytes of a text is found
  text_length-inside : {inside : List ℕ} → Inside quote inside → (after : List ℕ) → text_length quote false (inside ++ quote ∷ after) ≡ Some (suc (length inside))
  text_length-inside nothing after = rw (quote_feed quote quotes, eq-eqb quote quote refl) refl
  text_length-inside (plain b bs p d) after =
      rw (ne_eqb b 10 p.feed, ne_eqb b quote p.other, ne_eqb b 92 p.backslash, text_length-inside d after) refl
  text_length-inside (pair c bs feed d) after = rw (quote_backslash quote quotes, ne_eqb c 10 feed, text_length-inside d after) refl

-- bytes with a quote that closes a text of them
pub record Closing (quote : ℕ) (bs : List ℕ) (n : ℕ) : Type 0 where
  pub inside : List ℕ
  pub after : List ℕ
  pub text : Inside quote inside
  pub are : bs ≡ inside ++ quote ∷ after
  pub count : n ≡ suc (length inside)

-- the same after a backslash
record ClosingPair (quote : ℕ) (bs : List ℕ) (n : ℕ) : Type 0 where
  first : ℕ
  others : List ℕ
  later : ℕ
  feed : first ≡ 10 → ⊥
  are : bs ≡ first ∷ others
  closing : Closing quote others later
  count : n ≡ suc later

-- what closes a text after a byte of it
closing_plain : (quote b : ℕ) (bs : List ℕ) (n : ℕ) → IsPlain quote b → (o : Option ℕ) → ((m : ℕ) → o ≡ Some m → Closing quote bs m)
    → option_map suc o ≡ Some n → Closing quote (b ∷ bs) n
closing_plain quote b bs n p None later e = absurd (cc)
closing_plain quote b bs n p (Some m) later e =
    let d = later m refl in
    let next : suc m ≡ n = cc in
    record {
      inside = b ∷ d.inside;
      after = d.after;
      text = plain b d.inside p d.text;
      are = ap (λ xs. b ∷ xs) d.are;
      count = omega (arith, d.count);
    }

-- and after a backslash
closing_slash : (quote : ℕ) (bs : List ℕ) (n : ℕ) → (o : Option ℕ) → ((m : ℕ) → o ≡ Some m → ClosingPair quote bs m)
    → option_map suc o ≡ Some n → Closing quote (92 ∷ bs) n
closing_slash quote bs n None later e = absurd (cc)
closing_slash quote bs n (Some m) later e =
    let c = later m refl in
    let d = c.closing in
    let next : suc m ≡ n = cc in
    record {
      inside = 92 ∷ c.first ∷ d.inside;
      after = d.after;
      text = pair c.first d.inside c.feed d.text;
      are = ap (λ xs. 92 ∷ xs) (c.are ∙ ap (λ xs. c.first ∷ xs) d.are);
      count = omega (arith, c.count, d.count);
    }

mutual
  -- a quote that is found closes the text
  pub closing : (quote : ℕ) (bs : List ℕ) (n : ℕ) → text_length quote false bs ≡ Some n → Closing quote bs n
  closing quote [] n e = absurd (cc)
  closing quote (b ∷ bs) n e = by (b == 10) refl (b == quote) refl (b == 92) refl (closing quote bs) (closing_pair quote bs) e
    where
      by : (feed : Bool) → (b == 10) ≡ feed → (quoted : Bool) → (b == quote) ≡ quoted → (slash : Bool) → (b == 92) ≡ slash
          → ((m : ℕ) → text_length quote false bs ≡ Some m → Closing quote bs m) → ((m : ℕ) → text_length quote true bs ≡ Some m → ClosingPair quote bs m)
          → cond feed None (cond quoted (Some 1) (option_map suc (text_length quote slash bs))) ≡ Some n → Closing quote (b ∷ bs) n
      by true f quoted q slash s later pairs e = absurd (cc)
      by false f true q slash s later pairs e = record {
        inside = [];
        after = bs;
        text = nothing;
        are = ap (λ c. c ∷ bs) (eqb-true b quote q);
        count = (let one : 1 ≡ n = cc in omega arith);
      }
      by false f false q true s later pairs e = rw (eqb-true b 92 s) (closing_slash quote bs n (text_length quote true bs) pairs e)
      by false f false q false s later pairs e =
          closing_plain quote b bs n (record { feed = equal_not b 10 f; backslash = equal_not b 92 s; other = equal_not b quote q }) (text_length quote false bs) later e

  -- also after a backslash
  closing_pair : (quote : ℕ) (bs : List ℕ) (n : ℕ) → text_length quote true bs ≡ Some n → ClosingPair quote bs n
  closing_pair quote [] n e = absurd (cc)
  closing_pair quote (c ∷ bs) n e = by (c == 10) refl (text_length quote false bs) (closing quote bs) e
    where
      by : (feed : Bool) → (c == 10) ≡ feed → (o : Option ℕ) → ((m : ℕ) → o ≡ Some m → Closing quote bs m)
          → cond feed None (option_map suc o) ≡ Some n → ClosingPair quote (c ∷ bs) n
      by true f o later e = absurd (cc)
      by false f None later e = absurd (cc)
      by false f (Some m) later e =
          let next : suc m ≡ n = cc in
          record { first = c; others = bs; later = m; feed = equal_not c 10 f; are = refl; closing = later m refl; count = omega arith }

-- ---- escapes

-- a byte that makes an escape is one of six
escape_is : (c b : ℕ) → escape c ≡ Some b → IsEscape c
escape_is c b e = by (c == 34) refl (c == 39) refl (c == 92) refl (c == 110) refl (c == 116) refl (c == 114) refl e
  where
    by : (p : Bool) → (c == 34) ≡ p → (q : Bool) → (c == 39) ≡ q → (r : Bool) → (c == 92) ≡ r → (s : Bool) → (c == 110) ≡ s → (t : Bool) → (c == 116) ≡ t
        → (u : Bool) → (c == 114) ≡ u
        → cond p (Some 34) (cond q (Some 39) (cond r (Some 92) (cond s (Some 10) (cond t (Some 9) (cond u (Some 13) None))))) ≡ Some b → IsEscape c
    by true i q j r k s l t m u n e = rw (eqb-true c 34 i) double_quote
    by false i true j r k s l t m u n e = rw (eqb-true c 39 j) single_quote
    by false i false j true k s l t m u n e = rw (eqb-true c 92 k) backslash
    by false i false j false k true l t m u n e = rw (eqb-true c 110 l) line_feed
    by false i false j false k false l true m u n e = rw (eqb-true c 116 m) tab
    by false i false j false k false l false m true n e = rw (eqb-true c 114 n) carriage_return
    by false i false j false k false l false m false n e = absurd (cc)

-- and each of the six makes one
is_escape : {c : ℕ} → IsEscape c → escape c ≡ None → ⊥
is_escape double_quote e = absurd (cc)
is_escape single_quote e = absurd (cc)
is_escape backslash e = absurd (cc)
is_escape line_feed e = absurd (cc)
is_escape tab e = absurd (cc)
is_escape carriage_return e = absurd (cc)

-- no line feed is among them
escape_feed : {c : ℕ} → IsEscape c → c ≡ 10 → ⊥
escape_feed double_quote e = absurd (omega (arith, e))
escape_feed single_quote e = absurd (omega (arith, e))
escape_feed backslash e = absurd (omega (arith, e))
escape_feed line_feed e = absurd (omega (arith, e))
escape_feed tab e = absurd (omega (arith, e))
escape_feed carriage_return e = absurd (omega (arith, e))

-- a byte that is no backslash stands for itself
-- bytes of a text with a backslash in them that begins no escape, at a place
record BadAt (quote at : ℕ) (bs : List ℕ) (i : ℕ) : Type 0 where
  good : List ℕ
  c : ℕ
  more : List ℕ
  escaped : Escaped quote good
  feed : c ≡ 10 → ⊥
  none : IsEscape c → ⊥
  others : Inside quote more
  are : bs ≡ good ++ 92 ∷ c ∷ more
  place : i ≡ at + length good

-- what is refused of a text is its first such backslash
bad_at : {quote : ℕ} {bs : List ℕ} → Inside quote bs → (at i : ℕ) → unescaped at bs ≡ Err i → BadAt quote at bs i
bad_at nothing at i e = absurd (cc)
bad_at {quote} (plain b bs p d) at i e =
    by (unescaped (at + 1) bs) (bad_at d (at + 1)) (sym (unescaped_plain at b bs (ne_eqb b 92 p.backslash)) ∙ e)
  where
    by : (r : Result (List ℕ) ℕ) → ((j : ℕ) → r ≡ Err j → BadAt quote (at + 1) bs j) → onto b r ≡ Err i → BadAt quote at (b ∷ bs) i
    by (Ok cs) later e = absurd (cc)
    by (Err j) later e =
        let d = later j refl in
        let same : j ≡ i = cc in
        record {
          good = b ∷ d.good;
          c = d.c;
          more = d.more;
          escaped = plain b d.good p d.escaped;
          feed = d.feed;
          none = d.none;
          others = d.others;
          are = ap (λ cs. b ∷ cs) d.are;
          place = omega (arith, d.place);
        }
bad_at {quote} (pair c bs feed d) at i e = by (escape c) refl (unescaped (at + 2) bs) (bad_at d (at + 2)) e
  where
    by : (o : Option ℕ) → escape c ≡ o → (r : Result (List ℕ) ℕ) → ((j : ℕ) → r ≡ Err j → BadAt quote (at + 2) bs j) → onto_escape at o r ≡ Err i
        → BadAt quote at (92 ∷ c ∷ bs) i
    by None known r later e =
        let same : at ≡ i = cc in
        record {
          good = [];
          c = c;
          more = bs;
          escaped = nothing;
          feed = feed;
          none = λ is. is_escape is known;
          others = d;
          are = refl;
          place = omega arith;
        }
    by (Some b) known (Ok cs) later e = absurd (cc)
    by (Some b) known (Err j) later e =
        let d = later j refl in
        let same : j ≡ i = cc in
        record {
          good = 92 ∷ c ∷ d.good;
          c = d.c;
          more = d.more;
          escaped = refusals.escape c d.good (escape_is c b known) d.escaped;
          feed = d.feed;
          none = d.none;
          others = d.others;
          are = ap (λ cs. 92 ∷ c ∷ cs) d.are;
          place = omega (arith, d.place);
        }

-- such a backslash is refused
bad_refused : {quote : ℕ} {good : List ℕ} → Escaped quote good → (at c : ℕ) (more : List ℕ) → (IsEscape c → ⊥)
    → unescaped at (good ++ 92 ∷ c ∷ more) ≡ Err (at + length good)
bad_refused nothing at c more none = by (escape c) refl
  where
    by : (o : Option ℕ) → escape c ≡ o → onto_escape at o (unescaped (at + 2) more) ≡ Err (at + 0)
    by None known = let same : at ≡ at + 0 = omega arith in ap Err same
    by (Some b) known = absurd (none (escape_is c b known))
bad_refused (plain b bs p d) at c more none =
    let count : at + 1 + length bs ≡ at + suc (length bs) = omega arith in
    unescaped_plain at b (bs ++ 92 ∷ c ∷ more) (ne_eqb b 92 p.backslash) ∙ ap (onto b) (bad_refused d (at + 1) c more none) ∙ ap Err count
bad_refused (refusals.escape x bs is d) at c more none = by (escape x) refl (bad_refused d (at + 2) c more none)
  where
    by : (o : Option ℕ) → escape x ≡ o → unescaped (at + 2) (bs ++ 92 ∷ c ∷ more) ≡ Err (at + 2 + length bs)
        → onto_escape at o (unescaped (at + 2) (bs ++ 92 ∷ c ∷ more)) ≡ Err (at + suc (suc (length bs)))
    by None known later = absurd (is_escape is known)
    by (Some b) known later =
        let count : at + 2 + length bs ≡ at + suc (suc (length bs)) = omega arith in
        ap (onto b) later ∙ ap Err count

-- escapes, a backslash with a byte, and more, are bytes of a text
inside_of : {quote : ℕ} {good : List ℕ} → Escaped quote good → (c : ℕ) (more : List ℕ) → (c ≡ 10 → ⊥) → Inside quote more → Inside quote (good ++ 92 ∷ c ∷ more)
inside_of nothing c more feed d = pair c more feed d
inside_of (plain b bs p e) c more feed d = plain b (bs ++ 92 ∷ c ∷ more) p (inside_of e c more feed d)
inside_of (refusals.escape x bs is e) c more feed d = pair x (bs ++ 92 ∷ c ∷ more) (escape_feed is) (inside_of e c more feed d)

-- ---- what stands at the front

module _ (quote : ℕ) (quotes : is_quote quote ≡ true) where
  -- a text that is refused isn't closed, or has a bad escape
  pub text_shows : (bs : List ℕ) (e : LexicalError) (i : ℕ) → front (quote ∷ bs) ≡ Refuse e i → Shows (quote ∷ bs) e i
  text_shows bs e i r = by (text_length quote false bs) refl (sym (text_front quote bs quotes) ∙ r)
    where
      none : text_length quote false bs ≡ None → (inside after : List ℕ) → Inside quote inside → bs ≡ inside ++ quote ∷ after → ⊥
      none e inside after d are = let clash : None ≡ Some (suc (length inside)) = sym e ∙ ap (text_length quote false) are ∙ text_length-inside quote quotes d after in cc

      bad : (n : ℕ) (c : Closing quote bs n) → (u : Result (List ℕ) ℕ) → unescaped 1 (take (n - 1) bs) ≡ u → as_front (n + 1) (text_kind u) ≡ Refuse e i
          → Shows (quote ∷ bs) e i
      bad n c (Ok cs) is r = absurd (cc)
      bad n c (Err j) is r =
          let why : E.BadByte ≡ e = cc in
          let place : j ≡ i = cc in
          let count : n - 1 ≡ length c.inside = omega (arith, c.count) in
          let text : take (n - 1) bs ≡ c.inside = ap₂ (λ m cs. take m cs) count c.are ∙ take-append_seam c.inside (quote ∷ c.after) in
          let b = bad_at c.text 1 j (ap (unescaped 1) (sym text) ∙ is) in
          let all : quote ∷ bs ≡ quote ∷ ((b.good ++ 92 ∷ b.c ∷ b.more) ++ quote ∷ c.after) = ap (λ cs. quote ∷ cs) (c.are ∙ ap (λ cs. cs ++ quote ∷ c.after) b.are) in
          let at : i ≡ 1 + length b.good = sym place ∙ b.place in
          rw (← why, all, at) (bad_escape quote b.c b.good b.more c.after quotes b.escaped b.feed b.none b.others)

      by : (o : Option ℕ) → text_length quote false bs ≡ o → text_ahead bs o ≡ Refuse e i → Shows (quote ∷ bs) e i
      by None found r =
          let why : E.OpenText ≡ e = cc in
          let place : 0 ≡ i = cc in
          rw (← why, ← place) (open_text quote bs quotes (none found))
      by (Some n) found r = bad n (closing quote bs n found) (unescaped 1 (take (n - 1) bs)) refl r

  -- a text that isn't closed is refused
  pub open_refused : (bs : List ℕ) → ((inside after : List ℕ) → Inside quote inside → bs ≡ inside ++ quote ∷ after → ⊥)
      → front (quote ∷ bs) ≡ Refuse E.OpenText 0
  open_refused bs none = by (text_length quote false bs) refl (text_front quote bs quotes)
    where
      by : (o : Option ℕ) → text_length quote false bs ≡ o → front (quote ∷ bs) ≡ text_ahead bs o → front (quote ∷ bs) ≡ Refuse E.OpenText 0
      by None e is = is
      by (Some n) e is = let c = closing quote bs n e in absurd (none c.inside c.after c.text c.are)

  -- and so is a bad escape
  pub escape_refused : (c : ℕ) (good more after : List ℕ) → Escaped quote good → (c ≡ 10 → ⊥) → (IsEscape c → ⊥) → Inside quote more
      → front (quote ∷ ((good ++ 92 ∷ c ∷ more) ++ quote ∷ after)) ≡ Refuse E.BadByte (1 + length good)
  escape_refused c good more after d feed none others =
      let inside = good ++ 92 ∷ c ∷ more in
      let count : suc (length inside) - 1 ≡ length inside = omega arith in
      text_front quote (inside ++ quote ∷ after) quotes
      ∙ ap (text_ahead (inside ++ quote ∷ after)) (text_length-inside quote quotes (inside_of d c more feed others) after)
      ∙ ap (λ cs. as_front (suc (length inside) + 1) (text_kind (unescaped 1 cs))) (ap (λ n. take n (inside ++ quote ∷ after)) count ∙ take-append_seam inside (quote ∷ after))
      ∙ ap (λ u. as_front (suc (length inside) + 1) (text_kind u)) (bad_refused d 1 c more none)
