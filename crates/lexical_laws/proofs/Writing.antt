-- Each token of a program is written as its kind says.
use Rattle.std.proofs.Common.{◌≡◌, ◌∙◌, ℕ, suc, ◌+◌, ◌-◌, ◌==◌, Bool, true, false, cond, List, [], ◌∷◌, ◌++◌, length, take, drop, All, Option, Some, None, option_map, Result, Ok, Err, refl, sym, ap, ap₂, subst₂, true≢false, arith, append-nil, length-append}
use Rattle.std.proofs.Math.Seq.{take-append_seam}
use Rattle.std.proofs.lemmas.Bool.{and_parts, eqb-true, ne_eqb}
use Rattle.std.proofs.lemmas.List.Elements.{All-nil, All-cons}
use Rattle.std.proofs.lemmas.Slice.Eq.{bytes_eq-Decides}
use Rattle.std.specs.List.{list_all}
use Rattle.std.specs.Str.{bytes_eq}
use Rattle.spl_value.specs.Decimal.{is_digit}
use Rattle.spl_tree.specs.declared.keyword.Keyword.{Keyword}
use Rattle.spl_tree.specs.declared.keyword.TheConstants.{KEYWORDS}
use Rattle.spl_tree.specs.declared.symbol.Symbol.{Symbol}
use Rattle.spl_tree.specs.declared.token.Token.{Token}
use Rattle.spl_tree.specs.declared.token.TokenKind.{TokenKind}
use Rattle.spl_tree.specs.declared.token.TokenKind.TheVariants as T
use Rattle.spl_tree.specs.Bytes.{is_letter, is_word_byte, is_quote}
use Rattle.spl_tree.specs.Words.{symbol_of, keyword_word, keyword_of}
use Rattle.spl_tree.specs.Tokens.{is_word, word_kind, is_formed, kind_of, ends_text, escape, onto, onto_escape, unescaped, between_quotes, text_kind}
use Rattle.spl_tree.specs.Laws.{Cut, done, gap, token, own_bytes}
use Rattle.spl_tree.proofs.TokenLaws.{kind_in, form_tested}
use Rattle.spl_tree.proofs.WordLaws.{keywords_law}
use Rattle.spl_tree.proofs.CutLaws.{cut_law, behind}
use Rattle.spl_lexer.specs.steps.Scanning.{text_length}
use Rattle.spl_lexer.proofs.Reach.{is_length, ends_text-take}
use Rattle.lexical_laws.specs.Refusals as refusals
use Rattle.lexical_laws.specs.Refusals.{Inside}
use Rattle.lexical_laws.specs.Written as written
use Rattle.lexical_laws.specs.Written.{Escapes, double_quote, single_quote, backslash, line_feed, tab, carriage_return, Means, Written, WrittenLaw}
use Rattle.lexical_laws.proofs.Texts.{closing}
use Rattle.spl_lexer.proofs.Escapes.{unescaped_plain}
use Rattle.lexical_laws.proofs.Numbers.{numbered}
use Rattle.lexical_laws.proofs.Symbols.{find_passes, symbol_of-text}

-- ---- words

-- the keyword of bytes has them for its word
pub keyword_of-word : (bs : List ℕ) (k : Keyword) → keyword_of bs ≡ Some k → keyword_word k ≡ bs
keyword_of-word bs k e = (bytes_eq-Decides (keyword_word k) bs).0 (find_passes (λ k. bytes_eq (keyword_word k) bs) KEYWORDS k e)

word_written : (b : ℕ) (bs : List ℕ) (kind : TokenKind) → is_letter b ≡ true → list_all is_word_byte bs ≡ true → word_kind (b ∷ bs) (keyword_of (b ∷ bs)) ≡ kind
    → Written kind (b ∷ bs)
word_written b bs kind letter words is = by (keyword_of (b ∷ bs)) refl is
  where
    by : (o : Option Keyword) → keyword_of (b ∷ bs) ≡ o → word_kind (b ∷ bs) o ≡ kind → Written kind (b ∷ bs)
    by None e is =
        rw (← is) (written.word b bs letter words (λ k same. let clash : Some k ≡ None = sym (keywords_law k) ∙ ap keyword_of same ∙ e in cc))
    by (Some k) e is = rw (← is, ← keyword_of-word (b ∷ bs) k e) (written.reserved k)

-- ---- texts

-- the byte that an escape stands for
escapes : (c b : ℕ) → escape c ≡ Some b → Escapes c b
escapes c b e = by (c == 34) refl (c == 39) refl (c == 92) refl (c == 110) refl (c == 116) refl (c == 114) refl e
  where
    by : (p : Bool) → (c == 34) ≡ p → (q : Bool) → (c == 39) ≡ q → (r : Bool) → (c == 92) ≡ r → (s : Bool) → (c == 110) ≡ s → (t : Bool) → (c == 116) ≡ t
        → (u : Bool) → (c == 114) ≡ u
        → cond p (Some 34) (cond q (Some 39) (cond r (Some 92) (cond s (Some 10) (cond t (Some 9) (cond u (Some 13) None))))) ≡ Some b → Escapes c b
    by true i q j r k s l t m u n e = let same : 34 ≡ b = cc in rw (eqb-true c 34 i, ← same) double_quote
    by false i true j r k s l t m u n e = let same : 39 ≡ b = cc in rw (eqb-true c 39 j, ← same) single_quote
    by false i false j true k s l t m u n e = let same : 92 ≡ b = cc in rw (eqb-true c 92 k, ← same) backslash
    by false i false j false k true l t m u n e = let same : 10 ≡ b = cc in rw (eqb-true c 110 l, ← same) line_feed
    by false i false j false k false l true m u n e = let same : 9 ≡ b = cc in rw (eqb-true c 116 m, ← same) tab
    by false i false j false k false l false m true n e = let same : 13 ≡ b = cc in rw (eqb-true c 114 n, ← same) carriage_return
    by false i false j false k false l false m false n e = absurd (cc)

-- what the bytes between quotes stand for
means : {quote : ℕ} {bs : List ℕ} → Inside quote bs → (at : ℕ) (cs : List ℕ) → unescaped at bs ≡ Ok cs → Means quote bs cs
means refusals.nothing at cs e = let none : [] ≡ cs = cc in rw (← none) written.nothing
means {quote} (refusals.plain b bs p d) at cs e =
    by (unescaped (at + 1) bs) (means d (at + 1)) (sym (unescaped_plain at b bs (ne_eqb b 92 p.backslash)) ∙ e)
  where
    by : (r : Result (List ℕ) ℕ) → ((ds : List ℕ) → r ≡ Ok ds → Means quote bs ds) → onto b r ≡ Ok cs → Means quote (b ∷ bs) cs
    by (Err j) later e = absurd (cc)
    by (Ok ds) later e = let all : b ∷ ds ≡ cs = cc in rw (← all) (written.plain b bs ds p (later ds refl))
means {quote} (refusals.pair c bs feed d) at cs e = by (escape c) refl (unescaped (at + 2) bs) (means d (at + 2)) e
  where
    by : (o : Option ℕ) → escape c ≡ o → (r : Result (List ℕ) ℕ) → ((ds : List ℕ) → r ≡ Ok ds → Means quote bs ds) → onto_escape at o r ≡ Ok cs
        → Means quote (92 ∷ c ∷ bs) cs
    by None known r later e = absurd (cc)
    by (Some b) known (Err j) later e = absurd (cc)
    by (Some b) known (Ok ds) later e = let all : b ∷ ds ≡ cs = cc in rw (← all) (written.escape c b bs ds (escapes c b known) (later ds refl))

text_written : (quote : ℕ) (bs : List ℕ) (kind : TokenKind) → is_quote quote ≡ true → ends_text quote false bs ≡ true
    → text_kind (unescaped 1 (between_quotes (quote ∷ bs))) ≡ Ok kind → Written kind (quote ∷ bs)
text_written quote bs kind quotes ends is = by (text_length quote false bs) refl (sym (ends_text-take quote false (length bs) bs (omega arith)) ∙ ap (ends_text quote false) all ∙ ends)
  where
    all : take (length bs) bs ≡ bs
    all = ap (take (length bs)) (sym (append-nil bs)) ∙ take-append_seam bs []

    alone : (inside after : List ℕ) → bs ≡ inside ++ quote ∷ after → length bs ≡ suc (length inside) → (cs : Result (List ℕ) ℕ) → unescaped 1 inside ≡ cs
        → text_kind cs ≡ Ok kind → Inside quote inside → Written kind (quote ∷ bs)
    alone inside (x ∷ after) are count cs e is d = absurd (omega (arith, ap length are, length-append inside (quote ∷ x ∷ after)))
    alone inside [] are count (Err j) e is d = absurd (cc)
    alone inside [] are count (Ok cs) e is d =
        let same : T.Text cs ≡ kind = cc in rw (← same, are) (written.text quote inside cs quotes (means d 1 cs e))

    by : (o : Option ℕ) → text_length quote false bs ≡ o → is_length (length bs) o ≡ true → Written kind (quote ∷ bs)
    by None e same = absurd (cc)
    by (Some n) e same =
        let c = closing quote bs (length bs) (e ∙ ap Some (sym (eqb-true (length bs) n same))) in
        let count : suc (length bs) - 2 ≡ length c.inside = omega (arith, c.count) in
        let inside : between_quotes (quote ∷ bs) ≡ c.inside = ap₂ (λ m cs. take m cs) count c.are ∙ take-append_seam c.inside (quote ∷ c.after) in
        alone c.inside c.after c.are c.count (unescaped 1 c.inside) refl (ap (λ cs. text_kind (unescaped 1 cs)) (sym inside) ∙ is) c.text

-- ---- tokens

-- a token is written so
token_written : (text : List ℕ) (kind : TokenKind) → is_formed text ≡ true → kind_of text ≡ Ok kind → Written kind text
token_written [] kind formed is = absurd (true≢false (sym formed))
token_written (b ∷ bs) kind formed is = by (is_letter b) refl (is_digit b) refl (b == 36) refl (is_quote b) refl formed is
  where
    dollar : (bs : List ℕ) → is_word bs ≡ true → T.Dollar bs ≡ kind → Written kind (36 ∷ bs)
    dollar [] formed is = absurd (cc)
    dollar (c ∷ cs) formed is = let both = and_parts (is_letter c) (list_all is_word_byte cs) formed in rw (← is) (written.dollar c cs both.0 both.1)

    symbol : (o : Option Symbol) → symbol_of (b ∷ bs) ≡ o → kind_in (option_map (λ s. Ok (T.Symbol s)) o) ≡ Ok kind → Written kind (b ∷ bs)
    symbol None e is = absurd (cc)
    symbol (Some s) e is = let same : T.Symbol s ≡ kind = cc in rw (← same, ← symbol_of-text (b ∷ bs) s e) (written.symbol s)

    by : (letter : Bool) → is_letter b ≡ letter → (digit : Bool) → is_digit b ≡ digit → (cash : Bool) → (b == 36) ≡ cash → (quote : Bool) → is_quote b ≡ quote
        → is_formed (b ∷ bs) ≡ true → kind_of (b ∷ bs) ≡ Ok kind → Written kind (b ∷ bs)
    by true l digit d cash c quote q formed is =
        let words = sym (form_tested (λ word. Ok (word_kind word (keyword_of word))) (list_all is_word_byte bs) (b ∷ bs)) ∙ (rw l at formed) in
        let same : Ok (word_kind (b ∷ bs) (keyword_of (b ∷ bs))) ≡ Ok kind = (rw (l, words) at is) in
        word_written b bs kind l words (cc)
    by false l true d cash c quote q formed is =
        let n = numbered (b ∷ bs) kind d is in
        subst₂ Written n.is n.are (written.number n.n n.ds n.letters n.k n.begun n.says n.suffix n.small)
    by false l false d true c quote q formed is =
        let words = sym (form_tested (λ word. Ok (T.Dollar word)) (is_word bs) bs) ∙ (rw (l, d, c) at formed) in
        let same : Ok (T.Dollar bs) ≡ Ok kind = (rw (l, d, c, words) at is) in
        rw (eqb-true b 36 c) (dollar bs words (cc))
    by false l false d false c true q formed is =
        let ends = sym (form_tested (λ text. text_kind (unescaped 1 (between_quotes text))) (ends_text b false bs) (b ∷ bs)) ∙ (rw (l, d, c, q) at formed) in
        text_written b bs kind q ends (rw (l, d, c, q, ends) at is)
    by false l false d false c false q formed is = symbol (symbol_of (b ∷ bs)) refl (rw (l, d, c, q) at is)

-- each token of bytes that stand at a place is written there
written_from : {at : ℕ} {bs : List ℕ} {ts : List Token} → Cut at bs ts → (bytes : List ℕ) → bs ≡ drop at bytes → All (λ t. Written t.kind (own_bytes bytes t)) ts
written_from (done at) bytes here = All-nil (λ t. Written t.kind (own_bytes bytes t))
written_from (gap at text rest ts g c) bytes here = written_from c bytes (behind at text rest bytes here)
written_from (token at kind text rest ts t c) bytes here =
    let count : at + length text - at ≡ length text = omega arith in
    All-cons (λ t. Written t.kind (own_bytes bytes t)) (record { kind = kind; start = at; end = at + length text }) ts
    (rw (count, ← here, take-append_seam text rest) (token_written text kind t.formed t.is))
    (written_from c bytes (behind at text rest bytes here))

-- each token of a program is written in its own bytes
pub written_law : WrittenLaw
written_law bytes ts e = written_from (cut_law bytes ts e).0 bytes refl
