-- What is written as a token of a kind is that token.
use Rattle.std.proofs.Common.{◌≡◌, ◌∙◌, ℕ, suc, ◌+◌, ◌-◌, ◌==◌, ◌||◌, Bool, true, false, List, [], ◌∷◌, ◌++◌, length, take, Option, Some, None, Result, Ok, refl, ap, ap₂, arith, append-nil, length-append, zero-add}
use Rattle.std.proofs.Math.Seq.{take-append_seam}
use Rattle.std.proofs.lemmas.Bool.{and_right, eqb-true, eq-eqb, ne_eqb}
use Rattle.spl_value.specs.declared.types.IntKind.{IntKind}
use Rattle.spl_value.specs.declared.types.IntKind.TheVariants.{I8}
use Rattle.spl_value.specs.Decimal.{is_digit}
use Rattle.spl_tree.specs.declared.keyword.Keyword.{Keyword}
use Rattle.spl_tree.specs.declared.keyword.Keyword.TheVariants as K
use Rattle.spl_tree.specs.declared.keyword.LeftOut.{LeftOut}
use Rattle.spl_tree.specs.declared.keyword.LeftOut.TheVariants as L
use Rattle.spl_tree.specs.declared.symbol.Symbol.{Symbol}
use Rattle.spl_tree.specs.declared.symbol.Symbol.TheVariants as S
use Rattle.spl_tree.specs.declared.token.TokenKind.{TokenKind}
use Rattle.spl_tree.specs.declared.token.TokenKind.TheVariants as T
use Rattle.spl_tree.specs.Bytes.{is_quote, begins}
use Rattle.spl_tree.specs.Words.{symbol_text, keyword_word, keyword_of}
use Rattle.spl_tree.specs.Tokens.{Refusal, word_kind, is_formed, kind_of, ends_text, escape, onto, onto_escape, unescaped, between_quotes, text_kind}
use Rattle.spl_tree.specs.Laws.{IsToken, done, token}
use Rattle.spl_tree.proofs.CutLaws.{one_cut_law}
use Rattle.spl_tree.proofs.TokenLaws.{form_tested}
use Rattle.lexical_laws.specs.Written as written
use Rattle.lexical_laws.specs.Written.{Escapes, double_quote, single_quote, backslash, line_feed, tab, carriage_return, Means, Written, TokenLaw}
use Rattle.spl_lexer.proofs.Escapes.{unescaped_plain}
use Rattle.lexical_laws.proofs.Numbers.{number_token}
use Rattle.lexical_laws.proofs.Writing.{keyword_of-word}

-- bytes that have the form of a token, and are that one
abbrev IsOne : TokenKind → List ℕ → Type 0
IsOne kind text = (is_formed text ≡ true) × (kind_of text ≡ Ok kind)

-- the words of whole numbers, and those of what is left out
kind_one : (k : IntKind) → IsOne (T.Keyword (K.Int k)) (keyword_word (K.Int k))
kind_one I8 = (refl, refl)
kind_one _ = (refl, refl)

left_out_one : (w : LeftOut) → IsOne (T.Keyword (K.LeftOut w)) (keyword_word (K.LeftOut w))
left_out_one L.Float32 = (refl, refl)
left_out_one _ = (refl, refl)

-- each reserved word
reserved_one : (k : Keyword) → IsOne (T.Keyword k) (keyword_word k)
reserved_one (K.Int k) = kind_one k
reserved_one (K.LeftOut w) = left_out_one w
reserved_one _ = (refl, refl)

-- each symbol
symbol_one : (s : Symbol) → IsOne (T.Symbol s) (symbol_text s)
symbol_one S.LeftParen = (refl, refl)
symbol_one _ = (refl, refl)

-- an escape is found, and its second byte is no line feed
escape_found : {c b : ℕ} → Escapes c b → (escape c ≡ Some b) × ((c == 10) ≡ false)
escape_found double_quote = (refl, refl)
escape_found single_quote = (refl, refl)
escape_found backslash = (refl, refl)
escape_found line_feed = (refl, refl)
escape_found tab = (refl, refl)
escape_found carriage_return = (refl, refl)

module _ (quote : ℕ) (feed : (quote == 10) ≡ false) (slash : (92 == quote) ≡ false) where
  -- the bytes of a text end at its quote
  text_ends : {inside bytes : List ℕ} → Means quote inside bytes → ends_text quote false (inside ++ quote ∷ []) ≡ true
  text_ends written.nothing = rw (feed, eq-eqb quote quote refl) refl
  text_ends (written.plain b bs cs p d) = rw (ne_eqb b 10 p.feed, ne_eqb b quote p.other, ne_eqb b 92 p.backslash) (text_ends d)
  text_ends (written.escape c b bs cs e d) = rw (slash, (escape_found e).1) (text_ends d)

  -- and unescaping gives the bytes that they mean
  text_means : {inside bytes : List ℕ} → Means quote inside bytes → (at : ℕ) → unescaped at inside ≡ Ok bytes
  text_means written.nothing at = refl
  text_means (written.plain b bs cs p d) at = unescaped_plain at b bs (ne_eqb b 92 p.backslash) ∙ ap (onto b) (text_means d (at + 1))
  text_means (written.escape c b bs cs e d) at = ap₂ (λ o r. onto_escape at o r) (escape_found e).0 (text_means d (at + 2))

-- what stands between the quotes
between : (quote : ℕ) (inside : List ℕ) → between_quotes (quote ∷ (inside ++ quote ∷ [])) ≡ inside
between quote inside =
    let count : suc (length (inside ++ quote ∷ [])) - 2 ≡ length inside = omega (arith, length-append inside (quote ∷ [])) in
    ap (λ n. take n (inside ++ quote ∷ [])) count ∙ take-append_seam inside (quote ∷ [])

-- what bytes that end with their quote are
abbrev text : List ℕ → Result TokenKind Refusal
text bs = text_kind (unescaped 1 (between_quotes bs))

text_one : (quote : ℕ) (inside bytes : List ℕ) → is_quote quote ≡ true → Means quote inside bytes → IsOne (T.Text bytes) (quote ∷ (inside ++ quote ∷ []))
text_one quote inside bytes quotes d = by (quote == 34) refl (quote == 39) refl quotes
  where
    double : (inside : List ℕ) → Means 34 inside bytes → IsOne (T.Text bytes) (34 ∷ (inside ++ 34 ∷ []))
    double inside d =
        let ends = text_ends 34 refl refl d in (
          form_tested text (ends_text 34 false (inside ++ 34 ∷ [])) (34 ∷ (inside ++ 34 ∷ [])) ∙ ends,
          rw ends (ap (λ cs. text_kind (unescaped 1 cs)) (between 34 inside) ∙ ap text_kind (text_means 34 refl refl d 1)),
        )

    single : (inside : List ℕ) → Means 39 inside bytes → IsOne (T.Text bytes) (39 ∷ (inside ++ 39 ∷ []))
    single inside d =
        let ends = text_ends 39 refl refl d in (
          form_tested text (ends_text 39 false (inside ++ 39 ∷ [])) (39 ∷ (inside ++ 39 ∷ [])) ∙ ends,
          rw ends (ap (λ cs. text_kind (unescaped 1 cs)) (between 39 inside) ∙ ap text_kind (text_means 39 refl refl d 1)),
        )

    by : (p : Bool) → (quote == 34) ≡ p → (q : Bool) → (quote == 39) ≡ q → (p || q) ≡ true → IsOne (T.Text bytes) (quote ∷ (inside ++ quote ∷ []))
    by true e q f h = let same = eqb-true quote 34 e in rw same (double inside (rw same at d))
    by false e true f h = let same = eqb-true quote 39 f in rw same (single inside (rw same at d))
    by false e false f h = absurd (cc)

-- what is written so is that token
written_one : {kind : TokenKind} {text : List ℕ} → Written kind text → IsOne kind text
written_one (written.word b bs letter words none) = by (keyword_of (b ∷ bs)) refl
  where
    by : (o : Option Keyword) → keyword_of (b ∷ bs) ≡ o → IsOne (T.Word (b ∷ bs)) (b ∷ bs)
    by None e = (rw (letter, words) refl, rw (letter, words) (ap (λ o. Ok (word_kind (b ∷ bs) o)) e))
    by (Some k) e = absurd (none k (keyword_of-word (b ∷ bs) k e))
written_one (written.reserved k) = reserved_one k
written_one (written.dollar b bs letter words) = (rw (letter, words) refl, rw (letter, words) refl)
written_one (written.number n ds letters k h d s small) = let t = number_token n ds letters k h d s small [] refl in (t.formed, t.is)
written_one (written.text quote inside bytes quotes d) = text_one quote inside bytes quotes d
written_one (written.symbol s) = symbol_one s

pub token_law : TokenLaw
token_law kind text short w =
    let one = written_one w in
    let t : IsToken kind text [] = record {
      formed = one.0;
      longest = λ n some none. absurd (omega arith);
      apart = and_right (begins is_digit text) false refl;
      no_comment = λ e. refl;
      is = one.1;
    } in
    let c = token 0 kind text [] [] t (done (0 + length text)) in
    one_cut_law text (record { kind = kind; start = 0; end = length text } ∷ []) short (rw (append-nil, zero-add) at c)
