-- Bytes with which no token begins.
use Rattle.std.proofs.Common.{◌≡◌, ◌∙◌, ℕ, ◌==◌, ◌&&◌, Bool, true, false, cond, List, [], ◌∷◌, ◌++◌, length, Option, Some, None, refl, sym, ap, arith}
use Rattle.std.specs.Prelude.{nat_le}
use Rattle.std.specs.List.{find}
use Rattle.std.specs.Str.{bytes_eq}
use Rattle.std.proofs.lemmas.Bool.{and_parts, eqb-true, leb-true, false_from_ne_true}
use Rattle.std.proofs.lemmas.Slice.Eq.{bytes_eq-Decides}
use Rattle.spl_value.specs.Decimal.{is_digit}
use Rattle.spl_tree.specs.declared.symbol.Symbol.{Symbol}
use Rattle.spl_tree.specs.declared.symbol.Symbol.TheVariants as S
use Rattle.spl_tree.specs.declared.token.LexicalError.{LexicalError}
use Rattle.spl_tree.specs.declared.token.LexicalError.TheVariants as E
use Rattle.spl_tree.specs.Bytes.{is_blank, is_letter, is_quote, begins}
use Rattle.spl_tree.specs.Words.{symbols, symbol_text, symbol_of}
use Rattle.spl_tree.specs.Tokens.{Refuse, front}
use Rattle.spl_tree.proofs.WordLaws.{symbols_law}
use Rattle.spl_lexer.specs.steps.Scanning.{double_of, symbol_ahead, single_ahead}
use Rattle.spl_lexer.proofs.Fronts.{symbol_front}
use Rattle.lexical_laws.specs.Refusals.{other, Shows, bad_byte}

-- no symbol's text is at the front
abbrev NoSymbol : List ℕ → Type 0
NoSymbol bs = (s : Symbol) (rest : List ℕ) → bs ≡ symbol_text s ++ rest → ⊥

-- what is found passes
pub find_passes : {X : Type 0} (p : X → Bool) (xs : List X) (x : X) → find p xs ≡ Some x → p x ≡ true
find_passes p [] x e = absurd (cc)
find_passes p (y ∷ xs) x e = by (p y) refl (find_passes p xs x) e
  where
    by : (t : Bool) → p y ≡ t → (find p xs ≡ Some x → p x ≡ true) → cond t (Some y) (find p xs) ≡ Some x → p x ≡ true
    by true passes later e = let same : y ≡ x = cc in ap p (sym same) ∙ passes
    by false passes later e = later e

-- the symbol of bytes has them for its text
pub symbol_of-text : (bs : List ℕ) (s : Symbol) → symbol_of bs ≡ Some s → symbol_text s ≡ bs
symbol_of-text bs s e = (bytes_eq-Decides (symbol_text s) bs).0 (find_passes (λ s. bytes_eq (symbol_text s) bs) symbols s e)

-- a symbol has one byte or two
sized : (s : Symbol) → (nat_le 1 (length (symbol_text s)) && nat_le (length (symbol_text s)) 2) ≡ true
sized S.LeftParen = refl
sized _ = refl

module _ (b : ℕ) (bs : List ℕ) where
  -- where neither the first byte nor the first two are a symbol, none is at the front
  no_symbol : double_of (b ∷ bs) ≡ None → symbol_of (b ∷ []) ≡ None → NoSymbol (b ∷ bs)
  no_symbol double single s rest are = by (symbol_text s) refl (sized s) are
    where
      by : (text : List ℕ) → symbol_text s ≡ text → (nat_le 1 (length text) && nat_le (length text) 2) ≡ true → b ∷ bs ≡ text ++ rest → ⊥
      by [] is size are = absurd (cc)
      by (x ∷ []) is size are =
          let first : x ≡ b = cc in
          let found : symbol_of (b ∷ []) ≡ Some s = ap (λ c. symbol_of (c ∷ [])) (sym first) ∙ ap symbol_of (sym is) ∙ symbols_law s in
          cc
      by (x ∷ y ∷ []) is size are =
          let found : double_of (b ∷ bs) ≡ Some s = ap double_of are ∙ ap symbol_of (sym is) ∙ symbols_law s in
          cc
      by (x ∷ y ∷ z ∷ more) is size are =
          let both = and_parts (nat_le 1 (length (x ∷ y ∷ z ∷ more))) (nat_le (length (x ∷ y ∷ z ∷ more)) 2) size in
          omega (arith, leb-true (length (x ∷ y ∷ z ∷ more)) 2 both.1)

  -- and the other way round
  no_double : NoSymbol (b ∷ bs) → double_of (b ∷ bs) ≡ None
  no_double none = by bs refl
    where
      found : (c : ℕ) (cs : List ℕ) → bs ≡ c ∷ cs → (o : Option Symbol) → symbol_of (b ∷ c ∷ []) ≡ o → o ≡ None
      found c cs is None e = refl
      found c cs is (Some s) e = absurd (none s cs (ap (λ xs. b ∷ xs) is ∙ ap (λ text. text ++ cs) (sym (symbol_of-text (b ∷ c ∷ []) s e))))

      by : (xs : List ℕ) → bs ≡ xs → double_of (b ∷ xs) ≡ None
      by [] is = refl
      by (c ∷ cs) is = found c cs is (symbol_of (b ∷ c ∷ [])) refl

  no_single : NoSymbol (b ∷ bs) → symbol_of (b ∷ []) ≡ None
  no_single none = found (symbol_of (b ∷ [])) refl
    where
      found : (o : Option Symbol) → symbol_of (b ∷ []) ≡ o → o ≡ None
      found None e = refl
      found (Some s) e = absurd (none s bs (ap (λ text. text ++ bs) (sym (symbol_of-text (b ∷ []) s e))))

  module _ (blank : is_blank b ≡ false) (letter : is_letter b ≡ false) (digit : is_digit b ≡ false) (quote : is_quote b ≡ false) (dollar : b ≡ 36 → ⊥) where
    no_dollar : (b == 36) ≡ false
    no_dollar = false_from_ne_true (b == 36) (λ e. dollar (eqb-true b 36 e))

    -- a byte that is refused begins no symbol
    pub symbol_shows : ((b == 47) && begins (λ c. c == 47) bs) ≡ false → ((b == 47) && begins (λ c. c == 42) bs) ≡ false
        → (e : LexicalError) (i : ℕ) → front (b ∷ bs) ≡ Refuse e i → Shows (b ∷ bs) e i
    symbol_shows line comment e i r = by (double_of (b ∷ bs)) refl (sym (symbol_front b bs blank letter digit no_dollar quote line comment) ∙ r)
      where
        single : double_of (b ∷ bs) ≡ None → (o : Option Symbol) → symbol_of (b ∷ []) ≡ o → single_ahead o ≡ Refuse e i → Shows (b ∷ bs) e i
        single double None none r =
            let why : E.BadByte ≡ e = cc in
            let place : 0 ≡ i = cc in
            rw (← why, ← place) (bad_byte (b ∷ bs) (other b bs blank letter digit quote dollar (no_symbol double none)))
        single double (Some s) some r = absurd (cc)

        by : (o : Option Symbol) → double_of (b ∷ bs) ≡ o → symbol_ahead (b ∷ bs) o ≡ Refuse e i → Shows (b ∷ bs) e i
        by None double r = single double (symbol_of (b ∷ [])) refl r
        by (Some s) double r = absurd (cc)

    -- a byte that begins no symbol is refused
    pub symbol_refused : NoSymbol (b ∷ bs) → front (b ∷ bs) ≡ Refuse E.BadByte 0
    symbol_refused none =
        symbol_front b bs blank letter digit no_dollar quote (no_slash (begins (λ c. c == 47) bs)) (no_slash (begins (λ c. c == 42) bs)) ∙ ap (symbol_ahead (b ∷ bs)) (no_double none) ∙ ap single_ahead (no_single none)
      where
        slash : (b == 47) ≡ false
        slash = false_from_ne_true (b == 47) (λ e. none S.Slash bs (ap (λ c. c ∷ bs) (eqb-true b 47 e)))

        no_slash : (t : Bool) → ((b == 47) && t) ≡ false
        no_slash t = rw slash refl
